-- The two laws of the bar book, the second over two annexes and two situations. Assumes nothing.
use Rattle.std.specs.Prelude.{◌≡◌, ℕ, zero, suc, ◌≤◌, true, false, T, is_ok, slice_index_or}
use Rattle.std.proofs.Math.Path.{refl, subst}
use Rattle.std.proofs.Common.{le_refl, mul-le-mul_left, arith}
use Rattle.std.proofs.Math.Nat.{le_trans, mul-le-mul}
use Rattle.std.proofs.lemmas.Bool.Decides.{nat_tests}
use Rattle.eurocode.specs.declared.Situation.{Situation}
use Rattle.eurocode.specs.Tables.{diameters, tabled}
use Rattle.eurocode.proofs.Rising.{area_rises, slender_rises, fctk_rises}
use Rattle.annex.specs.declared.numbers.Numbers.{Numbers}
use Rattle.annex.specs.Numbers.{fields_of, gc_of, gs_of, multiple_of}
use Rattle.annex.specs.Laws as laws
use Rattle.annex.proofs.Answering.{multiple_rises}
use Rattle.anchorage.specs.declared.Bar.{Bar}
use Rattle.anchorage.specs.declared.Shape.{Shape}
use Rattle.anchorage.specs.declared.Shape.TheVariants.{Straight, Bent, Loop}
use Rattle.anchorage.specs.Lengths.{bond_quality, twice_cd, figure}
use Rattle.anchorage.specs.Rules.{straight, several, linked, rules}
use Rattle.anchorage.proofs.Asking.{Stricter}
use Rattle.anchorage.proofs.Rising.{figure_mono}
use Rattle.anchorage.proofs.Bounds.{figure_near}
use Rattle.anchorage.proofs.Meeting.{rules_kept}
use Rattle.book.specs.Meaning.{Above, Ordered, NearLaw, OrderLaw}
use Rattle.book.proofs.Testing.{passes_on}
use Rattle.bars.specs.declared.lines.BarLine.{BarLine}
use Rattle.bars.specs.Details.{bond_of, layers_of, ties_of, detail_of, bar_of}
use Rattle.bars.specs.Tests.{in_range, agrees, borne, test_of}
use Rattle.bars.specs.Meaning.{AsksNoLess, bar_figure, bar_exact, bar_meets, bar_meaning}
use Rattle.bars.specs.Passing.{truth, agreed, dia_tabled, fck_tabled, form_most, ranged}

-- the first law
pub near_law : (n : Numbers) → laws.Ranged (fields_of n) → NearLaw (bar_meaning n)
unfolding bar_figure bar_exact
near_law n r s l e = figure_near (detail_of l) (bar_of n s l) (ranged n s l e r)

-- the numbers of annex m in the situation s ask no less than those of n in t
pub record Harsher (m : Numbers) (s : Situation) (n : Numbers) (t : Situation) : Type 0 where
  pub gc : gc_of n t ≤ gc_of m s
  pub gs : gs_of n t ≤ gs_of m s
  pub act : m.act ≤ n.act
  pub acc : m.acc ≤ n.acc
  pub k1 : n.k1 ≤ m.k1
  pub k2 : n.k2 ≤ m.k2
  pub multiples : (φ : ℕ) → T (tabled φ diameters) → multiple_of n φ ≤ multiple_of m φ

pub as_harsh : (n : Numbers) (s : Situation) → Harsher n s n s
as_harsh n s = record { gc = le_refl _; gs = le_refl _; act = le_refl _; acc = le_refl _; k1 = le_refl _; k2 = le_refl _; multiples = λ φ _. le_refl _ }

cover_order : (shape : Shape) (p q : Bar) → p.gap ≤ q.gap → p.side ≤ q.side → p.cover ≤ q.cover → twice_cd shape p ≤ twice_cd shape q
cover_order Straight p q g s c = omega arith
cover_order Bent p q g s c = omega arith
cover_order Loop p q g s c = omega arith

bond_order : (m n : ℕ) → n ≤ m → bond_quality (bond_of m) ≤ bond_quality (bond_of n)
bond_order m n h = grind (arith, nat_tests)

layers_order : (m n : ℕ) → n ≤ m → several (layers_of n) ≡ true → several (layers_of m) ≡ true
layers_order m n h e = grind (arith, nat_tests)

ties_order : (m n : ℕ) → m ≤ n → n ≤ 1 → linked (ties_of m) ≡ true → linked (ties_of n) ≡ true
ties_order m n h few e = grind (arith, nat_tests)

same_detail : (p q : BarLine) → AsksNoLess p q → detail_of p ≡ detail_of q
same_detail p q a = cc (a.kind, a.member, a.shape)

pitched : (l : BarLine) → agrees l ≡ true → straight (detail_of l).shape ≡ false → 1 ≤ l.pitch
pitched l e f = grind (arith, nat_tests)

-- of two lines that pass, each by the numbers of an annex and in a situation
module _ (m n : Numbers) (rm : laws.Ranged (fields_of m)) (rn : laws.Ranged (fields_of n)) (rise : laws.Rising (fields_of m)) (s t : Situation) (h : Harsher m s n t) (p q : BarLine) (a : AsksNoLess p q) (pp : is_ok (test_of m s p) ≡ true) (pq : is_ok (test_of n t q) ≡ true) where
  P : Bar
  P = bar_of m s p

  Q : Bar
  Q = bar_of n t q

  stricter : (shape : Shape) → Stricter shape P Q
  unfolding P Q
  stricter shape =
      let φp = truth (dia_tabled m s p pp) in
      let φq = truth (dia_tabled n t q pq) in
      let fp = truth (fck_tabled m s p pp) in
      let fq = truth (fck_tabled n t q pq) in
      record {
        longer = record {
          dia = a.dia;
          area = area_rises.weak q.dia p.dia φq φp a.dia;
          stress = a.stress;
          fctk = fctk_rises.weak p.fck q.fck fp fq a.fck;
          fyk = a.fyk;
          gc = h.gc;
          gs = h.gs;
          act = h.act;
          bond = bond_order p.bond q.bond a.bond;
          cover = mul-le-mul (cover_order shape (bar_of m s p) (bar_of n t q) a.gap a.side a.cover) a.dia;
          trans = a.trans;
          eff = a.eff;
          weld = a.weld;
          press = a.press;
          share = a.share;
        };
        slender = slender_rises.weak q.dia p.dia φq φp a.dia;
        fck = a.fck;
        gap = a.gap;
        acc = h.acc;
        k1 = h.k1;
        k2 = h.k2;
        multiple = le_trans (h.multiples q.dia φq) (multiple_rises m rise q.dia p.dia φq φp a.dia);
        layers = layers_order p.layers q.layers a.layers;
        apart = a.apart;
        ties = ties_order p.form q.form a.form (form_most n t q pq);
        agg = a.agg;
        mandrel = a.mandrel;
        pitch = a.pitch;
        provided = a.provided;
      }

  figures : bar_figure n t q ≤ bar_figure m s p
  unfolding bar_figure P Q
  figures =
      subst (λ d. figure d (bar_of n t q) ≤ figure (detail_of p) (bar_of m s p)) (same_detail p q a)
      (figure_mono (detail_of p) (stricter (detail_of p).shape).longer (ranged m s p pp rm) (ranged n t q pq rn))

  kept : (r : ℕ) → bar_meets m s r p ≡ true → bar_meets n t r q ≡ true
  unfolding bar_meets P Q
  kept zero e = refl
  kept (suc r) e =
      subst (λ d. slice_index_or (rules d (bar_of n t q)) r true ≡ true) (same_detail p q a)
      (rules_kept (detail_of p) (stricter (detail_of p).shape) (ranged m s p pp rm) (ranged n t q pq rn) (pitched p (agreed m s p pp)) r e)

  pub above : Above (bar_meaning m) s p (bar_meaning n) t q
  above = record { rules = λ r _ _ e. kept r e; figures = figures }

-- lines by a harsher annex or in a harsher situation stand above
pub ordered : (m n : Numbers) → laws.Ranged (fields_of m) → laws.Ranged (fields_of n) → laws.Rising (fields_of m) → (s t : Situation) → Harsher m s n t → Ordered (bar_meaning m) s (bar_meaning n) t
ordered m n rm rn rise s t h p q a pp pq = above m n rm rn rise s t h p q a pp pq

-- the second law
pub order_law : (n : Numbers) → laws.Ranged (fields_of n) → laws.Rising (fields_of n) → OrderLaw (bar_meaning n)
order_law n r rise s = ordered n n r r rise s s (as_harsh n s)

-- a line that passes where γs is greater passes where it is less
pub passes_milder : (m n : Numbers) (s t : Situation) (l : BarLine) → gs_of n t ≤ gs_of m s → is_ok (test_of m s l) ≡ true → is_ok (test_of n t l) ≡ true
passes_milder m n s t l h e =
    let less = mul-le-mul_left l.stress h in
    let on : borne m s l ≡ true → borne n t l ≡ true = λ b. grind (arith, nat_tests) in
    passes_on (in_range l) (agrees l) (borne m s l) (borne n t l) on e
