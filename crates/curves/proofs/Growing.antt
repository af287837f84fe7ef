-- The lengths of the handbook grow with the stress, the share and the diameter. Assumes nothing.
use Rattle.std.proofs.Common.{◌≡◌, ℕ, ◌*◌, ◌≤◌, min, Bool, true, cond, ◌&&◌, T, eqb, leb, List, [], ◌∷◌, is_ok, refl, ap, subst, le_refl, arith}
use Rattle.std.proofs.lemmas.Bool.{and_parts, leb-true, le-leb}
use Rattle.eurocode.specs.declared.Situation.TheVariants.{Persistent}
use Rattle.eurocode.specs.Tables.{diameters, strengths, tabled}
use Rattle.eurocode.proofs.Tabled as tables
use Rattle.eurocode.proofs.Rising.{diameter_within, area_rises}
use Rattle.annex.specs.Numbers.{fields_of, recommended}
use Rattle.annex.specs.Laws as laws
use Rattle.annex.specs.Keeping.{ranged_decides, recommended_ranged}
use Rattle.anchorage.specs.Bonds.{bond_number}
use Rattle.anchorage.specs.Lengths.{figure}
use Rattle.anchorage.specs.declared.Shape.TheVariants.{Straight}
use Rattle.anchorage.proofs.Asking.{Longer}
use Rattle.anchorage.proofs.Rising.{figure_mono}
use Rattle.checklist.specs.Firsts.{within}
use Rattle.book.specs.Fields.{tested}
use Rattle.book.proofs.Judging.{figure_passed}
use Rattle.bars.specs.Details.{detail_of, bar_of}
use Rattle.bars.specs.Tests.{in_range, agrees, borne, test_of}
use Rattle.bars.specs.Meaning.{bar_figure, bar_meaning}
use Rattle.bars.specs.Passing.{ranged}
use Rattle.anchorage.specs.declared.bonds.Bond.{Bond}
use Rattle.anchorage.specs.declared.bonds.Bond.TheVariants.{Good, Other}
use Rattle.curves.specs.declared.entries.Joint.{Joint}
use Rattle.curves.specs.declared.entries.Joint.TheVariants.{Anchorage, Lap}
use Rattle.curves.specs.Points.{kind_of, share_of, entry_line, length_at, shared, on_curve, NoLess}

keeps : laws.Ranged (fields_of recommended)
keeps = (ranged_decides (fields_of recommended)).0 recommended_ranged

all_true : List Bool
all_true = true ∷ true ∷ true ∷ true ∷ true ∷ true ∷ true ∷ true ∷ true ∷ true ∷ true ∷ true ∷ true ∷ true ∷ true ∷ true ∷ true ∷ true ∷ true ∷ true ∷ true ∷ true ∷ true ∷ []

-- a line whose fields all admit their numbers
tested_all : (fields : List Bool) (agree borne : Bool) → fields ≡ all_true → agree ≡ true → borne ≡ true → is_ok (tested fields agree borne) ≡ true
unfolding all_true
tested_all fields agree borne f a b = λ i. is_ok (tested (f i) (a i) (b i))

kind_admitted : (joint : Joint) → within 1 4 (kind_of joint) ≡ true
kind_admitted Anchorage = refl
kind_admitted (Lap share) = refl

bond_admitted : (bond : Bond) → within 1 2 (bond_number bond) ≡ true
bond_admitted Good = refl
bond_admitted Other = refl

share_admitted : (joint : Joint) → shared joint ≡ true → leb (share_of joint) 100 ≡ true
share_admitted Anchorage e = refl
share_admitted (Lap share) e = (and_parts (leb 1 share) (leb share 100) e).1

lap_agrees_lem : (joint : Joint) → shared joint ≡ true → cond (leb (kind_of joint) 2) (eqb (share_of joint) 0 && true) (leb 1 (share_of joint) && true) ≡ true
lap_agrees_lem Anchorage e = refl
lap_agrees_lem (Lap share) e = ap (λ b. b && true) (and_parts (leb 1 share) (leb share 100) e).0

-- the line of every point passes its test
module _ (joint : Joint) (φ fck : ℕ) (bond : Bond) (stress : ℕ) (tφ : T (tabled φ diameters)) (tf : T (tabled fck strengths)) (on : on_curve joint stress ≡ true) where
  few : stress ≤ 4347
  few = leb-true stress 4347 (and_parts (leb stress 4347) (shared joint) on).0

  admitted_all : in_range (entry_line joint φ fck bond stress) ≡ all_true
  unfolding in_range tabled all_true
  admitted_all =
      let thick = (diameter_within φ tφ).1 in
      let stress-admitted = le-leb stress 6000 (omega (arith, few)) in
      let gap-admitted = le-leb (2 * φ) 1000 (omega arith) in
      let cover-admitted = le-leb φ 1000 (omega arith) in
      let lapped = share_admitted joint (and_parts (leb stress 4347) (shared joint) on).1 in
      λ i. kind_admitted joint i ∷ tables.truth (tabled φ diameters) tφ i ∷ tables.truth (tabled fck strengths) tf i ∷ true ∷ stress-admitted i ∷ bond_admitted bond i ∷ true ∷ gap-admitted i ∷ cover-admitted i ∷ cover-admitted i ∷ true ∷ true ∷ true ∷ true ∷ true ∷ lapped i ∷ true ∷ true ∷ true ∷ true ∷ true ∷ true ∷ true ∷ []

  pub on_passes : is_ok (test_of recommended Persistent (entry_line joint φ fck bond stress)) ≡ true
  on_passes =
      tested_all (in_range (entry_line joint φ fck bond stress)) (agrees (entry_line joint φ fck bond stress)) (borne recommended Persistent (entry_line joint φ fck bond stress)) admitted_all
      (lap_agrees_lem joint (and_parts (leb stress 4347) (shared joint) on).1) (le-leb (stress * 115) (1000 * 500) (omega (arith, few)))

  -- so its length is that of the formulas
  length_is : length_at joint φ fck bond stress ≡ figure (detail_of (entry_line joint φ fck bond stress)) (bar_of recommended Persistent (entry_line joint φ fck bond stress))
  unfolding length_at bar_figure
  length_is = figure_passed (bar_meaning recommended) Persistent (entry_line joint φ fck bond stress) on_passes

-- the cover is one diameter
cover_order : (φ φ' : ℕ) → min (2 * φ') (min (2 * φ') (2 * φ')) * φ ≤ min (2 * φ) (min (2 * φ) (2 * φ)) * φ'
cover_order φ φ' =
    let e : min (2 * φ) (min (2 * φ) (2 * φ)) ≡ 2 * φ = omega arith in
    let e' : min (2 * φ') (min (2 * φ') (2 * φ')) ≡ 2 * φ' = omega arith in
    rw (e, e') (omega arith)

module _ (joint more : Joint) (φ φ' fck : ℕ) (bond : Bond) (stress σ : ℕ) (tφ : T (tabled φ diameters)) (tφ' : T (tabled φ' diameters)) (tf : T (tabled fck strengths)) (j : NoLess more joint) (d : φ ≤ φ') (h : stress ≤ σ) where
  longer : Longer Straight (bar_of recommended Persistent (entry_line more φ' fck bond σ)) (bar_of recommended Persistent (entry_line joint φ fck bond stress))
  longer = record {
    dia = d;
    area = area_rises.weak φ φ' tφ tφ' d;
    stress = h;
    fctk = le_refl _;
    fyk = le_refl _;
    gc = le_refl _;
    gs = le_refl _;
    act = le_refl _;
    bond = le_refl _;
    cover = cover_order φ φ';
    trans = le_refl _;
    eff = le_refl _;
    weld = le_refl _;
    press = le_refl _;
    share = j.share;
  }

  same_detail : detail_of (entry_line more φ' fck bond σ) ≡ detail_of (entry_line joint φ fck bond stress)
  same_detail = let k = j.kind in cc

  pub grows : on_curve joint stress ≡ true → on_curve more σ ≡ true → length_at joint φ fck bond stress ≤ length_at more φ' fck bond σ
  grows on on' =
      let q = entry_line joint φ fck bond stress in
      let p = entry_line more φ' fck bond σ in
      let P = bar_of recommended Persistent p in
      let Q = bar_of recommended Persistent q in
      let mono : figure (detail_of p) Q ≤ figure (detail_of p) P = figure_mono (detail_of p) longer (ranged recommended Persistent p (on_passes more φ' fck bond σ tφ' tf on') keeps) (ranged recommended Persistent q (on_passes joint φ fck bond stress tφ tf on) keeps) in
      let step : figure (detail_of q) Q ≤ figure (detail_of p) P = subst (λ k. figure k Q ≤ figure (detail_of p) P) same_detail mono in
      omega (arith, step, length_is joint φ fck bond stress tφ tf on, length_is more φ' fck bond σ tφ' tf on')
