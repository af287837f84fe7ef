-- What a line that passes its test keeps to. Assumes nothing.
use Rattle.std.specs.Prelude.{◌≡◌, ℕ, ◌<◌, ◌≤◌, Bool, true, false, cond, ◌&&◌, T, [], ◌∷◌, IfSome, is_ok, is_err, Some, None, Ok, Err, Option, Result, nat_le, refl}
use Rattle.std.proofs.Common.{sym, ap, subst, ◌∙◌, arith, lit<}
use Rattle.std.proofs.lemmas.Bool.{and_parts, and_from, leb-true, both_ways}
use Rattle.std.proofs.lemmas.Bool.Decides.{nat_tests}
use Rattle.eurocode.specs.declared.Situation.{Situation}
use Rattle.eurocode.specs.Tables.{diameters, strengths, tabled}
use Rattle.eurocode.proofs.Rising.{diameter_within, area_within, strength_within, fctk_within}
use Rattle.annex.specs.declared.numbers.Numbers.{Numbers}
use Rattle.annex.specs.Numbers.{fields_of}
use Rattle.annex.specs.Laws as laws
use Rattle.annex.proofs.Answering.{gc_within, gs_within, act_within, acc_within, k1_within, k2_within, multiple_within}
use Rattle.anchorage.specs.declared.Bar.{Bar}
use Rattle.anchorage.specs.Ranges.{Ranged}
use Rattle.checklist.specs.Firsts.{test_at, within}
use Rattle.book.proofs.Testing.{passed}
use Rattle.bars.specs.declared.lines.BarLine.{BarLine}
use Rattle.bars.specs.Details.{bar_of}
use Rattle.bars.specs.Tests.{in_range, agrees, borne, test_of}

-- the number of a field with a range
least : (lo hi x : ℕ) → within lo hi x ≡ true → lo ≤ x
least lo hi x e = leb-true lo x (and_parts (nat_le lo x) (nat_le x hi) e).0

most : (lo hi x : ℕ) → within lo hi x ≡ true → x ≤ hi
most lo hi x e = leb-true x hi (and_parts (nat_le lo x) (nat_le x hi) e).1

pub truth : {b : Bool} → b ≡ true → T b
truth e = subst T (sym e) tt

-- of the listed ones
eff_most : (x : ℕ) → tabled x (0 ∷ 5 ∷ 10 ∷ []) ≡ true → x ≤ 10
unfolding tabled
eff_most x e = grind (arith, nat_tests)

weld_most : (x : ℕ) → tabled x (0 ∷ diameters) ≡ true → x ≤ 40
unfolding tabled
weld_most x e = grind (arith, nat_tests, thick)
  where
    thick : tabled x diameters ≡ true → x ≤ 40
    thick t = (diameter_within x (truth t)).1

module _ (n : Numbers) (s : Situation) (l : BarLine) (e : is_ok (test_of n s l) ≡ true) where
  pub agreed : agrees l ≡ true
  agreed = (passed (in_range l) (agrees l) (borne n s l) e).1

  admits_at : (i : ℕ) → i < 23 → test_at (in_range l) i ≡ true
  unfolding in_range
  admits_at i h = (passed (in_range l) (agrees l) (borne n s l) e).0 i (omega arith) (omega arith)

  pub dia_tabled : tabled l.dia diameters ≡ true
  unfolding in_range
  dia_tabled = admits_at 1 (lit< tt)

  pub fck_tabled : tabled l.fck strengths ≡ true
  unfolding in_range
  fck_tabled = admits_at 2 (lit< tt)

  pub bond_most : l.bond ≤ 2
  unfolding in_range
  bond_most = most 1 2 l.bond (admits_at 5 (lit< tt))

  pub form_most : l.form ≤ 1
  unfolding in_range
  form_most = leb-true l.form 1 (admits_at 18 (lit< tt))

  pub ranged : laws.Ranged (fields_of n) → Ranged (bar_of n s l)
  unfolding in_range
  ranged r =
      let φ = truth dia_tabled in
      let f = truth fck_tabled in
      record {
        dia_low = (diameter_within l.dia φ).0;
        dia_high = (diameter_within l.dia φ).1;
        area_low = (area_within l.dia φ).0;
        area_high = (area_within l.dia φ).1;
        fck_low = (strength_within l.fck f).0;
        fck_high = (strength_within l.fck f).1;
        fctk_low = (fctk_within l.fck f).0;
        fctk_high = (fctk_within l.fck f).1;
        fyk_low = least 400 600 l.fyk (admits_at 3 (lit< tt));
        fyk_high = most 400 600 l.fyk (admits_at 3 (lit< tt));
        stress_high = leb-true l.stress 6000 (admits_at 4 (lit< tt));
        gap_high = leb-true l.gap 1000 (admits_at 7 (lit< tt));
        side_high = leb-true l.side 1000 (admits_at 8 (lit< tt));
        cover_high = leb-true l.cover 1000 (admits_at 9 (lit< tt));
        trans_high = leb-true l.trans 500000 (admits_at 10 (lit< tt));
        eff_high = eff_most l.eff (admits_at 11 (lit< tt));
        weld_high = weld_most l.weld (admits_at 13 (lit< tt));
        press_high = leb-true l.press 200 (admits_at 14 (lit< tt));
        share_high = leb-true l.share 100 (admits_at 15 (lit< tt));
        apart_high = leb-true l.apart 1000 (admits_at 17 (lit< tt));
        agg_high = most 4 63 l.agg (admits_at 19 (lit< tt));
        mandrel_high = leb-true l.mandrel 2000 (admits_at 20 (lit< tt));
        pitch_high = leb-true l.pitch 2000 (admits_at 21 (lit< tt));
        gc_low = (gc_within n r s).0;
        gc_high = (gc_within n r s).1;
        gs_high = (gs_within n r s).1;
        act_low = (act_within n r).0;
        act_high = (act_within n r).1;
        acc_low = (acc_within n r).0;
        acc_high = (acc_within n r).1;
        k1_high = (k1_within n r).1;
        k2_high = k2_within n r;
        multiple_high = (multiple_within n r l.dia φ).1;
      }

-- a test that was not refused
pub not_refused : {E : Type 0} (r : Result (Unit {0}) E) → is_err r ≡ false → is_ok r ≡ true
not_refused (Ok _) e = refl
not_refused (Err f) e = absurd (both_ways true e refl)

-- so the bar of a line that passes is there, and in its ranges
module _ (n : Numbers) (keeps : laws.Ranged (fields_of n)) (s : Situation) (l : BarLine) (o : Option Bar) where
  pub bar_is : is_ok (test_of n s l) ≡ true → o ≡ cond (tabled l.dia diameters && tabled l.fck strengths) (Some (bar_of n s l)) None → (o ≡ cond (is_ok (test_of n s l)) (Some (bar_of n s l)) None) × IfSome o Ranged
  bar_is e is =
      let both : (tabled l.dia diameters && tabled l.fck strengths) ≡ true = and_from _ _ (dia_tabled n s l e) (fck_tabled n s l e) in
      let some = is ∙ ap (λ b. cond b (Some (bar_of n s l)) None) both in
      (some ∙ ap (λ b. cond b (Some (bar_of n s l)) None) (sym e), subst (λ o. IfSome o Ranged) (sym some) (ranged n s l e keeps))
