-- The laws of an annex's numbers and their tests. Assumes nothing.
use Rattle.std.specs.Prelude.{◌≡◌, ℕ, zero, suc, ◌+◌, ◌-◌, ◌<◌, ◌≤◌, true, not, List, length, is_some, Decides, ◌==◌, nat_le, slice_index, slice_index_or, refl}
use Rattle.std.proofs.Common.{subst, arith}
use Rattle.std.proofs.lemmas.Bool.{and_parts, and_from, leb-true, le-leb, eqb-true, eq-eqb}
use Rattle.annex.specs.Numbers.{ranges, fields_of, recommended}
use Rattle.checklist.specs.Firsts.{Passes}
use Rattle.checklist.proofs.Failing.{none_decides}
use Rattle.annex.specs.Laws.{Ranged, Rising, in_range, no_fall, first_out, first_fall, is_ranged, is_rising}

-- the test of the ranges
pub ranged_decides : (ns : List ℕ) → Decides (is_ranged ns) (Ranged ns)
unfolding is_ranged first_out
ranged_decides ns = (holds, passes)
  where
    holds : is_ranged ns ≡ true → Ranged ns
    holds t =
        let parts = and_parts (length ns == 21) (not (is_some (first_out ns))) t in
        let all = (none_decides (in_range ns) 0 21).0 parts.1 in
        let both : (i : ℕ) → i < 21 → (nat_le (slice_index_or ranges i (0, 0)).0 (slice_index ns i) ≡ true) × (nat_le (slice_index ns i) (slice_index_or ranges i (0, 0)).1 ≡ true) = λ i h. and_parts _ _ (all i (omega arith) (omega arith)) in
        record { full = eqb-true (length ns) 21 parts.0; least = λ i h. leb-true _ _ (both i h).0; most = λ i h. leb-true _ _ (both i h).1 }

    passes : Ranged ns → is_ranged ns ≡ true
    passes r =
        and_from _ _ (eq-eqb (length ns) 21 r.full) ((none_decides (in_range ns) 0 21).1 (λ i a h. and_from _ _ (le-leb _ _ (r.least i (omega arith))) (le-leb _ _ (r.most i (omega arith)))))

-- the test of the multiples
pub rising_decides : (ns : List ℕ) → Decides (is_rising ns) (Rising ns)
unfolding is_rising first_fall
rising_decides ns = (holds, passes)
  where
    climbs : Passes (no_fall ns) 11 10 → (i d : ℕ) → 10 ≤ i → i + d < 21 → slice_index ns i ≤ slice_index ns (i + d)
    climbs all i zero a h = let e : i ≡ i + 0 = omega arith in subst (λ j. slice_index ns i ≤ slice_index ns j) e (omega arith)
    climbs all i (suc d) a h =
        let e : i + suc d - 1 ≡ i + d = omega arith in
        let step : slice_index_or ns (i + suc d - 1) 0 ≤ slice_index_or ns (i + suc d) 0 = leb-true _ _ (all (i + suc d) (omega arith) (omega arith)) in
        omega (arith, climbs all i d a (omega arith), subst (λ j. slice_index ns j ≤ slice_index ns (i + suc d)) e step)

    holds : is_rising ns ≡ true → Rising ns
    holds t i j a b h =
        let e : i + (j - i) ≡ j = omega arith in
        subst (λ k. slice_index ns i ≤ slice_index ns k) e (climbs ((none_decides (no_fall ns) 11 10).0 t) i (j - i) a (omega arith))

    passes : Rising ns → is_rising ns ≡ true
    passes r = (none_decides (no_fall ns) 11 10).1 (λ k a h. le-leb _ _ (r (k - 1) k (omega arith) (omega arith) (omega arith)))

-- the recommended numbers pass both
pub recommended_ranged : is_ranged (fields_of recommended) ≡ true
unfolding is_ranged first_out
recommended_ranged = refl

pub recommended_rising : is_rising (fields_of recommended) ≡ true
unfolding is_rising first_fall
recommended_rising = refl
