-- What an annex accepts. Assumes nothing.
use Rattle.std.proofs.Common.{◌≡◌, ℕ, ◌+◌, ◌-◌, ◌<◌, ◌≤◌, Bool, true, false, not, List, length, get_or, drop, min, is_some, Some, None, Ok, Option, sym, refl, ap, ◌∙◌, arith, MatchResult, [], ◌∷◌, map, cond, ltb, leb}
use Rattle.std.specs.List.{position, position_from, zip}
use Rattle.std.proofs.lemmas.Iterator.Adapters.{position_from-zero}
use Rattle.std.proofs.lemmas.Bool.Decides.{nat_tests}
use Rattle.std.specs.Option.{option_map}
use Rattle.std.proofs.lemmas.List.FromFn.{fill_by_all}
use Rattle.std.proofs.lemmas.List.{get_or-drop, get_or-map, length-drop, length-map}
use Rattle.std.proofs.lemmas.Slice.Zip.{length-zip, get_or-zip}
use Rattle.std.proofs.lemmas.Bool.{and_parts, and_from, eq-eqb, both_ways}
use Rattle.refusal.specs.declared.Refusal.TheVariants.{AnnexRange, Falling}
use Rattle.annex.specs.declared.numbers.Numbers.{Numbers}
use Rattle.annex.specs.Numbers.{annex_names, ranges, fields_of, numbers_of}
use Rattle.checklist.specs.Firsts.{first_failed, test_at}
use Rattle.fields.specs.Fields.{Field, field, between, admits, admitted}
use Rattle.fields.proofs.Admitting.{admitted_at, length-admitted}
use Rattle.annex.specs.Laws.{Ranged, Rising, in_range, no_fall, first_out, first_fall, is_ranged, is_rising}
use Rattle.national.specs.Acceptance.{annex_fields, refused_at, accepted_of, AcceptedLaw}
use Rattle.checklist.proofs.Failing.{same_first, first_in_list}
use Rattle.annex.specs.Keeping.{ranged_decides, rising_decides}

abbrev none : List ℕ × (ℕ × ℕ)
none = ([], (0, 0))

abbrev made : List ℕ × (ℕ × ℕ) → Field
made p = field p.0 (between p.1.0 p.1.1)

-- of 21 numbers the first that its field does not admit
pub out_found : (ns : List ℕ) → length ns ≡ 21 → first_failed (test_at (admitted annex_fields ns)) 0 (length (admitted annex_fields ns)) ≡ first_out ns
unfolding first_out
out_found ns full = ap (first_failed (test_at (admitted annex_fields ns)) 0) (length-admitted annex_fields ns (sym full)) ∙ same_first (test_at (admitted annex_fields ns)) (in_range ns) 0 21 same
  where
    same : (k : ℕ) → 0 ≤ k → k < 0 + 21 → test_at (admitted annex_fields ns) k ≡ in_range ns k
    same k _ h =
        let pairs = zip annex_names ranges in
        let at : get_or annex_fields k (made none) ≡ made (get_or annex_names k [], get_or ranges k (0, 0)) = get_or-map made pairs k none (made none) (omega (arith, h)) ∙ ap made (get_or-zip annex_names ranges k none (omega (arith, h)) (omega (arith, h))) in
        admitted_at annex_fields ns k (made none) (omega (arith, h)) (omega (arith, h, full)) ∙ ap (λ f. admits f.values (get_or ns k 0)) at

-- each multiple but the last, with the next
abbrev pub steps : List ℕ → List (ℕ × ℕ)
steps ns = zip (drop 10 ns) (drop 11 ns)

-- whether each step rises, or is level
abbrev rises : List (ℕ × ℕ) → List Bool
rises ps = map (λ p. leb p.0 p.1) ps

-- a search for the first step that falls, where the first is the i-th from 0
falls_from : (i j : ℕ) (ps : List (ℕ × ℕ)) → option_map (λ k. i + k) (position_from (λ p. ltb p.1 p.0) j ps) ≡ position_from (λ t. not t) (i + j) (rises ps)
falls_from i j [] = refl
falls_from i j (p ∷ ps) =
    let e : ltb p.1 p.0 ≡ not (leb p.0 p.1) = grind (arith, nat_tests) in
    ap (λ b. option_map (λ k. i + k) (cond b (Some j) (position_from (λ p. ltb p.1 p.0) (j + 1) ps))) e ∙ go (falls_from i (j + 1) ps) (leb p.0 p.1)
  where
    go : option_map (λ k. i + k) (position_from (λ p. ltb p.1 p.0) (j + 1) ps) ≡ position_from (λ t. not t) (i + (j + 1)) (rises ps) → (b : Bool) → option_map (λ k. i + k) (cond (not b) (Some j) (position_from (λ p. ltb p.1 p.0) (j + 1) ps)) ≡ cond (not b) (Some (i + j)) (position_from (λ t. not t) (i + j + 1) (rises ps))
    go rest true = let e : i + (j + 1) ≡ i + j + 1 = omega arith in rest ∙ ap (λ k. position_from (λ t. not t) k (rises ps)) e
    go rest false = refl

twice : (i : ℕ) (o : Option ℕ) → option_map (λ k. i + k + 1) o ≡ option_map (λ k. k + 1) (option_map (λ k. i + k) o)
twice i None = refl
twice i (Some k) = refl

-- of 21 numbers the first multiple that is smaller than the one before it
pub fall_found : (ns : List ℕ) → length ns ≡ 21 → option_map (λ k. 11 + k + 1) (position (λ p. ltb p.1 p.0) (steps ns)) ≡ first_fall ns
unfolding first_fall
fall_found ns full =
    twice 11 (position (λ p. ltb p.1 p.0) (steps ns)) ∙
    ap (λ o. option_map (λ k. k + 1) (option_map (λ k. 11 + k) o)) (position_from-zero (λ p. ltb p.1 p.0) (steps ns)) ∙
    ap (option_map (λ k. k + 1)) (falls_from 11 0 (steps ns)) ∙
    first_in_list (no_fall ns) 11 (rises (steps ns)) same ∙
    ap (first_failed (no_fall ns) 11) (length-map (steps ns) (λ p. leb p.0 p.1) ∙ long)
  where
    ten : length (drop 10 ns) ≡ 11
    ten = omega (arith, length-drop 10 ns, full)

    rest : length (drop 11 ns) ≡ 10
    rest = omega (arith, length-drop 11 ns, full)

    long : length (steps ns) ≡ 10
    long = length-zip (drop 10 ns) (drop 11 ns) ∙ (λ i. min (ten i) (rest i))

    at : (k : ℕ) → k < length (steps ns) → get_or (steps ns) k (0, 0) ≡ (get_or ns (11 + k - 1) 0, get_or ns (11 + k) 0)
    at k lt =
        let before : 10 + k ≡ 11 + k - 1 = omega arith in
        get_or-zip (drop 10 ns) (drop 11 ns) k (0, 0) (omega (arith, lt, long, ten)) (omega (arith, lt, long, rest)) ∙ (λ i. ((get_or-drop 10 ns k 0 ∙ ap (λ j. get_or ns j 0) before) i, get_or-drop 11 ns k 0 i))

    same : (k : ℕ) → k < length (rises (steps ns)) → no_fall ns (11 + k) ≡ get_or (rises (steps ns)) k true
    same k lt =
        let below : k < length (steps ns) = omega (arith, lt, length-map (steps ns) (λ p. leb p.0 p.1)) in
        sym (get_or-map (λ p. leb p.0 p.1) (steps ns) k (0, 0) true below ∙ ap (λ p. leb p.0 p.1) (at k below))

-- 21 numbers are those that their fields list
pub fields_numbers : (ns : List ℕ) → length ns ≡ 21 → fields_of (numbers_of ns) ≡ ns
fields_numbers ns h = sym (fill_by_all (λ i. get_or ns i 0) ns 21 0 h (λ k _. refl))

-- what is accepted has passed both tests
granted : (ns : List ℕ) (n : Numbers) (out fall : Option ℕ) → Ok n ≡ refused_at AnnexRange out (refused_at Falling fall (Ok (numbers_of ns))) → (n ≡ numbers_of ns) × (not (is_some out) ≡ true) × (not (is_some fall) ≡ true)
granted ns n None None e = (cc, refl, refl)
granted ns n None (Some f) e = absurd (let z : ◌≡◌ {A = ℕ} 0 1 = cc in omega arith)
granted ns n (Some f) fall e = absurd (let z : ◌≡◌ {A = ℕ} 0 1 = cc in omega arith)

pub accepted_keeps : (ns : List ℕ) (n : Numbers) → Ok n ≡ accepted_of ns → (n ≡ numbers_of ns) × (is_ranged (fields_of n) ≡ true) × (is_rising (fields_of n) ≡ true)
unfolding is_ranged is_rising first_out first_fall
accepted_keeps ns n e =
    let g = granted ns n (first_out ns) (first_fall ns) e in
    (g.0, ap (λ m. is_ranged (fields_of m)) g.0 ∙ g.1, ap (λ m. is_rising (fields_of m)) g.0 ∙ g.2)

pub accepted_law : (ns : List ℕ) → length ns ≡ 21 → AcceptedLaw ns
unfolding is_ranged is_rising
accepted_law ns h = go (first_out ns) (first_fall ns) (λ t. (ranged_decides ns).0 (and_from _ _ (eq-eqb (length ns) 21 h) t)) (λ r. (and_parts _ _ ((ranged_decides ns).1 r)).1) (rising_decides ns).0 (rising_decides ns).1
  where
    go : (out fall : Option ℕ) → (not (is_some out) ≡ true → Ranged ns) → (Ranged ns → not (is_some out) ≡ true) → (not (is_some fall) ≡ true → Rising ns) → (Rising ns → not (is_some fall) ≡ true) → MatchResult (refused_at AnnexRange out (refused_at Falling fall (Ok (numbers_of ns)))) (λ n. (n ≡ numbers_of ns) × Ranged ns × Rising ns) (λ _. Ranged ns → Rising ns → ⊥)
    go None None ranged _ rising _ = (refl, ranged refl, rising refl)
    go None (Some f) _ _ _ rising = λ _ r. both_ways false refl (rising r)
    go (Some f) fall _ ranged _ _ = λ r _. both_ways false refl (ranged r)
