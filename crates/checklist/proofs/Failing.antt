-- The first failure of tests in order. Assumes nothing.
use Rattle.std.specs.List.{position, position_from}
use Rattle.std.specs.Option.{option_map}
use Rattle.std.proofs.lemmas.Iterator.Adapters.{position_from-zero}
use Rattle.std.proofs.Common.{List, [], ◌∷◌, length, slice_index_or, ◌≡◌, ℕ, zero, suc, ◌+◌, ◌-◌, ◌<◌, ◌≤◌, Bool, true, false, cond, not, is_some, Some, None, Decides, Option, sym, refl, ap, ◌∙◌, ⊎_elim, arith, MatchOption}
use Rattle.std.proofs.lemmas.Bool.{both_ways, cases_order}
use Rattle.checklist.specs.Firsts.{Passes, FailsFirst, first_failed, FirstLaw, test_at}

-- what holds at i and behind it
pass_from : (test : ℕ → Bool) (i : ℕ) → test i ≡ true → (n : ℕ) → ((k : ℕ) → i + 1 ≤ k → k < n → test k ≡ true) → (k : ℕ) → i ≤ k → k < n → test k ≡ true
pass_from test i t n rest k a b = ⊎_elim (λ e. ap test e ∙ t) (⊎_elim (λ l. absurd (omega arith)) (λ g. rest k (omega arith) b)) (cases_order k i)

-- the first failure among the places from i on, where i itself passes
later : (test : ℕ → Bool) (i n : ℕ) (o : Option ℕ) → test i ≡ true → MatchOption o (Passes test (i + 1) n) (FailsFirst test (i + 1) n) → MatchOption o (Passes test i (suc n)) (FailsFirst test i (suc n))
later test i n None t rest = pass_from test i t (i + suc n) (λ k a b. rest k a (omega arith))
later test i n (Some f) t rest =
    record { from = omega (arith, rest.from); upto = omega (arith, rest.upto); fails = rest.fails; before = pass_from test i t (f - 1) rest.before }

pub first_law : (test : ℕ → Bool) (i n : ℕ) → FirstLaw test i n
first_law test i zero = λ k a b. absurd (omega arith)
first_law test i (suc n) = go (first_law test (i + 1) n) (test i) refl
  where
    go : FirstLaw test (i + 1) n → (b : Bool) → test i ≡ b → MatchOption (cond b (first_failed test (i + 1) n) (Some (i + 1))) (Passes test i (suc n)) (FailsFirst test i (suc n))
    go rest true t = later test i n (first_failed test (i + 1) n) t rest
    go rest false t = let e : i ≡ i + 1 - 1 = omega arith in record { from = omega arith; upto = omega arith; fails = ap test (sym e) ∙ t; before = λ k a b. absurd (omega arith) }

-- so none fails exactly where all pass
pub none_decides : (test : ℕ → Bool) (i n : ℕ) → Decides (not (is_some (first_failed test i n))) (Passes test i n)
none_decides test i n = go (first_failed test i n) (first_law test i n)
  where
    go : (o : Option ℕ) → MatchOption o (Passes test i n) (FailsFirst test i n) → Decides (not (is_some o)) (Passes test i n)
    go None all = (λ _. all, λ _. refl)
    go (Some f) first = (λ e. absurd (both_ways false refl e), λ all. absurd (both_ways (test (f - 1)) first.fails (all (f - 1) (omega (arith, first.from)) (omega (arith, first.from, first.upto)))))

-- a look for the first failure, place by place up to `end`
module _ (test : ℕ → Bool) (i end : ℕ) where
  pub first_more : i < end → test i ≡ true → first_failed test i (end - i) ≡ first_failed test (i + 1) (end - (i + 1))
  first_more h t = let e : end - i ≡ suc (end - (i + 1)) = omega arith in ap (first_failed test i) e ∙ ap (λ b. cond b (first_failed test (i + 1) (end - (i + 1))) (Some (i + 1))) t

  pub first_stops : i < end → test i ≡ false → first_failed test i (end - i) ≡ Some (i + 1)
  first_stops h t = let e : end - i ≡ suc (end - (i + 1)) = omega arith in ap (first_failed test i) e ∙ ap (λ b. cond b (first_failed test (i + 1) (end - (i + 1))) (Some (i + 1))) t

  pub first_all : end ≤ i → first_failed test i (end - i) ≡ None
  first_all h = let e : end - i ≡ 0 = omega arith in ap (first_failed test i) e

-- tests that agree on these places fail first at the same
pub same_first : (test other : ℕ → Bool) (i n : ℕ) → ((k : ℕ) → i ≤ k → k < i + n → test k ≡ other k) → first_failed test i n ≡ first_failed other i n
same_first test other i zero h = refl
same_first test other i (suc n) h =
    let rest = same_first test other (i + 1) n (λ k a b. h k (omega arith) (omega arith)) in
    let here = h i (omega arith) (omega arith) in
    λ j. cond (here j) (rest j) (Some (i + 1))

-- what passes before a failure tells it
pub told_first : (test : ℕ → Bool) (i n f : ℕ) → FailsFirst test i n f → first_failed test i n ≡ Some f
told_first test i n f first = go (first_failed test i n) (first_law test i n)
  where
    go : (o : Option ℕ) → MatchOption o (Passes test i n) (FailsFirst test i n) → o ≡ Some f
    go None all = absurd (both_ways (test (f - 1)) first.fails (all (f - 1) (omega (arith, first.from)) (omega (arith, first.from, first.upto))))
    go (Some g) other =
        ⊎_elim (λ e. ap Some e)
        (⊎_elim (λ l. absurd (both_ways (test (g - 1)) other.fails (first.before (g - 1) (omega (arith, other.from)) (omega (arith, l, other.from)))))
        (λ l. absurd (both_ways (test (f - 1)) first.fails (other.before (f - 1) (omega (arith, first.from)) (omega (arith, l, first.from))))))
        (cases_order g f)

pub told_none : (test : ℕ → Bool) (i n : ℕ) → Passes test i n → first_failed test i n ≡ None
told_none test i n all = go (first_failed test i n) (first_law test i n)
  where
    go : (o : Option ℕ) → MatchOption o (Passes test i n) (FailsFirst test i n) → o ≡ None
    go None _ = refl
    go (Some f) first = absurd (both_ways (test (f - 1)) first.fails (all (f - 1) (omega (arith, first.from)) (omega (arith, first.from, first.upto))))

-- the first failure in a list, which holds the tests from i on
pub first_in_list : (test : ℕ → Bool) (i : ℕ) (ts : List Bool) → ((k : ℕ) → k < length ts → test (i + k) ≡ slice_index_or ts k true) → option_map (λ k. k + 1) (position_from (λ t. not t) i ts) ≡ first_failed test i (length ts)
first_in_list test i [] h = refl
first_in_list test i (t ∷ ts) h =
    go (first_in_list test (i + 1) ts (λ k l. let e : i + 1 + k ≡ i + suc k = omega arith in ap test e ∙ h (suc k) (omega (arith, l)))) t here
  where
    here : test i ≡ t
    here = let e : i ≡ i + 0 = omega arith in ap test e ∙ h 0 (omega arith)

    go : option_map (λ k. k + 1) (position_from (λ t. not t) (i + 1) ts) ≡ first_failed test (i + 1) (length ts) → (b : Bool) → test i ≡ b → option_map (λ k. k + 1) (cond (not b) (Some i) (position_from (λ t. not t) (i + 1) ts)) ≡ cond (test i) (first_failed test (i + 1) (length ts)) (Some (i + 1))
    go rest true e = rest ∙ sym (ap (λ b. cond b (first_failed test (i + 1) (length ts)) (Some (i + 1))) e)
    go rest false e = sym (ap (λ b. cond b (first_failed test (i + 1) (length ts)) (Some (i + 1))) e)

pub first_position : (ts : List Bool) → option_map (λ k. k + 1) (position (λ t. not t) ts) ≡ first_failed (test_at ts) 0 (length ts)
first_position ts = ap (option_map (λ k. k + 1)) (position_from-zero (λ t. not t) ts) ∙ first_in_list (test_at ts) 0 ts (λ k h. let e : 0 + k ≡ k = omega arith in ap (test_at ts) e)
