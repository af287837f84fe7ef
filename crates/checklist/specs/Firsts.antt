-- Tests in a fixed order, and which of them fails first. Assumes nothing.
use Rattle.std.specs.Prelude.{◌≡◌, ℕ, zero, suc, ◌+◌, ◌-◌, ◌<◌, ◌≤◌, Bool, true, false, cond, ◌&&◌, List, Some, None, Option, MatchOption, nat_le, slice_index_or}

-- the n places from i on pass a test
abbrev pub Passes : (ℕ → Bool) → ℕ → ℕ → Type 0
Passes test i n = (k : ℕ) → i ≤ k → k < i + n → test k ≡ true

-- of these places the one that is the f-th from 1, f - 1 from 0, is the first that fails
pub record FailsFirst (test : ℕ → Bool) (i n f : ℕ) : Type 0 where
  pub from : i < f
  pub upto : f ≤ i + n
  pub fails : test (f - 1) ≡ false
  pub before : (k : ℕ) → i ≤ k → k < f - 1 → test k ≡ true

-- its number from 1, if not all of them pass
abbrev pub first_failed : (ℕ → Bool) → ℕ → ℕ → Option ℕ
first_failed test i zero = None
first_failed test i (suc n) = cond (test i) (first_failed test (i + 1) n) (Some (i + 1))

-- what the first failure is
abbrev pub FirstLaw : (ℕ → Bool) → ℕ → ℕ → Type 0
FirstLaw test i n = MatchOption (first_failed test i n) (Passes test i n) (FailsFirst test i n)

-- the tests of a list by their places from 0; past its end nothing fails
abbrev pub test_at : List Bool → ℕ → Bool
test_at tests i = slice_index_or tests i true

-- the test of a range, both ends included
abbrev pub within : ℕ → ℕ → ℕ → Bool
within least most n = nat_le least n && nat_le n most
