-- The two laws of an annex's numbers, given by field. Assumes nothing.
use Rattle.std.specs.Prelude.{◌≡◌, ℕ, ◌-◌, ◌<◌, ◌≤◌, Bool, not, ◌&&◌, List, length, is_some, Option, ◌==◌, nat_le, slice_index, slice_index_or}
use Rattle.checklist.specs.Firsts.{first_failed, within}
use Rattle.annex.specs.Numbers.{annex_names, ranges}

-- as many numbers as names, each in its range
pub record Ranged (ns : List ℕ) : Type 0 where
  pub full : length ns ≡ length annex_names
  pub least : (i : ℕ) → i < length annex_names → (slice_index_or ranges i (0, 0)).0 ≤ slice_index ns i
  pub most : (i : ℕ) → i < length annex_names → slice_index ns i ≤ (slice_index_or ranges i (0, 0)).1

-- the multiples, the fields 11 to 21, never fall as the diameter grows
abbrev pub Rising : List ℕ → Type 0
Rising ns = (i j : ℕ) → 10 ≤ i → i ≤ j → j < 21 → slice_index ns i ≤ slice_index ns j

-- the test of a range, at the place i from 0
abbrev pub in_range : List ℕ → ℕ → Bool
in_range ns i = within (slice_index_or ranges i (0, 0)).0 (slice_index_or ranges i (0, 0)).1 (slice_index ns i)

-- the test of a multiple against the one before it
abbrev pub no_fall : List ℕ → ℕ → Bool
no_fall ns i = nat_le (slice_index ns (i - 1)) (slice_index ns i)

-- the first field out of its range
unfoldable pub first_out : List ℕ → Option ℕ
first_out ns = first_failed (in_range ns) 0 21

-- the first field with a multiple smaller than the one before it
unfoldable pub first_fall : List ℕ → Option ℕ
first_fall ns = first_failed (no_fall ns) 11 10

-- the laws as tests
unfoldable pub is_ranged : List ℕ → Bool
is_ranged ns = length ns == 21 && not (is_some (first_out ns))

unfoldable pub is_rising : List ℕ → Bool
is_rising ns = not (is_some (first_fall ns))
