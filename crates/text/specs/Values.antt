-- What a value says. Assumes nothing.
use Rattle.std.specs.Prelude.{◌≡◌, ℕ, ◌+◌, ◌-◌, ◌*◌, ◌≤◌, true, cond, List, [], ◌∷◌, length, Some, None, Option, ◌==◌, nat_le, slice_index_or}
use Rattle.std.specs.Str.Parse.{digits_value}
use Rattle.std.specs.Char.{is_ascii_digit}
use Rattle.std.specs.Str.{all_ascii_digits}

-- the part writes the number n: 0 alone, or one to seven digits that do not begin with 0
pub record Writes (part : List ℕ) (n : ℕ) : Type 0 where
  pub some : 1 ≤ length part
  pub few : length part ≤ 7
  pub digits : all_ascii_digits part ≡ true
  pub unpadded : slice_index_or part 0 0 ≡ 48 → length part ≡ 1
  pub number : digits_value 10 part ≡ n

-- the number that digits write behind those of n, or nothing at a byte that is no digit
abbrev pub digits_from : ℕ → List ℕ → Option ℕ
digits_from n [] = Some n
digits_from n (b ∷ bs) = cond (is_ascii_digit b) (digits_from (n * 10 + (b - 48)) bs) None

abbrev pub zero_alone : List ℕ → Option ℕ
zero_alone [] = Some 0
zero_alone (b ∷ bs) = None

-- the one number that the part writes (`Writes`), or nothing where it writes none
abbrev pub value_of : List ℕ → Option ℕ
value_of [] = None
value_of (b ∷ bs) = cond (b == 48) (zero_alone bs) (cond (nat_le (length bs) 6) (digits_from 0 (b ∷ bs)) None)
