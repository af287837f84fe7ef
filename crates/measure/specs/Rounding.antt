-- Rounding upward. Assumes nothing.
use Rattle.std.specs.Prelude.{ℕ, ◌+◌, ◌-◌, ◌*◌, ◌/◌, ◌≤◌, Bool, nat_le}
use Rattle.measure.specs.Fractions.{Fraction, ◌over◌}

-- r is the least whole number that is at least n/d
pub record Least (n d r : ℕ) : Type 0 where
  pub reaches : n ≤ r * d
  pub least : (m : ℕ) → n ≤ m * d → r ≤ m

-- that number; 0 where d is 0
unfoldable pub ceiling : ℕ → ℕ → ℕ
ceiling n d = (n + (d - 1)) / d

-- how many k-ths are at least x
unfoldable pub ths : ℕ → Fraction → ℕ
ths k x = ceiling (k * x.num) x.den

-- x rounded up to k-ths
unfoldable pub rounded : ℕ → Fraction → Fraction
rounded k x = ths k x over k

-- x as it is, in the place of a rounding to k-ths
abbrev pub unrounded : ℕ → Fraction → Fraction
unrounded k x = x

-- the test whether the whole number n is at least x
unfoldable pub reaches : ℕ → Fraction → Bool
reaches n x = nat_le x.num (n * x.den)
