-- Exact fractions of natural numbers, and their order. Assumes nothing.
use Rattle.std.specs.Prelude.{ℕ, ◌+◌, ◌-◌, ◌*◌, ◌<◌, ◌≤◌, max}

-- a fraction as it is written, not reduced; it means something where its denominator is not 0
pub record Fraction : Type 0 where
  pub num : ℕ
  pub den : ℕ

infix 90 ◌over◌
infixl 80 ◌·◌
infixl 80 ◌÷◌
infixl 75 ◌less◌
infixl 75 ◌plus◌
infixl 70 ◌⊔◌
infix 50 ◌≼◌
infix 50 ◌≺◌
-- n/d
abbrev pub ◌over◌ : ℕ → ℕ → Fraction
n over d = record { num = n; den = d }

abbrev pub whole : ℕ → Fraction
whole n = n over 1

abbrev pub tenths : ℕ → Fraction
tenths n = n over 10

abbrev pub hundredths : ℕ → Fraction
hundredths n = n over 100

-- the product
unfoldable pub ◌·◌ : Fraction → Fraction → Fraction
x · y = (x.num * y.num) over (x.den * y.den)

-- the quotient
unfoldable pub ◌÷◌ : Fraction → Fraction → Fraction
x ÷ y = (x.num * y.den) over (x.den * y.num)

-- the sum
unfoldable pub ◌plus◌ : Fraction → Fraction → Fraction
x plus y = (x.num * y.den + y.num * x.den) over (x.den * y.den)

-- the difference, or 0 where it would fall below 0
unfoldable pub ◌less◌ : Fraction → Fraction → Fraction
x less y = (x.num * y.den - y.num * x.den) over (x.den * y.den)

-- the greater of two
unfoldable pub ◌⊔◌ : Fraction → Fraction → Fraction
x ⊔ y = max (x.num * y.den) (y.num * x.den) over (x.den * y.den)

-- x is at most y, and both mean something
pub record ◌≼◌ (x y : Fraction) : Type 0 where
  pub left : 0 < x.den
  pub right : 0 < y.den
  pub cross : x.num * y.den ≤ y.num * x.den

-- x is below y, and both mean something
pub record ◌≺◌ (x y : Fraction) : Type 0 where
  pub left : 0 < x.den
  pub right : 0 < y.den
  pub cross : x.num * y.den < y.num * x.den

-- a whole number near a requirement: at least x, and less than 1.1 above it
pub record Near (n : ℕ) (x : Fraction) : Type 0 where
  pub enough : x ≼ whole n
  pub close : whole n ≺ x plus tenths 11
