-- How far a fraction lies above another, in thousand-millionths, and what the operations do to that. Assumes nothing.
use Rattle.std.proofs.Common.{ℕ, ◌+◌, ◌*◌, ◌<◌, ◌≤◌, max, Bool, true, false, cond, mul-le-mul_right, mul-le-mul_left, le_of_mul-le-mul_right, arith}
use native.Mathlib.Nat.{le-max_left, le-max_right}
use Rattle.measure.specs.Fractions.{Fraction, ◌over◌, ◌·◌, ◌plus◌, ◌⊔◌, ◌≼◌, Near}
use Rattle.measure.specs.Rounding.{ceiling, ths, rounded}
use Rattle.measure.proofs.Ceiling.{ceiling_reaches, ceiling_near}
use Rattle.measure.proofs.Order.{≼_refl, ·-mono, ⊔-mono, max_mul_le}

abbrev pub one : ℕ
one = 1000000000

-- x' is at least x, and at most e thousand-millionths above it
pub record Within (e : ℕ) (x x' : Fraction) : Type 0 where
  pub low : x ≼ x'
  pub high : one * (x'.num * x.den) ≤ one * (x.num * x'.den) + e * (x.den * x'.den)

pub within_self : (x : Fraction) → 0 < x.den → Within 0 x x
within_self x p = record { low = ≼_refl x p; high = omega arith }

pub within_more : {e f : ℕ} {x x' : Fraction} → e ≤ f → Within e x x' → Within f x x'
within_more {e} {f} {x} {x'} h n = record { low = n.low; high = omega (arith, n.high, mul-le-mul_right (x.den * x'.den) h) }

-- the error of a product: P and Q lie above p and q
product_error : (e f g U V P p D Q q E : ℕ) → one * P ≤ one * p + e * D → one * Q ≤ one * q + f * E → p ≤ P → 10 * P ≤ U * D → 10 * Q ≤ V * E → U * f + e * V ≤ 10 * g → one * (P * Q) ≤ one * (p * q) + g * (D * E)
product_error e f g U V P p D Q q E hP hQ pP uP vQ h =
    let a = mul-le-mul_right Q hP in
    let b = mul-le-mul_right p hQ in
    let c = mul-le-mul_right (e * D) vQ in
    let d = mul-le-mul_right (f * E) pP in
    let d' = mul-le-mul_right (f * E) uP in
    let s = mul-le-mul_right (D * E) h in
    omega (arith, a, b, c, d, d', s)

pub within-· : {e f : ℕ} (g U V : ℕ) {x x' y y' : Fraction} → Within e x x' → Within f y y' → x' ≼ U over 10 → y' ≼ V over 10 → U * f + e * V ≤ 10 * g → Within g (x · y) (x' · y')
unfolding ◌·◌
within-· {e} {f} g U V {x} {x'} {y} {y'} m n u v h =
    let t = product_error e f g U V (x'.num * x.den) (x.num * x'.den) (x.den * x'.den) (y'.num * y.den) (y.num * y'.den) (y.den * y'.den)
    m.high n.high m.low.cross (omega (arith, mul-le-mul_right x.den u.cross)) (omega (arith, mul-le-mul_right y.den v.cross)) h in
    record { low = ·-mono m.low n.low; high = omega (arith, t) }

-- the error of the greater of two fractions
max_error : (o e a b c d A B m M : ℕ) → o * (A * m) ≤ o * (a * M) + e * (m * M) → o * (B * m) ≤ o * (b * M) + e * (m * M) → o * (max A B * m) ≤ o * (max a b * M) + e * (m * M)
max_error o e a b c d A B m M h k =
    let s = mul-le-mul_right M (le-max_left a b) in
    let t = mul-le-mul_right M (le-max_right a b) in
    let r = max_mul_le A B (m * o) (o * (max a b * M) + e * (m * M)) (omega (arith, mul-le-mul_left o s)) (omega (arith, mul-le-mul_left o t)) in
    omega (arith, r)

pub within-⊔ : {e : ℕ} {x x' y y' : Fraction} → Within e x x' → Within e y y' → Within e (x ⊔ y) (x' ⊔ y')
unfolding ◌⊔◌
within-⊔ {e} {x} {x'} {y} {y'} m n =
    let s = mul-le-mul_right (y.den * y'.den) m.high in
    let t = mul-le-mul_right (x.den * x'.den) n.high in
    record {
      low = ⊔-mono m.low n.low;
      high = max_error one e (x.num * y.den) (y.num * x.den) 0 0 (x'.num * y'.den) (y'.num * x'.den) (x.den * y.den) (x'.den * y'.den) (omega (arith, s)) (omega (arith, t));
    }

-- rounding up to k-ths adds at most one of them
round_error : (o e s k Y yn yd xn xd : ℕ) → 0 < yd → Y * yd < k * yn + yd → o * (yn * xd) ≤ o * (xn * yd) + e * (xd * yd) → o ≤ s * k → o * (Y * xd) ≤ o * (xn * k) + (e + s) * (xd * k)
round_error o e s k Y yn yd xn xd p hY h hs =
    let a : Y * yd ≤ k * yn + yd = omega arith in
    let b = mul-le-mul_right (o * xd) a in
    let c = mul-le-mul_right k h in
    let d = mul-le-mul_right (yd * xd) hs in
    let t : (o * (Y * xd)) * yd ≤ (o * (xn * k) + (e + s) * (xd * k)) * yd = omega (arith, b, c, d) in
    le_of_mul-le-mul_right t p

pub within_rounded : {e : ℕ} (s k : ℕ) → 0 < k → one ≤ s * k → {x y : Fraction} → Within e x y → Within (e + s) x (rounded k y)
unfolding rounded ths
within_rounded {e} s k pk hs {x} {y} n =
    let c = ceiling_near (k * y.num) y.den n.low.right in
    let r = ceiling_reaches (k * y.num) y.den n.low.right in
    let t : (x.num * k) * y.den ≤ (ceiling (k * y.num) y.den * x.den) * y.den = omega (arith, mul-le-mul_right k n.low.cross, mul-le-mul_right x.den r) in
    record {
      low = record { left = n.low.left; right = pk; cross = le_of_mul-le-mul_right t n.low.right };
      high = round_error one e s k (ceiling (k * y.num) y.den) y.num y.den x.num x.den n.low.right c n.high hs;
    }

-- the whole number that reaches x' is near x, where x' is less than a tenth above it
pub within_whole : {e : ℕ} {x x' : Fraction} → e < 100000000 → Within e x x' → Near (ths 1 x') x
unfolding rounded ◌plus◌
within_whole {e} {x} {x'} he n =
    let r = within_rounded one 1 (omega arith) (omega arith) n in
    record {
      enough = r.low;
      close = record { left = r.low.right; right = omega (arith, r.low.left); cross = omega (arith, r.high, mul-le-mul_right x.den he, r.low.left) };
    }

pub within_cond : {e : ℕ} (t : Bool) {x x' y y' : Fraction} → Within e x x' → Within e y y' → Within e (cond t x y) (cond t x' y')
within_cond true h k = h
within_cond false h k = k

-- a fraction that no rounding has touched
pub exactly : (e : ℕ) (x : Fraction) → 0 < x.den → Within e x x
exactly e x p = within_more (omega arith) (within_self x p)
