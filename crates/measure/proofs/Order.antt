-- The order of fractions, and which operations keep it. Assumes nothing.
use Rattle.std.proofs.Common.{◌≡◌, ℕ, ◌-◌, ◌*◌, ◌<◌, ◌≤◌, max, Bool, true, false, cond, not, T, ltb, leb, sym, refl, ap, ◌∙◌, le_trans, le_of_eq, le_refl, mul-le-mul_right, mul_comm, mul-le-mul, le_antisymm, mul-le-mul_left, mul-pos, one-mul, le_of_mul-le-mul_right, arith, lit<, lit≤, leb→le}
use native.Mathlib.Nat.{mul-sub, le-max_left, le-max_right, max-le}
use Rattle.std.proofs.lemmas.Bool.Decides.{nat_tests}
use lib.Dec.{nleb→lt}
use Rattle.measure.specs.Fractions.{Fraction, ◌over◌, whole, ◌·◌, ◌÷◌, ◌less◌, ◌⊔◌, ◌≼◌}
use Rattle.measure.specs.Rounding.{ceiling, ths, rounded, reaches}
use Rattle.measure.proofs.Ceiling.{ceiling_mono, ceiling_reaches, ceiling_least, ceiling_only}

-- an order between written fractions
pub lit≼ : {x y : Fraction} → T (ltb 0 x.den) → T (ltb 0 y.den) → T (leb (x.num * y.den) (y.num * x.den)) → x ≼ y
lit≼ l r c = record { left = lit< l; right = lit< r; cross = lit≤ c }

-- over one denominator
pub over_mono : {a b : ℕ} (d : ℕ) → 0 < d → a ≤ b → a over d ≼ b over d
over_mono d p h = record { left = p; right = p; cross = mul-le-mul_right d h }

-- fractions that are equal
pub equal : {x y : Fraction} → 0 < x.den → 0 < y.den → x.num * y.den ≡ y.num * x.den → x ≼ y
equal p q e = record { left = p; right = q; cross = le_of_eq e }

pub ≼_refl : (x : Fraction) → 0 < x.den → x ≼ x
≼_refl x p = record { left = p; right = p; cross = le_refl _ }

pub ≼_trans : {x y z : Fraction} → x ≼ y → y ≼ z → x ≼ z
≼_trans {x} {y} {z} h k =
    let t : (x.num * z.den) * y.den ≤ (z.num * x.den) * y.den = omega (arith, mul-le-mul_right z.den h.cross, mul-le-mul_right x.den k.cross) in
    record { left = h.left; right = k.right; cross = le_of_mul-le-mul_right t h.right }

pub ·-mono : {x x' y y' : Fraction} → x ≼ x' → y ≼ y' → x · y ≼ x' · y'
unfolding ◌·◌
·-mono h k = record { left = mul-pos h.left k.left; right = mul-pos h.right k.right; cross = omega (arith, mul-le-mul h.cross k.cross) }

pub ÷-mono : {x x' y y' : Fraction} → x ≼ x' → y' ≼ y → 0 < y'.num → 0 < y.num → x ÷ y ≼ x' ÷ y'
unfolding ◌÷◌
÷-mono h k p q = record { left = mul-pos h.left q; right = mul-pos h.right p; cross = omega (arith, mul-le-mul h.cross k.cross) }

pub sub_mul : (a b c : ℕ) → (a - b) * c ≡ a * c - b * c
sub_mul a b c = rw (mul_comm (a - b) c, mul_comm a c, mul_comm b c) (mul-sub c a b)

pub less_mono : {x x' y y' : Fraction} → x ≼ x' → y' ≼ y → x less y ≼ x' less y'
unfolding ◌less◌
less_mono {x} {x'} {y} {y'} h k =
    let a = mul-le-mul_right (y.den * y'.den) h.cross in
    let b = mul-le-mul_right (x.den * x'.den) k.cross in
    record {
      left = mul-pos h.left k.right;
      right = mul-pos h.right k.left;
      cross = rw (sub_mul (x.num * y.den) (y.num * x.den) (x'.den * y'.den), sub_mul (x'.num * y'.den) (y'.num * x'.den) (x.den * y.den)) (omega (arith, a, b));
    }

pub max_mul_le : (a b c d : ℕ) → a * c ≤ d → b * c ≤ d → max a b * c ≤ d
max_mul_le a b c d h k = grind (arith, native.Mathlib.Nat.max-eq_left, native.Mathlib.Nat.max-eq_right)

pub ⊔-left : (x y : Fraction) → 0 < x.den → 0 < y.den → x ≼ x ⊔ y
unfolding ◌⊔◌
⊔-left x y p q =
    record { left = p; right = mul-pos p q; cross = omega (arith, mul-le-mul_right x.den (le-max_left (x.num * y.den) (y.num * x.den))) }

pub ⊔-right : (x y : Fraction) → 0 < x.den → 0 < y.den → y ≼ x ⊔ y
unfolding ◌⊔◌
⊔-right x y p q =
    record { left = q; right = mul-pos p q; cross = omega (arith, mul-le-mul_right y.den (le-max_right (x.num * y.den) (y.num * x.den))) }

pub ⊔-least : {x y u : Fraction} → x ≼ u → y ≼ u → x ⊔ y ≼ u
unfolding ◌⊔◌
⊔-least {x} {y} {u} h k =
    record {
      left = mul-pos h.left k.left;
      right = h.right;
      cross = max_mul_le (x.num * y.den) (y.num * x.den) u.den (u.num * (x.den * y.den)) (omega (arith, mul-le-mul_right y.den h.cross)) (omega (arith, mul-le-mul_right x.den k.cross));
    }

pub ⊔-mono : {x x' y y' : Fraction} → x ≼ x' → y ≼ y' → x ⊔ y ≼ x' ⊔ y'
⊔-mono h k = ⊔-least (≼_trans h (⊔-left _ _ h.right k.right)) (≼_trans k (⊔-right _ _ h.right k.right))

pub less_le : (x y : Fraction) → 0 < x.den → 0 < y.den → x less y ≼ x
unfolding ◌less◌
less_le x y p q =
    let t : x.num * y.den - y.num * x.den ≤ x.num * y.den = omega arith in
    record { left = mul-pos p q; right = p; cross = omega (arith, mul-le-mul_right x.den t) }

pub cond_mono : (t : Bool) {x x' y y' : Fraction} → x ≼ x' → y ≼ y' → cond t x y ≼ cond t x' y'
cond_mono true h k = h
cond_mono false h k = k

pub ths_mono : (k : ℕ) {x y : Fraction} → x ≼ y → ths k x ≤ ths k y
unfolding ths
ths_mono k {x} {y} h = ceiling_mono (k * x.num) x.den (k * y.num) y.den h.left h.right (omega (arith, mul-le-mul_left k h.cross))

pub rounded_mono : (k : ℕ) → 0 < k → {x y : Fraction} → x ≼ y → rounded k x ≼ rounded k y
unfolding rounded
rounded_mono k p h = record { left = p; right = p; cross = mul-le-mul_right k (ths_mono k h) }

pub ths_same : (k : ℕ) {x y : Fraction} → x ≼ y → y ≼ x → ths k x ≡ ths k y
ths_same k h g = le_antisymm (ths_mono k h) (ths_mono k g)

ths-⊔_least : (k : ℕ) (x y : Fraction) → 0 < x.den → 0 < y.den → ths k (x ⊔ y) ≤ max (ths k x) (ths k y)
unfolding ths ◌⊔◌
ths-⊔_least k x y p q =
    let m = max (ths k x) (ths k y) in
    let a = ceiling_reaches (k * x.num) x.den p in
    let b = ceiling_reaches (k * y.num) y.den q in
    let c = mul-le-mul_right x.den (le-max_left (ths k x) (ths k y)) in
    let d = mul-le-mul_right y.den (le-max_right (ths k x) (ths k y)) in
    let e : k * x.num ≤ m * x.den = le_trans a c in
    let f : k * y.num ≤ m * y.den = le_trans b d in
    let t = max_mul_le (x.num * y.den) (y.num * x.den) k (m * (x.den * y.den)) (omega (arith, mul-le-mul_right y.den e)) (omega (arith, mul-le-mul_right x.den f)) in
    ceiling_least _ _ m (mul-pos p q) (omega (arith, t))

-- rounding up passes over the greater of two
pub ths-⊔ : (k : ℕ) (x y : Fraction) → 0 < x.den → 0 < y.den → ths k (x ⊔ y) ≡ max (ths k x) (ths k y)
ths-⊔ k x y p q = le_antisymm (ths-⊔_least k x y p q) (max-le (ths_mono k (⊔-left x y p q)) (ths_mono k (⊔-right x y p q)))

-- above 0
pub record Positive (x : Fraction) : Type 0 where
  pub num_pos : 0 < x.num
  pub den_pos : 0 < x.den

pub ·-pos : {x y : Fraction} → Positive x → Positive y → Positive (x · y)
unfolding ◌·◌
·-pos h k = record { num_pos = mul-pos h.num_pos k.num_pos; den_pos = mul-pos h.den_pos k.den_pos }

pub ÷-pos : {x y : Fraction} → Positive x → Positive y → Positive (x ÷ y)
unfolding ◌÷◌
÷-pos h k = record { num_pos = mul-pos h.num_pos k.den_pos; den_pos = mul-pos h.den_pos k.num_pos }

pub ⊔-den : (x y : Fraction) → 0 < x.den → 0 < y.den → 0 < (x ⊔ y).den
unfolding ◌⊔◌
⊔-den x y p q = mul-pos p q

-- by the two ways of a test
pub leb_cases : (P : Bool → Type 0) (m n : ℕ) → (m ≤ n → P true) → (n < m → P false) → P (leb m n)
leb_cases P m n h k = go (leb m n) (leb→le m n) (nleb→lt m n)
  where
    go : (b : Bool) → (T b → m ≤ n) → (T (not b) → n < m) → P b
    go true f g = h (f tt)
    go false f g = k (g tt)

pub cond_most : (t : Bool) {x y u : Fraction} → x ≼ u → y ≼ u → cond t x y ≼ u
cond_most true h k = h
cond_most false h k = k

-- whole numbers and written denominators
pub ths_whole : (n : ℕ) → ths 1 (whole n) ≡ n
unfolding ths
ths_whole n = sym (ceiling_only (1 * n) 1 n (lit< tt) (omega arith) (omega arith))

pub ths_one : (n d : ℕ) → ths 1 (n over d) ≡ ceiling n d
unfolding ths
ths_one n d = ap (λ m. ceiling m d) (one-mul n)

pub ths_over : (k n d : ℕ) → ths k (n over d) ≡ ceiling (k * n) d
unfolding ths
ths_over k n d = refl

-- the greatest of four, each rounded up by itself
pub ths_four : (x y z w : Fraction) → 0 < x.den → 0 < y.den → 0 < z.den → 0 < w.den → ths 1 (x ⊔ y ⊔ z ⊔ w) ≡ max (max (max (ths 1 x) (ths 1 y)) (ths 1 z)) (ths 1 w)
ths_four x y z w p q r s =
    ths-⊔ 1 (x ⊔ y ⊔ z) w (⊔-den (x ⊔ y) z (⊔-den x y p q) r) s ∙ ap (λ m. max m (ths 1 w)) (ths-⊔ 1 (x ⊔ y) z (⊔-den x y p q) r ∙ ap (λ m. max m (ths 1 z)) (ths-⊔ 1 x y p q))

-- a whole number that reaches a fraction, and one no smaller, which reaches a fraction no greater
pub reaches_more : (m n : ℕ) (x y : Fraction) → y ≼ x → m ≤ n → reaches m x ≡ true → reaches n y ≡ true
unfolding reaches
reaches_more m n x y o h e =
    let at : x ≼ whole m = record { left = o.right; right = lit< tt; cross = grind (arith, nat_tests) } in
    let most = ≼_trans o (≼_trans at (over_mono 1 (lit< tt) h)) in
    let c : y.num ≤ n * y.den = omega (arith, most.cross) in
    grind (arith, nat_tests)
