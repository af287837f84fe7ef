-- The least whole number that reaches a fraction. Assumes nothing.
use Rattle.std.proofs.Common.{◌≡◌, ℕ, zero, suc, ◌+◌, ◌-◌, ◌*◌, ◌/◌, ◌%◌, ◌<◌, ◌≤◌, min, ◌⊎◌, sym, refl, inl, inr, mul-le-mul_right, mod-lt, le_antisymm, lt_of_mul-lt-mul_right, div-add-mod', div-mul-le_self, le_of_mul-le-mul_right, arith}
use native.Mathlib.Nat.{div-zero, lt-div-mul-add}
use Rattle.measure.specs.Rounding.{Least, ceiling}

pub ceiling_reaches : (n d : ℕ) → 0 < d → n ≤ ceiling n d * d
unfolding ceiling
ceiling_reaches n d p = omega (arith, lt-div-mul-add {a = n + (d - 1)} {b = d} p)

pub ceiling_near : (n d : ℕ) → 0 < d → ceiling n d * d < n + d
unfolding ceiling
ceiling_near n d p = omega (arith, div-mul-le_self (n + (d - 1)) d)

pub ceiling_least : (n d m : ℕ) → 0 < d → n ≤ m * d → ceiling n d ≤ m
ceiling_least n d m p h =
    let t : ceiling n d * d < (m + 1) * d = omega (arith, ceiling_near n d p) in
    let u : ceiling n d < m + 1 = lt_of_mul-lt-mul_right d t in
    omega arith

-- of two fractions the greater has the greater ceiling
pub ceiling_mono : (n d n' d' : ℕ) → 0 < d → 0 < d' → n * d' ≤ n' * d → ceiling n d ≤ ceiling n' d'
ceiling_mono n d n' d' p p' h =
    let t : n * d' ≤ (ceiling n' d' * d) * d' = omega (arith, mul-le-mul_right d (ceiling_reaches n' d' p')) in
    ceiling_least n d (ceiling n' d') p (le_of_mul-le-mul_right t p')

-- fractions that are equal have one ceiling
pub ceiling_same : (n d n' d' : ℕ) → 0 < d → 0 < d' → n * d' ≡ n' * d → ceiling n d ≡ ceiling n' d'
ceiling_same n d n' d' p p' e = le_antisymm (ceiling_mono n d n' d' p p' (omega arith)) (ceiling_mono n' d' n d p' p (omega arith))

-- what is at least n/d and less than 1 above it
pub ceiling_only : (n d m : ℕ) → 0 < d → n ≤ m * d → m * d < n + d → m ≡ ceiling n d
ceiling_only n d m p h k =
    let t : m * d < (ceiling n d + 1) * d = omega (arith, ceiling_reaches n d p) in
    let u : m < ceiling n d + 1 = lt_of_mul-lt-mul_right d t in
    le_antisymm (omega arith) (ceiling_least n d m p h)

rest : (r : ℕ) → ((r ≡ 0) × (min 1 r ≡ 0)) ⊎ ((0 < r) × (min 1 r ≡ 1))
rest zero = inl (refl, refl)
rest (suc r) = inr (omega arith, omega arith)

-- the ceiling as the machine finds it
pub ceiling_is : (n d : ℕ) → 0 < d → n / d + min 1 (n % d) ≡ ceiling n d
ceiling_is n d p = ways (rest (n % d))
  where
    s : n / d * d + n % d ≡ n
    s = div-add-mod' n d

    l : n % d < d
    l = mod-lt n p

    ways : ((n % d ≡ 0) × (min 1 (n % d) ≡ 0)) ⊎ ((0 < n % d) × (min 1 (n % d) ≡ 1)) → n / d + min 1 (n % d) ≡ ceiling n d
    ways (inl h) = rw h.1 (ceiling_only n d (n / d + 0) p (omega arith) (omega arith))
    ways (inr h) = rw h.1 (ceiling_only n d (n / d + 1) p (omega arith) (omega arith))

-- what the ceiling is
pub ceiling_law : (n d : ℕ) → 0 < d → Least n d (ceiling n d)
ceiling_law n d p = record { reaches = ceiling_reaches n d p; least = λ m h. ceiling_least n d m p h }

-- nothing is divided by 0
pub ceiling_zero : (n : ℕ) → 0 ≡ ceiling n 0
unfolding ceiling
ceiling_zero n = sym (div-zero (n + (0 - 1)))
