-- The digits of a number. Assumes nothing.
use Rattle.std.proofs.Common.{◌≡◌, ℕ, zero, suc, ◌+◌, ◌/◌, ◌%◌, ◌^◌, ◌<◌, ◌≤◌, false, eqb, List, [], ◌∷◌, length, decimal, sym, ap, ◌∙◌, mod-eq_of_lt, pow-suc, arith}
use Rattle.std.specs.Fmt.{digit_glyph, digits_onto, digits}
use Rattle.std.proofs.lemmas.Fmt.{decimal_digit}
use Rattle.std.proofs.lemmas.Bool.{cond_both, eqb-false}

-- the last digit of a number that has only one
pub one_digit : (n : ℕ) → n < 10 → decimal n ≡ (48 + n % 10) ∷ []
one_digit n h = decimal_digit n h ∙ ap (λ d. (48 + d) ∷ []) (sym (mod-eq_of_lt h))

-- digits go before what is written already: at least one of them, and at most k + 1 of a number below 10 ^ (k + 1)
spelled_kept : (f n : ℕ) (acc : List ℕ) → length acc ≤ length (digits_onto f 10 false n acc)
spelled_kept zero n acc = omega arith
spelled_kept (suc f) n acc = cond_both (eqb (n / 10) 0) _ _ (λ t. length acc ≤ length t) (λ _. omega arith) (λ _. omega (arith, spelled_kept f (n / 10) (digit_glyph false (n % 10) ∷ acc)))

spelled_some : (f n : ℕ) (acc : List ℕ) → length acc < length (digits_onto (suc f) 10 false n acc)
spelled_some f n acc = cond_both (eqb (n / 10) 0) _ _ (λ t. length acc < length t) (λ _. omega arith) (λ _. omega (arith, spelled_kept f (n / 10) (digit_glyph false (n % 10) ∷ acc)))

spelled_short : (f k n : ℕ) (acc : List ℕ) → n < 10 ^ suc k → length (digits_onto f 10 false n acc) ≤ suc k + length acc
spelled_short zero k n acc h = omega arith
spelled_short (suc f) zero n acc h = cond_both (eqb (n / 10) 0) _ _ (λ t. length t ≤ 1 + length acc) (λ _. omega arith) (λ e. absurd (eqb-false (n / 10) 0 e (omega arith)))
spelled_short (suc f) (suc k) n acc h =
    let less : n / 10 < 10 ^ suc k = omega (arith, pow-suc 10 (suc k)) in
    cond_both (eqb (n / 10) 0) _ _ (λ t. length t ≤ suc (suc k) + length acc) (λ _. omega arith) (λ _. omega (arith, spelled_short f k (n / 10) (digit_glyph false (n % 10) ∷ acc) less))

-- every number has a digit
pub decimal_some : (n : ℕ) → 0 < length (decimal n)
unfolding digits
decimal_some n = spelled_some 63 n []

-- a number below 10 ^ k has at most k digits
pub decimal_short : (k n : ℕ) → 1 ≤ k → n < 10 ^ k → length (decimal n) ≤ k
unfolding digits
decimal_short zero n p h = absurd (omega arith)
decimal_short (suc k) n p h = omega (arith, spelled_short 64 k n [] h)
