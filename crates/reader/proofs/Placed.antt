-- The places of all fields, or that one is missing. Assumes nothing.
use Rattle.std.proofs.Common.{◌≡◌, ℕ, zero, suc, ◌<◌, List, [], ◌∷◌, length, get_or, Some, None, Ok, Err, Option, Result, refl, sym, ap, ◌∙◌, arith}
use Rattle.refusal.specs.declared.Refusal.{Refusal}
use Rattle.refusal.specs.declared.Refusal.TheVariants.{Missing}
use Rattle.refusal.specs.Refusals.{on_ok}
use Rattle.reader.specs.Names.{place_then, all_placed}

-- each field has a place, and it is written down
pub placed : (found : List (Option ℕ)) (places : List ℕ) → length places ≡ length found → ((k : ℕ) → k < length found → get_or found k None ≡ Some (get_or places k 0)) → Ok places ≡ all_placed found
placed [] [] long h = refl
placed [] (y ∷ ys) long h = absurd (omega (arith, long))
placed (x ∷ xs) [] long h = absurd (omega (arith, long))
placed (x ∷ xs) (y ∷ ys) long h =
    ap (λ o. on_ok (λ places. y ∷ places) o) (placed xs ys (omega (arith, long)) (λ k lt. h (suc k) (omega (arith, lt)))) ∙ ap (λ o. place_then o (all_placed xs)) (sym (h 0 (omega arith)))

-- a field has none
pub missed : (found : List (Option ℕ)) (i : ℕ) → i < length found → get_or found i None ≡ None → ◌≡◌ {A = Result (List ℕ) Refusal} (Err Missing) (all_placed found)
missed [] i lt e = absurd (omega (arith, lt))
missed (x ∷ xs) zero lt e = ap (λ o. place_then o (all_placed xs)) (sym e)
missed (None ∷ xs) (suc i) lt e = refl
missed (Some k ∷ xs) (suc i) lt e = ap (λ o. on_ok (λ places. k ∷ places) o) (missed xs i (omega (arith, lt)) e)
