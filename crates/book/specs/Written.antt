-- Lines that are lists of numbers. Assumes nothing.
use Rattle.std.specs.Prelude.{◌≡◌, ℕ, List, length}

-- every list of n numbers is that of exactly one line, and every line has n of them
pub record Lists {L : Type 0} (n : ℕ) (numbers : L → List ℕ) : Type 0 where
  pub full : (l : L) → length (numbers l) ≡ n
  pub every : (ns : List ℕ) → length ns ≡ n → (l : L) × (numbers l ≡ ns)
  pub one : (k l : L) → numbers k ≡ numbers l → k ≡ l
