-- Places in a line. Assumes nothing.
use Rattle.std.specs.Prelude.{ℕ, Bool, true, ◌&&◌, List, [], ◌∷◌, nat_le}

-- each is one of the places 1 to n
abbrev pub all_within : ℕ → List ℕ → Bool
all_within n [] = true
all_within n (p ∷ ps) = (nat_le 1 p && nat_le p n) && all_within n ps
