-- The tabled diameters and strengths, and what stands beside each. Assumes nothing.
use Rattle.std.specs.Prelude.{ℕ, suc, Bool, false, cond, ◌||◌, List, [], ◌∷◌, ◌==◌, slice_index}

-- bars, in mm
unfoldable pub diameters : List ℕ
diameters = 6 ∷ 8 ∷ 10 ∷ 12 ∷ 14 ∷ 16 ∷ 20 ∷ 25 ∷ 28 ∷ 32 ∷ 40 ∷ []

-- beside each diameter its area, in tenths of mm²
unfoldable pub areas : List ℕ
areas = 283 ∷ 503 ∷ 785 ∷ 1131 ∷ 1539 ∷ 2011 ∷ 3142 ∷ 4909 ∷ 6158 ∷ 8042 ∷ 12566 ∷ []

-- concretes by fck, the characteristic compressive strength, in MPa
unfoldable pub strengths : List ℕ
strengths = 12 ∷ 16 ∷ 20 ∷ 25 ∷ 30 ∷ 35 ∷ 40 ∷ 45 ∷ 50 ∷ []

-- beside each fck the characteristic tensile strength, in tenths of MPa
unfoldable pub fctks : List ℕ
fctks = 11 ∷ 13 ∷ 15 ∷ 18 ∷ 20 ∷ 22 ∷ 25 ∷ 27 ∷ 29 ∷ []

-- beside each fck the mean tensile strength, in tenths of MPa
unfoldable pub fctms : List ℕ
fctms = 16 ∷ 19 ∷ 22 ∷ 26 ∷ 29 ∷ 32 ∷ 35 ∷ 38 ∷ 41 ∷ []

-- x stands in the table
unfoldable pub tabled : ℕ → List ℕ → Bool
tabled x [] = false
tabled x (y ∷ ys) = x == y || tabled x ys

-- the place of x in the table, from 0, or the table's length
unfoldable pub place : ℕ → List ℕ → ℕ
place x [] = 0
place x (y ∷ ys) = cond (x == y) 0 (suc (place x ys))

-- what stands among the values at the place of x among the keys, 0 where x is none of them
unfoldable pub beside : List ℕ → List ℕ → ℕ → ℕ
beside keys values x = cond (tabled x keys) (slice_index values (place x keys)) 0

-- the area of a bar of diameter φ
unfoldable pub area_of : ℕ → ℕ
area_of φ = beside diameters areas φ

-- the characteristic tensile strength of a concrete of strength fck
unfoldable pub fctk_of : ℕ → ℕ
fctk_of fck = beside strengths fctks fck

-- its mean tensile strength
unfoldable pub fctm_of : ℕ → ℕ
fctm_of fck = beside strengths fctms fck
