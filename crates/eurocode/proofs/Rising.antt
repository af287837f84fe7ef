-- The laws of the tables, each by one computed test over the whole table. Assumes nothing.
use Rattle.std.proofs.Common.{ℕ, ◌*◌, ◌<◌, ◌≤◌, T, refl}
use Rattle.eurocode.specs.Tables.{diameters, areas, strengths, fctks, fctms, tabled, place, beside, area_of, fctk_of, fctm_of}
use Rattle.eurocode.proofs.Tabled.{Rises, rises, within_at, stands}

-- a thicker bar has more area
pub area_rises : Rises diameters (λ φ φ'. area_of φ) (λ φ φ'. area_of φ')
unfolding diameters areas tabled place beside area_of
area_rises = rises diameters (λ φ φ'. area_of φ) (λ φ φ'. area_of φ') refl (λ _. refl)

-- area over diameter rises too
pub slender_rises : Rises diameters (λ φ φ'. area_of φ * φ') (λ φ φ'. area_of φ' * φ)
unfolding diameters areas tabled place beside area_of
slender_rises = rises diameters (λ φ φ'. area_of φ * φ') (λ φ φ'. area_of φ' * φ) refl (λ _. refl)

-- a thicker bar stands at a later place
pub place_rises : Rises diameters (λ φ φ'. place φ diameters) (λ φ φ'. place φ' diameters)
unfolding diameters place
place_rises = rises diameters (λ φ φ'. place φ diameters) (λ φ φ'. place φ' diameters) refl (λ _. refl)

-- a stronger concrete has the higher tensile strengths
pub fctk_rises : Rises strengths (λ f f'. fctk_of f) (λ f f'. fctk_of f')
unfolding strengths fctks tabled place beside fctk_of
fctk_rises = rises strengths (λ f f'. fctk_of f) (λ f f'. fctk_of f') refl (λ _. refl)

pub fctm_rises : Rises strengths (λ f f'. fctm_of f) (λ f f'. fctm_of f')
unfolding strengths fctms tabled place beside fctm_of
fctm_rises = rises strengths (λ f f'. fctm_of f) (λ f f'. fctm_of f') refl (λ _. refl)

-- the least and the greatest of each column
pub diameter_within : (φ : ℕ) → T (tabled φ diameters) → (6 ≤ φ) × (φ ≤ 40)
unfolding diameters
diameter_within = within_at 6 40 (λ φ. φ) diameters refl

pub area_within : (φ : ℕ) → T (tabled φ diameters) → (283 ≤ area_of φ) × (area_of φ ≤ 12566)
unfolding diameters areas tabled place beside area_of
area_within = within_at 283 12566 area_of diameters refl

pub place_within : (φ : ℕ) → T (tabled φ diameters) → place φ diameters < 11
unfolding diameters
place_within φ m = (stands φ diameters m).0

pub strength_within : (f : ℕ) → T (tabled f strengths) → (12 ≤ f) × (f ≤ 50)
unfolding strengths
strength_within = within_at 12 50 (λ f. f) strengths refl

pub fctk_within : (f : ℕ) → T (tabled f strengths) → (11 ≤ fctk_of f) × (fctk_of f ≤ 29)
unfolding strengths fctks tabled place beside fctk_of
fctk_within = within_at 11 29 fctk_of strengths refl

pub fctm_within : (f : ℕ) → T (tabled f strengths) → (16 ≤ fctm_of f) × (fctm_of f ≤ 41)
unfolding strengths fctms tabled place beside fctm_of
fctm_within = within_at 16 41 fctm_of strengths refl
