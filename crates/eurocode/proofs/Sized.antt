-- The number that a diameter or a strength stands for, and its row. Assumes nothing.
use Rattle.std.proofs.Common.{◌≡◌, ℕ, ◌<◌, T, List, get_or, sym, refl, ap, ◌∙◌, subst}
use native.Mathlib.Bridge.{le_prop}
use Rattle.eurocode.specs.declared.Diameter.{Diameter}
use Rattle.eurocode.specs.declared.Strength.{Strength}
use Rattle.eurocode.specs.Tables.{diameters, strengths, tabled, place, beside}
use Rattle.eurocode.specs.Sizes.{mm_of, fck_of}
use Rattle.eurocode.proofs.Tabled.{tabled_row, place_row, beside_row}

-- each is tabled
pub mm_tabled : (d : Diameter) → T (tabled (mm_of d) diameters)
unfolding diameters mm_of
mm_tabled d = tabled_row diameters d.row d.listed

pub fck_tabled : (s : Strength) → T (tabled (fck_of s) strengths)
unfolding strengths fck_of
fck_tabled s = tabled_row strengths s.row s.listed

-- the row is the number's place
pub place_mm : (d : Diameter) → place (mm_of d) diameters ≡ d.row
unfolding diameters place mm_of
place_mm d = place_row diameters refl d.row d.listed

pub place_fck : (s : Strength) → place (fck_of s) strengths ≡ s.row
unfolding strengths place fck_of
place_fck s = place_row strengths refl s.row s.listed

-- so the number tells which it is
pub mm_same : (d e : Diameter) → mm_of d ≡ mm_of e → d ≡ e
mm_same d e h =
    subst (λ r. (k : r < 11) → d ≡ record { row = r; listed = k }) (sym (place_mm d) ∙ ap (λ x. place x diameters) h ∙ place_mm e)
    (λ k. ap (λ l. record { row = d.row; listed = l }) (le_prop d.listed k)) e.listed

pub fck_same : (s t : Strength) → fck_of s ≡ fck_of t → s ≡ t
fck_same s t h =
    subst (λ r. (k : r < 9) → s ≡ record { row = r; listed = k }) (sym (place_fck s) ∙ ap (λ x. place x strengths) h ∙ place_fck t)
    (λ k. ap (λ l. record { row = s.row; listed = l }) (le_prop s.listed k)) t.listed

-- the values beside diameters and strengths are those at their rows
pub beside_mm : (values : List ℕ) (d : Diameter) → beside diameters values (mm_of d) ≡ get_or values d.row 0
unfolding diameters place mm_of
beside_mm values d = beside_row diameters refl d.row d.listed values

pub beside_fck : (values : List ℕ) (s : Strength) → beside strengths values (fck_of s) ≡ get_or values s.row 0
unfolding strengths place fck_of
beside_fck values s = beside_row strengths refl s.row s.listed values
