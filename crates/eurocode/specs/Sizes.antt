-- The number that a diameter or a strength stands for. Assumes nothing.
use Rattle.std.specs.Prelude.{ℕ, slice_index}
use Rattle.eurocode.specs.declared.Diameter.{Diameter}
use Rattle.eurocode.specs.declared.Strength.{Strength}
use Rattle.eurocode.specs.Tables.{diameters, strengths}

-- in mm
unfoldable pub mm_of : Diameter → ℕ
mm_of d = slice_index diameters d.row

-- in MPa
unfoldable pub fck_of : Strength → ℕ
fck_of s = slice_index strengths s.row
