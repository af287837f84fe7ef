use Rattle.std.proofs.Common.{refl}
use Rattle.text.proofs.Cutting.{parts_cut, between_whole}
use Rattle.text.proofs.tokens.first_part.Goals as goal

pub returns-in-Some : goal.returns-in-Some
returns-in-Some c = record { parts = parts_cut _ _ _ c.in-Some.ensures; inside = refl }

pub returns-in-None : goal.returns-in-None
returns-in-None c = record { parts = between_whole 59 _ c.in-None.ensures; inside = refl }
