use Rattle.std.proofs.Common.{refl}
use Rattle.eurocode.specs.Tables.{diameters}
use Rattle.eurocode.specs.Sizes.{mm_of}
use Rattle.eurocode.proofs.Sized.{mm_tabled}
use Rattle.eurocode.proofs.Diameter.mm.Goals as goal

pub returns : goal.returns
unfolding diameters mm_of
returns c = record { value = refl; listed = mm_tabled c.args.self }
