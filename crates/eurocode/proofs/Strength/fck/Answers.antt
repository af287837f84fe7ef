use Rattle.std.proofs.Common.{refl}
use Rattle.eurocode.specs.Tables.{strengths}
use Rattle.eurocode.specs.Sizes.{fck_of}
use Rattle.eurocode.proofs.Sized.{fck_tabled}
use Rattle.eurocode.proofs.Strength.fck.Goals as goal

pub returns : goal.returns
unfolding strengths fck_of
returns c = record { value = refl; listed = fck_tabled c.args.self }
