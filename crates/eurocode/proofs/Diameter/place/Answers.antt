use Rattle.std.proofs.Common.{sym}
use Rattle.eurocode.proofs.Sized.{place_mm}
use Rattle.eurocode.proofs.Diameter.place.Goals as goal

pub returns : goal.returns
returns c = record { value = sym (place_mm c.args.self); within = c.args.self.listed }
