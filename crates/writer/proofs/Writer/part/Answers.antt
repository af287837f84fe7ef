use Rattle.std.proofs.Common.{[], ◌∷◌, ◌++◌, ap}
use Rattle.writer.proofs.Writing.{wrote_both, wrote_as}
use Rattle.writer.proofs.Writer.part.Goals as goal

pub returns : goal.returns
returns g c = wrote_as (ap (λ e. g.P.Written.text c.args.part ++ e ∷ []) c.byte.ensures) (wrote_both c.write.ensures c.byte-2.ensures)
