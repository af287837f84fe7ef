use Rattle.std.proofs.Common.{◌<◌, sym, ap, ◌∙◌, subst, arith}
use Rattle.measure.specs.Rounding.{Least, ceiling}
use Rattle.measure.proofs.Ceiling.{ceiling_is, ceiling_law, ceiling_zero}
use Rattle.measure.proofs.div_up.Goals as goal

pub returns-then-d-eq0 : goal.returns-then-d-eq0
returns-then-d-eq0 c =
    record { value = ceiling_zero c.args.n ∙ ap (ceiling c.args.n) (sym c.if-d-eq0.true); least = λ h. absurd (omega arith) }

pub returns-else-d-eq0 : goal.returns-else-d-eq0
returns-else-d-eq0 c =
    let p : 0 < c.args.d = omega arith in
    let e = c.div_ceil.ensures ∙ ceiling_is c.args.n c.args.d p in
    record { value = e; least = λ _. subst (Least c.args.n c.args.d) (sym e) (ceiling_law c.args.n c.args.d p) }
