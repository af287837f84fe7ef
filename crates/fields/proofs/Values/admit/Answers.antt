use Rattle.std.proofs.Common.{sym, ap, ◌∙◌}
use Rattle.eurocode.proofs.Tabled.{any_is}
use Rattle.fields.specs.Fields.{admits}
use Rattle.fields.specs.Tables.{values_of}
use Rattle.fields.proofs.Values.admit.Goals as goal

pub returns-in-OneOf : goal.returns-in-OneOf
returns-in-OneOf c = c.contains.ensures.value ∙ any_is c.args.n c.in-OneOf.values.now ∙ sym (ap (λ v. admits (values_of v) c.args.n) c.in-OneOf.is)
