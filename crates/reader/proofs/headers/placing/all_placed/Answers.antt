use Rattle.std.proofs.Common.{◌≡◌, Err, None, get_or, ap, ◌∙◌, arith, rules, tests}
use Rattle.std.proofs.lemmas.Result.{err_from_is_err_and}
use Rattle.refusal.specs.declared.Refusal.TheVariants.{Missing}
use Rattle.reader.proofs.Placed.{placed, missed}
use Rattle.reader.proofs.headers.placing.all_placed.Goals as goal

pub returns-in_err-places : goal.returns-in_err-places
returns-in_err-places c =
    let p = err_from_is_err_and c.from_residual.result c.from_residual.ensures.1 in
    let none : get_or c.args.found.now c.loop-field.field None ≡ None = search (rules, tests) in
    let is : c.in_err-places.field-0.0 ≡ Missing = search (rules, tests) in
    rw (p.1, p.2) (ap Err is ∙ missed _ _ c.loop-field-test.true none)

pub returns : goal.returns
returns c = placed _ _ c.loop-field.invariant.0 (λ k lt. c.loop-field.invariant.1 k (omega (arith, lt, c.loop-field-test.false, c.loop-field.auto.field-end)))
