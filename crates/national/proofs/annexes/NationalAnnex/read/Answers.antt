use Rattle.std.proofs.Common.{◌≡◌, Err, refl, ap, ◌∙◌, subst}
use Rattle.std.proofs.lemmas.Result.{err_from_is_err_and}
use Rattle.refusal.specs.Refusals.{on_ok}
use Rattle.national.specs.Acceptance.{accepted_of}
use Rattle.national.specs.Reading.{and_then, annex_of, Leaves}
use Rattle.national.proofs.Granting.{set_leaves, read_granted, read_first}
use Rattle.national.proofs.annexes.NationalAnnex.read.Goals as goal

pub returns-in_err-fields : goal.returns-in_err-fields
returns-in_err-fields c =
    let p = err_from_is_err_and c.from_residual.result c.from_residual.ensures.1 in
    let e : Err p.0 ≡ annex_of c.args.text.now = ap (λ r. and_then r accepted_of) (ap Err p.2 ∙ c.in_err-fields.ensures) in
    let is = p.1 ∙ ap (on_ok (λ _. tt)) e in
    let left = subst (λ o. Leaves o c.args.self.now c.args.self.now) e refl in
    record { answers = is; leaves = left; first = read_first _ _ is; granted = read_granted _ c.args.self.now c.args.self.now _ is left }

pub returns : goal.returns
returns c =
    let e : accepted_of c.in_ok-fields.fields ≡ annex_of c.args.text.now = ap (λ r. and_then r accepted_of) c.in_ok-fields.ensures in
    let is = c.set.ensures.answers ∙ ap (on_ok (λ _. tt)) e in
    let left = subst (λ o. Leaves o c.args.self.now c.set.new.self) e (set_leaves _ c.args.self.now c.set.new.self _ c.set.ensures.answers c.set.ensures.leaves) in
    record { answers = is; leaves = left; first = read_first _ _ is; granted = read_granted _ c.args.self.now c.set.new.self _ is left }
