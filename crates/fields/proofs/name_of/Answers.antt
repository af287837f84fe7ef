use Rattle.std.proofs.Common.{[], get_or, length, sym, ap, ◌∙◌}
use Rattle.std.proofs.lemmas.Bool.{ltb-true}
use Rattle.std.proofs.lemmas.List.{get_or-map}
use Rattle.fields.proofs.Admitting.{names_are}
use Rattle.fields.proofs.name_of.Goals as goal

pub returns-in-Some : goal.returns-in-Some
returns-in-Some c =
    let fields = c.args.fields.now in
    let i = c.args.field in
    let at = c.in-Some.ensures.lookup in
    ap (λ f. f.name.now) at.1 ∙ sym (get_or-map (λ f. f.name.now) fields i _ [] (ltb-true i (length fields) (sym at.0))) ∙ ap (λ names. get_or names i []) (sym (names_are fields))
