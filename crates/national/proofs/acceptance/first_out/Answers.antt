use Rattle.std.proofs.Common.{◌≡◌, ◌≤◌, length, IfSome, subst, sym, ap, ◌∙◌, arith, rules}
use Rattle.std.proofs.lemmas.List.{length-map}
use Rattle.checklist.specs.Firsts.{first_failed, test_at}
use Rattle.fields.specs.Fields.{admitted}
use Rattle.fields.specs.Tables.{field_of}
use Rattle.national.proofs.Accepting.{out_found}
use Rattle.national.proofs.acceptance.first_out.Goals as goal

pub map-requires : goal.map-requires
map-requires c field is _ _ =
    let fields = c.fields.result.now in
    let long : length fields ≡ 21 = sym (length-map fields field_of) ∙ ap length c.fields.ensures.fields in
    let within : field ≤ length fields = subst (λ o. IfSome o (λ f. f ≤ length fields)) is c.first_out.ensures.within in
    record { fits = omega (arith, long, within) }

pub returns : goal.returns
returns c =
    let ns = c.args.fields.now in
    let full : length ns ≡ 21 = search rules in
    let told : c.map.result ≡ c.first_out.result = search rules in
    told ∙ c.first_out.ensures.value ∙ ap (λ fs. first_failed (test_at (admitted fs ns)) 0 (length (admitted fs ns))) c.fields.ensures.fields ∙ out_found ns full
