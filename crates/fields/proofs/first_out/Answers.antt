use Rattle.std.proofs.Common.{◌≡◌, ◌+◌, ap, ◌∙◌, rules}
use Rattle.std.specs.Option.{option_map}
use Rattle.fields.proofs.Admitting.{first_out_is}
use Rattle.fields.proofs.first_out.Goals as goal

pub returns-clause-value : goal.returns-clause-value
returns-clause-value c =
    let told : c.map.result ≡ option_map (λ k. k + 1) c.place_of_first.result = search rules in
    told ∙ ap (option_map (λ k. k + 1)) c.place_of_first.ensures.value ∙ first_out_is c.args.fields.now c.args.numbers.now
