use Rattle.std.proofs.Common.{◌≡◌, length, Ok, ap, ◌∙◌, arith, rules}
use Rattle.std.proofs.lemmas.List.{take_at}
use Rattle.reader.proofs.Bearing.{header_ready}
use Rattle.reader.proofs.headers.Header.read.Goals as goal

pub invariant_of-result : goal.invariant_of-result
invariant_of-result g c =
    let named = g.met.N.Named.named c.args.named.now in
    let long : length c.place_names.new.places ≡ c.field_count-fields.result = search rules in
    record { few = omega (arith, c.field_count-fields.ensures, named.few); placed = header_ready _ _ _ _ _ named.unlike c.field_count-fields.ensures long c.in_ok-place_names.ensures.places }

pub returns : goal.returns
returns g c =
    let long : length c.place_names.new.places ≡ c.field_count-fields.result = search rules in
    record { places = ap Ok (take_at _ _ _ long) ∙ c.in_ok-place_names.ensures.places; after = c.in_ok-place_names.ensures.rest }
