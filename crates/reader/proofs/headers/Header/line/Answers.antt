use Rattle.std.proofs.Common.{◌≡◌, ◌-◌, length, take, replicate, Ok, ap, ◌∙◌, rules}
use Rattle.std.proofs.lemmas.List.{take_at}
use Rattle.reader.specs.Headers.{places_in}
use Rattle.reader.proofs.Turns.{line_read}
use Rattle.reader.proofs.headers.Header.line.Goals as goal

pub returns : goal.returns
returns c =
    let long : length c.sort_by_field.new.fields ≡ c.args.self.now.fields = search rules in
    let self = c.args.self.now in
    let full : length (places_in self) ≡ self.fields = search rules in
    let read = c.in_ok-read_values.ensures.values in
    let e : length (take (self.fields - 0) (replicate 30 0)) ≡ length (places_in self) = search rules in
    record { numbers = ap Ok (take_at _ _ _ long ∙ c.sort_by_field.ensures) ∙ line_read self.fields _ self.places _ _ read e; after = c.in_ok-read_values.ensures.rest }
