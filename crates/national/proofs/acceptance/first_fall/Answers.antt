use Rattle.std.proofs.Common.{◌≡◌, ◌+◌, ◌<◌, length, take, drop, ltb, IfSome, subst, ap, ◌∙◌, arith, rules}
use Rattle.std.specs.List.{position, zip}
use Rattle.std.specs.Option.{option_map}
use Rattle.std.proofs.lemmas.List.{take_all, length-take-le, length-drop}
use Rattle.national.proofs.Accepting.{fall_found}
use Rattle.national.proofs.acceptance.first_fall.Goals as goal

pub map-requires : goal.map-requires
map-requires c place is =
    let ns = c.args.fields.now in
    let full : length ns ≡ 21 = search rules in
    let later : length (take 10 (drop 11 ns)) ≡ 10 = length-take-le 10 (drop 11 ns) (omega (arith, length-drop 11 ns, full)) in
    let within : place < length (take 10 (drop 11 ns)) = subst (λ o. IfSome o (λ p. p < length (take 10 (drop 11 ns)))) is c.place_of_fall.ensures.within in
    (λ _ _. record { fits = omega (arith, later, within) }, λ _ _. record { fits = omega (arith, later, within) }, λ _ _. record { fits = omega (arith, later, within) })

pub returns : goal.returns
returns c =
    let ns = c.args.fields.now in
    let full : length ns ≡ 21 = search rules in
    let told : c.map.result ≡ option_map (λ k. 11 + k + 1) c.place_of_fall.result = search rules in
    let former : take 11 (drop 10 ns) ≡ drop 10 ns = take_all 11 (drop 10 ns) (omega (arith, length-drop 10 ns, full)) in
    let later : take 10 (drop 11 ns) ≡ drop 11 ns = take_all 10 (drop 11 ns) (omega (arith, length-drop 11 ns, full)) in
    let steps : zip (take 11 (drop 10 ns)) (take 10 (drop 11 ns)) ≡ zip (drop 10 ns) (drop 11 ns) = λ i. zip (former i) (later i) in
    told ∙ ap (option_map (λ k. 11 + k + 1)) (c.place_of_fall.ensures.value ∙ ap (position (λ p. ltb p.1 p.0)) steps) ∙ fall_found ns full
