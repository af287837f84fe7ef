use Rattle.std.proofs.Common.{◌≡◌, ◌+◌, length, sym, subst, ap, ◌∙◌, rules, MatchOption}
use Rattle.std.specs.Option.{option_map}
use Rattle.checklist.specs.Firsts.{Passes, FailsFirst, test_at}
use Rattle.checklist.proofs.Failing.{first_position, first_law}
use Rattle.checklist.proofs.first_failed.Goals as goal

pub returns : goal.returns
returns c =
    let tests = c.args.tests.now in
    let n = length tests in
    let told : c.map.result ≡ option_map (λ k. k + 1) c.place_of_first.result = search rules in
    let is = told ∙ ap (option_map (λ k. k + 1)) c.place_of_first.ensures.value ∙ first_position tests in
    record { value = is; first = subst (λ o. MatchOption o (Passes (test_at tests) 0 n) (FailsFirst (test_at tests) 0 n)) (sym is) (first_law (test_at tests) 0 n) }
