use Rattle.std.proofs.Common.{◌≡◌, length, get_or, sym, ap, refl, rules}
use Rattle.std.proofs.lemmas.List.FromFn.{fill_by_all}
use Rattle.annex.specs.Numbers.{fields_of}
use Rattle.annex.proofs.numbers.ArrayU32NUMBERSFromNumbers.from.Goals as goal

pub returns : goal.returns
returns c =
    let n = c.args.numbers in
    let long : length n.multiples ≡ 11 = search rules in
    ap (λ ms. fields_of (record n { multiples = ms })) (sym (fill_by_all (λ i. get_or n.multiples i 0) n.multiples 11 0 long (λ k _. refl)))
