-- Every list of 23 numbers is that of exactly one bar line. Assumes nothing.
use Rattle.std.specs.Prelude.{◌≡◌, ℕ, List, length, slice_index, refl}
use Rattle.std.proofs.Common.{sym, ap, ◌∙◌}
use Rattle.std.proofs.lemmas.List.FromFn.{fill_by_all}
use Rattle.book.specs.Written.{Lists}
use Rattle.bars.specs.declared.lines.BarLine.{BarLine}
use Rattle.bars.specs.Lines.{numbers_of, line_of}

-- 23 numbers, by place, are the list
pub listed : (ns : List ℕ) → length ns ≡ 23 → numbers_of (line_of ns) ≡ ns
listed ns e = sym (fill_by_all (λ i. slice_index ns i) ns 23 0 e (λ k _. refl))

-- a line is that of its own numbers
back : (l : BarLine) → line_of (numbers_of l) ≡ l
back l = refl

pub lists : Lists 23 numbers_of
lists = record { full = λ l. refl; every = λ ns e. (line_of ns, listed ns e); one = λ k l e. sym (back k) ∙ ap line_of e ∙ back l }
