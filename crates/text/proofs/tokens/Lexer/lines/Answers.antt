use Rattle.std.proofs.Common.{◌≡◌, ◌+◌, true, length, sym, ap, ◌∙◌, ⊎_elim, arith}
use Rattle.text.specs.Texts.{parts_by_line}
use Rattle.text.specs.Tokens.{in_line, lines_from}
use Rattle.text.proofs.Cutting.{feeds_count, feeds_le, line_counted}
use Rattle.text.proofs.tokens.Lexer.lines.Goals as goal

pub overflow_add-result : goal.overflow_add-result
overflow_add-result c = omega (arith, c.line_feeds-lines.ensures, feeds_le c.args.self.now.rest.now)

pub returns-in-LineStart : goal.returns-in-LineStart
returns-in-LineStart c =
    c.line_feeds-lines.ensures ∙ sym (feeds_count c.args.self.now.rest.now) ∙ sym (ap (λ p. length (lines_from p (parts_by_line c.args.self.now.rest.now))) c.in-LineStart.is)

pub returns-in-Part : goal.returns-in-Part
returns-in-Part c =
    let inside : in_line c.args.self.now.position ≡ true = ⊎_elim (λ w. ap in_line w.1) (λ e. ap in_line e) c.in-Part.is in
    ap (λ n. n + 1) c.line_feeds-lines.ensures ∙ sym (line_counted c.args.self.now.position c.args.self.now.rest.now inside)
