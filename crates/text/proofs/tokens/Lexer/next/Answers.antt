use Rattle.std.proofs.Common.{◌≡◌, [], ◌∷◌, None, Option, refl, sym, ap, ◌∙◌, subst, rules}
use Rattle.std.specs.Option.{option_map}
use Rattle.text.specs.declared.tokens.Lexer.{Lexer}
use Rattle.text.specs.Texts.{parts_of, parts_by_line}
use Rattle.text.specs.Tokens.{Lexeme, lexeme, lines_from, ahead, Gives}
use Rattle.text.proofs.Cutting.{lines_cut, lines_none, gives_at, gives_none}
use Rattle.text.proofs.tokens.Lexer.next.Goals as goal

-- behind the last line nothing is given, and the lexer stays where it is
gives_nothing : {t : Option Lexeme} {l : Lexer} → t ≡ None → ahead l ≡ [] → Gives l.in_names (ahead l) t l
gives_nothing {t} {l} e none = subst (λ r. Gives l.in_names (ahead l) r l) (sym e) (gives_none refl refl none)

pub returns-in_err-line-in-LineStart : goal.returns-in_err-line-in-LineStart
returns-in_err-line-in-LineStart c =
    let none : parts_by_line c.args.self.now.rest.now ≡ [] = lines_none _ c.in_err-line-in-LineStart.ensures in
    let e : ahead c.args.self.now ≡ [] = ap (λ p. lines_from p (parts_by_line c.args.self.now.rest.now)) c.in-LineStart.is ∙ none in
    let r : option_map lexeme c.from_residual.result ≡ None = ap (option_map lexeme) c.from_residual.ensures in
    gives_nothing {t = option_map lexeme c.from_residual.result} {l = c.args.self.now} r e

pub returns-in_ok-line-in-LineStart : goal.returns-in_ok-line-in-LineStart
returns-in_ok-line-in-LineStart c =
    gives_at (ap (λ p. lines_from p (parts_by_line c.args.self.now.rest.now)) c.in-LineStart.is ∙ lines_cut _ _ _ c.in_ok-line-in-LineStart.ensures) c.part.ensures

pub returns-in-Part : goal.returns-in-Part
returns-in-Part c =
    let e : ahead c.args.self.now ≡ parts_of c.in-Part.line.now ∷ parts_by_line c.args.self.now.rest.now = search rules in
    gives_at e c.part-in-Part.ensures
