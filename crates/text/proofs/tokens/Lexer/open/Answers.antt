use Rattle.std.proofs.Common.{sym, refl, ap, ◌∙◌}
use Rattle.std.proofs.lemmas.Bool.{cond-true}
use Rattle.text.specs.Texts.{parts_by_line}
use Rattle.text.proofs.Joining.{text_joined, text_apart}
use Rattle.text.proofs.tokens.Lexer.open.Goals as goal

pub returns : goal.returns
returns c =
    let whole = sym c.if-not-is_text.ensures in
    record {
      ahead = sym (cond-true _ _ _ whole);
      names = refl;
      joined = text_joined c.args.text.now whole;
      apart = λ lines plain e. ap parts_by_line (sym e) ∙ text_apart lines plain;
    }
