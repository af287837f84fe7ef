use Rattle.std.proofs.Common.{◌≡◌, sym, refl, ap, ◌∙◌, arith}
use Rattle.std.proofs.lemmas.Result.{err_from_is_err_and, MatchResult-at_ok}
use Rattle.refusal.specs.Refusals.{at_line, on_ok, on_err}
use Rattle.reader.specs.Headers.{numbers_in}
use Rattle.reader.proofs.Opening.{no_text, no_header, behind_header, few_behind}
use Rattle.reader.proofs.Saying.{checked_all, checked_refused}
use Rattle.reader.proofs.Turns.{checking_more, checking_stops, checking_all, told_stops, told_goes}
use Rattle.reader.proofs.headers.whole.check.Goals as goal

pub returns-in_err-lexer : goal.returns-in_err-lexer
returns-in_err-lexer g c =
    let p = err_from_is_err_and c.from_residual.result c.from_residual.ensures.1 in
    let good = g.met.N.Named.named c.args.named.now in
    checked_refused (g.N.Named.names c.args.named.now) c.args.text.now c.from_residual.result p.0 c.in_err-lexer.field-0.0 _ good p.1 p.2 (no_text (g.N.Named.names c.args.named.now) c.args.text.now _ c.in_err-lexer.ensures.ahead) refl

pub returns-in_err-header : goal.returns-in_err-header
returns-in_err-header g c =
    let p = err_from_is_err_and c.from_residual-in_err-header.result c.from_residual-in_err-header.ensures.1 in
    let good = g.met.N.Named.named c.args.named.now in
    checked_refused (g.N.Named.names c.args.named.now) c.args.text.now c.from_residual-in_err-header.result p.0 c.in_err-header.field-0.0 _ good p.1 p.2 (no_header (g.N.Named.names c.args.named.now) c.args.text.now _ _ c.in_ok-lexer.ensures.ahead c.in_err-header.ensures.places) refl

pub overflow_cast-line : goal.overflow_cast-line
overflow_cast-line g c =
    let few = few_behind (g.N.Named.names c.args.named.now) c.args.text.now _ _ _ c.in_ok-lexer.ensures.ahead c.in_ok-header.ensures.places c.in_ok-header.ensures.after in
    omega (arith, few, c.lines-lines.ensures, c.loop-line-test.true)

pub overflow_add-line : goal.overflow_add-line
overflow_add-line g c =
    let few = few_behind (g.N.Named.names c.args.named.now) c.args.text.now _ _ _ c.in_ok-lexer.ensures.ahead c.in_ok-header.ensures.places c.in_ok-header.ensures.after in
    omega (arith, few, c.lines-lines.ensures, c.loop-line-test.true)

pub returns-in_err-at_line : goal.returns-in_err-at_line
returns-in_err-at_line g c =
    let p = err_from_is_err_and c.from_residual-in_err-at_line.result c.from_residual-in_err-at_line.ensures.1 in
    let good = g.met.N.Named.named c.args.named.now in
    let told = told_stops numbers_in c.line.result _ c.in_err-at_line.field-0.0 (sym c.at_line.ensures ∙ c.in_err-at_line.was) in
    let stops = checking_stops _ _ _ _ c.loop-line.invariant (omega (arith, c.lines-lines.ensures, c.loop-line-test.true)) c.in_err-at_line.field-0.0 (told ∙ ap (on_err (at_line _)) c.line.ensures.numbers) in
    let all = behind_header (g.N.Named.names c.args.named.now) c.args.text.now _ _ _ c.in_ok-lexer.ensures.ahead c.in_ok-header.ensures.places c.in_ok-header.ensures.after in
    checked_refused (g.N.Named.names c.args.named.now) c.args.text.now c.from_residual-in_err-at_line.result p.0 c.in_err-at_line.field-0.0 _ good p.1 p.2 stops all

pub loop-line-preserved : goal.loop-line-preserved
loop-line-preserved g c =
    let went = told_goes c.line.result _ c.in_ok-at_line.field-0 (sym c.at_line.ensures ∙ c.in_ok-at_line.was) in
    checking_more _ _ _ _ c.loop-line.invariant (omega (arith, c.lines-lines.ensures, c.loop-line-test.true)) _ _ (ap (on_ok numbers_in) (sym went) ∙ c.line.ensures.numbers) (MatchResult-at_ok _ _ _ went c.line.ensures.after)

pub returns : goal.returns
returns g c =
    let good = g.met.N.Named.named c.args.named.now in
    let all = behind_header (g.N.Named.names c.args.named.now) c.args.text.now _ _ _ c.in_ok-lexer.ensures.ahead c.in_ok-header.ensures.places c.in_ok-header.ensures.after in
    let same : c.lines-lines.result ≡ c.loop-line.line = omega (arith, c.loop-line-test.false, c.loop-line.auto.line-end) in
    checked_all (g.N.Named.names c.args.named.now) c.args.text.now c.lines-lines.result c.loop-line.line _ good same (checking_all _ _ _ _ c.loop-line.invariant (omega (arith, c.lines-lines.ensures, c.loop-line-test.false))) all
