use Rattle.std.proofs.Common.{◌≡◌, ℕ, sym, refl, ◌∙◌, subst}
use Rattle.measure.specs.Fractions.{Near}
use Rattle.book.specs.Meaning.{JudgedAbove, judged}
use Rattle.book.proofs.Judging.{judged_failed, figure_passed, right, judged_above}
use Rattle.book.proofs.books.judge.Goals as goal

pub returns : goal.returns
returns g c =
    let m = g.B.Book.meaning c.args.book.now in
    let s = c.args.situation in
    let l = c.args.line.now in
    let figure = c.figure.ensures in
    let mark = c.mark.ensures in
    let value : ◌≡◌ {A = ℕ × ℕ} (c.figure.result, c.mark.result) (judged m s l) = λ i. (figure i, mark i) in
    record {
      value = value;
      promised = record {
        failed = λ e. value ∙ judged_failed m s l e;
        near = λ e. subst (λ n. Near n (m.exact s l)) (sym (figure ∙ figure_passed m s l e)) (g.met.B.Book.near c.args.book.now s l e);
        right = right m s l c.mark.result mark;
        above = λ q a p e. subst (λ j. JudgedAbove j (judged m s q)) (sym value) (judged_above m s l m s q refl p e (g.met.B.Book.order c.args.book.now s l q a p e));
      };
    }
