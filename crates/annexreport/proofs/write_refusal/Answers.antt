use Rattle.std.proofs.Common.{◌^◌, ◌<◌, [], ◌∷◌, codes, decimal, ap, arith}
use Rattle.refusal.specs.Refusals.{numbers_of}
use Rattle.text.specs.Texts.{text_of}
use Rattle.writer.proofs.Writing.{wrote_as}
use Rattle.annexreport.specs.Report.{refusal_text}
use Rattle.annexreport.proofs.Printing.{line_three, text_two}
use Rattle.annexreport.proofs.Measuring.{refusal_short}
use Rattle.annexreport.proofs.write_refusal.Goals as goal

pub returns : goal.returns
unfolding refusal_text
returns c =
    let names = codes "refused" ∷ codes "line" ∷ codes "place" ∷ [] in
    let ns = c.numbers-number.result in
    let is = c.numbers-number.ensures in
    let number = decimal ns.0 in
    let line = decimal ns.1 in
    let place = decimal ns.2 in
    let above = line_three (codes "refused") (codes "line") (codes "place") c.part.ensures c.part-2.ensures c.part-3.ensures in
    let below = line_three number line place c.part-4.ensures c.part-5.ensures c.part-6.ensures in
    let first : (numbers_of c.args.refusal).0 < 10 ^ 10 = omega (arith, ap (λ n. n.0) is) in
    let second : (numbers_of c.args.refusal).1 < 10 ^ 10 = omega (arith, ap (λ n. n.1) is) in
    let third : (numbers_of c.args.refusal).2 < 10 ^ 10 = omega (arith, ap (λ n. n.2) is) in
    record {
      wrote = wrote_as (ap (λ n. text_of (names ∷ (decimal n.0 ∷ decimal n.1 ∷ decimal n.2 ∷ []) ∷ [])) is) (text_two names (number ∷ line ∷ place ∷ []) above below);
      short = refusal_short c.args.refusal first second third;
    }
