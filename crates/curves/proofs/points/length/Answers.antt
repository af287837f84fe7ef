use Rattle.std.proofs.Common.{◌≡◌, true, sym, ap, ◌∙◌, arith}
use Rattle.std.proofs.lemmas.Bool.{and_from, le-leb}
use Rattle.eurocode.specs.declared.Situation.TheVariants.{Persistent}
use Rattle.eurocode.specs.Sizes.{mm_of, fck_of}
use Rattle.eurocode.proofs.Sized.{mm_tabled, fck_tabled}
use Rattle.annex.specs.Numbers.{recommended}
use Rattle.book.specs.Meaning.{figure_of}
use Rattle.bars.specs.Meaning.{bar_meaning}
use Rattle.curves.specs.Points.{length_at, on_curve}
use Rattle.curves.proofs.Growing.{grows}
use Rattle.curves.proofs.points.length.Goals as goal

pub returns-clause-rises : goal.returns-clause-rises
unfolding length_at
returns-clause-rises c =
    let joint = c.args.joint in
    let φ = mm_of c.args.entry.diameter in
    let fck = fck_of c.args.entry.strength in
    let bond = c.args.entry.bond in
    let stress = c.args.stress in
    let on : on_curve joint stress ≡ true = and_from _ _ (le-leb stress 4347 (omega arith)) (sym c.if-not-is_shared.ensures) in
    let is : c.figure.result ≡ length_at joint φ fck bond stress = c.figure.ensures ∙ ap (figure_of (bar_meaning recommended) Persistent) c.line_of.ensures in
    λ more φ' σ j t d h on'. omega (arith, is, grows joint more φ φ' fck bond stress σ (mm_tabled c.args.entry.diameter) t (fck_tabled c.args.entry.strength) j d h on on')
