use Rattle.std.proofs.Common.{get_or, sym, ap, ◌∙◌}
use Rattle.eurocode.specs.Tables.{diameters}
use Rattle.eurocode.specs.Sizes.{mm_of}
use Rattle.eurocode.proofs.Tabled.{beside_tabled}
use Rattle.eurocode.proofs.Sized.{mm_tabled}
use Rattle.annex.specs.Numbers.{multiple_of}
use Rattle.annex.proofs.questions.Annex.multiple.Goals as goal

pub returns : goal.returns
returns g c =
    let multiples = c.numbers.result.now.multiples in
    let d = c.args.diameter in
    ap (λ i. get_or multiples i 0) c.place.ensures.value ∙ sym (beside_tabled diameters multiples (mm_of d) (mm_tabled d)) ∙ ap (λ n. multiple_of n (mm_of d)) c.numbers.ensures
