use Rattle.std.proofs.Common.{◌≡◌, ◌*◌, ◌<◌, get_or, sym, subst}
use Rattle.eurocode.specs.Tables.{areas, area_of}
use Rattle.eurocode.specs.Sizes.{mm_of}
use Rattle.eurocode.proofs.Sized.{mm_tabled, beside_mm}
use Rattle.eurocode.proofs.Rising.{area_rises, slender_rises}
use Rattle.eurocode.proofs.Diameter.area.Goals as goal

pub returns : goal.returns
unfolding areas area_of
returns c =
    let d = c.args.self in
    let value : get_or areas d.row 0 ≡ area_of (mm_of d) = sym (beside_mm areas d) in
    record {
      value = value;
      thicker = λ φ m h. subst (λ a. a < area_of φ) (sym value) (area_rises.strict (mm_of d) φ (mm_tabled d) m h);
      slender = λ φ m h. subst (λ a. a * φ < area_of φ * mm_of d) (sym value) (slender_rises.strict (mm_of d) φ (mm_tabled d) m h);
    }
