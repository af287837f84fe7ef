use Rattle.std.proofs.Common.{◌≡◌, ◌<◌, get_or, sym, subst}
use Rattle.eurocode.specs.Tables.{fctks, fctk_of}
use Rattle.eurocode.specs.Sizes.{fck_of}
use Rattle.eurocode.proofs.Sized.{fck_tabled, beside_fck}
use Rattle.eurocode.proofs.Rising.{fctk_rises}
use Rattle.eurocode.proofs.Strength.fctk.Goals as goal

pub returns : goal.returns
unfolding fctks fctk_of
returns c =
    let s = c.args.self in
    let value : get_or fctks s.row 0 ≡ fctk_of (fck_of s) = sym (beside_fck fctks s) in
    record { value = value; stronger = λ f m h. subst (λ t. t < fctk_of f) (sym value) (fctk_rises.strict (fck_of s) f (fck_tabled s) m h) }
