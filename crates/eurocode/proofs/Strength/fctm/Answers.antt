use Rattle.std.proofs.Common.{◌≡◌, ◌<◌, get_or, sym, subst}
use Rattle.eurocode.specs.Tables.{fctms, fctm_of}
use Rattle.eurocode.specs.Sizes.{fck_of}
use Rattle.eurocode.proofs.Sized.{fck_tabled, beside_fck}
use Rattle.eurocode.proofs.Rising.{fctm_rises}
use Rattle.eurocode.proofs.Strength.fctm.Goals as goal

pub returns : goal.returns
unfolding fctms fctm_of
returns c =
    let s = c.args.self in
    let value : get_or fctms s.row 0 ≡ fctm_of (fck_of s) = sym (beside_fck fctms s) in
    record { value = value; stronger = λ f m h. subst (λ t. t < fctm_of f) (sym value) (fctm_rises.strict (fck_of s) f (fck_tabled s) m h) }
