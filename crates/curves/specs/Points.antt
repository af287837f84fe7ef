-- The lines of the handbook's tables and curves, and their lengths under the recommended annex. Assumes nothing.
use Rattle.std.specs.Prelude.{◌≡◌, ℕ, ◌*◌, ◌≤◌, Bool, true, cond, ◌&&◌, Some, None, Option, nat_le}
use Rattle.eurocode.specs.declared.Situation.TheVariants.{Persistent}
use Rattle.annex.specs.Numbers.{recommended}
use Rattle.anchorage.specs.Bonds.{bond_number}
use Rattle.anchorage.specs.declared.bonds.Bond.{Bond}
use Rattle.book.specs.Meaning.{figure_of}
use Rattle.bars.specs.declared.lines.BarLine.{BarLine}
use Rattle.bars.specs.Meaning.{bar_meaning}
use Rattle.curves.specs.declared.entries.Joint.{Joint}
use Rattle.curves.specs.declared.entries.Joint.TheVariants.{Anchorage, Lap}

-- in tension
abbrev pub kind_of : Joint → ℕ
kind_of Anchorage = 1
kind_of (Lap share) = 3

-- the share lapped, in percent
abbrev pub share_of : Joint → ℕ
share_of Anchorage = 0
share_of (Lap share) = share

-- A straight bar of fyk 500 in a beam, with a gap of 2φ and side and cover of φ, so that α2 to α5 are 1. Of the rules alone,
-- and not of the length, speak the aggregate and the length provided.
abbrev pub entry_line : Joint → (φ fck : ℕ) → Bond → (stress : ℕ) → BarLine
entry_line joint φ fck bond stress = record {
  kind = kind_of joint;
  dia = φ;
  fck = fck;
  fyk = 500;
  stress = stress;
  bond = bond_number bond;
  shape = 1;
  gap = 2 * φ;
  side = φ;
  cover = φ;
  trans = 0;
  eff = 0;
  member = 1;
  weld = 0;
  press = 0;
  share = share_of joint;
  layers = 1;
  apart = 0;
  form = 0;
  agg = 16;
  mandrel = 0;
  pitch = 0;
  provided = 0;
}

-- its length in the persistent situation, in mm
unfoldable pub length_at : Joint → (φ fck : ℕ) → Bond → (stress : ℕ) → ℕ
length_at joint φ fck bond stress = figure_of (bar_meaning recommended) Persistent (entry_line joint φ fck bond stress)

-- the full stress of fyk 500, in tenths of MPa: the greatest that is at most 500/1.15
abbrev pub full_stress : ℕ
full_stress = 4347

-- a lap is of 1 to 100 percent
abbrev pub shared : Joint → Bool
shared Anchorage = true
shared (Lap share) = nat_le 1 share && nat_le share 100

-- where there is a point: up to the full stress
abbrev pub on_curve : Joint → ℕ → Bool
on_curve joint stress = nat_le stress full_stress && shared joint

abbrev pub point_of : Joint → (φ fck : ℕ) → Bond → (stress : ℕ) → Option ℕ
point_of joint φ fck bond stress = cond (on_curve joint stress) (Some (length_at joint φ fck bond stress)) None

-- the same kind of joint, with no smaller share
pub record NoLess (more less : Joint) : Type 0 where
  pub kind : kind_of more ≡ kind_of less
  pub share : share_of less ≤ share_of more
