-- What the bar book means over the numbers of an annex. Assumes nothing.
use Rattle.std.specs.Prelude.{◌≡◌, ℕ, ◌≤◌, Bool, true, ◌∷◌, slice_index_or}
use Rattle.eurocode.specs.declared.Situation.{Situation}
use Rattle.annex.specs.declared.numbers.Numbers.{Numbers}
use Rattle.measure.specs.Fractions.{Fraction}
use Rattle.anchorage.specs.Lengths.{exact, figure}
use Rattle.anchorage.specs.Rules.{rules}
use Rattle.book.specs.Meaning.{Meaning}
use Rattle.bars.specs.declared.lines.BarLine.{BarLine}
use Rattle.bars.specs.Details.{detail_of, bar_of}
use Rattle.bars.specs.Tests.{test_of}

-- p asks no less than q: kind, shape and member the same; dia, stress, bond, share, layers and agg no smaller; every other
-- field no larger
pub record AsksNoLess (p q : BarLine) : Type 0 where
  pub kind : p.kind ≡ q.kind
  pub shape : p.shape ≡ q.shape
  pub member : p.member ≡ q.member
  pub dia : q.dia ≤ p.dia
  pub stress : q.stress ≤ p.stress
  pub bond : q.bond ≤ p.bond
  pub share : q.share ≤ p.share
  pub layers : q.layers ≤ p.layers
  pub agg : q.agg ≤ p.agg
  pub fck : p.fck ≤ q.fck
  pub fyk : p.fyk ≤ q.fyk
  pub gap : p.gap ≤ q.gap
  pub side : p.side ≤ q.side
  pub cover : p.cover ≤ q.cover
  pub trans : p.trans ≤ q.trans
  pub eff : p.eff ≤ q.eff
  pub weld : p.weld ≤ q.weld
  pub press : p.press ≤ q.press
  pub apart : p.apart ≤ q.apart
  pub form : p.form ≤ q.form
  pub mandrel : p.mandrel ≤ q.mandrel
  pub pitch : p.pitch ≤ q.pitch
  pub provided : p.provided ≤ q.provided

-- the figure of a line, in mm
unfoldable pub bar_figure : Numbers → Situation → BarLine → ℕ
bar_figure n s l = figure (detail_of l) (bar_of n s l)

-- its exact requirement, in mm
unfoldable pub bar_exact : Numbers → Situation → BarLine → Fraction
bar_exact n s l = exact (detail_of l) (bar_of n s l)

-- whether it meets a rule, counted from 1; there is no rule 0, and none past the eighth
unfoldable pub bar_meets : Numbers → Situation → ℕ → BarLine → Bool
bar_meets n s r l = slice_index_or (true ∷ rules (detail_of l) (bar_of n s l)) r true

abbrev pub bar_meaning : Numbers → Meaning BarLine
bar_meaning n = record { rules = 8; AsksNoLess = AsksNoLess; test = test_of n; meets = bar_meets n; exact = bar_exact n; figure = bar_figure n }
