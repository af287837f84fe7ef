-- The test of a bar line. Assumes nothing.
use Rattle.std.specs.Prelude.{◌*◌, Bool, cond, ◌&&◌, List, Result, ◌==◌, nat_le}
use Rattle.eurocode.specs.declared.Situation.{Situation}
use Rattle.annex.specs.declared.numbers.Numbers.{Numbers}
use Rattle.annex.specs.Numbers.{gs_of}
use Rattle.book.specs.declared.faults.LineFault.{LineFault}
use Rattle.fields.specs.Fields.{admitted}
use Rattle.book.specs.Fields.{tested}
use Rattle.bars.specs.declared.lines.BarLine.{BarLine}
use Rattle.bars.specs.Lines.{bar_fields, numbers_of}

-- whether each field admits its number
unfoldable pub in_range : BarLine → List Bool
in_range l = admitted bar_fields (numbers_of l)

-- a straight bar has neither mandrel nor pitch, any other has both
abbrev pub bend_agrees : BarLine → Bool
bend_agrees l = cond (l.shape == 1) (l.mandrel == 0 && l.pitch == 0) (nat_le 1 l.mandrel && nat_le 1 l.pitch)

-- an anchorage has no share, no distance between laps and no form of links; a lap has a share, and no welded bar
abbrev pub lap_agrees : BarLine → Bool
lap_agrees l = cond (nat_le l.kind 2) (l.share == 0 && (l.apart == 0 && l.form == 0)) (nat_le 1 l.share && l.weld == 0)

abbrev pub agrees : BarLine → Bool
agrees l = bend_agrees l && lap_agrees l

-- the stress is at most fyk/γs: stress/10 times γs/100 is at most fyk
abbrev pub borne : Numbers → Situation → BarLine → Bool
borne n s l = nat_le (l.stress * gs_of n s) (1000 * l.fyk)

abbrev pub test_of : Numbers → Situation → BarLine → Result (Unit {0}) LineFault
test_of n s l = tested (in_range l) (agrees l) (borne n s l)
