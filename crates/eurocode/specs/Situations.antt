-- The numbers of the design situations. Assumes nothing.
use Rattle.std.specs.Prelude.{ℕ, cond, Some, None, Option, Result, ◌==◌}
use Rattle.std.specs.Option.{ok_or}
use Rattle.eurocode.specs.declared.Situation.{Situation}
use Rattle.eurocode.specs.declared.Situation.TheVariants.{Persistent, Accidental}
use Rattle.eurocode.specs.declared.situations.UnknownSituation.{UnknownSituation}

-- 1 is persistent and 2 accidental; no other number is a situation's
abbrev pub situation_of : ℕ → Option Situation
situation_of n = cond (n == 1) (Some Persistent) (cond (n == 2) (Some Accidental) None)

-- the number of a situation
abbrev pub number_of : Situation → ℕ
number_of Persistent = 1
number_of Accidental = 2

-- the situation of a number; any other number is handed back
abbrev pub situation_numbered : ℕ → Result Situation UnknownSituation
situation_numbered n = ok_or (situation_of n) (record { number = n })
