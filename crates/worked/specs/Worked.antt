-- Lines worked by hand, and what the definitions answer to them under the recommended annex. Assumes nothing.
use Rattle.std.specs.Prelude.{◌≡◌, ℕ, List, [], ◌∷◌, Ok, Err, Result}
use Rattle.std.specs.List.{AllByRecursion}
use Rattle.eurocode.specs.declared.Situation.{Situation}
use Rattle.eurocode.specs.declared.Situation.TheVariants.{Persistent, Accidental}
use Rattle.refusal.specs.Refusals.{on_ok}
use Rattle.annex.specs.Numbers.{recommended}
use Rattle.book.specs.declared.faults.LineFault.{LineFault}
use Rattle.book.specs.declared.faults.LineFault.TheVariants.{Overstressed}
use Rattle.book.specs.Meaning.{Meaning, judged}
use Rattle.bars.specs.Lines.{line_of}
use Rattle.bars.specs.Meaning.{bar_meaning}

-- what a book answers to a line: its figure and its mark, or why it fails its test
abbrev pub answered : {L : Type 0} → Meaning L → Situation → L → Result (ℕ × ℕ) LineFault
answered m s l = on_ok (λ _. judged m s l) (m.test s l)

-- a line of a book in a situation, and its answer
pub data Worked : Type 0 where
  bar : Situation → List ℕ → Result (ℕ × ℕ) LineFault → Worked

-- the definitions answer so
abbrev pub Holds : Worked → Type 0
Holds (bar s ns answer) = answered (bar_meaning recommended) s (line_of ns) ≡ answer

-- an anchorage in tension of a straight bar of 16 mm in concrete of fck 25, by what differs from line to line
abbrev pub w : (kind fck stress bond shape gap share apart mandrel pitch provided : ℕ) → List ℕ
w kind fck stress bond shape gap share apart mandrel pitch provided =
    kind ∷ 16 ∷ fck ∷ 500 ∷ stress ∷ bond ∷ shape ∷ gap ∷ 30 ∷ 30 ∷ 0 ∷ 0 ∷ 1 ∷ 0 ∷ 0 ∷ share ∷ 1 ∷ apart ∷ 0 ∷ 16 ∷ mandrel ∷ pitch ∷ provided ∷ []

abbrev pub worked_lines : List Worked
worked_lines =
    bar Persistent (w 1 25 4347 1 1 60 0 0 0 0 560) (Ok (560, 0)) ∷
    bar Persistent (w 1 25 4347 1 1 60 0 0 0 0 559) (Ok (560, 8)) ∷
    bar Persistent (w 1 25 4347 2 1 60 0 0 0 0 560) (Ok (800, 8)) ∷
    bar Persistent (w 1 25 0 1 1 60 0 0 0 0 560) (Ok (160, 0)) ∷
    bar Accidental (w 1 25 4347 1 1 60 0 0 0 0 560) (Ok (448, 0)) ∷
    bar Persistent (w 1 25 4348 1 1 60 0 0 0 0 560) (Err Overstressed) ∷
    bar Persistent (w 3 25 4347 1 1 60 33 40 0 0 560) (Ok (644, 8)) ∷
    bar Persistent (w 3 25 4347 1 1 60 51 40 0 0 560) (Ok (840, 8)) ∷
    bar Persistent (w 1 25 4347 1 1 20 0 0 0 0 560) (Ok (644, 1)) ∷
    bar Persistent (w 1 25 4347 1 1 21 0 0 0 0 560) (Ok (644, 8)) ∷
    bar Persistent (w 1 20 4347 1 2 60 0 0 341 96 560) (Ok (773, 3)) ∷
    bar Persistent (w 1 20 4347 1 2 60 0 0 342 96 560) (Ok (773, 8)) ∷
    []

-- every one of them holds
abbrev pub AllHold : Type 0
AllHold = AllByRecursion Holds worked_lines
