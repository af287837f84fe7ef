-- The fault of a line as a refusal. Assumes nothing.
use Rattle.refusal.specs.declared.Refusal.{Refusal}
use Rattle.refusal.specs.declared.Refusal.TheVariants as refusal
use Rattle.book.specs.declared.faults.LineFault.{LineFault}
use Rattle.book.specs.declared.faults.LineFault.TheVariants.{Range, Contradiction, Overstressed}

-- outside a text, so with line 0; load adds its own
abbrev pub refusal_of : LineFault → Refusal
refusal_of (Range field) = refusal.Range 0 field
refusal_of Contradiction = refusal.Contradiction 0
refusal_of Overstressed = refusal.Overstressed 0
