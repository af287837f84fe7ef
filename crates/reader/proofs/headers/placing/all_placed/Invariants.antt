use Rattle.std.proofs.Common.{◌≡◌, ℕ, ◌<◌, Some, None, length, get_or}
use Rattle.reader.proofs.headers.placing.all_placed.Given as goal

-- the fields so far have the places that are written down
abbrev pub invariant-loop-field : goal.invariant-loop-field
invariant-loop-field l = (length l.places ≡ length l.found) × ((k : ℕ) → k < l.field → get_or l.found k None ≡ Some (get_or l.places k 0))
