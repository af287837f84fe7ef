use Rattle.std.proofs.Common.{◌≡◌, ℕ, ◌<◌, [], get_or}
use Rattle.reader.proofs.headers.placing.find.Given as goal

abbrev pub invariant-loop-field : goal.invariant-loop-field
invariant-loop-field g l = (k : ℕ) → k < l.field → get_or (g.N.Named.names l.named) k [] ≡ l.name → ⊥
