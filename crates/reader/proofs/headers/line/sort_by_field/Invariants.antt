use Rattle.std.proofs.Common.{◌≡◌, take}
use Rattle.reader.specs.Lines.{by_field}
use Rattle.reader.proofs.headers.line.sort_by_field.Given as goal

abbrev pub invariant-loop-field : goal.invariant-loop-field
invariant-loop-field l = take l.field l.fields ≡ by_field (take l.field l.places) l.values
