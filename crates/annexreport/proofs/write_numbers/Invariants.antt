use Rattle.std.proofs.Common.{◌-◌, length}
use Rattle.text.specs.Texts.{text_of}
use Rattle.writer.proofs.Writing.{Going}
use Rattle.annexreport.specs.Report.{field_lines, numbers_text}
use Rattle.annexreport.proofs.write_numbers.Given as goal

-- the lines from this field on are left
abbrev pub invariant-loop-field : goal.invariant-loop-field
invariant-loop-field l = Going (numbers_text l.numbers) (text_of (field_lines l.numbers (length l.yielded) (21 - length l.yielded))) l.initial.w l.w
