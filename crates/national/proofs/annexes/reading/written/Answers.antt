use Rattle.std.proofs.Common.{length, Ok, sym, ap, ◌∙◌}
use Rattle.national.proofs.Granting.{written_length}
use Rattle.national.proofs.annexes.reading.written.Goals as goal

pub copy_from_slice-requires : goal.copy_from_slice-requires
copy_from_slice-requires c = sym (ap length c.as_slice.ensures ∙ written_length c.args.text.now _ c.in_ok-line.ensures)

pub returns : goal.returns
returns c = ap Ok (c.copy_from_slice.ensures.after ∙ c.as_slice.ensures) ∙ c.in_ok-line.ensures
