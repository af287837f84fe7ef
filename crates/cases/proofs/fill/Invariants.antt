use Rattle.std.proofs.Common.{◌-◌, vec_len}
use Rattle.cases.proofs.fill.Given as goal

abbrev pub decreases-loop-text : goal.decreases-loop-text
decreases-loop-text l = l.bytes - vec_len l.text
