use Rattle.std.proofs.Common.{length}
use Rattle.handbook.proofs.print_pages.Given as goal

abbrev pub decreases-loop-words : goal.decreases-loop-words
decreases-loop-words l = length l.words
