-- What a writer has written and what is ahead of it. Assumes nothing.
use Rattle.std.specs.Prelude.{◌≡◌, ℕ, Bool, true, false, List, ◌++◌, length, take, drop}
use Rattle.writer.specs.declared.Writer.{Writer}
use Rattle.writer.specs.declared.Ending.{Ending}
use Rattle.writer.specs.declared.Ending.TheVariants.{Part, Line}

-- whether more parts of the line follow
abbrev pub more_follow : Ending → Bool
more_follow Part = true
more_follow Line = false

-- the bytes written so far
abbrev pub done : Writer → List ℕ
done w = take w.at w.buffer.now

-- the buffer's bytes that are still the caller's
abbrev pub ahead : Writer → List ℕ
ahead w = drop w.at w.buffer.now

-- as much of `more` as fits was written behind what stood there, over as many of the bytes ahead, in the same buffer
pub record Wrote (more : List ℕ) (before after : Writer) : Type 0 where
  pub text : done after ≡ done before ++ take (length (ahead before)) more
  pub rest : ahead after ≡ drop (length more) (ahead before)
  pub same : after.buffer.ghost_name ≡ before.buffer.ghost_name

-- the bytes of `old` with a text laid over their start, as much of it as fits
abbrev pub laid_over : List ℕ → List ℕ → List ℕ
laid_over text old = take (length old) text ++ drop (length text) old
