use Rattle.std.proofs.Common.{◌+◌, ◌≤◌, [], ◌∷◌, ◌++◌, length, take, drop, sym, refl, ap, ◌∙◌, arith}
use Rattle.std.proofs.lemmas.List.{take_more_set, take_all, drop-set-lt, drop-drop, drop_all, length-drop}
use Rattle.writer.proofs.Writing.{wrote_full}
use Rattle.writer.proofs.Writer.byte.Goals as goal

pub returns-then-self : goal.returns-then-self
returns-then-self c =
    let at = c.args.self.now.at in
    let buffer = c.args.self.now.buffer.now in
    let b = c.args.b in
    let room : 1 ≤ length (drop at buffer) = omega (arith, length-drop at buffer) in
    record {
      text = take_more_set buffer at b c.if-self.true ∙ ap (λ t. take at buffer ++ t) (sym (take_all (length (drop at buffer)) (b ∷ []) room));
      rest = drop-set-lt (at + 1) buffer at b (omega arith) ∙ sym (drop-drop 1 at buffer);
      same = refl;
    }

pub returns-else-self : goal.returns-else-self
returns-else-self c = wrote_full (c.args.b ∷ []) c.args.self.now (drop_all _ _ c.if-self.false)
