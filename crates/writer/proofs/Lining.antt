-- The parts of a line, one by one. Assumes nothing.
use Rattle.std.proofs.Common.{◌≡◌, ℕ, ◌+◌, ◌<◌, ◌≤◌, ltb, List, [], ◌++◌, length, get_or, drop, ap, ◌∙◌, arith}
use Rattle.std.proofs.lemmas.List.{at_drop_more, at_drop_all, length-drop}
use Rattle.std.proofs.lemmas.Bool.Decides.{nat_tests}
use Rattle.text.specs.Texts.{part_text, line_text}

-- one more part, with its ending by whether more follow
pub line_more : (parts : List (List ℕ)) (i : ℕ) → i < length parts → line_text (drop i parts) ≡ part_text (get_or parts i []) (ltb (i + 1) (length parts)) ++ line_text (drop (i + 1) parts)
line_more parts i h =
    let more : ltb 0 (length (drop (i + 1) parts)) ≡ ltb (i + 1) (length parts) = ap (ltb 0) (length-drop (i + 1) parts) ∙ grind (arith, nat_tests) in
    at_drop_more line_text parts i [] h ∙ ap (λ m. part_text (get_or parts i []) m ++ line_text (drop (i + 1) parts)) more

pub line_all : (parts : List (List ℕ)) (i : ℕ) → length parts ≤ i → line_text (drop i parts) ≡ []
line_all parts i h = at_drop_all line_text parts i h
