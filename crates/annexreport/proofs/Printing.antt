-- The lines of a report, one by one. Assumes nothing.
use Rattle.std.proofs.Common.{◌≡◌, ℕ, suc, ◌+◌, ◌-◌, ◌<◌, true, false, [], ◌∷◌, ◌++◌, sym, ap, arith}
use Rattle.std.proofs.lemmas.List.{append-nil}
use Rattle.text.specs.Texts.{Bytes, Parts, part_text, line_text, text_of}
use Rattle.writer.specs.declared.Writer.{Writer}
use Rattle.writer.specs.Wrote.{Wrote}
use Rattle.writer.proofs.Writing.{wrote_both, wrote_as}
use Rattle.annex.specs.declared.numbers.Numbers.{Numbers}
use Rattle.annexreport.specs.Report.{field_line, field_lines}

-- a line of one, two and three parts
pub line_one : (a : Bytes) {x y : Writer} → Wrote (part_text a false) x y → Wrote (line_text (a ∷ [])) x y
line_one a p = wrote_as (sym (append-nil (part_text a false))) p

pub line_two : (a b : Bytes) {x y z : Writer} → Wrote (part_text a true) x y → Wrote (part_text b false) y z → Wrote (line_text (a ∷ b ∷ [])) x z
line_two a b p q = wrote_both p (line_one b q)

pub line_three : (a b c : Bytes) {w x y z : Writer} → Wrote (part_text a true) w x → Wrote (part_text b true) x y → Wrote (part_text c false) y z → Wrote (line_text (a ∷ b ∷ c ∷ [])) w z
line_three a b c p q r = wrote_both p (line_two b c q r)

-- a text of two lines
pub text_two : (a b : Parts) {x y z : Writer} → Wrote (line_text a) x y → Wrote (line_text b) y z → Wrote (text_of (a ∷ b ∷ [])) x z
text_two a b p q = wrote_both p (wrote_as (sym (append-nil (line_text b))) q)

-- the lines from a field on, up to `end`: its own and those behind it, or none
pub fields_more : (n : Numbers) (i end : ℕ) → i < end → text_of (field_lines n i (end - i)) ≡ line_text (field_line n i) ++ text_of (field_lines n (i + 1) (end - (i + 1)))
fields_more n i end h = let e : end - i ≡ suc (end - (i + 1)) = omega arith in ap (λ k. text_of (field_lines n i k)) e
