-- The first steps into a text: its length and last byte, then its header. Assumes nothing.
use Rattle.std.proofs.Common.{◌≡◌, ℕ, ◌≤◌, Bool, true, false, cond, List, [], ◌∷◌, length, Ok, Err, Result, sym, refl, ap, ◌∙◌, arith}
use Rattle.std.proofs.lemmas.Bool.{and_parts, cond-true, leb-true}
use Rattle.refusal.specs.declared.Refusal.{Refusal}
use Rattle.refusal.specs.declared.Refusal.TheVariants.{Text}
use Rattle.refusal.specs.Refusals.{on_ok}
use Rattle.text.specs.Texts.{Bytes, Parts, is_text, parts_by_line}
use Rattle.text.specs.Tokens.{this_line, later_lines}
use Rattle.text.proofs.Cutting.{lines_le}
use Rattle.reader.specs.Names.{places_of}
use Rattle.reader.specs.Lines.{lines_under, lines_from, read_of}

-- what a lexer is opened on
abbrev opens : Bytes → Result (List Parts) Refusal
opens text = cond (is_text text) (Ok (parts_by_line text)) (Err Text)

-- no text
pub no_text : (names : List Bytes) (text : Bytes) (e : Refusal) → Err e ≡ opens text → Err e ≡ on_ok length (read_of names text)
no_text names text e h = ap (on_ok length) (by (is_text text) h)
  where
    by : (b : Bool) → Err e ≡ cond b (Ok (parts_by_line text)) (Err Text) → Err e ≡ lines_under (cond b (places_of names (this_line (parts_by_line text))) (Err Text)) (later_lines (parts_by_line text))
    by true k = absurd (let z : ◌≡◌ {A = ℕ} 0 1 = cc in omega arith)
    by false k = let same : e ≡ Text = cc in ap Err same

-- a text
pub a_text : (text : Bytes) (lines : List Parts) → Ok lines ≡ opens text → (is_text text ≡ true) × (lines ≡ parts_by_line text)
a_text text lines h = by (is_text text) refl h
  where
    by : (b : Bool) → is_text text ≡ b → Ok lines ≡ cond b (Ok (parts_by_line text)) (Err Text) → (is_text text ≡ true) × (lines ≡ parts_by_line text)
    by true is k = (is, cc)
    by false is k = absurd (let z : ◌≡◌ {A = ℕ} 0 1 = cc in omega arith)

-- its lines are few
few_lines : (text : Bytes) → is_text text ≡ true → length (parts_by_line text) ≤ 65535
few_lines text t = omega (arith, lines_le text, leb-true (length text) 65535 (and_parts _ _ t).0)

few_later : (lines : List Parts) → length (later_lines lines) ≤ length lines
few_later [] = omega arith
few_later (l ∷ ls) = omega arith

-- a header that is refused
pub no_header : (names : List Bytes) (text : Bytes) (all : List Parts) (e : Refusal) → Ok all ≡ opens text → Err e ≡ places_of names (this_line all) → Err e ≡ on_ok length (read_of names text)
no_header names text all e o h =
    let t = a_text text all o in
    ap (λ r. on_ok length (lines_under r (later_lines (parts_by_line text)))) (h ∙ ap (λ ls. places_of names (this_line ls)) t.1 ∙ sym (cond-true _ _ _ t.0))

-- a header that is read: the lines behind it are all that the text says
module _ (names : List Bytes) (text : Bytes) (all later : List Parts) (places : List ℕ) (o : Ok all ≡ opens text) (h : Ok places ≡ places_of names (this_line all)) (a : later ≡ later_lines all) where
  behind : lines_from places 2 later ≡ read_of names text
  behind =
      let t = a_text text all o in
      (λ i. lines_under (h i) (a i)) ∙ (λ i. lines_under (places_of names (this_line (t.1 i))) (later_lines (t.1 i))) ∙ ap (λ r. lines_under r (later_lines (parts_by_line text))) (sym (cond-true _ _ _ t.0))

  pub behind_header : on_ok length (lines_from places 2 later) ≡ on_ok length (read_of names text)
  behind_header = ap (on_ok length) behind

  pub few_behind : length later ≤ 65535
  few_behind = let t = a_text text all o in omega (arith, ap length a, few_later all, ap length t.1, few_lines text t.0)
