-- The values of a line, one by one, and their sorting by field. Assumes nothing.
use Rattle.std.proofs.Common.{◌≡◌, ℕ, zero, suc, ◌+◌, ◌-◌, ◌<◌, ◌≤◌, true, leb, List, [], ◌∷◌, ◌++◌, length, get_or, take, Ok, Err, Result, sym, refl, ap, ◌∙◌, arith}
use Rattle.std.proofs.lemmas.Bool.{and_parts, and_from, leb-true, le-leb}
use Rattle.refusal.specs.declared.Refusal.{Refusal}
use Rattle.refusal.specs.Refusals.{at_line, on_ok, on_err}
use Rattle.text.specs.Texts.{Parts}
use Rattle.text.specs.Tokens.{this_line, later_lines}
use Rattle.reader.specs.Places.{all_within}
use Rattle.reader.specs.Lines.{values_from, values_of, by_field, line_of, line_then, lines_from}

-- values in front of those that are still to come
abbrev pub behind : List ℕ → Result (List ℕ) Refusal → Result (List ℕ) Refusal
behind xs r = on_ok (λ vs. xs ++ vs) r

-- before the part at `place`, with `lines` ahead; `entry` was ahead where the line began
pub record Reading (entry lines : List Parts) (values : List ℕ) (place : ℕ) : Type 0 where
  pub later : later_lines lines ≡ later_lines entry
  pub room : place + length (this_line lines) ≡ length values
  pub read : behind (take place values) (values_from (place + 1) (this_line lines)) ≡ values_from 1 (this_line entry)

-- places that pass their test lie in the line, and the other way round
pub within_at : (n : ℕ) (ps : List ℕ) (f : ℕ) → all_within n ps ≡ true → f < length ps → (1 ≤ get_or ps f 0) × (get_or ps f 0 ≤ n)
within_at n [] f t lt = absurd (omega arith)
within_at n (p ∷ ps) zero t lt = let h = and_parts (leb 1 p) (leb p n) (and_parts _ _ t).0 in (leb-true 1 p h.0, leb-true p n h.1)
within_at n (p ∷ ps) (suc f) t lt = within_at n ps f (and_parts _ _ t).1 (omega arith)

pub within_from : (n : ℕ) (ps : List ℕ) → ((f : ℕ) → f < length ps → (1 ≤ get_or ps f 0) × (get_or ps f 0 ≤ n)) → all_within n ps ≡ true
within_from n [] h = refl
within_from n (p ∷ ps) h = and_from _ _ (let w = h 0 (omega arith) in and_from _ _ (le-leb 1 p w.0) (le-leb p n w.1)) (within_from n ps (λ f lt. h (suc f) (omega arith)))

length_under : {X : Type 0} (k : ℕ) (x : X) (r : Result (List X) Refusal) → on_ok (λ ls. k + 1 + length ls) r ≡ on_ok (λ ls. k + length ls) (on_ok (λ ls. x ∷ ls) r)
length_under k x (Ok ls) = ap Ok (omega arith)
length_under k x (Err e) = refl

-- `line` lines of values are read and counted, and `lines` are ahead; `entry` was ahead behind the header
pub record Checking (places : List ℕ) (entry lines : List Parts) (line : ℕ) : Type 0 where
  pub total : line + length lines ≡ length entry
  pub count : on_ok (λ ls. line + length ls) (lines_from places (line + 2) lines) ≡ on_ok length (lines_from places 2 entry)

line_here : (places : List ℕ) (entry lines : List Parts) (line : ℕ) → Checking places entry lines line → line < length entry → lines ≡ this_line lines ∷ later_lines lines
line_here places entry [] line h lt = absurd (omega (arith, h.total))
line_here places entry (l ∷ ls) line h lt = refl

module _ (places : List ℕ) (entry lines : List Parts) (line : ℕ) (h : Checking places entry lines line) (lt : line < length entry) where
  step : on_ok (λ ls. line + length ls) (line_then (on_err (at_line (line + 2)) (line_of places (this_line lines))) (lines_from places (line + 2 + 1) (later_lines lines))) ≡ on_ok length (lines_from places 2 entry)
  step = ap (λ l. on_ok (λ ls. line + length ls) (lines_from places (line + 2) l)) (sym (line_here places entry lines line h lt)) ∙ h.count

  pub checking_more : (after : List Parts) (numbers : List ℕ) → Ok numbers ≡ line_of places (this_line lines) → after ≡ later_lines lines → Checking places entry after (line + 1)
  checking_more after numbers is a =
      let k : line + 1 + 2 ≡ line + 2 + 1 = omega arith in
      record {
        total = omega (arith, h.total, ap length a, ap length (line_here places entry lines line h lt));
        count = (λ i. on_ok (λ ls. line + 1 + length ls) (lines_from places (k i) (a i))) ∙ length_under line numbers (lines_from places (line + 2 + 1) (later_lines lines)) ∙ ap (λ r. on_ok (λ ls. line + length ls) (line_then (on_err (at_line (line + 2)) r) (lines_from places (line + 2 + 1) (later_lines lines)))) is ∙ step;
      }

  pub checking_stops : (e : Refusal) → Err e ≡ on_err (at_line (line + 2)) (line_of places (this_line lines)) → Err e ≡ on_ok length (lines_from places 2 entry)
  checking_stops e is = ap (λ r. on_ok (λ ls. line + length ls) (line_then r (lines_from places (line + 2 + 1) (later_lines lines)))) is ∙ step

pub checking_all : (places : List ℕ) (entry lines : List Parts) (line : ℕ) → Checking places entry lines line → length entry ≤ line → Ok line ≡ on_ok length (lines_from places 2 entry)
checking_all places entry [] line h le = ap Ok (omega arith) ∙ h.count
checking_all places entry (l ∷ ls) line h le = absurd (omega (arith, h.total))

-- a line that was read, then sorted by field; the checker writes the front of a table with n - 0
pub line_read : (n k : ℕ) (places values : List ℕ) (parts : Parts) → Ok values ≡ values_of k parts → k ≡ length (take n places) → Ok (by_field (take (n - 0) places) values) ≡ line_of (take n places) parts
line_read n k places values parts read e =
    let z : n - 0 ≡ n = omega arith in
    ap (λ m. Ok (by_field (take m places) values)) z ∙ ap (on_ok (by_field (take n places))) (read ∙ ap (λ j. values_of j parts) e)

-- a refusal that is told its line, and what is no refusal
pub told_stops : {X Y : Type 0} (f : X → Y) (r : Result X Refusal) (k : ℕ) (e : Refusal) → on_err (at_line k) r ≡ Err e → Err e ≡ on_err (at_line k) (on_ok f r)
told_stops f (Ok x) k e h = absurd (let z : ◌≡◌ {A = ℕ} 0 1 = cc in omega arith)
told_stops f (Err d) k e h = let same : e ≡ at_line k d = cc in ap Err same

pub told_goes : {X : Type 0} (r : Result X Refusal) (k : ℕ) (x : X) → on_err (at_line k) r ≡ Ok x → r ≡ Ok x
told_goes (Ok y) k x h = h
told_goes (Err d) k x h = absurd (let z : ◌≡◌ {A = ℕ} 0 1 = cc in omega arith)
