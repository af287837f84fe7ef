-- How long a report is. Assumes nothing.
use Rattle.std.proofs.Common.{◌≡◌, ℕ, zero, suc, ◌+◌, ◌*◌, ◌^◌, ◌<◌, ◌≤◌, Bool, true, false, ◌&&◌, leb, [], ◌∷◌, ◌++◌, length, get_or, codes, decimal, refl, arith, lit≤}
use Rattle.std.proofs.lemmas.List.{length-append}
use Rattle.std.proofs.lemmas.Bool.{and_parts, leb-true}
use Rattle.std.proofs.lemmas.Bool.Decides.{Decides-below_and}
use Rattle.refusal.specs.declared.Refusal.{Refusal}
use Rattle.refusal.specs.Refusals.{numbers_of}
use Rattle.text.specs.Texts.{Bytes, part_text, line_text, text_of}
use Rattle.writer.proofs.Spelling.{decimal_short}
use Rattle.annex.specs.declared.numbers.Numbers.{Numbers}
use Rattle.annex.specs.Numbers.{annex_names, ranges, fields_of}
use Rattle.annex.specs.Laws.{Ranged}
use Rattle.annexreport.specs.Report.{field_line, field_lines, numbers_text, refusal_text}

-- a part has one byte behind it
part_length : (part : Bytes) (more : Bool) → length (part_text part more) ≡ length part + 1
part_length part more = length-append part _

line_two_length : (a b : Bytes) → length (line_text (a ∷ b ∷ [])) ≡ length a + length b + 2
line_two_length a b = omega (arith, length-append (part_text a true) (part_text b false ++ []), length-append (part_text b false) [], part_length a true, part_length b false)

line_three_length : (a b c : Bytes) → length (line_text (a ∷ b ∷ c ∷ [])) ≡ length a + length b + length c + 3
line_three_length a b c = omega (arith, length-append (part_text a true) (line_text (b ∷ c ∷ [])), line_two_length b c, part_length a true)

-- no name is longer than three bytes, and no number in its range greater than 200
abbrev small : ℕ → Bool
small i = leb (length (get_or annex_names i [])) 3 && leb (get_or ranges i (0, 0)).1 200

abbrev all_small : ℕ → Bool
all_small zero = true
all_small (suc i) = small i && all_small i

small_at : (i : ℕ) → i < 21 → (length (get_or annex_names i []) ≤ 3) × ((get_or ranges i (0, 0)).1 ≤ 200)
small_at i h =
    let both = and_parts _ _ ((Decides-below_and small (λ k. small k ≡ true) all_small (λ k. (λ e. e, λ e. e)) refl (λ _. refl) 21).0 refl i h) in
    (leb-true _ _ both.0, leb-true _ _ both.1)

-- so a field's line has at most eight bytes
fields_short : (n : Numbers) → Ranged (fields_of n) → (i k : ℕ) → i + k ≤ 21 → length (text_of (field_lines n i k)) ≤ 8 * k
fields_short n r i zero h = omega arith
fields_short n r i (suc k) h =
    let name = get_or annex_names i [] in
    let number = get_or (fields_of n) i 0 in
    let most : number ≤ (get_or ranges i (0, 0)).1 = r.most i (omega arith) in
    let at = small_at i (omega arith) in
    let digits : length (decimal number) ≤ 3 = decimal_short 3 number (omega arith) (omega (arith, most, at.1)) in
    omega (arith, length-append (line_text (field_line n i)) (text_of (field_lines n (i + 1) k)), line_two_length name (decimal number), at.0, digits, fields_short n r (i + 1) k (omega arith))

-- a report of numbers in their ranges
pub numbers_short : (n : Numbers) → Ranged (fields_of n) → length (numbers_text n) ≤ 400
unfolding numbers_text
numbers_short n r = omega (arith, fields_short n r 0 21 (lit≤ tt))

-- a report of a refusal whose numbers have at most ten digits
pub refusal_short : (r : Refusal) → (numbers_of r).0 < 10 ^ 10 → (numbers_of r).1 < 10 ^ 10 → (numbers_of r).2 < 10 ^ 10 → length (refusal_text r) ≤ 400
unfolding refusal_text
refusal_short r a b c =
    let names = line_text (codes "refused" ∷ codes "line" ∷ codes "place" ∷ []) in
    let x = decimal (numbers_of r).0 in
    let y = decimal (numbers_of r).1 in
    let z = decimal (numbers_of r).2 in
    let numbers = line_text (x ∷ y ∷ z ∷ []) in
    omega (
      arith,
      length-append names (numbers ++ []),
      length-append numbers [],
      line_three_length x y z,
      decimal_short 10 (numbers_of r).0 (lit≤ tt) a,
      decimal_short 10 (numbers_of r).1 (lit≤ tt) b,
      decimal_short 10 (numbers_of r).2 (lit≤ tt) c,
    )
