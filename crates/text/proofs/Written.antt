-- A value's digits, one by one, and the law that a value is read exactly where a number is written. Assumes nothing.
use Rattle.std.proofs.Common.{◌≡◌, ℕ, ◌+◌, ◌-◌, ◌*◌, ◌^◌, ◌<◌, ◌≤◌, true, false, cond, ◌&&◌, eqb, leb, List, [], ◌∷◌, length, get_or, take, drop, Some, None, decimal, Option, sym, refl, ap, ◌∙◌, subst, ⊎_elim, pow-suc, add-one, arith, MatchResult}
use native.Mathlib.Nat.{pow-le-pow_right}
use Rattle.std.proofs.lemmas.Fmt.{decimal-digits_value}
use Rattle.std.proofs.ByRecursion.{All-from_get_or}
use Rattle.std.proofs.lemmas.List.{at_drop_more, take_rest, nil_from_length}
use Rattle.std.proofs.lemmas.Str.Parse.{IsNumeralModel, numerals_by_value, tells_all_ascii_digits, digits_value_short, not_in_digits}
use Rattle.std.proofs.lemmas.Bool.{cases_Bool, cond-true, cond-false, and_from, and_left, lt-ltb, le-ltb, and_parts, ne_eqb, eqb-true, eqb-false, le-leb, leb-true}
use Rattle.std.specs.Option.{ok_or}
use Rattle.std.specs.Str.Parse.{digits_value, digits_value_after}
use Rattle.std.specs.Int.{IsInRange}
use Rattle.std.specs.Char.{is_ascii_digit, digit_value}
use Rattle.std.specs.Str.{all_ascii_digits}
use Rattle.text.specs.Texts.{Lacks, Plain}
use Rattle.text.specs.Values.{Writes, digits_from, zero_alone, value_of}

-- seven digits fit a u32
pub fits : (v i : ℕ) → v < 10 ^ (i + 1) → i < 6 → v < 1000000
fits v i h k =
    let p : 10 ^ (i + 1) ≤ 10 ^ 6 = pow-le-pow_right (omega arith) {i = i + 1} {j = 6} (omega arith) in
    omega arith

pub bound_more : (v d i : ℕ) → v < 10 ^ (i + 1) → d < 10 → v * 10 + d < 10 ^ (i + 1 + 1)
bound_more v d i h k =
    let q : 10 ^ (i + 1 + 1) ≡ 10 ^ (i + 1) * 10 = ap (λ n. 10 ^ n) (add-one (i + 1)) ∙ pow-suc 10 (i + 1) in
    omega arith

module _ (v : ℕ) (bs : List ℕ) (i : ℕ) (lt : i < length bs) where
  pub digit_more : true ≡ is_ascii_digit (get_or bs i 0) → digits_from (v * 10 + (get_or bs i 0 - 48)) (drop (i + 1) bs) ≡ digits_from v (drop i bs)
  digit_more e = sym (at_drop_more (digits_from v) bs i 0 lt ∙ cond-true _ _ _ (sym e))

  pub digit_stops : false ≡ is_ascii_digit (get_or bs i 0) → None ≡ digits_from v (drop i bs)
  digit_stops e = sym (at_drop_more (digits_from v) bs i 0 lt ∙ cond-false _ _ _ (sym e))

pub first_digit : (bs : List ℕ) → 49 ≤ get_or bs 0 0 → get_or bs 0 0 ≤ 57 → length (take (length bs - 1) (drop 1 bs)) ≤ 6 → digits_from (get_or bs 0 0 - 48) (take (length bs - 1) (drop 1 bs)) ≡ value_of bs
first_digit [] lo hi few = absurd (omega arith)
first_digit (b ∷ bs) lo hi few =
    let t : take (length (b ∷ bs) - 1) bs ≡ bs = take_rest (b ∷ bs) 1 in
    let short : length bs ≤ 6 = omega (arith, ap length t) in
    let z : 0 + (b - 48) ≡ b - 48 = omega arith in
    ap (digits_from (b - 48)) t ∙ sym (cond-false _ _ _ (ne_eqb b 48 (omega arith)) ∙ cond-true _ _ _ (le-leb _ 6 short) ∙ cond-true _ _ _ (and_from _ _ (le-leb 48 b (omega arith)) (le-leb b 57 hi)) ∙ ap (λ n. digits_from n bs) z)

digit_value_lem : (b : ℕ) → is_ascii_digit b ≡ true → digit_value b ≡ b - 48
digit_value_lem b e =
    let h = and_parts (leb 48 b) (leb b 57) e in
    cond-false _ _ _ (le-ltb b 48 (leb-true 48 b h.0)) ∙ cond-true _ _ _ (lt-ltb b 58 (let k = leb-true b 57 h.1 in omega arith))

-- digits, taken one by one, are all digits, and give their value
digits_are : (n : ℕ) (bs : List ℕ) → digits_from n bs ≡ cond (all_ascii_digits bs) (Some (digits_value_after 10 n bs)) None
digits_are n [] = refl
digits_are n (b ∷ bs) =
    ⊎_elim
    (λ t. cond-true _ _ _ t ∙ digits_are (n * 10 + (b - 48)) bs ∙ (λ i. cond (sym (ap (λ x. x && all_ascii_digits bs) t) i) (Some (digits_value_after 10 (n * 10 + sym (digit_value_lem b t) i) bs)) None))
    (λ f. cond-false _ _ _ f ∙ sym (cond-false _ _ _ (and_left _ _ f)))
    (cases_Bool (is_ascii_digit b))

own : IsNumeralModel (λ ds. all_ascii_digits ds ≡ true) (digits_value 10)
own = numerals_by_value (λ ds. all_ascii_digits ds ≡ true) tells_all_ascii_digits

none_some : {n : ℕ} → None ≡ Some n → ⊥
none_some e = let z : ◌≡◌ {A = ℕ} 0 1 = cc in omega arith

all_digits : (bs : List ℕ) (n : ℕ) → digits_from 0 bs ≡ Some n → (all_ascii_digits bs ≡ true) × (digits_value 10 bs ≡ n)
all_digits bs n e =
    ⊎_elim
    (λ t. (t, let q : Some (digits_value 10 bs) ≡ Some n = sym (cond-true _ _ _ t) ∙ sym (digits_are 0 bs) ∙ e in cc))
    (λ f. absurd (none_some (sym (cond-false _ _ _ f) ∙ sym (digits_are 0 bs) ∙ e)))
    (cases_Bool (all_ascii_digits bs))

zero_writes : (bs : List ℕ) (n : ℕ) → zero_alone bs ≡ Some n → Writes (48 ∷ bs) n
zero_writes [] n e = let q : 0 ≡ n = cc in record { some = omega arith; few = omega arith; digits = refl; unpadded = λ _. refl; number = q }
zero_writes (b ∷ bs) n e = absurd (none_some e)

-- a value that is read is a number that is written
pub value_writes : (part : List ℕ) (n : ℕ) → value_of part ≡ Some n → Writes part n
value_writes [] n e = absurd (none_some e)
value_writes (b ∷ bs) n e =
    ⊎_elim
    (λ t. let z : b ≡ 48 = eqb-true b 48 t in subst (λ x. Writes (x ∷ bs) n) (sym z) (zero_writes bs n (sym (cond-true _ _ _ t) ∙ e)))
    (λ f.
    let e2 = sym (cond-false _ _ _ f) ∙ e in
    ⊎_elim
    (λ s. let d = all_digits (b ∷ bs) n (sym (cond-true _ _ _ s) ∙ e2) in let few = leb-true (length bs) 6 s in record { some = omega arith; few = omega arith; digits = d.0; unpadded = λ z. absurd (eqb-false b 48 f z); number = d.1 })
    (λ l. absurd (none_some (sym (cond-false _ _ _ l) ∙ e2)))
    (cases_Bool (leb (length bs) 6)))
    (cases_Bool (eqb b 48))

-- a number that is written is read
pub writes_value : (part : List ℕ) (n : ℕ) → Writes part n → value_of part ≡ Some n
writes_value [] n w = absurd (omega (arith, w.some))
writes_value (b ∷ bs) n w =
    ⊎_elim
    (λ t.
    let z : b ≡ 48 = eqb-true b 48 t in
    let nil : bs ≡ [] = nil_from_length bs (let l : length (b ∷ bs) ≡ 1 = w.unpadded z in omega arith) in
    let v : 0 ≡ n = sym (λ i. digits_value 10 (z i ∷ nil i)) ∙ w.number in
    cond-true _ _ _ t ∙ ap zero_alone nil ∙ ap Some v)
    (λ f. cond-false _ _ _ f ∙ cond-true _ _ _ (le-leb (length bs) 6 (omega (arith, w.few))) ∙ digits_are 0 (b ∷ bs) ∙ cond-true _ _ _ w.digits ∙ ap Some w.number)
    (cases_Bool (eqb b 48))

-- it is the number's numeral in decimal
pub writes_decimal : (part : List ℕ) (n : ℕ) → Writes part n → part ≡ decimal n
writes_decimal part n w =
    sym (decimal-digits_value own part w.digits w.some w.unpadded (let s = digits_value_short own part 7 w.digits w.few in omega arith)) ∙ ap decimal w.number

-- a value is read exactly where a number is written
pub value_law : {E : Type 0} (part : List ℕ) (e : E) → MatchResult (ok_or (value_of part) e) (Writes part) (λ _. (n : ℕ) → Writes part n → ⊥)
value_law part e =
    cases_option (value_of part)
    (λ o. MatchResult (ok_or o e) (Writes part) (λ _. (n : ℕ) → Writes part n → ⊥))
    (λ none n w. none_some (sym none ∙ writes_value part n w))
    (λ n some. value_writes part n some)
  where
    cases_option : (o : Option ℕ) (P : Option ℕ → Type 0) → (o ≡ None → P None) → ((n : ℕ) → o ≡ Some n → P (Some n)) → P o
    cases_option None P a b = a refl
    cases_option (Some n) P a b = b n refl

-- no digit is a semicolon or a line feed
pub writes_plain : (part : List ℕ) (n : ℕ) → Writes part n → Plain part
writes_plain part n w = (lacks 59 (λ i. omega arith), lacks 10 (λ i. omega arith))
  where
    lacks : (s : ℕ) → (IsInRange 48 57 s → ⊥) → Lacks s part
    lacks s out = All-from_get_or (λ b. b ≡ s → ⊥) part 0 (not_in_digits own part s w.digits out)
