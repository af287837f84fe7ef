-- Writing one text after another. Assumes nothing.
use Rattle.std.proofs.Common.{◌≡◌, ℕ, zero, suc, ◌+◌, ◌-◌, ◌≤◌, min, List, [], ◌∷◌, ◌++◌, length, take, drop, sym, refl, ap, ◌∙◌, subst, zero-add, arith}
use Rattle.std.proofs.lemmas.List.{append-nil, append_assoc, drop_all, drop-drop, length-append, length-drop, length-take, take_all, take-append-drop}
use Rattle.writer.specs.declared.Writer.{Writer}
use Rattle.writer.specs.Wrote.{Wrote, done, ahead, laid_over}

-- of two texts in a room of n, the second has what the first leaves
take_both : (n : ℕ) (a b : List ℕ) → take n (a ++ b) ≡ take n a ++ take (n - length a) b
take_both zero [] b = refl
take_both (suc n) [] b = let e : suc n ≡ suc n - 0 = omega arith in ap (λ m. take m b) e
take_both zero (x ∷ a) b = let e : 0 ≡ 0 - suc (length a) = omega arith in ap (λ m. take m b) e
take_both (suc n) (x ∷ a) b = let e : n - length a ≡ suc n - suc (length a) = omega arith in ap (λ t. x ∷ t) (take_both n a b) ∙ ap (λ m. x ∷ (take n a ++ take m b)) e

pub wrote_none : (w : Writer) → Wrote [] w w
wrote_none w = record { text = sym (ap (λ t. done w ++ t) (take_all (length (ahead w)) [] (omega arith)) ∙ append-nil (done w)); rest = refl; same = refl }

-- a full writer leaves all out
pub wrote_full : (more : List ℕ) (w : Writer) → ahead w ≡ [] → Wrote more w w
wrote_full more w e = record {
  text = sym (ap (λ a. done w ++ take (length a) more) e ∙ append-nil (done w));
  rest = e ∙ sym (ap (drop (length more)) e ∙ drop_all (length more) [] (omega arith));
  same = refl;
}

-- how much room is left
pub wrote_room : {more : List ℕ} {x y : Writer} → Wrote more x y → length (ahead y) ≡ length (ahead x) - length more
wrote_room {more} {x} p = ap length p.rest ∙ length-drop (length more) (ahead x)

pub wrote_both : {a b : List ℕ} {x y z : Writer} → Wrote a x y → Wrote b y z → Wrote (a ++ b) x z
wrote_both {a} {b} {x} {y} {z} p q =
    let n = length (ahead x) in
    record {
      text = q.text ∙ (λ i. p.text i ++ take (wrote_room p i) b) ∙ append_assoc (done x) (take n a) (take (n - length a) b) ∙ ap (λ t. done x ++ t) (sym (take_both n a b));
      rest = q.rest ∙ ap (drop (length b)) p.rest ∙ drop-drop (length b) (length a) (ahead x) ∙ ap (λ n. drop n (ahead x)) (sym (length-append a b));
      same = q.same ∙ p.same;
    }

-- where there is room, all of it was written
pub wrote_all : {more : List ℕ} {x y : Writer} → Wrote more x y → length more ≤ length (ahead x) → done y ≡ done x ++ more
wrote_all {more} {x} p h = p.text ∙ ap (λ t. done x ++ t) (take_all (length (ahead x)) more h)

-- how many bytes were written
pub wrote_count : {more : List ℕ} {x y : Writer} → Wrote more x y → length (done y) ≡ length (done x) + min (length (ahead x)) (length more)
wrote_count {more} {x} p = let n = length (ahead x) in ap length p.text ∙ length-append (done x) (take n more) ∙ ap (λ m. length (done x) + m) (length-take n more)

-- the same text by another name
pub wrote_as : {a b : List ℕ} {x y : Writer} → a ≡ b → Wrote a x y → Wrote b x y
wrote_as {x = x} {y = y} e p = subst (λ t. Wrote t x y) e p

-- the same writer by another name
pub wrote_at : {more : List ℕ} {x y z : Writer} → z ≡ y → Wrote more x y → Wrote more x z
wrote_at {more} {x} e p = subst (λ w. Wrote more x w) (sym e) p

-- a text was written to the start of a buffer that held `old`
module _ {text old : List ℕ} {x y : Writer} (p : Wrote text x y) (none : done x ≡ []) (all : ahead x ≡ old) where
  pub over_buffer : {after : List ℕ} → y.buffer.now ≡ after → after ≡ laid_over text old
  over_buffer e = sym e ∙ sym (take-append-drop y.at y.buffer.now) ∙ (λ i. p.text i ++ p.rest i) ∙ (λ i. (none i ++ take (length (all i)) text) ++ drop (length text) (all i))

  pub over_count : length (done y) ≡ min (length old) (length text)
  over_count = wrote_count p ∙ (λ i. length (none i) + min (length (all i)) (length text)) ∙ zero-add (min (length old) (length text))

-- where there is room, all of the text stands there
pub over_all : (text old : List ℕ) → length text ≤ length old → laid_over text old ≡ text ++ drop (length text) old
over_all text old h = ap (λ t. t ++ drop (length text) old) (take_all (length old) text h)

-- of a whole text, all but what is `left` was written
pub record Going (whole left : List ℕ) (before after : Writer) : Type 0 where
  pub front : List ℕ
  pub wrote : Wrote front before after
  pub split : front ++ left ≡ whole

pub going_none : (whole : List ℕ) (w : Writer) → Going whole whole w w
going_none whole w = record { front = []; wrote = wrote_none w; split = refl }

pub going_more : {whole left piece more : List ℕ} {x y z : Writer} → Going whole left x y → left ≡ piece ++ more → Wrote piece y z → Going whole more x z
going_more {piece = piece} {more = more} g e p =
    record { front = g.front ++ piece; wrote = wrote_both g.wrote p; split = append_assoc g.front piece more ∙ ap (λ t. g.front ++ t) (sym e) ∙ g.split }

pub going_all : {whole left : List ℕ} {x y : Writer} → Going whole left x y → left ≡ [] → Wrote whole x y
going_all g e = wrote_as (sym (append-nil g.front) ∙ ap (λ t. g.front ++ t) (sym e) ∙ g.split) g.wrote
