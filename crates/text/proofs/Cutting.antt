-- A text cut at its line feeds and semicolons: the steps of the lexer. Assumes nothing.
use Rattle.std.proofs.Common.{◌≡◌, ℕ, ◌+◌, ◌-◌, ◌<◌, ◌≤◌, Bool, true, false, cond, eqb, ltb, ◌==◌, List, [], ◌∷◌, ◌++◌, map, length, get_or, take, drop, Some, None, Option, sym, refl, ap, ◌∙◌, subst, arith}
use Rattle.std.specs.List.{position, position_or_len}
use Rattle.std.proofs.lemmas.List.Recursion.{is_count_by}
use Rattle.std.proofs.lemmas.List.Sums.{fails_before_first, passes_at_first, count_by-le-length}
use Rattle.std.proofs.lemmas.Bool.Decides.{nat_tests}
use Rattle.std.proofs.ByRecursion.{All-from_get_or}
use Rattle.std.proofs.lemmas.List.{take-append-drop, take_rest, drop_more, get_or-take, length-take-le, length-map}
use Rattle.std.proofs.lemmas.Bool.{cond-true, cond-false, ne_eqb, eqb-true, ltb-true, eq-eqb, true≢false, false≢true}
use Rattle.text.specs.declared.tokens.Lexer.{Lexer}
use Rattle.text.specs.declared.tokens.Position.{Position}
use Rattle.text.specs.declared.tokens.Position.TheVariants as position
use Rattle.text.specs.Texts.{Bytes, Parts, on_first, between, lines_of, parts_of, parts_by_line, Lacks, line_feeds}
use Rattle.text.specs.Tokens.{Lexeme, Gives, parts_behind, in_line, lines_from, ahead}

-- no s below i is no s in the front of i bytes
pub lacks_front : (bs : Bytes) (i s : ℕ) → i ≤ length bs → ((k : ℕ) → k < i → get_or bs k 0 ≡ s → ⊥) → Lacks s (take i bs)
lacks_front bs i s le none =
    let long : length (take i bs) ≡ i = length-take-le i bs le in
    All-from_get_or (λ b. b ≡ s → ⊥) (take i bs) 0 (λ k lt e. let less : k < i = omega arith in none k less (sym (get_or-take i bs k 0 less) ∙ e))

-- a search for s: the place of the first one, or that there is none
module _ (s : ℕ) (bs : Bytes) where
  abbrev first : ℕ
  first = position_or_len (λ b. eqb b s) bs

  before_first : (k : ℕ) → k < first → get_or bs k 0 ≡ s → ⊥
  before_first k h e = true≢false (sym (eq-eqb (get_or bs k 0) s e) ∙ fails_before_first (λ b. eqb b s) bs k 0 h)

  pub found_place : (i : ℕ) → Some i ≡ position (λ b. eqb b s) bs → (i < length bs) × (get_or bs i 0 ≡ s) × ((k : ℕ) → k < i → get_or bs k 0 ≡ s → ⊥)
  found_place i = go (ltb first (length bs)) refl
    where
      go : (b : Bool) → ltb first (length bs) ≡ b → Some i ≡ cond b (Some first) None → (i < length bs) × (get_or bs i 0 ≡ s) × ((k : ℕ) → k < i → get_or bs k 0 ≡ s → ⊥)
      go true t e =
          let p : first ≡ i = cc in
          let lt = ltb-true first (length bs) t in
          subst (λ i. (i < length bs) × (get_or bs i 0 ≡ s) × ((k : ℕ) → k < i → get_or bs k 0 ≡ s → ⊥)) p (lt, eqb-true _ s (passes_at_first (λ b. eqb b s) bs 0 lt), before_first)
      go false t e = absurd (let z : ◌≡◌ {A = ℕ} 0 1 = cc in omega arith)

  pub found_none : None ≡ position (λ b. eqb b s) bs → Lacks s bs
  found_none = go (ltb first (length bs)) refl
    where
      go : (b : Bool) → ltb first (length bs) ≡ b → None ≡ cond b (Some first) None → Lacks s bs
      go true t e = absurd (let z : ◌≡◌ {A = ℕ} 0 1 = cc in omega arith)
      go false t e = All-from_get_or (λ b. b ≡ s → ⊥) bs 0 (λ k lt e. before_first k (grind (arith, nat_tests)) e)

-- what `cut` returns, as the checker writes it
pub cut_here : (bs : Bytes) (i s : ℕ) → (i < length bs) × (get_or bs i 0 ≡ s) × ((k : ℕ) → k < i → get_or bs k 0 ≡ s → ⊥) → (bs ≡ take i bs ++ (s ∷ take (length bs - (i + 1)) (drop (i + 1) bs))) × Lacks s (take i bs)
cut_here bs i s at =
    let back : drop i bs ≡ s ∷ take (length bs - (i + 1)) (drop (i + 1) bs) = drop_more bs i 0 at.0 ∙ ap (λ b. b ∷ drop (i + 1) bs) at.1 ∙ ap (λ l. s ∷ l) (sym (take_rest bs (i + 1))) in
    (sym (take-append-drop i bs) ∙ ap (λ l. take i bs ++ l) back, lacks_front bs i s (omega (arith, at.0)) at.2)

module _ (s : ℕ) where
  pub between_cut : (end : List Bytes) (front rest : Bytes) → Lacks s front → between s end (front ++ (s ∷ rest)) ≡ front ∷ between s end rest
  between_cut end [] rest l = cond-true _ _ _ (eq-eqb s s refl)
  between_cut end (b ∷ front) rest l = cond-false _ _ _ (ne_eqb b s l.0) ∙ ap (on_first b) (between_cut end front rest l.1)

  pub between_none : (bs : Bytes) → Lacks s bs → between s [] bs ≡ []
  between_none [] l = refl
  between_none (b ∷ bs) l = cond-false _ _ _ (ne_eqb b s l.0) ∙ ap (on_first b) (between_none bs l.1)

  pub between_whole : (bs : Bytes) → Lacks s bs → between s ([] ∷ []) bs ≡ bs ∷ []
  between_whole [] l = refl
  between_whole (b ∷ bs) l = cond-false _ _ _ (ne_eqb b s l.0) ∙ ap (on_first b) (between_whole bs l.1)

pub parts_cut : (bs front rest : Bytes) → (bs ≡ front ++ (59 ∷ rest)) × Lacks 59 front → parts_of bs ≡ front ∷ parts_of rest
parts_cut bs front rest h = ap parts_of h.0 ∙ between_cut 59 ([] ∷ []) front rest h.1

pub lines_cut : (bs front rest : Bytes) → (bs ≡ front ++ (10 ∷ rest)) × Lacks 10 front → parts_by_line bs ≡ parts_of front ∷ parts_by_line rest
lines_cut bs front rest h = ap parts_by_line h.0 ∙ ap (map parts_of) (between_cut 10 [] front rest h.1)

pub lines_none : (bs : Bytes) → Lacks 10 bs → parts_by_line bs ≡ []
lines_none bs l = ap (map parts_of) (between_none 10 bs l)

-- a step of the lexer, over other names for the same lines
pub gives_at : {n : Bool} {lines same : List Parts} {t : Option Lexeme} {l : Lexer} → same ≡ lines → Gives n lines t l → Gives n same t l
gives_at {n} {lines} {same} {t} {l} e g = subst (λ ls. Gives n ls t l) (sym e) g

pub gives_none : {n : Bool} {lines : List Parts} {l : Lexer} → ahead l ≡ lines → l.in_names ≡ n → lines ≡ [] → Gives n lines None l
gives_none {n} {lines} {l} same flag e = gives_at e (record { token = refl; after = same ∙ e; names = flag })

in_line_lem : (p : Position) (ls : List Parts) → in_line p ≡ true → lines_from p ls ≡ parts_behind p ∷ ls
in_line_lem position.LineStart ls h = absurd (false≢true h)
in_line_lem (position.Part x) ls h = refl
in_line_lem position.LineEnd ls h = refl

pub feeds_le : (bs : Bytes) → line_feeds bs ≤ length bs
feeds_le bs = count_by-le-length (λ b. b == 10) bs

length-on_first : (b : ℕ) (ls : List Bytes) → length (on_first b ls) ≡ length ls
length-on_first b [] = refl
length-on_first b (l ∷ ls) = refl

feeds_lines : (bs : Bytes) → length (lines_of bs) ≡ line_feeds bs
feeds_lines = is_count_by (λ bs. length (lines_of bs)) (λ b. b == 10) refl step
  where
    step : (b : ℕ) (bs : Bytes) → length (lines_of (b ∷ bs)) ≡ cond (b == 10) (1 + length (lines_of bs)) (length (lines_of bs))
    step b bs = go (eqb b 10)
      where
        go : (t : Bool) → length (cond t ([] ∷ lines_of bs) (on_first b (lines_of bs))) ≡ cond t (1 + length (lines_of bs)) (length (lines_of bs))
        go true = omega arith
        go false = length-on_first b (lines_of bs)

-- a text has as many lines as line feeds
pub feeds_count : (bs : Bytes) → length (parts_by_line bs) ≡ line_feeds bs
feeds_count bs = length-map (lines_of bs) parts_of ∙ feeds_lines bs

-- in a line there is one line more than have yet to begin
pub line_counted : (p : Position) (bs : Bytes) → in_line p ≡ true → length (lines_from p (parts_by_line bs)) ≡ line_feeds bs + 1
line_counted p bs h = ap length (in_line_lem p (parts_by_line bs) h) ∙ omega (arith, feeds_count bs)

-- a text has no more lines than bytes
pub lines_le : (bs : Bytes) → length (parts_by_line bs) ≤ length bs
lines_le bs = omega (arith, feeds_count bs, feeds_le bs)
