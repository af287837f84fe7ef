-- Lines and parts joined again are the text, and a text that was joined is cut into its lines and parts. Assumes nothing.
use Rattle.std.proofs.Common.{◌≡◌, ℕ, suc, ◌-◌, ◌<◌, ◌≤◌, true, false, eqb, ltb, List, [], ◌∷◌, ◌++◌, map, length, get_or, sym, refl, ap, ◌∙◌, subst, ⊎_elim, arith}
use Rattle.std.proofs.ByRecursion.{All-append}
use Rattle.std.proofs.lemmas.List.{append-nil, append_assoc, length_push, get_or_push}
use Rattle.std.proofs.lemmas.Bool.{cases_Bool, cond-true, cond-false, eqb-true, ne_eqb, and_right, and_parts, and_from, eq-eqb, le-leb, lt-ltb, false≢true}
use Rattle.std.specs.List.{AllByRecursion}
use Rattle.text.specs.Texts.{Bytes, Parts, is_text, on_first, lines_of, parts_of, parts_by_line, part_text, line_text, text_of, Lacks, Plain, PlainLine}
use Rattle.text.proofs.Cutting.{between_cut, between_whole, lines_cut}

pub no_text : (bs : Bytes) → (0 < length bs → get_or bs (length bs - 1) 0 ≡ 10 → ⊥) → false ≡ is_text bs
no_text [] h = refl
no_text (b ∷ bs) h = sym (and_right _ _ (ne_eqb _ 10 (h (omega arith))))

last_of : (b c : ℕ) (bs : Bytes) → get_or (b ∷ c ∷ bs) (length (b ∷ c ∷ bs) - 1) 0 ≡ 10 → get_or (c ∷ bs) (length (c ∷ bs) - 1) 0 ≡ 10
last_of b c bs e =
    let p : length (b ∷ c ∷ bs) - 1 ≡ suc (length (c ∷ bs) - 1) = omega arith in
    sym (ap (λ k. get_or (b ∷ c ∷ bs) k 0) p) ∙ e

more_parts : {A : Type 0} (q : A) (qs : List A) → ltb 0 (length (q ∷ qs)) ≡ true
more_parts q qs = lt-ltb 0 (length (q ∷ qs)) (omega arith)

line_two : (p q : Bytes) (ps : Parts) → line_text (p ∷ q ∷ ps) ≡ p ++ (59 ∷ line_text (q ∷ ps))
line_two p q ps = ap (λ m. part_text p m ++ line_text (q ∷ ps)) (more_parts q ps) ∙ append_assoc p (59 ∷ []) (line_text (q ∷ ps))

-- a byte in front of the first part is in front of the line
line_first : (b : ℕ) (parts : Parts) → 0 < length parts → line_text (on_first b parts) ≡ b ∷ line_text parts
line_first b [] h = absurd (omega arith)
line_first b (p ∷ ps) h = refl

some_first : (b : ℕ) (ls : List Bytes) → 0 < length ls → 0 < length (on_first b ls)
some_first b [] h = h
some_first b (l ∷ ls) h = omega arith

some_parts : (bs : Bytes) → 0 < length (parts_of bs)
some_parts [] = omega arith
some_parts (b ∷ bs) =
    ⊎_elim
    (λ t. subst (λ ls. 0 < length ls) (sym (cond-true _ _ _ t)) (omega arith))
    (λ f. subst (λ ls. 0 < length ls) (sym (cond-false _ _ _ f)) (some_first b (parts_of bs) (some_parts bs)))
    (cases_Bool (eqb b 59))

line_more : (parts : Parts) → 0 < length parts → line_text ([] ∷ parts) ≡ 59 ∷ line_text parts
line_more [] h = absurd (omega arith)
line_more (p ∷ ps) h = line_two [] p ps

-- the parts of a line joined are the line
line_joined : (bs : Bytes) → line_text (parts_of bs) ≡ bs ++ (10 ∷ [])
line_joined [] = refl
line_joined (b ∷ bs) =
    ⊎_elim
    (λ t. ap line_text (cond-true _ _ _ t) ∙ line_more (parts_of bs) (some_parts bs) ∙ (λ i. sym (eqb-true b 59 t) i ∷ line_joined bs i))
    (λ f. ap line_text (cond-false _ _ _ f) ∙ line_first b (parts_of bs) (some_parts bs) ∙ ap (λ l. b ∷ l) (line_joined bs))
    (cases_Bool (eqb b 59))

line_of_first : (b : ℕ) (bs : Bytes) (ls : List Bytes) → 0 < length ls → text_of (map parts_of (on_first b ls)) ≡ b ∷ text_of (map parts_of ls)
line_of_first b bs [] h = absurd (omega arith)
line_of_first b bs (l ∷ ls) h = ap (λ t. t ++ text_of (map parts_of ls)) (line_joined (b ∷ l)) ∙ ap (λ t. b ∷ (t ++ text_of (map parts_of ls))) (sym (line_joined l))

-- what ends with a line feed has a line
some_lines : (bs : Bytes) → 0 < length bs → get_or bs (length bs - 1) 0 ≡ 10 → 0 < length (lines_of bs)
some_lines [] h e = h
some_lines (b ∷ []) h e = subst (λ x. 0 < length (lines_of (x ∷ []))) (sym e) (omega arith)
some_lines (b ∷ c ∷ bs) h e =
    ⊎_elim
    (λ t. subst (λ ls. 0 < length ls) (sym (cond-true _ _ _ t)) (omega arith))
    (λ f. subst (λ ls. 0 < length ls) (sym (cond-false _ _ _ f)) (some_first b (lines_of (c ∷ bs)) (some_lines (c ∷ bs) (omega arith) (last_of b c bs e))))
    (cases_Bool (eqb b 10))

lines_joined : (bs : Bytes) → 0 < length bs → get_or bs (length bs - 1) 0 ≡ 10 → text_of (parts_by_line bs) ≡ bs
lines_joined [] h e = absurd (omega arith)
lines_joined (b ∷ []) h e = ap (λ x. text_of (parts_by_line (x ∷ []))) e ∙ ap (λ x. x ∷ []) (sym e)
lines_joined (b ∷ c ∷ bs) h e =
    let e2 = last_of b c bs e in
    let more = lines_joined (c ∷ bs) (omega arith) e2 in
    ⊎_elim
    (λ t. ap (λ ls. text_of (map parts_of ls)) (cond-true _ _ _ t) ∙ (λ i. sym (eqb-true b 10 t) i ∷ more i))
    (λ f. ap (λ ls. text_of (map parts_of ls)) (cond-false _ _ _ f) ∙ line_of_first b (c ∷ bs) (lines_of (c ∷ bs)) (some_lines (c ∷ bs) (omega arith) e2) ∙ ap (λ l. b ∷ l) more)
    (cases_Bool (eqb b 10))

-- a text's lines and parts joined are the text
pub text_joined : (bs : Bytes) → is_text bs ≡ true → text_of (parts_by_line bs) ≡ bs
text_joined [] t = absurd (false≢true t)
text_joined (b ∷ bs) t = lines_joined (b ∷ bs) (omega arith) (eqb-true _ 10 (and_parts _ _ t).1)

lacks_append : (s : ℕ) (xs ys : Bytes) → Lacks s xs → Lacks s ys → Lacks s (xs ++ ys)
lacks_append s xs ys h k = All-append (λ b. b ≡ s → ⊥) xs ys h k

-- parts joined by semicolons, with no line feed yet
abbrev body : Bytes → Parts → Bytes
body p [] = p
body p (q ∷ qs) = p ++ (59 ∷ body q qs)

line_body : (p : Bytes) (ps : Parts) → line_text (p ∷ ps) ≡ body p ps ++ (10 ∷ [])
line_body p [] = append-nil (p ++ (10 ∷ []))
line_body p (q ∷ qs) = line_two p q qs ∙ ap (λ t. p ++ (59 ∷ t)) (line_body q qs) ∙ sym (append_assoc p (59 ∷ body q qs) (10 ∷ []))

body_lacks : (p : Bytes) (ps : Parts) → Plain p → AllByRecursion Plain ps → Lacks 10 (body p ps)
body_lacks p [] h k = h.1
body_lacks p (q ∷ qs) h k = lacks_append 10 p (59 ∷ body q qs) h.1 ((λ e. omega arith), body_lacks q qs k.0 k.1)

parts_apart : (p : Bytes) (ps : Parts) → Plain p → AllByRecursion Plain ps → parts_of (body p ps) ≡ p ∷ ps
parts_apart p [] h k = between_whole 59 p h.0
parts_apart p (q ∷ qs) h k = between_cut 59 ([] ∷ []) p (body q qs) h.0 ∙ ap (λ t. p ∷ t) (parts_apart q qs k.0 k.1)

line_apart : (parts : Parts) (rest : Bytes) → PlainLine parts → parts_by_line (line_text parts ++ rest) ≡ parts ∷ parts_by_line rest
line_apart [] rest h = absurd (omega (arith, h.0))
line_apart (p ∷ ps) rest h =
    let t : line_text (p ∷ ps) ++ rest ≡ body p ps ++ (10 ∷ rest) = ap (λ l. l ++ rest) (line_body p ps) ∙ append_assoc (body p ps) (10 ∷ []) rest in
    lines_cut _ (body p ps) rest (t, body_lacks p ps h.1.0 h.1.1) ∙ ap (λ l. l ∷ parts_by_line rest) (parts_apart p ps h.1.0 h.1.1)

-- lines of plain parts come apart as they were joined
pub text_apart : (lines : List Parts) → AllByRecursion PlainLine lines → parts_by_line (text_of lines) ≡ lines
text_apart [] h = refl
text_apart (l ∷ ls) h = line_apart l (text_of ls) h.0 ∙ ap (λ t. l ∷ t) (text_apart ls h.1)

-- a joined text ends with a line feed
line_ends : (parts : Parts) → 0 < length parts → (front : Bytes) × (line_text parts ≡ front ++ (10 ∷ []))
line_ends [] h = absurd (omega arith)
line_ends (p ∷ ps) h = (body p ps, line_body p ps)

text_ends : (l : Parts) (ls : List Parts) → PlainLine l → AllByRecursion PlainLine ls → (front : Bytes) × (text_of (l ∷ ls) ≡ front ++ (10 ∷ []))
text_ends l [] h hs = let w = line_ends l h.0 in (w.0, append-nil (line_text l) ∙ w.1)
text_ends l (m ∷ ms) h hs = let w = text_ends m ms hs.0 hs.1 in (line_text l ++ w.0, ap (λ t. line_text l ++ t) w.1 ∙ sym (append_assoc (line_text l) w.0 (10 ∷ [])))

pub text_of_lines : (l : Parts) (ls : List Parts) (bs : Bytes) → AllByRecursion PlainLine (l ∷ ls) → text_of (l ∷ ls) ≡ bs → length bs ≤ 65535 → is_text bs ≡ true
text_of_lines l ls bs h e few =
    let w = text_ends l ls h.0 h.1 in
    let is : bs ≡ w.0 ++ (10 ∷ []) = sym e ∙ w.1 in
    let long : length bs - 1 ≡ length w.0 = omega (arith, ap length is, length_push w.0 10) in
    and_from _ _ (le-leb (length bs) 65535 few) (eq-eqb _ 10 ((λ i. get_or (is i) (long i) 0) ∙ get_or_push w.0 10 0 (length w.0) refl))
