-- The names of a header, one by one, and the table of their places. Assumes nothing.
use Rattle.std.proofs.Common.{◌≡◌, ◌≢◌, ℕ, zero, suc, ◌+◌, ◌-◌, ◌<◌, ◌≤◌, true, false, cond, not, ◌&&◌, List, [], ◌∷◌, ◌++◌, map, length, get_or, set, take, replicate, is_some, Some, None, Err, Option, sym, refl, ap, ◌∙◌, subst, ⊎_elim, arith}
use Rattle.std.specs.Str.{bytes_eq}
use Rattle.std.proofs.lemmas.Slice.Eq.{bytes_eq-Decides}
use Rattle.std.proofs.lemmas.List.{same_lists, get_or-map, get_or-set_same, get_or-set_other, length-set, length-map, length_push, take-replicate}
use Rattle.std.proofs.lemmas.Bool.{cases_Bool, cases_eq, cond-true, cond-false, cond_both, and_from, and_left, and_right, not_from_true, false≢true}
use Rattle.text.specs.Tokens.{this_line, later_lines, next_part, after_next}
use Rattle.refusal.specs.declared.Refusal.TheVariants.{Name}
use Rattle.text.specs.Texts.{Bytes, Parts}
use Rattle.reader.specs.Names.{Unlike, Finds, place_from, place_in, stands, places_from, places_of}

-- a name's place
same_true : (n h : List ℕ) → n ≡ h → bytes_eq n h ≡ true
same_true n h e = (bytes_eq-Decides n h).1 e

same_false : (n h : List ℕ) → (n ≡ h → ⊥) → bytes_eq n h ≡ false
same_false n h ne = ⊎_elim (λ t. absurd (ne ((bytes_eq-Decides n h).0 t))) (λ f. f) (cases_Bool (bytes_eq n h))

place_none : (k : ℕ) (n : List ℕ) (ns : List Bytes) → ((i : ℕ) → i < length ns → get_or ns i [] ≡ n → ⊥) → place_from k n ns ≡ None
place_none k n [] none = refl
place_none k n (h ∷ ns) none = cond-false _ _ _ (same_false n h (λ e. none 0 (omega arith) (sym e))) ∙ place_none (k + 1) n ns (λ i lt e. none (suc i) (omega arith) e)

pub apart : {X : Type 0} {x : X} → Some x ≡ None → ⊥
apart e = let z : ◌≡◌ {A = ℕ} 0 1 = cc in omega arith

pub same_some : {X : Type 0} {x y : X} → Some x ≡ Some y → x ≡ y
same_some e = cc

some_from : (o : Option ℕ) → (o ≡ None → ⊥) → is_some o ≡ true
some_from None h = absurd (h refl)
some_from (Some x) h = refl

pub none_from : (o : Option ℕ) → is_some o ≡ false → o ≡ None
none_from None h = refl
none_from (Some x) h = absurd (false≢true (sym h))

pub place_some : (k : ℕ) (n : List ℕ) (ns : List Bytes) (i : ℕ) → i < length ns → get_or ns i [] ≡ n → place_from k n ns ≡ None → ⊥
place_some k n [] i lt e z = omega arith
place_some k n (h ∷ ns) zero lt e z = apart (sym (cond-true _ _ _ (same_true n h (sym e))) ∙ z)
place_some k n (h ∷ ns) (suc i) lt e z =
    ⊎_elim (λ t. apart (sym (cond-true _ _ _ t) ∙ z)) (λ f. place_some (k + 1) n ns i (omega arith) e (sym (cond-false _ _ _ f) ∙ z)) (cases_Bool (bytes_eq n h))

place_other : (k : ℕ) (n h : List ℕ) (hs : List Bytes) → (n ≡ h → ⊥) → place_from k n (hs ++ (h ∷ [])) ≡ place_from k n hs
place_other k n h [] ne = cond-false _ _ _ (same_false n h ne)
place_other k n h (x ∷ hs) ne = ap (cond (bytes_eq n x) (Some k)) (place_other (k + 1) n h hs ne)

place_new : (k : ℕ) (n h : List ℕ) (hs : List Bytes) → n ≡ h → place_from k n hs ≡ None → place_from k n (hs ++ (h ∷ [])) ≡ Some (k + length hs)
place_new k n h [] e z = cond-true _ _ _ (same_true n h e) ∙ ap Some (omega arith)
place_new k n h (x ∷ hs) e z =
    ⊎_elim
    (λ t. absurd (apart (sym (cond-true _ _ _ t) ∙ z)))
    (λ f. cond-false _ _ _ f ∙ place_new (k + 1) n h hs e (sym (cond-false _ _ _ f) ∙ z) ∙ ap Some (omega arith))
    (cases_Bool (bytes_eq n x))

-- how many fields have a place
abbrev pub placed_count : List (Option ℕ) → ℕ
placed_count [] = 0
placed_count (p ∷ ps) = cond (is_some p) 1 0 + placed_count ps

pub count_none : (ns : List Bytes) → placed_count (map (place_in []) ns) ≡ 0
count_none [] = refl
count_none (n ∷ ns) = omega (arith, count_none ns)

count_set : (ps : List (Option ℕ)) (f v : ℕ) → f < length ps → get_or ps f None ≡ None → placed_count (set ps f (Some v)) ≡ placed_count ps + 1
count_set [] f v lt z = absurd (omega arith)
count_set (p ∷ ps) zero v lt z = let old : cond {A = ℕ} (is_some p) 1 0 ≡ 0 = ap (λ o. cond (is_some o) 1 0) z in omega arith
count_set (p ∷ ps) (suc f) v lt z = omega (arith, count_set ps f v (omega arith) z)

pub count_le : (ps : List (Option ℕ)) → placed_count ps ≤ length ps
count_le [] = omega arith
count_le (p ∷ ps) = let h = count_le ps in cond_both (is_some p) _ _ (λ n. n + placed_count ps ≤ suc (length ps)) (λ _. omega arith) (λ _. omega arith)

-- the names that stand before those of `lines` are `seen`
pub record Placing (ns : List Bytes) (entry lines : List Parts) (found : List (Option ℕ)) (place : ℕ) : Type 0 where
  pub seen : List Bytes
  pub count : place ≡ length seen
  pub table : found ≡ map (place_in seen) ns
  pub left : places_from ns seen (this_line lines) ≡ places_of ns (this_line entry)
  pub placed : placed_count (map (place_in seen) ns) ≡ length seen
  pub later : later_lines lines ≡ later_lines entry

none_placed : (ns : List Bytes) → replicate (length ns) None ≡ map (place_in []) ns
none_placed [] = refl
none_placed (n ∷ ns) = ap (λ l. None ∷ l) (none_placed ns)

-- a table begins with room for all fields, and none has a place; the checker writes the front of a table with n - 0
pub placing_none : (ns : List Bytes) (entry : List Parts) (n most : ℕ) → n ≡ length ns → n ≤ most → Placing ns entry entry (take (n - 0) (replicate most None)) 0
placing_none ns entry n most e few =
    let front : n - 0 ≡ n = omega arith in
    record { seen = []; count = refl; table = ap (λ k. take k (replicate most None)) front ∙ take-replicate n most None few ∙ ap (λ k. replicate k None) e ∙ none_placed ns; left = refl; placed = count_none ns; later = refl }

module _ (ns : List Bytes) (unlike : Unlike ns) (seen : List Bytes) (q : List ℕ) (field : ℕ) (lt : field < length ns) (is : get_or ns field [] ≡ q) where
  -- the table after a name that did not stand before
  pub table_more : place_in seen q ≡ None → set (map (place_in seen) ns) field (Some (length seen + 1)) ≡ map (place_in (seen ++ (q ∷ []))) ns
  table_more z =
      let new = place_in (seen ++ (q ∷ [])) in
      let old = map (place_in seen) ns in
      let v = Some (length seen + 1) in
      let long = length-map ns (place_in seen) in
      let here : (d : Option ℕ) → get_or (set old field v) field d ≡ get_or (map new ns) field d = λ d. get_or-set_same old field v d (omega arith) ∙ sym (get_or-map new ns field [] d lt ∙ ap new is ∙ place_new 1 q q seen refl z ∙ ap Some (omega arith)) in
      same_lists _ _ (length-set old field v ∙ long ∙ sym (length-map ns new))
      (λ k d h.
      let kn : k < length ns = omega (arith, length-set old field v) in
      ⊎_elim
      (λ e. subst (λ j. get_or (set old field v) j d ≡ get_or (map new ns) j d) (sym e) (here d))
      (λ ne. get_or-set_other old field k v d ne ∙ get_or-map (place_in seen) ns k [] d kn ∙ sym (place_other 1 (get_or ns k []) q seen (λ e. ne (unlike k field kn lt (e ∙ sym is)))) ∙ sym (get_or-map new ns k [] d kn))
      (cases_eq k field))

  -- one field more has a place
  pub count_more : place_in seen q ≡ None → placed_count (map (place_in seen) ns) ≡ length seen → placed_count (map (place_in (seen ++ (q ∷ []))) ns) ≡ length (seen ++ (q ∷ []))
  count_more z e =
      let here : get_or (map (place_in seen) ns) field None ≡ None = get_or-map (place_in seen) ns field [] None lt ∙ ap (place_in seen) is ∙ z in
      let more = count_set (map (place_in seen) ns) field (length seen + 1) (omega (arith, length-map ns (place_in seen))) here in
      omega (arith, ap placed_count (table_more z), length_push seen q)

-- so the place is never past the fields
pub place_le : (ns : List Bytes) (entry lines : List Parts) (found : List (Option ℕ)) (place : ℕ) → Placing ns entry lines found place → place ≤ length ns
place_le ns entry lines found place h = omega (arith, h.count, h.placed, count_le (map (place_in h.seen) ns), length-map ns (place_in h.seen))

-- what the table has for a field is where its name stood before
told : (ns seen : List Bytes) (found : List (Option ℕ)) (q : List ℕ) (field : ℕ) → found ≡ map (place_in seen) ns → field < length ns → get_or ns field [] ≡ q → get_or found field None ≡ place_in seen q
told ns seen found q field e lt is = ap (λ t. get_or t field None) e ∙ get_or-map (place_in seen) ns field [] None lt ∙ ap (place_in seen) is

pub placing_more : (ns : List Bytes) (entry lines after : List Parts) (found : List (Option ℕ)) (name : Bytes) (place field : ℕ) → Unlike ns → Placing ns entry lines found place → Some name ≡ next_part lines → after ≡ after_next lines → Finds name ns (Some field) → get_or found field None ≡ None → Placing ns entry after (set found field (Some (place + 1))) (place + 1)
placing_more ns entry [] after found name place field u h e a f z = absurd (apart e)
placing_more ns entry ([] ∷ ls) after found name place field u h e a f z = absurd (apart e)
placing_more ns entry ((q ∷ ps) ∷ ls) after found name place field u h e a f z =
    let nq : name ≡ q = cc in
    let is : get_or ns field [] ≡ q = f.1 ∙ nq in
    let new : place_in h.seen q ≡ None = sym (told ns h.seen found q field h.table f.0 is) ∙ z in
    let known : stands q ns ≡ true = some_from (place_in ns q) (place_some 1 q ns field f.0 is) in
    let unseen : not (stands q h.seen) ≡ true = ap (λ o. not (is_some o)) new in
    subst (λ t. Placing ns entry t (set found field (Some (place + 1))) (place + 1)) (sym a)
    (record {
      seen = h.seen ++ (q ∷ []);
      count = ap (λ n. n + 1) h.count ∙ sym (length_push h.seen q);
      table = (λ i. set (h.table i) field (Some (h.count i + 1))) ∙ table_more ns u h.seen q field f.0 is new;
      left = sym (cond-true _ _ _ (and_from _ _ known unseen)) ∙ h.left;
      placed = count_more ns u h.seen q field f.0 is new h.placed;
      later = h.later;
    })

-- a name that is unknown, or stood before
pub placing_stops : (ns : List Bytes) (entry lines : List Parts) (found : List (Option ℕ)) (name : Bytes) (place : ℕ) (o : Option ℕ) → Placing ns entry lines found place → Some name ≡ next_part lines → Finds name ns o → ((field : ℕ) → o ≡ Some field → get_or found field None ≢ None) → Err (Name (place + 1)) ≡ places_of ns (this_line entry)
placing_stops ns entry [] found name place o h e f z = absurd (apart e)
placing_stops ns entry ([] ∷ ls) found name place o h e f z = absurd (apart e)
placing_stops ns entry ((q ∷ ps) ∷ ls) found name place o h e f z = ap (λ n. Err (Name (n + 1))) h.count ∙ sym (cond-false _ _ _ (by o f z)) ∙ h.left
  where
    nq : name ≡ q
    nq = cc

    by : (o : Option ℕ) → Finds name ns o → ((field : ℕ) → o ≡ Some field → get_or found field None ≢ None) → (stands q ns && not (stands q h.seen)) ≡ false
    by None f z = and_left _ _ (ap is_some (ap (λ n. place_from 1 n ns) (sym nq) ∙ place_none 1 name ns f))
    by (Some field) f z = and_right _ _ (not_from_true _ (some_from (place_in h.seen q) (λ w. z field refl (told ns h.seen found q field h.table f.0 (f.1 ∙ nq) ∙ w))))

-- a field that has a place
pub has_place : (found : List (Option ℕ)) (o : Option ℕ) (i : ℕ) → o ≡ Some i → is_some (get_or found i None) ≡ true → (j : ℕ) → o ≡ Some j → get_or found j None ≢ None
has_place found o i is some j js none = let e : i ≡ j = same_some (sym is ∙ js) in false≢true (sym (ap (λ k. is_some (get_or found k None)) e ∙ ap is_some none) ∙ some)
