-- A header is read exactly where it bears each name once, and then it has as many parts as there are names.
-- Assumes nothing.
use Rattle.std.proofs.Common.{◌≡◌, ℕ, zero, suc, ◌+◌, ◌-◌, ◌<◌, true, false, cond, not, ◌&&◌, ◌⊎◌, List, [], ◌∷◌, ◌++◌, map, length, get_or, take, is_some, Some, None, Ok, Err, Option, Result, sym, refl, ap, ◌∙◌, subst, inl, inr, ⊎_elim, append_assoc, append-nil, arith, length-append, MatchResult}
use Rattle.std.specs.Str.{bytes_eq}
use Rattle.std.proofs.lemmas.Slice.Eq.{bytes_eq-Decides}
use Rattle.std.proofs.lemmas.List.{get_or-map, get_or_append_left, get_or_at, length-map, length_push, take_at}
use Rattle.std.proofs.lemmas.Bool.{cases_Bool, cases_lt, cond-true, cond-false, and_parts, and_cases, not-true, not-false, false≢true}
use Rattle.refusal.specs.declared.Refusal.{Refusal}
use Rattle.text.specs.Texts.{Bytes}
use Rattle.reader.specs.Names.{Unlike, place_from, place_in, stands, place_then, all_placed, places_from, places_of, EachOnce, StandsAt}
use Rattle.reader.specs.Places.{all_within}
use Rattle.reader.proofs.Turns.{within_from}
use Rattle.reader.proofs.Tables.{apart, same_some, place_some, none_from, placed_count, count_none, count_more}

-- where a name stands, or that it does not
place_at : (k : ℕ) (n : List ℕ) (hs : List Bytes) → (place_from k n hs ≡ None) ⊎ ((i : ℕ) × (i < length hs) × (get_or hs i [] ≡ n) × (place_from k n hs ≡ Some (k + i)))
place_at k n [] = inl refl
place_at k n (h ∷ hs) =
    ⊎_elim
    (λ t. inr (0, omega arith, sym ((bytes_eq-Decides n h).0 t), cond-true _ _ _ t ∙ ap Some (omega arith)))
    (λ f. ⊎_elim (λ z. inl (cond-false _ _ _ f ∙ z)) (λ w. inr (suc w.0, omega (arith, w.1), w.2, cond-false _ _ _ f ∙ w.3 ∙ ap Some (omega arith))) (place_at (k + 1) n hs))
    (cases_Bool (bytes_eq n h))

-- the test of a name, by the places
stands_some : (n : List ℕ) (hs : List Bytes) → stands n hs ≡ true → (i : ℕ) × (i < length hs) × (get_or hs i [] ≡ n)
stands_some n hs t = ⊎_elim (λ z. absurd (false≢true (sym (ap is_some z) ∙ t))) (λ w. (w.0, w.1, w.2)) (place_at 1 n hs)

stands_none : (n : List ℕ) (hs : List Bytes) (i : ℕ) → stands n hs ≡ false → i < length hs → get_or hs i [] ≡ n → ⊥
stands_none n hs i f lt e = place_some 1 n hs i lt e (none_from _ f)

-- the names so far are known and unlike, and as many fields have a place
record Good (ns seen : List Bytes) : Type 0 where
  unlike : Unlike ns
  count : placed_count (map (place_in seen) ns) ≡ length seen
  known : (k : ℕ) → k < length seen → (f : ℕ) × (f < length ns) × (get_or ns f [] ≡ get_or seen k [])
  once : Unlike seen

module _ (ns seen : List Bytes) (h : List ℕ) where
  at_last : (d : List ℕ) (hs : List Bytes) → get_or (seen ++ (h ∷ hs)) (length seen) d ≡ h
  at_last d hs = get_or_at seen h hs d (length seen) refl

  before : (k : ℕ) (hs : List Bytes) → k < length seen → get_or (seen ++ (h ∷ hs)) k [] ≡ get_or seen k []
  before k hs lt = get_or_append_left seen (h ∷ hs) [] k lt

  good_more : Good ns seen → stands h ns ≡ true → stands h seen ≡ false → Good ns (seen ++ (h ∷ []))
  good_more g is new = record {
    unlike = g.unlike;
    count = let w = stands_some h ns is in count_more ns g.unlike seen h w.0 w.1 w.2 (none_from _ new) g.count;
    known = λ k lt. ⊎_elim (λ below. let w = g.known k below in (w.0, w.1, w.2 ∙ sym (before k [] below))) (λ on. let e : k ≡ length seen = omega (arith, length_push seen h) in let w = stands_some h ns is in (w.0, w.1, w.2 ∙ sym (ap (λ i. get_or (seen ++ (h ∷ [])) i []) e ∙ at_last [] []))) (cases_lt k (length seen));
    once = λ i j li lj e.
        ⊎_elim
        (λ bi. ⊎_elim (λ bj. g.once i j bi bj (sym (before i [] bi) ∙ e ∙ before j [] bj)) (λ oj. let ej : j ≡ length seen = omega (arith, length_push seen h) in absurd (stands_none h seen i new bi (sym (before i [] bi) ∙ e ∙ ap (λ x. get_or (seen ++ (h ∷ [])) x []) ej ∙ at_last [] []))) (cases_lt j (length seen)))
        (λ oi. let ei : i ≡ length seen = omega (arith, length_push seen h) in ⊎_elim (λ bj. absurd (stands_none h seen j new bj (sym (before j [] bj) ∙ sym e ∙ ap (λ x. get_or (seen ++ (h ∷ [])) x []) ei ∙ at_last [] []))) (λ oj. omega (arith, length_push seen h)) (cases_lt j (length seen)))
        (cases_lt i (length seen));
  }

  -- a name that is unknown or stands before
  bad : (hs : List Bytes) → (stands h ns && not (stands h seen)) ≡ false → EachOnce ns (seen ++ (h ∷ hs)) → ⊥
  bad hs f o =
      let here : length seen < length (seen ++ (h ∷ hs)) = omega (arith, length-append seen (h ∷ hs)) in
      ⊎_elim
      (λ u. let w = o.known (length seen) here in stands_none h ns w.0 u w.1 (w.2 ∙ at_last [] hs))
      (λ s. let w = stands_some h seen (not-false _ s) in let e = o.once w.0 (length seen) (omega (arith, w.1)) here (before w.0 hs w.1 ∙ w.2 ∙ sym (at_last [] hs)) in omega (arith, w.1))
      (and_cases _ _ f)

-- what all places come from
then_ok : (o : Option ℕ) (r : Result (List ℕ) Refusal) (ps : List ℕ) → place_then o r ≡ Ok ps → (q : ℕ) × (qs : List ℕ) × (o ≡ Some q) × (r ≡ Ok qs) × (ps ≡ q ∷ qs)
then_ok None r ps e = absurd (let z : ◌≡◌ {A = ℕ} 0 1 = cc in omega arith)
then_ok (Some q) (Ok qs) ps e = (q, qs, refl, refl, cc)
then_ok (Some q) (Err d) ps e = absurd (let z : ◌≡◌ {A = ℕ} 0 1 = cc in omega arith)

placed_each : (os : List (Option ℕ)) (ps : List ℕ) → all_placed os ≡ Ok ps → (length ps ≡ length os) × ((f : ℕ) → f < length os → get_or os f None ≡ Some (get_or ps f 0)) × (placed_count os ≡ length os)
placed_each [] ps e = let n : ps ≡ [] = cc in (ap length n, λ f lt. absurd (omega arith), refl)
placed_each (o ∷ os) ps e =
    let w = then_ok o (all_placed os) ps e in
    let more = placed_each os w.1 w.3 in
    let at : (f : ℕ) → f < length (o ∷ os) → get_or (o ∷ os) f None ≡ Some (get_or (w.0 ∷ w.1) f 0) = λ f lt. each w.0 w.1 f lt w.2 more.1 in
    (ap length w.4 ∙ ap suc more.0, λ f lt. at f lt ∙ ap (λ l. Some (get_or l f 0)) (sym w.4), (λ i. cond (is_some (w.2 i)) 1 0 + more.2 i) ∙ omega arith)
  where
    each : (q : ℕ) (qs : List ℕ) (f : ℕ) → f < length (o ∷ os) → o ≡ Some q → ((j : ℕ) → j < length os → get_or os j None ≡ Some (get_or qs j 0)) → get_or (o ∷ os) f None ≡ Some (get_or (q ∷ qs) f 0)
    each q qs zero lt first more = first
    each q qs (suc f) lt first more = more f (omega arith)

refused : (q : ℕ) (r : Result (List ℕ) Refusal) (e : Refusal) → place_then (Some q) r ≡ Err e → r ≡ Err e
refused q (Ok qs) e h = absurd (let z : ◌≡◌ {A = ℕ} 0 1 = cc in omega arith)
refused q (Err d) e h = let same : d ≡ e = cc in ap Err same

placed_not : (os : List (Option ℕ)) (e : Refusal) → all_placed os ≡ Err e → (f : ℕ) × (f < length os) × (get_or os f None ≡ None)
placed_not [] e h = absurd (let z : ◌≡◌ {A = ℕ} 0 1 = cc in omega arith)
placed_not (None ∷ os) e h = (0, omega arith, refl)
placed_not (Some q ∷ os) e h = let w = placed_not os e (refused q (all_placed os) e h) in (suc w.0, omega (arith, w.1), w.2)

-- the header bears each name once, has as many parts as there are names, and t has the place of each
pub record Placed (ns hs : List Bytes) (t : List ℕ) : Type 0 where
  pub once : EachOnce ns hs
  pub long : length t ≡ length ns
  pub count : length hs ≡ length ns
  pub at : (f : ℕ) → f < length ns → StandsAt hs (get_or t f 0) (get_or ns f [])

abbrev pub Told : List Bytes → List Bytes → Result (List ℕ) Refusal → Type 0
Told ns hs r = MatchResult r (Placed ns hs) (λ e. EachOnce ns hs → ⊥)

told_end : (ns seen : List Bytes) → Good ns seen → Told ns seen (places_from ns seen [])
told_end ns seen g = by (all_placed table) refl
  where
    table : List (Option ℕ)
    table = map (place_in seen) ns

    long : length table ≡ length ns
    long = length-map ns (place_in seen)

    at : (f : ℕ) → f < length ns → get_or table f None ≡ place_in seen (get_or ns f [])
    at f lt = get_or-map (place_in seen) ns f [] None lt

    by : (r : Result (List ℕ) Refusal) → all_placed table ≡ r → Told ns seen r
    by (Ok t) is =
        let each = placed_each table t is in
        let found : (f : ℕ) → f < length ns → (i : ℕ) × (i < length seen) × (get_or seen i [] ≡ get_or ns f []) × (get_or t f 0 ≡ 1 + i) = λ f lt. let here = sym (each.1 f (omega (arith, long))) ∙ at f lt in ⊎_elim (λ z. absurd (apart (here ∙ z))) (λ w. (w.0, w.1, w.2, same_some (here ∙ w.3))) (place_at 1 (get_or ns f []) seen) in
        record {
          once = record { known = g.known; once = g.once; full = λ f lt. let w = found f lt in (w.0, w.1, w.2) };
          long = each.0 ∙ long;
          count = sym g.count ∙ each.2 ∙ long;
          at = λ f lt. let w = found f lt in let q : get_or t f 0 - 1 ≡ w.0 = omega (arith, w.3) in (omega (arith, w.3), omega (arith, w.1, w.3), ap (λ i. get_or seen i []) q ∙ w.2);
        }
    by (Err e) is = λ o. let w = placed_not table e is in let lt : w.0 < length ns = omega (arith, w.1, long) in let v = o.full w.0 lt in place_some 1 (get_or ns w.0 []) seen v.0 v.1 v.2 (sym (at w.0 lt) ∙ w.2)

told_all : (ns seen hs : List Bytes) → Good ns seen → Told ns (seen ++ hs) (places_from ns seen hs)
told_all ns seen [] g = subst (λ l. Told ns l (places_from ns seen [])) (sym (append-nil seen)) (told_end ns seen g)
told_all ns seen (h ∷ hs) g =
    ⊎_elim
    (λ t. subst (Told ns (seen ++ (h ∷ hs))) (sym (cond-true _ _ _ t)) (subst (λ l. Told ns l (places_from ns (seen ++ (h ∷ [])) hs)) (append_assoc seen (h ∷ []) hs) (told_all ns (seen ++ (h ∷ [])) hs (good_more ns seen h g (and_parts _ _ t).0 (not-true _ (and_parts _ _ t).1)))))
    (λ f. subst (Told ns (seen ++ (h ∷ hs))) (sym (cond-false _ _ _ f)) (bad ns seen h hs f))
    (cases_Bool (stands h ns && not (stands h seen)))

-- a header is read exactly where it bears each name once
pub header_law : (ns hs : List Bytes) → Unlike ns → Told ns hs (places_of ns hs)
header_law ns hs u = told_all ns [] hs (record { unlike = u; count = count_none ns; known = λ k lt. absurd (omega arith); once = λ i j li lj e. absurd (omega arith) })

-- the table of a header that was read lies in the line, and stands at the front of a longer table
pub header_ready : (ns hs : List Bytes) (n : ℕ) (t post : List ℕ) → Unlike ns → n ≡ length ns → length t ≡ n → Ok t ≡ places_of ns hs → all_within n (take n (t ++ post)) ≡ true
header_ready ns hs n t post u is long e =
    let p : Placed ns hs t = subst (Told ns hs) (sym e) (header_law ns hs u) in
    ap (all_within n) (take_at t post n long) ∙ within_from n t (λ f lt. let w = p.at f (omega (arith, p.long)) in (w.0, omega (arith, w.1, p.count)))
