-- A text is read exactly where it says something, and then as what it says. Assumes nothing.
use Rattle.std.proofs.Common.{◌≡◌, ℕ, zero, suc, ◌+◌, ◌-◌, ◌<◌, Bool, true, false, cond, eqb, List, [], ◌∷◌, length, get_or, Some, None, Ok, Err, Option, Result, sym, refl, ap, ◌∙◌, subst, arith}
use Rattle.std.proofs.ByRecursion.{All-get_or, All-from_get_or}
use Rattle.std.proofs.lemmas.List.{get_or-map, length-map, same_lists, get_or_default}
use Rattle.std.proofs.lemmas.Bool.{cond-true, eq-eqb, eqb-true, and_parts, leb-true, false≢true}
use Rattle.std.specs.List.{AllByRecursion}
use Rattle.refusal.specs.declared.Refusal.{Refusal}
use Rattle.refusal.specs.declared.Refusal.TheVariants.{Text, Count}
use Rattle.refusal.specs.Refusals.{at_line, on_err, on_ok}
use Rattle.text.specs.Texts.{Bytes, Parts, is_text, parts_by_line, text_of, Plain, PlainLine}
use Rattle.text.specs.Tokens.{this_line, later_lines}
use Rattle.text.specs.Values.{Writes, value_of}
use Rattle.text.proofs.Joining.{text_joined, text_apart, text_of_lines}
use Rattle.text.proofs.Written.{value_writes, writes_value, writes_plain}
use Rattle.reader.specs.Names.{WellNamed, Unlike, EachOnce, places_of}
use Rattle.reader.specs.Lines.{value_then, values_from, values_of, by_field, line_of, line_then, lines_from, header_of, lines_under, read_of}
use Rattle.reader.specs.Says.{Under, AllUnder, Says, Counts, Checks}
use Rattle.reader.proofs.Turns.{told_goes}
use Rattle.reader.proofs.Bearing.{Placed, Told, header_law}

err_ok : {X E : Type 0} {e : E} {x : X} → ◌≡◌ {A = Result X E} (Err e) (Ok x) → ⊥
err_ok h = let z : ◌≡◌ {A = ℕ} 0 1 = cc in omega arith

-- what a result comes from
on_ok_lem : {X Y : Type 0} (f : X → Y) (r : Result X Refusal) (y : Y) → on_ok f r ≡ Ok y → (x : X) × (r ≡ Ok x) × (y ≡ f x)
on_ok_lem f (Ok x) y e = (x, refl, cc)
on_ok_lem f (Err d) y e = absurd (err_ok e)

then_ok : (o : Option ℕ) (p : ℕ) (r : Result (List ℕ) Refusal) (vs : List ℕ) → value_then o p r ≡ Ok vs → (v : ℕ) × (ws : List ℕ) × (o ≡ Some v) × (r ≡ Ok ws) × (vs ≡ v ∷ ws)
then_ok None p r vs e = absurd (err_ok e)
then_ok (Some v) p r vs e = let w = on_ok_lem (λ ws. v ∷ ws) r vs e in (v, w.0, refl, w.1, w.2)

pub line_ok : (l : Result (List ℕ) Refusal) (r : Result (List (List ℕ)) Refusal) (ls : List (List ℕ)) → line_then l r ≡ Ok ls → (k : List ℕ) × (ks : List (List ℕ)) × (l ≡ Ok k) × (r ≡ Ok ks) × (ls ≡ k ∷ ks)
line_ok (Ok k) r ls e = let w = on_ok_lem (λ ks. k ∷ ks) r ls e in (k, w.0, refl, w.1, w.2)
line_ok (Err d) r ls e = absurd (err_ok e)

pub under_ok : (r : Result (List ℕ) Refusal) (ls : List Parts) (lines : List (List ℕ)) → lines_under r ls ≡ Ok lines → (t : List ℕ) × (r ≡ Ok t) × (lines_from t 2 ls ≡ Ok lines)
under_ok (Ok t) ls lines e = (t, refl, e)
under_ok (Err d) ls lines e = absurd (err_ok e)

cond_ok : {X : Type 0} (b : Bool) (r : Result X Refusal) (d : Refusal) (x : X) → cond b r (Err d) ≡ Ok x → (b ≡ true) × (r ≡ Ok x)
cond_ok true r d x e = (refl, e)
cond_ok false r d x e = absurd (err_ok e)

-- the values of a line: as many as its parts, each of them written there
values_ok : (p : ℕ) (parts : Parts) (vs : List ℕ) → values_from p parts ≡ Ok vs → (length vs ≡ length parts) × ((k : ℕ) → k < length parts → value_of (get_or parts k []) ≡ Some (get_or vs k 0))
values_ok p [] vs e = let n : vs ≡ [] = cc in (ap length n, λ k lt. absurd (omega arith))
values_ok p (q ∷ parts) vs e =
    let w = then_ok (value_of q) p (values_from (p + 1) parts) vs e in
    let more = values_ok (p + 1) parts w.1 w.3 in
    let at : (k : ℕ) → k < length (q ∷ parts) → value_of (get_or (q ∷ parts) k []) ≡ Some (get_or (w.0 ∷ w.1) k 0) = λ k lt. each w.0 w.1 k lt w.2 more.1 in
    (ap length w.4 ∙ ap suc more.0, λ k lt. at k lt ∙ ap (λ l. Some (get_or l k 0)) (sym w.4))
  where
    each : (v : ℕ) (ws : List ℕ) (k : ℕ) → k < length (q ∷ parts) → value_of q ≡ Some v → ((j : ℕ) → j < length parts → value_of (get_or parts j []) ≡ Some (get_or ws j 0)) → value_of (get_or (q ∷ parts) k []) ≡ Some (get_or (v ∷ ws) k 0)
    each v ws zero lt first more = first
    each v ws (suc k) lt first more = more k (omega arith)

values_from_lem : (p : ℕ) (parts : Parts) → ((k : ℕ) → k < length parts → (v : ℕ) × (value_of (get_or parts k []) ≡ Some v)) → (vs : List ℕ) × (values_from p parts ≡ Ok vs)
values_from_lem p [] h = ([], refl)
values_from_lem p (q ∷ parts) h =
    let first = h 0 (omega arith) in
    let more = values_from_lem (p + 1) parts (λ k lt. h (suc k) (omega arith)) in
    (first.0 ∷ more.0, (λ i. value_then (first.1 i) p (more.1 i)))

-- one line, under a header that bears the names at the places t
module _ (names : List Bytes) (header : Parts) (t : List ℕ) (p : Placed names header t) where
  field_at : (vs : List ℕ) (f : ℕ) → f < length names → get_or (by_field t vs) f 0 ≡ get_or vs (get_or t f 0 - 1) 0
  field_at vs f lt = get_or-map (λ q. get_or vs (q - 1) 0) t f 0 0 (omega (arith, p.long))

  line_under : (parts : Parts) (line : List ℕ) → line_of t parts ≡ Ok line → Under names header parts line
  line_under parts line e =
      let w = on_ok_lem (by_field t) (values_of (length t) parts) line e in
      let vs = w.0 in
      let c = cond_ok (eqb (length parts) (length t)) (values_from 1 parts) (Count 0) vs w.1 in
      let v = values_ok 1 parts vs c.1 in
      let long : length parts ≡ length t = eqb-true _ _ c.0 in
      record {
        parts_count = long ∙ p.long ∙ sym p.count;
        fields_count = ap length w.2 ∙ length-map t (λ q. get_or vs (q - 1) 0) ∙ p.long;
        written = λ f k lf lk same.
            let at = p.at f lf in
            let here : k ≡ get_or t f 0 - 1 = p.once.once k (get_or t f 0 - 1) lk (omega (arith, at)) (same ∙ sym at.2) in
            let is : get_or line f 0 ≡ get_or vs k 0 = ap (λ l. get_or l f 0) w.2 ∙ field_at vs f lf ∙ ap (λ j. get_or vs j 0) (sym here) in
            subst (Writes (get_or parts k [])) (sym is) (value_writes _ _ (v.1 k (omega (arith, long, p.long, p.count))));
      }

  under_line : (parts : Parts) (line : List ℕ) → Under names header parts line → line_of t parts ≡ Ok line
  under_line parts line u =
      let each : (k : ℕ) → k < length parts → (v : ℕ) × (value_of (get_or parts k []) ≡ Some v) = λ k lt. let known = p.once.known k (omega (arith, u.parts_count)) in (get_or line known.0 0, writes_value _ _ (u.written known.0 k known.1 (omega (arith, u.parts_count)) (sym known.2))) in
      let w = values_from_lem 1 parts each in
      let vs = w.0 in
      let v = values_ok 1 parts vs w.1 in
      let fields : by_field t vs ≡ line =
      same_lists (by_field t vs) line (length-map t (λ q. get_or vs (q - 1) 0) ∙ p.long ∙ sym u.fields_count)
      (λ f d lt.
      let lf : f < length names = omega (arith, length-map t (λ q. get_or vs (q - 1) 0), p.long) in
      let at = p.at f lf in
      let k = get_or t f 0 - 1 in
      let lk : k < length parts = omega (arith, at, u.parts_count) in
      let one = v.1 k lk in
      let two = writes_value _ _ (u.written f k lf (omega (arith, at)) at.2) in
      let eq : get_or vs k 0 ≡ get_or line f 0 = same_some (sym one ∙ two) in
      get_or_default (by_field t vs) f d 0 lt ∙ field_at vs f lf ∙ eq ∙ get_or_default line f 0 d (omega (arith, u.fields_count)))
      in
      ap (on_ok (by_field t)) (cond-true _ _ _ (eq-eqb _ _ (u.parts_count ∙ p.count ∙ sym p.long)) ∙ w.1) ∙ ap Ok fields
    where
      same_some : {a b : ℕ} → Some a ≡ Some b → a ≡ b
      same_some e = cc

  lines_under_lem : (k : ℕ) (rest : List Parts) (lines : List (List ℕ)) → lines_from t k rest ≡ Ok lines → AllUnder names header rest lines
  lines_under_lem k [] [] e = tt
  lines_under_lem k [] (l ∷ ls) e = absurd (let z : ◌≡◌ {A = ℕ} 0 1 = cc in omega arith)
  lines_under_lem k (parts ∷ rest) lines e =
      let w = line_ok (on_err (at_line k) (line_of t parts)) (lines_from t (k + 1) rest) lines e in
      subst (AllUnder names header (parts ∷ rest)) (sym w.4) (line_under parts w.0 (told_goes _ k _ w.2), lines_under_lem (k + 1) rest w.1 w.3)

  under_lines : (k : ℕ) (rest : List Parts) (lines : List (List ℕ)) → AllUnder names header rest lines → lines_from t k rest ≡ Ok lines
  under_lines k [] [] u = refl
  under_lines k [] (l ∷ ls) u = absurd u
  under_lines k (parts ∷ rest) [] u = absurd u
  under_lines k (parts ∷ rest) (l ∷ ls) u = (λ i. line_then (on_err (at_line k) (under_line parts l u.0 i)) (under_lines (k + 1) rest ls u.1 i))

-- a text has a first line
first_and_later : (text : Bytes) (lines : List Parts) → is_text text ≡ true → text_of lines ≡ text → lines ≡ this_line lines ∷ later_lines lines
first_and_later text [] t e = absurd (false≢true (ap is_text e ∙ t))
first_and_later text (l ∷ ls) t e = refl

-- what is read is said
pub read_says : (names : List Bytes) (text : Bytes) (lines : List (List ℕ)) → Unlike names → read_of names text ≡ Ok lines → Says names text lines
read_says names text lines unlike e =
    let all = parts_by_line text in
    let w = under_ok (header_of names text) (later_lines all) lines e in
    let h = cond_ok (is_text text) (places_of names (this_line all)) Text w.0 w.1 in
    let p : Placed names (this_line all) w.0 = subst (Told names (this_line all)) h.1 (header_law names (this_line all) unlike) in
    let j = text_joined text h.0 in
    record {
      header = this_line all;
      rest = later_lines all;
      short = leb-true _ _ (and_parts _ _ h.0).0;
      joined = ap text_of (sym (first_and_later text all h.0 j)) ∙ j;
      names_once = p.once;
      values = lines_under_lem names (this_line all) w.0 p 2 (later_lines all) lines w.2;
    }

-- the parts of such a text are plain
module _ (names : List Bytes) (good : WellNamed names) (header : Parts) (once : EachOnce names header) where
  plain_header : PlainLine header
  plain_header = (
    let w = once.full 0 (omega (arith, good.some)) in omega (arith, w.1),
    All-from_get_or Plain header [] (λ k lt. let w = once.known k lt in subst Plain w.2 (All-get_or Plain names w.0 [] w.1 good.plain)),
  )

  plain_line : (parts : Parts) (line : List ℕ) → Under names header parts line → PlainLine parts
  plain_line parts line u = (
    omega (arith, plain_header.0, u.parts_count),
    All-from_get_or Plain parts [] (λ k lt. let w = once.known k (omega (arith, u.parts_count)) in writes_plain _ _ (u.written w.0 k w.1 (omega (arith, u.parts_count)) (sym w.2))),
  )

  plain_lines : (rest : List Parts) (lines : List (List ℕ)) → AllUnder names header rest lines → AllByRecursion PlainLine rest
  plain_lines [] [] u = tt
  plain_lines [] (l ∷ ls) u = absurd u
  plain_lines (parts ∷ rest) [] u = absurd u
  plain_lines (parts ∷ rest) (l ∷ ls) u = (plain_line parts l u.0, plain_lines rest ls u.1)

told_ok : (names : List Bytes) (header : Parts) (r : Result (List ℕ) Refusal) → Told names header r → EachOnce names header → (t : List ℕ) × (r ≡ Ok t) × Placed names header t
told_ok names header (Ok t) h once = (t, refl, h)
told_ok names header (Err e) h once = absurd (h once)

-- what is said is read
pub says_read : (names : List Bytes) (text : Bytes) (lines : List (List ℕ)) → WellNamed names → Says names text lines → read_of names text ≡ Ok lines
says_read names text lines good s =
    let plain : AllByRecursion PlainLine (s.header ∷ s.rest) = (plain_header names good s.header s.names_once, plain_lines names good s.header s.names_once s.rest lines s.values) in
    let all : parts_by_line text ≡ s.header ∷ s.rest = ap parts_by_line (sym s.joined) ∙ text_apart (s.header ∷ s.rest) plain in
    let whole = text_of_lines s.header s.rest text plain s.joined s.short in
    let w = told_ok names s.header (places_of names s.header) (header_law names s.header good.unlike) s.names_once in
    let head : header_of names text ≡ Ok w.0 = cond-true _ _ _ whole ∙ ap (λ ls. places_of names (this_line ls)) all ∙ w.1 in
    (λ i. lines_under (head i) (later_lines (all i))) ∙ under_lines names s.header w.0 w.2 2 s.rest lines s.values

-- so a text is counted exactly where it says something
counts : (names : List Bytes) (text : Bytes) (r : Result ℕ Refusal) → WellNamed names → r ≡ on_ok length (read_of names text) → Counts names text r
counts names text r good e = subst (Counts names text) (sym e) (by (read_of names text) refl)
  where
    by : (o : Result (List (List ℕ)) Refusal) → read_of names text ≡ o → Counts names text (on_ok length o)
    by (Ok lines) is = (lines, read_says names text lines good.unlike is, refl)
    by (Err d) is = λ lines s. err_ok (sym is ∙ says_read names text lines good s)

-- and so is it checked: by what is read, or by the refusal of a step; x is what the lines behind the header give
pub checked_all : (names : List Bytes) (text : Bytes) (r m : ℕ) (x : Result ℕ Refusal) → WellNamed names → r ≡ m → Ok m ≡ x → x ≡ on_ok length (read_of names text) → Checks names text (Ok r)
checked_all names text r m x good same h all = let e = ap Ok same ∙ h ∙ all in record { count = e; says = counts names text (Ok r) good e }

pub checked_refused : (names : List Bytes) (text : Bytes) (r : Result ℕ Refusal) (d e : Refusal) (x : Result ℕ Refusal) → WellNamed names → r ≡ Err d → d ≡ e → Err e ≡ x → x ≡ on_ok length (read_of names text) → Checks names text r
checked_refused names text r d e x good is same h all = let q = is ∙ ap Err same ∙ h ∙ all in record { count = q; says = counts names text r good q }
