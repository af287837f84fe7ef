-- An annex text is granted exactly where it says one line of numbers that keep both laws. Assumes nothing.
use Rattle.std.proofs.Common.{◌≡◌, ℕ, List, [], ◌∷◌, length, IfErr, Some, None, Ok, Err, Option, Result, sym, refl, ap, ◌∙◌, subst, inl, inr, arith, MatchResult}
use Rattle.std.specs.Option as options
use Rattle.refusal.specs.declared.Refusal.{Refusal}
use Rattle.refusal.specs.declared.Refusal.TheVariants.{AnnexRange, Falling}
use Rattle.refusal.specs.Refusals.{at_line, on_err, on_ok}
use Rattle.text.specs.Texts.{Bytes, Parts, parts_by_line}
use Rattle.text.specs.Tokens.{later_lines}
use Rattle.reader.specs.Lines.{header_of, line_of, line_then, lines_from, lines_under}
use Rattle.reader.specs.Names.{WellNamed}
use Rattle.reader.specs.Says.{Says, AllUnder}
use Rattle.reader.proofs.Naming.{well_named}
use Rattle.reader.proofs.Saying.{read_says, says_read, under_ok, line_ok}
use Rattle.annex.specs.declared.numbers.Numbers.{Numbers}
use Rattle.national.specs.declared.annexes.NationalAnnex.{NationalAnnex}
use Rattle.national.specs.Annexes.{means_of}
use Rattle.annex.specs.Numbers.{annex_names, numbers_of}
use Rattle.checklist.specs.Firsts.{Passes, FailsFirst}
use Rattle.annex.specs.Laws.{Ranged, Rising, in_range, no_fall, first_out, first_fall}
use Rattle.checklist.proofs.Failing.{first_law}
use Rattle.national.specs.Acceptance.{refused_at, accepted_of, AcceptedLaw}
use Rattle.national.specs.Reading.{and_then, only_line, written_of, annex_of, Grants, GrantedLaw, BreaksFirst, Leaves}
use Rattle.national.proofs.Accepting.{accepted_law, accepted_keeps}

named : WellNamed annex_names
named = well_named annex_names refl

err_ok : {X : Type 0} {e : Refusal} {x : X} → ◌≡◌ {A = Result X Refusal} (Err e) (Ok x) → ⊥
err_ok h = let z : ◌≡◌ {A = ℕ} 0 1 = cc in omega arith

-- what was answered before
then_ok : {X Y : Type 0} (r : Result X Refusal) (f : X → Result Y Refusal) (y : Y) → and_then r f ≡ Ok y → (x : X) × (r ≡ Ok x) × (f x ≡ Ok y)
then_ok (Ok x) f y e = (x, refl, e)
then_ok (Err d) f y e = absurd (err_ok e)

-- the one line, and the lines of the whole text
only_lines : (places : List ℕ) (later : List Parts) (ns : List ℕ) → only_line places later ≡ Ok ns → lines_from places 2 later ≡ Ok (ns ∷ [])
only_lines places [] ns e = absurd (err_ok e)
only_lines places (parts ∷ []) ns e = ap (λ r. line_then r (Ok [])) e
only_lines places (parts ∷ next ∷ lines) ns e = absurd (err_ok e)

lines_only : (places : List ℕ) (later : List Parts) (ns : List ℕ) → lines_from places 2 later ≡ Ok (ns ∷ []) → only_line places later ≡ Ok ns
lines_only places [] ns e = absurd (let z : ◌≡◌ {A = ℕ} 0 1 = cc in omega arith)
lines_only places (parts ∷ []) ns e =
    let w = line_ok (on_err (at_line 2) (line_of places parts)) (Ok []) (ns ∷ []) e in
    let same : w.0 ≡ ns = let h = w.4 in cc in
    w.2 ∙ ap Ok same
lines_only places (parts ∷ next ∷ lines) ns e =
    let w = line_ok (on_err (at_line 2) (line_of places parts)) (lines_from places 3 (next ∷ lines)) (ns ∷ []) e in
    let v = line_ok (on_err (at_line 3) (line_of places next)) (lines_from places 4 lines) w.1 w.3 in
    absurd (let h = w.4 in let k = v.4 in let z : ◌≡◌ {A = ℕ} 0 1 = cc in omega arith)

-- numbers that are written are said, and the other way round
pub written_says : (text : Bytes) (ns : List ℕ) → written_of text ≡ Ok ns → Says annex_names text (ns ∷ [])
written_says text ns e =
    let w = then_ok (header_of annex_names text) (λ places. only_line places (later_lines (parts_by_line text))) ns e in
    read_says annex_names text (ns ∷ []) named.unlike (ap (λ r. lines_under r (later_lines (parts_by_line text))) w.1 ∙ only_lines w.0 (later_lines (parts_by_line text)) ns w.2)

says_written : (text : Bytes) (ns : List ℕ) → Says annex_names text (ns ∷ []) → written_of text ≡ Ok ns
says_written text ns s =
    let w = under_ok (header_of annex_names text) (later_lines (parts_by_line text)) (ns ∷ []) (says_read annex_names text (ns ∷ []) named s) in
    ap (λ r. and_then r (λ places. only_line places (later_lines (parts_by_line text)))) w.1 ∙ lines_only w.0 (later_lines (parts_by_line text)) ns w.2

-- a line of an annex text has 21 numbers
pub said_length : (text : Bytes) (ns : List ℕ) → Says annex_names text (ns ∷ []) → length ns ≡ 21
said_length text ns s = by s.rest s.values
  where
    by : (rest : List Parts) → AllUnder annex_names s.header rest (ns ∷ []) → length ns ≡ 21
    by [] u = absurd u
    by (parts ∷ rest) u = u.0.fields_count

-- so have the numbers that are written
pub written_length : (text : Bytes) (ns : List ℕ) → Ok ns ≡ written_of text → length ns ≡ 21
written_length text ns e = said_length text ns (written_says text ns (sym e))

by_result : {X : Type 0} (r : Result X Refusal) (P : Result X Refusal → Type 0) → ((x : X) → r ≡ Ok x → P (Ok x)) → ((e : Refusal) → r ≡ Err e → P (Err e)) → P r
by_result (Ok x) P a b = a x refl
by_result (Err e) P a b = b e refl

accepted_or_not : (text : Bytes) (ns : List ℕ) → Says annex_names text (ns ∷ []) → AcceptedLaw ns → written_of text ≡ Ok ns → GrantedLaw text (accepted_of ns)
accepted_or_not text ns s law is =
    by_result (accepted_of ns) (GrantedLaw text)
    (λ n e. let h = subst (λ r. MatchResult r (λ m. (m ≡ numbers_of ns) × Ranged ns × Rising ns) (λ _. Ranged ns → Rising ns → ⊥)) e law in (ns, record { says = s; ranged = h.1; rising = h.2 }, h.0))
    (λ d e. let h = subst (λ r. MatchResult r (λ m. (m ≡ numbers_of ns) × Ranged ns × Rising ns) (λ _. Ranged ns → Rising ns → ⊥)) e law in λ ms g. let same : ms ≡ ns = let k = sym (says_written text ms g.says) ∙ is in cc in h (subst Ranged same g.ranged) (subst Rising same g.rising))

pub granted : (text : Bytes) → GrantedLaw text (annex_of text)
granted text =
    by_result (written_of text) (λ r. GrantedLaw text (and_then r accepted_of))
    (λ ns e. let s = written_says text ns e in accepted_or_not text ns s (accepted_law ns (said_length text ns s)) e)
    (λ d e ns g. err_ok (sym e ∙ says_written text ns g.says))

-- what setting the numbers leaves
pub set_leaves : (ns : List ℕ) (before after : NationalAnnex) (r : Result (Unit {0}) Refusal) → r ≡ on_ok (λ _. tt) (accepted_of ns) → MatchResult r (λ _. means_of after ≡ numbers_of ns) (λ _. after ≡ before) → Leaves (accepted_of ns) before after
set_leaves ns before after r is h =
    by_result (accepted_of ns) (λ o. Leaves o before after)
    (λ n e. subst (λ x. MatchResult x (λ _. means_of after ≡ numbers_of ns) (λ _. after ≡ before)) (is ∙ ap (on_ok (λ _. tt)) e) h ∙ sym (accepted_keeps ns n (sym e)).0)
    (λ d e. subst (λ x. MatchResult x (λ _. means_of after ≡ numbers_of ns) (λ _. after ≡ before)) (is ∙ ap (on_ok (λ _. tt)) e) h)

-- what reading promises, from its answer and from what it leaves
abbrev Promise : Bytes → NationalAnnex → Result (Unit {0}) Refusal → Type 0
Promise text after r = MatchResult r (λ _. (ns : List ℕ) × Grants text ns × (means_of after ≡ numbers_of ns)) (λ _. (ns : List ℕ) → Grants text ns → ⊥)

pub read_granted : (text : Bytes) (before after : NationalAnnex) (r : Result (Unit {0}) Refusal) → r ≡ on_ok (λ _. tt) (annex_of text) → Leaves (annex_of text) before after → Promise text after r
read_granted text before after r is h = subst (Promise text after) (sym is) (by (annex_of text) h (granted text))
  where
    by : (o : Result Numbers Refusal) → Leaves o before after → GrantedLaw text o → Promise text after (on_ok (λ _. tt) o)
    by (Ok n) l g = (g.0, g.1, l ∙ g.2)
    by (Err e) l g = g

-- which number is told of those that are said
accepted_first : (ns : List ℕ) (e : Refusal) → accepted_of ns ≡ Err e → BreaksFirst ns e
unfolding first_out first_fall
accepted_first ns e = by (first_out ns) (first_fall ns) (first_law (in_range ns) 0 21) (first_law (no_fall ns) 11 10)
  where
    by : (out fall : Option ℕ) → options.MatchOption out (Passes (in_range ns) 0 21) (FailsFirst (in_range ns) 0 21) → options.MatchOption fall (Passes (no_fall ns) 11 10) (FailsFirst (no_fall ns) 11 10) → refused_at AnnexRange out (refused_at Falling fall (Ok (numbers_of ns))) ≡ Err e → BreaksFirst ns e
    by (Some f) fall o h is = inl (f, cc, o)
    by None (Some f) o h is = inr (f, cc, o, h)
    by None None o h is = absurd (err_ok (sym is))

pub read_first : (text : Bytes) (r : Result (Unit {0}) Refusal) → r ≡ on_ok (λ _. tt) (annex_of text) → IfErr r (λ e. (ns : List ℕ) → Says annex_names text (ns ∷ []) → BreaksFirst ns e)
read_first text r is = subst (λ x. IfErr x (λ e. (ns : List ℕ) → Says annex_names text (ns ∷ []) → BreaksFirst ns e)) (sym is) (by (annex_of text) refl)
  where
    by : (o : Result Numbers Refusal) → annex_of text ≡ o → IfErr (on_ok {Y = Unit {0}} (λ _. tt) o) (λ e. (ns : List ℕ) → Says annex_names text (ns ∷ []) → BreaksFirst ns e)
    by (Ok n) e = tt
    by (Err d) e = λ ns s. accepted_first ns d (ap (λ w. and_then w accepted_of) (sym (says_written text ns s)) ∙ e)
