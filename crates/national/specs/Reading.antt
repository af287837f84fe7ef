-- What an annex text says: the numbers that it grants, or what is refused first. Assumes nothing.
use Rattle.std.specs.Prelude.{◌≡◌, ℕ, ◌⊎◌, List, [], ◌∷◌, Ok, Err, Result, MatchResult}
use Rattle.refusal.specs.declared.Refusal.{Refusal}
use Rattle.refusal.specs.declared.Refusal.TheVariants.{AnnexLines, AnnexRange, Falling}
use Rattle.refusal.specs.Refusals.{at_line, on_err}
use Rattle.text.specs.Texts.{Bytes, Parts, parts_by_line}
use Rattle.text.specs.Tokens.{later_lines}
use Rattle.reader.specs.Lines.{header_of, line_of}
use Rattle.reader.specs.Says.{Says}
use Rattle.annex.specs.declared.numbers.Numbers.{Numbers}
use Rattle.national.specs.declared.annexes.NationalAnnex.{NationalAnnex}
use Rattle.annex.specs.Numbers.{annex_names, numbers_of}
use Rattle.checklist.specs.Firsts.{Passes, FailsFirst}
use Rattle.annex.specs.Laws.{Ranged, Rising, in_range, no_fall}
use Rattle.national.specs.Acceptance.{accepted_of}
use Rattle.national.specs.Annexes.{means_of}

-- f of what was answered, or the refusal
abbrev pub and_then : {X Y E : Type 0} → Result X E → (X → Result Y E) → Result Y E
and_then (Ok x) f = f x
and_then (Err e) f = Err e

-- the one line of values, which is the text's second line
abbrev pub only_line : List ℕ → List Parts → Result (List ℕ) Refusal
only_line places [] = Err AnnexLines
only_line places (parts ∷ []) = on_err (at_line 2) (line_of places parts)
only_line places (parts ∷ next ∷ lines) = Err AnnexLines

-- the numbers by field, before their own laws are looked at
abbrev pub written_of : Bytes → Result (List ℕ) Refusal
written_of text = and_then (header_of annex_names text) (λ places. only_line places (later_lines (parts_by_line text)))

-- the numbers that a text grants: first it must be a text, then have its names, one line, its values, and keep the laws
abbrev pub annex_of : Bytes → Result Numbers Refusal
annex_of text = and_then (written_of text) accepted_of

-- the text says these numbers, on one line, and they keep both laws
pub record Grants (text : Bytes) (ns : List ℕ) : Type 0 where
  pub says : Says annex_names text (ns ∷ [])
  pub ranged : Ranged ns
  pub rising : Rising ns

-- exactly the texts that grant numbers are granted, and those are the numbers
abbrev pub GrantedLaw : Bytes → Result Numbers Refusal → Type 0
GrantedLaw text r = MatchResult r (λ n. (ns : List ℕ) × Grants text ns × (n ≡ numbers_of ns)) (λ _. (ns : List ℕ) → Grants text ns → ⊥)

-- why numbers that are said are refused: the first of them out of its range, or, where all are in range, the first
-- multiple smaller than the one before it
abbrev pub BreaksFirst : List ℕ → Refusal → Type 0
BreaksFirst ns e = ((f : ℕ) × (e ≡ AnnexRange f) × FailsFirst (in_range ns) 0 21 f) ⊎ ((f : ℕ) × (e ≡ Falling f) × Passes (in_range ns) 0 21 × FailsFirst (no_fall ns) 11 10 f)

-- what reading leaves: a granted text's numbers are the annex's; a refused one leaves the annex as it was
abbrev pub Leaves : Result Numbers Refusal → NationalAnnex → NationalAnnex → Type 0
Leaves (Ok n) before after = means_of after ≡ n
Leaves (Err e) before after = after ≡ before
