-- Which numbers an annex accepts, and why it refuses others. Assumes nothing.
use Rattle.std.specs.Prelude.{◌≡◌, ℕ, List, map, Some, None, Ok, Err, Option, Result, MatchResult}
use Rattle.refusal.specs.declared.Refusal.{Refusal}
use Rattle.refusal.specs.declared.Refusal.TheVariants.{AnnexRange, Falling}
use Rattle.annex.specs.declared.numbers.Numbers.{Numbers}
use Rattle.std.specs.List.{zip}
use Rattle.fields.specs.Fields.{Field, field, between}
use Rattle.annex.specs.Numbers.{annex_names, ranges, numbers_of}
use Rattle.annex.specs.Laws.{Ranged, Rising, first_out, first_fall}

-- the fields of an annex text: each name beside its range
abbrev pub annex_fields : List Field
annex_fields = map (λ p. field p.0 (between p.1.0 p.1.1)) (zip annex_names ranges)

-- the refusal at a field, if there is one, before what follows
abbrev pub refused_at : {X : Type 0} → (ℕ → Refusal) → Option ℕ → Result X Refusal → Result X Refusal
refused_at why None r = r
refused_at why (Some field) r = Err (why field)

-- the ranges are tested before the multiples, and the first field that fails is named
abbrev pub accepted_of : List ℕ → Result Numbers Refusal
accepted_of ns = refused_at AnnexRange (first_out ns) (refused_at Falling (first_fall ns) (Ok (numbers_of ns)))

-- 21 numbers are accepted exactly where both laws hold, and then as they are
abbrev pub AcceptedLaw : List ℕ → Type 0
AcceptedLaw ns = MatchResult (accepted_of ns) (λ n. (n ≡ numbers_of ns) × Ranged ns × Rising ns) (λ _. Ranged ns → Rising ns → ⊥)
