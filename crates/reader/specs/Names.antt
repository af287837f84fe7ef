-- The names of fields, and where they stand in the first line of a text. Assumes nothing.
use Rattle.std.specs.Prelude.{◌≡◌, ℕ, ◌+◌, ◌-◌, ◌<◌, ◌≤◌, Bool, cond, not, ◌&&◌, List, [], ◌∷◌, ◌++◌, map, length, is_some, Some, None, Ok, Err, Option, MatchOption, Result, ◌≢◌, slice_index_or}
use Rattle.std.specs.List.{AllByRecursion}
use Rattle.std.specs.Str.{bytes_eq}
use Rattle.refusal.specs.declared.Refusal.{Refusal}
use Rattle.refusal.specs.declared.Refusal.TheVariants.{Name, Missing}
use Rattle.refusal.specs.Refusals.{on_ok}
use Rattle.text.specs.Texts.{Bytes, Parts, Plain}

-- no two of them are the same
abbrev pub Unlike : List Bytes → Type 0
Unlike names = (i j : ℕ) → i < length names → j < length names → slice_index_or names i [] ≡ slice_index_or names j [] → i ≡ j

-- names that a first line can bear: one to thirty, all unlike, none with a semicolon or a line feed in it
pub record WellNamed (names : List Bytes) : Type 0 where
  pub some : 1 ≤ length names
  pub few : length names ≤ 30
  pub unlike : Unlike names
  pub plain : AllByRecursion Plain names

-- the header bears each name once, in some order, and no other
pub record EachOnce (names : List Bytes) (header : Parts) : Type 0 where
  pub known : (k : ℕ) → k < length header → (f : ℕ) × (f < length names) × (slice_index_or names f [] ≡ slice_index_or header k [])
  pub once : Unlike header
  pub full : (f : ℕ) → f < length names → (k : ℕ) × (k < length header) × (slice_index_or header k [] ≡ slice_index_or names f [])

-- the name stands at this place of the header, counted from 1
abbrev pub StandsAt : Parts → ℕ → Bytes → Type 0
StandsAt header place name = (1 ≤ place) × (place ≤ length header) × (slice_index_or header (place - 1) [] ≡ name)

-- the field of this name, counted from 0
abbrev pub Finds : Bytes → List Bytes → Option ℕ → Type 0
Finds name names r = MatchOption r ((k : ℕ) → k < length names → slice_index_or names k [] ≢ name) (λ i. (i < length names) × (slice_index_or names i [] ≡ name))

-- the first place of a name in the header, counted from k, if it stands there
abbrev pub place_from : ℕ → Bytes → Parts → Option ℕ
place_from k name [] = None
place_from k name (h ∷ hs) = cond (bytes_eq name h) (Some k) (place_from (k + 1) name hs)

abbrev pub place_in : Parts → Bytes → Option ℕ
place_in header name = place_from 1 name header

abbrev pub stands : Bytes → Parts → Bool
stands name header = is_some (place_in header name)

-- a field's place in front of the others, or that its name is missing
abbrev pub place_then : Option ℕ → Result (List ℕ) Refusal → Result (List ℕ) Refusal
place_then None others = Err Missing
place_then (Some place) others = on_ok (λ places. place ∷ places) others

-- the places, if each field has one
abbrev pub all_placed : List (Option ℕ) → Result (List ℕ) Refusal
all_placed [] = Ok []
all_placed (p ∷ ps) = place_then p (all_placed ps)

-- the place of each name, where the names `seen` stand before these parts; else the first part that is unknown or was
-- seen, and else that a name is missing
abbrev pub places_from : List Bytes → Parts → Parts → Result (List ℕ) Refusal
places_from names seen [] = all_placed (map (place_in seen) names)
places_from names seen (h ∷ hs) = cond (stands h names && not (stands h seen)) (places_from names (seen ++ (h ∷ [])) hs) (Err (Name (length seen + 1)))

-- the place of each name in the header, or why it is none
abbrev pub places_of : List Bytes → Parts → Result (List ℕ) Refusal
places_of names header = places_from names [] header
