-- Which values a field may have. Assumes nothing.
use Rattle.std.specs.Prelude.{ℕ, Bool, List, [], ◌∷◌, map, nat_le}
use Rattle.eurocode.specs.Tables.{tabled}
use Rattle.checklist.specs.Firsts.{within}

-- the values of a field: at most so much, from a least to a greatest, or just those of a list
pub data Values : Type 0 where
  up_to : ℕ → Values
  between : ℕ → ℕ → Values
  one_of : List ℕ → Values

abbrev pub admits : Values → ℕ → Bool
admits (up_to most) n = nat_le n most
admits (between least most) n = within least most n
admits (one_of ns) n = tabled n ns

-- a field: its name and its values
pub record Field : Type 0 where
  pub name : List ℕ
  pub values : Values

abbrev pub field : List ℕ → Values → Field
field name values = record { name = name; values = values }

abbrev pub names_of : List Field → List (List ℕ)
names_of fields = map (λ f. f.name) fields

-- whether each field admits its number, in the order of the fields
abbrev pub admitted : List Field → List ℕ → List Bool
admitted [] ns = []
admitted (f ∷ fs) [] = []
admitted (f ∷ fs) (n ∷ ns) = admits f.values n ∷ admitted fs ns
