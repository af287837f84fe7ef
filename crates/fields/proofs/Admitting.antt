-- The first field that does not admit its number. Assumes nothing.
use Rattle.std.proofs.Common.{◌≡◌, ℕ, ◌+◌, cond, not, List, [], ◌∷◌, map, length, Some, sym, refl, ap, ◌∙◌, zero, suc, ◌<◌, get_or, arith}
use Rattle.std.specs.List.{position, position_from, zip}
use Rattle.std.specs.Option.{option_map}
use Rattle.std.proofs.lemmas.Iterator.Adapters.{position_from-zero}
use Rattle.checklist.specs.Firsts.{first_failed, test_at}
use Rattle.checklist.proofs.Failing.{first_position}
use Rattle.fields.specs.declared.Field.{Field}
use Rattle.fields.specs.Fields as spec
use Rattle.fields.specs.Fields.{admits, admitted, names_of}
use Rattle.fields.specs.Tables.{values_of, fields_of}

zipped : (i : ℕ) (fs : List Field) (ns : List ℕ) → position_from (λ (p : Field × ℕ). not (admits (values_of p.0.values) p.1)) i (zip fs ns) ≡ position_from (λ t. not t) i (admitted (fields_of fs) ns)
zipped i [] ns = refl
zipped i (f ∷ fs) [] = refl
zipped i (f ∷ fs) (n ∷ ns) = ap (cond (not (admits (values_of f.values) n)) (Some i)) (zipped (i + 1) fs ns)

pub first_out_is : (fs : List Field) (ns : List ℕ) → option_map (λ k. k + 1) (position (λ (p : Field × ℕ). not (admits (values_of p.0.values) p.1)) (zip fs ns)) ≡ first_failed (test_at (admitted (fields_of fs) ns)) 0 (length (admitted (fields_of fs) ns))
first_out_is fs ns =
    ap (option_map (λ k. k + 1)) (position_from-zero (λ (p : Field × ℕ). not (admits (values_of p.0.values) p.1)) (zip fs ns) ∙ zipped 0 fs ns ∙ sym (position_from-zero (λ t. not t) (admitted (fields_of fs) ns))) ∙ first_position (admitted (fields_of fs) ns)

-- whether the field at a place admits the number there
pub admitted_at : (fs : List spec.Field) (ns : List ℕ) (k : ℕ) (d : spec.Field) → k < length fs → k < length ns → test_at (admitted fs ns) k ≡ admits (get_or fs k d).values (get_or ns k 0)
admitted_at [] ns k d h i = absurd (omega (arith, h))
admitted_at (f ∷ fs) [] k d h i = absurd (omega (arith, i))
admitted_at (f ∷ fs) (n ∷ ns) zero d h i = refl
admitted_at (f ∷ fs) (n ∷ ns) (suc k) d h i = admitted_at fs ns k d (omega (arith, h)) (omega (arith, i))

pub length-admitted : (fs : List spec.Field) (ns : List ℕ) → length fs ≡ length ns → length (admitted fs ns) ≡ length fs
length-admitted [] ns h = refl
length-admitted (f ∷ fs) [] h = absurd (omega (arith, h))
length-admitted (f ∷ fs) (n ∷ ns) h = ap suc (length-admitted fs ns (omega (arith, h)))

-- the names of a table's fields
pub names_are : (fs : List Field) → names_of (fields_of fs) ≡ map (λ f. f.name.now) fs
names_are [] = refl
names_are (f ∷ fs) = ap (λ names. f.name.now ∷ names) (names_are fs)
