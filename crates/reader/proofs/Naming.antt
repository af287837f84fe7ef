-- Names that pass one computed test can stand in a first line. Assumes nothing.
use Rattle.std.proofs.Common.{◌≡◌, ℕ, zero, suc, ◌<◌, Bool, true, not, ◌&&◌, eqb, leb, List, [], ◌∷◌, length, get_or, sym, refl, ap, arith}
use Rattle.std.proofs.lemmas.Bool.{and_parts, leb-true, not-true}
use Rattle.std.proofs.lemmas.Bool.Decides.{Decides-not, Decides-eqb}
use Rattle.std.proofs.ByRecursion.{Decides-by_and}
use Rattle.std.specs.List.{AllByRecursion}
use Rattle.text.specs.Texts.{Bytes, Lacks, Plain}
use Rattle.reader.specs.Names.{WellNamed, Unlike, stands}
use Rattle.reader.proofs.Tables.{place_some, none_from}

-- all unlike
abbrev all_unlike : List Bytes → Bool
all_unlike [] = true
all_unlike (n ∷ ns) = not (stands n ns) && all_unlike ns

fresh : (n : List ℕ) (ns : List Bytes) (j : ℕ) → not (stands n ns) ≡ true → j < length ns → n ≡ get_or ns j [] → ⊥
fresh n ns j t lt e = place_some 1 n ns j lt (sym e) (none_from _ (not-true _ t))

unlike_from_test : (ns : List Bytes) → all_unlike ns ≡ true → Unlike ns
unlike_from_test [] t i j li lj e = absurd (omega arith)
unlike_from_test (n ∷ ns) t zero zero li lj e = refl
unlike_from_test (n ∷ ns) t zero (suc j) li lj e = absurd (fresh n ns j (and_parts _ _ t).0 (omega arith) e)
unlike_from_test (n ∷ ns) t (suc i) zero li lj e = absurd (fresh n ns i (and_parts _ _ t).0 (omega arith) (sym e))
unlike_from_test (n ∷ ns) t (suc i) (suc j) li lj e = ap suc (unlike_from_test ns (and_parts _ _ t).1 i j (omega arith) (omega arith) e)

-- without semicolons and line feeds
abbrev lacks : ℕ → Bytes → Bool
lacks s [] = true
lacks s (b ∷ bs) = not (eqb b s) && lacks s bs

abbrev all_plain : List Bytes → Bool
all_plain [] = true
all_plain (n ∷ ns) = (lacks 59 n && lacks 10 n) && all_plain ns

lacks_at : (s : ℕ) (bs : Bytes) → lacks s bs ≡ true → Lacks s bs
lacks_at s bs = (Decides-by_and (λ b. not (eqb b s)) (λ b. b ≡ s → ⊥) (lacks s) (λ b. Decides-not (eqb b s) (Decides-eqb b s)) refl (λ _ _. refl) bs).0

plain_from_test : (ns : List Bytes) → all_plain ns ≡ true → AllByRecursion Plain ns
plain_from_test [] t = tt
plain_from_test (n ∷ ns) t =
    let parts = and_parts (lacks 59 n && lacks 10 n) (all_plain ns) t in
    let both = and_parts (lacks 59 n) (lacks 10 n) parts.0 in
    ((lacks_at 59 n both.0, lacks_at 10 n both.1), plain_from_test ns parts.1)

-- one to thirty names, all unlike, none with a semicolon or a line feed in it
abbrev pub stand_as_names : List Bytes → Bool
stand_as_names ns = (leb 1 (length ns) && leb (length ns) 30) && (all_unlike ns && all_plain ns)

pub well_named : (ns : List Bytes) → stand_as_names ns ≡ true → WellNamed ns
well_named ns t =
    let parts = and_parts (leb 1 (length ns) && leb (length ns) 30) (all_unlike ns && all_plain ns) t in
    let count = and_parts (leb 1 (length ns)) (leb (length ns) 30) parts.0 in
    let names = and_parts (all_unlike ns) (all_plain ns) parts.1 in
    record { some = leb-true _ _ count.0; few = leb-true _ _ count.1; unlike = unlike_from_test ns names.0; plain = plain_from_test ns names.1 }
