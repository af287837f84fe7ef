-- Numbers that stand in a table, and rules between any two of them, proved by tests that antt computes. Assumes nothing.
use Rattle.std.specs.List.{position, position_from, list_any}
use Rattle.std.proofs.lemmas.Iterator.Adapters.{position_from-zero}
use Rattle.std.proofs.Common.{◌≡◌, ℕ, zero, suc, ◌+◌, ◌<◌, ◌≤◌, Bool, true, false, cond, not, ◌&&◌, ◌||◌, T, eqb, ltb, leb, List, [], ◌∷◌, length, get_or, is_some, Some, None, sym, refl, ap, ◌∙◌, subst, ⊎_elim, arith, eqb→eq}
use Rattle.std.proofs.lemmas.Bool.{and_parts, cases_order, eq-eqb, leb-true}
use Rattle.std.proofs.lemmas.Bool.Decides.{nat_tests, Decides-below_and, Decides-eqb}
use Rattle.eurocode.specs.Tables.{tabled, place, beside}

pub truth : (b : Bool) → T b → b ≡ true
truth true t = refl
truth false t = absurd t

-- what is tabled stands at its place
pub stands : (x : ℕ) (xs : List ℕ) → T (tabled x xs) → (place x xs < length xs) × (get_or xs (place x xs) 0 ≡ x)
unfolding tabled place
stands x [] m = absurd m
stands x (y ∷ ys) m = go (stands x ys) (eqb x y) (eqb→eq x y) m
  where
    go : (T (tabled x ys) → (place x ys < length ys) × (get_or ys (place x ys) 0 ≡ x)) → (b : Bool) → (T b → x ≡ y) → T (b || tabled x ys) → (cond b 0 (suc (place x ys)) < suc (length ys)) × (get_or (y ∷ ys) (cond b 0 (suc (place x ys))) 0 ≡ x)
    go rest true e m = (omega arith, sym (e tt))
    go rest false e m = (omega (arith, (rest m).0), (rest m).1)

-- what stands at a row is tabled
pub tabled_row : (xs : List ℕ) (i : ℕ) → i < length xs → T (tabled (get_or xs i 0) xs)
unfolding tabled
tabled_row [] i h = absurd (omega arith)
tabled_row (y ∷ ys) zero h = let e : true ≡ eqb y y = sym (eq-eqb y y refl) in subst (λ b. T (b || tabled y ys)) e tt
tabled_row (y ∷ ys) (suc i) h = go (eqb (get_or ys i 0) y) (tabled_row ys i (omega arith))
  where
    go : (b : Bool) → T (tabled (get_or ys i 0) ys) → T (b || tabled (get_or ys i 0) ys)
    go true t = tt
    go false t = t

-- the test passes at each entry
abbrev every : (ℕ → Bool) → List ℕ → Bool
every f [] = true
every f (x ∷ xs) = f x && every f xs

pub every_at : (f : ℕ → Bool) (xs : List ℕ) → every f xs ≡ true → (x : ℕ) → T (tabled x xs) → f x ≡ true
unfolding tabled
every_at f [] t x m = absurd m
every_at f (y ∷ ys) t x m = let p = and_parts (f y) (every f ys) t in go (every_at f ys p.1 x) p.0 (eqb x y) (eqb→eq x y) m
  where
    go : (T (tabled x ys) → f x ≡ true) → f y ≡ true → (b : Bool) → (T b → x ≡ y) → T (b || tabled x ys) → f x ≡ true
    go rest here true e m = ap f (e tt) ∙ here
    go rest here false e m = rest m

-- every entry is at least `lo` and at most `hi`, by what `f` makes of it
abbrev within : ℕ → ℕ → (ℕ → ℕ) → ℕ → Bool
within lo hi f x = leb lo (f x) && leb (f x) hi

pub within_at : (lo hi : ℕ) (f : ℕ → ℕ) (xs : List ℕ) → every (within lo hi f) xs ≡ true → (x : ℕ) → T (tabled x xs) → (lo ≤ f x) × (f x ≤ hi)
within_at lo hi f xs t x m = let p = and_parts (leb lo (f x)) (leb (f x) hi) (every_at (within lo hi f) xs t x m) in (leb-true lo (f x) p.0, leb-true (f x) hi p.1)

-- `lower x y` stays below `upper x y` where x is below y, and at most `upper x y` where x is at most y
pub record Rises (table : List ℕ) (lower upper : ℕ → ℕ → ℕ) : Type 0 where
  pub strict : (x y : ℕ) → T (tabled x table) → T (tabled y table) → x < y → lower x y < upper x y
  pub weak : (x y : ℕ) → T (tabled x table) → T (tabled y table) → x ≤ y → lower x y ≤ upper x y

-- the test of one pair, and of every pair
abbrev rising : (lower upper : ℕ → ℕ → ℕ) → ℕ → ℕ → Bool
rising lower upper x y = not (ltb x y) || ltb (lower x y) (upper x y)

abbrev pairs : (ℕ → ℕ → Bool) → List ℕ → Bool
pairs f xs = every (λ x. every (f x) xs) xs

pub pairs_at : (f : ℕ → ℕ → Bool) (xs : List ℕ) → pairs f xs ≡ true → (x y : ℕ) → T (tabled x xs) → T (tabled y xs) → f x y ≡ true
pairs_at f xs t x y m n = every_at (f x) xs (every_at (λ x. every (f x) xs) xs t x m) y n

pub rises : (table : List ℕ) (lower upper : ℕ → ℕ → ℕ) → pairs (rising lower upper) table ≡ true → ((x : ℕ) → lower x x ≡ upper x x) → Rises table lower upper
rises table lower upper t level = record { strict = less; weak = λ x y m n h. ⊎_elim (λ e. same x y e) (⊎_elim (λ l. omega (arith, less x y m n l)) (λ g. absurd (omega arith))) (cases_order x y) }
  where
    less : (x y : ℕ) → T (tabled x table) → T (tabled y table) → x < y → lower x y < upper x y
    less x y m n h = let p = pairs_at (rising lower upper) table t x y m n in grind (arith, nat_tests)

    same : (x y : ℕ) → x ≡ y → lower x y ≤ upper x y
    same x y e = subst (λ z. lower x z ≤ upper x z) e (omega (arith, level x))

-- what stands beside a tabled number, and beside no other
pub beside_tabled : (keys values : List ℕ) (x : ℕ) → T (tabled x keys) → beside keys values x ≡ get_or values (place x keys) 0
unfolding beside
beside_tabled keys values x m = ap (λ b. cond b (get_or values (place x keys) 0) 0) (truth (tabled x keys) m)

pub beside_other : (keys values : List ℕ) (x : ℕ) → tabled x keys ≡ false → beside keys values x ≡ 0
unfolding beside
beside_other keys values x e = ap (λ b. cond b (get_or values (place x keys) 0) 0) e

-- each of the first rows is the place of what stands there
abbrev apart : List ℕ → ℕ → Bool
apart xs zero = true
apart xs (suc n) = eqb (place (get_or xs n 0) xs) n && apart xs n

-- of a table whose rows are apart
module _ (xs : List ℕ) (t : apart xs (length xs) ≡ true) (i : ℕ) (h : i < length xs) where
  pub place_row : place (get_or xs i 0) xs ≡ i
  place_row = (Decides-below_and (λ i. eqb (place (get_or xs i 0) xs) i) (λ i. place (get_or xs i 0) xs ≡ i) (apart xs) (λ i. Decides-eqb (place (get_or xs i 0) xs) i) refl (λ _. refl) (length xs)).0 t i h

  pub beside_row : (values : List ℕ) → beside xs values (get_or xs i 0) ≡ get_or values i 0
  beside_row values = beside_tabled xs values (get_or xs i 0) (tabled_row xs i h) ∙ ap (λ j. get_or values j 0) place_row

-- the first that equals x stands at x's place
position_is : (x i : ℕ) (xs : List ℕ) → position_from (λ y. eqb y x) i xs ≡ cond (tabled x xs) (Some (i + place x xs)) None
unfolding tabled place
position_is x i [] = refl
position_is x i (y ∷ ys) = go (position_is x (i + 1) ys) (eqb y x) (eqb x y) (let e : eqb y x ≡ eqb x y = grind (arith, nat_tests) in e)
  where
    later : (b : Bool) → cond b (Some (i + 1 + place x ys)) None ≡ cond b (Some (i + suc (place x ys))) None
    later true = let e : i + 1 + place x ys ≡ i + suc (place x ys) = omega arith in ap Some e
    later false = refl

    go : position_from (λ y. eqb y x) (i + 1) ys ≡ cond (tabled x ys) (Some (i + 1 + place x ys)) None → (b c : Bool) → b ≡ c → cond b (Some i) (position_from (λ y. eqb y x) (i + 1) ys) ≡ cond (c || tabled x ys) (Some (i + cond c 0 (suc (place x ys)))) None
    go rest true c e = subst (λ b. Some i ≡ cond (b || tabled x ys) (Some (i + cond b 0 (suc (place x ys)))) None) e (let e : i ≡ i + 0 = omega arith in ap Some e)
    go rest false c e = subst (λ b. position_from (λ y. eqb y x) (i + 1) ys ≡ cond (b || tabled x ys) (Some (i + cond b 0 (suc (place x ys)))) None) e (rest ∙ later (tabled x ys))

search_is : (x : ℕ) (xs : List ℕ) → position (λ y. eqb y x) xs ≡ cond (tabled x xs) (Some (place x xs)) None
search_is x xs = position_from-zero (λ y. eqb y x) xs ∙ position_is x 0 xs ∙ (let e : 0 + place x xs ≡ place x xs = omega arith in ap (λ k. cond (tabled x xs) (Some k) None) e)

pub searched : (x : ℕ) {read xs : List ℕ} → read ≡ xs → position (λ y. eqb y x) read ≡ cond (tabled x xs) (Some (place x xs)) None
searched x {read} {xs} e = ap (position (λ y. eqb y x)) e ∙ search_is x xs

-- one of the table's numbers equals x where x is tabled
pub any_is : (x : ℕ) (xs : List ℕ) → list_any (λ y. eqb y x) xs ≡ tabled x xs
unfolding tabled
any_is x [] = refl
any_is x (y ∷ ys) =
    let e : eqb y x ≡ eqb x y = grind (arith, nat_tests) in
    let rest = any_is x ys in
    λ i. e i || rest i

-- what a search of a table says: at what row x stands, or that it is not in it
pub found : (x row : ℕ) (xs : List ℕ) → Some row ≡ cond (tabled x xs) (Some (place x xs)) None → (tabled x xs ≡ true) × (row < length xs) × (get_or xs row 0 ≡ x)
found x row xs = go (tabled x xs) (stands x xs)
  where
    go : (b : Bool) → (T b → (place x xs < length xs) × (get_or xs (place x xs) 0 ≡ x)) → Some row ≡ cond b (Some (place x xs)) None → (b ≡ true) × (row < length xs) × (get_or xs row 0 ≡ x)
    go true at e = let p : row ≡ place x xs = cc in (refl, omega (arith, (at tt).0), ap (λ i. get_or xs i 0) p ∙ (at tt).1)
    go false at e = absurd (let z : ◌≡◌ {A = ℕ} 0 1 = cc in omega arith)

pub missed : (x : ℕ) (xs : List ℕ) → None ≡ cond (tabled x xs) (Some (place x xs)) None → tabled x xs ≡ false
missed x xs = go (tabled x xs)
  where
    go : (b : Bool) → None ≡ cond b (Some (place x xs)) None → b ≡ false
    go true e = absurd (let z : ◌≡◌ {A = ℕ} 0 1 = cc in omega arith)
    go false e = refl

pub is_found : (x : ℕ) (xs : List ℕ) → is_some (cond (tabled x xs) (Some (place x xs)) None) ≡ tabled x xs
is_found x xs = go (tabled x xs)
  where
    go : (b : Bool) → is_some (cond b (Some (place x xs)) None) ≡ b
    go true = refl
    go false = refl
