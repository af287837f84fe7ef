-- What a book means for lines of type L, its two laws, and how a line is judged. Assumes nothing.
use Rattle.std.specs.Prelude.{◌≡◌, ℕ, ◌+◌, ◌<◌, ◌≤◌, Bool, true, false, cond, is_ok, Some, None, Option, Result}
use Rattle.eurocode.specs.declared.Situation.{Situation}
use Rattle.measure.specs.Fractions.{Fraction, Near}
use Rattle.checklist.specs.Firsts.{first_failed}
use Rattle.book.specs.declared.faults.LineFault.{LineFault}

-- A book judges lines of one kind. It has rules, counted from 1, and an order: P asks no less than Q. In each situation a
-- line passes its test or has a fault, meets a rule or breaks it, and has an exact requirement and a whole figure. The
-- rules, the requirement and the figure are those that the standard's formulas give, whether the line passes or not.
pub record Meaning (L : Type 0) : Type 1 where
  pub rules : ℕ
  pub AsksNoLess : L → L → Type 0
  pub test : Situation → L → Result (Unit {0}) LineFault
  pub meets : Situation → ℕ → L → Bool
  pub exact : Situation → L → Fraction
  pub figure : Situation → L → ℕ

-- p, by the meaning m in the situation s, stands above q, by n in t: q meets each rule that p meets, and p's figure is at
-- least q's
pub record Above {L : Type 0} (m : Meaning L) (s : Situation) (p : L) (n : Meaning L) (t : Situation) (q : L) : Type 0 where
  pub rules : (r : ℕ) → 1 ≤ r → r ≤ n.rules → m.meets s r p ≡ true → n.meets t r q ≡ true
  pub figures : n.figure t q ≤ m.figure s p

-- 0, or the number of what failed first
abbrev pub or_zero : Option ℕ → ℕ
or_zero None = 0
or_zero (Some k) = k

-- of n rules, of which `met` says whether each is met, k is 0 exactly where all are met, else the earliest that is broken
pub record IsMark (n : ℕ) (met : ℕ → Bool) (k : ℕ) : Type 0 where
  pub none : k ≡ 0 → (r : ℕ) → 1 ≤ r → r ≤ n → met r ≡ true
  pub broken : 1 ≤ k → (k ≤ n) × (met k ≡ false)
  pub earliest : (r : ℕ) → 1 ≤ r → r < k → met r ≡ true

module _ {L : Type 0} (m : Meaning L) where
  abbrev pub passes : Situation → L → Bool
  passes s l = is_ok (m.test s l)

  -- The guard: a line that fails its test has figure 0 and meets every rule.
  abbrev pub figure_of : Situation → L → ℕ
  figure_of s l = cond (passes s l) (m.figure s l) 0

  abbrev pub meets_of : Situation → ℕ → L → Bool
  meets_of s r l = cond (passes s l) (m.meets s r l) true

  -- the mark: 0 or the earliest broken rule
  abbrev pub mark_of : Situation → L → ℕ
  mark_of s l = or_zero (first_failed (λ i. meets_of s (i + 1) l) 0 m.rules)

  -- a line is judged by its figure and its mark
  abbrev pub judged : Situation → L → ℕ × ℕ
  judged s l = (figure_of s l, mark_of s l)

  -- the first law: the figure of a line that passes is near its exact requirement
  abbrev pub NearLaw : Type 0
  NearLaw = (s : Situation) (l : L) → passes s l ≡ true → Near (m.figure s l) (m.exact s l)

-- lines that pass by m in s stand above those that pass by n in t and of which they ask no less
abbrev pub Ordered : {L : Type 0} → Meaning L → Situation → Meaning L → Situation → Type 0
Ordered {L} m s n t = (p q : L) → m.AsksNoLess p q → passes m s p ≡ true → passes n t q ≡ true → Above m s p n t q

-- the second law: so it is by one book in one situation
abbrev pub OrderLaw : {L : Type 0} → Meaning L → Type 0
OrderLaw m = (s : Situation) → Ordered m s m s

-- how lines in that order are judged: no smaller figure, and where the second breaks a rule, the first breaks that or one
-- before it
pub record JudgedAbove (first second : ℕ × ℕ) : Type 0 where
  pub figures : second.0 ≤ first.0
  pub marks : 1 ≤ second.1 → (1 ≤ first.1) × (first.1 ≤ second.1)

-- what is promised of the judgement of a line: 0, 0 where it fails its test; else a figure near the exact requirement; the
-- right mark; and its order with every line of which it asks no less
pub record Judgement {L : Type 0} (m : Meaning L) (s : Situation) (l : L) (judgement : ℕ × ℕ) : Type 0 where
  pub failed : passes m s l ≡ false → judgement ≡ (0, 0)
  pub near : passes m s l ≡ true → Near judgement.0 (m.exact s l)
  pub right : IsMark m.rules (λ r. meets_of m s r l) judgement.1
  pub above : (q : L) → m.AsksNoLess l q → passes m s l ≡ true → passes m s q ≡ true → JudgedAbove judgement (judged m s q)
