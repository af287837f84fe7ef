use Rattle.std.proofs.Common.{◌≡◌, ℕ, ◌≤◌, List, length, take, drop, ◌-◌, get_or, Result, sym, ap, ◌∙◌, subst, rules, MatchResult}
use Rattle.std.specs.Option.{ok_or}
use Rattle.refusal.specs.declared.Refusal.{Refusal}
use Rattle.refusal.specs.declared.Refusal.TheVariants.{Form}
use Rattle.text.specs.Values.{Writes, value_of, digits_from}
use Rattle.text.proofs.Written.{first_digit, value_law}
use Rattle.text.proofs.values.value.Goals as goal

-- the law, at what is returned
written : (part : List ℕ) (r : Result ℕ Refusal) → r ≡ ok_or (value_of part) (Form 0 0) → MatchResult r (Writes part) (λ _. (n : ℕ) → Writes part n → ⊥)
written part r e = subst (λ x. MatchResult x (Writes part) (λ _. (n : ℕ) → Writes part n → ⊥)) (sym e) (value_law part (Form 0 0))

pub returns-in-49-to-57-clause-written : goal.returns-in-49-to-57-clause-written
returns-in-49-to-57-clause-written c =
    let lo : 49 ≤ get_or c.args.part.now 0 0 = search rules in
    let hi : get_or c.args.part.now 0 0 ≤ 57 = search rules in
    let rest = take (length c.args.part.now - 1) (drop 1 c.args.part.now) in
    let first : digits_from c.from.result rest ≡ value_of c.args.part.now = ap (λ d. digits_from d rest) c.from.ensures ∙ first_digit c.args.part.now lo hi c.if-rest-le-MOST_BEHIND_FIRST.true in
    written _ _ (c.digits.ensures ∙ ap (λ o. ok_or o (Form 0 0)) first)
