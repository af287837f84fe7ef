use Rattle.std.proofs.Common.{◌≡◌, ℕ, ◌+◌, ◌-◌, ◌<◌, ◌≤◌, Bool, true, sym, ◌∙◌, ap, ⊎_elim, arith}
use Rattle.std.proofs.lemmas.Bool.{cases_order}
use Rattle.checklist.proofs.Failing.{told_first, told_none}
use Rattle.book.specs.Meaning.{meets_of, or_zero}
use Rattle.book.proofs.books.Book.mark.Goals as goal

-- the rules before this one and this one
up_to : {met : ℕ → Bool} {rule : ℕ} → ((r : ℕ) → 1 ≤ r → r < rule → met r ≡ true) → met rule ≡ true → (r : ℕ) → 1 ≤ r → r < rule + 1 → met r ≡ true
up_to {met} {rule} before here r h k = ⊎_elim (λ e. ap met e ∙ here) (⊎_elim (λ l. before r h l) (λ l. absurd (omega (arith, k, l)))) (cases_order r rule)

pub loop-rule-init : goal.loop-rule-init
loop-rule-init g c r h k = absurd (omega (arith, h, k))

pub returns-then-not-meets : goal.returns-then-not-meets
returns-then-not-meets g c =
    let m = g.Self.Book.meaning c.args.self.now in
    let met = λ (r : ℕ). meets_of m c.args.situation r c.args.line.now in
    let at : c.loop-rule.rule - 1 + 1 ≡ c.loop-rule.rule = omega (arith, c.loop-rule.auto.rule) in
    sym (ap or_zero (told_first (λ i. met (i + 1)) 0 m.rules c.loop-rule.rule (record {
      from = c.loop-rule.auto.rule;
      upto = omega (arith, c.loop-rule-test.true, c.rules-rule-end.ensures);
      fails = ap met at ∙ sym c.if-not-meets.ensures;
      before = λ k _ h. c.loop-rule.invariant (k + 1) (omega arith) (omega (arith, h));
    })))

pub loop-rule-preserved : goal.loop-rule-preserved
loop-rule-preserved g c =
    let m = g.Self.Book.meaning c.args.self.now in
    up_to {met = λ r. meets_of m c.args.situation r c.args.line.now} c.loop-rule.invariant (sym c.if-not-meets.ensures)

pub returns-else-not-meets : goal.returns-else-not-meets
returns-else-not-meets g c =
    let m = g.Self.Book.meaning c.args.self.now in
    let met = λ (r : ℕ). meets_of m c.args.situation r c.args.line.now in
    let all = up_to {met = met} c.loop-rule.invariant (sym c.if-not-meets.ensures) in
    sym (ap or_zero (told_none (λ i. met (i + 1)) 0 m.rules (λ k _ h. all (k + 1) (omega arith) (omega (arith, h)))))
