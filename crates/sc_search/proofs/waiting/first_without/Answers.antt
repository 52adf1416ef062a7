use Rattle.std.proofs.Common.{◌≡◌, ◌∙◌, inl, inr, ℕ, true, false, get_or, sym, ap, arith, rules}
use Rattle.std.proofs.lemmas.Bool.{cases_lt}
use Rattle.std.proofs.lemmas.Grind.{common_steps}
use Rattle.std.proofs.lemmas.List.{get_or_past}
use Rattle.sc_search.proofs.waiting.first_without.Goals.{else-waiting-number-via-else-waiting-number, else-waiting-number-via-then-waiting-number+else-not-is_true_at}
use Rattle.sc_search.proofs.waiting.first_without.Goals as goal

pub loop-number-preserved : goal.loop-number-preserved
loop-number-preserved c = λ n few waits. elim (cases_lt n c.loop-number.number) [
  | inl less ↦ c.loop-number.invariant n less waits
  | inr more ↦
      let same : n ≡ c.loop-number.number = omega (arith, few, more) in
      elim c.else-waiting-number.branch [
        | else-waiting-number-via-then-waiting-number+else-not-is_true_at w ↦
            let is : w.is_true_at.result ≡ true = first_of (search rules, grind (arith, common_steps)) in
            ap (λ (m : ℕ). get_or c.args.moves.now m false) same ∙ sym w.is_true_at.ensures ∙ is
        | else-waiting-number-via-else-waiting-number w ↦
            let none : get_or c.args.waiting.now c.loop-number.number false ≡ false = first_of (search rules, grind (arith, common_steps)) in
            let no : true ≡ false = sym waits ∙ ap (λ (m : ℕ). get_or c.args.waiting.now m false) same ∙ none in
            cc
      ]
]

pub returns-clause-none : goal.returns-clause-none
returns-clause-none c = λ number waits. elim (cases_lt number c.loop-number.number) [
  | inl less ↦ c.loop-number.invariant number less waits
  | inr past ↦
      let none : get_or c.args.waiting.now number false ≡ false = get_or_past c.args.waiting.now number false (omega (arith, past, c.loop-number-test.false)) in
      let no : true ≡ false = sym waits ∙ none in
      cc
]
