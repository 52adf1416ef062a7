use Rattle.std.proofs.Common.{◌∙◌, sym, ap}
use Rattle.sc_arguments.proofs.GivenLemmas.{none-read, passed-end, passed-option, passed-value, passed-valued, passes, read-all, taken-of-all, taken-plain, takes}
use Rattle.sc_arguments.proofs.arguments.given.given_in.Goals as goal
use Rattle.sc_arguments.proofs.arguments.given.given_in.Goals.{then-is_all+in_ok-push, else-is_all+then-is_value, else-is_all+else-is_value+then-ends_options, else-is_all+else-is_value+else-ends_options+then-has_value, else-is_all+else-is_value+else-ends_options+else-has_value+then-not-is_option+in_ok-push-2, else-is_all+else-is_value+else-ends_options+else-has_value+else-not-is_option}

-- nothing is read
pub loop-word-init : goal.loop-word-init
loop-word-init g c = none-read g.S.AsStr.text c.args.words.now c.new-given.result.items c.new-given.ensures.items

pub loop-word-preserved : goal.loop-word-preserved
loop-word-preserved g c = elim c.if-is_all.branch [
  | then-is_all+in_ok-push w ↦
      takes g.S.AsStr.text c.args.words.now c.loop-word.word-index c.word-item.result _ c.loop-word.given.items c.if-is_all.given.items
      c.as_str-word.result _ _ _ _ c.loop-word-test.true c.word-item.is c.as_str-word.ensures
      (ap (λ v. v.items) w.given-is ∙ w.in_ok-push.ensures.items)
      (taken-of-all _ _ _ c.if-is_all.is_value _ _ w.if-is_all.true w.is_all-is) c.loop-word.invariant
  | else-is_all+then-is_value w ↦
      passes g.S.AsStr.text c.args.words.now c.loop-word.word-index c.word-item.result _ c.loop-word.given.items c.if-is_all.given.items
      c.as_str-word.result _ _ _ _ c.loop-word-test.true c.word-item.is c.as_str-word.ensures (ap (λ v. v.items) w.given-is)
      (passed-value _ _ _ _ _ _ w.if-is_all.false w.if-is_value.true w.is_all-is w.is_value-is) c.loop-word.invariant
  | else-is_all+else-is_value+then-ends_options w ↦
      passes g.S.AsStr.text c.args.words.now c.loop-word.word-index c.word-item.result _ c.loop-word.given.items c.if-is_all.given.items
      c.as_str-word.result _ _ _ _ c.loop-word-test.true c.word-item.is c.as_str-word.ensures (ap (λ v. v.items) w.given-is)
      (passed-end _ _ _ c.if-is_all.is_value _ _ w.if-is_all.false w.if-is_value.false (sym w.ends_options.ensures ∙ w.if-ends_options.true) w.is_all-is)
      c.loop-word.invariant
  | else-is_all+else-is_value+else-ends_options+then-has_value w ↦
      passes g.S.AsStr.text c.args.words.now c.loop-word.word-index c.word-item.result _ c.loop-word.given.items c.if-is_all.given.items
      c.as_str-word.result _ _ _ _ c.loop-word-test.true c.word-item.is c.as_str-word.ensures (ap (λ v. v.items) w.given-is)
      (passed-valued _ _ _ _ _ _ w.if-is_all.false w.if-is_value.false (sym w.ends_options.ensures ∙ w.if-ends_options.false)
      (sym w.has_value.ensures ∙ w.if-has_value.true) w.is_all-is w.is_value-is) c.loop-word.invariant
  | else-is_all+else-is_value+else-ends_options+else-has_value+then-not-is_option+in_ok-push-2 w ↦
      takes g.S.AsStr.text c.args.words.now c.loop-word.word-index c.word-item.result _ c.loop-word.given.items c.if-is_all.given.items
      c.as_str-word.result _ _ _ _ c.loop-word-test.true c.word-item.is c.as_str-word.ensures
      (ap (λ v. v.items) w.given-is ∙ w.in_ok-push-2.ensures.items)
      (taken-plain _ _ _ _ _ _ w.if-is_all.false w.if-is_value.false (sym w.ends_options.ensures ∙ w.if-ends_options.false)
      (sym w.has_value.ensures ∙ w.if-has_value.false) (sym w.is_option.ensures ∙ w.if-not-is_option.true) w.is_all-is w.is_value-is)
      c.loop-word.invariant
  | else-is_all+else-is_value+else-ends_options+else-has_value+else-not-is_option w ↦
      passes g.S.AsStr.text c.args.words.now c.loop-word.word-index c.word-item.result _ c.loop-word.given.items c.if-is_all.given.items
      c.as_str-word.result _ _ _ _ c.loop-word-test.true c.word-item.is c.as_str-word.ensures (ap (λ v. v.items) w.given-is)
      (passed-option _ _ _ _ _ _ w.if-is_all.false w.if-is_value.false (sym w.ends_options.ensures ∙ w.if-ends_options.false)
      (sym w.has_value.ensures ∙ w.if-has_value.false) (sym w.is_option.ensures ∙ w.if-not-is_option.false) w.is_all-is w.is_value-is)
      c.loop-word.invariant
]

-- all are read
pub returns : goal.returns
returns g c =
    read-all g.S.AsStr.text c.args.words.now c.loop-word.word-index c.loop-word.is_all c.loop-word.is_value c.loop-word.given.items
    c.loop-word-test.false c.loop-word.invariant
