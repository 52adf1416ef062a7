use Rattle.std.proofs.Common.{string_bytes, sym, arith, rules, ◌∙◌}
use Rattle.std.proofs.lemmas.Str.{IsCharBoundary-after_ascii}
use Rattle.sc_text.proofs.PartLengths.{marks_end, mark_kept, mark_refused, run_kept}
use Rattle.sc_text.proofs.lexer.marks_read.Goals as goal

pub loop-rest-preserved-then-length-gt0 : goal.loop-rest-preserved-then-length-gt0
loop-rest-preserved-then-length-gt0 c = record {
  utf8 = search rules;
  place = omega (arith, c.split_at.ensures.back_len);
  same = run_kept _ _ _ c.loop-rest.at c.unmarked_length-length.result c.loop-rest.rest.now _ (search rules) c.split_at.ensures.front (search rules) c.split_at.ensures.back ∙ c.loop-rest.invariant.same;
}

pub returns-in_default : goal.returns-in_default
returns-in_default c =
    sym c.loop-rest.invariant.same
    ∙ mark_refused (string_bytes c.loop-rest.value) c.loop-rest.at c.unmarked_length-length.result c.loop-rest.rest.now c.as_bytes.result.now c.as_bytes-else-length-gt0.result.now c.span_at.result (sym c.is_empty.ensures ∙ c.loop-rest-test.true)
    c.if-length-gt0.false c.as_bytes.ensures.value c.unmarked_length-length.ensures.stops c.as_bytes-else-length-gt0.ensures.value (sym c.in_default.is ∙ c.mark.ensures.value) c.span_at.ensures

pub split_at-requires-else-length-gt0 : goal.split_at-requires-else-length-gt0
split_at-requires-else-length-gt0 c = IsCharBoundary-after_ascii c.loop-rest.rest.now 1 c.loop-rest.invariant.utf8 (search rules) (search rules)

pub loop-rest-preserved : goal.loop-rest-preserved
loop-rest-preserved c = record {
  utf8 = search rules;
  place = omega (arith, c.split_at-else-length-gt0.ensures.back_len);
  same =
      mark_kept (string_bytes c.loop-rest.value) _ _ c.loop-rest.at c.unmarked_length-length.result c.in-Some.character c.from.result c.loop-rest.rest.now c.as_bytes.result.now c.as_bytes-else-length-gt0.result.now _
      (sym c.is_empty.ensures ∙ c.loop-rest-test.true) c.if-length-gt0.false c.as_bytes.ensures.value c.unmarked_length-length.ensures.stops c.as_bytes-else-length-gt0.ensures.value
      (sym c.in-Some.is ∙ c.mark.ensures.value) c.from.ensures c.in_ok-push.ensures.ascii c.in_ok-push.ensures.bytes c.split_at-else-length-gt0.ensures.back
      ∙ c.loop-rest.invariant.same;
}

pub returns : goal.returns
returns c =
    sym c.loop-rest.invariant.same ∙ marks_end (string_bytes c.loop-rest.value) c.loop-rest.at c.loop-rest.rest.now (sym c.is_empty.ensures ∙ c.loop-rest-test.false)
