use Rattle.std.proofs.Common.{◌-◌, take, ◌∙◌, ◌++◌, ap, sym, refl, drop, length, map, false}
use Rattle.std.proofs.lemmas.List.{map_push}
use Rattle.sc_format.specs.Gaps.{remark_in, remarks_of}
use Rattle.sc_format.specs.Internal.{lines_after}
use Rattle.sc_format.proofs.Reading.{comments-empty, comments-full, ends-empty, ends-full, lines_after-step, nil-from, some-from, gap-read}
use Rattle.sc_format.proofs.gap.read_gap.Goals as goal
use Rattle.sc_format.proofs.gap.read_gap.Goals.{In_ok-push, Then-is_empty}

pub loop-rest-preserved-then-is_empty : goal.loop-rest-preserved-then-is_empty
loop-rest-preserved-then-is_empty c =
    let some = some-from c.loop-rest.rest.now _ c.is_empty.ensures c.loop-rest-test.true in
    let step =
    lines_after-step c.loop-rest.rest.now (take (length c.loop-rest.rest.now - 1) (drop 1 c.loop-rest.rest.now)) c.split_at-in-loop-rest.result.0.now
    c.split_at-in-loop-rest.result.1.now c.line_length-in-loop-rest.result some refl c.line_length-in-loop-rest.ensures.value
    c.split_at-in-loop-rest.ensures.front c.split_at-in-loop-rest.ensures.back
    in
    let none = sym c.trimmed-text.ensures ∙ nil-from c.trimmed-text.result.now _ c.is_empty-in-loop-rest.ensures c.if-is_empty.true in
    record {
      comments = comments-empty _ _ c.loop-rest.is_after_one c.loop-rest.rest.now c.split_at-in-loop-rest.result.0.now _ step none c.loop-rest.invariant.comments;
      ends = ends-empty c.loop-rest.is_after_one c.loop-rest.is_after_two _ c.loop-rest.rest.now c.split_at-in-loop-rest.result.0.now _ step none c.loop-rest.invariant.ends;
    }

pub loop-rest-preserved : goal.loop-rest-preserved
loop-rest-preserved c =
    let some = some-from c.loop-rest.rest.now _ c.is_empty.ensures c.loop-rest-test.true in
    let step =
    lines_after-step c.loop-rest.rest.now (take (length c.loop-rest.rest.now - 1) (drop 1 c.loop-rest.rest.now)) c.split_at-in-loop-rest.result.0.now
    c.split_at-in-loop-rest.result.1.now c.line_length-in-loop-rest.result some refl c.line_length-in-loop-rest.ensures.value
    c.split_at-in-loop-rest.ensures.front c.split_at-in-loop-rest.ensures.back
    in
    let full = some-from c.trimmed-text.result.now _ c.is_empty-in-loop-rest.ensures c.if-is_empty.false in
    let pushed = c.in_ok-push.ensures.items in
    record {
      comments =
          ap (λ rs. map remark_in rs ++ remarks_of false (lines_after c.split_at-in-loop-rest.result.1.now)) pushed
          ∙ ap (λ (rs : _). rs ++ remarks_of false (lines_after c.split_at-in-loop-rest.result.1.now)) (map_push remark_in c.loop-rest.above.items _)
          ∙ comments-full _ _ c.loop-rest.is_after_one c.loop-rest.rest.now c.split_at-in-loop-rest.result.0.now c.trimmed-text.result.now _ step (sym c.trimmed-text.ensures) full c.loop-rest.invariant.comments;
      ends = ends-full c.loop-rest.is_after_one c.loop-rest.is_after_two _ c.loop-rest.rest.now c.split_at-in-loop-rest.result.0.now c.trimmed-text.result.now _ step (sym c.trimmed-text.ensures) full c.loop-rest.invariant.ends;
    }

pub returns : goal.returns
returns c =
    gap-read c.args.text.now c.split_at.result.0.now c.split_at.result.1.now c.trimmed.result.now c.loop-rest.rest.now c.line_length.result
    _ c.loop-rest.is_after_one c.loop-rest.is_after_two c.line_length.ensures.value c.split_at.ensures.front c.split_at.ensures.back
    c.trimmed.ensures (nil-from c.loop-rest.rest.now _ c.is_empty.ensures c.loop-rest-test.false)
    c.loop-rest.invariant.comments c.loop-rest.invariant.ends
