use Rattle.std.proofs.Common.{◌-◌, ◌++◌, ℕ, List, [], length, drop, arith, ap, refl, length-drop}
use Rattle.std.proofs.lemmas.List.{take_all}
use Rattle.sc_text.specs.Spelling.{lexemes_of}
use Rattle.sc_format.specs.Formatted.{laid}
use Rattle.sc_format.specs.Layout.{start}
use Rattle.sc_format.proofs.Laying.{laid-done, laid-more, order-more, placed}
use Rattle.sc_format.proofs.format.lay_led.Goals as goal

pub loop-token-init : goal.loop-token-init
loop-token-init c =
    record {
      within = omega arith;
      order = c.requires.order;
      same = ap (λ (out : List ℕ). out ++ laid c.args.source.now 0 (lexemes_of c.args.tokens.now) start []) c.new-output.ensures.items;
    }

pub slice_bounds-word-count : goal.slice_bounds-word-count
slice_bounds-word-count c =
    let p = placed c.args.source.now c.loop-token.from c.loop-token.token-index c.args.tokens.now c.token-item.result c.requires.led c.loop-token.invariant.within c.loop-token-test.true c.token-item.is c.loop-token.invariant.order in
    omega (arith, p.some, p.within)

pub slice_bounds-word-start : goal.slice_bounds-word-start
slice_bounds-word-start c =
    let p = placed c.args.source.now c.loop-token.from c.loop-token.token-index c.args.tokens.now c.token-item.result c.requires.led c.loop-token.invariant.within c.loop-token-test.true c.token-item.is c.loop-token.invariant.order in
    omega (arith, p.some, p.within)

pub slice_bounds-word-end : goal.slice_bounds-word-end
slice_bounds-word-end c =
    let p = placed c.args.source.now c.loop-token.from c.loop-token.token-index c.args.tokens.now c.token-item.result c.requires.led c.loop-token.invariant.within c.loop-token-test.true c.token-item.is c.loop-token.invariant.order in
    omega (arith, p.within)

pub slice_bounds-push_gap-count : goal.slice_bounds-push_gap-count
slice_bounds-push_gap-count c =
    let p = placed c.args.source.now c.loop-token.from c.loop-token.token-index c.args.tokens.now c.token-item.result c.requires.led c.loop-token.invariant.within c.loop-token-test.true c.token-item.is c.loop-token.invariant.order in
    omega (arith, p.after, p.some, p.within)

pub slice_bounds-push_gap-start : goal.slice_bounds-push_gap-start
slice_bounds-push_gap-start c =
    let p = placed c.args.source.now c.loop-token.from c.loop-token.token-index c.args.tokens.now c.token-item.result c.requires.led c.loop-token.invariant.within c.loop-token-test.true c.token-item.is c.loop-token.invariant.order in
    omega (arith, p.after, p.some, p.within)

pub slice_bounds-push_gap-end : goal.slice_bounds-push_gap-end
slice_bounds-push_gap-end c =
    let p = placed c.args.source.now c.loop-token.from c.loop-token.token-index c.args.tokens.now c.token-item.result c.requires.led c.loop-token.invariant.within c.loop-token-test.true c.token-item.is c.loop-token.invariant.order in
    omega (arith, p.after, p.some, p.within)

pub loop-token-preserved : goal.loop-token-preserved
loop-token-preserved c =
    let p = placed c.args.source.now c.loop-token.from c.loop-token.token-index c.args.tokens.now c.token-item.result c.requires.led c.loop-token.invariant.within c.loop-token-test.true c.token-item.is c.loop-token.invariant.order in
    record {
      within = p.within;
      order = order-more c.args.source.now c.loop-token.from c.loop-token.token-index c.args.tokens.now c.token-item.result c.loop-token-test.true c.token-item.is c.loop-token.invariant.order;
      same =
          laid-more c.args.source.now c.loop-token.from c.loop-token.token-index c.args.tokens.now c.token-item.result c.loop-token.state c.after-state.result
          c.role_of-role.result c.wanted-want.result c.loop-token.before.now _ _ c.loop-token.output.items _ _ _ c.loop-token-test.true c.token-item.is p
          c.role_of-role.ensures c.wanted-want.ensures c.after-state.ensures refl refl c.in_ok-push_gap.ensures c.in_ok-extend_from_slice.ensures.items
          c.loop-token.invariant.same;
    }

pub slice_bounds-push_gap-count-2 : goal.slice_bounds-push_gap-count-2
slice_bounds-push_gap-count-2 c = omega (arith, c.loop-token.invariant.within)

pub slice_bounds-push_gap-start-2 : goal.slice_bounds-push_gap-start-2
slice_bounds-push_gap-start-2 c = omega (arith, c.loop-token.invariant.within)

pub slice_bounds-push_gap-end-2 : goal.slice_bounds-push_gap-end-2
slice_bounds-push_gap-end-2 c = omega (arith, c.loop-token.invariant.within)

pub returns : goal.returns
returns c =
    let source = c.args.source.now in
    let from = c.loop-token.from in
    laid-done source from c.loop-token.token-index c.args.tokens.now c.loop-token.state c.loop-token.before.now _ c.loop-token.output.items _ _
    c.loop-token-test.false (take_all (length source - from) (drop from source) (omega (arith, length-drop from source))) c.in_ok-push_gap-2.ensures c.loop-token.invariant.same
