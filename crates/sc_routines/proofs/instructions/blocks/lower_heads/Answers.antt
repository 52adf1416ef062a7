use Rattle.std.proofs.Common.{◌≡◌, ◌≤◌, ◌+◌, List, ◌∷◌, ◌++◌, length, drop, map, max, refl, sym, ap, ◌∙◌, arith}
use Rattle.std.proofs.lemmas.List.{at_drop_all, at_drop_more, length-map}
use Rattle.sc_tree.specs.declared.instruction.Head as tree
use Rattle.sc_tree.specs.Plain.{Head}
use Rattle.sc_tree.specs.View.{head_of}
use Rattle.sc_rules.specs.declared.entity_types.entity_type.EntityType.{EntityType}
use Rattle.sc_rules.specs.Names.{Entities}
use Rattle.sc_typing.specs.Views.{entity_of}
use Rattle.sc_code.specs.Places.{head_types}
use Rattle.sc_code.specs.Emitted.{expr_depth, heads_code, heads_depth}
use Rattle.sc_routines.specs.Settings.{setting_in}
use Rattle.sc_routines.proofs.Ends.{all_found}
use Rattle.sc_routines.proofs.HeadNames.{heads_deep, next_head_code, next_head_types}
use Rattle.sc_routines.proofs.instructions.blocks.lower_heads.Goals as goal

pub loop-place-init : goal.loop-place-init
loop-place-init c =
    let h = setting_in c.args.setting.now in
    let n = map entity_of c.args.names.now.items in
    let ds = map head_of c.args.heads.now in
    record {
      names = refl;
      code = refl;
      types = ap (λ (l : List EntityType). l ++ head_types h n ds) c.new-types.ensures.items;
      deep = omega arith;
      depth = omega (arith, heads_deep h n ds, length-map c.args.heads.now head_of);
    }

pub loop-place-preserved : goal.loop-place-preserved
unfolding head_of
loop-place-preserved c =
    let h = setting_in c.args.setting.now in
    let n = map entity_of c.args.names.now.items in
    let place = c.loop-place.place in
    let d = c.index-heads-place.result in
    let lowered = c.in_ok-value.ensures in
    let before = c.loop-place.invariant in
    let rest = map head_of (drop (place + 1) c.args.heads.now) in
    let step : head_of d ∷ rest ≡ map head_of (drop place c.args.heads.now) =
    sym (at_drop_more (map head_of) c.args.heads.now place d (omega (arith, c.loop-place-test.true))
    ∙ ap (λ (d : tree.Head). head_of d ∷ rest) (sym c.index-heads-place.is)) in
    let deep = c.max-depth.ensures in
    record {
      names = lowered.names ∙ before.names;
      code = next_head_code h n (map entity_of c.loop-place.names.items) (head_of d) rest c.loop-place.code c.lower_expr.new.code _ before.names lowered.code
          (ap (λ (ds : List Head). c.loop-place.code ++ heads_code h n ds) step ∙ before.code);
      types = next_head_types h n (map entity_of c.loop-place.names.items) (head_of d) rest c.in_ok-value.value.value c.loop-place.types.items c.push_type.new.types.items _
          before.names lowered.value c.in_ok-push_type.ensures (ap (λ (ds : List Head). c.loop-place.types.items ++ head_types h n ds) step ∙ before.types);
      deep = omega (arith, before.deep, deep);
      depth = omega (
        arith,
        deep,
        c.in_ok-sum.ensures,
        lowered.depth ∙ ap (λ (m : Entities). expr_depth h m 0 (head_of d).value) before.names,
        ap (λ (ds : List Head). max c.loop-place.depth (place + heads_depth h n ds)) step ∙ before.depth,
      );
    }

pub returns : goal.returns
returns c =
    let h = setting_in c.args.setting.now in
    let n = map entity_of c.args.names.now.items in
    let ds = c.args.heads.now in
    let place = c.loop-place.place in
    let before = c.loop-place.invariant in
    let past : length ds ≤ place = omega (arith, c.loop-place-test.false) in
    let none = at_drop_all (λ (ds : List tree.Head). heads_depth h n (map head_of ds)) ds place past in
    record {
      code = all_found (λ (ds : List tree.Head). heads_code h n (map head_of ds)) ds place c.loop-place.code _ past refl before.code;
      names = before.names;
      types = all_found (λ (ds : List tree.Head). head_types h n (map head_of ds)) ds place c.loop-place.types.items _ past refl before.types;
      depth = omega (arith, none, before.deep, before.depth);
    }
