use Rattle.std.proofs.Common.{◌∷◌, [], map, string_bytes}
use Rattle.sc_tree.specs.declared.instruction.Head.{Head}
use Rattle.sc_tree.specs.View.{head_of}
use Rattle.sc_warnings.specs.Sites.{names_of_heads}
use Rattle.sc_warnings.proofs.Added.{all_given, next_given}
use Rattle.sc_warnings.proofs.Cases.{heads_are}
use Rattle.sc_warnings.proofs.instructions.names_in_block.Goals as goal

pub loop-head-preserved : goal.loop-head-preserved
loop-head-preserved c =
    next_given (λ (head : Head). string_bytes head.name.text.value ∷ []) c.args.heads.now c.loop-head.head-index c.head-item.result
    (map (λ name. name.now) c.args.names.now) (map (λ name. name.now) c.loop-head.inside.items) (map (λ name. name.now) c.add_name.new.names.items)
    c.loop-head-test.true c.head-item.is c.loop-head.invariant c.in_ok-add_name.ensures

pub returns : goal.returns
returns c =
    all_given (λ (head : Head). string_bytes head.name.text.value ∷ []) c.args.heads.now c.loop-head.head-index (map (λ name. name.now) c.args.names.now)
    (map (λ name. name.now) c.loop-head.inside.items) (names_of_heads (map head_of c.args.heads.now)) c.loop-head-test.false (heads_are c.args.heads.now)
    c.loop-head.invariant
