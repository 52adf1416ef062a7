use Rattle.std.proofs.Common.{◌≡◌, ℕ, ◌+◌, ◌<◌, List, [], ◌∷◌, ◌++◌, length, drop, get_or, map, Ok, ap, sym, ◌∙◌}
use Rattle.std.specs.Prelude.{string_bytes}
use Rattle.std.proofs.lemmas.List.{map-append}
use Rattle.sc_tree.specs.declared.instruction.Head.{Head}
use Rattle.sc_tree.specs.View.{expr_of, head_of}
use Rattle.sc_class.proofs.Anys.{at}
use Rattle.sc_rules.specs.declared.position.Context.TheVariants as context
use Rattle.sc_rules.specs.declared.position.Position.TheVariants.{Plain}
use Rattle.sc_rules.specs.declared.position.Role.TheVariants as role
use Rattle.sc_rules.specs.Names.{RoutineContext, Entities, blocks, block_type, entity}
use Rattle.sc_rules.specs.Typing.{Typing}
use Rattle.sc_rules.specs.Judging.{Judged, ◌>>=◌, judge}
use Rattle.sc_typing.specs.Views.{routine_in, entity_of, typing_of}
use Rattle.sc_faults.specs.Internal.Listing.{judge_reserved}
use Rattle.sc_faults.proofs.scopes.reserve_names.Goals as goal

-- a head whose value has a type, and the heads that are left
next : (h : RoutineContext) (n m new : Entities) (hs : List Head) (i : ℕ) (x : Head) (t : Typing) (total : Judged Entities) → i < length hs →
    x ≡ get_or hs i x → total ≡ judge_reserved h n m (map head_of (drop i hs)) → judge h context.Body Plain n (expr_of x.value) ≡ Ok t →
    new ≡ m ++ entity (string_bytes x.name.text.value) (block_type (blocks m) t.type) role.Block ∷ [] →
    total ≡ judge_reserved h n new (map head_of (drop (i + 1) hs))
unfolding head_of
next h n m new hs i x t total l g inv q w =
    let left = map head_of (drop (i + 1) hs) in
    inv ∙ ap (λ (hs : List Head). judge_reserved h n m (map head_of hs)) (at hs i x l g)
    ∙ ap (λ j. j >>= λ t. judge_reserved h n (m ++ entity (string_bytes x.name.text.value) (block_type (blocks m) t.type) role.Block ∷ []) left) q
    ∙ ap (λ m. judge_reserved h n m left) (sym w)

pub loop-head-preserved : goal.loop-head-preserved
loop-head-preserved c =
    let m = map entity_of c.loop-head.known.items in
    let text = string_bytes c.head-item.result.name.text.value in
    let value = c.in_ok-value.value in
    next (routine_in c.args.routine.now) (map entity_of c.args.names.now) m (map entity_of c.push.new.self.items) c.args.heads.now
    c.loop-head.head-index c.head-item.result (typing_of value) _ c.loop-head-test.true c.head-item.is c.loop-head.invariant c.in_ok-value.ensures
    (ap (map entity_of) c.in_ok-push.ensures.items ∙ map-append entity_of c.loop-head.known.items _
    ∙ ap (λ x. m ++ entity x c.block_type.result role.Block ∷ []) c.as_str.ensures.value
    ∙ ap (λ t. m ++ entity text t role.Block ∷ [])
    (c.block_type.ensures ∙ ap (λ j. block_type j value.entity_type) (c.blocks-number.ensures ∙ ap (λ ns. blocks (map entity_of ns)) c.deref.ensures.value)))
