-- What follows of judging the heads of a block from what is ensured of each.
use Rattle.std.proofs.Common.{◌≡◌, ℕ, ◌+◌, ◌<◌, List, [], ◌∷◌, ◌++◌, length, drop, get_or, map, Some, Ok, Err, refl, ap, sym, ◌∙◌}
use Rattle.sc_tree.specs.declared.instruction.Head as tree_head
use Rattle.sc_tree.specs.Plain.{Head}
use Rattle.sc_tree.specs.View.{head_of}
use Rattle.sc_class.proofs.Anys.{at}
use Rattle.sc_rules.specs.declared.rule.Rule.TheVariants.{ArgumentType}
use Rattle.sc_rules.specs.declared.position.Context.TheVariants as context
use Rattle.sc_rules.specs.declared.position.Position.TheVariants.{Plain}
use Rattle.sc_rules.specs.declared.position.Role.TheVariants as role
use Rattle.sc_rules.specs.Positions.{span_of}
use Rattle.sc_rules.specs.Names.{RoutineContext, Entities, Entity, entity, blocks, block_type}
use Rattle.sc_rules.specs.Typing as typing
use Rattle.sc_rules.specs.TextRules.{separate_any}
use Rattle.sc_rules.specs.Judging.{Judged, ◌>>=◌, required, judge}
use Rattle.sc_rules.specs.JudgingText.{conforms_if_any, judge_heads}
use Rattle.sc_typing.specs.declared.fault.CheckFault.{CheckFault}
use Rattle.sc_typing.specs.Judges.{Faults}
use Rattle.sc_check.specs.BlockHeads.{judge_head}
use Rattle.sc_typing.proofs.Steps.{faults_along, faults_first}

-- a head, then those behind it
pub first_head : (h : RoutineContext) (n m : Entities) (d : Head) (ds : List Head) →
    judge_heads h n m (d ∷ ds) ≡ judge_head h n (blocks m) d >>= λ e. judge_heads h n (m ++ e ∷ []) ds
first_head h n m d ds = by (judge h context.Body Plain n d.value)
  where
    known_as : typing.Typing → Entity
    known_as t = entity d.name.text (block_type (blocks m) t.type) role.Block

    with_type : (t : typing.Typing) (r : Judged (Unit {0})) →
        (r >>= λ u. judge_heads h n (m ++ entity d.name.text (block_type (blocks m) t.type) role.Block ∷ []) ds)
        ≡ (r >>= λ u. Ok (entity d.name.text (block_type (blocks m) t.type) role.Block)) >>= λ e. judge_heads h n (m ++ e ∷ []) ds
    with_type t (Ok u) = refl
    with_type t (Err f) = refl

    by : (j : Judged typing.Typing) →
        (j >>= λ t. required (conforms_if_any h.system t.type (Some separate_any)) ArgumentType (span_of d.value) >>= λ u.
        judge_heads h n (m ++ entity d.name.text (block_type (blocks m) t.type) role.Block ∷ []) ds)
        ≡ (j >>= λ t. required (conforms_if_any h.system t.type (Some separate_any)) ArgumentType (span_of d.value) >>= λ u.
        Ok (entity d.name.text (block_type (blocks m) t.type) role.Block)) >>= λ e. judge_heads h n (m ++ e ∷ []) ds
    by (Ok t) = with_type t (required (conforms_if_any h.system t.type (Some separate_any)) ArgumentType (span_of d.value))
    by (Err f) = refl

module _ (h : RoutineContext) (n m : Entities) (hs : List tree_head.Head) (i : ℕ) (x : tree_head.Head) (total : Judged Entities)
    (l : i < length hs) (g : x ≡ get_or hs i x) (inv : total ≡ judge_heads h n m (map head_of (drop i hs))) (j : ℕ) (jq : j ≡ blocks m) where
  -- at the head
  at_head : total ≡ judge_head h n j (head_of x) >>= λ e. judge_heads h n (m ++ e ∷ []) (map head_of (drop (i + 1) hs))
  at_head =
      inv ∙ ap (λ (hs : List tree_head.Head). judge_heads h n m (map head_of hs)) (at hs i x l g) ∙ first_head h n m (head_of x) (map head_of (drop (i + 1) hs))
      ∙ ap (λ j. judge_head h n j (head_of x) >>= λ e. judge_heads h n (m ++ e ∷ []) (map head_of (drop (i + 1) hs))) (sym jq)

  pub head_fails : (v : Entities) (e : CheckFault) → v ≡ n → Faults (judge_head h v j (head_of x)) e → Faults total e
  head_fails v e q f =
      faults_along total (judge_head h v j (head_of x) >>= λ e. judge_heads h n (m ++ e ∷ []) (map head_of (drop (i + 1) hs))) e
      (at_head ∙ ap (λ v. judge_head h v j (head_of x) >>= λ e. judge_heads h n (m ++ e ∷ []) (map head_of (drop (i + 1) hs))) (sym q))
      (faults_first (judge_head h v j (head_of x)) (λ e. judge_heads h n (m ++ e ∷ []) (map head_of (drop (i + 1) hs))) e f)

  pub head_known : (v : Entities) (y : Entity) → v ≡ n → judge_head h v j (head_of x) ≡ Ok y →
      total ≡ judge_heads h n (m ++ y ∷ []) (map head_of (drop (i + 1) hs))
  head_known v y q f =
      at_head ∙ ap (λ v. judge_head h v j (head_of x) >>= λ e. judge_heads h n (m ++ e ∷ []) (map head_of (drop (i + 1) hs))) (sym q)
      ∙ ap (λ j. j >>= λ e. judge_heads h n (m ++ e ∷ []) (map head_of (drop (i + 1) hs))) f
