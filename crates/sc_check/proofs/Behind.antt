-- The names that a condition or a block gives stand behind those that were known.
use Rattle.std.proofs.Common.{◌≡◌, Bool, true, false, List, [], ◌∷◌, ◌++◌, length, take, Ok, Err, refl, ap, sym, ◌∙◌, append-nil, append_assoc, arith}
use Rattle.std.specs.Prelude.{if◌then◌else◌}
use Rattle.std.proofs.lemmas.Grind.{common_steps}
use Rattle.sc_tree.specs.Plain as plain
use Rattle.sc_tree.specs.Plain.{Head, Expr, Integer, Boolean, Void, Current, Call, Unary, Binary, ObjectTest}
use Rattle.sc_rules.specs.declared.position.Context.{Context}
use Rattle.sc_rules.specs.declared.position.Context.TheVariants as context
use Rattle.sc_rules.specs.declared.position.Position.TheVariants.{Plain}
use Rattle.sc_rules.specs.declared.position.Role.TheVariants as role
use Rattle.sc_rules.specs.declared.rule.Rule.TheVariants.{ArgumentType}
use Rattle.sc_rules.specs.Positions.{is_and_then, span_of}
use Rattle.sc_rules.specs.Names.{RoutineContext, Entities, entity, test_type, blocks, block_type}
use Rattle.sc_rules.specs.TextRules.{separate_any}
use Rattle.sc_rules.specs.Judging.{Judged, ◌>>=◌, required, judge, judge_given}
use Rattle.sc_rules.specs.JudgingText.{conforms_if_any, judge_heads}
use Rattle.std.specs.Prelude.{Some}

-- what is given begins with these
abbrev pub Behind : Entities → Judged Entities → Type 0
Behind n (Ok m) = (o : Entities) × (m ≡ n ++ o)
Behind n (Err f) = Unit {0}

behind_then : {A : Type 0} (n : Entities) (j : Judged A) (f : A → Judged Entities) → ((x : A) → Behind n (f x)) → Behind n (j >>= f)
behind_then n (Ok x) f g = g x
behind_then n (Err e) f g = tt

behind_more : (n m o : Entities) (j : Judged Entities) → m ≡ n ++ o → Behind m j → Behind n j
behind_more n m o (Ok p) q (r, e) = (o ++ r, e ∙ ap (λ m. m ++ r) q ∙ append_assoc n o r)
behind_more n m o (Err f) q h = tt

behind_both : (n : Entities) (j : Judged Entities) (f : Entities → Judged Entities) → Behind n j → ((m : Entities) → Behind m (f m)) → Behind n (j >>= f)
behind_both n (Ok m) f (o, q) g = behind_more n m o (f m) q (g m)
behind_both n (Err e) f h g = tt

none_given : (n : Entities) → Behind n (Ok n)
none_given n = ([], sym (append-nil n))

pub given : (h : RoutineContext) (c : Context) (n : Entities) (e : Expr) → Behind n (judge_given h c n e)
unfolding judge
given h c n (Integer p v) = none_given n
given h c n (Boolean p v) = none_given n
given h c n (Void p) = none_given n
given h c n (Current p) = none_given n
given h c n (plain.Result p) = none_given n
given h c n (Call p a x es) = none_given n
given h c n (Unary p op a) = none_given n
given h c n (Binary p op a b) = by (is_and_then op) (behind_both n (judge_given h c n a) (λ m. judge_given h c m b) (given h c n a) (λ m. given h c m b))
  where
    by : (x : Bool) → Behind n (judge_given h c n a >>= λ m. judge_given h c m b) → Behind n (if x then (judge_given h c n a >>= λ m. judge_given h c m b) else Ok n)
    by true i = i
    by false i = none_given n
given h c n (ObjectTest p d a x) =
    behind_then n (judge h c Plain n a) (λ t. Ok (n ++ entity x.text (test_type h d t.type) role.Test ∷ [])) (λ t. (entity x.text (test_type h d t.type) role.Test ∷ [], refl))

pub heads_given : (h : RoutineContext) (n m : Entities) (ds : List Head) → Behind m (judge_heads h n m ds)
heads_given h n m [] = none_given m
heads_given h n m (d ∷ ds) =
    behind_then m (judge h context.Body Plain n d.value) _
    (λ t. behind_then m (required (conforms_if_any h.system t.type (Some separate_any)) ArgumentType (span_of d.value)) _
    (λ u. behind_more m (m ++ entity d.name.text (block_type (blocks m) t.type) role.Block ∷ []) (entity d.name.text (block_type (blocks m) t.type) role.Block ∷ [])
    (judge_heads h n (m ++ entity d.name.text (block_type (blocks m) t.type) role.Block ∷ []) ds) refl (heads_given h n (m ++ entity d.name.text (block_type (blocks m) t.type) role.Block ∷ []) ds)))

-- so what was known is had back by cutting off what came later
pub had_back : (n m : Entities) → Behind n (Ok m) → take (length n) m ≡ n
had_back n m (o, q) = ap (take (length n)) q ∙ first n o
  where
    first : (n o : Entities) → take (length n) (n ++ o) ≡ n
    first n o = grind (arith, common_steps)
