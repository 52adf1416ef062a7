-- In the text of a well-formed system each expression has a type.
use Rattle.std.proofs.Common.{◌≡◌, ◌<◌, ℕ, zero, suc, Bool, true, false, List, [], ◌∷◌, ◌++◌, length, Option, Some, None, refl, subst, arith}
use Rattle.std.specs.Prelude.{Contains, ◌&&◌, map, is_some, slice_get, slice_index_or}
use Rattle.std.specs.Option.{option_map, option_map_or}
use Rattle.std.specs.List.{list_all}
use Rattle.sc_text.specs.declared.token.Span.{Span}
use Rattle.sc_tree.specs.Plain.{System, Class, Feature, FeatureKind, RoutineDeclaration, Routine, DeclaredType, Head, Expr}
use Rattle.sc_class.specs.Tables.Features.{DeclaredFeature, declared_in}
use Rattle.sc_rules.specs.declared.entity_types.entity_type.EntityType.{EntityType}
use Rattle.sc_rules.specs.declared.entity_types.tag.Reserved.TheVariants.{BlockName}
use Rattle.sc_rules.specs.declared.entity_types.tag.Tag.TheVariants as tag
use Rattle.sc_rules.specs.declared.rule.Rule.{Rule}
use Rattle.sc_rules.specs.declared.position.Context.{Context}
use Rattle.sc_rules.specs.declared.position.Position.TheVariants.{Condition}
use Rattle.sc_rules.specs.declared.position.Role.TheVariants as role
use Rattle.sc_rules.specs.Types.{declared_type}
use Rattle.sc_rules.specs.Names.{RoutineName, RoutineContext, context_of, Entity, Entities, entity, formals_known, known_in_body, blocks, block_type}
use Rattle.sc_rules.specs.Typing.{Typing, typing, HasType, Gives}
use Rattle.sc_rules.specs.Sites.{Site, expression, instruction, instructions, branches, Reserves, no_more, one_more, Part, target_part, actual_part, operand_part, left_part, right_part, joined_left_part, joined_right_part, tested_part, source_part, call_target_part, call_actual_part, creation_actual_part, condition_part, then_part, elseif_part, else_part, from_part, until_part, loop_part, check_part, head_part, block_part, first_part, others_part, branch_condition_part, branch_part, later_branches_part, Within, itself, inside}
use Rattle.sc_rules.specs.Purity.{IsPurity}
use Rattle.sc_rules.specs.TextRules.{Fails}
use Rattle.sc_rules.specs.SystemRules.{WellFormed}
use Rattle.sc_rules.specs.Laws.{are_declared, is_result_declared, is_declared, AllDeclared, are_typed, HasResult}
use Rattle.sc_rules.specs.SystemLaws.{IsText, body, precondition, postcondition, invariant, Stands, stands_in, EachIsTyped}
use Rattle.sc_rules.specs.Judging.{Judged}
use Rattle.sc_rules.proofs.Refusals.{Gave, gave, refuses}
use Rattle.sc_rules.proofs.ToldActuals.{up}
use Rattle.sc_rules.proofs.Sound.{told}
use Rattle.sc_rules.proofs.Typings.{all_append, some_map, every_typed, gives_typed}
use Rattle.sc_rules.proofs.TypeLaws.{declared, names_typed}
use Rattle.sc_rules.proofs.WellFormed.{none_fails, text_fails}

-- no rule fails there
abbrev Clear : RoutineContext → Site → Type 0
Clear h a = (r : Rule) (p : Span) → Fails h a r p → ⊥

clear_part : {h : RoutineContext} {a b : Site} → Clear h a → Part h a b → Clear h b
clear_part c d r p f = c r p (up d r p f)

gave_only : {A : Type 0} {Q : A → Type 0} {P : Rule → Span → Type 0} {j : Judged A} → Gave Q P j →
    ((r : Rule) (p : Span) → P r p → ⊥) → (x : A) × Q x
gave_only (gave {x} q) n = (x, q)
gave_only (refuses {f} p) n = absurd (n f.rule f.span p)

-- what the text is judged by has types
abbrev ContextTyped : RoutineContext → Type 0
ContextTyped h = AllDeclared h.system × HasResult h

given_typed : {h : RoutineContext} {c : Context} {n m : Entities} {e : Expr} → Gives h c n e m → ContextTyped h →
    Clear h (expression c Condition n e) →
    are_typed n ≡ true → are_typed m ≡ true
given_typed {h} {c} {n} {m} {e} g d v t = gives_typed d.0 d.1 t (gave_only (told h c Condition n e) v).1 g

also_typed : (n : Entities) (x : Entity) → are_typed n ≡ true → is_some x.type ≡ true → are_typed (n ++ x ∷ []) ≡ true
also_typed n x d e = all_append (λ (e : Entity). is_some e.type) n (x ∷ []) d (simp e refl)

block_typed : (j : ℕ) (t : Option EntityType) → is_some t ≡ true → is_some (block_type j t) ≡ true
block_typed j t e =
    some_map (λ (t : EntityType). record { attached = true; tag = tag.With (BlockName j); class = t.class }) t e

reserved_typed : {h : RoutineContext} {n m o : Entities} {ds : List Head} → Reserves h n m ds o → ContextTyped h →
    are_typed n ≡ true → are_typed m ≡ true →
    are_typed o ≡ true
reserved_typed no_more d i t = t
reserved_typed (one_more {m} {d = head} {t = u} w k) d i t =
    reserved_typed k d i (also_typed m (entity head.name.text (block_type (blocks m) u.type) role.Block) t (block_typed (blocks m) u.type (every_typed d.0 d.1 i w)))

-- the entities that are known there have types
abbrev SiteTyped : Site → Type 0
SiteTyped (expression c k n e) = are_typed n ≡ true
SiteTyped (instruction n i) = are_typed n ≡ true
SiteTyped (instructions n is) = are_typed n ≡ true
SiteTyped (branches n bs) = are_typed n ≡ true

part_typed : {h : RoutineContext} {a b : Site} → Part h a b → ContextTyped h → Clear h a → SiteTyped a → SiteTyped b
part_typed target_part d v t = t
part_typed (actual_part i) d v t = t
part_typed operand_part d v t = t
part_typed (left_part j) d v t = t
part_typed (right_part j) d v t = t
part_typed (joined_left_part j) d v t = t
part_typed (joined_right_part j g) d v t = given_typed g d (clear_part v (joined_left_part j)) t
part_typed tested_part d v t = t
part_typed source_part d v t = t
part_typed call_target_part d v t = t
part_typed (call_actual_part i) d v t = t
part_typed (creation_actual_part c i) d v t = t
part_typed condition_part d v t = t
part_typed (then_part g) d v t = given_typed g d (clear_part v condition_part) t
part_typed elseif_part d v t = t
part_typed else_part d v t = t
part_typed from_part d v t = t
part_typed until_part d v t = t
part_typed loop_part d v t = t
part_typed (check_part i) d v t = t
part_typed (head_part i) d v t = t
part_typed (block_part w) d v t = reserved_typed w d t t
part_typed first_part d v t = t
part_typed others_part d v t = t
part_typed branch_condition_part d v t = t
part_typed (branch_part g) d v t = given_typed g d (clear_part v branch_condition_part) t
part_typed later_branches_part d v t = t

within_typed : {h : RoutineContext} {a b : Site} → Within h a b → ContextTyped h → Clear h a → SiteTyped a → SiteTyped b
within_typed itself d v t = t
within_typed (inside w u) d v t = within_typed u d (clear_part v w) (part_typed w d v t)

-- ---- routines

both : (a b : Bool) → (a && b) ≡ true → (a ≡ true) × (b ≡ true)
both true true e = (refl, refl)
both true false e = cc
both false b e = cc

one_declared : (s : System) (k : ℕ) (fs : List Feature) (f : Feature) (i : ℕ) → i < length fs →
    slice_index_or fs i f ≡ f →
    list_all (λ (g : DeclaredFeature). is_declared s g.feature.kind) (map (declared_in k) fs) ≡ true →
    is_declared s f.kind ≡ true
one_declared s k [] f i l e d = absurd (omega (arith, l))
one_declared s k (g ∷ fs) f zero l e d =
    subst (λ (f : Feature). is_declared s f.kind ≡ true) e (both (is_declared s g.kind) (list_all (λ (g : DeclaredFeature). is_declared s g.feature.kind) (map (declared_in k) fs)) d).0
one_declared s k (g ∷ fs) f (suc i) l e d =
    one_declared s k fs f i (less l) e (both (is_declared s g.kind) (list_all (λ (g : DeclaredFeature). is_declared s g.feature.kind) (map (declared_in k) fs)) d).1
  where
    less : suc i < suc (length fs) → i < length fs
    less l = omega arith

-- the types of a feature are declared
kind_declared : (s : System) → AllDeclared s → (k : ℕ) (c : Class) (f : Feature) (kind : FeatureKind) →
    slice_get s.classes k ≡ Some c →
    Contains c.features f → f.kind ≡ kind →
    is_declared s kind ≡ true
kind_declared s d k c f kind i (j, l, m) e =
    subst (λ kind. is_declared s kind ≡ true) e (one_declared s k c.features f j l m
    (subst (λ o. list_all (λ (g : DeclaredFeature). is_declared s g.feature.kind) (option_map_or (λ (c : Class). map (declared_in k) c.features) o []) ≡ true) i (d k)))

result_there : (s : System) (o : Option DeclaredType) → is_result_declared s o ≡ true → (t : Option EntityType) →
    option_map (declared_type s []) o ≡ Some t → is_some t ≡ true
result_there s None d t e = cc
result_there s (Some u) d t e = subst (λ t. is_some t ≡ true) (same e) d
  where
    same : Some (declared_type s [] u) ≡ Some t → declared_type s [] u ≡ t
    same e = cc

-- the types that a routine declares, in parts
record RoutineTyped (s : System) (routine : RoutineDeclaration) : Type 0 where
  formals_declared : are_declared s routine.formals routine.formals ≡ true
  result_declared : is_result_declared s routine.result_type ≡ true
  locals_declared : are_declared s routine.formals routine.locals ≡ true

routine_typed : (s : System) → AllDeclared s → (k : ℕ) (c : Class) (f : Feature) (routine : RoutineDeclaration) →
    slice_get s.classes k ≡ Some c →
    Contains c.features f → f.kind ≡ Routine routine → RoutineTyped s routine
routine_typed s d k c f routine i m e =
    in_parts (both (are_declared s routine.formals routine.formals) _ (kind_declared s d k c f (Routine routine) i m e))
  where
    gives : Bool
    gives = is_result_declared s routine.result_type

    locals : Bool
    locals = are_declared s routine.formals routine.locals

    in_parts : (are_declared s routine.formals routine.formals ≡ true) × ((gives && locals) ≡ true) →
        RoutineTyped s routine
    in_parts (a, b) = record { formals_declared = a; result_declared = (both gives locals b).0; locals_declared = (both gives locals b).1 }

-- what a routine's contract is judged by has types
contract_typed : (s : System) (pure : RoutineName → Bool) (k : ℕ) (routine : RoutineDeclaration) → AllDeclared s →
    RoutineTyped s routine →
    ContextTyped (context_of s pure k routine) × (are_typed (formals_known s routine.formals) ≡ true)
contract_typed s pure k routine d t =
    ((d, result_there s routine.result_type t.result_declared), (names_typed s routine.formals routine.locals t.formals_declared t.locals_declared).0)

text_typed : {s : System} {pure : RoutineName → Bool} {h : RoutineContext} {a : Site} → IsText s pure h a →
    AllDeclared s → ContextTyped h × SiteTyped a
text_typed {s} {pure} (body {k} {c} {f} {routine} i m e) d = of_routine (routine_typed s d k c f routine i m e)
  where
    of_routine : RoutineTyped s routine → ContextTyped (context_of s pure k routine) ×
        (are_typed (known_in_body s routine) ≡ true)
    of_routine t =
        ((d, result_there s routine.result_type t.result_declared), (names_typed s routine.formals routine.locals t.formals_declared t.locals_declared).1)
text_typed {s} {pure} (precondition {k} {c} {f} {routine} i m e w) d =
    contract_typed s pure k routine d (routine_typed s d k c f routine i m e)
text_typed {s} {pure} (postcondition {k} {c} {f} {routine} i m e w) d =
    contract_typed s pure k routine d (routine_typed s d k c f routine i m e)
text_typed {s} (invariant i w) d = ((d, λ t e. cc), refl)

-- what is known where the site stands, and what it is judged by, has types
pub stands_typed : {s : System} {pure : RoutineName → Bool} {h : RoutineContext} {b : Site} → WellFormed s →
    IsPurity s pure → Stands s pure h b →
    ContextTyped h × SiteTyped b
stands_typed {s} {pure} {h} {b} w i (stands_in {a} t v) = within (text_typed t (declared s pure i w))
  where
    within : ContextTyped h × SiteTyped a → ContextTyped h × SiteTyped b
    within d = (d.0, within_typed v d.0 (λ r p f. w r p (text_fails t i r p f)) d.1)

pub each_is_typed_lem : EachIsTyped
each_is_typed_lem s pure w i h c k n e v = typed_so (gave_only (told h c k n e) (none_fails w i v)) (stands_typed w i v)
  where
    of_type : (o : Option EntityType) (b : Bool) → HasType h c k n e (typing o b) → is_some o ≡ true →
        (t : EntityType) × (b : Bool) × HasType h c k n e (typing (Some t) b)
    of_type None b d j = cc
    of_type (Some t) b d j = (t, b, d)

    typed_so : ((t : Typing) × HasType h c k n e t) → ContextTyped h × (are_typed n ≡ true) → (t : EntityType) ×
        (b : Bool) × HasType h c k n e (typing (Some t) b)
    typed_so (t, d) j = of_type t.type t.is_separate d (every_typed j.0.0 j.0.1 j.1 d)
