-- A routine that is entered with actuals that fit begins so that each of its values fits.
use Rattle.std.specs.Option.{option_and_then}
use Rattle.std.specs.Prelude.{Contains, is_some}
use Rattle.std.proofs.Common.{◌&&◌, Bool, List, None, Option, Some, [], ap, false, inr, refl, subst, sym, true, ℕ, ◌∙◌, ◌≡◌}
use Rattle.sc_tree.specs.Plain as tree
use Rattle.sc_tree.specs.Plain.{Clause, DeclaredType, FeatureKind, RoutineDeclaration, System}
use Rattle.sc_class.specs.ClassNames.{Root}
use Rattle.sc_class.specs.Faults.ClassRules.{IsFaultless}
use Rattle.sc_class.specs.Tables.Features.{DeclaredFeature}
use Rattle.sc_class.specs.Tables.Heirs.{HasOrigin, StandsInText}
use Rattle.sc_class.specs.declared.identity.ClassId.TheVariants as class
use Rattle.sc_class.proofs.Declarers.{found_stands}
use Rattle.sc_rules.specs.declared.entity_types.entity_type.EntityType.{EntityType}
use Rattle.sc_rules.specs.Laws.{AllDeclared, are_declared, is_declared, is_result_declared}
use Rattle.sc_rules.specs.Names.{Entities, RoutineName, context_of, formals_known}
use Rattle.sc_rules.specs.Purity.{IsPurity}
use Rattle.sc_rules.specs.Sites as site
use Rattle.sc_rules.specs.Sites.{expression}
use Rattle.sc_rules.specs.SystemLaws as laws
use Rattle.sc_rules.specs.SystemLaws.{stands_in}
use Rattle.sc_rules.specs.SystemRules.{WellFormed}
use Rattle.sc_rules.specs.Types.{is_boolean}
use Rattle.sc_rules.specs.Typing.{HasType, typing}
use Rattle.sc_rules.specs.Versions.{Keeps, TextStands, keeps, texts}
use Rattle.sc_rules.specs.declared.position.Context.{Context}
use Rattle.sc_rules.specs.declared.position.Context.TheVariants as context
use Rattle.sc_rules.specs.declared.position.Position.TheVariants.{Plain}
use Rattle.sc_rules.proofs.EachTyped.{each_is_typed_lem}
use Rattle.sc_rules.proofs.TextLaws.{clauses_are_boolean}
use Rattle.sc_rules.proofs.TextsStand.{texts_stand}
use Rattle.sc_rules.proofs.TypeLaws.{declared, names_typed}
use Rattle.sc_rules.proofs.Typings.{named_declared}
use Rattle.sc_rules.proofs.Versions.{contracts_are_kept}
use Rattle.sc_model.specs.Entries.{result_of}
use Rattle.sc_model.specs.Environments.{scope_of}
use Rattle.sc_model.specs.Routines.{Routine, Text, origin_of, routine_from, routine_named, routine_of, routine_with, text_of, version_of}
use Rattle.sc_model.specs.Tasks.{tasks_of}
use Rattle.sc_model.specs.Values.{Reference, default_of, operand}
use Rattle.sc_machine_laws.specs.states.Points as point
use Rattle.sc_machine_laws.specs.states.Points.{ResultFits}
use Rattle.sc_machine_laws.specs.states.Typed.{IsOf, IsTyped, ScopeStands, at}
use Rattle.sc_machine_laws.specs.states.Values.{EntriesFit, EntryBegins}
use Rattle.sc_machine_laws.proofs.states.TypedBodies.{entry_typed}
use Rattle.sc_machine_laws.proofs.states.Environments.{Entered, entry_fits}
use Rattle.sc_machine_laws.proofs.states.Free.{freely}
use Rattle.sc_machine_laws.proofs.states.Fresh.{default_fits}
use Rattle.sc_machine_laws.proofs.states.Lists.{both, same_some}
use Rattle.sc_machine_laws.proofs.states.Origins.{origin_is}
use Rattle.sc_machine_laws.proofs.states.Routines.{gives_type, is_run}
use Rattle.sc_machine_laws.proofs.states.Scopes.{scope_entry}
use Rattle.sc_machine_laws.proofs.states.RoutinePoints.{IsRun}

-- the routine of the first declaration with the contract of the second
abbrev made : System → List ℕ → ℕ → RoutineDeclaration → ℕ → RoutineDeclaration → Routine
made s x j own k original = record {
  name = x;
  text = text_of s j own.formals own.result_type;
  locals = own.locals;
  body = own.body;
  contract = text_of s k original.formals original.result_type;
  require = original.precondition;
  ensure = original.postcondition;
}

-- the clauses of what a class declares are texts
abbrev ClauseTexts : System → (RoutineName → Bool) → ℕ → FeatureKind → Type 0
ClauseTexts s pure k kind = (routine : RoutineDeclaration) → kind ≡ tree.Routine routine →
    ((q : Clause) → Contains routine.precondition q → laws.IsText s pure (context_of s pure k routine) (expression context.Require Plain (formals_known s routine.formals) q.condition))
    × ((q : Clause) → Contains routine.postcondition q → laws.IsText s pure (context_of s pure k routine) (expression context.Ensure Plain (formals_known s routine.formals) q.condition))

-- the clause is a truth value
abbrev IsTrue : System → Text → Context → Clause → Entities → Type 0
IsTrue s t c q n = (u : EntityType) × IsOf s t c Plain n q.condition u × (is_boolean u.class ≡ true)

-- what an entry's Result is
entry_result : (s : System) (h : ℕ) (o : Option (Option EntityType)) → ((t : Option EntityType) → o ≡ Some t → is_some t ≡ true) → ResultFits s h o (result_of o)
entry_result s h None f = point.no_result
entry_result s h (Some None) f = let no : false ≡ true = f None refl in cc
entry_result s h (Some (Some t)) f = point.a_result {u = operand (default_of t.class) t} (default_fits s h t)

module _ (s : System) (root : Root) (pure : RoutineName → Bool) (faultless : IsFaultless s root) (well : WellFormed s) (tells : IsPurity s pure) where
  all_declared : AllDeclared s
  all_declared = declared s pure tells well

  abbrev BeginsTyped : Routine → Type 0
  BeginsTyped r = IsTyped s pure r (tasks_of r) (at r.contract (formals_known s r.text.formals) [] [])

  of_kinds : (x : List ℕ) (j k : ℕ) (m o : FeatureKind) (r : Routine) → Keeps s m o → TextStands s pure j m → ClauseTexts s pure k o → is_declared s m ≡ true →
      routine_with s x j m k o ≡ Some r → BeginsTyped r
  of_kinds x j k _ _ r (keeps {version = own} {routine = original} a same results) (texts body pre post) clauses there e = subst BeginsTyped (same_some e)
      (entry_typed s pure (made s x j own k original) all_declared (gives_type s own.result_type original.result_type results).1
      (names_typed s own.formals own.locals formals_are locals_are).0
      (λ q i. clause_typed context.Require q ((clauses original refl).0 q i)) (λ q i. clause_typed context.Ensure q ((clauses original refl).1 q i)) locals_are body)
    where
      formals_are : are_declared s own.formals own.formals ≡ true
      formals_are = (both (are_declared s own.formals own.formals) (is_result_declared s own.result_type && are_declared s own.formals own.locals) there).0

      locals_are : are_declared s own.formals own.locals ≡ true
      locals_are = (both (is_result_declared s own.result_type) (are_declared s own.formals own.locals)
          (both (are_declared s own.formals own.formals) (is_result_declared s own.result_type && are_declared s own.formals own.locals) there).1).1

      clause_typed : (c : Context) (q : Clause) → laws.IsText s pure (context_of s pure k original) (expression c Plain (formals_known s original.formals) q.condition) → IsTrue s (text_of s k original.formals original.result_type) c q (formals_known s own.formals)
      clause_typed c q w = subst (IsTrue s (text_of s k original.formals original.result_type) c q) (sym same)
          (of_type (each_is_typed_lem s pure well tells (context_of s pure k original) c Plain (formals_known s original.formals) q.condition (stands_in w site.itself)))
        where
          of_type : (u : EntityType) × (b : Bool) × HasType (context_of s pure k original) c Plain (formals_known s original.formals) q.condition (typing (Some u) b) → IsTrue s (text_of s k original.formals original.result_type) c q (formals_known s original.formals)
          of_type (u, b, d) = (u, (b, freely d), clauses_are_boolean s pure well tells (context_of s pure k original) c Plain (formals_known s original.formals) q.condition w u b d)

  module _ (r : Routine) (me : Reference) where
    of_feature : (x : List ℕ) (f : DeclaredFeature) → version_of s me.class x ≡ Some f → routine_of s f ≡ Some r → BeginsTyped r
    of_feature x f e i = by_kind f.feature.kind refl
      where
        clause_texts : (g : DeclaredFeature) (k : ℕ) → StandsInText s k x g → ClauseTexts s pure g.class g.feature.kind
        clause_texts g k a routine i = (λ q l. laws.precondition a.is_class a.declares i l, λ q l. laws.postcondition a.is_class a.declares i l)

        by_origin : (h : HasOrigin s me.class x f) → Keeps s f.feature.kind h.origin.feature.kind → BeginsTyped r
        by_origin h keep = of_kinds f.feature.name.text f.class h.origin.class f.feature.kind h.origin.feature.kind r keep (texts_stand s pure me.class x f e)
            (clause_texts h.origin h.origin.class (found_stands s h.origin.class x h.origin h.is_feature_there)) (named_declared s all_declared (class.Declared me.class) x f e)
            (sym (ap (routine_from s f) (origin_is s root faultless f ∙ h.is_origin)) ∙ i)

        none_made : (d : DeclaredType) (o : Option DeclaredFeature) → f.feature.kind ≡ tree.Attribute d → routine_from s f o ≡ Some r → ⊥
        none_made d None is i = cc
        none_made d (Some o) is i =
            let no : None ≡ Some r = sym (ap (λ m. routine_with s f.feature.name.text f.class m o.class o.feature.kind) is) ∙ i in cc

        by_kind : (m : FeatureKind) → f.feature.kind ≡ m → BeginsTyped r
        by_kind (tree.Attribute d) is = absurd (none_made d (origin_of s f) is i)
        by_kind (tree.Routine own) is = let kept = contracts_are_kept s root faultless all_declared me.class x f e own is in by_origin kept.0 kept.1

    pub begins_typed : routine_named s me.class r.name ≡ Some r → BeginsTyped r
    begins_typed i = by (version_of s me.class r.name) refl i
      where
        by : (o : Option DeclaredFeature) → version_of s me.class r.name ≡ o → option_and_then (routine_of s) o ≡ Some r → BeginsTyped r
        by None e i = cc
        by (Some f) e i = of_feature r.name f e i

pub entries_fit : EntriesFit
entries_fit s root pure faultless well tells r me is vs f o objects = of_entered (entry_fits s me.handler r.text.formals vs f)
  where
    run : IsRun s pure r me
    run = is_run s root pure faultless well tells r me is

    of_entered : Entered s me.handler r.text.formals vs → EntryBegins s pure r me vs o objects
    of_entered z = record {
      bindings = z.bindings;
      are_bound = z.bound;
      fits = record {
        text_is = inr refl;
        known = at r.contract (scope_of z.bindings) [] [];
        agrees = point.here;
        is_typed = subst (λ n. IsTyped s pure r (tasks_of r) (at r.contract n [] [])) (sym z.known) (begins_typed s root pure faultless well tells r me is);
        scope_stands = subst (ScopeStands r.text.formals) (sym z.known) (scope_entry s r.text.formals);
        names_fit = z.fit;
        result_fits = entry_result s me.handler r.text.result run.own.has_result;
        olds_fit = λ pre post q w. tt;
        values_fit = tt;
      };
    }
