-- The opening of a system without faults fits.
use Rattle.std.proofs.Common.{◌≡◌, ◌<◌, ℕ, zero, suc, Bool, true, false, ◌&&◌, List, [], ◌∷◌, Option, Some, None, refl, sym, subst, arith}
use Rattle.std.specs.Prelude.{length, is_some, is_none, slice_get, ◌==◌}
use Rattle.std.specs.Option.{option_map_or}
use Rattle.sc_tree.specs.Plain.{Class, System, Declaration, FeatureKind, Attribute, Routine}
use Rattle.sc_class.specs.declared.fault.ClassFault.TheVariants as fault
use Rattle.sc_class.specs.ClassNames.{Root, number_of}
use Rattle.sc_class.specs.Names.{is_listed}
use Rattle.sc_class.specs.Tables.Declared.{created_by, creators_of}
use Rattle.sc_class.specs.Tables.Features.{DeclaredFeature, features, named_among}
use Rattle.sc_class.specs.Faults.ClassRules.{is_plain_procedure, creates_by, has_root, no_root, IsFaultless}
use Rattle.sc_model.specs.Handlers.{Makes}
use Rattle.sc_model.specs.Routines.{version_of}
use Rattle.sc_model.specs.Runs.{root_request, opening}
use Rattle.sc_machine_laws.specs.states.Places.{formals_of_kind, formals_if_any, is_routine, of_actuals}
use Rattle.sc_machine_laws.specs.states.Fitting.{ActualsFit, no_more, is_due, RequestFits, empty}
use Rattle.sc_machine_laws.specs.states.Values.{OpeningFits}
use Rattle.sc_machine_laws.proofs.states.Lists.{same_some}

both : (a b : Bool) → (a && b) ≡ true → (a ≡ true) × (b ≡ true)
both true b e = (refl, e)
both false b e = cc

none_long : (ds : List Declaration) → (length ds == 0) ≡ true → ds ≡ []
none_long [] e = refl
none_long (d ∷ ds) e = absurd (grind (arith, e))

plain : (k : FeatureKind) → is_plain_procedure k ≡ true → formals_of_kind k ≡ []
plain (Attribute d) e = cc
plain (Routine r) e = none_long r.formals (both (length r.formals == 0) (is_none r.result_type) e).0

found : (o : Option DeclaredFeature) → option_map_or (λ (f : DeclaredFeature). is_plain_procedure f.feature.kind) o false ≡ true →
    (is_some o ≡ true) × (formals_if_any o ≡ [])
found None e = cc
found (Some f) e = (refl, plain f.feature.kind e)

plain_routine : (k : FeatureKind) → is_plain_procedure k ≡ true → is_routine k ≡ true
plain_routine (Attribute d) e = cc
plain_routine (Routine r) e = refl

routine_found : (o : Option DeclaredFeature) → option_map_or (λ (f : DeclaredFeature). is_plain_procedure f.feature.kind) o false ≡ true → (f : DeclaredFeature) → o ≡ Some f →
    is_routine f.feature.kind ≡ true
routine_found None e f i = cc
routine_found (Some g) e f i = subst (λ (u : DeclaredFeature). is_routine u.feature.kind ≡ true) (same_some i) (plain_routine g.feature.kind e)

of_root : (s : System) (x : List ℕ) (o : Option ℕ) → option_map_or (creates_by s x) o false ≡ true → creates_by s x (option_map_or (λ k. k) o 0) ≡ true
of_root s x None e = cc
of_root s x (Some k) e = e

root_there : (s : System) (root : Root) → IsFaultless s root → (b : Bool) → has_root s root ≡ b → b ≡ true
root_there s root w true e = refl
root_there s root w false e = absurd (w fault.NoRoot (no_root e))

root_number : System → Root → ℕ
root_number s root = option_map_or (λ k. k) (number_of s root.class) 0

place_there : {A : Type 0} (xs : List A) (i : ℕ) (x : A) → slice_get xs i ≡ Some x → i < length xs
place_there [] i x e = cc
place_there (y ∷ xs) zero x e = omega arith
place_there (y ∷ xs) (suc i) x e = let l = place_there xs i x e in omega (arith, l)

-- a class that has a creation procedure is there
creator_there : (s : System) (x : List ℕ) (k : ℕ) → is_listed x (creators_of s k) ≡ true → k < length s.classes
creator_there s x k = by (slice_get s.classes k) refl
  where
    by : (o : Option Class) → slice_get s.classes k ≡ o → is_listed x (option_map_or created_by o []) ≡ true → k < length s.classes
    by None e i = cc
    by (Some c) e i = place_there s.classes k c e

root_found : (s : System) (root : Root) → IsFaultless s root →
    (is_some (version_of s (option_map_or (λ k. k) (number_of s root.class) 0) root.procedure) ≡ true) ×
    (formals_if_any (version_of s (option_map_or (λ k. k) (number_of s root.class) 0) root.procedure) ≡ []) ×
    (option_map_or (λ k. k) (number_of s root.class) 0 < length s.classes)
root_found s root w =
    let z = both (is_listed root.procedure (creators_of s (option_map_or (λ k. k) (number_of s root.class) 0))) _
    (of_root s root.procedure (number_of s root.class) (root_there s root w (has_root s root) refl)) in
    let f = found (named_among root.procedure (features s (option_map_or (λ k. k) (number_of s root.class) 0))) z.1 in
    (f.0, f.1, creator_there s root.procedure (option_map_or (λ k. k) (number_of s root.class) 0) z.0)

-- the root's procedure is a routine
root_routine : (s : System) (root : Root) → IsFaultless s root → (f : DeclaredFeature) →
    version_of s (option_map_or (λ k. k) (number_of s root.class) 0) root.procedure ≡ Some f → is_routine f.feature.kind ≡ true
root_routine s root w f i =
    let z = both (is_listed root.procedure (creators_of s (option_map_or (λ k. k) (number_of s root.class) 0))) _
    (of_root s root.procedure (number_of s root.class) (root_there s root w (has_root s root) refl)) in
    routine_found (named_among root.procedure (features s (option_map_or (λ k. k) (number_of s root.class) 0))) z.1 f i

request_fits : (s : System) (root : Root) → IsFaultless s root → RequestFits s (opening s root) 0 (root_request (option_map_or (λ k. k) (number_of s root.class) 0) root.procedure)
request_fits s root w = record {
  is_here = refl;
  is_of_class = (root_found s root w).2;
  is_known = λ x e. named_so x e;
  made_by_routine = λ x f e i. root_routine s root w f
      (subst (λ x. version_of s (option_map_or (λ k. k) (number_of s root.class) 0) x ≡ Some f) (sym (same_errand root.procedure x e)) i);
  target_is_there = is_due {q = root_request (option_map_or (λ k. k) (number_of s root.class) 0) root.procedure} {qs = []} {x = Some root.procedure} (omega arith) refl refl refl refl refl;
  actuals_fit = subst (λ ds. ActualsFit s 0 ds (of_actuals []) ds []) (sym (root_found s root w).1) no_more;
  actuals_are_there = tt;
}
  where
    same_errand : (a b : List ℕ) → Makes (Some a) ≡ Makes (Some b) → a ≡ b
    same_errand a b e = cc

    same : (a b : List ℕ) → Some a ≡ Some b → a ≡ b
    same a b e = cc

    named_so : (x : List ℕ) → Some root.procedure ≡ Some x → is_some (version_of s (option_map_or (λ k. k) (number_of s root.class) 0) x) ≡ true
    named_so x e = subst (λ x. is_some (version_of s (option_map_or (λ k. k) (number_of s root.class) 0) x) ≡ true) (same root.procedure x e) (root_found s root w).0

pub opening_fits : OpeningFits
opening_fits s root pure w zero l = record {
  objects_fit = tt;
  frames_fit = tt;
  frames_are_linked = empty;
  requests_fit = (request_fits s root w, tt);
  answer_fits = λ v a. cc;
}
opening_fits s root pure w (suc h) l = absurd (omega (arith, l))
