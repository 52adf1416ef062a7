-- What is one of a list that is put together from others.
use Rattle.std.proofs.Common.{◌≡◌, ◌⊎◌, ℕ, if◌then◌else◌, inl, inr, Bool, true, false, List, [], ◌∷◌, ◌++◌, refl, ap, sym, subst, ◌∙◌}
use Rattle.std.specs.List.{flat_map}
use Rattle.sc_text.specs.declared.token.Span.{Span}
use Rattle.sc_tree.specs.Plain.{System, Class, Feature, FeatureKind, Attribute, Routine, RoutineDeclaration, Declaration, Clause}
use Rattle.sc_warnings.specs.declared.warning.Warning.{Warning}
use Rattle.sc_warnings.specs.declared.warning.WarningKind.{WarningKind}
use Rattle.sc_warnings.specs.declared.warning.WarningKind.TheVariants.{UnreadLocal, ConstantCondition, CheckFalse, NeverWaits}
use Rattle.sc_tree.specs.Properties.{span_of}
use Rattle.sc_warnings.specs.Sites.{Site, used, asked, passed, condition, until, checked, sites_of}
use Rattle.sc_warnings.specs.Warnings.{warn_if, is_constant, is_constant_end, is_false, kind_of_check, never_waits, is_unread, sites_of_body, sites_of_system, warnings_at, warnings_of_clause, warnings_of_local, warnings_of_waiting, warnings_of_require, warnings_after_require, warnings_of_routine, warnings_of_kind, warnings_of_feature, warnings_of_class, warnings_of}
use Rattle.sc_warnings.specs.Laws.{IsOneOf, IsUnreadLocal}

one_left : {A : Type 0} (xs ys : List A) (x : A) → IsOneOf xs x → IsOneOf (xs ++ ys) x
one_left [] ys x i = absurd i
one_left (y ∷ xs) ys x (inl e) = inl e
one_left (y ∷ xs) ys x (inr i) = inr (one_left xs ys x i)

one_right : {A : Type 0} (xs ys : List A) (x : A) → IsOneOf ys x → IsOneOf (xs ++ ys) x
one_right [] ys x i = i
one_right (y ∷ xs) ys x i = inr (one_right xs ys x i)

one_split : {A : Type 0} (xs ys : List A) (x : A) → IsOneOf (xs ++ ys) x → IsOneOf xs x ⊎ IsOneOf ys x
one_split [] ys x i = inr i
one_split (y ∷ xs) ys x (inl e) = inl (inl e)
one_split (y ∷ xs) ys x (inr i) = elim (one_split xs ys x i) [ inl j ↦ inl (inr j) | inr j ↦ inr j ]

one_given : {A B : Type 0} (f : A → List B) (xs : List A) (x : A) (y : B) → IsOneOf xs x → IsOneOf (f x) y → IsOneOf (flat_map f xs) y
one_given f [] x y i j = absurd i
one_given f (z ∷ xs) x y (inl e) j = one_left (f z) (flat_map f xs) y (subst (λ z. IsOneOf (f z) y) e j)
one_given f (z ∷ xs) x y (inr i) j = one_right (f z) (flat_map f xs) y (one_given f xs x y i j)

one_from : {A B : Type 0} (f : A → List B) (xs : List A) (y : B) → IsOneOf (flat_map f xs) y → (x : A) × IsOneOf xs x × IsOneOf (f x) y
one_from f [] y i = absurd i
one_from {A} f (z ∷ xs) y i = by (one_split (f z) (flat_map f xs) y i) (one_from f xs y)
  where
    by : IsOneOf (f z) y ⊎ IsOneOf (flat_map f xs) y → (IsOneOf (flat_map f xs) y → (x : A) × IsOneOf xs x × IsOneOf (f x) y) →
        (x : A) × IsOneOf (z ∷ xs) x × IsOneOf (f x) y
    by (inl j) g = (z, inl refl, j)
    by (inr j) g = let (x, k, l) = g j in (x, inr k, l)

-- ---- warnings of a kind

warned : (b : Bool) (k : WarningKind) (p : Span) (w : Warning) → IsOneOf (warn_if b k p) w → (b ≡ true) × (w ≡ record { kind = k; span = p })
warned true k p w (inl e) = (refl, e)
warned true k p w (inr i) = absurd i
warned false k p w i = absurd i

warns : (b : Bool) (k : WarningKind) (p : Span) (w : Warning) → b ≡ true → w ≡ record { kind = k; span = p } → IsOneOf (warn_if b k p) w
warns true k p w e f = inl f
warns false k p w e f = cc e

kind_if : (b : Bool) (k : WarningKind) (p : Span) (w : Warning) → IsOneOf (warn_if b k p) w → w.kind ≡ k
kind_if true k p w (inl e) = ap (λ (w : Warning). w.kind) e
kind_if true k p w (inr i) = absurd i
kind_if false k p w i = absurd i

not_constant : (w : Warning) → w.kind ≡ UnreadLocal → w.kind ≡ ConstantCondition → ⊥
not_constant w u e = let f : UnreadLocal ≡ ConstantCondition = sym u ∙ e in cc f

not_check : (b : Bool) → UnreadLocal ≡ (if b then CheckFalse else ConstantCondition) → ⊥
not_check true e = cc e
not_check false e = cc e

not_waiting : (w : Warning) → w.kind ≡ UnreadLocal → w.kind ≡ NeverWaits → ⊥
not_waiting w u e = let f : UnreadLocal ≡ NeverWaits = sym u ∙ e in cc f

module _ (w : Warning) (u : w.kind ≡ UnreadLocal) where
  none_at : (s : Site) → IsOneOf (warnings_at s) w → ⊥
  none_at (used x) i = i
  none_at (asked x) i = i
  none_at (passed f n b) i = i
  none_at (condition e) i = not_constant w u (kind_if (is_constant e) ConstantCondition (span_of e) w i)
  none_at (until e) i = not_constant w u (kind_if (is_constant_end e) ConstantCondition (span_of e) w i)
  none_at (checked e) i = not_check (is_false e) (sym u ∙ kind_if (is_constant e) (kind_of_check e) (span_of e) w i)

  none_of_clause : (k : Clause) → IsOneOf (warnings_of_clause k) w → ⊥
  none_of_clause k i = not_constant w u (kind_if (is_constant k.condition) ConstantCondition (span_of k.condition) w i)

  none_of_require : (calls : List Site) (f : List ℕ) (ds : List Declaration) (k : Clause) → IsOneOf (warnings_of_require calls f ds k) w → ⊥
  none_of_require calls f ds k i = elim (one_split (warnings_of_clause k) (warnings_of_waiting calls f ds k) w i) [
    | inl j ↦ none_of_clause k j
    | inr j ↦ not_waiting w u (kind_if (never_waits calls f ds (sites_of [] k.condition)) NeverWaits (span_of k.condition) w j)
  ]

  none_from : {A : Type 0} (f : A → List Warning) (xs : List A) → ((x : A) → IsOneOf (f x) w → ⊥) → IsOneOf (flat_map f xs) w → ⊥
  none_from f xs none i = let (x, j, k) = one_from f xs w i in none x k

  -- of a routine it is about a local
  in_locals : (calls : List Site) (f : List ℕ) (r : RoutineDeclaration) → IsOneOf (warnings_of_routine calls f r) w →
      IsOneOf (flat_map (warnings_of_local (sites_of_body r)) r.locals) w
  in_locals calls f r i =
      elim (one_split (flat_map (warnings_of_require calls f r.formals) r.precondition) (warnings_after_require (sites_of_body r) r) w i) [
        | inl j ↦ absurd (none_from (warnings_of_require calls f r.formals) r.precondition (none_of_require calls f r.formals) j)
        | inr j ↦ after j
      ]
    where
      post : IsOneOf (flat_map warnings_at (sites_of_body r) ++ flat_map warnings_of_clause r.postcondition) w → ⊥
      post j = elim (one_split (flat_map warnings_at (sites_of_body r)) (flat_map warnings_of_clause r.postcondition) w j) [
        | inl k ↦ none_from warnings_at (sites_of_body r) none_at k
        | inr k ↦ none_from warnings_of_clause r.postcondition none_of_clause k
      ]

      after : IsOneOf (warnings_after_require (sites_of_body r) r) w → IsOneOf (flat_map (warnings_of_local (sites_of_body r)) r.locals) w
      after j = elim (one_split (flat_map (warnings_of_local (sites_of_body r)) r.locals) (flat_map warnings_at (sites_of_body r) ++ flat_map warnings_of_clause r.postcondition) w j) [
        | inl k ↦ k
        | inr k ↦ absurd (post k)
      ]

  of_kind : (s : System) (calls : List Site) (c : Class) (f : Feature) (k : FeatureKind) → IsOneOf s.classes c → IsOneOf c.features f → f.kind ≡ k →
      IsOneOf (warnings_of_kind calls f.name.text k) w → IsUnreadLocal s w
  of_kind s calls c f (Attribute t) i j e l = absurd l
  of_kind s calls c f (Routine r) i j e l =
      let (d, m, n) = one_from (warnings_of_local (sites_of_body r)) r.locals w (in_locals calls f.name.text r l) in
      let (unread, is) = warned (is_unread (sites_of_body r) d) UnreadLocal d.name.span w n in
      record { class = c; in_system = i; feature = f; in_class = j; routine = r; is_routine = e; local = d; in_routine = m; unread = unread; is = is }

  of_class : (s : System) (calls : List Site) (c : Class) → IsOneOf s.classes c → IsOneOf (warnings_of_class calls c) w → IsUnreadLocal s w
  of_class s calls c i l = elim (one_split (flat_map (warnings_of_feature calls) c.features) (flat_map warnings_of_clause c.invariant) w l) [
    | inl j ↦ let (f, m, n) = one_from (warnings_of_feature calls) c.features w j in of_kind s calls c f f.kind i m refl n
    | inr j ↦ absurd (none_from warnings_of_clause c.invariant none_of_clause j)
  ]

  pub of_system : (s : System) → IsOneOf (warnings_of s) w → IsUnreadLocal s w
  of_system s l = let (c, i, j) = one_from (warnings_of_class (sites_of_system s)) s.classes w l in of_class s (sites_of_system s) c i j

-- a local that is never read is warned of
pub unread_warned : (s : System) (w : Warning) → IsUnreadLocal s w → IsOneOf (warnings_of s) w
unread_warned s w l =
    let body = sites_of_body l.routine in
    let calls = sites_of_system s in
    let here : IsOneOf (warnings_of_local body l.local) w = warns (is_unread body l.local) UnreadLocal l.local.name.span w l.unread l.is in
    let routine : IsOneOf (warnings_of_routine calls l.feature.name.text l.routine) w =
    one_right (flat_map (warnings_of_require calls l.feature.name.text l.routine.formals) l.routine.precondition) (warnings_after_require body l.routine) w
    (one_left (flat_map (warnings_of_local body) l.routine.locals) (flat_map warnings_at body ++ flat_map warnings_of_clause l.routine.postcondition) w
    (one_given (warnings_of_local body) l.routine.locals l.local w l.in_routine here)) in
    let feature : IsOneOf (warnings_of_feature calls l.feature) w =
    subst (λ k. IsOneOf (warnings_of_kind calls l.feature.name.text k) w) (sym l.is_routine) routine in
    one_given (warnings_of_class calls) s.classes l.class w l.in_system
    (one_left (flat_map (warnings_of_feature calls) l.class.features) (flat_map warnings_of_clause l.class.invariant) w
    (one_given (warnings_of_feature calls) l.class.features l.feature w l.in_class feature))
