-- Where the invariant of a turn holds, each value fits its type.
use Rattle.std.proofs.Common.{◌≡◌, ◌⊎◌, inl, inr, ℕ, zero, suc, Bool, true, false, List, ◌∷◌, Option, Some, refl, sym, subst, ap, ◌∙◌}
use Rattle.std.specs.Prelude.{Contains, slice_get}
use Rattle.sc_tree.specs.Plain.{System, Declaration}
use Rattle.sc_rules.specs.declared.entity_types.tag.Reserved.{Reserved}
use Rattle.sc_rules.specs.declared.entity_types.entity_type.EntityType.{EntityType}
use Rattle.sc_rules.specs.Types.{declared_type}
use Rattle.sc_model.specs.Values.{Value, Attached, Operand}
use Rattle.sc_model.specs.Environments.{Binding, handler_named}
use Rattle.sc_model.specs.Failures.{requests_at}
use Rattle.sc_model.specs.Handlers.{Awaits, Frame}
use Rattle.sc_model.specs.Fits.{Lies, Fits, IsUnset, FitsOrUnset, BindingFits, OperandFits}
use Rattle.sc_machine_laws.specs.states.Places.{no_names, attribute, entity, of_result, operand, of_old, actual, reply}
use Rattle.sc_machine_laws.specs.states.Points as point
use Rattle.sc_machine_laws.specs.states.Points.{EnvironmentFits, ResultFits}
use Rattle.sc_machine_laws.specs.states.Fitting.{ActualsFit, no_more, one_more, ValueIsThere, ObjectFits, ReplyFits, RequestFits, FrameFits}
use Rattle.sc_machine_laws.specs.states.Values.{FitWhereWorldFits, OwnWhereWorldFits}
use Rattle.sc_machine_laws.proofs.states.Lists.{same_some, each_in}
use Rattle.sc_machine_laws.proofs.states.Environments.{all_fit, olds_now}

binding_fits : (s : System) (h : ℕ) (bs : List Binding) → EnvironmentFits s h bs → (b : Binding) → Contains bs b → BindingFits s h bs b
binding_fits s h bs f b c = each_in (BindingFits s h bs) bs b (all_fit s h bs f) c

result_there : (s : System) (h : ℕ) (g : Option (Option EntityType)) (o : Option Operand) (u : Operand) → ResultFits s h g o → o ≡ Some u → FitsOrUnset s h no_names u.value u.type
result_there s h _ _ u point.no_result e = cc
result_there s h _ _ u (point.a_result {u = v} f) e = subst (λ (u : Operand). FitsOrUnset s h no_names u.value u.type) (same_some e) f

actual_fits : (s : System) (h : ℕ) (all : List Declaration) (of : Reserved → Option ℕ) (ds : List Declaration) (vs : List Value) → ActualsFit s h all of ds vs →
    (i : ℕ) (d : Declaration) (t : EntityType) (v : Value) → slice_get ds i ≡ Some d → declared_type s all d.declared_type ≡ Some t → slice_get vs i ≡ Some v →
    Fits s h of v t
actual_fits s h all of _ _ no_more i d t v j k l = cc
actual_fits s h all of _ _ (one_more {d = e} {v = x} {t = u} k f more) zero d t v j m l = at (same e d j) (same x v l)
  where
    same : {A : Type 0} (a b : A) → Some a ≡ Some b → a ≡ b
    same a b e = cc

    at : e ≡ d → x ≡ v → Fits s h of v t
    at p q = subst (λ v. Fits s h of v t) q (subst (λ t. Fits s h of x t) (same u t (sym k ∙ ap (λ (d : Declaration). declared_type s all d.declared_type) p ∙ m)) f)
actual_fits s h all of _ _ (one_more {ds} {vs} k f more) (suc i) d t v j m l = actual_fits s h all of ds vs more i d t v j m l

-- the value may be unset
open_to : {P Q : Type 0} → P ⊎ Q → P ⊎ ((true ≡ true) × Q)
open_to (inl p) = inl p
open_to (inr q) = inr (refl, q)

pub fit_where_world_fits : FitWhereWorldFits
fit_where_world_fits s pure w fits h of v t u (attribute {o} {b} l i j) =
    open_to (each_in (λ (b : Binding). FitsOrUnset s h no_names b.value b.type) o.attributes b (each_in (ObjectFits s w h) (w.handlers h).objects o (fits h l).objects_fit i).attributes_fit.fit j)
fit_where_world_fits s pure w fits h of v t u (entity {f} {b} l i j) =
    binding_fits s h f.environment (each_in (FrameFits s pure w h) (w.handlers h).stack f (fits h l).frames_fit i).point_fits.names_fit b j
fit_where_world_fits s pure w fits h of v t u (of_result {f} {u = r} l i e) =
    open_to (result_there s h f.routine.text.result f.result r (each_in (FrameFits s pure w h) (w.handlers h).stack f (fits h l).frames_fit i).point_fits.result_fits e)
fit_where_world_fits s pure w fits h of v t u (operand {f} {u = x} l i j) =
    inl (each_in (OperandFits s h f.environment) f.values x (each_in (FrameFits s pure w h) (w.handlers h).stack f (fits h l).frames_fit i).point_fits.values_fit j)
fit_where_world_fits s pure w fits h of v t u (of_old {f} {u = x} l i j) =
    inl (each_in (OperandFits s h f.environment) f.olds x (olds_now s h f.environment f.olds (each_in (FrameFits s pure w h) (w.handlers h).stack f (fits h l).frames_fit i).point_fits.olds_fit) j)
fit_where_world_fits s pure w fits h of v t u (actual i {r} {d} l c j k m) =
    let q = each_in (RequestFits s w h) (requests_at (w.handlers h)) r (fits h l).requests_fit c in
    inl (subst (λ h. Fits s h of v t) q.is_here (actual_fits s r.target.handler _ of _ r.actuals q.actuals_fit i d t v j k m))
fit_where_world_fits s pure w fits h of v t u (reply {k} {f} {below} {is_creation} l a e g) = of_reply ((fits h l).answer_fits (Some v) a)
  where
    same : (x v : Value) → Some v ≡ Some x → x ≡ v
    same x v e = cc

    top : {f g : Frame} {fs gs : List Frame} → f ∷ fs ≡ g ∷ gs → f ≡ g
    top e = cc

    awaited : {j k : ℕ} {t u : Option EntityType} {b c : Bool} → Awaits j t b ≡ Awaits k u c → t ≡ u
    awaited e = cc

    at : (x : Value) × (Some v ≡ Some x) × Fits s h (handler_named f.environment) x t × ValueIsThere w x → Fits s h (handler_named f.environment) v t ⊎ ((false ≡ true) × IsUnset v t)
    at (x, p, q, z) = inl (subst (λ v. Fits s h (handler_named f.environment) v t) (same x v p) q)

    of_reply : ReplyFits s w h (Some v) → Fits s h (handler_named f.environment) v t ⊎ ((false ≡ true) × IsUnset v t)
    of_reply z =
        let i : z.frame ≡ f = top (sym z.stack_is ∙ e) in
        at (subst (λ (y : Frame). (x : Value) × (Some v ≡ Some x) × Fits s h (handler_named y.environment) x t × ValueIsThere w x) i
        (z.fits t (awaited (sym z.stage_is ∙ ap (λ (y : Frame). y.stage) i ∙ g))))

pub own_where_world_fits : OwnWhereWorldFits
own_where_world_fits s pure w fits h of r t u p e = at (fit_where_world_fits s pure w fits h of (Attached r) t u p)
  where
    at : Fits s h of (Attached r) t ⊎ ((u ≡ true) × IsUnset (Attached r) t) → r.handler ≡ h
    at (inl (c, l)) = subst (λ g. Lies g h of r.handler) e l
    at (inr (i, (j, k))) = cc
