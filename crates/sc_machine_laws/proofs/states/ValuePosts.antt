-- A request is posted: each value still fits.
use Rattle.std.specs.List.{flat_map}
use Rattle.std.specs.Prelude.{◌==◌, if◌then◌else◌, is_some, length}
use Rattle.std.proofs.Common.{◌++◌, ◌<◌, Bool, List, Option, Some, [], ap, false, refl, subst, sym, true, ℕ, ◌∙◌, ◌∷◌, ◌≡◌}
use Rattle.std.proofs.lemmas.Bool.{eqb-true}
use Rattle.sc_tree.specs.Plain.{FeatureKind, System}
use Rattle.sc_rules.specs.declared.entity_types.entity_type.EntityType.{EntityType}
use Rattle.sc_rules.specs.declared.entity_types.tag.Reserved.{Reserved}
use Rattle.sc_rules.specs.Names.{RoutineName}
use Rattle.sc_model.specs.Asking.{placed, send}
use Rattle.sc_model.specs.Failures.{request_of, requests_at, to_list}
use Rattle.sc_model.specs.Handlers.{Frame, Handler, Request, World}
use Rattle.sc_model.specs.Objects.{object_numbered}
use Rattle.sc_model.specs.Routines.{version_of}
use Rattle.sc_model.specs.Values.{Operand, Reference, values_of}
use Rattle.sc_machine_laws.specs.states.Fitting.{ActualsFit, FrameFits, HandlerFits, IsThere, Linked, ObjectFits, RequestFits, WorldFits, is_due, is_made, no_more}
use Rattle.sc_machine_laws.specs.states.Places.{formals_if_any, formals_of_kind, of_actuals}
use Rattle.sc_machine_laws.specs.states.Points.{Each, IsAmong}
use Rattle.sc_machine_laws.specs.states.ValueSteps.{CallFits, KindFits, a_routine, an_attribute}
use Rattle.sc_machine_laws.proofs.states.Calls.{numbered_fits}
use Rattle.sc_machine_laws.proofs.states.Changes.{frames_led, objects_led, put_fits, reply_led, requests_led}
use Rattle.sc_machine_laws.proofs.states.ExitTurns.{put_leaves}
use Rattle.sc_machine_laws.proofs.states.Lists.{each_append, each_before, each_behind}

-- ---- actuals

kind_actuals : (s : System) (me k : ℕ) (of : Reserved → Option ℕ) (us : List Operand) (gives : Option EntityType) (kind : FeatureKind) → KindFits s me of k us gives kind →
    ActualsFit s k (formals_of_kind kind) (of_actuals (values_of us)) (formals_of_kind kind) (values_of us)
kind_actuals s me k of us gives _ (a_routine f g) = f
kind_actuals s me k of us gives _ (an_attribute e g) = subst (λ us. ActualsFit s k [] (of_actuals (values_of us)) [] (values_of us)) (sym e) no_more

-- The actuals of a call fit the formals of the version of its target's class.
pub call_actuals : (s : System) (me : ℕ) (of : Reserved → Option ℕ) (o : Reference) (x : List ℕ) (us : List Operand) (gives : Option EntityType) → CallFits s me of o x us gives →
    ActualsFit s o.handler (formals_if_any (version_of s o.class x)) (of_actuals (values_of us)) (formals_if_any (version_of s o.class x)) (values_of us)
call_actuals s me of o x us gives c =
    subst (λ f. ActualsFit s o.handler (formals_if_any f) (of_actuals (values_of us)) (formals_if_any f) (values_of us)) (sym c.is_version)
    (kind_actuals s me o.handler of us gives c.version.feature.kind c.fits)

pub call_known : (s : System) (me : ℕ) (of : Reserved → Option ℕ) (o : Reference) (x : List ℕ) (us : List Operand) (gives : Option EntityType) → CallFits s me of o x us gives →
    (y : List ℕ) → Some x ≡ Some y → is_some (version_of s o.class y) ≡ true
call_known s me of o x us gives c y e = subst (λ y. is_some (version_of s o.class y) ≡ true) (same e) (ap is_some c.is_version)
  where
    same : Some x ≡ Some y → x ≡ y
    same e = cc

-- what is there lies on a handler that is
pub there_below : (w : World) (r : Reference) → IsThere w r → r.handler < w.count
there_below w r (is_made l i c) = l
there_below w r (is_due l i j k m n) = l

-- The class of what is there is one of the system, where objects and requests fit.
pub class_there : (s : System) (w : World) → ((k : ℕ) → k < w.count → Each (ObjectFits s w k) (w.handlers k).objects) → ((k : ℕ) → k < w.count → Each (RequestFits s w k) (requests_at (w.handlers k))) →
    (r : Reference) → IsThere w r → r.class < length s.classes
class_there s w objects requests r (is_made {o} l i c) =
    subst (λ k. k < length s.classes) c (numbered_fits (ObjectFits s w r.handler) (w.handlers r.handler).objects r.number o (objects r.handler l) i).attributes_fit.is_of_class
class_there s w objects requests r (is_due {q} {qs} l i j k m n) = subst (λ (o : Reference). o.class < length s.classes) k (subst (Each (RequestFits s w r.handler)) j queued).0.is_of_class
  where
    queued : Each (RequestFits s w r.handler) (w.handlers r.handler).queue
    queued = each_before (RequestFits s w r.handler) (w.handlers r.handler).queue (to_list (w.handlers r.handler).callback)
        (each_before (RequestFits s w r.handler) ((w.handlers r.handler).queue ++ to_list (w.handlers r.handler).callback) (flat_map (λ (f : Frame). request_of f.origin) (w.handlers r.handler).stack)
        (requests r.handler l))

-- ---- the post

module _ (w : World) (k : ℕ) (q : Request) where
  placed_objects : (b : Bool) → (placed b q (w.handlers k)).objects ≡ (w.handlers k).objects
  placed_objects true = refl
  placed_objects false = refl

  placed_stack : (b : Bool) → (placed b q (w.handlers k)).stack ≡ (w.handlers k).stack
  placed_stack true = refl
  placed_stack false = refl

  placed_answer : (b : Bool) → (placed b q (w.handlers k)).answer ≡ (w.handlers k).answer
  placed_answer true = refl
  placed_answer false = refl

  -- the first of the queue stays the first
  placed_first : (b : Bool) (p : Request) (ps : List Request) → (w.handlers k).queue ≡ p ∷ ps → (rs : List Request) × ((placed b q (w.handlers k)).queue ≡ p ∷ rs)
  placed_first true p ps e = (ps, e)
  placed_first false p ps e = (ps ++ q ∷ [], ap (λ rs. rs ++ q ∷ []) e)

  -- what is there stays there
  pub there_sent : (b : Bool) (r : Reference) → IsThere w r → IsThere (send b k q w) r
  there_sent b r (is_made {o} l i c) = is_made {o = o} l (ap (object_numbered r.number) (put_leaves w k (placed b q (w.handlers k)) (λ (y : Handler). y.objects) (placed_objects b) r.handler) ∙ i) c
  there_sent b r (is_due {q = p} {qs = ps} {x = y} l i j m n one) = by (r.handler == k) refl
    where
      none : ((send b k q w).handlers r.handler).objects ≡ []
      none = put_leaves w k (placed b q (w.handlers k)) (λ (y : Handler). y.objects) (placed_objects b) r.handler ∙ i

      by : (c : Bool) → (r.handler == k) ≡ c → IsThere (send b k q w) r
      by true e =
          let z = placed_first b p ps (subst (λ k. (w.handlers k).queue ≡ p ∷ ps) (eqb-true r.handler k e) j) in
          is_due {q = p} {qs = z.0} {x = y} l none (ap (λ c. (if c then placed b q (w.handlers k) else w.handlers r.handler).queue) e ∙ z.1) m n one
      by false e = is_due {q = p} {qs = ps} {x = y} l none (ap (λ c. (if c then placed b q (w.handlers k) else w.handlers r.handler).queue) e ∙ j) m n one

  module _ (s : System) (pure : RoutineName → Bool) (b : Bool) (fits : WorldFits s pure w) (l : k < w.count) (new : RequestFits s (send b k q w) k q) where
    own : HandlerFits s pure w k
    own = fits k l

    -- those of the queue and on the stack, with the new one
    requests : (c : Bool) → Each (RequestFits s (send b k q w) k) (requests_at (w.handlers k)) → Each (RequestFits s (send b k q w) k) (requests_at (placed c q (w.handlers k)))
    requests c e = by c
      where
        front : Each (RequestFits s (send b k q w) k) ((w.handlers k).queue ++ to_list (w.handlers k).callback)
        front = each_before (RequestFits s (send b k q w) k) ((w.handlers k).queue ++ to_list (w.handlers k).callback) (flat_map (λ (f : Frame). request_of f.origin) (w.handlers k).stack) e

        back : Each (RequestFits s (send b k q w) k) (flat_map (λ (f : Frame). request_of f.origin) (w.handlers k).stack)
        back = each_behind (RequestFits s (send b k q w) k) ((w.handlers k).queue ++ to_list (w.handlers k).callback) (flat_map (λ (f : Frame). request_of f.origin) (w.handlers k).stack) e

        queued : Each (RequestFits s (send b k q w) k) (w.handlers k).queue
        queued = each_before (RequestFits s (send b k q w) k) (w.handlers k).queue (to_list (w.handlers k).callback) front

        by : (c : Bool) → Each (RequestFits s (send b k q w) k) (requests_at (placed c q (w.handlers k)))
        by true = each_append (RequestFits s (send b k q w) k) ((w.handlers k).queue ++ q ∷ []) (flat_map (λ (f : Frame). request_of f.origin) (w.handlers k).stack)
            (each_append (RequestFits s (send b k q w) k) (w.handlers k).queue (q ∷ []) queued (new, tt)) back
        by false = each_append (RequestFits s (send b k q w) k) ((w.handlers k).queue ++ q ∷ [] ++ to_list (w.handlers k).callback) (flat_map (λ (f : Frame). request_of f.origin) (w.handlers k).stack)
            (each_append (RequestFits s (send b k q w) k) ((w.handlers k).queue ++ q ∷ []) (to_list (w.handlers k).callback)
            (each_append (RequestFits s (send b k q w) k) (w.handlers k).queue (q ∷ []) queued (new, tt))
            (each_behind (RequestFits s (send b k q w) k) (w.handlers k).queue (to_list (w.handlers k).callback) front)) back

    -- The request stands at its target.
    pub send_fits : WorldFits s pure (send b k q w)
    send_fits = put_fits w k (placed b q (w.handlers k)) s pure (there_sent b) (λ j m i. fits j m)
        (subst (Each (ObjectFits s (send b k q w) k)) (sym (placed_objects b)) (objects_led w (send b k q w) (there_sent b) s pure k (w.handlers k).objects own.objects_fit))
        (subst (Each (FrameFits s pure (send b k q w) k)) (sym (placed_stack b)) (frames_led w (send b k q w) (there_sent b) s pure k among (w.handlers k).stack own.frames_fit))
        (subst (Linked s k) (sym (placed_stack b)) own.frames_are_linked)
        (requests b (requests_led w (send b k q w) (there_sent b) s pure k (requests_at (w.handlers k)) own.requests_fit))
        (λ v a. reply_led w (send b k q w) (there_sent b) s pure k (put_leaves w k (placed b q (w.handlers k)) (λ (y : Handler). y.stack) (placed_stack b) k) v
        (own.answer_fits v (sym (placed_answer b) ∙ a)))
      where
        among : (o : Reference) → IsAmong (w.handlers k).objects o → IsAmong ((send b k q w).handlers k).objects o
        among o z = subst (λ os. IsAmong os o) (sym (put_leaves w k (placed b q (w.handlers k)) (λ (y : Handler). y.objects) (placed_objects b) k)) z
