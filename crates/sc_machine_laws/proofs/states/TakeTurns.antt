-- A turn in which a handler takes a request keeps each value fitting.
use Rattle.std.specs.List.{cons_option, flat_map}
use Rattle.std.specs.Option.{option_map}
use Rattle.std.specs.Prelude.{◌==◌, if◌then◌else◌}
use Rattle.std.proofs.Common.{◌++◌, ◌<◌, Bool, List, None, Option, Some, [], ap, false, refl, subst, sym, true, ℕ, ◌∙◌, ◌∷◌, ◌≡◌}
use Rattle.std.proofs.lemmas.Bool.{eqb-true}
use Rattle.sc_tree.specs.Plain as tree
use Rattle.sc_tree.specs.Plain.{FeatureKind, System}
use Rattle.sc_class.specs.ClassNames.{Root}
use Rattle.sc_class.specs.Faults.ClassRules.{IsFaultless}
use Rattle.sc_class.specs.Tables.Features.{DeclaredFeature, features}
use Rattle.sc_rules.specs.declared.entity_types.entity_type.EntityType.{EntityType}
use Rattle.sc_rules.specs.Names.{RoutineName}
use Rattle.sc_rules.specs.Purity.{IsPurity}
use Rattle.sc_rules.specs.SystemRules.{WellFormed}
use Rattle.sc_rules.specs.Types.{declared_type}
use Rattle.sc_rules.specs.declared.position.Role.TheVariants as role
use Rattle.sc_model.specs.Environments.{Binding, bind}
use Rattle.sc_model.specs.Failures.{fails_with, request_of, to_list}
use Rattle.sc_model.specs.Handlers.{Calls, Errand, Frame, Handler, Makes, Request, World, put}
use Rattle.sc_model.specs.Objects.{Object, fresh_attribute, fresh_attributes, fresh_object, object_numbered}
use Rattle.sc_model.specs.Takes.{takes, takes_errand, takes_version, with_new_object}
use Rattle.sc_model.specs.Routines.{version_of}
use Rattle.sc_model.specs.Values.{Reference, default_of}
use Rattle.sc_model.specs.declared.cause.Cause.TheVariants as cause
use Rattle.sc_machine_laws.specs.states.Fitting.{FrameFits, HandlerFits, IsAwaited, IsThere, Linked, ObjectFits, ReplyFits, RequestFits, TakesResult, ValueIsThere, WorldFits, is_due, is_made}
use Rattle.sc_machine_laws.specs.states.Places.{called_name, result_of_request}
use Rattle.sc_machine_laws.specs.states.Points.{Each, IsAmong}
use Rattle.sc_machine_laws.specs.states.Values.{CallbacksKeepIt, NextKeepIt}
use Rattle.sc_machine_laws.proofs.states.Changes.{HasNoReply, RestStays, frames_led, handler_led, objects_led, put_at, put_beside, requests_led, rest_same, some_among}
use Rattle.sc_machine_laws.proofs.states.ExitTurns.{put_leaves}
use Rattle.sc_machine_laws.proofs.states.EnteredStacks.{default_led}
use Rattle.sc_machine_laws.proofs.states.Fresh.{among_more, fresh_fits}
use Rattle.sc_machine_laws.proofs.states.Lists.{each_append, each_before, each_behind}
use Rattle.sc_machine_laws.proofs.states.Taken.{Taken, creation_taken, taken_fails, version_taken}

-- the defaults of a fresh object lead nowhere
fresh_led : (s : System) (w : World) (fs : List DeclaredFeature) → Each (λ (b : Binding). ValueIsThere w b.value) (fresh_attributes s fs)
fresh_led s w [] = tt
fresh_led s w (f ∷ fs) = by f.feature.name.text f.feature.kind (fresh_led s w fs)
  where
    of_type : (y : List ℕ) (o : Option EntityType) (bs : List Binding) → Each (λ (b : Binding). ValueIsThere w b.value) bs →
        Each (λ (b : Binding). ValueIsThere w b.value) (cons_option (option_map (λ (t : EntityType). bind y t role.Local (default_of t.class)) o) bs)
    of_type y None bs e = e
    of_type y (Some t) bs e = (default_led w t.class, e)

    by : (y : List ℕ) (k : FeatureKind) → Each (λ (b : Binding). ValueIsThere w b.value) (fresh_attributes s fs) →
        Each (λ (b : Binding). ValueIsThere w b.value) (cons_option (fresh_attribute s y k) (fresh_attributes s fs))
    by y (tree.Attribute d) e = of_type y (declared_type s [] d) (fresh_attributes s fs) e
    by y (tree.Routine c) e = e

-- ---- from the world before

module _ (s : System) (pure : RoutineName → Bool) (w v : World) (count : v.count ≡ w.count) (h : ℕ) (l : h < w.count) (fits : WorldFits s pure w)
    (beside : (k : ℕ) → (k == h) ≡ false → v.handlers k ≡ w.handlers k)
    (grows : (o : Reference) → IsAmong (w.handlers h).objects o → IsAmong (v.handlers h).objects o)
    (due : (o : Reference) → o.handler ≡ h → (w.handlers h).objects ≡ [] → IsThere w o → IsAmong (v.handlers h).objects o) where
  among_there : (o : Reference) → o.handler ≡ h → IsAmong (v.handlers h).objects o → IsThere v o
  among_there o i z = is_made {o = z.object} (subst (λ n. o.handler < n) (sym count) (subst (λ k. k < w.count) (sym i) l))
      (subst (λ k. object_numbered o.number (v.handlers k).objects ≡ Some z.object) (sym i) z.is_there) z.of_class

  -- what is there stays there
  pub there_grown : (o : Reference) → IsThere w o → IsThere v o
  there_grown o (is_made {o = x} m i c) = by (o.handler == h) refl
    where
      by : (b : Bool) → (o.handler == h) ≡ b → IsThere v o
      by true e =
          let q : o.handler ≡ h = eqb-true o.handler h e in
          among_there o q (grows o (record { object = x; is_there = subst (λ k. object_numbered o.number (w.handlers k).objects ≡ Some x) q i; of_class = c }))
      by false e = is_made {o = x} (subst (λ n. o.handler < n) (sym count) m) (ap (λ (y : Handler). object_numbered o.number y.objects) (beside o.handler e) ∙ i) c
  there_grown o (is_due {q} {qs} {x} m i j k n u) = by (o.handler == h) refl
    where
      by : (b : Bool) → (o.handler == h) ≡ b → IsThere v o
      by true e = let z : o.handler ≡ h = eqb-true o.handler h e in among_there o z (due o z (subst (λ k. (w.handlers k).objects ≡ []) z i) (is_due {q = q} {qs = qs} {x = x} m i j k n u))
      by false e = is_due {q = q} {qs = qs} {x = x} (subst (λ n. o.handler < n) (sym count) m) (ap (λ (y : Handler). y.objects) (beside o.handler e) ∙ i)
          (ap (λ (y : Handler). y.queue) (beside o.handler e) ∙ j) k n u

  -- The request is taken.
  pub taken_so : (r : Request) (below : List Frame) → (w.handlers h).stack ≡ below → ((k : ℕ) → (v.handlers k).stack ≡ (w.handlers k).stack) → ((k : ℕ) → (v.handlers k).failure ≡ (w.handlers k).failure) →
      ((k : ℕ) → (v.handlers k).answer ≡ (w.handlers k).answer) → Each (ObjectFits s v h) (v.handlers h).objects → RequestFits s w h r → IsAmong (v.handlers h).objects r.target →
      Each (RequestFits s w h) ((v.handlers h).queue ++ to_list (v.handlers h).callback) → HasNoReply (w.handlers h) → IsAwaited s w h r (result_of_request s r) → Taken s pure v h r below
  taken_so r below is stacks failures answers objects request among waiting none awaited = record {
    is_one = subst (λ n. h < n) (sym count) l;
    others_fit = λ k m e. handler_led w v there_grown s pure k (ap (λ (y : Handler). y.objects) (beside k e))
        (subst (RestStays (w.handlers k)) (sym (beside k e)) (rest_same (w.handlers k))) (fits k (subst (λ n. k < n) count m));
    objects_fit = objects;
    stack_is = stacks h ∙ is;
    frames_fit = frames_led w v there_grown s pure h grows below (subst (Each (FrameFits s pure w h)) is (fits h l).frames_fit);
    are_linked = subst (Linked s h) is (fits h l).frames_are_linked;
    waiting_fit = requests_led w v there_grown s pure h ((v.handlers h).queue ++ to_list (v.handlers h).callback) waiting;
    stacked_fit = requests_led w v there_grown s pure h (flat_map (λ (f : Frame). request_of f.origin) below)
        (subst (λ fs. Each (RequestFits s w h) (flat_map (λ (f : Frame). request_of f.origin) fs)) is
        (each_behind (RequestFits s w h) ((w.handlers h).queue ++ to_list (w.handlers h).callback) (flat_map (λ (f : Frame). request_of f.origin) (w.handlers h).stack) (fits h l).requests_fit));
    has_no_reply = λ x a. none x (sym (answers h) ∙ a);
    request_fits = (requests_led w v there_grown s pure h (r ∷ []) (request, tt)).0;
    among = among;
    awaited = λ p m waited poster fa an. of_taker p (awaited p (subst (λ n. p < n) count m) waited poster (sym (failures p) ∙ fa) (sym (answers p) ∙ an));
  }
    where
      of_taker : (p : ℕ) → TakesResult s w p h (result_of_request s r) → TakesResult s v p h (result_of_request s r)
      of_taker p t = record {
        frame = t.frame;
        below = t.below;
        supplier = t.supplier;
        takes = t.takes;
        is_creation = t.is_creation;
        stack_is = stacks p ∙ t.stack_is;
        stage_is = t.stage_is;
        gives = t.gives;
      }

-- ---- the request is taken

module _ (s : System) (root : Root) (pure : RoutineName → Bool) (faultless : IsFaultless s root) (well : WellFormed s) (tells : IsPurity s pure)
    (w : World) (h : ℕ) (l : h < w.count) (fits : WorldFits s pure w) (x : Handler) (objects : x.objects ≡ (w.handlers h).objects) (stack : x.stack ≡ (w.handlers h).stack)
    (failure : x.failure ≡ (w.handlers h).failure) (answer : x.answer ≡ (w.handlers h).answer) (r : Request) (below : List Frame) (is : (w.handlers h).stack ≡ below)
    (request : RequestFits s w h r) (waiting : Each (RequestFits s w h) (x.queue ++ to_list x.callback)) (none : HasNoReply (w.handlers h)) (awaited : IsAwaited s w h r (result_of_request s r))
    -- what is due is the target of the request
    (due : (o : Reference) → o.handler ≡ h → (w.handlers h).objects ≡ [] → IsThere w o → (o ≡ r.target) × (o.number ≡ 1) × (k : Option (List ℕ)) × (r.errand ≡ Makes k)) where
  first_same : {A : Type 0} (field : Handler → A) → field x ≡ field (w.handlers h) → (k : ℕ) → field ((put h x w).handlers k) ≡ field (w.handlers k)
  first_same field e k = put_leaves w h x field e k

  first_grows : (o : Reference) → IsAmong (w.handlers h).objects o → IsAmong ((put h x w).handlers h).objects o
  first_grows o z = subst (λ os. IsAmong os o) (sym (first_same (λ (y : Handler). y.objects) objects h)) z

  -- ---- where the target is there

  called_taken : (y : List ℕ) → r.errand ≡ Calls y → WorldFits s pure (takes_errand s h r (Calls y) below (put h x w))
  called_taken y e = by (r.target.handler == h) refl
    where
      never : (k : Option (List ℕ)) → Calls y ≡ Makes k → ⊥
      never k i = cc

      no_due : (o : Reference) → o.handler ≡ h → (w.handlers h).objects ≡ [] → IsThere w o → IsAmong ((put h x w).handlers h).objects o
      no_due o i n z = let d = due o i n z in absurd (never d.2 (sym e ∙ d.3))

      there : (o : Reference) → IsThere w o → IsThere (put h x w) o
      there = there_grown s pure w (put h x w) refl h l fits (put_beside w h x) first_grows no_due

      -- the target is one of the objects
      target : IsAmong (w.handlers h).objects r.target
      target = of_there r.target request.is_here request.target_is_there
        where
          of_there : (o : Reference) → o.handler ≡ h → IsThere w o → IsAmong (w.handlers h).objects o
          of_there o i (is_made {o = z} m j c) = record { object = z; is_there = subst (λ k. object_numbered o.number (w.handlers k).objects ≡ Some z) i j; of_class = c }
          of_there o i (is_due {q} {qs} {x = y} m j k n u f) =
              let d = due o i (subst (λ k. (w.handlers k).objects ≡ []) i j) (is_due {q = q} {qs = qs} {x = y} m j k n u f) in absurd (never d.2 (sym e ∙ d.3))

      taken : Taken s pure (put h x w) h r below
      taken = taken_so s pure w (put h x w) refl h l fits (put_beside w h x) first_grows no_due r below is (first_same (λ (y : Handler). y.stack) stack) (first_same (λ (y : Handler). y.failure) failure)
          (first_same (λ (y : Handler). y.answer) answer)
          (subst (Each (ObjectFits s (put h x w) h)) (sym (first_same (λ (y : Handler). y.objects) objects h)) (objects_led w (put h x w) there s pure h (w.handlers h).objects (fits h l).objects_fit))
          request (first_grows r.target target) (subst (λ (y : Handler). Each (RequestFits s w h) (y.queue ++ to_list y.callback)) (sym (put_at w h x)) waiting) none awaited

      by : (b : Bool) → (r.target.handler == h) ≡ b → WorldFits s pure (if b then takes_version s h r y below (object_numbered r.target.number ((put h x w).handlers h).objects) (version_of s r.target.class y) (put h x w)
          else fails_with h cause.ForeignObject (r ∷ []) (put h x w))
      by true i = version_taken s root pure faultless well tells (put h x w) h r below taken y (ap called_name e)
      by false i = taken_fails s root pure faultless well tells (put h x w) h r below taken cause.ForeignObject

  -- ---- where an object is made

  made_taken : (k : Option (List ℕ)) → r.errand ≡ Makes k → WorldFits s pure (takes_errand s h r (Makes k) below (put h x w))
  made_taken k e = creation_taken s root pure faultless well tells (with_new_object s h r.target.class (put h x w)) h r below taken k (ap called_name e)
    where
      second_at : (with_new_object s h r.target.class (put h x w)).handlers h ≡ record x { objects = x.objects ++ fresh_object s r.target.class ∷ [] }
      second_at = put_at (put h x w) h (record ((put h x w).handlers h) { objects = ((put h x w).handlers h).objects ++ fresh_object s r.target.class ∷ [] })
          ∙ ap (λ (y : Handler). record y { objects = y.objects ++ fresh_object s r.target.class ∷ [] }) (put_at w h x)

      second_objects : ((with_new_object s h r.target.class (put h x w)).handlers h).objects ≡ (w.handlers h).objects ++ fresh_object s r.target.class ∷ []
      second_objects = ap (λ (y : Handler). y.objects) second_at ∙ ap (λ os. os ++ fresh_object s r.target.class ∷ []) objects

      second_same : {A : Type 0} (field : Handler → A) → ((z : Handler) (os : List Object) → field (record z { objects = os }) ≡ field z) → field x ≡ field (w.handlers h) → (k : ℕ) →
          field ((with_new_object s h r.target.class (put h x w)).handlers k) ≡ field (w.handlers k)
      second_same field same i k =
          put_leaves (put h x w) h (record ((put h x w).handlers h) { objects = ((put h x w).handlers h).objects ++ fresh_object s r.target.class ∷ [] }) field
          (same ((put h x w).handlers h) (((put h x w).handlers h).objects ++ fresh_object s r.target.class ∷ [])) k ∙ first_same field i k

      second_beside : (k : ℕ) → (k == h) ≡ false → (with_new_object s h r.target.class (put h x w)).handlers k ≡ w.handlers k
      second_beside k i = put_beside (put h x w) h (record ((put h x w).handlers h) { objects = ((put h x w).handlers h).objects ++ fresh_object s r.target.class ∷ [] }) k i ∙ put_beside w h x k i

      grown : (o : Reference) → IsAmong (w.handlers h).objects o → IsAmong ((with_new_object s h r.target.class (put h x w)).handlers h).objects o
      grown o z = subst (λ os. IsAmong os o) (sym second_objects) (among_more (w.handlers h).objects (fresh_object s r.target.class) o z)

      -- the first object
      first_made : (o : Reference) → o ≡ r.target → o.number ≡ 1 → (w.handlers h).objects ≡ [] → IsAmong ((with_new_object s h r.target.class (put h x w)).handlers h).objects o
      first_made o i one n = subst (λ os. IsAmong os o) (sym (second_objects ∙ ap (λ os. os ++ fresh_object s r.target.class ∷ []) n)) (record {
        object = fresh_object s r.target.class;
        is_there = ap (λ k. object_numbered k (fresh_object s r.target.class ∷ [])) one;
        of_class = ap (λ (o : Reference). o.class) (sym i);
      })

      now_due : (o : Reference) → o.handler ≡ h → (w.handlers h).objects ≡ [] → IsThere w o → IsAmong ((with_new_object s h r.target.class (put h x w)).handlers h).objects o
      now_due o i n z = let d = due o i n z in first_made o d.0 d.1 n

      there : (o : Reference) → IsThere w o → IsThere (with_new_object s h r.target.class (put h x w)) o
      there = there_grown s pure w (with_new_object s h r.target.class (put h x w)) refl h l fits second_beside grown now_due

      target : IsAmong ((with_new_object s h r.target.class (put h x w)).handlers h).objects r.target
      target = of_there r.target request.is_here request.target_is_there
        where
          of_there : (o : Reference) → o.handler ≡ h → IsThere w o → IsAmong ((with_new_object s h r.target.class (put h x w)).handlers h).objects o
          of_there o i (is_made {o = z} m j c) = grown o (record { object = z; is_there = subst (λ k. object_numbered o.number (w.handlers k).objects ≡ Some z) i j; of_class = c })
          of_there o i (is_due {q} {qs} {x = y} m j k n u f) = now_due o i (subst (λ k. (w.handlers k).objects ≡ []) i j) (is_due {q = q} {qs = qs} {x = y} m j k n u f)

      new_fits : ObjectFits s (with_new_object s h r.target.class (put h x w)) h (fresh_object s r.target.class)
      new_fits = record { attributes_fit = fresh_fits s h r.target.class request.is_of_class; are_there = fresh_led s (with_new_object s h r.target.class (put h x w)) (features s r.target.class) }

      taken : Taken s pure (with_new_object s h r.target.class (put h x w)) h r below
      taken = taken_so s pure w (with_new_object s h r.target.class (put h x w)) refl h l fits second_beside grown now_due r below is
          (second_same (λ (y : Handler). y.stack) (λ z os. refl) stack) (second_same (λ (y : Handler). y.failure) (λ z os. refl) failure) (second_same (λ (y : Handler). y.answer) (λ z os. refl) answer)
          (subst (Each (ObjectFits s (with_new_object s h r.target.class (put h x w)) h)) (sym second_objects)
          (each_append (ObjectFits s (with_new_object s h r.target.class (put h x w)) h) (w.handlers h).objects (fresh_object s r.target.class ∷ [])
          (objects_led w (with_new_object s h r.target.class (put h x w)) there s pure h (w.handlers h).objects (fits h l).objects_fit) (new_fits, tt)))
          request target (subst (λ (y : Handler). Each (RequestFits s w h) (y.queue ++ to_list y.callback)) (sym second_at) waiting) none awaited

  pub takes_fit : WorldFits s pure (takes s h r below (put h x w))
  takes_fit = by r.errand refl
    where
      by : (e : Errand) → r.errand ≡ e → WorldFits s pure (takes_errand s h r e below (put h x w))
      by (Calls y) e = called_taken y e
      by (Makes k) e = made_taken k e

-- ---- from the queue, and as a callback

pub next_keep_it : NextKeepIt
next_keep_it s root pure faultless well tells w fits h l r rs is queue awaited =
    takes_fit s root pure faultless well tells w h l fits (record (w.handlers h) { queue = rs }) refl refl refl refl r [] is (subst (Each (RequestFits s w h)) queue queued).0 waiting none awaited due
  where
    own : HandlerFits s pure w h
    own = fits h l

    front : Each (RequestFits s w h) ((w.handlers h).queue ++ to_list (w.handlers h).callback)
    front = each_before (RequestFits s w h) ((w.handlers h).queue ++ to_list (w.handlers h).callback) (flat_map (λ (f : Frame). request_of f.origin) (w.handlers h).stack) own.requests_fit

    queued : Each (RequestFits s w h) (w.handlers h).queue
    queued = each_before (RequestFits s w h) (w.handlers h).queue (to_list (w.handlers h).callback) front

    waiting : Each (RequestFits s w h) (rs ++ to_list (w.handlers h).callback)
    waiting = each_append (RequestFits s w h) rs (to_list (w.handlers h).callback) (subst (Each (RequestFits s w h)) queue queued).1
        (each_behind (RequestFits s w h) (w.handlers h).queue (to_list (w.handlers h).callback) front)

    none : HasNoReply (w.handlers h)
    none v a = of_reply (own.answer_fits v a)
      where
        no_frame : {f : Frame} {fs : List Frame} → [] ≡ f ∷ fs → ⊥
        no_frame e = cc

        of_reply : ReplyFits s w h v → ⊥
        of_reply z = no_frame (sym is ∙ z.stack_is)

    due : (o : Reference) → o.handler ≡ h → (w.handlers h).objects ≡ [] → IsThere w o → (o ≡ r.target) × (o.number ≡ 1) × (k : Option (List ℕ)) × (r.errand ≡ Makes k)
    due o i n (is_made {o = z} m j c) = absurd (some_among (w.handlers h).objects o (record { object = z; is_there = subst (λ k. object_numbered o.number (w.handlers k).objects ≡ Some z) i j; of_class = c }) n)
    due o i n (is_due {q} {qs} {x} m j k t u one) =
        let e : q ≡ r = top (sym k ∙ ap (λ k. (w.handlers k).queue) i ∙ queue) in
        (sym t ∙ ap (λ (q : Request). q.target) e, one, x, sym (ap (λ (q : Request). q.errand) e) ∙ u)
      where
        top : {p q : Request} {ps qs : List Request} → p ∷ ps ≡ q ∷ qs → p ≡ q
        top e = cc

pub callbacks_keep_it : CallbacksKeepIt
callbacks_keep_it s root pure faultless well tells w fits h l r f below is callback none awaited =
    takes_fit s root pure faultless well tells w h l fits (record (w.handlers h) { callback = None }) refl refl refl refl r (f ∷ below) is
    (subst (λ o. Each (RequestFits s w h) (to_list o)) callback called).0 waiting none awaited
    (λ o i n z. absurd (some_among (w.handlers h).objects f.current (subst (Each (FrameFits s pure w h)) is own.frames_fit).0.is_there n))
  where
    own : HandlerFits s pure w h
    own = fits h l

    front : Each (RequestFits s w h) ((w.handlers h).queue ++ to_list (w.handlers h).callback)
    front = each_before (RequestFits s w h) ((w.handlers h).queue ++ to_list (w.handlers h).callback) (flat_map (λ (f : Frame). request_of f.origin) (w.handlers h).stack) own.requests_fit

    called : Each (RequestFits s w h) (to_list (w.handlers h).callback)
    called = each_behind (RequestFits s w h) (w.handlers h).queue (to_list (w.handlers h).callback) front

    waiting : Each (RequestFits s w h) ((w.handlers h).queue ++ [])
    waiting = each_append (RequestFits s w h) (w.handlers h).queue [] (each_before (RequestFits s w h) (w.handlers h).queue (to_list (w.handlers h).callback) front) tt
