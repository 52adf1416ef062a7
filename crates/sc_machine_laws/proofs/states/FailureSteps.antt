-- A failure keeps all.
use Rattle.std.proofs.Common.{◌≡◌, ◌≢◌, ◌⊎◌, ⊎_elim, inl, inr, ℕ, ◌<◌, ◌≤◌, List, [], ◌∷◌, Some, None, Bool, true, false, ◌==◌, refl, sym, ap, ◌∙◌, subst}
use Rattle.std.proofs.lemmas.Bool.{eq-eqb, cases_eq}
use Rattle.std.specs.Prelude.{if◌then◌else◌}
use Rattle.sc_machine_laws.specs.states.World.{passes, Grant, Wait, Request, Frame, SupplierFailed, Handler, World, has, fallen, ruined, requests_of, and_this, and_begun}
use Rattle.sc_machine_laws.specs.states.Steps.{answered, waits_for, IsTold, MayFail}
use Rattle.sc_machine_laws.specs.states.Consistent.{IsAway, Asks, IsFirst, HasWait, StackWaits, IsOpen, HasGrant, IsOver, Lends, Nobody, IsTrail, IsBased, HasPassed, IsOrdered, HadBefore, IsStuckFrom, IsOne, AreNumbered, HasClient, HasLost, IsConsistent}
use Rattle.sc_machine_laws.proofs.states.Forms.{fail_by_waits}
use Rattle.sc_machine_laws.proofs.states.Waits.{true_false, waits_stack, stack_has, top_newest}
use Rattle.sc_machine_laws.proofs.states.Failures.{Kept, fail-here, fail_kept, fail_told, fail_new, fail_why, fail_awaits, fail_answer, fail_open, fail_open_back, fewer, fewer_stack, has_failed, h_failed, still_lives, stuck_on, stuck_from_on, fall_had, fall_grant, queue_known, top_known, nobody_well, lends_well}

fallen_first : (h x i : ℕ) (t : List Grant) → IsFirst x i (fallen h t) → IsFirst x i t × (x ≢ h)
fallen_first h x i [] is = absurd is
fallen_first h x i (e ∷ t) is = by (e.holder == h) refl is
  where
    by : (b : Bool) → (e.holder == h) ≡ b → IsFirst x i (if b then [] else e ∷ t) → IsFirst x i (e ∷ t) × (x ≢ h)
    by true so a = absurd a
    by false so a = (a, λ xh. true_false (sym (eq-eqb e.holder h (a.0 ∙ xh)) ∙ so))

pub fallen_sub : (h x m : ℕ) (t : List Grant) → HasGrant x m (fallen h t) → HasGrant x m t
fallen_sub h x m [] i = i
fallen_sub h x m (e ∷ t) i = by (e.holder == h) i
  where
    by : (b : Bool) → HasGrant x m (if b then [] else e ∷ t) → HasGrant x m (e ∷ t)
    by true a = absurd a
    by false a = a

away_on : (h : ℕ) (w : World) (k : ℕ) → k ≢ h → IsAway (w.handlers k) → IsAway ((fail_by_waits h w).handlers k)
away_on h w k ne a =
    let same = fail_kept h w k ne in
    record {
      for = a.for;
      waits = ap waits_for same.stack ∙ a.waits;
      passing = a.passing;
      unanswered =
          fail_awaits h w k ne a.unanswered;
      no_callback = same.callback ∙ a.no_callback;
    }

asks_on : (h : ℕ) (w : World) (x k lo hi : ℕ) → x ≢ h → Asks (w.handlers x) k lo hi → Asks
    ((fail_by_waits h w).handlers x) k lo hi
asks_on h w x k lo hi ne a =
    record {
      for = a.for;
      waits = ap waits_for (fail_kept h w x ne).stack ∙ a.waits;
      target = a.target;
      keeps =
          a.keeps;
      unanswered = fail_awaits h w x ne a.unanswered;
      after = a.after;
      before = a.before;
    }

lends_on : (h : ℕ) (w : World) (k x lo m : ℕ) → x ≢ h → Lends w k x lo m → Lends (fail_by_waits h w) k x lo m
lends_on h w k x lo m ne (a, o) = (
  asks_on h w x k lo m ne a,
  ⊎_elim
      (λ has. ⊎_elim (λ kh. inr (h_failed h w k kh))
      (λ nk. inl (subst (HasWait m) (sym (fail_kept h w k nk).stack) has)) (cases_eq k h))
      (λ f. inr (has_failed h w k f))
      o,
)

over_on : (h : ℕ) (w : World) (L M : ℕ → ℕ → ℕ → Type 0) → ((x lo m : ℕ) → x ≢ h → L x lo m → M x lo m)
    → (e d : Grant) → IsOver w L e d → IsOver (fail_by_waits h w) M e d
over_on h w L M lent e d over = ⊎_elim
    (λ dh. inr (inr (h_failed h w d.holder dh)))
    (λ ne. ⊎_elim
    (λ i. inl (subst (HasWait e.number) (sym (fail_kept h w d.holder ne).stack) i))
    (λ o. ⊎_elim (λ l. inr (inl (lent d.holder d.number e.number ne l)))
    (λ f. inr (inr (has_failed h w d.holder f))) o)
    over)
    (cases_eq d.holder h)

trail_on : (h : ℕ) (w : World) (L M : ℕ → ℕ → ℕ → Type 0) → ((x lo m : ℕ) → x ≢ h → L x lo m → M x lo m)
    → (t : List Grant) → IsTrail w L t → IsTrail (fail_by_waits h w) M t
trail_on h w L M lent [] is = tt
trail_on h w L M lent (e ∷ []) is = tt
trail_on h w L M lent (e ∷ d ∷ t) is = (over_on h w L M lent e d is.0, is.1, trail_on h w L M lent (d ∷ t) is.2)

trail_fallen : (h : ℕ) (v : World) (M : ℕ → ℕ → ℕ → Type 0) (t : List Grant) → IsTrail v M t → IsTrail v M
    (fallen h t)
trail_fallen h v M t is = elim (has h t) as (λ b. IsTrail v M (if b then [] else t)) [ true ↦ tt | false ↦ is ]

based_fallen : (h : ℕ) (fs : List Frame) (t : List Grant) → IsBased fs t → IsBased fs (fallen h t)
based_fallen h fs t is = elim (has h t) as (λ b. IsBased fs (if b then [] else t)) [ true ↦ tt | false ↦ is ]

pub requests_same : (g f : Handler) → Kept g f → requests_of f ≡ requests_of g
requests_same g f k = ap (λ c. and_this c (and_begun f.stack f.requests)) k.callback ∙ ap
    (λ s. and_this g.callback (and_begun s f.requests)) k.stack ∙ ap
    (λ q. and_this g.callback (and_begun g.stack q)) k.requests

no_request : {A : Type 0} (r : Request) → None ≡ Some r → A
no_request r e = cc

none_told : {A : Type 0} → None ≡ Some SupplierFailed → A
none_told e = cc

failing_own : (h : ℕ) (w : World) → IsConsistent w → (k : ℕ) (v : Wait) → IsOpen v ((fail_by_waits h w).handlers k)
    → v.passing ≡ true → HasGrant v.target v.number ((fail_by_waits h w).top k) ⊎ HasLost (fail_by_waits h w) k v
failing_own h w fine k v still passing =
    let f = fewer_stack h w k v still.0 in
    ⊎_elim
    (λ was. ⊎_elim
    (λ i. ⊎_elim
    (λ a. inl a)
    (λ a. inr (inr (a.0, λ x m j. absurd (subst (HasGrant x m) a.1 j))))
    (fall_grant h w fine (Lends w k) (lends_well h w fine k) (w.top k) (top_known w fine k)
    (fine.top_trails k) v.target v.number k f.0 (stack_has v (w.handlers k).stack f.1) i))
    (λ o. inr (⊎_elim
    (λ a. inl (fail_told h w k f.0 a))
    (λ a. inr (stuck_on h w k v.number f.0 a.0, λ x m j. a.1 x m (fallen_sub h x m (w.top k) j)))
    o))
    (fine.own_top k v was passing))
    (λ t. inr (inl t))
    (fail_open_back h w k v f.0 still)

pub lives_there : (w : World) → IsConsistent w → (p : ℕ) (v : Wait) → StackWaits v (w.handlers p).stack
    → (w.handlers p).failed ≡ false
lives_there w fine p v s = by (w.handlers p).failed refl
  where
    by : (b : Bool) → (w.handlers p).failed ≡ b → (w.handlers p).failed ≡ false
    by false so = so
    by true so = absurd (subst (StackWaits v) (fine.failures p so) s)

failing_held : (h : ℕ) (w : World) → IsConsistent w → (p : ℕ) (v : Wait) → StackWaits v
    ((fail_by_waits h w).handlers p).stack
    → HadBefore p v.number ((fail_by_waits h w).queue v.target) ⊎
    (HadBefore p v.number ((fail_by_waits h w).top v.target) ⊎ IsStuckFrom (fail_by_waits h w) p v.number)
failing_held h w fine p v now =
    let f = fewer_stack h w p v now in
    let alive = lives_there w fine p v f.1 in
    let most : (u : Wait) → waits_for (w.handlers p).stack ≡ Some u → v.number ≤ u.number = λ u at. top_newest
    (w.handlers p).stack u v (fine.ordered p) at f.1 in
    ⊎_elim
    (λ a. ⊎_elim (λ b. inl b) (λ b. inr (inr b))
    (fall_had h w fine Nobody (nobody_well h w) (w.queue v.target) (queue_known w fine v.target)
    (fine.queue_trails v.target) p v.number f.0 alive most a))
    (λ o. ⊎_elim
    (λ a. ⊎_elim (λ b. inr (inl b)) (λ b. inr (inr b))
    (fall_had h w fine (Lends w v.target) (lends_well h w fine v.target) (w.top v.target)
    (top_known w fine v.target) (fine.top_trails v.target) p v.number f.0 alive most a))
    (λ stuck. inr (inr (stuck_from_on h w p v.number f.0 stuck)))
    o)
    (fine.held p v f.1)

failing_clients : (h : ℕ) (w : World) → IsConsistent w → (k : ℕ) (r : Request) → IsOne r
    (requests_of ((fail_by_waits h w).handlers k)) → r.waited ≡ true → HasClient (fail_by_waits h w) k r
failing_clients h w fine k r one waited =
    let ne : k ≢ h = λ e. absurd (subst (λ (g : Handler). IsOne r (requests_of g)) (fail-here h w)
    (subst (λ y. IsOne r (requests_of ((fail_by_waits h w).handlers y))) e one)) in
    ⊎_elim
    (λ a. inl (
      has_failed h w r.poster a.0,
      (λ q i. a.1 q (fewer h w q r.number i).1),
      λ j x. (
        (λ i. (a.2 j x).0 (fallen_sub h x r.number (w.queue j) i)),
        (λ i. (a.2 j x).1 (fallen_sub h x r.number (w.top j) i)),
      ),
    ))
    (λ (a : (v : Wait) × IsOpen v (w.handlers r.poster) × (v.number ≡ r.number) × (v.target ≡ k) ×
    (v.passing ≡ passes r) × (v.asked ≡ r.asked)). ⊎_elim
    (λ ph. inl (
      h_failed h w r.poster ph,
      (λ q i.
          let f = fewer h w q r.number i in
          f.0 (fine.one_poster q h r.number f.1
          (subst (λ m. HasWait m (w.handlers h).stack) a.2
          (stack_has a.0 (w.handlers h).stack (subst (λ y. StackWaits a.0 (w.handlers y).stack) ph a.1.0))))),
      λ j x. (
        (λ i. fine.queue_grants j r.poster x a.0 a.1.0
            (subst (λ m. HasGrant x m (w.queue j)) (sym a.2) (fallen_sub h x r.number (w.queue j) i)) ∙ a.3),
        (λ i. fine.top_grants j r.poster x a.0 a.1.0
            (subst (λ m. HasGrant x m (w.top j)) (sym a.2) (fallen_sub h x r.number (w.top j) i)) ∙ a.3),
      ),
    ))
    (λ np. inr (a.0, fail_open h w r.poster a.0 np a.1, a.2, a.3, a.4, a.5))
    (cases_eq r.poster h))
    (fine.clients k r (subst (IsOne r)
    (requests_same (w.handlers k) ((fail_by_waits h w).handlers k) (fail_kept h w k ne)) one) waited)

failing_told : (h : ℕ) (w : World) → IsConsistent w → (k : ℕ) → IsTold ((fail_by_waits h w).handlers k) → (v : Wait)
    × StackWaits v ((fail_by_waits h w).handlers k).stack × (((fail_by_waits h w).handlers v.target).failed ≡ true)
failing_told h w fine k is =
    let ne : k ≢ h = λ e. none_told
    (subst IsTold (fail-here h w) (subst (λ y. IsTold ((fail_by_waits h w).handlers y)) e is)) in
    let same = (fail_kept h w k ne).stack in
    ⊎_elim
    (λ was. let a = fine.why_told k was
    in (a.0, subst (StackWaits a.0) (sym same) a.1, has_failed h w a.0.target a.2))
    (λ (a : (v : Wait) × IsOpen v (w.handlers k) × (v.target ≡ h)).
    (a.0, subst (StackWaits a.0) (sym same) a.1.0, h_failed h w a.0.target a.2))
    (fail_why h w k ne is)

-- at h, which has failed, or at another
at_other : (P : Handler → Type 0) (h : ℕ) (w : World) (k : ℕ) → P (ruined (w.handlers h))
    → (k ≢ h → P ((fail_by_waits h w).handlers k)) → P ((fail_by_waits h w).handlers k)
at_other P h w k here there = ⊎_elim
    (λ e. subst (λ y. P ((fail_by_waits h w).handlers y)) (sym e) (subst P (sym (fail-here h w)) here))
    there
    (cases_eq k h)

unfoldable CallbackAt : Handler → Type 0
CallbackAt g = (r : Request) → g.callback ≡ Some r → ((m : ℕ) → HasWait m g.stack → m < r.number) × HasPassed g.stack
    × (answered g.answer ≡ false)

pub failing_keeps : (h : ℕ) (w : World) → MayFail h w → IsConsistent w → IsConsistent (fail_by_waits h w)
unfolding CallbackAt
failing_keeps h w may fine = record {
  tops = λ k x i first ne alive.
      let a = fallen_first h x i (w.top k) first in
      let l = still_lives h w k alive in
      ⊎_elim
      (λ away. inl (away_on h w k l.0 away))
      (λ o. inr (⊎_elim (λ asks. inl (asks_on h w x k i w.next a.1 asks)) (λ f. inr (has_failed h w x f)) o))
      (fine.tops k x i a.0 ne l.1);
  clear = λ k active.
      let l = still_lives h w k active.0 in
      let same = fail_kept h w k l.0 in
      let c = fine.clear k (l.1, ap waits_for (sym same.stack) ∙ active.1) in
      (fail_awaits h w k l.0 c.0, same.callback ∙ c.1);
  ordered = λ k. at_other (λ g. IsOrdered g.stack) h w k tt
      (λ ne. subst IsOrdered (sym (fail_kept h w k ne).stack) (fine.ordered k));
  callbacks = λ k. at_other CallbackAt h w k (λ r is. no_request r is) (λ ne r is.
      let same = fail_kept h w k ne in
      let c = fine.callbacks k r (sym same.callback ∙ is) in (
        λ m has. c.0 m (subst (HasWait m) same.stack has),
        subst HasPassed
            (sym same.stack) c.1,
        fail_awaits h w k ne c.2,
      ));
  queue_trails = λ k. trail_fallen h (fail_by_waits h w) Nobody (w.queue k)
      (trail_on h w Nobody Nobody (λ x lo m ne l. l) (w.queue k) (fine.queue_trails k));
  top_trails = λ k. trail_fallen h (fail_by_waits h w) (Lends (fail_by_waits h w) k) (w.top k)
      (trail_on h w (Lends w k) (Lends (fail_by_waits h w) k) (lends_on h w k) (w.top k) (fine.top_trails k));
  based = λ k alive.
      let l = still_lives h w k alive in
      subst (λ s. IsBased s (fallen h (w.top k))) (sym (fail_kept h w k l.0).stack)
      (based_fallen h (w.handlers k).stack (w.top k) (fine.based k l.1));
  own_top = failing_own h w fine;
  queue_grants = λ k p x v s i. fine.queue_grants k p x v (fewer_stack h w p v s).1
      (fallen_sub h x v.number (w.queue k) i);
  top_grants = λ k p x v s i. fine.top_grants k p x v (fewer_stack h w p v s).1 (fallen_sub h x v.number (w.top k) i);
  held = failing_held h w fine;
  one_poster = λ a b n i j. fine.one_poster a b n (fewer h w a n i).1 (fewer h w b n j).1;
  waits_old = λ k n i. fine.waits_old k n (fewer h w k n i).1;
  queue_old = λ k x n i. fine.queue_old k x n (fallen_sub h x n (w.queue k) i);
  top_old = λ k x n i. fine.top_old k x n (fallen_sub h x n (w.top k) i);
  spent = λ p v at over k x.
      let f = fewer_stack h w p v (waits_stack ((fail_by_waits h w).handlers p).stack v at) in
      let same = (fail_kept h w p f.0).stack in
      ⊎_elim
      (λ a. let s = fine.spent p v (ap waits_for (sym same) ∙ at) (ap answered (sym a) ∙ over) k x in
      (λ i. s.0 (fallen_sub h x v.number (w.queue k) i), λ i. s.1 (fallen_sub h x v.number (w.top k) i)))
      (λ t. true_false (sym over ∙ ap answered t))
      (fail_answer h w p f.0);
  plain = λ p v s np k x.
      let a = fine.plain p v (fewer_stack h w p v s).1 np k x in
      ((λ i. a.0 (fallen_sub h x v.number (w.queue k) i)), (λ i. a.1 (fallen_sub h x v.number (w.top k) i)));
  dead = λ k v still f.
      let g = fewer_stack h w k v still.0 in
      ⊎_elim
      (λ was. ⊎_elim
      (λ th. fail_new h w k v g.0 was th)
      (λ nt. fail_told h w k g.0 (fine.dead k v was (sym (fail_kept h w v.target nt).failed ∙ f)))
      (cases_eq v.target h))
      (λ t. t)
      (fail_open_back h w k v g.0 still);
  failures = λ k. at_other (λ g. g.failed ≡ true → g.stack ≡ []) h w k (λ _. refl)
      (λ ne f. (fail_kept h w k ne).stack ∙ fine.failures k (sym (fail_kept h w k ne).failed ∙ f));
  why_told = failing_told h w fine;
  clients = failing_clients h w fine;
  numbered = λ k. at_other (λ g. AreNumbered w.next (requests_of g)) h w k tt
      (λ ne. subst (AreNumbered w.next)
      (sym (requests_same (w.handlers k) ((fail_by_waits h w).handlers k) (fail_kept h w k ne))) (fine.numbered k));
}
