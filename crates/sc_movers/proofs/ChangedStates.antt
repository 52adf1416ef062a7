-- What a mover changes: the parts of a settlement of another handler do the same before and after it.
use Rattle.std.proofs.Common.{◌≡◌, ◌∙◌, ◌⊎◌, inl, inr, ◌<◌, ◌≤◌, ◌==◌, ◌&&◌, ℕ, Bool, true, false, List, [], ◌∷◌, Option, Some, None, length, refl, sym, ap, subst, arith}
use Rattle.std.proofs.Math.Path.{fun_ext}
use Rattle.std.proofs.lemmas.Bool.{cases_eq, eq-eqb, ne_eqb}
use Rattle.std.specs.Prelude.{if◌then◌else◌}
use Rattle.std.specs.List.{list_any}
use Rattle.sc_lockpass.specs.Rights as rights
use Rattle.sc_lockpass.specs.Rights.{Rights, held, is_among, is_handler, lost_by, release_all}
use Rattle.sc_lockpass.specs.Passing.{Passed, listed, moved, passed_by, returned}
use Rattle.sc_lockpass.specs.wait_conditions.Reservations.{ends_session}
use Rattle.sc_lockpass.specs.declared.wait_conditions.session.Release.{Release}
use Rattle.sc_lockpass.specs.declared.wait_conditions.session.Release.TheVariants as release_at
use Rattle.sc_model.specs.declared.cause.Cause.{Cause}
use Rattle.sc_handler.specs.Handlers.{Posted, Answer, HandlerStage, Idle, Runs, HasMade, Reserves, Awaits, Handler, State, new_handler, put, with_stage}
use Rattle.sc_handler.specs.Changes.{answered, fallen, is_waited_by, placed, requests_at, session_ended, takes, takes_answer, takes_callback, takes_next, told}
use Rattle.sc_request.specs.Sessions.{answer_to, fail, finish, passed_if, passes, release, reserve, return_rights, send, with_handler}

-- ---- states

-- States are the same if they are so at each number.
pub same_states : (s t : State) → s.count ≡ t.count → ((k : ℕ) → s.handlers k ≡ t.handlers k) → ((k : ℕ) → s.rights.queue k ≡ t.rights.queue k) →
    ((k : ℕ) → s.rights.top k ≡ t.rights.top k) → s ≡ t
same_states s t count handlers queue top =
    λ i. record { count = count i; handlers = fun_ext handlers i; rights = record { queue = fun_ext queue i; top = fun_ext top i } }

pub true_false : {A : Type 0} → true ≡ false → A
true_false e = cc

-- ---- a handler of which a session ends, or none

next_ended : (ps : List Posted) (d : Bool) (x : Handler) → takes_next ps (session_ended d x) ≡ session_ended d (takes_next ps x)
next_ended [] d x = refl
next_ended (p ∷ ps) true x = refl
next_ended (p ∷ ps) false x = refl

callback_ended : (p : Option Posted) (d : Bool) (x : Handler) → takes_callback p (session_ended d x) ≡ session_ended d (takes_callback p x)
callback_ended None d x = refl
callback_ended (Some p) true x = refl
callback_ended (Some p) false x = refl

pub takes_ended : (stage : HandlerStage) (d : Bool) (x : Handler) → takes stage (session_ended d x) ≡ session_ended d (takes stage x)
takes_ended Idle true x = next_ended x.queue true x
takes_ended Idle false x = refl
takes_ended Runs d x = refl
takes_ended (HasMade k) d x = refl
takes_ended (Reserves ks mark) d x = refl
takes_ended (Awaits k is_creation) true x = callback_ended x.callback true x
takes_ended (Awaits k is_creation) false x = refl

pub answer_ended : (d : Bool) (x : Handler) → takes_answer (session_ended d x) ≡ session_ended d (takes_answer x)
answer_ended true x = refl
answer_ended false x = refl

pub staged_ended : (now : HandlerStage) (d : Bool) (x : Handler) → record (session_ended d x) { stage = now } ≡ session_ended d (record x { stage = now })
staged_ended now true x = refl
staged_ended now false x = refl

fallen_ended : (why : Cause) (d : Bool) (x : Handler) → fallen why (session_ended d x) ≡ session_ended d (fallen why x)
fallen_ended why true x = refl
fallen_ended why false x = refl

pub ended_stage : (d : Bool) (x : Handler) → (session_ended d x).stage ≡ x.stage
ended_stage true x = refl
ended_stage false x = refl

ended_requests : (d : Bool) (x : Handler) → requests_at (session_ended d x) ≡ requests_at x
ended_requests true x = refl
ended_requests false x = refl

-- ---- changes

-- What a turn makes of each handler, and who is released.
pub record Change : Type 0 where
  pub at : ℕ → Handler → Handler
  pub frees : List ℕ

abbrev pub changed : Change → State → State
changed c s = record s { handlers = λ k. c.at k (s.handlers k); rights = rights.release c.frees s.rights }

-- None of those that are released is the handler's.
abbrev pub FreesNone : ℕ → Change → State → Type 0
FreesNone h c s = (k : ℕ) → is_among k c.frees ≡ true → is_handler h (s.rights.queue k) ≡ false

-- No right to post to these is the handler's. They are there.
pub record Apart (h : ℕ) (safe : ℕ → Bool) (s : State) : Type 0 where
  pub not_its : (k : ℕ) → safe k ≡ true → is_handler h (s.rights.queue k) ≡ false
  pub few : (k : ℕ) → safe k ≡ true → k < s.count

-- What the handler h does to others is the same before and after the change, if it posts to none that is closed, and
-- answers none that is spared. Of the handler itself a session ends, or none. There were `n` handlers.
pub record Harmless (h n : ℕ) (safe closed spared : ℕ → Bool) (c : Change) : Type 0 where
  pub over : Bool
  pub own : (x : Handler) → c.at h x ≡ session_ended over x
  pub ended : (k : ℕ) (b : Bool) (x : Handler) → session_ended b (c.at k x) ≡ c.at k (session_ended b x)
  pub told : (k : ℕ) (b : Bool) (x : Handler) → told b (c.at k x) ≡ c.at k (told b x)
  pub called : (k : ℕ) (p : Posted) (x : Handler) → placed true p (c.at k x) ≡ c.at k (placed true p x)
  pub posted : (k : ℕ) → closed k ≡ false → (p : Posted) (x : Handler) → placed false p (c.at k x) ≡ c.at k (placed false p x)
  pub room : (k : ℕ) → closed k ≡ false → (x : Handler) → length (c.at k x).queue ≡ length x.queue
  pub answered : (k : ℕ) → spared k ≡ false → (a : Answer) (x : Handler) → answered a (c.at k x) ≡ c.at k (answered a x)
  pub failure : (k : ℕ) (x : Handler) → (c.at k x).failure ≡ x.failure
  pub freed : (k : ℕ) → is_among k c.frees ≡ true → safe k ≡ true
  pub shut : (k : ℕ) → closed k ≡ true → safe k ≡ true
  pub beyond : (k : ℕ) → n ≤ k → c.at k new_handler ≡ new_handler

module _ (h n : ℕ) (safe closed spared : ℕ → Bool) (c : Change) (harm : Harmless h n safe closed spared c) where
  -- what the handler h makes of itself
  pub own_changed : (u : Handler → Handler) → ((d : Bool) (x : Handler) → u (session_ended d x) ≡ session_ended d (u x)) → (x : Handler) → u (c.at h x) ≡ c.at h (u x)
  own_changed u e x = ap u (harm.own x) ∙ e harm.over x ∙ sym (harm.own (u x))

  pub stage_own : (s : State) → ((changed c s).handlers h).stage ≡ (s.handlers h).stage
  stage_own s = ap (λ (x : Handler). x.stage) (harm.own (s.handlers h)) ∙ ended_stage harm.over (s.handlers h)

  pub services_own : (s : State) → ((changed c s).handlers h).services ≡ (s.handlers h).services
  services_own s = ap (λ (x : Handler). x.services) (harm.own (s.handlers h)) ∙ by harm.over
    where
      by : (d : Bool) → (session_ended d (s.handlers h)).services ≡ (s.handlers h).services
      by true = refl
      by false = refl

  pub entry_own : (s : State) → ((changed c s).handlers h).entry ≡ (s.handlers h).entry
  entry_own s = ap (λ (x : Handler). x.entry) (harm.own (s.handlers h)) ∙ by harm.over
    where
      by : (d : Bool) → (session_ended d (s.handlers h)).entry ≡ (s.handlers h).entry
      by true = refl
      by false = refl

  -- ---- parts of settlements

  pub put_changed : (i : ℕ) (y z : Handler) (s : State) → z ≡ c.at i y → put i z (changed c s) ≡ changed c (put i y s)
  put_changed i y z s e = same_states (put i z (changed c s)) (changed c (put i y s)) refl (λ k. by k (cases_eq k i)) (λ k. refl) (λ k. refl)
    where
      by : (k : ℕ) → (k ≡ i) ⊎ (k ≡ i → ⊥) → (if k == i then z else c.at k (s.handlers k)) ≡ c.at k (if k == i then y else s.handlers k)
      by k (inl same) =
          ap (λ (b : Bool). if b then z else c.at k (s.handlers k)) (eq-eqb k i same)
          ∙ e ∙ ap (λ (m : ℕ). c.at m y) (sym same)
          ∙ ap (λ (b : Bool). c.at k (if b then y else s.handlers k)) (sym (eq-eqb k i same))
      by k (inr other) =
          ap (λ (b : Bool). if b then z else c.at k (s.handlers k)) (ne_eqb k i other)
          ∙ ap (λ (b : Bool). c.at k (if b then y else s.handlers k)) (sym (ne_eqb k i other))

  -- it changes itself
  pub own_put : (u : Handler → Handler) → ((d : Bool) (x : Handler) → u (session_ended d x) ≡ session_ended d (u x)) → (s : State) →
      put h (u ((changed c s).handlers h)) (changed c s) ≡ changed c (put h (u (s.handlers h)) s)
  own_put u e s = put_changed h (u (s.handlers h)) (u ((changed c s).handlers h)) s (own_changed u e (s.handlers h))

  pub stage_changed : (now : HandlerStage) (s : State) → with_stage h now (changed c s) ≡ changed c (with_stage h now s)
  stage_changed now s = own_put (λ x. record x { stage = now }) (staged_ended now) s

  pub released_changed : (how : Release) (ls : List ℕ) (s : State) → release how ls (changed c s) ≡ changed c (release how ls s)
  released_changed how ls s =
      same_states (release how ls (changed c s)) (changed c (release how ls s)) refl
      (λ k. harm.ended k (ends_session how && is_among k ls) (s.handlers k))
      (λ k. by (is_among k ls) (is_among k c.frees) (s.rights.queue k)) (λ k. refl)
    where
      by : (a b : Bool) (o : Option ℕ) → (if a then None else (if b then None else o)) ≡ (if b then None else (if a then None else o))
      by true true o = refl
      by true false o = refl
      by false true o = refl
      by false false o = refl

  pub reserved_changed : (ls : List ℕ) (s : State) → ((k : ℕ) → safe k ≡ true → is_among k ls ≡ false) → reserve h ls (changed c s) ≡ changed c (reserve h ls s)
  reserved_changed ls s disjoint =
      same_states (reserve h ls (changed c s)) (changed c (reserve h ls s)) refl (λ k. refl)
      (λ k. by (is_among k c.frees) (is_among k ls) (s.rights.queue k) (λ e. disjoint k (harm.freed k e))) (λ k. refl)
    where
      by : (a b : Bool) (o : Option ℕ) → (a ≡ true → b ≡ false) → (if b then Some h else (if a then None else o)) ≡ (if a then None else (if b then Some h else o))
      by true true o e = true_false (e refl)
      by true false o e = refl
      by false b o e = refl

  pub passes_changed : (b : Bool) (k : ℕ) (s : State) → passes b h k (changed c s) ≡ changed c (passes b h k s)
  passes_changed false k s = refl
  passes_changed true k s =
      same_states (passes true h k (changed c s)) (changed c (passes true h k s)) refl (λ j. refl) (λ j. by (is_among j c.frees) (s.rights.queue j)) (λ j. refl)
    where
      by : (a : Bool) (o : Option ℕ) → moved h k (if a then None else o) ≡ (if a then None else moved h k o)
      by true o = refl
      by false o = refl

  -- what it passes is none of these
  pub passed_changed : (b : Bool) (s : State) → Apart h safe s → passed_if b h (changed c s).rights ≡ passed_if b h s.rights
  passed_changed false s f = refl
  passed_changed true s f =
      λ i. Some (record { queue = fun_ext (λ k. by k (is_among k c.frees) refl) i; top = (passed_by h s.rights).top })
    where
      by : (k : ℕ) (a : Bool) → is_among k c.frees ≡ a → listed h (if is_among k c.frees then None else s.rights.queue k) ≡ listed h (s.rights.queue k)
      by k true e =
          ap (λ (b : Bool). listed h (if b then None else s.rights.queue k)) e
          ∙ sym (ap (λ (b : Bool). if b then Some (s.rights.queue k) else None) (f.not_its k (harm.freed k e)))
      by k false e = ap (λ (b : Bool). listed h (if b then None else s.rights.queue k)) e

  pub sent_changed : (b : Bool) (k : ℕ) (p : Posted) (s : State) → (b ≡ false → closed k ≡ false) → send b k p (changed c s) ≡ changed c (send b k p s)
  sent_changed true k p s opens = put_changed k (placed true p (s.handlers k)) (placed true p ((changed c s).handlers k)) s (harm.called k p (s.handlers k))
  sent_changed false k p s opens = put_changed k (placed false p (s.handlers k)) (placed false p ((changed c s).handlers k)) s (harm.posted k (opens refl) p (s.handlers k))

  -- none of these returns
  pub returned_changed : (o : Option Passed) (s : State) → ((p : Passed) → o ≡ Some p → (k : ℕ) → safe k ≡ true → p.queue k ≡ None) →
      return_rights o (changed c s) ≡ changed c (return_rights o s)
  returned_changed None s none = refl
  returned_changed (Some p) s none =
      same_states (return_rights (Some p) (changed c s)) (changed c (return_rights (Some p) s)) refl (λ k. refl) (λ k. by k (is_among k c.frees) refl) (λ k. refl)
    where
      by : (k : ℕ) (a : Bool) → is_among k c.frees ≡ a →
          returned (p.queue k) (if is_among k c.frees then None else s.rights.queue k) ≡ (if is_among k c.frees then None else returned (p.queue k) (s.rights.queue k))
      by k true e =
          ap (λ (b : Bool). returned (p.queue k) (if b then None else s.rights.queue k)) e
          ∙ ap (λ (l : Option (Option ℕ)). returned l None) (none p refl k (harm.freed k e))
          ∙ ap (λ (b : Bool). if b then None else returned (p.queue k) (s.rights.queue k)) (sym e)
      by k false e =
          ap (λ (b : Bool). returned (p.queue k) (if b then None else s.rights.queue k)) e
          ∙ ap (λ (b : Bool). if b then None else returned (p.queue k) (s.rights.queue k)) (sym e)

  -- who is answered isn't spared
  pub answers_changed : (b : Bool) (o : Option ℕ) (a : Answer) (s : State) → ((p : ℕ) → b ≡ true → o ≡ Some p → spared p ≡ false) →
      answer_to b o a (changed c s) ≡ changed c (answer_to b o a s)
  answers_changed true (Some p) a s hears = put_changed p (answered a (s.handlers p)) (answered a ((changed c s).handlers p)) s (harm.answered p (hears p refl refl) a (s.handlers p))
  answers_changed true None a s hears = refl
  answers_changed false o a s hears = refl

  pub finished_changed : (p : Posted) (a : Answer) (s : State) → ((q : Passed) → p.passed ≡ Some q → (k : ℕ) → safe k ≡ true → q.queue k ≡ None) →
      ((k : ℕ) → p.request.is_waited ≡ true → p.request.poster ≡ Some k → spared k ≡ false) → finish p a (changed c s) ≡ changed c (finish p a s)
  finished_changed p a s none hears =
      ap (answer_to p.request.is_waited p.request.poster a) (returned_changed p.passed s none)
      ∙ answers_changed p.request.is_waited p.request.poster a (return_rights p.passed s) hears

  -- none of those that are released is the handler's, if none that are safe are
  pub frees_none : (s : State) → Apart h safe s → FreesNone h c s
  frees_none s f k e = f.not_its k (harm.freed k e)

  -- whom the handler may post to
  pub same_holder : (s : State) → FreesNone h c s → (k : ℕ) → is_handler h ((changed c s).rights.queue k) ≡ is_handler h (s.rights.queue k)
  same_holder s f k = by (is_among k c.frees) refl
    where
      by : (a : Bool) → is_among k c.frees ≡ a → is_handler h (if is_among k c.frees then None else s.rights.queue k) ≡ is_handler h (s.rights.queue k)
      by true e = ap (λ (b : Bool). is_handler h (if b then None else s.rights.queue k)) e ∙ sym (f k e)
      by false e = ap (λ (b : Bool). is_handler h (if b then None else s.rights.queue k)) e

  pub fails_changed : (why : Cause) (s : State) → FreesNone h c s → fail h why (changed c s) ≡ changed c (fail h why s)
  fails_changed why s f =
      same_states (fail h why (changed c s)) (changed c (fail h why s)) refl (λ k. one k (cases_eq k h)) (λ k. lost (is_among k c.frees) (s.rights.queue k)) (λ k. refl)
    where
      lost : (a : Bool) (o : Option ℕ) → lost_by h (if a then None else o) ≡ (if a then None else lost_by h o)
      lost true o = refl
      lost false o = refl

      falls : ℕ → Bool
      falls k = is_handler h (s.rights.queue k)

      waits : List Posted → ℕ → Bool
      waits ps k = list_any (is_waited_by k) ps

      ours : List Posted
      ours = requests_at (s.handlers h)

      same_requests : requests_at ((changed c s).handlers h) ≡ ours
      same_requests = ap requests_at (harm.own (s.handlers h)) ∙ ended_requests harm.over (s.handlers h)

      after : ℕ → Handler
      after k = if k == h then fallen why (s.handlers k) else told (waits ours k) (s.handlers k)

      inner : (k : ℕ) → (k ≡ h) ⊎ (k ≡ h → ⊥) →
          (if k == h then fallen why (c.at k (s.handlers k)) else told (waits ours k) (c.at k (s.handlers k))) ≡ c.at k (after k)
      inner k (inl same) =
          ap (λ (b : Bool). if b then fallen why (c.at k (s.handlers k)) else told (waits ours k) (c.at k (s.handlers k))) (eq-eqb k h same)
          ∙ subst (λ (m : ℕ). fallen why (c.at m (s.handlers m)) ≡ c.at m (fallen why (s.handlers m))) (sym same) (own_changed (fallen why) (fallen_ended why) (s.handlers h))
          ∙ ap (λ (b : Bool). c.at k (if b then fallen why (s.handlers k) else told (waits ours k) (s.handlers k))) (sym (eq-eqb k h same))
      inner k (inr other) =
          ap (λ (b : Bool). if b then fallen why (c.at k (s.handlers k)) else told (waits ours k) (c.at k (s.handlers k))) (ne_eqb k h other)
          ∙ harm.told k (waits ours k) (s.handlers k)
          ∙ ap (λ (b : Bool). c.at k (if b then fallen why (s.handlers k) else told (waits ours k) (s.handlers k))) (sym (ne_eqb k h other))

      one : (k : ℕ) → (k ≡ h) ⊎ (k ≡ h → ⊥) → ((fail h why (changed c s)).handlers k) ≡ c.at k ((fail h why s).handlers k)
      one k which =
          ap (λ (ps : List Posted). session_ended (ends_session release_at.Failure && is_handler h ((changed c s).rights.queue k))
          (if k == h then fallen why (c.at k (s.handlers k)) else told (waits ps k) (c.at k (s.handlers k)))) same_requests
          ∙ ap (λ (b : Bool). session_ended (ends_session release_at.Failure && b)
          (if k == h then fallen why (c.at k (s.handlers k)) else told (waits ours k) (c.at k (s.handlers k)))) (same_holder s f k)
          ∙ ap (session_ended (ends_session release_at.Failure && falls k)) (inner k which)
          ∙ harm.ended k (ends_session release_at.Failure && falls k) (after k)

  -- a new handler is none of these
  pub one_more_changed : (s : State) → Apart h safe s → n ≤ s.count → with_handler s.count h (changed c s) ≡ changed c (with_handler s.count h s)
  one_more_changed s f more =
      same_states (with_handler s.count h (changed c s)) (changed c (with_handler s.count h s)) refl
      (λ k. by k (cases_eq k s.count)) (λ k. right k (cases_eq k s.count)) (λ k. refl)
    where
      not_among : is_among s.count c.frees ≡ false
      not_among = with_among (is_among s.count c.frees) refl
        where
          with_among : (b : Bool) → is_among s.count c.frees ≡ b → is_among s.count c.frees ≡ false
          with_among true e = let few = f.few s.count (harm.freed s.count e) in absurd (omega (arith, few))
          with_among false e = e

      by : (k : ℕ) → (k ≡ s.count) ⊎ (k ≡ s.count → ⊥) →
          (if k == s.count then new_handler else c.at k (s.handlers k)) ≡ c.at k (if k == s.count then new_handler else s.handlers k)
      by k (inl same) =
          ap (λ (b : Bool). if b then new_handler else c.at k (s.handlers k)) (eq-eqb k s.count same)
          ∙ sym (harm.beyond s.count more) ∙ ap (λ (m : ℕ). c.at m new_handler) (sym same)
          ∙ ap (λ (b : Bool). c.at k (if b then new_handler else s.handlers k)) (sym (eq-eqb k s.count same))
      by k (inr other) =
          ap (λ (b : Bool). if b then new_handler else c.at k (s.handlers k)) (ne_eqb k s.count other)
          ∙ ap (λ (b : Bool). c.at k (if b then new_handler else s.handlers k)) (sym (ne_eqb k s.count other))

      right : (k : ℕ) → (k ≡ s.count) ⊎ (k ≡ s.count → ⊥) →
          (if k == s.count then Some h else (if is_among k c.frees then None else s.rights.queue k)) ≡ (if is_among k c.frees then None else (if k == s.count then Some h else s.rights.queue k))
      right k (inl same) =
          ap (λ (b : Bool). if b then Some h else (if is_among k c.frees then None else s.rights.queue k)) (eq-eqb k s.count same)
          ∙ ap (λ (b : Bool). if b then None else Some h) (sym (ap (λ (m : ℕ). is_among m c.frees) same ∙ not_among))
          ∙ ap (λ (b : Bool). if is_among k c.frees then None else (if b then Some h else s.rights.queue k)) (sym (eq-eqb k s.count same))
      right k (inr other) =
          ap (λ (b : Bool). if b then Some h else (if is_among k c.frees then None else s.rights.queue k)) (ne_eqb k s.count other)
          ∙ ap (λ (b : Bool). if is_among k c.frees then None else (if b then Some h else s.rights.queue k)) (sym (ne_eqb k s.count other))
