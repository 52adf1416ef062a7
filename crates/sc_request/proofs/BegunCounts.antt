-- The begin of a job ends at most one session of each handler, and counts at most one refusal of each.
use Rattle.std.proofs.Common.{◌≡◌, ◌+◌, ◌≤◌, ◌==◌, ◌⊎◌, ℕ, Bool, true, false, List, [], ◌∷◌, Option, Some, None, refl, sym, ap, subst, ◌∙◌, inl, inr, arith}
use Rattle.std.proofs.lemmas.Bool.{eqb-true}
use Rattle.std.specs.Prelude.{if◌then◌else◌}
use Rattle.sc_lockpass.specs.Rights.{is_among, is_handler}
use Rattle.sc_region.specs.declared.job.Job.{Job}
use Rattle.sc_region.specs.declared.job.Job.TheVariants as job
use Rattle.sc_handler.specs.Handlers.{Posted, HandlerStage, Idle, Runs, HasMade, Reserves, Awaits, Handler, State, put, with_stage}
use Rattle.sc_handler.specs.Changes.{session_ended, placed, told, takes_next, takes_callback, takes, takes_answer}
use Rattle.sc_request.specs.Settling.{made_at, begun}

-- ---- counts

abbrev pub one_if : Bool → ℕ
one_if true = 1
one_if false = 0

pub few_if : (b : Bool) → one_if b ≤ 1
few_if true = omega arith
few_if false = omega arith

-- The count of a new handler, or one that has grown by one at most, and only where it may.
abbrev pub Grows : Bool → ℕ → ℕ → Type 0
Grows may n m = (m ≤ n + one_if may) ⊎ (m ≤ 1)

-- The counts of one state and those of another: of each handler that this one may post to a session may have ended, and a
-- refusal may have been counted.
pub record Grew (h : ℕ) (s t : State) : Type 0 where
  pub sessions : (k : ℕ) → Grows (is_handler h (s.rights.queue k)) (s.handlers k).sessions (t.handlers k).sessions
  pub refused : (k : ℕ) → (t.handlers k).refused ≤ (s.handlers k).refused + 1

-- All counts are the same.
pub record Same (s t : State) : Type 0 where
  pub sessions : (k : ℕ) → (t.handlers k).sessions ≡ (s.handlers k).sessions
  pub refused : (k : ℕ) → (t.handlers k).refused ≡ (s.handlers k).refused

pub grown_same : (b : Bool) (n m : ℕ) → m ≡ n → Grows b n m
grown_same true n m e = inl (omega (arith, e))
grown_same false n m e = inl (omega (arith, e))

pub same_grew : (h : ℕ) (s t : State) → Same s t → Grew h s t
same_grew h s t same = record {
  sessions = λ k. grown_same (is_handler h (s.rights.queue k)) (s.handlers k).sessions (t.handlers k).sessions (same.sessions k);
  refused = λ k. let e = same.refused k in omega (arith, e);
}

pub same_then : (s t u : State) → Same s t → Same t u → Same s u
same_then s t u e f = record { sessions = λ k. f.sessions k ∙ e.sessions k; refused = λ k. f.refused k ∙ e.refused k }

grows_as : (b : Bool) (n m m' : ℕ) → m' ≡ m → Grows b n m → Grows b n m'
grows_as b n m m' e g = subst (Grows b n) (sym e) g

pub grew_then : (h : ℕ) (s t u : State) → Grew h s t → Same t u → Grew h s u
grew_then h s t u g same = record {
  sessions = λ k. grows_as (is_handler h (s.rights.queue k)) (s.handlers k).sessions (t.handlers k).sessions (u.handlers k).sessions (same.sessions k) (g.sessions k);
  refused = λ k. let e = same.refused k in let l = g.refused k in omega (arith, e, l);
}

-- the same counts, and the same may post to each
then_grew : (h : ℕ) (s t u : State) → Same s t → ((k : ℕ) → t.rights.queue k ≡ s.rights.queue k) → Grew h t u → Grew h s u
then_grew h s t u same queue g = record {
  sessions = λ k.
      subst (λ (n : ℕ). Grows (is_handler h (s.rights.queue k)) n (u.handlers k).sessions) (same.sessions k)
      (subst (λ (q : Option ℕ). Grows (is_handler h q) (t.handlers k).sessions (u.handlers k).sessions) (queue k) (g.sessions k));
  refused = λ k. let e = same.refused k in let l = g.refused k in omega (arith, e, l);
}

-- ---- one handler

pub if_same : (b : Bool) (x y : Handler) (n : ℕ) (of : Handler → ℕ) → (b ≡ true → of x ≡ n) → of y ≡ n → of (if b then x else y) ≡ n
if_same true x y n of e f = e refl
if_same false x y n of e f = f

-- the handler of the number changes, but not its counts
pub put_same : (h : ℕ) (x : Handler) (s : State) → x.sessions ≡ (s.handlers h).sessions → x.refused ≡ (s.handlers h).refused → Same s (put h x s)
put_same h x s e f = record {
  sessions = λ k. if_same (k == h) x (s.handlers k) (s.handlers k).sessions (λ (y : Handler). y.sessions) (λ is. e ∙ ap (λ (j : ℕ). (s.handlers j).sessions) (sym (eqb-true k h is))) refl;
  refused = λ k. if_same (k == h) x (s.handlers k) (s.handlers k).refused (λ (y : Handler). y.refused) (λ is. f ∙ ap (λ (j : ℕ). (s.handlers j).refused) (sym (eqb-true k h is))) refl;
}

pub rights_same : (s t : State) → t.handlers ≡ s.handlers → Same s t
rights_same s t e = record { sessions = λ k. ap (λ (f : ℕ → Handler). (f k).sessions) e; refused = λ k. ap (λ (f : ℕ → Handler). (f k).refused) e }

pub placed_sessions : (b : Bool) (p : Posted) (x : Handler) → (placed b p x).sessions ≡ x.sessions
placed_sessions true p x = refl
placed_sessions false p x = refl

pub placed_refused : (b : Bool) (p : Posted) (x : Handler) → (placed b p x).refused ≡ x.refused
placed_refused true p x = refl
placed_refused false p x = refl

pub told_sessions : (b : Bool) (x : Handler) → (told b x).sessions ≡ x.sessions
told_sessions true x = refl
told_sessions false x = refl

pub told_refused : (b : Bool) (x : Handler) → (told b x).refused ≡ x.refused
told_refused true x = refl
told_refused false x = refl

pub ended_refused : (b : Bool) (x : Handler) → (session_ended b x).refused ≡ x.refused
ended_refused true x = refl
ended_refused false x = refl

pub ended_sessions : (b : Bool) (x : Handler) → (session_ended b x).sessions ≡ x.sessions + one_if b
ended_sessions true x = refl
ended_sessions false x = omega arith

-- ---- the job begins

next_sessions : (ps : List Posted) (x : Handler) → (takes_next ps x).sessions ≡ x.sessions
next_sessions [] x = refl
next_sessions (p ∷ ps) x = refl

next_refused : (ps : List Posted) (x : Handler) → (takes_next ps x).refused ≡ x.refused
next_refused [] x = refl
next_refused (p ∷ ps) x = refl

callback_sessions : (o : Option Posted) (x : Handler) → (takes_callback o x).sessions ≡ x.sessions
callback_sessions None x = refl
callback_sessions (Some p) x = refl

callback_refused : (o : Option Posted) (x : Handler) → (takes_callback o x).refused ≡ x.refused
callback_refused None x = refl
callback_refused (Some p) x = refl

takes_sessions : (st : HandlerStage) (x : Handler) → (takes st x).sessions ≡ x.sessions
takes_sessions Idle x = next_sessions x.queue x
takes_sessions Runs x = refl
takes_sessions (HasMade k) x = refl
takes_sessions (Reserves ks mark) x = refl
takes_sessions (Awaits k b) x = callback_sessions x.callback x

takes_refused : (st : HandlerStage) (x : Handler) → (takes st x).refused ≡ x.refused
takes_refused Idle x = next_refused x.queue x
takes_refused Runs x = refl
takes_refused (HasMade k) x = refl
takes_refused (Reserves ks mark) x = refl
takes_refused (Awaits k b) x = callback_refused x.callback x

-- A session of a handler ended as the job began, or not; where it did, nobody may post to that handler.
pub record Began (s t : State) : Type 0 where
  pub sessions : (k : ℕ) → ((t.handlers k).sessions ≡ (s.handlers k).sessions) ⊎ (((t.handlers k).sessions ≡ (s.handlers k).sessions + 1) × (t.rights.queue k ≡ None))
  pub refused : (k : ℕ) → (t.handlers k).refused ≡ (s.handlers k).refused

same_began : (s t : State) → Same s t → Began s t
same_began s t same = record { sessions = λ k. inl (same.sessions k); refused = same.refused }

released_began : (n : ℕ) (b : Bool) (x : Handler) (q : Option ℕ) → x.sessions ≡ n →
    ((session_ended b x).sessions ≡ n) ⊎ (((session_ended b x).sessions ≡ n + 1) × ((if b then None else q) ≡ None))
released_began n true x q e = inr (ap (λ (m : ℕ). m + 1) e, refl)
released_began n false x q e = inl e

made_began : (h : ℕ) (st : HandlerStage) (s : State) → Began s (made_at h st s)
made_began h (Awaits k b) s =
    let t = put h (takes_answer (s.handlers h)) s in
    let same = put_same h (takes_answer (s.handlers h)) s refl refl in
    record {
      sessions = λ j. released_began (s.handlers j).sessions (is_among j (k ∷ [])) (t.handlers j) (s.rights.queue j) (same.sessions j);
      refused = λ j. ended_refused (is_among j (k ∷ [])) (t.handlers j) ∙ same.refused j;
    }
made_began h Idle s = same_began s (with_stage h Runs s) (put_same h (record (s.handlers h) { stage = Runs }) s refl refl)
made_began h Runs s = same_began s (with_stage h Runs s) (put_same h (record (s.handlers h) { stage = Runs }) s refl refl)
made_began h (HasMade k) s = same_began s (with_stage h Runs s) (put_same h (record (s.handlers h) { stage = Runs }) s refl refl)
made_began h (Reserves ks mark) s = same_began s (with_stage h Runs s) (put_same h (record (s.handlers h) { stage = Runs }) s refl refl)

pub refl_same : (s : State) → Same s s
refl_same s = record { sessions = λ k. refl; refused = λ k. refl }

pub begun_began : (h : ℕ) (j : Job) (s : State) → Began s (begun h j s)
begun_began h (job.Take r) s =
    let x = s.handlers h in
    same_began s (put h (takes x.stage x) s) (put_same h (takes x.stage x) s (takes_sessions x.stage x) (takes_refused x.stage x))
begun_began h (job.Reply v) s = same_began s (put h (takes_answer (s.handlers h)) s) (put_same h (takes_answer (s.handlers h)) s refl refl)
begun_began h job.Failed s = same_began s s (refl_same s)
begun_began h job.Refused s = same_began s s (refl_same s)
begun_began h (job.Granted ks) s =
    let same = put_same h (record (s.handlers h) { stage = Runs }) s refl refl in
    same_began s (begun h (job.Granted ks) s) (record { sessions = same.sessions; refused = same.refused })
begun_began h (job.Made k) s = made_began h (s.handlers h).stage s
begun_began h job.Go s = same_began s s (refl_same s)
