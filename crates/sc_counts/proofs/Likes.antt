-- What becomes of states that are read alike is read alike.
use Rattle.std.proofs.Common.{◌≡◌, ◌+◌, ◌<◌, ◌==◌, ◌∙◌, ◌++◌, inl, inr, ℕ, Bool, true, false, List, [], ◌∷◌, Option, Some, None, map, refl, sym, ap, arith}
use Rattle.std.proofs.Math.Path.{fun_ext}
use Rattle.std.proofs.lemmas.Bool.{cases_eq, eq-eqb, ne_eqb}
use Rattle.std.specs.Prelude.{if◌then◌else◌}
use Rattle.std.specs.List.{list_any}
use Rattle.sc_lockpass.specs.Passing.{Passed}
use Rattle.sc_model.specs.declared.cause.Cause.{Cause}
use Rattle.sc_region.specs.declared.job.Request.{Request}
use Rattle.sc_handler.specs.Handlers.{Posted, posted, Answer, HandlerStage, Idle, Runs, HasMade, Reserves, Awaits, Service, Handler, State, new_handler, put, with_stage}
use Rattle.sc_handler.specs.Changes.{answered, counted_refusal, fallen, is_waited_by, placed, requests_at, session_ended, takes, takes_answer, takes_callback, takes_next, to_list, told}
use Rattle.sc_handler.specs.Canonical.{canon, canon_handler, canon_service, canon_stage, sessions_in}
use Rattle.sc_request.specs.Sessions.{answer_to, finish, is_callback, passed_if, passes, return_rights, send, with_handler}
use Rattle.sc_request.specs.Settling.{awaits_if, reserves, sends}
use Rattle.sc_counts.specs.Counted.{IsCounted}
use Rattle.sc_counts.proofs.Marks.{Rise, handler_reads, mark_rises, mark_stays, read_by, reread, reread_same}

-- ---- one handler is changed

pick_either : {A : Type 0} (f : Handler → A) (b : Bool) (x y z : Handler) → f x ≡ f z → f y ≡ f z → f (if b then x else y) ≡ f z
pick_either f true x y z e g = e
pick_either f false x y z e g = g

pub sessions_put : (h : ℕ) (x : Handler) (s : State) → x.sessions ≡ (s.handlers h).sessions → sessions_in (put h x s) ≡ sessions_in s
sessions_put h x s e = fun_ext (λ k. elim (cases_eq k h) [
  | inl same ↦ rw (sessions_in, eq-eqb k h same) (e ∙ ap (λ (i : ℕ). (s.handlers i).sessions) (sym same))
  | inr apart ↦ rw (sessions_in, ne_eqb k h apart) refl
])

canon_either : (S : ℕ → ℕ) (b : Bool) (x y : Handler) → canon_handler S (if b then x else y) ≡ (if b then canon_handler S x else canon_handler S y)
canon_either S true x y = refl
canon_either S false x y = refl

-- what changes no count
pub put_canon : (h : ℕ) (x : Handler) (s : State) → x.sessions ≡ (s.handlers h).sessions → canon (put h x s) ≡ put h (canon_handler (sessions_in s) x) (canon s)
put_canon h x s e =
    let handlers = fun_ext (λ k.
    ap (λ (S : ℕ → ℕ). canon_handler S ((put h x s).handlers k)) (sessions_put h x s e) ∙ canon_either (sessions_in s) (k == h) x (s.handlers k)) in
    λ i. record s { handlers = handlers i }

pub stage_canon : (h : ℕ) (st : HandlerStage) (s : State) → canon (with_stage h st s) ≡ with_stage h (canon_stage (sessions_in s) st) (canon s)
stage_canon h st s = put_canon h (record (s.handlers h) { stage = st }) s refl

next_canon : (S : ℕ → ℕ) (ps : List Posted) (x : Handler) → canon_handler S (takes_next ps x) ≡ takes_next ps (canon_handler S x)
next_canon S [] x = refl
next_canon S (p ∷ ps) x = refl

callback_canon : (S : ℕ → ℕ) (o : Option Posted) (x : Handler) → canon_handler S (takes_callback o x) ≡ takes_callback o (canon_handler S x)
callback_canon S None x = refl
callback_canon S (Some p) x = refl

takes_canon : (S : ℕ → ℕ) (st : HandlerStage) (x : Handler) → canon_handler S (takes st x) ≡ takes (canon_stage S st) (canon_handler S x)
takes_canon S Idle x = next_canon S x.queue x
takes_canon S Runs x = refl
takes_canon S (HasMade k) x = refl
takes_canon S (Reserves ks mark) x = refl
takes_canon S (Awaits k is_creation) x = callback_canon S x.callback x

next_sessions : (ps : List Posted) (x : Handler) → (takes_next ps x).sessions ≡ x.sessions
next_sessions [] x = refl
next_sessions (p ∷ ps) x = refl

callback_sessions : (o : Option Posted) (x : Handler) → (takes_callback o x).sessions ≡ x.sessions
callback_sessions None x = refl
callback_sessions (Some p) x = refl

pub takes_sessions : (st : HandlerStage) (x : Handler) → (takes st x).sessions ≡ x.sessions
takes_sessions Idle x = next_sessions x.queue x
takes_sessions Runs x = refl
takes_sessions (HasMade k) x = refl
takes_sessions (Reserves ks mark) x = refl
takes_sessions (Awaits k is_creation) x = callback_sessions x.callback x

pub taken_canon : (h : ℕ) (s : State) →
    canon (put h (takes (s.handlers h).stage (s.handlers h)) s) ≡ put h (takes ((canon s).handlers h).stage ((canon s).handlers h)) (canon s)
taken_canon h s =
    put_canon h (takes (s.handlers h).stage (s.handlers h)) s (takes_sessions (s.handlers h).stage (s.handlers h))
    ∙ ap (λ (x : Handler). put h x (canon s)) (takes_canon (sessions_in s) (s.handlers h).stage (s.handlers h))

pub answer_taken_canon : (h : ℕ) (s : State) → canon (put h (takes_answer (s.handlers h)) s) ≡ put h (takes_answer ((canon s).handlers h)) (canon s)
answer_taken_canon h s = put_canon h (takes_answer (s.handlers h)) s refl

pub reserves_canon : (h : ℕ) (ks : List ℕ) (s : State) → canon (reserves h ks s) ≡ reserves h ks (canon s)
reserves_canon h ks s = put_canon h (record (s.handlers h) { stage = Reserves ks []; entry = ks }) s refl

-- ---- requests and answers

placed_canon : (S : ℕ → ℕ) (b : Bool) (p : Posted) (x : Handler) → canon_handler S (placed b p x) ≡ placed b p (canon_handler S x)
placed_canon S true p x = refl
placed_canon S false p x = refl

pub placed_sessions : (b : Bool) (p : Posted) (x : Handler) → (placed b p x).sessions ≡ x.sessions
placed_sessions true p x = refl
placed_sessions false p x = refl

pub send_canon : (b : Bool) (k : ℕ) (p : Posted) (s : State) → canon (send b k p s) ≡ send b k p (canon s)
send_canon b k p s =
    put_canon k (placed b p (s.handlers k)) s (placed_sessions b p (s.handlers k))
    ∙ ap (λ (x : Handler). put k x (canon s)) (placed_canon (sessions_in s) b p (s.handlers k))

pub passes_canon : (b : Bool) (h k : ℕ) (s : State) → canon (passes b h k s) ≡ passes b h k (canon s)
passes_canon true h k s = refl
passes_canon false h k s = refl

awaits_canon : (b : Bool) (h k : ℕ) (s : State) → canon (awaits_if b h k s) ≡ awaits_if b h k (canon s)
awaits_canon true h k s = stage_canon h (Awaits k false) s
awaits_canon false h k s = refl

pub sends_canon : (h k : ℕ) (r : Request) (passing waits : Bool) (s : State) → canon (sends h k r passing waits s) ≡ sends h k r passing waits (canon s)
sends_canon h k r passing waits s =
    let p : Posted = posted (record r { is_waited = waits }) (passed_if passing h s.rights) in
    passes_canon passing h k (send (is_callback h k s) k p (awaits_if waits h k s))
    ∙ ap (passes passing h k) (send_canon (is_callback h k s) k p (awaits_if waits h k s) ∙ ap (send (is_callback h k s) k p) (awaits_canon waits h k s))

answer_canon : (b : Bool) (o : Option ℕ) (a : Answer) (s : State) → canon (answer_to b o a s) ≡ answer_to b o a (canon s)
answer_canon true (Some p) a s = put_canon p (answered a (s.handlers p)) s refl
answer_canon true None a s = refl
answer_canon false o a s = refl

return_canon : (o : Option Passed) (s : State) → canon (return_rights o s) ≡ return_rights o (canon s)
return_canon None s = refl
return_canon (Some p) s = refl

pub finish_canon : (p : Posted) (a : Answer) (s : State) → canon (finish p a s) ≡ finish p a (canon s)
finish_canon p a s =
    answer_canon p.request.is_waited p.request.poster a (return_rights p.passed s) ∙ ap (answer_to p.request.is_waited p.request.poster a) (return_canon p.passed s)

-- ---- sessions end

-- a session of each of these has ended
abbrev pub ended : (ℕ → Bool) → State → State
ended b s = record s { handlers = λ k. session_ended (b k) (s.handlers k) }

-- and what is read of each mark then
abbrev pub read_after : (ℕ → Bool) → State → State
read_after b s = record s { handlers = λ k. reread (read_by b) (s.handlers k) }

ended_rise : (b : ℕ → Bool) (s : State) → Rise b (sessions_in s) (sessions_in (ended b s))
ended_rise b s k = by (b k) (s.handlers k)
  where
    by : (c : Bool) (x : Handler) → (session_ended c x).sessions ≡ (if c then x.sessions + 1 else x.sessions)
    by true x = refl
    by false x = refl

uncounted_ended : (S : ℕ → ℕ) (b : Bool) (x : Handler) → canon_handler S (session_ended b x) ≡ canon_handler S x
uncounted_ended S true x = refl
uncounted_ended S false x = refl

pub ended_canon : (b : ℕ → Bool) (s : State) → IsCounted s → canon (ended b s) ≡ read_after b (canon s)
ended_canon b s c =
    let S = sessions_in s in
    let S' = sessions_in (ended b s) in
    let handlers = fun_ext (λ k.
    uncounted_ended S' (b k) (s.handlers k)
    ∙ handler_reads S S' s.count (read_by b) (mark_rises b S S' s.count (ended_rise b s)) (s.handlers k) (c.handlers k)) in
    λ i. record s { handlers = handlers i }

-- ---- a handler is made

made_sessions : (k h : ℕ) (s : State) (j : ℕ) → j < k → sessions_in (with_handler k h s) j ≡ sessions_in s j
made_sessions k h s j below = rw (sessions_in, ne_eqb j k (λ e. omega (arith, below, e))) refl

pub with_handler_canon : (h : ℕ) (s : State) → IsCounted s → canon (with_handler s.count h s) ≡ with_handler s.count h (canon s)
with_handler_canon h s c =
    let S = sessions_in s in
    let S' = sessions_in (with_handler s.count h s) in
    let same : (j : ℕ) → j < s.count → S' j ≡ S j = made_sessions s.count h s in
    let other : (k : ℕ) → canon_handler S' (s.handlers k) ≡ canon_handler S (s.handlers k) = λ k.
    handler_reads S S' s.count (λ ms. ms) (mark_stays S S' s.count same) (s.handlers k) (c.handlers k) ∙ reread_same (canon_handler S (s.handlers k)) in
    let handlers = fun_ext (λ k.
    canon_either S' (k == s.count) new_handler (s.handlers k) ∙ ap (λ (x : Handler). if k == s.count then new_handler else x) (other k)) in
    λ i. record (with_handler s.count h s) { handlers = handlers i }

-- ---- a handler fails

-- the handler has failed, and who waits for it has learnt of it
abbrev pub fell : ℕ → Cause → State → State
fell h why s = record s {
  handlers = λ k. if k == h then fallen why (s.handlers k) else told (list_any (is_waited_by k) (requests_at (s.handlers h))) (s.handlers k);
}

pub refusal_sessions : (b : Bool) (x : Handler) → (counted_refusal b x).sessions ≡ x.sessions
refusal_sessions true x = refl
refusal_sessions false x = refl

told_sessions : (b : Bool) (x : Handler) → (told b x).sessions ≡ x.sessions
told_sessions true x = refl
told_sessions false x = refl

pub fell_sessions : (h : ℕ) (why : Cause) (s : State) → sessions_in (fell h why s) ≡ sessions_in s
fell_sessions h why s = fun_ext (λ k.
    pick_either (λ (x : Handler). x.sessions) (k == h) (fallen why (s.handlers k)) (told (list_any (is_waited_by k) (requests_at (s.handlers h))) (s.handlers k)) (s.handlers k) refl
    (told_sessions (list_any (is_waited_by k) (requests_at (s.handlers h))) (s.handlers k)))

told_canon : (S : ℕ → ℕ) (b : Bool) (x : Handler) → canon_handler S (told b x) ≡ told b (canon_handler S x)
told_canon S true x = refl
told_canon S false x = refl

services_asked : (S : ℕ → ℕ) (vs : List Service) → map (λ (v : Service). v.posted) (map (canon_service S) vs) ≡ map (λ (v : Service). v.posted) vs
services_asked S [] = refl
services_asked S (v ∷ vs) = ap (λ (ps : List Posted). v.posted ∷ ps) (services_asked S vs)

requests_canon : (S : ℕ → ℕ) (x : Handler) → requests_at (canon_handler S x) ≡ requests_at x
requests_canon S x = ap (λ (ps : List Posted). x.queue ++ to_list x.callback ++ ps) (services_asked S x.services)

pub fell_canon : (h : ℕ) (why : Cause) (s : State) → canon (fell h why s) ≡ fell h why (canon s)
fell_canon h why s =
    let S = sessions_in s in
    let waits = λ (k : ℕ) (ps : List Posted). list_any (is_waited_by k) ps in
    let handlers = fun_ext (λ k.
    ap (λ (S' : ℕ → ℕ). canon_handler S' ((fell h why s).handlers k)) (fell_sessions h why s)
    ∙ canon_either S (k == h) (fallen why (s.handlers k)) (told (waits k (requests_at (s.handlers h))) (s.handlers k))
    ∙ ap (λ (x : Handler). if k == h then fallen why (canon_handler S (s.handlers k)) else x)
    (told_canon S (waits k (requests_at (s.handlers h))) (s.handlers k)
    ∙ ap (λ (ps : List Posted). told (waits k ps) (canon_handler S (s.handlers k))) (sym (requests_canon S (s.handlers h))))) in
    λ i. record s { handlers = handlers i }
