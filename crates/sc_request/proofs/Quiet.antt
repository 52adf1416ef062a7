-- A settlement that frees nothing lets nobody go on who waits to reserve.
use Rattle.std.proofs.Common.{◌≡◌, ◌&&◌, ◌||◌, ◌++◌, ℕ, Bool, true, false, not, List, [], ◌∷◌, Option, Some, None, refl, sym, ap, subst, ◌∙◌, inl, inr}
use Rattle.std.proofs.lemmas.Bool.{and_parts, cases_eq, eq-eqb, ne_eqb}
use Rattle.std.specs.Prelude.{is_some, nat_lt}
use Rattle.std.specs.List.{list_all, list_any}
use Rattle.std.specs.Option.{is_none}
use Rattle.sc_lockpass.specs.Rights.{Rights}
use Rattle.sc_lockpass.specs.wait_conditions.Reservations.{is_idle, is_lost, has_risen, mark_allows, may_be_reserved, may_reserve, reserve_fails}
use Rattle.sc_lockpass.specs.declared.wait_conditions.mark.Marked.{Marked}
use Rattle.sc_model.specs.declared.cause.Cause.{Cause}
use Rattle.sc_model.specs.declared.cause.Cause.TheVariants as cause
use Rattle.sc_region.specs.declared.job.Request.{Request}
use Rattle.sc_region.specs.declared.job.Job.{Job}
use Rattle.sc_region.specs.declared.job.Job.TheVariants as job
use Rattle.sc_region.specs.declared.job.Want.{Want}
use Rattle.sc_region.specs.declared.job.Want.TheVariants as want
use Rattle.sc_handler.specs.Handlers.{Posted, posted, HandlerStage, Idle, Runs, HasMade, Reserves, Awaits, Handler, State, put, has_requests, standing_of, standing_in, is_reserving}
use Rattle.sc_handler.specs.Picking.{job_at, job_for_entry, job_reserving, job_with, needs}
use Rattle.sc_handler.specs.Changes.{placed, takes, takes_answer, takes_callback, takes_next}
use Rattle.sc_handler.specs.Fits.{fits_turns}
use Rattle.sc_handler.specs.Freeing.{frees, frees_by, frees_under}
use Rattle.sc_request.specs.Sessions.{fail, is_callback, passed_if, send}
use Rattle.sc_request.specs.Settling.{asks, awaits_if, begun, done, done_if, may_ask, posts_unheld, sends, settled}
use Rattle.sc_request.specs.Candidates.{uncounted}
use Rattle.sc_request.proofs.Untouched.{asks_so, fail_none}

-- ---- handlers and states

-- idle, with an empty queue
abbrev is_free : Handler → Bool
is_free x = is_idle (standing_of x) && not (has_requests x.queue)

-- the second isn't free where the first isn't
record IsNoFreer (x y : Handler) : Type 0 where
  free : is_free y ≡ true → is_free x ≡ true
  failed : is_some y.failure ≡ is_some x.failure
  sessions : y.sessions ≡ x.sessions

record FreesNothing (s t : State) : Type 0 where
  rights : t.rights ≡ s.rights
  handlers : (i : ℕ) → IsNoFreer (s.handlers i) (t.handlers i)

no_freer : (x : Handler) → IsNoFreer x x
no_freer x = record { free = λ e. e; failed = refl; sessions = refl }

-- one that has frames isn't free
busy : (x y : Handler) → is_free y ≡ false → is_some y.failure ≡ is_some x.failure → y.sessions ≡ x.sessions → IsNoFreer x y
busy x y e f g = record { free = λ is. (let never = sym e ∙ is in cc); failed = f; sessions = g }

stays : (s : State) → FreesNothing s s
stays s = record { rights = refl; handlers = λ i. no_freer (s.handlers i) }

put_quiet : (h : ℕ) (x : Handler) (s : State) → IsNoFreer (s.handlers h) x → FreesNothing s (put h x s)
put_quiet h x s e = record {
  rights = refl;
  handlers = λ i. elim (cases_eq i h) [
    | inl is ↦ rw (eq-eqb i h is) (subst (λ n. IsNoFreer (s.handlers n) x) (sym is) e)
    | inr apart ↦ rw (ne_eqb i h apart) (no_freer (s.handlers i))
  ];
}

both_quiet : (s t u : State) → FreesNothing s t → FreesNothing t u → FreesNothing s u
both_quiet s t u e f = record {
  rights = f.rights ∙ e.rights;
  handlers = λ i. record {
    free = λ is. (e.handlers i).free ((f.handlers i).free is);
    failed = (f.handlers i).failed ∙ (e.handlers i).failed;
    sessions = (f.handlers i).sessions ∙ (e.handlers i).sessions;
  };
}

-- ---- the job begins

next_quiet : (ps : List Posted) (x : Handler) → IsNoFreer x (takes_next ps x)
next_quiet [] x = no_freer x
next_quiet (p ∷ ps) x = busy x (takes_next (p ∷ ps) x) refl refl refl

callback_quiet : (o : Option Posted) (x : Handler) → IsNoFreer x (takes_callback o x)
callback_quiet None x = no_freer x
callback_quiet (Some p) x = busy x (takes_callback (Some p) x) refl refl refl

takes_quiet : (st : HandlerStage) (x : Handler) → IsNoFreer x (takes st x)
takes_quiet Idle x = next_quiet x.queue x
takes_quiet Runs x = no_freer x
takes_quiet (HasMade i) x = no_freer x
takes_quiet (Reserves ks mark) x = no_freer x
takes_quiet (Awaits i c) x = callback_quiet x.callback x

begun_quiet : (h : ℕ) (j : Job) (s : State) → frees_under j ≡ false → FreesNothing s (begun h j s)
begun_quiet h (job.Take r) s e = put_quiet h (takes (s.handlers h).stage (s.handlers h)) s (takes_quiet (s.handlers h).stage (s.handlers h))
begun_quiet h (job.Reply v) s e = put_quiet h (takes_answer (s.handlers h)) s (busy (s.handlers h) (takes_answer (s.handlers h)) refl refl refl)
begun_quiet h job.Failed s e = stays s
begun_quiet h job.Refused s e = stays s
begun_quiet h (job.Granted ks) s e = cc
begun_quiet h (job.Made i) s e = cc
begun_quiet h job.Go s e = stays s

-- ---- what the last turn asks

-- unless the handler has failed in the second state
abbrev Quiet : ℕ → State → State → Type 0
Quiet h s t = (t.handlers h).failure ≡ None → FreesNothing s t

fail_quiet : (h : ℕ) (why : Cause) (s t : State) → Quiet h t (fail h why s)
fail_quiet h why s t none = absurd (fail_none h why s none)

more_requests : (ps : List Posted) (p : Posted) → has_requests (ps ++ p ∷ []) ≡ true
more_requests [] p = refl
more_requests (q ∷ ps) p = refl

not_both : (b : Bool) → (b && false) ≡ false
not_both true = refl
not_both false = refl

placed_quiet : (is_callback : Bool) (p : Posted) (x : Handler) → IsNoFreer x (placed is_callback p x)
placed_quiet true p x = record { free = λ e. e; failed = refl; sessions = refl }
placed_quiet false p x =
    busy x (placed false p x) (ap (λ b. is_idle (standing_of (placed false p x)) && not b) (more_requests x.queue p) ∙ not_both _) refl refl

awaits_quiet : (b : Bool) (h i : ℕ) (s : State) → FreesNothing s (awaits_if b h i s)
awaits_quiet true h i s = put_quiet h (record (s.handlers h) { stage = Awaits i false }) s (busy (s.handlers h) (record (s.handlers h) { stage = Awaits i false }) refl refl refl)
awaits_quiet false h i s = stays s

sends_quiet : (h i : ℕ) (r : Request) (waits : Bool) (s : State) → FreesNothing s (sends h i r false waits s)
sends_quiet h i r waits s =
    let t = awaits_if waits h i s in
    let b = is_callback h i s in
    let p = posted (record r { is_waited = waits }) (passed_if false h s.rights) in
    both_quiet s t (send b i p t) (awaits_quiet waits h i s) (put_quiet i (placed b p (t.handlers i)) t (placed_quiet b p (t.handlers i)))

asks_quiet : (h : ℕ) (r : Request) (s : State) → Quiet h s (asks h r false s)
asks_quiet h r s =
    asks_so (Quiet h s) h r false s (λ why. fail_quiet h why s s) (λ waits none. sends_quiet h r.target.handler r waits s)

done_quiet : (most h : ℕ) (w : Want) (s : State) → frees_by w ≡ false → Quiet h s (done most h w s)
done_quiet most h want.Continue s e none = stays s
done_quiet most h (want.Reserve ks) s e none =
    let x = record (s.handlers h) { stage = Reserves ks.items []; entry = ks.items } in
    put_quiet h x s (busy (s.handlers h) x refl refl refl)
done_quiet most h (want.Post r) s e none = asks_quiet h r s none
done_quiet most h (want.Ask r true) s e none = cc
done_quiet most h (want.Ask r false) s e none = asks_quiet h r s none
done_quiet most h (want.Create class procedure actuals passing) s e none = cc
done_quiet most h (want.Release ks) s e none = cc
done_quiet most h (want.Wait ks) s e none = cc
done_quiet most h (want.Done v ks refused) s e none = cc
done_quiet most h (want.Fail why) s e none = fail_quiet h why s s none

asked_quiet : (unheld fits : Bool) (most h : ℕ) (w : Want) (s : State) → frees_by w ≡ false → Quiet h s (done_if unheld fits most h w s)
asked_quiet true fits most h w s e = fail_quiet h cause.NotHeld s s
asked_quiet false true most h w s e = done_quiet most h w s e
asked_quiet false false most h w s e = fail_quiet h cause.BadCode s s

neither : (a b : Bool) → (a || b) ≡ false → (a ≡ false) × (b ≡ false)
neither true b e = cc
neither false b e = (refl, e)

settled_quiet : (most h : ℕ) (j : Job) (turns : ℕ) (w : Want) (s : State) → frees j w ≡ false → Quiet h s (settled most h j turns w s)
settled_quiet most h j turns w s e none =
    let parts = neither (frees_under j) (frees_by w) e in
    let t = begun h j s in
    both_quiet s t (settled most h j turns w s) (begun_quiet h j s parts.0)
    (asked_quiet (posts_unheld h w t) (fits_turns turns (s.handlers h).stage j w && may_ask h w t) most h w t parts.1 none)

-- ---- who waits to reserve

lost_alike : (s t : State) (r : Rights) (ks : List ℕ) → FreesNothing s t → reserve_fails (standing_in t) r ks ≡ reserve_fails (standing_in s) r ks
lost_alike s t r [] e = refl
lost_alike s t r (k ∷ ks) e =
    ap (λ b. (b && is_none (r.queue k)) || reserve_fails (standing_in t) r ks) (e.handlers k).failed
    ∙ ap (λ b. is_lost (standing_in s k) (r.queue k) || b) (lost_alike s t r ks e)

both : (a b : Bool) → a ≡ true → b ≡ true → (a && b) ≡ true
both true true e f = refl
both true false e f = cc
both false b e f = cc

free_before : (s t : State) (r : Rights) (ks : List ℕ) → FreesNothing s t → list_all (λ k. may_be_reserved (standing_in t k) (r.queue k)) ks ≡ true →
    list_all (λ k. may_be_reserved (standing_in s k) (r.queue k)) ks ≡ true
free_before s t r [] e all = refl
free_before s t r (k ∷ ks) e all =
    let parts = and_parts (may_be_reserved (standing_in t k) (r.queue k)) (list_all (λ j. may_be_reserved (standing_in t j) (r.queue j)) ks) all in
    let own = and_parts (is_free (t.handlers k)) (is_none (r.queue k)) parts.0 in
    both (may_be_reserved (standing_in s k) (r.queue k)) (list_all (λ j. may_be_reserved (standing_in s j) (r.queue j)) ks)
    (both (is_free (s.handlers k)) (is_none (r.queue k)) ((e.handlers k).free own.0) own.1)
    (free_before s t r ks e parts.1)

risen_alike : (s t : State) (ms : List Marked) → FreesNothing s t →
    list_any (has_risen (λ k. (standing_in t k).sessions)) ms ≡ list_any (has_risen (λ k. (standing_in s k).sessions)) ms
risen_alike s t [] e = refl
risen_alike s t (m ∷ ms) e =
    ap (λ n. nat_lt m.sessions n || list_any (has_risen (λ k. (standing_in t k).sessions)) ms) (e.handlers m.handler).sessions
    ∙ ap (λ b. has_risen (λ k. (standing_in s k).sessions) m || b) (risen_alike s t ms e)

allows_alike : (s t : State) (ms : List Marked) → FreesNothing s t →
    mark_allows (λ k. (standing_in t k).sessions) ms ≡ mark_allows (λ k. (standing_in s k).sessions) ms
allows_alike s t [] e = refl
allows_alike s t (m ∷ ms) e = risen_alike s t (m ∷ ms) e

may_before : (s t : State) (r : Rights) (ks : List ℕ) (mark : List Marked) → FreesNothing s t → may_reserve (standing_in t) r ks mark ≡ true →
    may_reserve (standing_in s) r ks mark ≡ true
may_before s t r ks mark e may =
    let parts = and_parts (list_all (λ k. may_be_reserved (standing_in t k) (r.queue k)) ks) (mark_allows (λ k. (standing_in t k).sessions) mark) may in
    both (list_all (λ k. may_be_reserved (standing_in s k) (r.queue k)) ks) (mark_allows (λ k. (standing_in s k).sessions) mark)
    (free_before s t r ks e parts.0) (sym (allows_alike s t mark e) ∙ parts.1)

reserving_before : (lost may may' : Bool) (ks : List ℕ) → (may' ≡ true → may ≡ true) → is_some (job_reserving lost may' ks) ≡ true →
    is_some (job_reserving lost may ks) ≡ true
reserving_before true may may' ks f is = refl
reserving_before false may true ks f is = rw (f refl) refl
reserving_before false may false ks f is = cc

entry_before : (s t : State) (ks : List ℕ) (mark : List Marked) → FreesNothing s t → is_some (job_for_entry ks mark t) ≡ true → is_some (job_for_entry ks mark s) ≡ true
entry_before s t ks mark e is =
    let under : is_some (job_reserving (reserve_fails (standing_in t) s.rights ks) (may_reserve (standing_in t) s.rights ks mark) ks) ≡ true =
    ap (λ (r : Rights). is_some (job_reserving (reserve_fails (standing_in t) r ks) (may_reserve (standing_in t) r ks mark) ks)) (sym e.rights) ∙ is in
    reserving_before (reserve_fails (standing_in s) s.rights ks) (may_reserve (standing_in s) s.rights ks mark) (may_reserve (standing_in t) s.rights ks mark) ks
    (may_before s t s.rights ks mark e)
    (ap (λ b. is_some (job_reserving b (may_reserve (standing_in t) s.rights ks mark) ks)) (sym (lost_alike s t s.rights ks e)) ∙ under)

job_at_before : (k : ℕ) (st : HandlerStage) (x y : Handler) (s t : State) → FreesNothing s t → is_reserving st ≡ true → is_some (job_at k st y t) ≡ true →
    is_some (job_at k st x s) ≡ true
job_at_before k Idle x y s t e waits is = cc
job_at_before k Runs x y s t e waits is = cc
job_at_before k (HasMade i) x y s t e waits is = cc
job_at_before k (Reserves ks mark) x y s t e waits is =
    entry_before s t (needs k ks s.rights) mark e (ap (λ (r : Rights). is_some (job_for_entry (needs k ks r) mark t)) (sym e.rights) ∙ is)
job_at_before k (Awaits i c) x y s t e waits is = cc

job_with_before : (k : ℕ) (why : Option Cause) (x y : Handler) (s t : State) → FreesNothing s t → y.stage ≡ x.stage → is_reserving y.stage ≡ true →
    is_some (job_with k why y t) ≡ true → is_some (job_with k why x s) ≡ true
job_with_before k (Some why) x y s t e same waits is = cc
job_with_before k None x y s t e same waits is =
    job_at_before k x.stage x y s t e (ap is_reserving (sym same) ∙ waits) (ap (λ (st : HandlerStage). is_some (job_at k st y t)) (sym same) ∙ is)

-- Where nothing was freed, one that waits to reserve, and is as before, had something to do before.
pub waiting_before : (most h : ℕ) (j : Job) (turns : ℕ) (w : Want) (s : State) (k : ℕ) → frees j w ≡ false →
    ((settled most h j turns w s).handlers h).failure ≡ None → uncounted ((settled most h j turns w s).handlers k) ≡ uncounted (s.handlers k) →
    is_reserving ((settled most h j turns w s).handlers k).stage ≡ true →
    is_some (job_with k ((settled most h j turns w s).handlers k).failure ((settled most h j turns w s).handlers k) (settled most h j turns w s)) ≡ true →
    is_some (job_with k (s.handlers k).failure (s.handlers k) s) ≡ true
waiting_before most h j turns w s k quiet none same waits is =
    let t = settled most h j turns w s in
    ap (λ (o : Option Cause). is_some (job_with k o (s.handlers k) s)) (ap (λ (x : Handler). x.failure) (sym same))
    ∙ job_with_before k (t.handlers k).failure (s.handlers k) (t.handlers k) s t (settled_quiet most h j turns w s quiet none) (ap (λ (x : Handler). x.stage) same) waits is
