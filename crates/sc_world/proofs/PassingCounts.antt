-- What a turn asks leaves of the requests that a handler serves.
use Rattle.std.proofs.Common.{◌≡◌, ◌-◌, ◌==◌, ◌&&◌, ℕ, Bool, true, false, List, [], ◌∷◌, Option, Some, None, length, refl, sym, ap, subst, ◌∙◌, arith}
use Rattle.std.proofs.lemmas.Bool.{eq-eqb, ne_eqb, ltb-true, lt-ltb}
use Rattle.std.specs.Prelude.{if◌then◌else◌, nat_lt}
use Rattle.std.specs.List.{list_any}
use Rattle.sc_lockpass.specs.Rights.{is_handler}
use Rattle.sc_lockpass.specs.wait_conditions.Reservations.{ends_session, mark_of}
use Rattle.sc_lockpass.specs.declared.wait_conditions.session.Release.TheVariants as release_at
use Rattle.sc_model.specs.declared.cause.Cause.{Cause}
use Rattle.sc_model.specs.declared.cause.Cause.TheVariants as cause
use Rattle.sc_region.specs.declared.value.Value.{Value}
use Rattle.sc_region.specs.declared.job.Want.{Want}
use Rattle.sc_region.specs.declared.job.Want.TheVariants as want
use Rattle.sc_handler.specs.Handlers.{Replied, Refused, Reserves, Service, Handler, State, new_handler, put, with_stage}
use Rattle.sc_handler.specs.Changes.{fallen, is_waited_by, requests_at, session_ended, told, counted_refusal}
use Rattle.sc_request.specs.Sessions.{fail, finish, release}
use Rattle.sc_request.specs.Settling.{done, done_if, ends, ends_service}
use Rattle.sc_world.specs.Requests.Serving.{HasFrames, HasServices}
use Rattle.sc_world.specs.Requests.Settlements.{KeepsServices, known}
use Rattle.sc_world.specs.Requests.Turns.{left_after}
use Rattle.sc_world.proofs.AlikeCounts.{Alike, Keep, alike, alike_keep, alike_then, asks_keep, creates_keep, fail_alike, finish_alike, keeps, keeps_then, put_alike, refusal_keeps, release_alike, some_none, stage_alike, staged}

-- ---- a handler that serves more or less

-- The handler serves so many, unless it has failed.
abbrev pub Counts : ℕ → Handler → Type 0
Counts n x = x.failure ≡ None → HasServices n x

pub counts_kept : (n : ℕ) (x y : Handler) → KeepsServices x y → Counts n x → Counts n y
counts_kept n x y p c e =
    let kept = p e in
    let had = c kept.0 in
    record { count = kept.1 ∙ had.count; frames = kept.2 had.frames }

abbrev pub OthersKeep : ℕ → State → State → Type 0
OthersKeep h s t = (k : ℕ) → (k ≡ h → ⊥) → KeepsServices (known k s) (known k t)

pub others_then : (h : ℕ) (s t u : State) → OthersKeep h s t → OthersKeep h t u → OthersKeep h s u
others_then h s t u p q k apart = keeps_then (known k s) (known k t) (known k u) (p k apart) (q k apart)

pub others_put : (h : ℕ) (x : Handler) (s : State) → OthersKeep h s (put h x s)
others_put h x s k apart = rw (ne_eqb k h apart) (keeps (known k s))

-- The handler, which is there, still is, and serves so many where it served so many; and all others keep what they serve.
pub record Passes (h m n : ℕ) (s t : State) : Type 0 where
  pub own : nat_lt h s.count ≡ true → Counts m (known h s) → (nat_lt h t.count ≡ true) × Counts n (known h t)
  pub others : OthersKeep h s t

passes_keep : (h n : ℕ) (s t : State) → Keep s t → Passes h n n s t
passes_keep h n s t p = record { own = λ there c. (still there, counts_kept n (known h s) (known h t) (p.handlers h) c); others = λ k apart. p.handlers k }
  where
    still : nat_lt h s.count ≡ true → nat_lt h t.count ≡ true
    still there =
        let below = ltb-true h s.count there in
        let more = p.more in
        lt-ltb h t.count (omega (arith, below, more))

passes_then : (h m n l : ℕ) (s t u : State) → Passes h m n s t → Passes h n l t u → Passes h m l s u
passes_then h m n l s t u p q = record {
  own = λ there c. let now = p.own there c in q.own now.0 now.1;
  others = others_then h s t u p.others q.others;
}

pub known_there : (h : ℕ) (s : State) → nat_lt h s.count ≡ true → known h s ≡ s.handlers h
known_there h s there = ap (λ (b : Bool). if b then s.handlers h else new_handler) there

put_there : (h : ℕ) (x : Handler) (s : State) → nat_lt h s.count ≡ true → known h (put h x s) ≡ x
put_there h x s there = known_there h (put h x s) there ∙ ap (λ (b : Bool). if b then x else s.handlers h) (eq-eqb h h refl)

pub passes_put : (h m n : ℕ) (x : Handler) (s : State) → (Counts m (s.handlers h) → Counts n x) → Passes h m n s (put h x s)
passes_put h m n x s p = record {
  own = λ there c. (
    there,
    subst (λ (y : Handler). Counts n y) (sym (put_there h x s there)) (p (subst (λ (y : Handler). Counts m y) (known_there h s there) c)),
  );
  others = others_put h x s;
}

-- one that fails has failed
pub fails : (h : ℕ) (why : Cause) (s : State) → nat_lt h s.count ≡ true → (known h (fail h why s)).failure ≡ Some why
fails h why s there =
    ap (λ (x : Handler). x.failure) (known_there h (fail h why s) there)
    ∙ ended (ends_session release_at.Failure && is_handler h (s.rights.queue h)) (if h == h then fallen why (s.handlers h) else other)
    ∙ ap (λ (b : Bool). (if b then fallen why (s.handlers h) else other).failure) (eq-eqb h h refl)
  where
    other : Handler
    other = told (list_any (is_waited_by h) (requests_at (s.handlers h))) (s.handlers h)

    ended : (b : Bool) (x : Handler) → (session_ended b x).failure ≡ x.failure
    ended true x = refl
    ended false x = refl

-- and serves nothing that counts
passes_fail : (h m n : ℕ) (why : Cause) (s : State) → Passes h m n s (fail h why s)
passes_fail h m n why s = record {
  own = λ there c. (there, λ e. some_none why (sym (fails h why s there) ∙ e));
  others = λ k apart. (alike_keep s (fail h why s) (fail_alike h why s)).handlers k;
}

-- ---- a request ends

service_ended : (n : ℕ) (x : Handler) (v : Service) (vs : List Service) → x.services ≡ v ∷ vs → Counts n x → Counts (n - 1) (record x { stage = v.over; services = vs })
service_ended n x v vs is c e =
    let had = c e in
    let count : length (v ∷ vs) ≡ n = sym (ap (λ (us : List Service). length us) is) ∙ had.count in
    record { count = omega (arith, count); frames = (subst (λ (us : List Service). HasFrames x.stage us) is had.frames).1 }

ends_passes : (h n : ℕ) (v : Option Value) (ks : List ℕ) (refused : Bool) (services : List Service) (s : State) →
    (s.handlers h).services ≡ services → Passes h n (n - 1) s (ends h v ks refused services s)
ends_passes h n v ks refused [] s is = passes_fail h n (n - 1) cause.BadCode s
ends_passes h n v ks refused (e ∷ es) s is = by refused
  where
    x : Handler
    x = record (s.handlers h) { stage = e.over; services = es }

    then_alike : (y : Handler) (t : State) → KeepsServices x y → Alike (put h y s) t → Passes h n (n - 1) s t
    then_alike y t p a =
        passes_then h n (n - 1) (n - 1) s (put h y s) t
        (passes_put h n (n - 1) y s (λ c. counts_kept (n - 1) x y p (service_ended n (s.handlers h) e es is c)))
        (passes_keep h (n - 1) (put h y s) t (alike_keep (put h y s) t a))

    by : (b : Bool) → Passes h n (n - 1) s (ends_service b h v ks e x s)
    by false =
        let t : State = put h x s in
        let u : State = release release_at.Exit ks t in
        then_alike x (finish e.posted (Replied v) u) (keeps x)
        (alike_then t u (finish e.posted (Replied v) u) (release_alike release_at.Exit ks t) (finish_alike e.posted (Replied v) u))
    by true =
        let y : Handler = counted_refusal e.posted.request.is_waited x in
        let t : State = put h y s in
        let u : State = release release_at.Refusal ks t in
        then_alike y (finish e.posted Refused u) (refusal_keeps e.posted.request.is_waited x)
        (alike_then t u (finish e.posted Refused u) (release_alike release_at.Refusal ks t) (finish_alike e.posted Refused u))

-- ---- all that a turn asks

pub alike_passes : (h n : ℕ) (s t : State) → Alike s t → Passes h n n s t
alike_passes h n s t a = passes_keep h n s t (alike_keep s t a)

done_passes : (most h n : ℕ) (w : Want) (s : State) → Passes h n (left_after w n) s (done most h w s)
done_passes most h n want.Continue s = alike_passes h n s s (alike s)
done_passes most h n (want.Reserve ks) s =
    alike_passes h n s (done most h (want.Reserve ks) s)
    (put_alike h (record (s.handlers h) { stage = Reserves ks.items []; entry = ks.items }) s
    (staged (record (s.handlers h) { entry = ks.items }) (Reserves ks.items []) refl))
done_passes most h n (want.Post r) s = passes_keep h n s (done most h (want.Post r) s) (asks_keep h r.target.handler r false s)
done_passes most h n (want.Ask r passing) s = passes_keep h n s (done most h (want.Ask r passing) s) (asks_keep h r.target.handler r passing s)
done_passes most h n (want.Create class procedure actuals passing) s =
    passes_keep h n s (done most h (want.Create class procedure actuals passing) s) (creates_keep most h class procedure actuals passing s)
done_passes most h n (want.Release ks) s = alike_passes h n s (release release_at.Leave ks.items s) (release_alike release_at.Leave ks.items s)
done_passes most h n (want.Wait ks) s =
    let t : State = with_stage h (Reserves (s.handlers h).entry (mark_of (λ k. (s.handlers k).sessions) ks.items)) s in
    alike_passes h n s (release release_at.FalseWaitCondition ks.items t)
    (alike_then s t (release release_at.FalseWaitCondition ks.items t)
    (stage_alike h (Reserves (s.handlers h).entry (mark_of (λ k. (s.handlers k).sessions) ks.items)) s refl)
    (release_alike release_at.FalseWaitCondition ks.items t))
done_passes most h n (want.Done v ks refused) s = ends_passes h n v ks.items refused (s.handlers h).services s refl
done_passes most h n (want.Fail why) s = passes_fail h n n why s

pub done_if_passes : (b c : Bool) (most h n : ℕ) (w : Want) (s : State) → Passes h n (left_after w n) s (done_if b c most h w s)
done_if_passes true c most h n w s = passes_fail h n (left_after w n) cause.NotHeld s
done_if_passes false true most h n w s = done_passes most h n w s
done_if_passes false false most h n w s = passes_fail h n (left_after w n) cause.BadCode s
