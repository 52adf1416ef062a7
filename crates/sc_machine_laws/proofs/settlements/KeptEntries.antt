-- What a settlement makes of the entries that handlers reserved for last.
use Rattle.std.proofs.Common.{ℕ, ◌≡◌, ◌==◌, ◌&&◌, ◌||◌, not, zero, suc, Bool, true, false, List, [], ◌∷◌, Option, Some, None, Contains, refl, sym, ap, subst, ◌∙◌, inl, inr, arith}
use Rattle.std.proofs.lemmas.Bool.{ne_eqb, eqb-true}
use Rattle.std.specs.Prelude.{if◌then◌else◌, is_some, length, nat_lt}
use Rattle.arrayvec.specs.ArrayVec.{ArrayVec}
use Rattle.sc_lockpass.specs.wait_conditions.Reservations.{mark_of}
use Rattle.sc_lockpass.specs.declared.wait_conditions.mark.Marked.{Marked}
use Rattle.sc_lockpass.specs.declared.wait_conditions.session.Release.{Release}
use Rattle.sc_lockpass.specs.declared.wait_conditions.session.Release.TheVariants as release_at
use Rattle.sc_model.specs.declared.cause.Cause.TheVariants as cause
use Rattle.sc_model.specs.Limits.{max_queue}
use Rattle.sc_region.specs.declared.value.Value.{Value}
use Rattle.sc_region.specs.declared.job.Job.{Job}
use Rattle.sc_region.specs.declared.job.Job.TheVariants as job
use Rattle.sc_region.specs.declared.job.Request.{Request}
use Rattle.sc_region.specs.declared.job.Want.{Want}
use Rattle.sc_region.specs.declared.job.Want.TheVariants as want
use Rattle.sc_handler.specs.Handlers.{Posted, posted, Replied, Refused, HandlerStage, Idle, Runs, HasMade, Reserves, Awaits, Service, Handler, State, new_handler, put, with_stage}
use Rattle.sc_handler.specs.Changes.{takes_next, takes_callback, takes, takes_answer, counted_refusal}
use Rattle.sc_handler.specs.Fits.{fits_turns}
use Rattle.sc_request.specs.Sessions.{release, passed_if, passes, send, is_callback, with_handler, finish, fail}
use Rattle.sc_request.specs.Settling.{made_at, begun, awaits_if, sends, asks_of, creation, creates_with, creates, ends_service, ends, done, posts_unheld, done_if, asked_in, may_ask}
use Rattle.sc_machine_laws.specs.settlements.Entries.{is_reserving, EntryStays, EntriesStay}
use Rattle.sc_machine_laws.proofs.settlements.SameEntries.{Keep, Kept, Stay, fail_stays, finish_same, if_stays, kept_same, of_kept, passes_same, plain, put_keeps, put_stays, refusal_same, release_same, same_keeps, send_same, served, staged, stay, stays_same, then_same, then_stay}

-- ---- the job begins

next_kept : (x : Handler) (queue : List Posted) → x.stage ≡ Idle → Kept x (takes_next queue x)
next_kept x [] e = kept_same x
next_kept x (p ∷ ps) e =
    let z = served (record x { queue = ps }) p Idle e refl in
    record { keeps = λ k. z.keeps (same_keeps x (record x { queue = ps }) (record { stage = refl; services = refl; entry = refl }) k); entry = refl }

callback_kept : (x : Handler) (callback : Option Posted) (i : ℕ) (c : Bool) → x.stage ≡ Awaits i c → Kept x (takes_callback callback x)
callback_kept x None i c e = kept_same x
callback_kept x (Some p) i c e =
    let z = served (record x { callback = None }) p (Awaits i c) e refl in
    record { keeps = λ k. z.keeps (same_keeps x (record x { callback = None }) (record { stage = refl; services = refl; entry = refl }) k); entry = refl }

takes_kept : (x : Handler) (stage : HandlerStage) → x.stage ≡ stage → Kept x (takes stage x)
takes_kept x Idle e = next_kept x x.queue e
takes_kept x (Awaits i c) e = callback_kept x x.callback i c e
takes_kept x Runs e = kept_same x
takes_kept x (HasMade i) e = kept_same x
takes_kept x (Reserves ks mark) e = kept_same x

answer_kept : (x : Handler) → Kept x (takes_answer x)
answer_kept x =
    let z = plain (record x { answer = None }) Runs refl in
    record { keeps = λ k. z.keeps (same_keeps x (record x { answer = None }) (record { stage = refl; services = refl; entry = refl }) k); entry = refl }

keep : (s : State) → Keep s s
keep s k = kept_same (s.handlers k)

kept_released : (how : Release) (ks : List ℕ) (s t : State) → Keep s t → Keep s (release how ks t)
kept_released how ks s t p k =
    let z = release_same how ks t k in
    record { keeps = λ c. same_keeps (t.handlers k) _ z ((p k).keeps c); entry = z.entry ∙ (p k).entry }

made_kept : (h : ℕ) (stage : HandlerStage) (s : State) → Keep s (made_at h stage s)
made_kept h (Awaits k c) s = kept_released release_at.Creation (k ∷ []) s (put h (takes_answer (s.handlers h)) s) (put_keeps h _ s (answer_kept (s.handlers h)))
made_kept h Idle s = staged h Runs s refl
made_kept h Runs s = staged h Runs s refl
made_kept h (HasMade k) s = staged h Runs s refl
made_kept h (Reserves ks mark) s = staged h Runs s refl

begun_kept : (h : ℕ) (j : Job) (s : State) → Keep s (begun h j s)
begun_kept h (job.Take r) s = put_keeps h _ s (takes_kept (s.handlers h) (s.handlers h).stage refl)
begun_kept h (job.Reply v) s = put_keeps h _ s (answer_kept (s.handlers h))
begun_kept h job.Failed s = keep s
begun_kept h job.Refused s = keep s
begun_kept h (job.Granted ks) s = staged h Runs s refl
begun_kept h (job.Made k) s = made_kept h (s.handlers h).stage s
begun_kept h job.Go s = keep s

-- ---- what a turn asks

entered : (x : Handler) (ks : List ℕ) → EntryStays x (record x { stage = Reserves ks []; entry = ks })
entered x ks = record { keeps = λ k. record { entered = λ js mark e. by js mark e; over = k.over }; stays = inr (inl refl) }
  where
    by : (js : List ℕ) (mark : List Marked) → Reserves ks [] ≡ Reserves js mark → ks ≡ js
    by js mark e = cc

again : (x : Handler) (mark : List Marked) → Kept x (record x { stage = Reserves x.entry mark })
again x mark = record { keeps = λ k. record { entered = λ js m e. by js m e; over = k.over }; entry = refl }
  where
    by : (js : List ℕ) (m : List Marked) → Reserves x.entry mark ≡ Reserves js m → x.entry ≡ js
    by js m e = cc

of_keep : (s t : State) → Keep s t → Stay s t
of_keep s t p k = of_kept (s.handlers k) (t.handlers k) (p k)

waits_kept : (b : Bool) (h k : ℕ) (s : State) → Keep s (awaits_if b h k s)
waits_kept true h k s = staged h (Awaits k false) s refl
waits_kept false h k s = keep s

sends_stay : (h k : ℕ) (r : Request) (passing waits : Bool) (s : State) → Stay s (sends h k r passing waits s)
sends_stay h k r passing waits s =
    let t : State = awaits_if waits h k s in
    let p : Posted = posted (record r { is_waited = waits }) (passed_if passing h s.rights) in
    let u : State = send (is_callback h k s) k p t in
    then_same s u (passes passing h k u) (then_same s t u (of_keep s t (waits_kept waits h k s)) (send_same (is_callback h k s) k p t)) (passes_same passing h k u)

asks_stay : (h k : ℕ) (r : Request) (passing : Bool) (s : State) → Stay s (asks_of h k r passing s)
asks_stay h k r passing s =
    let sent : State = sends h k r passing (passing || r.is_waited || is_callback h k s) s in
    let full : Bool = not (is_callback h k s) && not (nat_lt (length (s.handlers k).queue) max_queue) in
    if_stays (is_some (s.handlers k).failure) s (fail h cause.SupplierFailed s) (if full then fail h cause.QueueFull s else sent)
    (fail_stays h cause.SupplierFailed s)
    (if_stays full s (fail h cause.QueueFull s) sent (fail_stays h cause.QueueFull s)
    (sends_stay h k r passing (passing || r.is_waited || is_callback h k s) s))

-- the new handler has no frames; its creator is another
creator_stays : (h : ℕ) (stage : HandlerStage) (s : State) → (h ≡ s.count → ⊥) → is_reserving stage ≡ false → Stay s (with_stage h stage (with_handler s.count h s))
creator_stays h stage s apart e j = by (j == h) refl (j == s.count) refl
  where
    no : {A : Type 0} → false ≡ true → A
    no e = cc

    new_stays : (x : Handler) → EntryStays x new_handler
    new_stays x = record {
      keeps = λ k. record { entered = λ ks mark i. no (ap is_reserving i); over = λ v i. none v i };
      stays = inr (inr refl);
    }
      where
        none : (v : Service) → Contains [] v → (ks : List ℕ) (mark : List Marked) → v.over ≡ Reserves ks mark → ⊥
        none v (i, l, e) ks mark j = omega (arith, l)

    own : (with_handler s.count h s).handlers h ≡ s.handlers h
    own = ap (λ (b : Bool). if b then new_handler else s.handlers h) (ne_eqb h s.count apart)

    by : (b : Bool) → (j == h) ≡ b → (c : Bool) → (j == s.count) ≡ c →
        EntryStays (s.handlers j) (if b then record ((with_handler s.count h s).handlers h) { stage = stage } else (if c then new_handler else s.handlers j))
    by true i c k =
        subst (λ (m : ℕ). EntryStays (s.handlers m) (record ((with_handler s.count h s).handlers h) { stage = stage })) (sym (eqb-true j h i))
        (subst (λ (x : Handler). EntryStays (s.handlers h) (record x { stage = stage })) (sym own) (of_kept (s.handlers h) _ (plain (s.handlers h) stage e)))
    by false i true k = new_stays (s.handlers j)
    by false i false k = of_kept (s.handlers j) (s.handlers j) (kept_same (s.handlers j))

creates_stay : (most h class : ℕ) (procedure : Option ℕ) (actuals : ArrayVec Value) (passing : Bool) (s : State) → (h ≡ s.count → ⊥) →
    Stay s (creates most h class procedure actuals passing s)
creates_stay most h class procedure actuals passing s apart =
    if_stays (nat_lt s.count most) s
    (creates_with passing h s.count (creation h s.count class procedure actuals passing) (with_handler s.count h s))
    (fail h cause.TooManyHandlers s) (by passing (creation h s.count class procedure actuals passing)) (fail_stays h cause.TooManyHandlers s)
  where
    by : (b : Bool) (r : Request) → Stay s (creates_with b h s.count r (with_handler s.count h s))
    by true r =
        let t : State = with_stage h (Awaits s.count true) (with_handler s.count h s) in
        let p : Posted = posted r (passed_if true h (with_handler s.count h s).rights) in
        then_same s (send false s.count p t) (passes true h s.count (send false s.count p t)) (then_same s t (send false s.count p t) (creator_stays h (Awaits s.count true) s apart refl) (send_same false s.count p t))
        (passes_same true h s.count (send false s.count p t))
    by false r =
        let t : State = with_stage h (HasMade s.count) (with_handler s.count h s) in
        then_same s (send false s.count (posted r None) t) (release release_at.Creation (s.count ∷ []) (send false s.count (posted r None) t))
        (then_same s t (send false s.count (posted r None) t) (creator_stays h (HasMade s.count) s apart refl) (send_same false s.count (posted r None) t))
        (release_same release_at.Creation (s.count ∷ []) (send false s.count (posted r None) t))

-- a request that was served ends
ended : (x : Handler) (e : Service) (es : List Service) → x.services ≡ e ∷ es → Kept x (record x { stage = e.over; services = es })
ended x e es is = record {
  keeps = λ k. record {
    entered = λ ks mark i. absurd (k.over e (subst (λ (vs : List Service). Contains vs e) (sym is) (zero, omega arith, refl)) ks mark i);
    over = λ v i. k.over v (subst (λ (vs : List Service). Contains vs v) (sym is) (suc i.0, omega (arith, i.1), i.2));
  };
  entry = refl;
}

ends_stay : (h : ℕ) (v : Option Value) (ks : List ℕ) (refused : Bool) (services : List Service) (s : State) → (s.handlers h).services ≡ services →
    Stay s (ends h v ks refused services s)
ends_stay h v ks refused [] s is = fail_stays h cause.BadCode s
ends_stay h v ks refused (e ∷ es) s is = by refused
  where
    left : Handler
    left = record (s.handlers h) { stage = e.over; services = es }

    by : (b : Bool) → Stay s (ends_service b h v ks e left s)
    by false =
        let t : State = put h left s in
        then_same s (release release_at.Exit ks t) (finish e.posted (Replied v) (release release_at.Exit ks t))
        (then_same s t (release release_at.Exit ks t) (put_stays h left s (of_kept (s.handlers h) left (ended (s.handlers h) e es is))) (release_same release_at.Exit ks t))
        (finish_same e.posted (Replied v) (release release_at.Exit ks t))
    by true =
        let y : Handler = counted_refusal e.posted.request.is_waited left in
        let t : State = put h y s in
        then_same s (release release_at.Refusal ks t) (finish e.posted Refused (release release_at.Refusal ks t))
        (then_same s t (release release_at.Refusal ks t) (put_stays h y s (stays_same (s.handlers h) left y (of_kept (s.handlers h) left (ended (s.handlers h) e es is))
        (refusal_same e.posted.request.is_waited left)))
        (release_same release_at.Refusal ks t))
        (finish_same e.posted Refused (release release_at.Refusal ks t))

done_stays : (most h : ℕ) (asks : Want) (s : State) → (h ≡ s.count → ⊥) → Stay s (done most h asks s)
done_stays most h want.Continue s apart = stay s
done_stays most h (want.Reserve ks) s apart = put_stays h (record (s.handlers h) { stage = Reserves ks.items []; entry = ks.items }) s (entered (s.handlers h) ks.items)
done_stays most h (want.Post r) s apart = asks_stay h r.target.handler r false s
done_stays most h (want.Ask r passing) s apart = asks_stay h r.target.handler r passing s
done_stays most h (want.Create class procedure actuals passing) s apart = creates_stay most h class procedure actuals passing s apart
done_stays most h (want.Release ks) s apart = then_same s s (release release_at.Leave ks.items s) (stay s) (release_same release_at.Leave ks.items s)
done_stays most h (want.Wait ks) s apart =
    let mark = mark_of (λ k. (s.handlers k).sessions) ks.items in
    let t : State = with_stage h (Reserves (s.handlers h).entry mark) s in
    of_keep s (release release_at.FalseWaitCondition ks.items t) (kept_released release_at.FalseWaitCondition ks.items s t
    (put_keeps h (record (s.handlers h) { stage = Reserves (s.handlers h).entry mark }) s (again (s.handlers h) mark)))
done_stays most h (want.Done v ks refused) s apart = ends_stay h v ks.items refused (s.handlers h).services s refl
done_stays most h (want.Fail why) s apart = fail_stays h why s

done_if_stays : (b c : Bool) (most h : ℕ) (asks : Want) (s : State) → (h ≡ s.count → ⊥) → Stay s (done_if b c most h asks s)
done_if_stays true c most h asks s apart = fail_stays h cause.NotHeld s
done_if_stays false true most h asks s apart = done_stays most h asks s apart
done_if_stays false false most h asks s apart = fail_stays h cause.BadCode s

-- the job's begin leaves the number of handlers
begun_count : (h : ℕ) (j : Job) (s : State) → (begun h j s).count ≡ s.count
begun_count h (job.Take r) s = refl
begun_count h (job.Reply v) s = refl
begun_count h job.Failed s = refl
begun_count h job.Refused s = refl
begun_count h (job.Granted ks) s = refl
begun_count h (job.Made k) s = by (s.handlers h).stage
  where
    by : (stage : HandlerStage) → (made_at h stage s).count ≡ s.count
    by (Awaits k c) = refl
    by Idle = refl
    by Runs = refl
    by (HasMade k) = refl
    by (Reserves ks mark) = refl
begun_count h job.Go s = refl

pub entries_stay : EntriesStay
entries_stay most h turns j asks s apart =
    let t : State = begun h j s in
    let fits : Bool = fits_turns turns (s.handlers h).stage j asks in
    then_stay s t (asked_in fits most h asks t) (begun_kept h j s)
    (done_if_stays (posts_unheld h asks t) (fits && may_ask h asks t) most h asks t (λ same. apart (same ∙ begun_count h j s)))
