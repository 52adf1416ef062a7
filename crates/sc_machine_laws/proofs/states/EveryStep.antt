-- Every step keeps what is consistent, provided and served.
use Rattle.std.proofs.Common.{◌≡◌, ⊎_elim, inl, inr, ℕ, List, [], ◌∷◌, Some, None, Bool, true, false, ◌==◌, ◌&&◌, refl, sym, ap, ◌∙◌, subst, arith, Option}
use Rattle.std.proofs.Math.Path.{fun_ext}
use Rattle.std.proofs.lemmas.Bool.{cases_eq, eq-eqb, or_cases, or_left, or_right, and_from}
use Rattle.std.proofs.lemmas.Bool.Decides.{nat_tests}
use Rattle.std.specs.Prelude.{if◌then◌else◌}
use Rattle.std.specs.List.{list_any}
use Rattle.sc_machine_laws.specs.states.World.{popped, Request, Frame, Answer, SupplierFailed, Handler, World, put, pop, finish, reply, replied, heard, passes, give_back_if, fail, told, ruined, is_waited_by, fallen, reservations, requests_of}
use Rattle.sc_machine_laws.specs.states.Steps.{answered, HasReleased, AnswersNobody, Step, Posts, Asks, AsksPassing, Takes, CallsBack, Enters, Answers, Reserves, Settles, Releases, Pops, Finishes, Fails}
use Rattle.sc_machine_laws.specs.states.Consistent.{IsOne, IsConsistent}
use Rattle.sc_machine_laws.specs.states.Provided.{IsProvided}
use Rattle.sc_machine_laws.specs.states.Served.{IsServed}
use Rattle.sc_machine_laws.proofs.states.Forms.{reply_heard, exit_plain, exit_passing, exit_unheard, Hears, IsDeaf, EndsFree, aim, open_to, told_if_open, fail_by_waits}
use Rattle.sc_machine_laws.proofs.states.Rights.{put-same, put-other}
use Rattle.sc_machine_laws.proofs.states.Waits.{true_false}
use Rattle.sc_machine_laws.proofs.states.FailureSteps.{failing_keeps}
use Rattle.sc_machine_laws.proofs.states.PostedRequests.{posting_keeps}
use Rattle.sc_machine_laws.proofs.states.PushedFrames.{taking_keeps, calling_back_keeps, entering_keeps}
use Rattle.sc_machine_laws.proofs.states.PoppedFrames.{popping_keeps, answering_keeps}
use Rattle.sc_machine_laws.proofs.states.PlainReplies.{exit_plain_keeps}
use Rattle.sc_machine_laws.proofs.states.UnheardReplies.{exit_unheard_keeps}
use Rattle.sc_machine_laws.proofs.states.PassingReplies.{exit_passing_keeps}
use Rattle.sc_machine_laws.proofs.states.Asks.{asking_keeps, asking_passing_keeps}
use Rattle.sc_machine_laws.proofs.states.Reservations.{reserving_keeps, relisting_keeps}
use Rattle.sc_machine_laws.proofs.states.ProvidedTurns.{posting_provided, taking_provided, calling_back_provided, entering_provided, popping_provided, answering_provided}
use Rattle.sc_machine_laws.proofs.states.ProvidedFails.{failing_provided}
use Rattle.sc_machine_laws.proofs.states.ProvidedAsks.{asking_provided, asking_passing_provided}
use Rattle.sc_machine_laws.proofs.states.ProvidedEnds.{exit_plain_provided, exit_passing_provided, exit_unheard_provided}
use Rattle.sc_machine_laws.proofs.states.ProvidedReserves.{settling_provided, reserving_provided, releasing_provided, releasing_all_keeps}
use Rattle.sc_machine_laws.proofs.states.Served.{failing_served, told_by_requests, told_by_waits}
use Rattle.sc_machine_laws.proofs.states.ServingSteps.{posting_served, taking_served, calling_back_served, entering_served, answering_served, settling_served, reserving_served, releasing_served, asking_served, asking_passing_served}
use Rattle.sc_machine_laws.proofs.states.ServingEnds.{popping_served, exit_plain_served, exit_passing_served, exit_unheard_served}

-- ---- the end of a request, case by case

put_itself : {X : Type 0} (p : ℕ) (f : ℕ → X) (x : X) → x ≡ f p → put p x f ≡ f
put_itself {X} p f x same = fun_ext (λ k. ⊎_elim
    (λ kp. ap (put p x f) kp ∙ put-same p x f ∙ same ∙ ap f (sym kp))
    (λ ne. put-other p x f k ne)
    (cases_eq k p))

not_none : {A : Type 0} (a : Answer) → Some a ≡ None → A
not_none a e = cc

-- Who has failed or has an answer stays as it is; who hasn't hears it.
reply_cases : (a : Answer) (h p : ℕ) (w : World) (P : World → Type 0) → (Hears h p w → P (reply_heard a p (pop h w)))
    → (IsDeaf h p w → P (pop h w)) → P (reply a p (pop h w))
reply_cases a h p w P hears deaf = by ((pop h w).handlers p).failed ((pop h w).handlers p).answer refl refl
  where
    unheard : replied a ((pop h w).handlers p) ≡ (pop h w).handlers p → reply a p (pop h w) ≡ pop h w
    unheard same = ap (λ f. record (pop h w) { handlers = f })
        (put_itself p (pop h w).handlers (replied a ((pop h w).handlers p)) same)

    hears_as : (b : Bool) (o : Option Answer) → ((pop h w).handlers p).failed ≡ b → ((pop h w).handlers p).answer ≡ o
        → replied a ((pop h w).handlers p) ≡ record ((pop h w).handlers p) { answer = heard a b o }
    hears_as b o dead had = ap (λ c. record
        ((pop h w).handlers p) { answer = heard a c ((pop h w).handlers p).answer }) dead ∙ ap
        (λ x. record ((pop h w).handlers p) { answer = heard a b x }) had

    kept : (o : Option Answer) → ((pop h w).handlers p).answer ≡ o → record ((pop h w).handlers p) { answer = o } ≡
        (pop h w).handlers p
    kept o had = ap (λ x. record ((pop h w).handlers p) { answer = x }) (sym had)

    by : (b : Bool) (o : Option Answer) → ((pop h w).handlers p).failed ≡ b → ((pop h w).handlers p).answer ≡ o → P
        (reply a p (pop h w))
    by true o dead had = subst P (sym (unheard (hears_as true o dead had ∙ kept o had))) (deaf (inl dead))
    by false (Some old) lives had = subst P
        (sym (unheard (hears_as false (Some old) lives had ∙ kept (Some old) had)))
        (deaf (inr (λ none. not_none old (sym had ∙ none))))
    by false None lives had = subst P
        (ap (λ g. record (pop h w) { handlers = put p g (pop h w).handlers }) (sym (hears_as false None lives had)))
        (hears (lives, had))

pub finish_cases : (a : Answer) (h : ℕ) (r : Request) (w : World) (P : World → Type 0)
    → (passes r ≡ false → Hears h r.poster w → P (exit_plain a h r.poster w))
    → (passes r ≡ true → Hears h r.poster w → P (exit_passing a h r.number r.poster w))
    → (passes r ≡ false → IsDeaf h r.poster w → P (pop h w))
    → (passes r ≡ true → IsDeaf h r.poster w → P (exit_unheard h r.number w)) → P (finish a h r w)
finish_cases a h r w P plain passing free unheard = by (passes r) refl
  where
    by : (b : Bool) → passes r ≡ b → P (give_back_if b r.number (reply a r.poster (pop h w)))
    by true so = reply_cases a h r.poster w (λ v. P (give_back_if true r.number v)) (passing so) (unheard so)
    by false so = reply_cases a h r.poster w (λ v. P (give_back_if false r.number v)) (plain so) (free so)

-- ---- a failure tells the same handlers either way

both : (a b : Bool) → (a && b) ≡ true → (a ≡ true) × (b ≡ true)
both true true e = (refl, refl)
both true false e = true_false (sym e)
both false b e = true_false (sym e)

awaited : (k : ℕ) (rs : List Request) → list_any (is_waited_by k) rs ≡ true → (r : Request) × IsOne r rs ×
    (r.waited ≡ true) × (r.poster ≡ k)
awaited k [] e = true_false (sym e)
awaited k (r ∷ rs) e = ⊎_elim
    (λ here. let b = both r.waited (r.poster == k) here in let is =
    b.1 in (r, inl refl, b.0, grind (arith, nat_tests)))
    (λ there. let q = awaited k rs there in (q.0, inr q.1, q.2, q.3))
    (or_cases (is_waited_by k r) (list_any (is_waited_by k) rs) e)

posted : (k : ℕ) (r : Request) (rs : List Request) → IsOne r rs → r.waited ≡ true → r.poster ≡ k → list_any
    (is_waited_by k) rs ≡ true
posted k r [] i waited is = absurd i
posted k r (q ∷ rs) (inl e) waited is =
    or_left (is_waited_by k q) (list_any (is_waited_by k) rs)
    (ap (is_waited_by k) e ∙ and_from r.waited (r.poster == k) waited (eq-eqb r.poster k is))
posted k r (q ∷ rs) (inr i) waited is = or_right (is_waited_by k q) (list_any (is_waited_by k) rs)
    (posted k r rs i waited is)

pub fails_alike : (h : ℕ) (w : World) → (w.handlers h).failed ≡ false → IsConsistent w → IsServed w
    → fail h w ≡ fail_by_waits h w
fails_alike h w lives fine served = λ i. record {
  handlers = fun_ext (λ k. ap (λ g. if k == h then ruined (w.handlers k) else g) (each k)) i;
  queue = λ k. fallen h (w.queue k);
  top = λ k. fallen h (w.top k);
  next = w.next;
  asks = w.asks;
}
  where
    is_told : Bool → Handler → Handler
    is_told b g = if b then record g { answer = Some SupplierFailed } else g

    -- whoever lives is told so
    alive : (g : Handler) → g.failed ≡ false → told true g ≡ record g { answer = Some SupplierFailed }
    alive g is = ap (λ b. record g { answer = if b then g.answer else Some SupplierFailed }) is

    dead : (g : Handler) → g.failed ≡ true → told true g ≡ g
    dead g is = ap (λ b. record g { answer = if b then g.answer else Some SupplierFailed }) is

    closed : (k : ℕ) → (w.handlers k).failed ≡ true → open_to h (w.handlers k) ≡ false
    closed k is = ap (λ t. aim h (if answered (w.handlers k).answer then popped t else t)) (fine.failures k is)
        ∙ nothing (answered (w.handlers k).answer)
      where
        nothing : (b : Bool) → aim h (if b then [] else []) ≡ false
        nothing true = refl
        nothing false = refl

    by : (k : ℕ) (a b c : Bool) → list_any (is_waited_by k) (requests_of (w.handlers h)) ≡ a → open_to h
        (w.handlers k) ≡ b → (w.handlers k).failed ≡ c
        → told a (w.handlers k) ≡ (if b then record (w.handlers k) { answer = Some SupplierFailed } else w.handlers k)
    by k false false c x y z = refl
    by k true true false x y z = alive (w.handlers k) z
    by k true false true x y z = dead (w.handlers k) z
    by k true true true x y z = true_false (sym y ∙ closed k z)
    by k true false false x y z =
        let r = awaited k (requests_of (w.handlers h)) x in
        true_false (sym (told_by_waits h w fine r.0 r.1 r.2 (ap (λ j. (w.handlers j).failed) r.3 ∙ z)) ∙ ap
        (λ j. open_to h (w.handlers j)) r.3 ∙ y)
    by k false true c x y z = ⊎_elim
        (λ is. ap (λ o. record (w.handlers k) { answer = o }) is)
        (λ r. true_false (sym (posted k r.0 (requests_of (w.handlers h)) r.1 r.2 r.3) ∙ x))
        (told_by_requests h w fine served lives k y)

    each : (k : ℕ) → told (list_any (is_waited_by k) (requests_of (w.handlers h))) (w.handlers k) ≡ told_if_open h
        (w.handlers k)
    each k = by k (list_any (is_waited_by k) (requests_of (w.handlers h))) (open_to h (w.handlers k))
        (w.handlers k).failed refl refl refl

-- ---- each step

answers_nobody : (h : ℕ) (o : Option Request) (w : World) → AnswersNobody o → EndsFree h o w
answers_nobody h None w is = tt
answers_nobody h (Some r) w is = inl is

has_released : (f : Frame) (fs gs : List Frame) → gs ≡ f ∷ fs → f.reserved ≡ [] → HasReleased gs
has_released f fs gs at none = subst HasReleased (sym at) none

pub consistent_kept : (w v : World) → Step w v → IsConsistent w → IsProvided w → IsServed w → IsConsistent v
consistent_kept w v (Posts h k active holds lives) fine provided served = posting_keeps h k w lives fine
consistent_kept w v (Asks h k may) fine provided served = asking_keeps h k w may fine
consistent_kept w v (AsksPassing h k may) fine provided served = asking_passing_keeps h k w may fine
consistent_kept w v (Takes h r rs alive idle first) fine provided served = taking_keeps h r rs w alive idle first fine
consistent_kept w v (CallsBack h r alive waits) fine provided served = calling_back_keeps h r w alive waits fine
consistent_kept w v (Enters h active) fine provided served = entering_keeps h w active fine
consistent_kept w v (Answers h x alive at over) fine provided served = answering_keeps h w alive over fine
consistent_kept w v (Reserves h k f fs active at idle) fine provided served = reserving_keeps h k w active idle fine
consistent_kept w v (Settles h f fs ks active at holds) fine provided served = relisting_keeps h
    (reservations (w.handlers h).stack) ks w.next w active (omega arith) fine
consistent_kept w v (Releases h r rs f fs active at its) fine provided served =
    releasing_all_keeps h r rs f fs w active at its provided fine
consistent_kept w v (Pops h f fs active at none free) fine provided served = popping_keeps h w active fine
consistent_kept w v (Finishes a h r reply ends released) fine provided served = finish_cases a h r w IsConsistent
    (λ plain hears. exit_plain_keeps a h r w reply ends plain hears.0 hears.1 fine)
    (λ passing hears. exit_passing_keeps a h r w reply ends passing hears.0 hears.1 fine)
    (λ plain deaf. popping_keeps h w ends.active fine)
    (λ passing deaf. exit_unheard_keeps h r w ends deaf fine)
consistent_kept w v (Fails h may) fine provided served = subst IsConsistent
    (sym (fails_alike h w may.lives fine served)) (failing_keeps h w may fine)

pub provided_kept : (w v : World) → Step w v → IsConsistent w → IsProvided w → IsServed w → IsProvided v
provided_kept w v (Posts h k active holds lives) fine provided served = posting_provided h k w lives fine provided
provided_kept w v (Asks h k may) fine provided served = asking_provided h k w may fine provided
provided_kept w v (AsksPassing h k may) fine provided served = asking_passing_provided h k w may fine provided
provided_kept w v (Takes h r rs alive idle first) fine provided served =
    taking_provided h r rs w alive idle first fine provided
provided_kept w v (CallsBack h r alive waits) fine provided served =
    calling_back_provided h r w alive waits fine provided
provided_kept w v (Enters h active) fine provided served = entering_provided h w active fine provided
provided_kept w v (Answers h x alive at over) fine provided served =
    answering_provided h w alive over x at fine provided
provided_kept w v (Reserves h k f fs active at idle) fine provided served =
    reserving_provided h k f fs w active at idle fine provided
provided_kept w v (Settles h f fs ks active at holds) fine provided served =
    settling_provided h f fs ks w active at holds fine provided
provided_kept w v (Releases h r rs f fs active at its) fine provided served =
    releasing_provided h r rs f fs w active at its fine provided
provided_kept w v (Pops h f fs active at none free) fine provided served = popping_provided h w active
    (has_released f fs (w.handlers h).stack at none) fine provided
provided_kept w v (Finishes a h r reply ends released) fine provided served = finish_cases a h r w IsProvided
    (λ plain hears. exit_plain_provided a h r w reply ends released plain hears.0 hears.1 fine provided)
    (λ passing hears. exit_passing_provided a h r w reply ends released passing hears.0 hears.1 fine provided)
    (λ plain deaf. popping_provided h w ends.active released fine provided)
    (λ passing deaf. exit_unheard_provided h r w ends released deaf fine provided)
provided_kept w v (Fails h may) fine provided served = subst IsProvided (sym (fails_alike h w may.lives fine served))
    (failing_provided h w may fine provided)

pub served_kept : (w v : World) → Step w v → IsConsistent w → IsProvided w → IsServed w → IsServed v
served_kept w v (Posts h k active holds lives) fine provided served = posting_served h k w lives fine served
served_kept w v (Asks h k may) fine provided served = asking_served h k w may fine served
served_kept w v (AsksPassing h k may) fine provided served = asking_passing_served h k w may fine served
served_kept w v (Takes h r rs alive idle first) fine provided served =
    taking_served h r rs w alive idle first fine served
served_kept w v (CallsBack h r alive waits) fine provided served = calling_back_served h r w alive waits fine served
served_kept w v (Enters h active) fine provided served = entering_served h w active fine served
served_kept w v (Answers h x alive at over) fine provided served = answering_served h w alive over fine served
served_kept w v (Reserves h k f fs active at idle) fine provided served = reserving_served h k w active fine served
served_kept w v (Settles h f fs ks active at holds) fine provided served = settling_served h ks w active fine served
served_kept w v (Releases h r rs f fs active at its) fine provided served =
    releasing_served h r.handler rs w active fine served
served_kept w v (Pops h f fs active at none free) fine provided served = popping_served h f fs w active at
    (answers_nobody h f.origin w free) fine served
served_kept w v (Finishes a h r reply ends released) fine provided served = finish_cases a h r w IsServed
    (λ plain hears. exit_plain_served a h r w reply ends plain hears.0 hears.1 fine served)
    (λ passing hears. exit_passing_served a h r w reply ends passing hears.0 hears.1 fine served)
    (λ plain deaf. popping_served h ends.frame ends.below w ends.active ends.stack
    (subst (λ o. EndsFree h o w) (sym ends.begun) (inr (plain, deaf))) fine served)
    (λ passing deaf. exit_unheard_served h r w ends passing deaf fine served)
served_kept w v (Fails h may) fine provided served = subst IsServed (sym (fails_alike h w may.lives fine served))
    (failing_served h w may served)
