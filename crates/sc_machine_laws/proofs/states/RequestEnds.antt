-- The end of a request: what was passed returns, and its poster is answered.
use Rattle.std.specs.Prelude.{◌==◌, if◌then◌else◌}
use Rattle.std.proofs.Common.{◌<◌, Bool, None, Option, Some, ap, false, refl, subst, sym, true, ℕ, ◌∙◌, ◌≡◌}
use Rattle.std.proofs.lemmas.Bool.{eqb-true}
use Rattle.sc_tree.specs.Plain.{System}
use Rattle.sc_rules.specs.Names.{RoutineName}
use Rattle.sc_lockpass.specs.Passing.{Passed, give_back}
use Rattle.sc_model.specs.Answers.{answer_to, answered, finish, heard, return_rights}
use Rattle.sc_model.specs.Handlers.{Answer, Handler, Refused, Reply, Request, World, put}
use Rattle.sc_model.specs.Values.{Value}
use Rattle.sc_model.specs.declared.cause.Cause.{Cause}
use Rattle.sc_machine_laws.specs.states.Fitting.{HandlerFits, ReplyFits, WorldFits}
use Rattle.sc_machine_laws.proofs.states.Remains.{ObjectsStay, handler_carried, objects_same, rights_keep_it, there_carried}
use Rattle.sc_machine_laws.proofs.states.Changes.{RestStays, put_at, reply_led, rest_same}
use Rattle.sc_machine_laws.proofs.states.Settled.{put_stays, replaced, there_stays}

-- A handler becomes one with its objects, frames, requests and replies.
pub kept_put : (s : System) (pure : RoutineName → Bool) (w : World) (h : ℕ) (x : Handler) → ObjectsStay (w.handlers h) x → RestStays (w.handlers h) x → WorldFits s pure w → WorldFits s pure (put h x w)
kept_put s pure w h x z y fits k l = handler_carried w (put h x w) refl (put_stays w h x z) s pure k (by (k == h) refl) (fits k l)
  where
    by : (b : Bool) → (k == h) ≡ b → RestStays (w.handlers k) ((put h x w).handlers k)
    by true e = subst (RestStays (w.handlers k)) (sym (ap (λ b. if b then x else w.handlers k) e)) (subst (λ j. RestStays (w.handlers j) x) (sym (eqb-true k h e)) y)
    by false e = subst (RestStays (w.handlers k)) (sym (ap (λ b. if b then x else w.handlers k) e)) (rest_same (w.handlers k))

pub rights_returned : (s : System) (pure : RoutineName → Bool) (w : World) (o : Option Passed) → WorldFits s pure w → WorldFits s pure (return_rights o w)
rights_returned s pure w None f = f
rights_returned s pure w (Some p) f = rights_keep_it s pure w (give_back p w.rights) f

-- Its request is refused: no reply comes.
refused_fits : (s : System) (pure : RoutineName → Bool) (w : World) (b : Bool) (p : Option ℕ) → WorldFits s pure w → WorldFits s pure (answer_to b p Refused w)
refused_fits s pure w false p f = f
refused_fits s pure w true None f = f
refused_fits s pure w true (Some p) f = kept_put s pure w p (answered Refused (w.handlers p)) (record { objects = refl; queue = λ i. refl })
    (record { stack = refl; requests = refl; replies = by (w.handlers p).failure (w.handlers p).answer }) f
  where
    by : (why : Option Cause) (old : Option Answer) (r : Option Value) → heard Refused why old ≡ Some (Reply r) → old ≡ Some (Reply r)
    by (Some why) old r e = e
    by None None r e = cc
    by None (Some old) r e = e

pub refusal_ends : (s : System) (pure : RoutineName → Bool) (w : World) (r : Request) → WorldFits s pure w → WorldFits s pure (finish r Refused w)
refusal_ends s pure w r f = refused_fits s pure (return_rights r.passed w) r.is_waited r.poster (rights_returned s pure w r.passed f)

-- ---- a reply

-- The poster has not failed, and has no answer yet: the reply fits there.
abbrev pub ReplyComes : System → World → ℕ → Option Value → Type 0
ReplyComes s w p v = p < w.count → (w.handlers p).failure ≡ None → (w.handlers p).answer ≡ None → ReplyFits s w p v

reply_put : (s : System) (pure : RoutineName → Bool) (w : World) (p : ℕ) (v : Option Value) → WorldFits s pure w → ReplyComes s w p v → WorldFits s pure (put p (answered (Reply v) (w.handlers p)) w)
reply_put s pure w p v fits comes k l = by (k == p) refl
  where
    stays : ObjectsStay (w.handlers p) (answered (Reply v) (w.handlers p))
    stays = record { objects = refl; queue = λ i. refl }

    carried : (u : Option Value) → ReplyFits s w p u → ReplyFits s (put p (answered (Reply v) (w.handlers p)) w) p u
    carried u f = reply_led w (put p (answered (Reply v) (w.handlers p)) w) (there_stays w p (answered (Reply v) (w.handlers p)) stays) s pure p
        (ap (λ (y : Handler). y.stack) (put_at w p (answered (Reply v) (w.handlers p)))) u f

    same : (u : Option Value) → Some (Reply v) ≡ Some (Reply u) → v ≡ u
    same u e = cc

    answers : p < w.count → (why : Option Cause) (old : Option Answer) → (w.handlers p).failure ≡ why → (w.handlers p).answer ≡ old → (u : Option Value) → heard (Reply v) why old ≡ Some (Reply u) →
        ReplyFits s (put p (answered (Reply v) (w.handlers p)) w) p u
    answers m (Some why) old i j u e = carried u ((fits p m).answer_fits u (j ∙ e))
    answers m None None i j u e = carried u (subst (ReplyFits s w p) (same u e) (comes m i j))
    answers m None (Some old) i j u e = carried u ((fits p m).answer_fits u (j ∙ e))

    whole : p < w.count → WorldFits s pure (put p (answered (Reply v) (w.handlers p)) w)
    whole m = replaced s pure w p (answered (Reply v) (w.handlers p)) stays (λ j n i. fits j n) (fits p m).objects_fit (fits p m).frames_fit (fits p m).frames_are_linked (fits p m).requests_fit
        (λ u e. answers m (w.handlers p).failure (w.handlers p).answer refl refl u e)

    by : (b : Bool) → (k == p) ≡ b → HandlerFits s pure (put p (answered (Reply v) (w.handlers p)) w) k
    by true e = whole (subst (λ j. j < w.count) (eqb-true k p e) l) k l
    by false e = handler_carried w (put p (answered (Reply v) (w.handlers p)) w) refl (put_stays w p (answered (Reply v) (w.handlers p)) stays) s pure k
        (subst (RestStays (w.handlers k)) (sym (ap (λ b. if b then answered (Reply v) (w.handlers p) else w.handlers k) e)) (rest_same (w.handlers k))) (fits k l)

-- The request ends with a reply that fits where it comes.
pub reply_ends : (s : System) (pure : RoutineName → Bool) (w : World) (r : Request) (v : Option Value) → WorldFits s pure w →
    ((p : ℕ) → r.is_waited ≡ true → r.poster ≡ Some p → ReplyComes s w p v) → WorldFits s pure (finish r (Reply v) w)
reply_ends s pure w r v fits comes = by r.is_waited r.poster refl refl
  where
    back : WorldFits s pure (return_rights r.passed w)
    back = rights_returned s pure w r.passed fits

    returned : (o : Option Passed) (p : ℕ) → ReplyComes s w p v → ReplyComes s (return_rights o w) p v
    returned None p f l i j = f l i j
    returned (Some q) p f l i j = reply_led w (record w { rights = give_back q w.rights }) (there_carried w (record w { rights = give_back q w.rights }) refl (λ k. objects_same (w.handlers k))) s pure p refl v (f l i j)

    by : (b : Bool) (o : Option ℕ) → r.is_waited ≡ b → r.poster ≡ o → WorldFits s pure (answer_to b o (Reply v) (return_rights r.passed w))
    by false o i j = back
    by true None i j = back
    by true (Some p) i j = reply_put s pure (return_rights r.passed w) p v back (returned r.passed p (comes p i j))
