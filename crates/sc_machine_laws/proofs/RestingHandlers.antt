-- Handlers that stay as they are, but for what has been answered.
use Rattle.std.proofs.Common.{◌≡◌, ◌≢◌, ◌⊎◌, ⊎_elim, inl, inr, ℕ, ◌≤◌, ◌&&◌, Bool, true, false, List, refl, sym, ap, ◌∙◌, subst, arith}
use Rattle.std.specs.Prelude.{is_some}
use Rattle.std.proofs.lemmas.Bool.{cases_eq}
use Rattle.sc_lockpass.specs.Rights.{is_among}
use Rattle.sc_lockpass.specs.wait_conditions.Reservations.{ends_session}
use Rattle.sc_lockpass.specs.declared.wait_conditions.session.Release.{Release}
use Rattle.sc_model.specs.declared.cause.Cause.{Cause}
use Rattle.sc_model.specs.Handlers.{Frame, Handler, World, put, with_stack}
use Rattle.sc_model.specs.Sessions.{session_ended, reserve, release}
use Rattle.sc_model.specs.Failures.{told, fallen}
use Rattle.sc_machine_laws.proofs.states.links.Looks.{m_put-own, m_put-off}

-- ---- handlers

-- the same, but for what has been answered
pub record Rests (x y : Handler) : Type 0 where
  pub objects : y.objects ≡ x.objects
  pub stack : y.stack ≡ x.stack
  pub failure : y.failure ≡ x.failure
  pub queue : y.queue ≡ x.queue
  pub callback : y.callback ≡ x.callback

pub rests_same : (x y : Handler) → y ≡ x → Rests x y
rests_same x y e = subst (Rests x) (sym e)
    (record { objects = refl; stack = refl; failure = refl; queue = refl; callback = refl })

pub rests_again : {x y z : Handler} → Rests x y → Rests y z → Rests x z
rests_again a b = record {
  objects = b.objects ∙ a.objects;
  stack = b.stack ∙ a.stack;
  failure = b.failure ∙ a.failure;
  queue = b.queue ∙ a.queue;
  callback = b.callback ∙ a.callback;
}

pub ended_rests : (b : Bool) (x : Handler) → Rests x (session_ended b x)
ended_rests true x = record { objects = refl; stack = refl; failure = refl; queue = refl; callback = refl }
ended_rests false x = rests_same x x refl

pub ended_answer : (b : Bool) (x : Handler) → (session_ended b x).answer ≡ x.answer
ended_answer true x = refl
ended_answer false x = refl

pub ended_queue : (b : Bool) (x : Handler) → (session_ended b x).queue ≡ x.queue
ended_queue b x = (ended_rests b x).queue

pub told_rests : (b : Bool) (x : Handler) → Rests x (told b x)
told_rests true x = record { objects = refl; stack = refl; failure = refl; queue = refl; callback = refl }
told_rests false x = rests_same x x refl

pub fallen_dead : (b : Bool) (why : Cause) (x : Handler) → is_some (session_ended b (fallen why x)).failure ≡ true
fallen_dead true why x = refl
fallen_dead false why x = refl

-- a handler that is put, where it is and where it isn't
pub put_at : (j k : ℕ) (f : Handler → Handler) (w : World)
    → ((k ≡ j) × ((put j (f (w.handlers j)) w).handlers k ≡ f (w.handlers k)))
    ⊎ ((put j (f (w.handlers j)) w).handlers k ≡ w.handlers k)
put_at j k f w = ⊎_elim
    (λ e. inl (
      e,
      ap (λ (i : ℕ). (put j (f (w.handlers j)) w).handlers i) e ∙ m_put-own j (f (w.handlers j)) w
          ∙ ap (λ (i : ℕ). f (w.handlers i)) (sym e),
    ))
    (λ ne. inr (m_put-off j (f (w.handlers j)) w k ne))
    (cases_eq k j)

pub put_queue : (j k : ℕ) (f : Handler → Handler) (w : World) → ((x : Handler) → (f x).queue ≡ x.queue)
    → ((put j (f (w.handlers j)) w).handlers k).queue ≡ (w.handlers k).queue
put_queue j k f w same = ⊎_elim
    (λ (a : (k ≡ j) × ((put j (f (w.handlers j)) w).handlers k ≡ f (w.handlers k))). ap (λ (x : Handler). x.queue) a.1
    ∙ same (w.handlers k))
    (λ e. ap (λ (x : Handler). x.queue) e)
    (put_at j k f w)

-- ---- what changes nothing else

module _ (g k : ℕ) (ne : k ≢ g) where
  pub record Same (w v : World) : Type 0 where
    pub rests : Rests (w.handlers k) (v.handlers k)
    pub answer : (v.handlers k).answer ≡ (w.handlers k).answer
    pub count : w.count ≤ v.count
    pub own : (v.handlers g).queue ≡ (w.handlers g).queue

  pub still : (w : World) → Same w w
  still w = record {
    rests = rests_same (w.handlers k) (w.handlers k) refl;
    answer = refl;
    count = omega arith;
    own = refl;
  }

  pub same_again : {u w v : World} → Same u w → Same w v → Same u v
  same_again a b = record {
    rests = rests_again a.rests b.rests;
    answer = b.answer ∙ a.answer;
    count = let l = a.count in let m = b.count in omega (arith, l, m);
    own = b.own ∙ a.own;
  }

  pub put_same : (x : Handler) (w : World) → x.queue ≡ (w.handlers g).queue → Same w (put g x w)
  put_same x w e = record {
    rests = rests_same (w.handlers k) ((put g x w).handlers k) (m_put-off g x w k ne);
    answer = ap (λ (y : Handler). y.answer) (m_put-off g x w k ne);
    count = omega arith;
    own = ap (λ (y : Handler). y.queue) (m_put-own g x w) ∙ e;
  }

  pub stack_same : (stack : List Frame) (w : World) → Same w (with_stack g stack w)
  stack_same stack w = put_same (record (w.handlers g) { stack = stack }) w refl

  pub release_same : (how : Release) (ks : List ℕ) (w : World) → Same w (release how ks w)
  release_same how ks w = record {
    rests = ended_rests (ends_session how && is_among k ks) (w.handlers k);
    answer = ended_answer (ends_session how && is_among k ks) (w.handlers k);
    count = omega arith;
    own = ended_queue (ends_session how && is_among g ks) (w.handlers g);
  }

  pub reserve_same : (ks : List ℕ) (w : World) → Same w (reserve g ks w)
  reserve_same ks w = record {
    rests = rests_same (w.handlers k) (w.handlers k) refl;
    answer = refl;
    count = omega arith;
    own = refl;
  }
