-- An ask keeps all: without and with passing, to a queue or as a callback.
use Rattle.std.proofs.Common.{◌≡◌, ◌≢◌, ◌⊎◌, ⊎_elim, inl, inr, ℕ, suc, ◌<◌, ◌≤◌, List, [], ◌∷◌, Bool, Some, is_some, true, false, ◌==◌, refl, sym, ap, ◌∙◌, subst, arith}
use Rattle.std.proofs.lemmas.Bool.{eq-eqb, cases_eq}
use Rattle.std.proofs.lemmas.Bool.Decides.{nat_tests}
use Rattle.std.specs.Prelude.{if◌then◌else◌}
use Rattle.sc_machine_laws.specs.states.World.{Grant, Frame, Handler, World, holder, passed_if, has, passed_on, request, ask, ask_passing, requests_of}
use Rattle.sc_machine_laws.specs.states.Steps.{answered, MayAsk}
use Rattle.sc_machine_laws.specs.states.Consistent.{IsAway, Asks, IsFirst, HasWait, HasGrant, Lends, Nobody, IsTrail, IsBased, HadBefore, HasNumber, IsConsistent}
use Rattle.sc_machine_laws.proofs.states.Rights.{differs}
use Rattle.sc_machine_laws.proofs.states.Waits.{true_false, waits_stack}
use Rattle.sc_machine_laws.proofs.states.Simple.{trail_move, based_move, asks_later}
use Rattle.sc_machine_laws.proofs.states.PostedRequests.{idle_asks, idle_away, not_numbered}
use Rattle.sc_machine_laws.proofs.states.Arrivals.{Lands, CallsBack, landing_keeps}
use Rattle.sc_machine_laws.proofs.states.Posters.{new_wait, began, Moves, began_off, began_failed, began_requests, more_has, at_new, has_new, began_asks, began_on, beginning_keeps}

has_first : (h : ℕ) (t : List Grant) → has h t ≡ true → (i : ℕ) × IsFirst h i t
has_first h [] e = true_false (sym e)
has_first h (d ∷ t) e = (d.number, (grind (arith, nat_tests), refl))

first_has : (h i : ℕ) (t : List Grant) → IsFirst h i t → has h t ≡ true
first_has h i [] f = absurd f
first_has h i (d ∷ t) f = eq-eqb d.holder h f.0

pub first_grant : (x n : ℕ) (t : List Grant) → IsFirst x n t → HasGrant x n t
first_grant x n [] i = i
first_grant x n (e ∷ t) i = inl i

-- two first ones are one
one_first : (x i y j : ℕ) (t : List Grant) → IsFirst x i t → IsFirst y j t → (x ≡ y) × (i ≡ j)
one_first x i y j [] f g = absurd f
one_first x i y j (e ∷ t) f g = (sym f.0 ∙ g.0, sym f.1 ∙ g.1)

passed_grant : (h x m : ℕ) (e : Grant) (t : List Grant) → HasGrant x m (passed_on h e t)
    → ((e.holder ≡ x) × (e.number ≡ m)) ⊎ HasGrant x m t
passed_grant h x m e t i = by (has h t) i
  where
    by : (b : Bool) → HasGrant x m (if b then e ∷ t else t) → ((e.holder ≡ x) × (e.number ≡ m)) ⊎ HasGrant x m t
    by true o = o
    by false o = inr o

passed_has : (h x m : ℕ) (e : Grant) (t : List Grant) → HasGrant x m t → HasGrant x m (passed_on h e t)
passed_has h x m e t i = elim (has h t) as (λ b. HasGrant x m (if b then e ∷ t else t)) [ true ↦ inr i | false ↦ i ]

passed_had : (h p n : ℕ) (e : Grant) (t : List Grant) → n ≤ e.number → HadBefore p n t → HadBefore p n
    (passed_on h e t)
passed_had h p n e t le i = elim (has h t) as
    (λ b. HadBefore p n (if b then e ∷ t else t)) [ true ↦ inr (le, i) | false ↦ i ]

passed_first : (h x i : ℕ) (e : Grant) (t : List Grant) → IsFirst x i (passed_on h e t)
    → ((has h t ≡ true) × (e.holder ≡ x)) ⊎ ((has h t ≡ false) × IsFirst x i t)
passed_first h x i e t f = by (has h t) refl f
  where
    by : (b : Bool) → has h t ≡ b → IsFirst x i (if b then e ∷ t else t) → ((has h t ≡ true) × (e.holder ≡ x)) ⊎
        ((has h t ≡ false) × IsFirst x i t)
    by true so g = inl (so, g.0)
    by false so g = inr (so, g)

-- one more grant
trail_more : (v : World) (M : ℕ → ℕ → ℕ → Type 0) (e : Grant) (t : List Grant)
    → ((x i : ℕ) → IsFirst x i t → HasWait e.number (v.handlers x).stack ⊎
    (M x i e.number ⊎ ((v.handlers x).failed ≡ true))) → ((x n : ℕ) → HasGrant x n t → n < e.number) → IsTrail v M t
    → IsTrail v M (e ∷ t)
trail_more v M e [] over old is = tt
trail_more v M e (d ∷ t) over old is =
    (over d.holder d.number (refl, refl), old d.holder d.number (inl (refl, refl)), is)

trail_passed : (v : World) (M : ℕ → ℕ → ℕ → Type 0) (h : ℕ) (e : Grant) (t : List Grant) → HasWait e.number
    (v.handlers h).stack → ((x n : ℕ) → HasGrant x n t → n < e.number) → IsTrail v M t → IsTrail v M (passed_on h e t)
trail_passed v M h e t new old is = by (has h t) refl
  where
    by : (b : Bool) → has h t ≡ b → IsTrail v M (if b then e ∷ t else t)
    by true so = trail_more v M e t
        (λ x i first. let f = has_first h t so in inl
        (subst (λ y. HasWait e.number (v.handlers y).stack) (one_first h f.0 x i t f.1 first).0 new)) old is
    by false so = is

based_more : (fs : List Frame) (e : Grant) (t : List Grant) → HasWait e.number fs → IsBased fs t → IsBased fs (e ∷ t)
based_more fs e [] new is = new
based_more fs e (d ∷ t) new is = is

based_passed : (fs : List Frame) (h : ℕ) (e : Grant) (t : List Grant) → IsBased fs t → IsBased fs (passed_on h e t)
based_passed fs h e [] is = is
based_passed fs h e (d ∷ t) is = elim (d.holder == h) as
    (λ b. IsBased fs (if b then e ∷ d ∷ t else d ∷ t)) [ true ↦ is | false ↦ is ]

abbrev new_entry : ℕ → World → Grant
new_entry k w = record { holder = k; number = w.next }

-- trails of top as handlers change
lends_on : (h k : ℕ) (b : Bool) (q t : ℕ → List Grant) (w : World) → MayAsk h k w → IsConsistent w → (j x lo m : ℕ)
    → Lends w j x lo m → Lends (began h k b q t w) j x lo m
lends_on h k b q t w may fine j x lo m l = (
  began_asks h k b q t w may fine x j lo m l.0,
  ⊎_elim (λ has. inl (more_has h k b q t w may j m has))
      (λ f. inr (began_failed h k b q t w may j ∙ f)) l.1,
)

queue_on : (h k : ℕ) (b : Bool) (q t : ℕ → List Grant) (w : World) → MayAsk h k w → IsConsistent w → (j : ℕ) → IsTrail
    (began h k b q t w) Nobody (w.queue j)
queue_on h k b q t w may fine j = trail_move w (began h k b q t w) Nobody Nobody (w.queue j)
    (λ d x m i has. more_has h k b q t w may d m has) (λ x lo y m i l. l) (λ x f. began_failed h k b q t w may x ∙ f)
    (fine.queue_trails j)

top_on : (h k : ℕ) (b : Bool) (q t : ℕ → List Grant) (w : World) → MayAsk h k w → IsConsistent w → (j : ℕ) → IsTrail
    (began h k b q t w) (Lends (began h k b q t w) j) (w.top j)
top_on h k b q t w may fine j = trail_move w (began h k b q t w) (Lends w j) (Lends (began h k b q t w) j) (w.top j)
    (λ d x m i has. more_has h k b q t w may d m has) (λ x lo y m i l. lends_on h k b q t w may fine j x lo m l)
    (λ x f. began_failed h k b q t w may x ∙ f) (fine.top_trails j)

based_on : (h k : ℕ) (b : Bool) (q t : ℕ → List Grant) (w : World) → MayAsk h k w → IsConsistent w → (j : ℕ)
    → ((began h k b q t w).handlers j).failed ≡ false → IsBased ((began h k b q t w).handlers j).stack (w.top j)
based_on h k b q t w may fine j alive = based_move (w.handlers j).stack ((began h k b q t w).handlers j).stack
    (w.top j) (λ x m i has. more_has h k b q t w may j m has)
    (fine.based j (sym (began_failed h k b q t w may j) ∙ alive))

-- who else has top (j), as before
tops_on : (h k : ℕ) (b : Bool) (q t : ℕ → List Grant) (w : World) → MayAsk h k w → IsConsistent w → (j x i : ℕ)
    → IsFirst x i (w.top j) → x ≢ j → ((began h k b q t w).handlers j).failed ≡ false
    → IsAway ((began h k b q t w).handlers j) ⊎
    (Asks ((began h k b q t w).handlers x) j i (suc w.next) ⊎ (((began h k b q t w).handlers x).failed ≡ true))
tops_on h k b q t w may fine j x i first ne alive = ⊎_elim
    (λ away. inl (subst IsAway (sym
    (began_off h k b q t w may j (λ jh. idle_away (w.handlers h) may.active
    (subst (λ y. IsAway (w.handlers y)) jh away)))) away))
    (λ o. inr (⊎_elim
    (λ a. inl (asks_later ((began h k b q t w).handlers x) j i w.next (suc w.next) (omega arith)
    (began_asks h k b q t w may fine x j i w.next a)))
    (λ f. inr (began_failed h k b q t w may x ∙ f))
    o))
    (fine.tops j x i first ne (sym (began_failed h k b q t w may j) ∙ alive))

pub plain_moves : (h k : ℕ) (w : World) → MayAsk h k w → IsConsistent w → Moves w
    (began h k false w.queue w.top w) h k false
plain_moves h k w may fine = record {
  tops = tops_on h k false w.queue w.top w may fine;
  queue_trails = queue_on h k false w.queue w.top w may fine;
  top_trails = top_on h k false w.queue w.top w may fine;
  based = based_on h k false w.queue w.top w may fine;
  queue_new = λ j x m i. inr i;
  top_new = λ j x m i. inr i;
  top_has = λ j x m i. i;
  had_queue = λ p n j le i. i;
  had_top = λ p n j le i. i;
  own_new = λ e. true_false (sym e);
}

pub first_had : (x i n : ℕ) (t : List Grant) → IsFirst x i t → i < n → HadBefore x n t
first_had x i n [] f lt = absurd f
first_had x i n (e ∷ t) f lt = inl (f.0, let e = f.1 in omega (arith, e, lt))

pub holder_first : (h : ℕ) (t : List Grant) → holder t ≡ Some h → (i : ℕ) × IsFirst h i t
holder_first h [] e = cc
holder_first h (d ∷ t) e = let is : d.holder ≡ h = cc in (d.number, (is, refl))

passing_as : (h : ℕ) (b : Bool) (w : World) → b ≡ is_some (passed_if b h w)
passing_as h true w = refl
passing_as h false w = refl

-- the right under which h asks
asked_under : (h k : ℕ) (w : World) → MayAsk h k w → IsConsistent w → HadBefore h w.next (w.queue k)
    ⊎ HadBefore h w.next (w.top k)
asked_under h k w may fine = ⊎_elim
    (λ held. let a = holder_first h (w.queue k) held in inl
    (first_had h a.0 w.next (w.queue k) a.1 (fine.queue_old k h a.0 (first_grant h a.0 (w.queue k) a.1))))
    (λ held. let a = holder_first h (w.top k) held in inr
    (first_had h a.0 w.next (w.top k) a.1 (fine.top_old k h a.0 (first_grant h a.0 (w.top k) a.1))))
    may.right

pub lands : (h k : ℕ) (b : Bool) (q t : ℕ → List Grant) (w : World) → MayAsk h k w → IsConsistent w → Lands k
    (request h b w) (began h k b q t w)
lands h k b q t w may fine = record {
  lives = began_failed h k b q t w may k ∙ may.lives;
  posted = (
    (λ e. may.other (sym e)),
    (
      new_wait k b w,
      (
        waits_stack ((began h k b q t w).handlers h).stack (new_wait k b w)
            (at_new h k b q t w may),
        inl (ap (λ (g : Handler). answered g.answer) (began_on h k b q t w may) ∙
            (fine.clear h may.active).0),
      ),
      refl,
      refl,
      passing_as h b w,
      refl,
    ),
  );
  old = omega arith;
  once = λ i. not_numbered w.next w.next (requests_of (w.handlers k)) (fine.numbered k) (omega arith)
      (subst (HasNumber w.next) (began_requests h k b q t w may k) i);
}

-- k stands where it has passed, where h has top (k)
k_away : (h k : ℕ) (w : World) → MayAsk h k w → IsConsistent w → has h (w.top k) ≡ true → IsAway (w.handlers k)
k_away h k w may fine so =
    let f = has_first h (w.top k) so in
    ⊎_elim
    (λ away. away)
    (λ o. ⊎_elim (λ a. idle_asks (w.handlers h) k f.0 w.next may.active a) (λ b. true_false (sym b ∙ may.active.0)) o)
    (fine.tops k h f.0 f.1 (λ e. may.other (sym e)) may.lives)

calls_back : (h k : ℕ) (b : Bool) (q t : ℕ → List Grant) (w : World) (may : MayAsk h k w) → IsConsistent w → has h
    (w.top k) ≡ true
    → ((x i : ℕ) → IsFirst x i (t k) → x ≢ k → Asks ((began h k b q t w).handlers x) k i (suc w.next) ⊎
    (((began h k b q t w).handlers x).failed ≡ true)) → CallsBack k (request h b w) (began h k b q t w)
calls_back h k b q t w may fine so all = record {
  away = subst IsAway (sym (began_off h k b q t w may k may.other)) (k_away h k w may fine so);
  older = λ m has. fine.waits_old k m (subst (λ g. HasWait m g.stack) (began_off h k b q t w may k may.other) has);
  all = all;
}

pub plain_calls : (h k : ℕ) (w : World) → MayAsk h k w → IsConsistent w → has h (w.top k) ≡ true → CallsBack k
    (request h false w) (began h k false w.queue w.top w)
plain_calls h k w may fine so =
    let v = began h k false w.queue w.top w in
    calls_back h k false w.queue w.top w may fine so (λ x i first ne.
    let f = has_first h (w.top k) so in
    let same = one_first h f.0 x i (w.top k) f.1 first in
    inl (subst (λ y. Asks (v.handlers y) k i (suc w.next)) same.0 (record {
      for = new_wait k false w;
      waits = at_new h k false w.queue w.top w may;
      target = refl;
      keeps = refl;
      unanswered = ap (λ (g : Handler). answered g.answer) (began_on h k false w.queue w.top w may) ∙
          (fine.clear h may.active).0;
      after = fine.top_old k x i (first_grant x i (w.top k) first);
      before = omega arith;
    })))

pub plain_began : (h k : ℕ) (w : World) → MayAsk h k w → IsConsistent w → IsConsistent
    (began h k false w.queue w.top w)
plain_began h k w may fine = beginning_keeps h k false w.queue w.top w may fine (plain_moves h k w may fine)
    (asked_under h k w may fine)

pub asking_keeps : (h k : ℕ) (w : World) → MayAsk h k w → IsConsistent w → IsConsistent (ask h k w)
asking_keeps h k w may fine =
    landing_keeps (has h (w.top k)) k (request h false w) (began h k false w.queue w.top w)
    (lands h k false w.queue w.top w may fine) (plain_calls h k w may fine) (plain_began h k w may fine)

abbrev pub passing_queue : ℕ → ℕ → World → ℕ → List Grant
passing_queue h k w j = passed_on h (record { holder = k; number = w.next }) (w.queue j)

abbrev pub passing_top : ℕ → ℕ → World → ℕ → List Grant
passing_top h k w j = if j == h then record { holder = k; number = w.next } ∷ w.top j else passed_on h
    (record { holder = k; number = w.next }) (w.top j)

-- h's own top, and those of others
pub by_top : (P : List Grant → Type 0) (h k : ℕ) (w : World) (j : ℕ)
    → (j ≡ h → P (record { holder = k; number = w.next } ∷ w.top j))
    → (j ≢ h → P (passed_on h (record { holder = k; number = w.next }) (w.top j))) → P (passing_top h k w j)
by_top P h k w j here there = ⊎_elim
    (λ jh. subst (λ (b : Bool). P (if b then record { holder = k; number = w.next } ∷ w.top j else passed_on h
    (record { holder = k; number = w.next }) (w.top j))) (sym (eq-eqb j h jh)) (here jh))
    (λ nh. subst (λ (b : Bool). P (if b then record { holder = k; number = w.next } ∷ w.top j else passed_on h
    (record { holder = k; number = w.next }) (w.top j))) (sym (differs j h nh)) (there nh))
    (cases_eq j h)

away_now : (h k : ℕ) (q t : ℕ → List Grant) (w : World) → MayAsk h k w → IsConsistent w → IsAway
    ((began h k true q t w).handlers h)
away_now h k q t w may fine =
    let c = fine.clear h may.active in
    record {
      for = new_wait k true w;
      waits = at_new h k true q t w may;
      passing = refl;
      unanswered = ap (λ (g : Handler). answered g.answer) (began_on h k true q t w may) ∙ c.0;
      no_callback = ap (λ (g : Handler). g.callback) (began_on h k true q t w may) ∙ c.1;
    }

pub passing_moves : (h k : ℕ) (w : World) → MayAsk h k w → IsConsistent w → Moves w
    (began h k true (passing_queue h k w) (passing_top h k w) w) h k true
passing_moves h k w may fine =
    let q = passing_queue h k w in
    let t = passing_top h k w in
    let v = began h k true q t w in
    let e : Grant = record { holder = k; number = w.next } in
    record {
      tops = λ j x i first ne alive. ⊎_elim
          (λ jh. inl (subst (λ y. IsAway (v.handlers y)) (sym jh) (away_now h k q t w may fine)))
          (λ nh.
          let now : IsFirst x i (passed_on h e (w.top j)) = subst
          (λ (b : Bool). IsFirst x i (if b then e ∷ w.top j else passed_on h e (w.top j)))
          (differs j h nh) first in
          ⊎_elim
          (λ was.
          let f = has_first h (w.top j) was.0 in
          ⊎_elim
          (λ away. inl (subst IsAway (sym (began_off h k true q t w may j nh)) away))
          (λ o. ⊎_elim (λ a. idle_asks (w.handlers h) j f.0 w.next may.active a)
          (λ b. true_false (sym b ∙ may.active.0)) o)
          (fine.tops j h f.0 f.1 (λ hj. nh (sym hj)) (sym (began_failed h k true q t w may j) ∙ alive)))
          (λ was. tops_on h k true q t w may fine j x i was.1 ne alive)
          (passed_first h x i e (w.top j) now))
          (cases_eq j h);
      queue_trails = λ j. trail_passed v Nobody h e (w.queue j) (has_new h k true q t w may) (fine.queue_old j)
          (queue_on h k true q t w may fine j);
      top_trails = λ j. by_top (IsTrail v (Lends v j)) h k w j
          (λ jh. trail_more v (Lends v j) e (w.top j)
          (λ x i first. ⊎_elim
          (λ xh. inl (subst (λ y. HasWait w.next (v.handlers y).stack) (sym xh) (has_new h k true q t w may)))
          (λ nx. inr (⊎_elim
          (λ away. idle_away (w.handlers h) may.active (subst (λ y. IsAway (w.handlers y)) jh away))
          (λ o. ⊎_elim
          (λ a. inl (
            began_asks h k true q t w may fine x j i w.next a,
            inl
                (subst (λ y. HasWait w.next (v.handlers y).stack) (sym jh) (has_new h k true q t w may)),
          ))
          (λ f. inr (began_failed h k true q t w may x ∙ f))
          o)
          (fine.tops j x i first (λ xj. nx (xj ∙ jh)) (ap (λ y. (w.handlers y).failed) jh ∙ may.active.0))))
          (cases_eq x h))
          (fine.top_old j) (top_on h k true q t w may fine j))
          (λ nh. trail_passed v (Lends v j) h e (w.top j) (has_new h k true q t w may) (fine.top_old j)
          (top_on h k true q t w may fine j));
      based = λ j alive. by_top (IsBased (v.handlers j).stack) h k w j
          (λ jh. based_more (v.handlers j).stack e (w.top j)
          (subst (λ y. HasWait w.next (v.handlers y).stack) (sym jh) (has_new h k true q t w may))
          (based_on h k true q t w may fine j alive))
          (λ nh. based_passed (v.handlers j).stack h e (w.top j) (based_on h k true q t w may fine j alive));
      queue_new = λ j x m i. ⊎_elim (λ a. inl (sym a.0, sym a.1, refl)) (λ a. inr a)
          (passed_grant h x m e (w.queue j) i);
      top_new = λ j x m. by_top (λ s. HasGrant x m s → ((x ≡ k) × (m ≡ w.next) × (true ≡ true)) ⊎ HasGrant x m
          (w.top j)) h k w j
          (λ jh i. ⊎_elim (λ a. inl (sym a.0, sym a.1, refl)) (λ a. inr a) i)
          (λ nh i. ⊎_elim (λ a. inl (sym a.0, sym a.1, refl)) (λ a. inr a) (passed_grant h x m e (w.top j) i));
      top_has = λ j x m i. by_top (HasGrant x m) h k w j (λ jh. inr i) (λ nh. passed_has h x m e (w.top j) i);
      had_queue = λ p n j le i. passed_had h p n e (w.queue j) le i;
      had_top = λ p n j le i. by_top (HadBefore p n) h k w j (λ jh. inr (le, i))
          (λ nh. passed_had h p n e (w.top j) le i);
      own_new = λ _. by_top (HasGrant k w.next) h k w h (λ jh. inl (refl, refl)) (λ nh. absurd (nh refl));
    }

pub passing_calls : (h k : ℕ) (w : World) → MayAsk h k w → IsConsistent w → has h (w.top k) ≡ true → CallsBack k
    (request h true w) (began h k true (passing_queue h k w) (passing_top h k w) w)
passing_calls h k w may fine so =
    let e : Grant = record { holder = k; number = w.next } in
    calls_back h k true (passing_queue h k w) (passing_top h k w) w may fine so (λ x i first ne.
    -- top (k) is k's now
    let now : IsFirst x i (passed_on h e (w.top k)) = subst
    (λ (b : Bool). IsFirst x i (if b then e ∷ w.top k else passed_on h e (w.top k)))
    (differs k h may.other) first in
    absurd (⊎_elim (λ a. ne (sym a.1)) (λ a. true_false (sym so ∙ a.0)) (passed_first h x i e (w.top k) now)))

pub passing_began : (h k : ℕ) (w : World) → MayAsk h k w → IsConsistent w → IsConsistent
    (began h k true (passing_queue h k w) (passing_top h k w) w)
passing_began h k w may fine =
    let moves = passing_moves h k w may fine in
    beginning_keeps h k true (passing_queue h k w) (passing_top h k w) w may fine moves (⊎_elim
    (λ a. inl (moves.had_queue h w.next k (omega arith) a))
    (λ a. inr (moves.had_top h w.next k (omega arith) a))
    (asked_under h k w may fine))

pub asking_passing_keeps : (h k : ℕ) (w : World) → MayAsk h k w → IsConsistent w → IsConsistent (ask_passing h k w)
asking_passing_keeps h k w may fine =
    landing_keeps (has h (w.top k)) k (request h true w) (began h k true (passing_queue h k w) (passing_top h k w) w)
    (lands h k true (passing_queue h k w) (passing_top h k w) w may fine) (passing_calls h k w may fine)
    (passing_began h k w may fine)
