-- A handler that releases, or reserves, several others one after the other.
use Rattle.std.proofs.Common.{◌≡◌, ◌≢◌, ◌⊎◌, ⊎_elim, inl, inr, ℕ, suc, ◌==◌, ◌||◌, Bool, true, false, List, [], ◌∷◌, Some, None, refl, sym, ap, ◌∙◌, subst}
use Rattle.std.specs.Prelude.{if◌then◌else◌}
use Rattle.std.proofs.lemmas.Bool.{eq-eqb, ne_eqb, cases_eq}
use Rattle.std.specs.List.{AllByRecursion, IsDistinct}
use Rattle.sc_lockpass.specs.Rights.{is_among}
use Rattle.sc_machine_laws.specs.states.World.{Grant, Reservation, Frame, Handler, World, holder, put, enter, reserve, release, relisted, relist, reservations, pop, popped}
use Rattle.sc_machine_laws.specs.states.Steps.{waits_for, IsActive, IsIdle, Step, Reserves, Releases, Steps, Still, Then}
use Rattle.sc_machine_laws.specs.states.Stands.{handlers_of}
use Rattle.sc_machine_laws.proofs.states.links.Maps.{put-own}

pub joined : (w v u : World) → Steps w v → Steps v u → Steps w u
joined w v u (Still x) s = s
joined w v u (Then x y z a b) s = Then x y u a (joined y z u b s)

pub one : (w v : World) → Step w v → Steps w v
one w v s = Then w v v s (Still v)

pub put-off : {X : Type 0} (h : ℕ) (x : X) (f : ℕ → X) (k : ℕ) → k ≢ h → put h x f k ≡ f k
put-off h x f k ne = ap (λ (b : Bool). if b then x else f k) (ne_eqb k h ne)

-- the handler has this stack now, and no other handler and no right to push has changed
pub record Restacked (h : ℕ) (fs : List Frame) (w v : World) : Type 0 where
  pub own : v.handlers h ≡ record (w.handlers h) { stack = fs }
  pub others : (k : ℕ) → k ≢ h → v.handlers k ≡ w.handlers k
  pub top : (k : ℕ) → v.top k ≡ w.top k

pub restacked_same : (h : ℕ) (fs : List Frame) (w : World) → (w.handlers h).stack ≡ fs → Restacked h fs w w
restacked_same h fs w at = record { own = ap (λ s. record (w.handlers h) { stack = s }) at; others = λ k ne. refl; top = λ k. refl }

pub restacked_again : (h : ℕ) (fs gs : List Frame) (w v u : World) → Restacked h fs w v → Restacked h gs v u → Restacked h gs w u
restacked_again h fs gs w v u a b = record {
  own = b.own ∙ ap (λ (g : Handler). record g { stack = gs }) a.own;
  others = λ k ne. b.others k ne ∙ a.others k ne;
  top = λ k. b.top k ∙ a.top k;
}

pub restacked_active : (h : ℕ) (fs : List Frame) (w v : World) → Restacked h fs w v → (w.handlers h).failed ≡ false → waits_for fs ≡ None
    → IsActive (v.handlers h)
restacked_active h fs w v r lives waits = (ap (λ (g : Handler). g.failed) r.own ∙ lives, ap (λ (g : Handler). waits_for g.stack) r.own ∙ waits)

pub restacked_stack : (h : ℕ) (fs : List Frame) (w v : World) → Restacked h fs w v → (v.handlers h).stack ≡ fs
restacked_stack h fs w v r = ap (λ (g : Handler). g.stack) r.own

pub relisting : (h : ℕ) (rs : List Reservation) (ks : List ℕ) (f : Frame) (fs : List Frame) (n : ℕ) (w : World) → (w.handlers h).stack ≡ f ∷ fs
    → Restacked h (record f { reserved = rs; needs = ks } ∷ fs) w (relist h rs ks n w)
relisting h rs ks f fs n w at = record {
  own = put-own h (record (w.handlers h) { stack = relisted rs ks (w.handlers h).stack }) w.handlers
      ∙ ap (λ s. record (w.handlers h) { stack = relisted rs ks s }) at;
  others = λ k ne. put-off h (record (w.handlers h) { stack = relisted rs ks (w.handlers h).stack }) w.handlers k ne;
  top = λ k. refl;
}

-- ---- releases

-- what the topmost frame reserved is released
pub record Released (h : ℕ) (f : Frame) (fs : List Frame) (ks : List ℕ) (w : World) : Type 0 where
  pub world : World
  pub steps : Steps w world
  pub needs : List ℕ
  pub stack : Restacked h (record f { reserved = []; needs = needs } ∷ fs) w world
  pub queue : (k : ℕ) → world.queue k ≡ (if is_among k ks then [] else w.queue k)

eqb-sym : (a b : ℕ) → (a == b) ≡ (b == a)
eqb-sym a b = elim (cases_eq a b) [
  | inl e ↦ eq-eqb a b e ∙ sym (eq-eqb b a (sym e))
  | inr ne ↦ ne_eqb a b ne ∙ sym (ne_eqb b a (λ e. ne (sym e)))
]

if_both : (b c : Bool) (t : List Grant) → (if b then [] else (if c then [] else t)) ≡ (if c || b then [] else t)
if_both true true t = refl
if_both true false t = refl
if_both false true t = refl
if_both false false t = refl

pub releases : (h : ℕ) (rs : List Reservation) (f : Frame) (fs : List Frame) (w : World) → IsActive (w.handlers h) → (w.handlers h).stack ≡ f ∷ fs
    → f.reserved ≡ rs
    → Released h f fs (handlers_of rs) w
releases h [] f fs w active at none = record {
  world = w;
  steps = Still w;
  needs = f.needs;
  stack = restacked_same h (record f { reserved = []; needs = f.needs } ∷ fs) w (at ∙ ap (λ l. record f { reserved = l } ∷ fs) none);
  queue = λ k. refl;
}
releases h (r ∷ rs) f fs w active at has =
    let v = release h r.handler rs w in
    let g : Frame = record f { reserved = rs; needs = [] } in
    let first : Restacked h (g ∷ fs) w (relist h rs [] w.next w) = relisting h rs [] f fs w.next w at in
    let to_v : Restacked h (g ∷ fs) w v = record { own = first.own; others = first.others; top = first.top } in
    let free : f.waits ≡ None = sym (ap waits_for at) ∙ active.1 in
    let rest = releases h rs g fs v (restacked_active h (g ∷ fs) w v to_v active.0 free) (restacked_stack h (g ∷ fs) w v to_v) refl in
    record {
      world = rest.world;
      steps = Then w v rest.world (Releases h r rs f fs active at has) rest.steps;
      needs = rest.needs;
      stack = restacked_again h (g ∷ fs) (record f { reserved = []; needs = rest.needs } ∷ fs) w v rest.world to_v rest.stack;
      queue = λ k. rest.queue k
          ∙ ap (λ (c : Bool). if is_among k (handlers_of rs) then [] else (if c then [] else w.queue k)) (eqb-sym k r.handler)
          ∙ if_both (is_among k (handlers_of rs)) (r.handler == k) (w.queue k);
    }

-- ---- reservations

-- each is another than those after it
abbrev pub AreApart : List ℕ → Type 0
AreApart [] = Unit {0}
AreApart (k ∷ ks) = (is_among k ks ≡ false) × AreApart ks

none_among : (k : ℕ) (ks : List ℕ) → AllByRecursion (λ j. (k == j) ≡ false) ks → is_among k ks ≡ false
none_among k [] all = refl
none_among k (j ∷ ks) all =
    ap (λ (c : Bool). c || is_among k ks) (eqb-sym j k ∙ all.0) ∙ none_among k ks all.1

pub distinct_apart : (ks : List ℕ) → IsDistinct (λ j k. j == k) ks → AreApart ks
unfolding IsDistinct
distinct_apart [] d = tt
distinct_apart (k ∷ ks) d = (none_among k ks d.0, distinct_apart ks d.1)

-- these are reserved by the topmost frame
pub record Reserved (h : ℕ) (f : Frame) (fs : List Frame) (ks : List ℕ) (w : World) : Type 0 where
  pub world : World
  pub steps : Steps w world
  pub list : List Reservation
  pub needs : List ℕ
  pub are : handlers_of list ≡ ks
  pub stack : Restacked h (record f { reserved = list; needs = needs } ∷ fs) w world
  pub queue : (k : ℕ) → is_among k ks ≡ false → world.queue k ≡ w.queue k
  pub held : (k : ℕ) → is_among k ks ≡ true → holder (world.queue k) ≡ Some h

among_or : (k j : ℕ) (ks : List ℕ) (b : Bool) → is_among k (j ∷ ks) ≡ b
    → (((j == k) ≡ true) × (b ≡ true)) ⊎ (((j == k) ≡ false) × (is_among k ks ≡ b))
among_or k j ks b e = by (j == k) refl e
  where
    by : (c : Bool) → (j == k) ≡ c → (c || is_among k ks) ≡ b → (((j == k) ≡ true) × (b ≡ true)) ⊎ (((j == k) ≡ false) × (is_among k ks ≡ b))
    by true is e = inl (is, sym e)
    by false is e = inr (is, e)

true_false : {A : Type 0} → true ≡ false → A
true_false e = cc

pub reserves : (h : ℕ) (ks : List ℕ) (f : Frame) (fs : List Frame) (w : World) → IsActive (w.handlers h) → (w.handlers h).stack ≡ f ∷ fs
    → f.reserved ≡ []
    → ((k : ℕ) → is_among k ks ≡ true → IsIdle k w) → AreApart ks → Reserved h f fs ks w
reserves h [] f fs w active at none idle apart = record {
  world = w;
  steps = Still w;
  list = [];
  needs = f.needs;
  are = refl;
  stack = restacked_same h (record f { reserved = []; needs = f.needs } ∷ fs) w (at ∙ ap (λ l. record f { reserved = l } ∷ fs) none);
  queue = λ k e. refl;
  held = λ k e. true_false (sym e);
}
reserves h (j ∷ ks) f fs w active at none idle apart =
    let rest = reserves h ks f fs w active at none (λ k e. idle k (ap (λ (c : Bool). (j == k) || c) e ∙ or_true (j == k))) apart.1 in
    let v = rest.world in
    let g : Frame = record f { reserved = rest.list; needs = rest.needs } in
    let free : f.waits ≡ None = sym (ap waits_for at) ∙ active.1 in
    let on : IsActive (v.handlers h) = restacked_active h (g ∷ fs) w v rest.stack active.0 free in
    let there : (v.handlers h).stack ≡ g ∷ fs = restacked_stack h (g ∷ fs) w v rest.stack in
    let was = idle j (ap (λ (c : Bool). c || is_among j ks) (eq-eqb j j refl)) in
    let other : j ≢ h = λ e. empty_cons (sym was.stack ∙ ap (λ y. (w.handlers y).stack) e ∙ at) in
    let same : v.handlers j ≡ w.handlers j = rest.stack.others j other in
    let is : IsIdle j v = record {
      lives = ap (λ (x : Handler). x.failed) same ∙ was.lives;
      stack = ap (λ (x : Handler). x.stack) same ∙ was.stack;
      requests = ap (λ (x : Handler). x.requests) same ∙ was.requests;
      nobodys = rest.queue j apart.0 ∙ was.nobodys;
    } in
    let u = reserve h j v in
    let new : Reservation = record { handler = j; number = v.next } in
    let next : Restacked h (record g { reserved = new ∷ reservations (v.handlers h).stack; needs = [] } ∷ fs) v
    (relist h (new ∷ reservations (v.handlers h).stack) [] (suc v.next) v) =
    relisting h (new ∷ reservations (v.handlers h).stack) [] g fs (suc v.next) v there in
    let mine : new ∷ reservations (v.handlers h).stack ≡ new ∷ rest.list = ap (λ s. new ∷ reservations s) there in
    let to_u : Restacked h (record f { reserved = new ∷ reservations (v.handlers h).stack; needs = [] } ∷ fs) v u = record
    { own = next.own; others = next.others; top = next.top } in
    record {
      world = u;
      steps = joined w v u rest.steps (one v u (Reserves h j g fs on there is));
      list = new ∷ rest.list;
      needs = [];
      are = ap (λ l. j ∷ l) rest.are;
      stack = subst (λ l. Restacked h (record f { reserved = l; needs = [] } ∷ fs) w u) mine
          (restacked_again h (g ∷ fs) (record f { reserved = new ∷ reservations (v.handlers h).stack; needs = [] } ∷ fs) w v u rest.stack to_u);
      queue = λ k e. ⊎_elim
          (λ (a : ((j == k) ≡ true) × (false ≡ true)). true_false (sym a.1))
          (λ (a : ((j == k) ≡ false) × (is_among k ks ≡ false)).
          ap (λ (c : Bool). if c then record { holder = h; number = v.next } ∷ [] else v.queue k) (eqb-sym k j ∙ a.0) ∙ rest.queue k a.1)
          (among_or k j ks false e);
      held = λ k e. ⊎_elim
          (λ (a : ((j == k) ≡ true) × (true ≡ true)).
          ap (λ (c : Bool). holder (if c then record { holder = h; number = v.next } ∷ [] else v.queue k)) (eqb-sym k j ∙ a.0))
          (λ (a : ((j == k) ≡ false) × (is_among k ks ≡ true)).
          ap (λ (c : Bool). holder (if c then record { holder = h; number = v.next } ∷ [] else v.queue k)) (eqb-sym k j ∙ a.0) ∙ rest.held k a.1)
          (among_or k j ks true e);
    }
  where
    or_true : (c : Bool) → (c || true) ≡ true
    or_true true = refl
    or_true false = refl

    empty_cons : {A : Type 0} → [] ≡ f ∷ fs → A
    empty_cons e = cc

-- ---- frames

pub entering : (h : ℕ) (w : World) → Restacked h (record { origin = None; reserved = []; needs = []; waits = None } ∷ (w.handlers h).stack) w
    (enter h w)
entering h w = record {
  own = put-own h (record (w.handlers h) { stack = record { origin = None; reserved = []; needs = []; waits = None } ∷ (w.handlers h).stack })
      w.handlers;
  others = λ k ne. put-off h (record (w.handlers h) {
    stack = record { origin = None; reserved = []; needs = []; waits = None } ∷
        (w.handlers h).stack;
  }) w.handlers k ne;
  top = λ k. refl;
}

pub popping : (h : ℕ) (f : Frame) (fs : List Frame) (w : World) → (w.handlers h).stack ≡ f ∷ fs → Restacked h fs w (pop h w)
popping h f fs w at = record {
  own = put-own h (record (w.handlers h) { stack = popped (w.handlers h).stack }) w.handlers
      ∙ ap (λ s. record (w.handlers h) { stack = popped s }) at;
  others = λ k ne. put-off h (record (w.handlers h) { stack = popped (w.handlers h).stack }) w.handlers k ne;
  top = λ k. refl;
}
