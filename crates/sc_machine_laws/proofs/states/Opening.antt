-- A world that opens is fine: the root request stands at handler 0.
use Rattle.std.proofs.Common.{◌≡◌, ⊎_elim, ℕ, [], ◌∷◌, Some, None, true, false, refl, sym, ap, ◌∙◌, subst, arith}
use Rattle.sc_machine_laws.specs.states.World.{Request, SupplierFailed, Handler, requests_of}
use Rattle.sc_machine_laws.specs.states.Steps.{answered}
use Rattle.sc_machine_laws.specs.states.Consistent.{HasWait, StackWaits, IsOne, AreNumbered, IsConsistent, IsOrdered, HasClient}
use Rattle.sc_machine_laws.proofs.states.Rights.{put-same, put-other}
use Rattle.sc_machine_laws.proofs.states.Waits.{true_false}
use Rattle.sc_machine_laws.proofs.states.Shrinks.{at_each}
use Rattle.sc_machine_laws.proofs.states.PostedRequests.{no_request}
use Rattle.sc_machine_laws.specs.states.Lawful.{resting, root, opening}

pub each : (P : Handler → Type 0) (k : ℕ) → P (resting (root ∷ [])) → P (resting []) → P (opening.handlers k)
each P k here there = at_each (λ y. P (opening.handlers y)) 0 k
    (subst P (sym (put-same 0 (resting (root ∷ [])) (λ k. resting []))) here)
    (λ ne. subst P (sym (put-other 0 (resting (root ∷ [])) (λ k. resting []) k ne)) there)

pub empty : (k : ℕ) → (opening.handlers k).stack ≡ []
empty k = each (λ g. g.stack ≡ []) k refl refl

none_told : {A : Type 0} → None ≡ Some SupplierFailed → A
none_told e = cc

pub opening_fine : IsConsistent opening
opening_fine = record {
  tops = λ k x i first. absurd first;
  clear = λ k a. (each (λ g. answered g.answer ≡ false) k refl refl, each (λ g. g.callback ≡ None) k refl refl);
  ordered = λ k. each (λ g. IsOrdered g.stack) k tt tt;
  callbacks = λ k r is. no_request r (sym (each (λ g. g.callback ≡ None) k refl refl) ∙ is);
  queue_trails = λ k. tt;
  top_trails = λ k. tt;
  based = λ k a. tt;
  own_top = λ k v o p. absurd (subst (StackWaits v) (empty k) o.0);
  queue_grants = λ k p x v s i. absurd i;
  top_grants = λ k p x v s i. absurd i;
  held = λ p v s. absurd (subst (StackWaits v) (empty p) s);
  one_poster = λ a b n i j. absurd (subst (HasWait n) (empty a) i);
  waits_old = λ k n i. absurd (subst (HasWait n) (empty k) i);
  queue_old = λ k x n i. absurd i;
  top_old = λ k x n i. absurd i;
  spent = λ p v at over k x. ((λ i. i), (λ i. i));
  plain = λ p v s np k x. ((λ i. i), (λ i. i));
  dead = λ k v o f. absurd (subst (StackWaits v) (empty k) o.0);
  failures = λ k f. empty k;
  why_told = λ k t. none_told (sym (each (λ g. g.answer ≡ None) k refl refl) ∙ t);
  clients = λ k r. each (λ g. IsOne r (requests_of g) → r.waited ≡ true → HasClient opening k r) k
      (λ i waited. ⊎_elim (λ e. true_false (sym waited ∙ ap (λ (x : Request). x.waited) (sym e))) (λ a. absurd a) i)
      (λ i. absurd i);
  numbered = λ k. each (λ g. AreNumbered 1 (requests_of g)) k (omega arith, (λ i. i), tt) tt;
}
