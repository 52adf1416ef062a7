-- How a handler stands after a turn of another: its output grows, and once it has failed it stays.
use Rattle.std.proofs.Common.{◌≡◌, ◌≢◌, ℕ, ◌<◌, ◌≤◌, List, [], ◌++◌, Option, Some, None, Bool, true, false, ◌==◌, refl, sym, ap, subst, ◌∙◌, append_assoc, arith}
use Rattle.std.proofs.lemmas.List.{append-nil}
use Rattle.std.proofs.lemmas.Bool.{eqb-true, eq-eqb}
use Rattle.std.proofs.lemmas.Bool.Decides.{nat_tests}
use Rattle.std.specs.Prelude.{if◌then◌else◌}
use Rattle.sc_lockpass.specs.Passing.{Passed}
use Rattle.sc_lockpass.specs.declared.wait_conditions.session.Release.{Release}
use Rattle.sc_model.specs.declared.cause.Cause.{Cause}
use Rattle.sc_model.specs.Handlers.{Request, Answer, Failed, Frame, Handler, World, put, with_stack}
use Rattle.sc_model.specs.Sessions.{session_ended, reserve, release}
use Rattle.sc_model.specs.Answers.{heard, answered, answer_to, return_rights, finish}
use Rattle.sc_model.specs.Failures.{told, fallen, fails_with, fail}

pub record Grows (x y : Handler) : Type 0 where
  pub added : List ℕ
  pub output_is : y.output ≡ x.output ++ added

pub record Follows (x y : Handler) : Type 0 where
  pub grows : Grows x y
  pub stays : (why : Cause) → x.failure ≡ Some why → record y { sessions = x.sessions } ≡ x

-- a turn of the handler of the number leads from one world to the other
pub record Leads (h : ℕ) (w v : World) : Type 0 where
  pub own : Grows (w.handlers h) (v.handlers h)
  pub others : (k : ℕ) → k < w.count → k ≢ h → Follows (w.handlers k) (v.handlers k)
  pub counts : w.count ≤ v.count

-- ---- handlers

pub same_output : (x y : Handler) → y.output ≡ x.output → Grows x y
same_output x y e = record { added = []; output_is = e ∙ sym (append-nil x.output) }

pub grows_trans : {x y z : Handler} → Grows x y → Grows y z → Grows x z
grows_trans {x} {y} {z} p q = record { added = p.added ++ q.added; output_is = q.output_is ∙ ap (λ o. o ++ q.added) p.output_is ∙ append_assoc x.output p.added q.added }

pub follows_same : (x : Handler) → Follows x x
follows_same x = record { grows = same_output x x refl; stays = λ why e. refl }

pub follows_trans : {x y z : Handler} → Follows x y → Follows y z → Follows x z
follows_trans {x} {y} {z} p q = record {
  grows = grows_trans p.grows q.grows;
  stays = λ why e.
      let failed : y.failure ≡ Some why = ap (λ (u : Handler). u.failure) (p.stays why e) ∙ e in
      ap (λ (u : Handler). record u { sessions = x.sessions }) (q.stays why failed) ∙ p.stays why e;
}

pub session_follows : (b : Bool) (x : Handler) → Follows x (session_ended b x)
session_follows false x = follows_same x
session_follows true x = record { grows = same_output x (session_ended true x) refl; stays = λ why e. refl }

pub answered_follows : (a : Answer) (x : Handler) → Follows x (answered a x)
answered_follows a x = record { grows = same_output x (answered a x) refl; stays = λ why e. ap (λ o. record x { answer = heard a o x.answer }) e }

pub told_follows : (b : Bool) (x : Handler) → Follows x (told b x)
told_follows false x = follows_same x
told_follows true x = answered_follows Failed x

-- ---- worlds

pub leads_same : (h : ℕ) (w v : World) → v.handlers ≡ w.handlers → w.count ≤ v.count → Leads h w v
leads_same h w v e c = record {
  own = same_output (w.handlers h) (v.handlers h) (ap (λ (f : ℕ → Handler). (f h).output) e);
  others = λ k l ne. subst (λ (f : ℕ → Handler). Follows (w.handlers k) (f k)) (sym e) (follows_same (w.handlers k));
  counts = c;
}

pub leads_trans : {h : ℕ} {u v w : World} → Leads h u v → Leads h v w → Leads h u w
leads_trans {h} {u} {v} {w} p q = record {
  own = grows_trans p.own q.own;
  others = λ k l ne. follows_trans (p.others k l ne) (q.others k (omega (arith, l, p.counts)) ne);
  counts = omega (arith, p.counts, q.counts);
}

-- each handler follows
pub leads_each : (h : ℕ) (w v : World) → ((k : ℕ) → Follows (w.handlers k) (v.handlers k)) → w.count ≤ v.count → Leads h w v
leads_each h w v f c = record { own = (f h).grows; others = λ k l ne. f k; counts = c }

pub differs : (k h : ℕ) → k ≢ h → (k == h) ≡ false
differs k h ne = grind (arith, nat_tests)

-- the handler itself changes, and its output grows
pub put_own : (h : ℕ) (x : Handler) (w : World) → Grows (w.handlers h) x → Leads h w (put h x w)
put_own h x w g = record {
  own = subst (λ (b : Bool). Grows (w.handlers h) (if b then x else w.handlers h)) (sym (eq-eqb h h refl)) g;
  others = λ k l ne. subst (λ (b : Bool). Follows (w.handlers k) (if b then x else w.handlers k)) (sym (differs k h ne)) (follows_same (w.handlers k));
  counts = omega arith;
}

put_follows : (k : ℕ) (x : Handler) (w : World) (j : ℕ) (b : Bool) → (j == k) ≡ b → Follows (w.handlers k) x → Follows (w.handlers j) (if b then x else w.handlers j)
put_follows k x w j true e f = subst (λ i. Follows (w.handlers i) x) (sym (eqb-true j k e)) f
put_follows k x w j false e f = follows_same (w.handlers j)

-- some handler follows
pub put_any : (h k : ℕ) (x : Handler) (w : World) → Follows (w.handlers k) x → Leads h w (put k x w)
put_any h k x w f = leads_each h w (put k x w) (λ j. put_follows k x w j (j == k) refl f) (omega arith)

pub stack_leads : (h : ℕ) (stack : List Frame) (w : World) → Leads h w (with_stack h stack w)
stack_leads h stack w = put_own h _ w (same_output (w.handlers h) (record (w.handlers h) { stack = stack }) refl)

pub reserve_leads : (h : ℕ) (ks : List ℕ) (w : World) → Leads h w (reserve h ks w)
reserve_leads h ks w = leads_same h w (reserve h ks w) refl (omega arith)

pub release_leads : (h : ℕ) (how : Release) (ks : List ℕ) (w : World) → Leads h w (release how ks w)
release_leads h how ks w = leads_each h w (release how ks w) (λ k. session_follows _ (w.handlers k)) (omega arith)

returned_leads : (h : ℕ) (p : Option Passed) (w : World) → Leads h w (return_rights p w)
returned_leads h None w = leads_same h w w refl (omega arith)
returned_leads h (Some p) w = leads_same h w (return_rights (Some p) w) refl (omega arith)

answer_leads : (h : ℕ) (b : Bool) (p : Option ℕ) (a : Answer) (w : World) → Leads h w (answer_to b p a w)
answer_leads h true (Some p) a w = put_any h p (answered a (w.handlers p)) w (answered_follows a (w.handlers p))
answer_leads h true None a w = leads_same h w w refl (omega arith)
answer_leads h false p a w = leads_same h w w refl (omega arith)

pub finish_leads : (h : ℕ) (r : Request) (a : Answer) (w : World) → Leads h w (finish r a w)
finish_leads h r a w = leads_trans (returned_leads h r.passed w) (answer_leads h r.is_waited r.poster a (return_rights r.passed w))

-- ---- failure

own_fails : (b c d : Bool) (why : Cause) (x : Handler) → Grows x (session_ended b (if c then fallen why x else told d x))
own_fails b true d why x = grows_trans (same_output x (fallen why x) refl) (session_follows b (fallen why x)).grows
own_fails b false d why x = grows_trans (told_follows d x).grows (session_follows b (told d x)).grows

other_fails : (b c d : Bool) (why : Cause) (x : Handler) → c ≡ false → Follows x (session_ended b (if c then fallen why x else told d x))
other_fails b true d why x e = cc
other_fails b false d why x e = follows_trans (told_follows d x) (session_follows b (told d x))

pub fails_leads : (h : ℕ) (why : Cause) (taken : List Request) (w : World) → Leads h w (fails_with h why taken w)
fails_leads h why taken w = record {
  own = own_fails _ (h == h) _ why (w.handlers h);
  others = λ k l ne. other_fails _ (k == h) _ why (w.handlers k) (differs k h ne);
  counts = omega arith;
}

pub fail_leads : (h : ℕ) (why : Cause) (w : World) → Leads h w (fail h why w)
fail_leads h why w = fails_leads h why [] w

pub if_leads : (h : ℕ) (w : World) (b : Bool) (x y : World) → Leads h w x → Leads h w y → Leads h w (if b then x else y)
if_leads h w true x y p q = p
if_leads h w false x y p q = q
