-- The end of a request on both sides.
use Rattle.std.proofs.Common.{◌≡◌, ◌≢◌, ℕ, ◌≤◌, ◌==◌, ◌&&◌, ◌||◌, Bool, true, false, List, ◌∷◌, Option, Some, None, refl, sym, ap, ◌∙◌, subst}
use Rattle.std.specs.Prelude.{is_some, if◌then◌else◌}
use Rattle.std.specs.Option.{option_map}
use Rattle.std.specs.List.{list_any}
use Rattle.std.proofs.lemmas.Bool.{eq-eqb}
use Rattle.sc_lockpass.specs.Passing as passing
use Rattle.sc_lockpass.specs.Passing.{Passed}
use Rattle.sc_machine_laws.specs.states.World as world
use Rattle.sc_machine_laws.specs.states.World.{Answer, Request, Frame, Handler, World, rights_of, is_waited_by, and_this, and_begun, requests_of, passes, reply, replied, give_back, give_back_if, pop, finish}
use Rattle.sc_machine_laws.specs.states.Consistent.{IsConsistent}
use Rattle.sc_machine_laws.specs.states.Stands.{IsPoster, IsRequest, IsHandler, IsNew, Stands, answer_of}
use Rattle.sc_machine_laws.proofs.states.links.Requests.{new_waits_for_none}
use Rattle.sc_machine_laws.proofs.states.links.Lists.{put-off}
use Rattle.sc_model.specs.declared.cause.Cause.{Cause}
use Rattle.sc_model.specs.Values.{Value}
use Rattle.sc_model.specs.Handlers as machine
use Rattle.sc_model.specs.Answers as answers
use Rattle.sc_model.specs.Answers.{heard, answer_to, return_rights}

-- a reply or a refusal, the same on both sides
pub data IsReply : Answer → machine.Answer → Type 0 where
  Replied : (v : Option Value) → IsReply Answer.Reply (machine.Reply v)
  Refuses : IsReply Answer.Refused machine.Refused

same_heard : (a : Answer) (b : machine.Answer) (o : Option Cause) (x : Option machine.Answer) → IsReply a b
    → world.heard a (is_some o) (option_map answer_of x) ≡ option_map answer_of (heard b o x)
same_heard a b (Some why) x (Replied v) = refl
same_heard a b (Some why) x Refuses = refl
same_heard a b None None (Replied v) = refl
same_heard a b None (Some y) (Replied v) = refl
same_heard a b None None Refuses = refl
same_heard a b None (Some y) Refuses = refl

is_replied : (a : Answer) (b : machine.Answer) (g : Handler) (x : machine.Handler) → IsReply a b → IsHandler g x
    → IsHandler (replied a g) (answers.answered b x)
is_replied a b g x reply is = record {
  failed = is.failed;
  stack = is.stack;
  requests = is.requests;
  callback = is.callback;
  answer = ap (λ c. world.heard a c g.answer) is.failed ∙ ap (λ o. world.heard a (is_some x.failure) o) is.answer
      ∙ same_heard a b x.failure x.answer reply;
}

-- the poster hears it
pub replied_stands : (a : Answer) (b : machine.Answer) (p : ℕ) (w : World) (m : machine.World) → IsReply a b → Stands w m
    → ((k : ℕ) → m.count ≤ k → k ≢ p)
    → Stands (reply a p w) (machine.put p (answers.answered b (m.handlers p)) m)
replied_stands a b p w m is s other = record {
  handlers = λ k. by k (k == p) refl;
  rights = s.rights;
  new = λ k le. (subst IsNew (sym (put-off p (replied a (w.handlers p)) w.handlers k (other k le))) (s.new k le).0, (s.new k le).1, (s.new k le).2);
}
  where
    by : (k : ℕ) (c : Bool) → (k == p) ≡ c → IsHandler (if c then replied a (w.handlers p) else w.handlers k)
        (if c then answers.answered b (m.handlers p) else m.handlers k)
    by k true e = is_replied a b (w.handlers p) (m.handlers p) is (s.handlers p)
    by k false e = s.handlers k

-- what was passed returns
returned_stands : (n : ℕ) (P : Passed) (w : World) (m : machine.World) → Stands w m → rights_of (give_back n w) ≡ passing.give_back P m.rights
    → Stands (give_back n w) (record m { rights = passing.give_back P m.rights })
returned_stands n P w m s e = record {
  handlers = s.handlers;
  rights = e;
  new = λ k le. ((s.new k le).0, ap (world.back n) (s.new k le).1, ap (world.back n) (s.new k le).2);
}

no_some : {A X : Type 0} (x : X) → None ≡ Some x → A
no_some x e = cc

true_false : {A : Type 0} → true ≡ false → A
true_false e = cc

-- The request of h's frame is ended: `w` is the world before that, in which its frame has released all.
pub finish_stands : (a : Answer) (b : machine.Answer) (h : ℕ) (r : Request) (q : machine.Request) (w : World) (m : machine.World) → IsReply a b
    → Stands (pop h w) m → IsRequest r q → q.is_waited ≡ true
    → ((P : Passed) → r.passed ≡ Some P → passing.give_back P (rights_of w) ≡ rights_of (give_back r.number w))
    → ((k : ℕ) → m.count ≤ k → k ≢ r.poster)
    → Stands (finish a h r w) (answers.finish q b m)
finish_stands a b h r q w m is s same waited returns other =
    subst (λ c. Stands (give_back_if c r.number (reply a r.poster (pop h w))) (answers.finish q b m)) (sym (ap is_some same.passed))
    (by q.is_waited q.poster q.passed waited same.poster (same.waited ∙ waited) same.passed)
  where
    by : (wt : Bool) (o : Option ℕ) (p : Option Passed) → wt ≡ true → IsPoster r o → r.waited ≡ true → r.passed ≡ p
        → Stands (give_back_if (is_some p) r.number (reply a r.poster (pop h w))) (answer_to wt o b (return_rights p m))
    by false o p e poster rw same = true_false (sym e)
    by true None p e poster rw same = true_false (sym rw ∙ poster)
    by true (Some p) None e poster rw same =
        subst (λ j. Stands (reply a r.poster (pop h w)) (machine.put j (answers.answered b (m.handlers j)) m)) poster
        (replied_stands a b r.poster (pop h w) m is s other)
    by true (Some p) (Some P) e poster rw same =
        subst (λ j. Stands (give_back r.number (reply a r.poster (pop h w)))
        (machine.put j (answers.answered b (m.handlers j)) (record m { rights = passing.give_back P m.rights }))) poster
        (returned_stands r.number P (reply a r.poster (pop h w)) (machine.put r.poster (answers.answered b (m.handlers r.poster)) m)
        (replied_stands a b r.poster (pop h w) m is s other)
        (sym (returns P same) ∙ ap (passing.give_back P) s.rights))

-- a request for which nobody waits just ends
pub finish_unwaited : (b : machine.Answer) (r : Request) (q : machine.Request) (w : World) (m : machine.World) → Stands w m → IsRequest r q
    → q.is_waited ≡ false → Stands w (answers.finish q b m)
finish_unwaited b r q w m s same waited = by q.is_waited q.passed waited (sym same.passed ∙ same.plain (same.waited ∙ waited))
  where
    by : (wt : Bool) (p : Option Passed) → wt ≡ false → p ≡ None → Stands w (answer_to wt q.poster b (return_rights p m))
    by true p e none = true_false e
    by false None e none = s
    by false (Some P) e none = no_some P (sym none)

-- a waited request's poster is there
pub poster_exists : (h : ℕ) (r : Request) (f : Frame) (fs : List Frame) (w : World) → IsConsistent w → (w.handlers h).stack ≡ f ∷ fs
    → f.origin ≡ Some r → r.waited ≡ true → IsNew (w.handlers r.poster) → ⊥
poster_exists h r f fs w fine at begun waited new = no (sym yes ∙ new_waits_for_none h r.poster w fine new)
  where
    no : true ≡ false → ⊥
    no e = cc

    mine : is_waited_by r.poster r ≡ true
    mine = ap (λ (b : Bool). b && r.poster == r.poster) waited ∙ eq-eqb r.poster r.poster refl

    later : (o : Option Request) (rs : List Request) → list_any (is_waited_by r.poster) rs ≡ true
        → list_any (is_waited_by r.poster) (and_this o rs) ≡ true
    later None rs e = e
    later (Some x) rs e = ap (λ b. is_waited_by r.poster x || b) e ∙ or_true (is_waited_by r.poster x)
      where
        or_true : (b : Bool) → (b || true) ≡ true
        or_true true = refl
        or_true false = refl

    yes : list_any (is_waited_by r.poster) (requests_of (w.handlers h)) ≡ true
    yes = later (w.handlers h).callback (and_begun (w.handlers h).stack (w.handlers h).requests)
        (ap (λ s. list_any (is_waited_by r.poster) (and_begun s (w.handlers h).requests)) at
        ∙ ap (λ o. list_any (is_waited_by r.poster) (and_this o (and_begun fs (w.handlers h).requests))) begun
        ∙ ap (λ b. b || list_any (is_waited_by r.poster) (and_begun fs (w.handlers h).requests)) mine)
