-- The end of a request case by case, and a failure as those who wait see it.
use Rattle.std.specs.Prelude.{ℕ, ◌==◌, ◌≡◌, ◌⊎◌, List, [], ◌∷◌, Option, Some, None, Bool, true, false, if◌then◌else◌}
use Rattle.sc_machine_laws.specs.states.World.{Wait, Request, passes, Frame, Answer, SupplierFailed, Handler, World, put, popped, pop, give_back, fallen, ruined}
use Rattle.sc_machine_laws.specs.states.Steps.{answered}

-- ---- the end of a request

abbrev pub given_answer : Answer → Handler → Handler
given_answer a g = record g { answer = Some a }

abbrev pub reply_heard : Answer → ℕ → World → World
reply_heard a p w = record w { handlers = put p (given_answer a (w.handlers p)) w.handlers }

-- nothing was passed with it
abbrev pub exit_plain : Answer → ℕ → ℕ → World → World
exit_plain a h p w = reply_heard a p (pop h w)

-- all was passed with it
abbrev pub exit_passing : Answer → ℕ → ℕ → ℕ → World → World
exit_passing a h n p w = give_back n (reply_heard a p (pop h w))

-- all was passed with it, and its poster has failed or has an answer already
abbrev pub exit_unheard : ℕ → ℕ → World → World
exit_unheard h n w = give_back n (pop h w)

-- the poster has not failed and has no answer yet, once h's frame is popped; or not so
abbrev pub Hears : ℕ → ℕ → World → Type 0
Hears h p w = (((pop h w).handlers p).failed ≡ false) × (((pop h w).handlers p).answer ≡ None)

abbrev pub IsDeaf : ℕ → ℕ → World → Type 0
IsDeaf h p w = (((pop h w).handlers p).failed ≡ true) ⊎ (((pop h w).handlers p).answer ≡ None → ⊥)

-- a frame whose end answers nobody: an own call's, a post's, or that of a request without passing that nobody hears
abbrev pub EndsFree : ℕ → Option Request → World → Type 0
EndsFree h None w = Unit {0}
EndsFree h (Some r) w = (r.waited ≡ false) ⊎ ((passes r ≡ false) × IsDeaf h r.poster w)

-- ---- failure

abbrev pub aims : ℕ → Option Wait → Bool
aims h None = false
aims h (Some v) = v.target == h

-- one of the frames waits for the handler
abbrev pub aim : ℕ → List Frame → Bool
aim h [] = false
aim h (f ∷ fs) = if aims h f.waits then true else aim h fs

-- an answer of the handler has not come
abbrev pub open_to : ℕ → Handler → Bool
open_to h g = aim h (if answered g.answer then popped g.stack else g.stack)

abbrev pub told_if_open : ℕ → Handler → Handler
told_if_open h g = if open_to h g then record g { answer = Some SupplierFailed } else g

-- who waits for the handler is told
abbrev pub fail_by_waits : ℕ → World → World
fail_by_waits h w = record w {
  handlers = λ k. if k == h then ruined (w.handlers k) else told_if_open h (w.handlers k);
  queue = λ k. fallen h (w.queue k);
  top = λ k. fallen h (w.top k);
}
