-- Lock passing: all rights of a client go to its supplier, and return with the answer.
use Rattle.std.specs.Prelude.{◌≡◌, ◌==◌, ℕ, Option, Some, None, if◌then◌else◌}
use Rattle.sc_lockpass.specs.Rights.{Rights, is_handler}

-- What was passed: the rights that are listed, each with its holder before, if it had one.
pub record Passed : Type 0 where
  pub queue : ℕ → Option (Option ℕ)
  pub top : ℕ → Option (Option ℕ)

-- a right that is the client's becomes the supplier's
abbrev pub moved : ℕ → ℕ → Option ℕ → Option ℕ
moved client supplier holder = if is_handler client holder then Some supplier else holder

-- Every right that the client holds becomes the supplier's, and so does that to push on the client's waiting stack.
abbrev pub pass : ℕ → ℕ → Rights → Rights
pass client supplier r = record {
  queue = λ k. moved client supplier (r.queue k);
  top = λ k. if k == client then Some supplier else moved client supplier (r.top k);
}

-- a right is listed if it is the client's
abbrev pub listed : ℕ → Option ℕ → Option (Option ℕ)
listed client holder = if is_handler client holder then Some holder else None

-- What a client passes: the rights that it holds, and that on its own waiting stack, whoever holds it.
abbrev pub passed_by : ℕ → Rights → Passed
passed_by client r = record {
  queue = λ k. listed client (r.queue k);
  top = λ k. if k == client then Some (r.top k) else listed client (r.top k);
}

-- a listed right goes to its holder before, another stays
abbrev pub returned : Option (Option ℕ) → Option ℕ → Option ℕ
returned None holder = holder
returned (Some before) holder = before

-- Exactly the listed rights return to those who held them.
abbrev pub give_back : Passed → Rights → Rights
give_back p r = record { queue = λ k. returned (p.queue k) (r.queue k); top = λ k. returned (p.top k) (r.top k) }

-- Both list equal rights over the handler, with equal holders.
abbrev pub AreListedAlike : ℕ → Passed → Passed → Type 0
AreListedAlike k p q = (p.queue k ≡ q.queue k) × (p.top k ≡ q.top k)
