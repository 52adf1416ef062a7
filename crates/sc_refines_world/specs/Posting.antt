-- That each request was posted under a right.
use Rattle.std.specs.Prelude.{◌≡◌, ◌⊎◌, ◌++◌, ℕ, List, ◌∷◌, Some, true, Contains}
use Rattle.sc_tree.specs.Plain.{System}
use Rattle.sc_class.specs.ClassNames.{Root}
use Rattle.sc_lockpass.specs.Rights.{held}
use Rattle.sc_model.specs.Failures.{requests_at}
use Rattle.sc_model.specs.Handlers.{Request, World}
use Rattle.sc_model.specs.Runs.{opening, run}
use Rattle.sc_model.specs.Turns.{turn}

-- The request came to the handler `k` in one of the turns of `hs`, from the state `v` on. It was its poster's turn, and
-- the poster held `k` before it, or created `k` in it.
pub record WasPosted (most : ℕ) (s : System) (hs : List ℕ) (v : World) (k : ℕ) (r : Request) : Type 0 where
  pub before : List ℕ
  pub poster : ℕ
  pub after : List ℕ
  pub turns_are : hs ≡ before ++ poster ∷ after
  pub poster_is : r.poster ≡ Some poster
  pub comes : Contains (requests_at ((turn most s poster (run most s before v)).handlers k)) r
  pub under_right : let w : World = run most s before v in (held w.rights poster k ≡ true) ⊎ (k ≡ w.count)

-- However turns lead from the opening to the state, each request in it, in a queue, as a callback or as what began a
-- frame, was posted so in one of them, if it isn't the root request, which is there at the opening.
abbrev pub WerePosted : ℕ → System → World → Type 0
WerePosted most s w = (root : Root) (hs : List ℕ) → run most s hs (opening s root) ≡ w →
    (k : ℕ) (r : Request) → Contains (requests_at (w.handlers k)) r →
    Contains (requests_at ((opening s root).handlers k)) r ⊎ WasPosted most s hs (opening s root) k r
