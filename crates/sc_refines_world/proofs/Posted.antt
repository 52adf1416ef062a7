-- After any turns each request was posted under a right in one of them, or was there before.
use Rattle.std.proofs.Common.{ℕ, ◌≡◌, ◌⊎◌, inl, inr, List, [], ◌∷◌, Some, true, ap, refl, subst, sym, ⊎_elim}
use Rattle.std.specs.Prelude.{Contains}
use Rattle.sc_tree.specs.Plain.{System}
use Rattle.sc_lockpass.specs.Rights.{held}
use Rattle.sc_model.specs.Failures.{requests_at}
use Rattle.sc_model.specs.Handlers.{Request, World}
use Rattle.sc_model.specs.Runs.{opening, run}
use Rattle.sc_model.specs.Turns.{turn}
use Rattle.sc_machine_laws.proofs.states.Posts.{posted_under_right}
use Rattle.sc_refines_world.specs.Posting.{WasPosted, WerePosted}

posted_first : (most : ℕ) (s : System) (h : ℕ) (hs : List ℕ) (v : World) (k : ℕ) (r : Request) →
    Contains (requests_at ((turn most s h v).handlers k)) r →
    Contains (requests_at (v.handlers k)) r ⊎ WasPosted most s (h ∷ hs) v k r
posted_first most s h hs v k r there =
    ⊎_elim (λ before. inl before)
    (λ (posted : (r.poster ≡ Some h) × ((held v.rights h k ≡ true) ⊎ (k ≡ v.count))). inr (record {
      before = [];
      poster = h;
      after = hs;
      turns_are = refl;
      poster_is = posted.0;
      comes = there;
      under_right = posted.1;
    }))
    (posted_under_right most s h v k r there)

posted_later : (most : ℕ) (s : System) (h : ℕ) (hs : List ℕ) (v : World) (k : ℕ) (r : Request) →
    WasPosted most s hs (turn most s h v) k r → WasPosted most s (h ∷ hs) v k r
posted_later most s h hs v k r was = record {
  before = h ∷ was.before;
  poster = was.poster;
  after = was.after;
  turns_are = ap (λ x. h ∷ x) was.turns_are;
  poster_is = was.poster_is;
  comes = was.comes;
  under_right = was.under_right;
}

posted_since : (most : ℕ) (s : System) (hs : List ℕ) (v : World) (k : ℕ) (r : Request) →
    Contains (requests_at ((run most s hs v).handlers k)) r →
    Contains (requests_at (v.handlers k)) r ⊎ WasPosted most s hs v k r
posted_since most s [] v k r there = inl there
posted_since most s (h ∷ hs) v k r there =
    ⊎_elim (λ first. posted_first most s h hs v k r first)
    (λ (later : WasPosted most s hs (turn most s h v) k r). inr (posted_later most s h hs v k r later))
    (posted_since most s hs (turn most s h v) k r there)

pub were_posted : (most : ℕ) (s : System) (w : World) → WerePosted most s w
were_posted most s w root hs leads k r there =
    posted_since most s hs (opening s root) k r
    (subst (λ (x : World). Contains (requests_at (x.handlers k)) r) (sym leads) there)
