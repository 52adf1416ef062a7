-- Frames that are called by their own handler, and those that have started, as a pure function runs on top.
use Rattle.std.proofs.Common.{ℕ, ◌≡◌, ◌⊎◌, Bool, true, List, ◌∷◌, Option, refl, sym, ap, subst, ◌∙◌, inl, inr}
use Rattle.sc_tree.specs.Plain.{System}
use Rattle.sc_rules.specs.declared.entity_types.entity_type.EntityType.{EntityType}
use Rattle.sc_rules.specs.Names.{RoutineName}
use Rattle.sc_model.specs.Steps.{Calling, Act, Until, Starts, Does, Point}
use Rattle.sc_model.specs.Handlers.{Request, Origin, Called, Requested, InCall, Frame, World}
use Rattle.sc_machine_laws.specs.states.Fitting.{Linked}
use Rattle.sc_machine_laws.specs.states.Fitting as fitting
use Rattle.sc_machine_laws.specs.settlements.Entries.{HasStarted}
use Rattle.sc_machine_laws.specs.Following.{is_called, IsCalledPure}
use Rattle.sc_machine_laws.proofs.OwnMoves.{Before}
use Rattle.sc_machine_laws.proofs.Lists.{first_of}

-- ---- the frame below a routine that its own handler called

not_called : (c : Calling) (r : Request) (A : Type 0) → Called c ≡ Requested r → A
not_called c r A e = cc

pub not_requested : (f : Frame) (pure : RoutineName → Bool) (r : Request) → f.origin ≡ Requested r → IsCalledPure pure f → ⊥
not_requested f pure r e (called, is) = by f.origin e called
  where
    by : (o : Origin) → o ≡ Requested r → is_called o ≡ true → ⊥
    by (Called c) e i = not_called c r ⊥ e
    by (Requested q) e i = cc

pub in_call : (s : System) (h : ℕ) (f g : Frame) (more : List Frame) (c : Calling) → f.origin ≡ Called c →
    Linked s h (f ∷ g ∷ more) →
    (t : Option EntityType) × (g.stage ≡ InCall t)
in_call s h f g more c origin_is linked = by f (g ∷ more) refl refl linked
  where
    by : (f' : Frame) (st : List Frame) → f' ≡ f → st ≡ g ∷ more → Linked s h (f' ∷ st) → (t : Option EntityType)
        × (g.stage ≡ InCall t)
    by f' st i j (fitting.alone {r = q} is gives rest) =
        not_called c q _ (sym origin_is ∙ ap (λ (k : Frame). k.origin) (sym i) ∙ is)
    by f' _ i j (fitting.called {g = k} {below = rest} {t} is calls gives linked) =
        (t, ap (λ (k : Frame). k.stage) (sym (first_of j)) ∙ calls)

-- ---- what has started

module _ (s : System) (pure : RoutineName → Bool) (w : World) (h : ℕ) (f : Frame) where
  pub started : (a : Act) (p : Point) → (a ≡ Until) ⊎ (a ≡ Starts) → Before s pure w h f (Does a p) → HasStarted p.tasks
  started a p e b = by e
    where
      tested : Before s pure w h f (Does Until p) → HasStarted p.tasks
      tested (inl i) = i
      tested (inr (asked, quiet, env, m)) = absurd m

      begun : Before s pure w h f (Does Starts p) → HasStarted p.tasks
      begun (inl i) = i
      begun (inr (asked, quiet, env, m)) = m.1

      by : (a ≡ Until) ⊎ (a ≡ Starts) → HasStarted p.tasks
      by (inl i) = tested (subst (λ (a : Act). Before s pure w h f (Does a p)) i b)
      by (inr i) = begun (subst (λ (a : Act). Before s pure w h f (Does a p)) i b)
