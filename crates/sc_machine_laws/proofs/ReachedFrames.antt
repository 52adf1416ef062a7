-- In each state that an accepted system reaches, frames follow the evaluation by the definition.
use Rattle.std.proofs.Common.{ℕ, ◌≡◌, ◌<◌, inl, inr, Bool, true, false, List, [], ◌∷◌, None, refl, sym, ap, subst, ◌∙◌}
use Rattle.std.specs.Option.{option_map_or}
use Rattle.std.specs.Prelude.{◌⊎◌, ◌≢◌, if◌then◌else◌, nat_lt}
use Rattle.std.proofs.lemmas.Bool.{ltb-true, ltb-false}
use Rattle.sc_tree.specs.Plain.{System}
use Rattle.sc_class.specs.ClassNames.{Root, number_of}
use Rattle.sc_class.specs.Faults.ClassRules.{IsFaultless}
use Rattle.sc_rules.specs.Names.{RoutineName}
use Rattle.sc_rules.specs.Purity.{IsPurity}
use Rattle.sc_rules.specs.SystemRules.{WellFormed}
use Rattle.sc_model.specs.Handlers.{Frame, Request, World, new_handler}
use Rattle.sc_model.specs.Runs.{IsReached, opening, root_request, run}
use Rattle.sc_model.specs.Turns.{turn, turn_with}
use Rattle.sc_machine_laws.proofs.Moves.{same_or_not}
use Rattle.sc_machine_laws.proofs.settlements.FrameLinks.{one_further}
use Rattle.sc_machine_laws.specs.RequestLaws.{NewIsIdle}
use Rattle.sc_machine_laws.specs.Following.{StackFollows, WorldFollows}
use Rattle.sc_machine_laws.specs.Turns.{OwnFollows, OthersFollow}

module _ (own : OwnFollows) (others : OthersFollow) (new_is_idle : NewIsIdle) (s : System) (root : Root)
    (pure : RoutineName → Bool)
    (faultless : IsFaultless s root) (well : WellFormed s) (tells : IsPurity s pure) (most : ℕ) where
  no_frames : (w : World) (h : ℕ) (stack : List Frame) → stack ≡ [] → StackFollows s pure w h None stack
  no_frames w h [] e = tt
  no_frames w h (f ∷ below) e = cc

  turned : (g : ℕ) (w : World) → IsReached most s root w → WorldFollows s pure w → WorldFollows s pure (turn most s g w)
  turned g w reached follows h here lives = by (same_or_not h g)
    where
      -- the handler of the turn: where there is none nothing changes
      same : h ≡ g → (b : Bool) → nat_lt h w.count ≡ b →
          StackFollows s pure (turn most s g w) h None ((turn most s g w).handlers h).stack
      same e true l = subst (λ (j : ℕ). ((turn most s j w).handlers h).failure ≡ None →
          StackFollows s pure (turn most s j w) h None ((turn most s j w).handlers h).stack) e
          (own s root pure faultless well tells most h w reached follows (ltb-true h w.count l)) lives
      same e false l =
          let still : turn most s g w ≡ w = ap (λ (j : ℕ). turn most s j w) (sym e)
          ∙ ap (λ (b : Bool). if b then turn_with most s h (w.handlers h).failure (w.handlers h).stack w else w) l in
          subst (λ (x : World). h < x.count → (x.handlers h).failure ≡ None →
          StackFollows s pure x h None (x.handlers h).stack) (sym still)
          (follows h) here lives

      other : h ≢ g → (b : Bool) → nat_lt h w.count ≡ b →
          StackFollows s pure (turn most s g w) h None ((turn most s g w).handlers h).stack
      other n true l = others s root pure faultless well tells most g h w reached follows (ltb-true h w.count l) n lives
      other n false l = no_frames (turn most s g w) h ((turn most s g w).handlers h).stack
          (new_is_idle most s root w reached g h (ltb-false h w.count l) n)

      by : (h ≡ g) ⊎ (h ≢ g) → StackFollows s pure (turn most s g w) h None ((turn most s g w).handlers h).stack
      by (inl e) = same e (nat_lt h w.count) refl
      by (inr n) = other n (nat_lt h w.count) refl

  along : (hs : List ℕ) (w : World) → IsReached most s root w → WorldFollows s pure w →
      WorldFollows s pure (run most s hs w)
  along [] w reached follows = follows
  along (h ∷ hs) w reached follows = along hs (turn most s h w) (one_further most s root h w reached)
      (turned h w reached follows)

  opens : WorldFollows s pure (opening s root)
  opens h here lives = by (nat_lt h 1)
    where
      first : List Request
      first = root_request (option_map_or (λ k. k) (number_of s root.class) 0) root.procedure ∷ []

      by : (b : Bool) → StackFollows s pure (opening s root) h None
          (if b then record new_handler { queue = first } else new_handler).stack
      by true = tt
      by false = tt

  -- So it is of each frame in each state that is reached.
  pub reached_follows : (w : World) → IsReached most s root w → WorldFollows s pure w
  reached_follows w reached = subst (WorldFollows s pure) reached.run_is
      (along reached.numbers (opening s root) (record { numbers = []; run_is = refl }) opens)
