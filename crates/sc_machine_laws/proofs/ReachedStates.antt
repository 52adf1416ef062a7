-- In each state that an accepted system reaches, settled objects meet their class invariants.
use Rattle.std.proofs.Common.{ℕ, zero, suc, ◌≡◌, ⊎_elim, inl, inr, Bool, true, false, List, [], ◌∷◌, ◌++◌, Some, refl, sym, ap, subst, ◌∙◌}
use Rattle.std.proofs.lemmas.List.Elements.{All-nil, All-cons, All-head, All-tail}
use Rattle.std.specs.Prelude.{All, if◌then◌else◌, nat_lt, slice_get}
use Rattle.std.specs.Option.{option_map_or}
use Rattle.sc_tree.specs.Plain.{System}
use Rattle.sc_class.specs.ClassNames.{Root, number_of}
use Rattle.sc_class.specs.Faults.ClassRules.{IsFaultless}
use Rattle.sc_rules.specs.Names.{RoutineName}
use Rattle.sc_rules.specs.Purity.{IsPurity}
use Rattle.sc_rules.specs.SystemRules.{WellFormed}
use Rattle.sc_rules.proofs.PurityStands.{purity_stands}
use Rattle.sc_model.specs.Handlers.{Frame, World, new_handler}
use Rattle.sc_model.specs.Invariants.{MeetsInvariant}
use Rattle.sc_model.specs.Runs.{IsReached, opening, root_request, run}
use Rattle.sc_model.specs.Settled.{IsNoCurrent}
use Rattle.sc_model.specs.Turns.{turn}
use Rattle.sc_model.proofs.Joins.{run_append}
use Rattle.sc_machine_laws.specs.states.Fitting.{WorldFits}
use Rattle.sc_machine_laws.proofs.states.ValueAwaitedEnds.{turns_keep_it}
use Rattle.sc_machine_laws.proofs.states.ValueOpening.{opening_fits}
use Rattle.sc_machine_laws.specs.SettledObjects.{FreeMeetWhereReached, SettledMeetAfterTurns, SettledMeetWhereReached}
use Rattle.sc_machine_laws.proofs.Numbered.{numbered_suc}
use Rattle.sc_machine_laws.proofs.SystemTurns.{turn_all}
use Rattle.sc_machine_laws.proofs.Stacks.{Covered, Good, empty_good}

-- ---- runs

further : (most : ℕ) (s : System) (root : Root) (h : ℕ) (w : World) → IsReached most s root w → IsReached most s root (turn most s h w)
further most s root h w r = record { numbers = r.numbers ++ h ∷ []; run_is = run_append most s r.numbers (h ∷ []) (opening s root) ∙ ap (turn most s h) r.run_is }

module _ (s : System) (root : Root) (pure : RoutineName → Bool) (faultless : IsFaultless s root) (well : WellFormed s) (tells : IsPurity s pure) (most : ℕ) where
  abbrev pub IsGood : World → Type 0
  IsGood w = (k : ℕ) → Good s pure (w.handlers k)

  along : (hs : List ℕ) (w : World) → IsReached most s root w → WorldFits s pure w → IsGood w → IsGood (run most s hs w)
  along [] w r fits good = good
  along (h ∷ hs) w r fits good =
      along hs (turn most s h w) (further most s root h w r) (turns_keep_it s root pure faultless well tells most h w r fits)
      (turn_all s root pure faultless well tells most h w fits good)

  opening_good : IsGood (opening s root)
  opening_good k = by (nat_lt k 1)
    where
      by : (b : Bool) → Good s pure
          (if b then record new_handler { queue = root_request (option_map_or (λ k. k) (number_of s root.class) 0) root.procedure ∷ [] } else new_handler)
      by true = λ n. empty_good s pure (root_request (option_map_or (λ k. k) (number_of s root.class) 0) root.procedure ∷ []) (inr (refl, (refl, (refl, tt))))
      by false = λ n. empty_good s pure [] (inl tt)

  pub reached_good : (w : World) → IsReached most s root w → IsGood w
  reached_good w r = subst IsGood r.run_is
      (along r.numbers (opening s root) (record { numbers = []; run_is = refl }) (opening_fits s root pure faultless) opening_good)

-- ---- settled objects

-- no frame covers an object that none has as Current
uncovered : (s : System) (pure : RoutineName → Bool) (n : ℕ) (stack : List Frame) → IsNoCurrent n stack → Covered s pure n stack → ⊥
uncovered s pure n [] a c = c
uncovered s pure n (f ∷ below) a (inl c) = All-head (λ (f : Frame). f.current.number ≡ n → ⊥) f below a c.0
uncovered s pure n (f ∷ below) a (inr c) = uncovered s pure n below (All-tail (λ (f : Frame). f.current.number ≡ n → ⊥) f below a) c

pub settled_objects_meet : SettledMeetWhereReached
settled_objects_meet s root faultless well most w reached h number o here settled there = by (purity_stands s)
  where
    by : (pure : RoutineName → Bool) × IsPurity s pure → MeetsInvariant s o
    by (pure, tells) =
        ⊎_elim (λ m. m o there) (λ c. absurd (uncovered s pure number (w.handlers h).stack settled.at_rest c))
        ((reached_good s root pure faultless well tells most w reached h settled.stands).meet number)

pub settled_objects_meet_after_turns : SettledMeetAfterTurns
settled_objects_meet_after_turns s root faultless well most h w reached =
    settled_objects_meet s root faultless well most (turn most s h w) (further most s root h w reached)

-- ---- free handlers

all_at : {A : Type 0} (P : A → Type 0) (xs : List A) → ((i : ℕ) (x : A) → slice_get xs i ≡ Some x → P x) → All P xs
all_at P [] f = All-nil P
all_at P (x ∷ xs) f = All-cons P x xs (f zero x refl) (all_at P xs (λ i y e. f (suc i) y e))

pub free_objects_meet : FreeMeetWhereReached
free_objects_meet s root faultless well most w reached h here free =
    all_at (MeetsInvariant s) (w.handlers h).objects (λ i o e. settled_objects_meet s root faultless well most w reached h (suc i) o here
    (record { stands = free.stands; at_rest = subst (IsNoCurrent (suc i)) (sym free.idle) (All-nil (λ (f : Frame). f.current.number ≡ suc i → ⊥)) })
    (numbered_suc i (w.handlers h).objects ∙ e))
