-- Each state that a run of the machine reaches has a lawful world of rights that stands for it.
use Rattle.std.proofs.Common.{◌≡◌, ℕ, ◌<◌, ◌==◌, Bool, true, false, List, [], ◌∷◌, Option, refl, sym, ap, subst, arith}
use Rattle.std.specs.Prelude.{nat_lt, if◌then◌else◌}
use Rattle.std.specs.Option.{option_map_or}
use Rattle.std.proofs.lemmas.Bool.{eq-eqb, ne_eqb, ltb-true, ltb-false}
use Rattle.sc_tree.specs.Plain.{System}
use Rattle.sc_class.specs.ClassNames.{Root, number_of}
use Rattle.sc_machine_laws.specs.states.World.{Asked, World}
use Rattle.sc_machine_laws.specs.states.Steps.{Steps}
use Rattle.sc_machine_laws.specs.states.Lawful.{IsLawful, resting, root, opening}
use Rattle.sc_machine_laws.specs.states.Stands.{IsRequest, IsHandler, IsNew, Stands}
use Rattle.sc_machine_laws.proofs.states.LawProofs.{rows_are_lawful, opening_is_lawful}
use Rattle.sc_machine_laws.proofs.states.Returned.{listed_returns}
use Rattle.sc_machine_laws.proofs.states.Opening.{empty}
use Rattle.sc_machine_laws.proofs.states.Named.{named, named_lawful, AllAsk, steps_all}
use Rattle.sc_machine_laws.proofs.states.links.FrameSteps.{Keeps}
use Rattle.sc_machine_laws.proofs.states.links.Failures.{Leads}
use Rattle.sc_machine_laws.proofs.states.links.Turns.{asked_of, turn_leads}
use Rattle.sc_machine_laws.proofs.states.links.Sound.{IsHandlerSound, IsSound, new_sound}
use Rattle.sc_machine_laws.proofs.states.links.SoundTurns.{turn_sound}
use Rattle.sc_machine_laws.proofs.states.links.FittingActs.{stack_fits}
use Rattle.sc_model.specs.Handlers as machine
use Rattle.sc_model.specs.Handlers.{new_handler}
use Rattle.sc_model.specs.Turns.{turn}
use Rattle.sc_model.specs.Runs as runs
use Rattle.sc_model.specs.Runs.{root_request, run}

-- what each step keeps
pub lawful_keeps : Keeps IsLawful
lawful_keeps = record {
  kept = rows_are_lawful;
  consistent = λ w law. law.consistent;
  returns = λ w h r p law ends has. listed_returns w law h r p ends has;
}

-- ---- the opening

not_true : {A : Type 0} → false ≡ true → A
not_true e = cc

is_resting : IsHandler (resting []) new_handler
is_resting = record { failed = refl; stack = tt; requests = tt; callback = tt; answer = refl }

is_opening : (q : machine.Request) → IsRequest root q → IsHandler (resting (root ∷ [])) (record new_handler { queue = q ∷ [] })
is_opening q is = record { failed = refl; stack = tt; requests = (is, tt); callback = tt; answer = refl }

pub opening_stands : (s : System) (r : Root) → Stands opening (runs.opening s r)
opening_stands s r = record {
  handlers = λ k. by k (nat_lt k 1) refl;
  rights = refl;
  new = λ k le. (
    subst IsNew (sym (ap (λ (b : Bool). if b then resting (root ∷ []) else resting []) (ne_eqb k 0 (λ e. omega (arith, le, e)))))
        (record { failed = refl; stack = refl; requests = refl; callback = refl; answer = refl }),
    refl,
    refl,
  );
}
  where
    by : (k : ℕ) (b : Bool) → nat_lt k 1 ≡ b
        → IsHandler (if k == 0 then resting (root ∷ []) else resting [])
        (if b then record new_handler { queue = root_request (option_map_or (λ k. k) (number_of s r.class) 0) r.procedure ∷ [] } else new_handler)
    by k true e =
        let lt = ltb-true k 1 e in
        subst (λ (b : Bool). IsHandler (if b then resting (root ∷ []) else resting [])
        (record new_handler { queue = root_request (option_map_or (λ k. k) (number_of s r.class) 0) r.procedure ∷ [] }))
        (sym (eq-eqb k 0 (omega (arith, lt))))
        (is_opening (root_request (option_map_or (λ k. k) (number_of s r.class) 0) r.procedure)
        (record { poster = refl; waited = refl; passed = refl; plain = λ i. refl; asked = λ i. not_true i }))
    by k false e =
        let le = ltb-false k 1 e in
        subst (λ (b : Bool). IsHandler (if b then resting (root ∷ []) else resting []) new_handler)
        (sym (ne_eqb k 0 (λ i. omega (arith, le, i)))) is_resting

opening_sound : (s : System) (r : Root) → IsSound (runs.opening s r)
opening_sound s r k = by (nat_lt k 1) refl
  where
    by : (b : Bool) → nat_lt k 1 ≡ b → IsHandlerSound (λ j. j < 1) k
        (if b then record new_handler { queue = root_request (option_map_or (λ k. k) (number_of s r.class) 0) r.procedure ∷ [] } else new_handler)
    by true e = let lt = ltb-true k 1 e in record {
      objects = tt;
      stack = tt;
      queue = (record { target = omega (arith, lt); actuals = tt }, tt);
      callback = tt;
      answer = tt;
    }
    by false e = new_sound (λ j. j < 1) k

-- ---- runs

-- Steps lead to it from the opening; before each turn is chosen what its request asks for.
pub data IsLedTo : World → Type 0 where
  opens : IsLedTo opening
  goes : (w v : World) (a : Option Asked) → IsLedTo w → Steps (named a w) v → IsLedTo v

-- a world of rights, to which steps lead, stands for the state
pub record Linked (m : machine.World) : Type 0 where
  pub world : World
  pub reached : IsLedTo world
  pub law : IsLawful world
  pub stands : Stands world m
  pub sound : IsSound m

-- what the turn asks for doesn't count for the state
named_stands : (a : Option Asked) (w : World) (m : machine.World) → Stands w m → Stands (named a w) m
named_stands a w m s = record { handlers = s.handlers; rights = s.rights; new = s.new }

turn_led : (most : ℕ) (s : System) (h : ℕ) (m : machine.World) → (l : Linked m) → Leads (named (asked_of s h m) l.world) (turn most s h m)
turn_led most s h m l =
    let a = asked_of s h m in
    turn_leads IsLawful lawful_keeps most s h (named a l.world) m refl (named_lawful a l.world l.law) (named_stands a l.world m l.stands)
    (stack_fits s h m l.sound)

abbrev turn_linked : (most : ℕ) (s : System) (h : ℕ) (m : machine.World) → Linked m → Linked (turn most s h m)
turn_linked most s h m l =
    let a = asked_of s h m in
    let n = turn_led most s h m l in
    record {
      world = n.world;
      reached = goes l.world n.world a l.reached n.steps;
      law = rows_are_lawful (named a l.world) n.world n.steps (named_lawful a l.world l.law);
      stands = n.stands;
      sound = turn_sound most s h m l.sound;
    }

run_linked : (most : ℕ) (s : System) (hs : List ℕ) (m : machine.World) → Linked m → Linked (run most s hs m)
run_linked most s [] m l = l
run_linked most s (h ∷ hs) m l = run_linked most s hs (turn most s h m) (turn_linked most s h m l)

pub opening_linked : (s : System) (r : Root) → Linked (runs.opening s r)
opening_linked s r = record {
  world = opening;
  reached = opens;
  law = opening_is_lawful;
  stands = opening_stands s r;
  sound = opening_sound s r;
}

-- ---- what waits have asked

-- so it is of what each frame that waits has asked
pub record Paired (P : Option Asked → Type 0) (m : machine.World) : Type 0 where
  pub linked : Linked m
  pub asks : (k : ℕ) → AllAsk P (linked.world.handlers k).stack

pub turn_paired : (P : Option Asked → Type 0) (most : ℕ) (s : System) (h : ℕ) (m : machine.World) → P (asked_of s h m) → Paired P m
    → Paired P (turn most s h m)
turn_paired P most s h m new p =
    let n = turn_led most s h m p.linked in
    record {
      linked = turn_linked most s h m p.linked;
      asks = (steps_all P (named (asked_of s h m) p.linked.world) n.world n.steps (new, p.asks)).1;
    }

pub opening_paired : (P : Option Asked → Type 0) (s : System) (r : Root) → Paired P (runs.opening s r)
unfolding opening_linked
opening_paired P s r = record { linked = opening_linked s r; asks = λ k. subst (AllAsk P) (sym (empty k)) tt }

-- Every state that is reached is one for which a world of rights stands to which steps lead.
pub reached_linked : (most : ℕ) (s : System) (r : Root) (m : machine.World) → runs.IsReached most s r m → Linked m
reached_linked most s r m is = subst Linked is.run_is (run_linked most s is.numbers (runs.opening s r) (opening_linked s r))

pub reached_stands : (most : ℕ) (s : System) (r : Root) (m : machine.World) → runs.IsReached most s r m → (t : World) × IsLawful t × Stands t m
reached_stands most s r m is = let l = reached_linked most s r m is in (l.world, l.law, l.stands)
