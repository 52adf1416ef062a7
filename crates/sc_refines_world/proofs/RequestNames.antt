-- The requests that stand at handlers of the machine name what the program has names for, where those of the core do.
use Rattle.std.proofs.Common.{◌≡◌, ◌<◌, ◌++◌, ℕ, zero, suc, Bool, true, false, List, [], ◌∷◌, Option, Some, None, All, length, slice_get, refl, ap, subst, arith}
use Rattle.std.proofs.lemmas.Slice.Eq.{bytes_eq-Decides}
use Rattle.std.specs.Option.{option_map}
use Rattle.std.specs.Prelude.{bytes_eq, map, if◌then◌else◌}
use Rattle.sc_model.specs.Failures.{to_list}
use Rattle.sc_model.specs.Handlers as machine
use Rattle.sc_handler.specs.Handlers.{Posted, State}
use Rattle.sc_handler.specs.Changes as changes
use Rattle.sc_request.specs.Asked.{errand_of}
use Rattle.sc_request.specs.Halves.{IsHalfOf, posted_of}
use Rattle.sc_refines_world.specs.regions.RegionSteps.{AreNamed, IsNamed, number_among, numbering_by}
use Rattle.sc_refines_world.specs.regions.Taking as coded
use Rattle.sc_machine_laws.specs.states.Points.{Each}
use Rattle.sc_machine_laws.proofs.states.Lists.{each_append}
use Rattle.sc_refines_world.proofs.Asked.{AllAsk}

-- a name that stands at its number among the names is that one
found_name : (x : List ℕ) (names : List (List ℕ)) (y : List ℕ) → slice_get names (number_among x names) ≡ Some y → slice_get names (number_among x names) ≡ Some x
found_name x [] y e = cc
found_name x (z ∷ names) y e = by (bytes_eq z x) refl e (found_name x names y)
  where
    by : (b : Bool) → bytes_eq z x ≡ b → slice_get (z ∷ names) (if b then zero else suc (number_among x names)) ≡ Some y →
        (slice_get names (number_among x names) ≡ Some y → slice_get names (number_among x names) ≡ Some x) →
        slice_get (z ∷ names) (if b then zero else suc (number_among x names)) ≡ Some x
    by true is e later = ap (λ (t : List ℕ). Some t) ((bytes_eq-Decides z x).0 is)
    by false is e later = later e

errand_named : (names : List (List ℕ)) (class : ℕ) (e : machine.Errand) → coded.IsNamed names (errand_of (numbering_by names) class e) → IsNamed names e
errand_named names class (machine.Calls x) (y, is) = found_name x names y is
errand_named names class (machine.Makes (Some x)) (y, is) = found_name x names y is
errand_named names class (machine.Makes None) is = tt

each_all : {A : Type 0} (P : A → Type 0) (xs : List A) → Each P xs → All P xs
each_all P [] is k d l = absurd (omega (arith, l))
each_all P (x ∷ xs) is zero d l = is.0
each_all P (x ∷ xs) is (suc k) d l = let short : k < length xs = omega (arith, l) in each_all P xs is.1 k d short

module _ (names : List (List ℕ)) where
  abbrev Named : machine.Request → Type 0
  Named r = IsNamed names r.errand

  abbrev IsNamedIn : Posted → Type 0
  IsNamedIn p = coded.IsNamed names p.request.errand

  queue_named : (rs : List machine.Request) → Each IsNamedIn (map (posted_of (numbering_by names)) rs) → Each Named rs
  queue_named [] is = tt
  queue_named (r ∷ rs) is = (errand_named names r.target.class r.errand is.0, queue_named rs is.1)

  callback_named : (o : Option machine.Request) → Each IsNamedIn (changes.to_list (option_map (posted_of (numbering_by names)) o)) → Each Named (to_list o)
  callback_named None is = tt
  callback_named (Some r) is = (errand_named names r.target.class r.errand is.0, tt)

  -- so it is at each handler
  pub are_named : (w : machine.World) (s : State) → IsHalfOf (numbering_by names) w s → AllAsk (coded.IsNamed names) s → (k : ℕ) → AreNamed names (w.handlers k)
  are_named w s half all k =
      let x = w.handlers k in
      let q : Each Named x.queue = queue_named x.queue (subst (Each IsNamedIn) (half.handlers k).queue (all k).0) in
      let c : Each Named (to_list x.callback) =
      callback_named x.callback (subst (λ (o : Option Posted). Each IsNamedIn (changes.to_list o)) (half.handlers k).callback (all k).1) in
      each_all Named (x.queue ++ to_list x.callback) (each_append Named x.queue (to_list x.callback) q c)
