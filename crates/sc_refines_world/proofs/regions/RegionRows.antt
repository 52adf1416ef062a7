-- Systems played by core and regions together, with what must come of them.
use Rattle.std.proofs.Common.{ℕ, ◌≡◌, true, false, List, [], ◌∷◌, ◌++◌, Some, None, refl}
use Rattle.std.specs.Prelude.{ℤ, pos, neg_ℤ, codes}
use Rattle.std.specs.Fmt.{signed_decimal}
use Rattle.sc_tree.specs.declared.expression.BinaryOperator.TheVariants as binary
use Rattle.sc_tree.specs.Plain.{System, Class, Feature, Expr, Instr}
use Rattle.sc_model.specs.declared.cause.Cause.TheVariants.{Invariant, Check, Precondition, UnsetEntity, SupplierFailed}
use Rattle.sc_model.specs.declared.status.Status.TheVariants.{Failed, Busy, Waiting, Free}
use Rattle.sc_model.proofs.Texts.{detachable, the_result, void, old, block, ensuring, heir_of, own, separate, integer, declared, number, truth, the_current, entity, on, both, assign, assign_result, call, print, call_on, create, create_by, check, attribute, routine, procedure, class, application, system}
use Rattle.sc_model.proofs.PlayedTurns.{rounds}
use Rattle.sc_refines_world.proofs.regions.RegionPlays.{played, outcome}

-- the entity compares so with the number
abbrev is_equal : Expr → ℤ → Expr
is_equal e z = both e binary.Equal (number z)

-- ---- one handler

-- a counter whose `make` has this body, and whose invariant is that it isn't negative
abbrev counter : List Instr → System
counter is = system (application
    (attribute (codes "n") integer ∷ procedure (codes "make") [] is
    ∷ procedure (codes "raise") [] (assign (codes "n") (both (entity (codes "n")) binary.Plus (number (pos 1))) ∷ [])
    ∷ procedure (codes "dip") [] (assign (codes "n") (both (entity (codes "n")) binary.Minus (number (pos 1))) ∷ [])
    ∷ procedure (codes "mend") [] (assign (codes "n") (number (pos 0)) ∷ []) ∷ [])
    (both (entity (codes "n")) binary.GreaterEqual (number (pos 0)) ∷ []) ∷ [])

abbrev raising : System
raising = counter (call (codes "raise") [] ∷ print (entity (codes "n")) ∷ [])

-- the turns are: take, enter `raise`, exit, print, exit
pub raising_ends : outcome (played raising (0 ∷ 0 ∷ 0 ∷ 0 ∷ 0 ∷ [])) ≡ (false, (Free, 0, signed_decimal (pos 1)) ∷ [])
raising_ends = refl

pub raising_is_cut_off : outcome (played raising (0 ∷ 0 ∷ 0 ∷ 0 ∷ [])) ≡ (true, (Busy, 0, signed_decimal (pos 1)) ∷ [])
raising_is_cut_off = refl

-- unqualified exits test nothing
pub dipping_and_mending_ends :
    outcome (played (counter (call (codes "dip") [] ∷ call (codes "mend") [] ∷ [])) (0 ∷ 0 ∷ 0 ∷ 0 ∷ 0 ∷ 0 ∷ [])) ≡ (false, (Free, 0, []) ∷ [])
dipping_and_mending_ends = refl

pub dipping_fails : outcome (played (counter (call (codes "dip") [] ∷ [])) (0 ∷ 0 ∷ 0 ∷ 0 ∷ [])) ≡ (false, (Failed Invariant, 0, []) ∷ [])
dipping_fails = refl

-- a counter with a function that a precondition calls
abbrev guarded : System
guarded = system (application
    (attribute (codes "n") integer ∷ procedure (codes "make") [] (call (codes "raise") [] ∷ [])
    ∷ routine (codes "is_small") [] (Some (own (codes "boolean"))) [] (assign_result (both (entity (codes "n")) binary.Less (number (pos 3))) ∷ [])
    ∷ routine (codes "raise") [] None (entity (codes "is_small") ∷ []) (assign (codes "n") (number (pos 3)) ∷ []) ∷ []) [] ∷ [])

pub guarded_ends : outcome (played guarded (0 ∷ 0 ∷ 0 ∷ 0 ∷ 0 ∷ 0 ∷ 0 ∷ [])) ≡ (false, (Free, 0, []) ∷ [])
guarded_ends = refl

-- `old` has the value before the body
pub old_is_kept :
    outcome (played (system (application
    (attribute (codes "n") integer ∷ procedure (codes "make") [] (call (codes "raise") [] ∷ [])
    ∷ ensuring (codes "raise") None (assign (codes "n") (number (pos 3)) ∷ []) (both (old (entity (codes "n"))) binary.Less (entity (codes "n")) ∷ []) ∷ []) [] ∷ []))
    (0 ∷ 0 ∷ 0 ∷ 0 ∷ []))
    ≡ (false, (Free, 0, []) ∷ [])
old_is_kept = refl

-- `f` gives Void, as its postcondition says; the heir may redefine it with an attached result
abbrev giving_void : List (List ℕ) → List Feature → System
giving_void redefined fs = system (
    heir_of (codes "base") redefined (application (fs ++ procedure (codes "make") [] (print (both (entity (codes "f")) binary.Equal void) ∷ []) ∷ []) [])
    ∷ class (codes "base") [] (ensuring (codes "f") (Some (detachable (codes "base"))) [] (both the_result binary.Equal void ∷ []) ∷ []) [] ∷ [])

pub void_is_given : outcome (played (giving_void [] []) (0 ∷ 0 ∷ 0 ∷ 0 ∷ 0 ∷ [])) ≡ (false, (Free, 0, codes "True") ∷ [])
void_is_given = refl

-- in the contract that is kept Result has the redefinition's type
pub result_is_unset :
    outcome (played (giving_void (codes "f" ∷ []) (routine (codes "f") [] (Some (own (codes "base"))) [] [] ∷ [])) (0 ∷ 0 ∷ 0 ∷ []))
    ≡ (false, (Failed UnsetEntity, 0, []) ∷ [])
result_is_unset = refl

-- ---- two handlers

abbrev cell : Class
cell = class (codes "cell") (codes "set" ∷ [])
    (attribute (codes "item") integer ∷ procedure (codes "set") (declared (codes "v") integer ∷ []) (assign (codes "item") (entity (codes "v")) ∷ []) ∷ []) []

abbrev setting : System
setting = system (application
    (attribute (codes "s") (separate (codes "cell"))
    ∷ procedure (codes "make") [] (create_by (codes "s") (codes "set") (number (pos 4) ∷ []) ∷ call (codes "use") (entity (codes "s") ∷ []) ∷ [])
    ∷ procedure (codes "use") (declared (codes "c") (separate (codes "cell")) ∷ [])
    (call_on (codes "c") (codes "set") (number (pos 5) ∷ []) ∷ print (on (codes "c") (codes "item") []) ∷ []) ∷ []) [] ∷ cell ∷ [])

pub setting_ends :
    outcome (played setting (0 ∷ 0 ∷ 0 ∷ 0 ∷ 1 ∷ 1 ∷ 0 ∷ 0 ∷ 0 ∷ 1 ∷ 1 ∷ 1 ∷ 0 ∷ 0 ∷ 0 ∷ 0 ∷ [])) ≡ (false, (Free, 0, signed_decimal (pos 5)) ∷ (Free, 0, []) ∷ [])
setting_ends = refl

-- ---- wait conditions and correctness conditions

abbrev buffer : Class
buffer = class (codes "buffer") []
    (attribute (codes "item") integer ∷ attribute (codes "count") integer
    ∷ routine (codes "put") (declared (codes "v") integer ∷ []) None (is_equal (entity (codes "count")) (pos 0) ∷ [])
    (assign (codes "item") (entity (codes "v")) ∷ assign (codes "count") (number (pos 1)) ∷ [])
    ∷ routine (codes "remove") [] None (is_equal (entity (codes "count")) (pos 1) ∷ []) (assign (codes "count") (number (pos 0)) ∷ []) ∷ [])
    (both (is_equal (entity (codes "count")) (pos 0)) binary.Or (is_equal (entity (codes "count")) (pos 1)) ∷ [])

abbrev consumer : Class
consumer = class (codes "consumer") (codes "make" ∷ [])
    (routine (codes "make") (declared (codes "x") (separate (codes "buffer")) ∷ []) None (is_equal (on (codes "x") (codes "count") []) (pos 1) ∷ [])
    (print (on (codes "x") (codes "item") []) ∷ call_on (codes "x") (codes "remove") [] ∷ []) ∷ []) []

abbrev producer : Class
producer = class (codes "producer") (codes "make" ∷ [])
    (routine (codes "make") (declared (codes "x") (separate (codes "buffer")) ∷ []) None (is_equal (on (codes "x") (codes "count") []) (pos 0) ∷ [])
    (call_on (codes "x") (codes "put") (number (pos 7) ∷ []) ∷ []) ∷ []) []

abbrev exchanging : System
exchanging = system (application
    (attribute (codes "b") (separate (codes "buffer")) ∷ attribute (codes "p") (separate (codes "producer")) ∷ attribute (codes "c") (separate (codes "consumer"))
    ∷ procedure (codes "make") []
    (create (codes "b") ∷ create_by (codes "c") (codes "make") (entity (codes "b") ∷ []) ∷ create_by (codes "p") (codes "make") (entity (codes "b") ∷ []) ∷ []) ∷ []) []
    ∷ buffer ∷ consumer ∷ producer ∷ [])

pub exchanging_ends :
    outcome (played exchanging
    (0 ∷ 0 ∷ 0 ∷ 0 ∷ 0 ∷ 1 ∷ 2 ∷ 2 ∷ 2 ∷ 1 ∷ 2 ∷ 2 ∷ 2 ∷ 3 ∷ 3 ∷ 3 ∷ 1 ∷ 3 ∷ 3 ∷ 3 ∷ 3 ∷ 1 ∷ 1 ∷ 1 ∷ 2 ∷ 2 ∷ 1 ∷ 2 ∷ 2 ∷ 2 ∷ 1 ∷ 2 ∷ 2 ∷ 2 ∷ 2 ∷ 1 ∷ 1 ∷ 1 ∷ []))
    ≡ (false, (Free, 0, []) ∷ (Free, 0, []) ∷ (Free, 0, signed_decimal (pos 7)) ∷ (Free, 0, []) ∷ [])
exchanging_ends = refl

abbrev holding : System
holding = system (application
    (attribute (codes "b") (separate (codes "buffer"))
    ∷ procedure (codes "make") [] (create (codes "b") ∷ call (codes "hold") (entity (codes "b") ∷ []) ∷ [])
    ∷ procedure (codes "hold") (declared (codes "x") (separate (codes "buffer")) ∷ []) (call (codes "drain") (entity (codes "x") ∷ []) ∷ [])
    ∷ routine (codes "drain") (declared (codes "x") (separate (codes "buffer")) ∷ []) None (is_equal (on (codes "x") (codes "count") []) (pos 1) ∷ [])
    (call_on (codes "x") (codes "remove") [] ∷ []) ∷ []) [] ∷ buffer ∷ [])

-- what is held already makes no wait condition
pub holding_fails : outcome (played holding (rounds 12 (0 ∷ 1 ∷ []))) ≡ (false, (Failed Precondition, 0, []) ∷ (Free, 0, []) ∷ [])
holding_fails = refl

abbrev using : System
using = system (application
    (attribute (codes "b") (separate (codes "buffer"))
    ∷ procedure (codes "make") [] (create (codes "b") ∷ call (codes "use") (entity (codes "b") ∷ []) ∷ [])
    ∷ procedure (codes "use") (declared (codes "x") (separate (codes "buffer")) ∷ []) (call_on (codes "x") (codes "remove") [] ∷ []) ∷ []) [] ∷ buffer ∷ [])

-- a refusal that nobody waits for is counted
pub using_is_refused : outcome (played using (rounds 12 (0 ∷ 1 ∷ []))) ≡ (false, (Free, 0, []) ∷ (Free, 1, []) ∷ [])
using_is_refused = refl

-- ---- separate blocks

abbrev blocking : System
blocking = system (application
    (attribute (codes "b") (separate (codes "buffer"))
    ∷ procedure (codes "make") []
    (create (codes "b") ∷ block (entity (codes "b")) (codes "x") (call_on (codes "x") (codes "put") (number (pos 7) ∷ []) ∷ print (on (codes "x") (codes "item") []) ∷ []) ∷ []) ∷ []) []
    ∷ buffer ∷ [])

pub blocking_ends : outcome (played blocking (rounds 14 (0 ∷ 1 ∷ []))) ≡ (false, (Free, 0, signed_decimal (pos 7)) ∷ (Free, 0, []) ∷ [])
blocking_ends = refl

-- ---- callbacks

abbrev calling_back : List Instr → System
calling_back is = system (application
    (attribute (codes "n") integer ∷ attribute (codes "w") (separate (codes "worker"))
    ∷ procedure (codes "make") [] (create (codes "w") ∷ call (codes "go") (entity (codes "w") ∷ []) ∷ print (entity (codes "n")) ∷ [])
    ∷ procedure (codes "go") (declared (codes "x") (separate (codes "worker")) ∷ []) is
    ∷ procedure (codes "bump") [] (assign (codes "n") (both (entity (codes "n")) binary.Plus (number (pos 1))) ∷ print (entity (codes "n")) ∷ []) ∷ [])
    (both (entity (codes "n")) binary.GreaterEqual (number (pos 0)) ∷ [])
    ∷ class (codes "worker") []
    (procedure (codes "serve") (declared (codes "a") (separate (codes "application")) ∷ []) (call_on (codes "a") (codes "bump") [] ∷ print (on (codes "a") (codes "n") []) ∷ []) ∷ []) []
    ∷ [])

abbrev served : Instr
served = call_on (codes "x") (codes "serve") (the_current ∷ [])

pub calling_back_ends :
    outcome (played (calling_back (served ∷ [])) (0 ∷ 0 ∷ 0 ∷ 1 ∷ 0 ∷ 0 ∷ 1 ∷ 1 ∷ 1 ∷ 0 ∷ 0 ∷ 0 ∷ 1 ∷ 1 ∷ 0 ∷ 1 ∷ 1 ∷ 1 ∷ 0 ∷ 0 ∷ 0 ∷ 0 ∷ []))
    ≡ (false, (Free, 0, signed_decimal (pos 1) ++ signed_decimal (pos 1)) ∷ (Free, 0, signed_decimal (pos 1)) ∷ [])
calling_back_ends = refl

-- the callback's exit finds the invariant false
pub calling_back_fails :
    outcome (played (calling_back (assign (codes "n") (number (neg_ℤ (pos 2))) ∷ served ∷ assign (codes "n") (number (pos 0)) ∷ [])) (rounds 12 (0 ∷ 1 ∷ [])))
    ≡ (false, (Failed Invariant, 0, signed_decimal (neg_ℤ (pos 1))) ∷ (Failed SupplierFailed, 0, []) ∷ [])
calling_back_fails = refl

-- ---- rights passed twice, then a failure

abbrev relaying : System
relaying = system (application
    (attribute (codes "b") (separate (codes "node")) ∷ attribute (codes "c") (separate (codes "node")) ∷ attribute (codes "d") (separate (codes "node"))
    ∷ attribute (codes "e") (separate (codes "late"))
    ∷ procedure (codes "make") []
    (create (codes "d") ∷ create (codes "b") ∷ create (codes "c") ∷ create_by (codes "e") (codes "run") (entity (codes "d") ∷ [])
    ∷ call (codes "go") (entity (codes "b") ∷ entity (codes "c") ∷ entity (codes "d") ∷ []) ∷ [])
    ∷ procedure (codes "go")
    (declared (codes "x") (separate (codes "node")) ∷ declared (codes "y") (separate (codes "node")) ∷ declared (codes "z") (separate (codes "node")) ∷ [])
    (call_on (codes "x") (codes "relay") (the_current ∷ entity (codes "y") ∷ []) ∷ []) ∷ []) []
    ∷ class (codes "node") []
    (attribute (codes "hits") integer
    ∷ procedure (codes "hit") [] (assign (codes "hits") (both (entity (codes "hits")) binary.Plus (number (pos 1))) ∷ [])
    ∷ procedure (codes "relay") (declared (codes "p") (separate (codes "application")) ∷ declared (codes "q") (separate (codes "node")) ∷ [])
    (call_on (codes "q") (codes "fall") (entity (codes "p") ∷ []) ∷ [])
    ∷ procedure (codes "fall") (declared (codes "p") (separate (codes "application")) ∷ []) (check (truth false) ∷ []) ∷ []) []
    ∷ class (codes "late") (codes "run" ∷ [])
    (procedure (codes "run") (declared (codes "x") (separate (codes "node")) ∷ []) (call_on (codes "x") (codes "hit") [] ∷ print (on (codes "x") (codes "hits") []) ∷ []) ∷ []) []
    ∷ [])

pub relaying_fails :
    outcome (played relaying (rounds 30 (0 ∷ 1 ∷ 2 ∷ 3 ∷ 4 ∷ [])))
    ≡ (false, (Failed SupplierFailed, 0, []) ∷ (Free, 0, []) ∷ (Failed SupplierFailed, 0, []) ∷ (Failed Check, 0, []) ∷ (Free, 0, signed_decimal (pos 1)) ∷ [])
relaying_fails = refl

-- ---- two that wait for each other

abbrev asking_each_other : System
asking_each_other = system (application
    (attribute (codes "me") (separate (codes "application")) ∷ attribute (codes "w") (separate (codes "worker"))
    ∷ procedure (codes "make") [] (assign (codes "me") the_current ∷ create (codes "w") ∷ call (codes "go") (entity (codes "w") ∷ []) ∷ [])
    ∷ procedure (codes "go") (declared (codes "x") (separate (codes "worker")) ∷ []) (print (on (codes "x") (codes "ask") (entity (codes "me") ∷ [])) ∷ []) ∷ []) []
    ∷ class (codes "worker") []
    (routine (codes "ask") (declared (codes "p") (separate (codes "application")) ∷ []) (Some integer) [] (assign_result (number (pos 1)) ∷ []) ∷ []) []
    ∷ [])

pub asking_each_other_waits : outcome (played asking_each_other (rounds 10 (0 ∷ 1 ∷ []))) ≡ (false, (Waiting, 0, []) ∷ (Waiting, 0, []) ∷ [])
asking_each_other_waits = refl
