-- Rights, step by step: who holds what behind each step, and who may push on a waiting stack.
use Rattle.std.proofs.Common.{ℕ, ◌≡◌, Bool, true, false, List, [], ◌∷◌, Option, Some, None, refl}
use Rattle.std.specs.Prelude.{map}
use Rattle.sc_lockpass.specs.Versions.{most_handlers}
use Rattle.sc_lockpass.specs.declared.version.Version.TheVariants.{One, Two}
use Rattle.sc_lockpass.specs.Rights.{Rights, unreserved, held, reserve, release, release_all}
use Rattle.sc_lockpass.specs.Passing.{pass, passed_by, give_back}

-- ---- the first handler and the last one

pub handlers_of_version_1 : most_handlers One ≡ 64
handlers_of_version_1 = refl

pub handlers_of_version_2 : most_handlers Two ≡ 512
handlers_of_version_2 = refl

abbrev reserved_by_0 : ℕ → Rights
reserved_by_0 k = reserve 0 (k ∷ []) unreserved

-- 0 passes its rights to it, and has them back
abbrev passed_to : ℕ → Rights
passed_to k = pass 0 k (reserved_by_0 k)

abbrev given_back_by : ℕ → Rights
given_back_by k = give_back (passed_by 0 (reserved_by_0 k)) (passed_to k)

abbrev released : ℕ → Rights
released k = release (k ∷ []) (given_back_by k)

-- it fails once it has reserved 0
abbrev failed : ℕ → Rights
failed k = release_all k (reserve k (0 ∷ []) (released k))

-- whether 0 holds it, whether it holds 0, and who may push on the waiting stack of 0
abbrev told : ℕ → Rights → Bool × Bool × Option ℕ
told k r = (held r 0 k, held r k 0, r.top 0)

abbrev steps_with : ℕ → List (Bool × Bool × Option ℕ)
steps_with k = map (told k) (unreserved ∷ reserved_by_0 k ∷ passed_to k ∷ given_back_by k ∷ released k ∷ failed k ∷ [])

abbrev wanted_with : ℕ → List (Bool × Bool × Option ℕ)
wanted_with k =
    (false, false, None) ∷ (true, false, None) ∷ (false, true, Some k) ∷ (true, false, None) ∷ (false, false, None)
    ∷ (false, false, None) ∷ []

pub last_of_version_1 : steps_with 63 ≡ wanted_with 63
last_of_version_1 = refl

pub last_of_version_2 : steps_with 511 ≡ wanted_with 511
last_of_version_2 = refl

-- a handler holds itself, and nobody may push on a stack that isn't there
pub last_holds_itself : held unreserved 63 63 ∷ held unreserved 511 511 ∷ [] ≡ true ∷ true ∷ []
last_holds_itself = refl

pub none_is_behind_the_last : (failed 63).top 600 ∷ (failed 511).top 600 ∷ [] ≡ None ∷ None ∷ []
none_is_behind_the_last = refl

-- ---- 0 asks 2, and 2 asks 3

abbrev three_reserved : Rights
three_reserved = reserve 0 (3 ∷ []) (reserve 0 (2 ∷ []) (reserve 0 (1 ∷ []) unreserved))

abbrev passed_once : Rights
passed_once = pass 0 2 three_reserved

abbrev passed_twice : Rights
passed_twice = pass 2 3 passed_once

abbrev given_back_once : Rights
given_back_once = give_back (passed_by 2 passed_once) passed_twice

abbrev given_back_twice : Rights
given_back_twice = give_back (passed_by 0 three_reserved) given_back_once

pub last_supplier_holds_all :
    held passed_twice 3 0 ∷ held passed_twice 3 1 ∷ held passed_twice 3 2 ∷ held passed_twice 2 1 ∷ held passed_twice 0 1 ∷ []
    ≡ true ∷ true ∷ true ∷ false ∷ false ∷ []
last_supplier_holds_all = refl

pub client_holds_again : held given_back_once 2 1 ≡ true
client_holds_again = refl

pub tops_return : given_back_once.top 0 ∷ given_back_once.top 2 ∷ [] ≡ Some 2 ∷ None ∷ []
tops_return = refl

pub first_client_holds_again :
    held given_back_twice 0 1 ∷ held given_back_twice 0 2 ∷ held given_back_twice 0 3 ∷ held given_back_twice 2 1 ∷ []
    ≡ true ∷ true ∷ true ∷ false ∷ []
first_client_holds_again = refl

pub nobody_may_push_again : given_back_twice.top 0 ≡ None
nobody_may_push_again = refl

-- ---- 0 asks 2, which calls it back; in the callback 0 asks 1: the right on 0's waiting stack was 2's, and returns to 2

abbrev two_reserved : Rights
two_reserved = reserve 0 (2 ∷ []) (reserve 0 (1 ∷ []) unreserved)

abbrev asked : Rights
asked = pass 0 2 two_reserved

abbrev asked_in_callback : Rights
asked_in_callback = pass 0 1 asked

abbrev answered_in_callback : Rights
answered_in_callback = give_back (passed_by 0 asked) asked_in_callback

abbrev answered : Rights
answered = give_back (passed_by 0 two_reserved) answered_in_callback

pub tops_follow :
    asked.top 0 ∷ asked_in_callback.top 0 ∷ answered_in_callback.top 0 ∷ answered.top 0 ∷ [] ≡ Some 2 ∷ Some 1 ∷ Some 2 ∷ None ∷ []
tops_follow = refl

pub others_keep_theirs : held asked_in_callback 2 1 ∷ held answered 0 1 ∷ [] ≡ true ∷ true ∷ []
others_keep_theirs = refl

-- ---- 1 fails while it has the rights of 0; 4 keeps its own

abbrev failed_with_passed : Rights
failed_with_passed = release_all 1 (pass 0 1 (reserve 4 (5 ∷ []) two_reserved))

pub passed_are_released :
    held failed_with_passed 1 2 ∷ held failed_with_passed 0 2 ∷ held failed_with_passed 4 5 ∷ [] ≡ false ∷ false ∷ true ∷ []
passed_are_released = refl

-- so it may be reserved again
pub passed_are_nobodys : failed_with_passed.top 0 ∷ failed_with_passed.queue 2 ∷ [] ≡ None ∷ None ∷ []
passed_are_nobodys = refl
