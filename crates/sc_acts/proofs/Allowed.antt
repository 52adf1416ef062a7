-- What a routine has where it may create a handler or open a block.
use Rattle.std.proofs.Common.{◌≡◌, ℕ, ◌+◌, ◌≤◌, List, [], Option, Some, None, Bool, true, false, length, refl, sym, ap, subst, arith}
use Rattle.std.proofs.lemmas.Bool.{ltb-true, ltb-false}
use Rattle.std.specs.Prelude.{◌&&◌, not, if◌then◌else◌}
use Rattle.sc_region.specs.declared.job.Want.{Want}
use Rattle.sc_region.specs.declared.value.Value.{Value}
use Rattle.sc_region.specs.Frames.{PlainActivation}
use Rattle.sc_acts.specs.Creating.{has_room}
use Rattle.sc_region.specs.Calls.{last_values}
use Rattle.sc_region.proofs.DeeperOperands.{taken_length}
use Rattle.sc_acts.specs.declared.act.RemoteCreation.{RemoteCreation}
use Rattle.sc_acts.specs.CreatingHandlers.{creation_by, creation_in, may_create}
use Rattle.sc_acts.specs.Blocks.{heads_in, may_open}
use Rattle.sc_acts.specs.Operands.{has_actuals}

and_left : (p q : Bool) → p && q ≡ true → p ≡ true
and_left true q e = refl
and_left false q e = e

and_right : (p q : Bool) → p && q ≡ true → q ≡ true
and_right true q e = e
and_right false q e = cc

not_true : (p : Bool) → not p ≡ true → p ≡ false
not_true true e = sym e
not_true false e = refl

where_some : {A : Type 0} (b : Bool) (x w : A) → (if b then Some x else None) ≡ Some w → b ≡ true
where_some true x w e = refl
where_some false x w e = cc

which_some : {A : Type 0} (b : Bool) (x w : A) → (if b then Some x else None) ≡ Some w → x ≡ w
which_some true x w e = cc
which_some false x w e = cc

none_some : {A : Type 0} (x : A) (P : Type 0) → let none : Option A = None in none ≡ Some x → P
none_some x P e = cc

same_some : {A : Type 0} (x y : A) → Some x ≡ Some y → x ≡ y
same_some x y e = cc

-- ---- a handler is created

room_of : (c : RemoteCreation) (a : PlainActivation) (w : Want) → (if may_create c.count a then Some (creation_by c a) else None) ≡ Some w → has_room c.count a ≡ true
room_of c a w e = and_right (has_actuals c.count a) (has_room c.count a) (where_some (may_create c.count a) (creation_by c a) w e)

room_at : (c : RemoteCreation) (w : Want) (o : Option PlainActivation) (a : PlainActivation) → creation_in c o ≡ Some w → o ≡ Some a → has_room c.count a ≡ true
room_at c w None a e k = none_some a _ k
room_at c w (Some b) a e k =
    subst (λ (q : PlainActivation). has_room c.count q ≡ true) (same_some b a k) (room_of c b w e)

-- the reference has room where a creation is asked
pub creation_room : (c : RemoteCreation) (w : Want) (o : Option PlainActivation) → creation_in c o ≡ Some w → (a : PlainActivation) → o ≡ Some a →
    has_room c.count a ≡ true
creation_room c w o e a k = room_at c w o a e k

-- ---- a block begins

few_of : (n : ℕ) (a : PlainActivation) → has_actuals n a ≡ true → n ≤ 16
few_of n a e = let l = ltb-true n 17 (and_left _ _ e) in omega (arith, l)

many_of : (n : ℕ) (a : PlainActivation) → has_actuals n a ≡ true → n ≤ length a.operands.values
many_of n a e = ltb-false (length a.operands.values) n (not_true _ (and_right _ _ e))

heads_length : (n : ℕ) (a : PlainActivation) (us : List Value) → has_actuals n a ≡ true → last_values n a.operands.values ≡ us → length us ≡ n
heads_length n a us h e = let l = taken_length n [] a.operands.values (many_of n a h) in let m = ap length e in omega (arith, l, m)

few_at : (first n : ℕ) (us : List Value) (o : Option PlainActivation) → heads_in first n o ≡ Some us → length us ≤ 16
few_at first n us None e = none_some us _ e
few_at first n us (Some a) e =
    let may = where_some (may_open first n a) (last_values n a.operands.values) us e in
    let has = and_left (has_actuals n a) _ may in
    let few = few_of n a has in
    let many = heads_length n a us has (which_some (may_open first n a) (last_values n a.operands.values) us e) in
    omega (arith, few, many)

slots_of : (first n : ℕ) (us : List Value) (a : PlainActivation) → heads_in first n (Some a) ≡ Some us → first + length us ≤ length a.slots
slots_of first n us a e =
    let may = where_some (may_open first n a) (last_values n a.operands.values) us e in
    let has = and_left (has_actuals n a) _ may in
    let many = heads_length n a us has (which_some (may_open first n a) (last_values n a.operands.values) us e) in
    let there = ltb-false (length a.slots) (first + n) (not_true _ (and_right (has_actuals n a) _ may)) in
    omega (arith, there, many)

slots_at : (first n : ℕ) (us : List Value) (o : Option PlainActivation) (a : PlainActivation) → heads_in first n o ≡ Some us → o ≡ Some a → first + length us ≤ length a.slots
slots_at first n us None a e k = none_some a _ k
slots_at first n us (Some b) a e k = subst (λ (q : PlainActivation). first + length us ≤ length q.slots) (same_some b a k) (slots_of first n us b e)

-- there are so few heads
pub heads_few : (first n : ℕ) (us : List Value) (o : Option PlainActivation) → Some us ≡ heads_in first n o → length us ≤ 16
heads_few first n us o e = few_at first n us o (sym e)

-- and slots for them
pub heads_slots : (first n : ℕ) (us : List Value) (o : Option PlainActivation) → Some us ≡ heads_in first n o → (a : PlainActivation) → o ≡ Some a →
    first + length us ≤ length a.slots
heads_slots first n us o e a k = slots_at first n us o a (sym e) k
