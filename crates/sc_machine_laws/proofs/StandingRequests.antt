-- The requests that stand at a handler, place by place beside those of the world of rights.
use Rattle.std.proofs.Common.{◌≡◌, ◌≢◌, ◌⊎◌, ⊎_elim, inl, inr, ℕ, suc, ◌<◌, true, false, List, [], ◌∷◌, ◌++◌, Option, Some, None, refl, sym, ap, ◌∙◌, subst}
use Rattle.std.specs.Prelude.{Contains}
use Rattle.std.specs.List.{flat_map}
use Rattle.std.proofs.lemmas.List.{append-nil, append_assoc}
use Rattle.sc_model.specs.Handlers as machine
use Rattle.sc_model.specs.Handlers.{Called, Requested, Runs, Reserves, ReservesBlock, InCall, Awaits}
use Rattle.sc_model.specs.Failures.{request_of, to_list, requests_at}
use Rattle.sc_machine_laws.specs.states.World.{Request, Frame, Handler, and_this, and_begun, requests_of}
use Rattle.sc_machine_laws.specs.states.Steps.{waits_for}
use Rattle.sc_machine_laws.specs.states.Consistent.{HasWait, IsBegun, IsOrdered, IsOne, HasNumber, AreNumbered}
use Rattle.sc_machine_laws.specs.states.Stands.{NeedsOf, NamesOf, IsRequest, AreRequests, IsCallback, IsOrigin, IsRoutine, AreBlocks, Place, place_of, IsStaged, IsStack, IsHandler}
use Rattle.sc_machine_laws.proofs.states.MachineFrames.{contains_none, contains_cases}
use Rattle.sc_machine_laws.proofs.states.Waits.{no_wait}

-- ---- one of a list

one_left : (r : Request) (xs ys : List Request) → IsOne r xs → IsOne r (xs ++ ys)
one_left r [] ys i = absurd i
one_left r (x ∷ xs) ys (inl e) = inl e
one_left r (x ∷ xs) ys (inr i) = inr (one_left r xs ys i)

one_right : (r : Request) (xs ys : List Request) → IsOne r ys → IsOne r (xs ++ ys)
one_right r [] ys i = i
one_right r (x ∷ xs) ys i = inr (one_right r xs ys i)

one_cases : (r : Request) (xs ys : List Request) → IsOne r (xs ++ ys) → IsOne r xs ⊎ IsOne r ys
one_cases r [] ys i = inr i
one_cases r (x ∷ xs) ys (inl e) = inl (inl e)
one_cases r (x ∷ xs) ys (inr i) = ⊎_elim (λ a. inl (inr a)) (λ b. inr b) (one_cases r xs ys i)

one_swapped : (r : Request) (xs ys : List Request) → IsOne r (xs ++ ys) → IsOne r (ys ++ xs)
one_swapped r xs ys i = ⊎_elim (λ a. one_right r ys xs a) (λ b. one_left r ys xs b) (one_cases r xs ys i)

one_number : (r : Request) (xs : List Request) → IsOne r xs → HasNumber r.number xs
one_number r [] i = absurd i
one_number r (x ∷ xs) (inl e) = inl (ap (λ (y : Request). y.number) e)
one_number r (x ∷ xs) (inr i) = inr (one_number r xs i)

-- ---- numbers

number_left : (m : ℕ) (xs ys : List Request) → HasNumber m xs → HasNumber m (xs ++ ys)
number_left m [] ys i = absurd i
number_left m (x ∷ xs) ys (inl e) = inl e
number_left m (x ∷ xs) ys (inr i) = inr (number_left m xs ys i)

number_right : (m : ℕ) (xs ys : List Request) → HasNumber m ys → HasNumber m (xs ++ ys)
number_right m [] ys i = i
number_right m (x ∷ xs) ys i = inr (number_right m xs ys i)

number_cases : (m : ℕ) (xs ys : List Request) → HasNumber m (xs ++ ys) → HasNumber m xs ⊎ HasNumber m ys
number_cases m [] ys i = inr i
number_cases m (x ∷ xs) ys (inl e) = inl (inl e)
number_cases m (x ∷ xs) ys (inr i) = ⊎_elim (λ a. inl (inr a)) (λ b. inr b) (number_cases m xs ys i)

number_swapped : (m : ℕ) (xs ys : List Request) → HasNumber m (xs ++ ys) → HasNumber m (ys ++ xs)
number_swapped m xs ys i = ⊎_elim (λ a. number_right m ys xs a) (λ b. number_left m ys xs b) (number_cases m xs ys i)

numbered_with : (n : ℕ) (q : Request) (ys xs : List Request) → q.number < n → (HasNumber q.number (ys ++ xs) → ⊥) →
    AreNumbered n (ys ++ xs)
    → AreNumbered n (ys ++ q ∷ xs)
numbered_with n q [] xs lt none is = (lt, none, is)
numbered_with n q (y ∷ ys) xs lt none is = (
  is.0,
  (λ i. ⊎_elim
      (λ a. is.1 (number_left y.number ys xs a))
      (λ b. ⊎_elim (λ e. none (inl (sym e))) (λ c. is.1 (number_right y.number ys xs c)) b)
      (number_cases y.number ys (q ∷ xs) i)),
  numbered_with n q ys xs lt (λ i. none (inr i)) is.2,
)

numbered_swapped : (n : ℕ) (xs ys : List Request) → AreNumbered n (xs ++ ys) → AreNumbered n (ys ++ xs)
numbered_swapped n [] ys is = subst (AreNumbered n) (sym (append-nil ys)) is
numbered_swapped n (x ∷ xs) ys is = numbered_with n x ys xs is.0 (λ i. is.1 (number_swapped x.number ys xs i))
    (numbered_swapped n xs ys is.2)

-- ---- place by place

-- the two stand at the same place of the two lists
abbrev pub PairAt : List Request → List machine.Request → Request → machine.Request → Type 0
PairAt [] qs a b = ⊥
PairAt (r ∷ rs) [] a b = ⊥
PairAt (r ∷ rs) (q ∷ qs) a b = ((r ≡ a) × (q ≡ b)) ⊎ PairAt rs qs a b

pub pair_one : (rs : List Request) (qs : List machine.Request) (a : Request) (b : machine.Request) →
    PairAt rs qs a b → IsOne a rs
pair_one [] qs a b p = absurd p
pair_one (r ∷ rs) [] a b p = absurd p
pair_one (r ∷ rs) (q ∷ qs) a b (inl e) = inl e.0
pair_one (r ∷ rs) (q ∷ qs) a b (inr p) = inr (pair_one rs qs a b p)

pub pair_is : (rs : List Request) (qs : List machine.Request) (a : Request) (b : machine.Request) → AreRequests rs qs →
    PairAt rs qs a b → IsRequest a b
pair_is [] qs a b is p = absurd p
pair_is (r ∷ rs) [] a b is p = absurd p
pair_is (r ∷ rs) (q ∷ qs) a b is (inl e) = subst (λ y. IsRequest a y) e.1 (subst (λ x. IsRequest x q) e.0 is.0)
pair_is (r ∷ rs) (q ∷ qs) a b is (inr p) = pair_is rs qs a b is.1 p

-- where numbers differ, those of one number stand at one place
pub pair_same : (n : ℕ) (rs : List Request) (qs : List machine.Request) (a c : Request) (b d : machine.Request) →
    AreNumbered n rs → PairAt rs qs a b
    → PairAt rs qs c d → a.number ≡ c.number → b ≡ d
pair_same n [] qs a c b d is p o e = absurd p
pair_same n (r ∷ rs) [] a c b d is p o e = absurd p
pair_same n (r ∷ rs) (q ∷ qs) a c b d is (inl p) (inl o) e = sym p.1 ∙ o.1
pair_same n (r ∷ rs) (q ∷ qs) a c b d is (inl p) (inr o) e =
    absurd (is.1 (subst (λ m. HasNumber m rs) (sym (ap (λ (y : Request). y.number) p.0 ∙ e))
    (one_number c rs (pair_one rs qs c d o))))
pair_same n (r ∷ rs) (q ∷ qs) a c b d is (inr p) (inl o) e =
    absurd (is.1 (subst (λ m. HasNumber m rs) (e ∙ sym (ap (λ (y : Request). y.number) o.0))
    (one_number a rs (pair_one rs qs a b p))))
pair_same n (r ∷ rs) (q ∷ qs) a c b d is (inr p) (inr o) e = pair_same n rs qs a c b d is.2 p o e

pub pair_before : (xs ys : List Request) (ps qs : List machine.Request) (a : Request) (b : machine.Request) →
    PairAt xs ps a b → PairAt (xs ++ ys) (ps ++ qs) a b
pair_before [] ys ps qs a b p = absurd p
pair_before (x ∷ xs) ys [] qs a b p = absurd p
pair_before (x ∷ xs) ys (q ∷ ps) qs a b (inl e) = inl e
pair_before (x ∷ xs) ys (q ∷ ps) qs a b (inr p) = inr (pair_before xs ys ps qs a b p)

pub pair_behind : (xs ys : List Request) (ps qs : List machine.Request) (a : Request) (b : machine.Request) →
    AreRequests xs ps → PairAt ys qs a b
    → PairAt (xs ++ ys) (ps ++ qs) a b
pair_behind [] ys [] qs a b is p = p
pair_behind [] ys (q ∷ ps) qs a b is p = absurd is
pair_behind (x ∷ xs) ys [] qs a b is p = absurd is
pair_behind (x ∷ xs) ys (q ∷ ps) qs a b is p = inr (pair_behind xs ys ps qs a b is.1 p)

pub pair_of : (rs : List Request) (qs : List machine.Request) (b : machine.Request) → AreRequests rs qs →
    Contains qs b → (a : Request) × PairAt rs qs a b
pair_of [] [] b is i = contains_none b i
pair_of [] (q ∷ qs) b is i = absurd is
pair_of (r ∷ rs) [] b is i = absurd is
pair_of (r ∷ rs) (q ∷ qs) b is i = ⊎_elim
    (λ e. (r, inl (refl, e)))
    (λ later. let p = pair_of rs qs b is.1 later in (p.0, inr p.1))
    (contains_cases q qs b i)

pub both : (xs ys : List Request) (ps qs : List machine.Request) → AreRequests xs ps → AreRequests ys qs →
    AreRequests (xs ++ ys) (ps ++ qs)
both [] ys [] qs is rest = rest
both [] ys (q ∷ ps) qs is rest = absurd is
both (x ∷ xs) ys [] qs is rest = absurd is
both (x ∷ xs) ys (q ∷ ps) qs is rest = (is.0, both xs ys ps qs is.1 rest)

-- A request, and what stands elsewhere: the numbers differ.
pub record Apart (rs : List Request) (q : machine.Request) (qs : List machine.Request) : Type 0 where
  pub request : Request
  pub is : IsRequest request q
  pub stands : IsOne request rs
  pub others : (b : machine.Request) → Contains qs b → (c : Request) × IsRequest c b × IsOne c rs
      × (c.number ≢ request.number)

pub apart : (n : ℕ) (rs : List Request) (before behind : List machine.Request) (q : machine.Request) → AreNumbered n rs
    → AreRequests rs (before ++ q ∷ behind) → Apart rs q (before ++ behind)
apart n [] [] behind q numbered is = absurd is
apart n [] (y ∷ before) behind q numbered is = absurd is
apart n (r ∷ rs) [] behind q numbered is = record {
  request = r;
  is = is.0;
  stands = inl refl;
  others = λ b i. let p = pair_of rs behind b is.1 i in
      let one = pair_one rs behind p.0 b p.1 in (
        p.0,
        pair_is rs behind p.0 b is.1 p.1,
        inr one,
        (λ e. numbered.1 (subst (λ m. HasNumber m rs) e (one_number p.0 rs one))),
      );
}
apart n (r ∷ rs) (y ∷ before) behind q numbered is =
    let a = apart n rs before behind q numbered.2 is.1 in
    record {
      request = a.request;
      is = a.is;
      stands = inr a.stands;
      others = λ b i. ⊎_elim
          (λ e. (
            r,
            subst (IsRequest r) e is.0,
            inl refl,
            (λ same. numbered.1 (subst (λ m. HasNumber m rs) (sym same) (one_number a.request rs a.stands))),
          ))
          (λ later. let c = a.others b later in (c.0, c.1, inr c.2, c.3))
          (contains_cases y (before ++ behind) b i);
    }

-- ---- those of a stack

-- the requests that began the frames of a stack
abbrev pub begun_on : List machine.Frame → List machine.Request
begun_on st = flat_map (λ (f : machine.Frame). request_of f.origin) st

abbrev pub begun_in : List Frame → List Request
begun_in gs = and_begun gs []

origin_requests : (o : Option Request) (p : machine.Origin) (rs : List Request) (qs : List machine.Request) →
    IsOrigin o p → AreRequests rs qs
    → AreRequests (and_this o rs) (request_of p ++ qs)
origin_requests None (Called c) rs qs is rest = rest
origin_requests None (Requested q) rs qs is rest = absurd is
origin_requests (Some r) (Called c) rs qs is rest = absurd is
origin_requests (Some r) (Requested q) rs qs is rest = (is, rest)

blocks_requests : (C : ℕ → List ℕ → Type 0) (kss : List (List ℕ)) (f : machine.Frame) (N : List ℕ → Type 0)
    (st : List machine.Frame)
    (below : (gs : List Frame) → IsStack st gs → AreRequests (begun_in gs) (begun_on st)) (gs : List Frame)
    → AreBlocks C kss (IsRoutine f N (IsStack st)) gs → AreRequests (begun_in gs) (request_of f.origin ++ begun_on st)
blocks_requests C [] f N st below [] is = absurd is
blocks_requests C [] f N st below (g ∷ gs) is = origin_requests g.origin f.origin (begun_in gs) (begun_on st) is.0
    (below gs is.2)
blocks_requests C (ks ∷ kss) f N st below [] is = absurd is
blocks_requests C (ks ∷ kss) f N st below (g ∷ gs) is =
    subst (λ o. AreRequests (and_this o (begun_in gs)) (request_of f.origin ++ begun_on st)) (sym is.0)
    (blocks_requests (λ i. C (suc i)) kss f N st below gs is.3)

staged_requests : (x : machine.Stage) (at : Place) (C : ℕ → List ℕ → Type 0) (f : machine.Frame) (N : List ℕ → Type 0)
    (st : List machine.Frame)
    (below : (gs : List Frame) → IsStack st gs → AreRequests (begun_in gs) (begun_on st)) (gs : List Frame)
    → IsStaged x at (AreBlocks C f.blocks (IsRoutine f N (IsStack st))) gs →
    AreRequests (begun_in gs) (request_of f.origin ++ begun_on st)
staged_requests Runs at C f N st below gs is = blocks_requests C f.blocks f N st below gs is.1
staged_requests Reserves at C f N st below gs is = blocks_requests C f.blocks f N st below gs is.1
staged_requests ReservesBlock at C f N st below gs is = blocks_requests C f.blocks f N st below gs is.1
staged_requests (InCall gives) at C f N st below gs is = blocks_requests C f.blocks f N st below gs is.1
staged_requests (Awaits k gives false) at C f N st below gs is = blocks_requests C f.blocks f N st below gs is.1
staged_requests (Awaits k gives true) at C f N st below [] is = absurd is.1
staged_requests (Awaits k gives true) at C f N st below (g ∷ gs) is =
    subst (λ o. AreRequests (and_this o (begun_in gs)) (request_of f.origin ++ begun_on st)) (sym is.1.0)
    (blocks_requests C f.blocks f N st below gs is.1.3)

stack_requests : (st : List machine.Frame) (gs : List Frame) → IsStack st gs → AreRequests (begun_in gs) (begun_on st)
stack_requests [] [] is = tt
stack_requests [] (g ∷ gs) is = absurd is
stack_requests (f ∷ st) gs is = staged_requests f.stage (place_of f st) (NamesOf f.stage f) f (NeedsOf f.stage f) st
    (stack_requests st) gs is

-- ---- those of a handler

abbrev pub this_if : Option Request → List Request
this_if None = []
this_if (Some r) = r ∷ []

-- in the order of the machine
abbrev pub standing : Handler → List Request
standing g = g.requests ++ this_if g.callback ++ begun_in g.stack

pub callback_requests : (o : Option Request) (c : Option machine.Request) → IsCallback o c →
    AreRequests (this_if o) (to_list c)
callback_requests None None is = tt
callback_requests None (Some q) is = absurd is
callback_requests (Some r) None is = absurd is
callback_requests (Some r) (Some q) is = (is, tt)

pub standing_is : (g : Handler) (x : machine.Handler) → IsHandler g x → AreRequests (standing g) (requests_at x)
standing_is g x is = both (g.requests ++ this_if g.callback) (begun_in g.stack) (x.queue ++ to_list x.callback)
    (begun_on x.stack)
    (both g.requests (this_if g.callback) x.queue (to_list x.callback) is.requests
    (callback_requests g.callback x.callback is.callback))
    (stack_requests x.stack g.stack is.stack)

begun_order : (fs : List Frame) (rs : List Request) → and_begun fs rs ≡ begun_in fs ++ rs
begun_order [] rs = refl
begun_order (f ∷ fs) rs = by f.origin (begun_order fs rs)
  where
    by : (o : Option Request) → and_begun fs rs ≡ begun_in fs ++ rs → and_this o (and_begun fs rs) ≡ and_this o
        (begun_in fs) ++ rs
    by None e = e
    by (Some r) e = ap (λ qs. r ∷ qs) e

order : (g : Handler) → requests_of g ≡ (this_if g.callback ++ begun_in g.stack) ++ g.requests
order g = by g.callback
  where
    by : (o : Option Request) → and_this o (and_begun g.stack g.requests)
        ≡ (this_if o ++ begun_in g.stack) ++ g.requests
    by None = begun_order g.stack g.requests
    by (Some r) = ap (λ qs. r ∷ qs) (begun_order g.stack g.requests)

pub standing_one : (g : Handler) (r : Request) → IsOne r (standing g) → IsOne r (requests_of g)
standing_one g r i = subst (IsOne r) (sym (order g)) (one_swapped r g.requests (this_if g.callback ++ begun_in g.stack)
    (subst (IsOne r) (append_assoc g.requests (this_if g.callback) (begun_in g.stack)) i))

pub standing_numbered : (n : ℕ) (g : Handler) → AreNumbered n (requests_of g) → AreNumbered n (standing g)
standing_numbered n g is = subst (AreNumbered n) (sym (append_assoc g.requests (this_if g.callback) (begun_in g.stack)))
    (numbered_swapped n (this_if g.callback ++ begun_in g.stack) g.requests (subst (AreNumbered n) (order g) is))

-- ---- the routine of a request, on top

pub record Begins (q : machine.Request) (gs : List Frame) : Type 0 where
  pub request : Request
  pub others : List Request
  pub is : begun_in gs ≡ request ∷ others
  pub older : (n : ℕ) → HasWait n gs → n < request.number

some_origin : (o : Option Request) (q : machine.Request) → IsOrigin o (Requested q) → (r : Request) × (o ≡ Some r)
some_origin None q is = absurd is
some_origin (Some r) q is = (r, refl)

pub blocks_begin : (C : ℕ → List ℕ → Type 0) (kss : List (List ℕ)) (f : machine.Frame) (N : List ℕ → Type 0)
    (B : List Frame → Type 0)
    (q : machine.Request) (gs : List Frame) → f.origin ≡ Requested q → waits_for gs ≡ None → IsOrdered gs
    → AreBlocks C kss (IsRoutine f N B) gs → Begins q gs
blocks_begin C [] f N B q [] begun quiet ordered is = absurd is
blocks_begin C [] f N B q (g ∷ gs) begun quiet ordered is =
    let o = some_origin g.origin q (subst (IsOrigin g.origin) begun is.0) in
    record {
      request = o.0;
      others = begun_in gs;
      is = ap (λ x. and_this x (begun_in gs)) o.1;
      older = λ n has. ⊎_elim (λ i. no_wait n g.waits quiet i)
          (λ i. (subst (λ x. IsBegun x gs) o.1 ordered.0).0 n i) has;
    }
blocks_begin C (ks ∷ kss) f N B q [] begun quiet ordered is = absurd is
blocks_begin C (ks ∷ kss) f N B q (g ∷ gs) begun quiet ordered is =
    let b = blocks_begin (λ i. C (suc i)) kss f N B q gs begun is.2 ordered.1 is.3 in
    record {
      request = b.request;
      others = b.others;
      is = ap (λ x. and_this x (begun_in gs)) is.0 ∙ b.is;
      older = λ n has. ⊎_elim (λ i. no_wait n g.waits quiet i) (λ i. b.older n i) has;
    }
