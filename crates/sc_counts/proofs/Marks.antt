-- Marks that are read alike, where counts change alike.
use Rattle.std.proofs.Common.{◌≡◌, ◌+◌, ◌<◌, ◌≤◌, ◌∙◌, ◌||◌, inl, inr, ℕ, Bool, true, false, List, [], ◌∷◌, map, refl, sym, ap, arith}
use Rattle.std.proofs.lemmas.Bool.{cases_Bool, le-ltb, lt-ltb, ltb-false, ltb-true, or_left, or_right, or_cases, or_from, or_parts}
use Rattle.std.proofs.lemmas.List.Elements.{All-nil, All-cons, All-head, All-tail}
use Rattle.std.specs.Prelude.{nat_lt, if◌then◌else◌}
use Rattle.std.specs.List.{All, list_any}
use Rattle.sc_lockpass.specs.wait_conditions.Reservations.{has_risen, mark_allows, mark_of}
use Rattle.sc_lockpass.specs.declared.wait_conditions.mark.Marked.{Marked}
use Rattle.sc_handler.specs.Handlers.{HandlerStage, Idle, Runs, HasMade, Reserves, Awaits, Service, Handler}
use Rattle.sc_handler.specs.Canonical.{canon_handler, canon_mark, canon_service, canon_stage, uncounted}
use Rattle.sc_counts.specs.Counted.{AreReached, IsHandlerCounted, IsReached, IsServiceCounted, IsStageCounted}

-- ---- one mark

pub not_both : {A : Type 0} (b : Bool) → b ≡ true → b ≡ false → A
not_both true e f = cc
not_both false e f = cc

empty_not : {A : Type 0} (m : Marked) (ms : List Marked) → [] ≡ m ∷ ms → A
empty_not m ms e = cc

head_is : (m n : Marked) (ms ns : List Marked) → m ∷ ms ≡ n ∷ ns → m ≡ n
head_is m n ms ns e = cc

tail_is : (m n : Marked) (ms ns : List Marked) → m ∷ ms ≡ n ∷ ns → ms ≡ ns
tail_is m n ms ns e = cc

if_true : {A : Type 0} (b : Bool) (x y : A) → b ≡ true → (if b then x else y) ≡ x
if_true true x y e = refl
if_true false x y e = cc

if_false : {A : Type 0} (b : Bool) (x y : A) → b ≡ false → (if b then x else y) ≡ y
if_false true x y e = cc
if_false false x y e = refl

pub risen_canon : (S : ℕ → ℕ) (mark : List Marked) → mark_allows S mark ≡ true → canon_mark S mark ≡ []
risen_canon S mark e = if_true (mark_allows S mark) [] (map uncounted mark) e

pub waits_canon : (S : ℕ → ℕ) (mark : List Marked) → mark_allows S mark ≡ false → canon_mark S mark ≡ map uncounted mark
waits_canon S mark e = if_false (mark_allows S mark) [] (map uncounted mark) e

-- one that doesn't allow isn't read as none
waits_some : {A : Type 0} (S : ℕ → ℕ) (mark : List Marked) → mark_allows S mark ≡ false → [] ≡ map uncounted mark → A
waits_some S [] e f = cc
waits_some S (m ∷ ms) e f = empty_not (uncounted m) (map uncounted ms) f

-- ---- counts rise

-- The count of each handler that is one of these has grown by one, each other one is as it was.
abbrev pub Rise : (ℕ → Bool) → (ℕ → ℕ) → (ℕ → ℕ) → Type 0
Rise b S S' = (k : ℕ) → S' k ≡ (if b k then S k + 1 else S k)

-- what a mark is read as then, by what it was read as before
abbrev pub read_by : (ℕ → Bool) → List Marked → List Marked
read_by b ms = if list_any (λ (m : Marked). b m.handler) ms then [] else ms

grown : (b : Bool) (n m : ℕ) → n ≡ (if b then m + 1 else m) → m ≤ n
grown true n m e = omega (arith, e)
grown false n m e = omega (arith, e)

risen_by : (b : Bool) (c n m : ℕ) → n ≡ (if b then m + 1 else m) → c ≤ m → nat_lt c m ≡ false → nat_lt c n ≡ b
risen_by true c n m e up not = lt-ltb c n (omega (arith, e, up))
risen_by false c n m e up not = let l = ltb-false c m not in le-ltb c n (omega (arith, e, l))

module _ (b : ℕ → Bool) (S S' : ℕ → ℕ) (count : ℕ) (rise : Rise b S S') where
  still_risen : (ms : List Marked) → list_any (has_risen S) ms ≡ true → list_any (has_risen S') ms ≡ true
  still_risen [] e = cc
  still_risen (m ∷ ms) e = elim (or_cases (has_risen S m) (list_any (has_risen S) ms) e) [
    | inl here ↦
        let l = ltb-true m.sessions (S m.handler) here in
        let up = grown (b m.handler) (S' m.handler) (S m.handler) (rise m.handler) in
        or_left (has_risen S' m) (list_any (has_risen S') ms) (lt-ltb m.sessions (S' m.handler) (omega (arith, l, up)))
    | inr there ↦ or_right (has_risen S' m) (list_any (has_risen S') ms) (still_risen ms there)
  ]

  still_allows : (mark : List Marked) → mark_allows S mark ≡ true → mark_allows S' mark ≡ true
  still_allows [] e = refl
  still_allows (m ∷ ms) e = still_risen (m ∷ ms) e

  -- where none has risen, one has then whose handler is one of these
  any_rises : (ms : List Marked) → AreReached S count ms → list_any (has_risen S) ms ≡ false → list_any (has_risen S') ms ≡ list_any (λ (m : Marked). b m.handler) (map uncounted ms)
  any_rises [] all e = refl
  any_rises (m ∷ ms) all e =
      let parts = or_parts (has_risen S m) (list_any (has_risen S) ms) e in
      let here : has_risen S' m ≡ b m.handler =
      risen_by (b m.handler) m.sessions (S' m.handler) (S m.handler) (rise m.handler) (All-head (IsReached S count) m ms all).reached parts.0 in
      ap (λ (c : Bool). c || list_any (has_risen S') ms) here
      ∙ ap (λ (c : Bool). b m.handler || c) (any_rises ms (All-tail (IsReached S count) m ms all) parts.1)

  waits_rises : (mark : List Marked) → AreReached S count mark → mark_allows S mark ≡ false → canon_mark S' mark ≡ read_by b (canon_mark S mark)
  waits_rises [] all e = cc
  waits_rises (m ∷ ms) all e =
      ap (λ (c : Bool). if c then [] else map uncounted (m ∷ ms)) (any_rises (m ∷ ms) all e)
      ∙ sym (ap (read_by b) (waits_canon S (m ∷ ms) e))

  allows_rises : (mark : List Marked) → mark_allows S mark ≡ true → canon_mark S' mark ≡ read_by b (canon_mark S mark)
  allows_rises mark e = risen_canon S' mark (still_allows mark e) ∙ sym (ap (read_by b) (risen_canon S mark e))

  -- A mark is read then by what it was read as before.
  pub mark_rises : (mark : List Marked) → AreReached S count mark → canon_mark S' mark ≡ read_by b (canon_mark S mark)
  mark_rises mark all = elim (cases_Bool (mark_allows S mark)) [
    | inl allows ↦ allows_rises mark allows
    | inr waits ↦ waits_rises mark all waits
  ]

-- ---- what is read of a handler

abbrev pub reread_stage : (List Marked → List Marked) → HandlerStage → HandlerStage
reread_stage f Idle = Idle
reread_stage f Runs = Runs
reread_stage f (HasMade k) = HasMade k
reread_stage f (Reserves ks mark) = Reserves ks (f mark)
reread_stage f (Awaits k is_creation) = Awaits k is_creation

abbrev pub reread_service : (List Marked → List Marked) → Service → Service
reread_service f v = record v { over = reread_stage f v.over }

abbrev pub reread : (List Marked → List Marked) → Handler → Handler
reread f x = record x { stage = reread_stage f x.stage; services = map (reread_service f) x.services }

-- Where marks that were reached are read by the new counts as the function says, handlers are.
module _ (S S' : ℕ → ℕ) (count : ℕ) (f : List Marked → List Marked) (marks : (mark : List Marked) → AreReached S count mark → canon_mark S' mark ≡ f (canon_mark S mark)) where
  stage_reads : (st : HandlerStage) → IsStageCounted S count st → canon_stage S' st ≡ reread_stage f (canon_stage S st)
  stage_reads Idle c = refl
  stage_reads Runs c = refl
  stage_reads (HasMade k) c = refl
  stage_reads (Reserves ks mark) c = ap (Reserves ks) (marks mark c.1)
  stage_reads (Awaits k is_creation) c = refl

  services_read : (vs : List Service) → All (IsServiceCounted S count) vs → map (canon_service S') vs ≡ map (reread_service f) (map (canon_service S) vs)
  services_read [] all = refl
  services_read (v ∷ vs) all =
      let over = stage_reads v.over (All-head (IsServiceCounted S count) v vs all).over in
      let rest = services_read vs (All-tail (IsServiceCounted S count) v vs all) in
      λ i. record { posted = v.posted; over = over i } ∷ rest i

  pub handler_reads : (x : Handler) → IsHandlerCounted S count x → canon_handler S' x ≡ reread f (canon_handler S x)
  handler_reads x c =
      let stage = stage_reads x.stage c.stage in
      let services = services_read x.services c.services in
      λ i. record x { stage = stage i; services = services i; sessions = 0 }

-- ---- counts of those that there are stay

stays : (S S' : ℕ → ℕ) (count : ℕ) → ((k : ℕ) → k < count → S' k ≡ S k) → (ms : List Marked) → AreReached S count ms → list_any (has_risen S') ms ≡ list_any (has_risen S) ms
stays S S' count same [] all = refl
stays S S' count same (m ∷ ms) all =
    ap (λ (n : ℕ). nat_lt m.sessions n || list_any (has_risen S') ms) (same m.handler (All-head (IsReached S count) m ms all).below)
    ∙ ap (λ (c : Bool). has_risen S m || c) (stays S S' count same ms (All-tail (IsReached S count) m ms all))

pub mark_stays : (S S' : ℕ → ℕ) (count : ℕ) → ((k : ℕ) → k < count → S' k ≡ S k) → (mark : List Marked) → AreReached S count mark → canon_mark S' mark ≡ canon_mark S mark
mark_stays S S' count same [] all = refl
mark_stays S S' count same (m ∷ ms) all = ap (λ (c : Bool). if c then [] else map uncounted (m ∷ ms)) (stays S S' count same (m ∷ ms) all)

reread_none : (st : HandlerStage) → reread_stage (λ ms. ms) st ≡ st
reread_none Idle = refl
reread_none Runs = refl
reread_none (HasMade k) = refl
reread_none (Reserves ks mark) = refl
reread_none (Awaits k is_creation) = refl

reread_all : (vs : List Service) → map (reread_service (λ ms. ms)) vs ≡ vs
reread_all [] = refl
reread_all (v ∷ vs) =
    let over = reread_none v.over in
    let rest = reread_all vs in
    λ i. record { posted = v.posted; over = over i } ∷ rest i

pub reread_same : (x : Handler) → reread (λ ms. ms) x ≡ x
reread_same x =
    let stage = reread_none x.stage in
    let services = reread_all x.services in
    λ i. record x { stage = stage i; services = services i }

-- ---- the mark of a wait

none_risen : (S : ℕ → ℕ) (ks : List ℕ) → list_any (has_risen S) (mark_of S ks) ≡ false
none_risen S [] = refl
none_risen S (k ∷ ks) = or_from (nat_lt (S k) (S k)) (list_any (has_risen S) (mark_of S ks)) (le-ltb (S k) (S k) (omega arith)) (none_risen S ks)

unmarked : (S : ℕ → ℕ) (ks : List ℕ) → map uncounted (mark_of S ks) ≡ mark_of (λ k. 0) ks
unmarked S [] = refl
unmarked S (k ∷ ks) = ap (λ (ms : List Marked). record { handler = k; sessions = 0 } ∷ ms) (unmarked S ks)

-- It is read by its handlers alone.
pub wait_reads : (S : ℕ → ℕ) (ks : List ℕ) → canon_mark S (mark_of S ks) ≡ mark_of (λ k. 0) ks
wait_reads S [] = refl
wait_reads S (k ∷ ks) = waits_canon S (mark_of S (k ∷ ks)) (none_risen S (k ∷ ks)) ∙ unmarked S (k ∷ ks)

pub wait_reached : (S : ℕ → ℕ) (count : ℕ) (ks : List ℕ) → All (λ k. k < count) ks → AreReached S count (mark_of S ks)
wait_reached S count [] all = All-nil (IsReached S count)
wait_reached S count (k ∷ ks) all =
    All-cons (IsReached S count) (record { handler = k; sessions = S k }) (mark_of S ks)
    (record { below = All-head (λ i. i < count) k ks all; reached = omega arith })
    (wait_reached S count ks (All-tail (λ i. i < count) k ks all))
