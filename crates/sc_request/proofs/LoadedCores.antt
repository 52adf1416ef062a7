-- Cores into which states are put.
use Rattle.std.proofs.Common.{◌≡◌, ◌∙◌, ◌≤◌, ◌<◌, ◌+◌, ◌==◌, inl, inr, ℕ, zero, suc, true, false, List, [], ◌∷◌, Option, Some, None, length, map, take, refl, sym, ap, subst, arith}
use Rattle.std.proofs.Math.Path.{fun_ext}
use Rattle.std.proofs.lemmas.Bool.{cases_lt, eq-eqb, ne_eqb}
use Rattle.std.proofs.lemmas.Option.{slice_get_past}
use Rattle.std.proofs.lemmas.List.{length-map}
use Rattle.std.specs.Prelude.{get_or, is_some, slice_get, slice_index, if◌then◌else◌}
use Rattle.std.specs.List.{All}
use Rattle.std.specs.Option.{option_and_then}
use Rattle.std.proofs.lemmas.List.Elements.{All-head, All-tail}
use Rattle.sc_lockpass.specs.Rights.{Rights}
use Rattle.sc_lockpass.specs.Tables.{Table, is_member, rights_of}
use Rattle.sc_region.specs.declared.job.Job.{Job}
use Rattle.sc_handler.specs.declared.handler.Handler as coded
use Rattle.sc_handler.specs.Handlers.{Handler, is_reserving, new_handler}
use Rattle.sc_handler.specs.Canonical.{canon_handler}
use Rattle.sc_handler.specs.InMemory.{handler_of}
use Rattle.sc_request.specs.declared.handler_set.HandlerSet.{HandlerSet}
use Rattle.sc_request.specs.declared.parts.Part.{Part}
use Rattle.sc_request.specs.Candidates.{AreCandidates, AreReserving, HasGrantsBelow, HasOutsBelow, is_granted}
use Rattle.sc_request.specs.Crowds.{AreCrowds, crowd_at}
use Rattle.sc_request.specs.Loading.{AreNewPlaces, CountsFor, HaveParts}
use Rattle.sc_request.specs.Logs.{pick_for}
use Rattle.sc_request.specs.Parts.{NameBelow, PlainPart, new_part, none_ended, part_in, part_of, parts_in, state_with}
use Rattle.sc_request.specs.Sound.{IsSound, IsSoundHandler}
use Rattle.sc_request.specs.Tables.{center, handler_at, handler_in, out_at, out_total, state_of}
use Rattle.sc_request.proofs.GrantedReservations.{below_count}
use Rattle.sc_request.proofs.JobKinds.{some_of}
use Rattle.sc_request.proofs.Outs.{some_is}
use Rattle.sc_request.proofs.ReadParts.{handler_again}
use Rattle.sc_request.proofs.SoundHandlers.{new_is}
use Rattle.sc_request.proofs.SoundParts.{part_sound}

-- ---- handlers that are at home

-- None of the handlers is out.
abbrev pub AreAllHome : List coded.Handler → Type 0
AreAllHome xs = (k : ℕ) → out_at xs k ≡ None

none_counted : (o : Option Job) (n : ℕ) → o ≡ None → n ≡ 0 → (if is_some o then n + 1 else n) ≡ 0
none_counted None n e f = f
none_counted (Some j) n e f = cc

pub home_total : (xs : List coded.Handler) → AreAllHome xs → out_total xs ≡ 0
home_total [] all = refl
home_total (x ∷ xs) all = none_counted x.out (out_total xs) (all zero) (home_total xs (λ j. all (suc j)))

pub home_outs : (most : ℕ) (xs : List coded.Handler) → AreAllHome xs → HasOutsBelow most xs
home_outs most xs all h j is = let never : None ≡ Some j = sym (all h) ∙ is in cc

pub home_grants : (most : ℕ) (xs : List coded.Handler) → AreAllHome xs → HasGrantsBelow most xs
home_grants most xs all h k is = let never : false ≡ true = sym (ap (λ (o : Option Job). is_granted o k) (all h)) ∙ is in cc

-- ---- one more

get_mapped : {A B : Type 0} (f : A → B) (xs : List A) (k : ℕ) (x : A) → slice_get xs k ≡ Some x → slice_get (map f xs) k ≡ Some (f x)
get_mapped f [] k x e = cc
get_mapped f (y ∷ xs) zero x e = let same : y ≡ x = cc in ap (λ z. Some (f z)) same
get_mapped f (y ∷ xs) (suc k) x e = get_mapped f xs k x e

get_taken : {A : Type 0} (xs : List A) (i k : ℕ) (x : A) → slice_get (take i xs) k ≡ Some x → slice_get xs k ≡ Some x
get_taken xs zero k x e = cc
get_taken [] (suc i) k x e = cc
get_taken (y ∷ xs) (suc i) zero x e = e
get_taken (y ∷ xs) (suc i) (suc k) x e = get_taken xs i k x e

none_never : {A : Type 0} (x : A) → None ≡ Some x → ⊥
none_never x e = cc

numbered_is : (T : List Part) (number : ℕ) (p : Part) → slice_get T number ≡ Some p → get_or (map part_of T) number new_part ≡ part_of p
numbered_is [] number p e = absurd (none_never p e)
numbered_is (q ∷ T) zero p e = ap part_of (some_is q p e)
numbered_is (q ∷ T) (suc number) p e = numbered_is T number p e

-- the part of the number at the place
pub part_there : (T : List Part) (ns : List ℕ) (k number : ℕ) (p : Part) → slice_get ns k ≡ Some number → slice_get T number ≡ Some p →
    part_in (slice_get (parts_in T ns) k) ≡ part_of p
part_there T ns k number p e f = ap part_in (get_mapped (λ n. get_or (map part_of T) n new_part) ns k number e) ∙ numbered_is T number p f

pub counts_more : (T : List Part) (ns : List ℕ) (i number most more : ℕ) (p : Part) → slice_get ns i ≡ Some number → slice_get T number ≡ Some p →
    most ≤ more → p.settlements ≤ more → CountsFor T (take i ns) most → CountsFor T (take (suc i) ns) more
counts_more T ns i number most more p e f least own so_far k other q there its = elim (cases_lt k i) [
  | inl below ↦
      let few = so_far k other q (taken_below ns i k other (get_taken ns (suc i) k other there) below) its in omega (arith, few, least)
  | inr past ↦
      let at : slice_get ns k ≡ Some other = get_taken ns (suc i) k other there in
      let short = length_taken ns (suc i) k other there in
      let here : k ≡ i = omega (arith, past, short) in
      let same_number : other ≡ number = some_is other number (sym at ∙ ap (slice_get ns) here ∙ e) in
      let same : q ≡ p = some_is q p (sym its ∙ ap (slice_get T) same_number ∙ f) in
      subst (λ (z : Part). z.settlements ≤ more) (sym same) own
]
  where
    taken_below : (xs : List ℕ) (n j x : ℕ) → slice_get xs j ≡ Some x → j < n → slice_get (take n xs) j ≡ Some x
    taken_below xs zero j x e l = absurd (omega (arith, l))
    taken_below [] (suc n) j x e l = e
    taken_below (y ∷ xs) (suc n) zero x e l = e
    taken_below (y ∷ xs) (suc n) (suc j) x e l = taken_below xs n j x e (omega (arith, l))

    length_taken : (xs : List ℕ) (n j x : ℕ) → slice_get (take n xs) j ≡ Some x → j < n
    length_taken xs zero j x e = cc
    length_taken [] (suc n) j x e = cc
    length_taken (y ∷ xs) (suc n) zero x e = omega arith
    length_taken (y ∷ xs) (suc n) (suc j) x e = let l = length_taken xs n j x e in omega (arith, l)

-- ---- those that have the parts, and new ones past them

part_past : (T : List Part) (ns : List ℕ) (k : ℕ) → length ns ≤ k → part_in (slice_get (parts_in T ns) k) ≡ new_part
part_past T ns k far =
    let many : length (parts_in T ns) ≡ length ns = length-map ns (λ n. get_or (map part_of T) n new_part) in
    ap part_in (slice_get_past (parts_in T ns) k (omega (arith, many, far)))

module _ (T : List Part) (ns : List ℕ) (xs ys : List coded.Handler) (have : HaveParts (length ns) T ns ys)
    (put : (k : ℕ) → k < length ns → slice_get xs k ≡ slice_get ys k) (new : AreNewPlaces (length ns) xs) where
  pub parts_at : (k : ℕ) → handler_in (slice_get xs k) ≡ (part_in (slice_get (parts_in T ns) k)).handler
  parts_at k = elim (cases_lt k (length ns)) [
    | inl below ↦ ap handler_in (put k below) ∙ (have k below).0
    | inr far ↦ (new k far).0 ∙ ap (λ (p : PlainPart). p.handler) (sym (part_past T ns k far))
  ]

  pub parts_home : AreAllHome xs
  parts_home k = elim (cases_lt k (length ns)) [
    | inl below ↦ ap (λ (o : Option coded.Handler). option_and_then (λ (x : coded.Handler). x.out) o) (put k below) ∙ (have k below).1
    | inr far ↦ (new k far).1
  ]

-- ---- holders

-- The rights that are given to the handlers of all parts are those of the state of the parts.
pub rights_whole : (T : List Part) (ns : List ℕ) (r : Rights) (n : ℕ) → length ns ≤ n →
    ((k : ℕ) → k < n → r.queue k ≡ (part_in (slice_get (parts_in T ns) k)).queue) → ((k : ℕ) → k < n → r.top k ≡ (part_in (slice_get (parts_in T ns) k)).top) →
    ((k : ℕ) → n ≤ k → r.queue k ≡ None) → ((k : ℕ) → n ≤ k → r.top k ≡ None) → r ≡ (state_with 0 (parts_in T ns)).rights
rights_whole T ns r n all queue top queue_past top_past =
    let many : length (parts_in T ns) ≡ length ns = length-map ns (λ m. get_or (map part_of T) m new_part) in
    let past : (k : ℕ) → n ≤ k → part_in (slice_get (parts_in T ns) k) ≡ new_part =
    λ k far. ap part_in (slice_get_past (parts_in T ns) k (omega (arith, many, all, far))) in
    let queues : r.queue ≡ (λ k. (part_in (slice_get (parts_in T ns) k)).queue) = fun_ext (λ k. elim (cases_lt k n) [
      | inl below ↦ queue k below
      | inr far ↦ queue_past k far ∙ sym (ap (λ (p : PlainPart). p.queue) (past k far))
    ]) in
    let tops : r.top ≡ (λ k. (part_in (slice_get (parts_in T ns) k)).top) = fun_ext (λ k. elim (cases_lt k n) [
      | inl below ↦ top k below
      | inr far ↦ top_past k far ∙ sym (ap (λ (p : PlainPart). p.top) (past k far))
    ]) in
    λ i. record { queue = queues i; top = tops i }

pub put_at : (f g : ℕ → Option ℕ) (n : ℕ) (q : Option ℕ) → q ≡ g n → ((k : ℕ) → k < n → f k ≡ g k) → (k : ℕ) → k < n + 1 → (if k == n then q else f k) ≡ g k
put_at f g n q is each k few = elim (cases_lt k n) [
  | inl below ↦ rw (ne_eqb k n (λ e. omega (arith, below, e))) (each k below)
  | inr past ↦ let e : k ≡ n = omega (arith, past, few) in rw (eq-eqb k n e) (is ∙ ap g (sym e))
]

pub other_at : (f : ℕ → Option ℕ) (n : ℕ) (q : Option ℕ) (k : ℕ) → (k ≡ n → ⊥) → f k ≡ None → (if k == n then q else f k) ≡ None
other_at f n q k apart none = rw (ne_eqb k n apart) none

-- One more is free.
pub free_at : (f : ℕ → Option ℕ) (first n : ℕ) → ((k : ℕ) → first ≤ k → k < n → f k ≡ None) → (k : ℕ) → first ≤ k → k < n + 1 → (if k == n then None else f k) ≡ None
free_at f first n each k far few = elim (cases_lt k n) [
  | inl below ↦ rw (ne_eqb k n (λ e. omega (arith, below, e))) (each k far below)
  | inr past ↦ rw (eq-eqb k n (omega (arith, past, few))) refl
]

pub free_whole : (f : ℕ → Option ℕ) (first n : ℕ) → ((k : ℕ) → first ≤ k → k < n → f k ≡ None) → ((k : ℕ) → n ≤ k → f k ≡ None) → (k : ℕ) → first ≤ k → f k ≡ None
free_whole f first n each rest k far = elim (cases_lt k n) [
  | inl below ↦ each k far below
  | inr past ↦ rest k past
]

-- ---- the parts of numbers

-- The handler of the part of the number.
abbrev handler_numbered : List Part → ℕ → Handler
handler_numbered T n = (get_or (map part_of T) n new_part).handler

pub counts_less : (T : List Part) (ns : List ℕ) (most more : ℕ) → most ≤ more → CountsFor T ns most → CountsFor T ns more
counts_less T ns most more least counts k number p e f = let few = counts k number p e f in omega (arith, few, least)

again_numbered : (T : List Part) (n : ℕ) → canon_handler none_ended (handler_numbered T n) ≡ handler_numbered T n
again_numbered [] n = refl
again_numbered (p ∷ T) zero = handler_again none_ended (handler_of p.handler)
again_numbered (p ∷ T) (suc n) = again_numbered T n

again_at : (T : List Part) (ns : List ℕ) (k : ℕ) →
    canon_handler none_ended (part_in (slice_get (parts_in T ns) k)).handler ≡ (part_in (slice_get (parts_in T ns) k)).handler
again_at T [] k = refl
again_at T (n ∷ ns) zero = again_numbered T n
again_at T (n ∷ ns) (suc k) = again_at T ns k

numbered_sound : (T : List Part) (n count most : ℕ) → ((p : Part) → slice_get T n ≡ Some p → p.settlements ≤ most) →
    All (λ k. k < count) (handler_numbered T n).entry → IsSoundHandler most most count (handler_numbered T n)
numbered_sound [] n count most few named = new_is most most count
numbered_sound (p ∷ T) zero count most few named = part_sound p count most (few p refl) named
numbered_sound (p ∷ T) (suc n) count most few named = numbered_sound T n count most few named

sound_at : (T : List Part) (ns : List ℕ) (count most k : ℕ) → CountsFor T ns most → NameBelow count (parts_in T ns) →
    IsSoundHandler most most count (part_in (slice_get (parts_in T ns) k)).handler
sound_at T [] count most k counts named = new_is most most count
sound_at T (n ∷ ns) count most zero counts named =
    numbered_sound T n count most (λ p e. counts 0 n p refl e)
    (All-head (λ (p : PlainPart). All (λ k. k < count) p.handler.entry) (get_or (map part_of T) n new_part) (parts_in T ns) named)
sound_at T (n ∷ ns) count most (suc k) counts named =
    sound_at T ns count most k (λ j number p e f. counts (suc j) number p e f)
    (All-tail (λ (p : PlainPart). All (λ k. k < count) p.handler.entry) (get_or (map part_of T) n new_part) (parts_in T ns) named)

-- ---- the state that is put into a core

module _ (T : List Part) (ns : List ℕ) (count : ℕ) (xs : List coded.Handler) (ss : List ℕ) (t : Table)
    (at : (k : ℕ) → handler_in (slice_get xs k) ≡ (part_in (slice_get (parts_in T ns) k)).handler) (none : (k : ℕ) → slice_index ss k ≡ 0)
    (rights : rights_of t ≡ (state_with 0 (parts_in T ns)).rights) where
  unread_at : (k : ℕ) → handler_at xs ss k ≡ (part_in (slice_get (parts_in T ns) k)).handler
  unread_at k =
      let zeroth : (part_in (slice_get (parts_in T ns) k)).handler.sessions ≡ 0 = sym (ap (λ (x : Handler). x.sessions) (again_at T ns k)) in
      let count_is : slice_index ss k ≡ (part_in (slice_get (parts_in T ns) k)).handler.sessions = none k ∙ sym zeroth in
      let here = at k in
      λ i. record (here i) { sessions = count_is i }

  pub loaded_state : state_of count xs ss t ≡ state_with count (parts_in T ns)
  loaded_state =
      let handlers : handler_at xs ss ≡ (state_with count (parts_in T ns)).handlers = fun_ext (λ k. unread_at k) in
      λ i. record { count = count; handlers = handlers i; rights = rights i }

  past_none : (k : ℕ) → length ns ≤ 512 → 512 ≤ k → part_in (slice_get (parts_in T ns) k) ≡ new_part
  past_none k few far = part_past T ns k (omega (arith, few, far))

  pub loaded_sound : (most : ℕ) → count ≤ 512 → length ns ≤ 512 → CountsFor T ns most → NameBelow count (parts_in T ns) →
      IsSound most most (state_of count xs ss t)
  loaded_sound most within few counts named = record {
    within = within;
    rights = record {
      queue = λ k far. ap (λ (r : Rights). r.queue k) rights ∙ ap (λ (p : PlainPart). p.queue) (past_none k few far);
      top = λ k far. ap (λ (r : Rights). r.top k) rights ∙ ap (λ (p : PlainPart). p.top) (past_none k few far);
    };
    handlers = λ k. subst (IsSoundHandler most most count) (sym (unread_at k)) (sound_at T ns count most k counts named);
  }

-- ---- who may have something to do then

pub loaded_tried : (words : List ℕ) (count : ℕ) (xs : List coded.Handler) (ss : List ℕ) (t : Table) (last : ℕ) → count ≤ 512 →
    ((k : ℕ) → k < 512 → is_member words k ≡ true) → AreCandidates words (center count xs ss t last)
loaded_tried words count xs ss t last within all k is =
    let job = some_of (pick_for k (center count xs ss t last)) is in
    let below = below_count count xs ss t last k job.0 job.1 in
    all k (omega (arith, below, within))

pub loaded_reserving : (words : List ℕ) (xs : List coded.Handler) (ss : List ℕ) → length xs ≤ 512 → ((k : ℕ) → k < 512 → is_member words k ≡ true) →
    AreReserving words (handler_at xs ss)
loaded_reserving words xs ss few all k is = elim (cases_lt k 512) [
  | inl below ↦ all k below
  | inr past ↦
      let new : handler_in (slice_get xs k) ≡ new_handler = ap handler_in (slice_get_past xs k (omega (arith, few, past))) in
      let never : false ≡ true = sym (ap (λ (x : Handler). is_reserving x.stage) new) ∙ is in cc
]

pub loaded_crowds : (crowds : List HandlerSet) (count : ℕ) (xs : ℕ → Handler) → ((b k : ℕ) → is_member (crowd_at crowds b) k ≡ false) →
    AreCrowds crowds count xs
loaded_crowds crowds count xs none b k is = let never : false ≡ true = sym (none b k) ∙ is in cc
