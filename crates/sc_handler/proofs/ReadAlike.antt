-- Handlers that are read alike.
use Rattle.std.proofs.Common.{◌≡◌, ◌∙◌, ◌↔◌, ℕ, Bool, false, IsTrue, List, [], ◌∷◌, map, refl, sym, ap}
use Rattle.std.specs.Prelude.{if◌then◌else◌}
use Rattle.sc_lockpass.specs.wait_conditions.Reservations.{mark_allows, mark_of}
use Rattle.sc_lockpass.specs.declared.wait_conditions.mark.Marked.{Marked}
use Rattle.sc_handler.specs.declared.handler.HandlerStage as coded_stage
use Rattle.sc_handler.specs.declared.handler.HandlerStage.TheVariants as stage
use Rattle.sc_handler.specs.declared.handler.Posting.{Posting}
use Rattle.sc_handler.specs.declared.handler.Handler as coded
use Rattle.sc_handler.specs.Handlers.{Handler}
use Rattle.sc_handler.specs.Canonical.{canon_handler, canon_mark, canon_service, canon_stage, marked_in, uncounted}
use Rattle.sc_handler.specs.InMemory.{answers_of, first_posted, handler_of, posting_of, service_of, stage_of}
use Rattle.sc_handler.specs.Same.{AreAskedAlike, StandAlike}

-- ---- marks

pub marked_of : (sessions : ℕ → ℕ) (ks : List ℕ) → marked_in (mark_of sessions ks) ≡ ks
marked_of sessions [] = refl
marked_of sessions (k ∷ ks) = ap (λ (is : List ℕ). k ∷ is) (marked_of sessions ks)

-- a handler that is marked, with no count
abbrev none_counted : ℕ → Marked
none_counted k = record { handler = k; sessions = 0 }

by_marked : (m : List Marked) → map uncounted m ≡ map none_counted (marked_in m)
by_marked [] = refl
by_marked (x ∷ m) = ap (λ (rest : List Marked). uncounted x ∷ rest) (by_marked m)

still_marked : (m : List Marked) → marked_in (map uncounted m) ≡ marked_in m
still_marked [] = refl
still_marked (x ∷ m) = ap (λ (rest : List ℕ). x.handler ∷ rest) (still_marked m)

waits : (S : ℕ → ℕ) (m : List Marked) → false ≡ mark_allows S m → canon_mark S m ≡ map uncounted m
waits S m isnt = ap (λ (b : Bool). if b then [] else map uncounted m) (sym isnt)

-- marks that don't allow are read alike where they mark the same
pub waits_alike : (S T : ℕ → ℕ) (m n : List Marked) (b : Bool) → false ≡ mark_allows S m → false ≡ mark_allows T n → (IsTrue b ↔ marked_in m ≡ marked_in n) →
    IsTrue b ↔ canon_mark S m ≡ canon_mark T n
waits_alike S T m n b isnt its_not both =
    let one = waits S m isnt in
    let other = waits T n its_not in (
      λ yes. one ∙ by_marked m ∙ ap (λ (ks : List ℕ). map none_counted ks) (both.0 yes) ∙ sym (by_marked n) ∙ sym other,
      λ same. both.1 (sym (still_marked m) ∙ ap marked_in (sym one ∙ same ∙ other) ∙ still_marked n),
    )

-- a mark of handlers without counts is one that doesn't allow, as it is read
pub unmarked : (S : ℕ → ℕ) (m : List Marked) (ks : List ℕ) → false ≡ mark_allows S m → ks ≡ marked_in m → mark_of (λ k. 0) ks ≡ canon_mark S m
unmarked S m ks isnt e = ap (mark_of (λ k. 0)) e ∙ sym (by_marked m) ∙ sym (waits S m isnt)

-- ---- handlers

-- What is served was taken over no reserve step with a mark, so it is read as it is.
over_read : (S : ℕ → ℕ) (st : coded_stage.HandlerStage) → canon_stage S (stage_of [] [] st) ≡ stage_of [] [] st
over_read S stage.Idle = refl
over_read S stage.Runs = refl
over_read S (stage.HasMade k) = refl
over_read S stage.Reserves = refl
over_read S (stage.Awaits k is_creation) = refl

pub services_read : (S : ℕ → ℕ) (ps : List Posting) → map (canon_service S) (map service_of ps) ≡ map service_of ps
services_read S [] = refl
services_read S (p ∷ ps) =
    let over = over_read S p.over in
    let rest = services_read S ps in
    λ i. record (service_of p) { over = over i } ∷ rest i

-- handlers that stand alike as they are read, and are asked for the same, are read alike
pub read_so : (S T : ℕ → ℕ) (x y : Handler) → map (canon_service S) x.services ≡ x.services → map (canon_service T) y.services ≡ y.services →
    StandAlike (canon_handler S x) (canon_handler T y) → AreAskedAlike x y → canon_handler S x ≡ canon_handler T y
read_so S T x y own its standing asked =
    let services = own ∙ asked.services ∙ sym its in
    λ i. record {
      stage = standing.stage i;
      services = services i;
      entry = standing.entry i;
      queue = asked.queue i;
      callback = asked.callback i;
      answer = standing.answer i;
      failure = standing.failure i;
      sessions = 0;
      refused = standing.refused i;
    }

pub asked_so : (S T : ℕ → ℕ) (x y : Handler) → map (canon_service S) x.services ≡ x.services → map (canon_service T) y.services ≡ y.services →
    canon_handler S x ≡ canon_handler T y → AreAskedAlike x y
asked_so S T x y own its e = record {
  services = sym own ∙ ap (λ (z : Handler). z.services) e ∙ its;
  queue = ap (λ (z : Handler). z.queue) e;
  callback = ap (λ (z : Handler). z.callback) e;
}

-- ---- copies

stage_read : (S : ℕ → ℕ) (ks : List ℕ) (m : List Marked) (st : coded_stage.HandlerStage) → stage_of ks (canon_mark S m) st ≡ canon_stage S (stage_of ks m st)
stage_read S ks m stage.Idle = refl
stage_read S ks m stage.Runs = refl
stage_read S ks m (stage.HasMade k) = refl
stage_read S ks m stage.Reserves = refl
stage_read S ks m (stage.Awaits k is_creation) = refl

-- A handler that is copied with its mark as that is read is the other one as it is read.
pub copied : (S : ℕ → ℕ) (x y : coded.Handler) → y.stage ≡ x.stage → y.entry ≡ x.entry → y.mark ≡ canon_mark S x.mark → y.services ≡ x.services →
    y.queue ≡ x.queue → y.callback ≡ x.callback → y.answer ≡ x.answer → y.failure ≡ x.failure → y.refused ≡ x.refused → handler_of y ≡ canon_handler S (handler_of x)
copied S x y stage entry mark services queue callback answer failure refused =
    let standing : stage_of y.entry.items y.mark y.stage ≡ canon_stage S (stage_of x.entry.items x.mark x.stage) =
    (λ i. stage_of (entry i).items (mark i) (stage i)) ∙ stage_read S x.entry.items x.mark x.stage in
    let served : map service_of y.services ≡ map (canon_service S) (map service_of x.services) =
    ap (λ (ps : List Posting). map service_of ps) services ∙ sym (services_read S x.services) in
    λ i. record {
      stage = standing i;
      services = served i;
      entry = (entry i).items;
      queue = map posting_of (queue i);
      callback = first_posted (callback i);
      answer = answers_of (answer i);
      failure = failure i;
      sessions = 0;
      refused = refused i;
    }
