-- What is read of a state names no more than the state does, and is read as it is.
use Rattle.std.proofs.Common.{◌≡◌, ◌∙◌, ℕ, Bool, true, false, List, [], ◌∷◌, map, refl, ap, arith}
use Rattle.std.proofs.Math.Path.{fun_ext}
use Rattle.std.proofs.lemmas.List.Elements.{All-map, All-nil, All-weaker}
use Rattle.std.specs.Prelude.{if◌then◌else◌}
use Rattle.std.specs.List.{list_any}
use Rattle.sc_lockpass.specs.wait_conditions.Reservations.{has_risen, mark_allows}
use Rattle.sc_lockpass.specs.declared.wait_conditions.mark.Marked.{Marked}
use Rattle.sc_handler.specs.Handlers.{HandlerStage, Idle, Runs, HasMade, Reserves, Awaits, Service, Handler}
use Rattle.sc_handler.specs.Canonical.{canon, canon_handler, canon_mark, canon_service, canon_stage, sessions_in, uncounted}
use Rattle.sc_counts.specs.Counted.{AreReached, IsHandlerCounted, IsReached, IsServiceCounted, IsStageCounted}
use Rattle.sc_counts.specs.Laws.{ReadStatesAreCounted, ReadStatesStay}

-- no session has ended
abbrev none : ℕ → ℕ
none k = 0

-- ---- what it names

module _ (S : ℕ → ℕ) (n : ℕ) where
  unmarked : (m : Marked) → IsReached S n m → IsReached none n (uncounted m)
  unmarked m c = record { below = c.below; reached = omega arith }

  mark_read : (mark : List Marked) → AreReached S n mark → AreReached none n (canon_mark S mark)
  mark_read mark all = by (mark_allows S mark)
    where
      by : (b : Bool) → AreReached none n (if b then [] else map uncounted mark)
      by true = All-nil (IsReached none n)
      by false =
          All-map (IsReached none n) uncounted mark (All-weaker (IsReached S n) (λ m. IsReached none n (uncounted m)) unmarked mark all)

  stage_read : (st : HandlerStage) → IsStageCounted S n st → IsStageCounted none n (canon_stage S st)
  stage_read Idle c = tt
  stage_read Runs c = tt
  stage_read (HasMade k) c = tt
  stage_read (Reserves ks mark) c = (c.0, mark_read mark c.1)
  stage_read (Awaits k is_creation) c = tt

  service_read : (v : Service) → IsServiceCounted S n v → IsServiceCounted none n (canon_service S v)
  service_read v c = record { passes = c.passes; over = stage_read v.over c.over }

  handler_read : (x : Handler) → IsHandlerCounted S n x → IsHandlerCounted none n (canon_handler S x)
  handler_read x c = record {
    stage = stage_read x.stage c.stage;
    services = All-map (IsServiceCounted none n) (canon_service S) x.services
        (All-weaker (IsServiceCounted S n) (λ v. IsServiceCounted none n (canon_service S v)) service_read x.services c.services);
    entry = c.entry;
    queue = c.queue;
    callback = c.callback;
  }

pub read_states_are_counted : ReadStatesAreCounted
read_states_are_counted s c =
    record { rights = c.rights; handlers = λ k. handler_read (sessions_in s) s.count (s.handlers k) (c.handlers k) }

-- ---- it is read again

none_risen : (m : List Marked) → list_any (has_risen none) (map uncounted m) ≡ false
none_risen [] = refl
none_risen (x ∷ m) = none_risen m

uncounted_again : (m : List Marked) → map uncounted (map uncounted m) ≡ map uncounted m
uncounted_again [] = refl
uncounted_again (x ∷ m) = ap (λ (rest : List Marked). uncounted x ∷ rest) (uncounted_again m)

module _ (S : ℕ → ℕ) where
  mark_again : (m : List Marked) → canon_mark none (canon_mark S m) ≡ canon_mark S m
  mark_again [] = refl
  mark_again (x ∷ m) = by (mark_allows S (x ∷ m))
    where
      by : (b : Bool) → canon_mark none (if b then [] else map uncounted (x ∷ m)) ≡ (if b then [] else map uncounted (x ∷ m))
      by true = refl
      by false =
          ap (λ (b : Bool). if b then [] else map uncounted (map uncounted (x ∷ m))) (none_risen (x ∷ m)) ∙ uncounted_again (x ∷ m)

  stage_again : (st : HandlerStage) → canon_stage none (canon_stage S st) ≡ canon_stage S st
  stage_again Idle = refl
  stage_again Runs = refl
  stage_again (HasMade k) = refl
  stage_again (Reserves ks mark) = ap (Reserves ks) (mark_again mark)
  stage_again (Awaits k is_creation) = refl

  services_again : (vs : List Service) → map (canon_service none) (map (canon_service S) vs) ≡ map (canon_service S) vs
  services_again [] = refl
  services_again (v ∷ vs) =
      let over = stage_again v.over in
      let rest = services_again vs in
      λ i. record v { over = over i } ∷ rest i

  handler_again : (x : Handler) → canon_handler none (canon_handler S x) ≡ canon_handler S x
  handler_again x =
      let stage = stage_again x.stage in
      let services = services_again x.services in
      λ i. record x { stage = stage i; services = services i; sessions = 0 }

pub read_states_stay : ReadStatesStay
read_states_stay s =
    let each : (canon (canon s)).handlers ≡ (canon s).handlers = fun_ext (λ k. handler_again (sessions_in s) (s.handlers k)) in
    λ i. record s { handlers = each i }
