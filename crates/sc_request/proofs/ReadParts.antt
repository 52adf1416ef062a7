-- What is kept of single handlers, read again.
use Rattle.std.proofs.Common.{◌≡◌, ◌∙◌, ◌↔◌, ℕ, Bool, true, false, IsTrue, List, [], ◌∷◌, Option, Some, None, map, refl, sym, ap}
use Rattle.std.specs.Prelude.{if◌then◌else◌, slice_get, slice_index}
use Rattle.std.specs.List.{list_any}
use Rattle.sc_lockpass.specs.wait_conditions.Reservations.{has_risen, mark_allows}
use Rattle.sc_lockpass.specs.declared.wait_conditions.mark.Marked.{Marked}
use Rattle.sc_handler.specs.declared.handler.Handler as coded
use Rattle.sc_handler.specs.Handlers.{HandlerStage, Idle, Runs, HasMade, Reserves, Awaits, Service, Handler, new_handler}
use Rattle.sc_handler.specs.Canonical.{canon_handler, canon_mark, canon_service, canon_stage, uncounted}
use Rattle.sc_handler.specs.InMemory.{handler_of}
use Rattle.sc_lockpass.specs.Tables.{Table, rights_of}
use Rattle.sc_request.specs.Tables.{handler_at, handler_in, state_of}
use Rattle.sc_request.specs.declared.kept_core.Holders.{Holders}
use Rattle.sc_request.specs.declared.parts.Part.{Part}
use Rattle.sc_request.specs.Parts.{PlainPart, new_part, none_ended, part_at, part_of}

-- ---- marks

none_risen : (m : List Marked) → list_any (has_risen none_ended) (map uncounted m) ≡ false
none_risen [] = refl
none_risen (x ∷ m) = none_risen m

uncounted_again : (m : List Marked) → map uncounted (map uncounted m) ≡ map uncounted m
uncounted_again [] = refl
uncounted_again (x ∷ m) = ap (λ (rest : List Marked). uncounted x ∷ rest) (uncounted_again m)

mark_again : (S : ℕ → ℕ) (m : List Marked) → canon_mark none_ended (canon_mark S m) ≡ canon_mark S m
mark_again S [] = refl
mark_again S (x ∷ m) = by (mark_allows S (x ∷ m))
  where
    by : (b : Bool) → canon_mark none_ended (if b then [] else map uncounted (x ∷ m)) ≡ (if b then [] else map uncounted (x ∷ m))
    by true = refl
    by false =
        ap (λ (b : Bool). if b then [] else map uncounted (map uncounted (x ∷ m))) (none_risen (x ∷ m)) ∙ uncounted_again (x ∷ m)

-- ---- handlers

stage_again : (S : ℕ → ℕ) (st : HandlerStage) → canon_stage none_ended (canon_stage S st) ≡ canon_stage S st
stage_again S Idle = refl
stage_again S Runs = refl
stage_again S (HasMade k) = refl
stage_again S (Reserves ks mark) = ap (Reserves ks) (mark_again S mark)
stage_again S (Awaits k is_creation) = refl

services_again : (S : ℕ → ℕ) (vs : List Service) → map (canon_service none_ended) (map (canon_service S) vs) ≡ map (canon_service S) vs
services_again S [] = refl
services_again S (v ∷ vs) =
    let over = stage_again S v.over in
    let rest = services_again S vs in
    λ i. record v { over = over i } ∷ rest i

-- What is read is read again as it is.
pub handler_again : (S : ℕ → ℕ) (x : Handler) → canon_handler none_ended (canon_handler S x) ≡ canon_handler S x
handler_again S x =
    let stage = stage_again S x.stage in
    let services = services_again S x.services in
    λ i. record x { stage = stage i; services = services i; sessions = 0 }

-- what is read of the handler that lies at a place
pub read_there : (xs : List coded.Handler) (ss : List ℕ) (h : ℕ) (x : coded.Handler) → slice_get xs h ≡ Some x →
    canon_handler (slice_index ss) (handler_of x) ≡ canon_handler (slice_index ss) (handler_at xs ss h)
read_there xs ss h x e = ap (λ (o : Option coded.Handler). canon_handler (slice_index ss) (handler_in o)) (sym e)

-- ---- parts

module _ (count : ℕ) (xs : List coded.Handler) (ss : List ℕ) (t : Table) (h : ℕ) where
  abbrev own : PlainPart
  own = part_at h (state_of count xs ss t)

  -- What is kept of the handler that lies at the place is its part.
  pub kept_part : (x y : coded.Handler) (q : Holders) → slice_get xs h ≡ Some x → handler_of y ≡ canon_handler (slice_index ss) (handler_of x) →
      q ≡ record { queue = (rights_of t).queue h; top = (rights_of t).top h } →
      record { handler = canon_handler none_ended (handler_of y); queue = q.queue; top = q.top } ≡ own
  kept_part x y q e is holders =
      let handler : canon_handler none_ended (handler_of y) ≡ canon_handler (slice_index ss) (handler_at xs ss h) =
      ap (canon_handler none_ended) is ∙ handler_again (slice_index ss) (handler_of x) ∙ read_there xs ss h x e in
      λ i. record { handler = handler i; queue = (holders i).queue; top = (holders i).top }

  -- A part is this one where its handler and its holders are,
  pub same_part : (b : Bool) (p : Part) (x : coded.Handler) (q : Holders) → slice_get xs h ≡ Some x →
      canon_handler none_ended (handler_of p.handler) ≡ canon_handler (slice_index ss) (handler_of x) →
      q ≡ record { queue = (rights_of t).queue h; top = (rights_of t).top h } → (IsTrue b ↔ p.holders ≡ q) → IsTrue b ↔ part_of p ≡ own
  same_part b p x q e handler holders both =
      let here = handler ∙ read_there xs ss h x e in (
        λ yes. let same : p.holders ≡ record { queue = (rights_of t).queue h; top = (rights_of t).top h } = both.0 yes ∙ holders in
            λ i. record { handler = here i; queue = (same i).queue; top = (same i).top },
        λ same. both.1 ((λ i. record { queue = (same i).queue; top = (same i).top }) ∙ sym holders),
      )

  -- and another one where its handler is.
  pub other_part : (b : Bool) (p : Part) (x : coded.Handler) → slice_get xs h ≡ Some x → b ≡ false →
      (IsTrue b ↔ canon_handler none_ended (handler_of p.handler) ≡ canon_handler (slice_index ss) (handler_of x)) → IsTrue b ↔ part_of p ≡ own
  other_part b p x e isnt both = (
    λ yes. let never : false ≡ true = sym isnt ∙ yes in cc,
    λ same. both.1 (ap (λ (q : PlainPart). q.handler) same ∙ sym (read_there xs ss h x e)),
  )

  -- A handler that is new and that nobody holds has the part of a new one.
  pub new_there : handler_in (slice_get xs h) ≡ new_handler → (rights_of t).queue h ≡ None → (rights_of t).top h ≡ None → own ≡ new_part
  new_there new queue top = λ i. record { handler = canon_handler (slice_index ss) (new i); queue = queue i; top = top i }

  pub new_of : (x : coded.Handler) → slice_get xs h ≡ Some x → handler_of x ≡ new_handler → (rights_of t).queue h ≡ None → (rights_of t).top h ≡ None → own ≡ new_part
  new_of x e new queue top = new_there (ap handler_in e ∙ new) queue top
