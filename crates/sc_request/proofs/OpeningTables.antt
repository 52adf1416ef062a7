-- The tables of a core that opens.
use Rattle.std.proofs.Common.{◌≡◌, ℕ, zero, suc, Bool, true, false, List, [], ◌∷◌, Option, None, refl, sym, ap, subst, ◌∙◌, arith}
use Rattle.std.proofs.Math.Path.{fun_ext}
use Rattle.std.proofs.lemmas.Bool.{ltb-true}
use Rattle.std.proofs.lemmas.List.Elements.{All-nil, All-cons}
use Rattle.std.specs.Prelude.{◌-◌, replicate, slice_get, slice_index, nat_lt, is_some, if◌then◌else◌}
use Rattle.sc_lockpass.specs.Rights.{unreserved}
use Rattle.sc_lockpass.specs.Tables.{Table, rights_of, is_member}
use Rattle.sc_region.specs.declared.job.Job.{Job}
use Rattle.sc_region.specs.declared.job.Request.{Request}
use Rattle.sc_handler.specs.declared.handler.Handler as coded
use Rattle.sc_handler.specs.Handlers.{Handler, posted, new_handler, is_reserving}
use Rattle.sc_handler.specs.InMemory.{fresh, asked}
use Rattle.sc_handler.specs.Picking.{job_with}
use Rattle.sc_request.specs.Tables.{handler_in, handler_at, state_of, center, out_at, out_total}
use Rattle.sc_request.specs.Candidates.{AreCandidates, AreReserving, HasGrantsBelow, HasOutsBelow, is_granted}
use Rattle.sc_request.specs.Logs.{opening, opened}
use Rattle.sc_request.specs.Sound.{IsPlaced, IsServed, IsSound, IsSoundHandler, placed_poster}
use Rattle.sc_request.proofs.SoundHandlers.{new_is}
use Rattle.sc_request.proofs.Sounds.{all_more, if_is, none_passed}

fresh_at : (n k : ℕ) → handler_in (slice_get (replicate n fresh) k) ≡ new_handler
fresh_at zero k = refl
fresh_at (suc n) zero = refl
fresh_at (suc n) (suc k) = fresh_at n k

none_at : (n k : ℕ) → slice_index (replicate n 0) k ≡ 0
none_at zero k = refl
none_at (suc n) zero = refl
none_at (suc n) (suc k) = none_at n k

pub none_out : (n : ℕ) → out_total (replicate n fresh) ≡ 0
none_out zero = refl
none_out (suc n) = none_out n

pub none_out_yet : (n : ℕ) (r : Request) → out_total (asked r ∷ replicate n fresh) ≡ 0
none_out_yet n r = none_out n

opening_at : (n m : ℕ) (r : Request) (k : ℕ) →
    handler_at (asked r ∷ replicate n fresh) (replicate m 0) k ≡ (if nat_lt k 1 then record new_handler { queue = posted r None ∷ [] } else new_handler)
opening_at n m r zero = rw (none_at m 0) refl
opening_at n m r (suc k) =
    let later : nat_lt (suc k) 1 ≡ false = grind arith in
    rw (later, none_at m (suc k), fresh_at n k) refl

opens : (xs : List coded.Handler) (sessions : List ℕ) (t : Table) (n m : ℕ) (r : Request) →
    xs ≡ asked r ∷ replicate n fresh → sessions ≡ replicate m 0 → rights_of t ≡ unreserved → state_of 1 xs sessions t ≡ opening r
opens xs sessions t n m r e f g =
    ap (λ ys. state_of 1 ys sessions t) e ∙ ap (λ ns. state_of 1 (asked r ∷ replicate n fresh) ns t) f
    ∙ (λ i. record { count = 1; handlers = fun_ext (opening_at n m r) i; rights = g i })

nobody_out : (n : ℕ) (r : Request) (k : ℕ) → out_at (asked r ∷ replicate n fresh) k ≡ None
nobody_out n r zero = refl
nobody_out n r (suc k) = nobody_in n k
  where
    nobody_in : (n k : ℕ) → out_at (replicate n fresh) k ≡ None
    nobody_in zero k = refl
    nobody_in (suc n) zero = refl
    nobody_in (suc n) (suc k) = nobody_in n k

pub opens_center : (xs : List coded.Handler) (sessions : List ℕ) (t : Table) (n m most last : ℕ) (r : Request) →
    xs ≡ asked r ∷ replicate n fresh → sessions ≡ replicate m 0 → rights_of t ≡ unreserved → last ≡ most →
    center 1 xs sessions t (last - 1) ≡ opened most r
opens_center xs sessions t n m most last r e f g h =
    ap (λ ys. center 1 ys sessions t (last - 1)) e
    ∙ (λ i. record { state = opens (asked r ∷ replicate n fresh) sessions t n m r refl f g i; out = fun_ext (nobody_out n r) i; last = h i - 1 })

-- ---- who may have something to do

pub opening_outs : (most n : ℕ) (r : Request) → HasOutsBelow most (asked r ∷ replicate n fresh)
opening_outs most n r h j is = let never = sym (nobody_out n r h) ∙ is in cc

pub opening_grants : (most n : ℕ) (r : Request) → HasGrantsBelow most (asked r ∷ replicate n fresh)
opening_grants most n r h k is = let never = ap (λ (o : Option Job). is_granted o k) (sym (nobody_out n r h)) ∙ is in cc

first_placed : (r : Request) → r.poster ≡ None → IsPlaced (posted r None)
first_placed r e = record { poster = ap placed_poster e; passed = none_passed }

first_is : (r : Request) → r.poster ≡ None → IsSoundHandler 0 0 1 (record new_handler { queue = posted r None ∷ [] })
first_is r e = record {
  stage = refl;
  queue = All-cons IsPlaced (posted r None) [] (first_placed r e) (All-nil IsPlaced);
  callback = All-nil IsPlaced;
  services = All-nil IsServed;
  entry = refl;
  sessions = omega arith;
  refused = omega arith;
  serves = omega arith;
}

opening_is : (r : Request) → r.poster ≡ None → IsSound 0 0 (opening r)
opening_is r e = record {
  within = omega arith;
  rights = record { queue = λ k far. refl; top = λ k far. refl };
  handlers = λ k. if_is 0 0 1 (nat_lt k 1) (record new_handler { queue = posted r None ∷ [] }) new_handler (first_is r e) (new_is 0 0 1);
}

pub opening_sound : (c l : ℕ) (xs : List coded.Handler) (sessions : List ℕ) (t : Table) (n m : ℕ) (r : Request) → xs ≡ asked r ∷ replicate n fresh →
    sessions ≡ replicate m 0 → rights_of t ≡ unreserved → r.poster ≡ None → IsSound c l (state_of 1 xs sessions t)
opening_sound c l xs sessions t n m r e f g poster =
    subst (IsSound c l) (sym (opens xs sessions t n m r e f g)) (all_more 0 c 0 l (opening r) (omega arith) (omega arith) (opening_is r poster))

only_below : (out below : Bool) (o : Option Job) → is_some (if out then None else (if below then o else None)) ≡ true → below ≡ true
only_below true below o e = cc
only_below false true o e = refl
only_below false false o e = cc

-- the first handler is the only one
pub opening_tried : (words : List ℕ) (xs : List coded.Handler) (sessions : List ℕ) (t : Table) (last : ℕ) → is_member words 0 ≡ true →
    AreCandidates words (center 1 xs sessions t last)
opening_tried words xs sessions t last first k is =
    let below = ltb-true k 1 (only_below (is_some (out_at xs k)) (nat_lt k 1) (job_with k (handler_at xs sessions k).failure (handler_at xs sessions k) (state_of 1 xs sessions t)) is) in
    let zeroth : k ≡ 0 = omega (arith, below) in
    ap (is_member words) zeroth ∙ first

-- and doesn't reserve
pub opening_reserving : (words sessions : List ℕ) (n : ℕ) (r : Request) → AreReserving words (handler_at (asked r ∷ replicate n fresh) sessions)
opening_reserving words sessions n r zero is = cc
opening_reserving words sessions n r (suc k) is =
    let never : false ≡ true = ap (λ (x : Handler). is_reserving x.stage) (sym (fresh_at n k)) ∙ is in cc
