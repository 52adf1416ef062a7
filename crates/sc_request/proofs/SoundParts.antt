-- What is kept of single handlers of a sound core is sound.
use Rattle.std.proofs.Common.{◌≡◌, ◌∙◌, ◌≤◌, ◌<◌, ℕ, true, List, [], ◌∷◌, Option, Some, length, map, refl, sym, ap, subst, arith}
use Rattle.std.proofs.lemmas.Bool.{and_parts, lt-ltb, ltb-true}
use Rattle.std.specs.Prelude.{nat_lt, slice_get, slice_index}
use Rattle.std.specs.List.{All, list_all}
use Rattle.std.proofs.lemmas.List.Elements.{All-head, All-tail}
use Rattle.sc_handler.specs.Handlers.{HandlerStage, Idle, Runs, HasMade, Reserves, Awaits, Handler}
use Rattle.sc_handler.specs.Canonical.{canon_handler, canon_service, canon_stage}
use Rattle.sc_handler.specs.declared.handler.Handler as coded
use Rattle.sc_handler.specs.InMemory.{handler_of, service_of}
use Rattle.sc_handler.proofs.ReadAlike.{services_read}
use Rattle.sc_request.specs.declared.parts.Part.{Part}
use Rattle.sc_request.specs.Parts.{none_ended}
use Rattle.sc_request.specs.Sound.{AreServed, IsSoundHandler, awaits_placed}
use Rattle.sc_request.specs.Tables.{handler_at, handler_in}

placed_read : (S : ℕ → ℕ) (st : HandlerStage) → awaits_placed st ≡ true → awaits_placed (canon_stage S st) ≡ true
placed_read S Idle e = e
placed_read S Runs e = e
placed_read S (HasMade k) e = e
placed_read S (Reserves ks mark) e = e
placed_read S (Awaits k is_creation) e = e

below_more : (n m : ℕ) (ks : List ℕ) → n ≤ m → list_all (λ k. nat_lt k n) ks ≡ true → list_all (λ k. nat_lt k m) ks ≡ true
below_more n m [] few e = refl
below_more n m (k ∷ ks) few e =
    let both = and_parts (nat_lt k n) (list_all (λ j. nat_lt j n) ks) e in
    let below : k < m = omega (arith, ltb-true k n both.0, few) in
    rw (lt-ltb k m below) (below_more n m ks few both.1)

pub all_below : (n : ℕ) (ks : List ℕ) → All (λ k. k < n) ks → list_all (λ k. nat_lt k n) ks ≡ true
all_below n [] all = refl
all_below n (k ∷ ks) all = rw (lt-ltb k n (All-head (λ k. k < n) k ks all)) (all_below n ks (All-tail (λ k. k < n) k ks all))

-- A handler that serves and refused no more than this number, and names handlers below another one, is sound as it is read.
pub read_sound : (S : ℕ → ℕ) (c n count most m : ℕ) (x : Handler) → list_all (λ k. nat_lt k most) x.entry ≡ true →
    map (canon_service S) x.services ≡ x.services → x.refused ≤ m → length x.services ≤ m → IsSoundHandler c n count x →
    IsSoundHandler m m most (canon_handler S x)
read_sound S c n count most m x entry services refused serves sound = record {
  stage = placed_read S x.stage sound.stage;
  queue = sound.queue;
  callback = sound.callback;
  services = subst AreServed (sym services) sound.services;
  entry = entry;
  sessions = omega arith;
  refused = refused;
  serves = let e : length (map (canon_service S) x.services) ≡ length x.services = ap length services in omega (arith, e, serves);
}

-- the same of the handler that lies at a place of a sound core
pub there_sound : (ss : List ℕ) (c n count m : ℕ) (xs : List coded.Handler) (h : ℕ) (x y : coded.Handler) → count ≤ 512 → slice_get xs h ≡ Some x →
    handler_of y ≡ canon_handler (slice_index ss) (handler_of x) → (handler_of y).refused ≤ m → length (handler_of y).services ≤ m →
    IsSoundHandler c n count (handler_at xs ss h) → IsSoundHandler m m 512 (handler_of y)
there_sound ss c n count m xs h x y within e is refused serves sound =
    let here : handler_at xs ss h ≡ record (handler_of x) { sessions = slice_index ss h } =
    ap (λ (o : Option coded.Handler). let z : Handler = handler_in o in record z { sessions = slice_index ss h }) e in
    let own : IsSoundHandler c n count (record (handler_of x) { sessions = slice_index ss h }) = subst (IsSoundHandler c n count) here sound in
    let services = services_read (slice_index ss) x.services in
    let few : length (map service_of x.services) ≤ m = let g : length (handler_of y).services ≡ length (map service_of x.services) =
    ap (λ (z : Handler). length z.services) is ∙ ap length services in omega (arith, g, serves) in
    let refusals : x.refused ≤ m = let g : (handler_of y).refused ≡ x.refused = ap (λ (z : Handler). z.refused) is in omega (arith, g, refused) in
    subst (IsSoundHandler m m 512) (sym is)
    (read_sound (slice_index ss) c n count 512 m (record (handler_of x) { sessions = slice_index ss h }) (below_more count 512 x.entry.items within own.entry) services
    refusals few own)

-- and of what is kept, as it is put into a core
pub part_sound : (p : Part) (count most : ℕ) → p.settlements ≤ most → All (λ k. k < count) (handler_of p.handler).entry →
    IsSoundHandler most most count (canon_handler none_ended (handler_of p.handler))
part_sound p count most few named =
    let refused = p.sound.refused in
    let serves = p.sound.serves in
    read_sound none_ended p.settlements p.settlements 512 count most (handler_of p.handler) (all_below count (handler_of p.handler).entry named)
    (services_read none_ended p.handler.services) (omega (arith, few, refused)) (omega (arith, few, serves)) p.sound
