-- Cores that are kept.
use Rattle.std.proofs.Common.{◌≡◌, ◌∙◌, ◌+◌, ◌++◌, ℕ, zero, suc, ◌<◌, ◌≤◌, Bool, true, false, IsTrue, ◌↔◌, List, [], ◌∷◌, Option, Some, None, inl, inr, length, map, take, refl, sym, ap, length-take, arith}
use Rattle.std.proofs.Math.Path.{fun_ext}
use Rattle.std.proofs.lemmas.Bool.{cases_lt}
use Rattle.std.proofs.lemmas.List.{get_or-take}
use Rattle.std.proofs.lemmas.Option.{slice_get_past}
use Rattle.std.specs.Prelude.{slice_get, slice_index}
use Rattle.sc_lockpass.specs.Rights.{Rights}
use Rattle.sc_handler.specs.declared.handler.Handler as coded
use Rattle.sc_handler.specs.Handlers.{HandlerStage, Idle, Runs, HasMade, Reserves, Awaits, Service, Handler, State, new_handler}
use Rattle.sc_handler.specs.Canonical.{canon, canon_handler, canon_service, canon_stage}
use Rattle.sc_handler.specs.InMemory.{handler_of}
use Rattle.sc_request.specs.Tables.{handler_at, handler_in}
use Rattle.sc_request.proofs.Sames.{nothing_kept}
use Rattle.sc_request.specs.declared.kept_core.Holders.{Holders}
use Rattle.sc_request.specs.Keeping.{AreNewFrom, holders_in, nobody, read_at, rights_in}

-- Where the whole could only be the same if this were, and this isn't, it is another one.
pub differs : {P Q : Type 0} (r : Bool) → r ≡ false → (r ≡ true → P) × (P → r ≡ true) → (Q → P) → (false ≡ true → Q) × (Q → false ≡ true)
differs r isnt both back = ((λ yes. (cc)), λ q. sym isnt ∙ both.1 (back q))

-- ---- handlers

-- from one place fewer on, where the handler there is new too
pub new_from_before : (xs : List coded.Handler) (sessions : List ℕ) (n m : ℕ) → n ≡ suc m → handler_at xs sessions m ≡ new_handler → AreNewFrom n xs sessions → AreNewFrom m xs sessions
new_from_before xs sessions n m one here beyond k past = elim (cases_lt m k) [
  | inl above ↦ beyond k (omega (arith, one, above))
  | inr up_to ↦ let e : k ≡ m = omega (arith, past, up_to) in rw e here
]

get_of_first : (xs : List coded.Handler) (n k : ℕ) → k < n → slice_get (take n xs) k ≡ slice_get xs k
get_of_first xs zero k l = absurd (omega (arith, l))
get_of_first [] (suc n) k l = refl
get_of_first (x ∷ xs) (suc n) zero l = refl
get_of_first (x ∷ xs) (suc n) (suc k) l = get_of_first xs n k (omega (arith, l))

-- Without those at the end that are new the handlers are the same.
same_first : (xs : List coded.Handler) (sessions : List ℕ) (n : ℕ) (ys : List coded.Handler) (counts : List ℕ) → ys ≡ take n xs → counts ≡ take n sessions →
    AreNewFrom n xs sessions → handler_at ys counts ≡ handler_at xs sessions
same_first xs sessions n ys counts of its beyond = fun_ext (λ k. elim (cases_lt k n) [
  | inl below ↦
      let there : slice_get ys k ≡ slice_get xs k = ap (λ zs. slice_get zs k) of ∙ get_of_first xs n k below in
      let count : slice_index counts k ≡ slice_index sessions k = ap (λ zs. slice_index zs k) its ∙ get_or-take n sessions k 0 below in
      λ i. record (handler_in (there i)) { sessions = count i }
  | inr past ↦
      nothing_kept ys counts k (omega (arith, ap length of, length-take n xs, past)) (omega (arith, ap length its, length-take n sessions, past)) ∙ sym (beyond k past)
])

pub same_without_new : (xs zs : List coded.Handler) (sessions others : List ℕ) (n : ℕ) (ys : List coded.Handler) (counts : List ℕ) → zs ≡ xs → others ≡ sessions →
    ys ≡ take n xs → counts ≡ take n sessions → AreNewFrom n zs others → handler_at ys counts ≡ handler_at xs sessions
same_without_new xs zs sessions others n ys counts are were of its beyond =
    same_first xs sessions n ys counts of its (λ k past. (λ i. handler_at (sym are i) (sym were i) k) ∙ beyond k past)

no_sessions : (o : Option coded.Handler) → (handler_in o).sessions ≡ 0
no_sessions None = refl
no_sessions (Some x) = refl

without : (x : Handler) → x.sessions ≡ 0 → record x { sessions = 0 } ≡ x
without x none = λ i. record x { sessions = sym none i }

-- What is kept at a place is the same where the handlers there and their counts are.
pub same_there : (xs ys : List coded.Handler) (ss ts : List ℕ) (k : ℕ) → handler_in (slice_get xs k) ≡ handler_in (slice_get ys k) → slice_index ss k ≡ slice_index ts k →
    handler_at xs ss k ≡ handler_at ys ts k
same_there xs ys ss ts k e g = λ i. record (e i) { sessions = g i }

pub same_handler_there : (xs ys : List coded.Handler) (ss ts : List ℕ) (k : ℕ) → handler_at xs ss k ≡ handler_at ys ts k → handler_in (slice_get xs k) ≡ handler_in (slice_get ys k)
same_handler_there xs ys ss ts k e =
    sym (without (handler_in (slice_get xs k)) (no_sessions (slice_get xs k)))
    ∙ ap (λ (x : Handler). record x { sessions = 0 }) e
    ∙ without (handler_in (slice_get ys k)) (no_sessions (slice_get ys k))

pub same_count_there : (xs ys : List coded.Handler) (ss ts : List ℕ) (k : ℕ) → handler_at xs ss k ≡ handler_at ys ts k → slice_index ss k ≡ slice_index ts k
same_count_there xs ys ss ts k e = ap (λ (x : Handler). x.sessions) e

-- ---- what is read of handlers

-- past all places what is read is new
read_past : (xs : List coded.Handler) (ss : List ℕ) (k : ℕ) → length xs ≤ k → read_at xs ss k ≡ new_handler
read_past xs ss k past = ap (λ (o : Option coded.Handler). canon_handler (slice_index ss) (handler_in o)) (slice_get_past xs k past)

-- The handlers are read alike where they are at each place before one past all.
pub read_everywhere : (xs ys : List coded.Handler) (ss ts : List ℕ) (n : ℕ) → length xs ≤ n → length ys ≤ n →
    ((k : ℕ) → k < n → read_at xs ss k ≡ read_at ys ts k) → read_at xs ss ≡ read_at ys ts
read_everywhere xs ys ss ts n few its_few each = fun_ext (λ k. elim (cases_lt k n) [
  | inl below ↦ each k below
  | inr past ↦ read_past xs ss k (omega (arith, few, past)) ∙ sym (read_past ys ts k (omega (arith, its_few, past)))
])

idle_read : (S : ℕ → ℕ) (st : HandlerStage) → canon_stage S st ≡ Idle → st ≡ Idle
idle_read S Idle e = refl
idle_read S Runs e = e
idle_read S (HasMade k) e = e
idle_read S (Reserves ks mark) e = cc
idle_read S (Awaits k is_creation) e = e

none_read : (S : ℕ → ℕ) (vs : List Service) → map (canon_service S) vs ≡ [] → vs ≡ []
none_read S [] e = refl
none_read S (v ∷ vs) e = cc

-- a handler that is read as a new one is new
pub new_read : (S : ℕ → ℕ) (x : Handler) → x.sessions ≡ 0 → canon_handler S x ≡ new_handler → x ≡ new_handler
new_read S x none e =
    let stage = idle_read S x.stage (ap (λ (y : Handler). y.stage) e) in
    let services = none_read S x.services (ap (λ (y : Handler). y.services) e) in
    λ i. record (e i) { stage = stage i; services = services i; sessions = none i }

-- a handler is read as a new one where it is new
pub fresh_read : (S T : ℕ → ℕ) (x : coded.Handler) (b : Bool) → (IsTrue b ↔ handler_of x ≡ new_handler) → IsTrue b ↔ canon_handler S (handler_of x) ≡ canon_handler T new_handler
fresh_read S T x b fresh = (λ e. ap (canon_handler S) (fresh.0 e), λ same. fresh.1 (new_read S (handler_of x) refl same))

pub read_fresh : (S T : ℕ → ℕ) (x : coded.Handler) (b : Bool) → (IsTrue b ↔ handler_of x ≡ new_handler) → IsTrue b ↔ canon_handler T new_handler ≡ canon_handler S (handler_of x)
read_fresh S T x b fresh = (λ e. ap (canon_handler S) (sym (fresh.0 e)), λ same. fresh.1 (new_read S (handler_of x) refl (sym same)))

module _ (xs ys : List coded.Handler) (ss ts : List ℕ) (k : ℕ) where
  there : (zs : List coded.Handler) (us : List ℕ) (o : Option coded.Handler) → o ≡ slice_get zs k → canon_handler (slice_index us) (handler_in o) ≡ read_at zs us k
  there zs us o e = ap (λ (p : Option coded.Handler). canon_handler (slice_index us) (handler_in p)) e

  -- where the other one has none there, or this one
  pub fresh_there : (x : coded.Handler) (b : Bool) → Some x ≡ slice_get xs k → None ≡ slice_get ys k → (IsTrue b ↔ handler_of x ≡ new_handler) →
      IsTrue b ↔ read_at xs ss k ≡ read_at ys ts k
  fresh_there x b e f fresh =
      let one = there xs ss (Some x) e in
      let other = there ys ts None f in
      let both = fresh_read (slice_index ss) (slice_index ts) x b fresh in
      (λ is. sym one ∙ both.0 is ∙ other, λ same. both.1 (one ∙ same ∙ sym other))

  pub there_fresh : (y : coded.Handler) (b : Bool) → None ≡ slice_get xs k → Some y ≡ slice_get ys k → (IsTrue b ↔ handler_of y ≡ new_handler) →
      IsTrue b ↔ read_at xs ss k ≡ read_at ys ts k
  there_fresh y b e f fresh =
      let one = there xs ss None e in
      let other = there ys ts (Some y) f in
      let both = read_fresh (slice_index ts) (slice_index ss) y b fresh in
      (λ is. sym one ∙ both.0 is ∙ other, λ same. both.1 (one ∙ same ∙ sym other))

  pub none_there : None ≡ slice_get xs k → None ≡ slice_get ys k → IsTrue true ↔ read_at xs ss k ≡ read_at ys ts k
  none_there e f = (λ is. sym (there xs ss None e) ∙ there ys ts None f, λ same. refl)

-- ---- rights

-- nobody holds what stands past all holders
pub nobody_past : (xs : List Holders) (k : ℕ) → length xs ≤ k → holders_in (slice_get xs k) ≡ nobody
nobody_past xs k past = ap holders_in (slice_get_past xs k past)

-- Rights are the same where they are at each handler below a number from which on all are nobody's.
pub same_rights : (xs : List Holders) (r : Rights) (n : ℕ) → ((k : ℕ) → n ≤ k → holders_in (slice_get xs k) ≡ nobody) → ((k : ℕ) → n ≤ k → r.queue k ≡ None) →
    ((k : ℕ) → n ≤ k → r.top k ≡ None) → ((k : ℕ) → k < n → holders_in (slice_get xs k) ≡ record { queue = r.queue k; top = r.top k }) → rights_in xs ≡ r
same_rights xs r n past queue_past top_past each =
    let queues : (rights_in xs).queue ≡ r.queue = fun_ext (λ k. elim (cases_lt k n) [
      | inl below ↦ ap (λ (x : Holders). x.queue) (each k below)
      | inr beyond ↦ ap (λ (x : Holders). x.queue) (past k beyond) ∙ sym (queue_past k beyond)
    ]) in
    let tops : (rights_in xs).top ≡ r.top = fun_ext (λ k. elim (cases_lt k n) [
      | inl below ↦ ap (λ (x : Holders). x.top) (each k below)
      | inr beyond ↦ ap (λ (x : Holders). x.top) (past k beyond) ∙ sym (top_past k beyond)
    ]) in
    λ i. record { queue = queues i; top = tops i }

pushed_below : (xs : List Holders) (y : Holders) (k : ℕ) → k < length xs → slice_get (xs ++ y ∷ []) k ≡ slice_get xs k
pushed_below [] y k l = absurd (omega (arith, l))
pushed_below (x ∷ xs) y zero l = refl
pushed_below (x ∷ xs) y (suc k) l = pushed_below xs y k (omega (arith, l))

pushed_last : (xs : List Holders) (y : Holders) → slice_get (xs ++ y ∷ []) (length xs) ≡ Some y
pushed_last [] y = refl
pushed_last (x ∷ xs) y = pushed_last xs y

-- those below the next number are held as the rights say, where one more is added that is
pub held_more : (xs ys : List Holders) (y : Holders) (n : ℕ) (r : Rights) → n ≡ length xs → ys ≡ xs ++ y ∷ [] → y ≡ record { queue = r.queue n; top = r.top n } →
    ((k : ℕ) → k < n → holders_in (slice_get xs k) ≡ record { queue = r.queue k; top = r.top k }) →
    (k : ℕ) → k < n + 1 → holders_in (slice_get ys k) ≡ record { queue = r.queue k; top = r.top k }
held_more xs ys y n r nq yq is each k l =
    ap (λ (zs : List Holders). holders_in (slice_get zs k)) yq
    ∙ elim (cases_lt k n) [
      | inl below ↦ ap holders_in (pushed_below xs y k (omega (arith, below, nq))) ∙ each k below
      | inr beyond ↦
          let last : k ≡ n = omega (arith, beyond, l) in
          ap (λ i. holders_in (slice_get (xs ++ y ∷ []) i)) (last ∙ nq) ∙ ap holders_in (pushed_last xs y) ∙ is
          ∙ ap (λ (i : ℕ). record { queue = r.queue i; top = r.top i }) (sym last)
    ]

-- Then they are the same at each.
pub same_holders : (xs : List Holders) (r : Rights) (k : ℕ) → rights_in xs ≡ r → holders_in (slice_get xs k) ≡ record { queue = r.queue k; top = r.top k }
same_holders xs r k e = λ i. record { queue = (e i).queue k; top = (e i).top k }

-- ---- all of it

pub same_states : (s t : State) → s.count ≡ t.count → s.handlers ≡ t.handlers → s.rights ≡ t.rights → s ≡ t
same_states s t count handlers rights = λ i. record { count = count i; handlers = handlers i; rights = rights i }

pub same_canon : (s t : State) → s.count ≡ t.count → s.handlers ≡ t.handlers → s.rights ≡ t.rights → canon s ≡ canon t
same_canon s t count handlers rights = ap canon (same_states s t count handlers rights)

-- the state with these tables, as it is read
abbrev pub read_state : ℕ → List coded.Handler → List ℕ → Rights → State
read_state m xs ss q = canon (record { count = m; handlers = handler_at xs ss; rights = q })

module _ (m n : ℕ) (xs ys xs' ys' : List coded.Handler) (ss ts ss' ts' : List ℕ) (q r : Rights) (h : Bool) (own : xs' ≡ xs) (counts : ss' ≡ ss) (its : ys' ≡ ys) (its_counts : ts' ≡ ts)
    (alike : IsTrue h ↔ read_at xs' ss' ≡ read_at ys' ts') where
  own_tables : read_at xs' ss' ≡ read_at xs ss
  own_tables i = read_at (own i) (counts i)

  its_tables : read_at ys' ts' ≡ read_at ys ts
  its_tables i = read_at (its i) (its_counts i)

  -- As many handlers that are read alike make states that are read alike where the rights are the same,
  pub same_read : (b : Bool) → m ≡ n → h ≡ true → (IsTrue b ↔ q ≡ r) → IsTrue b ↔ read_state m xs ss q ≡ read_state n ys ts r
  same_read b count is rights =
      let handlers : read_at xs ss ≡ read_at ys ts = sym own_tables ∙ alike.0 is ∙ its_tables in (
        λ e. let same = rights.0 e in λ i. record { count = count i; handlers = handlers i; rights = same i },
        λ e. rights.1 (ap (λ (s : State). s.rights) e),
      )

  -- and others don't.
  pub other_read : h ≡ false → IsTrue h ↔ read_state m xs ss q ≡ read_state n ys ts r
  other_read isnt = (λ is. let bad : true ≡ false = sym is ∙ isnt in cc, λ e. alike.1 (own_tables ∙ ap (λ (s : State). s.handlers) e ∙ sym its_tables))
