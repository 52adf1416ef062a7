-- Slots: what stands in them, and what is written.
use Rattle.std.proofs.Common.{◌≡◌, ◌≤◌, ℕ, zero, suc, ◌+◌, List, [], ◌∷◌, ◌++◌, Option, Some, None, true, false, length, map, refl, sym, ap, ◌∙◌, arith, length-append, append_assoc}
use Rattle.std.specs.Prelude.{if◌then◌else◌, slice_get, slice_set, take, drop, ◌&&◌}
use Rattle.std.specs.Option.{option_map, option_and_then}
use Rattle.std.proofs.Math.Seq.{set-append_seam}
use Rattle.sc_tree.specs.Plain.{System, DeclaredType, Name}
use Rattle.sc_class.specs.declared.identity.ClassId.TheVariants as class
use Rattle.sc_class.specs.Tables.Conformance.{class_conforms}
use Rattle.sc_rules.specs.declared.entity_types.tag.Tag.{Tag}
use Rattle.sc_rules.specs.declared.entity_types.tag.Tag.TheVariants as tag
use Rattle.sc_rules.specs.declared.entity_types.tag.Reserved.TheVariants.{Formal, BlockName}
use Rattle.sc_rules.specs.declared.entity_types.entity_type.EntityType.{EntityType}
use Rattle.sc_rules.specs.declared.position.Role.TheVariants as role
use Rattle.sc_rules.specs.Names.{Entities, test_type, is_block, blocks}
use Rattle.sc_model.specs.Values.{Value, Integer, Boolean, Void, Attached, Operand, values_of, handler_of}
use Rattle.sc_model.specs.Environments.{Binding, bind, known_of, scope_of, block_bound, is_formal, formal_handler, block_values, handler_named}
use Rattle.sc_model.specs.ObjectTests.{is_number, lies, is_of_type, is_tested}
use Rattle.sc_code.specs.Places.{Setting, here, with_heads}
use Rattle.sc_code.specs.Emitted.{block_slots, formal_at, with_slot, residence, tested_type, tested}
use Rattle.sc_code.specs.Machine as machine
use Rattle.sc_code.specs.Stands.{values_in, types_of}

pub scope_length : (bs : List Binding) → length (scope_of bs) ≡ length bs
scope_length [] = refl
scope_length (b ∷ bs) = ap (λ n. suc n) (scope_length bs)

pub values_length : (bs : List Binding) → length (values_in bs) ≡ length bs
values_length [] = refl
values_length (b ∷ bs) = ap (λ n. suc n) (values_length bs)

pub scope_append : (bs cs : List Binding) → scope_of (bs ++ cs) ≡ scope_of bs ++ scope_of cs
scope_append [] cs = refl
scope_append (b ∷ bs) cs = ap (λ l. known_of b ∷ l) (scope_append bs cs)

pub values_append : (bs cs : List Binding) → values_in (bs ++ cs) ≡ values_in bs ++ values_in cs
values_append [] cs = refl
values_append (b ∷ bs) cs = ap (λ l. b.value ∷ l) (values_append bs cs)

pub scope_take : (d : ℕ) (bs : List Binding) → scope_of (take d bs) ≡ take d (scope_of bs)
scope_take zero bs = refl
scope_take (suc d) [] = refl
scope_take (suc d) (b ∷ bs) = ap (λ l. known_of b ∷ l) (scope_take d bs)

-- the slot behind the names gets the value of one more
pub written_next : (bs : List Binding) (b : Binding) (x : Value) (rest : List Value) → slice_set (values_in bs ++ x ∷ rest) (length (scope_of bs)) b.value ≡ values_in (bs ++ b ∷ []) ++ rest
written_next bs b x rest =
    ap (λ n. slice_set (values_in bs ++ x ∷ rest) n b.value) (scope_length bs ∙ sym (values_length bs))
    ∙ set-append_seam (values_in bs) x rest b.value
    ∙ sym (append_assoc (values_in bs) (b.value ∷ []) rest)
    ∙ ap (λ l. l ++ rest) (sym (values_append bs (b ∷ [])))

-- ---- object tests

scope_got : (bs : List Binding) (i : ℕ) → slice_get (scope_of bs) i ≡ option_map known_of (slice_get bs i)
scope_got [] i = refl
scope_got (b ∷ bs) zero = refl
scope_got (b ∷ bs) (suc i) = scope_got bs i

value_got : (bs : List Binding) (tail : List Value) (i : ℕ) (b : Binding) → slice_get bs i ≡ Some b → slice_get (values_in bs ++ tail) i ≡ Some b.value
value_got [] tail i b e = absurd (cc)
value_got (c ∷ bs) tail zero b e = let same : c ≡ b = cc in ap (λ (b : Binding). Some b.value) same
value_got (c ∷ bs) tail (suc i) b e = value_got bs tail i b e

formal_resides : (me k i : ℕ) (bs : List Binding) (tail : List Value)
    → machine.resides (with_slot (formal_at i (slice_get (scope_of bs) i))) me (values_in bs ++ tail) k ≡ is_number (option_and_then formal_handler (slice_get bs i)) k
formal_resides me k i bs tail =
    ap (λ o. machine.resides (with_slot (formal_at i o)) me (values_in bs ++ tail) k) (scope_got bs i)
    ∙ elim (slice_get bs i) as (λ o. slice_get bs i ≡ o → machine.resides (with_slot (formal_at i (option_map known_of o))) me (values_in bs ++ tail) k ≡ is_number (option_and_then formal_handler o) k) [
      | None ↦ λ e. refl
      | Some b ↦ λ e.
          elim (is_formal b.role) as (λ c. machine.resides (with_slot (if c then Some i else None)) me (values_in bs ++ tail) k ≡ is_number (if c then handler_of b.value else None) k) [
            | true ↦ ap (λ v. is_number (option_and_then handler_of v) k) (value_got bs tail i b e)
            | false ↦ refl
          ]
    ] refl

later_got : (l : List ℕ) (j : ℕ) → slice_get (map (λ k. suc k) l) j ≡ option_map (λ k. suc k) (slice_get l j)
later_got [] j = refl
later_got (k ∷ l) zero = refl
later_got (k ∷ l) (suc j) = later_got l j

-- the value in the slot, if there is one
abbrev value_at : List Value → Option ℕ → Option Value
value_at slots o = option_and_then (slice_get slots) o

value_later : (v : Value) (slots : List Value) (o : Option ℕ) → value_at (v ∷ slots) (option_map (λ k. suc k) o) ≡ value_at slots o
value_later v slots None = refl
value_later v slots (Some k) = refl

block_here : (b : Binding) (bs : List Binding) (tail : List Value) (rest : (j : ℕ) → value_at (values_in bs ++ tail) (slice_get (block_slots (scope_of bs)) j) ≡ slice_get (block_values bs) j) (j : ℕ)
    → value_at (b.value ∷ (values_in bs ++ tail)) (slice_get (0 ∷ map (λ k. suc k) (block_slots (scope_of bs))) j) ≡ slice_get (b.value ∷ block_values bs) j
block_here b bs tail rest zero = refl
block_here b bs tail rest (suc j) =
    ap (value_at (b.value ∷ (values_in bs ++ tail))) (later_got (block_slots (scope_of bs)) j) ∙ value_later b.value (values_in bs ++ tail) (slice_get (block_slots (scope_of bs)) j) ∙ rest j

block_got : (bs : List Binding) (tail : List Value) (j : ℕ) → value_at (values_in bs ++ tail) (slice_get (block_slots (scope_of bs)) j) ≡ slice_get (block_values bs) j
block_got [] tail j = refl
block_got (b ∷ bs) tail j =
    elim (is_block b.role) as (λ c. value_at (b.value ∷ (values_in bs ++ tail)) (slice_get (if c then 0 ∷ map (λ k. suc k) (block_slots (scope_of bs)) else map (λ k. suc k) (block_slots (scope_of bs))) j)
    ≡ slice_get (if c then b.value ∷ block_values bs else block_values bs) j) [
      | true ↦ block_here b bs tail (block_got bs tail) j
      | false ↦ ap (value_at (b.value ∷ (values_in bs ++ tail))) (later_got (block_slots (scope_of bs)) j)
          ∙ value_later b.value (values_in bs ++ tail) (slice_get (block_slots (scope_of bs)) j) ∙ block_got bs tail j
    ]

resides_slot : (me k : ℕ) (slots : List Value) (o : Option ℕ) → machine.resides (with_slot o) me slots k ≡ is_number (option_and_then handler_of (value_at slots o)) k
resides_slot me k slots None = refl
resides_slot me k slots (Some i) = refl

resides_is : (me k : ℕ) (bs : List Binding) (tail : List Value) (g : Tag) → machine.resides (residence (scope_of bs) g) me (values_in bs ++ tail) k ≡ lies g me (handler_named bs) k
resides_is me k bs tail tag.Own = refl
resides_is me k bs tail tag.Any = refl
resides_is me k bs tail tag.None = refl
resides_is me k bs tail (tag.With (Formal i)) = formal_resides me k i bs tail
resides_is me k bs tail (tag.With (BlockName j)) =
    resides_slot me k (values_in bs ++ tail) (slice_get (block_slots (scope_of bs)) j)
    ∙ ap (λ v. is_number (option_and_then handler_of v) k) (block_got bs tail j)

is_of_type_is : (s : System) (me : ℕ) (bs : List Binding) (tail : List Value) (v : Value) (t : EntityType)
    → machine.is_of_type s me (values_in bs ++ tail) v (tested_type (scope_of bs) t) ≡ is_of_type s me (handler_named bs) v t
is_of_type_is s me bs tail (Integer z) t = refl
is_of_type_is s me bs tail (Boolean b) t = refl
is_of_type_is s me bs tail Void t = refl
is_of_type_is s me bs tail (Attached r) t = ap (λ b. class_conforms s (class.Declared r.class) t.class && b) (resides_is me r.handler bs tail t.tag)

-- the test of the operation is that of the model
pub test_is : (h : Setting) (me : ℕ) (bs : List Binding) (tail : List Value) (v : Value) (d : Option DeclaredType) (u : Option EntityType) (t : EntityType)
    → test_type (here h) d u ≡ Some t → machine.is_tested h.system me (values_in bs ++ tail) v (tested h (scope_of bs) d) ≡ is_tested h.system me (handler_named bs) v d t
test_is h me bs tail v None u t e = refl
test_is h me bs tail v (Some d) u t e =
    ap (λ o. machine.is_tested h.system me (values_in bs ++ tail) v (option_map (tested_type (scope_of bs)) o)) e ∙ is_of_type_is h.system me bs tail v t

-- ---- names that are forgotten, and names of blocks

-- what stood in the slots of forgotten names is left over
pub forgotten : (d : ℕ) (bs : List Binding) (tail : List Value) → values_in bs ++ tail ≡ values_in (take d bs) ++ (values_in (drop d bs) ++ tail)
forgotten zero bs tail = refl
forgotten (suc d) [] tail = refl
forgotten (suc d) (b ∷ bs) tail = ap (λ l. b.value ∷ l) (forgotten d bs tail)

pub forgotten_length : (d : ℕ) (bs : List Binding) (tail : List Value) → length (take d bs) + length (values_in (drop d bs) ++ tail) ≡ length bs + length tail
forgotten_length zero bs tail = omega (arith, length-append (values_in bs) tail, values_length bs)
forgotten_length (suc d) [] tail = refl
forgotten_length (suc d) (b ∷ bs) tail = omega (arith, forgotten_length d bs tail)

-- the first of the names are those in front of the others
pub first_names : (low more : Entities) → take (length low) (low ++ more) ≡ low
first_names [] more = refl
first_names (e ∷ low) more = ap (λ l. e ∷ l) (first_names low more)

-- The names of a block's heads, of which each stands in the next slot.
pub record Opened (xs : List Name) (us : List Operand) (bs : List Binding) (tail : List Value) : Type 0 where
  pub rest : List Value
  pub slots : machine.written (length (scope_of bs)) (values_of us) (values_in bs ++ tail) ≡ values_in (block_bound xs us bs) ++ rest
  pub names : scope_of (block_bound xs us bs) ≡ with_heads xs (types_of us) (scope_of bs)
  pub many : length (block_bound xs us bs) ≡ length bs + length xs
  pub all : length (block_bound xs us bs) + length rest ≡ length bs + length tail

pub opened : (xs : List Name) (us : List Operand) (bs : List Binding) (tail : List Value) → length us ≡ length xs → length xs ≤ length tail → Opened xs us bs tail
opened [] [] bs tail e l = record { rest = tail; slots = refl; names = refl; many = omega arith; all = refl }
opened [] (u ∷ us) bs tail e l = absurd (omega (arith, e))
opened (x ∷ xs) [] bs tail e l = absurd (omega (arith, e))
opened (x ∷ xs) (u ∷ us) bs [] e l = absurd (omega (arith, l))
opened (x ∷ xs) (u ∷ us) bs (y ∷ tail) e l =
    let t : EntityType = record { attached = true; tag = tag.With (BlockName (blocks (scope_of bs))); class = u.type.class } in
    let b = bind x.text t role.Block u.value in
    let more = opened xs us (bs ++ b ∷ []) tail (omega (arith, e)) (omega (arith, l)) in
    let k : length (scope_of (bs ++ b ∷ [])) ≡ suc (length (scope_of bs)) = omega (arith, scope_length (bs ++ b ∷ []), scope_length bs, length-append bs (b ∷ [])) in
    record {
      rest = more.rest;
      slots = ap (λ s. machine.written (suc (length (scope_of bs))) (values_of us) s) (written_next bs b y tail)
          ∙ ap (λ n. machine.written n (values_of us) (values_in (bs ++ b ∷ []) ++ tail)) (sym k) ∙ more.slots;
      names = more.names ∙ ap (λ n. with_heads xs (types_of us) n) (scope_append bs (b ∷ []));
      many = omega (arith, more.many, length-append bs (b ∷ []));
      all = omega (arith, more.all, length-append bs (b ∷ []));
    }
