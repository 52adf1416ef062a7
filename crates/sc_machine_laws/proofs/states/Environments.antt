-- Environments: more names keep what fits, so do fewer, and a routine's formals are bound to what fits them.
-- an entity, seen with these names
use Rattle.std.specs.List.{list_all}
use Rattle.std.specs.Option.{option_and_then, option_map}
use Rattle.std.specs.Prelude.{if◌then◌else◌, length, map, slice_get, take}
use Rattle.std.proofs.Common.{◌&&◌, ◌+◌, ◌++◌, Bool, List, None, Option, Some, [], ap, append-nil, append_assoc, arith, false, inl, inr, not, refl, subst, suc, sym, true, zero, ℕ, ◌∙◌, ◌∷◌, ◌≡◌, ◌⊎◌}
use Rattle.std.proofs.lemmas.Option.{slice_get-map}
use Rattle.sc_tree.specs.Plain.{Declaration, System}
use Rattle.sc_rules.specs.entity_types.Tags.{is_any}
use Rattle.sc_rules.specs.declared.entity_types.entity_type.EntityType.{EntityType}
use Rattle.sc_rules.specs.declared.entity_types.tag.Reserved.{Reserved}
use Rattle.sc_rules.specs.declared.entity_types.tag.Reserved.TheVariants.{BlockName, Formal}
use Rattle.sc_rules.specs.declared.entity_types.tag.Tag.TheVariants as tag
use Rattle.sc_rules.specs.Names.{Entities, Entity, entity, formal_entities, formals_known, is_block, is_local, reserved}
use Rattle.sc_rules.specs.Types.{declared_type}
use Rattle.sc_rules.specs.declared.position.Role.{Role}
use Rattle.sc_rules.specs.declared.position.Role.TheVariants as role
use Rattle.sc_model.specs.Environments.{Binding, bind, block_values, formal_handler, formals_bound, handler_named, is_formal, known_of, scope_of, with_binding}
use Rattle.sc_model.specs.Fits.{Fits, IsUnset, Lies, OperandFits}
use Rattle.sc_model.specs.Values.{Attached, Boolean, Integer, Operand, Value, Void, handler_of}
use Rattle.sc_machine_laws.specs.states.Fitting.{ActualsFit, no_more, one_more}
use Rattle.sc_machine_laws.specs.states.Places.{of_actuals}
use Rattle.sc_machine_laws.specs.states.Points.{AreBehind, Each, EnvironmentFits, LocalIsDeclared, NamesFit, OldsFit}
use Rattle.sc_machine_laws.specs.states.Typed.{Extends}
use Rattle.sc_machine_laws.proofs.states.Lists.{both, each_append, each_at, each_before, each_more, found_append, no_both}
use Rattle.sc_machine_laws.proofs.states.PassedValues.{Names, fits_more}

abbrev pub EntityFits : System → ℕ → (Reserved → Option ℕ) → Binding → Type 0
EntityFits s me of b = Fits s me of b.value b.type ⊎ ((is_local b.role ≡ true) × IsUnset b.value b.type)

pub binding_more : (s : System) (me : ℕ) (of other : Reserved → Option ℕ) (b : Binding) → Names of other → EntityFits s me of b → EntityFits s me other b
binding_more s me of other b m (inl f) = inl (fits_more s me of other b.value b.type m f)
binding_more s me of other b m (inr u) = inr u

pub blocks_append : (bs cs : List Binding) → block_values (bs ++ cs) ≡ block_values bs ++ block_values cs
blocks_append [] cs = refl
blocks_append (b ∷ bs) cs = by (blocks_append bs cs) (is_block b.role)
  where
    by : block_values (bs ++ cs) ≡ block_values bs ++ block_values cs → (c : Bool) → (if c then b.value ∷ block_values (bs ++ cs) else block_values (bs ++ cs)) ≡ (if c then b.value ∷ block_values bs else block_values bs) ++ block_values cs
    by e true = ap (λ vs. b.value ∷ vs) e
    by e false = e

-- a name keeps its handler where more names are bound after it
pub names_append : (bs cs : List Binding) → Names (handler_named bs) (handler_named (bs ++ cs))
names_append bs cs (Formal i) k e = found_append formal_handler bs cs i k e
names_append bs cs (BlockName j) k e =
    ap (λ vs. option_and_then handler_of (slice_get vs j)) (blocks_append bs cs) ∙ found_append handler_of (block_values bs) (block_values cs) j k e

-- what is bound fits, seen with all names
pub all_fit : (s : System) (me : ℕ) (bs : List Binding) → EnvironmentFits s me bs → NamesFit s me bs
all_fit s me bs e = e.fit bs [] (sym (append-nil bs)) tt

-- Where a list ends so, what stands before a point in it stands before that end, or is the whole list.
record Before {A : Type 0} (xs pre post : List A) (y : A) : Type 0 where
  pub rest : List A
  pub are : xs ≡ pre ++ rest
  pub rest_is : post ≡ rest ++ y ∷ []

no_last : {A : Type 0} (xs : List A) (y : A) → [] ≡ xs ++ y ∷ [] → ⊥
no_last [] y e = cc
no_last (x ∷ xs) y e = cc

up_to : {A : Type 0} (xs pre post : List A) (y : A) → xs ++ y ∷ [] ≡ pre ++ post → Before xs pre post y ⊎ (pre ≡ xs ++ y ∷ [])
up_to xs [] post y e = inl (record { rest = xs; are = refl; rest_is = sym e })
up_to [] (p ∷ []) post y e = let q : y ≡ p = cc in inr (ap (λ p. p ∷ []) (sym q))
up_to [] (p ∷ p' ∷ pre) post y e = cc
up_to {A} (x ∷ xs) (p ∷ pre) post y e = by (up_to xs pre post y rest_is)
  where
    first_is : x ≡ p
    first_is = cc

    rest_is : xs ++ y ∷ [] ≡ pre ++ post
    rest_is = cc

    by : Before xs pre post y ⊎ (pre ≡ xs ++ y ∷ []) → Before (x ∷ xs) (p ∷ pre) post y ⊎ (p ∷ pre ≡ x ∷ xs ++ y ∷ [])
    by (inl b) = inl (record { rest = b.rest; are = ap (λ p. p ∷ xs) first_is ∙ ap (λ xs. p ∷ xs) b.are; rest_is = b.rest_is })
    by (inr q) = inr (ap (λ p. p ∷ pre) (sym first_is) ∙ ap (λ pre. x ∷ pre) q)

-- one more that fits, where its own name is known too
pub environment_more : (s : System) (me : ℕ) (bs : List Binding) (b : Binding) → EnvironmentFits s me bs → LocalIsDeclared s b → EntityFits s me (handler_named (bs ++ b ∷ [])) b →
    EnvironmentFits s me (bs ++ b ∷ [])
environment_more s me bs b e l f = record { locals_are_declared = each_append (LocalIsDeclared s) bs (b ∷ []) e.locals_are_declared (l, tt); fit = λ pre post q r. by pre post r (up_to bs pre post b q) }
  where
    more : (c : Binding) → EntityFits s me (handler_named bs) c → EntityFits s me (handler_named (bs ++ b ∷ [])) c
    more c = binding_more s me (handler_named bs) (handler_named (bs ++ b ∷ [])) c (names_append bs (b ∷ []))

    whole : NamesFit s me (bs ++ b ∷ [])
    whole = each_append (EntityFits s me (handler_named (bs ++ b ∷ []))) bs (b ∷ [])
        (each_more (EntityFits s me (handler_named bs)) (EntityFits s me (handler_named (bs ++ b ∷ []))) more bs (all_fit s me bs e)) (f, tt)

    by : (pre post : List Binding) → AreBehind post → Before bs pre post b ⊎ (pre ≡ bs ++ b ∷ []) → NamesFit s me pre
    by pre post r (inl z) = e.fit pre z.rest z.are (each_before (λ (b : Binding). is_formal b.role ≡ false) z.rest (b ∷ []) (subst AreBehind z.rest_is r))
    by pre post r (inr q) = subst (NamesFit s me) (sym q) whole

-- where the last names are forgotten, which are no formals
pub environment_before : (s : System) (me : ℕ) (bs cs : List Binding) → AreBehind cs → EnvironmentFits s me (bs ++ cs) → EnvironmentFits s me bs
environment_before s me bs cs u e = record {
  locals_are_declared = each_before (LocalIsDeclared s) bs cs e.locals_are_declared;
  fit = λ pre post q r. e.fit pre (post ++ cs) (ap (λ bs. bs ++ cs) q ∙ append_assoc pre post cs) (each_append (λ (b : Binding). is_formal b.role ≡ false) post cs r u);
}

-- ---- formals

-- they are bound in order, to what fits, and known as the rules say
pub record Bound (s : System) (me : ℕ) (of : Reserved → Option ℕ) (all : List Declaration) (i : ℕ) (ds : List Declaration) (vs : List Value) : Type 0 where
  pub bindings : List Binding
  pub bound : formals_bound s all i ds vs ≡ Some bindings
  pub known : scope_of bindings ≡ formal_entities s all i ds
  pub values : map (λ (b : Binding). b.value) bindings ≡ vs
  pub formals : Each (λ (b : Binding). is_formal b.role ≡ true) bindings
  pub fit : Each (EntityFits s me of) bindings

module _ (s : System) (me : ℕ) (all : List Declaration) (every : List Value) where
  -- an attached formal of tag `any` names its own handler
  reserved_fits : (i : ℕ) (v : Value) (t : EntityType) → slice_get every i ≡ Some v → Fits s me (of_actuals every) v t → Fits s me (of_actuals every) v (reserved i t)
  reserved_fits i (Integer z) t e f = f
  reserved_fits i (Boolean b) t e f = f
  reserved_fits i Void t e f = f
  reserved_fits i (Attached r) t e f = (f.0, by (t.attached && is_any t.tag))
    where
      by : (b : Bool) → Lies (if b then tag.With (Formal i) else t.tag) me (of_actuals every) r.handler
      by true = ap (option_and_then handler_of) e
      by false = f.1

  -- these are the values from the number on
  abbrev From : ℕ → List Value → Type 0
  From i vs = (j : ℕ) → slice_get vs j ≡ slice_get every (i + j)

  from_next : (i : ℕ) (v : Value) (vs : List Value) → From i (v ∷ vs) → From (i + 1) vs
  from_next i v vs f j = f (suc j) ∙ ap (slice_get every) (omega arith)

  from_here : (i : ℕ) (v : Value) (vs : List Value) → From i (v ∷ vs) → slice_get every i ≡ Some v
  from_here i v vs f = sym (f zero ∙ ap (slice_get every) (omega arith))

  bound_next : (i : ℕ) (d : Declaration) (ds : List Declaration) (v : Value) (vs : List Value) (t : EntityType) → declared_type s all d.declared_type ≡ Some t →
      Fits s me (of_actuals every) v (reserved i t) → Bound s me (of_actuals every) all (i + 1) ds vs → Bound s me (of_actuals every) all i (d ∷ ds) (v ∷ vs)
  bound_next i d ds v vs t e f b = record {
    bindings = bind d.name.text (reserved i t) role.Formal v ∷ b.bindings;
    bound = ap (λ o. with_binding o d.name.text i v (formals_bound s all (i + 1) ds vs)) e ∙ ap (λ o. with_binding (Some t) d.name.text i v o) b.bound;
    known = ap (λ n. entity d.name.text (Some (reserved i t)) role.Formal ∷ n) b.known
        ∙ ap (λ o. entity d.name.text (option_map (reserved i) o) role.Formal ∷ formal_entities s all (i + 1) ds) (sym e);
    values = ap (λ vs. v ∷ vs) b.values;
    formals = (refl, b.formals);
    fit = (inl f, b.fit);
  }

  bound_from : (i : ℕ) (ds : List Declaration) (vs : List Value) → From i vs → ActualsFit s me all (of_actuals every) ds vs → Bound s me (of_actuals every) all i ds vs
  bound_from i _ _ f no_more = record { bindings = []; bound = refl; known = refl; values = refl; formals = tt; fit = tt }
  bound_from i _ _ f (one_more {d} {ds} {v} {vs} {t} e g q) =
      bound_next i d ds v vs t e (reserved_fits i v t (from_here i v vs f) g) (bound_from (i + 1) ds vs (from_next i v vs f) q)

-- The formals of a routine are bound to actuals that fit, and its entry's environment fits.
pub record Entered (s : System) (me : ℕ) (formals : List Declaration) (vs : List Value) : Type 0 where
  pub bindings : List Binding
  pub bound : formals_bound s formals 0 formals vs ≡ Some bindings
  pub known : scope_of bindings ≡ formals_known s formals
  pub fit : EnvironmentFits s me bindings

actuals_named : (bs : List Binding) (vs : List Value) → map (λ (b : Binding). b.value) bs ≡ vs → Each (λ (b : Binding). is_formal b.role ≡ true) bs → Names (of_actuals vs) (handler_named bs)
actuals_named bs vs e r (Formal i) k f = by (slice_get bs i) refl (sym (slice_get-map (λ (b : Binding). b.value) bs i) ∙ ap (λ vs. slice_get vs i) e)
  where
    by : (o : Option Binding) → slice_get bs i ≡ o → option_map (λ (b : Binding). b.value) o ≡ slice_get vs i → option_and_then formal_handler o ≡ Some k
    by None j g = ap (option_and_then handler_of) g ∙ f
    by (Some b) j g =
        ap (λ (c : Bool). if c then handler_of b.value else None) (each_at (λ (b : Binding). is_formal b.role ≡ true) bs i b r j) ∙ ap (option_and_then handler_of) g ∙ f
actuals_named bs vs e r (BlockName j) k f = cc

no_local : (r : Role) → is_formal r ≡ true → is_local r ≡ true → ⊥
no_local role.Formal e f = cc
no_local role.Block e f = cc
no_local role.Local e f = cc
no_local role.Test e f = cc

-- after formals alone nothing stands that is none
none_behind : (pre post : List Binding) → Each (λ (b : Binding). is_formal b.role ≡ true) (pre ++ post) → AreBehind post → post ≡ []
none_behind [] [] e f = refl
none_behind [] (b ∷ post) e f = absurd (no_both (is_formal b.role) e.0 f.0)
none_behind (b ∷ pre) post e f = none_behind pre post e.1 f

pub entry_fits : (s : System) (me : ℕ) (formals : List Declaration) (vs : List Value) → ActualsFit s me formals (of_actuals vs) formals vs → Entered s me formals vs
entry_fits s me formals vs p = of_bound (bound_from s me formals vs 0 formals vs from_start p)
  where
    from_start : From s me formals vs 0 vs
    from_start j = ap (slice_get vs) (omega arith)

    of_bound : Bound s me (of_actuals vs) formals 0 formals vs → Entered s me formals vs
    of_bound b = record {
      bindings = b.bindings;
      bound = b.bound;
      known = b.known;
      fit = record {
        locals_are_declared = each_more (λ (b : Binding). is_formal b.role ≡ true) (LocalIsDeclared s) (λ b e f. absurd (no_local b.role e f)) b.bindings b.formals;
        fit = λ pre post q r. subst (NamesFit s me) (q ∙ ap (λ post. pre ++ post) (none_behind pre post (subst (Each (λ (b : Binding). is_formal b.role ≡ true)) q b.formals) r) ∙ append-nil pre) whole;
      };
    }
      where
        whole : NamesFit s me b.bindings
        whole = each_more (EntityFits s me (of_actuals vs)) (EntityFits s me (handler_named b.bindings)) (λ c. binding_more s me (of_actuals vs) (handler_named b.bindings) c (actuals_named b.bindings vs b.values b.formals)) b.bindings b.fit

-- ---- fewer names

-- what lies after the first names
pub record Split (n : Entities) (bs : List Binding) : Type 0 where
  pub front : List Binding
  pub back : List Binding
  pub are : bs ≡ front ++ back
  pub taken : take (length n) bs ≡ front
  pub known : scope_of front ≡ n
  pub behind : AreBehind back

all_behind : (o : Entities) (bs : List Binding) → scope_of bs ≡ o → Each (λ (e : Entity). is_formal e.role ≡ false) o → AreBehind bs
all_behind o [] e u = tt
all_behind [] (b ∷ bs) e u = cc
all_behind (x ∷ o) (b ∷ bs) e u =
    let q : known_of b ≡ x = cc in let r : scope_of bs ≡ o = cc in
    (ap (λ (e : Entity). is_formal e.role) q ∙ u.0, all_behind o bs r u.1)

pub split_at : (n o : Entities) (bs : List Binding) → scope_of bs ≡ n ++ o → Each (λ (e : Entity). is_formal e.role ≡ false) o → Split n bs
split_at [] o bs e u = record { front = []; back = bs; are = refl; taken = refl; known = refl; behind = all_behind o bs e u }
split_at (x ∷ n) o [] e u = cc
split_at (x ∷ n) o (b ∷ bs) e u = of_rest (split_at n o bs rest_is u)
  where
    first_is : known_of b ≡ x
    first_is = cc

    rest_is : scope_of bs ≡ n ++ o
    rest_is = cc

    of_rest : Split n bs → Split (x ∷ n) (b ∷ bs)
    of_rest s = record {
      front = b ∷ s.front;
      back = s.back;
      are = ap (λ bs. b ∷ bs) s.are;
      taken = ap (λ bs. b ∷ bs) s.taken;
      known = ap (λ e. e ∷ scope_of s.front) first_is ∙ ap (λ n. x ∷ n) s.known;
      behind = s.behind;
    }

-- ---- names that extend others

pub behind_listed : (o : Entities) → list_all (λ (e : Entity). not (is_formal e.role)) o ≡ true → Each (λ (e : Entity). is_formal e.role ≡ false) o
behind_listed [] e = tt
behind_listed (x ∷ o) e = let p = both (not (is_formal x.role)) (list_all (λ (e : Entity). not (is_formal e.role)) o) e in (not_true (is_formal x.role) p.0, behind_listed o p.1)
  where
    not_true : (b : Bool) → not b ≡ true → b ≡ false
    not_true true e = cc
    not_true false e = refl

pub extends_itself : (n : Entities) → Extends n n
extends_itself n = record { more = []; is_longer = sym (append-nil n); no_formals = refl }

pub listed_append : {A : Type 0} (f : A → Bool) (xs ys : List A) → list_all f xs ≡ true → list_all f ys ≡ true → list_all f (xs ++ ys) ≡ true
listed_append f [] ys d e = e
listed_append f (x ∷ xs) ys d e = by (f x) d (listed_append f xs ys)
  where
    by : (b : Bool) → (b && list_all f xs) ≡ true → (list_all f xs ≡ true → list_all f ys ≡ true → list_all f (xs ++ ys) ≡ true) → (b && list_all f (xs ++ ys)) ≡ true
    by true d go = go d e
    by false d go = cc

pub extends_further : (n m o : Entities) → Extends n m → Extends m o → Extends n o
extends_further n m o x y = record {
  more = x.more ++ y.more;
  is_longer = y.is_longer ∙ ap (λ m. m ++ y.more) x.is_longer ∙ append_assoc n x.more y.more;
  no_formals = listed_append (λ (e : Entity). not (is_formal e.role)) x.more y.more x.no_formals y.no_formals;
}

pub extends_by : (n : Entities) (e : Entity) → is_formal e.role ≡ false → Extends n (n ++ e ∷ [])
extends_by n e f = record { more = e ∷ []; is_longer = refl; no_formals = ap (λ b. not b && true) f }

pub extends_same : (n m o : Entities) → o ≡ m → Extends n m → Extends n o
extends_same n m o q x = record { more = x.more; is_longer = q ∙ x.is_longer; no_formals = x.no_formals }

-- where names are forgotten, those before them stay
pub parted_at : (n : Entities) (bs : List Binding) → Extends n (scope_of bs) → Split n bs
parted_at n bs x = split_at n x.more bs x.is_longer (behind_listed x.more x.no_formals)

-- where formals alone are known, no names stand after them
pub formals_alone : (bs pre post : List Binding) → list_all (λ (e : Entity). is_formal e.role) (scope_of bs) ≡ true → bs ≡ pre ++ post → AreBehind post → pre ≡ bs
formals_alone bs pre post e q r =
    sym (q ∙ ap (λ post. pre ++ post) (none_behind pre post (subst (Each (λ (b : Binding). is_formal b.role ≡ true)) q (all_formals bs e)) r) ∙ append-nil pre)
  where
    all_formals : (bs : List Binding) → list_all (λ (e : Entity). is_formal e.role) (scope_of bs) ≡ true → Each (λ (b : Binding). is_formal b.role ≡ true) bs
    all_formals [] e = tt
    all_formals (b ∷ bs) e = let p = both (is_formal b.role) (list_all (λ (e : Entity). is_formal e.role) (scope_of bs)) e in (p.0, all_formals bs p.1)

-- ---- values of `old`

pub olds_now : (s : System) (me : ℕ) (bs : List Binding) (us : List Operand) → OldsFit s me bs us → Each (OperandFits s me bs) us
olds_now s me bs us f = f bs [] (sym (append-nil bs)) tt

pub operands_more : (s : System) (me : ℕ) (bs cs : List Binding) (us : List Operand) → Each (OperandFits s me bs) us → Each (OperandFits s me (bs ++ cs)) us
operands_more s me bs cs us e = each_more (OperandFits s me bs) (OperandFits s me (bs ++ cs))
    (λ u. fits_more s me (handler_named bs) (handler_named (bs ++ cs)) u.value u.type (names_append bs cs)) us e

pub olds_more : (s : System) (me : ℕ) (bs : List Binding) (b : Binding) (us : List Operand) → OldsFit s me bs us → OldsFit s me (bs ++ b ∷ []) us
olds_more s me bs b us f pre post q r = by (up_to bs pre post b q)
  where
    by : Before bs pre post b ⊎ (pre ≡ bs ++ b ∷ []) → Each (OperandFits s me pre) us
    by (inl z) = f pre z.rest z.are (each_before (λ (b : Binding). is_formal b.role ≡ false) z.rest (b ∷ []) (subst AreBehind z.rest_is r))
    by (inr q) = subst (λ pre. Each (OperandFits s me pre) us) (sym q) (operands_more s me bs (b ∷ []) us (olds_now s me bs us f))

pub olds_before : (s : System) (me : ℕ) (bs cs : List Binding) (us : List Operand) → AreBehind cs → OldsFit s me (bs ++ cs) us → OldsFit s me bs us
olds_before s me bs cs us u f pre post q r =
    f pre (post ++ cs) (ap (λ bs. bs ++ cs) q ∙ append_assoc pre post cs) (each_append (λ (b : Binding). is_formal b.role ≡ false) post cs r u)
