-- A local gets a value that fits its type: what is bound still fits.
use Rattle.std.specs.Option.{option_and_then, option_map}
use Rattle.std.specs.Prelude.{bytes_eq, if◌then◌else◌, map, slice_get}
use Rattle.std.proofs.Common.{◌++◌, Bool, List, None, Option, Some, [], ap, cond, false, inl, refl, subst, suc, sym, true, zero, ℕ, ◌∙◌, ◌∷◌, ◌≡◌}
use Rattle.sc_tree.specs.Plain.{Declaration, DeclaredType, HandlerOf, HandlerTag, Own, Separate, System}
use Rattle.sc_rules.specs.declared.entity_types.entity_type.EntityType.{EntityType}
use Rattle.sc_rules.specs.declared.entity_types.tag.Reserved.TheVariants.{BlockName, Formal}
use Rattle.sc_rules.specs.declared.entity_types.tag.Tag.{Tag}
use Rattle.sc_rules.specs.declared.entity_types.tag.Tag.TheVariants as tag
use Rattle.sc_rules.specs.Names.{is_block, is_local}
use Rattle.sc_rules.specs.Types.{declared_tag, declared_type, number_of_named}
use Rattle.sc_rules.specs.declared.position.Role.{Role}
use Rattle.sc_rules.specs.declared.position.Role.TheVariants as role
use Rattle.sc_model.specs.Environments.{Binding, assigned_to, binding_named, block_values, formal_handler, handler_named, is_formal, known_of, scope_of}
use Rattle.sc_model.specs.Fits.{Fits, Lies, OperandFits}
use Rattle.sc_model.specs.Values.{Attached, Boolean, Integer, Operand, Value, Void, handler_of}
use Rattle.sc_machine_laws.specs.states.Points.{AreBehind, Each, EnvironmentFits, LocalIsDeclared, NamesFit, OldsFit}
use Rattle.sc_machine_laws.proofs.states.Actuals.{declares}
use Rattle.sc_machine_laws.proofs.states.Attributes.{found_each}
use Rattle.sc_machine_laws.proofs.states.Environments.{EntityFits, binding_more}
use Rattle.sc_machine_laws.proofs.states.Lists.{each_more, same_some}
use Rattle.sc_machine_laws.proofs.states.PassedValues.{Names, fits_more}

-- the tag is that of a name of a separate block
abbrev names_block : Tag → Bool
names_block (tag.With (BlockName j)) = true
names_block (tag.With (Formal i)) = false
names_block tag.Own = false
names_block tag.Any = false
names_block tag.None = false

-- a declared type names none
no_block : (s : System) (formals : List Declaration) (d : DeclaredType) (t : EntityType) → declared_type s formals d ≡ Some t → names_block t.tag ≡ false
no_block s formals d t e = by d.tag (declares s formals d t e).tag_is
  where
    of_named : (o : Option ℕ) → option_map (λ i. tag.With (Formal i)) o ≡ Some t.tag → names_block t.tag ≡ false
    of_named None e = cc
    of_named (Some i) e = let q : tag.With (Formal i) ≡ t.tag = cc in ap names_block (sym q)

    by : (g : HandlerTag) → declared_tag formals g ≡ Some t.tag → names_block t.tag ≡ false
    by Own e = let q : tag.Own ≡ t.tag = cc in ap names_block (sym q)
    by Separate e = let q : tag.Any ≡ t.tag = cc in ap names_block (sym q)
    by (HandlerOf x) e = of_named (number_of_named x.text formals) e

module _ (x : List ℕ) (v : Value) where
  pub scope_assigned : (bs : List Binding) → scope_of (assigned_to x v bs) ≡ scope_of bs
  scope_assigned [] = refl
  scope_assigned (b ∷ bs) = by (bytes_eq b.name x) (scope_assigned bs)
    where
      by : (c : Bool) → scope_of (assigned_to x v bs) ≡ scope_of bs → scope_of (if c then record b { value = v } ∷ bs else b ∷ assigned_to x v bs) ≡ known_of b ∷ scope_of bs
      by true e = refl
      by false e = ap (λ n. known_of b ∷ n) e

  pub each_assigned : (P : Binding → Type 0) (bs : List Binding) → Each P bs → ((b : Binding) → binding_named x bs ≡ Some b → P b → P (record b { value = v })) → Each P (assigned_to x v bs)
  each_assigned P [] e f = tt
  each_assigned P (b ∷ bs) e f = by (bytes_eq b.name x) f (each_assigned P bs e.1)
    where
      by : (c : Bool) → ((d : Binding) → cond c (Some b) (binding_named x bs) ≡ Some d → P d → P (record d { value = v })) →
          (((b : Binding) → binding_named x bs ≡ Some b → P b → P (record b { value = v })) → Each P (assigned_to x v bs)) →
          Each P (if c then record b { value = v } ∷ bs else b ∷ assigned_to x v bs)
      by true f go = (f b refl e.0, e.1)
      by false f go = (e.0, go f)

  -- an attribute, or another name, gets a value that fits its type
  pub declared_assigned : {A : Type 0} (f : Binding → A) → ((b : Binding) → f (record b { value = v }) ≡ f b) → (bs : List Binding) → map f (assigned_to x v bs) ≡ map f bs
  declared_assigned f same [] = refl
  declared_assigned f same (b ∷ bs) = by (bytes_eq b.name x) (declared_assigned f same bs)
    where
      by : (c : Bool) → map f (assigned_to x v bs) ≡ map f bs → map f (if c then record b { value = v } ∷ bs else b ∷ assigned_to x v bs) ≡ f b ∷ map f bs
      by true e = ap (λ a. a ∷ map f bs) (same b)
      by false e = ap (λ n. f b ∷ n) e

  -- the first of the name, where there is one, is a local
  abbrev IsLocal : List Binding → Type 0
  IsLocal bs = (b : Binding) → binding_named x bs ≡ Some b → is_local b.role ≡ true

  local_formal : (b : Binding) (w : Value) → is_local b.role ≡ true → formal_handler (record b { value = w }) ≡ None
  local_formal b w e = by b.role e
    where
      by : (r : Role) → is_local r ≡ true → (if is_formal r then handler_of w else None) ≡ None
      by role.Local e = refl
      by role.Formal e = cc
      by role.Block e = cc
      by role.Test e = cc

  formals_same : (bs : List Binding) (i : ℕ) → IsLocal bs → option_and_then formal_handler (slice_get (assigned_to x v bs) i) ≡ option_and_then formal_handler (slice_get bs i)
  formals_same [] i l = refl
  formals_same (b ∷ bs) i l = by (bytes_eq b.name x) i l (λ i. formals_same bs i)
    where
      by : (c : Bool) (i : ℕ) → ((d : Binding) → cond c (Some b) (binding_named x bs) ≡ Some d → is_local d.role ≡ true) →
          ((i : ℕ) → IsLocal bs → option_and_then formal_handler (slice_get (assigned_to x v bs) i) ≡ option_and_then formal_handler (slice_get bs i)) →
          option_and_then formal_handler (slice_get (if c then record b { value = v } ∷ bs else b ∷ assigned_to x v bs) i) ≡ option_and_then formal_handler (slice_get (b ∷ bs) i)
      by true zero l go = local_formal b v (l b refl) ∙ sym (local_formal b b.value (l b refl))
      by true (suc i) l go = refl
      by false zero l go = refl
      by false (suc i) l go = go i l

  blocks_same : (bs : List Binding) → IsLocal bs → block_values (assigned_to x v bs) ≡ block_values bs
  blocks_same [] l = refl
  blocks_same (b ∷ bs) l = by (bytes_eq b.name x) l (blocks_same bs)
    where
      no_block_role : (r : Role) → is_local r ≡ true → is_block r ≡ false
      no_block_role role.Local e = refl
      no_block_role role.Formal e = cc
      no_block_role role.Block e = cc
      no_block_role role.Test e = cc

      by : (c : Bool) → ((d : Binding) → cond c (Some b) (binding_named x bs) ≡ Some d → is_local d.role ≡ true) → (IsLocal bs → block_values (assigned_to x v bs) ≡ block_values bs) →
          block_values (if c then record b { value = v } ∷ bs else b ∷ assigned_to x v bs) ≡ (if is_block b.role then b.value ∷ block_values bs else block_values bs)
      by true l go = let e = no_block_role b.role (l b refl) in
          ap (λ c. if c then v ∷ block_values bs else block_values bs) e ∙ sym (ap (λ c. if c then b.value ∷ block_values bs else block_values bs) e)
      by false l go = ap (λ vs. if is_block b.role then b.value ∷ vs else vs) (go l)

  names_assigned : (bs : List Binding) → IsLocal bs → Names (handler_named bs) (handler_named (assigned_to x v bs))
  names_assigned bs l (Formal i) k e = formals_same bs i l ∙ e
  names_assigned bs l (BlockName j) k e = ap (λ vs. option_and_then handler_of (slice_get vs j)) (blocks_same bs l) ∙ e

  -- what stands before a point afterwards stood before it, and has got the value too
  record Parted (bs pre post : List Binding) : Type 0 where
    pub front : List Binding
    pub back : List Binding
    pub are : bs ≡ front ++ back
    pub front_is : pre ≡ assigned_to x v front
    pub behind : AreBehind post → AreBehind back

  roles_back : (bs : List Binding) → AreBehind (assigned_to x v bs) → AreBehind bs
  roles_back [] e = tt
  roles_back (b ∷ bs) e = by (bytes_eq b.name x) e (roles_back bs)
    where
      by : (c : Bool) → AreBehind (if c then record b { value = v } ∷ bs else b ∷ assigned_to x v bs) → (AreBehind (assigned_to x v bs) → AreBehind bs) → AreBehind (b ∷ bs)
      by true e go = e
      by false e go = (e.0, go e.1)

  parted : (bs pre post : List Binding) → assigned_to x v bs ≡ pre ++ post → Parted bs pre post
  parted bs [] post e = record { front = []; back = bs; are = refl; front_is = refl; behind = λ r. roles_back bs (subst AreBehind (sym e) r) }
  parted [] (c ∷ pre) post e = cc
  parted (b ∷ bs) (c ∷ pre) post e = by (bytes_eq b.name x) refl e (parted bs pre post)
    where
      by : (d : Bool) → bytes_eq b.name x ≡ d → (if d then record b { value = v } ∷ bs else b ∷ assigned_to x v bs) ≡ c ∷ pre ++ post →
          (assigned_to x v bs ≡ pre ++ post → Parted bs pre post) → Parted (b ∷ bs) (c ∷ pre) post
      by true i e go =
          let q : record b { value = v } ≡ c = cc in let r : bs ≡ pre ++ post = cc in
          record {
            front = b ∷ pre;
            back = post;
            are = ap (λ bs. b ∷ bs) r;
            front_is = ap (λ c. c ∷ pre) (sym q) ∙ sym (ap (λ d. if d then record b { value = v } ∷ pre else b ∷ assigned_to x v pre) i);
            behind = λ r. r;
          }
      by false i e go =
          let q : b ≡ c = cc in let r : assigned_to x v bs ≡ pre ++ post = cc in let z = go r in
          record {
            front = b ∷ z.front;
            back = z.back;
            are = ap (λ bs. b ∷ bs) z.are;
            front_is = ap (λ c. c ∷ pre) (sym q) ∙ ap (λ pre. b ∷ pre) z.front_is ∙ sym (ap (λ d. if d then record b { value = v } ∷ z.front else b ∷ assigned_to x v z.front) i);
            behind = z.behind;
          }

  named_before : (bs cs : List Binding) (b : Binding) → binding_named x bs ≡ Some b → binding_named x (bs ++ cs) ≡ Some b
  named_before [] cs b e = cc
  named_before (c ∷ bs) cs b e = by (bytes_eq c.name x) e (named_before bs cs b)
    where
      by : (d : Bool) → cond d (Some c) (binding_named x bs) ≡ Some b → (binding_named x bs ≡ Some b → binding_named x (bs ++ cs) ≡ Some b) →
          cond d (Some c) (binding_named x (bs ++ cs)) ≡ Some b
      by true e go = e
      by false e go = go e

-- a formal's handler is known before what stands after the formals
formal_before : (bs cs : List Binding) (i k : ℕ) → AreBehind cs → option_and_then formal_handler (slice_get (bs ++ cs) i) ≡ Some k → option_and_then formal_handler (slice_get bs i) ≡ Some k
formal_before [] [] i k r e = e
formal_before [] (c ∷ cs) zero k r e = absurd (none (is_formal c.role) r.0 e)
  where
    none : (b : Bool) → b ≡ false → (if b then handler_of c.value else None) ≡ Some k → ⊥
    none true e f = cc
    none false e f = cc
formal_before [] (c ∷ cs) (suc i) k r e = absurd (nothing_there (formal_before [] cs i k r.1 e))
  where
    nothing_there : option_and_then formal_handler (slice_get [] i) ≡ Some k → ⊥
    nothing_there e = cc
formal_before (b ∷ bs) cs zero k r e = e
formal_before (b ∷ bs) cs (suc i) k r e = formal_before bs cs i k r e

-- what fits a type that names no block fits it where the last names aren't known
fits_before : (s : System) (me : ℕ) (bs cs : List Binding) (v : Value) (t : EntityType) → names_block t.tag ≡ false → AreBehind cs → Fits s me (handler_named (bs ++ cs)) v t →
    Fits s me (handler_named bs) v t
fits_before s me bs cs (Integer z) t e r f = f
fits_before s me bs cs (Boolean b) t e r f = f
fits_before s me bs cs Void t e r f = f
fits_before s me bs cs (Attached q) t e r f = (f.0, by t.tag e f.1)
  where
    by : (g : Tag) → names_block g ≡ false → Lies g me (handler_named (bs ++ cs)) q.handler → Lies g me (handler_named bs) q.handler
    by tag.Own e l = l
    by tag.Any e l = tt
    by tag.None e l = l
    by (tag.With (Formal i)) e l = formal_before bs cs i q.handler r l
    by (tag.With (BlockName j)) e l = cc

-- A local gets a value that fits its type.
pub environment_assigned : (s : System) (me : ℕ) (x : List ℕ) (v : Value) (bs : List Binding) (b : Binding) → EnvironmentFits s me bs → binding_named x bs ≡ Some b → is_local b.role ≡ true →
    Fits s me (handler_named bs) v b.type → EnvironmentFits s me (assigned_to x v bs)
environment_assigned s me x v bs b env there local fits = record {
  locals_are_declared = each_assigned x v (LocalIsDeclared s) bs env.locals_are_declared (λ c e p. p);
  fit = λ pre post e r. of_parts pre post r (parted x v bs pre post e);
}
  where
    same : {c d : Binding} → Some c ≡ Some d → c ≡ d
    same e = cc

    no_block_named : names_block b.type.tag ≡ false
    no_block_named = let d = found_each (LocalIsDeclared s) x bs b env.locals_are_declared there local in no_block s d.0 d.1 b.type d.2

    of_front : (front back : List Binding) → bs ≡ front ++ back → AreBehind back → NamesFit s me (assigned_to x v front)
    of_front front back are r =
        each_assigned x v (EntityFits s me (handler_named (assigned_to x v front))) front
        (each_more (EntityFits s me (handler_named front)) (EntityFits s me (handler_named (assigned_to x v front))) (λ c. binding_more s me (handler_named front) (handler_named (assigned_to x v front)) c more) front
        (env.fit front back are r))
        (λ c e f. inl (fits_more s me (handler_named front) (handler_named (assigned_to x v front)) v c.type more
        (fits_before s me front back v c.type (subst (λ (c : Binding). names_block c.type.tag ≡ false) (is_b c e) no_block_named) r
        (subst (λ bs. Fits s me (handler_named bs) v c.type) are (subst (λ (c : Binding). Fits s me (handler_named bs) v c.type) (is_b c e) fits)))))
      where
        is_b : (c : Binding) → binding_named x front ≡ Some c → b ≡ c
        is_b c e = same (sym there ∙ ap (binding_named x) are ∙ named_before x v front back c e)

        more : Names (handler_named front) (handler_named (assigned_to x v front))
        more = names_assigned x v front (λ c e. subst (λ (c : Binding). is_local c.role ≡ true) (is_b c e) local)

    of_parts : (pre post : List Binding) → AreBehind post → Parted x v bs pre post → NamesFit s me pre
    of_parts pre post r z = subst (NamesFit s me) (sym z.front_is) (of_front z.front z.back z.are (z.behind r))

pub olds_assigned : (s : System) (me : ℕ) (x : List ℕ) (v : Value) (bs : List Binding) (b : Binding) (us : List Operand) → OldsFit s me bs us → binding_named x bs ≡ Some b → is_local b.role ≡ true →
    OldsFit s me (assigned_to x v bs) us
olds_assigned s me x v bs b us f there local pre post e r = of_parts (parted x v bs pre post e)
  where
    of_parts : Parted x v bs pre post → Each (OperandFits s me pre) us
    of_parts z = subst (λ pre. Each (OperandFits s me pre) us) (sym z.front_is)
        (each_more (OperandFits s me z.front) (OperandFits s me (assigned_to x v z.front))
        (λ u. fits_more s me (handler_named z.front) (handler_named (assigned_to x v z.front)) u.value u.type (names_assigned x v z.front is_it)) us (f z.front z.back z.are (z.behind r)))
      where
        is_it : (c : Binding) → binding_named x z.front ≡ Some c → is_local c.role ≡ true
        is_it c e = let q : b ≡ c = same_some (sym there ∙ ap (binding_named x) z.are ∙ named_before x v z.front z.back c e) in subst (λ (c : Binding). is_local c.role ≡ true) q local
