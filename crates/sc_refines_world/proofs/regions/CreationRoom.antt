-- A routine that creates an object has room for the reference to it, also where its handler has too many objects.
use Rattle.std.proofs.Common.{◌≡◌, ◌<◌, ℕ, zero, suc, ◌+◌, Bool, true, false, List, [], ◌∷◌, ◌++◌, Option, Some, None, length, refl, ap, ◌∙◌, subst, arith}
use Rattle.std.specs.Prelude.{nat_lt, if◌then◌else◌}
use Rattle.sc_tree.specs.Plain.{Variable}
use Rattle.sc_rules.specs.declared.entity_types.entity_type.EntityType.{EntityType}
use Rattle.sc_rules.specs.Names.{Entities}
use Rattle.sc_model.specs.declared.cause.Cause.TheVariants as cause
use Rattle.sc_model.specs.Invariants.{meets_invariant}
use Rattle.sc_model.specs.Limits.{max_objects}
use Rattle.sc_model.specs.Objects.{fresh_object}
use Rattle.sc_model.specs.Routines.{Text}
use Rattle.sc_model.specs.Steps as steps
use Rattle.sc_model.specs.Steps.{Point}
use Rattle.sc_model.specs.Tasks.{Task, CreateBy}
use Rattle.sc_model.specs.Values.{Attached, Reference, Value}
use Rattle.sc_code.specs.Machine.{Act, Fails, State, Hop, Goes, Does, creates_handler, creates_object, does, fails, has_room, hop, hop_at, hops, into, popped, stuck, then_hop}
use Rattle.sc_code.specs.Machine as machine
use Rattle.sc_code.specs.Operations as op
use Rattle.sc_code.specs.Operations.{CreationSite, Operation}
use Rattle.sc_code.specs.Stands.{Run, Known, Judged, Is, Room, Stands, StandsFor, jumps, settles, creates, creates_handler as creates_another, Tells, told, judged, state_at, types_of, types_popped}
use Rattle.sc_code.proofs.Hops.{comes, hops_on, length_types, length_values, one, within}
use Rattle.sc_refines_world.proofs.regions.KeptObjects.{CreatesNext}
use Rattle.sc_refines_world.proofs.regions.Unique.{does_goes, here_shown, if_shown, one_visible}

-- ---- what is popped

pair_same : {A : Type 0} (p q : A) → Some p ≡ Some q → p ≡ q
pair_same p q e = cc

under_same : {A : Type 0} (p q : List A × List A) → Some p ≡ Some q → length p.1 ≡ length q.1
under_same p q e = ap (λ r. length r.1) (pair_same p q e)

popped_many : (n : ℕ) (us vs qs bs : List Value) → popped n us vs ≡ Some (qs, bs) → length vs ≡ n + length bs
popped_many zero us vs qs bs e = let same = under_same (us, vs) (qs, bs) e in omega (arith, same)
popped_many (suc n) us [] qs bs e = absurd (cc)
popped_many (suc n) us (v ∷ vs) qs bs e = let rest = popped_many n (v ∷ us) vs qs bs e in omega (arith, rest)

types_many : (n : ℕ) (us ts qs bs : List EntityType) → types_popped n us ts ≡ Some (qs, bs) → length ts ≡ n + length bs
types_many zero us ts qs bs e = let same = under_same (us, ts) (qs, bs) e in omega (arith, same)
types_many (suc n) us [] qs bs e = absurd (cc)
types_many (suc n) us (t ∷ ts) qs bs e = let rest = types_many n (t ∷ us) ts qs bs e in omega (arith, rest)

-- ---- where a creation stands

-- The operation creates an object, with so many actuals.
data IsCreation (n : ℕ) : Operation → Type 0 where
  here : (site : CreationSite) → site.count ≡ n → IsCreation n (op.Create site)
  elsewhere : (site : CreationSite) → site.count ≡ n → IsCreation n (op.CreateHandler site)

module _ (g : Run) (me : Reference) (tail : List Value) where
  -- After some jumps the code has the creation, and room for the reference.
  record Creation (pc : ℕ) (ts : List EntityType) (n : ℕ) : Type 0 where
    place : ℕ
    steps : ℕ
    run : (p : Point) → hops steps g.system g.code me (state_at pc tail p) ≡ Goes (state_at place tail p)
    operation : Operation
    is : Is g place operation
    creates_it : IsCreation n operation
    us : List EntityType
    vs : List EntityType
    pops : types_popped n [] ts ≡ Some (us, vs)
    room : Room g vs 1

  never_judged : {A : Type 0} (pc : ℕ) (t : Text) (low high : Entities) (o ts : List EntityType) (v : Variable) (x : Option (List ℕ)) (n : ℕ) (k : List Task) →
      StandsFor g pc (Judged t low high o ts) (CreateBy v x n ∷ k) → A
  never_judged pc t low high o ts v x n k (jumps {m = m} is st) = never_judged (pc + 1 + m) t low high o ts v x n k st

  creation_at : (pc : ℕ) (t : Text) (e : Entities) (o ts : List EntityType) (v : Variable) (x : Option (List ℕ)) (n : ℕ) (k : List Task) →
      StandsFor g pc (Known t e o ts) (CreateBy v x n ∷ k) → Creation pc ts n
  creation_at pc t e o ts v x n k (jumps {m = m} is st) =
      let more = creation_at (pc + 1 + m) t e o ts v x n k st in
      record {
        place = more.place;
        steps = suc more.steps;
        run = λ p. ap (λ y. then_hop y (hops more.steps g.system g.code me))
            (one g me pc tail (op.Jump m) p (into g.code (pc + 1 + m) (state_at pc tail p)) is refl
            ∙ comes g me (pc + 1 + m) (state_at pc tail p) (within g (pc + 1 + m) (Known t e o ts) (CreateBy v x n ∷ k) st)) ∙ more.run p;
        operation = more.operation;
        is = more.is;
        creates_it = more.creates_it;
        us = more.us;
        vs = more.vs;
        pops = more.pops;
        room = more.room;
      }
  creation_at pc t e o ts v x n k (settles {low = low} {u = u} f b st) = never_judged pc t low e o _ v x n k st
  creation_at pc t e o ts v x n k (creates {us = us} {vs = vs} a b c pops is room st) =
      record { place = pc; steps = 0; run = λ p. refl; operation = _; is = is; creates_it = here _ refl; us = us; vs = vs; pops = pops; room = room }
  creation_at pc t e o ts v x n k (creates_another {us = us} {vs = vs} a b c pops is room st) =
      record { place = pc; steps = 0; run = λ p. refl; operation = _; is = is; creates_it = elsewhere _ refl; us = us; vs = vs; pops = pops; room = room }

  creation_told : (pc : ℕ) (p : Point) (next : CreatesNext p) → Tells g pc p → Creation pc (types_of p.values) next.count
  creation_told pc p next (told st) =
      creation_at pc _ _ _ (types_of p.values) next.variable next.procedure next.count next.rest (subst (StandsFor g pc _) next.tasks st)
  creation_told pc p next (judged u us low high e j st) =
      never_judged pc _ low high _ (types_of us) next.variable next.procedure next.count next.rest (subst (StandsFor g pc _) next.tasks st)

  -- ---- it is visible

  abbrev Shows : Hop → Type 0
  Shows h = (k : State) → h ≡ Goes k → ⊥

  own_shown : (site : CreationSite) (o : Option (List Value × List Value)) (f : State) → Shows (machine.creates g.system g.code me site o f)
  own_shown site None f = λ k e. does_goes _ _ k e
  own_shown site (Some (us, vs)) f = here_shown g.system g.code me site us (record f { values = vs })

  handler_shown : (site : CreationSite) (o : Option (List Value × List Value)) (f : State) → Shows (creates_handler g.code site o f)
  handler_shown site None f = λ k e. does_goes _ _ k e
  handler_shown site (Some (us, vs)) f =
      if_shown (has_room g.code true (record f { values = vs })) _ _ (λ k e. does_goes _ _ k e) (λ k e. does_goes _ _ k e)

  creation_shown : (n : ℕ) (o : Operation) → IsCreation n o → (f : State) → Shows (hop_at g.system g.code me o f)
  creation_shown n _ (here site e) f = own_shown site (popped site.count [] f.values) f
  creation_shown n _ (elsewhere site e) f = handler_shown site (popped site.count [] f.values) f

  -- ---- too many objects

  abbrev TooMany : State → Hop
  TooMany f = Does (Fails cause.TooManyObjects) f

  object_no : {A : Type 0} (r : Reference) (x : Option (List ℕ)) (us : List Value) (f h : State) → creates_object g.system g.code r x us f ≡ TooMany h → A
  object_no {A} r (Some x) us f h e = by (nat_lt (length f.values) g.code.depth) e
    where
      by : (b : Bool) → (if b then does (machine.Enters steps.Creation r x us false) (record f { values = Attached r ∷ f.values }) else stuck f) ≡ TooMany h → A
      by true e = cc
      by false e = cc
  object_no {A} r None us f h e = by (meets_invariant g.system (fresh_object g.system r.class)) (nat_lt (length f.values) g.code.depth) e
    where
      by : (b c : Bool) →
          (if b then (if c then does machine.Creates (record f { values = Attached r ∷ f.values }) else stuck f) else fails cause.Invariant f) ≡ TooMany h → A
      by true true e = cc
      by true false e = cc
      by false c e = cc

  handler_no : {A : Type 0} (site : CreationSite) (o : Option (List Value × List Value)) (f h : State) → creates_handler g.code site o f ≡ TooMany h → A
  handler_no site None f h e = cc
  handler_no {A} site (Some (us, vs)) f h e = by (nat_lt (length vs) g.code.depth) e
    where
      by : (b : Bool) →
          (if b then does (machine.CreatesHandler site.class site.procedure us site.passes) (record f { values = vs }) else stuck (record f { values = vs })) ≡ TooMany h → A
      by true e = cc
      by false e = cc

  -- what is left under the actuals
  own_left : (site : CreationSite) (o : Option (List Value × List Value)) (f h : State) → popped site.count [] f.values ≡ o →
      machine.creates g.system g.code me site o f ≡ TooMany h → length f.values ≡ site.count + length h.values
  own_left site None f h pops e = cc
  own_left site (Some (us, vs)) f h pops e = by (nat_lt (length f.objects) max_objects) e
    where
      r : Reference
      r = record { handler = me.handler; number = length f.objects + 1; class = site.class }

      by : (b : Bool) →
          (if b then creates_object g.system g.code r site.procedure us (record f { objects = f.objects ++ fresh_object g.system site.class ∷ []; values = vs })
          else fails cause.TooManyObjects (record f { values = vs })) ≡ TooMany h → length f.values ≡ site.count + length h.values
      by true e = object_no r site.procedure us _ h e
      by false e =
          let same : record f { values = vs } ≡ h = cc in
          popped_many site.count [] f.values us vs pops ∙ ap (λ (q : State). site.count + length q.values) same

  creation_left : (n : ℕ) (o : Operation) → IsCreation n o → (f h : State) → hop_at g.system g.code me o f ≡ TooMany h → length f.values ≡ n + length h.values
  creation_left n _ (here site e) f h is = own_left site (popped site.count [] f.values) f h refl is ∙ ap (λ k. k + length h.values) e
  creation_left n _ (elsewhere site e) f h is = handler_no site (popped site.count [] f.values) f h is

  -- Where a routine stands that creates an object, and comes to too many, there is room for one more operand.
  pub room_left : (pc : ℕ) (p : Point) → Stands g pc tail p → CreatesNext p → (start : State) (silent count : ℕ) (last : State) (a : Act) (h : State) →
      hops silent g.system g.code me start ≡ Goes (state_at pc tail p) → hops count g.system g.code me start ≡ Goes last → hop g.system g.code me last ≡ Does a h →
      a ≡ Fails cause.TooManyObjects → length h.values < g.code.depth
  room_left pc p stands next start silent count last a h reaches comes_so does_so fails_so =
      let c = creation_told pc p next stands.tells in
      let there = state_at c.place tail p in
      let reached = hops_on g me silent start (state_at pc tail p) (Goes there) reaches c.steps (c.run p) in
      let shows = one g me c.place tail c.operation p (hop_at g.system g.code me c.operation there) c.is refl in
      let same = one_visible g.system g.code me last there a h (hop_at g.system g.code me c.operation there) does_so shows
      (creation_shown next.count c.operation c.creates_it there) count reached.0 start comes_so reached.1 in
      let left_so = creation_left next.count c.operation c.creates_it there h (same ∙ ap (λ a. Does a h) fails_so) in
      let under = types_many next.count [] (types_of p.values) c.us c.vs c.pops in
      let values = length_values p.values in
      let types = length_types p.values in
      let room = c.room in
      omega (arith, left_so, under, values, types, room)
