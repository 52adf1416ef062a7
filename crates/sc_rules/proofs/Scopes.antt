-- A tag names what is known where it stands: what an expression has, by the ways in which it gets its type.
use Rattle.std.proofs.Common.{◌≡◌, ◌+◌, ℕ, suc, Bool, true, false, not, ◌&&◌, List, [], ◌∷◌, Option, Some, None, refl, subst, arith}
use Rattle.std.specs.Prelude.{bytes_eq, if◌then◌else◌, slice_get}
use Rattle.std.specs.Option.{option_map}
use Rattle.std.specs.List.{list_all}
use Rattle.sc_tree.specs.declared.expression.UnaryOperator.{UnaryOperator}
use Rattle.sc_tree.specs.declared.expression.UnaryOperator.TheVariants as unary
use Rattle.sc_tree.specs.declared.expression.BinaryOperator.{BinaryOperator}
use Rattle.sc_tree.specs.declared.expression.BinaryOperator.TheVariants as binary
use Rattle.sc_tree.specs.Plain.{System, Declaration, DeclaredType, HandlerTag, Own, Separate, HandlerOf, FeatureKind, Attribute, Routine, Expr, Target, no_target, target, Name}
use Rattle.sc_class.specs.declared.identity.ClassId.{ClassId}
use Rattle.sc_class.specs.declared.identity.ClassId.TheVariants as class
use Rattle.sc_tree.specs.Properties.{is_print}
use Rattle.sc_class.specs.Tables.Conformance.{is_expanded, type_class}
use Rattle.sc_class.specs.Tables.Features.{DeclaredFeature, feature_named}
use Rattle.sc_rules.specs.declared.entity_types.tag.Reserved.TheVariants.{Formal}
use Rattle.sc_rules.specs.declared.entity_types.tag.Tag.{Tag}
use Rattle.sc_rules.specs.declared.entity_types.tag.Tag.TheVariants as tag
use Rattle.sc_rules.specs.declared.entity_types.entity_type.EntityType.{EntityType}
use Rattle.sc_rules.specs.entity_types.Combiners.{result_tag, combined_result}
use Rattle.sc_rules.specs.declared.position.Context.{Context}
use Rattle.sc_rules.specs.declared.position.Position.{Position}
use Rattle.sc_rules.specs.Types.{is_nameable, number_of_named, declared_tag, is_marked, typed, declared_type, gives_if, unary_type, binary_type, unary_result, binary_result, test_result}
use Rattle.sc_rules.specs.Names.{RoutineContext, Entity, Entities, entity_named, Signature, print_signature, current, Meaning, unknown, target_untyped, named, given_type, signature_of_kind, meaning_of_feature, entity_or, meaning_of}
use Rattle.sc_rules.specs.Typing.{Typing, HasType, number, truth, void, current_object, result, call, untyped_target_call, unary, binary, and_then, test, HasReceiver, implicit, explicit}
use Rattle.sc_rules.specs.ScopeLaws.{is_nameable_if_any, names_known}
use Rattle.sc_rules.proofs.Typings.{found_holds}

-- what a tag may name: these formals, and so many names of separate blocks
pub record Scope : Type 0 where
  pub formals : List Declaration
  pub blocks : ℕ

abbrev pub in_scope : Scope → Tag → Bool
in_scope b g = names_known b.formals b.blocks g

abbrev pub type_in_scope : Scope → Option EntityType → Bool
type_in_scope b None = true
type_in_scope b (Some t) = in_scope b t.tag

abbrev pub all_in_scope : Scope → Entities → Bool
all_in_scope b n = list_all (λ (e : Entity). type_in_scope b e.type) n

result_scope : (b : Scope) (t r : Tag) → in_scope b t ≡ true → in_scope b r ≡ true → in_scope b (result_tag t r) ≡ true
result_scope b tag.Own r e f = f
result_scope b tag.Any tag.Own e f = e
result_scope b tag.Any tag.Any e f = refl
result_scope b tag.Any tag.None e f = refl
result_scope b tag.Any (tag.With y) e f = refl
result_scope b tag.None tag.Own e f = e
result_scope b tag.None tag.Any e f = refl
result_scope b tag.None tag.None e f = refl
result_scope b tag.None (tag.With y) e f = refl
result_scope b (tag.With x) tag.Own e f = e
result_scope b (tag.With x) tag.Any e f = refl
result_scope b (tag.With x) tag.None e f = refl
result_scope b (tag.With x) (tag.With y) e f = refl

-- the formal that a tag may name is an attached separate one
pub named_is_nameable : (x : List ℕ) (ds : List Declaration) (i : ℕ) → number_of_named x ds ≡ Some i →
    is_nameable_if_any (slice_get ds i) ≡ true
named_is_nameable x [] i e = cc
named_is_nameable x (d ∷ ds) i e = by_name (bytes_eq d.name.text x) (λ k f. named_is_nameable x ds k f) e
  where
    shifted : (o : Option ℕ) → option_map (λ i. i + 1) o ≡ Some i →
        ((k : ℕ) → o ≡ Some k → is_nameable_if_any (slice_get ds k) ≡ true) →
        is_nameable_if_any (slice_get (d ∷ ds) i) ≡ true
    shifted None e f = cc
    shifted (Some k) e f = subst (λ i. is_nameable_if_any (slice_get (d ∷ ds) i) ≡ true) (same_number (k + 1) i e)
        (at_next k (f k refl))
      where
        same_number : (j i : ℕ) → Some j ≡ Some i → j ≡ i
        same_number j i e = cc

        next : (k : ℕ) → suc k ≡ k + 1
        next k = grind arith

        at_next : (k : ℕ) → is_nameable_if_any (slice_get ds k) ≡ true →
            is_nameable_if_any (slice_get (d ∷ ds) (k + 1)) ≡ true
        at_next k e = subst (λ j. is_nameable_if_any (slice_get (d ∷ ds) j) ≡ true) (next k) e

    by_mark : (m : Bool) → is_nameable d ≡ m → (if m then Some 0 else None) ≡ Some i →
        is_nameable_if_any (slice_get (d ∷ ds) i) ≡ true
    by_mark false j e = cc
    by_mark true j e = subst (λ i. is_nameable_if_any (slice_get (d ∷ ds) i) ≡ true) (zero_is i e) j
      where
        zero_is : (i : ℕ) → Some 0 ≡ Some i → 0 ≡ i
        zero_is i e = cc

    by_name : (m : Bool) → ((k : ℕ) → number_of_named x ds ≡ Some k → is_nameable_if_any (slice_get ds k) ≡ true) →
        (if m then (if is_nameable d then Some 0 else None) else option_map (λ i. i + 1) (number_of_named x ds)) ≡ Some i →
        is_nameable_if_any (slice_get (d ∷ ds) i) ≡ true
    by_name true f e = by_mark (is_nameable d) refl e
    by_name false f e = shifted (number_of_named x ds) e f

-- a tag that names one of these names what may be named
abbrev pub MayName : Scope → List Declaration → Type 0
MayName b formals = (x : List ℕ) (i : ℕ) → number_of_named x formals ≡ Some i →
    is_nameable_if_any (slice_get b.formals i) ≡ true

pub none_named : (b : Scope) → MayName b []
none_named b x i e = cc

named_scope : (b : Scope) (formals : List Declaration) → MayName b formals → (x : List ℕ) (o : Option ℕ) (g : Tag) →
    number_of_named x formals ≡ o →
    option_map (λ i. tag.With (Formal i)) o ≡ Some g → in_scope b g ≡ true
named_scope b formals m x None g n e = cc
named_scope b formals m x (Some i) g n e = subst (λ g. in_scope b g ≡ true) (same (tag.With (Formal i)) g e) (m x i n)
  where
    same : (a b : Tag) → Some a ≡ Some b → a ≡ b
    same a b e = cc

pub tag_scope : (b : Scope) (formals : List Declaration) → MayName b formals → (t : HandlerTag) (g : Tag) →
    declared_tag formals t ≡ Some g → in_scope b g ≡ true
tag_scope b formals m Own g e = subst (λ g. in_scope b g ≡ true) (same tag.Own g e) refl
  where
    same : (a b : Tag) → Some a ≡ Some b → a ≡ b
    same a b e = cc
tag_scope b formals m Separate g e = subst (λ g. in_scope b g ≡ true) (same tag.Any g e) refl
  where
    same : (a b : Tag) → Some a ≡ Some b → a ≡ b
    same a b e = cc
tag_scope b formals m (HandlerOf x) g e = named_scope b formals m x.text (number_of_named x.text formals) g refl e

typed_scope : (b : Scope) (formals : List Declaration) → MayName b formals →
    (t : DeclaredType) (c : Option ClassId) (g : Option Tag) →
    declared_tag formals t.tag ≡ g → type_in_scope b (typed t c g) ≡ true
typed_scope b formals m t None g e = refl
typed_scope b formals m t (Some c) None e = refl
typed_scope b formals m t (Some c) (Some g) e = by (is_expanded c && is_marked t)
  where
    by : (a : Bool) → type_in_scope b (if a then None else Some (record { attached = not t.is_detachable; tag = g; class = c })) ≡ true
    by true = refl
    by false = tag_scope b formals m t.tag g e

-- a declared type names what its formals are
pub declared_scope : (b : Scope) (s : System) (formals : List Declaration) → MayName b formals → (t : DeclaredType) →
    type_in_scope b (declared_type s formals t) ≡ true
declared_scope b s formals m t = typed_scope b formals m t (type_class s t.class.text) (declared_tag formals t.tag) refl

abbrev entity_scope : Scope → EntityType → Bool
entity_scope b t = in_scope b t.tag

combined_scope : (b : Scope) (t r : EntityType) → in_scope b t.tag ≡ true → in_scope b r.tag ≡ true →
    in_scope b (combined_result t r).tag ≡ true
combined_scope b t r e f = by (is_expanded r.class)
  where
    by : (m : Bool) → entity_scope b (if m then record { attached = true; tag = tag.Own; class = r.class } else record { attached = r.attached; tag = result_tag t.tag r.tag; class = r.class }) ≡ true
    by true = refl
    by false = result_scope b t.tag r.tag e f

mapped_scope : (b : Scope) (t : EntityType) → in_scope b t.tag ≡ true → (o : Option EntityType) →
    type_in_scope b o ≡ true → type_in_scope b (option_map (combined_result t) o) ≡ true
mapped_scope b t e None f = refl
mapped_scope b t e (Some r) f = combined_scope b t r e f

given_scope : (b : Scope) (s : System) (t : EntityType) (d : DeclaredType) → in_scope b t.tag ≡ true →
    type_in_scope b (given_type s t d) ≡ true
given_scope b s t d e = mapped_scope b t e (declared_type s [] d) (declared_scope b s [] (none_named b) d)

-- what the meaning gives is in scope
abbrev GivesScoped : Scope → Meaning → Type 0
GivesScoped b unknown = Unit {0}
GivesScoped b target_untyped = Unit {0}
GivesScoped b (named g) = (o : Option EntityType) → g.gives ≡ Some o → type_in_scope b o ≡ true

same_option : (a b : Option EntityType) → Some a ≡ Some b → a ≡ b
same_option a b e = cc

kind_scope : (b : Scope) (s : System) (t : EntityType) (f : DeclaredFeature) (k : FeatureKind) →
    in_scope b t.tag ≡ true → GivesScoped b (named (signature_of_kind s t f k))
kind_scope b s t f (Attribute d) e o i = subst (λ o. type_in_scope b o ≡ true) (same_option (given_type s t d) o i)
    (given_scope b s t d e)
kind_scope b s t f (Routine routine) e o i = by_result routine.result_type i
  where
    by_result : (r : Option DeclaredType) → option_map (given_type s t) r ≡ Some o → type_in_scope b o ≡ true
    by_result None i = cc
    by_result (Some d) i = subst (λ o. type_in_scope b o ≡ true) (same_option (given_type s t d) o i)
        (given_scope b s t d e)

feature_scope : (b : Scope) (s : System) (t : EntityType) → in_scope b t.tag ≡ true → (o : Option DeclaredFeature) →
    GivesScoped b (meaning_of_feature s t o)
feature_scope b s t e None = tt
feature_scope b s t e (Some f) = kind_scope b s t f f.feature.kind e

unqualified_scope : (b : Scope) (h : RoutineContext) (n : Entities) → all_in_scope b n ≡ true →
    (x : List ℕ) (o : Option Entity) → entity_named x n ≡ o → GivesScoped b (entity_or h x o)
unqualified_scope b h n a x (Some e) i = λ o j.
    subst (λ o. type_in_scope b o ≡ true) (same_option e.type o j)
    (found_holds (λ (e : Entity). type_in_scope b e.type) (λ (e : Entity). bytes_eq e.name x) n e a i)
unqualified_scope b h n a x None i = by (is_print x)
  where
    by : (p : Bool) → GivesScoped b (if p then named (print_signature h) else meaning_of_feature h.system (current h) (feature_named h.system (class.Declared h.class) x))
    by true = λ o j. cc
    by false = feature_scope b h.system (current h) refl (feature_named h.system (class.Declared h.class) x)

meaning_scope : (b : Scope) (h : RoutineContext) (n : Entities) → all_in_scope b n ≡ true →
    (a : Target) (t : Option EntityType) → type_in_scope b t ≡ true → (x : Name) → GivesScoped b (meaning_of h n a t x)
meaning_scope b h n i no_target t e x = unqualified_scope b h n i x.text (entity_named x.text n) refl
meaning_scope b h n i (target a) (Some t) e x = feature_scope b h.system t e (feature_named h.system t.class x.text)
meaning_scope b h n i (target a) None e x = tt

own_if : (b : Scope) (m : Bool) (t r : EntityType) → in_scope b t.tag ≡ true → gives_if m t ≡ Some r →
    in_scope b r.tag ≡ true
own_if b true t r e i = subst (λ r. in_scope b r.tag ≡ true) (same t r i) e
  where
    same : (a b : EntityType) → Some a ≡ Some b → a ≡ b
    same a b e = cc
own_if b false t r e i = cc

-- the type that is given is in scope, where what it is given by is
abbrev pub HasScope : Scope → RoutineContext → Type 0
HasScope b h = (t : Option EntityType) → h.result ≡ Some t → type_in_scope b t ≡ true

given_by : (b : Scope) (m : Meaning) (g : Signature) (o : Option EntityType) → GivesScoped b m → m ≡ named g →
    g.gives ≡ Some o → type_in_scope b o ≡ true
given_by b m g o s e i = subst (λ m. GivesScoped b m) e s o i

lifted : (b : Scope) (o : Option EntityType) (r : Option EntityType) →
    ((t : EntityType) → o ≡ Some t → in_scope b t.tag ≡ true) → option_map (λ (t : EntityType). Some t) o ≡ Some r →
    type_in_scope b r ≡ true
lifted b None r f e = cc
lifted b (Some t) r f e = subst (λ r. type_in_scope b r ≡ true) (same_option (Some t) r e) (f t refl)

unary_scope : (b : Scope) (op : UnaryOperator) (o r : Option EntityType) → type_in_scope b o ≡ true →
    unary_result op o ≡ Some r → type_in_scope b r ≡ true
unary_scope b op None r e i = subst (λ r. type_in_scope b r ≡ true) (same_option None r i) refl
unary_scope b unary.Old (Some a) r e i = subst (λ r. type_in_scope b r ≡ true) (same_option (Some a) r i) e
unary_scope b unary.Not (Some a) r e i = lifted b (unary_type unary.Not a) r (λ t j. own_if b _ _ t refl j) i
unary_scope b unary.Plus (Some a) r e i = lifted b (unary_type unary.Plus a) r (λ t j. own_if b _ _ t refl j) i
unary_scope b unary.Minus (Some a) r e i = lifted b (unary_type unary.Minus a) r (λ t j. own_if b _ _ t refl j) i

test_scope : (b : Scope) (o : Option EntityType) → type_in_scope b (test_result o) ≡ true
test_scope b None = refl
test_scope b (Some t) = refl

made : (b : Scope) (op : BinaryOperator) (a c t : EntityType) → binary_type op a c ≡ Some t → in_scope b t.tag ≡ true
made b binary.Times a c t j = own_if b _ _ t refl j
made b binary.Quotient a c t j = own_if b _ _ t refl j
made b binary.Remainder a c t j = own_if b _ _ t refl j
made b binary.Plus a c t j = own_if b _ _ t refl j
made b binary.Minus a c t j = own_if b _ _ t refl j
made b binary.Equal a c t j = own_if b _ _ t refl j
made b binary.NotEqual a c t j = own_if b _ _ t refl j
made b binary.Less a c t j = own_if b _ _ t refl j
made b binary.Greater a c t j = own_if b _ _ t refl j
made b binary.LessEqual a c t j = own_if b _ _ t refl j
made b binary.GreaterEqual a c t j = own_if b _ _ t refl j
made b binary.And a c t j = own_if b _ _ t refl j
made b binary.AndThen a c t j = own_if b _ _ t refl j
made b binary.Or a c t j = own_if b _ _ t refl j
made b binary.OrElse a c t j = own_if b _ _ t refl j
made b binary.Xor a c t j = own_if b _ _ t refl j
made b binary.Implies a c t j = own_if b _ _ t refl j

binary_scope : (b : Scope) (op : BinaryOperator) (o p r : Option EntityType) → binary_result op o p ≡ Some r →
    type_in_scope b r ≡ true
binary_scope b op None p r i = subst (λ r. type_in_scope b r ≡ true) (same_option None r i) refl
binary_scope b op (Some a) None r i = subst (λ r. type_in_scope b r ≡ true) (same_option None r i) refl
binary_scope b op (Some a) (Some c) r i = lifted b (binary_type op a c) r (λ t j. made b op a c t j) i

mutual
  pub has_scope : {h : RoutineContext} {c : Context} {k : Position} {n : Entities} {e : Expr} {t : Typing}
      (b : Scope) → HasScope b h → all_in_scope b n ≡ true → HasType h c k n e t → type_in_scope b t.type ≡ true
  has_scope b r i number = refl
  has_scope b r i truth = refl
  has_scope b r i (void v) = refl
  has_scope b r i current_object = refl
  has_scope b r i (result {t} e) = r t e
  has_scope {h} {n} b r i (call {a} {x} {r = q} {g} {t} d m s ts f p l v y w) = given_by b (meaning_of h n a q.type x) g t (meaning_scope b h n i a q.type (receiver_scope b r i d) x) s v
  has_scope b r i (untyped_target_call d e ts) = refl
  has_scope b r i (unary {op} {t} {r = q} d o e) = unary_scope b op t.type q (has_scope b r i d) e
  has_scope b r i (binary {op} {t} {u} {r = q} j d e f) = binary_scope b op t.type u.type q f
  has_scope b r i (and_then {op} {t} {u} {r = q} j d g e f) = binary_scope b op t.type u.type q f
  has_scope b r i (test {t} d e) = test_scope b t.type

  receiver_scope : {h : RoutineContext} {c : Context} {n : Entities} {a : Target} {t : Typing} (b : Scope) →
      HasScope b h → all_in_scope b n ≡ true → HasReceiver h c n a t → type_in_scope b t.type ≡ true
  receiver_scope b r i implicit = refl
  receiver_scope b r i (explicit d) = has_scope b r i d
