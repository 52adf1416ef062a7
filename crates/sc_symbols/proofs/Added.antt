-- What a walk has added, part after part.
use Rattle.std.proofs.Common.{◌≡◌, ℕ, ◌+◌, ◌<◌, ◌≤◌, List, [], ◌∷◌, ◌++◌, length, drop, take, get_or, map, refl, Option, None, Result, Ok, Err, ap, sym, subst, ◌∙◌, append_assoc, append-nil}
use Rattle.std.specs.Prelude.{OnOk}
use Rattle.std.specs.List.{flat_map}
use Rattle.std.specs.declared.alloc.AllocError.{AllocError}
use Rattle.std.proofs.lemmas.Grind.{flat_map-append}
use Rattle.std.proofs.lemmas.List.{take_all, take_more}
use Rattle.sc_tree.specs.declared.system.Class.{Class}
use Rattle.sc_tree.specs.Plain.{System, Name, Declaration, RoutineDeclaration}
use Rattle.sc_rules.specs.Names.{RoutineContext, context_of}
use Rattle.sc_tree.specs.View.{class_of}
use Rattle.sc_class.proofs.Anys.{at, drop_end}
use Rattle.sc_symbols.specs.declared.symbol.Mention.{Mention}
use Rattle.sc_class.specs.declared.identity.ClassId.{ClassId}
use Rattle.sc_symbols.specs.Mentions.{mentions_in_class, mentions_in_classes, mentions_in_routine, mentions_in_text, mentions_of_class, mentions_of_declaration, mentions_of_feature_if_any, mentions_of_type_if_any, every_function}
use Rattle.sc_symbols.specs.Scopes.{Scope, TypeOf, no_scope, scope_of_formals}

-- two parts one after the other
pub two : {Y : Type 0} (old mid new a b : List Y) → mid ≡ old ++ a → new ≡ mid ++ b → new ≡ old ++ (a ++ b)
two old mid new a b e f = f ∙ ap (λ ys. ys ++ b) e ∙ append_assoc old a b

-- the same where the last part is added, if all goes well
pub two_if_ok : {Y : Type 0} (r : Result Unit AllocError) (old mid new a b : List Y) → mid ≡ old ++ a → OnOk r (new ≡ mid ++ b) → OnOk r (new ≡ old ++ (a ++ b))
two_if_ok (Ok u) old mid new a b e f = two old mid new a b e f
two_if_ok (Err x) old mid new a b e f = tt

pub three_if_ok : {Y : Type 0} (r : Result Unit AllocError) (old one mid new a b c : List Y) → one ≡ old ++ a → mid ≡ one ++ b → OnOk r (new ≡ mid ++ c) →
    OnOk r (new ≡ old ++ (a ++ (b ++ c)))
three_if_ok r old one mid new a b c e f g = two_if_ok r old one new a (b ++ c) e (two_if_ok r one mid new b c f g)

-- another name for what is added
pub named_if_ok : {Y : Type 0} (r : Result Unit AllocError) (old new a b : List Y) → a ≡ b → OnOk r (new ≡ old ++ a) → OnOk r (new ≡ old ++ b)
named_if_ok (Ok u) old new a b e f = f ∙ ap (λ ys. old ++ ys) e
named_if_ok (Err x) old new a b e f = tt

pub nothing : {Y : Type 0} (old a : List Y) → a ≡ [] → old ≡ old ++ a
nothing old a e = sym (ap (λ ys. old ++ ys) e ∙ append-nil old)

pub mentioned_two : (old mid new a b : List Mention) → mid ≡ old ++ a → new ≡ mid ++ b → new ≡ old ++ (a ++ b)
mentioned_two old mid new a b e f = two old mid new a b e f

pub mentioned_three : (old one mid new a b c : List Mention) → one ≡ old ++ a → mid ≡ one ++ b → new ≡ mid ++ c → new ≡ old ++ (a ++ (b ++ c))
mentioned_three old one mid new a b c e f g = two old one new a (b ++ c) e (two one mid new b c f g)

pub mentioned_four : (old one mid late new a b c d : List Mention) → one ≡ old ++ a → mid ≡ one ++ b → late ≡ mid ++ c → new ≡ late ++ d →
    new ≡ old ++ (a ++ (b ++ (c ++ d)))
mentioned_four old one mid late new a b c d e f g h = two old one new a (b ++ (c ++ d)) e (mentioned_three one mid late new b c d f g h)

pub mentioned_five : (old one mid late last new a b c d k : List Mention) → one ≡ old ++ a → mid ≡ one ++ b → late ≡ mid ++ c → last ≡ late ++ d →
    new ≡ last ++ k → new ≡ old ++ (a ++ (b ++ (c ++ (d ++ k))))
mentioned_five old one mid late last new a b c d k e f g h i =
    two old one new a (b ++ (c ++ (d ++ k))) e (mentioned_four one mid late last new b c d k f g h i)

-- ---- loops

-- what the items so far give, and what the next one does
pub next_given : {X Y : Type 0} (f : X → List Y) (xs : List X) (i : ℕ) (x : X) (start before now : List Y) → i < length xs → x ≡ get_or xs i x →
    before ≡ start ++ flat_map f (take i xs) → now ≡ before ++ f x → now ≡ start ++ flat_map f (take (i + 1) xs)
next_given f xs i x start before now there is so-far more =
    more ∙ ap (λ ys. ys ++ f x) so-far ∙ append_assoc start (flat_map f (take i xs)) (f x)
    ∙ ap (λ y. start ++ (flat_map f (take i xs) ++ f y)) is
    ∙ ap (λ ys. start ++ (flat_map f (take i xs) ++ ys)) (sym (append-nil (f (get_or xs i x))))
    ∙ ap (λ ys. start ++ ys) (sym (flat_map-append f (take i xs) (get_or xs i x ∷ [])))
    ∙ ap (λ ys. start ++ flat_map f ys) (sym (take_more xs i x there))

-- all of them
pub all_given : {X Y : Type 0} (f : X → List Y) (xs : List X) (i : ℕ) (start now all : List Y) → length xs ≤ i → all ≡ flat_map f xs →
    now ≡ start ++ flat_map f (take i xs) → now ≡ start ++ all
all_given f xs i start now all past is so-far = so-far ∙ ap (λ ys. start ++ flat_map f ys) (take_all i xs past) ∙ ap (λ ys. start ++ ys) (sym is)

-- a part, and what is left
next_left : {Y : Type 0} (total now new piece here left : List Y) → here ≡ piece ++ left → total ≡ now ++ here → new ≡ now ++ piece →
    total ≡ new ++ left
next_left total now new piece here left e inv q =
    inv ∙ ap (λ ys. now ++ ys) e ∙ sym (append_assoc now piece left) ∙ ap (λ ys. ys ++ left) (sym q)

-- nothing is left
end_left : {Y : Type 0} (total now left : List Y) → left ≡ [] → total ≡ now ++ left → now ≡ total
end_left total now left e inv = sym (inv ∙ ap (λ ys. now ++ ys) e ∙ append-nil now)

module _ (type : TypeOf) (s : System) (xs : List Class) (i : ℕ) where
  pub classes_next : (x : Class) (total now new : List Mention) → i < length xs → x ≡ get_or xs i x →
      total ≡ now ++ mentions_in_classes type s i (map class_of (drop i xs)) → new ≡ now ++ mentions_in_class type s i (class_of x) →
      total ≡ new ++ mentions_in_classes type s (i + 1) (map class_of (drop (i + 1) xs))
  classes_next x total now new l g inv q =
      next_left total now new (mentions_in_class type s i (class_of x)) (mentions_in_classes type s i (map class_of (drop i xs)))
      (mentions_in_classes type s (i + 1) (map class_of (drop (i + 1) xs)))
      (ap (λ (ys : List Class). mentions_in_classes type s i (map class_of ys)) (at xs i x l g)) inv q

  pub classes_end : (total now : List Mention) → length xs ≤ i →
      total ≡ now ++ mentions_in_classes type s i (map class_of (drop i xs)) → now ≡ total
  classes_end total now l inv =
      end_left total now (mentions_in_classes type s i (map class_of (drop i xs)))
      (ap (λ (ys : List Class). mentions_in_classes type s i (map class_of ys)) (drop_end xs i l)) inv

-- features of no class
none_among : (s : System) (xs : List Name) → flat_map (mentions_of_feature_if_any s None) xs ≡ []
none_among s [] = refl
none_among s (x ∷ xs) = none_among s xs

pub none_more : (s : System) (old new : List Mention) (x : Name) (xs : List Name) (k : Option ClassId) → k ≡ None → new ≡ old ++ mentions_of_class s x →
    new ≡ old ++ (mentions_of_class s x ++ flat_map (mentions_of_feature_if_any s k) xs)
none_more s old new x xs k none e =
    two old new new (mentions_of_class s x) (flat_map (mentions_of_feature_if_any s k) xs) e
    (nothing new _ (ap (λ k. flat_map (mentions_of_feature_if_any s k) xs) none ∙ none_among s xs))

-- the formals of a routine, its result type and its text
pub routine_added : (type : TypeOf) (s : System) (k : ℕ) (r : RoutineDeclaration) (h : RoutineContext) (n m : Scope) (ds : List Declaration) (q : Result Unit AllocError)
    (old one mid new : List Mention) → h ≡ context_of s every_function k r → n ≡ scope_of_formals s r.formals → m ≡ no_scope → ds ≡ r.formals →
    one ≡ old ++ flat_map (mentions_of_declaration s n) ds → mid ≡ one ++ mentions_of_type_if_any s m r.result_type →
    OnOk q (new ≡ mid ++ mentions_in_text type h n r) → OnOk q (new ≡ old ++ mentions_in_routine type s k r)
routine_added type s k r h n m ds q old one mid new is-h is-n is-m is-ds e f g =
    three_if_ok q old one mid new _ _ _
    (subst (λ (ds : List Declaration). one ≡ old ++ flat_map (mentions_of_declaration s (scope_of_formals s r.formals)) ds) is-ds
    (subst (λ (n : Scope). one ≡ old ++ flat_map (mentions_of_declaration s n) ds) is-n e))
    (subst (λ (m : Scope). mid ≡ one ++ mentions_of_type_if_any s m r.result_type) is-m f)
    (subst (λ (n : Scope). OnOk q (new ≡ mid ++ mentions_in_text type (context_of s every_function k r) n r)) is-n
    (subst (λ (h : RoutineContext). OnOk q (new ≡ mid ++ mentions_in_text type h n r)) is-h g))
