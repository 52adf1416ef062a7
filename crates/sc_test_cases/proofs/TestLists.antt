-- The tests of a system, class after class and name after name.
use Rattle.std.proofs.Common.{◌≡◌, ◌∙◌, ◌⊎◌, inl, inr, ℕ, ◌+◌, ◌<◌, ◌≤◌, ◌&&◌, Bool, true, false, if◌then◌else◌, List, [], ◌∷◌, ◌++◌, Option, Result, Ok, Err, IfErr, OnOk, length, map, take, get_or, string_bytes, codes, eqb, refl, subst, sym, ap, append_assoc, append-nil}
use Rattle.std.specs.List.{flat_map, starts_with}
use Rattle.std.proofs.lemmas.Grind.{flat_map-append}
use Rattle.std.proofs.lemmas.List.{map-append, take_all, take_more}
use Rattle.std.proofs.lemmas.List.Folds.{flat_map-map}
use Rattle.sc_tree.specs.Plain.{Class, Name, System}
use Rattle.sc_class.specs.declared.fault.ClassFault.{ClassFault}
use Rattle.sc_class.specs.declared.fault.ClassFault.TheVariants as classes
use Rattle.sc_class.specs.ClassNames.{Root}
use Rattle.sc_class.specs.View.{root_of}
use Rattle.sc_class.specs.declared.root.Root as code
use Rattle.sc_class.specs.Faults.ClassRules.{Fails, IsFaultless, has_root, duplicate_class, unknown_parent, cycle, duplicate_feature, bad_redefinition, no_root, limit, left_out}
use Rattle.sc_frontend.specs.Rejection.{of_classes}
use Rattle.sc_frontend.specs.Texts.{IsRead, IsUnreadable}
use Rattle.sc_frontend.specs.declared.rejection.Rejection.{Rejection}
use Rattle.sc_frontend.proofs.TextLemmas.{class-fault, fault-refused, refused-not_run, unreadable-refused}
use Rattle.sc_test_cases.specs.Tests.{IsAtFaultFor, IsRefusedFor, is_chosen, root_at, test_if_any, tests_if_chosen, tests_of_class}

-- ---- lists

-- what the items so far give, and what the next one does
pub one_more : {X Y Z : Type 0} (of : Z → Y) (f : X → List Y) (xs : List X) (i : ℕ) (d : X) (start : List Y) (before now : List Z) → i < length xs →
    map of before ≡ start ++ flat_map f (take i xs) → map of now ≡ map of before ++ f (get_or xs i d) →
    map of now ≡ start ++ flat_map f (take (i + 1) xs)
one_more of f xs i d start before now there so-far more =
    more ∙ ap (λ ys. ys ++ f (get_or xs i d)) so-far ∙ append_assoc start (flat_map f (take i xs)) (f (get_or xs i d))
    ∙ ap (λ ys. start ++ (flat_map f (take i xs) ++ ys)) (sym (append-nil (f (get_or xs i d))))
    ∙ ap (λ ys. start ++ ys) (sym (flat_map-append f (take i xs) (get_or xs i d ∷ [])))
    ∙ ap (λ ys. start ++ flat_map f ys) (sym (take_more xs i d there))

-- the same where the items are borrowed
pub next_given : {X Y Z : Type 0} (of : Z → Y) (f : X → List Y) (xs ys : List X) (i : ℕ) (d item : X) (start : List Y) (before now : List Z) → ys ≡ xs →
    i < length ys → item ≡ get_or ys i d → map of before ≡ start ++ flat_map f (take i xs) → map of now ≡ map of before ++ f item →
    map of now ≡ start ++ flat_map f (take (i + 1) xs)
next_given of f xs ys i d item start before now same there is so-far more =
    one_more of f xs i d start before now (subst (λ (l : List _). i < length l) same there) so-far
    (more ∙ ap (λ x. map of before ++ f x) (is ∙ ap (λ l. get_or l i d) same))

-- all of them
pub all_given : {X W Y Z : Type 0} (of : Z → Y) (f : W → List Y) (v : X → W) (xs : List X) (i : ℕ) (start : List Y) (now : List Z) → length xs ≤ i →
    map of now ≡ start ++ flat_map (λ x. f (v x)) (take i xs) → map of now ≡ start ++ flat_map f (map v xs)
all_given of f v xs i start now all so-far =
    so-far ∙ ap (λ ys. start ++ flat_map (λ x. f (v x)) ys) (take_all i xs all) ∙ ap (λ ys. start ++ ys) (sym (flat_map-map f v xs))

-- ---- roots

root_if : (s : System) (root : Root) (b : Bool) → has_root s root ≡ b → IsFaultless s root → b ≡ true
root_if s root true e faultless = refl
root_if s root false e faultless = absurd (faultless classes.NoRoot (no_root e))

-- a system without a fault can be run from its root
pub rooted : (s : System) (root : Root) → IsFaultless s root → has_root s root ≡ true
rooted s root faultless = root_if s root (has_root s root) refl faultless

-- one that is refused for its root can't
pub unrooted : (s : System) (root : Root) (f : ClassFault) → f ≡ classes.NoRoot → (f ≡ classes.OutOfMemory) ⊎ Fails s root f → has_root s root ≡ false
unrooted s root f is (inl e) = cc (e, is)
unrooted s root f is (inr (duplicate_class y)) = cc is
unrooted s root f is (inr (unknown_parent y)) = cc is
unrooted s root f is (inr (cycle y)) = cc is
unrooted s root f is (inr (duplicate_feature e y)) = cc is
unrooted s root f is (inr (bad_redefinition e y)) = cc is
unrooted s root f is (inr (no_root e)) = e
unrooted s root f is (inr (limit y)) = cc is
unrooted s root f is (inr (left_out y)) = cc is

-- what tables say of the root
pub ran : {T : Type 0} (s : System) (root : Root) (r : Result T ClassFault) (x : T) → r ≡ Ok x → OnOk r (IsFaultless s root) → true ≡ has_root s root
ran s root r x is all = sym (rooted s root (rw is at all))

pub not_ran : {T : Type 0} (s : System) (root : Root) (r : Result T ClassFault) (f : ClassFault) → r ≡ Err f → f ≡ classes.NoRoot →
    IfErr r (λ f. (f ≡ classes.OutOfMemory) ⊎ Fails s root f) → false ≡ has_root s root
not_ran s root r f is none all = sym (unrooted s root f none (rw is at all))

-- ---- one test

given : {Y : Type 0} (a b : Bool) (ys : List Y) → a ≡ true → b ≡ true → (if a && b then ys else []) ≡ ys
given true true ys e f = refl
given true false ys e f = cc
given false b ys e f = cc

not_given : {Y : Type 0} (a b : Bool) (ys : List Y) → b ≡ false → (if a && b then ys else []) ≡ []
not_given true false ys e = refl
not_given true true ys e = cc
not_given false b ys e = refl

root_from : List ℕ → List ℕ → Root
root_from k p = record { class = k; procedure = p }

-- a root of these names
pub same_root : (root : code.Root) (c : Class) (x : Name) → string_bytes root.class ≡ c.name.text → string_bytes root.procedure ≡ x.text →
    root_of root ≡ root_at c x
unfolding root_from
same_root root c x e f = ap (λ k. root_from k (string_bytes root.procedure)) e ∙ ap (λ p. root_from c.name.text p) f

-- a name that is one of a test gives it
pub test_added : (s : System) (c : Class) (x : Name) (root : code.Root) (before now : List code.Root) → root_of root ≡ root_at c x →
    starts_with eqb x.text (codes "test") ≡ true → has_root s (root_of root) ≡ true → now ≡ before ++ root ∷ [] →
    map root_of now ≡ map root_of before ++ test_if_any s c x
test_added s c x root before now same begins runs grown =
    ap (map root_of) grown ∙ map-append root_of before (root ∷ []) ∙ ap (λ (r : Root). map root_of before ++ r ∷ []) same
    ∙ ap (λ (ys : List Root). map root_of before ++ ys)
    (sym (given (starts_with eqb x.text (codes "test")) (has_root s (root_at c x)) (root_at c x ∷ []) begins (sym (ap (has_root s) same) ∙ runs)))

-- and one that nothing runs from none
pub none_added : (s : System) (c : Class) (x : Name) (root : code.Root) (now : List code.Root) → root_of root ≡ root_at c x →
    has_root s (root_of root) ≡ false → map root_of now ≡ map root_of now ++ test_if_any s c x
none_added s c x root now same runs =
    sym (append-nil (map root_of now))
    ∙ ap (λ (ys : List Root). map root_of now ++ ys)
    (sym (not_given (starts_with eqb x.text (codes "test")) (has_root s (root_at c x)) (root_at c x ∷ []) (sym (ap (has_root s) same) ∙ runs)))

chosen_or_not : {Y : Type 0} (b : Bool) (ys : List Y) → b ≡ true → (if b then ys else []) ≡ ys
chosen_or_not true ys e = refl
chosen_or_not false ys e = cc

-- a class that is chosen gives its tests
pub if_chosen : (s : System) (chosen : Option (List ℕ)) (c : Class) (start now : List Root) → is_chosen chosen c ≡ true →
    now ≡ start ++ flat_map (test_if_any s c) c.creators → now ≡ start ++ tests_if_chosen s chosen c
if_chosen s chosen c start now is all =
    all ∙ ap (λ (ys : List Root). start ++ ys) (sym (chosen_or_not (is_chosen chosen c) (tests_of_class s c) is))

-- ---- refusals

pub at_fault : (s : System) (root : Root) (f : ClassFault) → (f ≡ classes.OutOfMemory) ⊎ Fails s root f → IsAtFaultFor s f
at_fault s root f (inl e) = inl e
at_fault s root f (inr fails) = inr (root, fails)

pub any_root : Root
any_root = record { class = []; procedure = [] }

-- a fault of a system whose text this is
pub class_refused : (text : List ℕ) (s : System) → IsRead text s → (any : Root) (f : ClassFault) → IsAtFaultFor s f → IsRefusedFor text (of_classes f)
class_refused text s read any f (inl e) =
    (any, refused-not_run text any (of_classes f) (fault-refused text any s read (of_classes f) (class-fault s any f (inl e))))
class_refused text s read any f (inr (root, fails)) =
    (root, refused-not_run text root (of_classes f) (fault-refused text root s read (of_classes f) (class-fault s root f (inr fails))))

-- a text that is no system
pub unread_refused : (text : List ℕ) (any : Root) (why : Rejection) → IsUnreadable text why → IsRefusedFor text why
unread_refused text any why is = (any, refused-not_run text any why (unreadable-refused text any why is))
