-- What a walk has added, part after part.
use Rattle.std.proofs.Common.{◌≡◌, ℕ, ◌+◌, ◌<◌, ◌≤◌, List, [], ◌∷◌, ◌++◌, length, take, get_or, map, Result, Ok, Err, ap, sym, subst, ◌∙◌, append_assoc, append-nil}
use Rattle.std.specs.Prelude.{OnOk}
use Rattle.std.specs.List.{flat_map}
use Rattle.std.specs.declared.alloc.AllocError.{AllocError}
use Rattle.std.proofs.lemmas.Grind.{flat_map-append}
use Rattle.std.proofs.lemmas.List.{take_all, take_more}
use Rattle.sc_warnings.specs.declared.sites.Site.{Site}
use Rattle.sc_warnings.specs.declared.warning.Warning.{Warning}
use Rattle.sc_warnings.specs.Sites as plain
use Rattle.sc_warnings.specs.Views.{site_of}

-- two parts one after the other
pub two : {Y : Type 0} (old mid new a b : List Y) → mid ≡ old ++ a → new ≡ mid ++ b → new ≡ old ++ (a ++ b)
two old mid new a b e f = f ∙ ap (λ ys. ys ++ b) e ∙ append_assoc old a b

-- the same where the last part is added, if all goes well
pub two_if_ok : {Y : Type 0} (r : Result Unit AllocError) (old mid new a b : List Y) → mid ≡ old ++ a → OnOk r (new ≡ mid ++ b) → OnOk r (new ≡ old ++ (a ++ b))
two_if_ok (Ok u) old mid new a b e f = two old mid new a b e f
two_if_ok (Err x) old mid new a b e f = tt

pub three_if_ok : {Y : Type 0} (r : Result Unit AllocError) (old one mid new a b c : List Y) → one ≡ old ++ a → mid ≡ one ++ b → OnOk r (new ≡ mid ++ c) →
    OnOk r (new ≡ old ++ (a ++ (b ++ c)))
three_if_ok r old one mid new a b c e f g = two_if_ok r old one new a (b ++ c) e (two_if_ok r one mid new b c f g)

-- another name for what is added
pub named_if_ok : {Y : Type 0} (r : Result Unit AllocError) (old new a b : List Y) → a ≡ b → OnOk r (new ≡ old ++ a) → OnOk r (new ≡ old ++ b)
named_if_ok (Ok u) old new a b e f = f ∙ ap (λ ys. old ++ ys) e
named_if_ok (Err x) old new a b e f = tt

pub nothing : {Y : Type 0} (old a : List Y) → a ≡ [] → old ≡ old ++ a
nothing old a e = sym (ap (λ ys. old ++ ys) e ∙ append-nil old)

pub added_two : (old mid new : List Site) (a b : List plain.Site) → map site_of mid ≡ map site_of old ++ a → map site_of new ≡ map site_of mid ++ b →
    map site_of new ≡ map site_of old ++ (a ++ b)
added_two old mid new a b e f = two (map site_of old) (map site_of mid) (map site_of new) a b e f

pub added_three : (old one mid new : List Site) (a b c : List plain.Site) → map site_of one ≡ map site_of old ++ a → map site_of mid ≡ map site_of one ++ b →
    map site_of new ≡ map site_of mid ++ c → map site_of new ≡ map site_of old ++ (a ++ (b ++ c))
added_three old one mid new a b c e f g = added_two old one new a (b ++ c) e (added_two one mid new b c f g)

pub warned_two : (old mid new a b : List Warning) → mid ≡ old ++ a → new ≡ mid ++ b → new ≡ old ++ (a ++ b)
warned_two old mid new a b e f = two old mid new a b e f

pub warned_three : (old one mid new a b c : List Warning) → one ≡ old ++ a → mid ≡ one ++ b → new ≡ mid ++ c → new ≡ old ++ (a ++ (b ++ c))
warned_three old one mid new a b c e f g = two old one new a (b ++ c) e (two one mid new b c f g)

-- ---- loops

-- what the items so far give, and what the next one does
pub next_given : {X Y : Type 0} (f : X → List Y) (xs : List X) (i : ℕ) (x : X) (start before now : List Y) → i < length xs → x ≡ get_or xs i x →
    before ≡ start ++ flat_map f (take i xs) → now ≡ before ++ f x → now ≡ start ++ flat_map f (take (i + 1) xs)
next_given f xs i x start before now there is so-far more =
    more ∙ ap (λ ys. ys ++ f x) so-far ∙ append_assoc start (flat_map f (take i xs)) (f x)
    ∙ ap (λ y. start ++ (flat_map f (take i xs) ++ f y)) is
    ∙ ap (λ ys. start ++ (flat_map f (take i xs) ++ ys)) (sym (append-nil (f (get_or xs i x))))
    ∙ ap (λ ys. start ++ ys) (sym (flat_map-append f (take i xs) (get_or xs i x ∷ [])))
    ∙ ap (λ ys. start ++ flat_map f ys) (sym (take_more xs i x there))

-- the same where the items are borrowed
pub next_borrowed : {X Y : Type 0} (f : X → List Y) (xs ys : List X) (i : ℕ) (x : X) (start before now : List Y) → ys ≡ xs → i < length ys → x ≡ get_or ys i x →
    before ≡ start ++ flat_map f (take i xs) → now ≡ before ++ f x → now ≡ start ++ flat_map f (take (i + 1) xs)
next_borrowed f xs ys i x start before now same there is so-far more =
    next_given f xs i x start before now (subst (λ (l : List _). i < length l) same there) (is ∙ ap (λ l. get_or l i x) same) so-far more

-- all of them
pub all_given : {X Y : Type 0} (f : X → List Y) (xs : List X) (i : ℕ) (start now all : List Y) → length xs ≤ i → all ≡ flat_map f xs →
    now ≡ start ++ flat_map f (take i xs) → now ≡ start ++ all
all_given f xs i start now all past is so-far = so-far ∙ ap (λ ys. start ++ flat_map f ys) (take_all i xs past) ∙ ap (λ ys. start ++ ys) (sym is)
