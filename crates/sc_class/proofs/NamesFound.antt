-- Where names clash: the places that the functions of `specs/Internal/ScopeSearch` list are all of them.
use Rattle.std.proofs.Common.{◌≡◌, ◌≤◌, Bool, true, false, List, [], ◌∷◌, ◌++◌, ◌&&◌, map, Option, Some, None, refl, ap, sym, subst, ◌∙◌, ◌⊎◌, inl, inr, arith}
use Rattle.std.specs.Prelude.{Any, bytes_eq, filter, nat_lt, if◌then◌else◌}
use Rattle.std.specs.Option.{option_map}
use Rattle.std.proofs.lemmas.Bool.Decides.{nat_tests}
use Rattle.std.proofs.lemmas.List.{append_assoc, append-nil}
use Rattle.sc_text.specs.declared.token.Span.{Span}
use Rattle.sc_tree.specs.Plain.{Name}
use Rattle.sc_tree.specs.Properties.{is_print}
use Rattle.sc_class.specs.Internal.Found.{FindsFirstPlace, first_place}
use Rattle.sc_class.specs.Internal.Places.{Lists}
use Rattle.sc_class.specs.Names.{IsLikeOne, Clashes, is_print_itself, is_like, OneClashes, first, further, last_place}
use Rattle.sc_class.specs.Internal.NameIndex.{place_among}
use Rattle.sc_class.specs.Internal.ScopeSearch.{later_places, own_place, like_places_from, like_places, print_place, name_clash, names_clash}
use Rattle.sc_class.proofs.Anys.{any_none, any_first, any_later, any_more, any_split, any_left, any_right, any_parts}
use Rattle.sc_class.proofs.SearchLemmas.{only_one, first_same, first_either}
use Rattle.sc_class.proofs.PlaceLists.{nothing, one, both, same, either_of}

-- of one thing or the other, what is first of both
first_both : (P Q R : Span → Type 0) (a b : Option Span) → ((p : Span) → P p → R p) → ((p : Span) → Q p → R p) → ((p : Span) → R p → P p ⊎ Q p) → FindsFirstPlace P a → FindsFirstPlace Q b → FindsFirstPlace R (first_place a b)
first_both P Q R a b f g h x y = first_either (λ (p : Span). p.start) {P = P} {Q = Q} {R = R} a b f g h x y

first_kept : (P R : Span → Type 0) (a : Option Span) → ((p : Span) → P p → R p) → ((p : Span) → R p → P p) → FindsFirstPlace P a → FindsFirstPlace R a
first_kept P R a f g x = first_same (λ (p : Span). p.start) {P = P} {Q = R} a f g x

-- ---- names

-- the later one of each place and this one
abbrev later : Span → Option Span → Option Span
later n o = option_map (λ p. last_place p n) o

later-first : (n : Span) (a b : Option Span) → later n (first_place a b) ≡ first_place (later n a) (later n b)
later-first n None b = refl
later-first n (Some p) None = refl
later-first n (Some p) (Some q) = by (nat_lt q.start p.start) (nat_lt n.start p.start) (nat_lt n.start q.start) refl refl refl
  where
    less : nat_lt n.start n.start ≡ false
    less = grind (arith, nat_tests)

    less_q : nat_lt n.start q.start ≡ true → nat_lt q.start n.start ≡ false
    less_q e = grind (arith, nat_tests)

    by : (b c d : Bool) → nat_lt q.start p.start ≡ b → nat_lt n.start p.start ≡ c → nat_lt n.start q.start ≡ d →
        later n (if b then Some q else Some p) ≡ first_place (Some (if c then p else n)) (Some (if d then q else n))
    by true true true i j k = ap (λ (b : Bool). Some (if b then q else n)) k ∙ sym (ap (λ (b : Bool). if b then Some q else Some p) i)
    by true true false i j k = ap (λ (b : Bool). Some (if b then q else n)) k ∙ sym (ap (λ (b : Bool). if b then Some n else Some p) j)
    by true false true i j k = absurd (grind (arith, nat_tests))
    by true false false i j k = ap (λ (b : Bool). Some (if b then q else n)) k ∙ sym (ap (λ (b : Bool). if b then Some n else Some n) less)
    by false true true i j k = ap (λ (b : Bool). Some (if b then p else n)) j ∙ sym (ap (λ (b : Bool). if b then Some q else Some p) i)
    by false true false i j k = absurd (grind (arith, nat_tests))
    by false false true i j k = ap (λ (b : Bool). Some (if b then p else n)) j ∙ sym (ap (λ (b : Bool). if b then Some q else Some n) (less_q k))
    by false false false i j k = ap (λ (b : Bool). Some (if b then p else n)) j ∙ sym (ap (λ (b : Bool). if b then Some n else Some n) less)

-- a name is like this one, and this is the later place of the two
abbrev Like : Name → Name → Span → Type 0
Like n m p = (bytes_eq m.text n.text ≡ true) × (p ≡ last_place m.span n.span)

-- this place alone
abbrev Is : Span → Span → Type 0
Is p q = q ≡ p

-- the first of the later places
abbrev like_place : List Name → Name → Option Span
like_place ns n = later n.span (place_among n.text ns)

like_found : (ns : List Name) (n : Name) → FindsFirstPlace (IsLikeOne ns n) (like_place ns n)
like_found [] n = λ p a. any_none a
like_found (m ∷ ns) n = by (bytes_eq m.text n.text) refl (like_found ns n)
  where
    is_first : bytes_eq m.text n.text ≡ true → (p : Span) → IsLikeOne (m ∷ ns) n p → Is (last_place m.span n.span) p ⊎ IsLikeOne ns n p
    is_first e p a = of (any_split {P = λ m. Like n m p} m ns a)
      where
        of : Like n m p ⊎ IsLikeOne ns n p → Is (last_place m.span n.span) p ⊎ IsLikeOne ns n p
        of (inl (i, q)) = inl q
        of (inr b) = inr b

    is_later : bytes_eq m.text n.text ≡ false → (p : Span) → IsLikeOne (m ∷ ns) n p → IsLikeOne ns n p
    is_later e p a = of (any_split {P = λ m. Like n m p} m ns a)
      where
        of : Like n m p ⊎ IsLikeOne ns n p → IsLikeOne ns n p
        of (inl (i, q)) = let r : true ≡ false = sym i ∙ e in cc
        of (inr b) = b

    by : (b : Bool) → bytes_eq m.text n.text ≡ b → FindsFirstPlace (IsLikeOne ns n) (like_place ns n) →
        FindsFirstPlace (IsLikeOne (m ∷ ns) n) (later n.span (first_place (if b then Some m.span else None) (place_among n.text ns)))
    by true e f =
        subst (FindsFirstPlace (IsLikeOne (m ∷ ns) n)) (sym (later-first n.span (Some m.span) (place_among n.text ns)))
        (first_both (Is (last_place m.span n.span)) (IsLikeOne ns n) (IsLikeOne (m ∷ ns) n) (Some (last_place m.span n.span)) (like_place ns n) (λ p q. any_first {P = λ m. Like n m p} m ns (e, q)) (λ p a. any_later {P = λ m. Like n m p} m ns a) (is_first e)
        (only_one (λ (p : Span). p.start) {P = Is (last_place m.span n.span)} (last_place m.span n.span) refl (λ p q. q)) f)
    by false e f = first_kept (IsLikeOne ns n) (IsLikeOne (m ∷ ns) n) (like_place ns n) (λ p a. any_later {P = λ m. Like n m p} m ns a) (is_later e) f

-- ---- all places at which a name is like one

-- this name's place, if the first that is like it doesn't stand after it
abbrev Here : Name → Span → Span → Type 0
Here n p q = (nat_lt n.span.start p.start ≡ false) × (q ≡ n.span)

-- the place of one of them that stands after it
abbrev IsLater : Name → Name → Span → Type 0
IsLater n m q = (bytes_eq m.text n.text ≡ true) × (nat_lt n.span.start m.span.start ≡ true) × (q ≡ m.span)

here_listed : (n : Name) (p : Span) → Lists (Here n p) (own_place p n)
here_listed n p = by (nat_lt n.span.start p.start) refl
  where
    by : (b : Bool) → nat_lt n.span.start p.start ≡ b → Lists (Here n p) (if b then [] else n.span ∷ [])
    by true e = nothing (Here n p) (λ q h. let r : true ≡ false = sym e ∙ h.0 in cc)
    by false e = one (Here n p) n.span (e, refl) (λ q h. h.1)

later_listed : (ns : List Name) (n : Name) → Lists (λ q. Any (λ m. IsLater n m q) ns) (later_places ns n)
later_listed [] n = nothing (λ q. Any (λ m. IsLater n m q) []) (λ q a. any_none a)
later_listed (m ∷ ns) n = by (bytes_eq m.text n.text) (nat_lt n.span.start m.span.start) refl refl (later_listed ns n)
  where
    less : (q : Span) → (IsLater n m q → ⊥) → Any (λ m. IsLater n m q) (m ∷ ns) → Any (λ m. IsLater n m q) ns
    less q none a = of (any_split {P = λ m. IsLater n m q} m ns a)
      where
        of : IsLater n m q ⊎ Any (λ m. IsLater n m q) ns → Any (λ m. IsLater n m q) ns
        of (inl i) = absurd (none i)
        of (inr b) = b

    by : (b c : Bool) → bytes_eq m.text n.text ≡ b → nat_lt n.span.start m.span.start ≡ c → Lists (λ q. Any (λ m. IsLater n m q) ns) (later_places ns n) →
        Lists (λ q. Any (λ m. IsLater n m q) (m ∷ ns)) (map (λ (m : Name). m.span) (if b && c then m ∷ filter (λ m. bytes_eq m.text n.text && nat_lt n.span.start m.span.start) ns else filter (λ m. bytes_eq m.text n.text && nat_lt n.span.start m.span.start) ns))
    by true true e f l =
        both (λ q. q ≡ m.span) (λ q. Any (λ m. IsLater n m q) ns) (λ q. Any (λ m. IsLater n m q) (m ∷ ns)) (m.span ∷ []) (later_places ns n)
        (λ q i. any_first {P = λ m. IsLater n m q} m ns (e, f, i)) (λ q a. any_later {P = λ m. IsLater n m q} m ns a) (λ q a. parts q (any_split {P = λ m. IsLater n m q} m ns a)) (one (λ q. q ≡ m.span) m.span refl (λ q i. i)) l
      where
        parts : (q : Span) → IsLater n m q ⊎ Any (λ m. IsLater n m q) ns → (q ≡ m.span) ⊎ Any (λ m. IsLater n m q) ns
        parts q (inl i) = inl i.2
        parts q (inr a) = inr a
    by true false e f l = same (λ q. Any (λ m. IsLater n m q) ns) (λ q. Any (λ m. IsLater n m q) (m ∷ ns)) (later_places ns n) (λ q a. any_later {P = λ m. IsLater n m q} m ns a) (λ q a. less q (λ i. let r : true ≡ false = sym i.1 ∙ f in cc) a) l
    by false c e f l = same (λ q. Any (λ m. IsLater n m q) ns) (λ q. Any (λ m. IsLater n m q) (m ∷ ns)) (later_places ns n) (λ q a. any_later {P = λ m. IsLater n m q} m ns a) (λ q a. less q (λ i. let r : true ≡ false = sym i.0 ∙ e in cc) a) l

module _ (ns : List Name) (n : Name) (p : Span) (found : FindsFirstPlace (IsLikeOne ns n) (Some (last_place p n.span))) where
  here_like : (q : Span) → Here n p q → IsLikeOne ns n q
  here_like q (e, i) = subst (IsLikeOne ns n) (ap (λ b. if b then p else n.span) e ∙ sym i) found.0

  later_like : (q : Span) → Any (λ m. IsLater n m q) ns → IsLikeOne ns n q
  later_like q a = any_more ns (λ m i. (i.0, i.2 ∙ sym (ap (λ b. if b then m.span else n.span) i.1))) a

  like_parts : (q : Span) → IsLikeOne ns n q → Here n p q ⊎ Any (λ m. IsLater n m q) ns
  like_parts q (k, m, l, e, (i, j)) = by (nat_lt n.span.start m.span.start) refl (nat_lt n.span.start p.start) refl
    where
      early : nat_lt n.span.start m.span.start ≡ false → nat_lt n.span.start p.start ≡ true → ⊥
      early f g =
          let first_is : last_place p n.span ≡ p = ap (λ b. if b then p else n.span) g in
          let q_is : q ≡ n.span = j ∙ ap (λ b. if b then m.span else n.span) f in
          let least : p.start ≤ n.span.start = subst (λ (r : Span). p.start ≤ r.start) q_is (subst (λ (r : Span). r.start ≤ q.start) first_is (found.1 q (k, m, l, e, (i, j)))) in
          grind (arith, nat_tests)

      by : (b : Bool) → nat_lt n.span.start m.span.start ≡ b → (c : Bool) → nat_lt n.span.start p.start ≡ c → Here n p q ⊎ Any (λ m. IsLater n m q) ns
      by true f c g = inr (k, m, l, e, (i, f, j ∙ ap (λ b. if b then m.span else n.span) f))
      by false f true g = absurd (early f g)
      by false f false g = inl (g, j ∙ ap (λ b. if b then m.span else n.span) f)

  some_listed : Lists (IsLikeOne ns n) (own_place p n ++ later_places ns n)
  some_listed = both (Here n p) (λ q. Any (λ m. IsLater n m q) ns) (IsLikeOne ns n) (own_place p n) (later_places ns n) here_like later_like like_parts (here_listed n p) (later_listed ns n)

like_listed : (ns : List Name) (n : Name) → Lists (IsLikeOne ns n) (like_places ns n)
like_listed ns n = by (place_among n.text ns) (like_found ns n)
  where
    by : (o : Option Span) → FindsFirstPlace (IsLikeOne ns n) (later n.span o) → Lists (IsLikeOne ns n) (like_places_from o ns n)
    by None f = nothing (IsLikeOne ns n) f
    by (Some p) f = some_listed ns n p f

-- the name is `print`, and this is its place
abbrev PrintsAt : Name → Span → Type 0
PrintsAt n q = (is_print n.text ≡ true) × (q ≡ n.span)

print_listed : (n : Name) → Lists (PrintsAt n) (print_place n)
print_listed n = by (is_print n.text) refl
  where
    by : (b : Bool) → is_print n.text ≡ b → Lists (PrintsAt n) (if b then n.span ∷ [] else [])
    by true e = one (PrintsAt n) n.span (e, refl) (λ q h. h.1)
    by false e = nothing (PrintsAt n) (λ q h. let r : true ≡ false = sym h.0 ∙ e in cc)

name_parts : (fs ns : List Name) {n : Name} {p : Span} → Clashes (fs ++ ns) n p → PrintsAt n p ⊎ (IsLikeOne fs n p ⊎ IsLikeOne ns n p)
name_parts fs ns (is_print_itself i) = inl (i, refl)
name_parts fs ns (is_like a) = inr (any_parts fs ns a)

name_behind : (fs ns : List Name) {n : Name} {p : Span} → IsLikeOne fs n p ⊎ IsLikeOne ns n p → Clashes (fs ++ ns) n p
name_behind fs ns (inl a) = is_like (any_left fs ns a)
name_behind fs ns (inr a) = is_like (any_right fs ns a)

name_prints : (known : List Name) (n : Name) (p : Span) → PrintsAt n p → Clashes known n p
name_prints known n p (e, i) = subst (Clashes known n) (sym i) (is_print_itself e)

pub name_found : (fs ns : List Name) (n : Name) → Lists (Clashes (fs ++ ns) n) (name_clash fs ns n)
unfolding name_clash
name_found fs ns n =
    both (PrintsAt n) (λ p. IsLikeOne fs n p ⊎ IsLikeOne ns n p) (Clashes (fs ++ ns) n) (print_place n) (like_places fs n ++ like_places ns n)
    (name_prints (fs ++ ns) n) (λ p a. name_behind fs ns a) (λ p c. name_parts fs ns c) (print_listed n)
    (either_of (IsLikeOne fs n) (IsLikeOne ns n) (like_places fs n) (like_places ns n) (like_listed fs n) (like_listed ns n))

-- behind more names the same one clashes
pub wider_name : {known : List Name} (more : List Name) {n : Name} {p : Span} → Clashes known n p → Clashes (known ++ more) n p
wider_name more (is_print_itself e) = is_print_itself e
wider_name {known} more (is_like a) = is_like (any_left known more a)

names_parts : {known ms : List Name} {m : Name} {p : Span} → OneClashes known (m ∷ ms) p → Clashes known m p ⊎ OneClashes (known ++ m ∷ []) ms p
names_parts (first c) = inl c
names_parts (further c) = inr c

pub names_found : (fs ns ms : List Name) → Lists (OneClashes (fs ++ ns) ms) (names_clash fs ns ms)
unfolding names_clash
names_found fs ns [] = nothing (OneClashes (fs ++ ns) []) (λ p x. elim x [ ])
names_found fs ns (m ∷ ms) =
    both (Clashes (fs ++ ns) m) (OneClashes ((fs ++ ns) ++ m ∷ []) ms) (OneClashes (fs ++ ns) (m ∷ ms)) (name_clash fs ns m) (names_clash fs (ns ++ m ∷ []) ms)
    (λ p c. first c) (λ p c. further c) (λ p c. names_parts c) (name_found fs ns m)
    (subst (λ k. Lists (OneClashes k ms) (names_clash fs (ns ++ m ∷ []) ms)) (sym (append_assoc fs ns (m ∷ []))) (names_found fs (ns ++ m ∷ []) ms))

pub one_left : {known xs : List Name} (ys : List Name) {p : Span} → OneClashes known xs p → OneClashes known (xs ++ ys) p
one_left ys (first c) = first c
one_left ys (further c) = further (one_left ys c)

pub one_right : (known xs ys : List Name) {p : Span} → OneClashes (known ++ xs) ys p → OneClashes known (xs ++ ys) p
one_right known [] ys {p} c = subst (λ k. OneClashes k ys p) (append-nil known) c
one_right known (x ∷ xs) ys {p} c = further (one_right (known ++ x ∷ []) xs ys (subst (λ k. OneClashes k ys p) (sym (append_assoc known (x ∷ []) xs)) c))

pub one_parts : (known xs ys : List Name) {p : Span} → OneClashes known (xs ++ ys) p → OneClashes known xs p ⊎ OneClashes (known ++ xs) ys p
one_parts known [] ys {p} c = inr (subst (λ k. OneClashes k ys p) (sym (append-nil known)) c)
one_parts known (x ∷ xs) ys {p} c = by (names_parts c) (λ d. one_parts (known ++ x ∷ []) xs ys d)
  where
    on : OneClashes (known ++ x ∷ []) xs p ⊎ OneClashes ((known ++ x ∷ []) ++ xs) ys p → OneClashes known (x ∷ xs) p ⊎ OneClashes (known ++ x ∷ xs) ys p
    on (inl d) = inl (further d)
    on (inr d) = inr (subst (λ k. OneClashes k ys p) (append_assoc known (x ∷ []) xs) d)

    by : Clashes known x p ⊎ OneClashes (known ++ x ∷ []) (xs ++ ys) p →
        (OneClashes (known ++ x ∷ []) (xs ++ ys) p → OneClashes (known ++ x ∷ []) xs p ⊎ OneClashes ((known ++ x ∷ []) ++ xs) ys p) → OneClashes known (x ∷ xs) p ⊎ OneClashes (known ++ x ∷ xs) ys p
    by (inl d) f = inl (first d)
    by (inr d) f = on (f d)
