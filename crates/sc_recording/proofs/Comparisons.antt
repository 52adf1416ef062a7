-- How the comparison of the logs goes on.
use Rattle.std.proofs.Common.{◌≡◌, ◌<◌, ◌≤◌, ◌+◌, ◌-◌, ◌^◌, ◌++◌, ◌==◌, ◌⊎◌, ℕ, zero, suc, Bool, true, false, List, [], ◌∷◌, Option, Some, None, inl, inr, length, replicate, slice_get, slice_set, refl, sym, ap, subst, ◌∙◌, take, arith}
use Prim.Native.Nat.{min}
use Rattle.std.specs.Prelude.{if◌then◌else◌}
use Rattle.std.specs.Borrow.{Bor}
use Rattle.std.specs.Option.{option_copied, option_map}
use Rattle.std.specs.Slice.{IsGetResult}
use Rattle.std.proofs.lemmas.Bool.{cases_eq, eq-eqb, eqb-true, ne_eqb}
use Rattle.std.proofs.lemmas.Option.{slice_get_past, slice_get_read, slice_get_within}
use Rattle.std.proofs.lemmas.List.{append-nil, append_assoc}
use Rattle.sc_handler.specs.declared.settlement.Settlement.{Settlement}
use Rattle.sc_worklog.specs.declared.logged_region.LoggedRegion.{LoggedRegion}
use Rattle.sc_worklog.specs.LoggedRegions.{entries_of, region_of}
use Rattle.sc_recording.specs.Comparing.{Counted, EndsAt, StandsAt, Walked}
use Rattle.sc_recording.specs.Recorded.{settlements_for}
use Rattle.sc_recording.specs.Regions.{Agrees, AgreesIn}

-- ---- what `get` gives

got : {A : Type 0} (xs : List A) (i : ℕ) (o : Option (Bor A)) → IsGetResult xs i i o → option_copied o ≡ slice_get xs i
got xs i None g = sym (slice_get_past xs i g.3)
got xs i (Some x) g = sym (slice_get_read xs (length xs) i x.now refl g.3.0 g.1)

pub got_some : {A : Type 0} (xs : List A) (i : ℕ) (o : Option (Bor A)) (x : Bor A) → IsGetResult xs i i o → o ≡ Some x → slice_get xs i ≡ Some x.now
got_some xs i o x g e = sym (got xs i o g) ∙ ap option_copied e

pub got_none : {A : Type 0} (xs : List A) (i : ℕ) (o : Option (Bor A)) → IsGetResult xs i i o → o ≡ None → slice_get xs i ≡ None
got_none xs i o g e = sym (got xs i o g) ∙ ap option_copied e

pub some_is : {A : Type 0} (x y : A) → Some x ≡ Some y → x ≡ y
some_is x y e = cc

none_some : {A B : Type 0} (x : A) → None ≡ Some x → B
none_some x e = absurd (cc)

-- ---- lists

set_at : (ns : List ℕ) (h n m : ℕ) → slice_get ns h ≡ Some n → slice_get (slice_set ns h m) h ≡ Some m
set_at [] h n m e = cc
set_at (k ∷ ns) zero n m e = refl
set_at (k ∷ ns) (suc h) n m e = set_at ns h n m e

set_beside : (ns : List ℕ) (h k m : ℕ) → (k ≡ h → ⊥) → slice_get (slice_set ns h m) k ≡ slice_get ns k
set_beside [] h k m apart = refl
set_beside (n ∷ ns) zero zero m apart = absurd (apart refl)
set_beside (n ∷ ns) zero (suc k) m apart = refl
set_beside (n ∷ ns) (suc h) zero m apart = refl
set_beside (n ∷ ns) (suc h) (suc k) m apart = set_beside ns h k m (λ e. apart (ap suc e))

set_size : (ns : List ℕ) (h m : ℕ) → length (slice_set ns h m) ≡ length ns
set_size [] h m = refl
set_size (n ∷ ns) zero m = refl
set_size (n ∷ ns) (suc h) m = ap suc (set_size ns h m)

length_more : (es : List Settlement) (e : Settlement) → length (es ++ e ∷ []) ≡ suc (length es)
length_more [] e = refl
length_more (x ∷ es) e = ap suc (length_more es e)

take_one : (es : List Settlement) (n : ℕ) (e : Settlement) → slice_get es n ≡ Some e → take (suc n) es ≡ take n es ++ e ∷ []
take_one [] n e h = none_some e h
take_one (x ∷ es) zero e h = ap (λ (y : Settlement). y ∷ []) (some_is x e h)
take_one (x ∷ es) (suc n) e h = ap (λ (zs : List Settlement). x ∷ zs) (take_one es n e h)

take_none : (es : List Settlement) (n : ℕ) → slice_get es n ≡ None → take (suc n) es ≡ take n es
take_none [] zero h = refl
take_none [] (suc n) h = refl
take_none (x ∷ es) zero h = none_some x (sym h)
take_none (x ∷ es) (suc n) h = ap (λ (zs : List Settlement). x ∷ zs) (take_none es n h)

plus_one : (n : ℕ) → n + 1 ≡ suc n
plus_one n = omega arith

pub take_more : (es : List Settlement) (n : ℕ) (e : Settlement) → slice_get es n ≡ Some e → take (n + 1) es ≡ take n es ++ e ∷ []
take_more es n e h = ap (λ (k : ℕ). take k es) (plus_one n) ∙ take_one es n e h

pub take_past : (es : List Settlement) (n : ℕ) → slice_get es n ≡ None → take (n + 1) es ≡ take n es
take_past es n h = ap (λ (k : ℕ). take k es) (plus_one n) ∙ take_none es n h

pub take_every : (es : List Settlement) (n : ℕ) → length es ≤ n → take n es ≡ es
take_every [] zero l = refl
take_every [] (suc n) l = refl
take_every (x ∷ es) zero l = absurd (omega (arith, l))
take_every (x ∷ es) (suc n) l = ap (λ (zs : List Settlement). x ∷ zs) (take_every es n (omega (arith, l)))

pub take_few : (es : List Settlement) (n : ℕ) → length (take n es) ≤ n
take_few [] zero = omega arith
take_few [] (suc n) = omega arith
take_few (x ∷ es) zero = omega arith
take_few (x ∷ es) (suc n) = omega (arith, take_few es n)

-- the entry after a beginning
next_is : (es fs : List Settlement) (e : Settlement) → slice_get (es ++ fs) (length es) ≡ Some e → (gs : List Settlement) × ((es ++ e ∷ []) ++ gs ≡ es ++ fs)
next_is [] [] e h = none_some e h
next_is [] (f ∷ fs) e h = (fs, ap (λ (x : Settlement). x ∷ fs) (sym (some_is f e h)))
next_is (x ∷ es) fs e h = let rest = next_is es fs e h in (rest.0, ap (λ (zs : List Settlement). x ∷ zs) rest.1)

stands : (es fs : List Settlement) (e : Settlement) → slice_get ((es ++ e ∷ []) ++ fs) (length es) ≡ Some e
stands [] fs e = refl
stands (x ∷ es) fs e = stands es fs e

-- a beginning that is as long is all
all_of : (es fs gs : List Settlement) → es ++ fs ≡ gs → length gs ≡ length es → gs ≡ es
all_of es [] gs e l = sym e ∙ append-nil es
all_of es (f ∷ fs) gs e l = absurd (omega (arith, l, ap (λ (zs : List Settlement). length zs) e, longer es fs f))
  where
    longer : (es fs : List Settlement) (f : Settlement) → length es < length (es ++ f ∷ fs)
    longer [] fs f = omega arith
    longer (x ∷ es) fs f = omega (arith, longer es fs f)

-- ---- settlements of a handler

joined : (b : Bool) (e : Settlement) (es fs : List Settlement) → (if b then e ∷ es else es) ++ fs ≡ if b then e ∷ (es ++ fs) else es ++ fs
joined true e es fs = refl
joined false e es fs = refl

for_append : (h : ℕ) (es fs : List Settlement) → settlements_for h (es ++ fs) ≡ settlements_for h es ++ settlements_for h fs
for_append h [] fs = refl
for_append h (e ∷ es) fs =
    ap (λ (zs : List Settlement). if e.handler == h then e ∷ zs else zs) (for_append h es fs)
    ∙ sym (joined (e.handler == h) e (settlements_for h es) (settlements_for h fs))

own_one : (e : Settlement) → settlements_for e.handler (e ∷ []) ≡ e ∷ []
own_one e = ap (λ (b : Bool). if b then e ∷ [] else []) (eq-eqb e.handler e.handler refl)

other_one : (h : ℕ) (e : Settlement) → (h ≡ e.handler → ⊥) → settlements_for h (e ∷ []) ≡ []
other_one h e apart = ap (λ (b : Bool). if b then e ∷ [] else []) (ne_eqb e.handler h (λ same. apart (sym same)))

pub ours : (es : List Settlement) (e : Settlement) → settlements_for e.handler (es ++ e ∷ []) ≡ settlements_for e.handler es ++ e ∷ []
ours es e = for_append e.handler es (e ∷ []) ∙ ap (λ (zs : List Settlement). settlements_for e.handler es ++ zs) (own_one e)

pub kept : (h : ℕ) (es : List Settlement) (e : Settlement) → (h ≡ e.handler → ⊥) → settlements_for h (es ++ e ∷ []) ≡ settlements_for h es
kept h es e apart =
    for_append h es (e ∷ []) ∙ ap (λ (zs : List Settlement). settlements_for h es ++ zs) (other_one h e apart) ∙ append-nil (settlements_for h es)

shorter : (b : Bool) (e : Settlement) (es : List Settlement) (n : ℕ) → length es ≤ n → length (if b then e ∷ es else es) ≤ suc n
shorter true e es n l = omega (arith, l)
shorter false e es n l = omega (arith, l)

for_length : (h : ℕ) (es : List Settlement) → length (settlements_for h es) ≤ length es
for_length h [] = omega arith
for_length h (e ∷ es) = shorter (e.handler == h) e (settlements_for h es) (length es) (for_length h es)

-- ---- one more settlement

zeros_at : (n h : ℕ) → h < n → slice_get {X = ℕ} (replicate n 0) h ≡ Some 0
zeros_at zero h l = absurd (omega (arith, l))
zeros_at (suc n) zero l = refl
zeros_at (suc n) (suc h) l = zeros_at n h (omega (arith, l))

zeros_long : (n : ℕ) → length {A = ℕ} (replicate n 0) ≡ n
zeros_long zero = refl
zeros_long (suc n) = ap suc (zeros_long n)

pub opened : (rs : List LoggedRegion) (next : List ℕ) → length next ≡ 512 → ((h : ℕ) → h < 512 → slice_get next h ≡ Some 0) → Walked rs [] next 512
opened rs next size all = record {
  few = omega arith;
  size = size;
  cursors = all;
  begins = λ h l r e. (entries_of r, refl);
  differs = λ l. absurd (omega (arith, l));
}

pub opened_zeros : (rs : List LoggedRegion) → Walked rs [] (replicate 512 0) 512
opened_zeros rs = opened rs (replicate 512 0) (zeros_long 512) (zeros_at 512)

module _ (rs : List LoggedRegion) (es : List Settlement) (next : List ℕ) (least : ℕ) (e : Settlement) (w : Walked rs es next least) where
  -- what is known to differ still does
  still : least < 512 → (r : LoggedRegion) → slice_get rs least ≡ Some r → (fs : List Settlement) → entries_of r ≡ settlements_for least ((es ++ e ∷ []) ++ fs) → ⊥
  still l r h fs same = w.differs l r h (e ∷ fs) (same ∙ ap (settlements_for least) (append_assoc es (e ∷ []) fs))

  begins_beside : (h : ℕ) → (h ≡ e.handler → ⊥) → h < least → (r : LoggedRegion) → slice_get rs h ≡ Some r →
      (fs : List Settlement) × (settlements_for h (es ++ e ∷ []) ++ fs ≡ entries_of r)
  begins_beside h apart l r at =
      let b = w.begins h l r at in (b.0, ap (λ (zs : List Settlement). zs ++ b.0) (kept h es e apart) ∙ b.1)

  -- no handler has the number
  pub walked_past : slice_get next e.handler ≡ None → Walked rs (es ++ e ∷ []) next least
  walked_past none =
      let apart : (h : ℕ) → h < 512 → h ≡ e.handler → ⊥ =
      λ h l same. none_some (length (settlements_for h es)) (sym none ∙ ap (slice_get next) (sym same) ∙ w.cursors h l) in
      record {
        few = w.few;
        size = w.size;
        cursors = λ h l. w.cursors h l ∙ ap (λ (zs : List Settlement). Some (length zs)) (sym (kept h es e (apart h l)));
        begins = λ h l. begins_beside h (apart h (omega (arith, l, w.few))) l;
        differs = still;
      }

  module _ (n m : ℕ) (at : slice_get next e.handler ≡ Some n) (few : length es < 2 ^ 64 - 1) (more : m ≡ min (n + 1) 18446744073709551615) where
    within : e.handler < 512
    within = let l = slice_get_within next e.handler n at in omega (arith, l, w.size)

    count : n ≡ length (settlements_for e.handler es)
    count = some_is n (length (settlements_for e.handler es)) (sym at ∙ w.cursors e.handler within)

    one_more : m ≡ suc (length (settlements_for e.handler es))
    one_more = omega (arith, more, count, few, for_length e.handler es)

    size : length (slice_set next e.handler m) ≡ 512
    size = set_size next e.handler m ∙ w.size

    cursors : (h : ℕ) → h < 512 → slice_get (slice_set next e.handler m) h ≡ Some (length (settlements_for h (es ++ e ∷ [])))
    cursors h l = elim (cases_eq h e.handler) [
      | inl same ↦
          subst (λ (k : ℕ). slice_get (slice_set next e.handler m) k ≡ Some (length (settlements_for k (es ++ e ∷ [])))) (sym same)
          (set_at next e.handler n m at
          ∙ ap (λ (k : ℕ). Some k) (one_more ∙ sym (length_more (settlements_for e.handler es) e))
          ∙ ap (λ (zs : List Settlement). Some (length zs)) (sym (ours es e)))
      | inr apart ↦
          set_beside next e.handler h m apart ∙ w.cursors h l ∙ ap (λ (zs : List Settlement). Some (length zs)) (sym (kept h es e apart))
    ]

    -- it stands there, or its handler comes after one that differs
    pub walked_on : StandsAt rs e.handler n e ⊎ (least < e.handler) → Walked rs (es ++ e ∷ []) (slice_set next e.handler m) least
    walked_on why = record { few = w.few; size = size; cursors = cursors; begins = begins; differs = still }
      where
        own : StandsAt rs e.handler n e ⊎ (least < e.handler) → e.handler < least → (r : LoggedRegion) → slice_get rs e.handler ≡ Some r →
            (fs : List Settlement) × (settlements_for e.handler (es ++ e ∷ []) ++ fs ≡ entries_of r)
        own (inr behind) l r h = absurd (omega (arith, behind, l))
        own (inl st) l r h =
            let b = w.begins e.handler l r h in
            let is : st.0 ≡ r = some_is st.0 r (sym st.1 ∙ h) in
            let there : slice_get (settlements_for e.handler es ++ b.0) (length (settlements_for e.handler es)) ≡ Some e =
            ap (λ (zs : List Settlement). slice_get zs (length (settlements_for e.handler es))) (b.1 ∙ ap entries_of (sym is))
            ∙ ap (slice_get (entries_of st.0)) (sym count) ∙ st.2 in
            let rest = next_is (settlements_for e.handler es) b.0 e there in
            (rest.0, ap (λ (zs : List Settlement). zs ++ rest.0) (ours es e) ∙ rest.1 ∙ b.1)

        begins : (h : ℕ) → h < least → (r : LoggedRegion) → slice_get rs h ≡ Some r → (fs : List Settlement) × (settlements_for h (es ++ e ∷ []) ++ fs ≡ entries_of r)
        begins h l r g = elim (cases_eq h e.handler) [
          | inl same ↦
              subst (λ (k : ℕ). (fs : List Settlement) × (settlements_for k (es ++ e ∷ []) ++ fs ≡ entries_of r)) (sym same)
              (own why (subst (λ (k : ℕ). k < least) same l) r (ap (slice_get rs) (sym same) ∙ g))
          | inr apart ↦ begins_beside h apart l r g
        ]

    -- it doesn't, and its handler is the least that differs
    pub walked_off : (StandsAt rs e.handler n e → ⊥) → e.handler ≤ least → Walked rs (es ++ e ∷ []) (slice_set next e.handler m) e.handler
    walked_off not below = record {
      few = omega (arith, within);
      size = size;
      cursors = cursors;
      begins = λ h l. begins_beside h (λ same. absurd (omega (arith, l, same))) (omega (arith, l, below));
      differs = λ l r h fs same. not (
        r,
        h,
        ap (slice_get (entries_of r)) count
            ∙ ap (λ (zs : List Settlement). slice_get zs (length (settlements_for e.handler es)))
            (same ∙ for_append e.handler (es ++ e ∷ []) fs ∙ ap (λ (zs : List Settlement). zs ++ settlements_for e.handler fs) (ours es e))
            ∙ stands (settlements_for e.handler es) (settlements_for e.handler fs) e,
      );
    }

-- ---- the counts

pub all_walked : (rs : List LoggedRegion) (es : List Settlement) (next : List ℕ) (least : ℕ) → length rs ≡ 512 → Walked rs es next least → Counted rs es 0 least
all_walked rs es next least size w = record {
  few = w.few;
  begins = w.begins;
  agree = λ h l. absurd (omega (arith, l));
  differs = λ l agrees. let r = found rs least (omega (arith, l, size)) in
      w.differs l r.0 r.1 [] ((agrees r.0 r.1).1 ∙ ap (settlements_for least) (sym (append-nil es)));
}
  where
    found : (rs : List LoggedRegion) (h : ℕ) → h < length rs → (r : LoggedRegion) × (slice_get rs h ≡ Some r)
    found [] h l = absurd (omega (arith, l))
    found (r ∷ rs) zero l = (r, refl)
    found (r ∷ rs) (suc h) l = found rs h (omega (arith, l))

module _ (rs : List LoggedRegion) (es : List Settlement) (n least : ℕ) (c : Counted rs es n least) where
  below_one : (h : ℕ) → h < n + 1 → h < least → (n < least → AgreesIn rs es n) → AgreesIn rs es h
  below_one h l few now = elim (cases_eq h n) [
    | inl same ↦ subst (λ (k : ℕ). AgreesIn rs es k) (sym same) (now (omega (arith, same, few)))
    | inr apart ↦ c.agree h (lt-of l apart) few
  ]
    where
      lt-of : h < n + 1 → (h ≡ n → ⊥) → h < n
      lt-of l apart = omega (arith, l, apart)

  pub counted : EndsAt rs n (length (settlements_for n es)) ⊎ (least ≤ n) → Counted rs es (n + 1) least
  counted why = record { few = c.few; begins = c.begins; agree = λ h l few. below_one h l few (now why); differs = c.differs }
    where
      here : EndsAt rs n (length (settlements_for n es)) → n < least → (r : LoggedRegion) → slice_get rs n ≡ Some r → Agrees n es r
      here ends l r h =
          let is : ends.0 ≡ r = some_is ends.0 r (sym ends.1 ∙ h) in
          let b = c.begins n l r h in (
            ap (λ (x : LoggedRegion). (region_of x).handler) (sym is) ∙ ends.2,
            all_of (settlements_for n es) b.0 (entries_of r) b.1 (ap (λ (x : LoggedRegion). length (entries_of x)) (sym is) ∙ ends.3),
          )

      now : EndsAt rs n (length (settlements_for n es)) ⊎ (least ≤ n) → n < least → AgreesIn rs es n
      now (inr far) l = absurd (omega (arith, far, l))
      now (inl ends) l = here ends l

  pub counted_off : n < least → (EndsAt rs n (length (settlements_for n es)) → ⊥) → length rs ≡ 512 → Counted rs es (n + 1) n
  counted_off l not size = record {
    few = omega (arith, l, c.few);
    begins = λ h few. c.begins h (omega (arith, few, l));
    agree = λ h below few. c.agree h few (omega (arith, few, l));
    differs = λ few agrees. let r = found rs n (omega (arith, few, size)) in
        not (r.0, r.1, (agrees r.0 r.1).0, ap (λ (zs : List Settlement). length zs) (agrees r.0 r.1).1);
  }
    where
      found : (rs : List LoggedRegion) (h : ℕ) → h < length rs → (r : LoggedRegion) × (slice_get rs h ≡ Some r)
      found [] h l = absurd (omega (arith, l))
      found (r ∷ rs) zero l = (r, refl)
      found (r ∷ rs) (suc h) l = found rs h (omega (arith, l))

pub all_agree : (rs : List LoggedRegion) (es : List Settlement) (least : ℕ) → length rs ≡ 512 → 512 ≤ least → Counted rs es 512 least → (h : ℕ) → AgreesIn rs es h
all_agree rs es least size far c h r e =
    let l = slice_get_within rs h r e in c.agree h (omega (arith, l, size)) (omega (arith, l, size, far)) r e

-- ---- what the tests tell

pub yes_at : (rs : List LoggedRegion) (h n : ℕ) (e : Settlement) (r : LoggedRegion) → slice_get rs h ≡ Some r →
    {es : List Settlement} → es ≡ entries_of r → (o : Option Settlement) → slice_get es n ≡ o → o ≡ Some e → StandsAt rs h n e
yes_at rs h n e r at same o agrees there = (r, at, ap (λ (zs : List Settlement). slice_get zs n) (sym same) ∙ agrees ∙ there)

not_both : (b : Bool) → b ≡ true → b ≡ false → ⊥
not_both b s n = cc

pub no_at : (rs : List LoggedRegion) (h n : ℕ) (e : Settlement) (r : LoggedRegion) → slice_get rs h ≡ Some r →
    {es : List Settlement} → es ≡ entries_of r → (o : Option Settlement) → o ≡ Some e →
    (b : Bool) → (slice_get es n ≡ o → b ≡ true) → b ≡ false → StandsAt rs h n e → ⊥
no_at rs h n e r at same o there b so fails st =
    let is : st.0 ≡ r = some_is st.0 r (sym st.1 ∙ at) in
    not_both b (so (ap (λ (zs : List Settlement). slice_get zs n) (same ∙ ap entries_of (sym is)) ∙ st.2 ∙ sym there)) fails

-- ---- the handler of a settlement at a place

pub handled : (o : Option Settlement) (h : ℕ) → Some h ≡ option_map (λ (s : Settlement). s.handler) o →
    (e : Settlement) × (o ≡ Some e) × (e.handler ≡ h)
handled (Some e) h is = (e, refl, sym (some_is h e.handler is))
handled None h is = none_some h (sym is)

pub unhandled : (o : Option Settlement) → None ≡ option_map (λ (s : Settlement). s.handler) o → o ≡ None
unhandled (Some e) is = none_some e.handler is
unhandled None is = refl

pub ends_yes : (rs : List LoggedRegion) (h n : ℕ) (r : LoggedRegion) → slice_get rs h ≡ Some r → (region_of r).handler ≡ h →
    {es : List Settlement} → es ≡ entries_of r → (k : ℕ) → k ≡ length es → (k == n) ≡ true → EndsAt rs h n
ends_yes rs h n r at own same k long is =
    (r, at, own, ap (λ (zs : List Settlement). length zs) (sym same) ∙ sym long ∙ eqb-true k n is)

pub ends_no : (rs : List LoggedRegion) (h n : ℕ) (r : LoggedRegion) → slice_get rs h ≡ Some r →
    {es : List Settlement} → es ≡ entries_of r → (k : ℕ) → k ≡ length es → (k == n) ≡ false → EndsAt rs h n → ⊥
ends_no rs h n r at same k long fails ends =
    let is : ends.0 ≡ r = some_is ends.0 r (sym ends.1 ∙ at) in
    not_both (k == n) (eq-eqb k n (long ∙ ap (λ (zs : List Settlement). length zs) same ∙ ap (λ (x : LoggedRegion). length (entries_of x)) (sym is) ∙ ends.3)) fails

pub ends_other : (rs : List LoggedRegion) (h n : ℕ) (r : LoggedRegion) → slice_get rs h ≡ Some r → (k : ℕ) → k ≡ (region_of r).handler → (k ≡ h → ⊥) →
    EndsAt rs h n → ⊥
ends_other rs h n r at k is apart ends =
    let same : ends.0 ≡ r = some_is ends.0 r (sym ends.1 ∙ at) in
    apart (is ∙ ap (λ (x : LoggedRegion). (region_of x).handler) (sym same) ∙ ends.2)
