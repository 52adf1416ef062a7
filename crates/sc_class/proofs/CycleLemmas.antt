-- Ranks of classes, searches among them, and ways up that lead back.
use Rattle.std.proofs.Common.{◌≡◌, ◌<◌, ◌≤◌, ◌+◌, ℕ, zero, suc, Bool, true, false, List, [], ◌∷◌, ◌++◌, Option, Some, None, length, get_or, map, refl, ap, sym, subst, ◌∙◌, arith, ◌⊎◌, inl, inr}
use Rattle.std.specs.Prelude.{Contains, slice_get, slice_set, is_some, if◌then◌else◌}
use Rattle.std.specs.List.{sum_by}
use Rattle.std.proofs.lemmas.List.{length-map, length-append, length-set}
use Rattle.std.proofs.lemmas.List.Sums.{sum_by-set}
use Rattle.std.proofs.lemmas.Option.{slice_get_within}
use Rattle.sc_text.specs.declared.token.Span.{Span}
use Rattle.sc_tree.specs.declared.system.System as tree
use Rattle.sc_tree.specs.declared.system.Class as tree_class
use Rattle.sc_tree.specs.declared.system.Parent as tree_parent
use Rattle.sc_tree.specs.Plain.{System, Class, Parent, Name}
use Rattle.sc_tree.specs.View.{class_of, parent_of, system_of}
use Rattle.sc_class.specs.ClassNames.{class_names, number_in, number_of, is_built_in}
use Rattle.sc_class.specs.Names.{number_among}
use Rattle.sc_class.specs.Tables.Ancestors.{IsParent, names_parent, LeadsTo, itself, over, NameLeadsTo, IsCyclic, cyclic, CycleAt}
use Rattle.sc_class.specs.Internal.Found.{Finds}
use Rattle.sc_class.specs.Internal.Search.{rank_of, IsNumberOf, AreInOrder, FindsWayBack, IsSeen, IsTodo, left_over, Grows, IsSearch}
use Rattle.sc_class.proofs.Anys.{any_none, any_left, any_right, any_parts, any_only, any_first}
use Rattle.sc_class.proofs.Items.{some_is, item_in, items_more, items_all, contains_at, contained_at}
use Rattle.sc_class.proofs.NameLemmas.{number_below}

-- ---- classes by number

pub classes_length : (s : tree.System) (cs : List tree_class.Class) → map class_of cs ≡ (system_of s).classes → length cs ≡ length s.classes.items
unfolding system_of
classes_length s cs e = sym (length-map cs class_of) ∙ ap length e ∙ length-map s.classes.items class_of

number_in_names : (x : List ℕ) (names : List Name) (k : ℕ) → number_in names x ≡ Some k → number_among x names ≡ Some k
number_in_names x names k e = by (is_built_in x) e
  where
    by : (b : Bool) → (if b then None else number_among x names) ≡ Some k → number_among x names ≡ Some k
    by true e = cc
    by false e = e

pub number_in_range : (s : tree.System) (x : List ℕ) (o : Option ℕ) (k : ℕ) → o ≡ number_of (system_of s) x → o ≡ Some k → k < length s.classes.items
unfolding system_of
number_in_range s x o k e g =
    let l = number_below x (class_names (map class_of s.classes.items)) k (number_in_names x (class_names (map class_of s.classes.items)) k (sym e ∙ g)) in
    omega (arith, l, length-map (map class_of s.classes.items) (λ (c : Class). c.name), length-map s.classes.items class_of)

-- ---- ranks

module _ (s : System) (ranks : List ℕ) (are : AreInOrder s ranks) where
  parent_not_above : (k j : ℕ) → IsParent s k j → rank_of ranks j ≤ rank_of ranks k
  parent_not_above k j (names_parent {c = c} {p = q} e m n) = let (i, g) = contained_at c.parents q m in are k c e i q g j n

  leads_up : (k j : ℕ) → LeadsTo s k j → rank_of ranks k ≤ rank_of ranks j
  leads_up k j itself = omega arith
  leads_up k j (over {i = i} p r) = let a = parent_not_above j i p in let b = leads_up k i r in omega (arith, a, b)

  -- a parent below the class doesn't lead back to it
  pub not_from_below : (x : List ℕ) (q : Parent) (o : Option ℕ) (k j a b : ℕ) → x ≡ q.name.text → o ≡ number_of s x → o ≡ Some j → a ≡ rank_of ranks j → b ≡ rank_of ranks k → a < b → NameLeadsTo s k q → ⊥
  not_from_below x q o k j a b t e f ra rb l (i, n, r) =
      let same : j ≡ i = some_is j i (sym f ∙ e ∙ ap (number_of s) t ∙ n) in
      let up = leads_up k i r in
      absurd (omega (arith, l, ra, rb, up, ap (rank_of ranks) same))

-- where no class has a rank, none is below another
pub none_ranked : (s : System) → AreInOrder s []
none_ranked s k c e i q f j n = omega arith

-- ---- ways back

pub cyclic_at : (s : System) (p : Span) (y : CycleAt s p) → IsCyclic s y.number
cyclic_at s p y = let (j, n, r) = y.leads_back in cyclic (names_parent y.is_class (contains_at y.class.parents y.parent_index y.parent y.is_parent) n) r

-- there is one such place at most
pub cycle_once : (s : System) (p q : Span) → CycleAt s p → CycleAt s q → p ≡ q
cycle_once s p q y z = y.place ∙ ap (λ (r : Parent). r.name.span) same_parent ∙ sym z.place
  where
    not_before : y.number < z.number → ⊥
    not_before l = z.first_class y.number l (cyclic_at s p y)

    not_behind : z.number < y.number → ⊥
    not_behind l = y.first_class z.number l (cyclic_at s q z)

    same_number : y.number ≡ z.number
    same_number = omega (arith, not_before, not_behind)

    same_class : y.class ≡ z.class
    same_class = some_is y.class z.class (sym y.is_class ∙ ap (slice_get s.classes) same_number ∙ z.is_class)

    there : slice_get z.class.parents y.parent_index ≡ Some y.parent
    there = subst (λ (c : Class). slice_get c.parents y.parent_index ≡ Some y.parent) same_class y.is_parent

    here_too : slice_get y.class.parents z.parent_index ≡ Some z.parent
    here_too = subst (λ (c : Class). slice_get c.parents z.parent_index ≡ Some z.parent) (sym same_class) z.is_parent

    index_not_before : y.parent_index < z.parent_index → ⊥
    index_not_before l = z.first_of_them y.parent_index y.parent l there (subst (λ (n : ℕ). NameLeadsTo s n y.parent) same_number y.leads_back)

    index_not_behind : z.parent_index < y.parent_index → ⊥
    index_not_behind l = y.first_of_them z.parent_index z.parent l here_too (subst (λ (n : ℕ). NameLeadsTo s n z.parent) (sym same_number) z.leads_back)

    same_index : y.parent_index ≡ z.parent_index
    same_index = omega (arith, index_not_before, index_not_behind)

    same_parent : y.parent ≡ z.parent
    same_parent = some_is y.parent z.parent (sym there ∙ ap (slice_get z.class.parents) same_index ∙ z.is_parent)

pub none_cyclic : (s : System) (cs : List tree_class.Class) → map class_of cs ≡ s.classes → (n : ℕ) → length cs ≤ n → ((k : ℕ) → k < n → IsCyclic s k → ⊥) → (p : Span) → CycleAt s p → ⊥
none_cyclic s cs e n l none p y =
    let m = slice_get_within s.classes y.number y.class y.is_class in
    none y.number (omega (arith, m, ap length e, length-map cs class_of)) (cyclic_at s p y)

module _ (s : System) (cs : List tree_class.Class) (all : map class_of cs ≡ s.classes) (n : ℕ) (x : tree_class.Class) (l : n < length cs) (g : x ≡ get_or cs n x)
    (ps : List tree_parent.Parent) (are_its : ps ≡ x.parents.items) (below : (k : ℕ) → k < n → IsCyclic s k → ⊥) where
  here : slice_get s.classes n ≡ Some (class_of x)
  here = subst (λ (cs : List Class). slice_get cs n ≡ Some (class_of x)) all (item_in class_of cs n x l g)

  its : map parent_of ps ≡ (class_of x).parents
  unfolding class_of
  its = ap (map parent_of) are_its

  pub back_at : (o : Option Span) → is_some o ≡ true → FindsWayBack s n (map parent_of ps) o → Finds (CycleAt s) o
  back_at None e f = cc
  back_at (Some p) e f = by (subst (λ (qs : List Parent). FindsWayBack s n qs (Some p)) its f)
    where
      by : FindsWayBack s n (class_of x).parents (Some p) → CycleAt s p
      by (i, q, h, first, leads, place) =
          record { number = n; class = class_of x; is_class = here; first_class = below; parent_index = i; parent = q; is_parent = h; first_of_them = first; leads_back = leads; place = place }

  no_way_here : FindsWayBack s n (map parent_of ps) None → IsCyclic s n → ⊥
  no_way_here f (cyclic {j = j} (names_parent {c = c} {p = q} e m num) r) =
      let same : class_of x ≡ c = some_is (class_of x) c (sym here ∙ e) in
      let (i, h) = contained_at (class_of x).parents q (subst (λ (c : Class). Contains c.parents q) (sym same) m) in
      f i q (subst (λ (qs : List Parent). slice_get qs i ≡ Some q) (sym its) h) (j, num, r)

  pub not_back : (o : Option Span) → is_some o ≡ false → FindsWayBack s n (map parent_of ps) o → IsCyclic s n → ⊥
  not_back None e f = no_way_here f
  not_back (Some p) e f = cc

-- ---- searches

pub leads_on : (s : System) (m k j : ℕ) → LeadsTo s m j → IsParent s m k → LeadsTo s k j
leads_on s m k j itself p = over p itself
leads_on s m k j (over q r) p = over q (leads_on s m k _ r p)

todo_left : (xs ys : List ℕ) (k : ℕ) → IsTodo xs k → IsTodo (xs ++ ys) k
todo_left xs ys k t = any_left {P = λ (j : ℕ). j ≡ k} xs ys t

todo_last : (xs : List ℕ) (k : ℕ) → IsTodo (xs ++ k ∷ []) k
todo_last xs k = any_right {P = λ (j : ℕ). j ≡ k} xs (k ∷ []) (any_first {P = λ (j : ℕ). j ≡ k} k [] refl)

todo_parts : (xs ys : List ℕ) (k : ℕ) → IsTodo (xs ++ ys) k → IsTodo xs k ⊎ IsTodo ys k
todo_parts xs ys k t = any_parts {P = λ (j : ℕ). j ≡ k} xs ys t

todo_only : (m k : ℕ) → IsTodo (m ∷ []) k → m ≡ k
todo_only m k t = any_only {P = λ (j : ℕ). j ≡ k} m t

todo_none : (k : ℕ) → IsTodo [] k → ⊥
todo_none k t = any_none {P = λ (j : ℕ). j ≡ k} t

set_keeps : (xs : List Bool) (i k : ℕ) → slice_get xs k ≡ Some true → slice_get (slice_set xs i true) k ≡ Some true
set_keeps [] i k e = e
set_keeps (x ∷ xs) zero zero e = refl
set_keeps (x ∷ xs) zero (suc k) e = e
set_keeps (x ∷ xs) (suc i) zero e = e
set_keeps (x ∷ xs) (suc i) (suc k) e = set_keeps xs i k e

set_before : (xs : List Bool) (i k : ℕ) → slice_get (slice_set xs i true) k ≡ Some true → (slice_get xs k ≡ Some true) ⊎ (k ≡ i)
set_before [] i k e = inl e
set_before (x ∷ xs) zero zero e = inr refl
set_before (x ∷ xs) zero (suc k) e = inl e
set_before (x ∷ xs) (suc i) zero e = inl e
set_before (x ∷ xs) (suc i) (suc k) e = by (set_before xs i k e)
  where
    by : (slice_get xs k ≡ Some true) ⊎ (k ≡ i) → (slice_get xs k ≡ Some true) ⊎ (suc k ≡ suc i)
    by (inl f) = inl f
    by (inr f) = inr (ap suc f)

set_at : (xs : List Bool) (i : ℕ) → i < length xs → slice_get (slice_set xs i true) i ≡ Some true
set_at [] i l = absurd (omega arith)
set_at (x ∷ xs) zero l = refl
set_at (x ∷ xs) (suc i) l = set_at xs i (less l)
  where
    less : suc i < suc (length xs) → i < length xs
    less l = omega arith

abbrev unseen : Bool → ℕ
unseen b = if b then 0 else 1

pub saw : (seen : List Bool) (todo todo' : List ℕ) (n : ℕ) (b : Bool) → n < length seen → b ≡ get_or seen n b → b ≡ false → todo' ≡ todo ++ n ∷ [] →
    Grows (λ k. k ≡ n) seen todo (slice_set seen n true) todo' × IsSeen (slice_set seen n true) n
saw seen todo todo' n b l g f e = (
  record {
    same_length = length-set seen n true;
    keeps = set_keeps seen n;
    seen_before = λ k x. before k (set_before seen n k x);
    todo_keeps = λ k t. subst (λ (ts : List ℕ). IsTodo ts k) (sym e) (todo_left todo (n ∷ []) k t);
    todo_before = λ k t. todo_from k (todo_parts todo (n ∷ []) k (subst (λ (ts : List ℕ). IsTodo ts k) e t));
    no_more = less (sum_by-set unseen seen n true b l) (ap unseen (sym g ∙ f)) (ap length e);
  },
  set_at seen n l,
)
  where
    on_it : IsTodo todo' n
    on_it = subst (λ (ts : List ℕ). IsTodo ts n) (sym e) (todo_last todo n)

    before : (k : ℕ) → (slice_get seen k ≡ Some true) ⊎ (k ≡ n) → IsSeen seen k ⊎ ((k ≡ n) × IsTodo todo' k)
    before k (inl x) = inl x
    before k (inr x) = inr (x, subst (IsTodo todo') (sym x) on_it)

    todo_from : (k : ℕ) → IsTodo todo k ⊎ IsTodo (n ∷ []) k → IsTodo todo k ⊎ IsSeen (slice_set seen n true) k
    todo_from k (inl t) = inl t
    todo_from k (inr t) = inr (subst (IsSeen (slice_set seen n true)) (todo_only n k t) (set_at seen n l))

    less : sum_by unseen (slice_set seen n true) + unseen (get_or seen n b) ≡ sum_by unseen seen + unseen true → unseen (get_or seen n b) ≡ unseen false → length todo' ≡ length (todo ++ n ∷ []) →
        left_over (slice_set seen n true) todo' ≤ left_over seen todo
    less s u t = let many = length-append todo (n ∷ []) in omega (arith, s, u, t, many)

pub grows_then : {P Q : ℕ → Type 0} (seen seen' seen'' : List Bool) (todo todo' todo'' : List ℕ) → ((k : ℕ) → Q k → P k) → Grows P seen todo seen' todo' → Grows Q seen' todo' seen'' todo'' → Grows P seen todo seen'' todo''
grows_then {P} {Q} seen seen' seen'' todo todo' todo'' f g h = record {
  same_length = h.same_length ∙ g.same_length;
  keeps = λ k x. h.keeps k (g.keeps k x);
  seen_before = λ k x. then_seen k (h.seen_before k x);
  todo_keeps = λ k t. h.todo_keeps k (g.todo_keeps k t);
  todo_before = λ k t. then_todo k (h.todo_before k t);
  no_more = let a = h.no_more in let b = g.no_more in omega (arith, a, b);
}
  where
    first_seen : (k : ℕ) → IsSeen seen k ⊎ (P k × IsTodo todo' k) → IsSeen seen k ⊎ (P k × IsTodo todo'' k)
    first_seen k (inl x) = inl x
    first_seen k (inr (p, t)) = inr (p, h.todo_keeps k t)

    then_seen : (k : ℕ) → IsSeen seen' k ⊎ (Q k × IsTodo todo'' k) → IsSeen seen k ⊎ (P k × IsTodo todo'' k)
    then_seen k (inl x) = first_seen k (g.seen_before k x)
    then_seen k (inr (q, t)) = inr (f k q, t)

    first_todo : (k : ℕ) → IsTodo todo k ⊎ IsSeen seen' k → IsTodo todo k ⊎ IsSeen seen'' k
    first_todo k (inl t) = inl t
    first_todo k (inr x) = inr (h.keeps k x)

    then_todo : (k : ℕ) → IsTodo todo' k ⊎ IsSeen seen'' k → IsTodo todo k ⊎ IsSeen seen'' k
    then_todo k (inl t) = first_todo k (g.todo_before k t)
    then_todo k (inr x) = inr x

-- a class whose parents these are, in memory
module _ (s : System) (m : ℕ) (x : tree_class.Class) (is_class : slice_get s.classes m ≡ Some (class_of x)) (ps : List tree_parent.Parent) (are_its : ps ≡ x.parents.items) where
  its_parents : map parent_of ps ≡ (class_of x).parents
  unfolding class_of
  its_parents = ap (map parent_of) are_its

  pub parent_is : (i : ℕ) (q : tree_parent.Parent) → i < length ps → q ≡ get_or ps i q → (k : ℕ) → IsNumberOf s (parent_of q) k → IsParent s m k
  parent_is i q l g k n =
      names_parent is_class (contains_at (class_of x).parents i (parent_of q) (subst (λ (qs : List Parent). slice_get qs i ≡ Some (parent_of q)) its_parents (item_in parent_of ps i q l g))) n

  pub all_parents : (P : ℕ → Type 0) → ((i : ℕ) (q : Parent) → slice_get (map parent_of ps) i ≡ Some q → (k : ℕ) → IsNumberOf s q k → P k) → (k : ℕ) → IsParent s m k → P k
  all_parents P f k (names_parent {c = c} {p = q} e h n) =
      let same : class_of x ≡ c = some_is (class_of x) c (sym is_class ∙ e) in
      let (i, g) = contained_at (class_of x).parents q (subst (λ (c : Class). Contains c.parents q) (sym same) h) in
      f i q (subst (λ (qs : List Parent). slice_get qs i ≡ Some q) (sym its_parents) g) k n

-- the class is still to be looked at, or it has been
abbrev Looked : System → ℕ → List Bool → List ℕ → ℕ → Type 0
Looked s target seen todo k = IsTodo todo k ⊎ ((k ≡ target → ⊥) × ((j : ℕ) → IsParent s k j → IsSeen seen j))

module _ (s : System) (target start : ℕ) where
  pub search_begins : (seen seen' : List Bool) (todo todo' : List ℕ) → todo ≡ [] → ((k : ℕ) → IsSeen seen k → ⊥) → Grows (λ k. k ≡ start) seen todo seen' todo' → IsSeen seen' start → IsSearch s target start seen' todo'
  search_begins seen seen' todo todo' e none g at = record {
    started = at;
    come_to = λ k x. come k (g.seen_before k x);
    todo_seen = λ k t. from_todo k (g.todo_before k t);
    looked_at = λ k x. look k (g.seen_before k x);
  }
    where
      come : (k : ℕ) → IsSeen seen k ⊎ ((k ≡ start) × IsTodo todo' k) → LeadsTo s k start
      come k (inl x) = absurd (none k x)
      come k (inr (q, t)) = subst (λ (j : ℕ). LeadsTo s j start) (sym q) itself

      from_todo : (k : ℕ) → IsTodo todo k ⊎ IsSeen seen' k → IsSeen seen' k
      from_todo k (inl t) = absurd (todo_none k (subst (λ (ts : List ℕ). IsTodo ts k) e t))
      from_todo k (inr x) = x

      look : (k : ℕ) → IsSeen seen k ⊎ ((k ≡ start) × IsTodo todo' k) → IsTodo todo' k ⊎ ((k ≡ target → ⊥) × ((j : ℕ) → IsParent s k j → IsSeen seen' j))
      look k (inl x) = absurd (none k x)
      look k (inr (q, t)) = inl t

  module _ (seen : List Bool) (todo todo' : List ℕ) (m : ℕ) (g : IsSearch s target start seen todo) (e : todo ≡ todo' ++ m ∷ []) where
    on_todo : IsSeen seen m
    on_todo = g.todo_seen m (subst (λ (ts : List ℕ). IsTodo ts m) (sym e) (todo_last todo' m))

    pub target_found : m ≡ target → LeadsTo s target start
    target_found q = subst (λ (k : ℕ). LeadsTo s k start) q (g.come_to m on_todo)

    pub search_more : (seen'' : List Bool) (todo'' : List ℕ) → (m ≡ target → ⊥) → Grows (IsParent s m) seen todo' seen'' todo'' → ((k : ℕ) → IsParent s m k → IsSeen seen'' k) → IsSearch s target start seen'' todo''
    search_more seen'' todo'' other h all = record {
      started = h.keeps start g.started;
      come_to = λ k x. come k (h.seen_before k x);
      todo_seen = λ k t. from_todo k (h.todo_before k t);
      looked_at = λ k x. look k (h.seen_before k x);
    }
      where
        come : (k : ℕ) → IsSeen seen k ⊎ (IsParent s m k × IsTodo todo'' k) → LeadsTo s k start
        come k (inl x) = g.come_to k x
        come k (inr (p, t)) = leads_on s m k start (g.come_to m on_todo) p

        from_todo : (k : ℕ) → IsTodo todo' k ⊎ IsSeen seen'' k → IsSeen seen'' k
        from_todo k (inl t) = h.keeps k (g.todo_seen k (subst (λ (ts : List ℕ). IsTodo ts k) (sym e) (todo_left todo' (m ∷ []) k t)))
        from_todo k (inr x) = x

        was_todo : (k : ℕ) → IsTodo todo' k ⊎ IsTodo (m ∷ []) k → Looked s target seen'' todo'' k
        was_todo k (inl t) = inl (h.todo_keeps k t)
        was_todo k (inr t) = subst (Looked s target seen'' todo'') (todo_only m k t) (inr (other, all))

        was : (k : ℕ) → IsTodo todo k ⊎ ((k ≡ target → ⊥) × ((j : ℕ) → IsParent s k j → IsSeen seen j)) → Looked s target seen'' todo'' k
        was k (inl t) = was_todo k (todo_parts todo' (m ∷ []) k (subst (λ (ts : List ℕ). IsTodo ts k) e t))
        was k (inr (q, f)) = inr (q, λ j p. h.keeps j (f j p))

        look : (k : ℕ) → IsSeen seen k ⊎ (IsParent s m k × IsTodo todo'' k) → Looked s target seen'' todo'' k
        look k (inl x) = was k (g.looked_at k x)
        look k (inr (p, t)) = inl t

  none_seen : (seen : List Bool) (todo : List ℕ) → IsSearch s target start seen todo → ((k : ℕ) → IsTodo todo k → ⊥) → (k : ℕ) → LeadsTo s target k → IsSeen seen k → ⊥
  none_seen seen todo g none k itself x = by (g.looked_at target x)
    where
      by : Looked s target seen todo target → ⊥
      by (inl t) = none target t
      by (inr (q, f)) = q refl
  none_seen seen todo g none k (over {i = i} p r) x = by (g.looked_at k x) (none_seen seen todo g none i r)
    where
      by : Looked s target seen todo k → (IsSeen seen i → ⊥) → ⊥
      by (inl t) f = none k t
      by (inr (q, h)) f = f (h i p)

  pub target_not_found : (seen : List Bool) (todo : List ℕ) → IsSearch s target start seen todo → todo ≡ [] → LeadsTo s target start → ⊥
  target_not_found seen todo g e way = none_seen seen todo g (λ k t. todo_none k (subst (λ (ts : List ℕ). IsTodo ts k) e t)) start way g.started

  pub begins : (seen seen' : List Bool) (todo todo' : List ℕ) (n : ℕ) → (length seen ≡ n) × (todo ≡ []) × ((k : ℕ) → IsSeen seen k → ⊥) → Grows (λ k. k ≡ start) seen todo seen' todo' × IsSeen seen' start → (m : ℕ) → n ≡ m →
      (length seen' ≡ m) × IsSearch s target start seen' todo'
  begins seen seen' todo todo' n (l, e, none) (g, at) m i = (g.same_length ∙ l ∙ i, search_begins seen seen' todo todo' e none g at)

  pub goes_on : (seen : List Bool) (todo todo' : List ℕ) (m n : ℕ) → (length seen ≡ n) × IsSearch s target start seen todo → todo ≡ todo' ++ m ∷ [] → (seen'' : List Bool) (todo'' : List ℕ) → (m ≡ target → ⊥) →
      Grows (IsParent s m) seen todo' seen'' todo'' × ((k : ℕ) → IsParent s m k → IsSeen seen'' k) → (length seen'' ≡ n) × IsSearch s target start seen'' todo''
  goes_on seen todo todo' m n (l, g) e seen'' todo'' other (h, all) = (h.same_length ∙ l, search_more seen todo todo' m g e seen'' todo'' other h all)

-- one more parent has been come to
pub parents_more : (s : System) (m : ℕ) (x : tree_class.Class) → slice_get s.classes m ≡ Some (class_of x) → (ps : List tree_parent.Parent) → ps ≡ x.parents.items → (i : ℕ) (q : tree_parent.Parent) → i < length ps → q ≡ get_or ps i q →
    (seen seen' seen'' : List Bool) (todo todo' todo'' : List ℕ) →
    Grows (IsParent s m) seen todo seen' todo' × ((j : ℕ) → j < i → (r : Parent) → slice_get (map parent_of ps) j ≡ Some r → (k : ℕ) → IsNumberOf s r k → IsSeen seen' k) →
    Grows (IsNumberOf s (parent_of q)) seen' todo' seen'' todo'' × ((k : ℕ) → IsNumberOf s (parent_of q) k → IsSeen seen'' k) →
    Grows (IsParent s m) seen todo seen'' todo'' × ((j : ℕ) → j < i + 1 → (r : Parent) → slice_get (map parent_of ps) j ≡ Some r → (k : ℕ) → IsNumberOf s r k → IsSeen seen'' k)
parents_more s m x is_class ps are i q l e seen seen' seen'' todo todo' todo'' (g, below) (h, here) = (
  grows_then seen seen' seen'' todo todo' todo'' (parent_is s m x is_class ps are i q l e) g h,
  items_more parent_of ps (λ j r. (k : ℕ) → IsNumberOf s r k → IsSeen seen'' k) i q l e (λ j lj r er k n. h.keeps k (below j lj r er k n)) here,
)

pub parents_done : (s : System) (m : ℕ) (x : tree_class.Class) → slice_get s.classes m ≡ Some (class_of x) → (ps : List tree_parent.Parent) → ps ≡ x.parents.items → (i : ℕ) → length ps ≤ i →
    (seen seen' : List Bool) (todo todo' : List ℕ) →
    Grows (IsParent s m) seen todo seen' todo' × ((j : ℕ) → j < i → (r : Parent) → slice_get (map parent_of ps) j ≡ Some r → (k : ℕ) → IsNumberOf s r k → IsSeen seen' k) →
    Grows (IsParent s m) seen todo seen' todo' × ((k : ℕ) → IsParent s m k → IsSeen seen' k)
parents_done s m x is_class ps are i l seen seen' todo todo' (g, below) =
    (g, all_parents s m x is_class ps are (IsSeen seen') (items_all parent_of ps (λ j r. (k : ℕ) → IsNumberOf s r k → IsSeen seen' k) i l below))

pub starts_within : (s : tree.System) (cs : List tree_class.Class) (start : ℕ) (seen : List Bool) (todo : List ℕ) → map class_of cs ≡ (system_of s).classes → (length seen ≡ length cs) × (todo ≡ []) × ((k : ℕ) → IsSeen seen k → ⊥) →
    start < length s.classes.items → start < length seen
starts_within s cs start seen todo all (l, e, none) m = let n = classes_length s cs all in omega (arith, l, m, n)

pub nothing_left : (todo : List ℕ) → length todo ≡ 0 → todo ≡ []
nothing_left [] e = refl
nothing_left (k ∷ todo) e = absurd (omega arith)
