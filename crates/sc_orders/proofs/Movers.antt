-- Orders that are carried past a mover, and kept worlds that find all.
use Rattle.std.proofs.Common.{◌≡◌, ◌⊎◌, ◌≤◌, ◌∙◌, ◌++◌, inl, inr, ℕ, zero, suc, Bool, true, false, List, [], ◌∷◌, length, refl, sym, ap, subst, arith}
use Rattle.std.proofs.lemmas.Bool.{cases_lt}
use Rattle.sc_orders.specs.Orders.{Leads, MayMove, NeverMoves}
use Rattle.sc_orders.specs.Movers.{IsMachine, Meet, AreMovers, LeadsTo, Kept, Moved, AreClosed, IsStable, SomeKept, FindAll, movers_in, end_of, IsAmong, Moves, Now, Later, EdgesShow}
use Rattle.sc_orders.proofs.Orders.{leads_join}

either : (m n : ℕ) → (m ≡ n) ⊎ (m ≡ n → ⊥)
either m n = elim (cases_lt m n) [
  | inl less ↦ inr (λ e. omega (arith, less, e))
  | inr more ↦ elim (cases_lt n m) [
    | inl less ↦ inr (λ e. omega (arith, less, e))
    | inr most ↦ inl (omega (arith, more, most))
  ]
]

true_or_false : (b : Bool) → (b ≡ true) ⊎ (b ≡ false)
true_or_false true = inl refl
true_or_false false = inr refl

not_both : (b : Bool) → b ≡ true → b ≡ false → ⊥
not_both b t f = let no : true ≡ false = sym t ∙ f in cc

not_true : (b : Bool) → (b ≡ true → ⊥) → b ≡ false
not_true true never = absurd (never refl)
not_true false never = refl

among_last : (x : ℕ) (hs : List ℕ) → IsAmong x (hs ++ x ∷ [])
among_last x [] = inl refl
among_last x (h ∷ hs) = inr (among_last x hs)

module _ {W : Type 0} (Turn : ℕ → W → W → Type 0) (has_turn : ℕ → W → Bool) where
  -- Each of these handlers has a turn as it comes, and the turns lead from the first world to the second.
  abbrev pub Makes : List ℕ → W → W → Type 0
  Makes [] x y = y ≡ x
  Makes (h ∷ hs) x y = (has_turn h x ≡ true) × (z : W) × Turn h x z × Makes hs z y

  makes_join : (hs gs : List ℕ) (x y z : W) → Makes hs x y → Makes gs y z → Makes (hs ++ gs) x z
  makes_join [] gs x y z same more = subst (λ w. Makes gs w z) same more
  makes_join (h ∷ hs) gs x y z m more = (m.0, m.1, m.2, makes_join hs gs m.1 y z m.3 more)

  leads_so : (hs : List ℕ) (x y : W) → Makes hs x y → Leads Turn hs x y
  leads_so [] x y same = same
  leads_so (h ∷ hs) x y m = (m.1, m.2, leads_so hs m.1 y m.3)

  module _ (bad : W → Bool) (IsReached : W → Type 0) (m : IsMachine Turn has_turn bad IsReached) where
    -- an order without the handlers that change nothing
    abbrev Trims : W → W → Type 0
    Trims x y = (hs : List ℕ) × Makes hs x y

    trimmed : (hs : List ℕ) (x y : W) → IsReached x → Leads Turn hs x y → Trims x y
    trimmed [] x y reached same = ([], same)
    trimmed (h ∷ hs) x y reached l = elim (true_or_false (has_turn h x)) [
      | inl t ↦ let rest = trimmed hs l.0 y (m.reached h x l.0 reached l.1) l.2 in (h ∷ rest.0, (t, l.0, l.1, rest.1))
      | inr f ↦
          let same : l.0 ≡ x = m.one h x l.0 x l.1 (m.idle h x reached f) in
          trimmed hs x y reached (subst (λ w. Leads Turn hs w y) same l.2)
    ]

    good_before : (h : ℕ) (x y : W) → Turn h x y → bad y ≡ false → bad x ≡ false
    good_before h x y t e = not_true (bad x) (λ b. not_both (bad y) (m.stays_bad h x y b t) e)

    -- ---- past a mover

    module _ (IsMover : ℕ → W → Type 0) (are : AreMovers Turn has_turn bad IsReached IsMover) where
      abbrev Meets : ℕ → ℕ → W → W → Type 0
      Meets g h w moved = Meet Turn has_turn bad IsReached IsMover g h w moved

      -- What becomes of an order from a world to another, if the turn of a mover is put before it: it leads to a bad
      -- world; or the mover moves in it, and the rest leads to the end as before; or it goes on as it is, and leads to
      -- the world after the turn at the end of the mover, which still is one there.
      pub data Carried (g : ℕ) (moved end : W) (hs : List ℕ) : Type 0 where
        Bad : (ks : List ℕ) → (v : W) → length ks ≤ length hs → Makes ks moved v → bad v ≡ true → Carried g moved end hs
        WithIt : (ks : List ℕ) → suc (length ks) ≡ length hs → Makes ks moved end → ((x : ℕ) → IsAmong x hs → (x ≡ g) ⊎ IsAmong x ks) →
            Carried g moved end hs
        WithoutIt : (v : W) → Makes hs moved v → IsMover g end → Turn g end v → Carried g moved end hs

      -- a turn of another handler first
      put_before : (g h : ℕ) (moved both end : W) (hs : List ℕ) → has_turn h moved ≡ true → Turn h moved both → Carried g both end hs → Carried g moved end (h ∷ hs)
      put_before g h moved both end hs t turn c = elim c [
        | Bad ks v short makes b ↦ Bad (h ∷ ks) v (omega (arith, short)) (t, both, turn, makes) b
        | WithIt ks short makes covers ↦ WithIt (h ∷ ks) (omega (arith, short)) (t, both, turn, makes) (λ x i. covered x ks i covers)
        | WithoutIt v makes still last ↦ WithoutIt v (t, both, turn, makes) still last
      ]
        where
          covered : (x : ℕ) (ks : List ℕ) → (x ≡ h) ⊎ IsAmong x hs → ((y : ℕ) → IsAmong y hs → (y ≡ g) ⊎ IsAmong y ks) → (x ≡ g) ⊎ ((x ≡ h) ⊎ IsAmong x ks)
          covered x ks (inl same) covers = inr (inl same)
          covered x ks (inr i) covers = elim (covers x i) [
            | inl same ↦ inl same
            | inr there ↦ inr (inr there)
          ]

      carry : (hs : List ℕ) (g : ℕ) (w moved end : W) → IsReached w → bad w ≡ false → IsMover g w → Turn g w moved → bad moved ≡ false → Makes hs w end → Carried g moved end hs
      carry [] g w moved end reached good mover turn after same = WithoutIt moved refl (subst (IsMover g) (sym same) mover) (subst (λ v. Turn g v moved) (sym same) turn)
      carry (h ∷ hs) g w moved end reached good mover turn after makes = elim (either g h) [
        | inl same ↦
            let one : makes.1 ≡ moved = m.one g w makes.1 moved (subst (λ (n : ℕ). Turn n w makes.1) (sym same) makes.2) turn in
            WithIt hs (omega arith) (subst (λ v. Makes hs v end) one makes.3) (λ x i. own x i same)
        | inr differ ↦
            let other = makes.1 in
            let meet : Meets g h w moved =
            record { reached = reached; is_good = good; differ = differ; mover = mover; turn = turn; good_after = after; turn_of = makes.0 } in
            let t = are.leaves g h w moved meet in
            elim (true_or_false (bad other)) [
              | inl b ↦ let s = are.shows g h w moved other meet makes.2 b in Bad (h ∷ []) s.world (omega arith) (t, s.world, s.turn, refl) s.is_bad
              | inr n ↦
                  let c = are.commute g h w moved other meet makes.2 n in
                  elim (true_or_false (bad c.both)) [
                    | inl b ↦ Bad (h ∷ []) c.both (omega arith) (t, c.both, c.other_turn, refl) b
                    | inr later ↦
                        put_before g h moved c.both end hs t c.other_turn
                        (carry hs g other c.both end (m.reached h w other reached makes.2) n c.mover c.turn later makes.3)
                  ]
            ]
      ]
        where
          own : (x : ℕ) → (x ≡ h) ⊎ IsAmong x hs → g ≡ h → (x ≡ g) ⊎ IsAmong x hs
          own x (inl same) e = inl (same ∙ sym e)
          own x (inr i) e = inr i

      -- ---- orders that there are

      -- handlers, this number at most, may have their turns from the world, whichever they are
      abbrev Goes : ℕ → W → Type 0
      Goes n w = (hs : List ℕ) → length hs ≤ n → (v : W) × Leads Turn hs w v

      AllGood : W → Type 0
      AllGood w = (hs : List ℕ) (v : W) → Leads Turn hs w v → bad v ≡ false

      good_next : (h : ℕ) (w v : W) → Turn h w v → AllGood w → AllGood v
      unfolding AllGood
      good_next h w v t good hs u l = good (h ∷ hs) u (v, t, l)

      -- from before a mover's turn, if they may from after it
      goes_before : (n g : ℕ) (w moved : W) → IsReached w → AllGood w → IsMover g w → Turn g w moved → Goes n moved → Goes n w
      unfolding AllGood
      goes_before n g w moved reached good mover turn goes [] le = (w, refl)
      goes_before zero g w moved reached good mover turn goes (h ∷ hs) le = absurd (omega (arith, le))
      goes_before (suc n) g w moved reached good mover turn goes (h ∷ hs) le = elim (either g h) [
        | inl same ↦
            let rest = goes hs (omega (arith, le)) in
            (rest.0, (moved, subst (λ (k : ℕ). Turn k w moved) same turn, rest.1))
        | inr differ ↦ elim (true_or_false (has_turn h w)) [
          | inr f ↦
              let rest = goes_before n g w moved reached good mover turn (λ gs short. goes gs (omega (arith, short))) hs (omega (arith, le)) in
              (rest.0, (w, m.idle h w reached f, rest.1))
          | inl t ↦
              let meet : Meets g h w moved =
              record { reached = reached; is_good = good [] w refl; differ = differ; mover = mover; turn = turn; good_after = good (g ∷ []) moved (moved, turn, refl); turn_of = t } in
              let once = goes (h ∷ []) (omega arith) in
              let other = are.goes g h w moved once.1.0 meet once.1.1 in
              let c = are.commute g h w moved other.0 meet other.1 (good (h ∷ []) other.0 (other.0, other.1, refl)) in
              let rest = goes_before n g other.0 c.both (m.reached h w other.0 reached other.1) (good_next h w other.0 other.1 good) c.mover c.turn
              (λ gs short. after moved c.both gs c.other_turn (goes (h ∷ gs) (omega (arith, short)))) hs (omega (arith, le)) in
              (rest.0, (other.0, other.1, rest.1))
        ]
      ]
        where
          after : (x y : W) (gs : List ℕ) → Turn h x y → (v : W) × Leads Turn (h ∷ gs) x v → (v : W) × Leads Turn gs y v
          after x y gs t l = (l.0, subst (λ u. Leads Turn gs u l.0) (m.one h x l.1.0 y l.1.1 t) l.1.2)

      -- ---- closed under turns

      module _ (opening : W) (IsKept : W → Type 0) (c : AreClosed Turn has_turn bad IsReached IsMover opening IsKept) where
        abbrev Chain : W → Type 0
        Chain w = LeadsTo Turn bad IsMover IsKept w

        -- an order from a world from which movers lead to a kept one: it shows nothing bad, and what turns keep is kept
        pub record Shows (P : W → Type 0) (v : W) : Type 0 where
          pub none_bad : bad v ≡ false
          pub found : P v → SomeKept IsKept P

        module _ (P : W → Type 0) (stable : IsStable Turn IsMover P) where
          abbrev Shorter : ℕ → Type 0
          Shorter n = (w end : W) → IsReached w → Chain w → (hs : List ℕ) → suc (length hs) ≤ n → Makes hs w end → Shows P end

          walk : (n : ℕ) → Shorter n → (w end : W) → IsReached w → Chain w → (hs : List ℕ) → length hs ≤ n → Makes hs w end → Shows P end
          walk n shorter w end reached (Kept v k) [] le same =
              subst (Shows P) (sym same) (record { none_bad = c.good v k; found = λ p. record { world = v; kept = k; has = p } })
          walk n shorter w end reached (Kept v k) (h ∷ hs) le makes =
              shorter makes.1 end (m.reached h v makes.1 reached makes.2) (c.leads v k h makes.0 makes.1 makes.2) hs (omega (arith, le)) makes.3
          walk n shorter w end reached (Moved v g moved mover turn b l) hs le makes =
              elim (carry hs g w moved end reached (good_before g w moved turn b) mover turn b makes) [
                | Bad ks u short there is_bad ↦
                    let shown = walk n shorter moved u (m.reached g w moved reached turn) l ks (omega (arith, le, short)) there in
                    absurd (not_both (bad u) is_bad shown.none_bad)
                | WithIt ks short there covers ↦ walk n shorter moved end (m.reached g w moved reached turn) l ks (omega (arith, le, short)) there
                | WithoutIt u there still last ↦
                    let shown = walk n shorter moved u (m.reached g w moved reached turn) l hs le there in
                    record { none_bad = good_before g end u last shown.none_bad; found = λ p. shown.found (stable g end u p still last) }
              ]

          walks : (n : ℕ) (w end : W) → IsReached w → Chain w → (hs : List ℕ) → length hs ≤ n → Makes hs w end → Shows P end
          walks zero w end reached l hs le makes = walk zero (λ v e r k gs short u. absurd (omega (arith, short))) w end reached l hs le makes
          walks (suc n) w end reached l hs le makes = walk (suc n) (λ v e r k gs short u. walks n v e r k gs (omega (arith, short)) u) w end reached l hs le makes

          shows : (w end : W) → IsReached w → Chain w → (hs : List ℕ) → Leads Turn hs w end → Shows P end
          shows w end reached l hs leads =
              let short = trimmed hs w end reached leads in
              walks (length short.0) w end reached l short.0 (omega arith) short.1

        all_good : (w : W) → IsReached w → Chain w → AllGood w
        unfolding AllGood
        all_good w reached l hs v leads = (shows (λ u. Unit {0}) (λ g x y p n t. tt) w v reached l hs leads).none_bad

        -- from each world from which movers lead to a kept one any handlers may have their turns
        goes_from : (n : ℕ) (w : W) → IsReached w → Chain w → Goes n w
        goes_from n w reached (Kept v k) [] le = (v, refl)
        goes_from zero w reached (Kept v k) (h ∷ hs) le = absurd (omega (arith, le))
        goes_from (suc n) w reached (Kept v k) (h ∷ hs) le = elim (true_or_false (has_turn h v)) [
          | inl t ↦
              let next = c.goes v k h t in
              let rest = goes_from n next.0 (m.reached h v next.0 reached next.1) (c.leads v k h t next.0 next.1) hs (omega (arith, le)) in
              (rest.0, (next.0, next.1, rest.1))
          | inr f ↦
              let rest = goes_from n v reached (Kept v k) hs (omega (arith, le)) in
              (rest.0, (v, m.idle h v reached f, rest.1))
        ]
        goes_from n w reached (Moved v g moved mover turn b l) hs le =
            goes_before n g w moved reached (all_good w reached (Moved w g moved mover turn b l)) mover turn (goes_from n moved (m.reached g w moved reached turn) l) hs le

        pub closed_find_all : IsReached opening → FindAll Turn bad IsMover opening IsKept
        closed_find_all reached = record {
          none_bad = λ hs v leads. (shows (λ u. Unit {0}) (λ g x y p n t. tt) opening v reached c.opens hs leads).none_bad;
          goes = λ hs. goes_from (length hs) opening reached c.opens hs (omega arith);
          found = λ P stable hs v leads. (shows P stable opening v reached c.opens hs leads).found;
        }

        -- ---- who moves

        -- the movers of a chain lead to its end,
        chain_ends : (w : W) (l : Chain w) → Leads Turn (movers_in l) w (end_of l)
        chain_ends w (Kept v k) = refl
        chain_ends w (Moved v g moved n t b l) = (moved, t, chain_ends moved l)

        -- and each has a turn in it.
        in_chain : (x : ℕ) (w : W) → IsReached w → (l : Chain w) → IsAmong x (movers_in l) → MayMove Turn has_turn x w
        in_chain x w reached (Kept v k) i = absurd i
        in_chain x w reached (Moved v g moved n t b l) (inl same) =
            record { handlers = []; world = w; leads = refl; turn = ap (λ (h : ℕ). has_turn h w) same ∙ are.has g w reached (good_before g w moved t b) n }
        in_chain x w reached (Moved v g moved n t b l) (inr i) =
            let rest = in_chain x moved (m.reached g w moved reached t) l i in
            record { handlers = g ∷ rest.handlers; world = rest.world; leads = (moved, t, rest.leads); turn = rest.turn }

        edges_may : (x : ℕ) (k : W) → Moves c x k → MayMove Turn has_turn x k
        edges_may x k (Now u kept h t v turn (inl same)) = record { handlers = []; world = k; leads = refl; turn = ap (λ (g : ℕ). has_turn g k) same ∙ t }
        edges_may x k (Now u kept h t v turn (inr i)) =
            let rest = in_chain x v (m.reached h k v (c.reached k kept) turn) (c.leads k kept h t v turn) i in
            record { handlers = h ∷ rest.handlers; world = rest.world; leads = (v, turn, rest.leads); turn = rest.turn }
        edges_may x k (Later u kept h t v turn more) =
            let l = c.leads k kept h t v turn in
            let rest = edges_may x (end_of l) more in
            record {
              handlers = h ∷ movers_in l ++ rest.handlers;
              world = rest.world;
              leads = (v, turn, leads_join Turn (movers_in l) rest.handlers v (end_of l) rest.world (chain_ends v l) rest.leads);
              turn = rest.turn;
            }

        module _ (x : ℕ) where
          -- the handler moves in the chain, or edges from its end lead on to one in which it does
          abbrev MovesFrom : {w : W} → Chain w → Type 0
          MovesFrom l = IsAmong x (movers_in l) ⊎ Moves c x (end_of l)

          abbrev ShorterMoves : ℕ → Type 0
          ShorterMoves n = (w end : W) → IsReached w → (l : Chain w) → (hs : List ℕ) → suc (length hs) ≤ n → Makes hs w end → IsAmong x hs → MovesFrom l

          past : (w : W) (g : ℕ) (v : W) (n : IsMover g w) (t : Turn g w v) (b : bad v ≡ false) (l : Chain v) → MovesFrom l → MovesFrom (Moved w g v n t b l)
          past w g v n t b l (inl i) = inl (inr i)
          past w g v n t b l (inr more) = inr more

          from_kept : (k : W) (kept : IsKept k) (h : ℕ) (t : has_turn h k ≡ true) (v : W) (turn : Turn h k v) → MovesFrom (c.leads k kept h t v turn) → MovesFrom (Kept k kept)
          from_kept k kept h t v turn (inl i) = inr (Now k kept h t v turn (inr i))
          from_kept k kept h t v turn (inr more) = inr (Later k kept h t v turn more)

          walk_to : (n : ℕ) → ShorterMoves n → (w end : W) → IsReached w → (l : Chain w) → (hs : List ℕ) → length hs ≤ n → Makes hs w end → IsAmong x hs → MovesFrom l
          walk_to n shorter w end reached (Kept v k) [] le makes i = absurd i
          walk_to n shorter w end reached (Kept v k) (h ∷ hs) le makes (inl same) = inr (Now v k h makes.0 makes.1 makes.2 (inl same))
          walk_to n shorter w end reached (Kept v k) (h ∷ hs) le makes (inr i) =
              from_kept v k h makes.0 makes.1 makes.2
              (shorter makes.1 end (m.reached h v makes.1 reached makes.2) (c.leads v k h makes.0 makes.1 makes.2) hs (omega (arith, le)) makes.3 i)
          walk_to n shorter w end reached (Moved v g moved mover turn b l) hs le makes i =
              elim (carry hs g w moved end reached (good_before g w moved turn b) mover turn b makes) [
                | Bad ks u short there is_bad ↦
                    absurd (not_both (bad u) is_bad
                    (shows (λ u. Unit {0}) (λ g x y p n t. tt) moved u (m.reached g w moved reached turn) l ks (leads_so ks moved u there)).none_bad)
                | WithIt ks short there covers ↦ elim (covers x i) [
                  | inl is ↦ inl (inl is)
                  | inr still ↦ past w g moved mover turn b l (walk_to n shorter moved end (m.reached g w moved reached turn) l ks (omega (arith, le, short)) there still)
                ]
                | WithoutIt u there still last ↦ past w g moved mover turn b l (walk_to n shorter moved u (m.reached g w moved reached turn) l hs le there i)
              ]

          walks_to : (n : ℕ) (w end : W) → IsReached w → (l : Chain w) → (hs : List ℕ) → length hs ≤ n → Makes hs w end → IsAmong x hs → MovesFrom l
          walks_to zero w end reached l hs le makes i = walk_to zero (λ v e r k gs short u j. absurd (omega (arith, short))) w end reached l hs le makes i
          walks_to (suc n) w end reached l hs le makes i =
              walk_to (suc n) (λ v e r k gs short u j. walks_to n v e r k gs (omega (arith, short)) u j) w end reached l hs le makes i

          kept_moves : (k : W) (kept : IsKept k) → MovesFrom (Kept k kept) → Moves c x k
          kept_moves k kept (inl i) = absurd i
          kept_moves k kept (inr more) = more

          -- an order that gives the handler a turn, and that turn
          may_edges : (k : W) → IsKept k → (hs : List ℕ) (v u : W) → Leads Turn hs k v → has_turn x v ≡ true → Turn x v u → Moves c x k
          may_edges k kept hs v u leads t turn =
              let short = trimmed hs k v (c.reached k kept) leads in
              let all = short.0 ++ x ∷ [] in
              kept_moves k kept
              (walks_to (length all) k u (c.reached k kept) (Kept k kept) all (omega arith) (makes_join short.0 (x ∷ []) k v u short.1 (t, u, turn, refl)) (among_last x short.0))

          never : (k : W) → IsKept k → (Moves c x k → ⊥) → NeverMoves Turn has_turn x k
          never k kept none hs =
              let there = goes_from (length hs) k (c.reached k kept) (Kept k kept) hs (omega arith) in
              (there.0, there.1, not_true (has_turn x there.0) (λ t. none (moves there.0 there.1 t)))
            where
              last : (hs : List ℕ) (w v : W) → (u : W) × Leads Turn (hs ++ x ∷ []) w u → Leads Turn hs w v → (u : W) × Turn x v u
              last [] w v l same = (l.1.0, subst (λ z. Turn x z l.1.0) (sym same) l.1.1)
              last (h ∷ hs) w v l leads =
                  last hs leads.0 v (l.0, subst (λ z. Leads Turn (hs ++ x ∷ []) z l.0) (m.one h w l.1.0 leads.0 l.1.1 leads.1) l.1.2) leads.2

              moves : (v : W) → Leads Turn hs k v → has_turn x v ≡ true → Moves c x k
              moves v leads t =
                  let all = hs ++ x ∷ [] in
                  let turn = last hs k v (goes_from (length all) k (c.reached k kept) (Kept k kept) all (omega arith)) leads in
                  may_edges k kept hs v turn.0 leads t turn.1

        pub edges_show : EdgesShow c
        edges_show k kept x = record { may = edges_may x k; never = never x k kept }
