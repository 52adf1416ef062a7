-- Reading the lists of a class, one turn at a time, by the numbers that code counts with.
use Rattle.std.proofs.Common.{◌≡◌, ℕ, suc, ◌+◌, ◌-◌, ◌≤◌, ◌<◌, max, ◌||◌, Bool, true, false, List, [], ◌∷◌, ◌++◌, length, Ok, Err, ap, sym, ◌∙◌, arith}
use Rattle.std.specs.Prelude.{Result, MatchResult, if◌then◌else◌, map}
use Rattle.std.proofs.lemmas.List.{map-append}
use Rattle.sc_text.specs.declared.token.Terminal.TheVariants as terminal
use Rattle.sc_tree.specs.Plain.{Name, Declaration, Clause, Feature, Parent, Class}
use Rattle.sc_tree.specs.declared.expression.Name as code_name
use Rattle.sc_tree.specs.View.{name_of}
use Rattle.sc_tree.specs.Internal.Reading.Looks.{Wrong, ◌>>=◌}
use Rattle.sc_parse.specs.Reading.Looks.{Ahead, left, goes_on, Read, Taken, past, sees, skip, skip_semicolons, name, name_ahead, begins_expr}
use Rattle.sc_parse.specs.Reading.Types.{more_names}
use Rattle.sc_parse.specs.Reading.Assertions.{clause, clauses_from, clauses}
use Rattle.sc_parse.specs.Reading.Classes.{is_done, declaration, more_declarations, locals_from, locals, exports, feature, features_from, sections_from, sections, parent, parents_from, class, classes_from}
use Rattle.sc_parse.proofs.Faults.{Fails-bind, Fails-along}
use Rattle.sc_tree.proofs.ReadingSteps.{bind_ok, choose_true, choose_false}
use Rattle.sc_parse.specs.Reading.Reads.{Fails, Gives, Takes}
use Rattle.sc_parse.specs.declared.fault.ParseFault.{ParseFault}
use Rattle.sc_parse.specs.declared.fault.ParseFault.TheVariants as fault
use Rattle.sc_parse.proofs.Turns.{turns_of}

-- ---- lists that are made of what was read

pub Gives-made : {A X : Type 0} (view : X → A) (a : Read A) (r : Result X ParseFault) (x : A) (h : ℕ) (rest : Ahead) →
    MatchResult r (λ v. view v ≡ x) (λ e. e ≡ fault.OutOfMemory) → a ≡ Ok (x, h, rest) → Gives view a r rest
Gives-made view a (Ok v) x h rest e q = (h, rw e q)
Gives-made view a (Err e) x h rest p q = rw p tt

pub Takes-made : {A X : Type 0} (view : X → A) (a : Taken A) (r : Result X ParseFault) (x : A) (rest : Ahead) →
    MatchResult r (λ v. view v ≡ x) (λ e. e ≡ fault.OutOfMemory) → a ≡ Ok (x, rest) → Takes view a r rest
Takes-made view a (Ok v) x rest e q = rw e q
Takes-made view a (Err e) x rest p q = rw p tt

-- ---- names, formals, locals and parents

pub more_names_begin : (ts : Ahead) (found : List Name) → more_names (length ts.rest - 0) found ts ≡ more_names (left ts) found ts
more_names_begin ts found = ap (λ (f : ℕ). more_names f found ts) (turns_of ts)

abbrev pub next_more_names : ℕ → List Name → Name × Ahead → Taken (List Name)
next_more_names f found x = more_names f (found ++ x.0 ∷ []) x.1

module _ (n i : ℕ) (found : List Name) (ts : Ahead) where
  pub more_names_end : n ≤ i → more_names (n - i) found ts ≡ Ok (found, ts)
  unfolding more_names
  more_names_end p = let z : n - i ≡ 0 = omega arith in ap (λ (f : ℕ). more_names f found ts) z

  pub more_names_turn : i < n → more_names (n - i) found ts ≡ (if sees terminal.Comma ts then (name (past ts) >>= next_more_names (n - (i + 1)) found) else Ok (found, ts))
  unfolding more_names
  more_names_turn p = let z : n - i ≡ suc (n - (i + 1)) = omega arith in ap (λ (f : ℕ). more_names f found ts) z

  pub more_names_more : (b : Bool) (r : Ahead) (x : Name) (rest : Ahead) (xs : List Name) → i < n → b ≡ sees terminal.Comma ts → b ≡ true → r ≡ past ts → name r ≡ Ok (x, rest) →
      xs ≡ found ++ x ∷ [] → more_names (n - (i + 1)) xs rest ≡ more_names (n - i) found ts
  more_names_more b r x rest xs p q d w e u =
      ap (λ (xs : List Name). more_names (n - (i + 1)) xs rest) u
      ∙ sym (more_names_turn p ∙ choose_true (sees terminal.Comma ts) _ _ (sym q ∙ d) ∙ ap (λ (r : Ahead). name r >>= next_more_names (n - (i + 1)) found) (sym w) ∙ bind_ok _ _ (next_more_names (n - (i + 1)) found) e)

  pub more_names_none : (b : Bool) → i < n → b ≡ sees terminal.Comma ts → b ≡ false → more_names (n - i) found ts ≡ Ok (found, ts)
  more_names_none b p q d = more_names_turn p ∙ choose_false (sees terminal.Comma ts) _ _ (sym q ∙ d)

  pub more_names_fail : (b : Bool) (r : Ahead) (e : ParseFault) → i < n → b ≡ sees terminal.Comma ts → b ≡ true → r ≡ past ts → Fails (name r) e → Fails (more_names (n - i) found ts) e
  more_names_fail b r e p q d w f =
      Fails-along _ _ e (more_names_turn p ∙ choose_true (sees terminal.Comma ts) _ _ (sym q ∙ d) ∙ ap (λ (r : Ahead). name r >>= next_more_names (n - (i + 1)) found) (sym w))
      (Fails-bind (name r) (next_more_names (n - (i + 1)) found) e f)

pub declarations_begin : (ts : Ahead) (found : List Declaration) → more_declarations (length ts.rest - 0) found ts ≡ more_declarations (left ts) found ts
declarations_begin ts found = ap (λ (f : ℕ). more_declarations f found ts) (turns_of ts)

abbrev pub next_declarations : ℕ → List Declaration → List Declaration × Ahead → Taken (List Declaration)
next_declarations f found x = more_declarations f (found ++ x.0) x.1

module _ (n i : ℕ) (found : List Declaration) (ts : Ahead) where
  pub declarations_end : n ≤ i → more_declarations (n - i) found ts ≡ Ok (found, ts)
  unfolding more_declarations
  declarations_end p = let z : n - i ≡ 0 = omega arith in ap (λ (f : ℕ). more_declarations f found ts) z

  pub declarations_turn : i < n → more_declarations (n - i) found ts ≡ (if sees terminal.Semicolon ts || name_ahead ts then (declaration (skip terminal.Semicolon ts) >>= next_declarations (n - (i + 1)) found) else Ok (found, ts))
  unfolding more_declarations
  declarations_turn p = let z : n - i ≡ suc (n - (i + 1)) = omega arith in ap (λ (f : ℕ). more_declarations f found ts) z

  pub declarations_more : (b : Bool) (r : Ahead) (x : List Declaration) (rest : Ahead) (xs : List Declaration) → i < n → b ≡ sees terminal.Semicolon ts || name_ahead ts → b ≡ true → r ≡ skip terminal.Semicolon ts → declaration r ≡ Ok (x, rest) →
      xs ≡ found ++ x → more_declarations (n - (i + 1)) xs rest ≡ more_declarations (n - i) found ts
  declarations_more b r x rest xs p q d w e u =
      ap (λ (xs : List Declaration). more_declarations (n - (i + 1)) xs rest) u
      ∙ sym (declarations_turn p ∙ choose_true (sees terminal.Semicolon ts || name_ahead ts) _ _ (sym q ∙ d) ∙ ap (λ (r : Ahead). declaration r >>= next_declarations (n - (i + 1)) found) (sym w) ∙ bind_ok _ _ (next_declarations (n - (i + 1)) found) e)

  pub declarations_none : (b : Bool) → i < n → b ≡ sees terminal.Semicolon ts || name_ahead ts → b ≡ false → more_declarations (n - i) found ts ≡ Ok (found, ts)
  declarations_none b p q d = declarations_turn p ∙ choose_false (sees terminal.Semicolon ts || name_ahead ts) _ _ (sym q ∙ d)

  pub declarations_fail : (b : Bool) (r : Ahead) (e : ParseFault) → i < n → b ≡ sees terminal.Semicolon ts || name_ahead ts → b ≡ true → r ≡ skip terminal.Semicolon ts →
      Fails (declaration r) e → Fails (more_declarations (n - i) found ts) e
  declarations_fail b r e p q d w f =
      Fails-along _ _ e
      (declarations_turn p ∙ choose_true (sees terminal.Semicolon ts || name_ahead ts) _ _ (sym q ∙ d) ∙ ap (λ (r : Ahead). declaration r >>= next_declarations (n - (i + 1)) found) (sym w))
      (Fails-bind (declaration r) (next_declarations (n - (i + 1)) found) e f)

pub locals_begin : (ts : Ahead) (before : Ahead) (found : List Declaration) (b : Bool) → b ≡ sees terminal.Local before → b ≡ true → ts ≡ past before → found ≡ [] →
    locals_from (length ts.rest - 0) found ts ≡ locals before
unfolding locals
locals_begin ts before found b p q r e =
    ap (λ (f : ℕ). locals_from f found ts) (turns_of ts) ∙ ap (λ (ds : List Declaration). locals_from (left ts) ds ts) e ∙ ap (λ (ts : Ahead). locals_from (left ts) [] ts) r
    ∙ sym (choose_true (sees terminal.Local before) _ _ (sym p ∙ q))

pub locals_absent : (before : Ahead) (found : List Declaration) (b : Bool) → b ≡ sees terminal.Local before → b ≡ false → found ≡ [] → locals before ≡ Ok (found, before)
unfolding locals
locals_absent before found b p q e = choose_false (sees terminal.Local before) _ _ (sym p ∙ q) ∙ ap (λ (ds : List Declaration). Ok (ds, before)) (sym e)

abbrev pub next_locals : ℕ → List Declaration → List Declaration × Ahead → Taken (List Declaration)
next_locals f found x = locals_from f (found ++ x.0) (skip terminal.Semicolon x.1)

module _ (n i : ℕ) (found : List Declaration) (ts : Ahead) where
  pub locals_end : n ≤ i → locals_from (n - i) found ts ≡ Ok (found, ts)
  unfolding locals_from
  locals_end p = let z : n - i ≡ 0 = omega arith in ap (λ (f : ℕ). locals_from f found ts) z

  pub locals_turn : i < n → locals_from (n - i) found ts ≡ (if name_ahead ts then (declaration ts >>= next_locals (n - (i + 1)) found) else Ok (found, ts))
  unfolding locals_from
  locals_turn p = let z : n - i ≡ suc (n - (i + 1)) = omega arith in ap (λ (f : ℕ). locals_from f found ts) z

  pub locals_more : (b : Bool) (x : List Declaration) (rest next : Ahead) (xs : List Declaration) → i < n → b ≡ name_ahead ts → b ≡ true → declaration ts ≡ Ok (x, rest) →
      xs ≡ found ++ x → next ≡ skip terminal.Semicolon rest → locals_from (n - (i + 1)) xs next ≡ locals_from (n - i) found ts
  locals_more b x rest next xs p q d e u v =
      ap (λ (xs : List Declaration). locals_from (n - (i + 1)) xs next) u ∙ ap (λ (r : Ahead). locals_from (n - (i + 1)) (found ++ x) r) v
      ∙ sym (locals_turn p ∙ choose_true (name_ahead ts) _ _ (sym q ∙ d) ∙ bind_ok _ _ (next_locals (n - (i + 1)) found) e)

  pub locals_none : (b : Bool) → i < n → b ≡ name_ahead ts → b ≡ false → locals_from (n - i) found ts ≡ Ok (found, ts)
  locals_none b p q d = locals_turn p ∙ choose_false (name_ahead ts) _ _ (sym q ∙ d)

  pub locals_fail : (b : Bool) (e : ParseFault) → i < n → b ≡ name_ahead ts → b ≡ true → Fails (declaration ts) e → Fails (locals_from (n - i) found ts) e
  locals_fail b e p q d f =
      Fails-along _ _ e (locals_turn p ∙ choose_true (name_ahead ts) _ _ (sym q ∙ d)) (Fails-bind (declaration ts) (next_locals (n - (i + 1)) found) e f)

pub parents_begin : (ts : Ahead) (x : Parent) (found : List Parent) (r : Ahead) → found ≡ x ∷ [] → r ≡ skip terminal.Semicolon ts →
    parents_from (length ts.rest - 0) found r ≡ parents_from (left ts) (x ∷ []) (skip terminal.Semicolon ts)
parents_begin ts x found r e q =
    ap (λ (f : ℕ). parents_from f found r) (turns_of ts) ∙ ap (λ (ps : List Parent). parents_from (left ts) ps r) e ∙ ap (λ (r : Ahead). parents_from (left ts) (x ∷ []) r) q

abbrev pub next_parents : ℕ → List Parent → Parent × Ahead → Taken (List Parent)
next_parents f found x = parents_from f (found ++ x.0 ∷ []) (skip terminal.Semicolon x.1)

module _ (n i : ℕ) (found : List Parent) (ts : Ahead) where
  pub parents_end : n ≤ i → parents_from (n - i) found ts ≡ Ok (found, ts)
  unfolding parents_from
  parents_end p = let z : n - i ≡ 0 = omega arith in ap (λ (f : ℕ). parents_from f found ts) z

  pub parents_turn : i < n → parents_from (n - i) found ts ≡ (if name_ahead ts then (parent ts >>= next_parents (n - (i + 1)) found) else Ok (found, ts))
  unfolding parents_from
  parents_turn p = let z : n - i ≡ suc (n - (i + 1)) = omega arith in ap (λ (f : ℕ). parents_from f found ts) z

  pub parents_more : (b : Bool) (x : Parent) (rest next : Ahead) (xs : List Parent) → i < n → b ≡ name_ahead ts → b ≡ true → parent ts ≡ Ok (x, rest) →
      xs ≡ found ++ x ∷ [] → next ≡ skip terminal.Semicolon rest → parents_from (n - (i + 1)) xs next ≡ parents_from (n - i) found ts
  parents_more b x rest next xs p q d e u v =
      ap (λ (xs : List Parent). parents_from (n - (i + 1)) xs next) u ∙ ap (λ (r : Ahead). parents_from (n - (i + 1)) (found ++ x ∷ []) r) v
      ∙ sym (parents_turn p ∙ choose_true (name_ahead ts) _ _ (sym q ∙ d) ∙ bind_ok _ _ (next_parents (n - (i + 1)) found) e)

  pub parents_none : (b : Bool) → i < n → b ≡ name_ahead ts → b ≡ false → parents_from (n - i) found ts ≡ Ok (found, ts)
  parents_none b p q d = parents_turn p ∙ choose_false (name_ahead ts) _ _ (sym q ∙ d)

  pub parents_fail : (b : Bool) (e : ParseFault) → i < n → b ≡ name_ahead ts → b ≡ true → Fails (parent ts) e → Fails (parents_from (n - i) found ts) e
  parents_fail b e p q d f =
      Fails-along _ _ e (parents_turn p ∙ choose_true (name_ahead ts) _ _ (sym q ∙ d)) (Fails-bind (parent ts) (next_parents (n - (i + 1)) found) e f)

-- ---- features of one section

pub features_begin : (room : ℕ) (es : List Name) (ts : Ahead) (found : List Feature) (high : ℕ) →
    features_from room es (length ts.rest - 0) found high ts ≡ features_from room es (left ts) found high ts
features_begin room es ts found high = ap (λ (f : ℕ). features_from room es f found high ts) (turns_of ts)

abbrev pub next_features : ℕ → (List Name) → ℕ → List Feature → ℕ → List Feature × ℕ × Ahead → Read (List Feature)
next_features room es f found high x = features_from room es f (found ++ x.0) (max high x.1) (skip_semicolons x.2)

module _ (room : ℕ) (es : List Name) (n i : ℕ) (found : List Feature) (high : ℕ) (ts : Ahead) where
  pub features_end : n ≤ i → features_from room es (n - i) found high ts ≡ Ok (found, high, ts)
  unfolding features_from
  features_end p = let z : n - i ≡ 0 = omega arith in ap (λ (f : ℕ). features_from room es f found high ts) z

  pub features_turn : i < n → features_from room es (n - i) found high ts ≡ (if name_ahead ts then (feature room es ts >>= next_features room es (n - (i + 1)) found high) else Ok (found, high, ts))
  unfolding features_from
  features_turn p = let z : n - i ≡ suc (n - (i + 1)) = omega arith in ap (λ (f : ℕ). features_from room es f found high ts) z

  pub features_more : (b : Bool) (x : List Feature) (h : ℕ) (rest next : Ahead) (xs : List Feature) → i < n → b ≡ name_ahead ts → b ≡ true → feature room es ts ≡ Ok (x, h, rest) →
      xs ≡ found ++ x → next ≡ skip_semicolons rest → features_from room es (n - (i + 1)) xs (max high h) next ≡ features_from room es (n - i) found high ts
  features_more b x h rest next xs p q d e u v =
      ap (λ (xs : List Feature). features_from room es (n - (i + 1)) xs (max high h) next) u ∙ ap (λ (r : Ahead). features_from room es (n - (i + 1)) (found ++ x) (max high h) r) v
      ∙ sym (features_turn p ∙ choose_true (name_ahead ts) _ _ (sym q ∙ d) ∙ bind_ok _ _ (next_features room es (n - (i + 1)) found high) e)

module _ (room : ℕ) (es : List Name) (n i : ℕ) (found : List Feature) (high : ℕ) (ts : Ahead) where
  pub features_none : (b : Bool) → i < n → b ≡ name_ahead ts → b ≡ false → features_from room es (n - i) found high ts ≡ Ok (found, high, ts)
  features_none b p q d = features_turn room es n i found high ts p ∙ choose_false (name_ahead ts) _ _ (sym q ∙ d)

  pub features_fail : (b : Bool) (e : ParseFault) → i < n → b ≡ name_ahead ts → b ≡ true → Fails (feature room es ts) e → Fails (features_from room es (n - i) found high ts) e
  features_fail b e p q d f =
      Fails-along _ _ e (features_turn room es n i found high ts p ∙ choose_true (name_ahead ts) _ _ (sym q ∙ d)) (Fails-bind (feature room es ts) (next_features room es (n - (i + 1)) found high) e f)

-- ---- sections

abbrev pub next_sections : ℕ → ℕ → List Feature × ℕ × Ahead → Read (List Feature)
next_sections room f x = sections_from room f x.0 x.1 x.2

-- the features that stand under one `feature`, and the sections after them
abbrev pub next_section : ℕ → ℕ → List Feature → ℕ → List Name × Ahead → Read (List Feature)
next_section room f found high es = features_from room es.0 (left es.1) found high es.1 >>= next_sections room f

pub sections_begin : (room : ℕ) (ts : Ahead) (found : List Feature) → found ≡ [] → sections_from room (length ts.rest - 0) found 0 ts ≡ sections room ts
unfolding sections
sections_begin room ts found e =
    ap (λ (f : ℕ). sections_from room f found 0 ts) (turns_of ts) ∙ ap (λ (fs : List Feature). sections_from room (left ts) fs 0 ts) e

module _ (room n i : ℕ) (found : List Feature) (high : ℕ) (ts : Ahead) where
  pub sections_end : n ≤ i → sections_from room (n - i) found high ts ≡ Ok (found, high, ts)
  unfolding sections_from
  sections_end p = let z : n - i ≡ 0 = omega arith in ap (λ (f : ℕ). sections_from room f found high ts) z

  pub sections_turn : i < n → sections_from room (n - i) found high ts ≡ (if sees terminal.Feature ts then (exports (past ts) >>= next_section room (n - (i + 1)) found high) else Ok (found, high, ts))
  unfolding sections_from
  sections_turn p = let z : n - i ≡ suc (n - (i + 1)) = omega arith in ap (λ (f : ℕ). sections_from room f found high ts) z

  pub sections_none : (b : Bool) → i < n → b ≡ sees terminal.Feature ts → b ≡ false → sections_from room (n - i) found high ts ≡ Ok (found, high, ts)
  sections_none b p q d = sections_turn p ∙ choose_false (sees terminal.Feature ts) _ _ (sym q ∙ d)

  sections_some : (b : Bool) (r : Ahead) → i < n → b ≡ sees terminal.Feature ts → b ≡ true → r ≡ past ts → sections_from room (n - i) found high ts ≡ (exports r >>= next_section room (n - (i + 1)) found high)
  sections_some b r p q d w =
      sections_turn p ∙ choose_true (sees terminal.Feature ts) _ _ (sym q ∙ d) ∙ ap (λ (r : Ahead). exports r >>= next_section room (n - (i + 1)) found high) (sym w)

  pub exports_fail : (b : Bool) (r : Ahead) (e : ParseFault) → i < n → b ≡ sees terminal.Feature ts → b ≡ true → r ≡ past ts → Fails (exports r) e → Fails (sections_from room (n - i) found high ts) e
  exports_fail b r e p q d w f = Fails-along _ _ e (sections_some b r p q d w) (Fails-bind (exports r) (next_section room (n - (i + 1)) found high) e f)

  sections_under : (b : Bool) (r : Ahead) (es : List Name) (s : Ahead) → i < n → b ≡ sees terminal.Feature ts → b ≡ true → r ≡ past ts → exports r ≡ Ok (es, s) →
      sections_from room (n - i) found high ts ≡ (features_from room es (left s) found high s >>= next_sections room (n - (i + 1)))
  sections_under b r es s p q d w v = sections_some b r p q d w ∙ bind_ok _ _ (next_section room (n - (i + 1)) found high) v

  pub sections_fail : (b : Bool) (r : Ahead) (es : List Name) (s : Ahead) (e : ParseFault) → i < n → b ≡ sees terminal.Feature ts → b ≡ true → r ≡ past ts → exports r ≡ Ok (es, s) →
      Fails (features_from room es (left s) found high s) e → Fails (sections_from room (n - i) found high ts) e
  sections_fail b r es s e p q d w v f =
      Fails-along _ _ e (sections_under b r es s p q d w v) (Fails-bind (features_from room es (left s) found high s) (next_sections room (n - (i + 1))) e f)

  pub sections_more : (b : Bool) (r : Ahead) (es : List Name) (s : Ahead) (x : List Feature) (h : ℕ) (rest : Ahead) → i < n → b ≡ sees terminal.Feature ts → b ≡ true → r ≡ past ts → exports r ≡ Ok (es, s) →
      features_from room es (left s) found high s ≡ Ok (x, h, rest) → sections_from room (n - (i + 1)) x h rest ≡ sections_from room (n - i) found high ts
  sections_more b r es s x h rest p q d w v e = sym (sections_under b r es s p q d w v ∙ bind_ok _ _ (next_sections room (n - (i + 1))) e)

-- ---- clauses

abbrev pub next_clauses : ℕ → ℕ → List Clause → ℕ → Clause × ℕ × Ahead → Read (List Clause)
next_clauses room f found high x = if goes_on x.2 then Err Wrong else clauses_from room f (found ++ x.0 ∷ []) (max high x.1) (skip_semicolons x.2)

pub clauses_begin : (room : ℕ) (ts : Ahead) (before : Ahead) (found : List Clause) → ts ≡ skip_semicolons before → found ≡ [] →
    clauses_from room (length ts.rest - 0) found 0 ts ≡ clauses room before
unfolding clauses
clauses_begin room ts before found q e =
    ap (λ (f : ℕ). clauses_from room f found 0 ts) (turns_of ts) ∙ ap (λ (r : Ahead). clauses_from room (left r) found 0 r) q
    ∙ ap (λ (xs : List Clause). clauses_from room (left (skip_semicolons before)) xs 0 (skip_semicolons before)) e

module _ (room n i : ℕ) (found : List Clause) (high : ℕ) (ts : Ahead) where
  pub clauses_end : n ≤ i → clauses_from room (n - i) found high ts ≡ Ok (found, high, ts)
  unfolding clauses_from
  clauses_end p = let z : n - i ≡ 0 = omega arith in ap (λ (f : ℕ). clauses_from room f found high ts) z

  pub clauses_turn : i < n → clauses_from room (n - i) found high ts ≡ (if begins_expr ts then (clause room ts >>= next_clauses room (n - (i + 1)) found high) else Ok (found, high, ts))
  unfolding clauses_from
  clauses_turn p = let z : n - i ≡ suc (n - (i + 1)) = omega arith in ap (λ (f : ℕ). clauses_from room f found high ts) z

  pub clauses_more : (b : Bool) (x : Clause) (h : ℕ) (rest after : Ahead) (g : Bool) (xs : List Clause) → i < n → b ≡ begins_expr ts → b ≡ true → clause room ts ≡ Ok (x, h, rest) →
      g ≡ goes_on rest → g ≡ false → xs ≡ found ++ x ∷ [] → after ≡ skip_semicolons rest → clauses_from room (n - (i + 1)) xs (max high h) after ≡ clauses_from room (n - i) found high ts
  clauses_more b x h rest after g xs p q d e o l u v =
      ap (λ (xs : List Clause). clauses_from room (n - (i + 1)) xs (max high h) after) u ∙ ap (λ (r : Ahead). clauses_from room (n - (i + 1)) (found ++ x ∷ []) (max high h) r) v
      ∙ sym (clauses_turn p ∙ choose_true (begins_expr ts) _ _ (sym q ∙ d) ∙ bind_ok _ _ (next_clauses room (n - (i + 1)) found high) e ∙ choose_false (goes_on rest) _ _ (sym o ∙ l))

  pub clauses_none : (b : Bool) → i < n → b ≡ begins_expr ts → b ≡ false → clauses_from room (n - i) found high ts ≡ Ok (found, high, ts)
  clauses_none b p q d = clauses_turn p ∙ choose_false (begins_expr ts) _ _ (sym q ∙ d)

  clauses_some : (b : Bool) → i < n → b ≡ begins_expr ts → b ≡ true → clauses_from room (n - i) found high ts ≡ (clause room ts >>= next_clauses room (n - (i + 1)) found high)
  clauses_some b p q d = clauses_turn p ∙ choose_true (begins_expr ts) _ _ (sym q ∙ d)

  pub clauses_fail : (b : Bool) (e : ParseFault) → i < n → b ≡ begins_expr ts → b ≡ true → Fails (clause room ts) e → Fails (clauses_from room (n - i) found high ts) e
  clauses_fail b e p q d f = Fails-along _ _ e (clauses_some b p q d) (Fails-bind (clause room ts) (next_clauses room (n - (i + 1)) found high) e f)

  pub clauses_wrong : (b : Bool) (x : Clause) (h : ℕ) (rest : Ahead) (g : Bool) → i < n → b ≡ begins_expr ts → b ≡ true → clause room ts ≡ Ok (x, h, rest) → g ≡ goes_on rest → g ≡ true →
      clauses_from room (n - i) found high ts ≡ Err Wrong
  clauses_wrong b x h rest g p q d e o l =
      clauses_some b p q d ∙ bind_ok _ _ (next_clauses room (n - (i + 1)) found high) e ∙ choose_true (goes_on rest) _ _ (sym o ∙ l)

-- ---- classes

abbrev pub next_classes : ℕ → ℕ → List Class → ℕ → Class × ℕ × Ahead → Read (List Class)
next_classes room f found high x = classes_from room f (found ++ x.0 ∷ []) (max high x.1) x.2

pub classes_begin : (room : ℕ) (ts : Ahead) (found : List Class) (high : ℕ) →
    classes_from room (length ts.rest - 0) found high ts ≡ classes_from room (left ts) found high ts
classes_begin room ts found high = ap (λ (f : ℕ). classes_from room f found high ts) (turns_of ts)

module _ (room n i : ℕ) (found : List Class) (high : ℕ) (ts : Ahead) where
  pub classes_end : n ≤ i → classes_from room (n - i) found high ts ≡ Ok (found, high, ts)
  unfolding classes_from
  classes_end p = let z : n - i ≡ 0 = omega arith in ap (λ (f : ℕ). classes_from room f found high ts) z

  pub classes_turn : i < n → classes_from room (n - i) found high ts ≡ (if is_done ts then Ok (found, high, ts) else (class room ts >>= next_classes room (n - (i + 1)) found high))
  unfolding classes_from
  classes_turn p = let z : n - i ≡ suc (n - (i + 1)) = omega arith in ap (λ (f : ℕ). classes_from room f found high ts) z

  pub classes_more : (b : Bool) (x : Class) (h : ℕ) (rest : Ahead) (xs : List Class) → i < n → b ≡ is_done ts → b ≡ false → class room ts ≡ Ok (x, h, rest) →
      xs ≡ found ++ x ∷ [] → classes_from room (n - (i + 1)) xs (max high h) rest ≡ classes_from room (n - i) found high ts
  classes_more b x h rest xs p q d e u =
      ap (λ (xs : List Class). classes_from room (n - (i + 1)) xs (max high h) rest) u
      ∙ sym (classes_turn p ∙ choose_false (is_done ts) _ _ (sym q ∙ d) ∙ bind_ok _ _ (next_classes room (n - (i + 1)) found high) e)

  pub classes_none : (b : Bool) → i < n → b ≡ is_done ts → b ≡ true → classes_from room (n - i) found high ts ≡ Ok (found, high, ts)
  classes_none b p q d = classes_turn p ∙ choose_true (is_done ts) _ _ (sym q ∙ d)

  pub classes_fail : (b : Bool) (e : ParseFault) → i < n → b ≡ is_done ts → b ≡ false → Fails (class room ts) e → Fails (classes_from room (n - i) found high ts) e
  classes_fail b e p q d f =
      Fails-along _ _ e (classes_turn p ∙ choose_false (is_done ts) _ _ (sym q ∙ d)) (Fails-bind (class room ts) (next_classes room (n - (i + 1)) found high) e f)

-- ---- lists in memory

-- one more name, and one more of what each name becomes
pub named_push : {A C : Type 0} (g : C → A) (k : Name → A) (cs : List C) (ns : List code_name.Name) (c : C) (x : code_name.Name) →
    map g cs ≡ map k (map name_of ns) → g c ≡ k (name_of x) → map g (cs ++ c ∷ []) ≡ map k (map name_of (ns ++ x ∷ []))
named_push {A} g k cs ns c x h e =
    map-append g cs (c ∷ []) ∙ ap (λ (l : List A). l ++ g c ∷ []) h ∙ ap (λ (a : A). map k (map name_of ns) ++ a ∷ []) e
    ∙ sym (ap (map k) (map-append name_of ns (x ∷ [])) ∙ map-append k (map name_of ns) (name_of x ∷ []))
