-- What reading gives, the tokens spell: classes.
use Rattle.std.proofs.Common.{◌≡◌, ℕ, zero, suc, max, Bool, true, false, List, [], ◌∷◌, ◌++◌, length, Option, None, refl, ap, sym, ◌∙◌, subst, append_assoc, append-nil, arith, ◌⊎◌, inl, inr}
use Rattle.std.specs.Prelude.{if◌then◌else◌, ◌||◌}
use Rattle.sc_text.specs.Kind.{Kind, NAME, TERMINAL}
use Rattle.sc_text.specs.declared.token.Terminal.TheVariants as terminal
use Rattle.sc_tree.specs.Plain.{Name, Parent, ClassMark, Class}
use Rattle.sc_tree.specs.Grammar as grammar
use Rattle.sc_tree.specs.Grammar.{class_of, heads_class, ends_class, IsOptional, IsFree, IsNote, IsMark, IsParent, IsParentList, IsParents, IsCreators, IsClass, IsClasses}
use Rattle.sc_tree.specs.Internal.Reading.{past, sees, skip, name_ahead, past_free, past_note, mark, parent, parents_from, parents, creators, is_done, class_marked, class, classes_from}
use Rattle.sc_tree.proofs.ReadingSteps.{Holds, holds, holds_then, holds_if, holds_also, Begins, Added, through}
use Rattle.sc_tree.proofs.Looks.{sees_is, expect_holds, name_holds, first_name}
use Rattle.sc_tree.proofs.Lists.{told, all_added, Unskipped, one_token, no_tokens, skipped_one}
use Rattle.sc_tree.proofs.SoundTypes.{sound_names, either}
use Rattle.sc_tree.proofs.SoundExpressions.{Sound}
use Rattle.sc_tree.proofs.SoundAssertions.{sound_assertion}
use Rattle.sc_tree.proofs.SoundFeatures.{sound_sections}

-- ---- classes

free_is : (stops : Kind → Bool) (ts : List Kind) → Unskipped (IsFree stops) ts (past_free stops ts)
free_is stops [] = no_tokens (IsFree stops) [] grammar.no_token
free_is stops (t ∷ ts) = go (stops t) refl (free_is stops ts)
  where
    go : (b : Bool) → stops t ≡ b → Unskipped (IsFree stops) ts (past_free stops ts) → Unskipped (IsFree stops) (t ∷ ts) (if b then t ∷ ts else past_free stops ts)
    go true e u = no_tokens (IsFree stops) (t ∷ ts) grammar.no_token
    go false e u = record { tokens = t ∷ u.tokens; same = ap (λ (ts : List Kind). t ∷ ts) u.same; is = grammar.token t e u.is }

note_is : (stops : Kind → Bool) (ts : List Kind) → Unskipped (IsNote stops) ts (past_note stops ts)
note_is stops ts = go (sees terminal.Note ts || sees terminal.Indexing ts) refl
  where
    u : Unskipped (IsFree stops) (past ts) (past_free stops (past ts))
    u = free_is stops (past ts)

    begun : (sees terminal.Note ts ≡ true) ⊎ (sees terminal.Indexing ts ≡ true) → Unskipped (IsNote stops) ts (past_free stops (past ts))
    begun (inl e) = record { tokens = TERMINAL terminal.Note ∷ u.tokens; same = sees_is terminal.Note ts e ∙ ap (λ (ts : List Kind). TERMINAL terminal.Note ∷ ts) u.same; is = grammar.note u.is }
    begun (inr e) = record { tokens = TERMINAL terminal.Indexing ∷ u.tokens; same = sees_is terminal.Indexing ts e ∙ ap (λ (ts : List Kind). TERMINAL terminal.Indexing ∷ ts) u.same; is = grammar.indexing u.is }

    go : (b : Bool) → (sees terminal.Note ts || sees terminal.Indexing ts) ≡ b → Unskipped (IsNote stops) ts (if b then past_free stops (past ts) else ts)
    go true e = begun (either _ _ e)
    go false e = no_tokens (IsNote stops) ts grammar.no_note

abbrev MarkedClass : List Kind → Option ClassMark × List Kind → Type 0
MarkedClass ts x = Unskipped (IsMark x.0) ts x.1

marked_class_if : (ts : List Kind) (b : Bool) (x y : Option ClassMark × List Kind) → (b ≡ true → MarkedClass ts x) → (b ≡ false → MarkedClass ts y) → MarkedClass ts (if b then x else y)
marked_class_if ts true x y p q = p refl
marked_class_if ts false x y p q = q refl

mark_is : (ts : List Kind) → MarkedClass ts (mark ts)
unfolding mark
mark_is ts =
    marked_class_if ts (sees terminal.Deferred ts) _ _ (λ e. one_token (IsMark _) terminal.Deferred ts e grammar.deferred) λ _.
    marked_class_if ts (sees terminal.Expanded ts) _ _ (λ e. one_token (IsMark _) terminal.Expanded ts e grammar.expanded) λ _.
    marked_class_if ts (sees terminal.Frozen ts) _ _ (λ e. one_token (IsMark _) terminal.Frozen ts e grammar.frozen) λ _. no_tokens (IsMark None) ts grammar.no_mark

abbrev parent_of : Name → List Name → Parent
parent_of x ns = record { name = x; redefined = ns }

sound_parent : (ts : List Kind) → Holds (Begins IsParent ts) (parent ts)
unfolding parent
sound_parent ts =
    holds_then _ (name_holds ts) λ x n.
    let y = first_name ts x n in
    holds_if (sees terminal.Redefine x.1) _ _
    (λ b. holds_then _ (sound_names (past x.1)) λ ns s. holds_then _ (expect_holds terminal.End ns.1) λ rest q.
    holds (record {
      tokens = NAME y.0 ∷ TERMINAL terminal.Redefine ∷ (s.tokens ++ TERMINAL terminal.End ∷ []);
      same = through ts (NAME y.0 ∷ []) x.1 (TERMINAL terminal.Redefine ∷ (s.tokens ++ TERMINAL terminal.End ∷ [])) rest y.1
          (through x.1 (TERMINAL terminal.Redefine ∷ []) (past x.1) (s.tokens ++ TERMINAL terminal.End ∷ []) rest (sees_is terminal.Redefine x.1 b) (through (past x.1) s.tokens ns.1 (TERMINAL terminal.End ∷ []) rest s.same q));
      is = subst (λ (n : Name). IsParent (parent_of n ns.0) (NAME y.0 ∷ TERMINAL terminal.Redefine ∷ (s.tokens ++ TERMINAL terminal.End ∷ []))) (sym y.2) (grammar.redefining y.0 s.is);
    }))
    (λ _. holds (record { tokens = NAME y.0 ∷ []; same = y.1; is = subst (λ (n : Name). IsParent (parent_of n []) (NAME y.0 ∷ [])) (sym y.2) (grammar.plain_parent y.0) }))

-- parents behind a first one and its semicolon
record ParentsAfter (found : List Parent) (ts : List Kind) (x : List Parent × List Kind) : Type 0 where
  pub more : List Parent
  pub tokens : List Kind
  pub same : ts ≡ tokens ++ x.1
  pub is : (p : Parent) (c s : List Kind) → IsParent p c → IsOptional terminal.Semicolon s → IsParentList (p ∷ more) (c ++ (s ++ tokens))
  pub joined : x.0 ≡ found ++ more

one_parent_alone : (p : Parent) (c s : List Kind) → IsParent p c → IsOptional terminal.Semicolon s → IsParentList (p ∷ []) (c ++ (s ++ []))
one_parent_alone p c s d o = subst (λ (s' : List Kind). IsParentList (p ∷ []) (c ++ s')) (sym (append-nil s)) (grammar.one_parent d o)

no_parent_after : (found : List Parent) (ts : List Kind) → ParentsAfter found ts (found, ts)
no_parent_after found ts = record { more = []; tokens = []; same = refl; is = one_parent_alone; joined = sym (append-nil found) }

sound_parents_from : (f : ℕ) (found : List Parent) (ts : List Kind) → Holds (ParentsAfter found ts) (parents_from f found ts)
unfolding parents_from
sound_parents_from zero found ts = holds (no_parent_after found ts)
sound_parents_from (suc f) found ts =
    holds_if (name_ahead ts) _ _
    (λ b. holds_then _ (sound_parent ts) λ p sp. holds_also (sound_parents_from f (found ++ p.0 ∷ []) (skip terminal.Semicolon p.1)) λ y a.
    let o = skipped_one terminal.Semicolon p.1 in
    record {
      more = p.0 ∷ a.more;
      tokens = sp.tokens ++ (o.tokens ++ a.tokens);
      same = through ts sp.tokens p.1 (o.tokens ++ a.tokens) y.1 sp.same (through p.1 o.tokens (skip terminal.Semicolon p.1) a.tokens y.1 o.same a.same);
      is = λ q c s d e. grammar.more_parents d e (a.is p.0 sp.tokens o.tokens sp.is o.is);
      joined = a.joined ∙ append_assoc found (p.0 ∷ []) a.more;
    })
    (λ _. holds (no_parent_after found ts))

sound_parents : (ts : List Kind) → Holds (Begins IsParents ts) (parents ts)
unfolding parents
sound_parents ts =
    holds_if (sees terminal.Inherit ts) _ _
    (λ b. holds_then _ (sound_parent (past ts)) λ p sp. holds_also (sound_parents_from (length p.1) (p.0 ∷ []) (skip terminal.Semicolon p.1)) λ y a.
    let o = skipped_one terminal.Semicolon p.1 in
    record {
      tokens = TERMINAL terminal.Inherit ∷ (sp.tokens ++ (o.tokens ++ a.tokens));
      same = through ts (TERMINAL terminal.Inherit ∷ []) (past ts) (sp.tokens ++ (o.tokens ++ a.tokens)) y.1 (sees_is terminal.Inherit ts b)
          (through (past ts) sp.tokens p.1 (o.tokens ++ a.tokens) y.1 sp.same (through p.1 o.tokens (skip terminal.Semicolon p.1) a.tokens y.1 o.same a.same));
      is = grammar.parents (subst (λ (ps : List Parent). IsParentList ps (sp.tokens ++ (o.tokens ++ a.tokens))) (sym a.joined) (a.is p.0 sp.tokens o.tokens sp.is o.is));
    })
    (λ _. holds (record { tokens = []; same = refl; is = grammar.no_parents }))

sound_creators : (ts : List Kind) → Holds (Begins IsCreators ts) (creators ts)
unfolding creators
sound_creators ts =
    holds_if (sees terminal.Create ts) _ _
    (λ b. holds_also (sound_names (past ts)) λ x s.
    record { tokens = TERMINAL terminal.Create ∷ s.tokens; same = through ts (TERMINAL terminal.Create ∷ []) (past ts) s.tokens x.1 (sees_is terminal.Create ts b) s.same; is = grammar.creators s.is })
    (λ _. holds (record { tokens = []; same = refl; is = grammar.no_creator }))

sound_class_marked : (room : ℕ) (m : Option ClassMark) (cn cm ts0 ts : List Kind) → IsNote heads_class cn → IsMark m cm → ts0 ≡ cn ++ (cm ++ ts) → Sound IsClass ts0 (class_marked room m ts)
unfolding class_marked
sound_class_marked room m cn cm ts0 ts dn dm e =
    holds_then _ (expect_holds terminal.Class ts) λ r q. holds_then _ (name_holds r) λ x n. holds_then _ (sound_parents x.1) λ ps sp. holds_then _ (sound_creators ps.1) λ ns sn.
    holds_then _ (sound_sections room ns.1) λ fs sf. holds_then _ (sound_assertion room terminal.Invariant fs.2) λ is si. holds_then _ (expect_holds terminal.End (past_note ends_class is.2)) λ rest d.
    let y = first_name r x n in
    let u = note_is ends_class is.2 in
    let tail_same = through ts (TERMINAL terminal.Class ∷ NAME y.0 ∷ []) x.1 (sp.tokens ++ (sn.tokens ++ (sf.tokens ++ (si.tokens ++ (u.tokens ++ TERMINAL terminal.End ∷ []))))) rest (q ∙ ap (λ (r : List Kind). TERMINAL terminal.Class ∷ r) y.1)
    (through x.1 sp.tokens ps.1 (sn.tokens ++ (sf.tokens ++ (si.tokens ++ (u.tokens ++ TERMINAL terminal.End ∷ [])))) rest sp.same
    (through ps.1 sn.tokens ns.1 (sf.tokens ++ (si.tokens ++ (u.tokens ++ TERMINAL terminal.End ∷ []))) rest sn.same
    (through ns.1 sf.tokens fs.2 (si.tokens ++ (u.tokens ++ TERMINAL terminal.End ∷ [])) rest sf.same
    (through fs.2 si.tokens is.2 (u.tokens ++ TERMINAL terminal.End ∷ []) rest si.same (through is.2 u.tokens (past_note ends_class is.2) (TERMINAL terminal.End ∷ []) rest u.same d))))) in
    holds (record {
      tokens = cn ++ (cm ++ TERMINAL terminal.Class ∷ NAME y.0 ∷ (sp.tokens ++ (sn.tokens ++ (sf.tokens ++ (si.tokens ++ (u.tokens ++ TERMINAL terminal.End ∷ []))))));
      same = through ts0 cn (cm ++ ts) (cm ++ TERMINAL terminal.Class ∷ NAME y.0 ∷ (sp.tokens ++ (sn.tokens ++ (sf.tokens ++ (si.tokens ++ (u.tokens ++ TERMINAL terminal.End ∷ [])))))) rest e
          (through (cm ++ ts) cm ts (TERMINAL terminal.Class ∷ NAME y.0 ∷ (sp.tokens ++ (sn.tokens ++ (sf.tokens ++ (si.tokens ++ (u.tokens ++ TERMINAL terminal.End ∷ [])))))) rest refl tail_same);
      is = told IsClass _ _ _ _ _ (ap (λ (n : Name). class_of m n ps.0 ns.0 fs.0 is.0) (sym y.2)) refl (grammar.class y.0 dn dm sp.is sn.is sf.is si.is u.is);
    })

sound_class : (room : ℕ) (ts : List Kind) → Sound IsClass ts (class room ts)
unfolding class
sound_class room ts =
    let u = note_is heads_class ts in
    let m = mark_is (past_note heads_class ts) in
    sound_class_marked room (mark (past_note heads_class ts)).0 u.tokens m.tokens ts (mark (past_note heads_class ts)).1 u.is m.is (u.same ∙ ap (λ (r : List Kind). u.tokens ++ r) m.same)

no_class_added : (found : List Class) (high : ℕ) (ts : List Kind) → Added ◌++◌ IsClasses found high ts (found, high, ts)
no_class_added found high ts = record { more = []; tokens = []; nesting = 0; same = refl; is = grammar.no_class; joined = sym (append-nil found); highest = omega arith }

sound_classes_from : (room f : ℕ) (found : List Class) (high : ℕ) (ts : List Kind) → Holds (Added ◌++◌ IsClasses found high ts) (classes_from room f found high ts)
unfolding classes_from
sound_classes_from room zero found high ts = holds (no_class_added found high ts)
sound_classes_from room (suc f) found high ts =
    holds_if (is_done ts) _ _ (λ _. holds (no_class_added found high ts)) λ _.
    holds_then _ (sound_class room ts) λ x s. holds_also (sound_classes_from room f (found ++ x.0 ∷ []) (max high x.1) x.2) λ y a.
    record {
      more = x.0 ∷ a.more;
      tokens = s.tokens ++ a.tokens;
      nesting = max x.1 a.nesting;
      same = through ts s.tokens x.2 a.tokens y.2 s.same a.same;
      is = grammar.another s.is a.is;
      joined = a.joined ∙ append_assoc found (x.0 ∷ []) a.more;
      highest = omega (arith, a.highest);
    }

pub sound_classes : (room : ℕ) (ts : List Kind) → Sound IsClasses ts (classes_from room (length ts) [] 0 ts)
sound_classes room ts = holds_also (sound_classes_from room (length ts) [] 0 ts) λ x a. all_added ◌++◌ IsClasses [] (λ xs. refl) ts x a
