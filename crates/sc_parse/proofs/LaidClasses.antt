-- Places of classes and systems, as a function of the tree without them and of the kept tokens. So tokens leave only
-- one tree with its places.
use Rattle.std.proofs.Common.{◌≡◌, Bool, true, false, List, [], ◌∷◌, Option, Some, None, refl, ap, sym, ◌∙◌, map}
use Rattle.std.specs.Prelude.{if◌then◌else◌}
use Rattle.sc_text.specs.Kind.{Kind, TERMINAL}
use Rattle.sc_text.specs.Spelling.{Lexeme}
use Rattle.sc_text.specs.declared.token.Span.{Span}
use Rattle.sc_text.specs.declared.token.Terminal.{Terminal}
use Rattle.sc_text.specs.declared.token.Terminal.TheVariants as terminal
use Rattle.sc_tree.specs.Grammar.Classes.{heads_class, ends_class}
use Rattle.sc_tree.specs.Plain.{Name, Clause, Parent, ClassMark, Deferred, Expanded, Frozen, Class, System}
use Rattle.sc_tree.specs.Bare.{bare_name, bare_clause, bare_parent, bare_mark, bare_class, bare_system}
use Rattle.sc_tree.proofs.ReadingSteps.{choose_true, choose_false}
use Rattle.sc_tree.proofs.Whole.{one_system}
use Rattle.sc_parse.specs.Laws.{OnePlacedTree}
use Rattle.sc_parse.specs.Places as places
use Rattle.sc_parse.specs.Places.{Point, begin, between, IsToken, IsWord, IsRow, AreParts, IsOne, IsPlacedName, ArePlacedNames, one_name, more_names, IsPlacedAssertion, IsPlacedSection, AreFree, no_token, token, IsPlacedNote, IsPlacedMark, IsPlacedParent, ArePlacedParents, ArePlacedCreators, IsPlacedClass, IsPlaced, placed}
use Rattle.sc_parse.specs.Reading.Classes.{class_of}
use Rattle.sc_parse.proofs.KeptTokens.{is_left_out, leaves_out, Kept, kept, ahead, kept_token, kept_word, left_out, word_left_out, first, rest, rest_word, begins_with, begins_with_word, ends_with, span_is}
use Rattle.sc_parse.proofs.LaidInstructions.{next, next_is, laid_list, row_laid, parts_laid, laid_clauses, clauses_laid}
use Rattle.sc_parse.proofs.LaidFeatures.{laid_one_name, one_name_laid, laid_names, names_laid, laid_features, Finished, sections_laid}

-- ---- notes and marks

abbrev pub past_until : (Kind → Bool) → List Kept → List Kept
past_until stops [] = []
past_until stops (k ∷ ks) = if stops k.kind then k ∷ ks else past_until stops ks

past_token : (stops : Kind → Bool) (k : Kind) {s : Span} {p q : Point} (b : Bool) → is_left_out k ≡ b →
    IsToken k s p q → stops k ≡ false → past_until stops (ahead p) ≡ past_until stops (ahead q)
past_token stops k true l t e = ap (past_until stops) (left_out k t l)
past_token stops k false l t e = ap (past_until stops) (kept_token k t l) ∙ choose_false _ _ _ e

free_past : (stops : Kind → Bool) {p q : Point} → AreFree stops p q →
    past_until stops (ahead p) ≡ past_until stops (ahead q)
free_past stops no_token = refl
free_past stops (token {k} t e d) = past_token stops k (is_left_out k) refl t e ∙ free_past stops d

note_past : (stops : Kind → Bool) → stops (TERMINAL terminal.Note) ≡ false →
    stops (TERMINAL terminal.Indexing) ≡ false → {p q : Point} → IsPlacedNote stops p q →
    past_until stops (ahead p) ≡ past_until stops (ahead q)
note_past stops e f places.no_note = refl
note_past stops e f (places.note w d) = past_token stops (TERMINAL terminal.Note) false refl w.1 e ∙ free_past stops d
note_past stops e f (places.indexing w d) = past_token stops (TERMINAL terminal.Indexing) false refl w.1 f
    ∙ free_past stops d

stopped : (stops : Kind → Bool) (m : Terminal) {s : Span} {p q : Point} → IsToken (TERMINAL m) s p q →
    leaves_out m ≡ false → stops (TERMINAL m) ≡ true → past_until stops (ahead p) ≡ ahead p
stopped stops m t l e = ap (past_until stops) (kept_token (TERMINAL m) t l) ∙ choose_true _ _ _ e
    ∙ sym (kept_token (TERMINAL m) t l)

abbrev pub laid_mark : Option ClassMark → List Kept → Option ClassMark × List Kept
laid_mark None ks = (None, ks)
laid_mark (Some (Deferred s)) ks = (Some (Deferred (first ks)), rest ks)
laid_mark (Some (Expanded s)) ks = (Some (Expanded (first ks)), rest ks)
laid_mark (Some (Frozen s)) ks = (Some (Frozen (first ks)), rest ks)

mark_laid : {m : Option ClassMark} {p q : Point} → IsPlacedMark m p q →
    laid_mark (bare_mark m) (ahead p) ≡ (m, ahead q)
mark_laid places.no_mark = refl
mark_laid (places.deferred t) = ap (λ (ks : List Kept). (Some (Deferred (first ks)), rest ks)) (kept_token (TERMINAL terminal.Deferred) t refl)
mark_laid (places.expanded t) = ap (λ (ks : List Kept). (Some (Expanded (first ks)), rest ks)) (kept_token (TERMINAL terminal.Expanded) t refl)
mark_laid (places.frozen t) = ap (λ (ks : List Kept). (Some (Frozen (first ks)), rest ks)) (kept_token (TERMINAL terminal.Frozen) t refl)

mark_stops : {m : Option ClassMark} {p q r : Point} → IsPlacedMark m p q → IsWord terminal.Class q r →
    past_until heads_class (ahead p) ≡ ahead p
mark_stops places.no_mark w = stopped heads_class terminal.Class w.1 refl refl
mark_stops (places.deferred t) w = stopped heads_class terminal.Deferred t refl refl
mark_stops (places.expanded t) w = stopped heads_class terminal.Expanded t refl refl
mark_stops (places.frozen t) w = stopped heads_class terminal.Frozen t refl refl

mark_begins : {m : Option ClassMark} {p q r : Point} → IsPlacedMark m p q → IsWord terminal.Class q r →
    begin p ≡ (first (ahead p)).start
mark_begins places.no_mark w = begins_with_word terminal.Class w refl
mark_begins (places.deferred t) w = begins_with (TERMINAL terminal.Deferred) t refl
mark_begins (places.expanded t) w = begins_with (TERMINAL terminal.Expanded) t refl
mark_begins (places.frozen t) w = begins_with (TERMINAL terminal.Frozen) t refl

-- ---- parents and creators

abbrev pub laid_redefined : List Name → List Kept → List Name × List Kept
laid_redefined [] ks = ([], ks)
laid_redefined (x ∷ xs) ks = next (laid_names (x ∷ xs) (rest ks)) λ ns ls. (ns, rest ls)

redefined_laid : {xs : List Name} {p q r u : Point} → IsWord terminal.Redefine p q → ArePlacedNames xs q r →
    IsWord terminal.End r u → laid_redefined (map bare_name xs) (ahead p) ≡ (xs, ahead u)
redefined_laid {xs} w (one_name n) e =
    next_is _ (ap (laid_names (map bare_name xs)) (rest_word terminal.Redefine w refl) ∙ names_laid (one_name n)) (ap (λ (ks : List Kept). (xs, ks)) (rest_word terminal.End e refl))
redefined_laid {xs} w (more_names n c ns) e =
    next_is _ (ap (laid_names (map bare_name xs)) (rest_word terminal.Redefine w refl) ∙ names_laid (more_names n c ns)) (ap (λ (ks : List Kept). (xs, ks)) (rest_word terminal.End e refl))

abbrev pub laid_parent : Parent → List Kept → Parent × List Kept
laid_parent p ks = next (laid_one_name p.name ks) λ x ls. next (laid_redefined p.redefined ls) λ xs ms. (record { name = x; redefined = xs }, ms)

parent_laid : {x : Parent} {p q : Point} → IsPlacedParent x p q → laid_parent (bare_parent x) (ahead p) ≡ (x, ahead q)
parent_laid (places.plain_parent n) = next_is _ (one_name_laid n) (next_is _ refl refl)
parent_laid (places.redefining n w ns e) = next_is _ (one_name_laid n) (next_is _ (redefined_laid w ns e) refl)

abbrev pub laid_parents : List Parent → List Kept → List Parent × List Kept
laid_parents = laid_list laid_parent

parents_in_order : {xs : List Parent} {p q : Point} → ArePlacedParents xs p q →
    laid_parents (map bare_parent xs) (ahead p) ≡ (xs, ahead q)
parents_in_order places.no_parents = refl
parents_in_order (places.parents {ps} w d) =
    ap (laid_parents (map bare_parent ps)) (word_left_out terminal.Inherit w refl)
    ∙ row_laid terminal.Semicolon refl bare_parent laid_parent (λ x p q d. parent_laid d) d

abbrev pub laid_creators : List Name → List Kept → List Name × List Kept
laid_creators [] ks = ([], ks)
laid_creators (x ∷ xs) ks = laid_names (x ∷ xs) (rest ks)

creators_laid : {xs : List Name} {p q : Point} → ArePlacedCreators xs p q →
    laid_creators (map bare_name xs) (ahead p) ≡ (xs, ahead q)
creators_laid places.no_creator = refl
creators_laid (places.creators {xs} w (one_name n)) = ap (laid_names (map bare_name xs)) (rest_word terminal.Create w refl) ∙ names_laid (one_name n)
creators_laid (places.creators {xs} w (more_names n c ns)) = ap (laid_names (map bare_name xs)) (rest_word terminal.Create w refl) ∙ names_laid (more_names n c ns)

-- ---- invariants

abbrev pub is_invariant_word : Terminal → Bool
is_invariant_word terminal.Invariant = true
is_invariant_word _ = false

abbrev pub is_invariant : Kind → Bool
is_invariant (TERMINAL m) = is_invariant_word m
is_invariant _ = false

abbrev pub invariant_ahead : List Kept → Bool
invariant_ahead [] = false
invariant_ahead (k ∷ ks) = is_invariant k.kind

abbrev pub past_invariant : List Kept → List Kept
past_invariant ks = if invariant_ahead ks then rest ks else ks

end_plain : {p q r : Point} → IsPlacedNote ends_class p q → IsWord terminal.End q r →
    invariant_ahead (ahead p) ≡ false
end_plain places.no_note e = ap invariant_ahead (kept_word terminal.End e refl)
end_plain (places.note w d) e = ap invariant_ahead (kept_word terminal.Note w refl)
end_plain (places.indexing w d) e = ap invariant_ahead (kept_word terminal.Indexing w refl)

invariant_laid : {xs : List Clause} {p q r u : Point} → IsPlacedAssertion terminal.Invariant xs p q →
    IsPlacedNote ends_class q r → IsWord terminal.End r u →
    laid_clauses (map bare_clause xs) (past_invariant (ahead p)) ≡ (xs, ahead q)
invariant_laid places.no_assertion n e = ap (λ (ks : List Kept). ([], ks)) (choose_false _ _ _ (end_plain n e))
invariant_laid (places.assertion {xs} w d) n e =
    ap (laid_clauses (map bare_clause xs)) (choose_true _ _ _ (ap invariant_ahead (kept_word terminal.Invariant w refl)) ∙ rest_word terminal.Invariant w refl) ∙ clauses_laid d

features_finish : {xs : List Clause} {p q r u : Point} → IsPlacedAssertion terminal.Invariant xs p q →
    IsPlacedNote ends_class q r → IsWord terminal.End r u → Finished p
features_finish (places.assertion w d) n e = record { head = _; tail = _; split = kept_word terminal.Invariant w refl; plain = refl }
features_finish places.no_assertion (places.note w d) e = record { head = _; tail = _; split = kept_word terminal.Note w refl; plain = refl }
features_finish places.no_assertion (places.indexing w d) e = record { head = _; tail = _; split = kept_word terminal.Indexing w refl; plain = refl }
features_finish places.no_assertion places.no_note e = record { head = _; tail = _; split = kept_word terminal.End e refl; plain = refl }

-- ---- classes

-- a class, from the word before `class` on
abbrev pub class_at : Class → List Kept → Class × List Kept
class_at k ks =
    next (laid_mark k.mark ks) λ m k1. next (laid_one_name k.name (rest k1)) λ x k2. next (laid_parents k.parents k2) λ ps k3. next (laid_creators k.creators k3) λ ns k4.
    next (laid_features k.features [] k4) λ fs k5. next (laid_clauses k.invariant (past_invariant k5)) λ is k6.
    (class_of (record { start = (first ks).start; end = (first (past_until ends_class k6)).end }) m x ps ns fs is, rest (past_until ends_class k6))

abbrev pub laid_class : Class → List Kept → Class × List Kept
laid_class k ks = class_at k (past_until heads_class ks)

class_laid : {k : Class} {p q : Point} → IsPlacedClass k p q → laid_class (bare_class k) (ahead p) ≡ (k, ahead q)
class_laid (places.class {k} {q} {a} {b} {c} n m w x ps ns fs i f e s) =
    let h : past_until ends_class (ahead a) ≡ ahead b = note_past ends_class refl refl f
    ∙ stopped ends_class terminal.End e.1 refl refl in
    let t : k.span ≡ record { start = (first (ahead q)).start; end = (first (ahead b)).end } =
    span_is (ap (λ (s : Span). s.start) s ∙ mark_begins m w) (ap (λ (s : Span). s.end) s ∙ ends_with (TERMINAL terminal.End) e.1 refl) in
    ap (class_at (bare_class k)) (note_past heads_class refl refl n ∙ mark_stops m w)
    ∙ next_is _ (mark_laid m) (next_is _ (ap (laid_one_name (bare_name k.name)) (rest_word terminal.Class w refl) ∙ one_name_laid x) (next_is _ (parents_in_order ps) (next_is _ (creators_laid ns)
    (next_is _ (sections_laid fs (features_finish i f e) []) (next_is _ (invariant_laid i f e)
    (ap (λ (ks : List Kept). (class_of (record { start = (first (ahead q)).start; end = (first ks).end }) k.mark k.name k.parents k.creators k.features k.invariant, rest ks)) h
    ∙ ap (λ (z : Span). (class_of z k.mark k.name k.parents k.creators k.features k.invariant, rest (ahead b))) (sym t) ∙ ap (λ (ks : List Kept). (k, ks)) (rest_word terminal.End e refl)))))))

-- ---- systems

classes_are : {s : System} {ts : List Lexeme} → IsPlaced s ts →
    (laid_list laid_class (map bare_class s.classes) (kept ts)).0 ≡ s.classes
classes_are (placed d e) = ap (λ (r : List Class × List Kept). r.0) (parts_laid bare_class laid_class (λ x p q d. class_laid d) d)

-- Where two trees differ in places alone, the tokens tell them apart.
same_places : {s t : System} {ts : List Lexeme} → bare_system s ≡ bare_system t → IsPlaced s ts → IsPlaced t ts →
    s ≡ t
same_places {s} {t} {ts} e a b =
    ap (λ (cs : List Class). record { classes = cs })
    (sym (classes_are a) ∙ ap (λ (r : System). (laid_list laid_class r.classes (kept ts)).0) e ∙ classes_are b)

pub one_placed_tree : OnePlacedTree
one_placed_tree ts s t g h a b p q = same_places (one_system _ _ _ g h a b) p q
