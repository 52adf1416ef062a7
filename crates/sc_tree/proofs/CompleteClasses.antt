-- Reading gives each tree that tokens spell, where what follows doesn't go on with it: classes.
use Rattle.std.proofs.Common.{◌≡◌, ℕ, zero, suc, ◌≤◌, max, Bool, true, false, List, [], ◌∷◌, ◌++◌, length, Option, Ok, refl, ap, sym, ◌∙◌, subst, append_assoc, append-nil, length-append, arith}
use Rattle.std.specs.Prelude.{not, ◌||◌}
use Rattle.sc_text.specs.Kind.{Kind, NAME, TERMINAL}
use Rattle.sc_text.specs.declared.token.Terminal.TheVariants as terminal
use Rattle.sc_tree.specs.Plain.{Name, Feature, Parent, ClassMark, Clause, Class}
use Rattle.sc_tree.specs.Bare.{named}
use Rattle.sc_tree.specs.Grammar as grammar
use Rattle.sc_tree.specs.Grammar.{IsInstrs, declared_as, attribute_of, routine_of, class_of, heads_class, ends_class, exported_to, none_name, IsNames, IsOptional, IsType, IsDeclaration, IsDeclarations, IsFormals, IsLocalList, IsLocals, IsResultType, IsFeature, IsSemicolons, IsFeatures, IsExports, IsSections, IsFree, IsNote, IsMark, IsParent, IsParentList, IsParents, IsCreators, IsAssertion, IsClass, IsClasses}
use Rattle.sc_tree.specs.Internal.Reading.{Read, ◌>>=◌, is_terminal, same_terminal, sees, expect, skip, name_ahead, names, assertion, past_free, past_note, mark, parent, parents_from, parents, creators, is_done, sections, class_marked, class, classes_from}
use Rattle.sc_tree.proofs.ReadingSteps.{between, Comes, fits, both, surely, lastly, along, needs, grown, bind_ok, choose_true, choose_false}
use Rattle.sc_tree.proofs.Looks.{expect_self, sees_self}
use Rattle.sc_tree.proofs.Lists.{some_tokens}
use Rattle.sc_tree.proofs.CompleteTypes.{complete_names}
use Rattle.sc_tree.proofs.CompleteAssertions.{ClausesEnd, complete_assertion}
use Rattle.sc_tree.proofs.Order.{Behind, behind, class_ends_clauses, class_rank, later, named_unseen, unnamed, unseen}
use Rattle.sc_tree.proofs.CompleteDeclarations.{optional_shorter, optional_unseen, skip_optional}
use Rattle.sc_tree.proofs.CompleteFeatures.{SectionsEnd, complete_sections}

-- ---- notes and marks

free_read : (stops : Kind → Bool) (t : Kind) (r : List Kind) → stops t ≡ true → {c : List Kind} → IsFree stops c → past_free stops (c ++ t ∷ r) ≡ t ∷ r
free_read stops t r e grammar.no_token = choose_true _ _ _ e
free_read stops t r e (grammar.token k n d) = choose_false _ _ _ n ∙ free_read stops t r e d

note_read : (stops : Kind → Bool) (t : Kind) (r : List Kind) → stops t ≡ true → (is_terminal terminal.Note t || is_terminal terminal.Indexing t) ≡ false → {c : List Kind} → IsNote stops c → past_note stops (c ++ t ∷ r) ≡ t ∷ r
unfolding same_terminal
note_read stops t r e n grammar.no_note = choose_false _ _ _ n
note_read stops t r e n (grammar.note d) = free_read stops t r e d
note_read stops t r e n (grammar.indexing d) = free_read stops t r e d

marked_read : {m : Option ClassMark} {cn cm : List Kind} → IsNote heads_class cn → IsMark m cm → (r : List Kind) → past_note heads_class (cn ++ (cm ++ TERMINAL terminal.Class ∷ r)) ≡ cm ++ TERMINAL terminal.Class ∷ r
unfolding same_terminal
marked_read d grammar.no_mark r = note_read heads_class (TERMINAL terminal.Class) r refl refl d
marked_read d grammar.deferred r = note_read heads_class (TERMINAL terminal.Deferred) (TERMINAL terminal.Class ∷ r) refl refl d
marked_read d grammar.expanded r = note_read heads_class (TERMINAL terminal.Expanded) (TERMINAL terminal.Class ∷ r) refl refl d
marked_read d grammar.frozen r = note_read heads_class (TERMINAL terminal.Frozen) (TERMINAL terminal.Class ∷ r) refl refl d

ended_read : {c : List Kind} → IsNote ends_class c → (r : List Kind) → past_note ends_class (c ++ TERMINAL terminal.End ∷ r) ≡ TERMINAL terminal.End ∷ r
unfolding same_terminal
ended_read d r = note_read ends_class (TERMINAL terminal.End) r refl refl d

mark_seen : {m : Option ClassMark} {c : List Kind} → IsMark m c → (r : List Kind) → mark (c ++ TERMINAL terminal.Class ∷ r) ≡ (m, TERMINAL terminal.Class ∷ r)
unfolding mark same_terminal
mark_seen grammar.no_mark r = refl
mark_seen grammar.deferred r = refl
mark_seen grammar.expanded r = refl
mark_seen grammar.frozen r = refl

-- ---- parents

parent_named : {p : Parent} {c : List Kind} → IsParent p c → (r : List Kind) → name_ahead (c ++ r) ≡ true
parent_named (grammar.plain_parent x) r = refl
parent_named (grammar.redefining x d) r = refl

parent_long : {p : Parent} {c : List Kind} → IsParent p c → 1 ≤ length c
parent_long {p} {c} d = some_tokens name_ahead c refl (parent_named d [])

plain_parent_read : (x : List ℕ) (r : List Kind) → sees terminal.Redefine r ≡ false → parent (NAME x ∷ r) ≡ Ok (record { name = named x; redefined = [] }, r)
unfolding parent
plain_parent_read x r e = choose_false _ _ _ e

redefining_read : (x : List ℕ) (ns : List Name) (ts r : List Kind) → names ts ≡ Ok (ns, TERMINAL terminal.End ∷ r) → parent (NAME x ∷ TERMINAL terminal.Redefine ∷ ts) ≡ Ok (record { name = named x; redefined = ns }, r)
unfolding parent
redefining_read x ns ts r e =
    choose_true _ _ _ (sees_self terminal.Redefine ts) ∙ bind_ok (names ts) (ns, TERMINAL terminal.End ∷ r) (λ ns. expect terminal.End ns.1 >>= λ rest. Ok (record { name = named x; redefined = ns.0 }, rest)) e
    ∙ bind_ok (expect terminal.End (TERMINAL terminal.End ∷ r)) r (λ rest. Ok (record { name = named x; redefined = ns }, rest)) (expect_self terminal.End r)

end_no_comma : (r : List Kind) → sees terminal.Comma (TERMINAL terminal.End ∷ r) ≡ false
unfolding same_terminal
end_no_comma r = refl

complete_parent : {p : Parent} {c : List Kind} → IsParent p c → (r : List Kind) → sees terminal.Redefine r ≡ false → parent (c ++ r) ≡ Ok (p, r)
complete_parent (grammar.plain_parent x) r e = plain_parent_read x r e
complete_parent (grammar.redefining x {ns} {c} d) r e =
    ap (λ (ts : List Kind). parent (NAME x ∷ TERMINAL terminal.Redefine ∷ ts)) (append_assoc c (TERMINAL terminal.End ∷ []) r)
    ∙ redefining_read x ns (c ++ TERMINAL terminal.End ∷ r) r (complete_names d (TERMINAL terminal.End ∷ r) (end_no_comma r))

semicolon_no_redefine : {s : List Kind} → IsOptional terminal.Semicolon s → (r : List Kind) → sees terminal.Redefine r ≡ false → sees terminal.Redefine (s ++ r) ≡ false
unfolding same_terminal
semicolon_no_redefine o r e = optional_unseen o terminal.Redefine r refl e

parents_stay : (f : ℕ) (found : List Parent) (r : List Kind) → name_ahead r ≡ false → parents_from f found r ≡ Ok (found, r)
unfolding parents_from
parents_stay zero found r e = refl
parents_stay (suc f) found r e = choose_false _ _ _ e

parent_go : (f : ℕ) (found : List Parent) (p : Parent) (ts r' r : List Kind) → name_ahead ts ≡ true → parent ts ≡ Ok (p, r') → skip terminal.Semicolon r' ≡ r → parents_from (suc f) found ts ≡ parents_from f (found ++ p ∷ []) r
unfolding parents_from
parent_go f found p ts r' r b e k = choose_true _ _ _ b ∙ bind_ok (parent ts) (p, r') (λ p. parents_from f (found ++ p.0 ∷ []) (skip terminal.Semicolon p.1)) e ∙ ap (parents_from f (found ++ p ∷ [])) k

parent_list_named : {ps : List Parent} {c : List Kind} → IsParentList ps c → (r : List Kind) → name_ahead (c ++ r) ≡ true
parent_list_named (grammar.one_parent {p} {c} {s} d o) r = rw (append_assoc c s r) (parent_named d (s ++ r))
parent_list_named (grammar.more_parents {p} {ps} {c} {s} {cs} d o more) r = rw (append_assoc c (s ++ cs) r) (parent_named d ((s ++ cs) ++ r))

parent_list_read : {ps : List Parent} {c : List Kind} → IsParentList ps c → (f : ℕ) (found : List Parent) (r : List Kind) → length (c ++ r) ≤ f → Behind class_rank 1 r → parents_from f found (c ++ r) ≡ Ok (found ++ ps, r)
parent_list_read (grammar.one_parent {p} {c} {s} d o) zero found r len b = let l = parent_long d in let w = length-append (c ++ s) r in let v = length-append c s in absurd (omega arith)
parent_list_read (grammar.one_parent {p} {c} {s} d o) (suc f) found r len b =
    ap (parents_from (suc f) found) (append_assoc c s r)
    ∙ parent_go f found p (c ++ (s ++ r)) (s ++ r) r (parent_named d (s ++ r)) (complete_parent d (s ++ r) (semicolon_no_redefine o r (unseen b terminal.Redefine (omega arith)))) (skip_optional o r (unseen b terminal.Semicolon (omega arith)))
    ∙ parents_stay f (found ++ p ∷ []) r (unnamed b)
parent_list_read (grammar.more_parents {p} {ps} {c} {s} {cs} d o more) zero found r len b = let l = parent_long d in let w = length-append (c ++ (s ++ cs)) r in let v = length-append c (s ++ cs) in absurd (omega arith)
parent_list_read (grammar.more_parents {p} {ps} {c} {s} {cs} d o more) (suc f) found r len b =
    let q = between c s cs r in
    let l = parent_long d in
    let w = length-append c (s ++ (cs ++ r)) in
    let u = optional_shorter o (cs ++ r) in
    let len' : length (c ++ (s ++ (cs ++ r))) ≤ suc f = subst (λ (ts : List Kind). length ts ≤ suc f) q len in
    let k = parent_list_named more r in
    ap (parents_from (suc f) found) q
    ∙ parent_go f found p (c ++ (s ++ (cs ++ r))) (s ++ (cs ++ r)) (cs ++ r) (parent_named d (s ++ (cs ++ r))) (complete_parent d (s ++ (cs ++ r)) (semicolon_no_redefine o (cs ++ r) (named_unseen terminal.Redefine (cs ++ r) k)))
    (skip_optional o (cs ++ r) (named_unseen terminal.Semicolon (cs ++ r) k))
    ∙ parent_list_read more f (found ++ p ∷ []) r (omega (arith, l, w, u, len')) b ∙ ap (λ (xs : List Parent). Ok (xs, r)) (append_assoc found (p ∷ []) ps)

-- parents, where the first of them is known
parents_go : (p : Parent) (ts r' r : List Kind) → parent ts ≡ Ok (p, r') → skip terminal.Semicolon r' ≡ r → parents (TERMINAL terminal.Inherit ∷ ts) ≡ parents_from (length r') (p ∷ []) r
unfolding parents
parents_go p ts r' r e k =
    choose_true _ _ _ (sees_self terminal.Inherit ts) ∙ bind_ok (parent ts) (p, r') (λ p. parents_from (length p.1) (p.0 ∷ []) (skip terminal.Semicolon p.1)) e ∙ ap (parents_from (length r') (p ∷ [])) k

no_parents_read : (r : List Kind) → sees terminal.Inherit r ≡ false → parents r ≡ Ok ([], r)
unfolding parents
no_parents_read r e = choose_false _ _ _ e

complete_parents : {ps : List Parent} {c : List Kind} → IsParents ps c → (r : List Kind) → Behind class_rank 1 r → parents (c ++ r) ≡ Ok (ps, r)
complete_parents grammar.no_parents r b = no_parents_read r (unseen b terminal.Inherit (omega arith))
complete_parents (grammar.parents (grammar.one_parent {p} {c} {s} d o)) r b =
    ap (λ (ts : List Kind). parents (TERMINAL terminal.Inherit ∷ ts)) (append_assoc c s r)
    ∙ parents_go p (c ++ (s ++ r)) (s ++ r) r (complete_parent d (s ++ r) (semicolon_no_redefine o r (unseen b terminal.Redefine (omega arith)))) (skip_optional o r (unseen b terminal.Semicolon (omega arith))) ∙ parents_stay (length (s ++ r)) (p ∷ []) r (unnamed b)
complete_parents (grammar.parents (grammar.more_parents {p} {ps} {c} {s} {cs} d o more)) r b =
    let k = parent_list_named more r in
    ap (λ (ts : List Kind). parents (TERMINAL terminal.Inherit ∷ ts)) (between c s cs r)
    ∙ parents_go p (c ++ (s ++ (cs ++ r))) (s ++ (cs ++ r)) (cs ++ r) (complete_parent d (s ++ (cs ++ r)) (semicolon_no_redefine o (cs ++ r) (named_unseen terminal.Redefine (cs ++ r) k))) (skip_optional o (cs ++ r) (named_unseen terminal.Semicolon (cs ++ r) k))
    ∙ parent_list_read more (length (s ++ (cs ++ r))) (p ∷ []) r (optional_shorter o (cs ++ r)) b

-- ---- classes

complete_creators : {xs : List Name} {c : List Kind} → IsCreators xs c → (r : List Kind) → Behind class_rank 2 r → creators (c ++ r) ≡ Ok (xs, r)
unfolding creators
complete_creators grammar.no_creator r b = choose_false _ _ _ (unseen b terminal.Create (omega arith))
complete_creators (grammar.creators {xs} {c} d) r b = choose_true _ _ _ (sees_self terminal.Create (c ++ r)) ∙ complete_names d r (unseen b terminal.Comma (omega arith))

note_behind : {c : List Kind} → IsNote ends_class c → (r : List Kind) → Behind class_rank 4 (c ++ TERMINAL terminal.End ∷ r)
note_behind grammar.no_note r = behind terminal.End r (omega arith)
note_behind (grammar.note {c} d) r = behind terminal.Note (c ++ TERMINAL terminal.End ∷ r) (omega arith)
note_behind (grammar.indexing {c} d) r = behind terminal.Indexing (c ++ TERMINAL terminal.End ∷ r) (omega arith)

invariant_behind : {xs : List Clause} {c : List Kind} {h : ℕ} → IsAssertion terminal.Invariant xs c h → (r : List Kind) → Behind class_rank 4 r → Behind class_rank 3 (c ++ r)
invariant_behind grammar.no_assertion r b = later 3 (omega arith) b
invariant_behind (grammar.assertion {xs} {c} d) r b = behind terminal.Invariant (c ++ r) (omega arith)

sections_behind : {fs : List Feature} {c : List Kind} {h : ℕ} → IsSections fs c h → (r : List Kind) → Behind class_rank 3 r → Behind class_rank 2 (c ++ r)
sections_behind grammar.no_section r b = later 2 (omega arith) b
sections_behind (grammar.section {ce} {c} {cs} de d ds) r b = behind terminal.Feature ((ce ++ (c ++ cs)) ++ r) (omega arith)

creators_behind : {xs : List Name} {c : List Kind} → IsCreators xs c → (r : List Kind) → Behind class_rank 2 r → Behind class_rank 1 (c ++ r)
creators_behind grammar.no_creator r b = later 1 (omega arith) b
creators_behind (grammar.creators {xs} {c} d) r b = behind terminal.Create (c ++ r) (omega arith)

invariant_ends : {ts : List Kind} → Behind class_rank 4 ts → ClausesEnd ts
invariant_ends (behind m r h) = class_ends_clauses m r h

sections_end_behind : {ts : List Kind} → Behind class_rank 3 ts → SectionsEnd ts
sections_end_behind {ts} b =
    record {
      features = record { name = unnamed b; semicolon = unseen b terminal.Semicolon (omega arith); routine = none _ _ _ _ (unseen b terminal.Is (omega arith)) (unseen b terminal.Require (omega arith)) (unseen b terminal.Local (omega arith)) (unseen b terminal.Do (omega arith)) };
      section = unseen b terminal.Feature (omega arith);
      brace = unseen b terminal.OpenBrace (omega arith);
    }
  where
    none : (p q r s : Bool) → p ≡ false → q ≡ false → r ≡ false → s ≡ false → (p || q || r || s) ≡ false
    none true q r s e f g h = cc
    none false true r s e f g h = cc
    none false false true s e f g h = cc
    none false false false s e f g h = h

-- what is left of a class behind its invariant
abbrev then_end : ℕ → Option ClassMark → List ℕ → List Parent → List Name → List Feature → ℕ → List Clause × ℕ × List Kind → Read Class
then_end n m x ps ns fs hf is = expect terminal.End (past_note ends_class is.2) >>= λ rest. Ok (class_of m (named x) ps ns fs is.0, max hf is.1, rest)

-- the parts of a class, each read
class_step : (n hf hi : ℕ) (m : Option ClassMark) (x : List ℕ) (ps : List Parent) (ns : List Name) (fs : List Feature) (is : List Clause) (ts r0 r1 r2 r3 r : List Kind) →
    parents ts ≡ Ok (ps, r0) → creators r0 ≡ Ok (ns, r1) → Comes n hf (fs, hf, r2) (sections n r1) → Comes n hi (is, hi, r3) (assertion n terminal.Invariant r2) → past_note ends_class r3 ≡ TERMINAL terminal.End ∷ r →
    Comes n (max hf hi) (class_of m (named x) ps ns fs is, max hf hi, r) (class_marked n m (TERMINAL terminal.Class ∷ NAME x ∷ ts))
unfolding class_marked same_terminal expect
class_step n hf hi m x ps ns fs is ts r0 r1 r2 r3 r dp dn df di e =
    surely n (max hf hi) (ps, r0) _ _ _ dp (surely n (max hf hi) (ns, r1) _ _ _ dn
    (both n hf hi (fs, hf, r2) _ _ _ df λ p. lastly n hi (is, hi, r3) _ _ (then_end n m x ps ns fs hf) di (ap (λ (ts : List Kind). expect terminal.End ts >>= λ rest. Ok (class_of m (named x) ps ns fs is, max hf hi, rest)) e ∙ bind_ok _ r (λ rest. Ok (class_of m (named x) ps ns fs is, max hf hi, rest)) (expect_self terminal.End r))))

class_respelled : (cn cm cp cc cf ci ce r : List Kind) (j k l : Kind) →
    (cn ++ (cm ++ j ∷ k ∷ (cp ++ (cc ++ (cf ++ (ci ++ (ce ++ l ∷ []))))))) ++ r ≡ cn ++ (cm ++ j ∷ k ∷ (cp ++ (cc ++ (cf ++ (ci ++ (ce ++ l ∷ r))))))
class_respelled cn cm cp cc cf ci ce r j k l = simp append_assoc

-- a class, where its note and its mark are known
class_by : (n : ℕ) (m : Option ClassMark) (ts ts' r : List Kind) → past_note heads_class ts ≡ ts' → mark ts' ≡ (m, r) → class n ts ≡ class_marked n m r
unfolding class
class_by n m ts ts' r e d = ap (λ (ts : List Kind). class_marked n (mark ts).0 (mark ts).1) e ∙ ap (λ (x : Option ClassMark × List Kind). class_marked n x.0 x.1) d

complete_class : {x : Class} {c : List Kind} {h : ℕ} → IsClass x c h → (n : ℕ) (r : List Kind) → Comes n h (x, h, r) (class n (c ++ r))
complete_class (grammar.class x {m} {ps} {ns} {fs} {is} {cn} {cm} {cp} {cc = cs} {cf} {ci} {ce} {hf} {hi} dn dm dp dc df di de) n r =
    let r3 : List Kind = ce ++ TERMINAL terminal.End ∷ r in
    let be = note_behind de r in
    let bi = invariant_behind di r3 be in
    let bf = sections_behind df (ci ++ r3) bi in
    let bc = creators_behind dc (cf ++ (ci ++ r3)) bf in
    let tail : List Kind = NAME x ∷ (cp ++ (cs ++ (cf ++ (ci ++ r3)))) in
    rw (class_respelled cn cm cp cs cf ci ce r (TERMINAL terminal.Class) (NAME x) (TERMINAL terminal.End))
    (along n _ _ _ _ _ _ refl refl (class_by n m _ (cm ++ TERMINAL terminal.Class ∷ tail) (TERMINAL terminal.Class ∷ tail) (marked_read dn dm tail) (mark_seen dm tail))
    (class_step n hf hi m x ps ns fs is _ (cs ++ (cf ++ (ci ++ r3))) (cf ++ (ci ++ r3)) (ci ++ r3) r3 r (complete_parents dp (cs ++ (cf ++ (ci ++ r3))) bc) (complete_creators dc (cf ++ (ci ++ r3)) bf)
    (complete_sections df (ci ++ r3) (sections_end_behind bi) n) (complete_assertion di r3 (invariant_ends be) (unseen be terminal.Invariant (omega arith)) n) (ended_read de r)))

class_begins : {x : Class} {c : List Kind} {h : ℕ} → IsClass x c h → (r : List Kind) → is_done (c ++ r) ≡ false
class_begins (grammar.class x grammar.no_note grammar.no_mark dp dc df di de) r = refl
class_begins (grammar.class x grammar.no_note grammar.deferred dp dc df di de) r = refl
class_begins (grammar.class x grammar.no_note grammar.expanded dp dc df di de) r = refl
class_begins (grammar.class x grammar.no_note grammar.frozen dp dc df di de) r = refl
class_begins (grammar.class x (grammar.note d) dm dp dc df di de) r = refl
class_begins (grammar.class x (grammar.indexing d) dm dp dc df di de) r = refl

class_long : {x : Class} {c : List Kind} {h : ℕ} → IsClass x c h → 1 ≤ length c
class_long {x} {c} d = some_tokens (λ ts. not (is_done ts)) c refl (ap not (class_begins d []))

-- classes up to the end of the tokens
ClassesRead : List Class → List Kind → ℕ → Type 0
ClassesRead xs c h = (n f : ℕ) (found : List Class) (high : ℕ) → length c ≤ f → high ≤ n → Comes n h (found ++ xs, max high h, []) (classes_from n f found high c)

classes_stay : (n f : ℕ) (found : List Class) (high : ℕ) → classes_from n f found high [] ≡ Ok (found, high, [])
unfolding classes_from
classes_stay n zero found high = refl
classes_stay n (suc f) found high = refl

no_class_step : ClassesRead [] [] 0
unfolding ClassesRead
no_class_step n f found high len l =
    let w : high ≡ max high 0 = omega arith in
    fits (omega arith) (classes_stay n f found high ∙ ap (λ (s : List Class). Ok (s, high, [])) (sym (append-nil found)) ∙ ap (λ (m : ℕ). Ok (found ++ [], m, [])) w)

another_step : (n f : ℕ) (found : List Class) (high h hs : ℕ) (x : Class) (xs : List Class) (ts r' : List Kind) → is_done ts ≡ false → high ≤ n → Comes n h (x, h, r') (class n ts) →
    (max high h ≤ n → Comes n hs ((found ++ x ∷ []) ++ xs, max (max high h) hs, []) (classes_from n f (found ++ x ∷ []) (max high h) r')) →
    Comes n (max h hs) (found ++ x ∷ xs, max high (max h hs), []) (classes_from n (suc f) found high ts)
unfolding classes_from
another_step n f found high h hs x xs ts r' b l d more =
    grown n high h h hs hs (max h hs) x _ _ r' [] _ _ _ (choose_false _ _ _ b) (append_assoc found (x ∷ []) xs) refl d (λ p. more (omega arith))

some_class_step : (h hs : ℕ) (x : Class) (xs : List Class) (c cs : List Kind) → IsClass x c h → ClassesRead xs cs hs → ClassesRead (x ∷ xs) (c ++ cs) (max h hs)
unfolding ClassesRead
some_class_step h hs x xs c cs d more n zero found high len l = let e = length-append c cs in let m = class_long d in absurd (omega arith)
some_class_step h hs x xs c cs d more n (suc f) found high len l =
    let e = length-append c cs in
    let m = class_long d in
    another_step n f found high h hs x xs _ cs (class_begins d cs) l (complete_class d n cs) (λ p. more n f (found ++ x ∷ []) (max high h) (omega arith) p)

complete_classes_from : {xs : List Class} {c : List Kind} {h : ℕ} → IsClasses xs c h → ClassesRead xs c h
complete_classes_from grammar.no_class = no_class_step
complete_classes_from (grammar.another {x} {xs} {c} {cs} {h} {hs} d ds) = some_class_step h hs x xs c cs d (complete_classes_from ds)

pub complete_classes : {xs : List Class} {ts : List Kind} {h : ℕ} → IsClasses xs ts h → (n : ℕ) → Comes n h (xs, h, []) (classes_from n (length ts) [] 0 ts)
unfolding ClassesRead
complete_classes {xs} {ts} {h} d n =
    let w : max 0 h ≡ h = omega arith in
    needs n h h (max 0 h) h xs [] _ refl w (complete_classes_from d n (length ts) [] 0 (omega arith) (omega arith))
