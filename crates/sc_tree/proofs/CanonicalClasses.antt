-- The canonical tokens of classes and systems spell them.
use Rattle.std.proofs.Common.{◌≡◌, ℕ, max, List, [], ◌∷◌, ◌++◌, map, Option, refl, ap, ◌∙◌, arith, append-nil, append_assoc}
use Rattle.sc_text.specs.Kind.{Kind, NAME, TERMINAL}
use Rattle.sc_text.specs.declared.token.Terminal.TheVariants as terminal
use Rattle.sc_tree.specs.Plain.{Name, Clause, Feature, Parent, ClassMark, Class, System}
use Rattle.sc_tree.specs.Bare.{named}
use Rattle.sc_tree.specs.Grammar.{IsNames, one_name, more_names, absent, no_note, IsMark, no_mark, deferred, expanded, frozen, IsParent, plain_parent, redefining, IsParentList, one_parent, more_parents, IsParents, no_parents, parents, IsCreators, no_creator, creators, class_of, IsClass, class, IsClasses, no_class, another, IsSystem}
use Rattle.sc_tree.specs.Canonical.{canonical_tokens}
use Rattle.sc_tree.specs.Canonical.Layout.{tokens_of_parts, tokens_of_lines}
use Rattle.sc_tree.specs.Canonical.Expressions.{names_parts}
use Rattle.sc_tree.specs.Canonical.Instructions.{assertion_lines}
use Rattle.sc_tree.specs.Canonical.Classes.{mark_parts, parent_line, parents_lines, creators_lines, sections_lines, class_lines, further_classes_lines, classes_lines}
use Rattle.sc_tree.proofs.CanonicalTokens.{same, each, both, nothing, behind, Remains, Again, remains_along, again_along, tokens-append, lines-append}
use Rattle.sc_tree.proofs.CanonicalExpressions.{names_again}
use Rattle.sc_tree.proofs.CanonicalInstructions.{assertion_again}
use Rattle.sc_tree.proofs.CanonicalFeatures.{sections_again}

mark_again : {m : Option ClassMark} {c : List Kind} → IsMark m c → Remains (IsMark m) c (tokens_of_parts (mark_parts m))
mark_again no_mark = record { spelled = no_mark; kept = same _ }
mark_again deferred = record { spelled = deferred; kept = same _ }
mark_again expanded = record { spelled = expanded; kept = same _ }
mark_again frozen = record { spelled = frozen; kept = same _ }

redefining_again : (x : List ℕ) (n : Name) (ns : List Name) {c : List Kind} → IsNames (n ∷ ns) c →
    Remains (IsParent (record { name = named x; redefined = n ∷ ns })) (NAME x ∷ TERMINAL terminal.Redefine ∷ (c ++ TERMINAL terminal.End ∷ []))
    (tokens_of_parts (parent_line (record { name = named x; redefined = n ∷ ns })).parts)
unfolding parent_line
redefining_again x n ns d =
    let r = names_again d in
    remains_along (ap (λ y. NAME x ∷ TERMINAL terminal.Redefine ∷ y) (tokens-append (names_parts (n ∷ ns)) _))
    (record { spelled = redefining x r.spelled; kept = each _ (each _ (both r.kept (same _))) })

parent_again : {p : Parent} {c : List Kind} → IsParent p c → Remains (IsParent p) c (tokens_of_parts (parent_line p).parts)
unfolding parent_line
parent_again (plain_parent x) = record { spelled = plain_parent x; kept = same _ }
parent_again (redefining x (one_name y)) = redefining_again x (named y) [] (one_name y)
parent_again (redefining x (more_names y {xs = xs} d)) = redefining_again x (named y) xs (more_names y d)

parent_list_again : {ps : List Parent} {c : List Kind} → IsParentList ps c → Remains (IsParentList ps) c (tokens_of_lines (map parent_line ps))
parent_list_again (one_parent {p} {s = s} d o) = let r = parent_again d in record { spelled = one_parent r.spelled absent; kept = both r.kept (nothing s) }
parent_list_again (more_parents {p} {ps} {s = s} d o ds) =
    let r = parent_again d in
    let q = parent_list_again ds in
    record { spelled = more_parents r.spelled absent q.spelled; kept = both r.kept (behind s q.kept) }

parents_again : {ps : List Parent} {c : List Kind} → IsParents ps c → Remains (IsParents ps) c (tokens_of_lines (parents_lines ps))
parents_again no_parents = record { spelled = no_parents; kept = same _ }
parents_again (parents (one_parent d o)) = let r = parent_list_again (one_parent d o) in record { spelled = parents r.spelled; kept = each _ r.kept }
parents_again (parents (more_parents d o ds)) = let r = parent_list_again (more_parents d o ds) in record { spelled = parents r.spelled; kept = each _ r.kept }

some_creators_again : (n : Name) (ns : List Name) {c : List Kind} → IsNames (n ∷ ns) c →
    Remains (IsCreators (n ∷ ns)) (TERMINAL terminal.Create ∷ c) (tokens_of_lines (creators_lines (n ∷ ns)))
some_creators_again n ns d =
    let r = names_again d in
    remains_along (ap (λ y. TERMINAL terminal.Create ∷ y) (append-nil (tokens_of_parts (names_parts (n ∷ ns)))))
    (record {
      spelled = creators r.spelled;
      kept = each _ r.kept;
    })

creators_again : {ns : List Name} {c : List Kind} → IsCreators ns c → Remains (IsCreators ns) c (tokens_of_lines (creators_lines ns))
creators_again no_creator = record { spelled = no_creator; kept = same _ }
creators_again (creators (one_name x)) = some_creators_again (named x) [] (one_name x)
creators_again (creators (more_names x {xs = xs} d)) = some_creators_again (named x) xs (more_names x d)

class_tokens : (x : Name) (m : Option ClassMark) (ps : List Parent) (ns : List Name) (fs : List Feature) (is : List Clause) →
    tokens_of_lines (class_lines (class_of m x ps ns fs is)) ≡
    [] ++ (tokens_of_parts (mark_parts m) ++ TERMINAL terminal.Class ∷ NAME x.text ∷ (tokens_of_lines (parents_lines ps) ++ (tokens_of_lines (creators_lines ns) ++ (tokens_of_lines (sections_lines fs)
    ++ (tokens_of_lines (assertion_lines 0 terminal.Invariant is) ++ ([] ++ TERMINAL terminal.End ∷ []))))))
unfolding class_lines
class_tokens x m ps ns fs is = simp (tokens-append, lines-append, append_assoc)

class_again : {x : Class} {c : List Kind} {h : ℕ} → IsClass x c h → Again (IsClass x) c h (tokens_of_lines (class_lines x))
class_again (class x {m} {ps} {ns} {fs} {is} {cn} {ce = ce} a b p k f i e) =
    let rb = mark_again b in
    let rp = parents_again p in
    let rk = creators_again k in
    let rf = sections_again f in
    let ri = assertion_again 0 i in
    again_along (class_tokens (named x) m ps ns fs is)
    (record {
      nesting = max rf.nesting ri.nesting;
      low = omega (arith, rf.low, ri.low);
      spelled = class x no_note rb.spelled rp.spelled rk.spelled rf.spelled ri.spelled no_note;
      kept = both (nothing cn) (both rb.kept (each _ (each _ (both rp.kept (both rk.kept (both rf.kept (both ri.kept (both (nothing ce) (same _)))))))));
    })

further_classes : (cs : List Class) → tokens_of_lines (further_classes_lines cs) ≡ tokens_of_lines (classes_lines cs)
further_classes [] = refl
further_classes (c ∷ cs) = refl

classes_again : {xs : List Class} {c : List Kind} {h : ℕ} → IsClasses xs c h → Again (IsClasses xs) c h (tokens_of_lines (classes_lines xs))
classes_again no_class = record { nesting = 0; low = omega arith; spelled = no_class; kept = same _ }
classes_again (another {x} {xs} d ds) =
    let r = class_again d in
    let q = classes_again ds in
    again_along (lines-append (class_lines x) (further_classes_lines xs) ∙ ap (λ y. tokens_of_lines (class_lines x) ++ y) (further_classes xs))
    (record { nesting = max r.nesting q.nesting; low = omega (arith, r.low, q.low); spelled = another r.spelled q.spelled; kept = both r.kept q.kept })

-- The canonical tokens of a system spell it.
pub system_again : {s : System} {c : List Kind} {h : ℕ} → IsSystem s c h → Again (IsSystem s) c h (canonical_tokens s)
unfolding canonical_tokens
system_again d = classes_again d
