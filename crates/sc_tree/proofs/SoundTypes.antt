-- What reading gives, the tokens spell: names and types.
use Rattle.std.proofs.Common.{◌≡◌, ℕ, zero, suc, Bool, true, false, List, [], ◌∷◌, ◌++◌, length, Ok, refl, ap, sym, ◌∙◌, subst, append_assoc, append-nil, ◌⊎◌, inl, inr}
use Rattle.std.specs.Prelude.{if◌then◌else◌, ◌||◌}
use Rattle.sc_text.specs.Kind.{Kind, NAME, TERMINAL}
use Rattle.sc_text.specs.declared.token.Terminal.TheVariants as terminal
use Rattle.sc_tree.specs.Plain.{Name, HandlerOf}
use Rattle.sc_tree.specs.Bare.{named}
use Rattle.sc_tree.specs.Grammar as grammar
use Rattle.sc_tree.specs.Grammar.{handler_name, type_of, IsNames, IsAttachment, IsHandlerTag, IsType, IsTestedType}
use Rattle.sc_tree.specs.Internal.Reading.{past, sees, more_names, names, attachment, handler_of, handler_tag, declared_type, tested_type}
use Rattle.sc_tree.proofs.ReadingSteps.{Holds, holds, holds_then, holds_if, holds_also, Begins, through}
use Rattle.sc_tree.proofs.Looks.{sees_is, expect_holds, expect_word_holds, NameFirst, name_first, name_holds, first_name}
use Rattle.sc_tree.proofs.Lists.{Unskipped, one_token, no_tokens}

-- names after a first one, and their commas
pub record NamesAfter (found : List Name) (ts : List Kind) (x : List Name × List Kind) : Type 0 where
  pub more : List Name
  pub tokens : List Kind
  pub same : ts ≡ tokens ++ x.1
  pub is : (y : List ℕ) → IsNames (named y ∷ more) (NAME y ∷ tokens)
  pub joined : x.0 ≡ found ++ more

no_name_after : (found : List Name) (ts : List Kind) → NamesAfter found ts (found, ts)
no_name_after found ts = record { more = []; tokens = []; same = refl; is = λ y. grammar.one_name y; joined = sym (append-nil found) }

name_after : (found : List Name) (ts : List Kind) (x : Name × List Kind) (y : List Name × List Kind) → ts ≡ TERMINAL terminal.Comma ∷ past ts → NameFirst (past ts) x → NamesAfter (found ++ x.0 ∷ []) x.1 y → NamesAfter found ts y
name_after found ts _ y e (name_first x r q) a =
    record {
      more = named x ∷ a.more;
      tokens = TERMINAL terminal.Comma ∷ NAME x ∷ a.tokens;
      same = through ts (TERMINAL terminal.Comma ∷ NAME x ∷ []) r a.tokens y.1 (e ∙ ap (λ (r : List Kind). TERMINAL terminal.Comma ∷ r) q) a.same;
      is = λ z. grammar.more_names z (a.is x);
      joined = a.joined ∙ append_assoc found (named x ∷ []) a.more;
    }

pub sound_more_names : (f : ℕ) (found : List Name) (ts : List Kind) → Holds (NamesAfter found ts) (more_names f found ts)
unfolding more_names
sound_more_names zero found ts = holds (no_name_after found ts)
sound_more_names (suc f) found ts =
    holds_if (sees terminal.Comma ts) _ _
    (λ b. holds_then _ (name_holds (past ts)) λ x n. holds_also (sound_more_names f (found ++ x.0 ∷ []) x.1) λ y a. name_after found ts x y (sees_is terminal.Comma ts b) n a)
    (λ _. holds (no_name_after found ts))

names_begin : (ts : List Kind) (x : Name × List Kind) (y : List Name × List Kind) → NameFirst ts x → NamesAfter (x.0 ∷ []) x.1 y → Begins IsNames ts y
names_begin ts _ y (name_first x r q) a =
    record { tokens = NAME x ∷ a.tokens; same = through ts (NAME x ∷ []) r a.tokens y.1 q a.same; is = subst (λ (xs : List Name). IsNames xs (NAME x ∷ a.tokens)) (sym a.joined) (a.is x) }

pub sound_names : (ts : List Kind) → Holds (Begins IsNames ts) (names ts)
unfolding names
sound_names ts = holds_then _ (name_holds ts) λ x n. holds_also (sound_more_names (length x.1) (x.0 ∷ []) x.1) λ y a. names_begin ts x y n a

-- ---- types

pub either : (p q : Bool) → (p || q) ≡ true → (p ≡ true) ⊎ (q ≡ true)
either true q e = inl refl
either false q e = inr e

-- a type's mark, if any
abbrev Marked : List Kind → Bool × List Kind → Type 0
Marked ts x = Unskipped (IsAttachment x.0) ts x.1

marked_if : (ts : List Kind) (b : Bool) (x y : Bool × List Kind) → (b ≡ true → Marked ts x) → (b ≡ false → Marked ts y) → Marked ts (if b then x else y)
marked_if ts true x y p q = p refl
marked_if ts false x y p q = q refl

attachment_is : (ts : List Kind) → Marked ts (attachment ts)
unfolding attachment
attachment_is ts =
    marked_if ts (sees terminal.Detachable ts || sees terminal.Question ts) _ _ (λ b. of_detachable (either _ _ b)) λ _.
    marked_if ts (sees terminal.Attached ts || sees terminal.Exclamation ts) _ _ (λ b. of_attached (either _ _ b)) λ _. no_tokens (IsAttachment false) ts grammar.unmarked
  where
    of_detachable : (sees terminal.Detachable ts ≡ true) ⊎ (sees terminal.Question ts ≡ true) → Marked ts (true, past ts)
    of_detachable (inl e) = one_token (IsAttachment true) terminal.Detachable ts e grammar.detachable
    of_detachable (inr e) = one_token (IsAttachment true) terminal.Question ts e grammar.question

    of_attached : (sees terminal.Attached ts ≡ true) ⊎ (sees terminal.Exclamation ts ≡ true) → Marked ts (false, past ts)
    of_attached (inl e) = one_token (IsAttachment false) terminal.Attached ts e grammar.attached
    of_attached (inr e) = one_token (IsAttachment false) terminal.Exclamation ts e grammar.exclamation

sound_handler_of : (ts r : List Kind) → ts ≡ TERMINAL terminal.Separate ∷ r → Holds (Begins IsHandlerTag ts) (handler_of r)
unfolding handler_of
sound_handler_of ts r e =
    holds_if (sees terminal.Less r) _ _
    (λ b. holds_then _ (name_holds (past r)) λ x n. holds_then _ (expect_holds terminal.Dot x.1) λ s q. holds_then _ (expect_word_holds handler_name s) λ u v. holds_then _ (expect_holds terminal.Greater u) λ rest w.
    with_name x n s u rest b q v w)
    (λ _. holds (record { tokens = TERMINAL terminal.Separate ∷ []; same = e; is = grammar.separate }))
  where
    with_name : (x : Name × List Kind) → NameFirst (past r) x → (s u rest : List Kind) → sees terminal.Less r ≡ true → x.1 ≡ TERMINAL terminal.Dot ∷ s → s ≡ NAME handler_name ∷ u → u ≡ TERMINAL terminal.Greater ∷ rest →
        Holds (Begins IsHandlerTag ts) (Ok (HandlerOf x.0, rest))
    with_name _ (name_first x r' p) s u rest b q v w =
        holds (record {
          tokens = TERMINAL terminal.Separate ∷ TERMINAL terminal.Less ∷ NAME x ∷ TERMINAL terminal.Dot ∷ NAME handler_name ∷ TERMINAL terminal.Greater ∷ [];
          same = through ts (TERMINAL terminal.Separate ∷ []) r (TERMINAL terminal.Less ∷ NAME x ∷ TERMINAL terminal.Dot ∷ NAME handler_name ∷ TERMINAL terminal.Greater ∷ []) rest e
              (through r (TERMINAL terminal.Less ∷ []) (past r) (NAME x ∷ TERMINAL terminal.Dot ∷ NAME handler_name ∷ TERMINAL terminal.Greater ∷ []) rest (sees_is terminal.Less r b)
              (through (past r) (NAME x ∷ []) r' (TERMINAL terminal.Dot ∷ NAME handler_name ∷ TERMINAL terminal.Greater ∷ []) rest p
              (through r' (TERMINAL terminal.Dot ∷ []) s (NAME handler_name ∷ TERMINAL terminal.Greater ∷ []) rest q (through s (NAME handler_name ∷ []) u (TERMINAL terminal.Greater ∷ []) rest v w))));
          is = grammar.handler_of x;
        })

sound_handler_tag : (ts : List Kind) → Holds (Begins IsHandlerTag ts) (handler_tag ts)
unfolding handler_tag
sound_handler_tag ts =
    holds_if (sees terminal.Separate ts) _ _ (λ b. sound_handler_of ts (past ts) (sees_is terminal.Separate ts b)) (λ _. holds (record { tokens = []; same = refl; is = grammar.own }))

pub sound_type : (ts : List Kind) → Holds (Begins IsType ts) (declared_type ts)
unfolding declared_type
sound_type ts =
    let a = attachment_is ts in
    holds_then _ (sound_handler_tag (attachment ts).1) λ g sg. holds_then _ (name_holds g.1) λ x n.
    let y = first_name g.1 x n in
    holds (record {
      tokens = a.tokens ++ (sg.tokens ++ NAME y.0 ∷ []);
      same = through ts a.tokens (attachment ts).1 (sg.tokens ++ NAME y.0 ∷ []) x.1 a.same (through (attachment ts).1 sg.tokens g.1 (NAME y.0 ∷ []) x.1 sg.same y.1);
      is = subst (λ (n : Name). IsType (type_of (attachment ts).0 g.0 n) (a.tokens ++ (sg.tokens ++ NAME y.0 ∷ []))) (sym y.2) (grammar.type a.is sg.is y.0);
    })

pub sound_tested_type : (ts : List Kind) → Holds (Begins IsTestedType ts) (tested_type ts)
unfolding tested_type
sound_tested_type ts =
    holds_if (sees terminal.OpenBrace ts) _ _
    (λ b. holds_then _ (sound_type (past ts)) λ t s. holds_then _ (expect_holds terminal.CloseBrace t.1) λ rest q.
    holds (record {
      tokens = TERMINAL terminal.OpenBrace ∷ (s.tokens ++ TERMINAL terminal.CloseBrace ∷ []);
      same = through ts (TERMINAL terminal.OpenBrace ∷ []) (past ts) (s.tokens ++ TERMINAL terminal.CloseBrace ∷ []) rest (sees_is terminal.OpenBrace ts b) (through (past ts) s.tokens t.1 (TERMINAL terminal.CloseBrace ∷ []) rest s.same q);
      is = grammar.tested_type s.is;
    }))
    (λ _. holds (record { tokens = []; same = refl; is = grammar.no_type }))
