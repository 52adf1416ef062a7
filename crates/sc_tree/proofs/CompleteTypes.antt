-- Reading gives each tree that tokens spell, where what follows doesn't go on with it: names and types.
use Rattle.std.proofs.Common.{◌≡◌, ℕ, zero, suc, ◌+◌, ◌≤◌, Bool, false, List, [], ◌∷◌, ◌++◌, length, Option, Some, None, Ok, refl, ap, sym, ◌∙◌, append_assoc, append-nil, length-append, arith}
use Rattle.sc_text.specs.Kind.{Kind, NAME, TERMINAL}
use Rattle.sc_text.specs.declared.token.Terminal.TheVariants as terminal
use Rattle.sc_tree.specs.Plain.{Name, HandlerTag, DeclaredType}
use Rattle.sc_tree.specs.Bare.{named}
use Rattle.sc_tree.specs.Grammar as grammar
use Rattle.sc_tree.specs.Grammar.{type_of, IsNames, IsAttachment, IsHandlerTag, IsType, IsTestedType}
use Rattle.sc_tree.specs.Internal.Reading.{Taken, ◌>>=◌, same_terminal, sees, expect, expect_word, name, more_names, names, attachment, handler_of, handler_tag, declared_type, tested_type}
use Rattle.sc_tree.proofs.ReadingSteps.{bind_ok, choose_false}
use Rattle.sc_tree.proofs.Follows.{ChainFirst, name_first, current_first, result_first}

-- names as they are read: a first one, and what follows it
pub data NamesRead : List Name → List Kind → Type 0 where
  names_read : (x : List ℕ) (more : List Name) (c : List Kind) →
      ((f : ℕ) (found : List Name) (r : List Kind) → length c ≤ f → sees terminal.Comma r ≡ false → more_names f found (c ++ r) ≡ Ok (found ++ more, r)) → NamesRead (named x ∷ more) (NAME x ∷ c)

names_stay : (f : ℕ) (found : List Name) (r : List Kind) → sees terminal.Comma r ≡ false → more_names f found r ≡ Ok (found ++ [], r)
unfolding more_names
names_stay zero found r e = ap (λ (found : List Name). Ok (found, r)) (sym (append-nil found))
names_stay (suc f) found r e = choose_false _ _ _ e ∙ ap (λ (found : List Name). Ok (found, r)) (sym (append-nil found))

name_step : (f : ℕ) (found : List Name) (y : List ℕ) (more : List Name) (c r : List Kind) → more_names f (found ++ named y ∷ []) (c ++ r) ≡ Ok ((found ++ named y ∷ []) ++ more, r) →
    more_names (suc f) found (TERMINAL terminal.Comma ∷ NAME y ∷ (c ++ r)) ≡ Ok (found ++ named y ∷ more, r)
unfolding more_names same_terminal
name_step f found y more c r e = e ∙ ap (λ (xs : List Name). Ok (xs, r)) (append_assoc found (named y ∷ []) more)

pub names_are_read : {xs : List Name} {c : List Kind} → IsNames xs c → NamesRead xs c
names_are_read (grammar.one_name x) = names_read x [] [] (λ f found r l e. names_stay f found r e)
names_are_read (grammar.more_names x d) = go (names_are_read d)
  where
    go : {xs : List Name} {c : List Kind} → NamesRead xs c → NamesRead (named x ∷ xs) (NAME x ∷ TERMINAL terminal.Comma ∷ c)
    go (names_read y more c all) =
        names_read x (named y ∷ more) (TERMINAL terminal.Comma ∷ NAME y ∷ c) at
      where
        at : (f : ℕ) (found : List Name) (r : List Kind) → suc (suc (length c)) ≤ f → sees terminal.Comma r ≡ false → more_names f found (TERMINAL terminal.Comma ∷ NAME y ∷ (c ++ r)) ≡ Ok (found ++ named y ∷ more, r)
        at zero found r l e = absurd (omega arith)
        at (suc f) found r l e = name_step f found y more c r (all f (found ++ named y ∷ []) r (omega arith) e)

pub complete_names : {xs : List Name} {c : List Kind} → IsNames xs c → (r : List Kind) → sees terminal.Comma r ≡ false → names (c ++ r) ≡ Ok (xs, r)
unfolding names
complete_names d r e = go (names_are_read d)
  where
    go : {xs : List Name} {c : List Kind} → NamesRead xs c → (name (c ++ r) >>= λ x. more_names (length x.1) (x.0 ∷ []) x.1) ≡ Ok (xs, r)
    go (names_read x more c all) = all (length (c ++ r)) (named x ∷ []) r (shorter (length-append c r)) e
      where
        shorter : length (c ++ r) ≡ length c + length r → length c ≤ length (c ++ r)
        shorter e = omega arith

-- ---- types

attachment_seen : {d : Bool} {g : HandlerTag} {cd cg : List Kind} → IsAttachment d cd → IsHandlerTag g cg → (x : List ℕ) (r : List Kind) → attachment (cd ++ (cg ++ NAME x ∷ r)) ≡ (d, cg ++ NAME x ∷ r)
unfolding attachment same_terminal
attachment_seen grammar.unmarked grammar.own x r = refl
attachment_seen grammar.unmarked grammar.separate x r = refl
attachment_seen grammar.unmarked (grammar.handler_of y) x r = refl
attachment_seen grammar.attached g x r = refl
attachment_seen grammar.exclamation g x r = refl
attachment_seen grammar.detachable g x r = refl
attachment_seen grammar.question g x r = refl

handler_tag_read : {g : HandlerTag} {c : List Kind} → IsHandlerTag g c → (x : List ℕ) (r : List Kind) → handler_tag (c ++ NAME x ∷ r) ≡ Ok (g, NAME x ∷ r)
unfolding handler_tag handler_of same_terminal expect expect_word
handler_tag_read grammar.own x r = refl
handler_tag_read grammar.separate x r = refl
handler_tag_read (grammar.handler_of y) x r = refl

-- a type, where its mark is known
abbrev type_with : Bool × List Kind → Taken DeclaredType
type_with a = handler_tag a.1 >>= λ g. name g.1 >>= λ x. Ok (type_of a.0 g.0 x.0, x.1)

type_is_with : (ts : List Kind) → declared_type ts ≡ type_with (attachment ts)
unfolding declared_type
type_is_with ts = refl

type_respelled : (cd cg r : List Kind) (k : Kind) → (cd ++ (cg ++ k ∷ [])) ++ r ≡ cd ++ (cg ++ k ∷ r)
type_respelled cd cg r k = simp append_assoc

pub complete_type : {t : DeclaredType} {c : List Kind} → IsType t c → (r : List Kind) → declared_type (c ++ r) ≡ Ok (t, r)
complete_type (grammar.type {d} {g} {cd} {cg} dd dg x) r =
    ap declared_type (type_respelled cd cg r (NAME x)) ∙ type_is_with (cd ++ (cg ++ NAME x ∷ r)) ∙ ap type_with (attachment_seen dd dg x r)
    ∙ bind_ok (handler_tag (cg ++ NAME x ∷ r)) (g, NAME x ∷ r) (λ g. name g.1 >>= λ x. Ok (type_of d g.0 x.0, x.1)) (handler_tag_read dg x r)

no_brace : (ts : List Kind) → ChainFirst ts → tested_type ts ≡ Ok (None, ts)
unfolding tested_type same_terminal
no_brace _ (name_first x r) = refl
no_brace _ (current_first r) = refl
no_brace _ (result_first r) = refl

brace_read : (t : DeclaredType) (c r : List Kind) → declared_type (c ++ TERMINAL terminal.CloseBrace ∷ r) ≡ Ok (t, TERMINAL terminal.CloseBrace ∷ r) →
    tested_type (TERMINAL terminal.OpenBrace ∷ (c ++ TERMINAL terminal.CloseBrace ∷ r)) ≡ Ok (Some t, r)
unfolding tested_type same_terminal expect
brace_read t c r e = bind_ok (declared_type (c ++ TERMINAL terminal.CloseBrace ∷ r)) (t, TERMINAL terminal.CloseBrace ∷ r) (λ t. expect terminal.CloseBrace t.1 >>= λ rest. Ok (Some t.0, rest)) e

pub complete_tested_type : {o : Option DeclaredType} {c : List Kind} → IsTestedType o c → (r : List Kind) → ChainFirst r → tested_type (c ++ r) ≡ Ok (o, r)
complete_tested_type grammar.no_type r f = no_brace r f
complete_tested_type (grammar.tested_type {t} {c} d) r f = ap tested_type (ap (λ (r : List Kind). TERMINAL terminal.OpenBrace ∷ r) (append_assoc c (TERMINAL terminal.CloseBrace ∷ []) r)) ∙ brace_read t c r (complete_type d (TERMINAL terminal.CloseBrace ∷ r))
