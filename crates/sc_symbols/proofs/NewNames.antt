-- A text with a name in place of each use, piece after piece.
use Rattle.std.proofs.Common.{◌≡◌, ℕ, ◌+◌, ◌<◌, ◌≤◌, List, [], ◌∷◌, ◌++◌, length, drop, take, get_or, Result, Ok, Err, IfErr, refl, ap, sym, subst, ◌∙◌, append_assoc, arith}
use Rattle.std.specs.Prelude.{slice_range}
use Rattle.std.proofs.lemmas.List.{length-drop, take_all}
use Rattle.sc_text.specs.declared.token.Span.{Span}
use Rattle.sc_class.proofs.Anys.{at, drop_end}
use Rattle.sc_class.specs.ClassNames.{Root}
use Rattle.sc_frontend.specs.Texts.{IsRefusedFor}
use Rattle.sc_frontend.specs.declared.rejection.Rejection.{Rejection}
use Rattle.sc_frontend.specs.declared.rejection.Rejection.TheVariants as rejection
use Rattle.sc_symbols.specs.declared.symbol.Mention.{Mention}
use Rattle.sc_symbols.specs.Texts.{AreNamesIn}
use Rattle.sc_symbols.specs.Renaming.{IsIdentifier, KeepsMeaning, MayBeNamed, Renamed, StaysAccepted, WasRefused, renamed, renamed_from}

-- up to the end
pub slice_end : (xs : List ℕ) (a : ℕ) → slice_range xs a (length xs) ≡ drop a xs
slice_end xs a = ap (λ n. take n (drop a xs)) (sym (length-drop a xs)) ∙ take_all (length (drop a xs)) (drop a xs) (omega arith)

module _ (text name : List ℕ) (uses : List Span) (i place : ℕ) (total old : List ℕ) (so-far : total ≡ old ++ renamed_from place text (drop i uses) name) where
  -- one use more
  pub piece_next : (u : Span) (before one new : List ℕ) → i < length uses → u ≡ get_or uses i u → before ≡ slice_range text place u.start →
      one ≡ old ++ before → new ≡ one ++ name → total ≡ new ++ renamed_from u.end text (drop (i + 1) uses) name
  piece_next u before one new there is piece first second =
      let rest = renamed_from u.end text (drop (i + 1) uses) name in
      so-far ∙ ap (λ (us : List Span). old ++ renamed_from place text us name) (at uses i u there is)
      ∙ sym (append_assoc old (slice_range text place u.start) (name ++ rest))
      ∙ ap (λ ys. (old ++ ys) ++ (name ++ rest)) (sym piece)
      ∙ ap (λ ys. ys ++ (name ++ rest)) (sym first)
      ∙ sym (append_assoc one name rest)
      ∙ ap (λ ys. ys ++ rest) (sym second)

  -- the end of the text
  pub piece_last : (rest new : List ℕ) → length uses ≤ i → rest ≡ slice_range text place (length text) → new ≡ old ++ rest → new ≡ total
  piece_last rest new past is last =
      last ∙ ap (λ ys. old ++ ys) (is ∙ slice_end text place)
      ∙ ap (λ (us : List Span). old ++ renamed_from place text us name) (sym (drop_end uses i past))
      ∙ sym so-far

-- ---- what is promised

pub was_refused : (text : List ℕ) (root : Root) (e : Rejection) → (e ≡ rejection.OutOfMemory → ⊥) → IsRefusedFor text root e → WasRefused text root
was_refused text root e in_memory refused = record { why = e; in_memory = in_memory; refused = refused }

pub may_be_named : (text : List ℕ) (root : Root) (before after : List Mention) (r : Renamed) (name new : List ℕ) → IsIdentifier name → new ≡ renamed text r.uses name →
    AreNamesIn new root after → KeepsMeaning r before after → StaysAccepted text new root → MayBeNamed text root before r name
may_be_named text root before after r name new is e names keeps stays =
    record {
      is_identifier = is;
      after = after;
      names = subst (λ (x : List ℕ). AreNamesIn x root after) e names;
      keeps = keeps;
      stays = subst (λ (x : List ℕ). StaysAccepted text x root) e stays;
    }
