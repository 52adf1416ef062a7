-- The entity at a number, and where it is declared.
use Rattle.std.proofs.Common.{Bor, ◌≡◌, ℕ, List, [], ◌∷◌, ◌++◌, map, Option, Some, None, Result, ap, sym, subst, ◌∙◌}
use Rattle.std.specs.Prelude.{OnOk, slice_get}
use Rattle.std.specs.Option.{option_map}
use Rattle.std.specs.declared.alloc.AllocError.{AllocError}
use Rattle.std.proofs.lemmas.Option.{slice_get-map}
use Rattle.std.specs.Option.{option_copied}
use Rattle.std.specs.Slice.{IsGetResult}
use Rattle.sc_text.specs.declared.token.Span.{Span}
use Rattle.sc_class.proofs.Anys.{got}
use Rattle.sc_tree.specs.Plain.{Name}
use Rattle.sc_typing.specs.declared.declarations.names.Entity.{Entity}
use Rattle.sc_typing.specs.Views.{entity_of}
use Rattle.sc_symbols.specs.declared.symbol.Mention.{Mention}
use Rattle.sc_symbols.specs.Mentions.{mention_of_entity, mentions_of_entity}
use Rattle.sc_symbols.proofs.Added.{named_if_ok, nothing}

-- what is read of a list in memory, and what isn't there
module _ {A : Type 0} (xs ys : List A) (i : ℕ) (o : Option (Bor A)) (same : xs ≡ ys) (read : IsGetResult xs i i o) where
  pub absent : o ≡ None → slice_get ys i ≡ None
  absent e = sym (subst (λ (zs : List A). option_copied o ≡ slice_get zs i) same (got xs i o read)) ∙ ap option_copied e

  pub present : (y : Bor A) → o ≡ Some y → slice_get ys i ≡ Some y.now
  present y e = sym (subst (λ (zs : List A). option_copied o ≡ slice_get zs i) same (got xs i o read)) ∙ ap option_copied e

module _ (names : List Entity) (places : List Span) (i : ℕ) (x : Name) where
  -- its view
  entity_at : (o : Option Entity) → slice_get names i ≡ o → slice_get (map entity_of names) i ≡ option_map entity_of o
  entity_at o e = slice_get-map entity_of names i ∙ ap (option_map entity_of) e

  pub no_entity : (old : List Mention) → slice_get names i ≡ None → old ≡ old ++ mentions_of_entity x (slice_get (map entity_of names) i) (slice_get places i)
  no_entity old e = nothing old _ (ap (λ o. mentions_of_entity x o (slice_get places i)) (entity_at None e))

  pub no_place : (e : Entity) (old : List Mention) → slice_get names i ≡ Some e → slice_get places i ≡ None →
      old ≡ old ++ mentions_of_entity x (slice_get (map entity_of names) i) (slice_get places i)
  no_place e old is none =
      nothing old _
      (ap (λ o. mentions_of_entity x o (slice_get places i)) (entity_at (Some e) is) ∙ ap (mentions_of_entity x (Some (entity_of e))) none)

  pub entity_known : (e : Entity) (p : Span) (r : Result Unit AllocError) (old new : List Mention) → slice_get names i ≡ Some e → slice_get places i ≡ Some p →
      OnOk r (new ≡ old ++ mention_of_entity x (entity_of e) p ∷ []) → OnOk r (new ≡ old ++ mentions_of_entity x (slice_get (map entity_of names) i) (slice_get places i))
  entity_known e p r old new is at added =
      named_if_ok r old new _ _
      (sym (ap (λ o. mentions_of_entity x o (slice_get places i)) (entity_at (Some e) is) ∙ ap (mentions_of_entity x (Some (entity_of e))) at)) added
