use Rattle.std.proofs.Common.{ℕ, List, Some, map, ap, ◌∙◌, slice_get, sym, subst}
use Rattle.std.specs.Option.{option_map}
use Rattle.std.specs.List.{list_any}
use Rattle.std.specs.Borrow.{Bor}
use Rattle.std.specs.Prelude.{bytes_eq}
use Rattle.std.proofs.lemmas.Option.{slice_get-map}
use Rattle.std.proofs.lemmas.Slice.Eq.{bytes_eq-Decides}
use Rattle.sc_lower.specs.Growing.{Extends}
use Rattle.sc_lower.proofs.FittingTables.{names_distinct}
use Rattle.sc_lower.proofs.Growth.{extends_added}
use Rattle.sc_lower.proofs.link_names.Names.number.Goals as goal

pub returns-clause-found : goal.returns-clause-found
returns-clause-found c =
    let found = c.in_ok-place.ensures.stored in
    ap (slice_get (map (λ (t : Bor (List ℕ)). t.now) c.insert_full.new.self.keys)) c.in_ok-number.ensures.same
    ∙ slice_get-map (λ (t : Bor (List ℕ)). t.now) c.insert_full.new.self.keys c.in_ok-place.place
    ∙ ap (option_map (λ (t : Bor (List ℕ)). t.now)) found.1
    ∙ ap (λ (x : List ℕ). Some x) (sym ((bytes_eq-Decides c.args.text.now found.0.now).0 found.2))

pub returns-clause-kept : goal.returns-clause-kept
returns-clause-kept c =
    subst (λ (old : List (List ℕ)). Extends old (map (λ (t : Bor (List ℕ)). t.now) c.insert_full.new.self.keys)) c.self.view_is
    (extends_added (λ (t : Bor (List ℕ)). t.now) (list_any (λ (k : Bor (List ℕ)). bytes_eq c.args.text.now k.now) c.self.inside.texts.keys) c.self.inside.texts.keys c.insert_full.new.self.keys c.args.text c.in_ok-place.ensures.keys)

pub returns-in_err-place-clause-distinct : goal.returns-in_err-place-clause-distinct
returns-in_err-place-clause-distinct c = names_distinct c.insert_full.new.self.keys c.insert_full.ensures.unique

pub returns-in_err-number-clause-distinct : goal.returns-in_err-number-clause-distinct
returns-in_err-number-clause-distinct c = names_distinct c.insert_full.new.self.keys c.insert_full.ensures.unique

pub returns-clause-distinct : goal.returns-clause-distinct
returns-clause-distinct c = names_distinct c.insert_full.new.self.keys c.insert_full.ensures.unique
