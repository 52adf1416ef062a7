use Rattle.std.proofs.Common.{◌≡◌, List, ℕ, Some, ap, sym, ◌∙◌}
use Rattle.std.specs.Borrow.{Bor}
use Rattle.std.specs.Option.{option_map}
use Rattle.sc_tree.specs.declared.system.Routine.{Routine}
use Rattle.sc_tree.specs.Plain as tree
use Rattle.sc_tree.specs.View.{feature_of, routine_of}
use Rattle.sc_class.specs.SystemIn.{root_in, system_in}
use Rattle.sc_class.specs.View.{entry_of}
use Rattle.sc_class.specs.Tables.Heirs.{topmost_along}
use Rattle.sc_model.specs.Routines.{origin_of, routine_with}
use Rattle.sc_routines.specs.Sources.{source_in}
use Rattle.sc_lower.proofs.Origins.{topmost_is_origin, routine_is, without_origin, without_contract}
use Rattle.sc_lower.proofs.program.sources.source.Goals as goal

-- no declaration is no redefinition
pub returns-in_err-origin : goal.returns-in_err-origin
unfolding feature_of
returns-in_err-origin c =
    let s = system_in c.args.tables.now in
    let f = entry_of c.args.entry in
    let found : option_map entry_of c.origin.result ≡ origin_of s f =
    c.origin.ensures ∙ ap (λ (x : List ℕ). topmost_along s x c.ancestors.result.now) c.as_str-name.ensures.value
    ∙ ap (topmost_along s f.feature.name.text) c.ancestors.ensures ∙ topmost_is_origin s (root_in c.args.tables.now) c.args.tables.now.faultless f in
    ap (option_map (source_in s)) c.from_residual.ensures ∙ sym (without_origin s f (sym found ∙ ap (option_map entry_of) c.in_err-origin.was))

-- the first declaration is an attribute
pub returns-in_err-contract : goal.returns-in_err-contract
unfolding feature_of
returns-in_err-contract c =
    let s = system_in c.args.tables.now in
    let f = entry_of c.args.entry in
    let found : option_map entry_of c.origin.result ≡ origin_of s f =
    c.origin.ensures ∙ ap (λ (x : List ℕ). topmost_along s x c.ancestors.result.now) c.as_str-name.ensures.value
    ∙ ap (topmost_along s f.feature.name.text) c.ancestors.ensures ∙ topmost_is_origin s (root_in c.args.tables.now) c.args.tables.now.faultless f in
    let there : origin_of s f ≡ Some (entry_of c.in_ok-origin.origin) = sym found ∙ ap (option_map entry_of) c.in_ok-origin.was in
    ap (option_map (source_in s)) c.from_residual-in_err-contract.ensures
    ∙ sym (without_contract s f (entry_of c.in_ok-origin.origin) there
    (sym c.routine_of-2.ensures ∙ ap (option_map (λ (routine : Bor Routine). routine_of routine.now)) c.in_err-contract.was))

pub returns : goal.returns
unfolding feature_of
returns c =
    let s = system_in c.args.tables.now in
    let f = entry_of c.args.entry in
    let found : option_map entry_of c.origin.result ≡ origin_of s f =
    c.origin.ensures ∙ ap (λ (x : List ℕ). topmost_along s x c.ancestors.result.now) c.as_str-name.ensures.value
    ∙ ap (topmost_along s f.feature.name.text) c.ancestors.ensures ∙ topmost_is_origin s (root_in c.args.tables.now) c.args.tables.now.faultless f in
    let there : origin_of s f ≡ Some (entry_of c.in_ok-origin.origin) = sym found ∙ ap (option_map entry_of) c.in_ok-origin.was in
    ap (λ (x : List ℕ). routine_with s x f.class (tree.Routine (routine_of c.in_ok-routine.routine.now)) c.in_ok-origin.origin.class (tree.Routine (routine_of c.in_ok-contract.contract.now))) c.as_str-name.ensures.value
    ∙ sym (
    routine_is s f (entry_of c.in_ok-origin.origin) there (routine_of c.in_ok-routine.routine.now) (routine_of c.in_ok-contract.contract.now)
    (sym c.routine_of.ensures ∙ ap (option_map (λ (routine : Bor Routine). routine_of routine.now)) c.in_ok-routine.was)
    (sym c.routine_of-2.ensures ∙ ap (option_map (λ (routine : Bor Routine). routine_of routine.now)) c.in_ok-contract.was)
    )
