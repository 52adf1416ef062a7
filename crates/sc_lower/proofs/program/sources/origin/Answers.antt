use Rattle.std.proofs.Common.{◌≡◌, ◌+◌, ◌-◌, ◌<◌, ℕ, None, Some, length, drop, get_or, ap, sym, ◌∙◌, arith}
use Rattle.std.specs.Option.{option_map}
use Rattle.std.proofs.lemmas.List.{at_drop_all}
use Rattle.sc_class.specs.SystemIn.{system_in}
use Rattle.sc_class.specs.Tables.Features.{declared_features, named_among}
use Rattle.sc_class.specs.Tables.Heirs.{topmost_along}
use Rattle.sc_class.specs.View.{entry_of}
use Rattle.sc_lower.proofs.Origins.{topmost_here, topmost_below}
use Rattle.sc_lower.proofs.program.sources.origin.Goals as goal

pub loop-done-init : goal.loop-done-init
loop-done-init c = at_drop_all (topmost_along (system_in c.args.tables.now) c.args.name.now) c.args.classes.now (length c.args.classes.now - 0) (omega arith)

pub loop-done-preserved : goal.loop-done-preserved
loop-done-preserved c =
    let s = system_in c.args.tables.now in
    let x = c.args.name.now in
    let ks = c.args.classes.now in
    let i : ℕ = length c.args.classes.now - (c.loop-done.done + 1) in
    let next : i + 1 ≡ length c.args.classes.now - c.loop-done.done = omega arith in
    let within : i < length ks = omega arith in
    let here : length ks - 1 - c.loop-done.done ≡ i = omega arith in
    topmost_here s x ks i None within
    (sym (ap (option_map entry_of) c.in_default.is) ∙ c.declared.ensures ∙ ap (λ n. named_among x (declared_features s (get_or ks n 0))) here)
    (ap (λ n. topmost_along s x (drop n ks)) next ∙ c.loop-done.invariant)

pub returns-in-Some : goal.returns-in-Some
returns-in-Some c =
    let s = system_in c.args.tables.now in
    let x = c.args.name.now in
    let ks = c.args.classes.now in
    let i : ℕ = length c.args.classes.now - (c.loop-done.done + 1) in
    let next : i + 1 ≡ length c.args.classes.now - c.loop-done.done = omega arith in
    let within : i < length ks = omega arith in
    let here : length ks - 1 - c.loop-done.done ≡ i = omega arith in
    sym (topmost_below s x ks i (entry_of c.in-Some.entry)
    (topmost_here s x ks i (Some (entry_of c.in-Some.entry)) within
    (sym (ap (option_map entry_of) c.in-Some.is) ∙ c.declared.ensures ∙ ap (λ n. named_among x (declared_features s (get_or ks n 0))) here)
    (ap (λ n. topmost_along s x (drop n ks)) next ∙ c.loop-done.invariant)))

pub returns : goal.returns
returns c =
    let s = system_in c.args.tables.now in
    let all : length c.args.classes.now - c.loop-done.done ≡ 0 = omega arith in
    sym (sym (ap (λ n. topmost_along s c.args.name.now (drop n c.args.classes.now)) all) ∙ c.loop-done.invariant)
