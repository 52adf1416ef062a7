use Rattle.std.proofs.Common.{◌≡◌, ◌+◌, ◌++◌, List, Option, map, drop, append-nil, sym, ap, subst, ◌∙◌, arith}
use Rattle.std.specs.Prelude.{Contains}
use Rattle.std.specs.Option.{option_map}
use Rattle.std.proofs.lemmas.List.{at_drop_all}
use Rattle.sc_class.specs.declared.class_tables.feature_entry.FeatureEntry.{FeatureEntry}
use Rattle.sc_class.specs.SystemIn.{system_in}
use Rattle.sc_class.specs.View.{entry_of}
use Rattle.sc_class.proofs.Items.{contains_at, item_in}
use Rattle.sc_model.specs.Routines.{routine_of}
use Rattle.sc_code.specs.declared.program.RoutineCode.{RoutineCode}
use Rattle.sc_lower.specs.Pools.{pool_in}
use Rattle.sc_code.specs.Programs.{PlainRoutine, codes_of, length_of_codes, routine_in}
use Rattle.sc_lower.proofs.Codes.{instructions_of, as_many, code_added, next_counted}
use Rattle.sc_lower.proofs.program.routines.lower_routines.Goals as goal

pub loop-entry-init : goal.loop-entry-init
loop-entry-init c =
    let s = system_in c.args.tables.now in
    let p = pool_in c.args.linker.now in
    record {
      codes = ap (λ (os : List (Option RoutineCode)). map (option_map (routine_in p)) os ++ codes_of s (map entry_of c.args.features.now)) c.in_ok-codes.ensures.items;
      instructions = omega arith;
      fits = omega arith;
    }

pub loop-entry-preserved : goal.loop-entry-preserved
loop-entry-preserved c =
    let s = system_in c.args.tables.now in
    let p = pool_in c.loop-entry.linker in
    let q = pool_in c.feature_code.new.linker in
    let fs = c.args.features.now in
    let i = c.loop-entry.entry-index in
    let f = c.entry-item.result in
    let o = c.in_ok-code.code in
    let before = c.loop-entry.invariant in
    let more : c.length_of.result ≡ instructions_of s (routine_of s (entry_of f)) = c.length_of.ensures ∙ as_many s q o (routine_of s (entry_of f)) c.in_ok-code.ensures.code in
    let left = next_counted s fs i f c.loop-entry-test.true c.entry-item.is in
    record {
      codes = ap (λ (os : List (Option RoutineCode)). map (option_map (routine_in q)) os ++ codes_of s (map entry_of (drop (i + 1) fs))) c.in_ok-push.ensures.items
          ∙ code_added s fs i f c.loop-entry-test.true c.entry-item.is p q c.in_ok-code.ensures.grows c.loop-entry.codes.items o c.in_ok-code.ensures.code before.codes;
      instructions = omega (arith, c.in-Some.ensures.counted, more, left, before.instructions);
      fits = c.in-Some.ensures.fits;
    }

-- the code of this feature is too much already
pub returns-in_default-clause-too_long : goal.returns-in_default-clause-too_long
returns-in_default-clause-too_long c =
    let s = system_in c.args.tables.now in
    let q = pool_in c.feature_code.new.linker in
    let fs = c.args.features.now in
    let i = c.loop-entry.entry-index in
    let f = c.entry-item.result in
    let more : c.length_of.result ≡ instructions_of s (routine_of s (entry_of f)) =
    c.length_of.ensures ∙ as_many s q c.in_ok-code.code (routine_of s (entry_of f)) c.in_ok-code.ensures.code in
    let left = next_counted s fs i f c.loop-entry-test.true c.entry-item.is in
    let all = ap (length_of_codes s) c.requires.in_order in
    λ same. omega (arith, c.counted.ensures.too_many c.in_default.is, more, left, c.loop-entry.invariant.instructions, all)

pub returns-clause-codes : goal.returns-clause-codes
returns-clause-codes c =
    let s = system_in c.args.tables.now in
    let done = at_drop_all (λ (fs : List FeatureEntry). codes_of s (map entry_of fs)) c.args.features.now c.loop-entry.entry-index (omega (arith, c.loop-entry-test.false)) in
    let codes = map (option_map (routine_in (pool_in c.loop-entry.linker))) c.loop-entry.codes.items in
    sym (append-nil codes) ∙ ap (λ (rest : List (Option PlainRoutine)). codes ++ rest) (sym done) ∙ c.loop-entry.invariant.codes ∙ ap (codes_of s) c.requires.in_order

pub returns-clause-instructions : goal.returns-clause-instructions
returns-clause-instructions c =
    let s = system_in c.args.tables.now in
    let done = at_drop_all (λ (fs : List FeatureEntry). length_of_codes s (map entry_of fs)) c.args.features.now c.loop-entry.entry-index (omega (arith, c.loop-entry-test.false)) in
    let all = ap (length_of_codes s) c.requires.in_order in
    omega (arith, done, all, c.loop-entry.invariant.instructions)

pub feature_code-requires-clause-is_there : goal.feature_code-requires-clause-is_there
feature_code-requires-clause-is_there c =
    let fs = c.args.features.now in
    let i = c.loop-entry.entry-index in
    let f = c.entry-item.result in
    subst (λ gs. Contains gs (entry_of f)) c.requires.in_order (contains_at (map entry_of fs) i (entry_of f) (item_in entry_of fs i f c.loop-entry-test.true c.entry-item.is))
