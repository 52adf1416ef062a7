use Rattle.std.proofs.Common.{List, ℕ, Some, map, length, ap, subst, sym, ◌∙◌, arith}
use Rattle.std.specs.Prelude.{slice_get, string_bytes}
use Rattle.std.specs.List.{range_with_len}
use Rattle.std.specs.declared.alloc.Global.{Global}
use Rattle.std.specs.declared.string.String.{String}
use Rattle.std.proofs.lemmas.List.{length-map}
use Rattle.std.proofs.lemmas.Result.{err_from_is_err_and}
use Rattle.sc_class.specs.ClassNames.{Root}
use Rattle.sc_class.specs.SystemIn.{system_in}
use Rattle.sc_class.specs.View.{entry_of}
use Rattle.sc_class.specs.declared.class_tables.Tables.{Tables}
use Rattle.sc_typing.specs.FeatureNumbers.{all_features}
use Rattle.sc_code.specs.View.{Pool}
use Rattle.sc_code.specs.Programs.{class_code_of, pool_of}
use Rattle.sc_code.specs.RequestRoom.{AreDistinct, BlocksFit, CallsFit, CreationsFit}
use Rattle.sc_lower.specs.Pools.{Grows, pool_in}
use Rattle.sc_lower.proofs.Codes.{codes_kept}
use Rattle.sc_lower.proofs.Growth.{extends_itself}
use Rattle.sc_lower.proofs.image.image.Goals as goal

pub lower_routines-requires-clause-in_order : goal.lower_routines-requires-clause-in_order
lower_routines-requires-clause-in_order c = ap (map entry_of) c.deref.ensures.value ∙ c.in_ok-features.ensures

pub returns-in_err-routines-clause-too_long : goal.returns-in_err-routines-clause-too_long
returns-in_err-routines-clause-too_long c =
    let q = err_from_is_err_and c.from_residual-in_err-routines.result c.from_residual-in_err-routines.ensures.1 in
    rw (q.1, q.2) c.in_err-routines.ensures.too_long

pub returns-clause-image : goal.returns-clause-image
returns-clause-image c =
    let tables = c.args.tables.now in
    let s = system_in tables in
    let p = pool_in c.lower_routines.new.linker in
    let q = pool_of c.in_ok-pool.pool in
    let grown : Grows p q = subst (Grows p) (sym c.in_ok-pool.ensures) (record {
      names = c.in_ok-root_procedure.ensures.kept;
      texts = extends_itself p.texts;
      calls = extends_itself p.calls;
      creations = extends_itself p.creations;
      tests = extends_itself p.tests;
      demands = extends_itself p.demands;
      blocks = extends_itself p.blocks;
    }) in
    record {
      routines = codes_kept s p q grown c.in_ok-routines.routines.codes.items (all_features s) c.in_ok-routines.ensures.codes;
      classes = c.in_ok-classes.ensures
          ∙ ap (λ (names : List (String Global)). map (class_code_of (system_in c.in_ok-numbering.numbering.tables.now) (map string_bytes names))
          (range_with_len 0 (length (system_in c.in_ok-numbering.numbering.tables.now).classes))) c.deref-3.ensures.value
          ∙ ap (λ (t : Tables). map (class_code_of (system_in t) q.names) (range_with_len 0 (length (system_in t).classes))) c.in_ok-numbering.ensures;
      root_class = c.root_class.ensures;
      root_procedure = ap (λ (r : Pool). slice_get r.names c.in_ok-root_procedure.root_procedure) c.in_ok-pool.ensures ∙ c.in_ok-root_procedure.ensures.found
          ∙ ap (λ (x : List ℕ). Some x) (c.deref-2.ensures ∙ ap (λ (r : Root). r.procedure) c.root.ensures.same);
      instructions = c.in_ok-routines.ensures.instructions;
    }

pub returns-clause-fits_requests : goal.returns-clause-fits_requests
returns-clause-fits_requests c =
    let l = c.lower_routines.new.linker in
    let names = c.in_ok-pool.pool.names in
    record {
      distinct = subst (λ (p : Pool). AreDistinct p.names) (sym c.in_ok-pool.ensures) c.number.ensures.distinct;
      names = omega (arith, length-map names.items string_bytes, names.ok.0, c.len.ensures, c.in_ok-_names.ensures.same, c.in_ok-_names.ensures.fits);
      calls = subst (λ (p : Pool). CallsFit p.calls) (sym c.in_ok-pool.ensures) l.calls_fit;
      creations = subst (λ (p : Pool). CreationsFit p.creations) (sym c.in_ok-pool.ensures) l.creations_fit;
      blocks = subst (λ (p : Pool). BlocksFit p.blocks) (sym c.in_ok-pool.ensures) l.blocks_fit;
    }
