use Rattle.std.proofs.Common.{◌<◌, subst, sym, refl}
use Rattle.sc_class.specs.SystemIn.{root_in, system_in}
use Rattle.sc_class.specs.declared.class_tables.Tables.{Tables}
use Rattle.sc_check.specs.CheckedTables.{tables_of}
use Rattle.sc_code.specs.declared.program.Image.{Image}
use Rattle.sc_code.specs.Programs.{IsProgramOf, code_length}
use Rattle.sc_code.specs.RequestRoom.{FitsRequests}
use Rattle.sc_lower.proofs.program.lowering.lower_within.Goals as goal

pub of-requires-clause-checked : goal.of-requires-clause-checked
of-requires-clause-checked c =
    let t = tables_of c.args.checked in
    ∣ record {
      system = system_in t;
      root = root_in t;
      faultless = t.faultless;
      well_formed = c.args.checked.well_formed;
      program = subst (λ (u : Tables). IsProgramOf (system_in u) (root_in u) c.in-Ok.image) c.tables.ensures.same c.in-Ok.ensures.image;
    } ∣₁

pub returns-in-Ok-clause-lowered : goal.returns-in-Ok-clause-lowered
returns-in-Ok-clause-lowered c =
    let t = tables_of c.args.checked in
    subst (λ (i : Image). IsProgramOf (system_in t) (root_in t) i) (sym c.of.ensures)
    (subst (λ (t : Tables). IsProgramOf (system_in t) (root_in t) c.in-Ok.image) c.tables.ensures.same c.in-Ok.ensures.image)

pub returns-in-Ok-clause-fits_requests : goal.returns-in-Ok-clause-fits_requests
returns-in-Ok-clause-fits_requests c = subst (λ (i : Image). FitsRequests i) (sym c.of.ensures) c.in-Ok.ensures.fits_requests

pub returns-clause-refused : goal.returns-clause-refused
returns-clause-refused c =
    (refl, subst (λ (t : Tables). c.args.most < code_length (system_in t)) c.tables.ensures.same (c.in-Err-CodeTooLong.ensures.too_long c.in-Err-CodeTooLong.field-0-is))
