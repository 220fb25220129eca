use Rattle.std.proofs.Common.{map, option_map}
use Rattle.jv_limits.specs.Bytes.{bytes_of}
use Rattle.jv_program_base.proofs.Places.{passed_on}
use Rattle.jv_program_check.specs.Named.{IsNamedFailure}
use Rattle.jv_program_check.proofs.NotRead.{named_unread}
use Rattle.jv_program_check.proofs.named.check_named.Goals as goal

-- the library was read, and a file was not
pub returns-in_err-files-clause-err : goal.returns-in_err-files-clause-err
returns-in_err-files-clause-err g c =
    let disk = g.F.Folders.disk c.args.folders.now in
    let library = option_map bytes_of c.args.library in
    let names = map bytes_of c.args.names.now in
    let failure = c.in_err-files.field-0.0 in
    passed_on c.from_residual-in_err-files.result failure (IsNamedFailure disk library names) c.from_residual-in_err-files.ensures.1
    (named_unread disk (g.F.Folders.disk c.read_library.new.folders) library names c.in_ok-system.system failure c.read_library.ensures.disk
    (c.in_ok-system.ensures {u = tt}).ok (c.in_err-files.ensures {u = tt}).err)
