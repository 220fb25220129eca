use Rattle.std.proofs.Common.{ap}
use Rattle.std.specs.Prelude.{option_map}
use Rattle.jv_limits.specs.Bytes.{bytes_of}
use Rattle.jv_program_base.proofs.NoLibrary.{no_library}
use Rattle.jv_program_base.proofs.library.read_library.Goals as goal

pub returns-clause-err : goal.returns-clause-err
returns-clause-err g c =
    no_library (g.F.Folders.disk c.args.folders.now) (option_map bytes_of c.args.word) c.in-Some.word.now c.in_ok-files.files.items c.as_slice.result.now
    c.system_of.result (ap (option_map bytes_of) c.in-Some.is) (c.in_ok-files.ensures {u = tt}).ok c.as_slice.ensures.value c.system_of.ensures.err
