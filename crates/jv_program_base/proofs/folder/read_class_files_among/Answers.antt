use Rattle.std.proofs.Common.{map}
use Rattle.jv_limits.specs.Bytes.{bytes_of}
use Rattle.jv_program_base.specs.Folder.{AreClassNames}
use Rattle.jv_program_base.proofs.ClassFileNames.{class_files_of, class_names}
use Rattle.jv_program_base.proofs.NotRead.{class_file_lacks}
use Rattle.jv_program_base.proofs.folder.read_class_files_among.Goals as goal

pub returns-clause-ok : goal.returns-clause-ok
returns-clause-ok g c =
    let disk = g.F.Folders.disk c.args.folders.now in
    let lent = c.as_slice.result.now in
    let order : AreClassNames (map bytes_of c.args.names.now) (map bytes_of lent) =
    class_names c.args.names.now c.in_ok-class_names.class_names.items lent c.in_ok-class_names.ensures.same c.in_ok-class_names.ensures.order
    c.as_slice.ensures.value in
    class_files_of disk c.args.folder.now (map bytes_of c.args.names.now) (map bytes_of lent) c.read_class_files.result order
    c.read_class_files.ensures.named c.read_class_files.ensures.read

pub returns-clause-err : goal.returns-clause-err
returns-clause-err g c =
    let disk = g.F.Folders.disk c.args.folders.now in
    let lent = c.as_slice.result.now in
    let order : AreClassNames (map bytes_of c.args.names.now) (map bytes_of lent) =
    class_names c.args.names.now c.in_ok-class_names.class_names.items lent c.in_ok-class_names.ensures.same c.in_ok-class_names.ensures.order
    c.as_slice.ensures.value in
    class_file_lacks disk c.args.folder.now (map bytes_of c.args.names.now) (map bytes_of lent) c.read_class_files.result order c.read_class_files.ensures.err
