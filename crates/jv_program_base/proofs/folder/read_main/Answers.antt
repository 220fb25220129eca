use Rattle.std.proofs.lemmas.Grind.{common_steps}
use Rattle.std.proofs.Common.{◌<◌, List, ℕ, arith, length, subst, sym}
use Rattle.std.specs.Prelude.{codes}
use Rattle.jv_program_base.specs.Disk.{LacksFileUpTo}
use Rattle.jv_program_base.specs.Folder.{path_in}
use Rattle.jv_program_base.proofs.NotRead.{long_file}
use Rattle.jv_program_base.proofs.folder.read_main.Goals as goal

pub returns-then-len-gt-CLASS_FILE_LIMIT-clause-err : goal.returns-then-len-gt-CLASS_FILE_LIMIT-clause-err
returns-then-len-gt-CLASS_FILE_LIMIT-clause-err g c =
    let disk = g.F.Folders.disk c.args.folders.now in
    let path = path_in c.args.folder.now (codes "main") in
    let main = c.in_ok-main.main.items in
    let told = c.in_ok-path_in.ensures in
    let more : 4194304 < length main = grind (arith, common_steps) in (
      told,
      subst (λ (p : List ℕ). LacksFileUpTo 4194304 disk p) (sym told)
          (long_file 4194304 disk path main (c.in_ok-main.ensures {u = tt}).read more),
    )
