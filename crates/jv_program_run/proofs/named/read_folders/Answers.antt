use Rattle.std.proofs.lemmas.Grind.{common_steps}
use Rattle.std.proofs.Common.{◌≡◌, ◌∷◌, ◌++◌, [], arith, map, ◌∙◌}
use Rattle.jv_program_base.specs.declared.failure.Failure.TheVariants.{OutOfMemory}
use Rattle.jv_limits.specs.Bytes.{bytes_of}
use Rattle.jv_program_base.specs.Unread.{IsUnread}
use Rattle.jv_program_base.proofs.Places.{in_place, passed_on}
use Rattle.jv_program_run.specs.Named.{IsFirstUnread}
use Rattle.jv_program_run.proofs.Read.{first_unread, next_folder}
use Rattle.jv_program_run.proofs.named.read_folders.Goals as goal

pub loop-word-preserved : goal.loop-word-preserved
loop-word-preserved g c =
    let words = c.args.words.now in
    let k = c.loop-word.word-index in
    let after : c.push.new.self.items ≡ c.loop-word.read.items ++ c.in_ok-folder.folder ∷ [] = grind (arith, common_steps) in
    record {
      read = next_folder (g.F.Folders.disk c.args.folders.now) (g.F.Folders.disk c.loop-word.folders) words k _ c.loop-word.read.items c.in_ok-folder.folder c.push.new.self.items
          (in_place words k _ c.loop-word-test.true) after c.loop-word.invariant.read c.loop-word.invariant.disk (c.in_ok-folder.ensures {u = tt}).ok;
      disk = c.read_folder.ensures.disk ∙ c.loop-word.invariant.disk;
    }

pub returns-in_err-folder-clause-err : goal.returns-in_err-folder-clause-err
returns-in_err-folder-clause-err g c =
    let disk = g.F.Folders.disk c.args.folders.now in
    let words = c.args.words.now in
    let k = c.loop-word.word-index in
    let failure = c.in_err-folder.field-0.0 in
    passed_on c.from_residual.result failure (IsUnread (IsFirstUnread disk (map bytes_of words))) c.from_residual.ensures.1
    (first_unread disk (g.F.Folders.disk c.loop-word.folders) words k _ c.loop-word.read.items failure c.loop-word.invariant.disk
    (in_place words k _ c.loop-word-test.true) c.loop-word.invariant.read (c.in_err-folder.ensures {u = tt}).err)

pub returns-in_err-map_err-clause-err : goal.returns-in_err-map_err-clause-err
returns-in_err-map_err-clause-err g c =
    let disk = g.F.Folders.disk c.args.folders.now in
    passed_on c.from_residual-in_err-map_err.result OutOfMemory (IsUnread (IsFirstUnread disk (map bytes_of c.args.words.now)))
    c.from_residual-in_err-map_err.ensures.1 tt
