use Rattle.std.proofs.lemmas.Grind.{common_steps}
use Rattle.std.proofs.Common.{◌≡◌, [], ◌∷◌, ◌++◌, arith, map, subst, sym, ◌∙◌}
use Rattle.std.proofs.lemmas.List.Elements.{All-push}
use Rattle.std.specs.Prelude.{All}
use Rattle.jv_program_base.specs.Folder.{IsFileIn}
use Rattle.jv_program_base.specs.declared.failure.Failure.TheVariants.{OutOfMemory}
use Rattle.jv_limits.specs.Bytes.{bytes_of}
use Rattle.jv_program_base.specs.Unread.{IsFirstMissing, IsUnread}
use Rattle.jv_program_base.proofs.NotRead.{first_missing}
use Rattle.jv_program_base.proofs.Places.{in_place, passed_on}
use Rattle.jv_program_base.proofs.folder.read_class_files.Goals as goal

pub loop-name-preserved : goal.loop-name-preserved
loop-name-preserved g c =
    let disk = g.F.Folders.disk c.args.folders.now in
    let word = c.args.folder.now in
    let file = c.in_ok-class_file.class_file in
    let pushed : c.push.new.self.items ≡ c.loop-name.class_files.items ++ file ∷ [] = grind (arith, common_steps) in
    let read = (c.in_ok-class_file.ensures {u = tt}).read in
    record {
      named = grind (arith, common_steps);
      read = subst (All (IsFileIn disk word)) (sym pushed) (All-push (IsFileIn disk word) c.loop-name.class_files.items file c.loop-name.invariant.read
          (subst (λ d. IsFileIn d word file) c.loop-name.invariant.disk read));
      disk = c.read_class_file.ensures.disk ∙ c.loop-name.invariant.disk;
    }

pub returns-clause-named : goal.returns-clause-named
returns-clause-named g c = grind (arith, common_steps)

pub returns-in_err-class_file-clause-err : goal.returns-in_err-class_file-clause-err
returns-in_err-class_file-clause-err g c =
    let disk = g.F.Folders.disk c.args.folders.now in
    let word = c.args.folder.now in
    let names = c.args.names.now in
    let k = c.loop-name.name-index in
    let failure = c.in_err-class_file.field-0.0 in
    passed_on c.from_residual.result failure (IsUnread (IsFirstMissing disk word (map bytes_of names))) c.from_residual.ensures.1
    (first_missing disk (g.F.Folders.disk c.loop-name.folders) word names k _ c.loop-name.class_files.items failure c.loop-name.invariant.disk
    (in_place names k _ c.loop-name-test.true) c.loop-name.invariant.named c.loop-name.invariant.read (c.in_err-class_file.ensures {u = tt}).err)

pub returns-in_err-map_err-clause-err : goal.returns-in_err-map_err-clause-err
returns-in_err-map_err-clause-err g c =
    let disk = g.F.Folders.disk c.args.folders.now in
    passed_on c.from_residual-in_err-map_err.result OutOfMemory (IsUnread (IsFirstMissing disk c.args.folder.now (map bytes_of c.args.names.now)))
    c.from_residual-in_err-map_err.ensures.1 tt
