use Rattle.std.proofs.Common.{◌≡◌, [], ◌∷◌, ◌++◌, arith, map, ◌∙◌}
use Rattle.std.proofs.lemmas.Grind.{common_steps}
use Rattle.jv_limits.specs.Bytes.{bytes_of}
use Rattle.jv_program_base.specs.Unread.{IsUnread}
use Rattle.jv_program_base.proofs.Places.{in_place, passed_on}
use Rattle.jv_program_check.specs.Named.{IsFirstUnread}
use Rattle.jv_program_check.proofs.NotRead.{first_unread}
use Rattle.jv_program_check.proofs.Read.{next_file}
use Rattle.jv_program_check.proofs.named.read_classes.Goals as goal

pub loop-name-preserved : goal.loop-name-preserved
loop-name-preserved g c =
    let disk = g.F.Folders.disk c.args.folders.now in
    let names = c.args.names.now in
    let k = c.loop-name.name-index in
    let after : c.push.new.self.items ≡ c.loop-name.files.items ++ c.in_ok-bytes.bytes ∷ [] = grind (arith, common_steps) in
    record {
      read = next_file disk (g.F.Folders.disk c.loop-name.folders) names k _ c.loop-name.files.items c.in_ok-bytes.bytes c.push.new.self.items
          (in_place names k _ c.loop-name-test.true) after c.loop-name.invariant.read c.loop-name.invariant.disk (c.in_ok-bytes.ensures {u = tt}).read;
      disk = c.read_class.ensures.disk ∙ c.loop-name.invariant.disk;
    }

-- the file of the name at this place was not read
pub returns-in_err-bytes-clause-err : goal.returns-in_err-bytes-clause-err
returns-in_err-bytes-clause-err g c =
    let disk = g.F.Folders.disk c.args.folders.now in
    let names = c.args.names.now in
    let k = c.loop-name.name-index in
    let failure = c.in_err-bytes.field-0.0 in
    passed_on c.from_residual.result failure (IsUnread (IsFirstUnread disk (map bytes_of names))) c.from_residual.ensures.1
    (first_unread disk (g.F.Folders.disk c.loop-name.folders) names k _ c.loop-name.files.items failure c.loop-name.invariant.disk
    (in_place names k _ c.loop-name-test.true) c.loop-name.invariant.read (c.in_err-bytes.ensures {u = tt}).err)
