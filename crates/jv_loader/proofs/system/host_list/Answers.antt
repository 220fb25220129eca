use Rattle.std.proofs.Common.{◌∙◌}
use Rattle.jv_loader.proofs.Hosting.{before_io, has_first, has_front, has_io, has_more, wants_first, wants_front, wants_io, wants_more}
use Rattle.jv_loader.proofs.system.host_list.Goals as goal

pub add_known_files-requires : goal.add_known_files-requires
add_known_files-requires c =
    let n = c.min-before.ensures ∙ before_io c.args.lent.now c.args.front.now c.requires.0 c.requires.1 in
    wants_first c.args.lent.now c.args.front.now c.requires.0 c.requires.1 c.min-before.result c.new-list.result n c.new-list.ensures

pub add-requires : goal.add-requires
add-requires c =
    let n = c.min-before.ensures ∙ before_io c.args.lent.now c.args.front.now c.requires.0 c.requires.1 in
    let one = has_first c.args.lent.now c.args.front.now c.requires.0 c.requires.1 c.min-before.result c.new-list.result
    c.add_known_files.new.list n c.new-list.ensures c.in_ok-add_known_files.ensures in
    wants_io c.args.lent.now c.args.front.now c.requires.0 c.requires.1 c.add_known_files.new.list c.in_ok-host_io.field-0 one c.in_ok-host_io.ensures

pub add_known_files-requires-2 : goal.add_known_files-requires-2
add_known_files-requires-2 c =
    let n = c.min-before.ensures ∙ before_io c.args.lent.now c.args.front.now c.requires.0 c.requires.1 in
    let one = has_first c.args.lent.now c.args.front.now c.requires.0 c.requires.1 c.min-before.result c.new-list.result
    c.add_known_files.new.list n c.new-list.ensures c.in_ok-add_known_files.ensures in
    let two = has_io c.args.lent.now c.args.front.now c.requires.0 c.requires.1 c.add_known_files.new.list c.add.new.self c.in_ok-host_io.field-0 one c.in_ok-host_io.ensures c.in_ok-add.ensures.ok in
    wants_more c.args.lent.now c.args.front.now c.requires.0 c.requires.1 c.min-before.result c.add.new.self n two

pub add_known_files-requires-3 : goal.add_known_files-requires-3
add_known_files-requires-3 c =
    let n = c.min-before.ensures ∙ before_io c.args.lent.now c.args.front.now c.requires.0 c.requires.1 in
    let one = has_first c.args.lent.now c.args.front.now c.requires.0 c.requires.1 c.min-before.result c.new-list.result
    c.add_known_files.new.list n c.new-list.ensures c.in_ok-add_known_files.ensures in
    let two = has_io c.args.lent.now c.args.front.now c.requires.0 c.requires.1 c.add_known_files.new.list c.add.new.self c.in_ok-host_io.field-0 one c.in_ok-host_io.ensures c.in_ok-add.ensures.ok in
    let three = has_more c.args.lent.now c.args.front.now c.requires.0 c.requires.1 c.min-before.result c.add.new.self c.add_known_files-2.new.list n two c.in_ok-add_known_files-2.ensures in
    wants_front c.args.lent.now c.args.front.now c.requires.0 c.requires.1 c.add_known_files-2.new.list three

pub returns : goal.returns
returns c = λ given files.
    let n = c.min-before.ensures ∙ before_io c.args.lent.now c.args.front.now given files in
    let one = has_first c.args.lent.now c.args.front.now given files c.min-before.result c.new-list.result
    c.add_known_files.new.list n c.new-list.ensures c.in_ok-add_known_files.ensures in
    let two = has_io c.args.lent.now c.args.front.now given files c.add_known_files.new.list c.add.new.self c.in_ok-host_io.field-0 one c.in_ok-host_io.ensures c.in_ok-add.ensures.ok in
    let three = has_more c.args.lent.now c.args.front.now given files c.min-before.result c.add.new.self c.add_known_files-2.new.list n two c.in_ok-add_known_files-2.ensures in
    has_front c.args.lent.now c.args.front.now given files c.add_known_files-2.new.list c.add_known_files-3.new.list three c.in_ok-add_known_files-3.ensures
