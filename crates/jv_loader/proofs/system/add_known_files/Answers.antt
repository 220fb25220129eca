use Rattle.std.proofs.Common.{[], ◌++◌, ◌∙◌, ap, map}
use Rattle.jv_meaning_world.specs.World.{loaded}
use Rattle.jv_loader.proofs.Hosting.{all_more, is_new, one_more}
use Rattle.jv_loader.proofs.system.add_known_files.Goals as goal

pub loop-file-preserved : goal.loop-file-preserved
loop-file-preserved c = λ classes held joins.
    one_more c.args.files.now c.loop-file.file-index (record { ref_ptr = (0, 0); now = [] }) c.loop-file-test.true classes held c.args.by_system c.args.list.now
    c.loop-file.list joins (c.loop-file.invariant classes held joins) c.add_known_file.new.list c.in_ok-add_known_file.ensures

pub add_known_file-requires : goal.add_known_file-requires
add_known_file-requires c =
    is_new c.args.files.now c.loop-file.file-index (record { ref_ptr = (0, 0); now = [] }) c.loop-file-test.true c.requires.0 c.requires.1 c.args.by_system
    c.args.list.now c.loop-file.list c.requires.2 (c.loop-file.invariant c.requires.0 c.requires.1 c.requires.2)

pub returns : goal.returns
returns c = λ classes held joins.
    c.loop-file.invariant classes held joins
    ∙ ap (λ cs. c.args.list.now ++ map (loaded c.args.by_system) cs) (all_more c.args.files.now c.loop-file.file-index classes held c.loop-file-test.false)
