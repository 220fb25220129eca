use Rattle.std.proofs.Common.{[]}
use Rattle.jv_loader.proofs.Putting.{put_next}
use Rattle.jv_loader.proofs.entry.put_files.Goals as goal

pub loop-file-preserved : goal.loop-file-preserved
loop-file-preserved c =
    put_next c.args.files.now c.loop-file.file-index (record { ref_ptr = (0, 0); now = [] }) c.args.list.now c.loop-file.list c.put_file.new.list
    c.loop-file.entries.items c.push.new.self.items c.in_ok-put_file.field-0
    c.loop-file-test.true c.loop-file.invariant c.in_ok-put_file.ensures c.in_ok-push.ensures.items
