use Rattle.jv_text.proofs.Marked.{named_class, no_named_class}
use Rattle.jv_text.proofs.kinds.is_class_name_by.Goals as goal

pub returns-then-member_name : goal.returns-then-member_name
returns-then-member_name c = named_class c.args.bytes.now c.args.member_name c.requires.member c.if-member_name.true

pub returns-else-marks-lt-BARRED : goal.returns-else-marks-lt-BARRED
returns-else-marks-lt-BARRED c = no_named_class c.args.bytes.now c.args.marks c.requires.marks c.if-marks-lt-BARRED.false
