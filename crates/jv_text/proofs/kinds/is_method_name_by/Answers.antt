use Rattle.std.proofs.Common.{◌∙◌, sym}
use Rattle.jv_text.proofs.Marked.{plain_method, special_method}
use Rattle.jv_text.proofs.kinds.is_method_name_by.Goals as goal

pub returns-then-marks-lt-ANGLE : goal.returns-then-marks-lt-ANGLE
returns-then-marks-lt-ANGLE c = plain_method c.args.bytes.now c.args.marks c.requires.marks (sym c.requires.member ∙ c.if-member_name.true) c.if-marks-lt-ANGLE.true

pub returns-else-marks-lt-ANGLE : goal.returns-else-marks-lt-ANGLE
returns-else-marks-lt-ANGLE c =
    c.is_special.ensures ∙ special_method c.args.bytes.now c.args.marks c.requires.marks (sym c.requires.member ∙ c.if-member_name.true) c.if-marks-lt-ANGLE.false
