use Rattle.jv_code.specs.Insns.{instruction_of}
use Rattle.jv_verify_pass.specs.Pass.{names_in}
use Rattle.jv_verify_pass.proofs.Changing.{covers_changes}
use Rattle.jv_verify_pass.proofs.changes.copies_changed.Goals as goal

pub returns : goal.returns
returns c = λ env is k w.
    covers_changes env c.args.offset (instruction_of c.args.insn.now) (names_in c.args.pass.now) c.args.frame.now c.object_replaced-object.result c.in_ok-copies.copies.items
    (c.object_replaced-object.ensures env is) c.in_ok-copies.ensures k w
