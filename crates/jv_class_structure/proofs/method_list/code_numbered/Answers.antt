use Rattle.std.proofs.Common.{Some, None, ap, sym, arith}
use Rattle.std.proofs.lemmas.Grind.{elements}
use Rattle.jv_class_structure.specs.Inside.Kept.{seen_codes}
use Rattle.jv_class_structure.proofs.Numbering.{numbered_there}
use Rattle.jv_class_structure.proofs.method_list.code_numbered.Goals as goal

pub returns-in-Some : goal.returns-in-Some
returns-in-Some c =
    sym (ap seen_codes (numbered_there c.args.codes.now c.args.number (Some c.in-Some.code.now) (omega (arith, c.if-number-eq0.false)) (grind (arith, elements))))

pub returns-in-None : goal.returns-in-None
returns-in-None c = sym (ap seen_codes (numbered_there c.args.codes.now c.args.number None (omega (arith, c.if-number-eq0.false)) (grind (arith, elements))))
