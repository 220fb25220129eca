use Rattle.std.proofs.lemmas.Grind.{common_steps}
use Rattle.std.proofs.Common.{rules, arith}
use Rattle.jv_asm_builder.proofs.Joined.{grown_both}
use Rattle.jv_asm_builder.proofs.class_builder.ClassBuilder.begin.Goals as goal

pub returns-in_err-code_name_index-clause-too_large : goal.returns-in_err-code_name_index-clause-too_large
returns-in_err-code_name_index-clause-too_large c = search rules

pub returns-clause-ok : goal.returns-clause-ok
returns-clause-ok c = search rules

pub returns-in_err-name_index-clause-too_large : goal.returns-in_err-name_index-clause-too_large
returns-in_err-name_index-clause-too_large c = grind (arith, common_steps)

pub returns-clause-grown : goal.returns-clause-grown
returns-clause-grown c =
    grown_both c.args.self.now c.texts.new.self c.utf8-2.new.self (c.in_ok-name_index.ensures {u = tt}).grown (c.in_ok-code_name_index.ensures {u = tt}).grown
