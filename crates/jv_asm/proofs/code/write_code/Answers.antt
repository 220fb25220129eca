use Rattle.std.proofs.Common.{rules}
use Rattle.jv_asm.proofs.code.write_code.Goals as goal

pub written-requires : goal.written-requires
written-requires c = search rules

pub returns-in_err-code-clause-too_large : goal.returns-in_err-code-clause-too_large
returns-in_err-code-clause-too_large c = search rules

pub returns-clause-few : goal.returns-clause-few
returns-clause-few c = search rules

pub returns-clause-too_large : goal.returns-clause-too_large
returns-clause-too_large c = search rules
