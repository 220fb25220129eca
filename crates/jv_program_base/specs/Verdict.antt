-- Verdicts as text (own).
use Rattle.std.specs.Prelude.{ℕ, List, ◌++◌, codes}
use Rattle.std.specs.Fmt.{decimal}
use Rattle.jv_meaning_world.specs.declared.verdict.LoadVerdict.{LoadVerdict}
use Rattle.jv_meaning_world.specs.declared.verdict.LoadVerdict.TheVariants as reasons
use Rattle.jv_meaning_typing.specs.declared.verdict.VerifyRule.{VerifyRule}
use Rattle.jv_meaning_typing.specs.declared.verdict.VerifyRule.TheVariants as rules
use Rattle.jv_meaning_typing.specs.declared.verdict.VerifyFault.{VerifyFault}
use Rattle.jv_meaning_typing.specs.declared.verdict.Verdict.{Verdict}
use Rattle.jv_meaning_typing.specs.declared.verdict.Verdict.TheVariants.{Refused, Verify, Accepted}

-- the name of what is wrong with a file before its methods are looked at
abbrev pub reason_name : LoadVerdict → List ℕ
reason_name reasons.Version = codes "Version"
reason_name reasons.Format = codes "Format"
reason_name reasons.Unsupported = codes "Unsupported"
reason_name reasons.Reserved = codes "Reserved"
reason_name reasons.Duplicate = codes "Duplicate"
reason_name reasons.Circular = codes "Circular"
reason_name reasons.NoSuper = codes "NoSuper"
reason_name reasons.WrongKind = codes "WrongKind"
reason_name reasons.NoAccess = codes "NoAccess"
reason_name reasons.FinalBroken = codes "FinalBroken"

-- the place of a rule in the order in which the rules are asked, the first at 1
abbrev pub rule_number : VerifyRule → ℕ
rule_number rules.Code = 1
rule_number rules.HandlerTable = 2
rule_number rules.MapFrames = 3
rule_number rules.Merge = 4
rule_number rules.CoveredHandler = 5
rule_number rules.Instruction = 6
rule_number rules.BranchTarget = 7
rule_number rules.EndOfCode = 8

-- which rule a method breaks, and where
abbrev pub fault_text : VerifyFault → List ℕ
fault_text fault =
    codes "Verify method " ++ decimal fault.method
    ++ codes " offset " ++ decimal fault.offset
    ++ codes " rule " ++ decimal (rule_number fault.rule)

abbrev pub verdict_text : Verdict → List ℕ
verdict_text (Refused reason) = reason_name reason
verdict_text (Verify fault) = fault_text fault
verdict_text Accepted = codes "Accepted"
