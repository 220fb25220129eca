use Rattle.std.proofs.Common.{append_assoc}
use Rattle.std.proofs.Output.{has_written_of_eq}
use Rattle.jv_malformed.proofs.rules_text.FaultyRulesDisplay.fmt.Goals as goal

pub returns-in-Field-clause-writes : goal.returns-in-Field-clause-writes
returns-in-Field-clause-writes g c =
    rw c.in-Field.is (λ plain wrote. has_written_of_eq _ _ _ _ _ (simp append_assoc) (c.write.ensures.writes plain wrote))

pub returns-in-Method-clause-writes : goal.returns-in-Method-clause-writes
returns-in-Method-clause-writes g c =
    rw c.in-Method.is (λ plain wrote. has_written_of_eq _ _ _ _ _ (simp append_assoc) (c.write-in-Method.ensures.writes plain wrote))
