use Rattle.std.specs.Int.{w32}
use Rattle.std.proofs.lemmas.Int.{to_z-of_z}
use Rattle.jv_interp_instructions.proofs.Done.{branch_again}
use Rattle.jv_interp_instructions.proofs.on_words.execute_branch.Goals as goal

pub returns-in-IfInt-clause-done : goal.returns-in-IfInt-clause-done
returns-in-IfInt-clause-done c =
    rw c.in-IfInt.is (branch_again _ _ _ _ _ _ _ _ (to_z-of_z w32 c.args.distance c.ranges.distance) c.if_int.ensures.went)

pub returns-in-IfInts-clause-done : goal.returns-in-IfInts-clause-done
returns-in-IfInts-clause-done c =
    rw c.in-IfInts.is (branch_again _ _ _ _ _ _ _ _ (to_z-of_z w32 c.args.distance c.ranges.distance) c.if_ints.ensures.went)

pub returns-in-IfReferences-clause-done : goal.returns-in-IfReferences-clause-done
returns-in-IfReferences-clause-done c =
    rw c.in-IfReferences.is (branch_again _ _ _ _ _ _ _ _ (to_z-of_z w32 c.args.distance c.ranges.distance) c.if_same.ensures.went)

pub returns-in-IfNull-clause-done : goal.returns-in-IfNull-clause-done
returns-in-IfNull-clause-done c =
    rw c.in-IfNull.is (branch_again _ _ _ _ _ _ _ _ (to_z-of_z w32 c.args.distance c.ranges.distance) c.if_null.ensures.went)
