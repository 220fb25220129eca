use Rattle.std.specs.Prelude.{map}
use Rattle.jv_host.specs.Showing.{seen_place}
use Rattle.jv_limits.specs.Bytes.{bytes_of}
use Rattle.jv_program_run.specs.Instruction.{NoneShownBefore}
use Rattle.jv_program_run.proofs.in_file.instruction_among.Given as goal

abbrev pub invariant-loop-number : goal.invariant-loop-number
invariant-loop-number l = NoneShownBefore (map bytes_of l.files) l.verdicts (seen_place l.place) l.number
