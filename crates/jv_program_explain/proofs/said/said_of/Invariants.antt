use Rattle.std.proofs.Common.{List, map}
use Rattle.std.specs.Prelude.{string_bytes}
use Rattle.jv_limits.specs.Bytes.{bytes_of}
use Rattle.jv_class.specs.Class.{Class}
use Rattle.jv_meaning_world.specs.FileContent.{FileContent, AreContents}
use Rattle.jv_verify.specs.Files.{AreVerified}
use Rattle.jv_program_explain.specs.Inside.Below.{AreExplainedBelow}
use Rattle.jv_program_explain.proofs.said.said_of.Given as goal

abbrev pub invariant-loop-place : goal.invariant-loop-place
invariant-loop-place l =
    (given : List Class) (contents : List FileContent) → AreContents (map bytes_of l.files) contents → AreVerified given contents l.verified
    → AreExplainedBelow l.settings given (map bytes_of l.files) contents l.verified.verdicts l.place l.number (map string_bytes l.said.items)
