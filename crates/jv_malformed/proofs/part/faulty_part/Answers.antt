use Rattle.std.proofs.Common.{arith}
use Rattle.std.proofs.lemmas.Result.{IfOk-weaker}
use Rattle.jv_meaning_world.specs.FileContent.{IsContent}
use Rattle.jv_meaning_world.specs.declared.content.Content.TheVariants.{NoClassFile}
use Rattle.jv_malformed.specs.Inside.Behind.{IsFaultyUnlessClass}
use Rattle.jv_malformed.specs.Part.{IsFaultyPart}
use Rattle.jv_malformed.proofs.Starting.{faulty, no_start}
use Rattle.jv_malformed.proofs.part.faulty_part.Goals as goal

pub returns-in-Some : goal.returns-in-Some
returns-in-Some c =
    IfOk-weaker c.faulty_behind.result (IsFaultyUnlessClass c.in-Some.major c.in-Some.rest.now)
    (λ part. IsContent c.args.bytes.now NoClassFile → IsFaultyPart c.args.bytes.now part)
    (faulty c.args.bytes.now c.in-Some.rest.now c.in-Some.field-0-0-0 c.in-Some.major (λ i. omega (arith, c.type_inv.bytes i)) c.in-Some.ensures)
    c.faulty_behind.ensures

pub returns-in-None : goal.returns-in-None
returns-in-None c = λ _. no_start c.args.bytes.now c.in-None.ensures
