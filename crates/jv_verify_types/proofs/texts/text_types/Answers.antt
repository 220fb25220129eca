use Rattle.jv_verify_types.proofs.Arguments.{front_same}
use Rattle.jv_verify_types.proofs.Keeping.{described_on}
use Rattle.jv_verify_types.proofs.texts.text_types.Goals as goal

pub returns-in_ok-named-clause-kept : goal.returns-in_ok-named-clause-kept
returns-in_ok-named-clause-kept c = record {
  described = described_on c.in_ok-named.ensures.goes_on (front_same _) c.in_ok-described.ensures.described;
  named = λ marked. c.in_ok-named.ensures.named;
}
