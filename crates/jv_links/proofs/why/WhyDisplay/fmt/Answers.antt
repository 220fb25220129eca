use Rattle.std.proofs.Common.{ap, sym}
use Rattle.std.proofs.Output.{has_written_of_eq}
use Rattle.jv_links.specs.Inside.Shown.{why_shown}
use Rattle.jv_links.proofs.why.WhyDisplay.fmt.Goals as goal

pub returns-in-Abstract-clause-writes : goal.returns-in-Abstract-clause-writes
returns-in-Abstract-clause-writes g c = λ plain wrote. has_written_of_eq _ _ _ _ _ (ap why_shown (sym c.in-Abstract.is)) (c.write-in-Abstract.ensures.writes plain wrote)
