use Rattle.std.proofs.Common.{arith}
use Rattle.jv_store.proofs.LookUps.{words_within}
use Rattle.jv_store.proofs.Contents.{rises_above}
use Rattle.jv_store.proofs.laws.within.Goals as goal

pub returns-clause-most : goal.returns-clause-most
returns-clause-most c = words_within

pub returns-clause-least : goal.returns-clause-least
returns-clause-least c = λ blocks a i h lt. omega (arith, rises_above 0 blocks a i h lt)
