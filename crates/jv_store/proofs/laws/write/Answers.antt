use Rattle.jv_store.proofs.Contents.{words_held-written}
use Rattle.jv_store.proofs.LookUps.{words_at-written, greatest-written, written-newest}
use Rattle.jv_store.proofs.laws.write.Goals as goal

pub returns-clause-words : goal.returns-clause-words
returns-clause-words c = words_at-written

pub returns-clause-held : goal.returns-clause-held
returns-clause-held c = words_held-written

pub returns-clause-greatest : goal.returns-clause-greatest
returns-clause-greatest c = greatest-written

pub returns-clause-newest : goal.returns-clause-newest
returns-clause-newest c = written-newest
