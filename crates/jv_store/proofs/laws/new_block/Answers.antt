use Rattle.jv_store.proofs.Contents.{words_held-append}
use Rattle.jv_store.proofs.LookUps.{words_at-append_any, greatest-append_above}
use Rattle.jv_store.proofs.laws.new_block.Goals as goal

pub returns-clause-words : goal.returns-clause-words
returns-clause-words c = words_at-append_any

pub returns-clause-held : goal.returns-clause-held
returns-clause-held c = words_held-append

pub returns-clause-greatest : goal.returns-clause-greatest
returns-clause-greatest c = greatest-append_above
