use Rattle.jv_store.proofs.Contents.{written-append}
use Rattle.jv_store.proofs.laws.older.Goals as goal

pub returns : goal.returns
returns c = λ blocks a b i w ws other. written-append blocks a b i w ws other
