use Rattle.jv_store.proofs.Contents.{without-append}
use Rattle.jv_store.proofs.laws.back.Goals as goal

pub returns : goal.returns
returns c = without-append
