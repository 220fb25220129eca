use Rattle.jv_meaning_world.proofs.Contents.{one_content}
use Rattle.jv_meaning_world.proofs.content_law.one_content.Goals as goal

pub returns : goal.returns
returns c = one_content c.one_structure.ensures
