use Rattle.std.proofs.lemmas.Option.{slice_get_read}
use Rattle.std.proofs.Common.{refl}
use Rattle.jv_interp_members.proofs.Numbered.{row_of}
use Rattle.jv_interp_members.proofs.methods.Methods.method.Goals as goal

pub returns : goal.returns
returns c world d h at = row_of world _ _ d _ h at (slice_get_read _ _ _ _ refl c.requires c.index.ensures)
