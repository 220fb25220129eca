-- What was made of constants and of initial local entries, as the crates above have it.
use Rattle.std.proofs.Common.{◌≡◌, List, refl}
use Rattle.jv_verify_types.specs.PoolTypes.{PoolTypes}
use Rattle.jv_verify_types.specs.Numbered.{Item}
use Rattle.jv_verify_types.specs.Mapped.{EntryTypes}
use Rattle.jv_verify_pass.specs.Tables.{entry_types}

pub same_types : (types : EntryTypes) (constants : PoolTypes) (initial : List Item) → types.constants ≡ constants → types.initial ≡ initial → entry_types constants initial ≡ types
same_types types constants initial e f = rw (← e, ← f) refl
