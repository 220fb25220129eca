-- Whether a reference can stand in an array (JVMS 6.5, aastore), by its word and the type of the array's components.
use Rattle.std.specs.Prelude.{◌≡◌, ℕ, ◌<◌, Bool, true, List, length, slice_index}
use Rattle.jv_text.specs.declared.descriptor.FieldTypeOf.{FieldTypeOf}
use Rattle.jv_store.specs.Content.{words_at}
use Rattle.jv_meaning_world.specs.World.{World}
use Rattle.jv_meaning_machine.specs.Objects.{Object, is_instance_of}
use Rattle.jv_interp_heap.specs.ObjectsInBlocks.{Blocks}
use Rattle.jv_interp_objects.specs.declared.types.NumberedType.{NumberedType}
use Rattle.jv_interp_objects.specs.Types.{IsOfType, HasWord}

-- an object has its block at an address
pub record HasBlock (world : World) (blocks : Blocks) (address : ℕ) : Type 0 where
  pub some : 0 < length (words_at blocks address)
  pub object : Object
  pub word : HasWord world object (slice_index (words_at blocks address) 0)

-- unless it is null
abbrev pub IsReference : World → Blocks → ℕ → Type 0
IsReference world blocks word = (word ≡ 0 → ⊥) → HasBlock world blocks word

-- null can stand there, and an object whose type is the components', or below it
pub record TellsStanding (world : World) (blocks : Blocks) (word : ℕ) (numbers : NumberedType) (answer : Bool) : Type 0 where
  pub null : word ≡ 0 → answer ≡ true
  pub object :
      (word ≡ 0 → ⊥) → (o : Object) (type : FieldTypeOf (List ℕ)) → HasWord world o (slice_index (words_at blocks word) 0)
      → IsOfType world type numbers → answer ≡ is_instance_of world o type
