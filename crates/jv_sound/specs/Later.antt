-- How a heap changes while frames above a depth run (JVMS 2.6; own).
use Rattle.std.specs.Prelude.{◌≡◌, ℕ, ◌<◌, true, List, Option, Some, None, slice_get}
use Rattle.jv_meaning_machine.specs.Objects.{Object, is_constructed, type_of_object}
use Rattle.jv_meaning_machine.specs.Objects.Object.{InstanceOf, ArrayWith}
use Rattle.jv_sound.specs.Values.{Heap}

abbrev pub entered_of : Object → Option (List ℕ)
entered_of (InstanceOf instance) = instance.entered
entered_of (ArrayWith components values) = None

-- An object is still there, of its type, and constructed if it was. If it belongs to a frame below a depth, or to none, nothing
-- of its construction has changed either.
pub record IsStill (depth : ℕ) (before after : Heap) (id : ℕ) (object : Object) : Type 0 where
  pub now : Object
  pub there : slice_get after.objects id ≡ Some now
  pub type : type_of_object now ≡ type_of_object object
  pub constructed : is_constructed object ≡ true → is_constructed now ≡ true
  pub kept :
      before.owner id < depth
      → (is_constructed now ≡ is_constructed object) × (entered_of now ≡ entered_of object)
      × (after.owner id ≡ before.owner id) × (after.born id ≡ before.born id)

pub record IsLater (depth : ℕ) (before after : Heap) : Type 0 where
  pub still : (id : ℕ) (object : Object) → slice_get before.objects id ≡ Some object → IsStill depth before after id object
