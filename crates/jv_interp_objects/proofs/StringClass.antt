-- java/lang/String in the world of each guest: its objects have one field, which holds the chars.
use Rattle.std.proofs.Common.{◌≡◌, true, List, [], ◌∷◌, Some, refl, sym, subst, ◌∙◌}
use Rattle.jv_class.specs.Class.{Class}
use Rattle.jv_meaning_world.specs.FileContent.{FileContent}
use Rattle.jv_meaning_world.specs.Library.{with_library}
use Rattle.jv_meaning_world.specs.World.{Loaded, World, class_named, world_of}
use Rattle.jv_meaning_world.specs.LookUps.{DeclaredField}
use Rattle.jv_meaning_typing.specs.Layout.{instance_fields, field_words}
use Rattle.jv_meaning_machine.specs.Objects.{key_of, same_key}
use Rattle.jv_meaning_machine.specs.Literals.{string_name, string_value}

pub record HoldsChars (world : World) (l : Loaded) : Type 0 where
  pub field : DeclaredField
  pub fields : instance_fields world l ≡ field ∷ []
  pub key : key_of field ≡ string_value
  pub words : field_words field ≡ 1
  pub called : l.class.name ≡ string_name

same_some : (a b : Loaded) → Some a ≡ Some b → a ≡ b
same_some a b e = cc

pub record Known (world : World) : Type 0 where
  pub l : Loaded
  pub named : class_named world string_name ≡ Some l
  pub holds : HoldsChars world l

known : (library : List Class) (contents : List FileContent) → Known (world_of (with_library library) contents)
known [] contents = record { l = _; named = refl; holds = record { field = _; fields = refl; key = refl; words = refl; called = refl } }
known (c ∷ library) contents = record { l = _; named = refl; holds = record { field = _; fields = refl; key = refl; words = refl; called = refl } }

pub holds_chars :
    (library : List Class) (contents : List FileContent) (l : Loaded) → class_named (world_of (with_library library) contents) string_name ≡ Some l
    → HoldsChars (world_of (with_library library) contents) l
holds_chars library contents l e =
    let k = known library contents in
    subst (λ (m : Loaded). HoldsChars (world_of (with_library library) contents) m) (same_some k.l l (sym k.named ∙ e)) k.holds

pub same_value : same_key string_value string_value ≡ true
same_value = refl
