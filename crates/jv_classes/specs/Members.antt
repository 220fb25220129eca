-- A field or a method of a class, as the code has it (JVMS 4.5, 4.6).
use Rattle.std.specs.Prelude.{◌≡◌}
use Rattle.jv_class.specs.Class.{Field, Method}
use Rattle.jv_classes.specs.declared.member.Member.{Member}

-- it is this field of its class
pub record IsField (member : Member) (field : Field) : Type 0 where
  pub access_flags : member.access_flags ≡ field.access_flags
  pub name : member.name.now ≡ field.name
  pub descriptor : member.descriptor.now ≡ field.descriptor

-- it is this method of its class
pub record IsMethod (member : Member) (method : Method) : Type 0 where
  pub access_flags : member.access_flags ≡ method.access_flags
  pub name : member.name.now ≡ method.name
  pub descriptor : member.descriptor.now ≡ method.descriptor
