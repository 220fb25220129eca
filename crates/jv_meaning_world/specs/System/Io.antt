-- host/Io, which is built in without a file: its methods have no code (own).
use Rattle.std.specs.Prelude.{◌+◌, [], ◌∷◌, Some, codes}
use Rattle.jv_class_structure.specs.Flags.{acc_public, acc_static, acc_final, acc_super}
use Rattle.jv_class.specs.Class.{Class}
use Rattle.jv_meaning_world.specs.System.Members.{method_without_code}

abbrev pub io : Class
io = record {
  major_version = 52;
  access_flags = acc_public + acc_final + acc_super;
  name = codes "host/Io";
  super_class = Some (codes "java/lang/Object");
  interfaces = [];
  fields = [];
  methods =
      method_without_code (acc_public + acc_static) (codes "read") (codes "()I")
      ∷ method_without_code (acc_public + acc_static) (codes "write") (codes "(I)V")
      ∷ method_without_code (acc_public + acc_static) (codes "className") (codes "(Ljava/lang/Object;I)I")
      ∷ method_without_code (acc_public + acc_static) (codes "arrayLike") (codes "([Ljava/lang/Object;I)[Ljava/lang/Object;")
      ∷ [];
  constant_pool = [];
}
