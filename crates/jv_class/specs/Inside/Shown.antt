-- The rules on fields and methods as the code sees them, by what it keeps of each.
use Rattle.std.specs.Prelude.{ℕ, List, map, Option, is_some}
use Rattle.std.specs.List.{All}
use Rattle.std.specs.Option.{IsSomeAnd}
use Rattle.jv_pool.specs.Constants.{Entry, NameAndDescriptor, named_at}
use Rattle.jv_class_structure.specs.Structure.{ClassStructure}
use Rattle.jv_class_structure.specs.Parts.{FieldSeen, MethodSeen, fields_of, methods_of}
use Rattle.jv_class.specs.Rules.{KeepsRulesAsField, KeepsRulesAsMethod, NoTwoAlike}
use Rattle.jv_class.specs.Supported.{IsSupportedConstant, IsSupportedType, AreSupportedFlags}

abbrev pub shown_field_texts : List Entry → FieldSeen → Option NameAndDescriptor
shown_field_texts pool f = named_at pool f.name_index f.descriptor_index

abbrev pub shown_method_texts : List Entry → MethodSeen → Option NameAndDescriptor
shown_method_texts pool m = named_at pool m.name_index m.descriptor_index

abbrev pub KeepsFieldShown : List Entry → ℕ → FieldSeen → Type 0
KeepsFieldShown pool class_flags f =
    IsSomeAnd (shown_field_texts pool f) (KeepsRulesAsField pool class_flags f.access_flags f.constant_value)

abbrev pub KeepsMethodShown : List Entry → ℕ → ℕ → MethodSeen → Type 0
KeepsMethodShown pool major class_flags m =
    IsSomeAnd (shown_method_texts pool m) (KeepsRulesAsMethod major class_flags m.access_flags (is_some m.code))

pub record ShownKeepRules (c : ClassStructure) : Type 0 where
  pub fields : All (KeepsFieldShown c.constant_pool c.access_flags) (fields_of c)
  pub methods : All (KeepsMethodShown c.constant_pool c.major_version c.access_flags) (methods_of c)

pub record AreShownUnlike (c : ClassStructure) : Type 0 where
  pub fields : NoTwoAlike (map (shown_field_texts c.constant_pool) (fields_of c))
  pub methods : NoTwoAlike (map (shown_method_texts c.constant_pool) (methods_of c))

abbrev pub IsFieldShownSupported : List Entry → FieldSeen → Type 0
IsFieldShownSupported pool f = IsSupportedType pool f.descriptor_index

abbrev pub IsMethodShownSupported : List Entry → MethodSeen → Type 0
IsMethodShownSupported pool m = IsSupportedType pool m.descriptor_index × AreSupportedFlags pool m.name_index m.access_flags

pub record AreShownSupported (c : ClassStructure) : Type 0 where
  pub constants : All (IsSupportedConstant c.constant_pool) c.constant_pool
  pub fields : All (IsFieldShownSupported c.constant_pool) (fields_of c)
  pub methods : All (IsMethodShownSupported c.constant_pool) (methods_of c)
