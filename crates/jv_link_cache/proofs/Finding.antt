-- What entries know is found.
use Rattle.std.proofs.Common.{ℕ, Option, Some, None, Result}
use Rattle.std.specs.Prelude.{IfSome}
use Rattle.jv_meaning_world.specs.World.{World}
use Rattle.jv_link.specs.declared.error.LinkError.{LinkError}
use Rattle.jv_link_cache.specs.declared.class_use.ClassUse.{ClassUse}
use Rattle.jv_link_cache.specs.declared.field_use.FieldUse.{FieldUse}
use Rattle.jv_link_cache.specs.declared.method_use.MethodUse.{MethodUse}
use Rattle.jv_link_cache.specs.Inside.Classes.{IsEntry as IsClassEntry, IsFound as IsClassFound}
use Rattle.jv_link_cache.specs.Inside.Fields.{IsEntry as IsFieldEntry, IsFound as IsFieldFound}
use Rattle.jv_link_cache.specs.Inside.Methods.{IsEntry as IsMethodEntry, IsFound as IsMethodFound}

pub classes_found : (world : World) (class index : ℕ) (entry : Option (Result ClassUse LinkError)) → IsClassEntry world class index entry
    → IfSome entry (IsClassFound world class index)
classes_found world class index None is = tt
classes_found world class index (Some found) is = is

pub fields_found : (world : World) (class index : ℕ) (entry : Option (Result FieldUse LinkError)) → IsFieldEntry world class index entry
    → IfSome entry (IsFieldFound world class index)
fields_found world class index None is = tt
fields_found world class index (Some found) is = is

pub methods_found : (world : World) (class index : ℕ) (entry : Option (Result MethodUse LinkError)) → IsMethodEntry world class index entry
    → IfSome entry (IsMethodFound world class index)
methods_found world class index None is = tt
methods_found world class index (Some found) is = is
