-- What linking answers, as instructions need it (JVMS 5.4.3.2 to 5.4.3.4, 6.5): the field that is used, or the method that is called or
-- run, or the number of the class of the error that is thrown.
use Rattle.std.specs.Prelude.{◌≡◌, ℕ, ◌<◌, Some, None, Option, Result, Ok, Err, slice_get, nat_lt, if◌then◌else◌}
use Rattle.jv_pool.specs.Constants.{MemberReference}
use Rattle.jv_meaning_world.specs.World.{World}
use Rattle.jv_meaning_world.specs.LookUps.{DeclaredField}
use Rattle.jv_lookups.specs.Places.{field_at}
use Rattle.jv_meaning_typing.specs.Uses.{Site as SiteOfNames}
use Rattle.jv_meaning_typing.specs.LinkErrors.{LinkError, OrError, error_class}
use Rattle.jv_meaning_typing.specs.Operands.{MethodReference, field_operand, method_operand}
use Rattle.jv_meaning_typing.specs.FieldResolution.{resolve_field}
use Rattle.jv_meaning_typing.specs.MethodResolution.{MethodTarget, resolve_method}
use Rattle.jv_meaning_typing.specs.Selection.{select}
use Rattle.jv_link.specs.declared.site.Site.{Site}
use Rattle.jv_link.specs.declared.site.Use.{Use}
use Rattle.jv_link.specs.declared.target.MethodTarget.{MethodTarget as TargetByNumber}
use Rattle.jv_link.specs.Seen.{method_target_at, seen_site, seen_use}
use Rattle.jv_link.specs.Objects.{object_class_at}
use Rattle.jv_link_cache.specs.declared.field_use.FieldUse.{FieldUse}
use Rattle.jv_link_cache.specs.declared.method_use.MethodUse.{MethodUse}
use Rattle.jv_interp_words.specs.FramesInWords.{methods_of}
use Rattle.jv_interp_heap.specs.ObjectsInBlocks.{HasNumber}

-- It is an error, whose class has this number.
pub record IsErrorOf (world : World) {A : Type 0} (expected : OrError A) (number : ℕ) : Type 0 where
  pub error : LinkError
  pub is : expected ≡ Err error
  pub numbered : HasNumber world (error_class error) number

-- It is a target, which these numbers stand for.
pub record IsTargetOf (world : World) (expected : OrError MethodTarget) (called : TargetByNumber) : Type 0 where
  pub target : MethodTarget
  pub is : expected ≡ Ok target
  pub at : method_target_at world called ≡ Some target

-- It is a target, whose method has this number among all.
pub record IsMethodOf (world : World) (expected : OrError MethodTarget) (number : ℕ) : Type 0 where
  pub target : MethodTarget
  pub is : expected ≡ Ok target
  pub numbered : slice_get (methods_of world) number ≡ Some target.declared

abbrev pub Resolves : World → OrError MethodTarget → Result MethodUse ℕ → Type 0
Resolves world expected (Ok called) = IsTargetOf world expected called.target
Resolves world expected (Err number) = IsErrorOf world expected number

abbrev pub Selects : World → OrError MethodTarget → Result ℕ ℕ → Type 0
Selects world expected (Ok number) = IsMethodOf world expected number
Selects world expected (Err number) = IsErrorOf world expected number

-- the method that the constant at an index names, for an instruction at a site
abbrev pub IsResolved : World → Site → Use → ℕ → Result MethodUse ℕ → Type 0
IsResolved world site how index answer =
    (s : SiteOfNames) (reference : MethodReference) → seen_site world site ≡ Some s → method_operand s.by.class index ≡ Some reference
    → Resolves world (resolve_method world s (seen_use how) reference) answer

-- the number of an object's class by the first word of its block, none for an array
abbrev pub class_number : ℕ → Option ℕ
class_number word = if nat_lt word 2147483648 then Some word else None

-- the method that a call of a target runs on an object whose block has this first word
abbrev pub IsRun : World → Site → Use → TargetByNumber → ℕ → Result ℕ ℕ → Type 0
IsRun world site how called word answer =
    (s : SiteOfNames) (t : MethodTarget) → seen_site world site ≡ Some s → method_target_at world called ≡ Some t
    → Selects world (select world s (seen_use how) t (object_class_at world (class_number word))) answer

-- ---- fields (5.4.3.2)

pub record IsFieldOf (world : World) (expected : OrError DeclaredField) (used : FieldUse) : Type 0 where
  pub d : DeclaredField
  pub is : expected ≡ Ok d
  pub at : field_at world used.place ≡ Some d

abbrev pub ResolvesField : World → OrError DeclaredField → Result FieldUse ℕ → Type 0
ResolvesField world expected (Ok used) = IsFieldOf world expected used
ResolvesField world expected (Err number) = IsErrorOf world expected number

-- the field that the constant at an index names, for an instruction at a site
abbrev pub IsUsedField : World → Site → Use → ℕ → Result FieldUse ℕ → Type 0
IsUsedField world site how index answer =
    (s : SiteOfNames) (reference : MemberReference) → seen_site world site ≡ Some s → field_operand s.by.class index ≡ Some reference
    → ResolvesField world (resolve_field world s (seen_use how) reference) answer
