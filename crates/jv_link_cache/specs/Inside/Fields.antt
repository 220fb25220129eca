-- What Fieldref constants resolve to, as entries keep it (JVMS 5.4.3.2).
use Rattle.std.specs.Prelude.{◌≡◌, ℕ, ⊤, true, Option, Some, None, Result, Ok, IfOk}
use Rattle.jv_class.specs.Class.{Field}
use Rattle.jv_meaning_world.specs.World.{World}
use Rattle.jv_meaning_world.specs.LookUps.{DeclaredField}
use Rattle.jv_meaning_typing.specs.Uses.{Site}
use Rattle.jv_meaning_typing.specs.Kind.{has_field_kind, can_use_final}
use Rattle.jv_link.specs.declared.error.LinkError.{LinkError}
use Rattle.jv_link.specs.declared.site.Use.{Use}
use Rattle.jv_link.specs.Seen.{seen_use}
use Rattle.jv_link.specs.Answers.{IsConstantsField}
use Rattle.jv_link_cache.specs.declared.field_use.FieldUse.{FieldUse}
use Rattle.jv_link_cache.specs.FieldUses.{IsFieldUse, used_place}

-- it is what the constant of a class at an index resolves to
pub record IsFound (world : World) (class : ℕ) (index : ℕ) (answer : Result FieldUse LinkError) : Type 0 where
  pub found : IsConstantsField world class index (used_place answer)
  pub used : IfOk answer (IsFieldUse world)

-- an entry is empty or right
abbrev pub IsEntry : World → ℕ → ℕ → Option (Result FieldUse LinkError) → Type 0
IsEntry world class index None = ⊤
IsEntry world class index (Some found) = IsFound world class index found

-- a field of the instruction's kind, which it can set in every method or only reads (6.5)
pub record IsUsedAtOnce (world : World) (class : ℕ) (index : ℕ) (how : Use) (used : FieldUse) : Type 0 where
  pub found : IsFound world class index (Ok used)
  pub kind : (f : Field) → used.access_flags ≡ f.access_flags → has_field_kind (seen_use how) f ≡ true
  pub settable : (s : Site) (d : DeclaredField) → used.access_flags ≡ d.field.access_flags → can_use_final (seen_use how) s d ≡ true
