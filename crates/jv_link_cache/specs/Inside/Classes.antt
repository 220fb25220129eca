-- What Class constants resolve to, as entries keep it (JVMS 5.4.3.1).
use Rattle.std.specs.Prelude.{ℕ, ⊤, Option, Some, None, Result, IfOk}
use Rattle.jv_meaning_world.specs.World.{World}
use Rattle.jv_link.specs.declared.error.LinkError.{LinkError}
use Rattle.jv_link.specs.Answers.{IsConstantsClass}
use Rattle.jv_link_cache.specs.declared.class_use.ClassUse.{ClassUse}
use Rattle.jv_link_cache.specs.ClassUses.{IsClassUse, used_ref}

-- it is what the constant of a class at an index resolves to
pub record IsFound (world : World) (class : ℕ) (index : ℕ) (answer : Result ClassUse LinkError) : Type 0 where
  pub found : IsConstantsClass world class index (used_ref answer)
  pub used : IfOk answer (IsClassUse world)

-- an entry is empty or right
abbrev pub IsEntry : World → ℕ → ℕ → Option (Result ClassUse LinkError) → Type 0
IsEntry world class index None = ⊤
IsEntry world class index (Some found) = IsFound world class index found
