-- What Methodref and InterfaceMethodref constants resolve to, as entries keep it (JVMS 5.4.3.3, 5.4.3.4).
use Rattle.std.specs.Prelude.{ℕ, ⊤, Option, Some, None, Result, IfOk}
use Rattle.jv_meaning_world.specs.World.{World}
use Rattle.jv_link.specs.declared.error.LinkError.{LinkError}
use Rattle.jv_link.specs.Answers.{IsConstantsMethod}
use Rattle.jv_link_cache.specs.declared.method_use.MethodUse.{MethodUse}
use Rattle.jv_link_cache.specs.MethodUses.{IsMethodUse, used_target}

-- it is what the constant of a class at an index resolves to
pub record IsFound (world : World) (class : ℕ) (index : ℕ) (answer : Result MethodUse LinkError) : Type 0 where
  pub found : IsConstantsMethod world class index (used_target answer)
  pub called : IfOk answer (IsMethodUse world)

-- an entry is empty or right
abbrev pub IsEntry : World → ℕ → ℕ → Option (Result MethodUse LinkError) → Type 0
IsEntry world class index None = ⊤
IsEntry world class index (Some found) = IsFound world class index found
