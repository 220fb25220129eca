-- Which methods calls run, as entries keep it (JVMS 6.5).
use Rattle.std.specs.Prelude.{◌≡◌, ℕ, ⊤, List, Option, Some, None, Result, IfOk, IfSome}
use Rattle.jv_meaning_world.specs.World.{World}
use Rattle.jv_link.specs.declared.error.LinkError.{LinkError}
use Rattle.jv_link.specs.declared.site.Site.{Site}
use Rattle.jv_link.specs.declared.site.Use.{Use}
use Rattle.jv_link.specs.declared.site.Use.TheVariants.{Invokespecial}
use Rattle.jv_link.specs.declared.target.MethodTarget.{MethodTarget}
use Rattle.jv_link.specs.Seen.{IsMethodTarget}
use Rattle.jv_link.specs.Answers.{IsSelected}
use Rattle.jv_link_cache.specs.declared.rows.Row.{Row}
use Rattle.jv_link_cache.specs.declared.selections.Selection.{Selection}
use Rattle.jv_link_cache.specs.Inside.Rows.{AreRows}

-- the number is that of the current class, where the instruction asks that
abbrev pub IsFor : Use → ℕ → Site → Type 0
IsFor Invokespecial class site = site.class ≡ class
IsFor how class site = ⊤

-- it is the method that a call of a target runs, at each such site
pub record IsFound (world : World) (how : Use) (class : ℕ) (target : MethodTarget) (object : Option ℕ)
    (answer : Result MethodTarget LinkError) : Type 0 where
  pub found : (site : Site) → IsFor how class site → IsSelected world site how target object answer
  pub target_of : IfOk answer (IsMethodTarget world)

-- an entry is empty or right
abbrev pub IsEntry : World → Use → Option Selection → Type 0
IsEntry world how None = ⊤
IsEntry world how (Some entry) = IsFound world how entry.class entry.target entry.object entry.found

abbrev pub AreSelections : World → Use → List (Row (Option Selection)) → Type 0
AreSelections world how rows = AreRows (λ row place. IsEntry world how) rows

-- where entries are right, so is what is answered by them
abbrev pub Knows : List (Row (Option Selection)) → ℕ → MethodTarget → Option ℕ → Option (Result MethodTarget LinkError) → Type 0
Knows rows class target object answer =
    (world : World) (how : Use) → AreSelections world how rows → IfSome answer (IsFound world how class target object)

-- and they stay so with one that is
abbrev pub Keeps : List (Row (Option Selection)) → Selection → List (Row (Option Selection)) → Type 0
Keeps old entry new =
    (world : World) (how : Use) → AreSelections world how old → IsEntry world how (Some entry) → AreSelections world how new
