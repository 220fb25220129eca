-- The name that a class is refused for (own; JVMS 5.3), as text.
use Rattle.std.specs.Prelude.{ℕ, List, [], ◌∷◌, ◌++◌, codes}
use Rattle.jv_meaning_world.specs.declared.verdict.LoadVerdict.{LoadVerdict}
use Rattle.jv_meaning_world.specs.declared.verdict.LoadVerdict.TheVariants.{Reserved, Duplicate}
use Rattle.jv_program_base.specs.Escape.{escaped_text}

abbrev pub name_text : LoadVerdict → (name : List ℕ) → List ℕ
name_text Reserved name = codes "  class " ++ escaped_text name ++ codes " is in java/ or host/, where no guest's class may be" ++ 10 ∷ []
name_text Duplicate name =
    codes "  class " ++ escaped_text name ++ codes " is in the library already, or in a file before this one" ++ 10 ∷ []
name_text why name = []
