-- The final method of a superclass that a class overrides, and is refused for (JVMS 4.10, 5.4.5), as text (own).
use Rattle.std.specs.Prelude.{ℕ, Bool, false, ◌&&◌, List, [], ◌∷◌, ◌++◌, codes, Option, Some, None}
use Rattle.std.specs.List.{find}
use Rattle.std.specs.Option.{option_map, option_or}
use Rattle.jv_class.specs.Class.{Method}
use Rattle.jv_meaning_world.specs.Above.{superclasses}
use Rattle.jv_meaning_world.specs.Overriding.{Declared, alike_in, overrides_itself}
use Rattle.jv_meaning_world.specs.Verdicts.{declared_by, is_final_instance}
use Rattle.jv_meaning_world.specs.World.{Loaded, World}
use Rattle.jv_meaning_world.specs.declared.verdict.LoadVerdict.{LoadVerdict}
use Rattle.jv_meaning_world.specs.declared.verdict.LoadVerdict.TheVariants.{FinalBroken}
use Rattle.jv_program_base.specs.Escape.{escaped_text}

-- the method, where there is one, overrides this one itself, and not by way of a third between them
abbrev pub overridden_by : Declared → Option Declared → Bool
overridden_by e None = false
overridden_by e (Some d) = overrides_itself d e

-- a final method of a superclass is overridden by that of the class with its name and descriptor
abbrev pub breaks_itself : (l s : Loaded) → Method → Bool
breaks_itself l s m = is_final_instance m && overridden_by (declared_by s m) (alike_in l m)

-- the first of a superclass
abbrev pub broken_in : (l s : Loaded) → Option Method
broken_in l s = find (breaks_itself l s) s.class.methods

-- the first of these superclasses, the direct one first
abbrev pub broken_among : Loaded → List Loaded → Option Declared
broken_among l [] = None
broken_among l (s ∷ more) = option_or (option_map (declared_by s) (broken_in l s)) (broken_among l more)

-- ---- as text

abbrev pub final_line : (name descriptor class : List ℕ) → List ℕ
final_line name descriptor class =
    codes "  method " ++ escaped_text name ++ escaped_text descriptor ++ codes " overrides a final one of " ++ escaped_text class ++ 10 ∷ []

abbrev pub broken_text : Option Declared → List ℕ
broken_text None = []
broken_text (Some e) = final_line e.method.name e.method.descriptor e.by.class.name

-- where a class has this verdict
abbrev pub finals_text : World → LoadVerdict → Loaded → List ℕ
finals_text world FinalBroken l = broken_text (broken_among l (superclasses world l.class))
finals_text world why l = []
