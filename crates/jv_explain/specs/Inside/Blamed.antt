-- The super that is blamed, as the code finds it.
use Rattle.std.specs.Prelude.{is_some, List, [], ◌∷◌, ◌++◌, ℕ, Option, Some, None}
use Rattle.std.specs.List.{find}
use Rattle.jv_program_base.specs.Escape.{escaped_text}
use Rattle.jv_meaning_world.specs.World.{Loaded, World}
use Rattle.jv_meaning_world.specs.declared.verdict.LoadVerdict.{LoadVerdict}
use Rattle.jv_explain.specs.declared.supers.Blamed.{Blamed}
use Rattle.jv_explain.specs.Supers.{Super, blamed_text, direct_supers, fault_text, kind_text, super_fault}

abbrev pub blamed_line : Blamed → List ℕ
blamed_line shown = kind_text shown.as_interface ++ escaped_text shown.name.now ++ fault_text shown.fault ++ 10 ∷ []

abbrev pub found_text : Option Blamed → List ℕ
found_text None = []
found_text (Some shown) = blamed_line shown

-- the text of the first of these supers in which a fault is found
abbrev pub blamed_among : World → Loaded → LoadVerdict → List Super → List ℕ
blamed_among world l why supers = blamed_text world l why (find (λ s. is_some (super_fault world l why s)) supers)

abbrev pub blamed_in : World → Loaded → LoadVerdict → List ℕ
blamed_in world l why = blamed_among world l why (direct_supers l.class)
