-- The classes above one, as marks by number (JVMS 5.3.5).
use Rattle.std.specs.Prelude.{◌≡◌, ◌||◌, ℕ, false, List, Bool, get_or}
use Rattle.jv_meaning_world.specs.Above.{is_above}
use Rattle.jv_meaning_world.specs.Numbers.{HoldsAtBoth}
use Rattle.jv_meaning_world.specs.World.{World}

-- what was marked still is, and each superclass and superinterface of the class with a number, at any distance
abbrev pub MarksAbove : World → ℕ → List Bool → List Bool → Type 0
MarksAbove world number old new =
    (to : ℕ) → HoldsAtBoth world number to
    (λ l above. get_or new to false ≡ (get_or old to false || is_above world above.class.name l.class))
