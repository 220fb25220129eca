-- The way up from an object's class to the method that is called: what each class has for the call, and what is run then.
use Rattle.std.specs.Prelude.{◌≡◌, ⊤, ℕ, Bool, true, false, ◌&&◌, ◌||◌, List, [], ◌∷◌, map, Option, Some, None, slice_get, if◌then◌else◌}
use Rattle.std.specs.List.{list_any}
use Rattle.jv_format.specs.Format.{◌>>=◌}
use Rattle.jv_meaning_world.specs.World.{Loaded, World}
use Rattle.jv_meaning_world.specs.Above.{is_above, superclasses}
use Rattle.jv_meaning_world.specs.Overriding.{Declared, alike_in}
use Rattle.jv_meaning_world.specs.LookUps.{else_option}
use Rattle.jv_lookups.specs.Places.{method_at, IsMethodPlace, IsMethodFound}
use Rattle.jv_loader.specs.Straight.{IsStraight}
use Rattle.jv_meaning_typing.specs.Access.{same_class}
use Rattle.jv_meaning_typing.specs.Inside.OneWalk.{is_open}
use Rattle.jv_meaning_typing.specs.Inside.Upward.{is_private, is_near}
use Rattle.jv_link.specs.declared.meeting.Met.{Met}
use Rattle.jv_link.specs.declared.meeting.Met.TheVariants as met
use Rattle.std.specs.Option.{option_and_then}
use Rattle.jv_lookups.specs.declared.place.Place.{Place}

-- nothing for the call; a method that overrides the called one where another further up opens it; one that overrides it whatever
-- is further up; and one that does, and opens it
pub data Meeting : Type 0 where
  Nothing : Meeting
  Far : Declared → Meeting
  Sure : Declared → Meeting
  Opens : Declared → Meeting

-- a method of a class below the called one's
abbrev pub met_below : Declared → Declared → Meeting
met_below e d =
    if is_private d then Nothing else if is_near e d && is_open d then Opens d else if is_near e d || is_open e then Sure d else Far d

abbrev pub met_in : World → Declared → Loaded → Option Declared → Meeting
met_in world e l None = Nothing
met_in world e l (Some d) =
    if is_above world e.by.class.name l.class then met_below e d else if same_class e.by l then Sure d else Nothing

abbrev pub meets : World → Declared → Loaded → Meeting
meets world e l = met_in world e l (alike_in l e.method)

-- what the code has of it
abbrev pub IsMet : World → Met → Meeting → Type 0
IsMet world met.Nothing m = m ≡ Nothing
IsMet world (met.Far place) m = (d : Declared) × (method_at world place ≡ Some d) × (m ≡ Far d)
IsMet world (met.Sure place) m = (d : Declared) × (method_at world place ≡ Some d) × (m ≡ Sure d)
IsMet world (met.Opens place) m = (d : Declared) × (method_at world place ≡ Some d) × (m ≡ Opens d)

abbrev pub IsMetPlace : World → Met → Type 0
IsMetPlace world met.Nothing = ⊤
IsMetPlace world (met.Far place) = IsMethodPlace world place
IsMetPlace world (met.Sure place) = IsMethodPlace world place
IsMetPlace world (met.Opens place) = IsMethodPlace world place

-- ---- what is run

abbrev pub is_opening : Meeting → Bool
is_opening (Opens d) = true
is_opening _ = false

abbrev pub hit : Bool → Meeting → Option Declared
hit opened Nothing = None
hit opened (Far d) = if opened then Some d else None
hit opened (Sure d) = Some d
hit opened (Opens d) = Some d

-- the first that overrides the called method, of those that are met on the way up
abbrev pub run_of : List Meeting → Option Declared
run_of [] = None
run_of (m ∷ more) = else_option (hit (list_any is_opening more) m) (run_of more)

-- a class, where there is one, and its superclasses
abbrev pub upward_of : World → Option Loaded → List Loaded
upward_of world None = []
upward_of world (Some l) = l ∷ superclasses world l.class

abbrev pub met_upward : World → Declared → Option Loaded → List Meeting
met_upward world e o = map (meets world e) (upward_of world o)

-- what is run where one waits for another further up that opens it, and another is sure meanwhile
abbrev pub run_behind : Declared → Option Declared → List Meeting → Option Declared
run_behind waits sure more = if list_any is_opening more then Some waits else else_option sure (run_of more)

-- what is sure behind what was so before
abbrev pub sure_of : Meeting → Option Declared
sure_of (Sure d) = Some d
sure_of _ = None

abbrev pub sure_behind : Option Declared → Meeting → Option Declared
sure_behind sure m = else_option sure (sure_of m)

-- ---- by numbers

abbrev pub numbered : World → Option ℕ → Option Loaded
numbered world number = number >>= slice_get world

-- the class with the number, where there is one, is below no circle
abbrev pub IsStraightAt : World → Option ℕ → Type 0
IsStraightAt world number = (l : Loaded) → numbered world number ≡ Some l → IsStraight world l

-- the same of the places that the code has
abbrev pub IsSureBehind : World → Met → Option Place → Option Place → Type 0
IsSureBehind world found sure answer =
    (m : Meeting) → IsMet world found m → IsMethodFound world answer (sure_behind (option_and_then (method_at world) sure) m)

abbrev pub IsRunBehind : World → Place → Place → Option ℕ → Option Place → Type 0
IsRunBehind world called waits first answer =
    (e w : Declared) → method_at world called ≡ Some e → method_at world waits ≡ Some w
    → IsMethodFound world answer (run_behind w None (met_upward world e (numbered world first)))

abbrev pub IsMetBelow : World → Place → Place → Met → Type 0
IsMetBelow world called place answer =
    (e d : Declared) → method_at world called ≡ Some e → method_at world place ≡ Some d → IsMet world answer (met_below e d)
