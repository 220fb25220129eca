-- The handler of a method that takes what is thrown (JVMS 2.10, 4.7.3).
use Rattle.std.specs.Prelude.{◌≡◌, ℕ, Bool, true, false, ◌&&◌, ◌||◌, ◌==◌, List, [], Option, Some, None, if◌then◌else◌}
use Rattle.std.specs.List.{find}
use Rattle.std.specs.Option.{option_map}
use Rattle.std.specs.Str.{bytes_eq}
use Rattle.jv_format.specs.declared.handlers.Handler.{Handler}
use Rattle.jv_pool.specs.Constants.{Entry, class_name_at}
use Rattle.jv_class_structure.specs.Parts.{CodeSeen}
use Rattle.jv_meaning_world.specs.World.{Loaded, World}
use Rattle.jv_meaning_world.specs.Above.{is_above}
use Rattle.jv_meaning_world.specs.Numbers.{HoldsAtNumber}
use Rattle.jv_meaning_world.specs.Overriding.{Declared}
use Rattle.jv_meaning_typing.specs.Typing.{covers}

-- a class has a name, or is below the class of that name
abbrev pub is_of : World → Loaded → List ℕ → Bool
is_of world l name = bytes_eq l.class.name name || is_above world name l.class

abbrev pub is_of_type : World → Loaded → Option (List ℕ) → Bool
is_of_type world thrown None = false
is_of_type world thrown (Some name) = is_of world thrown name

-- the catch type of a handler is 0, or names the class of what is thrown or one above it
abbrev pub catches : World → List Entry → Loaded → Handler → Bool
catches world pool thrown handler =
    if handler.catch_type == 0 then true else is_of_type world thrown (class_name_at pool handler.catch_type)

abbrev pub takes : World → List Entry → Loaded → ℕ → Handler → Bool
takes world pool thrown offset handler = covers handler offset && catches world pool thrown handler

-- the handlers of a method, in the order of its table
abbrev pub handlers_of_code : Option CodeSeen → List Handler
handlers_of_code None = []
handlers_of_code (Some code) = code.exception_table

abbrev pub handler_pc : Handler → ℕ
handler_pc handler = handler.handler_pc

-- where the first handler of a method begins that takes an object of a class, thrown at an offset; none where none does
abbrev pub IsTaken : World → Declared → ℕ → ℕ → Option ℕ → Type 0
IsTaken world d class offset found = HoldsAtNumber world class (λ thrown.
    found ≡ option_map handler_pc (find (takes world d.by.class.constant_pool thrown offset) (handlers_of_code d.method.code)))
