-- One class further up, by the flags of its method (JVMS 4.6, 5.4.5).
use Rattle.std.specs.Prelude.{ℕ, ◌+◌, Bool, false, not, ◌&&◌, ◌||◌, List, Option, Some, None, get_or, set, true, if◌then◌else◌}
use Rattle.std.specs.Option.{option_map}
use Rattle.jv_class_structure.specs.Flags.{has, acc_public, acc_private, acc_protected, acc_final}
use Rattle.jv_class.specs.Class.{Method}
use Rattle.jv_classes.specs.declared.member.Member.{Member}
use Rattle.jv_meaning_world.specs.World.{Loaded}
use Rattle.jv_meaning_world.specs.Overriding.{Declared, alike_in}

-- what a member shows of its method
abbrev pub as_method : Member → Method
as_method member = record { access_flags = member.access_flags; name = member.name.now; descriptor = member.descriptor.now; code = None }

-- the flags of the instance method of a class with the name and descriptor of another
abbrev pub flags_alike : Loaded → Method → Option ℕ
flags_alike l m = option_map (λ (d : Declared). d.method.access_flags) (alike_in l m)

-- these are the flags of a final method
abbrev pub is_final_if : Option ℕ → Bool
is_final_if None = false
is_final_if (Some flags) = has flags acc_final

-- a class declares a final instance method with the name and descriptor of another
abbrev pub declares_final_alike : Loaded → Method → Bool
declares_final_alike l m = is_final_if (flags_alike l m)

-- a method with these flags is overridden, where its package is, or isn't, among those found
abbrev pub is_overridden_if : Bool → ℕ → Bool
is_overridden_if found flags =
    has flags (acc_public + acc_protected) || (not (has flags (acc_public + acc_protected + acc_private)) && found)

abbrev pub is_alike_overridden_if : Bool → Option ℕ → Bool
is_alike_overridden_if found None = false
is_alike_overridden_if found (Some flags) = is_overridden_if found flags

abbrev pub is_final_overridden_if : Bool → Option ℕ → Bool
is_final_overridden_if found None = false
is_final_overridden_if found (Some flags) = has flags acc_final && is_overridden_if found flags

abbrev pub is_found_if : Bool → Option ℕ → Bool
is_found_if found None = false
is_found_if found (Some flags) = is_overridden_if found flags && not (has flags acc_private)

-- the class's package is marked where its method is found
abbrev pub marked_with : List Bool → ℕ → Option ℕ → List Bool
marked_with marks number flags = if is_found_if (get_or marks number false) flags then set marks number true else marks
