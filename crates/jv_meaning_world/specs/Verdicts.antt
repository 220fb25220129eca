-- What is wrong with a file of a guest before its methods are looked at: the first that applies (own order).
use Rattle.std.specs.Prelude.{ℕ, zero, suc, Bool, true, false, not, ◌&&◌, ◌||◌, List, [], ◌∷◌, ◌++◌, length, take, Option, Some, None, slice_get, if◌then◌else◌}
use Rattle.std.specs.List.{list_all, list_any}
use Rattle.std.specs.Str.{bytes_eq}
use Rattle.jv_class_structure.specs.Flags.{has, acc_final, acc_interface}
use Rattle.jv_class.specs.Class.{Class, Method}
use Rattle.jv_meaning_world.specs.FileContent.{FileContent}
use Rattle.jv_meaning_world.specs.declared.content.Content.TheVariants.{OtherVersion, NoClassFile, MoreThanProfile, Holds}
use Rattle.jv_meaning_world.specs.declared.verdict.LoadVerdict.{LoadVerdict}
use Rattle.jv_meaning_world.specs.declared.verdict.LoadVerdict.TheVariants.{Version, Format, Unsupported, Reserved, Duplicate, Circular, NoSuper, WrongKind, NoAccess, FinalBroken}
use Rattle.jv_meaning_world.specs.World.{HostClasses, Loaded, World, class_named, is_reserved, has_class, classes_in, loaded, world_of, can_name}
use Rattle.jv_meaning_world.specs.Above.{super_names, superclass_in, superclasses, is_circular}
use Rattle.jv_meaning_world.specs.Overriding.{Declared, is_instance, overriding}

-- ---- supers

-- a test of each direct super, by its name; a super that is not there passes none
abbrev pub passes : (Loaded → Bool) → Option Loaded → Bool
passes test None = false
passes test (Some l) = test l

abbrev pub each_super : World → (Loaded → Bool) → Class → Bool
each_super world test class = list_all (λ name. passes test (class_named world name)) (super_names class)

abbrev pub is_interface : Loaded → Bool
is_interface l = has l.class.access_flags acc_interface

-- the superclass is no interface, and each direct superinterface is one (5.3.5)
abbrev pub superclass_passes : World → (Loaded → Bool) → Option (List ℕ) → Bool
superclass_passes world test None = true
superclass_passes world test (Some name) = passes test (class_named world name)

abbrev pub have_right_kind : World → Class → Bool
have_right_kind world class =
    superclass_passes world (λ l. not (is_interface l)) class.super_class
    && list_all (λ name. passes is_interface (class_named world name)) class.interfaces

-- the class can name each of its direct supers (5.3.5, 5.4.4)
abbrev pub can_name_supers : World → Loaded → Bool
can_name_supers world l = each_super world (can_name l) l.class

-- A class is loadable: one of the system's, or one that is not circular, whose direct supers are all loadable, of the
-- right kind and open to it. One that breaks a final class or method is loadable all the same. Each direct super of a
-- class that is not circular has fewer classes above it, or is circular.
abbrev pub is_loadable_within : World → ℕ → Loaded → Bool
is_loadable_within world zero l = l.by_system
is_loadable_within world (suc k) l =
    l.by_system
    || (not (is_circular world l.class) && each_super world (is_loadable_within world k) l.class
    && have_right_kind world l.class && can_name_supers world l)

abbrev pub is_loadable : World → Loaded → Bool
is_loadable world l = is_loadable_within world (length world) l

-- ---- finals

-- a method of the class overrides this one of a superclass, with these classes between them, the nearest to it first
abbrev pub overrides_in : Loaded → List Loaded → Declared → Bool
overrides_in l between d =
    list_any (λ o. bytes_eq o.by.class.name l.class.name) (overriding (d ∷ []) d.method (between ++ l ∷ []))

abbrev pub is_final_instance : Method → Bool
is_final_instance m = has m.access_flags acc_final && is_instance m

abbrev pub declared_by : Loaded → Method → Declared
declared_by l m = record { by = l; method = m }

abbrev pub breaks_final_of : Loaded → List Loaded → Loaded → Bool
breaks_final_of l between s = list_any (λ m. is_final_instance m && overrides_in l between (declared_by s m)) s.class.methods

-- an instance method overrides a final one of a superclass; those passed stand between, the lowest last
abbrev pub breaks_final : Loaded → List Loaded → List Loaded → Bool
breaks_final l passed [] = false
breaks_final l passed (s ∷ more) = breaks_final_of l passed s || breaks_final l (s ∷ passed) more

abbrev pub has_final_super : World → Class → Bool
has_final_super world class = passes (λ l. has l.class.access_flags acc_final) (superclass_in world class)

-- ---- the first that applies

abbrev pub verdict_of_class : World → Loaded → Option LoadVerdict
verdict_of_class world l =
    if is_circular world l.class then Some Circular
    else if not (each_super world (is_loadable world) l.class) then Some NoSuper
    else if not (have_right_kind world l.class) then Some WrongKind
    else if not (can_name_supers world l) then Some NoAccess
    else if has_final_super world l.class || breaks_final l [] (superclasses world l.class) then Some FinalBroken
    else None

-- of a file behind others: None where its methods decide
abbrev pub verdict_behind : HostClasses → List FileContent → World → FileContent → Option LoadVerdict
verdict_behind host earlier world OtherVersion = Some Version
verdict_behind host earlier world NoClassFile = Some Format
verdict_behind host earlier world MoreThanProfile = Some Unsupported
verdict_behind host earlier world (Holds class) =
    if is_reserved class.name then Some Reserved
    else if has_class (classes_in host earlier) class.name then Some Duplicate
    else verdict_of_class world (loaded false class)

abbrev pub verdict_at : HostClasses → List FileContent → ℕ → Option FileContent → Option LoadVerdict
verdict_at host files place None = None
verdict_at host files place (Some file) = verdict_behind host (take place files) (world_of host files) file

-- of the file at a place, from 0, where there is one
abbrev pub load_verdict : HostClasses → List FileContent → ℕ → Option LoadVerdict
load_verdict host files place = verdict_at host files place (slice_get files place)
