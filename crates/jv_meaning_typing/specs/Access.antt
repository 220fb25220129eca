-- Access to fields and methods (JVMS 5.4.4).
use Rattle.std.specs.Prelude.{ℕ, Bool, true, ◌&&◌, ◌||◌, if◌then◌else◌}
use Rattle.std.specs.Str.{bytes_eq}
use Rattle.jv_class_structure.specs.Flags.{has, acc_public, acc_private, acc_protected, acc_static}
use Rattle.jv_meaning_world.specs.World.{Loaded, World, same_package}
use Rattle.jv_meaning_world.specs.LookUps.{is_subclass}

-- names differ in a world
abbrev pub same_class : Loaded → Loaded → Bool
same_class a b = bytes_eq a.class.name b.class.name

-- the one is a subclass or a superclass of the other, or they are the same class
abbrev pub in_line : World → Loaded → Loaded → Bool
in_line world a b = is_subclass world a b || is_subclass world b a

-- A protected member is accessible to subclasses of the class that declares it: an instance field or method by way of a
-- named class that is in line with the current one.
abbrev pub is_accessible_below : World → Loaded → Loaded → Loaded → ℕ → Bool
is_accessible_below world current named by flags =
    is_subclass world current by && (has flags acc_static || in_line world named current)

-- the current class can access a member with these flags that a class declares, by way of the class that is named
abbrev pub can_access : World → Loaded → Loaded → Loaded → ℕ → Bool
can_access world current named by flags =
    if has flags acc_public then true
    else if has flags acc_private then same_class current by
    else same_package current by || (has flags acc_protected && is_accessible_below world current named by flags)
