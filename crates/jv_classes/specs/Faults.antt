-- What is wrong with the supers of a class, finals aside: the first that applies (JVMS 5.3.5, 5.4.4; own order).
use Rattle.std.specs.Prelude.{not, Option, Some, None, if◌then◌else◌}
use Rattle.jv_meaning_world.specs.declared.verdict.LoadVerdict.{LoadVerdict}
use Rattle.jv_meaning_world.specs.declared.verdict.LoadVerdict.TheVariants.{Circular, NoSuper, WrongKind, NoAccess}
use Rattle.jv_meaning_world.specs.World.{Loaded, World}
use Rattle.jv_meaning_world.specs.Above.{is_circular}
use Rattle.jv_meaning_world.specs.Verdicts.{each_super, is_loadable, have_right_kind, can_name_supers}

abbrev pub fault_of_supers : World → Loaded → Option LoadVerdict
fault_of_supers world l =
    if is_circular world l.class then Some Circular
    else if not (each_super world (is_loadable world) l.class) then Some NoSuper
    else if not (have_right_kind world l.class) then Some WrongKind
    else if not (can_name_supers world l) then Some NoAccess
    else None
