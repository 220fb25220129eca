-- Which method a call runs (JVMS 6.5: invokevirtual, invokeinterface, invokespecial, invokestatic), once its target is
-- resolved and the object is known not to be null.
use Rattle.std.specs.Prelude.{Bool, not, ◌&&◌, ◌||◌, List, [], ◌∷◌, reverse, filter, Option, Some, None, Ok, Err, codes, if◌then◌else◌}
use Rattle.std.specs.List.{list_any}
use Rattle.std.specs.Option.{ok_or, option_or, unwrap_or}
use Rattle.std.specs.Str.{bytes_eq}
use Rattle.jv_text.specs.Name.{is_init}
use Rattle.jv_class_structure.specs.Flags.{has, acc_public}
use Rattle.jv_class.specs.Class.{Method}
use Rattle.jv_meaning_world.specs.World.{Loaded, World, class_named}
use Rattle.jv_meaning_world.specs.Above.{is_above, superclass_in, superclasses}
use Rattle.jv_meaning_world.specs.Overriding.{Declared, is_instance, alike_in, overriding}
use Rattle.jv_meaning_world.specs.Verdicts.{is_interface}
use Rattle.jv_meaning_world.specs.LookUps.{is_among, first_found, candidates, maximally_specific, is_concrete, is_public_instance, method_if, method_if_loaded}
use Rattle.jv_meaning_typing.specs.Uses.{Use, Site}
use Rattle.jv_meaning_typing.specs.Uses.Use.{Invokevirtual, Invokespecial, Invokeinterface}
use Rattle.jv_meaning_typing.specs.LinkErrors.{OrError, ◌>>=◌, provided}
use Rattle.jv_meaning_typing.specs.LinkErrors.LinkError.{IncompatibleClassChangeError, IllegalAccessError, AbstractMethodError}
use Rattle.jv_meaning_typing.specs.Access.{same_class}
use Rattle.jv_meaning_typing.specs.MethodResolution.{MethodTarget, target}

-- a class and its superclasses, upward
abbrev pub upward : World → Loaded → List Loaded
upward world l = l ∷ superclasses world l.class

-- ---- overriding (5.4.5)

-- those of a class and its superclasses that are below another class or interface, the highest first
abbrev pub classes_below : World → Loaded → Loaded → List Loaded
classes_below world l other = reverse (filter (λ c. is_above world other.class.name c.class) (upward world l))

-- instance methods of one name and descriptor; `<init>` is none
abbrev pub are_alike : Method → Method → Bool
are_alike m other = is_instance m && is_instance other && bytes_eq m.name other.name && bytes_eq m.descriptor other.descriptor

-- a class declares a method itself, or declares one of its name and descriptor below it that overrides it: itself, or by way
-- of a third between them
abbrev pub has_overriding : World → Loaded → Declared → Bool
has_overriding world l e = list_any (λ o. same_class o.by l) (overriding (e ∷ []) e.method (classes_below world l e.by))

-- A method overrides another, each as its class declares it: they are alike, and its class has it for one that overrides.
abbrev pub overrides : World → Declared → Declared → Bool
overrides world d e = are_alike d.method e.method && has_overriding world d.by e

-- ---- instance methods upward from a class

abbrev pub overriding_in : World → Declared → Loaded → Option Declared
overriding_in world e l = method_if (λ d. overrides world d e) (alike_in l e.method)

-- the first that overrides a method
abbrev pub first_overriding : World → Declared → Loaded → Option Declared
first_overriding world e l = first_found (overriding_in world e) (upward world l)

-- the first with the name and descriptor of a method
abbrev pub first_alike : World → Method → Loaded → Option Declared
first_alike world m l = first_found (λ c. alike_in c m) (upward world l)

-- ---- superinterface methods

-- the only one; of none it is an AbstractMethodError, of several an IncompatibleClassChangeError (6.5)
abbrev pub one_of : List Declared → OrError Declared
one_of [] = Err AbstractMethodError
one_of (d ∷ []) = Ok d
one_of _ = Err IncompatibleClassChangeError

-- the one maximally specific superinterface method that is not abstract
abbrev pub superinterface_default : World → Loaded → Method → OrError Declared
superinterface_default world l m = one_of (filter is_concrete (maximally_specific world (candidates world l m.name m.descriptor)))

-- ---- what was found, and else that one

abbrev pub not_abstract : Declared → OrError Declared
not_abstract d = provided (is_concrete d) AbstractMethodError d

abbrev pub found_or_default : World → Loaded → Method → Option Declared → OrError Declared
found_or_default world l m (Some d) = not_abstract d
found_or_default world l m None = superinterface_default world l m

-- ---- invokevirtual

-- the first upward from the object's class that overrides the resolved method
abbrev pub select_virtual : World → Declared → Loaded → OrError Declared
select_virtual world resolved l = found_or_default world l resolved.method (first_overriding world resolved l)

-- ---- invokeinterface

-- the object's class, or an array where there is none, implements an interface (6.5; an array those two that it has)
abbrev pub implements : World → Option Loaded → Loaded → Bool
implements world (Some l) interface = is_above world interface.class.name l.class
implements world None interface =
    bytes_eq interface.class.name (codes "java/lang/Cloneable") || bytes_eq interface.class.name (codes "java/io/Serializable")

-- a class's method has to be public, which is asked before whether it is abstract
abbrev pub public_or_default : World → Loaded → Method → Option Declared → OrError Declared
public_or_default world l m (Some d) = provided (has d.method.access_flags acc_public) IllegalAccessError d >>= not_abstract
public_or_default world l m None = superinterface_default world l m

-- the first upward from the object's class with the name and descriptor of the resolved method
abbrev pub select_interface : World → Method → Loaded → OrError Declared
select_interface world m l = public_or_default world l m (first_alike world m l)

-- ---- invokespecial, for methods but `<init>`

-- the search begins at the direct superclass of the current class where the named class is a superclass of the current one;
-- ACC_SUPER counts as set (4.1)
abbrev pub begins_above : World → Loaded → Loaded → Bool
begins_above world current named = not (is_interface named) && is_among (superclasses world current.class) named

abbrev pub special_start : World → Loaded → Loaded → Loaded
special_start world current named =
    if begins_above world current named then unwrap_or (superclass_in world current.class) named else named

-- from an interface: its own, and then a public one of java/lang/Object
abbrev pub interface_first : World → Method → Loaded → Option Declared
interface_first world m l =
    option_or (alike_in l m)
    (method_if is_public_instance (method_if_loaded m.name m.descriptor (class_named world (codes "java/lang/Object"))))

-- from a class: the first upward, whose access is not asked
abbrev pub special_first : World → Method → Loaded → Option Declared
special_first world m l = if is_interface l then interface_first world m l else first_alike world m l

abbrev pub select_from : World → Method → Loaded → OrError Declared
select_from world m start = found_or_default world start m (special_first world m start)

-- an `<init>` that was resolved is that of the named class, which is called itself
abbrev pub select_special : World → Loaded → MethodTarget → OrError Declared
select_special world current t =
    if is_init t.declared.method.name then Ok t.declared
    else select_from world t.declared.method (special_start world current t.named)

-- ---- all four

-- an array's methods are those of java/lang/Object, which each world has
abbrev pub object_class : World → Option Loaded → OrError Loaded
object_class world (Some l) = Ok l
object_class world None = ok_or (class_named world (codes "java/lang/Object")) AbstractMethodError

abbrev pub selected : World → Site → Use → MethodTarget → Option Loaded → OrError Declared
selected world site Invokevirtual t object = object_class world object >>= select_virtual world t.declared
selected world site Invokeinterface t object =
    provided (implements world object t.named) IncompatibleClassChangeError object
    >>= object_class world
    >>= select_interface world t.declared.method
selected world site Invokespecial t object = select_special world site.by t
selected world site _ t object = Ok t.declared

-- The method that a call runs, of the target that was resolved for the same use, and the class of the object, which is
-- loadable, None for an array's.
-- invokespecial doesn't look at the object, and invokestatic has none.
abbrev pub select : World → Site → Use → MethodTarget → Option Loaded → OrError MethodTarget
select world site how t object = selected world site how t object >>= (λ d. Ok (target t.named d))
