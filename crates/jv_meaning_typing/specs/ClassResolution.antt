-- Resolution of classes (JVMS 5.4.3.1), arrays (5.3.3) included.
use Rattle.std.specs.Prelude.{ℕ, ◌+◌, not, List, Option, Some, None, Ok, Err, codes, if◌then◌else◌}
use Rattle.std.specs.Option.{ok_or, option_and_then}
use Rattle.jv_text.specs.declared.descriptor.Element.{Element}
use Rattle.jv_text.specs.declared.descriptor.Element.TheVariants as elements
use Rattle.jv_text.specs.declared.descriptor.FieldTypeOf.{FieldTypeOf}
use Rattle.jv_text.specs.Name.{is_array_name}
use Rattle.jv_text.specs.Types.{field_type_of}
use Rattle.jv_class_structure.specs.Flags.{has, acc_interface, acc_abstract}
use Rattle.jv_meaning_world.specs.World.{Loaded, World, class_named, can_name}
use Rattle.jv_meaning_world.specs.declared.verdict.LoadVerdict.{LoadVerdict}
use Rattle.jv_meaning_world.specs.Verdicts.{verdict_of_class}
use Rattle.jv_meaning_world.specs.declared.verdict.LoadVerdict.TheVariants.{Circular, NoSuper, WrongKind, NoAccess}
use Rattle.jv_meaning_typing.specs.Uses.{Use, Site}
use Rattle.jv_meaning_typing.specs.Uses.Use.{New}
use Rattle.jv_meaning_typing.specs.LinkErrors.{LinkError, OrError, ◌>>=◌, provided, unless_wrong}
use Rattle.jv_meaning_typing.specs.LinkErrors.LinkError.{NoClassDefFoundError, ClassCircularityError, IncompatibleClassChangeError, IllegalAccessError, InstantiationError}

-- a class or an interface, or an array class by its type
pub data ResolvedClass : Type 0 where
  ClassOf : Loaded → ResolvedClass
  ArrayOf : FieldTypeOf (List ℕ) → ResolvedClass

-- ---- classes and interfaces

-- why a class of the world is not loadable (5.3.5): a super that is not loadable itself counts as one that is not there (own)
abbrev pub loading_error : LoadVerdict → Option LinkError
loading_error Circular = Some ClassCircularityError
loading_error NoSuper = Some NoClassDefFoundError
loading_error WrongKind = Some IncompatibleClassChangeError
loading_error NoAccess = Some IllegalAccessError
loading_error _ = None

-- there is none of a loadable class, as all of the system's are
abbrev pub error_of_class : World → Loaded → Option LinkError
error_of_class world l = if l.by_system then None else option_and_then loading_error (verdict_of_class world l)

-- The class of a name: it is in the world, loadable, and public or in the run-time package of the current class (5.4.4).
-- A file that is of another version, ill formed or unsupported, or whose name is reserved or taken, is no class (own).
abbrev pub resolve_name : World → Loaded → List ℕ → OrError Loaded
resolve_name world current name =
    ok_or (class_named world name) NoClassDefFoundError
    >>= (λ l. unless_wrong (error_of_class world l) l)
    >>= (λ l. provided (can_name current l) IllegalAccessError l)

-- ---- arrays: the element class is resolved, where there is one

abbrev pub resolve_element : World → Loaded → FieldTypeOf (List ℕ) → Element (List ℕ) → OrError ResolvedClass
resolve_element world current type (elements.Base base) = Ok (ArrayOf type)
resolve_element world current type (elements.Class name) = resolve_name world current name >>= (λ l. Ok (ArrayOf type))

-- no well-formed class has a Class constant whose text begins as a descriptor and is none
abbrev pub resolve_array : World → Loaded → Option (FieldTypeOf (List ℕ)) → OrError ResolvedClass
resolve_array world current None = Err NoClassDefFoundError
resolve_array world current (Some type) = resolve_element world current type type.element

-- what the text of a Class constant names
abbrev pub resolve_text : World → Loaded → List ℕ → OrError ResolvedClass
resolve_text world current text =
    if is_array_name text then resolve_array world current (field_type_of text)
    else resolve_name world current text >>= (λ l. Ok (ClassOf l))

-- ---- the rule of `new` (6.5): neither an interface nor an abstract class, and no array (own), which no verified method names

abbrev pub creatable : ResolvedClass → OrError ResolvedClass
creatable (ClassOf l) = provided (not (has l.class.access_flags (acc_interface + acc_abstract))) InstantiationError (ClassOf l)
creatable (ArrayOf type) = Err InstantiationError

-- a class that an instruction names, with the rule of `new` where it is one
abbrev pub resolve_class : World → Site → Option Use → List ℕ → OrError ResolvedClass
resolve_class world site (Some New) text = resolve_text world site.by text >>= creatable
resolve_class world site _ text = resolve_text world site.by text

-- the class whose members a reference to an array class means: java/lang/Object (5.4.3.3 for methods; no verified method
-- has such a reference to a field, nor to `<init>`)
abbrev pub member_class : World → ResolvedClass → Option Loaded
member_class world (ClassOf l) = Some l
member_class world (ArrayOf type) = class_named world (codes "java/lang/Object")
