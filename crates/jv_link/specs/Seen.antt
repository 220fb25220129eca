-- What sites, targets and errors of the code stand for in the definitions of linking.
use Rattle.std.specs.Prelude.{◌<◌, length, Option, Some, Result, Ok, Err, slice_get}
use Rattle.std.specs.Option.{option_map}
use Rattle.jv_format.specs.Format.{◌>>=◌}
use Rattle.jv_text.specs.Seen.{seen_field_type}
use Rattle.jv_meaning_world.specs.World.{World}
use Rattle.jv_lookups.specs.declared.place.Place.{Place}
use Rattle.jv_lookups.specs.Places.{method_at, IsMethodPlace}
use Rattle.jv_meaning_typing.specs.Uses.{Site as SiteOfNames, Use as UseOfNames}
use Rattle.jv_meaning_typing.specs.Uses.Use.{Getstatic, Putstatic, Getfield, Putfield, Invokevirtual, Invokespecial, Invokestatic, Invokeinterface, New}
use Rattle.jv_meaning_typing.specs.LinkErrors.{LinkError as ErrorOfNames, OrError}
use Rattle.jv_meaning_typing.specs.LinkErrors.LinkError.{NoClassDefFoundError, ClassCircularityError, IncompatibleClassChangeError, IllegalAccessError, VerifyError, NoSuchFieldError, NoSuchMethodError, AbstractMethodError, InstantiationError}
use Rattle.jv_meaning_typing.specs.ClassResolution.{ResolvedClass}
use Rattle.jv_meaning_typing.specs.ClassResolution.ResolvedClass.{ClassOf, ArrayOf}
use Rattle.jv_meaning_typing.specs.MethodResolution.{MethodTarget as TargetOfNames, target}
use Rattle.jv_link.specs.declared.site.Site.{Site}
use Rattle.jv_link.specs.declared.site.Use.{Use}
use Rattle.jv_link.specs.declared.site.Use.TheVariants as uses
use Rattle.jv_link.specs.declared.error.LinkError.{LinkError}
use Rattle.jv_link.specs.declared.error.LinkError.TheVariants as errors
use Rattle.jv_link.specs.declared.target.ClassRef.{ClassRef}
use Rattle.jv_link.specs.declared.target.ClassRef.TheVariants as refs
use Rattle.jv_link.specs.declared.target.MethodTarget.{MethodTarget}

abbrev pub seen_use : Use → UseOfNames
seen_use uses.Getstatic = Getstatic
seen_use uses.Putstatic = Putstatic
seen_use uses.Getfield = Getfield
seen_use uses.Putfield = Putfield
seen_use uses.Invokevirtual = Invokevirtual
seen_use uses.Invokespecial = Invokespecial
seen_use uses.Invokestatic = Invokestatic
seen_use uses.Invokeinterface = Invokeinterface
seen_use uses.New = New

abbrev pub error_of : LinkError → ErrorOfNames
error_of errors.NoClassDefFoundError = NoClassDefFoundError
error_of errors.ClassCircularityError = ClassCircularityError
error_of errors.IncompatibleClassChangeError = IncompatibleClassChangeError
error_of errors.IllegalAccessError = IllegalAccessError
error_of errors.VerifyError = VerifyError
error_of errors.NoSuchFieldError = NoSuchFieldError
error_of errors.NoSuchMethodError = NoSuchMethodError
error_of errors.AbstractMethodError = AbstractMethodError
error_of errors.InstantiationError = InstantiationError

-- ---- sites

abbrev pub place_of : Site → Place
place_of site = record { class = site.class; member = site.method }

-- the method at a site, with its class
abbrev pub seen_site : World → Site → Option SiteOfNames
seen_site world site = method_at world (place_of site)

-- the site's class is in the world, and its method in the class
abbrev pub IsSite : World → Site → Type 0
IsSite world site = IsMethodPlace world (place_of site)

-- ---- targets

abbrev pub class_ref_at : World → ClassRef → Option ResolvedClass
class_ref_at world (refs.Class number) = option_map ClassOf (slice_get world number)
class_ref_at world (refs.Array type) = Some (ArrayOf (seen_field_type type))

abbrev pub method_target_at : World → MethodTarget → Option TargetOfNames
method_target_at world t = slice_get world t.named >>= λ l. option_map (target l) (method_at world t.declared)

-- the numbers of a target are those of a class and of a method
pub record IsMethodTarget (world : World) (t : MethodTarget) : Type 0 where
  pub named : t.named < length world
  pub declared : IsMethodPlace world t.declared

-- ---- answers: the target that the numbers stand for, or the error

abbrev pub answer : {B : Type 0} → B → OrError B
answer b = Ok b

abbrev pub answer_at : {A B : Type 0} → (A → Option B) → Result A LinkError → Option (OrError B)
answer_at at (Ok a) = option_map answer (at a)
answer_at at (Err error) = Some (Err (error_of error))
