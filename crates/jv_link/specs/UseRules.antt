-- What an instruction's own rules make of what a constant resolves to (JVMS 6.5).
use Rattle.std.specs.Prelude.{◌≡◌, ◌<◌, ⊤, length, Result, Some, slice_get}
use Rattle.jv_meaning_world.specs.World.{World}
use Rattle.jv_meaning_world.specs.LookUps.{DeclaredField}
use Rattle.jv_lookups.specs.declared.place.Place.{Place}
use Rattle.jv_lookups.specs.Places.{field_at}
use Rattle.jv_meaning_typing.specs.Uses.{Use, Site}
use Rattle.jv_meaning_typing.specs.LinkErrors.{OrError, ◌>>=◌, provided}
use Rattle.jv_meaning_typing.specs.LinkErrors.LinkError.{IncompatibleClassChangeError, IllegalAccessError, NoSuchMethodError}
use Rattle.jv_meaning_typing.specs.Kind.{has_field_kind, can_use_final, has_method_kind}
use Rattle.jv_meaning_typing.specs.ClassResolution.{ResolvedClass, creatable}
use Rattle.jv_meaning_typing.specs.MethodResolution.{MethodTarget, is_own_init}
use Rattle.jv_link.specs.declared.error.LinkError.{LinkError}
use Rattle.jv_link.specs.declared.site.Site.{Site as SiteByNumber}
use Rattle.jv_link.specs.declared.site.Use.{Use as UseByNumber}
use Rattle.jv_link.specs.declared.target.ClassRef.{ClassRef}
use Rattle.jv_link.specs.declared.target.ClassRef.TheVariants as refs
use Rattle.jv_link.specs.Seen.{answer_at, class_ref_at, seen_site, seen_use}
use Rattle.jv_link.specs.declared.target.MethodTarget.{MethodTarget as TargetByNumber}
use Rattle.jv_link.specs.Answers.{AnswersType, AnswersField, AnswersTarget, HoldsAtTarget}

-- a class's number is that of one
abbrev pub IsRefWithin : World → ClassRef → Type 0
IsRefWithin world (refs.Class number) = number < length world
IsRefWithin world (refs.Array type) = ⊤

-- what was found, by the rule of `new` (6.5)
abbrev pub if_creatable : OrError ResolvedClass → OrError ResolvedClass
if_creatable found = found >>= creatable

-- what was found may be made by `new`
abbrev pub AnswersCreatable : World → Result ClassRef LinkError → Result ClassRef LinkError → Type 0
AnswersCreatable world found answer =
    (a : OrError ResolvedClass) → answer_at (class_ref_at world) found ≡ Some a → AnswersType world answer (if_creatable a)

-- a field of the instruction's kind, which it can set or which is not final (6.5)
abbrev pub usable_field : Use → Site → DeclaredField → OrError DeclaredField
usable_field how site d =
    provided (has_field_kind how d.field) IncompatibleClassChangeError d >>= (λ f. provided (can_use_final how site f) IllegalAccessError f)

abbrev pub AnswersUsable : World → SiteByNumber → UseByNumber → Place → Result Place LinkError → Type 0
AnswersUsable world site how place answer =
    (s : Site) (d : DeclaredField) → seen_site world site ≡ Some s → slice_get world site.class ≡ Some s.by → field_at world place ≡ Some d
    → slice_get world place.class ≡ Some d.by → AnswersField world answer (usable_field (seen_use how) s d)

-- a method that the instruction can call (6.5)
abbrev pub callable_method : Use → MethodTarget → OrError MethodTarget
callable_method how t =
    provided (is_own_init how t) NoSuchMethodError t
    >>= (λ u. provided (has_method_kind how u.declared.method) IncompatibleClassChangeError u)

abbrev pub AnswersCallable : World → TargetByNumber → UseByNumber → Result TargetByNumber LinkError → Type 0
AnswersCallable world target how answer = HoldsAtTarget world target (λ t. AnswersTarget world answer (callable_method (seen_use how) t))
