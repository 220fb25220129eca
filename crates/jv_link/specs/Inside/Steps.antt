-- Steps of resolution.
use Rattle.std.specs.Prelude.{ℕ, ◌<◌, List, length, Result, IfOk, ◌≡◌, Bool, Option, Some, slice_get}
use Rattle.std.specs.Option.{ok_or, option_map}
use Rattle.jv_meaning_world.specs.World.{Loaded, World, can_name}
use Rattle.jv_meaning_typing.specs.LinkErrors.{LinkError as ErrorOfNames, OrError, ◌>>=◌, provided, unless_wrong}
use Rattle.jv_meaning_typing.specs.LinkErrors.LinkError.{IllegalAccessError, NoSuchMethodError}
use Rattle.jv_meaning_typing.specs.Uses.{Site}
use Rattle.jv_meaning_typing.specs.Kind.{can_use_final, can_set_final}
use Rattle.jv_meaning_typing.specs.MethodResolution.{MethodTarget, target, is_own_init, method_from}
use Rattle.jv_meaning_typing.specs.Access.{can_access, is_accessible_below}
use Rattle.jv_pool.specs.Constants.{MemberReference}
use Rattle.jv_meaning_world.specs.Overriding.{Declared}
use Rattle.jv_meaning_world.specs.LookUps.{DeclaredField, lookup_method}
use Rattle.jv_meaning_typing.specs.ClassResolution.{ResolvedClass, error_of_class, resolve_text, member_class, resolve_class, resolve_element}
use Rattle.jv_link.specs.declared.error.LinkError.{LinkError}
use Rattle.jv_link.specs.declared.target.ClassRef.{ClassRef}
use Rattle.jv_meaning_world.specs.Numbers.{HoldsAtBoth, HoldsAtNumber}
use Rattle.jv_lookups.specs.Places.{field_at, method_at}
use Rattle.jv_lookups.specs.declared.place.Place.{Place}
use Rattle.jv_link.specs.Seen.{seen_site, seen_use, error_of}
use Rattle.jv_link.specs.Answers.{AnswersType, AnswersField, AnswersTarget}
use Rattle.jv_link.specs.declared.site.Site.{Site as SiteByNumber}
use Rattle.jv_link.specs.declared.site.Use.{Use as UseByNumber}
use Rattle.jv_link.specs.declared.target.MethodTarget.{MethodTarget as TargetByNumber}
use Rattle.jv_pool.specs.Seen.{seen_member}
use Rattle.jv_pool.specs.declared.constant.MemberName.{MemberName}
use Rattle.jv_meaning_typing.specs.FieldResolution.{field_from}
use Rattle.jv_link.specs.Inside.References.{reference_of}
use Rattle.jv_link.specs.declared.reference.MethodName.{MethodName}
use Rattle.std.specs.Borrow.{Bor}
use Rattle.jv_text.specs.declared.descriptor.FieldTypeOf.{FieldTypeOf}
use Rattle.jv_text.specs.Name.{is_init}
use Rattle.jv_text.specs.Seen.{seen_field_type, seen_element}

-- a class of the world, where it is loadable and open to the current one (JVMS 5.4.3.1)
abbrev pub if_open : World → Loaded → Loaded → OrError Loaded
if_open world current l = unless_wrong (error_of_class world l) l >>= (λ m. provided (can_name current m) IllegalAccessError m)

-- the class whose members a reference means (5.4.3.2, 5.4.3.3)
abbrev pub named_class : World → Loaded → List ℕ → ErrorOfNames → OrError Loaded
named_class world current text missing = resolve_text world current text >>= (λ r. ok_or (member_class world r) missing)

-- numbers are those of classes
abbrev pub IsWithin : World → Result ℕ LinkError → Type 0
IsWithin world result = IfOk result (λ number. number < length world)

-- the method that is looked up from a class or an interface (5.4.3.3, 5.4.3.4)
abbrev pub looked_up : World → Loaded → MemberReference → OrError Declared
looked_up world named reference = ok_or (lookup_method world named reference.name reference.descriptor) NoSuchMethodError

-- a field or a method that the current class can access by way of the class that is named (5.4.4)
abbrev pub accessible_field : World → Loaded → Loaded → DeclaredField → OrError DeclaredField
accessible_field world current named d = provided (can_access world current named d.by d.field.access_flags) IllegalAccessError d

abbrev pub accessible_method : World → Loaded → Loaded → Declared → OrError MethodTarget
accessible_method world current named d =
    provided (can_access world current named d.by d.method.access_flags) IllegalAccessError (target named d)

-- ---- steps by numbers

-- the class or array that a text names, by the class at a site
abbrev pub IsResolvedBy : World → ℕ → Option UseByNumber → List ℕ → Result ClassRef LinkError → Type 0
IsResolvedBy world current how text answer =
    (s : Site) → slice_get world current ≡ Some s.by → AnswersType world answer (resolve_class world s (option_map seen_use how) text)

-- a final field can be set, or used, at a site, if it is one
abbrev pub CanSetFinal : World → SiteByNumber → UseByNumber → ℕ → Bool → Type 0
CanSetFinal world site how by answer =
    (s : Site) (d : DeclaredField) → seen_site world site ≡ Some s → slice_get world site.class ≡ Some s.by → slice_get world by ≡ Some d.by
    → answer ≡ can_set_final (seen_use how) s d

abbrev pub CanUseFinal : World → SiteByNumber → UseByNumber → ℕ → ℕ → Bool → Type 0
CanUseFinal world site how by flags answer =
    (s : Site) (d : DeclaredField) → seen_site world site ≡ Some s → slice_get world site.class ≡ Some s.by → slice_get world by ≡ Some d.by
    → flags ≡ d.field.access_flags → answer ≡ can_use_final (seen_use how) s d

-- the method that a target names is that of the class itself, where it is an `<init>`
abbrev pub IsOwnInit : World → TargetByNumber → UseByNumber → Bool → Bool → Type 0
IsOwnInit world target how init answer =
    (t : MethodTarget) → slice_get world target.named ≡ Some t.named → slice_get world target.declared.class ≡ Some t.declared.by
    → init ≡ is_init t.declared.method.name → answer ≡ is_own_init (seen_use how) t

-- a member that is found from the class that is named can be accessed by the current class
abbrev pub AnswersAccessibleField : World → ℕ → ℕ → Place → Result Place LinkError → Type 0
AnswersAccessibleField world current named place answer =
    HoldsAtBoth world current named (λ c n. (d : DeclaredField) → field_at world place ≡ Some d → slice_get world place.class ≡ Some d.by
    → AnswersField world answer (accessible_field world c n d))

abbrev pub AnswersAccessibleMethod : World → ℕ → ℕ → Place → Result TargetByNumber LinkError → Type 0
AnswersAccessibleMethod world current named place answer =
    HoldsAtBoth world current named (λ c n. (d : Declared) → method_at world place ≡ Some d → slice_get world place.class ≡ Some d.by
    → AnswersTarget world answer (accessible_method world c n d))

-- the class whose members a type has, or what is answered where it has none
abbrev pub member_class_or : World → ResolvedClass → LinkError → OrError Loaded
member_class_or world type missing = ok_or (member_class world type) (error_of missing)

-- what a reference to a field means, from the class that it names
abbrev pub field_by : World → MemberName → Loaded → Loaded → OrError DeclaredField
field_by world reference current named = field_from world current (seen_member reference) named

abbrev pub AnswersMethodFrom : World → ℕ → ℕ → MethodName → Result TargetByNumber LinkError → Type 0
AnswersMethodFrom world current named reference answer =
    HoldsAtBoth world current named (λ c n. AnswersTarget world answer (method_from world c (reference_of reference) n))

-- the current class can access a member with these flags by way of a class that is named
abbrev pub IsAccessibleBelow : World → ℕ → ℕ → ℕ → ℕ → Bool → Type 0
IsAccessibleBelow world current named by flags answer =
    HoldsAtBoth world current named (λ c n. HoldsAtNumber world by (λ l. answer ≡ is_accessible_below world c n l flags))

-- an array's element, resolved from a class (5.4.3.1)
abbrev pub array_resolved : World → FieldTypeOf (Bor (List ℕ)) → Loaded → OrError ResolvedClass
array_resolved world array current = resolve_element world current (seen_field_type array) (seen_element array.element)
