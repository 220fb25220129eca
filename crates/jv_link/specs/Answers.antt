-- What the calls of linking answer, in the terms of the definitions (JVMS 5.4): the class, field or method that numbers stand for
-- is the one that a definition finds, or the error is its error.
use Rattle.std.specs.Prelude.{◌≡◌, ℕ, List, Option, Some, Result, slice_get}
use Rattle.std.specs.Option.{option_map}
use Rattle.jv_pool.specs.Constants.{MemberReference}
use Rattle.jv_meaning_world.specs.World.{Loaded, World}
use Rattle.jv_meaning_world.specs.Overriding.{Declared}
use Rattle.jv_meaning_world.specs.LookUps.{DeclaredField}
use Rattle.jv_lookups.specs.Places.{field_at, method_at}
use Rattle.jv_lookups.specs.declared.place.Place.{Place}
use Rattle.jv_meaning_typing.specs.Uses.{Site as SiteOfNames}
use Rattle.jv_meaning_typing.specs.LinkErrors.{OrError}
use Rattle.jv_meaning_typing.specs.Operands.{MethodReference, class_operand, field_operand, method_operand}
use Rattle.jv_meaning_typing.specs.ClassResolution.{ResolvedClass, resolve_text, resolve_class}
use Rattle.jv_meaning_typing.specs.FieldResolution.{resolved_field, resolve_field}
use Rattle.jv_meaning_typing.specs.MethodResolution.{MethodTarget as TargetOfNames, resolved_method, resolve_method}
use Rattle.jv_meaning_typing.specs.Selection.{select}
use Rattle.jv_link.specs.Seen.{answer_at, class_ref_at, method_target_at, seen_site, seen_use}
use Rattle.jv_link.specs.Objects.{object_class_at}
use Rattle.jv_link.specs.declared.error.LinkError.{LinkError}
use Rattle.jv_link.specs.declared.site.Site.{Site}
use Rattle.jv_link.specs.declared.site.Use.{Use}
use Rattle.jv_link.specs.declared.target.ClassRef.{ClassRef}
use Rattle.jv_link.specs.declared.target.MethodTarget.{MethodTarget}
use Rattle.jv_meaning_world.specs.Numbers.{HoldsAtNumber}

abbrev pub AnswersClass : World → Result ℕ LinkError → OrError Loaded → Type 0
AnswersClass world answer expected = answer_at (slice_get world) answer ≡ Some expected

abbrev pub AnswersType : World → Result ClassRef LinkError → OrError ResolvedClass → Type 0
AnswersType world answer expected = answer_at (class_ref_at world) answer ≡ Some expected

abbrev pub AnswersField : World → Result Place LinkError → OrError DeclaredField → Type 0
AnswersField world answer expected = answer_at (field_at world) answer ≡ Some expected

abbrev pub AnswersMethod : World → Result Place LinkError → OrError Declared → Type 0
AnswersMethod world answer expected = answer_at (method_at world) answer ≡ Some expected

abbrev pub AnswersTarget : World → Result MethodTarget LinkError → OrError TargetOfNames → Type 0
AnswersTarget world answer expected = answer_at (method_target_at world) answer ≡ Some expected

-- what holds at a site
abbrev pub HoldsAtSite : World → Site → (SiteOfNames → Type 0) → Type 0
HoldsAtSite world site P = (s : SiteOfNames) → seen_site world site ≡ Some s → P s

-- ---- the calls

-- the class or array that a text names at a site, as a use wants it (JVMS 5.4.3.1)
abbrev pub IsClassResolved : World → Site → Option Use → List ℕ → Result ClassRef LinkError → Type 0
IsClassResolved world site how text answer =
    HoldsAtSite world site (λ s. AnswersType world answer (resolve_class world s (option_map seen_use how) text))

-- what the Class constant at an index of a class resolves to, before the rule of `new` (5.4.3.1)
abbrev pub IsConstantsClass : World → ℕ → ℕ → Result ClassRef LinkError → Type 0
IsConstantsClass world class index answer =
    HoldsAtNumber world class
    (λ l. (text : List ℕ) → class_operand l.class index ≡ Some text → AnswersType world answer (resolve_text world l text))

-- what it resolves to for an instruction at a site
abbrev pub IsClassUsed : World → Site → Option Use → ℕ → Result ClassRef LinkError → Type 0
IsClassUsed world site how index answer =
    (s : SiteOfNames) (text : List ℕ) → seen_site world site ≡ Some s → class_operand s.by.class index ≡ Some text
    → AnswersType world answer (resolve_class world s (option_map seen_use how) text)

-- the field that the constant at an index of a class resolves to, before the rules of the instruction that uses it (5.4.3.2)
abbrev pub IsConstantsField : World → ℕ → ℕ → Result Place LinkError → Type 0
IsConstantsField world class index answer =
    HoldsAtNumber world class (λ l. (reference : MemberReference) → field_operand l.class index ≡ Some reference
    → AnswersField world answer (resolved_field world l reference))

-- the method (5.4.3.3, 5.4.3.4)
abbrev pub IsConstantsMethod : World → ℕ → ℕ → Result MethodTarget LinkError → Type 0
IsConstantsMethod world class index answer =
    HoldsAtNumber world class (λ l. (reference : MethodReference) → method_operand l.class index ≡ Some reference
    → AnswersTarget world answer (resolved_method world l reference))

-- the field that the constant at an index names (5.4.3.2)
abbrev pub IsFieldResolved : World → Site → Use → ℕ → Result Place LinkError → Type 0
IsFieldResolved world site how index answer =
    (s : SiteOfNames) (reference : MemberReference) → seen_site world site ≡ Some s → field_operand s.by.class index ≡ Some reference
    → AnswersField world answer (resolve_field world s (seen_use how) reference)

-- the method (5.4.3.3, 5.4.3.4)
abbrev pub IsMethodResolved : World → Site → Use → ℕ → Result MethodTarget LinkError → Type 0
IsMethodResolved world site how index answer =
    (s : SiteOfNames) (reference : MethodReference) → seen_site world site ≡ Some s → method_operand s.by.class index ≡ Some reference
    → AnswersTarget world answer (resolve_method world s (seen_use how) reference)

-- the method that a call of a target runs on an object, whose class, where it is no array, has this number (6.5)
abbrev pub IsSelected : World → Site → Use → MethodTarget → Option ℕ → Result MethodTarget LinkError → Type 0
IsSelected world site how target object answer =
    (s : SiteOfNames) (t : TargetOfNames) → seen_site world site ≡ Some s → method_target_at world target ≡ Some t
    → AnswersTarget world answer (select world s (seen_use how) t (object_class_at world object))

-- the type that a class constant has been resolved to, where numbers stand for it
abbrev pub HoldsAtType : World → ClassRef → (ResolvedClass → Type 0) → Type 0
HoldsAtType world found P = (r : ResolvedClass) → class_ref_at world found ≡ Some r → P r

-- what holds of a target
abbrev pub HoldsAtTarget : World → MethodTarget → (TargetOfNames → Type 0) → Type 0
HoldsAtTarget world t P = (n : TargetOfNames) → method_target_at world t ≡ Some n → P n

-- what is answered for the class with a number
abbrev pub AnswersClassOf : World → ℕ → Result ℕ LinkError → (Loaded → OrError Loaded) → Type 0
AnswersClassOf world current answer expected = HoldsAtNumber world current (λ c. AnswersClass world answer (expected c))

abbrev pub AnswersTypeOf : World → ℕ → Result ClassRef LinkError → (Loaded → OrError ResolvedClass) → Type 0
AnswersTypeOf world current answer expected = HoldsAtNumber world current (λ c. AnswersType world answer (expected c))

abbrev pub AnswersFieldOf : World → ℕ → Result Place LinkError → (Loaded → OrError DeclaredField) → Type 0
AnswersFieldOf world current answer expected = HoldsAtNumber world current (λ c. AnswersField world answer (expected c))

abbrev pub AnswersMethodOf : World → ℕ → Result Place LinkError → (Loaded → OrError Declared) → Type 0
AnswersMethodOf world current answer expected = HoldsAtNumber world current (λ c. AnswersMethod world answer (expected c))

abbrev pub AnswersTargetOf : World → ℕ → Result MethodTarget LinkError → (Loaded → OrError TargetOfNames) → Type 0
AnswersTargetOf world current answer expected = HoldsAtNumber world current (λ c. AnswersTarget world answer (expected c))
