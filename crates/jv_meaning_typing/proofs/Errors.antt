-- Which errors a step can end in: none is VerifyError.
use Rattle.std.proofs.Common.{◌≡◌, ℕ, Bool, true, false, not, List, [], ◌∷◌, Option, Some, None, refl, sym, ap, ◌∙◌}
use Rattle.std.specs.Prelude.{◌≢◌, ◌+◌, Ok, Err, filter, codes, if◌then◌else◌}
use Rattle.std.specs.Option.{ok_or, option_and_then}
use Rattle.jv_text.specs.declared.descriptor.Element.{Element}
use Rattle.jv_text.specs.declared.descriptor.Element.TheVariants as elements
use Rattle.jv_text.specs.declared.descriptor.FieldTypeOf.{FieldTypeOf}
use Rattle.jv_text.specs.Name.{is_array_name, is_init}
use Rattle.jv_text.specs.Types.{field_type_of}
use Rattle.jv_pool.specs.Constants.{MemberReference}
use Rattle.jv_class_structure.specs.Flags.{has, acc_public, acc_interface, acc_abstract}
use Rattle.jv_class.specs.Class.{Method}
use Rattle.jv_meaning_world.specs.World.{Loaded, World, class_named, can_name}
use Rattle.jv_meaning_world.specs.Overriding.{Declared}
use Rattle.jv_meaning_world.specs.declared.verdict.LoadVerdict.{LoadVerdict}
use Rattle.jv_meaning_world.specs.Verdicts.{verdict_of_class}
use Rattle.jv_meaning_world.specs.declared.verdict.LoadVerdict.TheVariants.{Circular, NoSuper, WrongKind, NoAccess}
use Rattle.jv_meaning_world.specs.LookUps.{is_concrete, lookup_field, lookup_class_method, lookup_interface_method, candidates, maximally_specific}
use Rattle.jv_meaning_typing.specs.Uses.{Use, Site}
use Rattle.jv_meaning_typing.specs.Uses.Use.{Invokevirtual, Invokespecial, Invokeinterface, New}
use Rattle.jv_meaning_typing.specs.LinkErrors.{LinkError, OrError, ◌>>=◌, provided, unless_wrong}
use Rattle.jv_meaning_typing.specs.LinkErrors.LinkError.{NoClassDefFoundError, ClassCircularityError, IncompatibleClassChangeError, IllegalAccessError, VerifyError, NoSuchFieldError, NoSuchMethodError, AbstractMethodError, InstantiationError}
use Rattle.jv_meaning_typing.specs.Operands.{MethodConstant, MethodReference}
use Rattle.jv_meaning_typing.specs.Operands.MethodConstant.{Methodref, InterfaceMethodref}
use Rattle.jv_meaning_typing.specs.ClassResolution.{ResolvedClass, loading_error, error_of_class, resolve_name, resolve_element, resolve_array, resolve_text, creatable, resolve_class, member_class}
use Rattle.jv_meaning_typing.specs.ClassResolution.ResolvedClass.{ClassOf, ArrayOf}
use Rattle.jv_meaning_typing.specs.Access.{can_access}
use Rattle.jv_meaning_typing.specs.Kind.{has_field_kind, can_use_final, has_method_kind}
use Rattle.jv_meaning_typing.specs.FieldResolution.{found_field, field_from, resolved_field, resolve_field}
use Rattle.jv_meaning_typing.specs.MethodResolution.{MethodTarget, target, names_its_kind, found_method, method_from, resolved_method, is_own_init, resolve_method}
use Rattle.jv_meaning_typing.specs.Selection.{first_overriding, first_alike, one_of, superinterface_default, not_abstract, found_or_default, select_virtual, implements, public_or_default, select_interface, special_first, special_start, select_from, select_special, object_class, selected}
use Rattle.jv_meaning_typing.specs.LinkingLaws.{NeverVerifyError}

-- an error other than that one
abbrev Other : LinkError → Type 0
Other error = error ≢ VerifyError

module _ {A : Type 0} where
  ok : (a : A) (r : OrError A) → r ≡ Ok a → r ≢ Err VerifyError
  ok a r e f = clash (sym e ∙ f)
    where
      clash : (let r : OrError A = Ok a in r) ≡ Err VerifyError → ⊥
      clash g = cc

  err : (error : LinkError) (r : OrError A) → Other error → r ≡ Err error → r ≢ Err VerifyError
  err error r other e f = other (same (sym e ∙ f))
    where
      same : (let r : OrError A = Err error in r) ≡ Err VerifyError → error ≡ VerifyError
      same g = cc

  next : {B : Type 0} (r : OrError A) (f : A → OrError B) → r ≢ Err VerifyError → ((a : A) → f a ≢ Err VerifyError) → (r >>= f) ≢ Err VerifyError
  next (Ok a) f first each = each a
  next {B} (Err error) f first each = λ e. first (ap (λ x. let r : OrError A = Err x in r) (same e))
    where
      same : (let r : OrError B = Err error in r) ≡ Err VerifyError → error ≡ VerifyError
      same g = cc

  asked : (test : Bool) (error : LinkError) (a : A) → Other error → provided test error a ≢ Err VerifyError
  asked true error a other = ok a (Ok a) refl
  asked false error a other = err error (Err error) other refl

  sought : (o : Option A) (error : LinkError) → Other error → ok_or o error ≢ Err VerifyError
  sought None error other = err error (Err error) other refl
  sought (Some a) error other = ok a (Ok a) refl

no_class : Other NoClassDefFoundError
no_class e = cc

no_circle : Other ClassCircularityError
no_circle e = cc

no_change : Other IncompatibleClassChangeError
no_change e = cc

no_access : Other IllegalAccessError
no_access e = cc

no_field : Other NoSuchFieldError
no_field e = cc

no_method : Other NoSuchMethodError
no_method e = cc

no_abstract : Other AbstractMethodError
no_abstract e = cc

no_instance : Other InstantiationError
no_instance e = cc

-- ---- classes

of_verdict : (l : Loaded) (o : Option LoadVerdict) → unless_wrong (option_and_then loading_error o) l ≢ Err VerifyError
of_verdict l None = ok l (Ok l) refl
of_verdict l (Some Circular) = err ClassCircularityError (Err ClassCircularityError) no_circle refl
of_verdict l (Some NoSuper) = err NoClassDefFoundError (Err NoClassDefFoundError) no_class refl
of_verdict l (Some WrongKind) = err IncompatibleClassChangeError (Err IncompatibleClassChangeError) no_change refl
of_verdict l (Some NoAccess) = err IllegalAccessError (Err IllegalAccessError) no_access refl
of_verdict l (Some _) = ok l (Ok l) refl

of_class : (world : World) (l : Loaded) → unless_wrong (error_of_class world l) l ≢ Err VerifyError
of_class world l = by_system l.by_system
  where
    by_system : (b : Bool) → unless_wrong (if b then None else option_and_then loading_error (verdict_of_class world l)) l ≢ Err VerifyError
    by_system true = ok l (Ok l) refl
    by_system false = of_verdict l (verdict_of_class world l)

of_name : (world : World) (current : Loaded) (name : List ℕ) → resolve_name world current name ≢ Err VerifyError
of_name world current name =
    next (ok_or (class_named world name) NoClassDefFoundError >>= (λ l. unless_wrong (error_of_class world l) l)) (λ l. provided (can_name current l) IllegalAccessError l)
    (next (ok_or (class_named world name) NoClassDefFoundError) (λ l. unless_wrong (error_of_class world l) l) (sought (class_named world name) NoClassDefFoundError no_class) (λ l. of_class world l))
    (λ l. asked (can_name current l) IllegalAccessError l no_access)

of_array : (world : World) (current : Loaded) (o : Option (FieldTypeOf (List ℕ))) → resolve_array world current o ≢ Err VerifyError
of_array world current None = err NoClassDefFoundError (Err NoClassDefFoundError) no_class refl
of_array world current (Some type) = by_element type.element
  where
    by_element : (e : Element (List ℕ)) → resolve_element world current type e ≢ Err VerifyError
    by_element (elements.Base base) = ok (ArrayOf type) (Ok (ArrayOf type)) refl
    by_element (elements.Class name) = next (resolve_name world current name) (λ l. Ok (ArrayOf type)) (of_name world current name) (λ l. ok (ArrayOf type) (Ok (ArrayOf type)) refl)

of_text : (world : World) (current : Loaded) (text : List ℕ) → resolve_text world current text ≢ Err VerifyError
of_text world current text = by_kind (is_array_name text)
  where
    by_kind : (b : Bool) → (if b then resolve_array world current (field_type_of text) else resolve_name world current text >>= (λ l. Ok (ClassOf l))) ≢ Err VerifyError
    by_kind true = of_array world current (field_type_of text)
    by_kind false = next (resolve_name world current text) (λ l. Ok (ClassOf l)) (of_name world current text) (λ l. ok (ClassOf l) (Ok (ClassOf l)) refl)

of_created : (c : ResolvedClass) → creatable c ≢ Err VerifyError
of_created (ClassOf l) = asked (not (has l.class.access_flags (acc_interface + acc_abstract))) InstantiationError (ClassOf l) no_instance
of_created (ArrayOf type) = err InstantiationError (Err InstantiationError) no_instance refl

of_use : (world : World) (site : Site) (how : Option Use) (text : List ℕ) → resolve_class world site how text ≢ Err VerifyError
of_use world site (Some New) text = next (resolve_text world site.by text) creatable (of_text world site.by text) of_created
of_use world site _ text = of_text world site.by text

-- ---- members

of_field : (world : World) (site : Site) (how : Use) (reference : MemberReference) → resolve_field world site how reference ≢ Err VerifyError
of_field world site how reference =
    next (resolved_field world site.by reference >>= (λ d. provided (has_field_kind how d.field) IncompatibleClassChangeError d)) (λ d. provided (can_use_final how site d) IllegalAccessError d)
    (next (resolved_field world site.by reference) (λ d. provided (has_field_kind how d.field) IncompatibleClassChangeError d)
    (next (resolve_text world site.by reference.class >>= (λ c. ok_or (member_class world c) NoSuchFieldError)) (field_from world site.by reference)
    (next (resolve_text world site.by reference.class) (λ c. ok_or (member_class world c) NoSuchFieldError) (of_text world site.by reference.class)
    (λ c. sought (member_class world c) NoSuchFieldError no_field))
    from_named)
    (λ d. asked (has_field_kind how d.field) IncompatibleClassChangeError d no_change))
    (λ d. asked (can_use_final how site d) IllegalAccessError d no_access)
  where
    from_named : (named : Loaded) → field_from world site.by reference named ≢ Err VerifyError
    from_named named =
        next (found_field world named reference) (λ d. provided (can_access world site.by named d.by d.field.access_flags) IllegalAccessError d)
        (sought (lookup_field world named reference.name reference.descriptor) NoSuchFieldError no_field)
        (λ d. asked (can_access world site.by named d.by d.field.access_flags) IllegalAccessError d no_access)

of_method : (world : World) (site : Site) (how : Use) (reference : MethodReference) → resolve_method world site how reference ≢ Err VerifyError
of_method world site how reference =
    next (resolved_method world site.by reference >>= (λ t. provided (is_own_init how t) NoSuchMethodError t)) (λ t. provided (has_method_kind how t.declared.method) IncompatibleClassChangeError t)
    (next (resolved_method world site.by reference) (λ t. provided (is_own_init how t) NoSuchMethodError t)
    (next (resolve_text world site.by reference.member.class >>= (λ c. ok_or (member_class world c) NoSuchMethodError)) (method_from world site.by reference)
    (next (resolve_text world site.by reference.member.class) (λ c. ok_or (member_class world c) NoSuchMethodError)
    (of_text world site.by reference.member.class) (λ c. sought (member_class world c) NoSuchMethodError no_method))
    from_named)
    (λ t. asked (is_own_init how t) NoSuchMethodError t no_method))
    (λ t. asked (has_method_kind how t.declared.method) IncompatibleClassChangeError t no_change)
  where
    by_constant : (constant : MethodConstant) (named : Loaded) → found_method world constant named reference.member ≢ Err VerifyError
    by_constant Methodref named = sought (lookup_class_method world named reference.member.name reference.member.descriptor) NoSuchMethodError no_method
    by_constant InterfaceMethodref named = sought (lookup_interface_method world named reference.member.name reference.member.descriptor) NoSuchMethodError no_method

    from_named : (named : Loaded) → method_from world site.by reference named ≢ Err VerifyError
    from_named named =
        next (provided (names_its_kind reference.constant named) IncompatibleClassChangeError named >>=
        (λ named. found_method world reference.constant named reference.member))
        (λ d. provided (can_access world site.by named d.by d.method.access_flags) IllegalAccessError (target named d))
        (next (provided (names_its_kind reference.constant named) IncompatibleClassChangeError named) (λ named. found_method world reference.constant named reference.member)
        (asked (names_its_kind reference.constant named) IncompatibleClassChangeError named no_change) (λ named. by_constant reference.constant named))
        (λ d. asked (can_access world site.by named d.by d.method.access_flags) IllegalAccessError (target named d) no_access)

-- ---- selection

of_one : (ds : List Declared) → one_of ds ≢ Err VerifyError
of_one [] = err AbstractMethodError (Err AbstractMethodError) no_abstract refl
of_one (d ∷ []) = ok d (Ok d) refl
of_one (d ∷ e ∷ ds) = err IncompatibleClassChangeError (Err IncompatibleClassChangeError) no_change refl

module _ (world : World) where
  of_default : (l : Loaded) (m : Method) → superinterface_default world l m ≢ Err VerifyError
  of_default l m = of_one (filter is_concrete (maximally_specific world (candidates world l m.name m.descriptor)))

  of_found : (l : Loaded) (m : Method) (o : Option Declared) → found_or_default world l m o ≢ Err VerifyError
  of_found l m None = of_default l m
  of_found l m (Some d) = asked (is_concrete d) AbstractMethodError d no_abstract

  of_public : (l : Loaded) (m : Method) (o : Option Declared) → public_or_default world l m o ≢ Err VerifyError
  of_public l m None = of_default l m
  of_public l m (Some d) =
      next (provided (has d.method.access_flags acc_public) IllegalAccessError d) not_abstract (asked (has d.method.access_flags acc_public) IllegalAccessError d no_access)
      (λ d. asked (is_concrete d) AbstractMethodError d no_abstract)

  of_object : (o : Option Loaded) → object_class world o ≢ Err VerifyError
  of_object None = sought (class_named world (codes "java/lang/Object")) AbstractMethodError no_abstract
  of_object (Some l) = ok l (Ok l) refl

  of_special : (current : Loaded) (t : MethodTarget) → select_special world current t ≢ Err VerifyError
  of_special current t = by_name (is_init t.declared.method.name)
    where
      by_name : (b : Bool) → (if b then Ok t.declared else select_from world t.declared.method (special_start world current t.named)) ≢ Err VerifyError
      by_name true = ok t.declared (Ok t.declared) refl
      by_name false = of_found (special_start world current t.named) t.declared.method (special_first world t.declared.method (special_start world current t.named))

  of_selected : (site : Site) (how : Use) (t : MethodTarget) (object : Option Loaded) → selected world site how t object ≢ Err VerifyError
  of_selected site Invokevirtual t object = next (object_class world object) (select_virtual world t.declared) (of_object object)
      (λ l. of_found l t.declared.method (first_overriding world t.declared l))
  of_selected site Invokeinterface t object =
      next (provided (implements world object t.named) IncompatibleClassChangeError object >>= object_class world) (select_interface world t.declared.method)
      (next (provided (implements world object t.named) IncompatibleClassChangeError object) (object_class world)
      (asked (implements world object t.named) IncompatibleClassChangeError object no_change) of_object)
      (λ l. of_public l t.declared.method (first_alike world t.declared.method l))
  of_selected site Invokespecial t object = of_special site.by t
  of_selected site _ t object = ok t.declared (Ok t.declared) refl

pub never_verify_error : NeverVerifyError
never_verify_error = record {
  class = of_use;
  field = of_field;
  method = of_method;
  selected = λ world site how t object. next (selected world site how t object) (λ d. Ok (target t.named d)) (of_selected world site how t object)
      (λ d. ok (target t.named d) (Ok (target t.named d)) refl);
}
