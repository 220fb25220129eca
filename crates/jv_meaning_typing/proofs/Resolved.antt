-- What resolution answers is found where its constant says.
use Rattle.std.proofs.Common.{◌≡◌, ℕ, Bool, true, false, not, List, ◌∷◌, Option, Some, None, refl, sym, ap, ◌∙◌, subst, inl, inr}
use Rattle.std.specs.Prelude.{◌⊎◌, IsTrue, Ok, filter, codes}
use Rattle.std.specs.List.{Contains, filter_map, list_any}
use Rattle.std.specs.Option.{option_map, ok_or}
use Rattle.std.specs.Str.{bytes_eq}
use Rattle.std.specs.Cmp.Lexicographic.{nat_list_eq_equiv}
use Rattle.std.proofs.lemmas.Bool.{and_parts}
use Rattle.jv_pool.specs.Constants.{MemberReference}
use Rattle.jv_class.specs.Class.{Field, Method, field_named, method_named}
use Rattle.jv_meaning_world.specs.World.{Loaded, World, class_named}
use Rattle.jv_meaning_world.specs.Above.{above, superclasses}
use Rattle.jv_meaning_world.specs.Overriding.{Declared}
use Rattle.jv_meaning_world.specs.Verdicts.{is_interface, declared_by}
use Rattle.jv_meaning_world.specs.LookUps.{DeclaredField, field_by, lookup_field, searched_from, first_found, itself, only, else_option, method_if, method_in, method_if_loaded, without_itself, superinterfaces, is_inheritable, is_concrete, is_public_instance, candidates, maximally_specific, is_below, superinterface_method, lookup_class_method, lookup_interface_method}
use Rattle.jv_meaning_world.specs.Laws.Above.{AboveByWays, AboveIsTransitive}
use Rattle.jv_meaning_typing.specs.LinkErrors.{◌>>=◌, provided}
use Rattle.jv_meaning_typing.specs.LinkErrors.LinkError.{IncompatibleClassChangeError, IllegalAccessError, NoSuchFieldError, NoSuchMethodError}
use Rattle.jv_meaning_typing.specs.Operands.{MethodConstant, MethodReference}
use Rattle.jv_meaning_typing.specs.Operands.MethodConstant.{Methodref, InterfaceMethodref}
use Rattle.jv_meaning_typing.specs.ClassResolution.{resolve_text, member_class}
use Rattle.jv_meaning_typing.specs.Access.{can_access}
use Rattle.jv_meaning_typing.specs.Kind.{has_field_kind, can_use_final, has_method_kind}
use Rattle.jv_meaning_typing.specs.FieldResolution.{found_field, field_from, resolved_field}
use Rattle.jv_meaning_typing.specs.MethodResolution.{MethodTarget, target, names_its_kind, found_method, method_from, resolved_method, is_own_init}
use Rattle.jv_meaning_typing.specs.LinkingLaws.{IsAtOrAbove, IsRootClass, FieldIsUsed, IsCalled, MethodIsCalled}
use Rattle.jv_meaning_typing.proofs.Found.{split, in_filter, in_only, in_else, in_first, in_found, passed, went_on, held, guarded, there, field_is_named, method_is_named}
use Rattle.jv_meaning_typing.proofs.Searched.{searched_is_above, superclass_is_above}

-- ---- fields

field_by_is : (c : Loaded) (o : Option Field) (d : DeclaredField) → option_map (field_by c) o ≡ Some d → (d.by ≡ c) × (o ≡ Some d.field)
field_by_is c None d e = absurd cc
field_by_is c (Some f) d e =
    let same : field_by c f ≡ d = some_same (field_by c f) e in
    (sym (ap (λ (x : DeclaredField). x.by) same), ap (λ (x : DeclaredField). Some x.field) same)
  where
    some_same : (x : DeclaredField) → Some x ≡ Some d → x ≡ d
    some_same x e = cc

pub field_is_used : AboveByWays → AboveIsTransitive → FieldIsUsed
field_is_used ways above_above world site how reference d e =
    let final = guarded (resolved_field world site.by reference >>= (λ d. provided (has_field_kind how d.field) IncompatibleClassChangeError d))
    (λ d. can_use_final how site d) IllegalAccessError d e in
    let kind = guarded (resolved_field world site.by reference) (λ d. has_field_kind how d.field) IncompatibleClassChangeError d final.0 in
    let step = went_on (resolve_text world site.by reference.class >>= (λ c. ok_or (member_class world c) NoSuchFieldError)) (field_from world site.by reference) d kind.0 in
    let access = guarded (found_field world step.0 reference) (λ d. can_access world site.by step.0 d.by d.field.access_flags) IllegalAccessError d step.2 in
    let found = in_first (λ c. option_map (field_by c) (field_named c.class reference.name reference.descriptor)) (searched_from world step.0) d
    (there (lookup_field world step.0 reference.name reference.descriptor) NoSuchFieldError d access.0) in
    let is = field_by_is found.0 (field_named found.0.class reference.name reference.descriptor) d found.2 in
    let named = field_is_named found.0.class reference.name reference.descriptor d.field is.1 in (
      step.0,
      record {
        named_so = step.1;
        place = subst (IsAtOrAbove world step.0) (sym is.0) (searched_is_above ways above_above world step.0 found.0 found.1);
        declared = subst (λ (c : Loaded). field_named c.class reference.name reference.descriptor ≡ Some d.field) (sym is.0) is.1;
        name = named.0;
        descriptor = named.1;
        access = access.1;
        kind = kind.1;
        final = final.1;
      },
    )

-- ---- methods

pub method_in_is : (name descriptor : List ℕ) (l : Loaded) (d : Declared) → method_in name descriptor l ≡ Some d → (d.by ≡ l) × (method_named l.class name descriptor ≡ Some d.method)
method_in_is name descriptor l d e = by_method (method_named l.class name descriptor) e
  where
    by_method : (o : Option Method) → option_map (declared_by l) o ≡ Some d → (d.by ≡ l) × (o ≡ Some d.method)
    by_method None e = absurd cc
    by_method (Some m) e =
        let same : declared_by l m ≡ d = some_same (declared_by l m) e in
        (sym (ap (λ (x : Declared). x.by) same), ap (λ (x : Declared). Some x.method) same)
      where
        some_same : (x : Declared) → Some x ≡ Some d → x ≡ d
        some_same x e = cc

-- a method of this name and type, declared by a class of a place
pub record IsFound (Place : Loaded → Type 0) (name descriptor : List ℕ) (d : Declared) : Type 0 where
  pub place : Place d.by
  pub declared : method_named d.by.class name descriptor ≡ Some d.method

pub is_found : (Place : Loaded → Type 0) (name descriptor : List ℕ) (l : Loaded) (d : Declared) → Place l → method_in name descriptor l ≡ Some d → IsFound Place name descriptor d
is_found Place name descriptor l d here e =
    let is = method_in_is name descriptor l d e in
    record { place = subst Place (sym is.0) here; declared = subst (λ (c : Loaded). method_named c.class name descriptor ≡ Some d.method) (sym is.0) is.1 }

-- an interface above a class
abbrev pub IsInterfaceAbove : World → Loaded → Loaded → Type 0
IsInterfaceAbove world l c = IsTrue (is_interface c) × Contains (above world l.class) c

module _ (ways : AboveByWays) (above_above : AboveIsTransitive) (world : World) where
  superinterface_is_above : (l c : Loaded) → Contains (superinterfaces world l) c → IsInterfaceAbove world l c
  superinterface_is_above l c h =
      let parts = in_filter (without_itself l) (searched_from world l) c h in
      let tests = and_parts (is_interface c) (not (bytes_eq c.class.name l.class.name)) parts.1 in
      (tests.0, by_place tests.1 (searched_is_above ways above_above world l c parts.0))
    where
      clash : (b : Bool) → b ≡ true → IsTrue (not b) → ⊥
      clash true e h = absurd cc
      clash false e h = absurd cc

      by_place : IsTrue (not (bytes_eq c.class.name l.class.name)) → IsAtOrAbove world l c → Contains (above world l.class) c
      by_place other (inl e) = absurd (clash (bytes_eq c.class.name l.class.name) (ap (λ (x : Loaded). bytes_eq x.class.name l.class.name) e ∙ nat_list_eq_equiv.refl l.class.name) other)
      by_place other (inr k) = k

  pub candidate : (l : Loaded) (name descriptor : List ℕ) (d : Declared) → Contains (candidates world l name descriptor) d →
      IsFound (IsInterfaceAbove world l) name descriptor d × IsTrue (is_inheritable d)
  candidate l name descriptor d h =
      let parts = in_filter is_inheritable (filter_map (method_in name descriptor) (superinterfaces world l)) d h in
      let found = in_found (method_in name descriptor) (superinterfaces world l) d parts.0 in
      (is_found (IsInterfaceAbove world l) name descriptor found.0 d (superinterface_is_above l found.0 found.1) found.2, parts.1)

  itself_in : (ds : List Declared) (d : Declared) → first_found itself ds ≡ Some d → Contains ds d
  itself_in ds d e = let found = in_first itself ds d e in subst (Contains ds) (some_same found.0 found.2) found.1
    where
      some_same : (x : Declared) → Some x ≡ Some d → x ≡ d
      some_same x e = cc

  of_superinterface : (l : Loaded) (name descriptor : List ℕ) (d : Declared) → superinterface_method world l name descriptor ≡ Some d → IsFound (IsInterfaceAbove world l) name descriptor d
  of_superinterface l name descriptor d e = (candidate l name descriptor d (by_part (in_else (only (filter is_concrete (maximally_specific world all))) (first_found itself all) d e))).0
    where
      all : List Declared
      all = candidates world l name descriptor

      by_part : (only (filter is_concrete (maximally_specific world all)) ≡ Some d) ⊎ (first_found itself all ≡ Some d) → Contains all d
      by_part (inl f) =
          let concrete = in_filter is_concrete (maximally_specific world all) d (in_only (filter is_concrete (maximally_specific world all)) d f) in
          (in_filter (λ x. not (list_any (is_below world x) all)) all d concrete.0).0
      by_part (inr f) = itself_in all d f

  abbrev IsCalledPlace : Loaded → Loaded → Type 0
  IsCalledPlace named c = IsAtOrAbove world named c ⊎ IsRootClass world c

  wider : (named : Loaded) (name descriptor : List ℕ) (d : Declared) → IsFound (IsInterfaceAbove world named) name descriptor d → IsFound (IsCalledPlace named) name descriptor d
  wider named name descriptor d found = record { place = inl (inr found.place.1); declared = found.declared }

  in_chain : (named c : Loaded) → Contains (named ∷ superclasses world named.class) c → IsCalledPlace named c
  in_chain named c h = by_part (split named (superclasses world named.class) c h)
    where
      by_part : (named ≡ c) ⊎ Contains (superclasses world named.class) c → IsCalledPlace named c
      by_part (inl e) = inl (inl (sym e))
      by_part (inr k) = inl (inr (superclass_is_above ways above_above world named.class c k))

  in_class : (named : Loaded) (name descriptor : List ℕ) (d : Declared) → lookup_class_method world named name descriptor ≡ Some d → IsFound (IsCalledPlace named) name descriptor d
  in_class named name descriptor d e = by_part (in_else (first_found (method_in name descriptor) (named ∷ superclasses world named.class)) (superinterface_method world named name descriptor) d e)
    where
      by_part : (first_found (method_in name descriptor) (named ∷ superclasses world named.class) ≡ Some d) ⊎
          (superinterface_method world named name descriptor ≡ Some d) → IsFound (IsCalledPlace named) name descriptor d
      by_part (inl f) =
          let found = in_first (method_in name descriptor) (named ∷ superclasses world named.class) d f in
          is_found (IsCalledPlace named) name descriptor found.0 d (in_chain named found.0 found.1) found.2
      by_part (inr f) = wider named name descriptor d (of_superinterface named name descriptor d f)

  pub in_object : (name descriptor : List ℕ) (d : Declared) → method_if_loaded name descriptor (class_named world (codes "java/lang/Object")) ≡
      Some d → (root : Loaded) × IsRootClass world root × (method_in name descriptor root ≡ Some d)
  in_object name descriptor d e = by_class (class_named world (codes "java/lang/Object")) refl e
    where
      by_class : (o : Option Loaded) → class_named world (codes "java/lang/Object") ≡ o → method_if_loaded name descriptor o ≡ Some d →
          (root : Loaded) × IsRootClass world root × (method_in name descriptor root ≡ Some d)
      by_class None f e = absurd cc
      by_class (Some root) f e = (root, f, e)

  in_interface : (named : Loaded) (name descriptor : List ℕ) (d : Declared) → lookup_interface_method world named name descriptor ≡ Some d → IsFound (IsCalledPlace named) name descriptor d
  in_interface named name descriptor d e = by_own (in_else (method_in name descriptor named) _ d e)
    where
      of_object : Option Declared
      of_object = method_if is_public_instance (method_if_loaded name descriptor (class_named world (codes "java/lang/Object")))

      by_others : (of_object ≡ Some d) ⊎ (superinterface_method world named name descriptor ≡ Some d) → IsFound (IsCalledPlace named) name descriptor d
      by_others (inl f) =
          let found = in_object name descriptor d (passed is_public_instance (method_if_loaded name descriptor (class_named world (codes "java/lang/Object"))) d f).0 in
          is_found (IsCalledPlace named) name descriptor found.0 d (inr found.1) found.2
      by_others (inr f) = wider named name descriptor d (of_superinterface named name descriptor d f)

      by_own : (method_in name descriptor named ≡ Some d) ⊎ (else_option of_object (superinterface_method world named name descriptor) ≡ Some d) → IsFound (IsCalledPlace named) name descriptor d
      by_own (inl f) = is_found (IsCalledPlace named) name descriptor named d (inl (inl refl)) f
      by_own (inr f) = by_others (in_else of_object (superinterface_method world named name descriptor) d f)

  in_either : (constant : MethodConstant) (named : Loaded) (reference : MemberReference) (d : Declared) → found_method world constant named
      reference ≡ Ok d → IsFound (IsCalledPlace named) reference.name reference.descriptor d
  in_either Methodref named reference d e = in_class named reference.name reference.descriptor d (there (lookup_class_method world named reference.name reference.descriptor) NoSuchMethodError d e)
  in_either InterfaceMethodref named reference d e = in_interface named reference.name reference.descriptor d
      (there (lookup_interface_method world named reference.name reference.descriptor) NoSuchMethodError d e)

-- a method that was reached from the named class, as a target
record IsReached (world : World) (current : Loaded) (reference : MemberReference) (named : Loaded) (t : MethodTarget) : Type 0 where
  named_is : t.named ≡ named
  found : IsFound (λ c. IsAtOrAbove world named c ⊎ IsRootClass world c) reference.name reference.descriptor t.declared
  access : IsTrue (can_access world current named t.declared.by t.declared.method.access_flags)

reached : (ways : AboveByWays) (above_above : AboveIsTransitive) (world : World) (current : Loaded) (reference : MethodReference) (named : Loaded)
    (t : MethodTarget) → method_from world current reference named ≡ Ok t → IsReached world current reference.member named t
reached ways above_above world current reference named t e =
    let step = went_on (provided (names_its_kind reference.constant named) IncompatibleClassChangeError named >>=
    (λ named. found_method world reference.constant named reference.member))
    (λ d. provided (can_access world current named d.by d.method.access_flags) IllegalAccessError (target named d)) t e in
    let right = went_on (provided (names_its_kind reference.constant named) IncompatibleClassChangeError named) (λ named. found_method world reference.constant named reference.member) step.0 step.1 in
    as_target step.0 right.0 (held (names_its_kind reference.constant named) IncompatibleClassChangeError named right.0 right.1).1 right.2 step.2
  where
    as_target : (d : Declared) (other : Loaded) → named ≡ other → found_method world reference.constant other reference.member ≡ Ok d
        → provided (can_access world current named d.by d.method.access_flags) IllegalAccessError (target named d) ≡ Ok t → IsReached world current reference.member named t
    as_target d other same found e =
        let access = held (can_access world current named d.by d.method.access_flags) IllegalAccessError (target named d) t e in
        subst (IsReached world current reference.member named) access.1 (record {
          named_is = refl;
          found = in_either ways above_above world reference.constant named reference.member d (subst (λ c. found_method world reference.constant c reference.member ≡ Ok d) (sym same) found);
          access = access.0;
        })

pub method_is_called : AboveByWays → AboveIsTransitive → MethodIsCalled
method_is_called ways above_above world site how reference t e =
    let kind = guarded (resolved_method world site.by reference >>= (λ t. provided (is_own_init how t) NoSuchMethodError t))
    (λ t. has_method_kind how t.declared.method) IncompatibleClassChangeError t e in
    let own = guarded (resolved_method world site.by reference) (is_own_init how) NoSuchMethodError t kind.0 in
    let step = went_on (resolve_text world site.by reference.member.class >>= (λ c. ok_or (member_class world c) NoSuchMethodError)) (method_from world site.by reference) t own.0 in
    as_called step.0 step.1 own.1 kind.1 (reached ways above_above world site.by reference step.0 t step.2)
  where
    as_called : (named : Loaded) → (resolve_text world site.by reference.member.class >>= (λ c. ok_or (member_class world c) NoSuchMethodError)) ≡ Ok named
        → IsTrue (is_own_init how t) → IsTrue (has_method_kind how t.declared.method) → IsReached world site.by reference.member named t → IsCalled world site how reference t
    as_called named e own kind r =
        let texts = method_is_named t.declared.by.class reference.member.name reference.member.descriptor t.declared.method r.found.declared in
        record {
          named_so = subst (λ c. (resolve_text world site.by reference.member.class >>= (λ c. ok_or (member_class world c) NoSuchMethodError)) ≡ Ok c) (sym r.named_is) e;
          place = subst (λ c. IsAtOrAbove world c t.declared.by ⊎ IsRootClass world t.declared.by) (sym r.named_is) r.found.place;
          declared = r.found.declared;
          name = texts.0;
          descriptor = texts.1;
          access = subst (λ c. IsTrue (can_access world site.by c t.declared.by t.declared.method.access_flags)) (sym r.named_is) r.access;
          constructor = own;
          kind = kind;
        }
