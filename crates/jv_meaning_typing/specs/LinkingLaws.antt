-- Laws of resolution, selection, initialization order and layouts, as the soundness of verified code needs them.
use Rattle.std.specs.Prelude.{◌≡◌, ◌↔◌, ◌⊎◌, ◌≢◌, ⊤, ◌∷◌, ◌++◌, ℕ, not, IsTrue, IsFalse, List, [], Option, Some, None, Ok, Err, codes}
use Rattle.std.specs.List.{Contains}
use Rattle.std.specs.Option.{ok_or}
use Rattle.jv_text.specs.Name.{is_init}
use Rattle.jv_pool.specs.Constants.{MemberReference}
use Rattle.jv_class_structure.specs.Flags.{has, acc_private, acc_final, visibility_keeps_rules}
use Rattle.jv_class.specs.Class.{Class, field_named, method_named}
use Rattle.jv_meaning_world.specs.World.{Loaded, World, class_named}
use Rattle.jv_meaning_world.specs.Above.{above, is_circular, superclass_in, superclasses}
use Rattle.jv_meaning_world.specs.Overriding.{Declared, is_instance}
use Rattle.jv_meaning_world.specs.Verdicts.{is_interface, is_loadable, breaks_final}
use Rattle.jv_meaning_world.specs.LookUps.{DeclaredField, is_concrete, is_among}
use Rattle.jv_meaning_world.specs.Laws.Above.{SystemStandsAlone}
use Rattle.jv_meaning_typing.specs.Uses.{Use, Site}
use Rattle.jv_meaning_typing.specs.Uses.Use.{Invokevirtual, Invokespecial, Invokeinterface}
use Rattle.jv_meaning_typing.specs.LinkErrors.{LinkError, ◌>>=◌}
use Rattle.jv_meaning_typing.specs.LinkErrors.LinkError.{VerifyError, NoSuchFieldError, NoSuchMethodError}
use Rattle.jv_meaning_typing.specs.Operands.{MethodReference}
use Rattle.jv_meaning_typing.specs.ClassResolution.{error_of_class, resolve_text, resolve_class, member_class}
use Rattle.jv_meaning_typing.specs.Access.{can_access}
use Rattle.jv_meaning_typing.specs.Kind.{has_field_kind, can_use_final, has_method_kind, is_static_method}
use Rattle.jv_meaning_typing.specs.FieldResolution.{resolve_field}
use Rattle.jv_meaning_typing.specs.MethodResolution.{MethodTarget, is_own_init, resolve_method}
use Rattle.jv_meaning_typing.specs.Selection.{upward, object_class, begins_above, special_start, select}
use Rattle.jv_meaning_typing.specs.InitializationOrder.{interfaces_in, declares_default, init_order}
use Rattle.jv_meaning_typing.specs.Layout.{layout, IsLayout, Extends}

abbrev pub IsAtOrAbove : World → Loaded → Loaded → Type 0
IsAtOrAbove world l other = (other ≡ l) ⊎ Contains (above world l.class) other

abbrev pub IsRootClass : World → Loaded → Type 0
IsRootClass world l = class_named world (codes "java/lang/Object") ≡ Some l

-- ---- resolution

-- A law: the classes that can be resolved are those that are loadable.
abbrev pub LoadableResolves : Type 0
LoadableResolves =
    (world : World) (l : Loaded) → SystemStandsAlone world → Contains world l → (error_of_class world l ≡ None)
    ↔ IsTrue (is_loadable world l)

-- the class that a reference to a member names, for an array java/lang/Object
abbrev pub IsNamed : World → Loaded → MemberReference → LinkError → Loaded → Type 0
IsNamed world current reference error named =
    (resolve_text world current reference.class >>= (λ c. ok_or (member_class world c) error)) ≡ Ok named

-- what an instruction uses is a field of the constant's name and type, which the named class or one above it declares, and
-- which it can access, is of the kind to use, and can write
pub record IsUsed (world : World) (site : Site) (how : Use) (reference : MemberReference) (named : Loaded) (d : DeclaredField)
    : Type 0 where
  pub named_so : IsNamed world site.by reference NoSuchFieldError named
  pub place : IsAtOrAbove world named d.by
  pub declared : field_named d.by.class reference.name reference.descriptor ≡ Some d.field
  pub name : d.field.name ≡ reference.name
  pub descriptor : d.field.descriptor ≡ reference.descriptor
  pub access : IsTrue (can_access world site.by named d.by d.field.access_flags)
  pub kind : IsTrue (has_field_kind how d.field)
  pub final : IsTrue (can_use_final how site d)

-- A law: what `resolve_field` answers is such a field.
abbrev pub FieldIsUsed : Type 0
FieldIsUsed =
    (world : World) (site : Site) (how : Use) (reference : MemberReference) (d : DeclaredField)
    → resolve_field world site how reference ≡ Ok d → (named : Loaded) × IsUsed world site how reference named d

-- what an instruction calls is a method of the constant's name and type, which the named class, one above it or
-- java/lang/Object declares, and which it can access and is of the kind to call
pub record IsCalled (world : World) (site : Site) (how : Use) (reference : MethodReference) (t : MethodTarget) : Type 0 where
  pub named_so : IsNamed world site.by reference.member NoSuchMethodError t.named
  pub place : IsAtOrAbove world t.named t.declared.by ⊎ IsRootClass world t.declared.by
  pub declared : method_named t.declared.by.class reference.member.name reference.member.descriptor ≡ Some t.declared.method
  pub name : t.declared.method.name ≡ reference.member.name
  pub descriptor : t.declared.method.descriptor ≡ reference.member.descriptor
  pub access : IsTrue (can_access world site.by t.named t.declared.by t.declared.method.access_flags)
  pub constructor : IsTrue (is_own_init how t)
  pub kind : IsTrue (has_method_kind how t.declared.method)

-- A law: what `resolve_method` answers is such a method.
abbrev pub MethodIsCalled : Type 0
MethodIsCalled =
    (world : World) (site : Site) (how : Use) (reference : MethodReference) (t : MethodTarget)
    → resolve_method world site how reference ≡ Ok t → IsCalled world site how reference t

-- ---- selection

-- what runs in place of a method, from a class on, is an instance method of its name and type that is not abstract, and that
-- the class, a superclass or a superinterface declares
pub record IsRun (world : World) (l : Loaded) (called ran : Declared) : Type 0 where
  pub place : Contains (upward world l) ran.by ⊎ (IsTrue (is_interface ran.by) × Contains (above world l.class) ran.by)
  pub declared : method_named ran.by.class called.method.name called.method.descriptor ≡ Some ran.method
  pub name : ran.method.name ≡ called.method.name
  pub descriptor : ran.method.descriptor ≡ called.method.descriptor
  pub instance : IsTrue (not (is_static_method ran.method))
  pub concrete : IsTrue (is_concrete ran)

-- A law: what `select` answers for invokevirtual and invokeinterface is such a method, from the object's class on, or for an
-- array from java/lang/Object.
abbrev pub SelectedIsRun : Type 0
SelectedIsRun =
    (world : World) (site : Site) (how : Use) (t s : MethodTarget) (object : Option Loaded) (l : Loaded)
    → (how ≡ Invokevirtual) ⊎ (how ≡ Invokeinterface) → object_class world object ≡ Ok l
    → select world site how t object ≡ Ok s → (s.named ≡ t.named) × IsRun world l t.declared s.declared

-- A law: so is what it answers for invokespecial, `<init>` aside, from the class where the search begins, or behind an
-- interface from java/lang/Object.
abbrev pub SpecialIsRun : Type 0
SpecialIsRun =
    (world : World) (site : Site) (t s : MethodTarget) (object : Option Loaded)
    → IsTrue (not (is_init t.declared.method.name)) → select world site Invokespecial t object ≡ Ok s
    → (s.named ≡ t.named)
    × (IsRun world (special_start world site.by t.named) t.declared s.declared
    ⊎ ((root : Loaded) × IsTrue (is_interface (special_start world site.by t.named)) × IsRootClass world root
    × IsRun world root t.declared s.declared))

-- A law: `<init>` runs itself.
abbrev pub InitIsRun : Type 0
InitIsRun =
    (world : World) (site : Site) (t s : MethodTarget) (object : Option Loaded)
    → IsTrue (is_init t.declared.method.name) → select world site Invokespecial t object ≡ Ok s → s ≡ t

-- A law: neither resolution nor selection answers VerifyError.
pub record NeverVerifyError : Type 0 where
  pub class : (world : World) (site : Site) (how : Option Use) (text : List ℕ) → resolve_class world site how text ≢ Err VerifyError
  pub field : (world : World) (site : Site) (how : Use) (reference : MemberReference)
      → resolve_field world site how reference ≢ Err VerifyError
  pub method : (world : World) (site : Site) (how : Use) (reference : MethodReference)
      → resolve_method world site how reference ≢ Err VerifyError
  pub selected : (world : World) (site : Site) (how : Use) (t : MethodTarget) (object : Option Loaded)
      → select world site how t object ≢ Err VerifyError

-- ---- methods that nothing overrides

-- a target as resolution answers it, at or above the object's class
pub record IsAboveObject (world : World) (l : Loaded) (d : Declared) : Type 0 where
  pub object : class_named world l.class.name ≡ Some l
  pub place : Contains (upward world l) d.by
  pub declared : method_named d.by.class d.method.name d.method.descriptor ≡ Some d.method
  pub instance : IsTrue (is_instance d.method)
  pub concrete : IsTrue (is_concrete d)

-- A law: invokevirtual of a private method runs it.
abbrev pub PrivateIsRun : Type 0
PrivateIsRun =
    (world : World) (site : Site) (t : MethodTarget) (l : Loaded) → IsAboveObject world l t.declared
    → IsTrue (visibility_keeps_rules t.declared.method.access_flags) → IsTrue (has t.declared.method.access_flags acc_private)
    → select world site Invokevirtual t (Some l) ≡ Ok t

-- none of these classes has a method that overrides a final one of a superclass
abbrev pub NoneBreaksFinal : World → List Loaded → Type 0
NoneBreaksFinal world ls = (c : Loaded) → Contains ls c → IsFalse (breaks_final c [] (superclasses world c.class))

-- A law: and so does that of a final method, where the object's class and those above it break no final method.
abbrev pub FinalIsRun : Type 0
FinalIsRun =
    (world : World) (site : Site) (t : MethodTarget) (l : Loaded) → IsAboveObject world l t.declared
    → IsTrue (has t.declared.method.access_flags acc_final) → IsFalse (is_circular world t.declared.by.class)
    → NoneBreaksFinal world (upward world l) → select world site Invokevirtual t (Some l) ≡ Ok t

-- A law: invokespecial of a method that the named class declares runs it, where it is no superclass of the current class.
abbrev pub NamedIsRun : Type 0
NamedIsRun =
    (world : World) (site : Site) (t : MethodTarget) (object : Option Loaded) → t.declared.by ≡ t.named
    → method_named t.named.class t.declared.method.name t.declared.method.descriptor ≡ Some t.declared.method
    → IsTrue (is_instance t.declared.method) → IsTrue (is_concrete t.declared) → IsFalse (begins_above world site.by t.named)
    → select world site Invokespecial t object ≡ Ok t

-- ---- objects

-- A law: the layout of a class is right.
abbrev pub LayoutIsByRule : Type 0
LayoutIsByRule = (world : World) (l : Loaded) → IsLayout world l (layout world l)

-- A law: it goes on where that of the superclass ends, unless a circle is above the class.
abbrev pub LayoutExtends : Type 0
LayoutExtends =
    (world : World) (l s : Loaded) → ((c : Loaded) → Contains (above world l.class) c → IsFalse (is_circular world c.class))
    → superclass_in world l.class ≡ Some s → Extends (layout world l) (layout world s)

-- ---- what is initialized before a class

-- A law: it is above the class.
abbrev pub InitOrderIsAbove : Type 0
InitOrderIsAbove = (world : World) (l s : Loaded) → Contains (init_order world l) s → Contains (above world l.class) s

-- a way up by direct superinterfaces alone
abbrev pub IsInterfaceWay : World → Class → List Loaded → Loaded → Type 0
IsInterfaceWay world class [] to = Contains (interfaces_in world class) to
IsInterfaceWay world class (by ∷ more) to = Contains (interfaces_in world class) by × IsInterfaceWay world by.class more to

-- by such a way from the class, so none that its superclass alone leads to
abbrev pub IsOwnSuperinterface : World → Loaded → Loaded → Type 0
IsOwnSuperinterface world l s = (between : List Loaded) × IsInterfaceWay world l.class between s

-- one that is to be initialized before the class: it declares a method that is neither abstract nor static
abbrev pub IsBefore : World → Loaded → Loaded → Type 0
IsBefore world l s = IsOwnSuperinterface world l s × IsTrue (declares_default s)

-- of each of a list, behind those that stand before it
abbrev pub EachBehind : (List Loaded → Loaded → Type 0) → List Loaded → List Loaded → Type 0
EachBehind P before [] = ⊤
EachBehind P before (l ∷ more) = P before l × EachBehind P (before ++ l ∷ []) more

-- it is not among those before it, and those of its superinterfaces that are to be initialized are
pub record IsNext (world : World) (before : List Loaded) (l : Loaded) : Type 0 where
  pub once : IsFalse (is_among before l)
  pub behind : (s : Loaded) → IsBefore world l s → Contains before s

-- the superclass first, where there is one in the world
abbrev pub behind_superclass : Option Loaded → List Loaded → List Loaded
behind_superclass None interfaces = interfaces
behind_superclass (Some superclass) interfaces = superclass ∷ interfaces

-- The superclass, and then exactly the superinterfaces that the class's own lead to and that declare a method which is
-- neither abstract nor static, each once, and behind its own superinterfaces.
pub record IsInitOrder (world : World) (l : Loaded) (order : List Loaded) : Type 0 where
  pub interfaces : List Loaded
  pub parts : order ≡ behind_superclass (superclass_in world l.class) interfaces
  pub those : (s : Loaded) → Contains interfaces s ↔ IsBefore world l s
  pub one_by_one : EachBehind (IsNext world) [] interfaces

-- A law: so is the order for a class with no circle above it.
abbrev pub InitOrderIsByRule : Type 0
InitOrderIsByRule =
    (world : World) (l : Loaded) → IsFalse (is_interface l)
    → ((c : Loaded) → Contains (above world l.class) c → IsFalse (is_circular world c.class))
    → IsInitOrder world l (init_order world l)
