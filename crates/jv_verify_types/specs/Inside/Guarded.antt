-- Protected members by the constants that name them (JVMS 4.10.1.8).
use Rattle.std.specs.Prelude.{◌≡◌, ℕ, Bool, false, not, ◌&&◌, ◌||◌, List, Some, unwrap_or, true, Option}
use Rattle.std.specs.List.{list_any}
use Rattle.jv_format.specs.Format.{◌>>=◌}
use Rattle.jv_pool.specs.Constants.{Entry, MemberReference, field_reference_at, class_name_at}
use Rattle.jv_class_structure.specs.Flags.{has, acc_public, acc_protected, acc_static, acc_interface}
use Rattle.jv_class.specs.Class.{Class, Method}
use Rattle.jv_meaning_world.specs.World.{Loaded, World, same_package, class_named}
use Rattle.jv_meaning_world.specs.LookUps.{is_subclass, lookup_field, lookup_method}
use Rattle.jv_meaning_typing.specs.Access.{same_class}
use Rattle.jv_meaning_typing.specs.Operands.{MethodReference}
use Rattle.jv_meaning_typing.specs.Named.{is_guarded_field, is_guarded_method}
use Rattle.jv_link.specs.Inside.References.{method_operand_in}
use Rattle.jv_meaning_world.specs.Numbers.{HoldsAtNumber, HoldsAtBoth, number_named}

-- the class is a proper superclass of the current one
abbrev pub is_proper_subclass : World → Loaded → Loaded → Bool
is_proper_subclass world current named = is_subclass world current named && not (same_class current named)

-- a member with these flags that a class declares is protected, not static, and of another run-time package
abbrev pub is_far : Loaded → Loaded → ℕ → Bool
is_far current by flags = has flags acc_protected && not (has flags acc_static) && not (same_package current by)

-- what is found from a superclass is such a member
abbrev pub field_is_far : World → Loaded → Loaded → MemberReference → Bool
field_is_far world current named reference =
    unwrap_or (lookup_field world named reference.name reference.descriptor >>= λ d. Some (is_far current d.by d.field.access_flags)) false

abbrev pub method_is_far : World → Loaded → Loaded → MemberReference → Bool
method_is_far world current named reference =
    unwrap_or (lookup_method world named reference.name reference.descriptor
    >>= λ d. Some (is_far current d.by d.method.access_flags)) false

-- ---- what the rules of flags leave (JVMS 4.6)

-- a method with these flags is protected, and not static
abbrev pub is_protected_instance : ℕ → Bool
is_protected_instance flags = has flags acc_protected && not (has flags acc_static)

-- such a method, though it is public, or its class an interface: no class file has one
abbrev pub is_wrongly_protected : Class → Method → Bool
is_wrongly_protected class m =
    (has class.access_flags acc_interface || has m.access_flags acc_public) && is_protected_instance m.access_flags

abbrev pub has_wrongly_protected : Class → Bool
has_wrongly_protected class = list_any (is_wrongly_protected class) class.methods

-- no class of the world has one
abbrev pub AreRightlyProtected : World → Type 0
AreRightlyProtected world = (number : ℕ) → HoldsAtNumber world number (λ l. has_wrongly_protected l.class ≡ false)

-- ---- constants

abbrev pub member_named : MethodReference → MemberReference
member_named m = m.member

-- what the constant at an index names is guarded
pub record IsGuard (world : World) (current : Loaded) (pool : List Entry) (index : ℕ) (mark : Bool) : Type 0 where
  pub field : (reference : MemberReference) → field_reference_at pool index ≡ Some reference
      → is_guarded_field world current reference ≡ mark
  pub method : (m : MethodReference) → method_operand_in pool index ≡ Some m → is_guarded_method world current m.member ≡ mark

-- ---- by number and index

-- what the constant names is guarded, for the class with that number
abbrev pub IsGuardOf : World → ℕ → List Entry → ℕ → Bool → Type 0
IsGuardOf world current pool index mark = HoldsAtNumber world current (λ c. IsGuard world c pool index mark)

abbrev pub IsFieldFar : World → ℕ → ℕ → MemberReference → Bool → Type 0
IsFieldFar world current named field answer = HoldsAtBoth world current named (λ c n. answer ≡ field_is_far world c n field)

abbrev pub IsMethodFar : World → ℕ → ℕ → MemberReference → Bool → Type 0
IsMethodFar world current named method answer = HoldsAtBoth world current named (λ c n. answer ≡ method_is_far world c n method)

-- the number of the class that the constant at an index names
abbrev pub IsNumberNamed : World → List Entry → ℕ → Option ℕ → Type 0
IsNumberNamed world pool index number = (text : List ℕ) → class_name_at pool index ≡ Some text → number ≡ number_named world text

-- and where that is a proper superclass of the current one
abbrev pub IsFoundAt : World → List Entry → ℕ → ℕ → Type 0
IsFoundAt world pool index number = (text : List ℕ) → class_name_at pool index ≡ Some text → number_named world text ≡ Some number

abbrev pub IsProperAbove : World → ℕ → ℕ → Type 0
IsProperAbove world current number = HoldsAtBoth world current number (λ c l. is_proper_subclass world c l ≡ true)

abbrev pub IsNoProperSuper : World → List Entry → ℕ → ℕ → Type 0
IsNoProperSuper world pool index current =
    HoldsAtNumber world current (λ c. (text : List ℕ) (l : Loaded) → class_name_at pool index ≡ Some text → class_named world text ≡ Some l
    → is_proper_subclass world c l ≡ false)

-- whether what the constant at an index names is guarded, a member of the class that another index names
abbrev pub IsFieldGuarded : World → List Entry → ℕ → ℕ → ℕ → Bool → Type 0
IsFieldGuarded world pool class index current answer =
    HoldsAtNumber world current (λ c. (reference : MemberReference) → class_name_at pool class ≡ Some reference.class
    → field_reference_at pool index ≡ Some reference → is_guarded_field world c reference ≡ answer)

abbrev pub IsMethodGuarded : World → List Entry → ℕ → ℕ → ℕ → Bool → Type 0
IsMethodGuarded world pool class index current answer =
    HoldsAtNumber world current (λ c. (m : MethodReference) → class_name_at pool class ≡ Some m.member.class
    → method_operand_in pool index ≡ Some m → is_guarded_method world c m.member ≡ answer)
