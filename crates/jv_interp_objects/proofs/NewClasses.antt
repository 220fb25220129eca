-- The class that a constant names for `new`, by its number (JVMS 6.5).
use Rattle.std.proofs.Common.{◌≡◌, ℕ, ◌+◌, not, List, Option, Some, None, Ok, refl, sym, slice_get}
use Rattle.std.specs.Option.{option_map}
use Rattle.std.proofs.lemmas.Option.{same_Some}
use Rattle.jv_text.specs.declared.descriptor.FieldTypeOf.{FieldTypeOf}
use Rattle.jv_class_structure.specs.Flags.{has, acc_interface, acc_abstract}
use Rattle.jv_meaning_world.specs.World.{Loaded, World}
use Rattle.jv_meaning_world.specs.Numbers.{IsNumbered}
use Rattle.jv_meaning_typing.specs.Uses.{Site}
use Rattle.jv_meaning_typing.specs.Uses.Use.{New}
use Rattle.jv_meaning_typing.specs.LinkErrors.{OrError}
use Rattle.jv_meaning_typing.specs.LinkErrors.LinkError.{InstantiationError}
use Rattle.jv_meaning_typing.specs.ClassResolution.{ResolvedClass, resolve_text, creatable, resolve_class}
use Rattle.jv_meaning_typing.specs.ClassResolution.ResolvedClass.{ClassOf, ArrayOf}
use Rattle.jv_meaning_typing.proofs.Found.{went_on, held}
use Rattle.jv_link.specs.Seen.{answer}
use Rattle.jv_interp_objects.specs.Named.{IsClassOf}
use Rattle.jv_interp_objects.proofs.ClassNumbers.{own_name}

pub new_answered :
    (world : World) → IsNumbered world → (expected : OrError ResolvedClass) (number : ℕ)
    → option_map answer (option_map ClassOf (slice_get world number)) ≡ Some expected → IsClassOf world expected number
new_answered world numbers expected number e = by_class (slice_get world number) refl e
  where
    by_class :
        (o : Option Loaded) → slice_get world number ≡ o → option_map answer (option_map ClassOf o) ≡ Some expected
        → IsClassOf world expected number
    by_class None at e = absurd cc
    by_class (Some l) at e =
        record {
          l = l;
          is = sym (same_Some (answer (ClassOf l)) expected e);
          at = at;
          named = own_name world numbers number l at;
        }

-- it is never an array
pub not_creatable : (r : ResolvedClass) (type : FieldTypeOf (List ℕ)) → creatable r ≡ Ok (ArrayOf type) → ⊥
not_creatable (ClassOf l) type e =
    let kept = held (not (has l.class.access_flags (acc_interface + acc_abstract))) InstantiationError (ClassOf l) (ArrayOf type) e in
    clash l type kept.1
  where
    clash : (l : Loaded) (type : FieldTypeOf (List ℕ)) → ClassOf l ≡ ArrayOf type → ⊥
    clash l type e = cc
not_creatable (ArrayOf other) type e = absurd cc

pub never_array : (world : World) (s : Site) (text : List ℕ) (type : FieldTypeOf (List ℕ)) → Some (answer (ArrayOf type)) ≡ Some (resolve_class world s (Some New) text) → ⊥
never_array world s text type e =
    let found =
    went_on (resolve_text world s.by text) creatable (ArrayOf type)
    (sym (same_Some (answer (ArrayOf type)) (resolve_class world s (Some New) text) e)) in
    not_creatable found.0 type found.2
