-- Types by number, also once more names have got numbers.
use Rattle.std.proofs.Common.{◌≡◌, ℕ, List, Some, codes, ap}
use Rattle.std.specs.Prelude.{slice_get}
use Rattle.std.proofs.lemmas.Option.{get_or_from_slice_get}
use Rattle.jv_text.specs.declared.descriptor.Element.TheVariants as elements
use Rattle.jv_text.specs.declared.descriptor.FieldTypeOf.{FieldTypeOf}
use Rattle.jv_meaning_typing.specs.Named.{class_components}
use Rattle.jv_verify_types.specs.Typed.{GoesOn}
use Rattle.jv_verify_types.proofs.Numbered.{stays}
use Rattle.jv_verify_types.specs.PoolTypes.{typed_result}
use Rattle.jv_verify_types.specs.Inside.Lasting.{Lasts}

abbrev pub numbered_class : ℕ → FieldTypeOf ℕ
numbered_class number = record { dimensions = 0; element = elements.Class number }

pub through : {names longer longest : List (List ℕ)} → GoesOn names longer → GoesOn longer longest → GoesOn names longest
through first second = record { kept = λ number name at. second.kept number name (first.kept number name at) }

pub lasts_on : {A B : Type 0} {stands_for : List (List ℕ) → A → B} {names longer : List (List ℕ)} {x : A} {y : B} → GoesOn names longer → Lasts stands_for names x y → Lasts stands_for longer x y
lasts_on goes_on lasts = record { kept = λ longest more. lasts.kept longest (through goes_on more) }

pub lasts_now : {A B : Type 0} {stands_for : List (List ℕ) → A → B} {names : List (List ℕ)} {x : A} {y : B} → Lasts stands_for names x y → stands_for names x ≡ y
lasts_now {names = names} lasts = lasts.kept names (stays names)

-- a class by the number of its name
pub class_lasts : {names : List (List ℕ)} {number : ℕ} {name : List ℕ} → slice_get names number ≡ Some name → Lasts typed_result names (Some (numbered_class number)) (Some (class_components name))
class_lasts {number = number} {name = name} at =
    record {
      kept = λ longer goes_on. ap (λ text. Some (class_components text)) (get_or_from_slice_get longer number name (codes "java/lang/Object")
          (goes_on.kept number name at));
    }
