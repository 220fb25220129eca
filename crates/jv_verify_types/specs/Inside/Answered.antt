-- Which members classes declare, by the constants that are their texts (JVMS 4.4.6), and which classes are in the run-time package of the
-- current one (5.3), as both are kept while the constants of a class file are gone through.
use Rattle.std.specs.Prelude.{◌≡◌, ℕ, ◌<◌, Bool, true, false, List, length, Option, Some, None, ⊤, IfSome, get_or, slice_get}
use Rattle.std.specs.List.{All}
use Rattle.std.specs.Option.{option_and_then}
use Rattle.jv_pool.specs.Constants.{Entry, MemberReference, utf8_at}
use Rattle.jv_class.specs.Class.{field_named, method_named}
use Rattle.jv_meaning_world.specs.World.{World, same_package}
use Rattle.jv_meaning_world.specs.Numbers.{HoldsAtNumber, HoldsAtBoth}
use Rattle.jv_meaning_world.specs.LookUps.{method_in}
use Rattle.jv_lookups.specs.declared.place.Place.{Place}
use Rattle.jv_lookups.specs.Places.{IsMethodPlace, IsMethodFound, IsFieldPlace, IsFieldFound}
use Rattle.jv_lookups.specs.Inside.Members.{field_named_in}
use Rattle.jv_verify_types.specs.declared.answers.Question.{Question}
use Rattle.jv_verify_types.specs.declared.answers.Answer.{Answer}
use Rattle.jv_verify_types.specs.declared.answers.Answers.{Answers}

-- the Utf8 constants at these indices are the name and the descriptor of a reference
pub record AreTextsOf (pool : List Entry) (name descriptor : ℕ) (reference : MemberReference) : Type 0 where
  pub name_is : utf8_at pool name ≡ Some reference.name
  pub descriptor_is : utf8_at pool descriptor ≡ Some reference.descriptor

-- ---- the members that a class declares

-- the place is that of the method of a name and a descriptor among those that the class with a number declares, or there is none
pub record IsMethodDeclared (world : World) (class : ℕ) (name descriptor : List ℕ) (place : Option ℕ) : Type 0 where
  pub found : HoldsAtNumber world class (λ l. option_and_then (slice_get l.class.methods) place ≡ method_named l.class name descriptor)
  pub within : HoldsAtNumber world class (λ l. IfSome place (λ p. p < length l.class.methods))

-- the same of a field
pub record IsFieldDeclared (world : World) (class : ℕ) (name descriptor : List ℕ) (place : Option ℕ) : Type 0 where
  pub found : HoldsAtNumber world class (λ l. option_and_then (slice_get l.class.fields) place ≡ field_named l.class name descriptor)
  pub within : HoldsAtNumber world class (λ l. IfSome place (λ p. p < length l.class.fields))

abbrev pub IsDeclared : Bool → World → ℕ → List ℕ → List ℕ → Option ℕ → Type 0
IsDeclared true = IsMethodDeclared
IsDeclared false = IsFieldDeclared

-- it is so for each reference with the question's texts
abbrev pub IsAnswer : World → List Entry → Question → ℕ → Type 0
IsAnswer world pool question place =
    (reference : MemberReference) → AreTextsOf pool question.name question.descriptor reference
    → IsDeclared question.of_method world question.class reference.name reference.descriptor (Some place)

-- an entry is empty or right
abbrev pub IsEntry : World → List Entry → Option Answer → Type 0
IsEntry world pool None = ⊤
IsEntry world pool (Some entry) = IsAnswer world pool entry.question entry.place

abbrev pub AreEntries : World → List Entry → List (Option Answer) → Type 0
AreEntries world pool entries = All (IsEntry world pool) entries

-- the place in the world is that of the method, or the field, of a name and a descriptor that the class with a number declares
pub record IsMethodOfClass (world : World) (class : ℕ) (reference : MemberReference) (place : Option Place) : Type 0 where
  pub found : HoldsAtNumber world class (λ l. IsMethodFound world place (method_in reference.name reference.descriptor l))
  pub stands : IfSome place (IsMethodPlace world)

pub record IsFieldOfClass (world : World) (class : ℕ) (reference : MemberReference) (place : Option Place) : Type 0 where
  pub found : HoldsAtNumber world class (λ l. IsFieldFound world place (field_named_in reference.name reference.descriptor l))
  pub stands : IfSome place (IsFieldPlace world)

-- ---- run-time packages

-- whether the class with a number is in the package of the current one
abbrev pub IsNeighbour : World → ℕ → ℕ → Bool → Type 0
IsNeighbour world current by answer = HoldsAtBoth world current by (λ c l. answer ≡ same_package c l)

-- nothing is kept of a class, or this
abbrev pub IsNeighbourKept : World → ℕ → ℕ → Option Bool → Type 0
IsNeighbourKept world current by None = ⊤
IsNeighbourKept world current by (Some answer) = IsNeighbour world current by answer

-- by the numbers of the classes
abbrev pub AreNeighbours : World → ℕ → List (Option Bool) → Type 0
AreNeighbours world current kept = (by : ℕ) → IsNeighbourKept world current by (get_or kept by None)

-- ---- all that is kept

pub record AreAnswers (world : World) (current : ℕ) (pool : List Entry) (answers : Answers) : Type 0 where
  pub members : AreEntries world pool answers.members.items
  pub packages : AreNeighbours world current answers.packages.items
