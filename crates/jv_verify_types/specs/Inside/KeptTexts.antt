-- What is kept of a pool's texts.
use Rattle.std.specs.Prelude.{◌≡◌, ℕ, ◌<◌, ◌≤◌, Bool, true, false, List, ◌++◌, length, get_or, slice_get, slice_range, codes, Option, Some, None, ◌∷◌, [], map}
use Rattle.std.specs.Option.{option_map}
use Rattle.jv_format.specs.Format.{◌>>=◌}
use Rattle.jv_text.specs.declared.descriptor.FieldTypeOf.{FieldTypeOf}
use Rattle.jv_text.specs.Descriptor.{MethodDescriptor}
use Rattle.jv_text.specs.Types.{field_type_of, method_type_of}
use Rattle.jv_pool.specs.declared.constant.Constant.TheVariants.{Class}
use Rattle.jv_pool.specs.Constants.{Entry, at_index, utf8_at}
use Rattle.jv_stackmap.specs.declared.verification.VerificationTypeOf.{VerificationTypeOf}
use Rattle.jv_stackmap.specs.Types.{FrameType, value_type}
use Rattle.jv_meaning_typing.specs.Named.{named_type}
use Rattle.jv_verify_types.specs.Typed.{typed, typed_all}
use Rattle.jv_verify_types.specs.declared.texts.Described.{Described}
use Rattle.jv_verify_types.specs.declared.texts.Described.TheVariants as forms
use Rattle.jv_verify_types.specs.declared.texts.MethodEntry.{MethodEntry}
use Rattle.jv_verify_types.specs.declared.texts.TextTypes.{TextTypes}
use Rattle.jv_verify_types.specs.PoolTypes.{call_types, class_type_at, typed_result}
use Rattle.jv_verify_types.specs.Inside.Lasting.{Lasts}

abbrev pub Item : Type 0
Item = VerificationTypeOf ℕ

-- ---- arguments in a list of all arguments

-- items have joined a list, and stand for these types
pub record Joins (names : List (List ℕ)) (before after : List Item) (types : List FrameType) : Type 0 where
  pub items : List Item
  pub joined : after ≡ before ++ items
  pub lasts : Lasts typed_all names items types

-- a part of the list stands for these types
pub record AreArguments (names : List (List ℕ)) (arguments : List Item) (start end : ℕ) (types : List FrameType) : Type 0 where
  pub rising : start ≤ end
  pub within : end ≤ length arguments
  pub lasts : Lasts typed_all names (slice_range arguments start end) types

-- an entry is kept of a method's descriptor
pub record IsMethodEntry (names : List (List ℕ)) (arguments : List Item) (entry : MethodEntry) (method : MethodDescriptor) : Type 0 where
  pub parameters : AreArguments names arguments entry.start entry.end (call_types method).arguments
  pub result : Lasts typed_result names entry.result method.result

pub record HasMethodEntry (names : List (List ℕ)) (arguments : List Item) (entry : MethodEntry) (found : Option MethodDescriptor)
    : Type 0 where
  pub method : MethodDescriptor
  pub is : found ≡ Some method
  pub entered : IsMethodEntry names arguments entry method

-- one is kept where there is one
abbrev pub IsMethodKept : List (List ℕ) → List Item → Option MethodEntry → Option MethodDescriptor → Type 0
IsMethodKept names arguments None found = found ≡ None
IsMethodKept names arguments (Some entry) found = HasMethodEntry names arguments entry found

-- ---- what is kept of a text

abbrev pub field_in : Described → Option (FieldTypeOf ℕ)
field_in forms.Nothing = None
field_in (forms.Field type) = Some type
field_in (forms.Method entry) = None

abbrev pub method_in : Described → Option MethodEntry
method_in forms.Nothing = None
method_in (forms.Field type) = None
method_in (forms.Method entry) = Some entry

-- of a text, or of what is none
pub record IsDescribed (names : List (List ℕ)) (arguments : List Item) (text : Option (List ℕ)) (found : Described) : Type 0 where
  pub field : Lasts typed_result names (field_in found) (text >>= field_type_of)
  pub method : IsMethodKept names arguments (method_in found) (text >>= method_type_of)

abbrev pub IsNamed : List (List ℕ) → Option (List ℕ) → Option (FieldTypeOf ℕ) → Type 0
IsNamed names text found = Lasts typed_result names found (text >>= named_type)

-- what the text says as the name of a class is kept where a Class constant names it
pub record IsKept (names : List (List ℕ)) (arguments : List Item) (text : Option (List ℕ)) (is_name : Bool) (entry : TextTypes)
    : Type 0 where
  pub described : IsDescribed names arguments text entry.described
  pub named : is_name ≡ true → IsNamed names text entry.named

-- ---- what is kept of all

abbrev pub nothing : TextTypes
nothing = record { described = forms.Nothing; named = None }

abbrev pub kept_at : List TextTypes → ℕ → TextTypes
kept_at texts index = get_or texts index nothing

-- the texts below an index that a Class constant names are marked, as far as there are marks
abbrev pub AreMarkedBelow : ℕ → List Entry → List Bool → Type 0
AreMarkedBelow count pool marks =
    (index name : ℕ) → index < count → at_index pool index ≡ Some (Class name) → name < length marks → get_or marks name false ≡ true

-- the texts below an index are kept, with their names where they are marked
abbrev pub AreKeptBelow : ℕ → List (List ℕ) → List Item → List Entry → List Bool → List TextTypes → Type 0
AreKeptBelow count names arguments pool marks texts =
    (index : ℕ) → index < count → IsKept names arguments (utf8_at pool index) (get_or marks index false) (kept_at texts index)

pub record AreKept (names : List (List ℕ)) (arguments : List Item) (pool : List Entry) (texts : List TextTypes) : Type 0 where
  pub described : (index : ℕ) → IsDescribed names arguments (utf8_at pool index) (kept_at texts index).described
  pub named : (index name : ℕ) → at_index pool index ≡ Some (Class name) → IsNamed names (utf8_at pool name) (kept_at texts name).named

-- ---- the types of objects of what the constants name

abbrev pub IsItemAt : List (List ℕ) → List Entry → List (Option Item) → ℕ → Type 0
IsItemAt names pool items index = option_map (typed names) (get_or items index None) ≡ class_type_at pool index

-- they are kept below an index, or all
abbrev pub AreItemsBelow : ℕ → List (List ℕ) → List Entry → List (Option Item) → Type 0
AreItemsBelow count names pool items = (index : ℕ) → index < count → IsItemAt names pool items index

abbrev pub AreItems : List (List ℕ) → List Entry → List (Option Item) → Type 0
AreItems names pool items = (index : ℕ) → IsItemAt names pool items index

-- ---- what is kept of a pool's constants

pub record AreConstants (names : List (List ℕ)) (pool : List Entry) (arguments : List Item) (texts : List TextTypes)
    (items : List (Option Item)) (string throwable : ℕ) : Type 0 where
  pub kept : AreKept names arguments pool texts
  pub items_are : AreItems names pool items
  pub string_at : slice_get names string ≡ Some (codes "java/lang/String")
  pub throwable_at : slice_get names throwable ≡ Some (codes "java/lang/Throwable")

-- one parameter's type has joined, or all
abbrev pub JoinsOne : List (List ℕ) → List Item → List Item → FieldTypeOf (List ℕ) → Type 0
JoinsOne names before after parameter = Joins names before after (value_type parameter ∷ [])

abbrev pub JoinsAll : List (List ℕ) → List Item → List Item → List (FieldTypeOf (List ℕ)) → Type 0
JoinsAll names before after parameters = Joins names before after (map value_type parameters)
