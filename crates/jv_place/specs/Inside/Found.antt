-- The instruction at a place, as it is found: in code, in a method, among the methods of a class as its file shows them.
use Rattle.std.specs.Prelude.{◌≡◌, ℕ, ◌<◌, List, Option, Some, None, slice_get, String, string_bytes}
use Rattle.std.specs.Option.{option_map}
use Rattle.jv_pool.specs.Constants.{Entry, utf8_at}
use Rattle.jv_class.specs.ClassFile.{class_name}
use Rattle.jv_class_structure.specs.Parts.{CodeSeen, MethodSeen, methods_of}
use Rattle.jv_class_structure.specs.Structure.{ClassStructure}
use Rattle.jv_code.specs.Insns.{Instruction}
use Rattle.jv_code.specs.Places.{IsAt}
use Rattle.jv_shown.specs.Instructions.{instruction_text}
use Rattle.jv_place.specs.declared.method.Wanted.{Wanted}

abbrev pub text_in : {A : Type 0} → Option (String A) → Option (List ℕ)
text_in text = option_map string_bytes text

-- at an offset of code
abbrev pub IsInCode : List Entry → (code : List ℕ) → ℕ → Option (List ℕ) → Type 0
IsInCode pool code pc (Some text) = (insn : Instruction) × IsAt code pc insn × (text ≡ instruction_text pool pc insn)
IsInCode pool code pc None = (insn : Instruction) → IsAt code pc insn → ⊥

-- in a method that is shown so and named as is wanted
pub record StandsIn (pool : List Entry) (shown : MethodSeen) (wanted : Wanted) (text : List ℕ) : Type 0 where
  pub name : utf8_at pool shown.name_index ≡ Some wanted.name.now
  pub descriptor : utf8_at pool shown.descriptor_index ≡ Some wanted.descriptor.now
  pub body : CodeSeen
  pub has_code : shown.code ≡ Some body
  pub insn : Instruction
  pub at : IsAt body.code wanted.offset insn
  pub told : text ≡ instruction_text pool wanted.offset insn

abbrev pub IsOfMethod : List Entry → MethodSeen → Wanted → Option (List ℕ) → Type 0
IsOfMethod pool shown wanted (Some text) = StandsIn pool shown wanted text
IsOfMethod pool shown wanted None = (text : List ℕ) → StandsIn pool shown wanted text → ⊥

-- in the method at a place of a class
abbrev pub StandsAtPlace : ClassStructure → (place : ℕ) → Wanted → (text : List ℕ) → Type 0
StandsAtPlace file place wanted text =
    (shown : MethodSeen) × (slice_get (methods_of file) place ≡ Some shown) × StandsIn file.constant_pool shown wanted text

abbrev pub IsAtPlace : ClassStructure → (place : ℕ) → Wanted → Option (List ℕ) → Type 0
IsAtPlace file place wanted (Some text) = StandsAtPlace file place wanted text
IsAtPlace file place wanted None = (text : List ℕ) → StandsAtPlace file place wanted text → ⊥

-- in a method of a class
abbrev pub IsInMethods : ClassStructure → Wanted → Option (List ℕ) → Type 0
IsInMethods file wanted (Some text) = (place : ℕ) × StandsAtPlace file place wanted text
IsInMethods file wanted None = (place : ℕ) (text : List ℕ) → StandsAtPlace file place wanted text → ⊥

-- in one of the methods of a class before a place
abbrev pub NoneBefore : ClassStructure → (place : ℕ) → Wanted → Type 0
NoneBefore file place wanted = (k : ℕ) (text : List ℕ) → k < place → StandsAtPlace file k wanted text → ⊥

-- in a class of this name
abbrev pub StandsInClass : ClassStructure → (class : List ℕ) → Wanted → (text : List ℕ) → Type 0
StandsInClass file class wanted text =
    (class_name file ≡ Some class) × ((place : ℕ) × StandsAtPlace file place wanted text)

abbrev pub IsInClass : ClassStructure → (class : List ℕ) → Wanted → Option (List ℕ) → Type 0
IsInClass file class wanted (Some text) = StandsInClass file class wanted text
IsInClass file class wanted None = (text : List ℕ) → StandsInClass file class wanted text → ⊥
