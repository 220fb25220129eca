-- What is said of a part that is beyond the profile, as text (own).
use Rattle.std.specs.Prelude.{◌≡◌, ℕ, ◌||◌, ◌==◌, List, [], ◌∷◌, ◌++◌, codes, drop, Option, Some, None, if◌then◌else◌, slice_get, unwrap_or}
use Rattle.std.specs.Fmt.{decimal}
use Rattle.jv_pool.specs.Constants.{Entry, at_index, utf8_at}
use Rattle.jv_pool.specs.declared.constant.Constant.TheVariants.{Float, Double, Class, NameAndType, MethodHandle, MethodType, InvokeDynamic}
use Rattle.jv_class_structure.specs.Flags.{has, acc_native}
use Rattle.jv_class_structure.specs.Parts.{CodeSeen, FieldSeen, MethodSeen, fields_of, methods_of}
use Rattle.jv_class_structure.specs.Structure.{ClassStructure}
use Rattle.jv_class.specs.ClassFile.{IsClassFile}
use Rattle.jv_code.specs.Insns.{Instruction}
use Rattle.jv_code.specs.Places.{IsAt}
use Rattle.jv_program_base.specs.Escape.{escaped_text}
use Rattle.jv_shown.specs.Instructions.{instruction_text}
use Rattle.jv_beyond.specs.Beyond.{IsFirstBeyond}
use Rattle.jv_beyond.specs.Mnemonics.{mnemonic}
use Rattle.jv_beyond.specs.Uses.{NamesBeyond}
use Rattle.jv_beyond.specs.declared.beyond.Beyond.{Beyond}
use Rattle.jv_beyond.specs.declared.beyond.Beyond.TheVariants as parts
use Rattle.jv_beyond.specs.declared.feature.Feature.{Feature}
use Rattle.jv_beyond.specs.declared.feature.Feature.TheVariants.{FloatingPoint, DynamicCalls, Monitors, NativeMethods, SynchronizedMethods, MethodHandles}

-- ---- what the profile leaves out

abbrev pub feature_text : Feature → List ℕ
feature_text FloatingPoint = codes "float and double"
feature_text DynamicCalls = codes "invokedynamic, which a lambda or a method reference compiles to"
feature_text Monitors = codes "monitors, which a synchronized statement takes"
feature_text NativeMethods = codes "native methods"
feature_text SynchronizedMethods = codes "synchronized methods"
feature_text MethodHandles = codes "method handles and method types"

abbrev pub reason_text : Feature → List ℕ
reason_text feature = codes "  beyond the profile: " ++ feature_text feature ++ 10 ∷ []

-- ---- the instruction at the front of bytes (6.5)

-- invokedynamic (186), monitorenter and monitorexit (194, 195)
abbrev pub feature_of_opcode : ℕ → Feature
feature_of_opcode opcode =
    if opcode == 186 then DynamicCalls else (if opcode == 194 || opcode == 195 then Monitors else FloatingPoint)

-- newarray (188) with its type, and what stands behind wide (196)
abbrev pub two_bytes_text : (opcode next : ℕ) → List ℕ
two_bytes_text opcode next =
    if opcode == 188 then codes "newarray " ++ (if next == 6 then codes "float" else codes "double")
    else (if opcode == 196 then mnemonic next ++ codes "_w" else mnemonic opcode)

abbrev pub front_text : List ℕ → List ℕ
front_text [] = []
front_text (opcode ∷ []) = mnemonic opcode
front_text (opcode ∷ next ∷ rest) = two_bytes_text opcode next

abbrev pub front_feature : List ℕ → Feature
front_feature [] = FloatingPoint
front_feature (opcode ∷ rest) = feature_of_opcode opcode

-- a line of source, where there is one
abbrev pub line_text : Option ℕ → List ℕ
line_text None = []
line_text (Some line) = codes ", line " ++ decimal line

-- ---- members and constants

-- the text at an index of the pool, as one stands there in a well-formed class
abbrev pub text_at : List Entry → ℕ → List ℕ
text_at pool index = unwrap_or (utf8_at pool index) []

abbrev pub field_line : ℕ → (name descriptor : List ℕ) → List ℕ
field_line place name descriptor =
    codes "  field " ++ decimal place ++ codes ": " ++ escaped_text name ++ codes ":" ++ escaped_text descriptor ++ 10 ∷ []

abbrev pub field_text : List Entry → ℕ → FieldSeen → List ℕ
field_text pool place f = field_line place (text_at pool f.name_index) (text_at pool f.descriptor_index)

abbrev pub method_line : ℕ → (name descriptor : List ℕ) → List ℕ
method_line place name descriptor =
    codes "  method " ++ decimal place ++ codes ": " ++ escaped_text name ++ escaped_text descriptor ++ 10 ∷ []

abbrev pub method_text : List Entry → ℕ → MethodSeen → List ℕ
method_text pool place m = method_line place (text_at pool m.name_index) (text_at pool m.descriptor_index)

-- its kind (4.4-A), and what it says of types
abbrev pub entry_text : List Entry → Entry → List ℕ
entry_text pool (Float bits) = codes "Float"
entry_text pool (Double high low) = codes "Double"
entry_text pool (Class name) = codes "Class " ++ escaped_text (text_at pool name)
entry_text pool (NameAndType name descriptor) =
    codes "NameAndType " ++ escaped_text (text_at pool name) ++ codes ":" ++ escaped_text (text_at pool descriptor)
entry_text pool (MethodHandle kind index) = codes "MethodHandle"
entry_text pool (MethodType descriptor) = codes "MethodType"
entry_text pool (InvokeDynamic bootstrap name_and_type) = codes "InvokeDynamic"
entry_text pool entry = []

abbrev pub feature_of_entry : Entry → Feature
feature_of_entry (MethodHandle kind index) = MethodHandles
feature_of_entry (MethodType descriptor) = MethodHandles
feature_of_entry (InvokeDynamic bootstrap name_and_type) = DynamicCalls
feature_of_entry entry = FloatingPoint

abbrev pub constant_text : List Entry → ℕ → Entry → List ℕ
constant_text pool index entry =
    codes "  constant " ++ decimal index ++ codes ": " ++ entry_text pool entry ++ 10 ∷ reason_text (feature_of_entry entry)

abbrev pub feature_of_flags : ℕ → Feature
feature_of_flags flags = if has flags acc_native then NativeMethods else SynchronizedMethods

abbrev pub offset_line : ℕ → (line : Option ℕ) → (rest : List ℕ) → List ℕ
offset_line offset line rest = codes "  offset " ++ decimal offset ++ line_text line ++ codes ": " ++ front_text rest ++ 10 ∷ []

-- of the instruction at the front of what is left of the code
abbrev pub place_text : ℕ → (line : Option ℕ) → (rest : List ℕ) → List ℕ
place_text offset line rest = offset_line offset line rest ++ reason_text (front_feature rest)

-- an instruction of the profile
abbrev pub use_line : List Entry → ℕ → (line : Option ℕ) → Instruction → List ℕ
use_line pool offset line insn =
    codes "  offset " ++ decimal offset ++ line_text line ++ codes ": " ++ instruction_text pool offset insn ++ 10 ∷ []

-- it stands at an offset of the code of the method at a place, and names a constant that the profile leaves out: that one is told too
pub record TellsUse (pool : List Entry) (place : ℕ) (m : MethodSeen) (offset : ℕ) (line : Option ℕ) (text : List ℕ) : Type 0 where
  pub body : CodeSeen
  pub has_code : m.code ≡ Some body
  pub insn : Instruction
  pub at : IsAt body.code offset insn
  pub index : ℕ
  pub names : NamesBeyond pool insn index
  pub entry : Entry
  pub there : at_index pool index ≡ Some entry
  pub told : text ≡ method_text pool place m ++ use_line pool offset line insn ++ constant_text pool index entry

-- ---- of each part, where it stands, and then what of it is beyond the profile

-- the line of source is that of the instruction, as the file may say it (4.7.12), of which no definition here speaks
abbrev pub TellsPart : ClassStructure → Beyond → (line : Option ℕ) → List ℕ → Type 0
TellsPart c (parts.Instruction method offset) line text =
    (m : MethodSeen) × (slice_get (methods_of c) method ≡ Some m) × ((body : CodeSeen) × (m.code ≡ Some body)
    × (text ≡ method_text c.constant_pool method m ++ place_text offset line (drop offset body.code)))
TellsPart c (parts.Use method offset) line text =
    (m : MethodSeen) × (slice_get (methods_of c) method ≡ Some m) × TellsUse c.constant_pool method m offset line text
TellsPart c (parts.Field place) line text =
    (f : FieldSeen) × (slice_get (fields_of c) place ≡ Some f) × (text ≡ field_text c.constant_pool place f ++ reason_text FloatingPoint)
TellsPart c (parts.MethodFlags place) line text =
    (m : MethodSeen) × (slice_get (methods_of c) place ≡ Some m)
    × (text ≡ method_text c.constant_pool place m ++ reason_text (feature_of_flags m.access_flags))
TellsPart c (parts.MethodType place) line text =
    (m : MethodSeen) × (slice_get (methods_of c) place ≡ Some m) × (text ≡ method_text c.constant_pool place m ++ reason_text FloatingPoint)
TellsPart c (parts.Constant index) line text =
    (entry : Entry) × (at_index c.constant_pool index ≡ Some entry) × (text ≡ constant_text c.constant_pool index entry)

-- the first part of the class file with these bytes that is beyond the profile
pub record TellsBeyond (bytes text : List ℕ) : Type 0 where
  pub structure : ClassStructure
  pub file : IsClassFile bytes structure
  pub part : Beyond
  pub first : IsFirstBeyond structure part
  pub line : Option ℕ
  pub told : TellsPart structure part line text
