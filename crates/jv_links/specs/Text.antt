-- References that don't resolve as text (own).
use Rattle.std.specs.Prelude.{◌≡◌, ℕ, suc, is_none, List, [], ◌∷◌, ◌++◌, codes, Option, Some, None, if◌then◌else◌}
use Rattle.std.specs.List.{flat_map}
use Rattle.std.specs.Option.{option_and_then, option_map}
use Rattle.jv_text.specs.declared.descriptor.Element.{Element}
use Rattle.jv_text.specs.declared.descriptor.Element.TheVariants as elements
use Rattle.jv_text.specs.Name.{is_array_name}
use Rattle.jv_text.specs.Types.{field_type_of}
use Rattle.jv_pool.specs.Constants.{Entry, MemberReference, class_name_at, field_reference_at, method_reference_at, interface_method_reference_at}
use Rattle.jv_class.specs.Class.{Method}
use Rattle.jv_code.specs.declared.insn.Insn.TheVariants as insns
use Rattle.jv_code.specs.Insns.{Instruction}
use Rattle.jv_meaning_world.specs.World.{Loaded, World}
use Rattle.jv_meaning_world.specs.Numbers.{number_named}
use Rattle.jv_meaning_typing.specs.LinkErrors.{LinkError, error_class}
use Rattle.jv_meaning_typing.specs.LinkErrors.LinkError.{NoClassDefFoundError, NoSuchFieldError, NoSuchMethodError, InstantiationError}
use Rattle.jv_program_base.specs.Escape.{escaped_text}
use Rattle.jv_shown.specs.Instructions.{first_of}
use Rattle.jv_explain.specs.Text.{method_text, place_text}
use Rattle.jv_links.specs.Unresolved.{Unresolved, AreUnresolved}

-- ---- what the constant of an instruction names

-- the index of its constant; 0, which names none, where it has no reference
abbrev pub operand_index : Instruction → ℕ
operand_index (insns.Field how index) = index
operand_index (insns.Invoke how index) = index
operand_index (insns.InvokeInterface index count) = index
operand_index (insns.New index) = index
operand_index (insns.NewReferenceArray index) = index
operand_index (insns.NewMultiArray index dimensions) = index
operand_index (insns.CheckCast index) = index
operand_index (insns.InstanceOf index) = index
operand_index _ = 0

-- the method of a class or of an interface (4.4.2)
abbrev pub method_referred : List Entry → ℕ → Option MemberReference
method_referred pool index = first_of (method_reference_at pool index) (interface_method_reference_at pool index)

abbrev pub member_class_of : MemberReference → List ℕ
member_class_of member = member.class

-- the text of the class whose field or method it is
abbrev pub class_of_member : List Entry → ℕ → Option (List ℕ)
class_of_member pool index = option_map member_class_of (first_of (field_reference_at pool index) (method_referred pool index))

-- the text of the class, or of the class whose member it is
abbrev pub class_referred : List Entry → ℕ → Option (List ℕ)
class_referred pool index = first_of (class_name_at pool index) (class_of_member pool index)

-- the class that such a text names: of an array that of its elements, where they have one (4.4.1)
abbrev pub element_class : Element (List ℕ) → Option (List ℕ)
element_class (elements.Class name) = Some name
element_class (elements.Base base) = None

abbrev pub class_within : List ℕ → Option (List ℕ)
class_within text =
    if is_array_name text then option_and_then (λ type. element_class type.element) (field_type_of text) else Some text

-- where the world has no class of that name
abbrev pub if_missing : World → List ℕ → Option (List ℕ)
if_missing world name = if is_none (number_named world name) then Some name else None

abbrev pub class_missing : World → List Entry → ℕ → Option (List ℕ)
class_missing world pool index =
    option_and_then (if_missing world) (option_and_then class_within (class_referred pool index))

-- ---- why an error is thrown, where a sentence says it

abbrev pub missing_text : Option (List ℕ) → List ℕ
missing_text None = []
missing_text (Some name) = codes ": " ++ escaped_text name ++ codes " is neither among the guest's classes nor the system's"

abbrev pub no_field_text : Option MemberReference → List ℕ
no_field_text None = []
no_field_text (Some member) =
    codes ": " ++ escaped_text member.class ++ codes " has no field " ++ escaped_text member.name ++ codes ":"
    ++ escaped_text member.descriptor

abbrev pub no_method_text : Option MemberReference → List ℕ
no_method_text None = []
no_method_text (Some member) =
    codes ": " ++ escaped_text member.class ++ codes " has no method " ++ escaped_text member.name ++ escaped_text member.descriptor

abbrev pub abstract_text : Option (List ℕ) → List ℕ
abstract_text None = []
abstract_text (Some name) = codes ": " ++ escaped_text name ++ codes " is an interface or abstract"

-- other errors have causes of several kinds, and no sentence
abbrev pub why_text : World → List Entry → ℕ → LinkError → List ℕ
why_text world pool index NoClassDefFoundError = missing_text (class_missing world pool index)
why_text world pool index NoSuchFieldError = no_field_text (field_reference_at pool index)
why_text world pool index NoSuchMethodError = no_method_text (method_referred pool index)
why_text world pool index InstantiationError = abstract_text (class_name_at pool index)
why_text world pool index _ = []

-- casts and instanceof of null resolve nothing (6.5)
abbrev pub unless_text : Instruction → List ℕ
unless_text (insns.CheckCast index) = codes " unless the operand is null"
unless_text (insns.InstanceOf index) = codes " unless the operand is null"
unless_text _ = []

-- ---- lines

abbrev pub throws_text : World → List Entry → Instruction → LinkError → List ℕ
throws_text world pool insn error =
    codes "  throws " ++ error_class error ++ unless_text insn ++ why_text world pool (operand_index insn) error ++ 10 ∷ []

-- the instruction, with the line of source of its offset, and what it throws
abbrev pub reference_text : World → List Entry → (line : ℕ → Option ℕ) → Unresolved → List ℕ
reference_text world pool line r = place_text pool r.offset (line r.offset) r.insn ++ throws_text world pool r.insn r.error

abbrev pub references_text : World → List Entry → (line : ℕ → Option ℕ) → List Unresolved → List ℕ
references_text world pool line those = flat_map (reference_text world pool line) those

-- behind the line of the method with a number, where it has such references
abbrev pub block_text : World → List Entry → (line : ℕ → Option ℕ) → ℕ → Method → List Unresolved → List ℕ
block_text world pool line number m [] = []
block_text world pool line number m (r ∷ more) = method_text number m ++ references_text world pool line (r ∷ more)

-- of methods, the first of which has a number, with their lines by number and offset
abbrev pub blocks_text : World → List Entry → (lines : ℕ → ℕ → Option ℕ) → ℕ → List Method → List (List Unresolved) → List ℕ
blocks_text world pool lines number (m ∷ methods) (those ∷ more) =
    block_text world pool (lines number) number m those ++ blocks_text world pool lines (suc number) methods more
blocks_text world pool lines number _ _ = []

-- What is said of a class: the text of exactly the references of its methods that don't resolve; and of each method by its number, at each
-- offset, the line of source, as the file may say it (4.7.12), which no definition here speaks of.
pub record AreLinksTold (world : World) (l : Loaded) (text : List ℕ) : Type 0 where
  pub found : List (List Unresolved)
  pub exactly : AreUnresolved world l found
  pub lines : ℕ → ℕ → Option ℕ
  pub told : text ≡ blocks_text world l.class.constant_pool lines 0 l.class.methods found
