-- The system classes' files can be read, and hold the classes.
use Rattle.std.proofs.Common.{◌≡◌, ℕ, Bool, List, [], ◌∷◌, Some, length, refl}
use Rattle.std.specs.Prelude.{⊤, IsTrue, ◌&&◌, map, nat_le}
use Rattle.std.specs.List.{All, AllByRecursion, list_all, flat_map}
use Rattle.std.proofs.lemmas.Bool.{and_parts, leb-true}
use Rattle.std.proofs.lemmas.List.Elements.{All-nil, All-cons}
use Rattle.jv_text.specs.Types.{TypesAgree}
use Rattle.jv_code.specs.Insns.{Instruction, insn_bytes}
use Rattle.jv_code.specs.Places.{all_fit, IsCode}
use Rattle.jv_code.specs.Unsupported.{IsUnsupported, CodeIsSupported}
use Rattle.jv_class_structure.specs.Structure.{ClassStructure, class_bytes}
use Rattle.jv_class.specs.Class.{Class, Method, class_of}
use Rattle.jv_asm.specs.Law.{CanBeRead, WrittenReadsBack}
use Rattle.jv_meaning_world.specs.FileContent.{HasNoUnsupportedCode, IsProfileClass, AreContents}
use Rattle.jv_meaning_world.specs.declared.content.Content.TheVariants.{Holds}
use Rattle.jv_meaning_world.specs.System.Interfaces.{interface, interface_file}
use Rattle.jv_meaning_world.specs.System.Object as object
use Rattle.jv_meaning_world.specs.System.String as string
use Rattle.jv_meaning_world.specs.System.Throwable as throwable
use Rattle.jv_meaning_world.specs.System.Throwables as throwables
use Rattle.jv_meaning_world.specs.System.Classes.{classes_with_files, system_structures, system_bytes, system_contents}
use Rattle.jv_loader.proofs.Decided.{can_be_read, readable, is_supported, supported}

-- the laws of lower layers that serve here
pub record Laws : Type 0 where
  pub types : TypesAgree
  pub code : CodeIsSupported
  pub written : WrittenReadsBack

-- ---- code of the profile

abbrev is_code : List Instruction → Bool
is_code insns =
    all_fit 0 insns && (nat_le 1 (length (flat_map insn_bytes insns)) && nat_le (length (flat_map insn_bytes insns)) 65535)

within_profile : Laws → (insns : List Instruction) → IsTrue (is_code insns) → IsUnsupported (flat_map insn_bytes insns) → ⊥
within_profile laws insns h u =
    let parts = and_parts _ _ h in
    let size = and_parts _ _ parts.1 in
    let code : IsCode (flat_map insn_bytes insns) insns = record { spelled = refl; fit = parts.0; some = leb-true 1 _ size.0; few = leb-true _ 65535 size.1 } in
    laws.code (flat_map insn_bytes insns) insns code u

abbrev HasCode : Method → Type 0
HasCode m = HasNoUnsupportedCode m.code

all_have : (methods : List Method) → AllByRecursion HasCode methods → All HasCode methods
all_have [] h = All-nil HasCode
all_have (m ∷ methods) h = All-cons HasCode m methods h.0 (all_have methods h.1)

-- ---- a structure that can be read and is supported, and the class that it is

record Stands (c : ClassStructure) (class : Class) : Type 0 where
  pub read : CanBeRead c
  pub is : IsProfileClass c class

abbrev AreStanding : List ClassStructure → List Class → Type 0
AreStanding [] [] = ⊤
AreStanding (c ∷ structures) (class ∷ classes) = Stands c class × AreStanding structures classes
AreStanding _ _ = ⊥

abbrev passes_all : ClassStructure → Bool
passes_all c = can_be_read c && is_supported c

stands : Laws → (c : ClassStructure) (class : Class) → IsTrue (passes_all c) → class_of c ≡ Some class → AllByRecursion HasCode class.methods → Stands c class
stands laws c class h named code =
    let parts = and_parts _ _ h in
    record {
      read = readable laws.types c parts.0;
      is = record { named = named; supported = supported laws.types c parts.1; code = all_have class.methods code };
    }

-- ---- the classes

object_stands : Laws → Stands object.object_file object.object
object_stands laws =
    stands laws object.object_file object.object refl refl
    (within_profile laws object.init_body.code refl, (within_profile laws object.equals_body.code refl, tt))

string_stands : Laws → Stands string.string_file string.string
string_stands laws =
    stands laws string.string_file string.string refl refl (
      within_profile laws string.length_body.code refl,
      (
        within_profile laws string.char_at_body.code refl,
        (within_profile laws string.hash_code_body.code refl, (within_profile laws string.equals_body.code refl, tt)),
      ),
    )

throwable_stands : Laws → Stands throwable.throwable_file throwable.throwable
throwable_stands laws =
    stands laws throwable.throwable_file throwable.throwable refl refl
    (within_profile laws throwable.init_body.code refl, (within_profile laws throwable.message_init_body.code refl, (within_profile laws throwable.get_message_body.code refl, tt)))

interface_stands : Laws → (name : List ℕ) → IsTrue (passes_all (interface_file name)) → Stands (interface_file name) (interface name)
interface_stands laws name h = stands laws (interface_file name) (interface name) h refl tt

-- a row's class stands where the tests of its names pass
row_stands : Laws → (row : throwables.ThrowableRow) → IsTrue (passes_all (throwables.throwable_class_file row)) → Stands (throwables.throwable_class_file row) (throwables.throwable_class row)
row_stands laws row h =
    stands laws (throwables.throwable_class_file row) (throwables.throwable_class row) h refl
    (within_profile laws throwables.init_body.code refl, (within_profile laws throwables.message_init_body.code refl, tt))

abbrev row_passes : throwables.ThrowableRow → Bool
row_passes row = passes_all (throwables.throwable_class_file row)

rows_stand : Laws → (rows : List throwables.ThrowableRow) → IsTrue (list_all row_passes rows) → AreStanding (map throwables.throwable_class_file rows) (map throwables.throwable_class rows)
rows_stand laws [] h = tt
rows_stand laws (row ∷ rows) h = let parts = and_parts _ _ h in (row_stands laws row parts.0, rows_stand laws rows parts.1)

all_rows_pass : IsTrue (list_all row_passes throwables.throwable_rows)
all_rows_pass = refl

system_stands : Laws → AreStanding system_structures classes_with_files
system_stands laws =
    (interface_stands laws _ refl, (interface_stands laws _ refl, (object_stands laws, (string_stands laws, (throwable_stands laws, rows_stand laws throwables.throwable_rows all_rows_pass)))))

-- ---- what the files hold

contents : Laws → (structures : List ClassStructure) (classes : List Class) → AreStanding structures classes → AreContents (map class_bytes structures) (map Holds classes)
contents laws [] [] h = tt
contents laws [] (class ∷ classes) h = absurd h
contents laws (c ∷ structures) [] h = absurd h
contents laws (c ∷ structures) (class ∷ classes) h = ((c, laws.written.reads c h.0.read, h.0.is), contents laws structures classes h.1)

pub system_holds : Laws → AreContents system_bytes system_contents
system_holds laws = contents laws system_structures classes_with_files (system_stands laws)
