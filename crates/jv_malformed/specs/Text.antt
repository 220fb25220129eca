-- What is said of bytes that hold no class of a version that this host reads, as text (own).
use Rattle.std.specs.Prelude.{◌≡◌, ℕ, List, [], ◌∷◌, ◌++◌, codes}
use Rattle.std.specs.Fmt.{decimal}
use Rattle.jv_pool.specs.declared.constant.Kind.{Kind}
use Rattle.jv_pool.specs.declared.constant.Kind.TheVariants as kinds
use Rattle.jv_class.specs.ClassFile.{IsOtherVersion}
use Rattle.jv_malformed.specs.Part.{IsFaultyPart}
use Rattle.jv_malformed.specs.declared.pool.FaultyPool.{FaultyPool}
use Rattle.jv_malformed.specs.declared.pool.FaultyPool.TheVariants.{Count, Missing, Broken}
use Rattle.jv_malformed.specs.declared.structure.FaultyStructure.{FaultyStructure}
use Rattle.jv_malformed.specs.declared.structure.FaultyStructure.TheVariants as structures
use Rattle.jv_malformed.specs.declared.rules.FaultyRules.{FaultyRules}
use Rattle.jv_malformed.specs.declared.rules.FaultyRules.TheVariants.{Class, Field, Method, Alike}
use Rattle.jv_malformed.specs.declared.part.FaultyPart.{FaultyPart}
use Rattle.jv_malformed.specs.declared.part.FaultyPart.TheVariants.{Start, Constants, Structure, Rules}

-- a constant of this kind that breaks the rule of its kind; constants of other kinds have none
abbrev pub broken_text : Kind → List ℕ
broken_text kinds.Utf8 = codes "a Utf8 that is not in modified UTF-8 (JVMS 4.4.7)"
broken_text kinds.Class = codes "a Class that does not name a class or an array type (JVMS 4.4.1)"
broken_text kinds.String = codes "a String that does not name a Utf8 (JVMS 4.4.3)"
broken_text kinds.Fieldref = codes "a Fieldref that does not name a class and a field descriptor (JVMS 4.4.2)"
broken_text kinds.Methodref =
    codes "a Methodref that does not name a class, a method name and a method descriptor, of void for <init> (JVMS 4.4.2)"
broken_text kinds.InterfaceMethodref =
    codes "an InterfaceMethodref that does not name a class, a method name without < and a method descriptor (JVMS 4.4.2)"
broken_text kinds.NameAndType = codes "a NameAndType that does not name an unqualified name and a descriptor (JVMS 4.4.6)"
broken_text kind = codes "one that breaks the rule of its kind (JVMS 4.4)"

abbrev pub pool_text : FaultyPool → List ℕ
pool_text Count =
    codes "  the count of the constants: it is cut off, 0, or too small for the last constant (JVMS 4.1, 4.4.5)" ++ 10 ∷ []
pool_text (Missing index) =
    codes "  constant " ++ decimal index ++ codes ": it is cut off, or no constant has such a tag (JVMS 4.4)" ++ 10 ∷ []
pool_text (Broken index kind) = codes "  constant " ++ decimal index ++ codes " is " ++ broken_text kind ++ 10 ∷ []

abbrev pub structure_text : FaultyStructure → List ℕ
structure_text structures.Head =
    codes "  behind the constant pool: the flags, the class, its superclass or its interfaces are cut off (JVMS 4.1)"
    ++ 10 ∷ []
structure_text structures.FieldCount = codes "  behind the interfaces: the count of the fields is cut off (JVMS 4.1)" ++ 10 ∷ []
structure_text (structures.Field place) =
    codes "  field " ++ decimal place ++ codes ": it is cut off, or an attribute of it may not stand so (JVMS 4.5, 4.7)" ++ 10 ∷ []
structure_text structures.MethodCount = codes "  behind the fields: the count of the methods is cut off (JVMS 4.1)" ++ 10 ∷ []
structure_text (structures.Method place) =
    codes "  method " ++ decimal place ++ codes ": it is cut off, or an attribute of it may not stand so (JVMS 4.6, 4.7)" ++ 10 ∷ []
structure_text structures.End =
    codes "  behind the methods: an attribute of the class is cut off or has no name, or bytes are left over (JVMS 4.1, 4.7)"
    ++ 10 ∷ []

abbrev pub rules_text : FaultyRules → List ℕ
rules_text Class =
    codes "  the class: its flags, its name, its superclass or its interfaces break a rule (JVMS 4.1)" ++ 10 ∷ []
rules_text (Field place) =
    codes "  field " ++ decimal place
    ++ codes ": its name, its descriptor, its flags or its constant breaks a rule (JVMS 4.5, 4.7.2)" ++ 10 ∷ []
rules_text (Method place) =
    codes "  method " ++ decimal place
    ++ codes ": its name, its descriptor, its flags or its code breaks a rule (JVMS 4.6, 4.7.3)" ++ 10 ∷ []
rules_text Alike = codes "  two fields or two methods have the same name and descriptor (JVMS 4.5, 4.6)" ++ 10 ∷ []

abbrev pub part_text : FaultyPart → List ℕ
part_text Start = codes "  the start is not that of a class file: CAFEBABE and a version, eight bytes (JVMS 4.1)" ++ 10 ∷ []
part_text (Constants fault) = pool_text fault
part_text (Structure fault) = structure_text fault
part_text (Rules fault) = rules_text fault

-- of the part at which the bytes stop being a class file
abbrev pub TellsFault : (bytes text : List ℕ) → Type 0
TellsFault bytes text = (part : FaultyPart) × IsFaultyPart bytes part × (text ≡ part_text part)

-- ---- of another version (4.1): which one

abbrev pub version_text : (minor major : ℕ) → List ℕ
version_text minor major =
    codes "  version " ++ decimal major ++ codes "." ++ decimal minor
    ++ codes ": this host reads 50.0, 51.0 and 52.0 (JVMS 4.1), the last of which javac makes by --release 8" ++ 10 ∷ []

pub record TellsVersion (bytes text : List ℕ) : Type 0 where
  pub other : IsOtherVersion bytes
  pub told : text ≡ version_text other.minor other.major
