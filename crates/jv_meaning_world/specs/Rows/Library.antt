-- Worked rows of a library: a java/lang/String with one method more, a host/Io, and a java/util/Tool, with a guest's Tool beside. These
-- classes show what is made of any; they are no library, since the names of some and the header of the String are wrong.
use Rattle.std.specs.Prelude.{◌≡◌, ℕ, ◌++◌, true, List, [], ◌∷◌, map, Option, Some, codes, slice_get}
use Rattle.std.specs.Option.{option_map}
use Rattle.jv_class.specs.Class.{Class, Method}
use Rattle.jv_pool.specs.declared.constant.Constant.TheVariants.{Utf8}
use Rattle.jv_pool.specs.Constants.{Entry}
use Rattle.jv_meaning_world.specs.declared.content.Content.TheVariants.{Holds}
use Rattle.jv_meaning_world.specs.declared.verdict.LoadVerdict.TheVariants.{Duplicate, Reserved}
use Rattle.jv_meaning_world.specs.Library.{Lends, borrowers, borrowers_more, char_sequence, comparable, comparable_string, system_with, with_library}
use Rattle.jv_meaning_world.specs.System.Classes.{system_classes}
use Rattle.jv_meaning_world.specs.System.Interfaces.{cloneable, serializable}
use Rattle.jv_meaning_world.specs.System.Io.{io}
use Rattle.jv_meaning_world.specs.System.Members.{method_without_code}
use Rattle.jv_meaning_world.specs.System.Object.{object}
use Rattle.jv_meaning_world.specs.System.String.{string}
use Rattle.jv_meaning_world.specs.Rows.Files.{public_class}
use Rattle.jv_meaning_world.specs.Verdicts.{load_verdict}
use Rattle.jv_meaning_world.specs.World.{World, class_named, loaded, without_front, world_of}

abbrev pub trim : Method
trim = method_without_code 1 (codes "trim") (codes "()Ljava/lang/String;")

abbrev pub tool : Class
tool = public_class (codes "java/util/Tool") (codes "java/lang/Object")

abbrev pub longer_pool : List Entry
longer_pool = string.constant_pool ++ Utf8 (codes "trim") ∷ []

-- the library's java/lang/String says that it is below another class: that is not lent; and its java/lang/Cloneable is no interface, and
-- lends nothing
abbrev pub string_of_library : Class
string_of_library = record string {
  major_version = 51;
  constant_pool = longer_pool;
  super_class = Some (codes "java/util/Tool");
  fields = [];
  methods = string.methods ++ trim ∷ [];
}

-- one with the system's header
abbrev pub string_with_header : Class
string_with_header = record comparable_string { major_version = 51; constant_pool = longer_pool; methods = string.methods ++ trim ∷ [] }

abbrev pub cloneable_of_library : Class
cloneable_of_library = record tool { name = cloneable.name; methods = trim ∷ [] }

abbrev pub library : List Class
library =
    tool ∷ string_of_library ∷ record string { methods = [] } ∷ record io { methods = trim ∷ [] } ∷ cloneable_of_library
    ∷ record tool { name = codes "tools/Hammer" } ∷ record tool { methods = trim ∷ [] } ∷ []

abbrev pub world : World
world =
    world_of (with_library library)
    (Holds tool ∷ Holds (record tool { name = codes "Tool" }) ∷ Holds (record tool { name = codes "tools/Hammer" }) ∷ [])

abbrev pub named : List ℕ → Option Class
named name = option_map (λ l. l.class) (class_named world name)

-- the names of the system's classes with a library, in order
abbrev pub system_names : List (List ℕ)
system_names =
    codes "java/lang/Cloneable"
    ∷ codes "java/io/Serializable"
    ∷ codes "java/lang/Object"
    ∷ codes "java/lang/String"
    ∷ codes "java/lang/Throwable"
    ∷ codes "java/lang/Exception"
    ∷ codes "java/lang/Error"
    ∷ codes "java/lang/RuntimeException"
    ∷ codes "java/lang/ArithmeticException"
    ∷ codes "java/lang/ArrayStoreException"
    ∷ codes "java/lang/ClassCastException"
    ∷ codes "java/lang/IllegalArgumentException"
    ∷ codes "java/lang/IllegalStateException"
    ∷ codes "java/lang/IndexOutOfBoundsException"
    ∷ codes "java/lang/NegativeArraySizeException"
    ∷ codes "java/lang/NullPointerException"
    ∷ codes "java/lang/UnsupportedOperationException"
    ∷ codes "java/lang/ArrayIndexOutOfBoundsException"
    ∷ codes "java/lang/LinkageError"
    ∷ codes "java/lang/VirtualMachineError"
    ∷ codes "java/lang/OutOfMemoryError"
    ∷ codes "java/lang/StackOverflowError"
    ∷ codes "java/lang/ClassCircularityError"
    ∷ codes "java/lang/ExceptionInInitializerError"
    ∷ codes "java/lang/IncompatibleClassChangeError"
    ∷ codes "java/lang/NoClassDefFoundError"
    ∷ codes "java/lang/VerifyError"
    ∷ codes "java/lang/AbstractMethodError"
    ∷ codes "java/lang/IllegalAccessError"
    ∷ codes "java/lang/InstantiationError"
    ∷ codes "java/lang/NoSuchFieldError"
    ∷ codes "java/lang/NoSuchMethodError"
    ∷ codes "host/Io"
    ∷ codes "java/lang/Comparable"
    ∷ codes "java/lang/CharSequence"
    ∷ []

pub record WorkedLibraryRows : Type 0 where
  -- without a library all is as without the word
  pub none : with_library [] ≡ without_front system_classes
  pub names : map (λ c. c.name) (system_with library) ≡ system_names
  pub string_has_lent_methods : option_map (λ c. c.methods) (named (codes "java/lang/String")) ≡ Some (string.methods ++ trim ∷ [])
  pub string_has_lent_version : option_map (λ c. c.major_version) (named (codes "java/lang/String")) ≡ Some 51
  pub string_has_lent_pool : option_map (λ c. c.constant_pool) (named (codes "java/lang/String")) ≡ Some longer_pool
  pub string_keeps_its_fields : option_map (λ c. c.fields) (named (codes "java/lang/String")) ≡ Some string.fields
  pub string_keeps_its_superclass : option_map (λ c. c.super_class) (named (codes "java/lang/String")) ≡ Some string.super_class
  pub string_is_comparable : option_map (λ c. c.interfaces) (named (codes "java/lang/String"))
      ≡ Some (codes "java/io/Serializable" ∷ codes "java/lang/Comparable" ∷ codes "java/lang/CharSequence" ∷ [])
  pub string_keeps_its_place : option_map (λ l. l.class.name) (slice_get world 3) ≡ Some string.name
  pub object_is_as_it_was : named (codes "java/lang/Object") ≡ Some object
  pub interface_is_as_it_was : named (codes "java/lang/Cloneable") ≡ Some cloneable
  -- host/Io is lent nothing
  pub io_is_as_it_was : slice_get world 32 ≡ Some (loaded true io)
  -- a library of one class with another name leaves all as they are, but for the interfaces of java/lang/String
  pub nothing_lent : system_with (tool ∷ []) ≡ borrowers ++ io ∷ borrowers_more
  pub but_for_string : slice_get (system_with (tool ∷ [])) 3
      ≡ Some (record string { interfaces = serializable.name ∷ comparable.name ∷ char_sequence.name ∷ [] })
  -- the others stand behind the system's 35, in front of the guest's own, the first of a name alone
  pub others : map (λ c. c.name) (with_library library).front ≡ codes "java/util/Tool" ∷ codes "tools/Hammer" ∷ []
  pub first_counts : slice_get (with_library library).front 0 ≡ Some tool
  pub own_is_behind : option_map (λ l. l.class.name) (slice_get world 37) ≡ Some (codes "Tool")
  -- a guest may not take a name of the system's or of the library's
  pub reserved : load_verdict (with_library library) (Holds tool ∷ []) 0 ≡ Some Reserved
  pub taken : load_verdict (with_library library) (Holds (record tool { name = codes "tools/Hammer" }) ∷ []) 0 ≡ Some Duplicate
  -- a java/lang/String with the system's header lends, and one with another superclass does not
  pub lends : Lends comparable_string string_with_header
  pub lends_not : Lends comparable_string string_of_library → ⊥
