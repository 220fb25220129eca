-- The numbers of the system's classes whose objects the machine makes or throws, and of java/lang/Error (own): they stand first in
-- the world of each guest.
use Rattle.std.specs.Prelude.{◌≡◌, ℕ, ◌++◌, List, codes}
use Rattle.jv_class.specs.Class.{Class}
use Rattle.jv_meaning_world.specs.FileContent.{FileContent, AreContents}
use Rattle.jv_meaning_world.specs.Library.{IsLibrary, with_library}
use Rattle.jv_meaning_world.specs.World.{World, world_of}
use Rattle.jv_meaning_machine.specs.Literals.{string_name}
use Rattle.jv_interp_heap.specs.ObjectsInBlocks.{HasNumber}
use Rattle.jv_interp_heap.specs.declared.numbers.TheConstants.{STRING, ERROR, ARITHMETIC, ARRAY_STORE, CLASS_CAST, NEGATIVE_SIZE, NULL_POINTER, ARRAY_INDEX, OUT_OF_MEMORY, STACK_OVERFLOW, CIRCULARITY, IN_INITIALIZER, CLASS_CHANGE, NO_CLASS, VERIFY, ABSTRACT_METHOD, ILLEGAL_ACCESS, INSTANTIATION, NO_FIELD, NO_METHOD}

-- the world of a guest's files behind those of a library, by what both hold
pub record IsGuestsWorld (world : World) : Type 0 where
  pub library : List (List ℕ)
  pub given : List Class
  pub gives : IsLibrary library given
  pub files : List (List ℕ)
  pub contents : List FileContent
  pub held : AreContents files contents
  pub world_is : world ≡ world_of (with_library given) contents

abbrev pub IsNumbered : World → List ℕ → ℕ → Type 0
IsNumbered world simple number = HasNumber world (codes "java/lang/" ++ simple) number

pub record AreSystemNumbers (world : World) : Type 0 where
  pub string : HasNumber world string_name STRING
  pub error : IsNumbered world (codes "Error") ERROR
  pub arithmetic : IsNumbered world (codes "ArithmeticException") ARITHMETIC
  pub array_store : IsNumbered world (codes "ArrayStoreException") ARRAY_STORE
  pub class_cast : IsNumbered world (codes "ClassCastException") CLASS_CAST
  pub negative_size : IsNumbered world (codes "NegativeArraySizeException") NEGATIVE_SIZE
  pub null_pointer : IsNumbered world (codes "NullPointerException") NULL_POINTER
  pub array_index : IsNumbered world (codes "ArrayIndexOutOfBoundsException") ARRAY_INDEX
  pub out_of_memory : IsNumbered world (codes "OutOfMemoryError") OUT_OF_MEMORY
  pub stack_overflow : IsNumbered world (codes "StackOverflowError") STACK_OVERFLOW
  pub circularity : IsNumbered world (codes "ClassCircularityError") CIRCULARITY
  pub in_initializer : IsNumbered world (codes "ExceptionInInitializerError") IN_INITIALIZER
  pub class_change : IsNumbered world (codes "IncompatibleClassChangeError") CLASS_CHANGE
  pub no_class : IsNumbered world (codes "NoClassDefFoundError") NO_CLASS
  pub verify : IsNumbered world (codes "VerifyError") VERIFY
  pub abstract_method : IsNumbered world (codes "AbstractMethodError") ABSTRACT_METHOD
  pub illegal_access : IsNumbered world (codes "IllegalAccessError") ILLEGAL_ACCESS
  pub instantiation : IsNumbered world (codes "InstantiationError") INSTANTIATION
  pub no_field : IsNumbered world (codes "NoSuchFieldError") NO_FIELD
  pub no_method : IsNumbered world (codes "NoSuchMethodError") NO_METHOD

-- A law: in the world of each guest they have these numbers, whatever its host gives.
abbrev pub SystemHasNumbers : Type 0
SystemHasNumbers = (given : List Class) (contents : List FileContent) → AreSystemNumbers (world_of (with_library given) contents)
