-- Worked rows (JVMS 6.5, iaload to multianewarray): each instruction on arrays, with what it throws and in which order, computed.
use Rattle.std.specs.Prelude.{◌≡◌, ℕ, List, [], ◌∷◌, Ok, Err, codes}
use Rattle.jv_text.specs.declared.descriptor.Base.{Base}
use Rattle.jv_text.specs.declared.descriptor.Base.TheVariants as bases
use Rattle.jv_text.specs.declared.descriptor.Element.TheVariants as elements
use Rattle.jv_code.specs.declared.insn.Insn.TheVariants as insns
use Rattle.jv_code.specs.declared.kinds.ElementType.TheVariants as element_types
use Rattle.jv_code.specs.declared.kinds.NumberElement.{NumberElement}
use Rattle.jv_code.specs.declared.kinds.NumberElement.TheVariants as numbers
use Rattle.jv_code.specs.Insns.{Instruction}
use Rattle.jv_pool.specs.declared.constant.Constant.TheVariants as constants
use Rattle.jv_pool.specs.Constants.{Entry}
use Rattle.jv_meaning_world.specs.Rows.Files.{object_name}
use Rattle.jv_meaning_typing.specs.Named.{class_components}
use Rattle.jv_meaning_machine.specs.Faults.{OrFault}
use Rattle.jv_meaning_machine.specs.Faults.Fault.{OffsetFault, TagFault, ReferenceFault}
use Rattle.jv_meaning_machine.specs.Values.{Value}
use Rattle.jv_meaning_machine.specs.Values.Value.{Null, Reference}
use Rattle.jv_meaning_machine.specs.Objects.{Object}
use Rattle.jv_meaning_machine.specs.Objects.Object.{ArrayWith}
use Rattle.jv_meaning_machine.specs.Effects.{Effect}
use Rattle.jv_meaning_machine.specs.Effects.Effect.{Throws}
use Rattle.jv_meaning_machine.specs.Literals.{string_name}
use Rattle.jv_meaning_machine.specs.Rows.InstructionSamples.{Setting, effect, objects_behind, follows, raised, with_objects, int, int_minus, long, long_minus}

-- ---- arrays; the one that an instruction is on is object 0

abbrev pub array : Base → List Value → Object
array base values = ArrayWith (record { dimensions = 0; element = elements.Base base }) values

abbrev pub array_of : List ℕ → List Value → Object
array_of name values = ArrayWith (class_components name) values

abbrev pub null_pointer : OrFault Effect
null_pointer = raised (codes "NullPointerException")

abbrev pub array_index : OrFault Effect
array_index = raised (codes "ArrayIndexOutOfBoundsException")

abbrev pub array_store : OrFault Effect
array_store = raised (codes "ArrayStoreException")

abbrev pub negative_size : OrFault Effect
negative_size = raised (codes "NegativeArraySizeException")

-- the OutOfMemoryError object of the start
abbrev pub out_of_memory : OrFault Effect
out_of_memory = Ok (Throws 0)

-- ---- loads

abbrev pub loads : NumberElement → Object → Value → OrFault Effect
loads kind array index = effect (with_objects (array ∷ []) (Reference 0 ∷ index ∷ [])) (insns.ArrayLoad kind)

abbrev pub loads_reference : Object → Value → OrFault Effect
loads_reference array index = effect (with_objects (array ∷ []) (Reference 0 ∷ index ∷ [])) insns.ReferenceArrayLoad

abbrev pub loaded : Value → OrFault Effect
loaded value = follows 1 [] (value ∷ [])

abbrev pub on_null : Instruction → List Value → OrFault Effect
on_null insn operands = effect (with_objects [] (Null ∷ operands)) insn

pub record ArrayLoadRows : Type 0 where
  pub ints : loads numbers.Int (array bases.Int (int 7 ∷ int_minus 8 ∷ [])) (int 1) ≡ loaded (int_minus 8)
  pub longs : loads numbers.Long (array bases.Long (long 7 ∷ long_minus 8 ∷ [])) (int 1) ≡ loaded (long_minus 8)
  pub bytes : loads numbers.ByteOrBoolean (array bases.Byte (int_minus 1 ∷ [])) (int 0) ≡ loaded (int_minus 1)
  pub booleans : loads numbers.ByteOrBoolean (array bases.Boolean (int 1 ∷ [])) (int 0) ≡ loaded (int 1)
  pub chars : loads numbers.Char (array bases.Char (int 65535 ∷ [])) (int 0) ≡ loaded (int 65535)
  pub shorts : loads numbers.Short (array bases.Short (int_minus 1 ∷ [])) (int 0) ≡ loaded (int_minus 1)
  pub references : loads_reference (array_of string_name (Reference 0 ∷ [])) (int 0) ≡ loaded (Reference 0)
  -- null comes before the index
  pub null : on_null (insns.ArrayLoad numbers.Int) (int_minus 1 ∷ []) ≡ null_pointer
  pub reference_of_null : on_null insns.ReferenceArrayLoad (int_minus 1 ∷ []) ≡ null_pointer
  pub above : loads numbers.Int (array bases.Int (int 7 ∷ [])) (int 1) ≡ array_index
  pub below : loads numbers.Int (array bases.Int (int 7 ∷ [])) (int_minus 1) ≡ array_index
  pub reference_above : loads_reference (array_of string_name []) (int 0) ≡ array_index
  pub reference_below : loads_reference (array_of string_name (Null ∷ [])) (int_minus 2147483648) ≡ array_index
  -- arrays of another kind
  pub ints_as_bytes : loads numbers.ByteOrBoolean (array bases.Int (int 7 ∷ [])) (int 0) ≡ Err ReferenceFault
  pub ints_as_references : loads_reference (array bases.Int (int 7 ∷ [])) (int 0) ≡ Err ReferenceFault
  pub references_as_ints : loads numbers.Int (array_of string_name (Null ∷ [])) (int 0) ≡ Err ReferenceFault
  pub no_object : effect (with_objects [] (Reference 0 ∷ int 0 ∷ [])) (insns.ArrayLoad numbers.Int) ≡ Err ReferenceFault
  pub length :
      effect (with_objects (array bases.Int (int 7 ∷ int 8 ∷ []) ∷ []) (Reference 0 ∷ [])) insns.ArrayLength ≡ loaded (int 2)
  pub length_of_null : on_null insns.ArrayLength [] ≡ null_pointer

-- ---- stores

-- into the second of two elements: the objects behind it
abbrev pub stores : NumberElement → Base → Value → Value → OrFault (List Object)
stores kind base before value =
    objects_behind (with_objects (array base (before ∷ before ∷ []) ∷ []) (Reference 0 ∷ int 1 ∷ value ∷ []))
    (insns.ArrayStore kind)

abbrev pub stored : Base → Value → Value → OrFault (List Object)
stored base before value = Ok (array base (before ∷ value ∷ []) ∷ [])

abbrev pub stores_at : Value → Value → OrFault Effect
stores_at index value =
    effect (with_objects (array bases.Int (int 0 ∷ []) ∷ []) (Reference 0 ∷ index ∷ value ∷ [])) (insns.ArrayStore numbers.Int)

-- into an array of Strings, with an array of ints as object 1
abbrev pub strings : Value → Value → Setting
strings index value =
    with_objects (array_of string_name (Null ∷ []) ∷ array bases.Int [] ∷ []) (Reference 0 ∷ index ∷ value ∷ [])

pub record ArrayStoreRows : Type 0 where
  pub ints : stores numbers.Int bases.Int (int 0) (int_minus 1) ≡ stored bases.Int (int 0) (int_minus 1)
  pub longs : stores numbers.Long bases.Long (long 0) (long_minus 1) ≡ stored bases.Long (long 0) (long_minus 1)
  -- the low 8 bits, 16 bits, or one
  pub bytes : stores numbers.ByteOrBoolean bases.Byte (int 0) (int 200) ≡ stored bases.Byte (int 0) (int_minus 56)
  pub booleans : stores numbers.ByteOrBoolean bases.Boolean (int 0) (int_minus 1) ≡ stored bases.Boolean (int 0) (int 1)
  pub even_booleans : stores numbers.ByteOrBoolean bases.Boolean (int 1) (int 2) ≡ stored bases.Boolean (int 1) (int 0)
  pub chars : stores numbers.Char bases.Char (int 0) (int_minus 1) ≡ stored bases.Char (int 0) (int 65535)
  pub shorts : stores numbers.Short bases.Short (int 0) (int 40000) ≡ stored bases.Short (int 0) (int_minus 25536)
  pub null_reference :
      objects_behind (strings (int 0) Null) insns.ReferenceArrayStore
      ≡ Ok (array_of string_name (Null ∷ []) ∷ array bases.Int [] ∷ [])
  -- what stands below the operands stays, and null can be stored
  pub number_goes_on :
      effect (with_objects (array bases.Int (int 0 ∷ []) ∷ []) (int 7 ∷ Reference 0 ∷ int 0 ∷ int 1 ∷ [])) (insns.ArrayStore numbers.Int)
      ≡ follows 1 [] (int 7 ∷ [])
  pub null_goes_on :
      effect (with_objects (array_of string_name (Reference 0 ∷ []) ∷ []) (int 7 ∷ Reference 0 ∷ int 0 ∷ Null ∷ []))
      insns.ReferenceArrayStore
      ≡ follows 1 [] (int 7 ∷ [])
  pub null_over_reference :
      objects_behind (with_objects (array_of object_name (Reference 0 ∷ []) ∷ []) (Reference 0 ∷ int 0 ∷ Null ∷ []))
      insns.ReferenceArrayStore
      ≡ Ok (array_of object_name (Null ∷ []) ∷ [])
  -- null, then the index, then what is stored
  pub null : on_null (insns.ArrayStore numbers.Int) (int_minus 1 ∷ int 0 ∷ []) ≡ null_pointer
  pub reference_into_null : on_null insns.ReferenceArrayStore (int_minus 1 ∷ Null ∷ []) ≡ null_pointer
  pub above : stores_at (int 1) (int 0) ≡ array_index
  pub below : stores_at (int_minus 1) (int 0) ≡ array_index
  pub index_first : effect (strings (int 1) (Reference 1)) insns.ReferenceArrayStore ≡ array_index
  pub array_as_string : effect (strings (int 0) (Reference 1)) insns.ReferenceArrayStore ≡ array_store
  -- an array of Strings holds no array of Strings, and one of Objects holds itself
  pub itself : effect (strings (int 0) (Reference 0)) insns.ReferenceArrayStore ≡ array_store
  pub into_objects :
      objects_behind (with_objects (array_of object_name (Null ∷ []) ∷ []) (Reference 0 ∷ int 0 ∷ Reference 0 ∷ []))
      insns.ReferenceArrayStore
      ≡ Ok (array_of object_name (Reference 0 ∷ []) ∷ [])
  pub long_into_ints : stores_at (int 0) (long 0) ≡ Err TagFault
  pub int_into_longs : stores numbers.Int bases.Long (long 0) (int 0) ≡ Err ReferenceFault

-- ---- new arrays: 20 cells are left, and there is one object

abbrev pub first : Object
first = array bases.Int []

-- 2 java/lang/String, 4 [[I, 6 [[[I, 8 a class that is not there, 10 an array of it
abbrev pub names : List Entry
names =
    constants.Utf8 string_name ∷ constants.Class 1 ∷ constants.Utf8 (codes "[[I") ∷ constants.Class 3
    ∷ constants.Utf8 (codes "[[[I") ∷ constants.Class 5 ∷ constants.Utf8 (codes "Gone") ∷ constants.Class 7
    ∷ constants.Utf8 (codes "[LGone;") ∷ constants.Class 9 ∷ []

abbrev pub counting : List Value → Setting
counting counts = record (with_objects (first ∷ []) counts) { constants = names }

abbrev pub made : List Value → Instruction → OrFault (List Object)
made counts insn = objects_behind (counting counts) insn

abbrev pub makes : List Value → Instruction → OrFault Effect
makes counts insn = effect (counting counts) insn

abbrev pub of_arrays : ℕ → Base → List Value → Object
of_arrays dimensions base values = ArrayWith (record { dimensions = dimensions; element = elements.Base base }) values

pub record NewArrayRows : Type 0 where
  pub ints : made (int 2 ∷ []) (insns.NewArray element_types.Int) ≡ Ok (first ∷ array bases.Int (int 0 ∷ int 0 ∷ []) ∷ [])
  pub longs : made (int 1 ∷ []) (insns.NewArray element_types.Long) ≡ Ok (first ∷ array bases.Long (long 0 ∷ []) ∷ [])
  pub booleans : made (int 0 ∷ []) (insns.NewArray element_types.Boolean) ≡ Ok (first ∷ array bases.Boolean [] ∷ [])
  pub chars : made (int 0 ∷ []) (insns.NewArray element_types.Char) ≡ Ok (first ∷ array bases.Char [] ∷ [])
  pub bytes : made (int 0 ∷ []) (insns.NewArray element_types.Byte) ≡ Ok (first ∷ array bases.Byte [] ∷ [])
  pub shorts : made (int 0 ∷ []) (insns.NewArray element_types.Short) ≡ Ok (first ∷ array bases.Short [] ∷ [])
  pub strings : made (int 1 ∷ []) (insns.NewReferenceArray 2) ≡ Ok (first ∷ array_of string_name (Null ∷ []) ∷ [])
  pub arrays : made (int 1 ∷ []) (insns.NewReferenceArray 4) ≡ Ok (first ∷ of_arrays 2 bases.Int (Null ∷ []) ∷ [])
  pub pushed : makes (int 2 ∷ []) (insns.NewArray element_types.Int) ≡ follows 2 [] (Reference 1 ∷ [])
  -- two cells, and one for each component, or two
  pub last_cell : makes (int 18 ∷ []) (insns.NewArray element_types.Int) ≡ follows 2 [] (Reference 1 ∷ [])
  pub no_cell : makes (int 19 ∷ []) (insns.NewArray element_types.Byte) ≡ out_of_memory
  pub last_long : makes (int 9 ∷ []) (insns.NewArray element_types.Long) ≡ follows 2 [] (Reference 1 ∷ [])
  pub no_long : makes (int 10 ∷ []) (insns.NewArray element_types.Long) ≡ out_of_memory
  pub no_reference : makes (int 19 ∷ []) (insns.NewReferenceArray 2) ≡ out_of_memory
  pub negative : makes (int_minus 1 ∷ []) (insns.NewArray element_types.Int) ≡ negative_size
  pub negative_of_references : makes (int_minus 1 ∷ []) (insns.NewReferenceArray 2) ≡ negative_size
  -- the class is resolved before the length is looked at
  pub no_class : makes (int_minus 1 ∷ []) (insns.NewReferenceArray 8) ≡ raised (codes "NoClassDefFoundError")
  -- the outer array, then each of those in it, with all that it holds
  pub two_by_one :
      made (int 2 ∷ int 1 ∷ []) (insns.NewMultiArray 4 2)
      ≡ Ok
      (first ∷ of_arrays 1 bases.Int (Reference 2 ∷ Reference 3 ∷ []) ∷ array bases.Int (int 0 ∷ [])
      ∷ array bases.Int (int 0 ∷ []) ∷ [])
  pub three :
      made (int 2 ∷ int 1 ∷ int 0 ∷ []) (insns.NewMultiArray 6 3)
      ≡ Ok
      (first ∷ of_arrays 2 bases.Int (Reference 2 ∷ Reference 4 ∷ []) ∷ of_arrays 1 bases.Int (Reference 3 ∷ [])
      ∷ array bases.Int [] ∷ of_arrays 1 bases.Int (Reference 5 ∷ []) ∷ array bases.Int [] ∷ [])
  -- of three dimensions with two counts, the innermost are null
  pub two_of_three :
      made (int 1 ∷ int 2 ∷ []) (insns.NewMultiArray 6 2)
      ≡ Ok (first ∷ of_arrays 2 bases.Int (Reference 2 ∷ []) ∷ of_arrays 1 bases.Int (Null ∷ Null ∷ []) ∷ [])
  -- behind a count of 0 nothing is made, or paid
  pub none_behind_zero :
      made (int 0 ∷ int 2147483647 ∷ []) (insns.NewMultiArray 4 2) ≡ Ok (first ∷ of_arrays 1 bases.Int [] ∷ [])
  pub all_cells : makes (int 2 ∷ int 6 ∷ []) (insns.NewMultiArray 4 2) ≡ follows 4 [] (Reference 1 ∷ [])
  pub too_many : makes (int 2 ∷ int 7 ∷ []) (insns.NewMultiArray 4 2) ≡ out_of_memory
  pub greatest_counts :
      makes (int 2147483647 ∷ int 2147483647 ∷ int 2147483647 ∷ []) (insns.NewMultiArray 6 3) ≡ out_of_memory
  pub negative_behind_zero : makes (int 0 ∷ int_minus 1 ∷ []) (insns.NewMultiArray 4 2) ≡ negative_size
  pub negative_before_cells : makes (int 2147483647 ∷ int_minus 1 ∷ []) (insns.NewMultiArray 4 2) ≡ negative_size
  -- the constant names a class, or too few dimensions, which is looked at before it is resolved
  pub of_class : makes (int 1 ∷ []) (insns.NewMultiArray 2 1) ≡ Err OffsetFault
  pub too_few_dimensions : makes (int 1 ∷ int 1 ∷ int 1 ∷ []) (insns.NewMultiArray 4 3) ≡ Err OffsetFault
  pub too_few_of_no_class : makes (int 1 ∷ int 1 ∷ []) (insns.NewMultiArray 10 2) ≡ Err OffsetFault
  pub of_no_class : makes (int_minus 1 ∷ []) (insns.NewMultiArray 10 1) ≡ raised (codes "NoClassDefFoundError")
