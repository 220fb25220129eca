-- Worked rows: local variables, arrays and returns, computed. The local variables are an int, a long and a C, unless others
-- are shown.
use Rattle.std.specs.Prelude.{◌≡◌, pos, List, [], ◌∷◌, Some, None, codes}
use Rattle.jv_text.specs.declared.descriptor.Base.TheVariants as bases
use Rattle.jv_text.specs.declared.descriptor.Element.TheVariants as elements
use Rattle.jv_stackmap.specs.declared.verification.VerificationTypeOf.TheVariants as types
use Rattle.jv_stackmap.specs.Types.{FrameType}
use Rattle.jv_code.specs.declared.insn.Insn.TheVariants as insns
use Rattle.jv_code.specs.declared.kinds.ElementType.TheVariants as element_types
use Rattle.jv_code.specs.declared.kinds.IncrementForm.TheVariants as increments
use Rattle.jv_code.specs.declared.kinds.LocalForm.TheVariants as local
use Rattle.jv_code.specs.declared.kinds.NumberElement.TheVariants as number_elements
use Rattle.jv_code.specs.declared.kinds.ValueKind.TheVariants as kinds
use Rattle.jv_code.specs.declared.kinds.WordKind.TheVariants as word_kinds
use Rattle.jv_meaning_world.specs.Rows.Files.{object_name}
use Rattle.jv_meaning_typing.specs.Rows.Samples.{b, c, object, of_class, of_type, numbers, objects, method_of_c, on_stack, on_stack_in, in_locals, behind, frame, flagged}

-- ---- loads

pub record LoadRows : Type 0 where
  pub iload : on_stack (insns.Load kinds.Int 0 local.Opcode) [] ≡ Some (types.Int ∷ [])
  pub lload : on_stack (insns.Load kinds.Long 1 local.Byte) [] ≡ Some (types.Long ∷ [])
  pub aload : on_stack (insns.Load kinds.Reference 3 local.Wide) [] ≡ Some (c ∷ [])
  pub iload_long : on_stack (insns.Load kinds.Int 1 local.Opcode) [] ≡ None
  pub lload_half : on_stack (insns.Load kinds.Long 2 local.Opcode) [] ≡ None
  pub aload_int : on_stack (insns.Load kinds.Reference 0 local.Opcode) [] ≡ None
  pub aload_outside : on_stack (insns.Load kinds.Reference 4 local.Byte) [] ≡ None
  pub iinc : on_stack (insns.Increment 0 (pos 1) increments.Byte) [] ≡ Some []
  pub iinc_long : on_stack (insns.Increment 1 (pos 1) increments.Wide) [] ≡ None
  pub iinc_outside : on_stack (insns.Increment 4 (pos 1) increments.Wide) [] ≡ None

-- ---- stores

abbrev pub four : List FrameType
four = types.Int ∷ types.Long ∷ types.Top ∷ c ∷ []

pub record StoreRows : Type 0 where
  pub istore : in_locals (insns.Store word_kinds.Int 3 local.Opcode) four (types.Int ∷ [])
      ≡ Some (types.Int ∷ types.Long ∷ types.Top ∷ types.Int ∷ [])
  -- over a half of a long the other half becomes top
  pub over_first_half : in_locals (insns.Store word_kinds.Int 1 local.Opcode) four (types.Int ∷ [])
      ≡ Some (types.Int ∷ types.Int ∷ types.Top ∷ c ∷ [])
  pub over_second_half : in_locals (insns.Store word_kinds.Int 2 local.Opcode) four (types.Int ∷ [])
      ≡ Some (types.Int ∷ types.Top ∷ types.Int ∷ c ∷ [])
  pub long_over_first_half : in_locals (insns.StoreLong 0 local.Opcode) four (types.Long ∷ [])
      ≡ Some (types.Long ∷ types.Top ∷ types.Top ∷ c ∷ [])
  pub long_over_second_half : in_locals (insns.StoreLong 2 local.Opcode) four (types.Long ∷ [])
      ≡ Some (types.Int ∷ types.Top ∷ types.Long ∷ types.Top ∷ [])
  pub long_over_itself : in_locals (insns.StoreLong 1 local.Opcode) four (types.Long ∷ []) ≡ Some four
  pub long_outside : in_locals (insns.StoreLong 3 local.Opcode) four (types.Long ∷ []) ≡ None
  pub outside : in_locals (insns.Store word_kinds.Int 4 local.Byte) four (types.Int ∷ []) ≡ None

pub record StoredKindRows : Type 0 where
  pub uninitialized : in_locals (insns.Store word_kinds.Reference 0 local.Opcode) four (types.Uninitialized 3 ∷ [])
      ≡ Some (types.Uninitialized 3 ∷ types.Long ∷ types.Top ∷ c ∷ [])
  pub null : in_locals (insns.Store word_kinds.Reference 0 local.Opcode) four (types.Null ∷ [])
      ≡ Some (types.Null ∷ types.Long ∷ types.Top ∷ c ∷ [])
  pub int_as_reference : in_locals (insns.Store word_kinds.Reference 0 local.Opcode) four (types.Int ∷ []) ≡ None
  pub null_as_int : in_locals (insns.Store word_kinds.Int 0 local.Opcode) four (types.Null ∷ []) ≡ None
  pub int_as_long : in_locals (insns.StoreLong 0 local.Opcode) four (types.Int ∷ []) ≡ None
  pub top : in_locals (insns.Store word_kinds.Reference 0 local.Opcode) four (types.Top ∷ []) ≡ None
  pub nothing : in_locals (insns.Store word_kinds.Int 0 local.Opcode) four [] ≡ None
  -- a constructor that overwrites `this` keeps the flag
  pub keeps_flag : behind (insns.Store word_kinds.Reference 0 local.Opcode) (flagged (types.UninitializedThis ∷ []) (c ∷ []))
      ≡ Some (flagged (c ∷ []) [])

-- ---- arrays of numbers

pub record NumberArrayRows : Type 0 where
  pub iaload : on_stack (insns.ArrayLoad number_elements.Int) (types.Int ∷ numbers 0 bases.Int ∷ []) ≡ Some (types.Int ∷ [])
  pub iaload_null : on_stack (insns.ArrayLoad number_elements.Int) (types.Int ∷ types.Null ∷ []) ≡ Some (types.Int ∷ [])
  pub iaload_shorts : on_stack (insns.ArrayLoad number_elements.Int) (types.Int ∷ numbers 0 bases.Short ∷ []) ≡ None
  pub iaload_arrays : on_stack (insns.ArrayLoad number_elements.Int) (types.Int ∷ numbers 1 bases.Int ∷ []) ≡ None
  pub iaload_at_long : on_stack (insns.ArrayLoad number_elements.Int) (types.Long ∷ numbers 0 bases.Int ∷ []) ≡ None
  pub laload : on_stack (insns.ArrayLoad number_elements.Long) (types.Int ∷ numbers 0 bases.Long ∷ []) ≡ Some (types.Long ∷ [])
  pub baload : on_stack (insns.ArrayLoad number_elements.ByteOrBoolean) (types.Int ∷ numbers 0 bases.Byte ∷ []) ≡ Some (types.Int ∷ [])
  pub baload_booleans : on_stack (insns.ArrayLoad number_elements.ByteOrBoolean) (types.Int ∷ numbers 0 bases.Boolean ∷ [])
      ≡ Some (types.Int ∷ [])
  pub baload_chars : on_stack (insns.ArrayLoad number_elements.ByteOrBoolean) (types.Int ∷ numbers 0 bases.Char ∷ []) ≡ None
  pub castore : on_stack (insns.ArrayStore number_elements.Char) (types.Int ∷ types.Int ∷ numbers 0 bases.Char ∷ []) ≡ Some []
  pub lastore : on_stack (insns.ArrayStore number_elements.Long) (types.Long ∷ types.Int ∷ numbers 0 bases.Long ∷ []) ≡ Some []
  pub lastore_int : on_stack (insns.ArrayStore number_elements.Long) (types.Int ∷ types.Int ∷ numbers 0 bases.Long ∷ []) ≡ None

-- ---- arrays of references; no class is called Missing

pub record ReferenceArrayRows : Type 0 where
  pub aaload : on_stack insns.ReferenceArrayLoad (types.Int ∷ objects (codes "C") ∷ []) ≡ Some (c ∷ [])
  pub aaload_null : on_stack insns.ReferenceArrayLoad (types.Int ∷ types.Null ∷ []) ≡ Some (types.Null ∷ [])
  pub aaload_arrays : on_stack insns.ReferenceArrayLoad (types.Int ∷ numbers 1 bases.Int ∷ []) ≡ Some (numbers 0 bases.Int ∷ [])
  pub aaload_ints : on_stack insns.ReferenceArrayLoad (types.Int ∷ numbers 0 bases.Int ∷ []) ≡ None
  pub aaload_missing : on_stack insns.ReferenceArrayLoad (types.Int ∷ objects (codes "Missing") ∷ [])
      ≡ Some (of_class (codes "Missing") ∷ [])
  pub aaload_class : on_stack insns.ReferenceArrayLoad (types.Int ∷ c ∷ []) ≡ None
  -- what is stored has not to be of the array's type
  pub aastore : on_stack insns.ReferenceArrayStore (object ∷ types.Int ∷ objects (codes "C") ∷ []) ≡ Some []
  pub aastore_null : on_stack insns.ReferenceArrayStore (types.Null ∷ types.Int ∷ types.Null ∷ []) ≡ Some []
  pub aastore_arrays : on_stack insns.ReferenceArrayStore (numbers 0 bases.Int ∷ types.Int ∷ numbers 1 bases.Int ∷ []) ≡ Some []
  pub aastore_ints : on_stack insns.ReferenceArrayStore (c ∷ types.Int ∷ numbers 0 bases.Int ∷ []) ≡ None
  pub aastore_int : on_stack insns.ReferenceArrayStore (types.Int ∷ types.Int ∷ objects object_name ∷ []) ≡ None
  pub aastore_uninitialized : on_stack insns.ReferenceArrayStore (types.Uninitialized 0 ∷ types.Int ∷ objects object_name ∷ []) ≡ None
  pub aastore_missing : on_stack insns.ReferenceArrayStore (types.Null ∷ types.Int ∷ objects (codes "Missing") ∷ []) ≡ None

-- ---- new arrays, of at most 255 dimensions

pub record NewArrayRows : Type 0 where
  pub newarray : on_stack (insns.NewArray element_types.Boolean) (types.Int ∷ []) ≡ Some (numbers 0 bases.Boolean ∷ [])
  pub newarray_long : on_stack (insns.NewArray element_types.Int) (types.Long ∷ []) ≡ None
  pub anewarray : on_stack (insns.NewReferenceArray 2) (types.Int ∷ []) ≡ Some (objects (codes "C") ∷ [])
  pub anewarray_arrays : on_stack (insns.NewReferenceArray 12) (types.Int ∷ []) ≡ Some (numbers 1 bases.Int ∷ [])
  pub anewarray_last : on_stack (insns.NewReferenceArray 49) (types.Int ∷ []) ≡ Some (numbers 254 bases.Int ∷ [])
  pub anewarray_too_many : on_stack (insns.NewReferenceArray 51) (types.Int ∷ []) ≡ None
  pub anewarray_other_kind : on_stack (insns.NewReferenceArray 44) (types.Int ∷ []) ≡ None
  pub multianewarray : on_stack (insns.NewMultiArray 14 2) (types.Int ∷ types.Int ∷ []) ≡ Some (numbers 1 bases.Int ∷ [])
  pub multianewarray_fewer : on_stack (insns.NewMultiArray 14 1) (types.Int ∷ []) ≡ Some (numbers 1 bases.Int ∷ [])
  pub multianewarray_more : on_stack (insns.NewMultiArray 14 3) (types.Int ∷ types.Int ∷ types.Int ∷ []) ≡ None
  pub multianewarray_count : on_stack (insns.NewMultiArray 14 2) (types.Int ∷ types.Null ∷ []) ≡ None
  pub multianewarray_class : on_stack (insns.NewMultiArray 2 1) (types.Int ∷ []) ≡ None

pub record LengthRows : Type 0 where
  pub arraylength : on_stack insns.ArrayLength (objects (codes "Missing") ∷ []) ≡ Some (types.Int ∷ [])
  pub arraylength_null : on_stack insns.ArrayLength (types.Null ∷ []) ≡ Some (types.Int ∷ [])
  pub arraylength_object : on_stack insns.ArrayLength (object ∷ []) ≡ None

-- ---- returns

pub record ReturnRows : Type 0 where
  pub return : behind insns.Return (frame [] []) ≡ Some (frame [] [])
  -- where `this` may not be initialized, also in a method that is no constructor
  pub return_flag : behind insns.Return (flagged [] []) ≡ None
  pub ireturn_void : on_stack (insns.ReturnValue kinds.Int) (types.Int ∷ []) ≡ None
  pub ireturn : on_stack_in (method_of_c (codes "m") (Some (of_type 0 (elements.Base bases.Boolean)))) (insns.ReturnValue kinds.Int)
      (types.Int ∷ []) ≡ Some []
  pub return_int : on_stack_in (method_of_c (codes "m") (Some (of_type 0 (elements.Base bases.Int)))) insns.Return (types.Int ∷ []) ≡ None
  pub ireturn_long : on_stack_in (method_of_c (codes "m") (Some (of_type 0 (elements.Base bases.Long)))) (insns.ReturnValue kinds.Int)
      (types.Int ∷ []) ≡ None
  pub lreturn : on_stack_in (method_of_c (codes "m") (Some (of_type 0 (elements.Base bases.Long)))) (insns.ReturnValue kinds.Long)
      (types.Long ∷ []) ≡ Some []
  pub areturn : on_stack_in (method_of_c (codes "m") (Some (of_type 0 (elements.Class (codes "p/B"))))) (insns.ReturnValue kinds.Reference)
      (c ∷ []) ≡ Some []
  pub areturn_above : on_stack_in (method_of_c (codes "m") (Some (of_type 0 (elements.Class (codes "C")))))
      (insns.ReturnValue kinds.Reference) (b ∷ []) ≡ None
  pub areturn_uninitialized : on_stack_in (method_of_c (codes "m") (Some (of_type 0 (elements.Class object_name))))
      (insns.ReturnValue kinds.Reference) (types.Uninitialized 0 ∷ []) ≡ None
