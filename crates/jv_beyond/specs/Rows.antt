-- Worked rows: which part is named before which, what is said of instructions, flags and constants, and what an instruction names.
use Rattle.std.specs.Prelude.{◌≡◌, true, false, List, [], ◌∷◌, Some, None, codes}
use Rattle.jv_pool.specs.Constants.{Entry}
use Rattle.jv_pool.specs.declared.constant.Constant.TheVariants.{Utf8, Class, Fieldref, NameAndType}
use Rattle.jv_code.specs.declared.insn.Insn.TheVariants.{PoolLongConstant, New, ArrayLength}
use Rattle.jv_beyond.specs.Beyond.{comes_before}
use Rattle.jv_beyond.specs.Mnemonics.{mnemonic}
use Rattle.jv_beyond.specs.Text.{entry_text, feature_of_flags, front_feature, front_text}
use Rattle.jv_beyond.specs.Uses.{constant_index, constants_at}
use Rattle.jv_beyond.specs.declared.beyond.Beyond.TheVariants as parts
use Rattle.jv_beyond.specs.declared.feature.Feature.TheVariants.{FloatingPoint, DynamicCalls, Monitors, NativeMethods, SynchronizedMethods}

-- a field `x` of type double of a class P
abbrev pub pool : List Entry
pool =
    Utf8 (codes "P") ∷ Class 1 ∷ Utf8 (codes "x") ∷ Utf8 (codes "D") ∷ NameAndType 3 4 ∷ Fieldref 2 5 ∷ []

pub record WorkedRows : Type 0 where
  -- an instruction comes before a field, of the same method the one with the lower offset, and an earlier method before a later one
  pub code_first : comes_before (parts.Use 7 12) (parts.Field 0) ≡ true
  pub opcode_first : comes_before (parts.Instruction 7 12) (parts.Use 0 0) ≡ true
  pub lower_first : comes_before (parts.Use 1 2) (parts.Use 1 3) ≡ true
  pub method_first : comes_before (parts.Use 1 65534) (parts.Use 2 0) ≡ true
  pub field_first : comes_before (parts.Constant 1) (parts.Field 9) ≡ false
  -- dadd and pop2; newarray of double; wide dstore; nop
  pub plain : front_text (99 ∷ 88 ∷ []) ≡ codes "dadd"
  pub array : front_text (188 ∷ 7 ∷ []) ≡ codes "newarray double"
  pub wide : front_text (196 ∷ 57 ∷ 1 ∷ 0 ∷ []) ≡ codes "dstore_w"
  pub of_profile : mnemonic 0 ≡ []
  -- invokedynamic, monitorexit, dreturn
  pub dynamic : front_feature (186 ∷ 0 ∷ 9 ∷ 0 ∷ 0 ∷ []) ≡ DynamicCalls
  pub monitor : front_feature (195 ∷ []) ≡ Monitors
  pub floating : front_feature (175 ∷ []) ≡ FloatingPoint
  -- a native method is told first
  pub native : feature_of_flags 288 ≡ NativeMethods
  pub synchronized : feature_of_flags 33 ≡ SynchronizedMethods
  -- a field is told with its name and its type, and names its class too
  pub member : entry_text pool (NameAndType 3 4) ≡ codes "NameAndType x:D"
  pub named : constants_at pool 6 ≡ 6 ∷ 2 ∷ 5 ∷ []
  pub alone : constants_at pool 5 ≡ 5 ∷ []
  pub loaded : constant_index (PoolLongConstant 3) ≡ Some 3
  pub made : constant_index (New 2) ≡ Some 2
  pub none : constant_index ArrayLength ≡ None
