-- The bytes of items, and which items are instructions of the profile (JVMS 4.9.1, 6.5).
use Rattle.std.specs.Prelude.{◌≡◌, ⊤, ℕ, ◌+◌, ◌-◌, ◌%◌, ◌≤◌, ◌<◌, ℤ, pos, negsuc, ◌-ℤ◌, Bool, false, ◌&&◌, List, [], ◌∷◌, ◌++◌, length, nat_lt, ◌==◌, IsTrue, replicate}
use Rattle.std.specs.List.{flat_map, list_all}
use Rattle.std.specs.Borrow.{Bor}
use Rattle.jv_format.specs.Format.{byte, half, quad}
use Rattle.jv_code.specs.declared.insn.Insn.TheVariants.{Nop, NullConstant, Compute, PoolConstant, PoolLongConstant, Load, Store, StoreLong, ArrayLoad, ReferenceArrayLoad, ArrayStore, ReferenceArrayStore, Stack, Division, Increment, Branch, Goto, TableSwitch, LookupSwitch, ReturnValue, Return, Field, Invoke, InvokeInterface, New, NewArray, NewReferenceArray, NewMultiArray, ArrayLength, Throw, CheckCast, InstanceOf}
use Rattle.jv_code.specs.declared.kinds.Computation.{Computation}
use Rattle.jv_code.specs.declared.kinds.Computation.TheVariants as compute
use Rattle.jv_code.specs.declared.kinds.LocalForm.{LocalForm}
use Rattle.jv_code.specs.declared.kinds.LocalForm.TheVariants as local
use Rattle.jv_code.specs.declared.kinds.IncrementForm.TheVariants as increment
use Rattle.jv_code.specs.declared.kinds.IntForm.TheVariants as int
use Rattle.jv_code.specs.declared.kinds.IndexForm.TheVariants as index
use Rattle.jv_code.specs.declared.kinds.JumpForm.TheVariants as jump
use Rattle.jv_code.specs.Opcodes.{int_opcode, long_opcode, load_opcode, load_0_opcode, store_opcode, store_0_opcode, array_load_opcode, array_store_opcode, stack_opcode, number_offset, arithmetic_opcode, division_opcode, shift_opcode, conversion_opcode, branch_opcode, return_opcode, field_opcode, invoke_opcode, element_code}
use Rattle.jv_code.specs.Numbers.{signed8, signed16, signed32}
use Rattle.jv_code.specs.Switches.{pair, keys_rise}
use Rattle.jv_code.specs.Insns.{Instruction, insn_fits}
use Rattle.jv_code.specs.Places.{IsCode}
use Rattle.jv_asm.specs.declared.item.Item.{Item}
use Rattle.jv_asm.specs.declared.item.Item.TheVariants as item

-- ---- bytes

-- the padding of a switch: zeros up to a multiple of four, counted from the start of the code
abbrev pub zeros : ℕ → List ℕ
zeros at = replicate (3 - at % 4) 0

abbrev pub table_switch_bytes : ℕ → ℤ → ℤ → ℤ → List ℤ → List ℕ
table_switch_bytes at default low high offsets =
    170 ∷ (zeros at ++ ((signed32.spelling default ++ (signed32.spelling low ++ signed32.spelling high))
    ++ flat_map signed32.spelling offsets))

abbrev pub lookup_switch_bytes : ℕ → ℤ → List (ℤ × ℤ) → List ℕ
lookup_switch_bytes at default pairs =
    171 ∷ (zeros at ++ (signed32.spelling default ++ (quad.spelling (length pairs) ++ flat_map pair.spelling pairs)))

-- the bytes of an item at an offset
abbrev pub code_of_item : ℕ → Item → List ℕ
code_of_item at (item.Plain opcode) = opcode ∷ []
code_of_item at (item.Byte opcode n) = opcode ∷ byte.spelling n
code_of_item at (item.SignedByte opcode z) = opcode ∷ signed8.spelling z
code_of_item at (item.Half opcode n) = opcode ∷ half.spelling n
code_of_item at (item.SignedHalf opcode z) = opcode ∷ signed16.spelling z
code_of_item at (item.SignedQuad opcode z) = opcode ∷ signed32.spelling z
code_of_item at (item.Iinc n z) = 132 ∷ (byte.spelling n ++ signed8.spelling z)
code_of_item at (item.Wide opcode n) = 196 ∷ opcode ∷ half.spelling n
code_of_item at (item.WideIinc n z) = 196 ∷ 132 ∷ (half.spelling n ++ signed16.spelling z)
code_of_item at (item.Invokeinterface i count) = 185 ∷ (half.spelling i ++ (count ∷ 0 ∷ []))
code_of_item at (item.Multianewarray i dimensions) = 197 ∷ (half.spelling i ++ byte.spelling dimensions)
code_of_item at (item.Tableswitch default low high offsets) = table_switch_bytes at default low high offsets.now
code_of_item at (item.Lookupswitch default pairs) = lookup_switch_bytes at default pairs.now

-- the bytes of items, the first at an offset; each next one stands behind the bytes of those before it
abbrev pub code_of_items : ℕ → List Item → List ℕ
code_of_items at [] = []
code_of_items at (i ∷ items) = code_of_item at i ++ code_of_items (at + length (code_of_item at i)) items

-- ---- the instruction that an item is

-- an instruction with a local: the opcodes with the local in them begin at `with_0`
abbrev pub IsLocalItem : ℕ → ℕ → ℕ → LocalForm → Item → Type 0
IsLocalItem with_0 opcode n local.Opcode i = i ≡ item.Plain (with_0 + n)
IsLocalItem with_0 opcode n local.Byte i = i ≡ item.Byte opcode n
IsLocalItem with_0 opcode n local.Wide i = i ≡ item.Wide opcode n

-- an instruction that only computes
abbrev pub IsComputationItem : Computation → Item → Type 0
IsComputationItem (compute.IntConstant z int.Opcode) i = i ≡ item.Plain (int_opcode z)
IsComputationItem (compute.IntConstant z int.Byte) i = i ≡ item.SignedByte 16 z
IsComputationItem (compute.IntConstant z int.Half) i = i ≡ item.SignedHalf 17 z
IsComputationItem (compute.LongConstant l) i = i ≡ item.Plain (long_opcode l)
IsComputationItem (compute.Arithmetic kind op) i = i ≡ item.Plain (arithmetic_opcode op + number_offset kind)
IsComputationItem (compute.Negate kind) i = i ≡ item.Plain (116 + number_offset kind)
IsComputationItem (compute.Shift kind op) i = i ≡ item.Plain (shift_opcode op + number_offset kind)
IsComputationItem (compute.Convert to) i = i ≡ item.Plain (conversion_opcode to)
IsComputationItem compute.CompareLongs i = i ≡ item.Plain 148

-- a switch, whose item has numbers where the instruction has bytes
pub record IsTableItem (at : ℕ) (padding : List ℕ) (default low high : ℤ) (offsets : List ℕ) (i : Item) : Type 0 where
  pub distances : Bor (List ℤ)
  pub is : i ≡ item.Tableswitch default low high distances
  pub padding_is : padding ≡ zeros at
  pub offsets_are : offsets ≡ flat_map signed32.spelling distances.now

pub record IsLookupItem (at : ℕ) (padding : List ℕ) (default : ℤ) (pairs : List ℕ) (i : Item) : Type 0 where
  pub keys : Bor (List (ℤ × ℤ))
  pub is : i ≡ item.Lookupswitch default keys
  pub padding_is : padding ≡ zeros at
  pub pairs_are : pairs ≡ flat_map pair.spelling keys.now

-- the item that spells an instruction, at an offset
abbrev pub IsItemOf : ℕ → Instruction → Item → Type 0
IsItemOf at Nop i = i ≡ item.Plain 0
IsItemOf at NullConstant i = i ≡ item.Plain 1
IsItemOf at (Compute computation) i = IsComputationItem computation i
IsItemOf at (PoolConstant n index.Byte) i = i ≡ item.Byte 18 n
IsItemOf at (PoolConstant n index.Half) i = i ≡ item.Half 19 n
IsItemOf at (PoolLongConstant n) i = i ≡ item.Half 20 n
IsItemOf at (Load kind n form) i = IsLocalItem (load_0_opcode kind) (load_opcode kind) n form i
IsItemOf at (Store kind n form) i = IsLocalItem (store_0_opcode kind) (store_opcode kind) n form i
IsItemOf at (StoreLong n form) i = IsLocalItem 63 55 n form i
IsItemOf at (ArrayLoad kind) i = i ≡ item.Plain (array_load_opcode kind)
IsItemOf at ReferenceArrayLoad i = i ≡ item.Plain 50
IsItemOf at (ArrayStore kind) i = i ≡ item.Plain (array_store_opcode kind)
IsItemOf at ReferenceArrayStore i = i ≡ item.Plain 83
IsItemOf at (Stack form) i = i ≡ item.Plain (stack_opcode form)
IsItemOf at (Division kind op) i = i ≡ item.Plain (division_opcode op + number_offset kind)
IsItemOf at (Increment n z increment.Byte) i = i ≡ item.Iinc n z
IsItemOf at (Increment n z increment.Wide) i = i ≡ item.WideIinc n z
IsItemOf at (Branch test z) i = i ≡ item.SignedHalf (branch_opcode test) z
IsItemOf at (Goto z jump.Half) i = i ≡ item.SignedHalf 167 z
IsItemOf at (Goto z jump.Quad) i = i ≡ item.SignedQuad 200 z
IsItemOf at (TableSwitch padding default low high offsets) i = IsTableItem at padding default low high offsets i
IsItemOf at (LookupSwitch padding default pairs) i = IsLookupItem at padding default pairs i
IsItemOf at (ReturnValue kind) i = i ≡ item.Plain (return_opcode kind)
IsItemOf at Return i = i ≡ item.Plain 177
IsItemOf at (Field access n) i = i ≡ item.Half (field_opcode access) n
IsItemOf at (Invoke how n) i = i ≡ item.Half (invoke_opcode how) n
IsItemOf at (InvokeInterface n count) i = i ≡ item.Invokeinterface n count
IsItemOf at (New n) i = i ≡ item.Half 187 n
IsItemOf at (NewArray type) i = i ≡ item.Byte 188 (element_code type)
IsItemOf at (NewReferenceArray n) i = i ≡ item.Half 189 n
IsItemOf at (NewMultiArray n dimensions) i = i ≡ item.Multianewarray n dimensions
IsItemOf at ArrayLength i = i ≡ item.Plain 190
IsItemOf at Throw i = i ≡ item.Plain 191
IsItemOf at (CheckCast n) i = i ≡ item.Half 192 n
IsItemOf at (InstanceOf n) i = i ≡ item.Half 193 n

-- An item is an instruction, which can stand at the offset: its numbers fit their fields, and a switch keeps its rules.
pub record IsInstruction (at : ℕ) (i : Item) (insn : Instruction) : Type 0 where
  pub spells : IsItemOf at insn i
  pub fits : IsTrue (insn_fits at insn)

-- and so is each of a list
abbrev pub AreInstructions : ℕ → List Item → List Instruction → Type 0
AreInstructions at [] [] = ⊤
AreInstructions at (i ∷ items) (insn ∷ insns) = IsInstruction at i insn × AreInstructions (at + length (code_of_item at i)) items insns
AreInstructions at _ _ = ⊥

-- ---- the law

-- one offset for each number from the lowest to the highest, where the highest less the lowest is the number given
abbrev pub count_keeps_rules : ℤ → ℕ → Bool
count_keeps_rules (pos n) count = count == n + 1
count_keeps_rules (negsuc n) count = false

abbrev pub table_keeps_rules : ℤ → ℤ → ℤ → List ℤ → Bool
table_keeps_rules default low high offsets =
    (signed32.fits default && (signed32.fits low && signed32.fits high)) && count_keeps_rules (high -ℤ low) (length offsets)

-- the keys rise
abbrev pub lookup_keeps_rules : ℤ → List (ℤ × ℤ) → Bool
lookup_keeps_rules default pairs =
    signed32.fits default && (list_all pair.fits pairs && (nat_lt (length pairs) 2147483648 && keys_rise pairs))

-- Items that are instructions, some of them and few enough, are code, and that list of instructions. A `tableswitch` with
-- matching bounds and a `lookupswitch` with rising keys are instructions.
pub record ItemsAreCode : Type 0 where
  pub code : (items : List Item) (insns : List Instruction) → 1 ≤ length items → length (code_of_items 0 items) ≤ 65535
      → AreInstructions 0 items insns → IsCode (code_of_items 0 items) insns
  pub table : (at : ℕ) (default low high : ℤ) (offsets : Bor (List ℤ)) → IsTrue (table_keeps_rules default low high offsets.now)
      → IsInstruction at (item.Tableswitch default low high offsets)
      (TableSwitch (zeros at) default low high (flat_map signed32.spelling offsets.now))
  pub lookup : (at : ℕ) (default : ℤ) (pairs : Bor (List (ℤ × ℤ))) → IsTrue (lookup_keeps_rules default pairs.now)
      → IsInstruction at (item.Lookupswitch default pairs) (LookupSwitch (zeros at) default (flat_map pair.spelling pairs.now))

-- a size, or 65,536 or more where the size is that
pub record IsCapped (size capped : ℕ) : Type 0 where
  pub few : capped < 65536 → capped ≡ size
  pub many : 65536 ≤ capped → 65536 ≤ size
