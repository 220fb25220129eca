-- The two laws of an instruction: what is read is spelled so, and what is spelled so is read.
use Rattle.std.proofs.Common.{◌≡◌, ℕ, suc, ◌+◌, ◌-◌, ◌*◌, ◌%◌, ◌<◌, ◌^◌, Bool, true, false, cond, eqb, List, [], ◌∷◌, ◌++◌, length, Option, Some, None, refl, sym, ap, subst, ◌∙◌, arith}
use Rattle.std.specs.Prelude.{ℤ, pos, negsuc, IsTrue, ◌-ℤ◌, nat_lt}
use Rattle.std.specs.Int.{w8, w16, w32}
use Rattle.std.proofs.lemmas.Bool.{eqb-true, ltb-true, lt-ltb, and_parts}
use Rattle.jv_format.specs.Format.{Format, ◌>>=◌, IsBytes, byte, half, quad}
use Rattle.jv_format.specs.Readers.{both, bytes_of, found_as}
use Rattle.jv_format.proofs.Laws.{is_some, IsFormat, bind_some, byte_is, half_is, quad_is, signed_is, bytes_is, both_is, paired_is, such_is, after_is, took, again_as}
use Rattle.jv_code.specs.declared.insn.Insn.TheVariants.{Nop, NullConstant, Compute, PoolConstant, PoolLongConstant, Load, Store, StoreLong, ArrayLoad, ReferenceArrayLoad, ArrayStore, ReferenceArrayStore, Stack, Division, Increment, Branch, Goto, TableSwitch, LookupSwitch, ReturnValue, Return, Field, Invoke, InvokeInterface, New, NewArray, NewReferenceArray, NewMultiArray, ArrayLength, Throw, CheckCast, InstanceOf}
use Rattle.jv_code.specs.declared.kinds.ElementType.{ElementType}
use Rattle.jv_code.specs.declared.kinds.LocalForm.TheVariants as local
use Rattle.jv_code.specs.declared.kinds.IncrementForm.TheVariants as increment
use Rattle.jv_code.specs.declared.kinds.IntForm.TheVariants as int
use Rattle.jv_code.specs.declared.kinds.IndexForm.TheVariants as index
use Rattle.jv_code.specs.declared.kinds.JumpForm.TheVariants as jump
use Rattle.jv_code.specs.declared.shapes.IndexUse.{IndexUse}
use Rattle.jv_code.specs.declared.shapes.IndexUse.TheVariants as use_of
use Rattle.jv_code.specs.declared.shapes.LocalUse.{LocalUse}
use Rattle.jv_code.specs.declared.shapes.LocalUse.TheVariants as local_use
use Rattle.jv_code.specs.declared.kinds.Computation.TheVariants as compute
use Rattle.jv_code.specs.declared.kinds.Test.{Test}
use Rattle.jv_code.specs.declared.shapes.WholeInsn.{WholeInsn}
use Rattle.jv_code.specs.declared.shapes.WholeInsn.TheVariants as whole
use Rattle.jv_code.specs.declared.shapes.OpcodeShape.{OpcodeShape}
use Rattle.jv_code.specs.declared.shapes.OpcodeShape.TheVariants as shape
use Rattle.jv_code.specs.Opcodes.{int_opcode, long_opcode, load_0_opcode, store_0_opcode, array_load_opcode, array_store_opcode, stack_opcode, number_offset, arithmetic_opcode, division_opcode, shift_opcode, conversion_opcode, branch_opcode, return_opcode, element_code}
use Rattle.jv_code.specs.Numbers.{signed8, signed16, signed32}
use Rattle.jv_code.specs.Switches.{pairs_keep_rules}
use Rattle.jv_code.specs.Inside.SwitchReading.{distance_bytes, bounds, distance_bytes_between, table_switch, pair_count, pairs_of, pairs, lookup_switch}
use Rattle.jv_code.specs.Insns.{Instruction, insn_bytes, insn_fits}
use Rattle.jv_code.specs.Inside.Shapes.{shape_at}
use Rattle.jv_code.specs.Inside.Reading.{made, indexed, with_local, whole_insn, branch_by, goto_by, far_goto_by, byte_constant, half_constant, pool_byte, increment_by, wide_increment_by, table_switch_of, lookup_switch_of, invoke_interface_of, new_array_of, new_multi_array_of, count, element_at, element_found, element_type, dimensions, wide_operands, wide_read, operands, insn_read, insn}
use Rattle.jv_code.proofs.Tables.{index_opcode, local_opcode, is_byte, tells, shape_tells, element_has_code}
use Rattle.jv_code.proofs.Told.{long_told, array_load_told, array_store_told, stack_told, arithmetic_told, division_told, shift_told, negate_told, convert_told, return_told, load_told, store_told, store_long_told, int_told, index_told, local_told, branch_told, element_told}

-- ---- the formats of operands

pub signed8_is : IsFormat signed8
signed8_is = signed_is w8 byte byte_is (λ k h. ltb-true k 256 h) (λ k h. lt-ltb k 256 h)

pub signed16_is : IsFormat signed16
signed16_is = signed_is w16 half half_is (λ k h. ltb-true k 65536 h) (λ k h. lt-ltb k 65536 h)

quad_below : (k : ℕ) → IsTrue (quad.fits k) → k < 2 ^ 32
quad_below k h = ltb-true k 4294967296 h

quad_within : (k : ℕ) → k < 2 ^ 32 → IsTrue (quad.fits k)
quad_within k h = lt-ltb k 4294967296 h

pub signed32_is : IsFormat signed32
signed32_is = signed_is w32 quad quad_is quad_below quad_within

distance_bytes_are : (z : ℤ) → IsFormat (distance_bytes z)
distance_bytes_are (pos n) = bytes_is (4 * (n + 1))
distance_bytes_are (negsuc n) = record { takes = λ bytes rest x fits e. absurd cc; again = λ x rest h. absurd cc }

bounds_are : IsFormat bounds
bounds_are = both_is signed32 (both signed32 signed32) signed32_is (both_is signed32 signed32 signed32_is signed32_is)

table_switch_is : (at : ℕ) → IsFormat (table_switch at)
table_switch_is at = both_is _ _ (bytes_is (3 - at % 4)) (paired_is bounds distance_bytes_between bounds_are (λ b. distance_bytes_are (b.1.1 -ℤ b.1.0)))

eight_each : (n : ℕ) (t : List ℕ) → IsTrue ((pairs_of n).fits t) → pair_count t ≡ n
eight_each n t h = let long : length t ≡ 8 * n = eqb-true _ _ (and_parts _ _ h).0 in omega arith

pairs_are : IsFormat pairs
pairs_are = after_is quad pair_count pairs_of quad_is (λ n. such_is (pairs_keep_rules n) (bytes_of (8 * n)) (bytes_is (8 * n))) eight_each

lookup_switch_is : (at : ℕ) → IsFormat (lookup_switch at)
lookup_switch_is at = both_is _ _ (bytes_is (3 - at % 4)) (both_is signed32 pairs signed32_is pairs_are)

if_found : {A : Type 0} (b : Bool) (y z : A) → cond b (Some y) None ≡ Some z → (b ≡ true) × (y ≡ z)
if_found true y z e = (refl, is_some y z e)
if_found false y z e = absurd cc

count_takes : (bytes rest : List ℕ) (n : ℕ) → IsBytes bytes → count.read bytes ≡ Some (n, rest) → (bytes ≡ count.spelling n ++ rest) × IsTrue (count.fits n)
count_takes [] rest n small e = absurd cc
count_takes (a ∷ []) rest n small e = absurd cc
count_takes (a ∷ b ∷ bytes) rest n small e =
    let found = if_found (eqb b 0) (a, bytes) (n, rest) e in
    let zero_byte : b ≡ 0 = eqb-true b 0 found.0 in
    subst (λ (y : ℕ × List ℕ). (a ∷ b ∷ bytes ≡ count.spelling y.0 ++ y.1) × IsTrue (count.fits y.0)) found.1
    (ap (λ (k : ℕ). a ∷ k ∷ bytes) zero_byte, lt-ltb a 256 (small 0))

pub count_is : IsFormat count
count_is = record { takes = count_takes; again = λ n rest h. refl }

element_takes : (bytes rest : List ℕ) (x : ElementType) → IsBytes bytes → element_type.read bytes ≡ Some (x, rest) → (bytes ≡ element_type.spelling x ++ rest) × IsTrue (element_type.fits x)
element_takes [] rest x small e = absurd cc
element_takes (code ∷ bytes) rest x small e =
    let found = bind_some (element_at code) (element_found bytes) (x, rest) e in
    let same = is_some (found.0, bytes) (x, rest) found.2 in
    let is : code ≡ element_code found.0 = eqb-true _ _ (element_has_code code found.0 (small 0) found.1) in
    subst (λ (y : ElementType × List ℕ). (code ∷ bytes ≡ element_type.spelling y.0 ++ y.1) × IsTrue (element_type.fits y.0)) same
    (ap (λ (k : ℕ). k ∷ bytes) is, refl)

pub element_is : IsFormat element_type
element_is = record { takes = element_takes; again = λ x rest h. ap (λ (o : Option ElementType). o >>= element_found rest) (element_told x) }

pub dimensions_are : IsFormat dimensions
dimensions_are = such_is (λ n. nat_lt 0 n) byte byte_is

-- ---- what is read is spelled so

index_spelled : (u : IndexUse) (i : ℕ) → insn_bytes (indexed u i) ≡ index_opcode u ∷ half.spelling i
index_spelled use_of.PoolConstant i = refl
index_spelled use_of.PoolLongConstant i = refl
index_spelled (use_of.Field access) i = refl
index_spelled (use_of.Invoke how) i = refl
index_spelled use_of.New i = refl
index_spelled use_of.NewReferenceArray i = refl
index_spelled use_of.CheckCast i = refl
index_spelled use_of.InstanceOf i = refl

index_fits : (at : ℕ) (u : IndexUse) (i : ℕ) → insn_fits at (indexed u i) ≡ half.fits i
index_fits at use_of.PoolConstant i = refl
index_fits at use_of.PoolLongConstant i = refl
index_fits at (use_of.Field access) i = refl
index_fits at (use_of.Invoke how) i = refl
index_fits at use_of.New i = refl
index_fits at use_of.NewReferenceArray i = refl
index_fits at use_of.CheckCast i = refl
index_fits at use_of.InstanceOf i = refl

local_spelled : (u : LocalUse) (n : ℕ) → insn_bytes (with_local u local.Byte n) ≡ local_opcode u ∷ byte.spelling n
local_spelled (local_use.Load kind) n = refl
local_spelled (local_use.Store kind) n = refl
local_spelled local_use.StoreLong n = refl

local_fits : (at : ℕ) (u : LocalUse) (n : ℕ) → insn_fits at (with_local u local.Byte n) ≡ byte.fits n
local_fits at (local_use.Load kind) n = refl
local_fits at (local_use.Store kind) n = refl
local_fits at local_use.StoreLong n = refl

wide_spelled : (u : LocalUse) (n : ℕ) → insn_bytes (with_local u local.Wide n) ≡ 196 ∷ local_opcode u ∷ half.spelling n
wide_spelled (local_use.Load kind) n = refl
wide_spelled (local_use.Store kind) n = refl
wide_spelled local_use.StoreLong n = refl

wide_fits : (at : ℕ) (u : LocalUse) (n : ℕ) → insn_fits at (with_local u local.Wide n) ≡ half.fits n
wide_fits at (local_use.Load kind) n = refl
wide_fits at (local_use.Store kind) n = refl
wide_fits at local_use.StoreLong n = refl

-- the bytes spell an instruction that can stand there
abbrev Spelled : ℕ → List ℕ → List ℕ → Instruction → Type 0
Spelled at bytes rest i = (bytes ≡ insn_bytes i ++ rest) × IsTrue (insn_fits at i)

is_one : (opcode : ℕ) (bytes : List ℕ) → IsTrue (is_byte opcode bytes) → bytes ≡ opcode ∷ []
is_one opcode [] h = absurd cc
is_one opcode (x ∷ []) h = ap (λ (k : ℕ). k ∷ []) (eqb-true x opcode h)
is_one opcode (x ∷ y ∷ bytes) h = absurd cc

-- an instruction behind wide
took_wide : {A : Type 0} (at : ℕ) (f : Format A) (to : A → Instruction) (tag opcode : ℕ) (bytes rest : List ℕ) (i : Instruction) → IsFormat f → IsBytes bytes
    → ((a : A) → insn_bytes (to a) ≡ 196 ∷ tag ∷ f.spelling a) → ((a : A) → insn_fits at (to a) ≡ f.fits a) → eqb opcode tag ≡ true →
    made f to bytes ≡ Some (i, rest) → Spelled at (196 ∷ opcode ∷ bytes) rest i
took_wide {A = A} at f to tag opcode bytes rest i F small spelled fits is e =
    let a = bind_some (f.read bytes) (found_as to) (i, rest) e in
    let one = F.takes bytes a.0.1 a.0.0 small a.1 in
    let made_one : Instruction × List ℕ = (to a.0.0, a.0.1) in
    subst (λ (y : Instruction × List ℕ). Spelled at (196 ∷ opcode ∷ bytes) y.1 y.0) (is_some made_one (i, rest) a.2)
    (ap (λ (k : ℕ). 196 ∷ k ∷ bytes) (eqb-true opcode tag is) ∙ ap (λ (r : List ℕ). 196 ∷ tag ∷ r) one.0 ∙ ap (λ (x : List ℕ). x ++ a.0.1) (sym (spelled a.0.0)), fits a.0.0 ∙ one.1)

wide_takes : (at opcode : ℕ) (s : OpcodeShape) (bytes rest : List ℕ) (i : Instruction) → IsBytes bytes → IsTrue (tells at opcode s) →
    wide_operands bytes s ≡ Some (i, rest) → Spelled at (196 ∷ opcode ∷ bytes) rest i
wide_takes at opcode (shape.Local u) bytes rest i small t e = took_wide at half (with_local u local.Wide) (local_opcode u) opcode bytes rest i half_is small (wide_spelled u) (wide_fits at u) t e
wide_takes at opcode shape.Increment bytes rest i small t e = took_wide at (both half signed16) wide_increment_by 132 opcode bytes rest i
    (both_is half signed16 half_is signed16_is) small (λ a. refl) (λ a. refl) t e
wide_takes at opcode (shape.Whole j) bytes rest i small t e = absurd cc
wide_takes at opcode (shape.Index u) bytes rest i small t e = absurd cc
wide_takes at opcode (shape.Branch u) bytes rest i small t e = absurd cc
wide_takes at opcode shape.Goto bytes rest i small t e = absurd cc
wide_takes at opcode shape.FarGoto bytes rest i small t e = absurd cc
wide_takes at opcode shape.ByteConstant bytes rest i small t e = absurd cc
wide_takes at opcode shape.HalfConstant bytes rest i small t e = absurd cc
wide_takes at opcode shape.PoolByte bytes rest i small t e = absurd cc
wide_takes at opcode shape.TableSwitch bytes rest i small t e = absurd cc
wide_takes at opcode shape.LookupSwitch bytes rest i small t e = absurd cc
wide_takes at opcode shape.InvokeInterface bytes rest i small t e = absurd cc
wide_takes at opcode shape.NewArray bytes rest i small t e = absurd cc
wide_takes at opcode shape.NewMultiArray bytes rest i small t e = absurd cc
wide_takes at opcode shape.Wide bytes rest i small t e = absurd cc

wide_read_takes : (at : ℕ) (bytes rest : List ℕ) (i : Instruction) → IsBytes bytes → wide_read bytes ≡ Some (i, rest) → Spelled at (196 ∷ bytes) rest i
wide_read_takes at [] rest i small e = absurd cc
wide_read_takes at (opcode ∷ bytes) rest i small e =
    let more : IsBytes bytes = λ k. small (suc k) in
    let s = bind_some (shape_at opcode) (wide_operands bytes) (i, rest) e in
    wide_takes at opcode s.0 bytes rest i more (shape_tells at opcode s.0 (small 0) s.1) s.2

operands_take : (at opcode : ℕ) (s : OpcodeShape) (bytes rest : List ℕ) (i : Instruction) → IsBytes bytes → IsTrue (tells at opcode s) →
    operands at bytes s ≡ Some (i, rest) → Spelled at (opcode ∷ bytes) rest i
operands_take at opcode (shape.Whole j) bytes rest i small t e =
    let parts = and_parts _ _ t in
    let found : Instruction × List ℕ = (whole_insn j, bytes) in
    subst (λ (y : Instruction × List ℕ). Spelled at (opcode ∷ bytes) y.1 y.0) (is_some found (i, rest) e)
    (ap (λ (x : List ℕ). x ++ bytes) (sym (is_one opcode (insn_bytes (whole_insn j)) parts.0)), parts.1)
operands_take at opcode (shape.Index u) bytes rest i small t e = took insn_bytes (insn_fits at) half (indexed u) (index_opcode u) opcode bytes rest i
    half_is small (index_spelled u) (index_fits at u) t e
operands_take at opcode (shape.Local u) bytes rest i small t e = took insn_bytes (insn_fits at) byte (with_local u local.Byte) (local_opcode u) opcode
    bytes rest i byte_is small (local_spelled u) (local_fits at u) t e
operands_take at opcode (shape.Branch u) bytes rest i small t e = took insn_bytes (insn_fits at) signed16 (branch_by u) (branch_opcode u) opcode bytes
    rest i signed16_is small (λ a. refl) (λ a. refl) t e
operands_take at opcode shape.Goto bytes rest i small t e = took insn_bytes (insn_fits at) signed16 goto_by 167 opcode bytes rest i signed16_is small (λ a. refl) (λ a. refl) t e
operands_take at opcode shape.FarGoto bytes rest i small t e = took insn_bytes (insn_fits at) signed32 far_goto_by 200 opcode bytes rest i signed32_is small (λ a. refl) (λ a. refl) t e
operands_take at opcode shape.ByteConstant bytes rest i small t e = took insn_bytes (insn_fits at) signed8 byte_constant 16 opcode bytes rest i signed8_is small (λ a. refl) (λ a. refl) t e
operands_take at opcode shape.HalfConstant bytes rest i small t e = took insn_bytes (insn_fits at) signed16 half_constant 17 opcode bytes rest i signed16_is small (λ a. refl) (λ a. refl) t e
operands_take at opcode shape.PoolByte bytes rest i small t e = took insn_bytes (insn_fits at) byte pool_byte 18 opcode bytes rest i byte_is small (λ a. refl) (λ a. refl) t e
operands_take at opcode shape.Increment bytes rest i small t e = took insn_bytes (insn_fits at) (both byte signed8) increment_by 132 opcode bytes rest
    i (both_is byte signed8 byte_is signed8_is) small (λ a. refl) (λ a. refl) t e
operands_take at opcode shape.TableSwitch bytes rest i small t e = took insn_bytes (insn_fits at) (table_switch at) table_switch_of 170 opcode bytes
    rest i (table_switch_is at) small (λ a. refl) (λ a. refl) t e
operands_take at opcode shape.LookupSwitch bytes rest i small t e = took insn_bytes (insn_fits at) (lookup_switch at) lookup_switch_of 171 opcode
    bytes rest i (lookup_switch_is at) small (λ a. refl) (λ a. refl) t e
operands_take at opcode shape.InvokeInterface bytes rest i small t e = took insn_bytes (insn_fits at) (both half count) invoke_interface_of 185 opcode
    bytes rest i (both_is half count half_is count_is) small (λ a. refl) (λ a. refl) t e
operands_take at opcode shape.NewArray bytes rest i small t e = took insn_bytes (insn_fits at) element_type new_array_of 188 opcode bytes rest i element_is small (λ a. refl) (λ a. refl) t e
operands_take at opcode shape.NewMultiArray bytes rest i small t e = took insn_bytes (insn_fits at) (both half dimensions) new_multi_array_of 197
    opcode bytes rest i (both_is half dimensions half_is dimensions_are) small (λ a. refl) (λ a. refl) t e
operands_take at opcode shape.Wide bytes rest i small t e = subst (λ (k : ℕ). Spelled at (k ∷ bytes) rest i) (sym (eqb-true opcode 196 t)) (wide_read_takes at bytes rest i small e)

insn_takes : (at : ℕ) (bytes rest : List ℕ) (i : Instruction) → IsBytes bytes → insn_read at bytes ≡ Some (i, rest) → Spelled at bytes rest i
insn_takes at [] rest i small e = absurd cc
insn_takes at (opcode ∷ bytes) rest i small e =
    let more : IsBytes bytes = λ k. small (suc k) in
    let s = bind_some (shape_at opcode) (operands at bytes) (i, rest) e in
    operands_take at opcode s.0 bytes rest i more (shape_tells at opcode s.0 (small 0) s.1) s.2

-- ---- what is spelled so is read

-- the opcode tells the shape, and the operands are read
known : (at opcode : ℕ) (s : OpcodeShape) (rest : List ℕ) (y : Option (Instruction × List ℕ)) → shape_at opcode ≡ Some s → operands at rest s ≡ y → insn_read at (opcode ∷ rest) ≡ y
known at opcode s rest y is e = ap (λ (o : Option OpcodeShape). o >>= operands at rest) is ∙ e

whole_again : (at opcode : ℕ) (w : WholeInsn) (rest : List ℕ) → shape_at opcode ≡ Some (shape.Whole w) → insn_read at (opcode ∷ rest) ≡ Some (whole_insn w, rest)
whole_again at opcode w rest is = known at opcode (shape.Whole w) rest (Some (whole_insn w, rest)) is refl

index_again : (at : ℕ) (u : IndexUse) (i : ℕ) (rest : List ℕ) → IsTrue (half.fits i) → insn_read at (index_opcode u ∷ (half.spelling i ++ rest)) ≡ Some (indexed u i, rest)
index_again at u i rest h = known at (index_opcode u) (shape.Index u) (half.spelling i ++ rest) (Some (indexed u i, rest)) (index_told u) (again_as half (indexed u) i rest half_is h)

byte_local_again : (at : ℕ) (u : LocalUse) (n : ℕ) (rest : List ℕ) → IsTrue (byte.fits n) → insn_read at (local_opcode u ∷ (byte.spelling n ++ rest)) ≡ Some (with_local u local.Byte n, rest)
byte_local_again at u n rest h = known at (local_opcode u) (shape.Local u) (byte.spelling n ++ rest) (Some (with_local u local.Byte n, rest))
    (local_told u) (again_as byte (with_local u local.Byte) n rest byte_is h)

wide_known : (at opcode : ℕ) (s : OpcodeShape) (rest : List ℕ) (y : Option (Instruction × List ℕ)) → shape_at opcode ≡ Some s → wide_operands rest s ≡ y → insn_read at (196 ∷ opcode ∷ rest) ≡ y
wide_known at opcode s rest y is e = known at 196 shape.Wide (opcode ∷ rest) y refl (ap (λ (o : Option OpcodeShape). o >>= wide_operands rest) is ∙ e)

wide_local_again : (at : ℕ) (u : LocalUse) (n : ℕ) (rest : List ℕ) → IsTrue (half.fits n) → insn_read at (196 ∷ local_opcode u ∷ (half.spelling n ++ rest)) ≡ Some (with_local u local.Wide n, rest)
wide_local_again at u n rest h = wide_known at (local_opcode u) (shape.Local u) (half.spelling n ++ rest) (Some (with_local u local.Wide n, rest))
    (local_told u) (again_as half (with_local u local.Wide) n rest half_is h)

branch_again : (at : ℕ) (u : Test) (z : ℤ) (rest : List ℕ) → IsTrue (signed16.fits z) → insn_read at (branch_opcode u ∷ (signed16.spelling z ++ rest)) ≡ Some (branch_by u z, rest)
branch_again at u z rest h = known at (branch_opcode u) (shape.Branch u) (signed16.spelling z ++ rest) (Some (branch_by u z, rest)) (branch_told u)
    (again_as signed16 (branch_by u) z rest signed16_is h)

insn_again : (at : ℕ) (i : Instruction) (rest : List ℕ) → IsTrue (insn_fits at i) → insn_read at (insn_bytes i ++ rest) ≡ Some (i, rest)
insn_again at Nop rest h = refl
insn_again at NullConstant rest h = refl
insn_again at (Compute (compute.IntConstant z int.Opcode)) rest h = whole_again at (int_opcode z) (whole.Compute (compute.IntConstant z int.Opcode)) rest (int_told z h)
insn_again at (Compute (compute.IntConstant z int.Byte)) rest h = again_as signed8 byte_constant z rest signed8_is h
insn_again at (Compute (compute.IntConstant z int.Half)) rest h = again_as signed16 half_constant z rest signed16_is h
insn_again at (Compute (compute.LongConstant l)) rest h = whole_again at (long_opcode l) (whole.Compute (compute.LongConstant l)) rest (long_told l)
insn_again at (PoolConstant i index.Byte) rest h = again_as byte pool_byte i rest byte_is h
insn_again at (PoolConstant i index.Half) rest h = index_again at use_of.PoolConstant i rest h
insn_again at (PoolLongConstant i) rest h = index_again at use_of.PoolLongConstant i rest h
insn_again at (Load kind n local.Opcode) rest h = whole_again at (load_0_opcode kind + n) (whole.Local (local_use.Load kind) n) rest (load_told kind n h)
insn_again at (Load kind n local.Byte) rest h = byte_local_again at (local_use.Load kind) n rest h
insn_again at (Load kind n local.Wide) rest h = wide_local_again at (local_use.Load kind) n rest h
insn_again at (Store kind n local.Opcode) rest h = whole_again at (store_0_opcode kind + n) (whole.Local (local_use.Store kind) n) rest (store_told kind n h)
insn_again at (Store kind n local.Byte) rest h = byte_local_again at (local_use.Store kind) n rest h
insn_again at (Store kind n local.Wide) rest h = wide_local_again at (local_use.Store kind) n rest h
insn_again at (StoreLong n local.Opcode) rest h = whole_again at (63 + n) (whole.Local local_use.StoreLong n) rest (store_long_told n h)
insn_again at (StoreLong n local.Byte) rest h = byte_local_again at local_use.StoreLong n rest h
insn_again at (StoreLong n local.Wide) rest h = wide_local_again at local_use.StoreLong n rest h
insn_again at (ArrayLoad kind) rest h = whole_again at (array_load_opcode kind) (whole.ArrayLoad kind) rest (array_load_told kind)
insn_again at ReferenceArrayLoad rest h = refl
insn_again at (ArrayStore kind) rest h = whole_again at (array_store_opcode kind) (whole.ArrayStore kind) rest (array_store_told kind)
insn_again at ReferenceArrayStore rest h = refl
insn_again at (Stack form) rest h = whole_again at (stack_opcode form) (whole.Stack form) rest (stack_told form)
insn_again at (Compute (compute.Arithmetic kind op)) rest h = whole_again at (arithmetic_opcode op + number_offset kind) (whole.Compute (compute.Arithmetic kind op)) rest (arithmetic_told kind op)
insn_again at (Division kind op) rest h = whole_again at (division_opcode op + number_offset kind) (whole.Division kind op) rest (division_told kind op)
insn_again at (Compute (compute.Negate kind)) rest h = whole_again at (116 + number_offset kind) (whole.Compute (compute.Negate kind)) rest (negate_told kind)
insn_again at (Compute (compute.Shift kind op)) rest h = whole_again at (shift_opcode op + number_offset kind) (whole.Compute (compute.Shift kind op)) rest (shift_told kind op)
insn_again at (Compute (compute.Convert to)) rest h = whole_again at (conversion_opcode to) (whole.Compute (compute.Convert to)) rest (convert_told to)
insn_again at (Compute compute.CompareLongs) rest h = refl
insn_again at (Increment n z increment.Byte) rest h = again_as (both byte signed8) increment_by (n, z) rest (both_is byte signed8 byte_is signed8_is) h
insn_again at (Increment n z increment.Wide) rest h = wide_known at 132 shape.Increment ((half.spelling n ++ signed16.spelling z) ++ rest)
    (Some (Increment n z increment.Wide, rest)) refl
    (again_as (both half signed16) wide_increment_by (n, z) rest (both_is half signed16 half_is signed16_is) h)
insn_again at (Branch test z) rest h = branch_again at test z rest h
insn_again at (Goto z jump.Half) rest h = again_as signed16 goto_by z rest signed16_is h
insn_again at (Goto z jump.Quad) rest h = again_as signed32 far_goto_by z rest signed32_is h
insn_again at (TableSwitch p default low high offsets) rest h = again_as (table_switch at) table_switch_of (p, ((default, (low, high)), offsets)) rest (table_switch_is at) h
insn_again at (LookupSwitch p default t) rest h = again_as (lookup_switch at) lookup_switch_of (p, (default, t)) rest (lookup_switch_is at) h
insn_again at (ReturnValue kind) rest h = whole_again at (return_opcode kind) (whole.ReturnValue kind) rest (return_told kind)
insn_again at Return rest h = refl
insn_again at (Field access i) rest h = index_again at (use_of.Field access) i rest h
insn_again at (Invoke how i) rest h = index_again at (use_of.Invoke how) i rest h
insn_again at (InvokeInterface i n) rest h = again_as (both half count) invoke_interface_of (i, n) rest (both_is half count half_is count_is) h
insn_again at (New i) rest h = index_again at use_of.New i rest h
insn_again at (NewArray type) rest h = again_as element_type new_array_of type rest element_is h
insn_again at (NewReferenceArray i) rest h = index_again at use_of.NewReferenceArray i rest h
insn_again at (NewMultiArray i n) rest h = again_as (both half dimensions) new_multi_array_of (i, n) rest (both_is half dimensions half_is dimensions_are) h
insn_again at ArrayLength rest h = refl
insn_again at Throw rest h = refl
insn_again at (CheckCast i) rest h = index_again at use_of.CheckCast i rest h
insn_again at (InstanceOf i) rest h = index_again at use_of.InstanceOf i rest h

pub insn_is : (at : ℕ) → IsFormat (insn at)
insn_is at = record { takes = insn_takes at; again = insn_again at }
