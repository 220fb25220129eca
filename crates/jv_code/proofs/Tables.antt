-- Each opcode tells the shape of the instructions that begin with it.
use Rattle.std.proofs.Common.{◌≡◌, ℕ, zero, suc, ◌<◌, Bool, true, false, ltb, ◌≤◌, ◌&&◌, List, [], ◌∷◌, Option, Some, None, refl, sym, subst, arith, ◌⊎◌, inl, inr}
use Rattle.std.specs.Prelude.{IsTrue, ◌==◌}
use Rattle.std.proofs.lemmas.Bool.{and_parts, ltb-true, ltb-false}
use Rattle.jv_code.specs.declared.kinds.ElementType.{ElementType}
use Rattle.jv_code.specs.declared.shapes.IndexUse.{IndexUse}
use Rattle.jv_code.specs.declared.shapes.IndexUse.TheVariants as use_of
use Rattle.jv_code.specs.declared.shapes.LocalUse.{LocalUse}
use Rattle.jv_code.specs.declared.shapes.LocalUse.TheVariants as local_use
use Rattle.jv_code.specs.declared.shapes.OpcodeShape.{OpcodeShape}
use Rattle.jv_code.specs.declared.shapes.OpcodeShape.TheVariants as shape
use Rattle.jv_code.specs.Opcodes.{load_opcode, store_opcode, branch_opcode, field_opcode, invoke_opcode, element_code}
use Rattle.jv_code.specs.Insns.{insn_bytes, insn_fits}
use Rattle.jv_code.specs.Inside.Shapes.{shape_at, is_outside}
use Rattle.jv_code.specs.Inside.Reading.{element_at, whole_insn}
use Rattle.jv_code.specs.Unsupported.{is_unsupported}

-- ---- what holds of each number below another, by trial

abbrev pub all_below : ℕ → (ℕ → Bool) → Bool
all_below zero test = true
all_below (suc n) test = test n && all_below n test

below : (n k : ℕ) (b : Bool) → ltb k n ≡ b → k < suc n → (k ≡ n) ⊎ (k < n)
below n k true e lt = inr (ltb-true k n e)
below n k false e lt = inl (let le : n ≤ k = ltb-false k n e in omega arith)

pub one_below : (n k : ℕ) (test : ℕ → Bool) → IsTrue (all_below n test) → k < n → IsTrue (test k)
one_below zero k test all lt = absurd (omega arith)
one_below (suc n) k test all lt =
    let parts = and_parts _ _ all in
    elim (below n k (ltb k n) refl lt) [
      | inl same ↦ subst (λ (m : ℕ). IsTrue (test m)) (sym same) parts.0
      | inr less ↦ one_below n k test parts.1 less
    ]

-- ---- from an opcode to a shape

abbrev pub is_byte : ℕ → List ℕ → Bool
is_byte opcode [] = false
is_byte opcode (x ∷ []) = x == opcode
is_byte opcode (x ∷ y ∷ more) = false

abbrev pub index_opcode : IndexUse → ℕ
index_opcode use_of.PoolConstant = 19
index_opcode use_of.PoolLongConstant = 20
index_opcode (use_of.Field access) = field_opcode access
index_opcode (use_of.Invoke how) = invoke_opcode how
index_opcode use_of.New = 187
index_opcode use_of.NewReferenceArray = 189
index_opcode use_of.CheckCast = 192
index_opcode use_of.InstanceOf = 193

abbrev pub local_opcode : LocalUse → ℕ
local_opcode (local_use.Load kind) = load_opcode kind
local_opcode (local_use.Store kind) = store_opcode kind
local_opcode local_use.StoreLong = 55

-- the shape is that of instructions that begin with the opcode
abbrev pub tells : ℕ → ℕ → OpcodeShape → Bool
tells at opcode (shape.Whole w) = is_byte opcode (insn_bytes (whole_insn w)) && insn_fits at (whole_insn w)
tells at opcode (shape.Index u) = opcode == index_opcode u
tells at opcode (shape.Local u) = opcode == local_opcode u
tells at opcode (shape.Branch t) = opcode == branch_opcode t
tells at opcode shape.Goto = opcode == 167
tells at opcode shape.FarGoto = opcode == 200
tells at opcode shape.ByteConstant = opcode == 16
tells at opcode shape.HalfConstant = opcode == 17
tells at opcode shape.PoolByte = opcode == 18
tells at opcode shape.Increment = opcode == 132
tells at opcode shape.TableSwitch = opcode == 170
tells at opcode shape.LookupSwitch = opcode == 171
tells at opcode shape.InvokeInterface = opcode == 185
tells at opcode shape.NewArray = opcode == 188
tells at opcode shape.NewMultiArray = opcode == 197
tells at opcode shape.Wide = opcode == 196

abbrev tells_if : ℕ → ℕ → Option OpcodeShape → Bool
tells_if at opcode None = true
tells_if at opcode (Some s) = tells at opcode s

all_tell : (at : ℕ) → IsTrue (all_below 256 (λ o. tells_if at o (shape_at o)))
all_tell at = refl

pub shape_tells : (at opcode : ℕ) (s : OpcodeShape) → opcode < 256 → shape_at opcode ≡ Some s → IsTrue (tells at opcode s)
shape_tells at opcode s lt e =
    let one = one_below 256 opcode (λ o. tells_if at o (shape_at o)) (all_tell at) lt in
    subst (λ (o : Option OpcodeShape). IsTrue (tells_if at opcode o)) e one

abbrev has_code : ℕ → Option ElementType → Bool
has_code code None = true
has_code code (Some type) = code == element_code type

pub element_has_code : (code : ℕ) (type : ElementType) → code < 256 → element_at code ≡ Some type → IsTrue (code == element_code type)
element_has_code code type lt e =
    let all : IsTrue (all_below 256 (λ c. has_code c (element_at c))) = refl in
    let one = one_below 256 code (λ c. has_code c (element_at c)) all lt in
    subst (λ (o : Option ElementType). IsTrue (has_code code o)) e one

-- ---- opcodes outside the profile

abbrev same : Bool → Bool → Bool
same true b = b
same false true = false
same false false = true

same_is : (a b : Bool) → IsTrue (same a b) → a ≡ b
same_is true true h = refl
same_is true false h = absurd cc
same_is false true h = absurd cc
same_is false false h = refl

-- those that are left of the opcodes are those of the list
pub outside_is : (opcode : ℕ) → opcode < 256 → is_outside opcode ≡ is_unsupported opcode
outside_is opcode lt =
    let all : IsTrue (all_below 256 (λ o. same (is_outside o) (is_unsupported o))) = refl in
    same_is _ _ (one_below 256 opcode (λ o. same (is_outside o) (is_unsupported o)) all lt)
