-- What follows an instruction of which the opcode alone tells the size.
use Rattle.std.proofs.Common.{◌≡◌, ℕ, suc, ◌+◌, ◌-◌, ◌≤◌, ◌<◌, List, [], ◌∷◌, ◌++◌, length, drop, Option, Some, None, refl, sym, ap, subst, ◌∙◌, arith}
use Rattle.std.specs.Prelude.{IsTrue, ◌==◌}
use Rattle.std.proofs.lemmas.Bool.{eqb-true}
use Rattle.std.proofs.lemmas.List.{drop_at, length-append, length-drop}
use Rattle.std.proofs.lemmas.Grind.{common_steps}
use Rattle.jv_format.specs.Format.{◌>>=◌, IsBytes, byte}
use Rattle.jv_format.proofs.Laws.{is_some}
use Rattle.jv_code.specs.declared.shapes.OpcodeShape.{OpcodeShape}
use Rattle.jv_code.specs.declared.shapes.OpcodeShape.TheVariants as shape
use Rattle.jv_code.specs.Insns.{Instruction, insn_bytes}
use Rattle.jv_code.specs.Places.{IsAt, IsStart, IsStartOrEnd}
use Rattle.jv_code.specs.Inside.Shapes.{shape_at}
use Rattle.jv_code.specs.Inside.Reading.{operands, insn_read}
use Rattle.jv_code.specs.Inside.Skipping.{size_at, HasSize}
use Rattle.jv_code.proofs.Tables.{all_below, one_below}
use Rattle.jv_code.proofs.Laws.{insn_is}
use Rattle.jv_code.proofs.Sizes.{shorter}
use Rattle.jv_code.proofs.Known.{insn_known}
use Rattle.jv_code.proofs.StartLaws.{end_within, end_is_start, known_is}

abbrev shape_size : OpcodeShape → ℕ
shape_size (shape.Whole w) = 1
shape_size (shape.Index u) = 3
shape_size (shape.Local u) = 2
shape_size (shape.Branch t) = 3
shape_size shape.Goto = 3
shape_size shape.FarGoto = 5
shape_size shape.ByteConstant = 2
shape_size shape.HalfConstant = 3
shape_size shape.PoolByte = 2
shape_size shape.Increment = 3
shape_size _ = 0

abbrev size_told : Option OpcodeShape → ℕ
size_told None = 0
size_told (Some s) = shape_size s

size_is : (opcode : ℕ) → opcode < 256 → size_at opcode ≡ size_told (shape_at opcode)
size_is opcode lt =
    let all : IsTrue (all_below 256 (λ o. size_at o == size_told (shape_at o))) = refl in
    eqb-true _ _ (one_below 256 opcode (λ o. size_at o == size_told (shape_at o)) all lt)

-- an instruction is read, and this follows it
abbrev Leaves : Option (Instruction × List ℕ) → List ℕ → Type 0
Leaves read rest = (i : Instruction) × (read ≡ Some (i, rest))

by_shape : (at opcode : ℕ) (s : OpcodeShape) (bytes : List ℕ) → 1 ≤ shape_size s → shape_size s ≤ suc (length bytes)
    → Leaves (operands at bytes s) (drop (shape_size s) (opcode ∷ bytes))
by_shape at opcode (shape.Whole w) bytes some le = (_, refl)
by_shape at opcode (shape.Index u) [] some le = absurd (omega (arith, le))
by_shape at opcode (shape.Index u) (a ∷ []) some le = absurd (omega (arith, le))
by_shape at opcode (shape.Index u) (a ∷ b ∷ rest) some le = (_, refl)
by_shape at opcode (shape.Local u) [] some le = absurd (omega (arith, le))
by_shape at opcode (shape.Local u) (a ∷ rest) some le = (_, refl)
by_shape at opcode (shape.Branch t) [] some le = absurd (omega (arith, le))
by_shape at opcode (shape.Branch t) (a ∷ []) some le = absurd (omega (arith, le))
by_shape at opcode (shape.Branch t) (a ∷ b ∷ rest) some le = (_, refl)
by_shape at opcode shape.Goto [] some le = absurd (omega (arith, le))
by_shape at opcode shape.Goto (a ∷ []) some le = absurd (omega (arith, le))
by_shape at opcode shape.Goto (a ∷ b ∷ rest) some le = (_, refl)
by_shape at opcode shape.FarGoto [] some le = absurd (omega (arith, le))
by_shape at opcode shape.FarGoto (a ∷ []) some le = absurd (omega (arith, le))
by_shape at opcode shape.FarGoto (a ∷ b ∷ []) some le = absurd (omega (arith, le))
by_shape at opcode shape.FarGoto (a ∷ b ∷ c ∷ []) some le = absurd (omega (arith, le))
by_shape at opcode shape.FarGoto (a ∷ b ∷ c ∷ d ∷ rest) some le = (_, refl)
by_shape at opcode shape.ByteConstant [] some le = absurd (omega (arith, le))
by_shape at opcode shape.ByteConstant (a ∷ rest) some le = (_, refl)
by_shape at opcode shape.HalfConstant [] some le = absurd (omega (arith, le))
by_shape at opcode shape.HalfConstant (a ∷ []) some le = absurd (omega (arith, le))
by_shape at opcode shape.HalfConstant (a ∷ b ∷ rest) some le = (_, refl)
by_shape at opcode shape.PoolByte [] some le = absurd (omega (arith, le))
by_shape at opcode shape.PoolByte (a ∷ rest) some le = (_, refl)
by_shape at opcode shape.Increment [] some le = absurd (omega (arith, le))
by_shape at opcode shape.Increment (a ∷ []) some le = absurd (omega (arith, le))
by_shape at opcode shape.Increment (a ∷ b ∷ rest) some le = (_, refl)
by_shape at opcode shape.TableSwitch bytes some le = absurd (omega (arith, some))
by_shape at opcode shape.LookupSwitch bytes some le = absurd (omega (arith, some))
by_shape at opcode shape.InvokeInterface bytes some le = absurd (omega (arith, some))
by_shape at opcode shape.NewArray bytes some le = absurd (omega (arith, some))
by_shape at opcode shape.NewMultiArray bytes some le = absurd (omega (arith, some))
by_shape at opcode shape.Wide bytes some le = absurd (omega (arith, some))

by_told : (at opcode : ℕ) (o : Option OpcodeShape) (bytes : List ℕ) → 1 ≤ size_told o → size_told o ≤ suc (length bytes)
    → Leaves (o >>= operands at bytes) (drop (size_told o) (opcode ∷ bytes))
by_told at opcode None bytes some le = absurd (omega (arith, some))
by_told at opcode (Some s) bytes some le = by_shape at opcode s bytes some le

size_passes : (at opcode : ℕ) (bytes : List ℕ) → opcode < 256 → 1 ≤ size_at opcode → size_at opcode ≤ suc (length bytes)
    → Leaves (insn_read at (opcode ∷ bytes)) (drop (size_at opcode) (opcode ∷ bytes))
size_passes at opcode bytes lt some le =
    let is = size_is opcode lt in
    subst (λ (n : ℕ). Leaves (insn_read at (opcode ∷ bytes)) (drop n (opcode ∷ bytes))) (sym is)
    (by_told at opcode (shape_at opcode) bytes (omega (arith, is, some)) (omega (arith, is, le)))

-- by the opcode at the front
pub size_told_there : (at opcode size : ℕ) (bytes after : List ℕ) → IsBytes bytes → byte.read bytes ≡ Some (opcode, after) → size ≡ size_at opcode
    → (size ≡ 0 → ⊥) → size ≤ length bytes → HasSize at bytes size
size_told_there at opcode size [] after small e is some le = absurd cc
size_told_there at opcode size (x ∷ bytes) after small e is some le =
    let first : ℕ × List ℕ = (x, bytes) in
    let same : x ≡ opcode = ap (λ (p : ℕ × List ℕ). p.0) (is_some first (opcode, after) e) in
    let told : size ≡ size_at x = is ∙ ap size_at (sym same) in
    let passes = size_passes at x bytes (small 0) (grind (arith, common_steps)) (grind (arith, common_steps)) in
    (le, passes.0, passes.1 ∙ ap (λ (n : ℕ). Some (passes.0, drop n (x ∷ bytes))) (sym told))

-- what follows an instruction is as much shorter as the instruction is long
pub read_at_front : (at : ℕ) (bytes rest : List ℕ) (i : Instruction) → IsBytes bytes → insn_read at bytes ≡ Some (i, rest)
    → (length rest < length bytes) × (rest ≡ drop (length bytes - length rest) bytes)
read_at_front at bytes rest i small e =
    let spelled = ((insn_is at).takes bytes rest i small e).0 in
    let size : length (insn_bytes i) ≡ length bytes - length rest = omega (arith, ap length spelled, length-append (insn_bytes i) rest) in
    (shorter i bytes rest spelled, sym (ap (drop (length bytes - length rest)) spelled ∙ drop_at (insn_bytes i) rest (length bytes - length rest) size))

pub size_read : (at : ℕ) (bytes rest : List ℕ) (i : Instruction) → IsBytes bytes → insn_read at bytes ≡ Some (i, rest) → HasSize at bytes (length bytes - length rest)
size_read at bytes rest i small e =
    let front = read_at_front at bytes rest i small e in
    (omega (arith, front.0), i, e ∙ ap (λ (r : List ℕ). Some (i, r)) front.1)

pub size_is_some : (at : ℕ) (bytes rest : List ℕ) (i : Instruction) → IsBytes bytes → insn_read at bytes ≡ Some (i, rest) → length bytes - length rest ≡ 0 → ⊥
size_is_some at bytes rest i small e none = let front = read_at_front at bytes rest i small e in omega (arith, front.0, none)

-- what is left behind so many bytes
pub left_behind : (at size : ℕ) (bytes rest : List ℕ) → HasSize at bytes size → rest ≡ drop size bytes → (i : Instruction) × (insn_read at bytes ≡ Some (i, rest))
left_behind at size bytes rest h back = (h.1, h.2 ∙ ap (λ (r : List ℕ). Some (h.1, r)) (sym back))

-- so many bytes behind an instruction's start it ends
pub ends_behind : (bytes rest : List ℕ) (pc size : ℕ) → IsStart bytes pc → drop pc bytes ≡ rest → HasSize pc rest size
    → (i : Instruction) × IsAt bytes pc i × (pc + size ≡ pc + length (insn_bytes i))
ends_behind bytes rest pc size start e h =
    let read = known_is bytes rest pc start.0 h.1 (drop size rest) start.1 e (insn_known pc rest (h.1, drop size rest) h.2) in
    (h.1, read.0, omega (arith, h.0, ap length e, ap length read.1, length-append (insn_bytes h.1) (drop size rest), length-drop size rest))

pub end_fits : (bytes rest : List ℕ) (pc size : ℕ) → IsStart bytes pc → drop pc bytes ≡ rest → HasSize pc rest size → pc + size ≤ length bytes
end_fits bytes rest pc size start e h =
    let ends = ends_behind bytes rest pc size start e h in omega (arith, ends.2, end_within bytes pc ends.0 ends.1)

pub goes_on_behind : (bytes rest : List ℕ) (pc size : ℕ) → IsStart bytes pc → drop pc bytes ≡ rest → HasSize pc rest size → IsStartOrEnd bytes (pc + size)
goes_on_behind bytes rest pc size start e h =
    let ends = ends_behind bytes rest pc size start e h in
    subst (λ (n : ℕ). IsStartOrEnd bytes n) (sym ends.2) (end_is_start bytes pc ends.0 ends.1)

pub few_bytes : (bytes : List ℕ) (pc : ℕ) → IsStart bytes pc → length bytes ≤ 65535
few_bytes bytes pc start = start.1.code.few
