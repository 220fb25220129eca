-- An instruction by its opcode and the bytes behind that.
use Rattle.std.proofs.Common.{◌≡◌, ℕ, zero, suc, ◌+◌, ◌<◌, ◌≤◌, Bool, true, List, [], ◌∷◌, ◌++◌, length, drop, Option, Some, None, refl, sym, ap, subst, ◌∙◌, append_assoc, arith}
use Rattle.std.specs.Prelude.{◌==◌, IsTrue}
use Rattle.std.proofs.lemmas.Bool.{eqb-true}
use Rattle.std.proofs.lemmas.List.{length-append, length-drop, drop-drop}
use Rattle.std.proofs.Math.Seq.{drop-append_seam}
use Rattle.jv_format.specs.Format.{Format, IsBytes, byte, half}
use Rattle.jv_format.specs.Readers.{both, found_as}
use Rattle.jv_format.proofs.Laws.{IsFormat, bind_some, byte_is, half_is, both_is}
use Rattle.jv_code.specs.declared.shapes.OpcodeShape.{OpcodeShape}
use Rattle.jv_code.specs.declared.shapes.OpcodeShape.TheVariants as shape
use Rattle.jv_code.specs.Numbers.{signed8, signed16, signed32}
use Rattle.jv_code.specs.Insns.{Instruction}
use Rattle.jv_code.specs.Inside.Shapes.{shape_at}
use Rattle.jv_code.specs.Inside.Reading.{made, operands, insn_read, count, element_type, dimensions}
use Rattle.jv_code.specs.Places.{IsStart}
use Rattle.jv_code.specs.Operands.{HasBytes, least_operands, StandsAsSpelled, BytesJoin}
use Rattle.jv_code.proofs.Tables.{all_below, one_below}
use Rattle.jv_code.proofs.Laws.{signed8_is, signed16_is, signed32_is, count_is, element_is, dimensions_are, insn_is}
use Rattle.jv_code.proofs.Sizes.{some_bytes}
use Rattle.jv_code.proofs.StartLaws.{at_rest, is_at, end_within}

pub has_room : (bytes : List ℕ) (pc : ℕ) → IsStart bytes pc → pc < length bytes
has_room bytes pc s = omega (arith, end_within bytes pc s.0 s.1, some_bytes s.0)

-- ---- how many bytes follow an opcode at least

abbrev shape_operands : OpcodeShape → ℕ
shape_operands (shape.Whole w) = 0
shape_operands (shape.Index u) = 2
shape_operands (shape.Local u) = 1
shape_operands (shape.Branch t) = 2
shape_operands shape.Goto = 2
shape_operands shape.FarGoto = 4
shape_operands shape.ByteConstant = 1
shape_operands shape.HalfConstant = 2
shape_operands shape.PoolByte = 1
shape_operands shape.Increment = 2
shape_operands shape.TableSwitch = 0
shape_operands shape.LookupSwitch = 0
shape_operands shape.InvokeInterface = 4
shape_operands shape.NewArray = 1
shape_operands shape.NewMultiArray = 3
shape_operands shape.Wide = 0

abbrev right_size : ℕ → Option OpcodeShape → Bool
right_size opcode None = true
right_size opcode (Some s) = least_operands opcode == shape_operands s

size_right : (opcode : ℕ) (s : OpcodeShape) → opcode < 256 → shape_at opcode ≡ Some s → least_operands opcode ≡ shape_operands s
size_right opcode s lt e =
    let all : IsTrue (all_below 256 (λ o. right_size o (shape_at o))) = refl in
    let one = one_below 256 opcode (λ o. right_size o (shape_at o)) all lt in
    eqb-true _ _ (subst (λ (o : Option OpcodeShape). IsTrue (right_size opcode o)) e one)

room : {A : Type 0} (f : Format A) (to : A → Instruction) (n : ℕ) (bytes : List ℕ) (x : Instruction × List ℕ) → IsFormat f →
    ((a : A) → length (f.spelling a) ≡ n) → IsBytes bytes → made f to bytes ≡ Some x → n ≤ length bytes
room f to n bytes x F long small e =
    let a = bind_some (f.read bytes) (found_as to) x e in
    let spelled = (F.takes bytes a.0.1 a.0.0 small a.1).0 in
    omega (arith, ap length spelled, length-append (f.spelling a.0.0) a.0.1, long a.0.0)

operands_room : (at : ℕ) (bytes : List ℕ) (s : OpcodeShape) (x : Instruction × List ℕ) → IsBytes bytes → operands at bytes s ≡ Some x → shape_operands s ≤ length bytes
operands_room at bytes (shape.Whole w) x small e = omega arith
operands_room at bytes (shape.Index u) x small e = room half _ 2 bytes x half_is (λ a. refl) small e
operands_room at bytes (shape.Local u) x small e = room byte _ 1 bytes x byte_is (λ a. refl) small e
operands_room at bytes (shape.Branch t) x small e = room signed16 _ 2 bytes x signed16_is (λ a. refl) small e
operands_room at bytes shape.Goto x small e = room signed16 _ 2 bytes x signed16_is (λ a. refl) small e
operands_room at bytes shape.FarGoto x small e = room signed32 _ 4 bytes x signed32_is (λ a. refl) small e
operands_room at bytes shape.ByteConstant x small e = room signed8 _ 1 bytes x signed8_is (λ a. refl) small e
operands_room at bytes shape.HalfConstant x small e = room signed16 _ 2 bytes x signed16_is (λ a. refl) small e
operands_room at bytes shape.PoolByte x small e = room byte _ 1 bytes x byte_is (λ a. refl) small e
operands_room at bytes shape.Increment x small e = room (both byte signed8) _ 2 bytes x (both_is byte signed8 byte_is signed8_is) (λ a. refl) small e
operands_room at bytes shape.TableSwitch x small e = omega arith
operands_room at bytes shape.LookupSwitch x small e = omega arith
operands_room at bytes shape.InvokeInterface x small e = room (both half count) _ 4 bytes x (both_is half count half_is count_is) (λ a. refl) small e
operands_room at bytes shape.NewArray x small e = room element_type _ 1 bytes x element_is (λ a. refl) small e
operands_room at bytes shape.NewMultiArray x small e = room (both half dimensions) _ 3 bytes x (both_is half dimensions half_is dimensions_are) (λ a. refl) small e
operands_room at bytes shape.Wide x small e = omega arith

-- the operands of an instruction are in the code
pub opcode_room : (bytes : List ℕ) (pc opcode : ℕ) (rest : List ℕ) → IsStart bytes pc → IsBytes (opcode ∷ rest) → drop pc bytes ≡ opcode ∷ rest → (pc + 1) + least_operands opcode ≤ length bytes
opcode_room bytes pc opcode rest s small e =
    let h = at_rest bytes pc s.0 s.1 in
    let read = (insn_is pc).again s.0 _ h.1 in
    let there : insn_read pc (opcode ∷ rest) ≡ Some (s.0, _) = ap (insn_read pc) (sym e ∙ h.0) ∙ read in
    let told = bind_some (shape_at opcode) (operands pc rest) _ there in
    let more : IsBytes rest = λ i. small (suc i) in
    let fits = operands_room pc rest told.0 _ more told.2 in
    let is = size_right opcode told.0 (small 0) told.1 in
    omega (arith, ap length e, length-drop pc bytes, fits, is, has_room bytes pc s)

-- ---- laws

pub stands_as_spelled : StandsAsSpelled
stands_as_spelled bytes pc i s h fits = is_at bytes pc s.0 i h.0 s.1 h.1 fits

pub bytes_join : BytesJoin
bytes_join bytes at a b p q =
    let behind : p.0 ≡ b ++ q.0 = sym (drop-append_seam a p.0) ∙ ap (drop (length a)) (sym p.1) ∙ drop-drop (length a) at bytes ∙ q.1 in
    (q.0, p.1 ∙ ap (λ (r : List ℕ). a ++ r) behind ∙ sym (append_assoc a b q.0))

-- ---- what is read at an offset

bytes_behind : (bytes : List ℕ) (at : ℕ) → IsBytes bytes → IsBytes (drop at bytes)
bytes_behind bytes zero small = small
bytes_behind [] (suc at) small = small
bytes_behind (x ∷ bytes) (suc at) small = bytes_behind bytes at (λ i. small (suc i))

-- it stands there
pub read_stands : {A : Type 0} (f : Format A) (bytes rest after : List ℕ) (at : ℕ) (x : A) → IsFormat f → IsBytes bytes → drop at bytes ≡ rest →
    f.read rest ≡ Some (x, after) → HasBytes bytes at (f.spelling x)
read_stands f bytes rest after at x F small is e = (after, is ∙ (F.takes rest after x (subst IsBytes is (bytes_behind bytes at small)) e).0)

pub byte_there : (bytes rest : List ℕ) (pc : ℕ) → IsStart bytes pc → drop pc bytes ≡ rest → byte.read rest ≡ None → ⊥
byte_there bytes [] pc s is e = omega (arith, ap length is, length-drop pc bytes, has_room bytes pc s)
byte_there bytes (x ∷ rest) pc s is e = absurd cc

pub operands_there : (bytes rest after : List ℕ) (pc opcode : ℕ) → IsStart bytes pc → IsBytes bytes → drop pc bytes ≡ rest → byte.read rest ≡
    Some (opcode, after) → (pc + 1) + least_operands opcode ≤ length bytes
operands_there bytes rest after pc opcode s small is e =
    let front : IsBytes rest = subst IsBytes is (bytes_behind bytes pc small) in
    let spelled : rest ≡ opcode ∷ after = (byte_is.takes rest after opcode front e).0 in
    opcode_room bytes pc opcode after s (subst IsBytes spelled front) (is ∙ spelled)
