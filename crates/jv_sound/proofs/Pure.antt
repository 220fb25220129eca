-- Instructions that take and give values of fixed types, and those on local variables.
use Rattle.std.proofs.Common.{◌≡◌, inl, inr, ℕ, ℤ, pos, Bool, true, false, List, [], ◌∷◌, ◌++◌, Some, Ok, Err, refl, sym, subst}
use Rattle.std.specs.Prelude.{⊤, IsTrue}
use Rattle.std.specs.List.{AllByRecursion, Contains, list_any}
use Rattle.std.specs.Ordering.{int_eq}
use Rattle.std.specs.Str.{bytes_eq}
use Rattle.jv_stackmap.specs.declared.verification.VerificationTypeOf.TheVariants as types
use Rattle.jv_stackmap.specs.Types.{FrameType}
use Rattle.jv_stackmap.specs.Frames.{Frame as TypesOf}
use Rattle.jv_code.specs.declared.insn.Insn.TheVariants as insns
use Rattle.jv_code.specs.declared.kinds.Computation.{Computation}
use Rattle.jv_code.specs.declared.kinds.Computation.TheVariants as compute
use Rattle.jv_code.specs.declared.kinds.Conversion.{Conversion}
use Rattle.jv_code.specs.declared.kinds.Conversion.TheVariants as conversions
use Rattle.jv_code.specs.declared.kinds.DivisionOperator.{DivisionOperator}
use Rattle.jv_code.specs.declared.kinds.JumpForm.{JumpForm}
use Rattle.jv_code.specs.declared.kinds.NumberKind.{NumberKind}
use Rattle.jv_code.specs.declared.kinds.NumberKind.TheVariants as numbers
use Rattle.jv_code.specs.Insns.{Instruction}
use Rattle.jv_code.specs.Successors.{falls_through, jump_distances, jump_targets}
use Rattle.jv_code.specs.Targets.{target_of}
use Rattle.jv_meaning_world.specs.World.{World}
use Rattle.jv_meaning_world.specs.Laws.Order.{IsRooted}
use Rattle.jv_meaning_typing.specs.Environment.{offset_behind}
use Rattle.jv_meaning_typing.specs.FrameChanges.{with_stack, exchanged}
use Rattle.jv_meaning_typing.specs.NumberRules.{computation, number_type}
use Rattle.jv_meaning_typing.specs.Rule.{effect, handler_frame}
use Rattle.jv_meaning_machine.specs.Faults.{OrFault, ◌>>=◌}
use Rattle.jv_meaning_machine.specs.Values.{Value, value_width}
use Rattle.jv_meaning_machine.specs.Values.Value.{Int, Long, Null}
use Rattle.jv_meaning_machine.specs.Objects.{Object}
use Rattle.jv_meaning_machine.specs.Frames.{MethodFrame}
use Rattle.jv_meaning_machine.specs.State.{Program, Memory, ClassStates}
use Rattle.jv_meaning_machine.specs.Operands.{taken}
use Rattle.jv_meaning_machine.specs.Effects.{Effect, Context, goes_on, raises, division_by_zero, null_pointer}
use Rattle.jv_meaning_machine.specs.Effects.Effect.{Goes, Raises}
use Rattle.jv_meaning_machine.specs.Arithmetic.{number_value, as_number, as_int, as_long, none, one, two, computed, converted, width_of, divided}
use Rattle.jv_meaning_machine.specs.Instructions.{execute, with_operands, jumps, divide}
use Rattle.jv_meaning_world.proofs.Up.{first}
use Rattle.jv_sound.specs.Values.{Zip, Heap, Place, Fits, IsInt, IsLong, HasStack, HasLocals, type_width}
use Rattle.jv_sound.specs.Memory.{IsTypedMemory}
use Rattle.jv_sound.specs.Sound.{IsSort}
use Rattle.jv_sound.specs.Frames.{Holds, Holding, place_of}
use Rattle.jv_sound.specs.Effects.{IsThrown, IsEffect, AreEffects}
use Rattle.jv_sound.proofs.Logic.{Agrees, then2, holds, then_holds}
use Rattle.jv_sound.specs.Memory.{AreLoadable}
use Rattle.jv_sound.proofs.Types.{fits_in}
use Rattle.jv_sound.proofs.Heaps.{same}
use Rattle.jv_sound.proofs.Taking.{taken_all}

-- ---- what computations make of their operands

pub none_ok : {A : Type 0} {P : A → Type 0} (R : FrameType → Value → Type 0) (a : A) (values : List Value) → Zip R [] values → P a
    → Holds P (none a values)
none_ok R a [] f h = holds h
none_ok R a (v ∷ values) f h = absurd f

pub one_ok : (R : FrameType → Value → Type 0) (t : FrameType) (values : List Value) → Zip R (t ∷ []) values → Holds (R t) (one values)
one_ok R t (v ∷ []) f = holds f.0
one_ok R t [] f = absurd f
one_ok R t (v ∷ w ∷ values) f = absurd f.1

pub two_ok : (R : FrameType → Value → Type 0) (s t : FrameType) (values : List Value) → Zip R (s ∷ t ∷ []) values
    → Holds (λ q. R s q.0 × R t q.1) (two values)
two_ok R s t (v ∷ w ∷ []) f = holds (f.0, f.1.0)
two_ok R s t [] f = absurd f
two_ok R s t (v ∷ []) f = absurd f.1
two_ok R s t (v ∷ w ∷ x ∷ values) f = absurd f.1.1

pub int_ok : (v : Value) → IsInt v → Holds (λ n. ⊤) (as_int v)
int_ok (Int n) f = holds tt
int_ok _ f = absurd f

pub long_ok : (v : Value) → IsLong v → Holds (λ n. ⊤) (as_long v)
long_ok (Long n) f = holds tt
long_ok _ f = absurd f

module _ (world : World) (objects : List Object) where
  number_ok : (kind : NumberKind) (v : Value) → Fits world objects (number_type kind) v → Holds (λ n. ⊤) (as_number kind v)
  number_ok numbers.Int v f = int_ok v f
  number_ok numbers.Long v f = long_ok v f

  number_fits : (kind : NumberKind) (n : ℤ) → Fits world objects (number_type kind) (number_value kind n)
  number_fits numbers.Int n = tt
  number_fits numbers.Long n = tt

  -- a list of one value, of the one type that is given
  abbrev Given : List FrameType → Value → Type 0
  Given gives v = (t : FrameType) × (gives ≡ t ∷ []) × IsSort t × Fits world objects t v

  number_given : (kind : NumberKind) (n : ℤ) → Given (number_type kind ∷ []) (number_value kind n)
  number_given numbers.Int n = (types.Int, refl, tt, tt)
  number_given numbers.Long n = (types.Long, refl, tt, tt)

  converted_ok : (c : Conversion) (values : List Value) → Zip (Fits world objects) (computation (compute.Convert c)).takes values
      → Holds (Given (computation (compute.Convert c)).gives) (one values >>= converted c)
  converted_ok conversions.IntToLong values f = then_holds (one_ok (Fits world objects) types.Int values f)
      (λ v h. then_holds (int_ok v h) (λ n _. holds (types.Long, refl, tt, tt)))
  converted_ok conversions.LongToInt values f = then_holds (one_ok (Fits world objects) types.Long values f)
      (λ v h. then_holds (long_ok v h) (λ n _. holds (types.Int, refl, tt, tt)))
  converted_ok conversions.IntToByte values f = then_holds (one_ok (Fits world objects) types.Int values f)
      (λ v h. then_holds (int_ok v h) (λ n _. holds (types.Int, refl, tt, tt)))
  converted_ok conversions.IntToChar values f = then_holds (one_ok (Fits world objects) types.Int values f)
      (λ v h. then_holds (int_ok v h) (λ n _. holds (types.Int, refl, tt, tt)))
  converted_ok conversions.IntToShort values f = then_holds (one_ok (Fits world objects) types.Int values f)
      (λ v h. then_holds (int_ok v h) (λ n _. holds (types.Int, refl, tt, tt)))

  computed_ok : (what : Computation) (values : List Value) → Zip (Fits world objects) (computation what).takes values
      → Holds (Given (computation what).gives) (computed what values)
  computed_ok (compute.IntConstant n form) values f = none_ok (Fits world objects) (Int n) values f (types.Int, refl, tt, tt)
  computed_ok (compute.LongConstant n) values f = none_ok (Fits world objects) _ values f (types.Long, refl, tt, tt)
  computed_ok (compute.Arithmetic kind operator) values f =
      then_holds (two_ok (Fits world objects) (number_type kind) (number_type kind) values f) (λ q h.
      then_holds (number_ok kind q.0 h.0) (λ a _. then_holds (number_ok kind q.1 h.1) (λ b _. holds (number_given kind _))))
  computed_ok (compute.Negate kind) values f =
      then_holds (then_holds (one_ok (Fits world objects) (number_type kind) values f) (λ v h. number_ok kind v h))
      (λ a _. holds (number_given kind _))
  computed_ok (compute.Shift kind operator) values f =
      then_holds (two_ok (Fits world objects) (number_type kind) types.Int values f) (λ q h.
      then_holds (number_ok kind q.0 h.0) (λ a _. then_holds (int_ok q.1 h.1) (λ b _. holds (number_given kind _))))
  computed_ok (compute.Convert c) values f = converted_ok c values f
  computed_ok compute.CompareLongs values f =
      then_holds (two_ok (Fits world objects) types.Long types.Long values f) (λ q h.
      then_holds (long_ok q.0 h.0) (λ a _. then_holds (long_ok q.1 h.1) (λ b _. holds (types.Int, refl, tt, tt))))

kind_sort : (kind : NumberKind) → IsSort (number_type kind)
kind_sort numbers.Int = tt
kind_sort numbers.Long = tt

conversion_sorts : (c : Conversion) → AllByRecursion IsSort (computation (compute.Convert c)).takes
conversion_sorts conversions.IntToLong = (tt, tt)
conversion_sorts conversions.LongToInt = (tt, tt)
conversion_sorts conversions.IntToByte = (tt, tt)
conversion_sorts conversions.IntToChar = (tt, tt)
conversion_sorts conversions.IntToShort = (tt, tt)

computation_sorts : (what : Computation) → AllByRecursion IsSort (computation what).takes
computation_sorts (compute.IntConstant n form) = tt
computation_sorts (compute.LongConstant n) = tt
computation_sorts (compute.Arithmetic kind operator) = (kind_sort kind, (kind_sort kind, tt))
computation_sorts (compute.Negate kind) = (kind_sort kind, tt)
computation_sorts (compute.Shift kind operator) = (kind_sort kind, (tt, tt))
computation_sorts (compute.Convert c) = conversion_sorts c
computation_sorts compute.CompareLongs = (tt, (tt, tt))

pub agrees_from : {A B : Type 0} {R : A → B → Type 0} {a : A} {m : OrFault B} → Holds (R a) m → Agrees R (Some a) m
agrees_from {m = Ok b} h = record { by = h.by }
agrees_from {m = Err fault} h = absurd h.by

-- ---- in a frame. The world is the method's own, and the memory's objects are the heap's: so these are equal by computation.

abbrev pub program_in : Program → MethodFrame → Program
program_in base frame = record base { world = frame.method.world }

abbrev pub memory_in : Memory → Heap → Memory
memory_in rest heap = record rest { objects = heap.objects }

abbrev pub context_in : Program → ClassStates → Memory → Heap → MethodFrame → Instruction → Context
context_in base states rest heap frame insn = record {
  program = program_in base frame;
  states = states;
  memory = memory_in rest heap;
  frame = frame;
  next = offset_behind frame.offset insn;
}

module _ (base : Program) (states : ClassStates) (rest : Memory) (heap : Heap) (depth : ℕ) (frame : MethodFrame) (made : ℕ
    → ℕ) (t : TypesOf)
    (rooted : IsRooted frame.method.world) (loadable : AreLoadable frame.method.world heap.objects)
    (typed : IsTypedMemory (program_in base frame) (memory_in rest heap))
    (thrown : (name : List ℕ) → IsTrue (list_any (bytes_eq name) (division_by_zero ∷ null_pointer ∷ [])) → IsThrown frame.method.world name)
    (holding : Holding (place_of heap depth frame made) t frame.locals frame.stack) where
  abbrev pub here : Place
  here = place_of heap depth frame made

  abbrev pub Sound : Instruction → Type 0
  Sound insn =
      Agrees (AreEffects (program_in base frame) here frame insn t) (effect frame.method frame.offset insn t)
      (execute (context_in base states rest heap frame insn) insn)

  -- the memory stays
  stays : (insn : Instruction) (g : TypesOf) (e : Effect) → IsEffect (program_in base frame) here frame insn t g heap made e
      → AreEffects (program_in base frame) here frame insn t g (memory_in rest heap, e)
  stays insn g e h = record { heap = heap; is = refl; made = made; grows = same depth heap; memory = typed; effect = h }

  goes_ok : (insn : Instruction) (S : List FrameType) (s : List Value) → IsTrue (falls_through insn) → HasStack here S s
      → Holds (AreEffects (program_in base frame) here frame insn t (with_stack t S))
      (goes_on (context_in base states rest heap frame insn) s)
  goes_ok insn S s falls hs =
      holds (stays insn (with_stack t S) (Goes (offset_behind frame.offset insn) frame.locals s)
      (inr (falls, refl), record { locals = holding.locals; stack = hs; ready = holding.ready }))

  -- an instruction of the table
  by_table :
      (insn : Instruction) (takes gives : List FrameType) → AllByRecursion IsSort takes
      → ((S : List FrameType) (values s : List Value) → Zip (Fits frame.method.world heap.objects) takes values → HasStack here S s
      → Holds (AreEffects (program_in base frame) here frame insn t (with_stack t (gives ++ S)))
      (with_operands (context_in base states rest heap frame insn) insn values s))
      → Agrees (AreEffects (program_in base frame) here frame insn t) (exchanged frame.method.world takes gives t)
      (taken heap.objects takes frame.stack >>= λ operands. with_operands
      (context_in base states rest heap frame insn) insn operands.0 operands.1)
  by_table insn takes gives sorts k =
      then2 (taken_all here rooted loadable takes t.stack frame.stack sorts holding.stack)
      (λ S out h. agrees_from (k S out.0 out.1 h.0 h.1))

  given_item : (gives : List FrameType) (S : List FrameType) (v : Value) (s : List Value) → Given frame.method.world heap.objects gives v
      → HasStack here S s → HasStack here (gives ++ S) (v ∷ s)
  given_item gives S v s h hs =
      subst (λ (ts : List FrameType). HasStack here (ts ++ S) (v ∷ s)) (sym h.1)
      (record { fits = fits_in here h.0 v h.3; width = width_ok h.0 h.2 h.3 }, hs)
    where
      width_ok : (u : FrameType) → IsSort u → Fits frame.method.world heap.objects u v → value_width v ≡ Some (type_width u)
      width_ok u sort f = Rattle.jv_sound.proofs.Types.sort_width frame.method.world heap.objects u v sort f

  compute_ok : (what : Computation) → Sound (insns.Compute what)
  compute_ok what =
      by_table (insns.Compute what) (computation what).takes (computation what).gives (computation_sorts what) (λ S values s f hs.
      then_holds (computed_ok frame.method.world heap.objects what values f) (λ v h.
      goes_ok (insns.Compute what) ((computation what).gives ++ S) (v ∷ s) refl (given_item (computation what).gives S v s h hs)))

  pub nop_ok : Sound insns.Nop
  nop_ok = by_table insns.Nop [] [] tt (λ S values s f hs. then_holds
      (none_ok {P = λ b. HasStack here S b} (Fits frame.method.world heap.objects) s values f hs) (λ b h. goes_ok insns.Nop S b refl h))

  pub null_ok : Sound insns.NullConstant
  null_ok =
      by_table insns.NullConstant [] (types.Null ∷ []) tt (λ S values s f hs.
      then_holds (none_ok {P = λ b. HasStack here S b} (Fits frame.method.world heap.objects) s values f hs) (λ b h.
      goes_ok insns.NullConstant (types.Null ∷ S) (Null ∷ b) refl (record { fits = refl; width = refl }, h)))

  -- an exception that the machine makes, where the handler's local variables are those of the frame
  raises_ok : (insn : Instruction) (g : TypesOf) (name : List ℕ) → IsThrown frame.method.world name
      → (handler_frame frame.method insn t).locals ≡ t.locals
      → Holds (AreEffects (program_in base frame) here frame insn t g) (raises (context_in base states rest heap frame insn) name)
  raises_ok insn g name h e =
      holds (stays insn g (Raises name) (h, subst (λ (ls : List FrameType). HasLocals here ls frame.locals) (sym e) holding.locals))

  pub division_ok : (kind : NumberKind) (operator : DivisionOperator) → Sound (insns.Division kind operator)
  division_ok kind operator =
      by_table (insns.Division kind operator) (number_type kind ∷ number_type kind ∷ []) (number_type kind ∷ [])
      (kind_sort kind, (kind_sort kind, tt)) (λ S values s f hs.
      then_holds (two_ok (Fits frame.method.world heap.objects) (number_type kind) (number_type kind) values f) (λ q h.
      then_holds (number_ok frame.method.world heap.objects kind q.0 h.0)
      (λ a _. then_holds (number_ok frame.method.world heap.objects kind q.1 h.1) (λ b _.
      by_zero S s a b hs (int_eq b (pos 0))))))
    where
      by_zero : (S : List FrameType) (s : List Value) (a b : ℤ) → HasStack here S s → (zero : Bool)
          → Holds (AreEffects (program_in base frame) here frame (insns.Division kind operator) t (with_stack t (number_type kind ∷ S)))
          (divide (context_in base states rest heap frame (insns.Division kind operator)) kind operator a b s zero)
      by_zero S s a b hs true = raises_ok (insns.Division kind operator) _ division_by_zero (thrown division_by_zero refl) refl
      by_zero S s a b hs false =
          goes_ok (insns.Division kind operator) (number_type kind ∷ S) (number_value kind (divided operator (width_of kind) a b) ∷ s) refl
          (given_item (number_type kind ∷ []) S _ s (number_given frame.method.world heap.objects kind _) hs)

  goto_ok : (z : ℤ) (form : JumpForm) → ((d : ℤ) → Contains (jump_distances (insns.Goto z form)) d
      → (to : ℕ) × (target_of frame.offset d ≡ Some to) × Contains (jump_targets frame.offset (insns.Goto z form)) (Some to))
      → Sound (insns.Goto z form)
  goto_ok z form there =
      by_table (insns.Goto z form) [] [] tt (λ S values s f hs.
      then_holds (none_ok {P = λ b. HasStack here S b} (Fits frame.method.world heap.objects) s values f hs) (λ b h.
      jumps_ok S b h (there z (first z []))))
    where
      jumps_ok : (S : List FrameType) (b : List Value) → HasStack here S b
          → ((to : ℕ) × (target_of frame.offset z ≡ Some to) × Contains (jump_targets frame.offset (insns.Goto z form)) (Some to))
          → Holds (AreEffects (program_in base frame) here frame (insns.Goto z form) t (with_stack t S))
          (jumps (context_in base states rest heap frame (insns.Goto z form)) z b)
      jumps_ok S b h x = rw x.1 (holds (stays (insns.Goto z form) (with_stack t S) (Goes x.0 frame.locals b)
          (inl x.2, record { locals = holding.locals; stack = h; ready = holding.ready })))

  pub pure_ok : (what : Computation) → Sound (insns.Compute what)
  pure_ok = compute_ok
