-- The values of constants (JVMS 4.4.3, 4.7.2, 5.1): ints, longs and string literals; and ldc, ldc_w.
use Rattle.std.proofs.Common.{◌≡◌, ℕ, suc, List, ◌∷◌, Option, Some, None, refl, sym, ap, subst}
use Rattle.std.specs.Prelude.{⊤, IsTrue}
use Rattle.std.specs.Option.{option_map}
use Rattle.std.specs.Int.{w32, cast_signed}
use Rattle.jv_stackmap.specs.declared.verification.VerificationTypeOf.TheVariants as types
use Rattle.jv_stackmap.specs.Types.{FrameType}
use Rattle.jv_code.specs.declared.insn.Insn.TheVariants as insns
use Rattle.jv_code.specs.Insns.{Instruction}
use Rattle.jv_code.specs.Successors.{falls_through}
use Rattle.jv_code.specs.declared.kinds.IndexForm.{IndexForm}
use Rattle.jv_pool.specs.declared.constant.Constant.TheVariants as constants
use Rattle.jv_pool.specs.Constants.{Entry, at_index, utf8_at}
use Rattle.jv_class.specs.Class.{InitialValue}
use Rattle.jv_class.specs.Class.InitialValue.{IntValue, LongValue, StringValue}
use Rattle.jv_meaning_world.specs.World.{Loaded, class_named}
use Rattle.jv_meaning_typing.specs.Environment.{current_class}
use Rattle.jv_meaning_typing.specs.Named.{constant_type_of, string_type}
use Rattle.jv_meaning_typing.specs.ValueRules.{pushed}
use Rattle.jv_meaning_machine.specs.Faults.{◌>>=◌}
use Rattle.jv_meaning_machine.specs.Faults.Fault.{OffsetFault}
use Rattle.jv_meaning_machine.specs.Values.{Value}
use Rattle.jv_meaning_machine.specs.State.{Program, Memory}
use Rattle.jv_meaning_machine.specs.Literals.{string_name, string_loaded, constant_value, pushed_constant, push_value}
use Rattle.jv_sound.specs.Values.{Fits, Heap}
use Rattle.jv_sound.specs.Memory.{IsTypedMemory}
use Rattle.jv_sound.specs.Later.{IsLater}
use Rattle.jv_sound.specs.Sound.{IsSort}
use Rattle.jv_sound.specs.Frames.{Holds, IsConstantOf, HasUnits}
use Rattle.jv_sound.proofs.Logic.{holds, then_holds, found_holds}
use Rattle.jv_sound.proofs.Types.{sort_item}
use Rattle.jv_sound.proofs.Heaps.{same, moved, stack_later}
use Rattle.jv_sound.proofs.Memories.{IsMakeable}
use Rattle.jv_sound.proofs.Literals.{IsLiteralIf, literal_ok}
use Rattle.jv_sound.proofs.Pure.{agrees_from}
use Rattle.jv_sound.proofs.Ways.{Setting, IsSet, world_of, program_of, memory_of, context_of, here, Does, By, Sound, KeepsLocals, goes_with_ok, lacks_ok}

-- ---- constants

module _ (program : Program) (string : Loaded) (there : class_named program.world string_name ≡ Some string)
    (makeable : IsMakeable program string) where
  -- a value of a type, and the memory with it
  pub record IsConstant (a : Heap) (type : FrameType) (made : Memory × Value) : Type 0 where
    pub heap : Heap
    pub grows : (d : ℕ) → IsLater d a heap
    pub is : heap.objects ≡ made.0.objects
    pub typed : IsTypedMemory program made.0
    pub fits : Fits program.world heap.objects type made.1

  abbrev pub IsConstantIf : Heap → FrameType → Option (Memory × Value) → Type 0
  IsConstantIf a type None = ⊤
  IsConstantIf a type (Some made) = IsConstant a type made

  loaded_ok : (a : Heap) (o : Option (Memory × ℕ)) → IsLiteralIf program string there makeable a o
      → IsConstantIf a string_type (string_loaded o)
  loaded_ok a None h = tt
  loaded_ok a (Some made) h = record { heap = h.heap; grows = h.grows; is = h.is; typed = h.typed; fits = h.object }

  pub constant_ok : (a : Heap) (memory : Memory) (type : FrameType) (constant : InitialValue) → a.objects ≡ memory.objects
      → IsTypedMemory program memory → IsConstantOf type constant → HasUnits program constant
      → Holds (IsConstantIf a type) (constant_value program constant memory)
  constant_ok a memory types.Int (IntValue n) is typed f units = holds
      (record { heap = a; grows = λ d. same d a; is = is; typed = typed; fits = tt })
  constant_ok a memory types.Long (LongValue n) is typed f units = holds
      (record { heap = a; grows = λ d. same d a; is = is; typed = typed; fits = tt })
  constant_ok a memory (types.Class name) (StringValue text) is typed f units =
      subst (λ (t : FrameType). Holds (IsConstantIf a t) (constant_value program (StringValue text) memory)) (sym f)
      (then_holds (literal_ok program string there makeable a memory text units.0 is typed units.1) (λ made h. holds (loaded_ok a made h)))
  constant_ok a memory _ _ is typed f units = absurd f

-- ---- ldc, ldc_w

module _ (x : Setting) (h : IsSet x) (string : Loaded) (there : class_named (world_of x) string_name ≡ Some string)
    (makeable : IsMakeable (program_of x) string)
    -- the text of a String constant is there and spells units (4.4.3, 4.4.7)
    (has_units : (index text : ℕ) → at_index (current_class x.frame.method).constant_pool index ≡ Some (constants.String text)
    → (bytes : List ℕ) × (utf8_at (current_class x.frame.method).constant_pool text ≡ Some bytes) × (units : List ℕ)
    × (x.base.units bytes ≡ Some units)) where
  pushes : (insn : Instruction) (type : FrameType) (o : Option (Memory × Value)) → IsSort type → IsTrue (falls_through insn)
      → KeepsLocals x insn
      → IsConstantIf (program_of x) string there makeable x.heap type o
      → Does x insn (pushed x.given type) (push_value (context_of x insn) o)
  pushes insn type None sort falls keeps f = lacks_ok x h insn (pushed x.given type) keeps
  pushes insn type (Some made) sort falls keeps f =
      goes_with_ok x h insn (type ∷ x.given.stack) (made.1 ∷ x.frame.stack) f.heap made.0 falls (f.grows (suc x.depth)) f.is f.typed (
        sort_item (moved (here x) f.heap) type made.1 sort f.fits,
        stack_later (here x) f.heap
            (f.grows (suc x.depth)) x.given.stack x.frame.stack h.holding.stack,
      )

  pub pool_constant_ok : (index : ℕ) (form : IndexForm) → Sound x (insns.PoolConstant index form)
  pool_constant_ok index form = by_entry (at_index (current_class x.frame.method).constant_pool index) refl
    where
      by_entry : (o : Option Entry) → at_index (current_class x.frame.method).constant_pool index ≡ o
          → By x (insns.PoolConstant index form) (option_map (pushed x.given) (constant_type_of o))
          (pushed_constant (current_class x.frame.method).constant_pool o >>= λ constant. constant_value (program_of x) constant
          (memory_of x) >>= push_value (context_of x (insns.PoolConstant index form)))
      by_entry (Some (constants.Integer bits)) e =
          agrees_from (then_holds (constant_ok (program_of x) string there makeable x.heap (memory_of x) types.Int
          (IntValue (cast_signed w32 bits)) refl h.typed tt tt) (λ o f.
          pushes (insns.PoolConstant index form) types.Int o tt refl refl f))
      by_entry (Some (constants.String text)) e =
          let u = has_units index text e in
          agrees_from (then_holds {P = λ c. c ≡ StringValue u.0}
          (then_holds (found_holds {P = λ bytes. bytes ≡ u.0} OffsetFault
          (utf8_at (current_class x.frame.method).constant_pool text) u.0 u.1 refl)
          (λ bytes same_text. holds (ap StringValue same_text))) (λ c same_constant.
          subst (λ (c : InitialValue). Does x (insns.PoolConstant index form) (pushed x.given string_type)
          (constant_value (program_of x) c (memory_of x) >>= push_value (context_of x (insns.PoolConstant index form)))) (sym same_constant)
          (then_holds (constant_ok (program_of x) string there makeable x.heap (memory_of x) string_type (StringValue u.0) refl h.typed refl
          (u.2, u.3)) (λ o f.
          pushes (insns.PoolConstant index form) string_type o tt refl refl f))))
      by_entry _ e = record { by = tt }
