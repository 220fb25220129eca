-- One step, and all steps.
use Rattle.std.proofs.Common.{◌≡◌, ℕ, zero, suc, Bool, true, false, List, [], ◌∷◌, length, Option, Some, None, Ok, Err, refl, sym, ap, subst, ◌∙◌}
use Rattle.std.specs.Prelude.{IsOk, is_some, nat_le}
use Rattle.jv_stackmap.specs.Frames.{Frame as TypesOf}
use Rattle.jv_code.specs.Insns.{Instruction}
use Rattle.jv_meaning_typing.specs.Environment.{instruction_at}
use Rattle.jv_meaning_typing.specs.Named.{when}
use Rattle.jv_meaning_typing.specs.Rule.{effect, rule, within_stack}
use Rattle.jv_meaning_typing.proofs.Starts.{start_within}
use Rattle.jv_meaning_machine.specs.Faults.{OrFault, ◌>>=◌}
use Rattle.jv_meaning_machine.specs.Faults.Fault.{OffsetFault}
use Rattle.jv_meaning_machine.specs.Frames.{MethodFrame, InitializationFrame, Frame}
use Rattle.jv_meaning_machine.specs.Frames.Frame.{Runs, Initializes}
use Rattle.jv_meaning_machine.specs.State.{Program, Memory, Control, State}
use Rattle.jv_meaning_machine.specs.Effects.{Effect}
use Rattle.jv_meaning_machine.specs.Instructions.{execute}
use Rattle.jv_meaning_machine.specs.Initialization.{initialization_step}
use Rattle.jv_meaning_machine.specs.Step.{act, context, step_in, step}
use Rattle.jv_meaning_machine.specs.Start.{Budget, start}
use Rattle.jv_meaning_machine.specs.Alone.{Feed, GuestFiles, Judged, came_at, fed, alone}
use Rattle.jv_sound.specs.Values.{Heap}
use Rattle.jv_sound.specs.Memory.{IsTypedMemory}
use Rattle.jv_sound.specs.Later.{IsLater}
use Rattle.jv_sound.specs.Frames.{Holds, place_of, IsRunning, promise_of, AreWaiting, AreFrames, AreVerified, HasMain, IsGood}
use Rattle.jv_sound.specs.Effects.{AreEffects}
use Rattle.jv_sound.proofs.Logic.{Agrees, holds, then_holds, found_holds, used}
use Rattle.jv_sound.proofs.Logic.{clash}
use Rattle.jv_sound.proofs.Formats.{chained}
use Rattle.jv_sound.proofs.Heaps.{locals_later, stack_later, ready_later}

-- a frame that runs can run in a later heap: so it can be executed again
pub running_later : (program : Program) (a b : Heap) (d : ℕ) (f : MethodFrame) → IsLater (suc d) a b → IsRunning program a d f
    → IsRunning program b d f
running_later program a b d f g r = record {
  checked = r.checked;
  insn = r.insn;
  stands = r.stands;
  made = r.made;
  holding = record {
    locals = locals_later (place_of a d f r.made) b g (r.checked.frames f.offset).locals f.locals r.holding.locals;
    stack = stack_later (place_of a d f r.made) b g (r.checked.frames f.offset).stack f.stack r.holding.stack;
    ready = ready_later (place_of a d f r.made) b g (r.checked.frames f.offset).flag_this_uninit r.holding.ready;
  };
}

-- the rule gives something, and it is the effect
some_there : {A : Type 0} (o : Option A) → is_some o ≡ true → (a : A) × (o ≡ Some a)
some_there None h = absurd (clash h)
some_there (Some a) h = (a, refl)

pub rule_ok : (program : Program) (heap : Heap) (depth : ℕ) (frame : MethodFrame) (r : IsRunning program heap depth frame)
    → (g : TypesOf) × (rule frame.method frame.offset r.insn (r.checked.frames frame.offset) ≡ Some g)
rule_ok program heap depth frame r = some_there (rule frame.method frame.offset r.insn (r.checked.frames frame.offset))
    (r.checked.typing.below frame.offset r.insn r.stands (start_within frame.method frame.offset r.insn r.checked.is r.stands)).leaves

when_same : (b : Bool) (x g : TypesOf) → when b x ≡ Some g → x ≡ g
when_same true x g e = cc
when_same false x g e = absurd cc

pub effect_of : (program : Program) (heap : Heap) (depth : ℕ) (frame : MethodFrame) (r : IsRunning program heap depth frame) (g : TypesOf)
    → rule frame.method frame.offset r.insn (r.checked.frames frame.offset) ≡ Some g
    → effect frame.method frame.offset r.insn (r.checked.frames frame.offset) ≡ Some g
effect_of program heap depth frame r g e =
    let x = chained (effect frame.method frame.offset r.insn (r.checked.frames frame.offset)) (within_stack frame.method) g e in
    x.1 ∙ ap (λ (y : TypesOf). Some y) (when_same (nat_le (Rattle.jv_stackmap.specs.Types.words x.0.stack)
    frame.method.code.max_stack) x.0 g x.2)

main_of_all : (program : Program) (main : List ℕ) (f : Frame) (below : List Frame) → HasMain program main (f ∷ below) → (fs : List Frame)
    → HasMain program main fs
main_of_all program main f below h [] = tt
main_of_all program main f below h (x ∷ fs) = h

module _ (program : Program)
    -- each instruction, against its rule
    (execute_ok : (memory : Memory) (control : Control) (heap : Heap) (frame : MethodFrame) (below : List Frame)
    (r : IsRunning program heap (length below) frame) → heap.objects ≡ memory.objects → IsTypedMemory program memory
    → AreVerified program control.states
    → Agrees (AreEffects program (place_of heap (length below) frame r.made) frame r.insn (r.checked.frames frame.offset))
    (effect frame.method frame.offset r.insn (r.checked.frames frame.offset))
    (execute (context program memory control frame r.insn) r.insn))
    -- what each effect makes of the frames
    (act_ok : (control : Control) (frame : MethodFrame) (below : List Frame) (heap : Heap) → AreVerified program control.states
    → ((fs : List Frame) → HasMain program control.main fs)
    → (r : IsRunning program heap (length below) frame) → AreWaiting program heap (promise_of frame) below → (g : TypesOf)
    → rule frame.method frame.offset r.insn (r.checked.frames frame.offset) ≡ Some g
    → (out : Memory × Effect) → AreEffects program (place_of heap (length below) frame r.made) frame r.insn
    (r.checked.frames frame.offset) g out → Holds (IsGood program) (act program frame below control out))
    (initialization_step_ok : (a : Heap) (memory : Memory) (frame : InitializationFrame) (below : List Frame) (control : Control)
    → a.objects ≡ memory.objects → IsTypedMemory program memory → AreVerified program control.states
    → ((fs : List Frame) → HasMain program control.main fs) → AreFrames program a (Initializes frame ∷ below)
    → Holds (IsGood program) (initialization_step program memory frame below control)) where
  pub step_ok : (s : State) → IsGood program s → Holds (IsGood program) (step program s)
  step_ok s good = by_frames s.frames good.frames good.main
    where
      by_frames : (fs : List Frame) → AreFrames program good.heap fs → HasMain program s.control.main fs
          → Holds (IsGood program) (step_in program s.memory fs s.control)
      by_frames [] c m = holds (record {
        heap = good.heap;
        is = good.is;
        memory = good.memory;
        frames = tt;
        verified = good.verified;
        main =
            tt;
      })
      by_frames (Runs frame ∷ below) c m =
          let r = c.0 in
          let g = rule_ok program good.heap (length below) frame r in
          then_holds (found_holds {P = λ i. i ≡ r.insn} OffsetFault (instruction_at frame.method frame.offset) r.insn r.stands refl)
          (λ i same_insn.
          subst (λ (x : Instruction). Holds (IsGood program) (execute
          (context program s.memory s.control frame x) x >>= act program frame below s.control)) (sym same_insn)
          (then_holds (used (execute_ok s.memory s.control good.heap frame below r good.is good.memory good.verified) g.0
          (effect_of program good.heap (length below) frame r g.0 g.1)) (λ out effects.
          act_ok s.control frame below good.heap good.verified (main_of_all program s.control.main
          (Runs frame) below m) r c.1 g.0 g.1 out effects)))
      by_frames (Initializes frame ∷ below) c m =
          initialization_step_ok good.heap s.memory frame below s.control good.is good.memory good.verified
          (main_of_all program s.control.main (Initializes frame) below m) c

-- what comes to the input is of no concern to the types
pub fed_ok : (program : Program) (bytes : List ℕ) (s : State) → IsGood program s → IsGood program (fed bytes s)
fed_ok program bytes s good = record {
  heap = good.heap;
  is = good.is;
  memory = record {
    objects = good.memory.objects;
    statics = good.memory.statics;
    statics_there = good.memory.statics_there;
    literals = good.memory.literals;
    no_memory = good.memory.no_memory;
    arguments = good.memory.arguments;
  };
  frames = good.frames;
  verified = good.verified;
  main = good.main;
}

-- a guest alone, after so many steps, with what is fed to it
pub alone_ok : (judged : Judged) (g : GuestFiles) (b : Budget) (feeds : List Feed)
    → Holds (IsGood judged.program) (start judged.program g.main g.input b)
    → ((s : State) → IsGood judged.program s → Holds (IsGood judged.program) (step judged.program s))
    → (n : ℕ) → Holds (IsGood judged.program) (alone judged g b feeds n)
alone_ok judged g b feeds begun steps zero = then_holds begun (λ s k. holds (fed_ok judged.program (came_at zero feeds) s k))
alone_ok judged g b feeds begun steps (suc n) =
    then_holds (then_holds (alone_ok judged g b feeds begun steps n) (λ s k. steps s k))
    (λ s k. holds (fed_ok judged.program (came_at (suc n) feeds) s k))

pub is_ok : {A : Type 0} {P : A → Type 0} {r : OrFault A} → Holds P r → IsOk r
is_ok {r = Ok x} h = refl
is_ok {r = Err e} h = absurd h.by
