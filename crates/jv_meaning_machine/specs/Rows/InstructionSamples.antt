-- One instruction alone, for worked rows (JVMS 6.5): what it does in a frame of a class Main, at offset 20 of its method.
use Rattle.std.specs.Prelude.{ℕ, ◌+◌, ◌-ℤ◌, pos, false, List, [], ◌∷◌, reverse, Some, None, Ok}
use Rattle.jv_code.specs.Insns.{Instruction}
use Rattle.jv_pool.specs.Constants.{Entry}
use Rattle.jv_class.specs.Class.{Class}
use Rattle.jv_meaning_world.specs.World.{loaded}
use Rattle.jv_meaning_world.specs.Rows.Files.{object_name}
use Rattle.jv_meaning_typing.specs.Environment.{Environment, offset_behind}
use Rattle.jv_meaning_machine.specs.Faults.{OrFault, ◌>>=◌}
use Rattle.jv_meaning_machine.specs.Values.{Value}
use Rattle.jv_meaning_machine.specs.Values.Value.{Int, Long}
use Rattle.jv_meaning_machine.specs.Objects.{Object, Content}
use Rattle.jv_meaning_machine.specs.Frames.{MethodFrame}
use Rattle.jv_meaning_machine.specs.State.{Memory, ClassStates}
use Rattle.jv_meaning_machine.specs.Effects.{Effect, Context, Outcome}
use Rattle.jv_meaning_machine.specs.Effects.Effect.{Goes, Raises}
use Rattle.jv_meaning_machine.specs.Instructions.{execute}
use Rattle.jv_meaning_machine.specs.Rows.Samples.{java_lang, world_with, program_of, code, main, main_name}

-- the guest's classes beside Main, their states, Main's constants, the objects, what static fields hold, and the frame's
-- local variables and stack, whose top is last here; 20 cells are left
pub record Setting : Type 0 where
  pub classes : List Class
  pub states : ClassStates
  pub constants : List Entry
  pub objects : List Object
  pub statics : Content
  pub locals : List Value
  pub stack : List Value

-- ---- the context of an instruction

abbrev pub current : Setting → Class
current setting = record {
  major_version = 52;
  access_flags = 1;
  name = main_name;
  super_class = Some object_name;
  interfaces = [];
  fields = [];
  methods = [];
  constant_pool = setting.constants;
}

abbrev pub environment : Setting → Instruction → Environment
environment setting insn = record {
  world = world_with (current setting ∷ setting.classes);
  site = record { by = loaded false (current setting); method = main 9 [] (insn ∷ []) };
  descriptor = record { parameters = []; result = None };
  code = code 9 9 [] (insn ∷ []);
  instructions = insn ∷ [];
}

abbrev pub frame_in : Setting → Instruction → MethodFrame
frame_in setting insn = record {
  method = environment setting insn;
  receiver = None;
  offset = 20;
  locals = setting.locals;
  stack = reverse setting.stack;
}

abbrev pub memory_in : Setting → Memory
memory_in setting = record {
  objects = setting.objects;
  statics = setting.statics;
  literals = [];
  cells = 20;
  output_left = 0;
  output = [];
  input = [];
}

abbrev pub context_in : Setting → Instruction → Context
context_in setting insn = record {
  program = program_of (current setting ∷ setting.classes) [];
  states = setting.states;
  memory = memory_in setting;
  frame = frame_in setting insn;
  next = offset_behind 20 insn;
}

abbrev pub done : Setting → Instruction → Outcome
done setting insn = execute (context_in setting insn) insn

-- ---- what it does, and what it makes of the objects

abbrev pub effect : Setting → Instruction → OrFault Effect
effect setting insn = done setting insn >>= λ d. Ok d.1

abbrev pub objects_behind : Setting → Instruction → OrFault (List Object)
objects_behind setting insn = done setting insn >>= λ d. Ok d.0.objects

abbrev pub statics_behind : Setting → Instruction → OrFault Content
statics_behind setting insn = done setting insn >>= λ d. Ok d.0.statics

-- the next instruction follows, behind so many bytes of this one, with these local variables, and this stack, whose top is last
abbrev pub follows : ℕ → List Value → List Value → OrFault Effect
follows bytes locals stack = Ok (Goes (20 + bytes) locals (reverse stack))

-- an exception of a class of java/lang is thrown
abbrev pub raised : List ℕ → OrFault Effect
raised name = Ok (Raises (java_lang name))

-- ---- settings and numbers

abbrev pub on_stack : List Value → Setting
on_stack stack = record { classes = []; states = []; constants = []; objects = []; statics = []; locals = []; stack = stack }

abbrev pub with_locals : List Value → List Value → Setting
with_locals locals stack = record (on_stack stack) { locals = locals }

abbrev pub with_objects : List Object → List Value → Setting
with_objects objects stack = record (on_stack stack) { objects = objects }

abbrev pub int : ℕ → Value
int n = Int (pos n)

abbrev pub int_minus : ℕ → Value
int_minus n = Int (pos 0 -ℤ pos n)

abbrev pub long : ℕ → Value
long n = Long (pos n)

abbrev pub long_minus : ℕ → Value
long_minus n = Long (pos 0 -ℤ pos n)
