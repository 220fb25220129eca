-- What an instruction is executed in, and its ways on: the lemmas of all instructions are stated of these.
use Rattle.std.proofs.Common.{◌≡◌, inr, ℕ, List, [], ◌∷◌, ◌++◌, Option, Some, None, Ok, refl, sym, subst, arith}
use Rattle.std.specs.Prelude.{IsTrue}
use Rattle.std.specs.List.{AllByRecursion, list_any}
use Rattle.std.specs.Str.{bytes_eq}
use Rattle.jv_stackmap.specs.Types.{FrameType}
use Rattle.jv_stackmap.specs.Frames.{Frame as TypesOf}
use Rattle.jv_code.specs.Insns.{Instruction}
use Rattle.jv_code.specs.Successors.{falls_through}
use Rattle.jv_meaning_world.specs.World.{World}
use Rattle.jv_meaning_world.specs.Laws.Above.{SystemStandsAlone}
use Rattle.jv_meaning_typing.specs.LinkErrors.{LinkError, error_class}
use Rattle.jv_meaning_world.specs.Laws.Order.{IsRooted}
use Rattle.jv_meaning_typing.specs.Environment.{offset_behind}
use Rattle.jv_meaning_typing.specs.FrameChanges.{with_stack, exchanged}
use Rattle.jv_meaning_typing.specs.Named.{throwable_type}
use Rattle.jv_meaning_typing.specs.Rule.{effect, handler_frame}
use Rattle.jv_meaning_machine.specs.Faults.{◌>>=◌}
use Rattle.jv_meaning_machine.specs.Values.{Value}
use Rattle.jv_meaning_machine.specs.Frames.{MethodFrame}
use Rattle.jv_meaning_machine.specs.State.{Program, Memory, ClassStates}
use Rattle.jv_meaning_machine.specs.Operands.{taken}
use Rattle.jv_meaning_machine.specs.Effects.{Effect, Context, Outcome, goes_on, goes_on_with, raises, lacks_memory, null_pointer, array_index, array_store, negative_size, class_cast, division_by_zero, out_of_memory}
use Rattle.jv_meaning_machine.specs.Effects.Effect.{Goes, Raises, Throws}
use Rattle.jv_meaning_machine.specs.Instructions.{execute, with_operands}
use Rattle.jv_sound.specs.Values.{Zip, Heap, Place, Fits, IsObject, HasStack, HasLocals}
use Rattle.jv_sound.specs.Memory.{IsTypedMemory, AreLoadable}
use Rattle.jv_sound.specs.Later.{IsLater}
use Rattle.jv_sound.specs.Sound.{IsSort}
use Rattle.jv_sound.specs.Frames.{Holds, Holding, place_of, AreVerified}
use Rattle.jv_sound.specs.Effects.{IsThrown, IsEffect, AreEffects}
use Rattle.jv_sound.proofs.Logic.{Agrees, then2, holds}
use Rattle.jv_sound.proofs.Heaps.{same, weaker, moved, locals_later, ready_later}
use Rattle.jv_sound.proofs.Taking.{taken_all}
use Rattle.jv_sound.proofs.Pure.{agrees_from, program_in, memory_in, context_in}

-- ---- the setting: what the machine has, and the types that the frame is of

pub record Setting : Type 0 where
  pub base : Program
  pub states : ClassStates
  pub rest : Memory
  pub heap : Heap
  pub depth : ℕ
  pub frame : MethodFrame
  pub made : ℕ → ℕ
  pub given : TypesOf

abbrev pub world_of : Setting → World
world_of x = x.frame.method.world

abbrev pub program_of : Setting → Program
program_of x = program_in x.base x.frame

abbrev pub memory_of : Setting → Memory
memory_of x = memory_in x.rest x.heap

abbrev pub here : Setting → Place
here x = place_of x.heap x.depth x.frame x.made

abbrev pub context_of : Setting → Instruction → Context
context_of x insn = context_in x.base x.states x.rest x.heap x.frame insn

-- what the machine raises in an instruction, errors of linking aside
abbrev pub raised_names : List (List ℕ)
raised_names = null_pointer ∷ array_index ∷ array_store ∷ negative_size ∷ class_cast ∷ division_by_zero ∷ []

pub record IsSet (x : Setting) : Type 0 where
  pub rooted : IsRooted x.frame.method.world
  pub alone : SystemStandsAlone x.frame.method.world
  pub loadable : AreLoadable x.frame.method.world x.heap.objects
  pub typed : IsTypedMemory (program_in x.base x.frame) (memory_in x.rest x.heap)
  pub verified : AreVerified (program_in x.base x.frame) x.states
  pub holding : Holding (place_of x.heap x.depth x.frame x.made) x.given x.frame.locals x.frame.stack
  pub thrown : (name : List ℕ) → IsTrue (list_any (bytes_eq name) raised_names) → IsThrown x.frame.method.world name
  pub link_errors : (error : LinkError) → IsThrown x.frame.method.world (error_class error)
  pub no_memory : IsObject x.frame.method.world x.heap.objects throwable_type out_of_memory

-- ---- what is to be proved

-- what the machine does is an effect with which a frame of types goes on
abbrev pub Does : Setting → Instruction → TypesOf → Outcome → Type 0
Does x insn g done = Holds (AreEffects (program_of x) (here x) x.frame insn x.given g) done

-- where a rule gives such a frame
abbrev pub By : Setting → Instruction → Option TypesOf → Outcome → Type 0
By x insn rule done = Agrees (AreEffects (program_of x) (here x) x.frame insn x.given) rule done

abbrev pub Sound : Setting → Instruction → Type 0
Sound x insn = By x insn (effect x.frame.method x.frame.offset insn x.given) (execute (context_of x insn) insn)

-- the handlers' local variables are those of the frame: of all instructions but invokespecial
abbrev pub KeepsLocals : Setting → Instruction → Type 0
KeepsLocals x insn = (handler_frame x.frame.method insn x.given).locals ≡ x.given.locals

module _ (x : Setting) (h : IsSet x) where
  abbrev pub HasItems : List FrameType → List Value → Type 0
  HasItems S s = HasStack (here x) S s

  -- the memory stays
  pub stays : (insn : Instruction) (g : TypesOf) (e : Effect) → IsEffect (program_of x) (here x) x.frame insn x.given g x.heap x.made e
      → Does x insn g (Ok (memory_of x, e))
  stays insn g e k = holds (record { heap = x.heap; is = refl; made = x.made; grows = same x.depth x.heap; memory = h.typed; effect = k })

  pub goes_ok : (insn : Instruction) (S : List FrameType) (s : List Value) → IsTrue (falls_through insn) → HasItems S s
      → Does x insn (with_stack x.given S) (goes_on (context_of x insn) s)
  goes_ok insn S s falls hs =
      stays insn (with_stack x.given S) (Goes (offset_behind x.frame.offset insn) x.frame.locals s)
      (inr (falls, refl), record { locals = h.holding.locals; stack = hs; ready = h.holding.ready })

  -- in a later heap
  pub goes_with_ok :
      (insn : Instruction) (S : List FrameType) (s : List Value) (b : Heap) (memory : Memory) → IsTrue (falls_through insn)
      → IsLater (ℕ.suc x.depth) x.heap b
      → b.objects ≡ memory.objects → IsTypedMemory (program_of x) memory → HasStack (moved (here x) b) S s
      → Does x insn (with_stack x.given S) (goes_on_with (context_of x insn) memory s)
  goes_with_ok insn S s b memory falls g is typed hs =
      holds (record {
        heap = b;
        is = is;
        made = x.made;
        grows = weaker (omega arith) g;
        memory = typed;
        effect = (
          inr (falls, refl),
          record {
            locals = locals_later (here x) b g x.given.locals x.frame.locals h.holding.locals;
            stack = hs;
            ready = ready_later (here x) b g x.given.flag_this_uninit h.holding.ready;
          },
        );
      })

  pub raised_ok : (insn : Instruction) (g : TypesOf) (name : List ℕ) → IsThrown (world_of x) name → KeepsLocals x insn
      → Does x insn g (raises (context_of x insn) name)
  raised_ok insn g name t e =
      stays insn g (Raises name) (t, subst (λ (ls : List FrameType). HasLocals (here x) ls x.frame.locals) (sym e) h.holding.locals)

  pub raises_ok : (insn : Instruction) (g : TypesOf) (name : List ℕ) → IsTrue (list_any (bytes_eq name) raised_names) → KeepsLocals x insn
      → Does x insn g (raises (context_of x insn) name)
  raises_ok insn g name t e = raised_ok insn g name (h.thrown name t) e

  pub throws_ok : (insn : Instruction) (g : TypesOf) (id : ℕ) → IsObject (world_of x) x.heap.objects throwable_type id → KeepsLocals x insn
      → Does x insn g (Ok (memory_of x, Throws id))
  throws_ok insn g id t e = stays insn g (Throws id) (
    t,
    subst (λ (ls : List FrameType). HasLocals (here x) ls x.frame.locals)
        (sym e) h.holding.locals,
  )

  pub lacks_ok : (insn : Instruction) (g : TypesOf) → KeepsLocals x insn → Does x insn g (lacks_memory (context_of x insn))
  lacks_ok insn g e = throws_ok insn g out_of_memory h.no_memory e

  -- whatever the rule gives
  pub anyway : (insn : Instruction) (rule : Option TypesOf) (done : Outcome) → ((g : TypesOf) → Does x insn g done) → By x insn rule done
  anyway insn None done k = record { by = tt }
  anyway insn (Some g) done k = agrees_from (k g)

  -- an instruction of the table
  pub by_table :
      (insn : Instruction) (takes gives : List FrameType) → AllByRecursion IsSort takes
      → ((S : List FrameType) (values s : List Value) → Zip (Fits (world_of x) x.heap.objects) takes values → HasItems S s
      → Does x insn (with_stack x.given (gives ++ S)) (with_operands (context_of x insn) insn values s))
      → By x insn (exchanged (world_of x) takes gives x.given) (taken x.heap.objects takes x.frame.stack >>= λ operands. with_operands
      (context_of x insn) insn operands.0 operands.1)
  by_table insn takes gives sorts k =
      then2 (taken_all (here x) h.rooted h.loadable takes x.given.stack x.frame.stack sorts h.holding.stack)
      (λ S out f. agrees_from (k S out.0 out.1 f.0 f.1))
