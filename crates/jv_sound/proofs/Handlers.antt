-- Handlers begin with the local variables of the instruction's frame, but for an object that `<init>` is called on (JVMS 4.10.1.6): so what
-- an instruction throws before it has changed anything finds them.
use Rattle.std.proofs.Common.{◌≡◌, ℕ, Bool, true, false, List, [], ◌∷◌, ◌++◌, Option, Some, None, Ok, refl, sym, subst}
use Rattle.std.specs.Prelude.{IsTrue, if◌then◌else◌}
use Rattle.std.specs.List.{AllByRecursion, Contains, list_any}
use Rattle.std.specs.Str.{bytes_eq}
use Rattle.jv_text.specs.declared.descriptor.FieldTypeOf.{FieldTypeOf}
use Rattle.jv_text.specs.Descriptor.{MethodDescriptor}
use Rattle.jv_text.specs.Name.{is_init}
use Rattle.jv_text.specs.Types.{method_type_of}
use Rattle.jv_stackmap.specs.declared.verification.VerificationTypeOf.TheVariants as types
use Rattle.jv_stackmap.specs.Types.{FrameType, value_type}
use Rattle.jv_stackmap.specs.Frames.{Frame as TypesOf}
use Rattle.jv_code.specs.Insns.{Instruction}
use Rattle.jv_code.specs.Successors.{falls_through}
use Rattle.jv_meaning_world.specs.World.{Loaded}
use Rattle.jv_meaning_world.specs.Overriding.{Declared}
use Rattle.jv_meaning_typing.specs.LinkErrors.{LinkError, error_class}
use Rattle.jv_meaning_typing.specs.FrameChanges.{is_same_object, with_stack}
use Rattle.jv_meaning_typing.specs.Named.{result_types}
use Rattle.jv_meaning_typing.specs.Rule.{constructed_object, without_object, handler_frame}
use Rattle.jv_meaning_machine.specs.Values.{Value}
use Rattle.jv_meaning_machine.specs.State.{class_state, is_ready}
use Rattle.jv_meaning_machine.specs.Effects.{Outcome, once_initialized, raises, lacks_memory, out_of_memory}
use Rattle.jv_meaning_machine.specs.Effects.Effect.{Begins, Enters, Raises, Throws}
use Rattle.jv_sound.specs.Values.{Zip, Fits, Place, FitsIn, HasLocals, HasStack}
use Rattle.jv_sound.specs.Sound.{IsEnterable, IsResultSort, AreSorts, IsSort}
use Rattle.jv_sound.specs.Frames.{IsResult}
use Rattle.jv_sound.specs.Effects.{IsReceiver, IsThrown}
use Rattle.jv_sound.proofs.Types.{sort_item}
use Rattle.jv_sound.proofs.Heaps.{moved, stack_later, locals_later, ready_later}
use Rattle.jv_sound.proofs.Copies.{replaced_locals}
use Rattle.jv_sound.proofs.Ways.{Setting, IsSet, world_of, program_of, memory_of, context_of, here, Does, By, raised_names, stays, anyway}

-- an object that cannot be used any more
pub dropped_locals : (p : Place) (o : Option FrameType) (ts : List FrameType) (vs : List Value) → HasLocals p ts vs
    → HasLocals p (without_object o ts) vs
dropped_locals p None ts vs f = f
dropped_locals p (Some object) ts vs f = replaced_locals p p object types.Top refl one ts vs f
  where
    one : (t : FrameType) (v : Value) → FitsIn p t v → FitsIn p (if is_same_object object t then types.Top else t) v
    one t v f = by_test (is_same_object object t)
      where
        by_test : (b : Bool) → FitsIn p (if b then types.Top else t) v
        by_test true = tt
        by_test false = f

module _ (x : Setting) (h : IsSet x) where
  pub handler_locals : (insn : Instruction) → HasLocals (here x) (handler_frame x.frame.method insn x.given).locals x.frame.locals
  handler_locals insn = dropped_locals (here x) (constructed_object x.frame.method insn x.given) x.given.locals x.frame.locals
      h.holding.locals

  -- ---- throws of any instruction, before it has changed anything

  pub raised_any : (insn : Instruction) (g : TypesOf) (name : List ℕ) → IsThrown (world_of x) name
      → Does x insn g (raises (context_of x insn) name)
  raised_any insn g name t = stays x h insn g (Raises name) (t, handler_locals insn)

  pub raises_any : (insn : Instruction) (g : TypesOf) (name : List ℕ) → IsTrue (list_any (bytes_eq name) raised_names)
      → Does x insn g (raises (context_of x insn) name)
  raises_any insn g name t = raised_any insn g name (h.thrown name t)

  pub errs_any : (insn : Instruction) (rule : Option TypesOf) (error : LinkError)
      → By x insn rule (raises (context_of x insn) (error_class error))
  errs_any insn rule error = anyway x h insn rule _ (λ g. raised_any insn g (error_class error) (h.link_errors error))

  pub lacks_any : (insn : Instruction) (g : TypesOf) → Does x insn g (lacks_memory (context_of x insn))
  lacks_any insn g = stays x h insn g (Throws out_of_memory) (h.no_memory, handler_locals insn)

  -- what is done once a class is initialized, or its initialization was begun
  pub once_any : (insn : Instruction) (rule : Option TypesOf) (l : Loaded) (done : Outcome) → Contains (world_of x) l
      → (is_ready (class_state x.states l) ≡ true → By x insn rule done)
      → By x insn rule (once_initialized (context_of x insn) l done)
  once_any insn rule l done there k = by_state (is_ready (class_state x.states l)) k
    where
      begins : (g : TypesOf) → Does x insn g (Ok (memory_of x, Begins l))
      begins g = stays x h insn g (Begins l) (there, refl, refl, handler_locals insn)

      by_state : (ready : Bool) → (ready ≡ true → By x insn rule done) → By x insn rule (if ready then done else Ok (memory_of x, Begins l))
      by_state false k = anyway x h insn rule _ begins
      by_state true k = k refl

  -- ---- a method that is entered

  -- its result stands on what is left of the stack
  pub resulted : (p : Place) (result : Option (FieldTypeOf (List ℕ))) (values : List Value) (S : List FrameType) (s : List Value)
      → IsResultSort result → IsResult p.method.world p.heap.objects result values → HasStack p S s
      → HasStack p (result_types result ++ S) (values ++ s)
  resulted p None values S s sort f hs = subst (λ (vs : List Value). HasStack p S (vs ++ s)) (sym f) hs
  resulted p (Some type) values S s sort f hs = subst (λ (vs : List Value). HasStack p (value_type type ∷ S) (vs ++ s)) (sym f.1)
      (sort_item p (value_type type) f.0 sort f.2, hs)

  pub enters_ok :
      (insn : Instruction) (descriptor : MethodDescriptor) (d : Declared) (receiver : Option ℕ) (arguments : List Value)
      (S : List FrameType) (s : List Value) → IsEnterable (program_of x) d → IsTrue (falls_through insn)
      → is_init d.method.name ≡ false → IsReceiver (program_of x) x.heap d receiver → method_type_of d.method.descriptor ≡ Some descriptor
      → Zip (Fits (world_of x) x.heap.objects) (Rattle.std.proofs.Common.map value_type descriptor.parameters) arguments
      → IsResultSort descriptor.result → HasStack (here x) S s
      → Does x insn (with_stack x.given (result_types descriptor.result ++ S)) (Ok (memory_of x, Enters d receiver arguments s))
  enters_ok insn descriptor d receiver arguments S s enterable falls plain received described fit sort hs =
      stays x h insn (with_stack x.given (result_types descriptor.result ++ S)) (Enters d receiver arguments s) (
        enterable,
        falls,
        plain,
        received,
        record { descriptor = descriptor; described = described; fit = fit },
        handler_locals insn,
        λ later values g f. record {
          locals = locals_later (here x) later g x.given.locals x.frame.locals h.holding.locals;
          stack = resulted (moved (here x) later) descriptor.result values S s sort f (stack_later (here x) later g S s hs);
          ready = ready_later (here x) later g x.given.flag_this_uninit h.holding.ready;
        },
      )

pub sorts_mapped : (parameters : List (FieldTypeOf (List ℕ))) → AreSorts parameters
    → AllByRecursion IsSort (Rattle.std.proofs.Common.map value_type parameters)
sorts_mapped [] h = tt
sorts_mapped (t ∷ parameters) h = (h.0, sorts_mapped parameters h.1)
