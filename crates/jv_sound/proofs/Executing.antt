-- Each instruction at a frame of its types does what such a frame goes on with: the lemmas of all instructions, side by side.
use Rattle.std.proofs.Common.{◌≡◌, ℕ, Bool, true, false, not, List, [], ◌∷◌, length, Option, Some, None, refl, sym, ap, subst, ◌∙◌}
use Rattle.std.specs.Prelude.{IsTrue, IsSome, is_some, nat_lt}
use Rattle.std.specs.List.{Contains, list_all, list_any}
use Rattle.std.specs.Str.{bytes_eq}
use Rattle.jv_text.specs.Name.{is_array_name, is_init}
use Rattle.jv_text.specs.Descriptor.{MethodDescriptor}
use Rattle.jv_text.specs.Types.{method_type_of}
use Rattle.jv_code.specs.declared.insn.Insn.TheVariants as insns
use Rattle.jv_code.specs.declared.kinds.FieldAccess.{FieldAccess}
use Rattle.jv_code.specs.declared.kinds.FieldAccess.TheVariants as access
use Rattle.jv_code.specs.declared.kinds.Invocation.{Invocation}
use Rattle.jv_code.specs.declared.kinds.Invocation.TheVariants as invocations
use Rattle.jv_code.specs.declared.kinds.Test.{Test}
use Rattle.jv_code.specs.declared.kinds.Test.TheVariants as tests
use Rattle.jv_code.specs.Insns.{Instruction}
use Rattle.jv_code.specs.Successors.{jump_targets}
use Rattle.jv_meaning_world.specs.World.{Loaded, World, class_named}
use Rattle.jv_meaning_world.specs.Verdicts.{is_loadable}
use Rattle.jv_meaning_world.proofs.Up.{named_stands, same_name}
use Rattle.jv_meaning_world.proofs.OrderChains.{all_at, any_found}
use Rattle.jv_meaning_typing.specs.Operands.{class_operand}
use Rattle.jv_meaning_typing.specs.Environment.{current_class, instruction_at, offset_behind}
use Rattle.jv_meaning_typing.specs.MemberRules.{class_of_new}
use Rattle.jv_meaning_typing.specs.Named.{when, operand_name}
use Rattle.jv_meaning_typing.specs.Rule.{effect, rule, within_stack}
use Rattle.jv_meaning_typing.proofs.Starts.{start_within}
use Rattle.jv_meaning_machine.specs.Frames.{MethodFrame, Frame}
use Rattle.jv_meaning_machine.specs.Objects.{Object}
use Rattle.jv_meaning_machine.specs.State.{Program, Memory, Control, is_class_accepted}
use Rattle.jv_meaning_machine.specs.Alone.{AreUnits}
use Rattle.jv_meaning_machine.specs.Effects.{Context}
use Rattle.jv_meaning_machine.specs.Initialization.{is_verified}
use Rattle.jv_meaning_machine.specs.Instructions.{execute}
use Rattle.jv_meaning_machine.specs.Step.{context}
use Rattle.jv_sound.specs.Values.{Heap}
use Rattle.jv_sound.specs.Memory.{IsTypedMemory}
use Rattle.jv_sound.specs.Sound.{IsSound, IsChecked}
use Rattle.jv_sound.specs.Frames.{IsRunning, AreVerified, place_of}
use Rattle.jv_sound.specs.Effects.{AreEffects}
use Rattle.jv_sound.proofs.Logic.{clash, Agrees}
use Rattle.jv_sound.proofs.Formats.{chained}
use Rattle.jv_sound.proofs.Formed.{IsFormed, is_void}
use Rattle.jv_sound.proofs.Taking.{and_parts}
use Rattle.jv_sound.proofs.Leads.{target_there}
use Rattle.jv_sound.proofs.Asked.{AreFormed, interfaces_are_static, concrete_have_code, constructor_rules, constructors_have_code, static_have_code}
use Rattle.jv_sound.proofs.HostMethods.{built_in}
use Rattle.jv_sound.proofs.Limits.{instruction_fits}
use Rattle.jv_sound.proofs.Pools.{named_field_is_sort, named_method_has_sorts, string_has_units}
use Rattle.jv_sound.proofs.SystemFacts as facts
use Rattle.jv_sound.proofs.SystemFacts.{raised, link_error_is_thrown, object_has_none, out_of_memory_is_thrown, string_there_in, throwable_in, root_in}
use Rattle.jv_sound.proofs.Pure as pure
use Rattle.jv_sound.proofs.LocalInstructions.{load_ok, store_word_ok, store_long_ok}
use Rattle.jv_sound.proofs.Branches.{has_targets, goto_ok, if_int_ok, if_ints_ok, if_null_ok, if_references_ok, table_switch_ok, lookup_switch_ok}
use Rattle.jv_sound.proofs.StackForms.{stack_ok}
use Rattle.jv_sound.proofs.Increments.{increment_ok}
use Rattle.jv_sound.proofs.Returns.{return_value_ok, return_ok}
use Rattle.jv_sound.proofs.LongConstants.{pool_long_ok}
use Rattle.jv_sound.proofs.Constants.{pool_constant_ok}
use Rattle.jv_sound.proofs.Lengths.{array_length_ok}
use Rattle.jv_sound.proofs.ArrayLoads.{array_load_ok, reference_array_load_ok}
use Rattle.jv_sound.proofs.ArrayStores.{array_store_ok, reference_array_store_ok}
use Rattle.jv_sound.proofs.NewArrays.{new_array_ok, new_reference_array_ok, new_multi_array_ok}
use Rattle.jv_sound.proofs.Casts.{check_cast_ok, instance_of_ok}
use Rattle.jv_sound.proofs.Throwing.{throw_ok}
use Rattle.jv_sound.proofs.GetField.{get_field_ok}
use Rattle.jv_sound.proofs.PutField.{put_field_ok}
use Rattle.jv_sound.proofs.StaticFields.{get_static_ok, put_static_ok}
use Rattle.jv_sound.proofs.StaticCalls.{invoke_static_ok}
use Rattle.jv_sound.proofs.InstanceCalls.{IsRoot}
use Rattle.jv_sound.proofs.VirtualCalls.{invoke_virtual_ok, invoke_interface_ok}
use Rattle.jv_sound.proofs.ConstructorCalls.{invoke_special_ok}
use Rattle.jv_sound.proofs.NewObjects.{new_ok}
use Rattle.jv_sound.proofs.Ways.{Setting, IsSet, world_of, program_of, memory_of, here, Sound}
use Rattle.jv_sound.proofs.Ways as ways
use Rattle.jv_sound.proofs.Memories.{loadable_of}
use Rattle.jv_sound.proofs.Stepping.{rule_ok}

-- what the machine throws in an instruction is among the classes of the system that are thrown
all_raised : list_all (λ (name : List ℕ). list_any (bytes_eq name) facts.raised_names) ways.raised_names ≡ true
all_raised = refl

raised_in_system : (name : List ℕ) → IsTrue (list_any (bytes_eq name) ways.raised_names)
    → IsTrue (list_any (bytes_eq name) facts.raised_names)
raised_in_system name h =
    let found = any_found (bytes_eq name) ways.raised_names h in
    subst (λ (n : List ℕ). IsTrue (list_any (bytes_eq n) facts.raised_names)) (sym (same_name name found.0 found.2))
    (all_at (λ (name : List ℕ). list_any (bytes_eq name) facts.raised_names) ways.raised_names found.0 all_raised found.1)

abbrev two_names : List (List ℕ)
two_names = Rattle.jv_meaning_machine.specs.Effects.division_by_zero ∷
    Rattle.jv_meaning_machine.specs.Effects.null_pointer ∷ []

two_among : list_all (λ (name : List ℕ). list_any (bytes_eq name) ways.raised_names) two_names ≡ true
two_among = refl

two_raised : (name : List ℕ) → IsTrue (list_any (bytes_eq name) two_names) → IsTrue (list_any (bytes_eq name) ways.raised_names)
two_raised name h =
    let found = any_found (bytes_eq name) two_names h in
    subst (λ (n : List ℕ). IsTrue (list_any (bytes_eq n) ways.raised_names)) (sym (same_name name found.0 found.2))
    (all_at (λ (name : List ℕ). list_any (bytes_eq name) ways.raised_names) two_names found.0 two_among found.1)

-- a descriptor of no result
void_result : (o : Option MethodDescriptor) (d : MethodDescriptor) → o ≡ Some d → is_void o ≡ true → d.result ≡ None
void_result None d e h = absurd (clash h)
void_result (Some c) d e h = by_result c.result refl h
  where
    same_descriptor : c ≡ d
    same_descriptor = cc

    by_result : (o : Option _) → c.result ≡ o → Rattle.std.specs.Prelude.is_none o ≡ true → d.result ≡ None
    by_result None k h = ap (λ (x : MethodDescriptor). x.result) (sym same_descriptor) ∙ k
    by_result (Some t) k h = absurd (clash h)

module _ (x : Setting) (sound : IsSound (program_of x)) (formed : AreFormed (program_of x)) (units : AreUnits x.base.units)
    (checked : IsChecked (program_of x) x.frame.method) (h : IsSet x) where
  current_stands : Contains (world_of x) x.frame.method.site.by
  current_stands = named_stands (world_of x) x.frame.method.site.by.class.name x.frame.method.site.by checked.enterable.here

  current_formed : IsFormed (current_class x.frame.method)
  current_formed = (formed.each x.frame.method.site.by current_stands).0

  not_true : (b : Bool) → not b ≡ true → b ≡ false
  not_true false e = refl
  not_true true e = absurd (clash e)

  -- no `new` of the method names an array
  new_plain : (offset : ℕ) (text : List ℕ) → class_of_new x.frame.method (instruction_at x.frame.method offset) ≡ Some text
      → is_array_name text ≡ false
  new_plain offset text e = by_insn (instruction_at x.frame.method offset) refl e
    where
      some_there : {A : Type 0} (o : Option A) → is_some o ≡ true → (a : A) × (o ≡ Some a)
      some_there None h = absurd (clash h)
      some_there (Some a) h = (a, refl)

      by_when : (b : Bool) (t name : List ℕ) → (when (not b) t) ≡ Some name → b ≡ false
      by_when false t name k = refl
      by_when true t name k = absurd cc

      by_insn : (o : Option Instruction) → instruction_at x.frame.method offset ≡ o → class_of_new x.frame.method o ≡ Some text
          → is_array_name text ≡ false
      by_insn None stands f = absurd cc
      by_insn (Some (insns.New index)) stands f =
          let leaves = (checked.typing.below offset (insns.New index) stands
          (start_within x.frame.method offset (insns.New index) checked.is stands)).leaves in
          let g = some_there (rule x.frame.method offset (insns.New index) (checked.frames offset)) leaves in
          let done = chained (effect x.frame.method offset (insns.New index) (checked.frames offset))
          (within_stack x.frame.method) g.0 g.1 in
          let named = chained (operand_name x.frame.method index) _ done.0 done.1 in
          let operand = chained (class_operand (current_class x.frame.method) index)
          (λ t. when (not (is_array_name t)) t) named.0 named.1 in
          let same : operand.0 ≡ text = same_text operand.0 (sym operand.1 ∙ f) in
          ap is_array_name (sym same) ∙ by_when (is_array_name operand.0) operand.0 named.0 operand.2
        where
          same_text : (t : List ℕ) → Some t ≡ Some text → t ≡ text
          same_text t k = cc
      by_insn (Some _) stands f = absurd cc

  accepted_is_loadable : (l : Loaded) → class_named (world_of x) l.class.name ≡ Some l → IsTrue (is_verified (program_of x) l)
      → IsTrue (is_loadable (world_of x) l)
  accepted_is_loadable l there v = sound.loadable l (named_stands (world_of x) l.class.name l there)
      (and_parts (is_class_accepted (program_of x) l) _ v).0

  root_facts : IsRoot (program_of x) (root_in (program_of x) sound).0
  root_facts = let r = root_in (program_of x) sound in record { named = r.1; verified = r.2; loadable = r.3 }

  constructors_are_void : IsTrue (is_init x.frame.method.site.method.name) → x.frame.method.descriptor.result ≡ None
  constructors_are_void init =
      void_result (method_type_of x.frame.method.site.method.descriptor) x.frame.method.descriptor checked.is.descriptor
      (constructor_rules (program_of x) formed sound.named units x.frame.method.site checked.enterable.here checked.enterable.declared
      init).0

  -- ---- one instruction

  module _ (targets : (insn : Instruction) → instruction_at x.frame.method x.frame.offset ≡ Some insn → (o : Option ℕ)
      → Contains (jump_targets x.frame.offset insn) o → IsSome o) where
    field_ok : (how : FieldAccess) (index : ℕ) → Sound x (insns.Field how index)
    field_ok access.GetStatic index = get_static_ok x h index (named_field_is_sort (current_class x.frame.method) current_formed index)
    field_ok access.PutStatic index = put_static_ok x h index (named_field_is_sort (current_class x.frame.method) current_formed index)
    field_ok access.GetField index = get_field_ok x h (interfaces_are_static (program_of x) formed sound.named units)
        (object_has_none (program_of x) sound) index (named_field_is_sort (current_class x.frame.method) current_formed index)
    field_ok access.PutField index = put_field_ok x h (interfaces_are_static (program_of x) formed sound.named units)
        (object_has_none (program_of x) sound) index (named_field_is_sort (current_class x.frame.method) current_formed index)

    call_ok : (how : Invocation) (index : ℕ) → Sound x (insns.Invoke how index)
    call_ok invocations.Virtual index =
        invoke_virtual_ok x h (concrete_have_code (program_of x) formed sound.named units)
        (root_in (program_of x) sound).0 root_facts accepted_is_loadable index
        (named_method_has_sorts (current_class x.frame.method) current_formed index)
    call_ok invocations.Static index =
        invoke_static_ok x h index (named_method_has_sorts (current_class x.frame.method) current_formed index)
        (static_have_code (program_of x) formed sound.named units) (built_in (program_of x) sound)
    call_ok invocations.Special index =
        invoke_special_ok x h (concrete_have_code (program_of x) formed sound.named units)
        (root_in (program_of x) sound).0 root_facts accepted_is_loadable checked.enterable index
        (named_method_has_sorts (current_class x.frame.method) current_formed index)
        (constructors_have_code (program_of x) formed sound.named units)
        (not_true (is_array_name (current_class x.frame.method).name) current_formed.named) current_formed.superclass new_plain

    branch_ok : (test : Test) (distance : _) → instruction_at x.frame.method x.frame.offset ≡ Some (insns.Branch test distance)
        → Sound x (insns.Branch test distance)
    branch_ok (tests.IfInt condition) distance stands = if_int_ok x h condition distance
        (has_targets x (insns.Branch (tests.IfInt condition) distance) (targets (insns.Branch (tests.IfInt condition) distance) stands))
    branch_ok (tests.IfInts condition) distance stands = if_ints_ok x h condition distance
        (has_targets x (insns.Branch (tests.IfInts condition) distance) (targets (insns.Branch (tests.IfInts condition) distance) stands))
    branch_ok (tests.IfReferences equality) distance stands = if_references_ok x h equality distance
        (has_targets x (insns.Branch (tests.IfReferences equality) distance)
        (targets (insns.Branch (tests.IfReferences equality) distance) stands))
    branch_ok (tests.IfNull equality) distance stands = if_null_ok x h equality distance
        (has_targets x (insns.Branch (tests.IfNull equality) distance) (targets (insns.Branch (tests.IfNull equality) distance) stands))

    some_dimensions : (index dimensions : ℕ) → instruction_at x.frame.method x.frame.offset ≡ Some (insns.NewMultiArray index dimensions)
        → nat_lt 0 dimensions ≡ true
    some_dimensions index dimensions stands =
        (and_parts _ (nat_lt 0 dimensions) (and_parts _ _ (instruction_fits x.frame.method x.frame.offset
        (insns.NewMultiArray index dimensions) checked.is stands)).1).1

    pub instruction_ok : (insn : Instruction) → instruction_at x.frame.method x.frame.offset ≡ Some insn → Sound x insn
    instruction_ok insns.Nop stands = pure.nop_ok x.base x.states x.rest x.heap x.depth x.frame x.made x.given h.rooted h.loadable h.typed
        (λ name k. h.thrown name (two_raised name k)) h.holding
    instruction_ok insns.NullConstant stands = pure.null_ok x.base x.states x.rest x.heap x.depth x.frame x.made x.given h.rooted h.loadable
        h.typed (λ name k. h.thrown name (two_raised name k)) h.holding
    instruction_ok (insns.Compute what) stands = pure.pure_ok x.base x.states x.rest x.heap x.depth x.frame x.made x.given h.rooted
        h.loadable h.typed (λ name k. h.thrown name (two_raised name k)) h.holding what
    instruction_ok (insns.Division kind operator) stands = pure.division_ok x.base x.states x.rest x.heap x.depth x.frame x.made x.given
        h.rooted h.loadable h.typed (λ name k. h.thrown name (two_raised name k)) h.holding kind operator
    instruction_ok (insns.PoolConstant index form) stands =
        let string = string_there_in (program_of x) sound in
        pool_constant_ok x h string.0 string.1 string.2 (string_has_units
        (current_class x.frame.method) current_formed x.base.units units) index form
    instruction_ok (insns.PoolLongConstant index) stands = pool_long_ok x h index
    instruction_ok (insns.Load kind index form) stands = load_ok x.base x.states x.rest x.heap x.depth x.frame x.made x.given h.rooted
        h.loadable h.typed h.holding kind index form
    instruction_ok (insns.Store kind index form) stands = store_word_ok x.base x.states x.rest x.heap x.depth x.frame x.made x.given
        h.rooted h.loadable h.typed h.holding kind index form
    instruction_ok (insns.StoreLong index form) stands = store_long_ok x.base x.states x.rest x.heap x.depth x.frame x.made x.given h.rooted
        h.loadable h.typed h.holding index form
    instruction_ok (insns.ArrayLoad element) stands = array_load_ok x h element
    instruction_ok insns.ReferenceArrayLoad stands = reference_array_load_ok x h
    instruction_ok (insns.ArrayStore element) stands = array_store_ok x h element
    instruction_ok insns.ReferenceArrayStore stands = reference_array_store_ok x h
    instruction_ok (insns.Stack form) stands = stack_ok x h form
    instruction_ok (insns.Increment index value form) stands = increment_ok x h index value form
    instruction_ok (insns.Branch test distance) stands = branch_ok test distance stands
    instruction_ok (insns.Goto distance form) stands = goto_ok x h distance form
        (has_targets x (insns.Goto distance form) (targets (insns.Goto distance form) stands))
    instruction_ok (insns.TableSwitch padding default low high distances) stands =
        table_switch_ok x h padding default low high distances (has_targets x (insns.TableSwitch padding default low high distances)
        (targets (insns.TableSwitch padding default low high distances) stands))
    instruction_ok (insns.LookupSwitch padding default pairs) stands =
        lookup_switch_ok x h padding default pairs (has_targets x (insns.LookupSwitch padding default pairs)
        (targets (insns.LookupSwitch padding default pairs) stands))
    instruction_ok (insns.ReturnValue kind) stands = return_value_ok x h constructors_are_void kind
    instruction_ok insns.Return stands = return_ok x h constructors_are_void
    instruction_ok (insns.Field how index) stands = field_ok how index
    instruction_ok (insns.Invoke how index) stands = call_ok how index
    instruction_ok (insns.InvokeInterface index count) stands =
        invoke_interface_ok x h (concrete_have_code (program_of x) formed sound.named units)
        (root_in (program_of x) sound).0 root_facts accepted_is_loadable index
        (named_method_has_sorts (current_class x.frame.method) current_formed index) count
    instruction_ok (insns.New index) stands = new_ok x h index stands
    instruction_ok (insns.NewArray element) stands = new_array_ok x h element
    instruction_ok (insns.NewReferenceArray index) stands = new_reference_array_ok x h index
    instruction_ok (insns.NewMultiArray index dimensions) stands = new_multi_array_ok x h index dimensions
        (some_dimensions index dimensions stands)
    instruction_ok insns.ArrayLength stands = array_length_ok x h
    instruction_ok insns.Throw stands = let t = throwable_in (program_of x) sound in throw_ok x h t.0 t.1 t.2
    instruction_ok (insns.CheckCast index) stands = check_cast_ok x h index
    instruction_ok (insns.InstanceOf index) stands = instance_of_ok x h index

-- ---- in a frame of a sound program

-- the setting of a frame that runs
abbrev setting_of : (program : Program) (memory : Memory) (control : Control) (heap : Heap) (depth : ℕ) (frame : MethodFrame)
    → IsRunning program heap depth frame → Setting
setting_of program memory control heap depth frame r =
    record {
      base = program;
      states = control.states;
      rest = memory;
      heap = heap;
      depth = depth;
      frame = frame;
      made = r.made;
      given =
          r.checked.frames frame.offset;
    }

module _ (program : Program) (sound : IsSound program) (formed : AreFormed program) (units : AreUnits program.units) (memory : Memory)
    (control : Control) (heap : Heap) (depth : ℕ) (frame : MethodFrame) (r : IsRunning program heap depth frame)
    (is : heap.objects ≡ memory.objects) (typed : IsTypedMemory program memory) (verified : AreVerified program control.states) where
  abbrev x : Setting
  x = setting_of program memory control heap depth frame r

  abbrev in_program : Program → Memory → Context
  in_program p m = record { program = p; states = control.states; memory = m; frame = frame; next = offset_behind frame.offset r.insn }

  same_program : program_of x ≡ program
  same_program = ap (λ (w : World). record program { world = w }) r.checked.world

  same_memory : memory_of x ≡ memory
  same_memory = ap (λ (os : List Object). record memory { objects = os }) is

  own_sound : IsSound (program_of x)
  own_sound = subst (λ (p : Program). IsSound p) (sym same_program) sound

  own_formed : AreFormed (program_of x)
  own_formed = subst (λ (p : Program). AreFormed p) (sym same_program) formed

  own_checked : IsChecked (program_of x) frame.method
  own_checked = subst (λ (p : Program). IsChecked p frame.method) (sym same_program) r.checked

  own_typed : IsTypedMemory (program_of x) (memory_of x)
  own_typed = subst (λ (p : Program). IsTypedMemory p (memory_of x)) (sym same_program)
      (subst (λ (m : Memory). IsTypedMemory program m) (sym same_memory) typed)

  set : IsSet x
  set = record {
    rooted = own_sound.rooted;
    alone = own_sound.alone;
    loadable = loadable_of (program_of x) heap (memory_of x) refl own_typed;
    typed = own_typed;
    verified = subst (λ (p : Program). AreVerified p control.states) (sym same_program) verified;
    holding = r.holding;
    thrown = λ name k. raised (program_of x) own_sound name (raised_in_system name k);
    link_errors = link_error_is_thrown (program_of x) own_sound;
    no_memory = out_of_memory_is_thrown (program_of x) own_sound heap.objects own_typed.no_memory;
  }

  targets : (insn : Instruction) → instruction_at frame.method frame.offset ≡ Some insn → (o : Option ℕ)
      → Contains (jump_targets frame.offset insn) o → IsSome o
  targets insn stands o c =
      let given = rule_ok program heap depth frame r in
      target_there frame.method r.checked.maps r.checked.frames r.checked.is r.checked.typing frame.offset insn given.0 o stands
      (ap (λ (i : Instruction). rule frame.method frame.offset i (r.checked.frames frame.offset))
      (same_insn insn (sym stands ∙ r.stands)) ∙ given.1) c
    where
      same_insn : (i : Instruction) → Some i ≡ Some r.insn → i ≡ r.insn
      same_insn i k = cc

  pub executes : Agrees (AreEffects program (place_of heap depth frame r.made) frame r.insn (r.checked.frames frame.offset))
      (effect frame.method frame.offset r.insn (r.checked.frames frame.offset))
      (execute (context program memory control frame r.insn) r.insn)
  executes =
      subst (λ (p : Program). Agrees (AreEffects p (here x) frame r.insn x.given) (effect frame.method frame.offset r.insn x.given)
      (execute (in_program p memory) r.insn)) same_program
      (subst (λ (m : Memory). Agrees (AreEffects (program_of x) (here x) frame r.insn x.given)
      (effect frame.method frame.offset r.insn x.given) (execute (in_program (program_of x) m) r.insn)) same_memory
      (instruction_ok x own_sound own_formed units own_checked set targets r.insn r.stands))

pub execute_ok : (program : Program) → IsSound program → AreFormed program → AreUnits program.units
    → (memory : Memory) (control : Control) (heap : Heap) (frame : MethodFrame) (below : List Frame)
    (r : IsRunning program heap (length below) frame) → heap.objects ≡ memory.objects → IsTypedMemory program memory
    → AreVerified program control.states
    → Agrees (AreEffects program (place_of heap (length below) frame r.made) frame r.insn (r.checked.frames frame.offset))
    (effect frame.method frame.offset r.insn (r.checked.frames frame.offset))
    (execute (context program memory control frame r.insn) r.insn)
execute_ok program sound formed units memory control heap frame below r is typed verified = executes program sound formed units memory
    control heap (length below) frame r is typed verified
