-- Where a want of an instruction is not met, its rule gives no frame.
use Rattle.std.proofs.Common.{◌≡◌, true, List, [], ◌∷◌, ◌++◌, Option, Some, None, refl, ap, subst, ◌∙◌, ℕ, zero, suc}
use Rattle.std.specs.Prelude.{codes, map, replicate, reverse}
use Rattle.std.specs.Option.{option_or}
use Rattle.std.proofs.lemmas.List.{reverse-append}
use Rattle.jv_format.specs.Format.{◌>>=◌}
use Rattle.jv_format.proofs.Laws.{bind_some}
use Rattle.jv_text.specs.declared.descriptor.FieldTypeOf.{FieldTypeOf}
use Rattle.jv_stackmap.specs.declared.verification.VerificationTypeOf.TheVariants as types
use Rattle.jv_stackmap.specs.Types.{value_type}
use Rattle.jv_stackmap.specs.Frames.{Frame}
use Rattle.jv_code.specs.Insns.{Instruction}
use Rattle.jv_code.specs.declared.insn.Insn.TheVariants as insns
use Rattle.jv_code.specs.declared.kinds.Test.TheVariants as tests
use Rattle.jv_code.specs.declared.kinds.ValueKind.{ValueKind}
use Rattle.jv_code.specs.declared.kinds.ValueKind.TheVariants as kinds
use Rattle.jv_meaning_typing.specs.Environment.{Environment}
use Rattle.jv_meaning_typing.specs.FrameChanges.{exchanged, is_of_kind, item_width, with_stack}
use Rattle.jv_meaning_typing.specs.Named.{array_of_operand, array_operand, array_with, class_components, object_class_type, operand_type, throwable_type}
use Rattle.jv_meaning_typing.specs.NumberRules.{computation, element_number, new_array_type, number_type}
use Rattle.jv_meaning_typing.specs.Rule.{effect, rule, within_stack}
use Rattle.jv_meaning_typing.specs.StackForms.{rearranged}
use Rattle.jv_meaning_typing.specs.ValueRules.{return_value, value_kind}
use Rattle.jv_operands.specs.Unmet.{Unmet, first_unmet, first_unmet_item, unmet_local}
use Rattle.jv_operands.specs.Wants.{FrameWant, item_wants, local_want, of_type, of_types, return_wants}
use Rattle.jv_operands.proofs.Taking.{all_met, not_all}
use Rattle.jv_operands.proofs.Unsafe.{exchange_met, form_met, if_none, length_met, load_met, mapped, reference_load_met, store_met, tests_met}
use Rattle.jv_operands.proofs.UnsafeLocals as locals
use Rattle.jv_operands.proofs.UnsafeMembers.{field_rule_met, interface_rule_met, invoke_rule_met}

-- ints for dimensions
one_more : {A : Type 0} (n : ℕ) (x : A) → replicate n x ++ x ∷ [] ≡ x ∷ replicate n x
one_more zero x = refl
one_more (suc n) x = ap (λ (l : List _). x ∷ l) (one_more n x)

turned : {A : Type 0} (n : ℕ) (x : A) → reverse (replicate n x) ≡ replicate n x
turned zero x = refl
turned (suc n) x = reverse-append (x ∷ []) (replicate n x) ∙ (ap (λ (l : List _). l ++ x ∷ []) (turned n x) ∙ one_more n x)

each : {A B : Type 0} (f : A → B) (n : ℕ) (x : A) → map f (replicate n x) ≡ replicate n (f x)
each f zero x = refl
each f (suc n) x = ap (λ (l : List _). f x ∷ l) (each f n x)

pub of_ints : (n : ℕ) → of_types (replicate n types.Int) ≡ replicate n (of_type types.Int)
of_ints n = ap (map of_type) (turned n types.Int) ∙ each of_type n types.Int

module _ (env : Environment) (pc : ℕ) (frame left : Frame) where
  returns_met : (kind : ValueKind) (result : Option (FieldTypeOf (List ℕ))) → return_value env kind result frame ≡ Some left
      → all_met env.world (return_wants result) frame.stack ≡ true
  returns_met kind None e = absurd cc
  returns_met kind (Some result) e =
      exchange_met env.world (value_type result ∷ []) [] frame left
      (if_none (is_of_kind kind (value_type result)) (exchanged env.world (value_type result ∷ []) [] frame) left e)

  items_met : (insn : Instruction) → effect env pc insn frame ≡ Some left → all_met env.world (item_wants env insn) frame.stack ≡ true
  items_met insns.Nop e = refl
  items_met insns.NullConstant e = refl
  items_met (insns.Compute what) e = exchange_met env.world (computation what).takes (computation what).gives frame left e
  items_met (insns.PoolConstant index form) e = refl
  items_met (insns.PoolLongConstant index) e = refl
  items_met (insns.Load kind index form) e = refl
  items_met (insns.Store kind index form) e = locals.popped_met env.world (value_kind kind) index frame left e
  items_met (insns.StoreLong index form) e = locals.popped_met env.world kinds.Long index frame left e
  items_met (insns.ArrayLoad element) e = load_met env.world element frame left (λ below. Some (with_stack frame (element_number element ∷ below))) e
  items_met insns.ReferenceArrayLoad e = reference_load_met env.world frame left e
  items_met (insns.ArrayStore element) e = store_met env.world element frame left (λ below. Some (with_stack frame below)) e
  items_met insns.ReferenceArrayStore e = exchange_met env.world (array_with (class_components (codes "java/lang/Object")) ∷ types.Int ∷ object_class_type ∷ []) [] frame left e
  items_met (insns.Stack form) e =
      let (stack, was) = mapped (with_stack frame) (rearranged item_width form frame.stack) left e in
      form_met env.world form frame.stack stack was
  items_met (insns.Division kind operator) e = exchange_met env.world (number_type kind ∷ number_type kind ∷ []) (number_type kind ∷ []) frame left e
  items_met (insns.Increment index value form) e = refl
  items_met (insns.Branch (tests.IfInt condition) distance) e = exchange_met env.world (types.Int ∷ []) [] frame left e
  items_met (insns.Branch (tests.IfInts condition) distance) e = exchange_met env.world (types.Int ∷ types.Int ∷ []) [] frame left e
  items_met (insns.Branch (tests.IfReferences equality) distance) e = tests_met env.world (tests.IfReferences equality) frame left e
  items_met (insns.Branch (tests.IfNull equality) distance) e = tests_met env.world (tests.IfNull equality) frame left e
  items_met (insns.Goto distance form) e = refl
  items_met (insns.TableSwitch padding default low high distances) e = exchange_met env.world (types.Int ∷ []) [] frame left e
  items_met (insns.LookupSwitch padding default pairs) e = exchange_met env.world (types.Int ∷ []) [] frame left e
  items_met (insns.ReturnValue kind) e = returns_met kind env.descriptor.result e
  items_met insns.Return e = refl
  items_met (insns.Field access index) e = field_rule_met env access index frame left e
  items_met (insns.Invoke how index) e = invoke_rule_met env how index frame left e
  items_met (insns.InvokeInterface index count) e = interface_rule_met env index count frame left e
  items_met (insns.New index) e = refl
  items_met (insns.NewArray element) e = exchange_met env.world (types.Int ∷ []) (new_array_type element ∷ []) frame left e
  items_met (insns.NewReferenceArray index) e =
      let (array, was, after) = bind_some (array_of_operand env index) (λ array. exchanged env.world (types.Int ∷ []) (array ∷ []) frame) left e in
      exchange_met env.world (types.Int ∷ []) (array ∷ []) frame left after
  items_met (insns.NewMultiArray index dimensions) e =
      let (array, was, after) = bind_some (array_operand env index dimensions) (λ array. exchanged env.world (replicate dimensions types.Int) (array ∷ []) frame) left e in
      subst (λ (ws : List FrameWant). all_met env.world ws frame.stack ≡ true) (of_ints dimensions)
      (exchange_met env.world (replicate dimensions types.Int) (array ∷ []) frame left after)
  items_met insns.ArrayLength e = length_met env.world frame left frame.stack e
  items_met insns.Throw e = exchange_met env.world (throwable_type ∷ []) [] frame left e
  items_met (insns.CheckCast index) e =
      let (type, was, after) = bind_some (operand_type env index) (λ type. exchanged env.world (object_class_type ∷ []) (type ∷ []) frame) left e in
      exchange_met env.world (object_class_type ∷ []) (type ∷ []) frame left after
  items_met (insns.InstanceOf index) e =
      let (type, was, after) = bind_some (operand_type env index) (λ type. exchanged env.world (object_class_type ∷ []) (types.Int ∷ []) frame) left e in
      exchange_met env.world (object_class_type ∷ []) (types.Int ∷ []) frame left after

  local_met : (insn : Instruction) → effect env pc insn frame ≡ Some left → unmet_local env.world (local_want insn) frame.locals ≡ None
  local_met insns.Nop e = refl
  local_met insns.NullConstant e = refl
  local_met (insns.Compute what) e = refl
  local_met (insns.PoolConstant index form) e = refl
  local_met (insns.PoolLongConstant index) e = refl
  local_met (insns.Load kind index form) e = locals.load_met env.world kind index frame left e
  local_met (insns.Store kind index form) e = locals.store_met env.world (value_kind kind) index frame left e
  local_met (insns.StoreLong index form) e = locals.store_long_met env.world index frame left e
  local_met (insns.ArrayLoad element) e = refl
  local_met insns.ReferenceArrayLoad e = refl
  local_met (insns.ArrayStore element) e = refl
  local_met insns.ReferenceArrayStore e = refl
  local_met (insns.Stack form) e = refl
  local_met (insns.Division kind operator) e = refl
  local_met (insns.Increment index value form) e = locals.increment_met env.world index frame left e
  local_met (insns.Branch test distance) e = refl
  local_met (insns.Goto distance form) e = refl
  local_met (insns.TableSwitch padding default low high distances) e = refl
  local_met (insns.LookupSwitch padding default pairs) e = refl
  local_met (insns.ReturnValue kind) e = refl
  local_met insns.Return e = refl
  local_met (insns.Field access index) e = refl
  local_met (insns.Invoke how index) e = refl
  local_met (insns.InvokeInterface index count) e = refl
  local_met (insns.New index) e = refl
  local_met (insns.NewArray element) e = refl
  local_met (insns.NewReferenceArray index) e = refl
  local_met (insns.NewMultiArray index dimensions) e = refl
  local_met insns.ArrayLength e = refl
  local_met insns.Throw e = refl
  local_met (insns.CheckCast index) e = refl
  local_met (insns.InstanceOf index) e = refl

-- all that is wanted is there
all_there : (env : Environment) (pc : ℕ) (insn : Instruction) (frame left : Frame) (u : Unmet) → effect env pc insn frame ≡ Some left → first_unmet env insn frame ≡ Some u → ⊥
all_there env pc insn frame left u e unmet =
    absent (first_unmet_item env.world 0 (item_wants env insn) frame.stack) (unmet_local env.world (local_want insn) frame.locals)
    (λ v h. absurd cc (items_met env pc frame left insn e, not_all env.world 0 (item_wants env insn) frame.stack v h)) (local_met env pc frame left insn e) unmet
  where
    absent : (one other : Option Unmet) → ((v : Unmet) → one ≡ Some v → ⊥) → other ≡ None → option_or one other ≡ Some u → ⊥
    absent (Some v) other none last h = none v refl
    absent None other none last h = absurd cc

pub unsafe : (env : Environment) (pc : ℕ) (insn : Instruction) (frame : Frame) (u : Unmet) → first_unmet env insn frame ≡ Some u → rule env pc insn frame ≡ None
unsafe env pc insn frame u unmet = by (effect env pc insn frame) (λ left e. all_there env pc insn frame left u e unmet)
  where
    by : (o : Option Frame) → ((left : Frame) → o ≡ Some left → ⊥) → (o >>= within_stack env) ≡ None
    by None h = refl
    by (Some left) h = absurd (h left refl)
