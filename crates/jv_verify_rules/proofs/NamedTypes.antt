-- Rules on fields and methods that an instruction names, over types with numbers for names.
use Rattle.std.proofs.Common.{◌≡◌, ℕ, ◌+◌, ◌==◌, Bool, true, false, not, ◌&&◌, List, [], ◌∷◌, None, refl, sym, ap, ◌∙◌, if◌then◌else◌}
use Rattle.jv_stackmap.specs.Types.{FrameType, words}
use Rattle.jv_stackmap.specs.Frames.{Frame}
use Rattle.jv_code.specs.declared.kinds.FieldAccess.{FieldAccess}
use Rattle.jv_code.specs.declared.kinds.FieldAccess.TheVariants as accesses
use Rattle.jv_meaning_typing.specs.Environment.{Environment}
use Rattle.jv_meaning_typing.specs.Named.{FieldUse, MethodUse}
use Rattle.jv_meaning_typing.specs.MemberRules.{field_guard, sets_own_field, access_field, has_plain_name, method_guard, called_on, invoke_virtual, counts_arguments, invoke_interface}
use Rattle.jv_verify_types.specs.Typed.{TypeWorld, typed, typed_all}
use Rattle.jv_verify_types.specs.Outcomes.{given}
use Rattle.jv_verify_rules.specs.declared.field_access.FieldOperand.{FieldOperand}
use Rattle.jv_verify_rules.specs.declared.methods.MethodOperand.{MethodOperand}
use Rattle.jv_verify_rules.specs.Operands.{IsField, IsMethod}
use Rattle.jv_verify_rules.specs.Inside.ByTypes.{accessed, called}

module _ (types : TypeWorld) (env : Environment) (field : FieldUse) (operand : FieldOperand) (is : IsField types env field operand) where
  by_access : (access : FieldAccess) (frame : Frame) → access_field env access field frame ≡ accessed env.world access (sets_own_field env field) (field.owner ∷ field_guard env field) field.type frame
  by_access accesses.GetStatic frame = refl
  by_access accesses.PutStatic frame = refl
  by_access accesses.GetField frame = refl
  by_access accesses.PutField frame = refl

  pub accessed_as : (access : FieldAccess) (frame : Frame) → access_field env access field frame
      ≡ accessed types.world access operand.sets_own (typed types.names operand.owner ∷ given types.names operand.guard) (typed types.names operand.value) frame
  accessed_as access frame =
      by_access access frame
      ∙ (ap (λ w. accessed w access (sets_own_field env field) (field.owner ∷ field_guard env field) field.type frame) is.world
      ∙ (ap (λ b. accessed types.world access b (field.owner ∷ field_guard env field) field.type frame) is.sets_own
      ∙ (ap (λ t. accessed types.world access operand.sets_own (t ∷ field_guard env field) field.type frame) is.owner
      ∙ (ap (λ ts. accessed types.world access operand.sets_own (typed types.names operand.owner ∷ ts) field.type frame) is.guard
      ∙ ap (λ t. accessed types.world access operand.sets_own (typed types.names operand.owner ∷ given types.names operand.guard) t frame) is.value))))

module _ (types : TypeWorld) (env : Environment) (method : MethodUse) (operand : MethodOperand) (is : IsMethod types env method operand) where
  pub called_as : (receiver : List FrameType) (frame : Frame) → called_on env method receiver frame
      ≡ called types.world (typed_all types.names operand.arguments.now) receiver (given types.names operand.result) frame
  called_as receiver frame =
      ap (λ w. called w method.arguments receiver method.result frame) is.world
      ∙ (ap (λ ts. called types.world ts receiver method.result frame) is.arguments
      ∙ ap (λ ts. called types.world (typed_all types.names operand.arguments.now) receiver ts frame) is.result)

  pub virtual_called : operand.of_class ≡ true → operand.plain_name ≡ true → (frame : Frame) → invoke_virtual env method frame
      ≡ called types.world (typed_all types.names operand.arguments.now) (typed types.names operand.owner ∷ given types.names operand.guard) (given types.names operand.result) frame
  virtual_called of_class plain_name frame =
      ap (λ b. if b && has_plain_name method then called_on env method (method.owner ∷ method_guard env method) frame else None) (is.of_class ∙ of_class)
      ∙ (ap (λ b. if b then called_on env method (method.owner ∷ method_guard env method) frame else None) (is.plain_name ∙ plain_name)
      ∙ (ap (λ t. called_on env method (t ∷ method_guard env method) frame) is.owner
      ∙ (ap (λ ts. called_on env method (typed types.names operand.owner ∷ ts) frame) is.guard
      ∙ called_as (typed types.names operand.owner ∷ given types.names operand.guard) frame)))

  abbrev is_call : ℕ → Bool
  is_call count = not operand.of_class && operand.plain_name && (count == words (typed_all types.names operand.arguments.now) + 1)

  interface_as : (count : ℕ) (frame : Frame) → invoke_interface env count method frame
      ≡ (if is_call count then called types.world (typed_all types.names operand.arguments.now) (typed types.names operand.owner ∷ []) (given types.names operand.result) frame else None)
  interface_as count frame =
      ap (λ b. if not b && has_plain_name method && counts_arguments method count then called_on env method (method.owner ∷ []) frame else None) is.of_class
      ∙ (ap (λ b. if not operand.of_class && b && counts_arguments method count then called_on env method (method.owner ∷ []) frame else None) is.plain_name
      ∙ (ap (λ ts. if not operand.of_class && operand.plain_name && (count == words ts + 1) then called_on env method (method.owner ∷ []) frame else None) is.arguments
      ∙ (ap (λ t. if is_call count then called_on env method (t ∷ []) frame else None) is.owner
      ∙ ap (λ o. if is_call count then o else None) (called_as (typed types.names operand.owner ∷ []) frame))))

  pub interface_called : (count : ℕ) (test : Bool) → test ≡ is_call count → test ≡ true → (frame : Frame) → invoke_interface env count method frame
      ≡ called types.world (typed_all types.names operand.arguments.now) (typed types.names operand.owner ∷ []) (given types.names operand.result) frame
  interface_called count test is_test e frame =
      interface_as count frame
      ∙ ap (λ b. if b then called types.world (typed_all types.names operand.arguments.now) (typed types.names operand.owner ∷ []) (given types.names operand.result) frame else None) (sym is_test ∙ e)

  pub interface_not_called : (count : ℕ) (test : Bool) → test ≡ is_call count → test ≡ false → (frame : Frame) → invoke_interface env count method frame ≡ None
  interface_not_called count test is_test e frame =
      interface_as count frame
      ∙ ap (λ b. if b then called types.world (typed_all types.names operand.arguments.now) (typed types.names operand.owner ∷ []) (given types.names operand.result) frame else None) (sym is_test ∙ e)
