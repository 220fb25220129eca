-- An instruction that names a field or a method and leaves a frame meets with all that it wants on the stack before it.
use Rattle.std.proofs.Common.{◌≡◌, Bool, true, false, List, [], ◌∷◌, ◌++◌, Option, Some, refl, sym, ap, subst, ◌∙◌, ℕ}
use Rattle.std.specs.Prelude.{◌&&◌, not, if◌then◌else◌}
use Rattle.std.specs.List.{list_all}
use Rattle.std.proofs.Math.Bool.{or-true}
use Rattle.std.proofs.lemmas.List.{append-nil}
use Rattle.jv_format.specs.Format.{◌>>=◌}
use Rattle.jv_format.proofs.Laws.{bind_some}
use Rattle.jv_text.specs.Name.{is_init}
use Rattle.jv_stackmap.specs.declared.verification.VerificationTypeOf.TheVariants as types
use Rattle.jv_stackmap.specs.Types.{FrameType}
use Rattle.jv_stackmap.specs.Frames.{Frame}
use Rattle.jv_code.specs.declared.kinds.FieldAccess.{FieldAccess}
use Rattle.jv_code.specs.declared.kinds.FieldAccess.TheVariants as access
use Rattle.jv_code.specs.declared.kinds.Invocation.{Invocation}
use Rattle.jv_code.specs.declared.kinds.Invocation.TheVariants as invocations
use Rattle.jv_meaning_world.specs.Flow.{flows}
use Rattle.jv_meaning_world.specs.FrameFlow.{item_flows}
use Rattle.jv_meaning_typing.specs.Environment.{Environment}
use Rattle.jv_meaning_typing.specs.FrameChanges.{taken, taken_as_all, with_stack}
use Rattle.jv_meaning_typing.specs.MemberRules.{access_field, called_on, construct_top, counts_arguments, field_guard, field_rule, goes_with_version, has_plain_name, invoke, invoke_init, invoke_interface, invoke_interface_rule, invoke_rule, invoke_special, invoke_super, is_near, is_of_class, method_guard, sets_own_field, taken_for_store}
use Rattle.jv_meaning_typing.specs.Named.{FieldUse, MethodUse, current_type, field_named_by, method_named_by, when}
use Rattle.jv_operands.specs.declared.want.Want.TheVariants as wants
use Rattle.jv_operands.specs.Unmet.{is_met}
use Rattle.jv_operands.specs.Wants.{FrameWant, field_wants, interface_wants, invoke_wants, of_type, of_types, special_receiver, stored_to}
use Rattle.jv_operands.proofs.Taking.{Takes, all_met, and_parts, if_some, met, takes_all, takes_both, takes_first, takes_one}
use Rattle.jv_operands.proofs.Unsafe.{exchange_met, if_none}

module _ (env : Environment) where
  -- ---- fields

  store_flows : (field : FieldUse) (item : FrameType) → item_flows env.world item field.owner ≡ true → is_met env.world (stored_to env field) item ≡ true
  store_flows field item e = either (sets_own_field env field)
    where
      either : (own : Bool) → is_met env.world (if own then wants.Either field.owner types.UninitializedThis else wants.Type field.owner) item ≡ true
      either true = rw e refl
      either false = e

  store_this : (field : FieldUse) → sets_own_field env field ≡ true → is_met env.world (stored_to env field) types.UninitializedThis ≡ true
  store_this field e = rw e (or-true (item_flows env.world types.UninitializedThis field.owner))

  flows_to_owner : (field : FieldUse) (item : FrameType) (under below : List FrameType)
      → taken_as_all env.world (field.owner ∷ field_guard env field) (item ∷ under) ≡ Some below → (is_met env.world (stored_to env field) item ≡ true) × (under ≡ below)
  flows_to_owner field item under below e =
      let (all, same) = if_some (list_all (item_flows env.world item) (field.owner ∷ field_guard env field)) under below e in
      (store_flows field item (and_parts (item_flows env.world item field.owner) (list_all (item_flows env.world item) (field_guard env field)) all).0, same)

  takes_store : (field : FieldUse) → Takes env.world (stored_to env field ∷ []) (taken_for_store env field)
  takes_store field = takes_one env.world (stored_to env field) (taken_for_store env field) refl found
    where
      found : (item : FrameType) (under below : List FrameType) → taken_for_store env field (item ∷ under) ≡ Some below
          → (is_met env.world (stored_to env field) item ≡ true) × (under ≡ below)
      found types.UninitializedThis under below e =
          let (own, same) = if_some (sets_own_field env field) under below e in
          (store_this field own, same)
      found types.Top under below e = flows_to_owner field types.Top under below e
      found types.Int under below e = flows_to_owner field types.Int under below e
      found types.Long under below e = flows_to_owner field types.Long under below e
      found types.Null under below e = flows_to_owner field types.Null under below e
      found (types.Class name) under below e = flows_to_owner field (types.Class name) under below e
      found (types.Array components) under below e = flows_to_owner field (types.Array components) under below e
      found (types.Uninitialized offset) under below e = flows_to_owner field (types.Uninitialized offset) under below e

  field_met : (a : FieldAccess) (field : FieldUse) (frame left : Frame) → access_field env a field frame ≡ Some left
      → all_met env.world (field_wants env a (Some field)) frame.stack ≡ true
  field_met access.GetStatic field frame left e = refl
  field_met access.PutStatic field frame left e = exchange_met env.world (field.type ∷ []) [] frame left e
  field_met access.GetField field frame left e =
      met env.world (of_type field.owner ∷ []) (taken_as_all env.world (field.owner ∷ field_guard env field))
      (takes_first env.world field.owner (field_guard env field)) frame.stack (λ below. Some (with_stack frame (field.type ∷ below))) left e
  field_met access.PutField field frame left e =
      met env.world (of_type field.type ∷ stored_to env field ∷ []) (λ s. taken env.world (field.type ∷ []) s >>= taken_for_store env field)
      (takes_both env.world (of_types (field.type ∷ [])) (stored_to env field ∷ []) (taken env.world (field.type ∷ [])) (taken_for_store env field)
      (takes_all env.world (field.type ∷ [])) (takes_store field)) frame.stack (λ below. Some (with_stack frame below)) left e

  pub field_rule_met : (a : FieldAccess) (index : ℕ) (frame left : Frame) → field_rule env a index frame ≡ Some left
      → all_met env.world (field_wants env a (field_named_by env index)) frame.stack ≡ true
  field_rule_met a index frame left e =
      let (field, was, after) = bind_some (field_named_by env index) (λ field. access_field env a field frame) left e in
      subst (λ (o : Option FieldUse). all_met env.world (field_wants env a o) frame.stack ≡ true) (sym was) (field_met a field frame left after)

  -- ---- methods

  called_met : (method : MethodUse) (type : FrameType) (more : List FrameType) (frame left : Frame) → called_on env method (type ∷ more) frame ≡ Some left
      → all_met env.world (of_types method.arguments ++ of_type type ∷ []) frame.stack ≡ true
  called_met method type more frame left e =
      subst (λ (ws : List FrameWant). all_met env.world ws frame.stack ≡ true) (append-nil (of_types method.arguments ++ of_type type ∷ []))
      (met env.world (of_types method.arguments ++ of_type type ∷ []) (λ s. taken env.world method.arguments s >>= taken_as_all env.world (type ∷ more))
      (takes_both env.world (of_types method.arguments) (of_type type ∷ []) (taken env.world method.arguments) (taken_as_all env.world (type ∷ more))
      (takes_all env.world method.arguments) (takes_first env.world type more)) frame.stack (λ below. Some (with_stack frame (method.result ++ below))) left e)

  constructs_met : (method : MethodUse) (frame left : Frame) (stack : List FrameType) → construct_top env method frame stack ≡ Some left
      → all_met env.world (wants.Uninitialized ∷ []) stack ≡ true
  constructs_met method frame left [] e = absurd cc
  constructs_met method frame left (types.UninitializedThis ∷ below) e = refl
  constructs_met method frame left (types.Uninitialized offset ∷ below) e = refl
  constructs_met method frame left (types.Top ∷ below) e = absurd cc
  constructs_met method frame left (types.Int ∷ below) e = absurd cc
  constructs_met method frame left (types.Long ∷ below) e = absurd cc
  constructs_met method frame left (types.Null ∷ below) e = absurd cc
  constructs_met method frame left (types.Class name ∷ below) e = absurd cc
  constructs_met method frame left (types.Array components ∷ below) e = absurd cc

  init_met : (method : MethodUse) (frame left : Frame) → invoke_init env method frame ≡ Some left
      → all_met env.world (of_types method.arguments ++ wants.Uninitialized ∷ []) frame.stack ≡ true
  init_met method frame left e =
      let (below, was, after) = bind_some (taken env.world method.arguments frame.stack) (construct_top env method frame) left e in
      takes_all env.world method.arguments frame.stack below was (wants.Uninitialized ∷ []) (constructs_met method frame left below after)

  super_met : (method : MethodUse) (frame left : Frame) → invoke_super env method frame ≡ Some left
      → all_met env.world (of_types method.arguments ++ of_type (current_type env) ∷ []) frame.stack ≡ true
  super_met method frame left e =
      called_met method (current_type env) [] frame left
      (if_none (has_plain_name method && flows env.world (current_type env) method.owner && is_near env method.reference.class)
      (called_on env method (current_type env ∷ []) frame) left e)

  special_met : (method : MethodUse) (frame left : Frame) → invoke_special env method frame ≡ Some left
      → all_met env.world (of_types method.arguments ++ special_receiver env method ∷ []) frame.stack ≡ true
  special_met method frame left e = by (is_init method.reference.name) e
    where
      by : (init : Bool) → (if init then invoke_init env method frame else invoke_super env method frame) ≡ Some left
          → all_met env.world (of_types method.arguments ++ (if init then wants.Uninitialized else of_type (current_type env)) ∷ []) frame.stack ≡ true
      by true h = init_met method frame left h
      by false h = super_met method frame left h

  invoked_met : (how : Invocation) (method : MethodUse) (frame left : Frame) → invoke env how method frame ≡ Some left
      → all_met env.world (invoke_wants env how (Some method)) frame.stack ≡ true
  invoked_met invocations.Virtual method frame left e =
      called_met method method.owner (method_guard env method) frame left
      (if_none (is_of_class method.constant && has_plain_name method) (called_on env method (method.owner ∷ method_guard env method) frame) left e)
  invoked_met invocations.Special method frame left e = special_met method frame left e
  invoked_met invocations.Static method frame left e =
      subst (λ (ws : List FrameWant). all_met env.world ws frame.stack ≡ true) (sym (append-nil (of_types method.arguments)))
      (exchange_met env.world method.arguments method.result frame left (if_none (has_plain_name method) _ left e))

  pub invoke_rule_met : (how : Invocation) (index : ℕ) (frame left : Frame) → invoke_rule env how index frame ≡ Some left
      → all_met env.world (invoke_wants env how (method_named_by env index)) frame.stack ≡ true
  invoke_rule_met how index frame left e =
      let (named, was, goes) = bind_some (method_named_by env index) (λ m. when (goes_with_version env m) m >>= λ m. invoke env how m frame) left e in
      let (method, first, after) = bind_some (when (goes_with_version env named) named) (λ m. invoke env how m frame) left goes in
      let (_, same) = if_some (goes_with_version env named) named method first in
      subst (λ (o : Option MethodUse). all_met env.world (invoke_wants env how o) frame.stack ≡ true) (sym (was ∙ ap (λ (m : MethodUse). Some m) same))
      (invoked_met how method frame left after)

  pub interface_rule_met : (index count : ℕ) (frame left : Frame) → invoke_interface_rule env index count frame ≡ Some left
      → all_met env.world (interface_wants (method_named_by env index)) frame.stack ≡ true
  interface_rule_met index count frame left e =
      let (method, was, after) = bind_some (method_named_by env index) (λ m. invoke_interface env count m frame) left e in
      subst (λ (o : Option MethodUse). all_met env.world (interface_wants o) frame.stack ≡ true) (sym was)
      (called_met method method.owner [] frame left
      (if_none (not (is_of_class method.constant) && has_plain_name method && counts_arguments method count) (called_on env method (method.owner ∷ []) frame) left after))
