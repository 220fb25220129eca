-- Worked rows: instructions one behind the other, computed.
use Rattle.std.specs.Prelude.{◌≡◌, true, false, List, [], ◌∷◌, pos, Some, None, codes, is_some}
use Rattle.jv_text.specs.declared.descriptor.Element.TheVariants as elements
use Rattle.jv_stackmap.specs.declared.verification.VerificationTypeOf.TheVariants as types
use Rattle.jv_meaning_world.specs.FrameFlow.{frame_flows}
use Rattle.jv_code.specs.declared.insn.Insn.TheVariants as insns
use Rattle.jv_code.specs.declared.kinds.Computation.TheVariants as compute
use Rattle.jv_code.specs.declared.kinds.IntForm.TheVariants as int_forms
use Rattle.jv_code.specs.declared.kinds.Invocation.TheVariants as invocations
use Rattle.jv_code.specs.declared.kinds.LocalForm.TheVariants as local
use Rattle.jv_code.specs.declared.kinds.LongValue.TheVariants as long_values
use Rattle.jv_code.specs.declared.kinds.StackForm.TheVariants as forms
use Rattle.jv_code.specs.declared.kinds.ValueKind.TheVariants as kinds
use Rattle.jv_code.specs.declared.kinds.WordKind.TheVariants as word_kinds
use Rattle.jv_code.specs.Insns.{Instruction}
use Rattle.jv_meaning_world.specs.Rows.Files.{object_name}
use Rattle.jv_meaning_typing.specs.FrameChanges.{with_stack}
use Rattle.jv_meaning_typing.specs.Named.{throwable_type}
use Rattle.jv_meaning_typing.specs.Environment.{Environment}
use Rattle.jv_meaning_typing.specs.Rule.{rule, handler_frame}
use Rattle.jv_meaning_typing.specs.Rows.Samples.{world, c, of_type, method_of_c, in_m, in_init, frame, flagged, behind_all}

-- ---- an int where an object is returned

abbrev pub gives_object : Environment
gives_object = method_of_c (codes "m") (Some (of_type 0 (elements.Class object_name)))

abbrev pub iconst : Instruction
iconst = insns.Compute (compute.IntConstant (pos 1) int_forms.Opcode)

pub record IntAsObjectRows : Type 0 where
  pub before : is_some (behind_all gives_object 0 (iconst ∷ []) (frame [] [])) ≡ true
  pub areturn : is_some (behind_all gives_object 0 (iconst ∷ insns.ReturnValue kinds.Reference ∷ []) (frame [] [])) ≡ false

-- ---- a call on an object that is not constructed; the `new` at 0 is that of a C, and `<init>` is 38, m 27

abbrev pub dup : Instruction
dup = insns.Stack forms.Dup

pub record ConstructionRows : Type 0 where
  pub call_before : is_some (behind_all in_m 0 (insns.New 2 ∷ dup ∷ insns.Invoke invocations.Virtual 27 ∷ []) (frame [] [])) ≡ false
  pub constructed : behind_all in_m 0 (insns.New 2 ∷ dup ∷ insns.Invoke invocations.Special 38 ∷ []) (frame [] [])
      ≡ Some (frame [] (c ∷ []))
  -- constructors without a call of another, and with one
  pub no_super : is_some (behind_all in_init 0 (insns.Return ∷ []) (flagged (types.UninitializedThis ∷ []) [])) ≡ false
  pub with_super : is_some
      (behind_all in_init 0 (insns.Load kinds.Reference 0 local.Opcode ∷ insns.Invoke invocations.Special 39 ∷ insns.Return ∷ [])
      (flagged (types.UninitializedThis ∷ []) [])) ≡ true
  pub twice : is_some (behind_all in_init 0
      (insns.Load kinds.Reference 0 local.Opcode ∷ dup ∷ insns.Invoke invocations.Special 39 ∷ insns.Invoke invocations.Special 39 ∷ [])
      (flagged (types.UninitializedThis ∷ []) [])) ≡ false
  -- a handler that covers the call doesn't find `this` as the frame before has it
  pub handler_over_super :
      frame_flows world (with_stack
      (handler_frame in_init (insns.Invoke invocations.Special 39)
      (flagged (types.UninitializedThis ∷ []) (types.UninitializedThis ∷ []))) (throwable_type ∷ []))
      (flagged (types.UninitializedThis ∷ []) (throwable_type ∷ [])) ≡ false

-- ---- half of a long: lconst_0, lstore_0, iconst, istore_1, lload_0

abbrev pub cut : List Instruction
cut = insns.Compute (compute.LongConstant long_values.Zero) ∷ insns.StoreLong 0 local.Opcode ∷ iconst
    ∷ insns.Store word_kinds.Int 1 local.Opcode ∷ []

pub record HalfRows : Type 0 where
  pub stored : behind_all in_m 0 cut (frame (types.Top ∷ types.Top ∷ []) []) ≡ Some (frame (types.Top ∷ types.Int ∷ []) [])
  pub loaded : rule in_m 4 (insns.Load kinds.Long 0 local.Opcode) (frame (types.Top ∷ types.Int ∷ []) []) ≡ None
