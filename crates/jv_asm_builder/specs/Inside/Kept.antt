-- What the builders keep, as what it stands for.
use Rattle.std.specs.Prelude.{ℕ, List, Option, Some, None, Vec, map}
use Rattle.std.specs.declared.alloc.Global.{Global}
use Rattle.jv_asm_builder.specs.declared.step.BuilderStep.{BuilderStep}
use Rattle.jv_asm_builder.specs.declared.step.BuilderStep.TheVariants as built
use Rattle.jv_asm_builder.specs.declared.frame.BuiltFrame.{BuiltFrame}
use Rattle.jv_asm_builder.specs.declared.code_builder.BuiltParts.{BuiltParts}
use Rattle.jv_asm_builder.specs.Assembly.{Step, Unlabelled, Branch, TableSwitch, LookupSwitch, StackFrame, AssembledCode, stack_map_type}
use Rattle.jv_stackmap.specs.Bytes.{form_bytes}
use Rattle.jv_stackmap.specs.declared.form.Form.TheVariants.{Full}

abbrev pub step_kept : BuilderStep → Step
step_kept (built.Unlabelled i) = Unlabelled i
step_kept (built.Branch opcode target) = Branch opcode target
step_kept (built.Tableswitch default low high targets) = TableSwitch default low high targets.items
step_kept (built.Lookupswitch default cases) = LookupSwitch default cases.items

abbrev pub frame_kept : BuiltFrame → StackFrame
frame_kept f = record { offset = f.offset; locals = f.locals.items; stack = f.stack.items }

abbrev pub contents_kept : Option (Vec ℕ Global) → Option (List ℕ)
contents_kept None = None
contents_kept (Some v) = Some v.items

abbrev pub parts_kept : BuiltParts → AssembledCode
parts_kept p = record {
  code = p.code.items;
  exception_table = p.exception_table.items;
  stack_map_table = contents_kept p.stack_map_table;
}

-- the bytes of a frame that says all its types
abbrev pub full_bytes : ℕ → BuiltFrame → List ℕ
full_bytes delta frame = form_bytes (Full delta (map stack_map_type frame.locals.items) (map stack_map_type frame.stack.items))
