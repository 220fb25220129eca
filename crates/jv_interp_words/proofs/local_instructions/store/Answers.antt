use Rattle.std.proofs.Common.{refl, ap, ◌∙◌}
use Rattle.jv_code.specs.declared.kinds.ValueKind.{ValueKind}
use Rattle.jv_code.specs.declared.insn.Insn.TheVariants as insns
use Rattle.jv_meaning_machine.specs.Instructions.{store}
use Rattle.jv_interp_words.specs.declared.registers.Registers.{Registers}
use Rattle.jv_interp_words.proofs.LocalsWork.{can_store, store_goes}
use Rattle.jv_interp_words.proofs.local_instructions.store.Goals as goal

pub store-at-requires-clause-can : goal.store-at-requires-clause-can
store-at-requires-clause-can c =
    can_store (insns.Store c.args.kind c.args.index c.args.form) c.value_kind-kind_of_value.result c.args.index c.args.next c.args.at.now
    c.args.words.now
    (λ k done below addresses w. ap (λ (v : ValueKind). store k v c.args.index) c.value_kind-kind_of_value.ensures ∙ w.does) c.requires

pub returns-clause-went : goal.returns-clause-went
returns-clause-went c =
    let at = c.args.at.now in
    let after : Registers = record at { pc = c.args.next; top = c.store-at.result } in
    store_goes (insns.Store c.args.kind c.args.index c.args.form) c.value_kind-kind_of_value.result c.args.index c.args.next at after
    c.args.words.now c.store-at.new.words
    (λ k done below addresses w. ap (λ (v : ValueKind). store k v c.args.index) c.value_kind-kind_of_value.ensures ∙ w.does) refl
    c.store-at.ensures.stored
