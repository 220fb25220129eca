use Rattle.std.proofs.lemmas.Result.{IfOk-weaker}
use Rattle.jv_interp_instructions.proofs.ArraysMade.{can_make, made}
use Rattle.jv_interp_instructions.proofs.new_arrays.execute_new_array.Goals as goal

pub new_base_array-requires : goal.new_base_array-requires
new_base_array-requires g c = record {
  can = can_make c.execution_keeps.ensures c.args.element _ _ _ _ _ _ _ _ _ c.array_word-word.ensures c.element_words-slots.ensures c.requires.can.2;
  cells = c.requires.cells;
}

pub returns-clause-done : goal.returns-clause-done
returns-clause-done g c =
    IfOk-weaker c.new_base_array.result _ _
    (λ effect makes k texts. made c.execution_keeps.ensures c.args.element _ _ _ k texts _ _ _ _ c.array_word-word.ensures c.element_words-slots.ensures _ _ _ _ effect makes)
    c.new_base_array.ensures.makes
