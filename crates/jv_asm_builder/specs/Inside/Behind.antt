-- Bytes with more behind them: where a loop stands that writes steps or frames.
use Rattle.std.specs.Prelude.{ℕ, ℤ, List, ◌++◌, Option, length, Ok}
use Rattle.std.specs.List.{flat_map}
use Rattle.jv_stackmap.specs.Bytes.{form_bytes}
use Rattle.jv_asm.specs.Items.{code_of_item, code_of_items}
use Rattle.jv_asm_builder.specs.declared.step.Label.{Label}
use Rattle.jv_asm_builder.specs.Faults.{Expected, ◌>>=◌}
use Rattle.jv_asm_builder.specs.Assembly.{Step, StackFrame, distance_in, near_distance, item_in, items_in, form_from, forms_from, TableSwitch}

abbrev pub near_distance_in : List (Option ℕ) → ℕ → Label → Expected ℤ
near_distance_in places at label = distance_in places at label >>= near_distance

-- bytes with one step behind them
abbrev pub step_behind : List (Option ℕ) → List ℕ → Step → Expected (List ℕ)
step_behind places out s = item_in (distance_in places (length out)) s >>= λ i. Ok (out ++ code_of_item (length out) i)

-- with steps
abbrev pub steps_behind : List (Option ℕ) → List ℕ → List Step → Expected (List ℕ)
steps_behind places out steps = items_in (distance_in places) (length out) steps >>= λ is. Ok (out ++ code_of_items (length out) is)

-- with one frame
abbrev pub frame_behind : List ℕ → ℕ → StackFrame → Expected (List ℕ)
frame_behind out base f = form_from base f >>= λ form. Ok (out ++ form_bytes form)

-- with frames
abbrev pub frames_behind : List ℕ → ℕ → List StackFrame → Expected (List ℕ)
frames_behind out base frames = forms_from base frames >>= λ forms. Ok (out ++ flat_map form_bytes forms)

-- a list with more behind it
abbrev pub with_front : {A : Type 0} → List A → Expected (List A) → Expected (List A)
with_front front rest = rest >>= λ list. Ok (front ++ list)

-- a tableswitch from the low number to the high one
abbrev pub table_behind : List (Option ℕ) → List ℕ → Label → ℤ × ℤ → List Label → Expected (List ℕ)
table_behind places out default bounds targets = step_behind places out (TableSwitch default bounds.0 bounds.1 targets)
