use Rattle.std.proofs.Common.{◌∙◌, Bool, ap}
use Rattle.std.specs.Prelude.{if◌then◌else◌}
use Rattle.jv_interp_instructions.proofs.ArraysLoaded.{can_load_as, loaded_as}
use Rattle.jv_interp_instructions.proofs.array_loads.execute_array_load.Goals as goal

pub load_long-requires : goal.load_long-requires
load_long-requires g c =
    can_load_as c.execution_keeps.ensures _ _ _ _ _ _ _ c.args.kind 2
    (c.is_long.ensures ∙ ap (λ (b : Bool). if b then 2 else 1) c.if-is_long.true) c.requires.2

pub load-requires : goal.load-requires
load-requires g c =
    can_load_as c.execution_keeps.ensures _ _ _ _ _ _ _ c.args.kind 1
    (c.is_long.ensures ∙ ap (λ (b : Bool). if b then 2 else 1) c.if-is_long.false) c.requires.2

pub returns-then-is_long-clause-done : goal.returns-then-is_long-clause-done
returns-then-is_long-clause-done g c k texts =
    loaded_as c.execution_keeps.ensures _ k texts _ _ _ _ c.args.kind 2 _ _ _
    (c.is_long.ensures ∙ ap (λ (b : Bool). if b then 2 else 1) c.if-is_long.true) c.load_long.ensures.loads

pub returns-else-is_long-clause-done : goal.returns-else-is_long-clause-done
returns-else-is_long-clause-done g c k texts =
    loaded_as c.execution_keeps.ensures _ k texts _ _ _ _ c.args.kind 1 _ _ _
    (c.is_long.ensures ∙ ap (λ (b : Bool). if b then 2 else 1) c.if-is_long.false) c.load.ensures.loads
