use Rattle.std.proofs.Common.{List}
use Rattle.std.specs.List.{All}
use Rattle.jv_pool.specs.Constants.{Entry}
use Rattle.jv_meaning_world.specs.World.{World}
use Rattle.jv_verify_types.specs.Inside.Answered.{IsEntry}
use Rattle.jv_verify_types.proofs.answers.make_room.Given as goal

abbrev pub invariant-loop : goal.invariant-loop
invariant-loop l = (world : World) (pool : List Entry) → All (IsEntry world pool) l.fn.entries.items → All (IsEntry world pool) l.entries.items
