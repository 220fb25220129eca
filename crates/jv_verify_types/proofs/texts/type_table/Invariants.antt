use Rattle.std.proofs.Common.{◌≡◌, length}
use Rattle.jv_verify_types.specs.Typed.{GoesOn}
use Rattle.jv_verify_types.specs.Inside.KeptTexts.{AreKeptBelow}
use Rattle.jv_verify_types.proofs.texts.type_table.Given as goal

abbrev pub invariant-loop-index : goal.invariant-loop-index
invariant-loop-index l = record {
  size : length l.texts.items ≡ l.index;
  kept : AreKeptBelow l.index l.names.names l.arguments.items l.pool l.marks.items l.texts.items;
  goes_on : GoesOn l.initial.names.names l.names.names;
  world : l.names.world ≡ l.initial.names.world;
}
