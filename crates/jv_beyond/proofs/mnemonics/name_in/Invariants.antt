use Rattle.std.proofs.Common.{◌≡◌, drop, map}
use Rattle.jv_beyond.specs.Inside.Rows.{seen_row}
use Rattle.jv_beyond.specs.Mnemonics.{name_in}
use Rattle.jv_beyond.proofs.mnemonics.name_in.Given as goal

-- what is left has what the whole table has
abbrev pub invariant-loop-row : goal.invariant-loop-row
invariant-loop-row l = name_in (map seen_row (drop l.row-index l.table)) l.opcode ≡ name_in (map seen_row l.table) l.opcode
