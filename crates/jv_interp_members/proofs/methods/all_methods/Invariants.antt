use Rattle.std.proofs.Common.{◌≡◌, ◌++◌, length, take, drop}
use Rattle.jv_interp_words.specs.FramesInWords.{methods_of}
use Rattle.jv_interp_members.specs.Inside.Counted.{firsts_from}
use Rattle.jv_interp_members.specs.Methods.{AreRows}
use Rattle.jv_interp_members.proofs.methods.all_methods.Given as goal

abbrev pub invariant-loop-class : goal.invariant-loop-class
invariant-loop-class l =
    AreRows l.table (methods_of (take l.class l.table)) l.rows.items
    × (l.firsts.items ++ firsts_from (length l.rows.items) (drop l.class l.table) ≡ firsts_from 0 l.table)
