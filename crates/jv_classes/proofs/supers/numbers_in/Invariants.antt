use Rattle.std.proofs.Common.{◌≡◌, map, take, length}
use Rattle.jv_classes.specs.Once.{each_once}
use Rattle.jv_classes.specs.Inside.Known.{AreKnown, class_number}
use Rattle.jv_classes.specs.Inside.Once.{numbers_once}
use Rattle.jv_classes.proofs.supers.numbers_in.Given as goal

abbrev pub invariant-loop-index : goal.invariant-loop-index
invariant-loop-index l =
    (l.once ≡ numbers_once (length l.list) (each_once (map (class_number l.list l.pool) (take l.index-index l.indices)))) × AreKnown l.list l.pool l.known.items
