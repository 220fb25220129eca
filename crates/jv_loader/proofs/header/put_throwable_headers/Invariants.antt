use Rattle.std.proofs.Common.{◌≡◌, ◌++◌, map, take}
use Rattle.jv_meaning_world.specs.System.Throwables.{throwable_class}
use Rattle.jv_loader.specs.Inside.Headers.{header_of, headers_in}
use Rattle.jv_loader.specs.Inside.Table.{row_of}
use Rattle.jv_loader.proofs.header.put_throwable_headers.Given as goal

abbrev pub invariant-loop-class : goal.invariant-loop-class
invariant-loop-class l =
    headers_in l.headers.items ≡ headers_in l.fn.headers.items ++ map (λ class. header_of (throwable_class (row_of class))) (take l.class-index l.classes)
