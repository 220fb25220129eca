use Rattle.std.proofs.Common.{◌∙◌, ◌++◌, ap, map, sym}
use Rattle.jv_meaning_world.specs.System.Throwables.{throwable_class}
use Rattle.jv_loader.specs.Inside.Headers.{header_of, headers_in}
use Rattle.jv_loader.specs.Inside.Table.{row_of}
use Rattle.jv_loader.proofs.Comparing.{map_twice, take_whole}
use Rattle.jv_loader.proofs.header.put_throwable_headers.Goals as goal

pub returns : goal.returns
returns c =
    let rows = c.args.classes.now in
    c.loop-class.invariant
    ∙ (ap (λ cs. headers_in c.args.headers.now.items ++ map (λ class. header_of (throwable_class (row_of class))) cs) (take_whole rows c.loop-class.class-index c.loop-class-test.false)
    ∙ ap (λ hs. headers_in c.args.headers.now.items ++ hs) (sym (ap (map header_of) (map_twice throwable_class row_of rows) ∙ map_twice header_of (λ r. throwable_class (row_of r)) rows)))
