use Rattle.std.proofs.Common.{◌∙◌, ap, map, sym}
use Rattle.jv_meaning_world.specs.Numbers.{number_named}
use Rattle.jv_loader.specs.declared.header.Header.{Header}
use Rattle.jv_loader.specs.Inside.Headers.{HeaderSeen, header_in}
use Rattle.jv_loader.proofs.Comparing.{map_next, map_twice, take_whole}
use Rattle.jv_loader.proofs.lending.lenders_of.Goals as goal

pub loop-header-preserved : goal.loop-header-preserved
loop-header-preserved c =
    map_next (λ (h : Header). number_named c.args.list.now h.name.now) c.args.headers.now c.loop-header.header-index _ c.loop-header.lenders.items c.push.new.self.items
    c.find.result c.loop-header-test.true c.loop-header.invariant c.find.ensures c.in_ok-push.ensures.items

pub returns : goal.returns
returns c =
    c.loop-header.invariant
    ∙ (ap (map (λ (h : Header). number_named c.args.list.now h.name.now)) (take_whole c.args.headers.now c.loop-header.header-index c.loop-header-test.false)
    ∙ sym (map_twice (λ (h : HeaderSeen). number_named c.args.list.now h.name) header_in c.args.headers.now))
