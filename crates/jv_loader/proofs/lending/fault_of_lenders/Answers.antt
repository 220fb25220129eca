use Rattle.std.proofs.Common.{◌∙◌, subst, sym}
use Rattle.jv_loader.specs.Inside.Headers.{AllLend, IsFaultOfOne, header_in, headers_in}
use Rattle.jv_loader.proofs.Comparing.{lend_next, none_of, row_at, some_map, take_whole}
use Rattle.jv_loader.proofs.lending.fault_of_lenders.Goals as goal

pub loop-header-preserved : goal.loop-header-preserved
loop-header-preserved c =
    lend_next c.args.list.now c.args.headers.now c.loop-header.header-index _ c.loop-header-test.true c.loop-header.invariant
    (none_of c.fault_in-fault.result _ (sym c.is_some.ensures ∙ c.if-is_some.false) c.fault_in-fault.ensures.none)

pub returns-clause-none : goal.returns-clause-none
returns-clause-none c =
    subst (λ rows. AllLend c.args.list.now (headers_in rows)) (take_whole c.args.headers.now c.loop-header.header-index c.loop-header-test.false) c.loop-header.invariant

pub returns-then-is_some-clause-some : goal.returns-then-is_some-clause-some
returns-then-is_some-clause-some c =
    some_map _ (IsFaultOfOne c.args.list.now (headers_in c.args.headers.now))
    (λ fault wrong. record {
      at = c.loop-header.header-index;
      h = _;
      row = row_at header_in c.args.headers.now c.loop-header.header-index _ c.loop-header-test.true;
      wrong = wrong;
    })
    c.fault_in-fault.result c.fault_in-fault.ensures.some
