use Rattle.std.proofs.Common.{length, refl}
use Rattle.std.proofs.lemmas.Option.{slice_get_read}
use Rattle.jv_lookups.proofs.Behind.{none_in_front, front_says}
use Rattle.jv_lookups.proofs.finals.breaks_final.Goals as goal

pub returns-then-is_empty-clause-broken : goal.returns-then-is_empty-clause-broken
returns-then-is_empty-clause-broken c =
    none_in_front c.args.classes.now c.args.finals.now c.args.of c.args.chain.now c.up_to_marked-chain.result.now c.requires.chain c.requires.finals c.up_to_marked-chain.ensures c.if-is_empty.ensures

pub returns-clause-broken : goal.returns-clause-broken
returns-clause-broken c =
    front_says c.args.classes.now c.args.finals.now c.args.of c.args.chain.now c.up_to_marked-chain.result.now c.requires.chain c.requires.finals c.up_to_marked-chain.ensures
    c.index-classes-of.result c.some_overrides_final.result (slice_get_read c.args.classes.now (length c.args.classes.now) c.args.of c.index-classes-of.result refl c.requires.of c.index-classes-of.is)
    c.requires.unlike c.is_named.ensures c.are_named.ensures c.some_overrides_final.ensures.broken
