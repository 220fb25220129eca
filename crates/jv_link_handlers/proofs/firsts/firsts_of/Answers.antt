use Rattle.std.proofs.Common.{ap, ◌∙◌, arith}
use Rattle.jv_link_handlers.specs.Inside.Finding.{least, holds, place_or_none}
use Rattle.jv_link_handlers.proofs.Asked.{none_rise}
use Rattle.jv_link_handlers.proofs.Least.{first_is}
use Rattle.jv_link_handlers.proofs.firsts.firsts_of.Goals as goal

pub returns : goal.returns
returns c = record {
  rise = c.in_ok-grow.ensures.rise (none_rise _ c.new-nodes.ensures.items);
  found = λ offset rank lt.
      ap place_or_none (c.in_ok-grow.ensures.found offset rank (omega arith) lt ∙ ap (least (holds offset rank)) (c.deref.ensures.value ∙ c.in_ok-placed.ensures))
      ∙ first_is offset rank c.args.reaches.now c.requires;
}
