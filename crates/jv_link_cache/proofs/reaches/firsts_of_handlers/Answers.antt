use Rattle.std.proofs.Common.{List, sym, subst}
use Rattle.jv_format.specs.Handlers.{handlers_of}
use Rattle.jv_link_handlers.specs.declared.reach.Reach.{Reach}
use Rattle.jv_link_handlers.specs.declared.firsts.Firsts.{Firsts}
use Rattle.jv_link_handlers.specs.Firsts.{AreFirsts}
use Rattle.jv_link_cache.proofs.reaches.firsts_of_handlers.Goals as goal

pub returns : goal.returns
returns c = λ world ranks pool stand are.
    let handlers = handlers_of c.args.handlers in
    record {
      reaches = c.in-Some.reaches.items;
      of_handlers = rw c.in-Some.is at (c.in_ok-reaches.ensures world ranks pool stand are);
      are =
          subst (λ (f : Firsts). AreFirsts c.in-Some.reaches.items f) (sym c.in_ok-new.ensures.ok)
          (subst (λ (rs : List Reach). AreFirsts rs c.in_ok-firsts.firsts) c.deref.ensures.value c.in_ok-firsts.ensures);
    }
