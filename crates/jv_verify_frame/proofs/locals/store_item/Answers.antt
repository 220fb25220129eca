use Rattle.std.proofs.Common.{◌∙◌, ap, sym, arith, [], ◌∷◌}
use Rattle.std.specs.Prelude.{slice_set, Some}
use Rattle.jv_verify_types.specs.Typed.{typed, typed_all}
use Rattle.jv_verify_frame.proofs.Storing.{stored_item, not_stored}
use Rattle.std.proofs.lemmas.List.Elements.{All-set}
use Rattle.jv_verify_frame.specs.Inside.Before.{IsBefore}
use Rattle.jv_verify_frame.proofs.KeptTops.{set_used}
use Rattle.jv_verify_frame.proofs.Noting.{item_set}
use Rattle.jv_verify_frame.proofs.locals.store_item.Goals as goal

pub returns-then-index-locals-clause-stored : goal.returns-then-index-locals-clause-stored
returns-then-index-locals-clause-stored c = λ names.
    not_stored names (typed names c.args.item ∷ []) c.args.index c.args.locals.now (omega (arith, c.if-index-locals.true)) (omega arith)

pub returns-clause-stored : goal.returns-clause-stored
returns-clause-stored c = λ names.
    stored_item names c.args.index c.args.locals.now c.args.item c.if-index-locals.false
    ∙ ap (λ xs. Some (typed_all names (slice_set xs c.args.index c.args.item))) (sym c.cut_before.ensures.cut)

pub returns-clause-before : goal.returns-clause-before
returns-clause-before c = λ end item all.
    All-set (IsBefore end) c.cut_before.new.locals c.args.index c.args.item item (c.cut_before.ensures.before end all)

pub returns-clause-tops : goal.returns-clause-tops
returns-clause-tops c = λ used lt h. set_used used c.cut_before.new.locals c.args.index c.args.item lt (c.cut_before.ensures.tops used h)

pub returns-clause-objects : goal.returns-clause-objects
returns-clause-objects c = item_set c.args.locals.now c.cut_before.new.locals c.args.index c.args.item c.cut_before.ensures.objects
