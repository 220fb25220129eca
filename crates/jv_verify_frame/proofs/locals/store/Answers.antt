use Rattle.std.proofs.Common.{sym, subst}
use Rattle.jv_stackmap.specs.Frames.{type_by_words}
use Rattle.jv_verify_types.specs.Typed.{typed, typed_all}
use Rattle.jv_verify_types.specs.Numbered.{Item, Stores}
use Rattle.jv_verify_frame.proofs.Noting.{brings_none}
use Rattle.jv_verify_frame.proofs.locals.store.Goals as goal

pub returns-in-Long-clause-stored : goal.returns-in-Long-clause-stored
returns-in-Long-clause-stored c = λ names.
    subst (λ (i : Item). Stores c.store_long.result (type_by_words (typed names i)) c.args.index (typed_all names c.args.locals.now) (typed_all names c.store_long.new.locals))
    (sym c.in-Long.is) (c.store_long.ensures.stored names)

pub returns-in-Long-clause-before : goal.returns-in-Long-clause-before
returns-in-Long-clause-before c = λ end item all. c.store_long.ensures.before end all

pub returns-in-Long-clause-objects : goal.returns-in-Long-clause-objects
returns-in-Long-clause-objects c = brings_none c.args.index c.args.item c.args.locals.now c.store_long.new.locals c.store_long.ensures.objects
