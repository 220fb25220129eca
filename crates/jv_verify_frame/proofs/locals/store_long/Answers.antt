use Rattle.std.proofs.Common.{◌≡◌, ◌∙◌, ◌+◌, ap, sym, arith, suc, [], ◌∷◌}
use Rattle.std.specs.Prelude.{slice_set, Some}
use Rattle.jv_stackmap.specs.declared.verification.VerificationTypeOf.TheVariants as types
use Rattle.jv_verify_types.specs.Typed.{typed_all}
use Rattle.jv_verify_frame.specs.Inside.Cut.{cut_at}
use Rattle.jv_verify_frame.proofs.Storing.{stored_long, not_stored}
use Rattle.std.proofs.lemmas.List.Elements.{All-set}
use Rattle.jv_verify_frame.specs.Inside.Before.{IsBefore}
use Rattle.jv_verify_frame.proofs.KeptTops.{set_top, set_used}
use Rattle.jv_verify_frame.proofs.Noting.{long_set, top_set, brought}
use Rattle.jv_verify_frame.proofs.locals.store_long.Goals as goal
use Rattle.jv_verify_frame.proofs.locals.store_long.Goals.{then-index-locals-via-then-index-locals, then-index-locals-via-else-index-locals+then-index-locals-2}

pub returns-clause-stored : goal.returns-clause-stored
returns-clause-stored c = λ names.
    let next : suc c.args.index ≡ c.args.index + 1 = omega arith in
    stored_long names c.args.index c.args.locals.now (omega (arith, c.if-index-locals-2.false))
    ∙ (ap (λ k. Some (typed_all names (slice_set (slice_set (cut_at c.args.index c.args.locals.now) c.args.index types.Long) k types.Top))) next
    ∙ ap (λ xs. Some (typed_all names (slice_set (slice_set xs c.args.index types.Long) (c.args.index + 1) types.Top))) (sym c.cut_before.ensures.cut))

pub returns-then-index-locals-clause-stored : goal.returns-then-index-locals-clause-stored
returns-then-index-locals-clause-stored c = λ names.
    not_stored names (types.Long ∷ types.Top ∷ []) c.args.index c.args.locals.now
    (elim c.then-index-locals.branch [
      | then-index-locals-via-then-index-locals w ↦ omega (arith, w.if-index-locals.true)
      | then-index-locals-via-else-index-locals+then-index-locals-2 w ↦ omega (arith, w.if-index-locals-2.true)
    ])
    (omega arith)

pub returns-clause-before : goal.returns-clause-before
returns-clause-before c = λ end all.
    All-set (IsBefore end) (slice_set c.cut_before.new.locals c.args.index types.Long) (c.args.index + 1) types.Top tt
    (All-set (IsBefore end) c.cut_before.new.locals c.args.index types.Long tt (c.cut_before.ensures.before end all))

pub returns-clause-tops : goal.returns-clause-tops
returns-clause-tops c = λ used lt h.
    set_top used (slice_set c.cut_before.new.locals c.args.index types.Long) (c.args.index + 1)
    (set_used used c.cut_before.new.locals c.args.index types.Long lt (c.cut_before.ensures.tops used h))

pub returns-clause-objects : goal.returns-clause-objects
returns-clause-objects c =
    let long = slice_set c.cut_before.new.locals c.args.index types.Long in
    brought c.args.locals.now c.cut_before.new.locals (slice_set long (c.args.index + 1) types.Top) c.cut_before.ensures.objects
    (brought c.cut_before.new.locals long (slice_set long (c.args.index + 1) types.Top) (long_set c.cut_before.new.locals c.args.index) (top_set long (c.args.index + 1)))
