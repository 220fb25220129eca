use Rattle.std.proofs.Common.{[], ◌∷◌, length, refl, sym, ap, ◌∙◌}
use Rattle.jv_store.specs.Content.{words_at, greatest, without}
use Rattle.jv_interp_heap.specs.ObjectsInBlocks.{Blocks}
use Rattle.jv_interp_heap.proofs.NewWords.{joined_length}
use Rattle.jv_interp_objects.proofs.TextJoined.{newest_address, taken_back}
use Rattle.jv_interp.proofs.objects.start_objects.Goals as goal

pub take_back-requires-clause-newest : goal.take_back-requires-clause-newest
take_back-requires-clause-newest g c =
    sym (ap greatest c.in-Err.ensures.refused
    ∙ newest_address (20 ∷ 0 ∷ []) (g.S.Store.content c.args.store.now) (g.S.Store.content c.make_object.new.store) c.in_ok-error.error c.in_ok-error.ensures.made)

pub take_back-requires-clause-length : goal.take_back-requires-clause-length
take_back-requires-clause-length g c =
    ap (λ (b : Blocks). length (words_at b c.in_ok-error.error)) c.in-Err.ensures.refused
    ∙ joined_length (20 ∷ 0 ∷ []) (g.S.Store.content c.args.store.now) (g.S.Store.content c.make_object.new.store) c.in_ok-error.error 2 c.in_ok-error.ensures.made refl

pub returns-in-Err-clause-refused : goal.returns-in-Err-clause-refused
returns-in-Err-clause-refused g c =
    c.take_back.ensures.content ∙ ap (λ (b : Blocks). without b c.in_ok-error.error) c.in-Err.ensures.refused
    ∙ taken_back (20 ∷ 0 ∷ []) (g.S.Store.content c.args.store.now) (g.S.Store.content c.make_object.new.store) c.in_ok-error.error c.in_ok-error.ensures.made
