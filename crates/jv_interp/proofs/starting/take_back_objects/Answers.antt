use Rattle.std.proofs.Common.{[], ◌∷◌, length, refl, sym, ap, ◌∙◌}
use Rattle.jv_store.specs.Content.{words_at, greatest, without}
use Rattle.jv_interp_heap.specs.ObjectsInBlocks.{Blocks}
use Rattle.jv_interp_heap.proofs.NewWords.{joined_length}
use Rattle.jv_interp_objects.proofs.TextJoined.{newest_address, taken_back}
use Rattle.jv_interp.proofs.starting.take_back_objects.Goals as goal

pub take_back-requires-clause-newest : goal.take_back-requires-clause-newest
take_back-requires-clause-newest g c =
    let both = c.requires.1 in
    sym (newest_address (2147483659 ∷ 0 ∷ []) both.between (g.S.Store.content c.args.store.now) c.args.strings both.strings_join)

pub take_back-requires-clause-length : goal.take_back-requires-clause-length
take_back-requires-clause-length g c =
    let both = c.requires.1 in
    joined_length (2147483659 ∷ 0 ∷ []) both.between (g.S.Store.content c.args.store.now) c.args.strings 2 both.strings_join refl

pub take_back-requires-2-clause-newest : goal.take_back-requires-2-clause-newest
take_back-requires-2-clause-newest g c =
    let both = c.requires.1 in
    sym
    (ap greatest (c.take_back.ensures.content ∙ taken_back (2147483659 ∷ 0 ∷ []) both.between (g.S.Store.content c.args.store.now) c.args.strings both.strings_join)
    ∙ newest_address (20 ∷ 0 ∷ []) c.requires.0 both.between c.args.error both.error_joins)

pub take_back-requires-2-clause-length : goal.take_back-requires-2-clause-length
take_back-requires-2-clause-length g c =
    let both = c.requires.1 in
    ap (λ (b : Blocks). length (words_at b c.args.error))
    (c.take_back.ensures.content ∙ taken_back (2147483659 ∷ 0 ∷ []) both.between (g.S.Store.content c.args.store.now) c.args.strings both.strings_join)
    ∙ joined_length (20 ∷ 0 ∷ []) c.requires.0 both.between c.args.error 2 both.error_joins refl

pub returns-clause-content : goal.returns-clause-content
returns-clause-content g c = λ before both.
    c.take_back-2.ensures.content
    ∙ ap (λ (b : Blocks). without b c.args.error)
    (c.take_back.ensures.content ∙ taken_back (2147483659 ∷ 0 ∷ []) both.between (g.S.Store.content c.args.store.now) c.args.strings both.strings_join)
    ∙ taken_back (20 ∷ 0 ∷ []) before both.between c.args.error both.error_joins
