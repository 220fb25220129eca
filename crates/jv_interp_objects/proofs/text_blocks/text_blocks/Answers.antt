use Rattle.std.proofs.Common.{List, ℕ, [], ◌∷◌, length, refl, sym, ap, ◌∙◌, arith}
use Rattle.jv_store.specs.Content.{words_at, greatest, without}
use Rattle.jv_interp_heap.specs.ObjectsInBlocks.{Blocks}
use Rattle.jv_interp_heap.proofs.NewWords.{joined_length}
use Rattle.jv_interp_objects.proofs.TextJoined.{newest_address, taken_back, can_fill, string_words, filled_joins}
use Rattle.jv_interp_objects.proofs.text_blocks.text_blocks.Goals as goal

pub fill-requires-clause-can : goal.fill-requires-clause-can
fill-requires-clause-can g c =
    can_fill c.args.text.now c.args.count (g.S.Store.content c.make_object.new.store) (g.S.Store.content c.array_block.new.store) c.in-Ok.chars
    c.requires.text c.requires.count c.in-Ok.ensures.made

pub set-requires : goal.set-requires
set-requires g c =
    let before = g.S.Store.content c.args.store.now in
    let between = g.S.Store.content c.make_object.new.store in
    let joined = g.S.Store.content c.array_block.new.store in
    let filled = g.S.Store.content c.fill.new.store in
    let is = c.requires.text in
    let chars =
    filled_joins c.args.text.now is.0 c.args.count between joined filled c.in-Ok.chars is.1 c.requires.count c.in-Ok.ensures.made c.fill.ensures.fills in
    let words =
    string_words (2147483649 ∷ c.args.count ∷ is.0) before between filled c.in_ok-string.string c.in-Ok.chars c.in_ok-string.ensures.made chars in
    let size = ap (λ (l : List ℕ). length l) words in
    omega (arith, size)

pub take_back-requires-clause-newest : goal.take_back-requires-clause-newest
take_back-requires-clause-newest g c =
    sym (ap greatest c.in-Err.ensures.refused
    ∙ newest_address (3 ∷ 0 ∷ []) (g.S.Store.content c.args.store.now) (g.S.Store.content c.make_object.new.store) c.in_ok-string.string c.in_ok-string.ensures.made)

pub take_back-requires-clause-length : goal.take_back-requires-clause-length
take_back-requires-clause-length g c =
    ap (λ (b : Blocks). length (words_at b c.in_ok-string.string)) c.in-Err.ensures.refused
    ∙ joined_length (3 ∷ 0 ∷ []) (g.S.Store.content c.args.store.now) (g.S.Store.content c.make_object.new.store) c.in_ok-string.string 2 c.in_ok-string.ensures.made refl

pub returns-in-Err-clause-refused : goal.returns-in-Err-clause-refused
returns-in-Err-clause-refused g c =
    c.take_back.ensures.content ∙ ap (λ (b : Blocks). without b c.in_ok-string.string) c.in-Err.ensures.refused
    ∙ taken_back (3 ∷ 0 ∷ []) (g.S.Store.content c.args.store.now) (g.S.Store.content c.make_object.new.store) c.in_ok-string.string c.in_ok-string.ensures.made
