use Rattle.std.proofs.Common.{◌≡◌, ap, arith, ◌∙◌, vec_len, replicate, true, [], ◌∷◌, ◌++◌}
use Rattle.jv_store.specs.Inside.Layouts.{fill, cut}
use Rattle.jv_store.proofs.Fills.{fill_count, fill-append, fill_greatest, fill_grows}
use Rattle.jv_store.proofs.cells.CellsStore.alloc.Goals as goal

pub add_start-requires : goal.add_start-requires
add_start-requires c = omega (arith, fill_count c.args.self.now.starts.items _ c.args.self.now.filled, c.args.self.now.starts.ok.0, c.args.self.now.starts_fit, c.requires.some, c.requires.room)

pub invariant_of-self-clause-filled : goal.invariant_of-self-clause-filled
invariant_of-self-clause-filled c =
    let here : fill c.args.self.now.starts.items c.len-start.result ≡ true = ap (fill c.args.self.now.starts.items) c.len-start.ensures ∙ c.args.self.now.filled in
    ap (λ l. fill l (vec_len c.add_zeros.new.words)) c.add_start.ensures.items
    ∙ fill-append c.args.self.now.starts.items c.len-start.result (vec_len c.add_zeros.new.words) here (omega (arith, c.add_zeros.ensures.len, c.len-start.ensures, c.requires.some))

pub returns-clause-above : goal.returns-clause-above
returns-clause-above c = omega (arith, fill_greatest c.args.self.now.starts.items c.args.self.now.words.items _ c.args.self.now.filled, c.len-start.ensures)

pub returns-clause-content : goal.returns-clause-content
returns-clause-content c =
    let here : fill c.args.self.now.starts.items c.len-start.result ≡ true = ap (fill c.args.self.now.starts.items) c.len-start.ensures ∙ c.args.self.now.filled in
    ap (λ l. cut l c.add_zeros.new.words.items) c.add_start.ensures.items
    ∙ (ap (cut (c.args.self.now.starts.items ++ c.len-start.result ∷ [])) c.add_zeros.ensures.items
    ∙ fill_grows c.args.self.now.starts.items c.args.self.now.words.items (replicate c.args.len 0) c.len-start.result here (omega (arith, c.len-start.ensures, c.args.self.now.words.ok.0)))
