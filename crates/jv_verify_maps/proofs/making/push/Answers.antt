use Rattle.std.proofs.Common.{◌+◌, List, ap, drop, length, refl, subst, sym, take, ◌∙◌, arith}
use Rattle.jv_verify_maps.specs.declared.frames.WordsOf.{WordsOf}
use Rattle.jv_verify_maps.specs.Inside.Made.{first_this_behind, AreMade}
use Rattle.jv_verify_maps.proofs.Added.{made_more, words_of_frame}
use Rattle.jv_verify_maps.proofs.Entries.{entries_few}
use Rattle.jv_verify_maps.proofs.making.push.Goals as goal

pub returns : goal.returns
returns c =
    let types = c.args.types.now in
    let frames = c.args.frames.now in
    let frame = c.frame_at-map.result in
    let laid = c.in_ok-laid.laid in
    let at = c.frame_at-map.ensures in
    let many = words_of_frame types frames c.args.place frame c.requires.words at in
    let fits = c.local_words.type_inv in
    subst (λ (ms : List WordsOf). AreMade types (take (c.args.place + 1) frames) c.push_above.new.words.items ms) (sym c.in_ok-push.ensures.items)
    (made_more types frames c.args.words.now.items c.push_above.new.words.items c.args.made.now.items c.args.place frame
    (record { start = c.in_ok-start.start; count = c.local_words.result; shared = laid.at; this = c.first_this.result })
    (drop c.above_before.result frame.locals) laid c.requires.made at c.in_ok-laid.ensures (c.in_ok-start.ensures ∙ ap length c.deref.ensures.value)
    (c.local_words.ensures ∙ many) refl (c.first_this.ensures ∙ ap (λ (ms : List WordsOf). first_this_behind ms laid) c.deref-2.ensures.value)
    (c.above_before.ensures frame at (omega (arith, fits, c.local_words.ensures, many, entries_few types frame.locals))))
