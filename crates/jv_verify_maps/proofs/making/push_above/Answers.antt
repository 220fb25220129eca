use Rattle.std.proofs.Common.{ap, drop, subst, sym, ◌∙◌, arith}
use Rattle.jv_verify_maps.specs.Inside.Made.{Lays}
use Rattle.jv_verify_maps.proofs.Entries.{nothing_laid}
use Rattle.jv_verify_maps.proofs.Laying.{words_counted}
use Rattle.jv_verify_maps.proofs.making.push_above.Goals as goal

pub loop-left-init : goal.loop-left-init
loop-left-init c =
    let types = c.args.types.now in
    let locals = c.args.map.now.locals in
    let words = c.args.words.now.items in
    let fits = c.local_words.type_inv in
    record {
      behind = ap (drop c.args.above) c.locals-entries.ensures;
      lays =
          subst (λ es. Lays types locals es words words (record { at = c.local_words.result; this = 65535 })) (sym c.locals-entries.ensures)
          (nothing_laid types locals words (record { at = c.local_words.result; this = 65535 })
          (c.local_words.ensures ∙ (c.requires ∙ sym (words_counted types locals))) (omega (arith, fits)));
    }
