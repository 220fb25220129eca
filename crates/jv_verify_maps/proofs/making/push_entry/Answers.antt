use Rattle.std.proofs.Common.{◌-◌, ap, refl, sym, ◌∙◌}
use Rattle.jv_stackmap.specs.Types.{width}
use Rattle.jv_verify_types.specs.Mapped.{names_of_types}
use Rattle.jv_verify_maps.proofs.Entries.{laid_this, laid_other}
use Rattle.jv_verify_maps.proofs.making.push_entry.Goals as goal

pub returns-then-is_this : goal.returns-then-is_this
returns-then-is_this c =
    λ locals left old lays.
    laid_this c.args.types.now locals left old c.args.words.now.items c.push_words.new.words.items c.args.entry c.args.laid
    (record { at = c.args.laid.at - c.words_of-count.result; this = c.args.laid.at - c.words_of-count.result }) c.words_of-count.result
    (c.words_of-count.ensures.of_type (names_of_types c.args.types.now) ∙ ap width c.item.ensures) c.requires refl c.in_ok-push_words.ensures lays
    (sym c.is_this.ensures ∙ c.if-is_this.true) refl

pub returns : goal.returns
returns c =
    λ locals left old lays.
    laid_other c.args.types.now locals left old c.args.words.now.items c.push_words.new.words.items c.args.entry c.args.laid
    (record { at = c.args.laid.at - c.words_of-count.result; this = c.args.laid.this }) c.words_of-count.result
    (c.words_of-count.ensures.of_type (names_of_types c.args.types.now) ∙ ap width c.item.ensures) c.requires refl c.in_ok-push_words.ensures lays
    (sym c.is_this.ensures ∙ c.if-is_this.false) refl
