use Rattle.std.proofs.Common.{◌≡◌, ◌-◌, ◌≤◌, [], ◌∷◌, ◌++◌, length, reverse, refl, sym, ap, subst, ◌∙◌, arith}
use Rattle.std.proofs.lemmas.List.{reverse-append}
use Rattle.jv_stackmap.specs.Frames.{expanded}
use Rattle.jv_stackmap.specs.Types.{width}
use Rattle.jv_verify_types.specs.Typed.{typed, typed_all}
use Rattle.jv_verify_types.specs.Numbered.{NumberFrame, with_locals}
use Rattle.jv_verify_types.specs.Mapped.{names_of_types, types_of_entries, type_of_entry}
use Rattle.jv_verify_pass.specs.Inside.Locals.{SetBehind}
use Rattle.jv_verify_pass.proofs.Settings.{set_one, set_room, set_end, set_start, filled, words_reversed}
use Rattle.jv_verify_pass.proofs.setting.set_locals.Goals as goal

pub loop-entry-init : goal.loop-entry-init
loop-entry-init c =
    let map = c.args.map.now in
    let entries = types_of_entries c.args.types.now map.locals in
    let old = c.args.frame.now.locals in (
      subst (λ es. SetBehind (typed_all (names_of_types c.args.types.now) old) (expanded (length old) (reverse entries))
          (reverse (types_of_entries c.args.types.now es)) c.local_words-at.result) (sym c.locals-entries.ensures)
          (set_start (names_of_types c.args.types.now) old (length old) (reverse entries) c.local_words-at.result (ap (λ (f : NumberFrame). f.locals) c.requires.blank)
          (c.local_words-at.ensures ∙ (c.requires.words ∙ words_reversed entries)) (omega (arith, c.local_words-at.ensures, c.requires.room))),
      refl,
    )

pub loop-entry-preserved : goal.loop-entry-preserved
loop-entry-preserved c =
    let types = c.args.types.now in
    let names = names_of_types types in
    let item = c.item-item.result in
    let left = types_of_entries types c.next.new.self in
    let is : reverse (types_of_entries types c.loop-entry.entries) ≡ reverse left ++ typed names item ∷ [] =
    ap (λ es. reverse (types_of_entries types es)) c.in-Some.ensures ∙ (reverse-append (type_of_entry types c.in-Some.entry ∷ []) left ∙ ap (λ e. reverse left ++ e ∷ []) (sym c.item-item.ensures)) in
    let wide : c.words_of-at.result ≡ width (typed names item) = c.words_of-at.ensures.of_type names in
    let room : width (typed names item) ≤ c.loop-entry.at = set_room _ _ (reverse left) c.loop-entry.at (typed names item) _ c.loop-entry.invariant.0 is in (
      set_one _ _ (reverse left) c.loop-entry.at (c.loop-entry.at - c.words_of-at.result) (typed names item) _ c.store-has_room.result _ c.loop-entry.invariant.0 is
          (omega (arith, wide, room)) (c.store-has_room.ensures.stored names),
      c.store-has_room.ensures.same ∙ ap (with_locals c.store-has_room.new.self.locals) c.loop-entry.invariant.1,
    )

pub returns-clause-count : goal.returns-clause-count
returns-clause-count c =
    let types = c.args.types.now in
    let entries = types_of_entries types c.args.map.now.locals in
    let old = c.args.frame.now.locals in
    filled (names_of_types types) c.loop-entry.frame.locals (length old) (reverse entries)
    (set_end _ _ c.loop-entry.at (reverse (types_of_entries types c.loop-entry.entries)) c.loop-entry.invariant.0 (ap (λ es. reverse (types_of_entries types es)) c.in_default.ensures))
    (omega (arith, c.requires.words, c.requires.room, words_reversed entries))
