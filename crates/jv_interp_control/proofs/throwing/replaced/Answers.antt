use Rattle.std.proofs.Common.{◌≡◌, ℕ, ◌<◌, true, false, Option, Some, None, length, refl, sym, ap, subst, ◌∙◌}
use Rattle.std.specs.Option.{option_or}
use Rattle.jv_store.specs.Content.{words_at}
use Rattle.jv_meaning_world.specs.World.{World}
use Rattle.jv_meaning_world.specs.Numbers.{HoldsAtBoth}
use Rattle.jv_meaning_machine.specs.Objects.{is_at_or_below}
use Rattle.jv_interp_held.specs.declared.held.Held.{Held}
use Rattle.jv_link_cache.specs.Linked.{IsLinked}
use Rattle.jv_interp_control.specs.declared.control.PlaceRecord.{PlaceRecord}
use Rattle.jv_interp_control.specs.Exceptions.{IsMade}
use Rattle.jv_interp_control.proofs.Replacements.{class_within, error_within, is_test, known_error, stays, replaced_by, word_there, new_word}
use Rattle.jv_interp_control.proofs.throwing.replaced.Goals as goal
use Rattle.jv_interp_control.proofs.throwing.replaced.Goals.{then-thrown-via-then-thrown, then-thrown-via-else-thrown+then-is_at_or_below}

pub is_at_or_below-requires-clause-class : goal.is_at_or_below-requires-clause-class
is_at_or_below-requires-clause-class g c =
    let w = c.requires.can in
    subst (λ (world : World). c.args.thrown.class < length world) (sym c.table.ensures)
    (class_within c.args.classes.now.world c.args.records.now c.args.passed w.program w.texts w.t w.below w.behind w.addresses c.args.thrown c.args.held.now _ w.replacing c.system_has_numbers.ensures)

pub is_at_or_below-requires-clause-other : goal.is_at_or_below-requires-clause-other
is_at_or_below-requires-clause-other g c =
    let w = c.requires.can in
    subst (λ (world : World). 6 < length world) (sym c.table.ensures)
    (error_within c.args.classes.now.world c.args.records.now c.args.passed w.program w.texts w.t w.below w.behind w.addresses c.args.thrown c.args.held.now _ w.replacing c.system_has_numbers.ensures)

pub returns-then-thrown-clause-replaced : goal.returns-then-thrown-clause-replaced
returns-then-thrown-clause-replaced g c = λ program texts t below behind addresses h.
    let world = c.args.classes.now.world in
    elim c.then-thrown.branch [
      | then-thrown-via-then-thrown w ↦
          stays world c.args.records.now c.args.passed program texts t below behind addresses c.args.thrown c.args.held.now _ h c.system_has_numbers.ensures
          (known_error world c.args.records.now c.args.passed program texts t below behind addresses c.args.thrown c.args.held.now _ h c.system_has_numbers.ensures (c.requires.known w.if-thrown.true))
      | then-thrown-via-else-thrown+then-is_at_or_below w ↦
          stays world c.args.records.now c.args.passed program texts t below behind addresses c.args.thrown c.args.held.now _ h c.system_has_numbers.ensures
          (sym
          (is_test world c.args.records.now c.args.passed program texts t below behind addresses c.args.thrown c.args.held.now _ h c.system_has_numbers.ensures w.is_at_or_below.result
          (subst (λ (v : World). HoldsAtBoth v c.args.thrown.class 6 (λ l to. w.is_at_or_below.result ≡ is_at_or_below v l.class.name to.class.name)) w.table.ensures w.is_at_or_below.ensures))
          ∙ w.if-is_at_or_below.true)
    ]

pub get-class-requires : goal.get-class-requires
get-class-requires g c =
    let world = c.args.classes.now.world in
    let w = c.requires.can in
    let r = w.replacing in
    let before = g.S.Store.content c.args.store.now in
    let after = g.S.Store.content c.make_exception.new.store in
    let tells = subst (λ (v : World). HoldsAtBoth v c.args.thrown.class 6 (λ l to. c.is_at_or_below.result ≡ is_at_or_below v l.class.name to.class.name)) c.table.ensures c.is_at_or_below.ensures in
    let no_error =
    sym
    (is_test world c.args.records.now c.args.passed w.program w.texts w.t w.below w.behind w.addresses c.args.thrown c.args.held.now before r
    c.system_has_numbers.ensures c.is_at_or_below.result tells) ∙ c.if-is_at_or_below.false in
    let size = c.object_words-words.ensures w.program.world (subst (λ (v : World). IsLinked v c.args.linked.now) (sym r.world_is) c.requires.linked) in
    let is_made = subst (λ (o : Option ℕ). IsMade 23 c.object_words-words.result c.args.held.now.cells c.make_exception.new.held.cells before after o)
    c.in_default.is (c.in_ok-address.ensures {u = tt}).made in
    let there =
    word_there world c.args.records.now c.args.passed w.program w.texts w.t w.below w.behind w.addresses c.args.thrown c.args.held.now before r
    c.system_has_numbers.ensures c.make_exception.new.held after c.object_words-words.result None
    no_error size c.make_exception.ensures.held is_made in
    subst (λ (a : ℕ). 0 < length (words_at after a)) (sym (ap (λ (h : Held). h.out_of_memory) c.make_exception.ensures.held)) there

pub returns-in_default-clause-replaced : goal.returns-in_default-clause-replaced
returns-in_default-clause-replaced g c = λ program texts t below behind addresses h.
    let world = c.args.classes.now.world in
    let before = g.S.Store.content c.args.store.now in
    let after = g.S.Store.content c.make_exception.new.store in
    let tells = subst (λ (v : World). HoldsAtBoth v c.args.thrown.class 6 (λ l to. c.is_at_or_below.result ≡ is_at_or_below v l.class.name to.class.name)) c.table.ensures c.is_at_or_below.ensures in
    let no_error =
    sym
    (is_test world c.args.records.now c.args.passed program texts t below behind addresses c.args.thrown c.args.held.now before h
    c.system_has_numbers.ensures c.is_at_or_below.result tells) ∙ c.if-is_at_or_below.false in
    let size = c.object_words-words.ensures program.world (subst (λ (v : World). IsLinked v c.args.linked.now) (sym h.world_is) c.requires.linked) in
    let is_made = subst (λ (o : Option ℕ). IsMade 23 c.object_words-words.result c.args.held.now.cells c.make_exception.new.held.cells before after o)
    c.in_default.is (c.in_ok-address.ensures {u = tt}).made in
    replaced_by world c.args.records.now c.args.passed program texts t below behind addresses c.args.thrown c.args.held.now before h
    c.system_has_numbers.ensures c.make_exception.new.held after c.object_words-words.result None
    (record { address = c.make_exception.new.held.out_of_memory; class = c.get-class.result; throws = c.once_more-throws.result; place = c.or-place.result; made = false }) no_error size
    c.make_exception.ensures.held is_made (ap (λ (h : Held). h.out_of_memory) c.make_exception.ensures.held) (sym c.get-class.ensures) c.once_more-throws.ensures
    (c.or-place.ensures ∙ ap (λ (o : Option PlaceRecord). option_or o c.args.thrown.place) c.place_behind.ensures)

pub returns-in_default-clause-stays : goal.returns-in_default-clause-stays
returns-in_default-clause-stays g c =
    let before = g.S.Store.content c.args.store.now in
    let after = g.S.Store.content c.make_exception.new.store in
    let is_made = subst (λ (o : Option ℕ). IsMade 23 c.object_words-words.result c.args.held.now.cells c.make_exception.new.held.cells before after o)
    c.in_default.is (c.in_ok-address.ensures {u = tt}).made in
    record {
      held_stays = λ same. c.make_exception.ensures.held ∙ ap (λ (n : ℕ). record c.args.held.now { cells = n }) is_made.1;
      blocks_stay = λ same. is_made.2;
      made_stays = λ made. absurd (clash (sym c.if-thrown.false ∙ made));
    }
  where
    clash : false ≡ true → ⊥
    clash e = cc

pub returns-clause-replaced : goal.returns-clause-replaced
returns-clause-replaced g c = λ program texts t below behind addresses h.
    let world = c.args.classes.now.world in
    let before = g.S.Store.content c.args.store.now in
    let after = g.S.Store.content c.make_exception.new.store in
    let tells = subst (λ (v : World). HoldsAtBoth v c.args.thrown.class 6 (λ l to. c.is_at_or_below.result ≡ is_at_or_below v l.class.name to.class.name)) c.table.ensures c.is_at_or_below.ensures in
    let no_error =
    sym
    (is_test world c.args.records.now c.args.passed program texts t below behind addresses c.args.thrown c.args.held.now before h
    c.system_has_numbers.ensures c.is_at_or_below.result tells) ∙ c.if-is_at_or_below.false in
    let size = c.object_words-words.ensures program.world (subst (λ (v : World). IsLinked v c.args.linked.now) (sym h.world_is) c.requires.linked) in
    let address = c.in-Some.address in
    let is_made = subst (λ (o : Option ℕ). IsMade 23 c.object_words-words.result c.args.held.now.cells c.make_exception.new.held.cells before after o)
    c.in-Some.is (c.in_ok-address.ensures {u = tt}).made in
    replaced_by world c.args.records.now c.args.passed program texts t below behind addresses c.args.thrown c.args.held.now before h
    c.system_has_numbers.ensures c.make_exception.new.held after c.object_words-words.result (Some address)
    (record { address = address; class = 23; throws = c.once_more-throws.result; place = c.or-place.result; made = true }) no_error size
    c.make_exception.ensures.held is_made refl (new_word 23 c.object_words-words.result address before after is_made.1) c.once_more-throws.ensures
    (c.or-place.ensures ∙ ap (λ (o : Option PlaceRecord). option_or o c.args.thrown.place) c.place_behind.ensures)

pub returns-clause-stays : goal.returns-clause-stays
returns-clause-stays g c = record {
  held_stays = λ same. absurd (clash (sym (same ∙ c.if-thrown.false)));
  blocks_stay = λ same. absurd (clash (sym (same ∙ c.if-thrown.false)));
  made_stays = λ made. refl;
}
  where
    clash : false ≡ true → ⊥
    clash e = cc
