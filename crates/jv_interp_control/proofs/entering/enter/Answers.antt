use Rattle.std.proofs.Common.{◌≡◌, ℕ, ◌+◌, ◌-◌, refl, ap, ◌∙◌, arith}
use Rattle.std.proofs.lemmas.Result.{on_ok_weaker}
use Rattle.jv_class_structure.specs.Parts.{CodeSeen}
use Rattle.jv_meaning_machine.specs.Costs.{code_words}
use Rattle.jv_interp_control.specs.Standing.{kept, Moved}
use Rattle.jv_interp_control.specs.Moves.{Raising}
use Rattle.jv_interp_control.proofs.EntersStand.{code_now, code_is, raises, room_for_record, enters}
use Rattle.jv_interp_control.proofs.entering.enter.Goals as goal

pub code_of-code-requires : goal.code_of-code-requires
code_of-code-requires g c =
    let w = c.requires.can in
    let is =
    code_is c.args.classes.now.world c.args.method w.program w.texts w.s w.t w.addresses c.args.frames.now c.args.control.now c.args.held.now (g.S.Store.content c.args.store.now) w.moves
    c.args.methods.now c.requires.methods in
    record { program = w.program; d = w.moves.does.d; code = _; is = is }

pub raise-requires-clause-can : goal.raise-requires-clause-can
raise-requires-clause-can g c =
    let w = c.requires.can in
    let world = c.args.classes.now.world in
    let blocks = g.S.Store.content c.args.store.now in
    let now = code_now world c.args.method w.program w.texts w.s w.t w.addresses c.args.frames.now c.args.control.now c.args.held.now blocks w.moves in
    let is = code_is world c.args.method w.program w.texts w.s w.t w.addresses c.args.frames.now c.args.control.now c.args.held.now blocks w.moves c.args.methods.now c.requires.methods in
    let words = c.words_of-words.ensures ∙ ap code_words (c.code_of-code.ensures w.program w.moves.does.d now.code is) in
    let left = w.moves.stands.frames.left_is in
    let lack = c.if-words-frames.true in
    record {
      program = w.program;
      texts = w.texts;
      s = w.s;
      t = w.t;
      addresses = w.addresses;
      moves =
          raises world c.args.method w.program w.texts w.s w.t w.addresses c.args.frames.now c.args.control.now c.args.held.now blocks w.moves c.system_has_numbers.ensures
          (omega (arith, words, left, lack));
    }

pub returns-then-words-frames-clause-entered : goal.returns-then-words-frames-clause-entered
returns-then-words-frames-clause-entered g c =
    let world = c.args.classes.now.world in
    let blocks = g.S.Store.content c.args.store.now in
    on_ok_weaker
    {P = Moved world (Raising 21) (kept c.args.frames.now c.args.control.now c.args.held.now blocks)
    (kept c.raise.new.frames c.raise.new.control c.raise.new.held (g.S.Store.content c.raise.new.store))}
    c.raise.result
    (λ moved program texts s t addresses h.
    let now = code_now world c.args.method program texts s t addresses c.args.frames.now c.args.control.now c.args.held.now blocks h in
    let is = code_is world c.args.method program texts s t addresses c.args.frames.now c.args.control.now c.args.held.now blocks h c.args.methods.now c.requires.methods in
    let words = c.words_of-words.ensures ∙ ap code_words (c.code_of-code.ensures program h.does.d now.code is) in
    let left = h.stands.frames.left_is in
    let lack = c.if-words-frames.true in
    moved program texts s t addresses
    (raises world c.args.method program texts s t addresses c.args.frames.now c.args.control.now c.args.held.now blocks h c.system_has_numbers.ensures (omega (arith, words, left, lack))))
    c.raise.ensures.raised

pub overflow_cast-base : goal.overflow_cast-base
overflow_cast-base g c =
    let f = c.requires.can.moves.stands.frames in
    let top = f.top_within in
    let few = f.few in
    record { fits = omega (arith, top, few) }

pub overflow_add-frames : goal.overflow_add-frames
overflow_add-frames g c =
    let w = c.requires.can in
    let f = w.moves.stands.frames in
    let top = f.top_within in
    let few = f.few in
    let room = f.room in
    let left = f.left_is in
    let enough = c.if-words-frames.false in
    let words = c.words_of-words.ensures in
    let locals = c.from.ensures in
    record { fits = omega (arith, top, few, room, left, enough, words, locals) }

pub push_record-requires : goal.push_record-requires
push_record-requires g c =
    let w = c.requires.can in
    let world = c.args.classes.now.world in
    let blocks = g.S.Store.content c.args.store.now in
    let now = code_now world c.args.method w.program w.texts w.s w.t w.addresses c.args.frames.now c.args.control.now c.args.held.now blocks w.moves in
    let is = code_is world c.args.method w.program w.texts w.s w.t w.addresses c.args.frames.now c.args.control.now c.args.held.now blocks w.moves c.args.methods.now c.requires.methods in
    let words = c.words_of-words.ensures ∙ ap code_words (c.code_of-code.ensures w.program w.moves.does.d now.code is) in
    let left = w.moves.stands.frames.left_is in
    let enough = c.if-words-frames.false in
    room_for_record world c.args.method w.program w.texts w.s w.t w.addresses c.args.frames.now c.args.control.now c.args.held.now blocks w.moves (omega (arith, words, left, enough))

pub returns-clause-entered : goal.returns-clause-entered
returns-clause-entered g c = λ program texts s t addresses h.
    let world = c.args.classes.now.world in
    let blocks = g.S.Store.content c.args.store.now in
    let frames = c.args.frames.now in
    let now = code_now world c.args.method program texts s t addresses frames c.args.control.now c.args.held.now blocks h in
    let is = code_is world c.args.method program texts s t addresses frames c.args.control.now c.args.held.now blocks h c.args.methods.now c.requires.methods in
    let code = c.code_of-code.ensures program h.does.d now.code is in
    let words : c.words_of-words.result ≡ code_words now.code = c.words_of-words.ensures ∙ ap code_words code in
    let left = h.stands.frames.left_is in
    let enough = c.if-words-frames.false in
    let locals = c.from.ensures ∙ ap (λ (x : CodeSeen). x.max_locals) code in
    let after = record frames { records = c.push_record.new.records; top = frames.top + c.from.result; left = frames.left - c.words_of-words.result } in
    let back : after.left + code_words now.code ≡ frames.left = omega (arith, words, enough) in
    enters world c.args.method program texts s t addresses frames c.args.control.now c.args.held.now blocks h after (omega (arith, words, left, enough)) refl
    c.push_record.ensures.items c.push_record.ensures.capacity (ap (λ (k : ℕ). frames.top + k) locals) back
