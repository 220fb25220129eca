use Rattle.std.proofs.Common.{◌≡◌, ℕ, ◌++◌, ◌-◌, ◌<◌, false, List, ◌∷◌, Some, drop, get_or, length, slice_get, take, refl, sym, ap, subst, ◌∙◌, arith}
use Rattle.std.proofs.Math.Seq.{take-append_seam}
use Rattle.std.proofs.lemmas.Option.{slice_get-get_or, slice_get_within}
use Rattle.std.proofs.lemmas.Result.{on_ok_weaker}
use Rattle.std.specs.Vec.{with_items}
use Rattle.jv_meaning_world.specs.World.{Loaded, World}
use Rattle.jv_meaning_world.specs.Numbers.{IsNumbered}
use Rattle.jv_meaning_machine.specs.State.ClassState.{Begun}
use Rattle.jv_interp_held.specs.declared.class_state.ClassState.{ClassState}
use Rattle.jv_interp_held.specs.ClassStates.{AreClassStates}
use Rattle.jv_interp_control.specs.Standing.{kept, Moved}
use Rattle.jv_interp_control.specs.Moves.{Raising}
use Rattle.jv_interp_control.proofs.StatesSet.{state_set}
use Rattle.jv_interp_control.proofs.Counted.{has_room}
use Rattle.jv_interp_control.proofs.BeginsStand.{kept_now, is_state, no_change, no_change_either, raises_erroneous, verdict, raises_unverified, raises_overflow, begins}
use Rattle.jv_interp_control.proofs.beginning.begin.Goals as goal

pub index-requires : goal.index-requires
index-requires g c =
    let w = c.requires.can in
    let size = c.args.control.now.states.ok.0 in
    let low =
    slice_get_within c.args.control.now.states.items c.args.class _
    (kept_now c.args.program.now.classes.now.world c.args.class c.args.program.now.verified.now w.program w.texts w.s w.t w.addresses c.args.frames.now c.args.control.now
    c.args.held.now (g.S.Store.content c.args.store.now) w.moves) in
    omega (arith, size, low)

pub returns-in-Begun-clause-begun : goal.returns-in-Begun-clause-begun
returns-in-Begun-clause-begun g c = λ program texts s t addresses h.
    let low = slice_get_within c.args.control.now.states.items c.args.class _
    (kept_now c.args.program.now.classes.now.world c.args.class c.args.program.now.verified.now program texts s t addresses c.args.frames.now c.args.control.now
    c.args.held.now (g.S.Store.content c.args.store.now) h) in
    let there = slice_get-get_or c.args.control.now.states.items c.args.class c.index.result.now low ∙ ap Some (sym c.index.ensures) in
    let state = is_state c.args.program.now.classes.now.world c.args.class c.args.program.now.verified.now program texts s t addresses c.args.frames.now c.args.control.now
    c.args.held.now (g.S.Store.content c.args.store.now) h c.index.result.now there in
    no_change c.args.program.now.classes.now.world c.args.class c.args.program.now.verified.now program texts s t addresses c.args.frames.now c.args.control.now
    c.args.held.now (g.S.Store.content c.args.store.now) h c.index.result.now state c.in-Begun.is

pub returns-in-Initialized-clause-begun : goal.returns-in-Initialized-clause-begun
returns-in-Initialized-clause-begun g c = λ program texts s t addresses h.
    let low = slice_get_within c.args.control.now.states.items c.args.class _
    (kept_now c.args.program.now.classes.now.world c.args.class c.args.program.now.verified.now program texts s t addresses c.args.frames.now c.args.control.now
    c.args.held.now (g.S.Store.content c.args.store.now) h) in
    let there = slice_get-get_or c.args.control.now.states.items c.args.class c.index.result.now low ∙ ap Some (sym c.index.ensures) in
    let state = is_state c.args.program.now.classes.now.world c.args.class c.args.program.now.verified.now program texts s t addresses c.args.frames.now c.args.control.now
    c.args.held.now (g.S.Store.content c.args.store.now) h c.index.result.now there in
    no_change_either c.args.program.now.classes.now.world c.args.class c.args.program.now.verified.now program texts s t addresses c.args.frames.now c.args.control.now
    c.args.held.now (g.S.Store.content c.args.store.now) h c.index.result.now state c.in-Initialized.is

pub raise-requires-clause-can : goal.raise-requires-clause-can
raise-requires-clause-can g c =
    let w = c.requires.can in
    let low = slice_get_within c.args.control.now.states.items c.args.class _
    (kept_now c.args.program.now.classes.now.world c.args.class c.args.program.now.verified.now w.program w.texts w.s w.t w.addresses c.args.frames.now c.args.control.now
    c.args.held.now (g.S.Store.content c.args.store.now) w.moves) in
    let there = slice_get-get_or c.args.control.now.states.items c.args.class c.index.result.now low ∙ ap Some (sym c.index.ensures) in
    let state = is_state c.args.program.now.classes.now.world c.args.class c.args.program.now.verified.now w.program w.texts w.s w.t w.addresses c.args.frames.now
    c.args.control.now c.args.held.now (g.S.Store.content c.args.store.now) w.moves c.index.result.now there in
    let moves = raises_erroneous c.args.program.now.classes.now.world c.args.class c.args.program.now.verified.now w.program w.texts w.s w.t w.addresses c.args.frames.now
    c.args.control.now c.args.held.now (g.S.Store.content c.args.store.now) w.moves c.system_has_numbers.ensures (state ∙ c.in-Erroneous.is) in
    record { program = w.program; texts = w.texts; s = w.s; t = w.t; addresses = w.addresses; moves = moves }

pub returns-in-Erroneous-clause-begun : goal.returns-in-Erroneous-clause-begun
returns-in-Erroneous-clause-begun g c =
    on_ok_weaker
    {P = Moved c.args.program.now.classes.now.world (Raising 25) (kept c.args.frames.now c.args.control.now c.args.held.now (g.S.Store.content c.args.store.now))
    (kept c.raise.new.frames c.raise.new.control c.raise.new.held (g.S.Store.content c.raise.new.store))}
    c.raise.result
    (λ moved program texts s t addresses h.
    let low = slice_get_within c.args.control.now.states.items c.args.class _
    (kept_now c.args.program.now.classes.now.world c.args.class c.args.program.now.verified.now program texts s t addresses c.args.frames.now c.args.control.now
    c.args.held.now (g.S.Store.content c.args.store.now) h) in
    let there = slice_get-get_or c.args.control.now.states.items c.args.class c.index.result.now low ∙ ap Some (sym c.index.ensures) in
    let state = is_state c.args.program.now.classes.now.world c.args.class c.args.program.now.verified.now program texts s t addresses c.args.frames.now c.args.control.now
    c.args.held.now (g.S.Store.content c.args.store.now) h c.index.result.now there in
    let moves = raises_erroneous c.args.program.now.classes.now.world c.args.class c.args.program.now.verified.now program texts s t addresses c.args.frames.now
    c.args.control.now c.args.held.now (g.S.Store.content c.args.store.now) h c.system_has_numbers.ensures (state ∙ c.in-Erroneous.is) in
    moved program texts s t addresses moves)
    c.raise.ensures.raised

pub bounds-program-class : goal.bounds-program-class
bounds-program-class g c =
    let w = c.requires.can in
    slice_get_within c.args.program.now.verified.now c.args.class _ (w.moves.does.are c.args.class w.moves.does.l w.moves.does.at)

pub raise-requires-then-not-program-class-clause-can : goal.raise-requires-then-not-program-class-clause-can
raise-requires-then-not-program-class-clause-can g c =
    let w = c.requires.can in
    let low = slice_get_within c.args.control.now.states.items c.args.class _
    (kept_now c.args.program.now.classes.now.world c.args.class c.args.program.now.verified.now w.program w.texts w.s w.t w.addresses c.args.frames.now c.args.control.now
    c.args.held.now (g.S.Store.content c.args.store.now) w.moves) in
    let there = slice_get-get_or c.args.control.now.states.items c.args.class c.index.result.now low ∙ ap Some (sym c.index.ensures) in
    let state = is_state c.args.program.now.classes.now.world c.args.class c.args.program.now.verified.now w.program w.texts w.s w.t w.addresses c.args.frames.now
    c.args.control.now c.args.held.now (g.S.Store.content c.args.store.now) w.moves c.index.result.now there in
    let within = slice_get_within c.args.program.now.verified.now c.args.class _ (w.moves.does.are c.args.class w.moves.does.l w.moves.does.at) in
    let told = verdict c.args.program.now.classes.now.world c.args.class c.args.program.now.verified.now w.program w.texts w.s w.t w.addresses c.args.frames.now
    c.args.control.now c.args.held.now (g.S.Store.content c.args.store.now) w.moves (get_or c.args.program.now.verified.now c.args.class false)
    (slice_get-get_or c.args.program.now.verified.now c.args.class false within) in
    let moves = raises_unverified c.args.program.now.classes.now.world c.args.class c.args.program.now.verified.now w.program w.texts w.s w.t w.addresses c.args.frames.now
    c.args.control.now c.args.held.now (g.S.Store.content c.args.store.now) w.moves c.system_has_numbers.ensures (state ∙ c.in-Untouched.is)
    (told ∙ search c.if-not-program-class.true) in
    record { program = w.program; texts = w.texts; s = w.s; t = w.t; addresses = w.addresses; moves = moves }

pub returns-then-not-program-class-clause-begun : goal.returns-then-not-program-class-clause-begun
returns-then-not-program-class-clause-begun g c =
    on_ok_weaker
    {P = Moved c.args.program.now.classes.now.world (Raising 26) (kept c.args.frames.now c.args.control.now c.args.held.now (g.S.Store.content c.args.store.now))
    (kept c.raise-then-not-program-class.new.frames c.raise-then-not-program-class.new.control c.raise-then-not-program-class.new.held
    (g.S.Store.content c.raise-then-not-program-class.new.store))}
    c.raise-then-not-program-class.result
    (λ moved program texts s t addresses h.
    let low = slice_get_within c.args.control.now.states.items c.args.class _
    (kept_now c.args.program.now.classes.now.world c.args.class c.args.program.now.verified.now program texts s t addresses c.args.frames.now c.args.control.now
    c.args.held.now (g.S.Store.content c.args.store.now) h) in
    let there = slice_get-get_or c.args.control.now.states.items c.args.class c.index.result.now low ∙ ap Some (sym c.index.ensures) in
    let state = is_state c.args.program.now.classes.now.world c.args.class c.args.program.now.verified.now program texts s t addresses c.args.frames.now c.args.control.now
    c.args.held.now (g.S.Store.content c.args.store.now) h c.index.result.now there in
    let within = slice_get_within c.args.program.now.verified.now c.args.class _ (h.does.are c.args.class h.does.l h.does.at) in
    let told = verdict c.args.program.now.classes.now.world c.args.class c.args.program.now.verified.now program texts s t addresses c.args.frames.now c.args.control.now
    c.args.held.now (g.S.Store.content c.args.store.now) h (get_or c.args.program.now.verified.now c.args.class false)
    (slice_get-get_or c.args.program.now.verified.now c.args.class false within) in
    let moves = raises_unverified c.args.program.now.classes.now.world c.args.class c.args.program.now.verified.now program texts s t addresses c.args.frames.now
    c.args.control.now c.args.held.now (g.S.Store.content c.args.store.now) h c.system_has_numbers.ensures (state ∙ c.in-Untouched.is)
    (told ∙ search c.if-not-program-class.true) in
    moved program texts s t addresses moves)
    c.raise-then-not-program-class.ensures.raised

pub raise-requires-then-frames-lt4-clause-can : goal.raise-requires-then-frames-lt4-clause-can
raise-requires-then-frames-lt4-clause-can g c =
    let w = c.requires.can in
    let low = slice_get_within c.args.control.now.states.items c.args.class _
    (kept_now c.args.program.now.classes.now.world c.args.class c.args.program.now.verified.now w.program w.texts w.s w.t w.addresses c.args.frames.now c.args.control.now
    c.args.held.now (g.S.Store.content c.args.store.now) w.moves) in
    let there = slice_get-get_or c.args.control.now.states.items c.args.class c.index.result.now low ∙ ap Some (sym c.index.ensures) in
    let state = is_state c.args.program.now.classes.now.world c.args.class c.args.program.now.verified.now w.program w.texts w.s w.t w.addresses c.args.frames.now
    c.args.control.now c.args.held.now (g.S.Store.content c.args.store.now) w.moves c.index.result.now there in
    let within = slice_get_within c.args.program.now.verified.now c.args.class _ (w.moves.does.are c.args.class w.moves.does.l w.moves.does.at) in
    let told = verdict c.args.program.now.classes.now.world c.args.class c.args.program.now.verified.now w.program w.texts w.s w.t w.addresses c.args.frames.now
    c.args.control.now c.args.held.now (g.S.Store.content c.args.store.now) w.moves (get_or c.args.program.now.verified.now c.args.class false)
    (slice_get-get_or c.args.program.now.verified.now c.args.class false within) in
    let left = w.moves.stands.frames.left_is in
    let lack = c.if-frames-lt4.true in
    let moves = raises_overflow c.args.program.now.classes.now.world c.args.class c.args.program.now.verified.now w.program w.texts w.s w.t w.addresses c.args.frames.now
    c.args.control.now c.args.held.now (g.S.Store.content c.args.store.now) w.moves c.system_has_numbers.ensures (state ∙ c.in-Untouched.is)
    (told ∙ search c.if-not-program-class.false) (omega (arith, left, lack)) in
    record { program = w.program; texts = w.texts; s = w.s; t = w.t; addresses = w.addresses; moves = moves }

pub returns-then-frames-lt4-clause-begun : goal.returns-then-frames-lt4-clause-begun
returns-then-frames-lt4-clause-begun g c =
    on_ok_weaker
    {P = Moved c.args.program.now.classes.now.world (Raising 21) (kept c.args.frames.now c.args.control.now c.args.held.now (g.S.Store.content c.args.store.now))
    (kept c.raise-then-frames-lt4.new.frames c.raise-then-frames-lt4.new.control c.raise-then-frames-lt4.new.held
    (g.S.Store.content c.raise-then-frames-lt4.new.store))}
    c.raise-then-frames-lt4.result
    (λ moved program texts s t addresses h.
    let low = slice_get_within c.args.control.now.states.items c.args.class _
    (kept_now c.args.program.now.classes.now.world c.args.class c.args.program.now.verified.now program texts s t addresses c.args.frames.now c.args.control.now
    c.args.held.now (g.S.Store.content c.args.store.now) h) in
    let there = slice_get-get_or c.args.control.now.states.items c.args.class c.index.result.now low ∙ ap Some (sym c.index.ensures) in
    let state = is_state c.args.program.now.classes.now.world c.args.class c.args.program.now.verified.now program texts s t addresses c.args.frames.now c.args.control.now
    c.args.held.now (g.S.Store.content c.args.store.now) h c.index.result.now there in
    let within = slice_get_within c.args.program.now.verified.now c.args.class _ (h.does.are c.args.class h.does.l h.does.at) in
    let told = verdict c.args.program.now.classes.now.world c.args.class c.args.program.now.verified.now program texts s t addresses c.args.frames.now c.args.control.now
    c.args.held.now (g.S.Store.content c.args.store.now) h (get_or c.args.program.now.verified.now c.args.class false)
    (slice_get-get_or c.args.program.now.verified.now c.args.class false within) in
    let left = h.stands.frames.left_is in
    let lack = c.if-frames-lt4.true in
    let moves = raises_overflow c.args.program.now.classes.now.world c.args.class c.args.program.now.verified.now program texts s t addresses c.args.frames.now
    c.args.control.now c.args.held.now (g.S.Store.content c.args.store.now) h c.system_has_numbers.ensures (state ∙ c.in-Untouched.is)
    (told ∙ search c.if-not-program-class.false) (omega (arith, left, lack)) in
    moved program texts s t addresses moves)
    c.raise-then-frames-lt4.ensures.raised

pub class_at-requires : goal.class_at-requires
class_at-requires g c =
    let w = c.requires.can in
    subst (λ (world : World). c.args.class < length world) (w.moves.world_is ∙ sym c.table-table.ensures) (slice_get_within w.program.world c.args.class _ w.moves.does.at)

pub push_record-requires : goal.push_record-requires
push_record-requires g c =
    let w = c.requires.can in
    let left = w.moves.stands.frames.left_is in
    let enough = c.if-frames-lt4.false in
    has_room w.program w.addresses w.s.frames c.args.frames.now w.s.control.words w.moves.stands.frames 4 (omega arith) (omega (arith, left, enough))

pub mark_begun-requires : goal.mark_begun-requires
mark_begun-requires g c =
    let w = c.requires.can in
    let low = slice_get_within c.args.control.now.states.items c.args.class _
    (kept_now c.args.program.now.classes.now.world c.args.class c.args.program.now.verified.now w.program w.texts w.s w.t w.addresses c.args.frames.now c.args.control.now
    c.args.held.now (g.S.Store.content c.args.store.now) w.moves) in
    subst (λ states. c.args.class < length states) (sym c.deref_mut.ensures.value) low

pub returns-clause-begun : goal.returns-clause-begun
returns-clause-begun g c = λ program texts s t addresses h.
    let low = slice_get_within c.args.control.now.states.items c.args.class _
    (kept_now c.args.program.now.classes.now.world c.args.class c.args.program.now.verified.now program texts s t addresses c.args.frames.now c.args.control.now
    c.args.held.now (g.S.Store.content c.args.store.now) h) in
    let there = slice_get-get_or c.args.control.now.states.items c.args.class c.index.result.now low ∙ ap Some (sym c.index.ensures) in
    let state = is_state c.args.program.now.classes.now.world c.args.class c.args.program.now.verified.now program texts s t addresses c.args.frames.now c.args.control.now
    c.args.held.now (g.S.Store.content c.args.store.now) h c.index.result.now there in
    let within = slice_get_within c.args.program.now.verified.now c.args.class _ (h.does.are c.args.class h.does.l h.does.at) in
    let told = verdict c.args.program.now.classes.now.world c.args.class c.args.program.now.verified.now program texts s t addresses c.args.frames.now c.args.control.now
    c.args.held.now (g.S.Store.content c.args.store.now) h (get_or c.args.program.now.verified.now c.args.class false)
    (slice_get-get_or c.args.program.now.verified.now c.args.class false within) in
    let world_is : c.table-table.result.now ≡ program.world = c.table-table.ensures ∙ sym h.world_is in
    let numbers = subst (λ (v : World). IsNumbered v) world_is c.is_numbered.ensures in
    let own = c.class_at.ensures h.does.l (ap (λ (v : World). slice_get v c.args.class) world_is ∙ h.does.at) in
    let system = ap (λ (k : Loaded). k.by_system) (sym own) ∙ sym c.by_system-by_system.ensures in
    let before = subst (λ (all : List ClassState). AreClassStates program.world s.control.states all) (sym c.deref_mut.ensures.value) h.stands.control.states in
    let new = c.mark_begun.new.states in
    let set =
    state_set program.world numbers c.args.class h.does.l s.control.states Begun _ h.does.at before c.by_system-by_system.result new system
    c.mark_begun.ensures.system c.mark_begun.ensures.guests in
    let size : c.args.control.now.states.len ≡ length new = c.args.control.now.states.ok.0 ∙ ap length (sym c.deref_mut.ensures.value) ∙ sym c.mark_begun.auto.states in
    let all : (with_items c.args.control.now.states new).items ≡ new =
    ap (λ (n : ℕ). take n (new ++ drop (length new) c.args.control.now.states.items)) size ∙ take-append_seam new (drop (length new) c.args.control.now.states.items) in
    let frames = c.args.frames.now in
    let after = record frames { records = c.push_record.new.records; left = frames.left - 4 } in
    let control_after = record c.args.control.now { states = with_items c.args.control.now.states new } in
    let left = h.stands.frames.left_is in
    let enough = c.if-frames-lt4.false in
    begins c.args.program.now.classes.now.world c.args.class c.args.program.now.verified.now program texts s t addresses c.args.frames.now c.args.control.now c.args.held.now
    (g.S.Store.content c.args.store.now) h after new control_after (state ∙ c.in-Untouched.is) (told ∙ search c.if-not-program-class.false)
    (omega (arith, left, enough)) refl
    c.push_record.ensures.items c.push_record.ensures.capacity refl (omega (arith, enough))
    (subst (λ (xs : List ClassState). AreClassStates program.world ((h.does.l.class.name, Begun) ∷ s.control.states) xs) (sym all) set) refl
