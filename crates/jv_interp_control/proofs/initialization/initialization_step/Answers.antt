use Rattle.std.proofs.Common.{◌≡◌, ℕ, List, [], ◌∷◌, ◌++◌, Option, length, take, ◌-◌, refl, sym, ap, subst, ◌∙◌, arith, length-append}
use Rattle.std.proofs.Math.Seq.{take-append_seam}
use Rattle.std.specs.Prelude.{vec_len, vec_capacity}
use Rattle.jv_meaning_world.specs.World.{World}
use Rattle.jv_interp_words.specs.declared.records.FrameRecord.{FrameRecord}
use Rattle.jv_interp_words.specs.declared.records.FrameRecord.TheVariants as records
use Rattle.jv_interp_held.specs.declared.class_state.ClassState.{ClassState}
use Rattle.jv_interp_control.specs.declared.frames.Frames.{Frames}
use Rattle.jv_interp_control.specs.declared.tasks.Next.{Next}
use Rattle.jv_interp_control.specs.Inside.Tasks.{Asking, IsNext}
use Rattle.jv_interp_control.proofs.Tasked.{can_take, asking, room_for_it, finishing, tasked}
use Rattle.jv_interp_control.proofs.initialization.initialization_step.Goals as goal

pub take_initialization-own-requires : goal.take_initialization-own-requires
take_initialization-own-requires g c =
    let w = c.requires.can in
    can_take c.args.program.now.classes.now.world c.args.program.now.texts.now.names c.args.program.now.verified.now w.program w.s w.t w.addresses c.args.frames.now c.args.control.now
    c.args.held.now (g.S.Store.content c.args.store.now) w.moves

pub next_task-requires : goal.next_task-requires
next_task-requires g c =
    let w = c.requires.can in
    let own = c.take_initialization-own.result in
    let asked : Asking c.table.result.now c.args.linked.now own c.deref.result.now w.program w.moves.does.frame w.s.control.states =
    subst (λ (v : World). Asking v c.args.linked.now own c.deref.result.now w.program w.moves.does.frame w.s.control.states) (sym c.table.ensures)
    (subst (λ (xs : List ClassState). Asking c.args.program.now.classes.now.world c.args.linked.now own xs w.program w.moves.does.frame w.s.control.states) (sym c.deref.ensures.value)
    (asking c.args.program.now.classes.now.world c.args.program.now.texts.now.names c.args.program.now.verified.now w.program w.s w.t w.addresses c.args.frames.now c.args.control.now
    c.args.held.now (g.S.Store.content c.args.store.now) w.moves c.take_initialization-own.new.frames.records.items
    c.take_initialization-own.result c.take_initialization-own.ensures.items c.args.linked.now c.requires.linked c.requires.few_classes)) in
    record { program = w.program; frame = w.moves.does.frame; known = w.s.control.states; asking = asked }

pub finish-requires-clause-can : goal.finish-requires-clause-can
finish-requires-clause-can g c =
    let w = c.requires.can in
    let own = c.take_initialization-own.result in
    let asked : Asking c.table.result.now c.args.linked.now own c.deref.result.now w.program w.moves.does.frame w.s.control.states =
    subst (λ (v : World). Asking v c.args.linked.now own c.deref.result.now w.program w.moves.does.frame w.s.control.states) (sym c.table.ensures)
    (subst (λ (xs : List ClassState). Asking c.args.program.now.classes.now.world c.args.linked.now own xs w.program w.moves.does.frame w.s.control.states) (sym c.deref.ensures.value)
    (asking c.args.program.now.classes.now.world c.args.program.now.texts.now.names c.args.program.now.verified.now w.program w.s w.t w.addresses c.args.frames.now c.args.control.now
    c.args.held.now (g.S.Store.content c.args.store.now) w.moves c.take_initialization-own.new.frames.records.items
    c.take_initialization-own.result c.take_initialization-own.ensures.items c.args.linked.now c.requires.linked c.requires.few_classes)) in
    let none = subst (λ (o : Option Next). IsNext w.program w.moves.does.frame w.s.control.states own.class o) c.in_default.is
    (c.next_task.ensures w.program w.moves.does.frame w.s.control.states asked) in
    let moves = finishing c.args.program.now.classes.now.world c.args.program.now.texts.now.names c.args.program.now.verified.now w.program w.s w.t w.addresses c.args.frames.now
    c.args.control.now c.args.held.now (g.S.Store.content c.args.store.now) w.moves c.take_initialization-own.new.frames.records.items
    c.take_initialization-own.result c.take_initialization-own.ensures.items c.take_initialization-own.new.frames none
    c.take_initialization-own.ensures.others refl c.take_initialization-own.ensures.capacity in
    record { program = w.program; texts = c.args.program.now.texts.now.names; s = _; t = w.t; addresses = w.addresses; moves = moves }

pub push_record-requires : goal.push_record-requires
push_record-requires g c =
    let w = c.requires.can in
    let room = room_for_it c.args.program.now.classes.now.world c.args.program.now.texts.now.names c.args.program.now.verified.now w.program w.s w.t w.addresses c.args.frames.now
    c.args.control.now c.args.held.now (g.S.Store.content c.args.store.now) w.moves c.take_initialization-own.new.frames.records.items
    c.take_initialization-own.result c.take_initialization-own.ensures.items in
    let capacity = c.take_initialization-own.ensures.capacity in
    let as_before = (c.in-Err.ensures {u = tt}).refused_frames in
    let size = c.finish.new.frames.records.ok.0 in
    let items = ap (λ (l : List FrameRecord). length l) as_before.records in
    let same = as_before.capacity in
    omega (arith, room, capacity, size, items, same)

pub push_record-requires-2 : goal.push_record-requires-2
push_record-requires-2 g c =
    let w = c.requires.can in
    let room = room_for_it c.args.program.now.classes.now.world c.args.program.now.texts.now.names c.args.program.now.verified.now w.program w.s w.t w.addresses c.args.frames.now
    c.args.control.now c.args.held.now (g.S.Store.content c.args.store.now) w.moves c.take_initialization-own.new.frames.records.items
    c.take_initialization-own.result c.take_initialization-own.ensures.items in
    let capacity = c.take_initialization-own.ensures.capacity in
    let size = c.take_initialization-own.new.frames.records.ok.0 in
    omega (arith, room, capacity, size)

pub do_task-requires-clause-can : goal.do_task-requires-clause-can
do_task-requires-clause-can g c =
    let w = c.requires.can in
    let own = c.take_initialization-own.result in
    let asked : Asking c.table.result.now c.args.linked.now own c.deref.result.now w.program w.moves.does.frame w.s.control.states =
    subst (λ (v : World). Asking v c.args.linked.now own c.deref.result.now w.program w.moves.does.frame w.s.control.states) (sym c.table.ensures)
    (subst (λ (xs : List ClassState). Asking c.args.program.now.classes.now.world c.args.linked.now own xs w.program w.moves.does.frame w.s.control.states) (sym c.deref.ensures.value)
    (asking c.args.program.now.classes.now.world c.args.program.now.texts.now.names c.args.program.now.verified.now w.program w.s w.t w.addresses c.args.frames.now c.args.control.now
    c.args.held.now (g.S.Store.content c.args.store.now) w.moves c.take_initialization-own.new.frames.records.items
    c.take_initialization-own.result c.take_initialization-own.ensures.items c.args.linked.now c.requires.linked c.requires.few_classes)) in
    let is = subst (λ (o : Option Next). IsNext w.program w.moves.does.frame w.s.control.states own.class o) c.in-Some.is (c.next_task.ensures w.program w.moves.does.frame w.s.control.states asked) in
    let after = record c.take_initialization-own.new.frames { records = c.push_record-2.new.records } in
    let moves =
    tasked c.args.program.now.classes.now.world c.args.program.now.texts.now.names c.args.program.now.verified.now w.program w.s w.t w.addresses c.args.frames.now c.args.control.now
    c.args.held.now (g.S.Store.content c.args.store.now) w.moves c.take_initialization-own.new.frames.records.items
    c.take_initialization-own.result c.take_initialization-own.ensures.items c.in-Some.next.task c.in-Some.next.done is.0 after is.1 is.2
    (ap (λ (f : Frames). record f { records = c.push_record-2.new.records }) c.take_initialization-own.ensures.others) c.push_record-2.ensures.items
    (c.push_record-2.ensures.capacity ∙ c.take_initialization-own.ensures.capacity) in
    record { program = w.program; s = _; t = w.t; addresses = w.addresses; moves = moves }

pub returns-in-Ok-clause-done : goal.returns-in-Ok-clause-done
returns-in-Ok-clause-done g c = λ program s t addresses h.
    let own = c.take_initialization-own.result in
    let asked : Asking c.table.result.now c.args.linked.now own c.deref.result.now program h.does.frame s.control.states =
    subst (λ (v : World). Asking v c.args.linked.now own c.deref.result.now program h.does.frame s.control.states) (sym c.table.ensures)
    (subst (λ (xs : List ClassState). Asking c.args.program.now.classes.now.world c.args.linked.now own xs program h.does.frame s.control.states) (sym c.deref.ensures.value)
    (asking c.args.program.now.classes.now.world c.args.program.now.texts.now.names c.args.program.now.verified.now program s t addresses c.args.frames.now c.args.control.now
    c.args.held.now (g.S.Store.content c.args.store.now) h c.take_initialization-own.new.frames.records.items c.take_initialization-own.result
    c.take_initialization-own.ensures.items c.args.linked.now c.requires.linked c.requires.few_classes)) in
    let none = subst (λ (o : Option Next). IsNext program h.does.frame s.control.states own.class o) c.in_default.is (c.next_task.ensures program h.does.frame s.control.states asked) in
    let moves = finishing c.args.program.now.classes.now.world c.args.program.now.texts.now.names c.args.program.now.verified.now program s t addresses c.args.frames.now
    c.args.control.now c.args.held.now (g.S.Store.content c.args.store.now) h c.take_initialization-own.new.frames.records.items
    c.take_initialization-own.result c.take_initialization-own.ensures.items c.take_initialization-own.new.frames none
    c.take_initialization-own.ensures.others refl c.take_initialization-own.ensures.capacity in
    let r = (c.in-Ok.ensures {u = tt}).finished program c.args.program.now.texts.now.names _ t addresses moves in
    record { more = r.more; stands = r.stands; grows = r.grows }

pub returns-in-Ok-do_task-clause-done : goal.returns-in-Ok-do_task-clause-done
returns-in-Ok-do_task-clause-done g c = λ program s t addresses h.
    let own = c.take_initialization-own.result in
    let asked : Asking c.table.result.now c.args.linked.now own c.deref.result.now program h.does.frame s.control.states =
    subst (λ (v : World). Asking v c.args.linked.now own c.deref.result.now program h.does.frame s.control.states) (sym c.table.ensures)
    (subst (λ (xs : List ClassState). Asking c.args.program.now.classes.now.world c.args.linked.now own xs program h.does.frame s.control.states) (sym c.deref.ensures.value)
    (asking c.args.program.now.classes.now.world c.args.program.now.texts.now.names c.args.program.now.verified.now program s t addresses c.args.frames.now c.args.control.now
    c.args.held.now (g.S.Store.content c.args.store.now) h c.take_initialization-own.new.frames.records.items c.take_initialization-own.result
    c.take_initialization-own.ensures.items c.args.linked.now c.requires.linked c.requires.few_classes)) in
    let is = subst (λ (o : Option Next). IsNext program h.does.frame s.control.states own.class o) c.in-Some.is (c.next_task.ensures program h.does.frame s.control.states asked) in
    let after = record c.take_initialization-own.new.frames { records = c.push_record-2.new.records } in
    let moves =
    tasked c.args.program.now.classes.now.world c.args.program.now.texts.now.names c.args.program.now.verified.now program s t addresses c.args.frames.now c.args.control.now
    c.args.held.now (g.S.Store.content c.args.store.now) h c.take_initialization-own.new.frames.records.items c.take_initialization-own.result
    c.take_initialization-own.ensures.items c.in-Some.next.task c.in-Some.next.done is.0 after is.1 is.2
    (ap (λ (f : Frames). record f { records = c.push_record-2.new.records }) c.take_initialization-own.ensures.others) c.push_record-2.ensures.items
    (c.push_record-2.ensures.capacity ∙ c.take_initialization-own.ensures.capacity) in
    let r = (c.in-Ok-do_task.ensures {u = tt}).done program _ t addresses moves in
    record { more = r.more; stands = r.stands; grows = r.grows }

pub returns-in-Err-do_task-clause-refused_frames :
    goal.returns-in-Err-do_task-clause-refused_frames
returns-in-Err-do_task-clause-refused_frames g c =
    let own = c.take_initialization-own.result in
    let rest = c.take_initialization-own.new.frames.records.items in
    let next = records.Initializes (record { class = own.class; done = c.in-Some.next.done }) in
    let same = (c.in-Err-do_task.ensures {u = tt}).refused_frames in
    let items : c.do_task.new.frames.records.items ≡ rest ++ next ∷ [] = ap (λ (f : Frames). f.records.items) same ∙ c.push_record-2.ensures.items in
    let size = c.do_task.new.frames.records.ok.0 in
    let all = ap (λ (l : List FrameRecord). length l) items ∙ length-append rest (next ∷ []) in
    let count : vec_len c.do_task.new.frames.records - 1 ≡ length rest = omega (arith, size, all) in
    let popped : c.pop-next.new.self.items ≡ rest =
    c.pop-next.ensures.rest ∙ ap (λ (l : List FrameRecord). take (vec_len c.do_task.new.frames.records - 1) l) items
    ∙ ap (λ (n : ℕ). take n (rest ++ next ∷ [])) count ∙ take-append_seam rest (next ∷ []) in
    let others = c.take_initialization-own.ensures.others in
    record {
      words = ap (λ (f : Frames). f.words.items) same ∙ ap (λ (f : Frames). f.words.items) others;
      records = c.push_record-in-Err-do_task.ensures.items ∙ ap (λ (l : List FrameRecord). l ++ records.Initializes own ∷ []) popped ∙ sym c.take_initialization-own.ensures.items;
      capacity =
          c.push_record-in-Err-do_task.ensures.capacity ∙ c.pop-next.ensures.capacity ∙ ap (λ (f : Frames). vec_capacity f.records) same
          ∙ c.push_record-2.ensures.capacity ∙ c.take_initialization-own.ensures.capacity;
      top = ap (λ (f : Frames). f.top) same ∙ ap (λ (f : Frames). f.top) others;
      left = ap (λ (f : Frames). f.left) same ∙ ap (λ (f : Frames). f.left) others;
    }
