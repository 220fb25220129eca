use Rattle.std.proofs.Common.{◌≡◌, ℕ, ◌<◌, ◌++◌, List, Option, Some, None, length, refl, sym, ap, subst, ◌∙◌, arith, slice_get}
use Rattle.std.specs.Prelude.{IfSome}
use Rattle.std.specs.Option.{option_map}
use Rattle.std.proofs.Common.{rules, w32, w64, FitsSigned}
use Rattle.std.specs.Prelude.{ℤ}
use Rattle.std.proofs.lemmas.Int.{to_z-of_z}
use Rattle.std.proofs.lemmas.Result.{on_ok_weaker, on_err_weaker}
use Rattle.jv_text.specs.Types.{field_type_of}
use Rattle.jv_class.specs.Class.{InitialValue}
use Rattle.jv_class.specs.Class.InitialValue.{IntValue, LongValue}
use Rattle.jv_meaning_world.specs.World.{World}
use Rattle.jv_meaning_world.specs.LookUps.{DeclaredField, field_by}
use Rattle.jv_lookups.specs.Places.{field_at, IsFieldPlace}
use Rattle.jv_link_cache.specs.Linked.{IsLinked}
use Rattle.jv_link_cache.specs.Places.{IsWordOf}
use Rattle.jv_meaning_machine.specs.Values.Value.{Int, Long, Reference}
use Rattle.jv_interp_heap.specs.ObjectsInBlocks.{Blocks}
use Rattle.jv_interp_held.specs.declared.held.Held.{Held}
use Rattle.jv_interp_objects.specs.Literals.{LiteralGiven}
use Rattle.jv_interp_objects.specs.Texts.{AreTexts, HasText}
use Rattle.jv_interp_control.specs.Moves.{Throwing}
use Rattle.jv_interp_control.specs.Standing.{kept, Moves, Moved}
use Rattle.jv_interp_control.specs.declared.constants.Constant.{Constant}
use Rattle.jv_interp_control.specs.declared.constants.Constant.TheVariants as constants
use Rattle.jv_interp_control.specs.Inside.Constants.{seen_constant, HasItsText, PutsInt, PutsLong}
use Rattle.jv_interp_control.proofs.ConstantSet.{at_here, class_here, low, is_place, fit, value_set, value_set_alone, putting_int, putting_long, constant_is, finds, given, lacking, then_throws}
use Rattle.jv_interp_control.proofs.constants.set_constant.Goals as goal

some_holds : (k : Constant) (names : List (List ℕ)) → IfSome (Some k) (HasItsText names) → HasItsText names k
some_holds k names h = h

pub constant_of-requires-clause-class : goal.constant_of-requires-clause-class
constant_of-requires-clause-class g c =
    let w = c.requires.can in
    subst (λ (v : World). c.args.class < length v) (sym c.table-table.ensures)
    (low c.args.program.now.classes.now.world c.args.program.now.texts.now.names c.args.class c.args.member w.program w.s w.t w.addresses c.args.frames.now
    c.args.control.now c.args.held.now (g.S.Store.content c.args.store.now) w.moves)

pub constant_of-requires-clause-texts : goal.constant_of-requires-clause-texts
constant_of-requires-clause-texts g c =
    subst (λ (v : World). AreTexts v c.args.program.now.texts.now) (sym c.table-table.ensures) c.requires.texts

pub field_at-requires : goal.field_at-requires
field_at-requires g c =
    let w = c.requires.can in
    subst (λ (v : World). IsFieldPlace v (record { class = c.args.class; member = c.args.member })) (sym c.table-table.ensures)
    (is_place c.args.program.now.classes.now.world c.args.program.now.texts.now.names c.args.class c.args.member w.program w.s w.t w.addresses c.args.frames.now
    c.args.control.now c.args.held.now (g.S.Store.content c.args.store.now) w.moves)

pub put_int-requires : goal.put_int-requires
put_int-requires g c =
    let w = c.requires.can in
    let is_word : (v : World) (x : DeclaredField) → v ≡ c.args.program.now.classes.now.world → field_at v (record { class = c.args.class; member = c.args.member }) ≡ Some x
    → IsWordOf v x c.word_of-word.result =
    λ v x same at. c.word_of-word.ensures v x (subst (λ (v : World). IsLinked v c.args.linked.now) (sym same) c.requires.linked) at in
    let at_table = subst (λ (v : World). slice_get v c.args.class ≡ Some w.moves.does.l) (sym c.table-table.ensures)
    (class_here c.args.program.now.classes.now.world c.args.program.now.texts.now.names c.args.class c.args.member w.program w.s w.t w.addresses c.args.frames.now
    c.args.control.now c.args.held.now (g.S.Store.content c.args.store.now) w.moves) in
    let is =
    subst (λ (o : Option Constant). option_map seen_constant o ≡ w.moves.does.f.initial) (c.in-Some-Int.is ∙ ap Some c.in-Some-Int.field-0-is)
    (c.constant_of.ensures.value w.moves.does.l at_table w.moves.does.f w.moves.does.field_is) in
    record {
      value = Int c.in-Some-Int.number;
      world = w.program.world;
      texts = c.args.program.now.texts.now.names;
      memory = w.s.memory;
      addresses = w.addresses;
      blocks = g.S.Store.content c.args.store.now;
      d = _;
      type = _;
      putting = putting_int c.args.program.now.classes.now.world c.args.program.now.texts.now.names c.args.class c.args.member w.program w.s w.t w.addresses c.args.frames.now
          c.args.control.now c.args.held.now (g.S.Store.content c.args.store.now) w.moves c.word_of-word.result is_word c.in-Some-Int.number is;
      width_is = refl;
    }

pub put_long-requires : goal.put_long-requires
put_long-requires g c =
    let w = c.requires.can in
    let is_word : (v : World) (x : DeclaredField) → v ≡ c.args.program.now.classes.now.world → field_at v (record { class = c.args.class; member = c.args.member }) ≡ Some x
    → IsWordOf v x c.word_of-word.result =
    λ v x same at. c.word_of-word.ensures v x (subst (λ (v : World). IsLinked v c.args.linked.now) (sym same) c.requires.linked) at in
    let at_table = subst (λ (v : World). slice_get v c.args.class ≡ Some w.moves.does.l) (sym c.table-table.ensures)
    (class_here c.args.program.now.classes.now.world c.args.program.now.texts.now.names c.args.class c.args.member w.program w.s w.t w.addresses c.args.frames.now
    c.args.control.now c.args.held.now (g.S.Store.content c.args.store.now) w.moves) in
    let is =
    subst (λ (o : Option Constant). option_map seen_constant o ≡ w.moves.does.f.initial) (c.in-Some-Long.is ∙ ap Some c.in-Some-Long.field-0-is)
    (c.constant_of.ensures.value w.moves.does.l at_table w.moves.does.f w.moves.does.field_is) in
    record {
      value = Long c.in-Some-Long.number;
      world = w.program.world;
      texts = c.args.program.now.texts.now.names;
      memory = w.s.memory;
      addresses = w.addresses;
      blocks = g.S.Store.content c.args.store.now;
      d = _;
      type = _;
      putting = putting_long c.args.program.now.classes.now.world c.args.program.now.texts.now.names c.args.class c.args.member w.program w.s w.t w.addresses
          c.args.frames.now c.args.control.now c.args.held.now (g.S.Store.content c.args.store.now) w.moves c.word_of-word.result is_word
          c.in-Some-Long.number is;
      width_is = refl;
    }

pub literal-requires-clause-count : goal.literal-requires-clause-count
literal-requires-clause-count g c =
    let known = subst (λ (o : Option Constant). IfSome o (HasItsText c.args.program.now.texts.now.names)) (c.in-Some-Text.is ∙ ap Some c.in-Some-Text.field-0-is) c.constant_of.ensures.text in
    let number_is : HasText c.args.program.now.texts.now.names c.in-Some-Text.text.now c.in-Some-Text.number = some_holds
    (constants.Text c.in-Some-Text.number c.in-Some-Text.text) c.args.program.now.texts.now.names known in
    c.count-count.ensures c.args.program.now.classes.now.world c.in-Some-Text.text.now c.requires.texts number_is

pub literal-requires-clause-can : goal.literal-requires-clause-can
literal-requires-clause-can g c =
    let w = c.requires.can in
    let is_word : (v : World) (x : DeclaredField) → v ≡ c.args.program.now.classes.now.world → field_at v (record { class = c.args.class; member = c.args.member }) ≡ Some x
    → IsWordOf v x c.word_of-word.result =
    λ v x same at. c.word_of-word.ensures v x (subst (λ (v : World). IsLinked v c.args.linked.now) (sym same) c.requires.linked) at in
    let at_table = subst (λ (v : World). slice_get v c.args.class ≡ Some w.moves.does.l) (sym c.table-table.ensures)
    (class_here c.args.program.now.classes.now.world c.args.program.now.texts.now.names c.args.class c.args.member w.program w.s w.t w.addresses c.args.frames.now
    c.args.control.now c.args.held.now (g.S.Store.content c.args.store.now) w.moves) in
    let is =
    subst (λ (o : Option Constant). option_map seen_constant o ≡ w.moves.does.f.initial) (c.in-Some-Text.is ∙ ap Some c.in-Some-Text.field-0-is)
    (c.constant_of.ensures.value w.moves.does.l at_table w.moves.does.f w.moves.does.field_is) in
    let known = subst (λ (o : Option Constant). IfSome o (HasItsText c.args.program.now.texts.now.names)) (c.in-Some-Text.is ∙ ap Some c.in-Some-Text.field-0-is) c.constant_of.ensures.text in
    let number_is : HasText c.args.program.now.texts.now.names c.in-Some-Text.text.now c.in-Some-Text.number = some_holds
    (constants.Text c.in-Some-Text.number c.in-Some-Text.text) c.args.program.now.texts.now.names known in
    let f = finds c.args.program.now.classes.now.world c.args.program.now.texts.now.names c.args.class c.args.member w.program w.s w.t w.addresses c.args.frames.now
    c.args.control.now c.args.held.now (g.S.Store.content c.args.store.now) w.moves c.word_of-word.result is_word c.in-Some-Text.number
    c.in-Some-Text.text.now is number_is in
    record { texts = c.args.program.now.texts.now.names; program = w.program; memory = w.s.memory; addresses = w.addresses; made = f.made; finds = f.finding }

pub put_reference-requires : goal.put_reference-requires
put_reference-requires g c =
    let w = c.requires.can in
    let is_word : (v : World) (x : DeclaredField) → v ≡ c.args.program.now.classes.now.world → field_at v (record { class = c.args.class; member = c.args.member }) ≡ Some x
    → IsWordOf v x c.word_of-word.result =
    λ v x same at. c.word_of-word.ensures v x (subst (λ (v : World). IsLinked v c.args.linked.now) (sym same) c.requires.linked) at in
    let at_table = subst (λ (v : World). slice_get v c.args.class ≡ Some w.moves.does.l) (sym c.table-table.ensures)
    (class_here c.args.program.now.classes.now.world c.args.program.now.texts.now.names c.args.class c.args.member w.program w.s w.t w.addresses c.args.frames.now
    c.args.control.now c.args.held.now (g.S.Store.content c.args.store.now) w.moves) in
    let is =
    subst (λ (o : Option Constant). option_map seen_constant o ≡ w.moves.does.f.initial) (c.in-Some-Text.is ∙ ap Some c.in-Some-Text.field-0-is)
    (c.constant_of.ensures.value w.moves.does.l at_table w.moves.does.f w.moves.does.field_is) in
    let known = subst (λ (o : Option Constant). IfSome o (HasItsText c.args.program.now.texts.now.names)) (c.in-Some-Text.is ∙ ap Some c.in-Some-Text.field-0-is) c.constant_of.ensures.text in
    let number_is : HasText c.args.program.now.texts.now.names c.in-Some-Text.text.now c.in-Some-Text.number = some_holds
    (constants.Text c.in-Some-Text.number c.in-Some-Text.text) c.args.program.now.texts.now.names known in
    let f = finds c.args.program.now.classes.now.world c.args.program.now.texts.now.names c.args.class c.args.member w.program w.s w.t w.addresses c.args.frames.now
    c.args.control.now c.args.held.now (g.S.Store.content c.args.store.now) w.moves c.word_of-word.result is_word c.in-Some-Text.number
    c.in-Some-Text.text.now is number_is in
    let gave =
    subst (λ (o : Option ℕ). LiteralGiven w.program.world c.args.program.now.texts.now.names w.addresses c.args.held.now (g.S.Store.content c.args.store.now)
    f.made c.literal.new.held (g.S.Store.content c.literal.new.store) o)
    c.in-Some.is ((c.in_ok-address-in-Some-Text.ensures {u = tt}).finds c.args.program.now.texts.now.names w.program w.s.memory w.addresses f.made f.finding) in
    let v = given c.args.program.now.classes.now.world c.args.program.now.texts.now.names c.args.class c.args.member w.program w.s w.t w.addresses c.args.frames.now
    c.args.control.now c.args.held.now (g.S.Store.content c.args.store.now) w.moves c.word_of-word.result is_word c.in-Some-Text.number
    c.in-Some-Text.text.now is number_is c.literal.new.held (g.S.Store.content c.literal.new.store) c.in-Some.address gave in
    record {
      value = Reference v.made.1;
      world = w.program.world;
      texts = c.args.program.now.texts.now.names;
      memory = v.made.0;
      addresses = w.addresses ++ v.gives.more;
      blocks = g.S.Store.content c.literal.new.store;
      d = _;
      type = _;
      putting = v.putting;
      width_is = refl;
    }

pub throw-requires-clause-can : goal.throw-requires-clause-can
throw-requires-clause-can g c =
    let w = c.requires.can in
    let is_word : (v : World) (x : DeclaredField) → v ≡ c.args.program.now.classes.now.world → field_at v (record { class = c.args.class; member = c.args.member }) ≡ Some x
    → IsWordOf v x c.word_of-word.result =
    λ v x same at. c.word_of-word.ensures v x (subst (λ (v : World). IsLinked v c.args.linked.now) (sym same) c.requires.linked) at in
    let at_table = subst (λ (v : World). slice_get v c.args.class ≡ Some w.moves.does.l) (sym c.table-table.ensures)
    (class_here c.args.program.now.classes.now.world c.args.program.now.texts.now.names c.args.class c.args.member w.program w.s w.t w.addresses c.args.frames.now
    c.args.control.now c.args.held.now (g.S.Store.content c.args.store.now) w.moves) in
    let is =
    subst (λ (o : Option Constant). option_map seen_constant o ≡ w.moves.does.f.initial) (c.in-Some-Text.is ∙ ap Some c.in-Some-Text.field-0-is)
    (c.constant_of.ensures.value w.moves.does.l at_table w.moves.does.f w.moves.does.field_is) in
    let known = subst (λ (o : Option Constant). IfSome o (HasItsText c.args.program.now.texts.now.names)) (c.in-Some-Text.is ∙ ap Some c.in-Some-Text.field-0-is) c.constant_of.ensures.text in
    let number_is : HasText c.args.program.now.texts.now.names c.in-Some-Text.text.now c.in-Some-Text.number = some_holds
    (constants.Text c.in-Some-Text.number c.in-Some-Text.text) c.args.program.now.texts.now.names known in
    let f = finds c.args.program.now.classes.now.world c.args.program.now.texts.now.names c.args.class c.args.member w.program w.s w.t w.addresses c.args.frames.now
    c.args.control.now c.args.held.now (g.S.Store.content c.args.store.now) w.moves c.word_of-word.result is_word c.in-Some-Text.number
    c.in-Some-Text.text.now is number_is in
    let gave =
    subst (λ (o : Option ℕ). LiteralGiven w.program.world c.args.program.now.texts.now.names w.addresses c.args.held.now (g.S.Store.content c.args.store.now)
    f.made c.literal.new.held (g.S.Store.content c.literal.new.store) o)
    c.in-None-2.is ((c.in_ok-address-in-Some-Text.ensures {u = tt}).finds c.args.program.now.texts.now.names w.program w.s.memory w.addresses f.made f.finding) in
    let lacks = lacking c.args.program.now.classes.now.world c.args.program.now.texts.now.names c.args.class c.args.member w.program w.s w.t w.addresses c.args.frames.now
    c.args.control.now c.args.held.now (g.S.Store.content c.args.store.now) w.moves c.word_of-word.result is_word c.in-Some-Text.number
    c.in-Some-Text.text.now is number_is c.literal.new.held (g.S.Store.content c.literal.new.store) gave in
    let moves : Moves c.args.program.now.classes.now.world (Throwing c.literal.new.held.out_of_memory) w.program c.args.program.now.texts.now.names w.s w.t w.addresses
    (kept c.args.frames.now c.args.control.now c.literal.new.held (g.S.Store.content c.literal.new.store)) =
    subst (λ (x : Held). Moves c.args.program.now.classes.now.world (Throwing c.literal.new.held.out_of_memory) w.program c.args.program.now.texts.now.names w.s w.t
    w.addresses (kept c.args.frames.now c.args.control.now x (g.S.Store.content c.literal.new.store))) (sym lacks.0.same_held)
    (subst (λ (b : Blocks). Moves c.args.program.now.classes.now.world (Throwing c.literal.new.held.out_of_memory) w.program c.args.program.now.texts.now.names w.s w.t
    w.addresses (kept c.args.frames.now c.args.control.now c.args.held.now b)) (sym lacks.0.same)
    (then_throws c.args.program.now.classes.now.world c.args.program.now.texts.now.names c.args.class c.args.member w.program w.s w.t w.addresses c.args.frames.now
    c.args.control.now c.args.held.now (g.S.Store.content c.args.store.now) w.moves c.word_of-word.result is_word c.in-Some-Text.number
    c.in-Some-Text.text.now is number_is c.literal.new.held.out_of_memory (ap (λ (x : Held). x.out_of_memory) lacks.0.same_held) lacks.1)) in
    record { program = w.program; texts = c.args.program.now.texts.now.names; s = w.s; t = w.t; addresses = w.addresses; moves = moves }

pub throw-requires-clause-few : goal.throw-requires-clause-few
throw-requires-clause-few g c =
    let w = c.requires.can in
    let is_word : (v : World) (x : DeclaredField) → v ≡ c.args.program.now.classes.now.world → field_at v (record { class = c.args.class; member = c.args.member }) ≡ Some x
    → IsWordOf v x c.word_of-word.result =
    λ v x same at. c.word_of-word.ensures v x (subst (λ (v : World). IsLinked v c.args.linked.now) (sym same) c.requires.linked) at in
    let at_table = subst (λ (v : World). slice_get v c.args.class ≡ Some w.moves.does.l) (sym c.table-table.ensures)
    (class_here c.args.program.now.classes.now.world c.args.program.now.texts.now.names c.args.class c.args.member w.program w.s w.t w.addresses c.args.frames.now
    c.args.control.now c.args.held.now (g.S.Store.content c.args.store.now) w.moves) in
    let is =
    subst (λ (o : Option Constant). option_map seen_constant o ≡ w.moves.does.f.initial) (c.in-Some-Text.is ∙ ap Some c.in-Some-Text.field-0-is)
    (c.constant_of.ensures.value w.moves.does.l at_table w.moves.does.f w.moves.does.field_is) in
    let known = subst (λ (o : Option Constant). IfSome o (HasItsText c.args.program.now.texts.now.names)) (c.in-Some-Text.is ∙ ap Some c.in-Some-Text.field-0-is) c.constant_of.ensures.text in
    let number_is : HasText c.args.program.now.texts.now.names c.in-Some-Text.text.now c.in-Some-Text.number = some_holds
    (constants.Text c.in-Some-Text.number c.in-Some-Text.text) c.args.program.now.texts.now.names known in
    let f = finds c.args.program.now.classes.now.world c.args.program.now.texts.now.names c.args.class c.args.member w.program w.s w.t w.addresses c.args.frames.now
    c.args.control.now c.args.held.now (g.S.Store.content c.args.store.now) w.moves c.word_of-word.result is_word c.in-Some-Text.number
    c.in-Some-Text.text.now is number_is in
    let gave =
    subst (λ (o : Option ℕ). LiteralGiven w.program.world c.args.program.now.texts.now.names w.addresses c.args.held.now (g.S.Store.content c.args.store.now)
    f.made c.literal.new.held (g.S.Store.content c.literal.new.store) o)
    c.in-None-2.is ((c.in_ok-address-in-Some-Text.ensures {u = tt}).finds c.args.program.now.texts.now.names w.program w.s.memory w.addresses f.made f.finding) in
    let lacks = lacking c.args.program.now.classes.now.world c.args.program.now.texts.now.names c.args.class c.args.member w.program w.s w.t w.addresses c.args.frames.now
    c.args.control.now c.args.held.now (g.S.Store.content c.args.store.now) w.moves c.word_of-word.result is_word c.in-Some-Text.number
    c.in-Some-Text.text.now is number_is c.literal.new.held (g.S.Store.content c.literal.new.store) gave in
    let moves : Moves c.args.program.now.classes.now.world (Throwing c.literal.new.held.out_of_memory) w.program c.args.program.now.texts.now.names w.s w.t w.addresses
    (kept c.args.frames.now c.args.control.now c.literal.new.held (g.S.Store.content c.literal.new.store)) =
    subst (λ (x : Held). Moves c.args.program.now.classes.now.world (Throwing c.literal.new.held.out_of_memory) w.program c.args.program.now.texts.now.names w.s w.t
    w.addresses (kept c.args.frames.now c.args.control.now x (g.S.Store.content c.literal.new.store))) (sym lacks.0.same_held)
    (subst (λ (b : Blocks). Moves c.args.program.now.classes.now.world (Throwing c.literal.new.held.out_of_memory) w.program c.args.program.now.texts.now.names w.s w.t
    w.addresses (kept c.args.frames.now c.args.control.now c.args.held.now b)) (sym lacks.0.same)
    (then_throws c.args.program.now.classes.now.world c.args.program.now.texts.now.names c.args.class c.args.member w.program w.s w.t w.addresses c.args.frames.now
    c.args.control.now c.args.held.now (g.S.Store.content c.args.store.now) w.moves c.word_of-word.result is_word c.in-Some-Text.number
    c.in-Some-Text.text.now is number_is c.literal.new.held.out_of_memory (ap (λ (x : Held). x.out_of_memory) lacks.0.same_held) lacks.1)) in
    subst (λ (x : Held). x.cells < 2147483648) (sym lacks.0.same_held) c.requires.few

pub unreachable-requires : goal.unreachable-requires
unreachable-requires g c =
    let w = c.requires.can in
    let at_table = subst (λ (v : World). slice_get v c.args.class ≡ Some w.moves.does.l) (sym c.table-table.ensures)
    (class_here c.args.program.now.classes.now.world c.args.program.now.texts.now.names c.args.class c.args.member w.program w.s w.t w.addresses c.args.frames.now
    c.args.control.now c.args.held.now (g.S.Store.content c.args.store.now) w.moves) in
    let is = subst (λ (o : Option Constant). option_map seen_constant o ≡ w.moves.does.f.initial) c.in-None.is
    (c.constant_of.ensures.value w.moves.does.l at_table w.moves.does.f w.moves.does.field_is) in
    clash w.moves.does.constant (is ∙ w.moves.does.initial)
  where
    clash : (k : InitialValue) → None ≡ Some k → ⊥
    clash k e = absurd cc

pub returns-in-Some-Int-clause-set : goal.returns-in-Some-Int-clause-set
returns-in-Some-Int-clause-set g c = λ program s t addresses h.
    let is_word : (v : World) (x : DeclaredField) → v ≡ c.args.program.now.classes.now.world → field_at v (record { class = c.args.class; member = c.args.member }) ≡ Some x
    → IsWordOf v x c.word_of-word.result =
    λ v x same at. c.word_of-word.ensures v x (subst (λ (v : World). IsLinked v c.args.linked.now) (sym same) c.requires.linked) at in
    let at_table = subst (λ (v : World). slice_get v c.args.class ≡ Some h.does.l) (sym c.table-table.ensures)
    (class_here c.args.program.now.classes.now.world c.args.program.now.texts.now.names c.args.class c.args.member program s t addresses c.args.frames.now
    c.args.control.now c.args.held.now (g.S.Store.content c.args.store.now) h) in
    let is =
    subst (λ (o : Option Constant). option_map seen_constant o ≡ h.does.f.initial) (c.in-Some-Int.is ∙ ap Some c.in-Some-Int.field-0-is)
    (c.constant_of.ensures.value h.does.l at_table h.does.f h.does.field_is) in
    let at_field = subst (λ (v : World). field_at v (record { class = c.args.class; member = c.args.member }) ≡ Some (field_by h.does.l h.does.f))
    (sym c.table-table.ensures) (at_here c.args.program.now.classes.now.world c.args.program.now.texts.now.names c.args.class c.args.member program s t addresses
    c.args.frames.now c.args.control.now c.args.held.now (g.S.Store.content c.args.store.now) h) in
    let f = fit c.args.program.now.classes.now.world c.args.program.now.texts.now.names c.args.class c.args.member program s t addresses c.args.frames.now c.args.control.now
    c.args.held.now (g.S.Store.content c.args.store.now) h c.word_of-word.result is_word in
    let how_is = c.narrowing_in-how.ensures f.type (ap field_type_of (c.field_at.ensures (field_by h.does.l h.does.f) at_field).descriptor ∙ f.typed) in
    let fits : FitsSigned w32 c.in-Some-Int.number = search rules in
    let puts = subst (λ (n : ℤ). PutsInt c.word_of-word.result n c.narrowing_in-how.result c.args.held.now c.put_int.new.held) (to_z-of_z w32 c.in-Some-Int.number fits) c.put_int.ensures.puts in
    value_set_alone c.args.program.now.classes.now.world c.args.program.now.texts.now.names c.args.class c.args.member program s t addresses c.args.frames.now
    c.args.control.now c.args.held.now (g.S.Store.content c.args.store.now) h c.word_of-word.result is_word (Int c.in-Some-Int.number)
    c.put_int.new.held (constant_is c.args.program.now.classes.now.world c.args.program.now.texts.now.names c.args.class c.args.member program s t addresses
    c.args.frames.now c.args.control.now c.args.held.now (g.S.Store.content c.args.store.now) h c.word_of-word.result is_word
    (IntValue c.in-Some-Int.number) is)
    (puts program.world c.args.program.now.texts.now.names s.memory addresses (g.S.Store.content c.args.store.now) _ _
    (putting_int c.args.program.now.classes.now.world c.args.program.now.texts.now.names c.args.class c.args.member program s t addresses c.args.frames.now c.args.control.now
    c.args.held.now (g.S.Store.content c.args.store.now) h c.word_of-word.result is_word c.in-Some-Int.number is) how_is)

pub returns-in-Some-Long-clause-set : goal.returns-in-Some-Long-clause-set
returns-in-Some-Long-clause-set g c = λ program s t addresses h.
    let is_word : (v : World) (x : DeclaredField) → v ≡ c.args.program.now.classes.now.world → field_at v (record { class = c.args.class; member = c.args.member }) ≡ Some x
    → IsWordOf v x c.word_of-word.result =
    λ v x same at. c.word_of-word.ensures v x (subst (λ (v : World). IsLinked v c.args.linked.now) (sym same) c.requires.linked) at in
    let at_table = subst (λ (v : World). slice_get v c.args.class ≡ Some h.does.l) (sym c.table-table.ensures)
    (class_here c.args.program.now.classes.now.world c.args.program.now.texts.now.names c.args.class c.args.member program s t addresses c.args.frames.now
    c.args.control.now c.args.held.now (g.S.Store.content c.args.store.now) h) in
    let is =
    subst (λ (o : Option Constant). option_map seen_constant o ≡ h.does.f.initial) (c.in-Some-Long.is ∙ ap Some c.in-Some-Long.field-0-is)
    (c.constant_of.ensures.value h.does.l at_table h.does.f h.does.field_is) in
    let fits : FitsSigned w64 c.in-Some-Long.number = search rules in
    let puts = subst (λ (n : ℤ). PutsLong c.word_of-word.result n c.args.held.now c.put_long.new.held) (to_z-of_z w64 c.in-Some-Long.number fits) c.put_long.ensures.puts in
    value_set_alone c.args.program.now.classes.now.world c.args.program.now.texts.now.names c.args.class c.args.member program s t addresses c.args.frames.now
    c.args.control.now c.args.held.now (g.S.Store.content c.args.store.now) h c.word_of-word.result is_word (Long c.in-Some-Long.number)
    c.put_long.new.held (constant_is c.args.program.now.classes.now.world c.args.program.now.texts.now.names c.args.class c.args.member program s t addresses
    c.args.frames.now c.args.control.now c.args.held.now (g.S.Store.content c.args.store.now) h c.word_of-word.result is_word
    (LongValue c.in-Some-Long.number) is)
    (puts program.world c.args.program.now.texts.now.names s.memory addresses (g.S.Store.content c.args.store.now) _ _
    (putting_long c.args.program.now.classes.now.world c.args.program.now.texts.now.names c.args.class c.args.member program s t addresses c.args.frames.now
    c.args.control.now c.args.held.now (g.S.Store.content c.args.store.now) h c.word_of-word.result is_word c.in-Some-Long.number is))

pub returns-in-Some-clause-set : goal.returns-in-Some-clause-set
returns-in-Some-clause-set g c = λ program s t addresses h.
    let is_word : (v : World) (x : DeclaredField) → v ≡ c.args.program.now.classes.now.world → field_at v (record { class = c.args.class; member = c.args.member }) ≡ Some x
    → IsWordOf v x c.word_of-word.result =
    λ v x same at. c.word_of-word.ensures v x (subst (λ (v : World). IsLinked v c.args.linked.now) (sym same) c.requires.linked) at in
    let at_table = subst (λ (v : World). slice_get v c.args.class ≡ Some h.does.l) (sym c.table-table.ensures)
    (class_here c.args.program.now.classes.now.world c.args.program.now.texts.now.names c.args.class c.args.member program s t addresses c.args.frames.now
    c.args.control.now c.args.held.now (g.S.Store.content c.args.store.now) h) in
    let is =
    subst (λ (o : Option Constant). option_map seen_constant o ≡ h.does.f.initial) (c.in-Some-Text.is ∙ ap Some c.in-Some-Text.field-0-is)
    (c.constant_of.ensures.value h.does.l at_table h.does.f h.does.field_is) in
    let known = subst (λ (o : Option Constant). IfSome o (HasItsText c.args.program.now.texts.now.names)) (c.in-Some-Text.is ∙ ap Some c.in-Some-Text.field-0-is) c.constant_of.ensures.text in
    let number_is : HasText c.args.program.now.texts.now.names c.in-Some-Text.text.now c.in-Some-Text.number = some_holds
    (constants.Text c.in-Some-Text.number c.in-Some-Text.text) c.args.program.now.texts.now.names known in
    let f = finds c.args.program.now.classes.now.world c.args.program.now.texts.now.names c.args.class c.args.member program s t addresses c.args.frames.now
    c.args.control.now c.args.held.now (g.S.Store.content c.args.store.now) h c.word_of-word.result is_word c.in-Some-Text.number
    c.in-Some-Text.text.now is number_is in
    let gave =
    subst (λ (o : Option ℕ). LiteralGiven program.world c.args.program.now.texts.now.names addresses c.args.held.now (g.S.Store.content c.args.store.now) f.made
    c.literal.new.held (g.S.Store.content c.literal.new.store) o)
    c.in-Some.is ((c.in_ok-address-in-Some-Text.ensures {u = tt}).finds c.args.program.now.texts.now.names program s.memory addresses f.made f.finding) in
    let v = given c.args.program.now.classes.now.world c.args.program.now.texts.now.names c.args.class c.args.member program s t addresses c.args.frames.now
    c.args.control.now c.args.held.now (g.S.Store.content c.args.store.now) h c.word_of-word.result is_word c.in-Some-Text.number
    c.in-Some-Text.text.now is number_is c.literal.new.held (g.S.Store.content c.literal.new.store) c.in-Some.address gave in
    value_set c.args.program.now.classes.now.world c.args.program.now.texts.now.names c.args.class c.args.member program s t addresses c.args.frames.now c.args.control.now
    c.args.held.now (g.S.Store.content c.args.store.now) h c.word_of-word.result is_word v.made.0 (Reference v.made.1) v.gives.more
    c.put_reference.new.held (g.S.Store.content c.literal.new.store) v.value_is
    (c.put_reference.ensures.puts program.world c.args.program.now.texts.now.names v.made.0 (addresses ++ v.gives.more) (g.S.Store.content c.literal.new.store) _ _ v.made.1 v.putting v.gives.stands)
    v.gives.grows

pub returns-in-None-2-clause-set : goal.returns-in-None-2-clause-set
returns-in-None-2-clause-set g c =
    on_ok_weaker
    {P = Moved c.args.program.now.classes.now.world (Throwing c.literal.new.held.out_of_memory)
    (kept c.args.frames.now c.args.control.now c.literal.new.held (g.S.Store.content c.literal.new.store))
    (kept c.throw.new.frames c.throw.new.control c.throw.new.held (g.S.Store.content c.throw.new.store))}
    c.throw.result
    (λ moved program s t addresses h.
    let is_word : (v : World) (x : DeclaredField) → v ≡ c.args.program.now.classes.now.world → field_at v (record { class = c.args.class; member = c.args.member }) ≡ Some x
    → IsWordOf v x c.word_of-word.result =
    λ v x same at. c.word_of-word.ensures v x (subst (λ (v : World). IsLinked v c.args.linked.now) (sym same) c.requires.linked) at in
    let at_table = subst (λ (v : World). slice_get v c.args.class ≡ Some h.does.l) (sym c.table-table.ensures)
    (class_here c.args.program.now.classes.now.world c.args.program.now.texts.now.names c.args.class c.args.member program s t addresses c.args.frames.now
    c.args.control.now c.args.held.now (g.S.Store.content c.args.store.now) h) in
    let is =
    subst (λ (o : Option Constant). option_map seen_constant o ≡ h.does.f.initial) (c.in-Some-Text.is ∙ ap Some c.in-Some-Text.field-0-is)
    (c.constant_of.ensures.value h.does.l at_table h.does.f h.does.field_is) in
    let known = subst (λ (o : Option Constant). IfSome o (HasItsText c.args.program.now.texts.now.names)) (c.in-Some-Text.is ∙ ap Some c.in-Some-Text.field-0-is) c.constant_of.ensures.text in
    let number_is : HasText c.args.program.now.texts.now.names c.in-Some-Text.text.now c.in-Some-Text.number = some_holds
    (constants.Text c.in-Some-Text.number c.in-Some-Text.text) c.args.program.now.texts.now.names known in
    let f = finds c.args.program.now.classes.now.world c.args.program.now.texts.now.names c.args.class c.args.member program s t addresses c.args.frames.now
    c.args.control.now c.args.held.now (g.S.Store.content c.args.store.now) h c.word_of-word.result is_word c.in-Some-Text.number
    c.in-Some-Text.text.now is number_is in
    let gave =
    subst (λ (o : Option ℕ). LiteralGiven program.world c.args.program.now.texts.now.names addresses c.args.held.now (g.S.Store.content c.args.store.now) f.made
    c.literal.new.held (g.S.Store.content c.literal.new.store) o)
    c.in-None-2.is ((c.in_ok-address-in-Some-Text.ensures {u = tt}).finds c.args.program.now.texts.now.names program s.memory addresses f.made f.finding) in
    let lacks = lacking c.args.program.now.classes.now.world c.args.program.now.texts.now.names c.args.class c.args.member program s t addresses c.args.frames.now
    c.args.control.now c.args.held.now (g.S.Store.content c.args.store.now) h c.word_of-word.result is_word c.in-Some-Text.number
    c.in-Some-Text.text.now is number_is c.literal.new.held (g.S.Store.content c.literal.new.store) gave in
    let moves : Moves c.args.program.now.classes.now.world (Throwing c.literal.new.held.out_of_memory) program c.args.program.now.texts.now.names s t addresses
    (kept c.args.frames.now c.args.control.now c.literal.new.held (g.S.Store.content c.literal.new.store)) =
    subst (λ (x : Held). Moves c.args.program.now.classes.now.world (Throwing c.literal.new.held.out_of_memory) program c.args.program.now.texts.now.names s t addresses
    (kept c.args.frames.now c.args.control.now x (g.S.Store.content c.literal.new.store))) (sym lacks.0.same_held)
    (subst (λ (b : Blocks). Moves c.args.program.now.classes.now.world (Throwing c.literal.new.held.out_of_memory) program c.args.program.now.texts.now.names s t addresses
    (kept c.args.frames.now c.args.control.now c.args.held.now b)) (sym lacks.0.same)
    (then_throws c.args.program.now.classes.now.world c.args.program.now.texts.now.names c.args.class c.args.member program s t addresses c.args.frames.now c.args.control.now
    c.args.held.now (g.S.Store.content c.args.store.now) h c.word_of-word.result is_word c.in-Some-Text.number c.in-Some-Text.text.now is
    number_is c.literal.new.held.out_of_memory (ap (λ (x : Held). x.out_of_memory) lacks.0.same_held) lacks.1)) in
    let r = moved program c.args.program.now.texts.now.names s t addresses moves in
    record {
      more = r.more;
      stands = r.stands;
      grows = subst (λ (b : Blocks). Rattle.jv_interp_held.specs.Growing.Grows addresses r.more b (g.S.Store.content c.throw.new.store)) lacks.0.same r.grows;
    })
    c.throw.ensures.thrown

pub returns-in-None-2-clause-refused : goal.returns-in-None-2-clause-refused
returns-in-None-2-clause-refused g c =
    let w = c.requires.can in
    let is_word : (v : World) (x : DeclaredField) → v ≡ c.args.program.now.classes.now.world → field_at v (record { class = c.args.class; member = c.args.member }) ≡ Some x
    → IsWordOf v x c.word_of-word.result =
    λ v x same at. c.word_of-word.ensures v x (subst (λ (v : World). IsLinked v c.args.linked.now) (sym same) c.requires.linked) at in
    let at_table = subst (λ (v : World). slice_get v c.args.class ≡ Some w.moves.does.l) (sym c.table-table.ensures)
    (class_here c.args.program.now.classes.now.world c.args.program.now.texts.now.names c.args.class c.args.member w.program w.s w.t w.addresses c.args.frames.now
    c.args.control.now c.args.held.now (g.S.Store.content c.args.store.now) w.moves) in
    let is =
    subst (λ (o : Option Constant). option_map seen_constant o ≡ w.moves.does.f.initial) (c.in-Some-Text.is ∙ ap Some c.in-Some-Text.field-0-is)
    (c.constant_of.ensures.value w.moves.does.l at_table w.moves.does.f w.moves.does.field_is) in
    let known = subst (λ (o : Option Constant). IfSome o (HasItsText c.args.program.now.texts.now.names)) (c.in-Some-Text.is ∙ ap Some c.in-Some-Text.field-0-is) c.constant_of.ensures.text in
    let number_is : HasText c.args.program.now.texts.now.names c.in-Some-Text.text.now c.in-Some-Text.number = some_holds
    (constants.Text c.in-Some-Text.number c.in-Some-Text.text) c.args.program.now.texts.now.names known in
    let f = finds c.args.program.now.classes.now.world c.args.program.now.texts.now.names c.args.class c.args.member w.program w.s w.t w.addresses c.args.frames.now
    c.args.control.now c.args.held.now (g.S.Store.content c.args.store.now) w.moves c.word_of-word.result is_word c.in-Some-Text.number
    c.in-Some-Text.text.now is number_is in
    let gave =
    subst (λ (o : Option ℕ). LiteralGiven w.program.world c.args.program.now.texts.now.names w.addresses c.args.held.now (g.S.Store.content c.args.store.now)
    f.made c.literal.new.held (g.S.Store.content c.literal.new.store) o)
    c.in-None-2.is ((c.in_ok-address-in-Some-Text.ensures {u = tt}).finds c.args.program.now.texts.now.names w.program w.s.memory w.addresses f.made f.finding) in
    let lacks = lacking c.args.program.now.classes.now.world c.args.program.now.texts.now.names c.args.class c.args.member w.program w.s w.t w.addresses c.args.frames.now
    c.args.control.now c.args.held.now (g.S.Store.content c.args.store.now) w.moves c.word_of-word.result is_word c.in-Some-Text.number
    c.in-Some-Text.text.now is number_is c.literal.new.held (g.S.Store.content c.literal.new.store) gave in
    let moves : Moves c.args.program.now.classes.now.world (Throwing c.literal.new.held.out_of_memory) w.program c.args.program.now.texts.now.names w.s w.t w.addresses
    (kept c.args.frames.now c.args.control.now c.literal.new.held (g.S.Store.content c.literal.new.store)) =
    subst (λ (x : Held). Moves c.args.program.now.classes.now.world (Throwing c.literal.new.held.out_of_memory) w.program c.args.program.now.texts.now.names w.s w.t
    w.addresses (kept c.args.frames.now c.args.control.now x (g.S.Store.content c.literal.new.store))) (sym lacks.0.same_held)
    (subst (λ (b : Blocks). Moves c.args.program.now.classes.now.world (Throwing c.literal.new.held.out_of_memory) w.program c.args.program.now.texts.now.names w.s w.t
    w.addresses (kept c.args.frames.now c.args.control.now c.args.held.now b)) (sym lacks.0.same)
    (then_throws c.args.program.now.classes.now.world c.args.program.now.texts.now.names c.args.class c.args.member w.program w.s w.t w.addresses c.args.frames.now
    c.args.control.now c.args.held.now (g.S.Store.content c.args.store.now) w.moves c.word_of-word.result is_word c.in-Some-Text.number
    c.in-Some-Text.text.now is number_is c.literal.new.held.out_of_memory (ap (λ (x : Held). x.out_of_memory) lacks.0.same_held) lacks.1)) in
    on_err_weaker {P = c.throw.new.held ≡ c.literal.new.held} c.throw.result (λ e. e ∙ lacks.0.same_held) c.throw.ensures.refused

pub returns-in-None-2-clause-refused_content : goal.returns-in-None-2-clause-refused_content
returns-in-None-2-clause-refused_content g c =
    let w = c.requires.can in
    let is_word : (v : World) (x : DeclaredField) → v ≡ c.args.program.now.classes.now.world → field_at v (record { class = c.args.class; member = c.args.member }) ≡ Some x
    → IsWordOf v x c.word_of-word.result =
    λ v x same at. c.word_of-word.ensures v x (subst (λ (v : World). IsLinked v c.args.linked.now) (sym same) c.requires.linked) at in
    let at_table = subst (λ (v : World). slice_get v c.args.class ≡ Some w.moves.does.l) (sym c.table-table.ensures)
    (class_here c.args.program.now.classes.now.world c.args.program.now.texts.now.names c.args.class c.args.member w.program w.s w.t w.addresses c.args.frames.now
    c.args.control.now c.args.held.now (g.S.Store.content c.args.store.now) w.moves) in
    let is =
    subst (λ (o : Option Constant). option_map seen_constant o ≡ w.moves.does.f.initial) (c.in-Some-Text.is ∙ ap Some c.in-Some-Text.field-0-is)
    (c.constant_of.ensures.value w.moves.does.l at_table w.moves.does.f w.moves.does.field_is) in
    let known = subst (λ (o : Option Constant). IfSome o (HasItsText c.args.program.now.texts.now.names)) (c.in-Some-Text.is ∙ ap Some c.in-Some-Text.field-0-is) c.constant_of.ensures.text in
    let number_is : HasText c.args.program.now.texts.now.names c.in-Some-Text.text.now c.in-Some-Text.number = some_holds
    (constants.Text c.in-Some-Text.number c.in-Some-Text.text) c.args.program.now.texts.now.names known in
    let f = finds c.args.program.now.classes.now.world c.args.program.now.texts.now.names c.args.class c.args.member w.program w.s w.t w.addresses c.args.frames.now
    c.args.control.now c.args.held.now (g.S.Store.content c.args.store.now) w.moves c.word_of-word.result is_word c.in-Some-Text.number
    c.in-Some-Text.text.now is number_is in
    let gave =
    subst (λ (o : Option ℕ). LiteralGiven w.program.world c.args.program.now.texts.now.names w.addresses c.args.held.now (g.S.Store.content c.args.store.now)
    f.made c.literal.new.held (g.S.Store.content c.literal.new.store) o)
    c.in-None-2.is ((c.in_ok-address-in-Some-Text.ensures {u = tt}).finds c.args.program.now.texts.now.names w.program w.s.memory w.addresses f.made f.finding) in
    let lacks = lacking c.args.program.now.classes.now.world c.args.program.now.texts.now.names c.args.class c.args.member w.program w.s w.t w.addresses c.args.frames.now
    c.args.control.now c.args.held.now (g.S.Store.content c.args.store.now) w.moves c.word_of-word.result is_word c.in-Some-Text.number
    c.in-Some-Text.text.now is number_is c.literal.new.held (g.S.Store.content c.literal.new.store) gave in
    let moves : Moves c.args.program.now.classes.now.world (Throwing c.literal.new.held.out_of_memory) w.program c.args.program.now.texts.now.names w.s w.t w.addresses
    (kept c.args.frames.now c.args.control.now c.literal.new.held (g.S.Store.content c.literal.new.store)) =
    subst (λ (x : Held). Moves c.args.program.now.classes.now.world (Throwing c.literal.new.held.out_of_memory) w.program c.args.program.now.texts.now.names w.s w.t
    w.addresses (kept c.args.frames.now c.args.control.now x (g.S.Store.content c.literal.new.store))) (sym lacks.0.same_held)
    (subst (λ (b : Blocks). Moves c.args.program.now.classes.now.world (Throwing c.literal.new.held.out_of_memory) w.program c.args.program.now.texts.now.names w.s w.t
    w.addresses (kept c.args.frames.now c.args.control.now c.args.held.now b)) (sym lacks.0.same)
    (then_throws c.args.program.now.classes.now.world c.args.program.now.texts.now.names c.args.class c.args.member w.program w.s w.t w.addresses c.args.frames.now
    c.args.control.now c.args.held.now (g.S.Store.content c.args.store.now) w.moves c.word_of-word.result is_word c.in-Some-Text.number
    c.in-Some-Text.text.now is number_is c.literal.new.held.out_of_memory (ap (λ (x : Held). x.out_of_memory) lacks.0.same_held) lacks.1)) in
    on_err_weaker {P = g.S.Store.content c.throw.new.store ≡ g.S.Store.content c.literal.new.store} c.throw.result (λ e. e ∙ lacks.0.same) c.throw.ensures.refused_content

pub returns-in-None-2-clause-refused_room : goal.returns-in-None-2-clause-refused_room
returns-in-None-2-clause-refused_room g c =
    let w = c.requires.can in
    let is_word : (v : World) (x : DeclaredField) → v ≡ c.args.program.now.classes.now.world → field_at v (record { class = c.args.class; member = c.args.member }) ≡ Some x
    → IsWordOf v x c.word_of-word.result =
    λ v x same at. c.word_of-word.ensures v x (subst (λ (v : World). IsLinked v c.args.linked.now) (sym same) c.requires.linked) at in
    let at_table = subst (λ (v : World). slice_get v c.args.class ≡ Some w.moves.does.l) (sym c.table-table.ensures)
    (class_here c.args.program.now.classes.now.world c.args.program.now.texts.now.names c.args.class c.args.member w.program w.s w.t w.addresses c.args.frames.now
    c.args.control.now c.args.held.now (g.S.Store.content c.args.store.now) w.moves) in
    let is =
    subst (λ (o : Option Constant). option_map seen_constant o ≡ w.moves.does.f.initial) (c.in-Some-Text.is ∙ ap Some c.in-Some-Text.field-0-is)
    (c.constant_of.ensures.value w.moves.does.l at_table w.moves.does.f w.moves.does.field_is) in
    let known = subst (λ (o : Option Constant). IfSome o (HasItsText c.args.program.now.texts.now.names)) (c.in-Some-Text.is ∙ ap Some c.in-Some-Text.field-0-is) c.constant_of.ensures.text in
    let number_is : HasText c.args.program.now.texts.now.names c.in-Some-Text.text.now c.in-Some-Text.number = some_holds
    (constants.Text c.in-Some-Text.number c.in-Some-Text.text) c.args.program.now.texts.now.names known in
    let f = finds c.args.program.now.classes.now.world c.args.program.now.texts.now.names c.args.class c.args.member w.program w.s w.t w.addresses c.args.frames.now
    c.args.control.now c.args.held.now (g.S.Store.content c.args.store.now) w.moves c.word_of-word.result is_word c.in-Some-Text.number
    c.in-Some-Text.text.now is number_is in
    let gave =
    subst (λ (o : Option ℕ). LiteralGiven w.program.world c.args.program.now.texts.now.names w.addresses c.args.held.now (g.S.Store.content c.args.store.now)
    f.made c.literal.new.held (g.S.Store.content c.literal.new.store) o)
    c.in-None-2.is ((c.in_ok-address-in-Some-Text.ensures {u = tt}).finds c.args.program.now.texts.now.names w.program w.s.memory w.addresses f.made f.finding) in
    let lacks = lacking c.args.program.now.classes.now.world c.args.program.now.texts.now.names c.args.class c.args.member w.program w.s w.t w.addresses c.args.frames.now
    c.args.control.now c.args.held.now (g.S.Store.content c.args.store.now) w.moves c.word_of-word.result is_word c.in-Some-Text.number
    c.in-Some-Text.text.now is number_is c.literal.new.held (g.S.Store.content c.literal.new.store) gave in
    let moves : Moves c.args.program.now.classes.now.world (Throwing c.literal.new.held.out_of_memory) w.program c.args.program.now.texts.now.names w.s w.t w.addresses
    (kept c.args.frames.now c.args.control.now c.literal.new.held (g.S.Store.content c.literal.new.store)) =
    subst (λ (x : Held). Moves c.args.program.now.classes.now.world (Throwing c.literal.new.held.out_of_memory) w.program c.args.program.now.texts.now.names w.s w.t
    w.addresses (kept c.args.frames.now c.args.control.now x (g.S.Store.content c.literal.new.store))) (sym lacks.0.same_held)
    (subst (λ (b : Blocks). Moves c.args.program.now.classes.now.world (Throwing c.literal.new.held.out_of_memory) w.program c.args.program.now.texts.now.names w.s w.t
    w.addresses (kept c.args.frames.now c.args.control.now c.args.held.now b)) (sym lacks.0.same)
    (then_throws c.args.program.now.classes.now.world c.args.program.now.texts.now.names c.args.class c.args.member w.program w.s w.t w.addresses c.args.frames.now
    c.args.control.now c.args.held.now (g.S.Store.content c.args.store.now) w.moves c.word_of-word.result is_word c.in-Some-Text.number
    c.in-Some-Text.text.now is number_is c.literal.new.held.out_of_memory (ap (λ (x : Held). x.out_of_memory) lacks.0.same_held) lacks.1)) in
    let cells = ap (λ (x : Held). x.cells) lacks.0.same_held in
    let room = (c.in_ok-address-in-Some-Text.ensures {u = tt}).room in
    on_err_weaker {P = g.S.Store.room_left c.throw.new.store ≡ g.S.Store.room_left c.literal.new.store} c.throw.result
    (λ e. let same : g.S.Store.room_left c.literal.new.store ≡ g.S.Store.room_left c.args.store.now = omega (arith, cells, room) in e ∙ same) c.throw.ensures.refused_room
