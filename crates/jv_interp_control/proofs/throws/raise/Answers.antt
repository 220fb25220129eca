use Rattle.std.proofs.Common.{ℕ, ◌∷◌, Option, Some, None, length, refl, sym, ap, subst, ◌∙◌, replicate, arith}
use Rattle.std.proofs.lemmas.List.{length-replicate}
use Rattle.std.proofs.lemmas.Result.{on_ok_weaker}
use Rattle.jv_store.specs.Content.{words_at, greatest, without}
use Rattle.jv_store.proofs.Contents.{without-append}
use Rattle.jv_store.proofs.LookUps.{greatest-append_above}
use Rattle.jv_meaning_world.specs.World.{World}
use Rattle.jv_link_cache.specs.Linked.{IsLinked}
use Rattle.jv_interp_heap.specs.ObjectsInBlocks.{Blocks}
use Rattle.jv_interp_heap.proofs.NewWords.{joined_words}
use Rattle.jv_interp_held.specs.declared.held.Held.{Held}
use Rattle.jv_interp_control.specs.Exceptions.{IsMade}
use Rattle.jv_interp_control.specs.Standing.{kept, Moved}
use Rattle.jv_interp_control.specs.Moves.{Throwing}
use Rattle.jv_interp_control.proofs.ThrowsStand.{then_throws, then_reaches}
use Rattle.jv_interp_control.proofs.throws.raise.Goals as goal

pub throw-requires-clause-can : goal.throw-requires-clause-can
throw-requires-clause-can g c =
    let w = c.requires.can in
    let world = c.args.classes.now.world in
    let before = g.S.Store.content c.args.store.now in
    let after = g.S.Store.content c.make_exception.new.store in
    let size = c.object_words-words.ensures w.program.world (subst (λ (v : World). IsLinked v c.args.linked.now) (sym w.moves.world_is) c.requires.linked) in
    let is_made = subst (λ (o : Option ℕ). IsMade c.args.class c.object_words-words.result c.args.held.now.cells c.make_exception.new.held.cells
    before after o) c.in_default.is (c.in_ok-address.ensures {u = tt}).made in
    record {
      program = w.program;
      texts = w.texts;
      s = _;
      t = w.t;
      addresses = _;
      moves =
          then_throws world c.args.class w.program w.texts w.s w.t w.addresses c.args.frames.now c.args.control.now c.args.held.now before w.moves
          c.object_words-words.result size c.requires.few_classes
          c.make_exception.new.held after None c.make_exception.ensures.held is_made c.make_exception.new.held.out_of_memory (ap (λ (h : Held). h.out_of_memory) c.make_exception.ensures.held);
    }

pub returns-in_default-clause-raised : goal.returns-in_default-clause-raised
returns-in_default-clause-raised g c =
    let world = c.args.classes.now.world in
    let before = g.S.Store.content c.args.store.now in
    let after = g.S.Store.content c.make_exception.new.store in
    let last = g.S.Store.content c.throw.new.store in
    let address = c.make_exception.new.held.out_of_memory in
    let is_made = subst (λ (o : Option ℕ). IsMade c.args.class c.object_words-words.result c.args.held.now.cells c.make_exception.new.held.cells
    before after o) c.in_default.is (c.in_ok-address.ensures {u = tt}).made in
    on_ok_weaker
    {P = Moved world (Throwing address) (kept c.args.frames.now c.args.control.now c.make_exception.new.held after) (kept c.throw.new.frames c.throw.new.control c.throw.new.held last)}
    c.throw.result
    (λ moved program texts s t addresses h.
    let size = c.object_words-words.ensures program.world (subst (λ (v : World). IsLinked v c.args.linked.now) (sym h.world_is) c.requires.linked) in
    then_reaches world c.args.class program texts s t addresses c.args.frames.now c.args.control.now c.args.held.now before h c.object_words-words.result size c.requires.few_classes
    c.make_exception.new.held after None c.make_exception.ensures.held is_made c.throw.new.frames c.throw.new.control c.throw.new.held last
    (moved program texts _ t _
    (then_throws world c.args.class program texts s t addresses c.args.frames.now c.args.control.now c.args.held.now before h c.object_words-words.result size c.requires.few_classes
    c.make_exception.new.held after None c.make_exception.ensures.held is_made address (ap (λ (h : Held). h.out_of_memory) c.make_exception.ensures.held))))
    c.throw.ensures.thrown

pub throw-requires-2-clause-can : goal.throw-requires-2-clause-can
throw-requires-2-clause-can g c =
    let w = c.requires.can in
    let world = c.args.classes.now.world in
    let before = g.S.Store.content c.args.store.now in
    let after = g.S.Store.content c.make_exception.new.store in
    let size = c.object_words-words.ensures w.program.world (subst (λ (v : World). IsLinked v c.args.linked.now) (sym w.moves.world_is) c.requires.linked) in
    let is_made = subst (λ (o : Option ℕ). IsMade c.args.class c.object_words-words.result c.args.held.now.cells c.make_exception.new.held.cells
    before after o) c.in-Some.is (c.in_ok-address.ensures {u = tt}).made in
    record {
      program = w.program;
      texts = w.texts;
      s = _;
      t = w.t;
      addresses = _;
      moves =
          then_throws world c.args.class w.program w.texts w.s w.t w.addresses c.args.frames.now c.args.control.now c.args.held.now before w.moves
          c.object_words-words.result size c.requires.few_classes
          c.make_exception.new.held after (Some c.in-Some.address) c.make_exception.ensures.held is_made c.in-Some.address refl;
    }

pub take_back-requires-clause-newest : goal.take_back-requires-clause-newest
take_back-requires-clause-newest g c =
    let before = g.S.Store.content c.args.store.now in
    let after = g.S.Store.content c.make_exception.new.store in
    let is_made = subst (λ (o : Option ℕ). IsMade c.args.class c.object_words-words.result c.args.held.now.cells c.make_exception.new.held.cells
    before after o) c.in-Some.is (c.in_ok-address.ensures {u = tt}).made in
    sym
    (ap greatest c.in-Err.ensures.refused_content ∙ ap greatest is_made.1.joins
    ∙ greatest-append_above before c.in-Some.address (c.args.class ∷ replicate c.object_words-words.result 0) is_made.1.above)

pub take_back-requires-clause-length : goal.take_back-requires-clause-length
take_back-requires-clause-length g c =
    let before = g.S.Store.content c.args.store.now in
    let after = g.S.Store.content c.make_exception.new.store in
    let is_made = subst (λ (o : Option ℕ). IsMade c.args.class c.object_words-words.result c.args.held.now.cells c.make_exception.new.held.cells
    before after o) c.in-Some.is (c.in_ok-address.ensures {u = tt}).made in
    let words =
    ap (λ (b : Blocks). length (words_at b c.in-Some.address)) c.in-Err.ensures.refused_content
    ∙ ap length (joined_words (c.args.class ∷ replicate c.object_words-words.result 0) before after c.in-Some.address is_made.1) in
    omega (arith, words, length-replicate {A = ℕ} c.object_words-words.result 0)

pub returns-in-Ok-clause-raised : goal.returns-in-Ok-clause-raised
returns-in-Ok-clause-raised g c = λ program texts s t addresses h.
    let world = c.args.classes.now.world in
    let before = g.S.Store.content c.args.store.now in
    let after = g.S.Store.content c.make_exception.new.store in
    let last = g.S.Store.content c.throw-2.new.store in
    let is_made = subst (λ (o : Option ℕ). IsMade c.args.class c.object_words-words.result c.args.held.now.cells c.make_exception.new.held.cells
    before after o) c.in-Some.is (c.in_ok-address.ensures {u = tt}).made in
    let size = c.object_words-words.ensures program.world (subst (λ (v : World). IsLinked v c.args.linked.now) (sym h.world_is) c.requires.linked) in
    then_reaches world c.args.class program texts s t addresses c.args.frames.now c.args.control.now c.args.held.now before h c.object_words-words.result size c.requires.few_classes
    c.make_exception.new.held after (Some c.in-Some.address) c.make_exception.ensures.held is_made c.throw-2.new.frames c.throw-2.new.control c.throw-2.new.held last
    (c.in-Ok.ensures.thrown program texts _ t _
    (then_throws world c.args.class program texts s t addresses c.args.frames.now c.args.control.now c.args.held.now before h c.object_words-words.result size c.requires.few_classes
    c.make_exception.new.held after (Some c.in-Some.address) c.make_exception.ensures.held is_made c.in-Some.address refl))

pub returns-in-Err-clause-refused_content : goal.returns-in-Err-clause-refused_content
returns-in-Err-clause-refused_content g c =
    let before = g.S.Store.content c.args.store.now in
    let after = g.S.Store.content c.make_exception.new.store in
    let is_made = subst (λ (o : Option ℕ). IsMade c.args.class c.object_words-words.result c.args.held.now.cells c.make_exception.new.held.cells
    before after o) c.in-Some.is (c.in_ok-address.ensures {u = tt}).made in
    c.take_back.ensures.content ∙ ap (λ (b : Blocks). without b c.in-Some.address) (c.in-Err.ensures.refused_content ∙ is_made.1.joins)
    ∙ without-append before c.in-Some.address (c.args.class ∷ replicate c.object_words-words.result 0) is_made.1.above
