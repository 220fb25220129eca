use Rattle.std.proofs.Common.{◌≡◌, ◌<◌, ap, sym, ◌∙◌, length, refl, arith}
use Rattle.std.proofs.lemmas.List.{get_or_default}
use Rattle.jv_store.specs.Content.{written}
use Rattle.jv_host_tests.specs.Plain.{mounting}
use Rattle.jv_host_tests.proofs.Plain.{write_block, mounting-written}
use Rattle.jv_host_tests.proofs.twin.Twin.set.Goals as goal

pub invariant_of-self : goal.invariant_of-self
invariant_of-self g c =
    let inside : c.args.block < length c.args.self.now.blocks.items = omega (arith, c.requires, c.args.self.now.blocks.ok.0) in
    let same : c.block_at-held.result.now.address ≡ c.index_mut.result.now.address =
    ap (λ b. b.address) (c.block_at-held.ensures.block ∙
    (get_or_default c.args.self.now.blocks.items c.args.block c.block_at-held.result.now c.index_mut.result.now inside ∙
    sym c.index_mut.ensures.value)) in
    let after = write_block (λ b. (b.address, b.words.items)) 0 c.args.self.now.blocks.items c.args.block c.index_mut.result.now _ c.args.place
    c.args.word c.args.self.now.rising inside c.index_mut.ensures.value refl in
    let content = c.set.ensures.content ∙ (ap (λ a. written (g.S.Store.content c.args.self.now.store) a c.args.place c.args.word) same ∙
    (ap (λ l. written l c.index_mut.result.now.address c.args.place c.args.word) c.args.self.now.same_content ∙ after)) in
    record {
      same_content = content;
      same_room = c.set.ensures.room ∙ c.args.self.now.same_room;
      rising = ap (mounting 0) (sym after) ∙ (mounting-written 0 _ c.index_mut.result.now.address c.args.place c.args.word ∙ c.args.self.now.rising);
    }
