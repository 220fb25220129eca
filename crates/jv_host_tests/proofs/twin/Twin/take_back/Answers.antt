use Rattle.std.proofs.Common.{◌≡◌, ap, sym, ◌∙◌, length, arith}
use Rattle.jv_store.specs.Content.{greatest, words_at, without}
use Rattle.jv_host_tests.proofs.Plain.{last_block, at_itself}
use Rattle.jv_host_tests.proofs.twin.Twin.take_back.Goals as goal

pub take_back-requires-clause-newest : goal.take_back-requires-clause-newest
take_back-requires-clause-newest g c =
    let last = last_block (λ b. (b.address, b.words.items)) c.args.self.now.blocks.items c.pop-newest.new.self.items c.in-Some.block (c.in-Some.ensures {u = tt}).items c.args.self.now.rising in
    sym (ap greatest (c.args.self.now.same_content ∙ last.whole) ∙ c.new_block.ensures.greatest _ c.in-Some.block.address c.in-Some.block.words.items last.before.below)

pub take_back-requires-clause-length : goal.take_back-requires-clause-length
take_back-requires-clause-length g c =
    let last = last_block (λ b. (b.address, b.words.items)) c.args.self.now.blocks.items c.pop-newest.new.self.items c.in-Some.block (c.in-Some.ensures {u = tt}).items c.args.self.now.rising in
    let words : words_at (g.S.Store.content c.args.self.now.store) c.in-Some.block.address ≡ c.in-Some.block.words.items =
    ap (λ l. words_at l c.in-Some.block.address) (c.args.self.now.same_content ∙ last.whole)
    ∙ (c.new_block.ensures.words _ c.in-Some.block.address c.in-Some.block.words.items c.in-Some.block.address last.before.below
    ∙ at_itself c.in-Some.block.address c.in-Some.block.words.items _) in
    omega (arith, ap length words, c.len-len.ensures, c.in-Some.block.words.ok.0)

pub invariant_of-self : goal.invariant_of-self
invariant_of-self g c =
    let last = last_block (λ b. (b.address, b.words.items)) c.args.self.now.blocks.items c.pop-newest.new.self.items c.in-Some.block (c.in-Some.ensures {u = tt}).items c.args.self.now.rising in
    record {
      same_content = c.take_back.ensures.content ∙ (ap (λ l. without l c.in-Some.block.address) (c.args.self.now.same_content ∙ last.whole) ∙
          c.back.ensures _ c.in-Some.block.address c.in-Some.block.words.items last.before.below);
      same_room = omega (arith, c.take_back.ensures.room, c.args.self.now.same_room);
      rising = last.before.rising;
    }
