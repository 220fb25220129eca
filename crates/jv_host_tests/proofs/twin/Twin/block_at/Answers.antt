use Rattle.std.proofs.Common.{ap, ◌∙◌, ◌<◌, length, arith}
use Rattle.jv_store.specs.Content.{words_at}
use Rattle.jv_host_tests.proofs.Plain.{read_block}
use Rattle.jv_host_tests.proofs.twin.Twin.block_at.Goals as goal

pub returns-clause-words : goal.returns-clause-words
returns-clause-words g c =
    let inside : c.args.block < length c.args.self.now.blocks.items = omega (arith, c.requires, c.args.self.now.blocks.ok.0) in
    ap (λ l. words_at l c.index.result.now.address) c.args.self.now.same_content
    ∙ read_block (λ b. (b.address, b.words.items)) 0 c.args.self.now.blocks.items c.args.block c.index.result.now c.args.self.now.rising inside c.index.ensures
