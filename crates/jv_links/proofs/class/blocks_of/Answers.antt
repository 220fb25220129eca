use Rattle.std.proofs.Common.{rules, ◌≡◌, ◌<◌, ◌++◌, ap, ◌∙◌, arith}
use Rattle.std.specs.Prelude.{string_bytes}
use Rattle.jv_link.specs.declared.site.Site.{Site}
use Rattle.jv_link.specs.Seen.{IsSite}
use Rattle.jv_meaning_world.specs.Verdicts.{declared_by}
use Rattle.jv_lines.specs.Lines.{line_at}
use Rattle.jv_links.proofs.Answered.{site_there}
use Rattle.jv_links.proofs.Blocked.{all_blocks, block_more, no_block}
use Rattle.jv_links.proofs.class.blocks_of.Goals as goal

pub loop-method-init : goal.loop-method-init
loop-method-init c = λ x at. no_block c.args.classes.now.world x (line_at c.args.lines.now) (string_bytes c.new-text.result) c.new-text.ensures.bytes

pub block_of-requires-clause-site : goal.block_of-requires-clause-site
block_of-requires-clause-site c = record {
  class = c.requires.class;
  member = λ l at.
      let many = c.requires.count l at in
      let less : c.loop-method.method < c.args.count = search rules in
      omega (arith, many, less);
}

pub loop-method-preserved : goal.loop-method-preserved
loop-method-preserved c = λ x at.
    let world = c.args.classes.now.world in
    let site : Site = record { class = c.args.class; method = c.loop-method.method } in
    let stands : IsSite world site = record {
      class = c.requires.class;
      member = λ l here.
          let many = c.requires.count l here in
          let less : c.loop-method.method < c.args.count = search rules in
          omega (arith, many, less);
    } in
    let (m, there, seen) = site_there world site stands x at in
    let appended : string_bytes c.append.new.text ≡ string_bytes c.loop-method.text ++ string_bytes c.in_ok-block.block =
    c.in_ok-append.ensures ∙ ap (λ t. string_bytes c.loop-method.text ++ t) c.deref.ensures in
    block_more world x (line_at c.args.lines.now) c.loop-method.method m (string_bytes c.loop-method.text) (string_bytes c.in_ok-block.block) (string_bytes c.append.new.text)
    (c.loop-method.invariant x at) there (c.in_ok-block.ensures (declared_by x m) seen) appended

pub returns : goal.returns
returns c = λ x at.
    let end : c.loop-method.method ≡ c.args.count = search rules in
    let many = c.requires.count x at in
    all_blocks c.args.classes.now.world x (line_at c.args.lines.now) c.loop-method.method (string_bytes c.loop-method.text) (c.loop-method.invariant x at) (omega (arith, end, many))
