use Rattle.std.proofs.Common.{◌<◌, length, ap, ◌∙◌, arith}
use Rattle.jv_verify_maps.specs.declared.frames.WordsOf.{WordsOf}
use Rattle.jv_verify_maps.proofs.Views.{element, len_is, count_at}
use Rattle.jv_verify_maps.proofs.frames.MapWords.count.Goals as goal

pub index-requires : goal.index-requires
index-requires c = omega (arith, len_is c.self.inside.words.items c.self.inside.frames.items c.args.self.now c.self.invariant.fit c.self.view_is, c.requires)

pub returns : goal.returns
returns c =
    let within : c.args.place < length c.self.inside.frames.items =
    omega (arith, len_is c.self.inside.words.items c.self.inside.frames.items c.args.self.now c.self.invariant.fit c.self.view_is, c.requires) in
    ap (λ (f : WordsOf). f.count) (element c.self.inside.frames.items c.args.place c.index.result.now within c.index.ensures)
    ∙ count_at c.self.inside.words.items c.self.inside.frames.items c.args.self.now c.self.invariant.fit c.self.view_is c.args.place c.requires
