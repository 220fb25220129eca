use Rattle.std.proofs.Common.{◌<◌, length, ap, ◌∙◌, arith}
use Rattle.jv_verify_maps.specs.Inside.Kept.{has_this}
use Rattle.jv_verify_maps.proofs.Views.{element, len_is, this_at}
use Rattle.jv_verify_maps.proofs.frames.MapWords.has_this.Goals as goal

pub index-frame-requires : goal.index-frame-requires
index-frame-requires c = omega (arith, len_is c.self.inside.words.items c.self.inside.frames.items c.args.self.now c.self.invariant.fit c.self.view_is, c.requires)

pub returns : goal.returns
returns c =
    let within : c.args.place < length c.self.inside.frames.items =
    omega (arith, len_is c.self.inside.words.items c.self.inside.frames.items c.args.self.now c.self.invariant.fit c.self.view_is, c.requires) in
    ap has_this (element c.self.inside.frames.items c.args.place c.index-frame.result.now within c.index-frame.ensures)
    ∙ this_at c.self.inside.words.items c.self.inside.frames.items c.args.self.now c.self.invariant.fit c.self.view_is c.args.place c.requires
