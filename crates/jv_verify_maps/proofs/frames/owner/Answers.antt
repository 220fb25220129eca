use Rattle.std.proofs.Common.{◌-◌, arith}
use Rattle.jv_verify_maps.proofs.Views.{owner_found, owner_first}
use Rattle.jv_verify_maps.proofs.frames.owner.Goals as goal

pub returns-in-Some : goal.returns-in-Some
returns-in-Some c =
    owner_found c.args.frames.now _ c.args.apart.now c.args.place c.args.index (65534 - c.from.result) c.in-Some.found c.requires.apart c.requires.place
    (omega (arith, c.from.ensures, c.requires.index)) c.if-frames-place.false c.in-Some.ensures.some

pub returns-in-None : goal.returns-in-None
returns-in-None c =
    owner_first c.args.frames.now _ c.args.apart.now c.args.place c.args.index (65534 - c.from.result) c.requires.apart c.requires.place
    (omega (arith, c.from.ensures, c.requires.index)) c.if-frames-place.false c.requires.first c.in-None.ensures.none
