use Rattle.std.proofs.Common.{◌+◌, ap, length, arith}
use Rattle.std.proofs.lemmas.List.{length-map}
use Rattle.jv_verify_maps.specs.Inside.Kept.{apart_of}
use Rattle.jv_verify_maps.proofs.Views.{len_is, apart_few, agree_of}
use Rattle.jv_verify_maps.proofs.frames.MapWords.agree.Goals as goal

pub overflow_add-last : goal.overflow_add-last
overflow_add-last c =
    let fits = c.len-count.type_inv in
    omega (
      arith,
      fits,
      c.len-count.ensures,
      c.max-last.ensures,
      c.requires.place,
      c.requires.other,
      len_is c.self.inside.words.items c.self.inside.frames.items c.args.self.now c.self.invariant.fit c.self.view_is,
    )

pub greatest-apart-requires : goal.greatest-apart-requires
greatest-apart-requires c =
    omega (
      arith,
      ap length c.self.invariant.apart,
      length-map c.self.inside.frames.items apart_of,
      c.max-last.ensures,
      c.requires.place,
      c.requires.other,
      len_is c.self.inside.words.items c.self.inside.frames.items c.args.self.now c.self.invariant.fit c.self.view_is,
    )

pub overflow_sub-result : goal.overflow_sub-result
overflow_sub-result c =
    apart_few c.self.inside.frames.items c.self.inside.apart (c.min-first.result + 1) (c.max-last.result + 1) c.greatest-apart.result c.self.invariant.apart
    (omega (arith, c.max-last.ensures, c.requires.place, c.requires.other, len_is c.self.inside.words.items c.self.inside.frames.items c.args.self.now c.self.invariant.fit c.self.view_is))
    c.greatest-apart.ensures

pub returns : goal.returns
returns c =
    let few = apart_few c.self.inside.frames.items c.self.inside.apart (c.min-first.result + 1) (c.max-last.result + 1) c.greatest-apart.result c.self.invariant.apart
    (omega (arith, c.max-last.ensures, c.requires.place, c.requires.other, len_is c.self.inside.words.items c.self.inside.frames.items c.args.self.now c.self.invariant.fit c.self.view_is))
    c.greatest-apart.ensures in
    agree_of c.self.inside.words.items c.self.inside.frames.items c.args.self.now c.self.invariant.fit c.self.view_is c.args.place c.args.other c.min-first.result
    c.max-last.result c.greatest-apart.result c.self.inside.apart c.self.invariant.apart c.requires.place c.requires.other c.min-first.ensures c.max-last.ensures
    c.greatest-apart.ensures few
