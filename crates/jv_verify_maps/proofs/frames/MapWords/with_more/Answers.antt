use Rattle.std.proofs.Common.{ap, length, arith}
use Rattle.std.proofs.lemmas.List.{length-map}
use Rattle.jv_verify_maps.specs.Inside.Kept.{count_of}
use Rattle.jv_verify_maps.proofs.Views.{len_is, more_found, more_there, fewer_before, none_more}
use Rattle.jv_verify_maps.proofs.frames.MapWords.with_more.Goals as goal

pub next-requires : goal.next-requires
next-requires c =
    omega (
      arith,
      ap length c.self.invariant.counts,
      length-map c.self.inside.frames.items count_of,
      c.len.ensures,
      len_is c.self.inside.words.items c.self.inside.frames.items c.args.self.now c.self.invariant.fit c.self.view_is,
    )

pub returns-clause-some : goal.returns-clause-some
returns-clause-some c =
    more_found c.self.inside.words.items c.self.inside.frames.items c.args.self.now c.self.invariant.fit c.self.view_is c.next.result c.self.inside.counts
    c.args.place c.len.result c.from.result
    (omega (arith, c.len.ensures, len_is c.self.inside.words.items c.self.inside.frames.items c.args.self.now c.self.invariant.fit c.self.view_is)) c.next.ensures.some

pub returns-clause-more : goal.returns-clause-more
returns-clause-more c =
    more_there c.self.inside.words.items c.self.inside.frames.items c.args.self.now c.self.invariant.fit c.self.view_is c.next.result c.self.inside.counts
    c.args.place c.len.result c.from.result c.args.words c.self.invariant.counts
    (omega (arith, c.len.ensures, len_is c.self.inside.words.items c.self.inside.frames.items c.args.self.now c.self.invariant.fit c.self.view_is)) c.from.ensures c.next.ensures.some

pub returns-clause-fewer : goal.returns-clause-fewer
returns-clause-fewer c =
    fewer_before c.self.inside.words.items c.self.inside.frames.items c.args.self.now c.self.invariant.fit c.self.view_is c.next.result c.self.inside.counts
    c.args.place c.len.result c.from.result c.args.words c.self.invariant.counts
    (omega (arith, c.len.ensures, len_is c.self.inside.words.items c.self.inside.frames.items c.args.self.now c.self.invariant.fit c.self.view_is)) c.from.ensures c.next.ensures.some

pub returns-clause-none : goal.returns-clause-none
returns-clause-none c =
    none_more c.self.inside.words.items c.self.inside.frames.items c.args.self.now c.self.invariant.fit c.self.view_is c.next.result c.self.inside.counts
    c.args.place c.len.result c.from.result c.args.words c.self.invariant.counts
    (omega (arith, c.len.ensures, len_is c.self.inside.words.items c.self.inside.frames.items c.args.self.now c.self.invariant.fit c.self.view_is)) c.from.ensures c.next.ensures.none
