use Rattle.std.proofs.Common.{◌<◌, length, sym, subst}
use Rattle.jv_classes.specs.Inside.Told.{IsChain}
use Rattle.jv_classes.proofs.Followed.{chain_at}
use Rattle.jv_classes.proofs.class_table.ClassTable.superclasses.Goals as goal

pub returns : goal.returns
returns c =
    let inside = c.self.inside in
    let less = subst (λ w. c.args.number < length w) (sym c.self.view_is) c.requires in
    let told = chain_at inside.list (length inside.list) inside.chains.items c.args.number c.index.result.now c.self.invariant.chains less c.index.ensures in
    let chain = subst (λ w. IsChain w c.args.number c.deref.result.now) c.self.view_is (subst (IsChain inside.list c.args.number) (sym c.deref.ensures.value) told) in
    record { found = chain.found; numbers = chain.numbers }
