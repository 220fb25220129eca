use Rattle.std.proofs.Common.{◌∙◌, ◌<◌, length, sym, ap, subst, arith}
use Rattle.std.proofs.lemmas.List.{length-map}
use Rattle.jv_loader.specs.Loading.{Loading}
use Rattle.jv_loader.specs.Inside.Searches.{IsSearch, numbers_in}
use Rattle.jv_loader.proofs.Searching.{list_there}
use Rattle.jv_loader.proofs.classes.Classes.searched.Goals as goal

pub index-requires : goal.index-requires
index-requires c =
    let world = ap (λ (v : Loading). length v.world) c.self.view_is in
    let many = length-map c.self.inside.searches.items numbers_in in
    omega (arith, c.requires, world, many, c.self.invariant.0.many, c.self.inside.searches.ok.0)

pub returns : goal.returns
returns c =
    let lists = c.self.inside.searches.items in
    let world = ap (λ (v : Loading). v.world) c.self.view_is in
    let size = ap (λ (v : Loading). length v.world) c.self.view_is in
    let many = length-map lists numbers_in in
    let within : c.args.class < length c.self.inside.table = omega (arith, c.requires, size) in
    let there : c.args.class < length lists = omega (arith, within, many, c.self.invariant.0.many) in
    let list = list_there lists c.args.class c.index.result.now there c.index.ensures ∙ sym c.deref.ensures.value in
    subst (λ w. IsSearch w c.args.class c.deref.result.now) world (subst (IsSearch c.self.inside.table c.args.class) list (c.self.invariant.0.each c.args.class within))
