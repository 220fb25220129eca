use Rattle.std.proofs.lemmas.Grind.{elements}
use Rattle.std.proofs.Common.{arith, ◌≡◌, Some, map, subst}
use Rattle.std.specs.Prelude.{slice_get}
use Rattle.jv_loader.proofs.files.SystemFiles.file.Goals as goal

pub returns : goal.returns
returns c =
    let there : slice_get (map (λ file. file.items) c.self.inside.own.items) c.args.place ≡ Some c.deref.result.now = grind (arith, elements) in
    subst (λ bytes. slice_get bytes c.args.place ≡ Some c.deref.result.now) c.self.invariant.own_is there
