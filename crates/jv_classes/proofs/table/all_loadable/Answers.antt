use Rattle.std.proofs.Common.{◌≡◌, ◌∙◌, ◌++◌, ◌∷◌, [], Some, ap}
use Rattle.std.specs.Prelude.{slice_get}
use Rattle.jv_meaning_world.specs.World.{Loaded}
use Rattle.jv_meaning_world.specs.Verdicts.{is_loadable}
use Rattle.jv_classes.proofs.Numbers.{map_more}
use Rattle.jv_classes.proofs.Ways.{loadable_if, equal_tests}
use Rattle.jv_classes.proofs.table.all_loadable.Goals as goal

pub loop-number-preserved : goal.loop-number-preserved
loop-number-preserved c =
    let world = c.args.classes.now in
    c.in_ok-push.ensures.items ∙ (ap (λ bs. bs ++ c.all_marked.result ∷ []) c.loop-number.invariant ∙ map_more (is_loadable world) world
    c.loop-number.number c.all_marked.result c.loop-number-test.true is_it)
  where
    is_it : (l : Loaded) → slice_get c.args.classes.now c.loop-number.number ≡ Some l → c.all_marked.result ≡ is_loadable c.args.classes.now l
    is_it l at =
        let both = loadable_if c.loadable_by_all.ensures c.args.classes.now c.args.above.now c.requires.numbered c.requires.alone c.is_square.ensures
        c.requires.size c.requires.above c.args.stand.now c.requires.stand c.loop-number.number l at in
        equal_tests c.all_marked.result (is_loadable c.args.classes.now l) (λ h. both.1 (c.all_marked.ensures.0 h)) (λ h. c.all_marked.ensures.1 (both.0 h))
