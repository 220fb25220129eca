use Rattle.jv_link_cache.proofs.Selecting.{selected_for}
use Rattle.jv_link_cache.specs.Inside.Selections.{IsFound}
use Rattle.jv_link_cache.proofs.selections.selected_and_kept.Goals as goal

pub returns-clause-rows : goal.returns-clause-rows
returns-clause-rows c =
    let world = c.args.classes.now.world in
    let right : IsFound world c.args.how c.args.class c.args.target.now c.args.object c.select-found.result = record {
      found = λ other is_other. selected_for world c.args.how c.args.class c.args.site other c.args.target.now c.args.object c.select-found.result
          c.requires.site c.requires.class is_other c.select-found.ensures.found;
      target_of = c.select-found.ensures.target;
    } in
    c.keep_selection.ensures world c.args.how c.requires.rows right
