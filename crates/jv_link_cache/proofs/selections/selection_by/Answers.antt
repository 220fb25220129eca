use Rattle.jv_link_cache.proofs.selections.selection_by.Goals as goal

pub returns-in-Some-clause-found : goal.returns-in-Some-clause-found
returns-in-Some-clause-found c =
    (c.in-Some.ensures {u = tt} c.args.classes.now.world c.args.how c.requires.rows).found c.args.site c.requires.class

pub returns-in-Some-clause-target : goal.returns-in-Some-clause-target
returns-in-Some-clause-target c = (c.in-Some.ensures {u = tt} c.args.classes.now.world c.args.how c.requires.rows).target_of
