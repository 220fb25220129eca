use Rattle.jv_code.specs.Places.{IsStart}
use Rattle.jv_verify_types.specs.Numbered.{frame_of}
use Rattle.jv_verify_pass.specs.Pass.{maps_of, names_in}
use Rattle.jv_verify_pass.proofs.Unbroken.{also_there, reached, standing, starts_at, starts_in, within_code}
use Rattle.jv_verify_pass.proofs.before.frames_before.Goals as goal

pub walk_to-requires-clause-end : goal.walk_to-requires-clause-end
walk_to-requires-clause-end c =
    let pass = c.args.pass.now in
    let env = c.requires.0 in
    let is = c.requires.1.0 in
    starts_in c.stands_in_list.ensures c.starts_apart.ensures env is.is (maps_of pass) c.args.offset c.requires.1.1 pass.context.code is.context.code

pub walk_to-requires-clause-within : goal.walk_to-requires-clause-within
walk_to-requires-clause-within c =
    let pass = c.args.pass.now in
    let env = c.requires.0 in
    let is = c.requires.1.0 in
    within_code c.stands_in_list.ensures c.starts_apart.ensures env is.is (maps_of pass) c.args.offset c.requires.1.1 pass.context.code is.context.code

pub unreachable-requires : goal.unreachable-requires
unreachable-requires c =
    let pass = c.args.pass.now in
    let env = c.requires.0 in
    let is = c.requires.1.0 in
    reached c.stands_in_list.ensures c.starts_apart.ensures env is.is (maps_of pass) c.args.offset c.requires.1.1 (frame_of (names_in pass) c.walk_to.new.frame)
    c.in_ok-falls.field-0 (c.in_ok-falls.ensures.found env is) c.in_default.not-Reached

pub unmet_from-requires-clause-start : goal.unmet_from-requires-clause-start
unmet_from-requires-clause-start c =
    let pass = c.args.pass.now in
    let env = c.requires.0 in
    let is = c.requires.1.0 in
    starts_at c.stands_in_list.ensures c.starts_apart.ensures env is.is (maps_of pass) c.args.offset c.requires.1.1 pass.context.code is.context.code

pub unmet_from-requires-clause-method : goal.unmet_from-requires-clause-method
unmet_from-requires-clause-method c = (c.requires.0, c.requires.1.0)

pub returns : goal.returns
returns c = λ env is.
    let pass = c.args.pass.now in
    let start : IsStart pass.context.code c.args.offset =
    starts_at c.stands_in_list.ensures c.starts_apart.ensures c.requires.0 c.requires.1.0.is (maps_of pass) c.args.offset c.requires.1.1 pass.context.code c.requires.1.0.context.code in
    let at = also_there c.stands_in_list.ensures env is.is pass.context.code c.args.offset is.context.code start in
    standing env (maps_of pass) c.args.offset (frame_of (names_in pass) c.walk_to.new.frame) c.in_ok-falls.field-0 c.in-Reached.falls _ _ _ start.0 c.in-Reached.is
    (c.in_ok-falls.ensures.found env is) c.in_ok-falling.ensures (c.in_ok-map.ensures env is) at (c.in_ok-unmet.ensures env start.0 is at)
