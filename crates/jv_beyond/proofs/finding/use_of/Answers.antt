use Rattle.std.proofs.Common.{ap, sym, ◌∙◌}
use Rattle.std.specs.Option.{option_map}
use Rattle.jv_class_structure.specs.Seen.{seen_code, seen_method}
use Rattle.jv_beyond.proofs.InUse.{use_of_found}
use Rattle.jv_beyond.proofs.finding.use_of.Goals as goal

pub returns-in-Ok-clause-first : goal.returns-in-Ok-clause-first
returns-in-Ok-clause-first c =
    let body = seen_code c.in-Some.body in
    let has = sym c.code.ensures ∙ ap (option_map seen_code) c.in-Some.is in
    (use_of_found c.args.pool.now (seen_method c.args.method.now) body has c.in-Ok.code.bytes.now c.in-Ok.ensures.same c.use_in.result c.use_in.ensures).0

pub returns-in-Ok-clause-none : goal.returns-in-Ok-clause-none
returns-in-Ok-clause-none c =
    let body = seen_code c.in-Some.body in
    let has = sym c.code.ensures ∙ ap (option_map seen_code) c.in-Some.is in
    (use_of_found c.args.pool.now (seen_method c.args.method.now) body has c.in-Ok.code.bytes.now c.in-Ok.ensures.same c.use_in.result c.use_in.ensures).1
