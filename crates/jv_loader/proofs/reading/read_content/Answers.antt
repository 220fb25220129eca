use Rattle.std.proofs.Common.{rules}
use Rattle.jv_meaning_world.proofs.Contents.{holds, beyond, clash}
use Rattle.jv_loader.proofs.reading.read_content.Goals as goal

pub returns-then-is_within_profile : goal.returns-then-is_within_profile
returns-then-is_within_profile c =
    holds c.args.bytes.now c.in-Ok.class c.in-Ok.ensures.ok c.in-Ok.ensures.supported (c.is_some_class.ensures c.in-Ok.class c.is_well_formed.ensures)
    (c.is_within_profile.ensures.0 c.if-is_within_profile.true)

pub returns-in-Ok : goal.returns-in-Ok
returns-in-Ok c =
    beyond c.args.bytes.now c.in-Ok.class c.in-Ok.ensures.ok (λ all. clash c.is_within_profile.result (c.is_within_profile.ensures.1 all) c.if-is_within_profile.false)

pub returns-in-Err-Unsupported : goal.returns-in-Err-Unsupported
returns-in-Err-Unsupported c = search rules
