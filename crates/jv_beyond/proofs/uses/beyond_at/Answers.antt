use Rattle.std.proofs.Common.{refl, sym, ◌∙◌}
use Rattle.jv_beyond.proofs.InOrder.{constant_fails}
use Rattle.jv_beyond.proofs.InUse.{second, third}
use Rattle.jv_beyond.proofs.uses.beyond_at.Goals as goal

pub returns-then-not-is_supported_entry : goal.returns-then-not-is_supported_entry
returns-then-not-is_supported_entry c = (
  0,
  refl,
  constant_fails c.args.pool.now c.args.index c.is_supported_entry.result c.is_supported_entry.ensures.1 c.if-not-is_supported_entry.true,
)

pub returns-then-not-is_supported_entry-2 : goal.returns-then-not-is_supported_entry-2
returns-then-not-is_supported_entry-2 c =
    second c.args.pool.now c.args.index c.in-Some.class c.in-Some.name_and_type (sym c.parts_of_member.ensures ∙ c.in-Some.is)
    (constant_fails c.args.pool.now c.in-Some.class c.is_supported_entry-2.result c.is_supported_entry-2.ensures.1 c.if-not-is_supported_entry-2.true)

pub returns-then-not-is_supported_entry-3 : goal.returns-then-not-is_supported_entry-3
returns-then-not-is_supported_entry-3 c =
    third c.args.pool.now c.args.index c.in-Some.class c.in-Some.name_and_type (sym c.parts_of_member.ensures ∙ c.in-Some.is)
    (constant_fails c.args.pool.now c.in-Some.name_and_type c.is_supported_entry-3.result c.is_supported_entry-3.ensures.1 c.if-not-is_supported_entry-3.true)
