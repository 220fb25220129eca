use Rattle.std.proofs.Common.{arith}
use Rattle.std.proofs.lemmas.Grind.{common_steps}
use Rattle.jv_class.specs.Inside.Reading.{IsFieldKey}
use Rattle.std.proofs.lemmas.List.Elements.{All-get_or}
use Rattle.std.specs.Prelude.{IsSome}
use Rattle.jv_pool.specs.Constants.{utf8_at}
use Rattle.jv_class.proofs.Keys.{zipped_next, all_named, all_described}
use Rattle.jv_class.proofs.alike.field_keys.Goals as goal

pub loop-field-preserved : goal.loop-field-preserved
loop-field-preserved c =
    zipped_next (IsFieldKey c.args.pool.now) c.args.fields.now c.loop-field.field-index _ c.loop-field-test.true c.loop-field.keys.items c.push.new.self.items _
    c.in_ok-push.ensures.items c.loop-field.invariant c.key_of.ensures

pub returns-clause-ok : goal.returns-clause-ok
returns-clause-ok c = grind (arith, common_steps)

pub key_of-requires-clause-name : goal.key_of-requires-clause-name
key_of-requires-clause-name c =
    All-get_or (λ x. IsSome (utf8_at c.args.pool.now x.name.0)) c.args.fields.now c.loop-field.field-index _ c.loop-field-test.true
    (all_named c.args.pool.now (λ x. x.name.0) (λ x. x.descriptor.0) c.args.fields.now c.requires)

pub key_of-requires-clause-descriptor : goal.key_of-requires-clause-descriptor
key_of-requires-clause-descriptor c =
    All-get_or (λ x. IsSome (utf8_at c.args.pool.now x.descriptor.0)) c.args.fields.now c.loop-field.field-index _ c.loop-field-test.true
    (all_described c.args.pool.now (λ x. x.name.0) (λ x. x.descriptor.0) c.args.fields.now c.requires)
