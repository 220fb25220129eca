use Rattle.std.proofs.Common.{arith}
use Rattle.jv_format.specs.Format.{IsBytes}
use Rattle.jv_format.specs.Handlers.{handlers_of}
use Rattle.jv_format.proofs.Laws.{IsBytes-rest}
use Rattle.jv_class_structure.specs.Inside.Kept.{seen_found}
use Rattle.jv_class_structure.specs.Inside.Within.{IsRest}
use Rattle.jv_class_structure.proofs.Packing.{rest_more, limits_rest, text_rest, found_before, code_found}
use Rattle.jv_class_structure.proofs.members.code_at.Goals as goal

pub returns-clause-found : goal.returns-clause-found
returns-clause-found c =
    code_found c.args.pool.now c.args.bytes.now c.in-Some.rest.now c.in-Some-code_text_at.rest.now c.in-Some-tables_at.rest.now
    (c.in-Some.field-0-0.0, c.in-Some.field-0-0.1) c.in-Some-code_text_at.field-0-0.now
    (handlers_of c.in-Some-tables_at.field-0-0-0) (seen_found c.in-Some-tables_at.map) c.in-Some.ensures c.in-Some-code_text_at.ensures c.in-Some-tables_at.ensures.found

pub returns-clause-there : goal.returns-clause-there
returns-clause-there c =
    let small : IsBytes c.args.bytes.now = λ i. omega (arith, c.type_inv.bytes i) in
    let limits : IsRest c.args.bytes.now c.in-Some.rest.now = limits_rest c.args.bytes.now c.in-Some.rest.now (c.in-Some.field-0-0.0, c.in-Some.field-0-0.1) small c.in-Some.ensures in
    let small_rest : IsBytes c.in-Some.rest.now = IsBytes-rest limits.front c.in-Some.rest.now c.args.bytes.now limits.joined small in
    let text : IsRest c.in-Some.rest.now c.in-Some-code_text_at.rest.now =
    text_rest c.in-Some.rest.now c.in-Some-code_text_at.rest.now c.in-Some-code_text_at.field-0-0.now small_rest c.in-Some-code_text_at.ensures in
    found_before c.args.bytes.now c.in-Some-code_text_at.rest.now c.in-Some-tables_at.map
    (rest_more c.args.bytes.now c.in-Some.rest.now c.in-Some-code_text_at.rest.now limits text) c.in-Some-tables_at.ensures.there
