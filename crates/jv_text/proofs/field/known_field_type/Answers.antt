use Rattle.jv_text.specs.Seen.{seen_element}
use Rattle.jv_text.specs.Types.{field_type_of}
use Rattle.jv_text.proofs.TypesOf.{some_type, split_known, split_element, split_joined}
use Rattle.jv_text.proofs.field.known_field_type.Goals as goal

pub known_element-requires : goal.known_element-requires
known_element-requires c =
    let known = some_type (field_type_of c.args.text.now) c.requires in
    split_element known.0 c.args.text.now c.in-Some.rest.now c.in-Some.dimensions known.1
    (split_known c.args.text.now c.in-Some.rest.now c.in-Some.dimensions known.0 known.1 c.in-Some.ensures.found c.in-Some.ensures.all)

pub returns : goal.returns
returns c =
    let known = some_type (field_type_of c.args.text.now) c.requires in
    split_joined known.0 c.args.text.now c.in-Some.rest.now c.in-Some.dimensions (seen_element c.known_element.result) known.1
    (split_known c.args.text.now c.in-Some.rest.now c.in-Some.dimensions known.0 known.1 c.in-Some.ensures.found c.in-Some.ensures.all) c.known_element.ensures
