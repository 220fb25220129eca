use Rattle.std.proofs.Common.{arith}
use Rattle.jv_interp_objects.proofs.TypeWords.{same_dimensions, fewer_dimensions, more_dimensions}
use Rattle.jv_interp_objects.proofs.ElementNumbers.{few_elements}
use Rattle.jv_interp_objects.proofs.types.is_subtype.Goals as goal

pub element_is-requires-clause-from : goal.element_is-requires-clause-from
element_is-requires-clause-from c =
    let it = c.requires.from in few_elements c.args.table.now it.0.element c.args.from.element it.1.element

pub element_is-requires-clause-to : goal.element_is-requires-clause-to
element_is-requires-clause-to c = let it = c.requires.to in few_elements c.args.table.now it.0.element c.args.to.element it.1.element

pub returns-then-from-to : goal.returns-then-from-to
returns-then-from-to c = λ a b from to.
    same_dimensions c.args.table.now c.args.from c.args.to a b from to c.element_is.result c.if-from-to.true
    (c.element_is.ensures a.element b.element from.element to.element)

pub returns-then-from-to-2 : goal.returns-then-from-to-2
returns-then-from-to-2 c = λ a b from to. fewer_dimensions c.args.table.now c.args.from c.args.to a b from to c.if-from-to-2.true

pub returns : goal.returns
returns c = λ a b from to.
    more_dimensions c.args.table.now c.args.from c.args.to a b from to c.is_above_arrays.result
    (let apart = c.if-from-to.false in let least = c.if-from-to-2.false in omega (arith, apart, least))
    (c.is_above_arrays.ensures c.args.table.now c.requires.guests c.is_numbered.ensures a.element b.element to.element 0)
