use Rattle.std.proofs.Common.{◌≡◌, [], length, refl, ap, sym, ◌∙◌, arith, subst, List}
use Rattle.std.proofs.lemmas.Grind.{common_steps}
use Rattle.std.specs.List.{filter}
use Rattle.jv_link_handlers.specs.Inside.Choices.{is_full, is_part, is_below, is_above}
use Rattle.jv_link_handlers.specs.Inside.Finding.{least, holds, holds_offset}
use Rattle.jv_link_handlers.specs.Inside.Nodes.{found, Rises, Lengthens}
use Rattle.jv_link_handlers.specs.declared.tree.Node.{Node}
use Rattle.jv_link_handlers.proofs.Asked.{pushed, twice, found_leaf, found_fork, rises_pushed}
use Rattle.jv_link_handlers.proofs.Least.{least_within, no_parts, no_items, leaf_is, fork_is}
use Rattle.jv_link_handlers.proofs.tree.+grow.Goals as goal
use Rattle.jv_link_handlers.proofs.tree.+grow.Goals.{then-high-low-lt2-via-then-high-low-lt2, then-high-low-lt2-via-else-high-low-lt2+then-is_empty}

pub returns-then-high-low-lt2-clause-found : goal.returns-then-high-low-lt2-clause-found
returns-then-high-low-lt2-clause-found t c = λ offset rank a b.
    let none : filter (is_part c.args.low c.args.high) c.args.placed.now ≡ [] =
    elim c.then-high-low-lt2.branch [
      | then-high-low-lt2-via-then-high-low-lt2 w ↦ no_parts c.args.low c.args.high (omega arith) c.args.placed.now
      | then-high-low-lt2-via-else-high-low-lt2+then-is_empty w ↦ (let none : length c.in_ok-parts.parts.items ≡ 0 = grind (arith, common_steps) in sym c.in_ok-parts.ensures ∙ no_items _ none)
    ] in
    let full = least_within (holds_offset offset) (filter (is_full c.args.low c.args.high) c.args.placed.now) in
    ap (λ (ns : List Node). found ns offset rank) c.in_ok-push.ensures.items
    ∙ found_leaf c.args.nodes.now.items _ offset rank _ refl b (c.in_ok-pieces.ensures.place offset) full
    ∙ leaf_is offset rank c.args.low c.args.high _ c.args.placed.now a b none refl

pub returns-then-high-low-lt2-clause-longer : goal.returns-then-high-low-lt2-clause-longer
returns-then-high-low-lt2-clause-longer t c =
    subst (Lengthens c.args.nodes.now.items) (sym c.in_ok-push.ensures.items) (pushed c.args.nodes.now.items _)

pub returns-then-high-low-lt2-clause-rise : goal.returns-then-high-low-lt2-clause-rise
returns-then-high-low-lt2-clause-rise t c = λ all.
    subst Rises (sym c.in_ok-push.ensures.items) (rises_pushed c.args.nodes.now.items _ all c.in_ok-pieces.ensures.rise)

pub returns-clause-found : goal.returns-clause-found
returns-clause-found t c = λ offset rank a b.
    let count : c.len-below.result ≡ length c.grow.new.nodes.items = grind (arith, common_steps) in
    ap (λ (ns : List Node). found ns offset rank) c.in_ok-push-2.ensures.items
    ∙ found_fork c.grow.new.nodes.items c.grow-2.new.nodes.items _ offset rank c.in_ok-grow-2.ensures.longer count
    ∙ fork_is offset rank c.args.low c.args.high c.in_ok-middle.middle _ _ _ c.args.placed.now a b (c.in_ok-pieces.ensures.place offset)
    (λ lt. c.in_ok-grow.ensures.found offset rank a lt
    ∙ ap (least (holds offset rank)) (c.deref-3.ensures.value ∙ c.in_ok-lesser.ensures ∙ ap (filter (is_below c.in_ok-middle.middle)) (c.deref-2.ensures.value ∙ c.in_ok-parts.ensures)))
    (λ le. c.in_ok-grow-2.ensures.found offset rank le b
    ∙ ap (least (holds offset rank)) (c.deref-5.ensures.value ∙ c.in_ok-greater.ensures ∙ ap (filter (is_above c.in_ok-middle.middle)) (c.deref-4.ensures.value ∙ c.in_ok-parts.ensures)))

pub returns-clause-longer : goal.returns-clause-longer
returns-clause-longer t c =
    twice c.args.nodes.now.items c.grow.new.nodes.items _ c.in_ok-grow.ensures.longer
    (twice c.grow.new.nodes.items c.grow-2.new.nodes.items _ c.in_ok-grow-2.ensures.longer
    (subst (Lengthens c.grow-2.new.nodes.items) (sym c.in_ok-push-2.ensures.items) (pushed c.grow-2.new.nodes.items _)))

pub returns-clause-rise : goal.returns-clause-rise
returns-clause-rise t c = λ all.
    subst Rises (sym c.in_ok-push-2.ensures.items)
    (rises_pushed c.grow-2.new.nodes.items _ (c.in_ok-grow-2.ensures.rise (c.in_ok-grow.ensures.rise all)) c.in_ok-pieces.ensures.rise)
