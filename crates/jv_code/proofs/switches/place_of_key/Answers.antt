use Rattle.std.proofs.lemmas.Grind.{elements}
use Rattle.std.proofs.Common.{◌≡◌, None, subst, sym, ◌∙◌, arith}
use Rattle.std.specs.Int.{w32}
use Rattle.std.proofs.lemmas.Bool.{false≢true}
use Rattle.std.proofs.lemmas.Int.{to_z-of_z}
use Rattle.std.specs.Prelude.{ℤ}
use Rattle.jv_code.specs.Switches.{pairs_in, distance_for}
use Rattle.jv_code.proofs.Keys.{Searched-all, Searched-above, Searched-below, Searched-none, found_between}
use Rattle.jv_code.proofs.Pairs.{pairs_count}
use Rattle.jv_code.proofs.switches.place_of_key.Goals as goal

pub loop-low-init : goal.loop-low-init
loop-low-init c = Searched-all _ _ _ (pairs_count c.args.pairs.now)

pub loop-low-preserved-then-is_below : goal.loop-low-preserved-then-is_below
loop-low-preserved-then-is_below c =
    Searched-above _ _ _ _ _ c.in-Some.pair c.requires (sym c.pair_at.ensures ∙ c.in-Some.is) (c.is_below.ensures.0 c.if-is_below.true) c.loop-low.invariant

pub loop-low-preserved : goal.loop-low-preserved
loop-low-preserved c =
    Searched-below _ _ _ _ _ c.in-Some.pair c.requires (sym c.pair_at.ensures ∙ c.in-Some.is) (c.is_above.ensures.0 c.if-is_above.true) (omega arith) c.loop-low.invariant

pub returns-else-is_above-clause-found : goal.returns-else-is_above-clause-found
returns-else-is_above-clause-found c =
    found_between _ _ _ _ c.in-Some.pair (to_z-of_z w32 c.args.key c.ranges.key) c.requires (sym c.pair_at.ensures ∙ c.in-Some.is)
    (λ lt. false≢true (sym c.if-is_below.false ∙ c.is_below.ensures.1 lt)) (λ lt. false≢true (sym c.if-is_above.false ∙ c.is_above.ensures.1 lt))

pub returns-clause-none : goal.returns-clause-none
returns-clause-none c =
    subst (λ (key : ℤ). distance_for key (pairs_in c.args.pairs.now) ≡ None) (to_z-of_z w32 c.args.key c.ranges.key) (Searched-none _ _ _ _ (omega arith) c.loop-low.invariant)

pub unreachable-requires : goal.unreachable-requires
unreachable-requires c = grind (arith, elements)
