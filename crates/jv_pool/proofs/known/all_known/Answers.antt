use Rattle.std.proofs.Common.{List, ℕ, Option, subst, sym, arith}
use Rattle.jv_pool.specs.Inside.Known.{IsAdded, IsNewText, AllKnown}
use Rattle.jv_pool.proofs.Kept.{KnownBelow-push, KnownBelow-all, texts_more, texts_all}
use Rattle.jv_pool.specs.declared.facts.TextFacts.{TextFacts}
use Rattle.jv_pool.proofs.known.all_known.Goals as goal

pub loop-index-preserved : goal.loop-index-preserved
loop-index-preserved c =
    let added = subst (λ (t : Option (List ℕ)). IsAdded t c.place_alike-before.result c.loop-index.facts.items c.add_facts.new.facts.items
    c.in_ok-place.place) c.utf8-2.ensures c.in_ok-place.ensures.ok in
    rw c.in_ok-push.ensures.items (
      KnownBelow-push c.args.table.now c.args.alike.now c.loop-index.index c.loop-index.facts.items c.add_facts.new.facts.items
          c.loop-index.places.items c.in_ok-place.place c.requires (rw (c.place_alike-before.ensures, c.deref.ensures.value) at added)
          c.loop-index.invariant.0,
      λ on.
          let told = c.in_ok-place.ensures.texts on in
          let new = subst (λ (t : Option (List ℕ)). IsNewText t c.place_alike-before.result) c.utf8-2.ensures told.1 in
          texts_more c.args.table.now c.args.alike.now c.loop-index.index c.loop-index.facts.items c.loop-index.places.items c.requires
          c.loop-index.invariant.0 (rw (c.place_alike-before.ensures, c.deref.ensures.value) at new) (c.loop-index.invariant.1 told.0),
    )

pub returns-clause-ok : goal.returns-clause-ok
returns-clause-ok c =
    subst (λ (facts : List TextFacts). AllKnown c.args.table.now facts c.loop-index.places.items) (sym c.shrink_to_fit.ensures.items)
    (KnownBelow-all c.args.table.now c.loop-index.index c.loop-index.facts.items c.loop-index.places.items (omega arith) c.loop-index.invariant.0)

pub returns-clause-texts : goal.returns-clause-texts
returns-clause-texts c = λ on. texts_all c.args.table.now c.loop-index.index (omega arith) (c.loop-index.invariant.1 on)
