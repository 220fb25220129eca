use Rattle.std.proofs.Common.{ℕ, ◌-◌, ◌<◌, length, get_or, refl, sym, subst, ◌∙◌, arith}
use Rattle.jv_interp_heap.specs.ObjectsInBlocks.{Blocks, IsArrayWord}
use Rattle.jv_interp_held.specs.declared.effect.Effect.TheVariants as effects
use Rattle.jv_interp_held.specs.Executing.{place}
use Rattle.jv_interp_held.specs.Growing.{DidIn}
use Rattle.jv_interp_objects.proofs.StoredReference.{top, null_raises, of, length_word, block_length, few_values, array_word, large_word, outside_raises, value_refers, store_raises, stored}
use Rattle.jv_interp_objects.proofs.storing.aastore.Goals as goal

pub overflow_sub-array : goal.overflow_sub-array
overflow_sub-array g c =
    let here = place c.args.at.now c.args.words.now c.args.held.now (g.S.Store.content c.args.store.now) in
    let q = c.requires in
    let t = top c.args.classes.now.world c.args.next here q.texts q.c q.addresses q.done q.below q.stores in let enough = t.enough in omega (arith, enough)

pub returns-then-array-eq0-clause-stores : goal.returns-then-array-eq0-clause-stores
returns-then-array-eq0-clause-stores g c = λ texts x addresses done below h.
    let here = place c.args.at.now c.args.words.now c.args.held.now (g.S.Store.content c.args.store.now) in
    null_raises c.args.classes.now.world c.args.next here texts x addresses done below h c.if-array-eq0.true

pub get-length-requires : goal.get-length-requires
get-length-requires g c =
    let here = place c.args.at.now c.args.words.now c.args.held.now (g.S.Store.content c.args.store.now) in
    let q = c.requires in
    let size = block_length c.args.classes.now.world c.args.next here q.texts q.c q.addresses q.done q.below q.stores c.if-array-eq0.false in omega (arith, size)

pub returns-then-length-index-clause-stores : goal.returns-then-length-index-clause-stores
returns-then-length-index-clause-stores g c = λ texts x addresses done below h.
    let here = place c.args.at.now c.args.words.now c.args.held.now (g.S.Store.content c.args.store.now) in
    let count = length_word c.args.classes.now.world c.args.next here texts x addresses done below h c.if-array-eq0.false in
    let e = c.get-length.ensures in
    let most = c.if-length-index.true in
    outside_raises c.args.classes.now.world c.args.next here texts x addresses done below h c.if-array-eq0.false (omega (arith, count, e, most))

pub get-word-requires : goal.get-word-requires
get-word-requires g c =
    let here = place c.args.at.now c.args.words.now c.args.held.now (g.S.Store.content c.args.store.now) in
    let q = c.requires in
    let size = block_length c.args.classes.now.world c.args.next here q.texts q.c q.addresses q.done q.below q.stores c.if-array-eq0.false in omega (arith, size)

pub component_type-components-requires : goal.component_type-components-requires
component_type-components-requires g c =
    let here = place c.args.at.now c.args.words.now c.args.held.now (g.S.Store.content c.args.store.now) in
    let q = c.requires in
    let large = large_word c.args.classes.now.world c.args.next here q.texts q.c q.addresses q.done q.below q.stores c.if-array-eq0.false in let e = c.get-word.ensures in omega (arith, large, e)

pub can_stand-stands-requires-clause-value : goal.can_stand-stands-requires-clause-value
can_stand-stands-requires-clause-value g c =
    let here = place c.args.at.now c.args.words.now c.args.held.now (g.S.Store.content c.args.store.now) in
    let q = c.requires in
    let count = length_word c.args.classes.now.world c.args.next here q.texts q.c q.addresses q.done q.below q.stores c.if-array-eq0.false in
    let e = c.get-length.ensures in
    let less = c.if-length-index.false in
    let within : get_or c.args.words.now (c.args.at.now.top - 2) 0 < length
    (of c.args.classes.now.world c.args.next here q.texts q.c q.addresses q.done q.below q.stores c.if-array-eq0.false).values =
    omega (arith, count, e, less) in
    value_refers c.args.classes.now.world c.args.next here q.texts q.c q.addresses q.done q.below q.stores c.if-array-eq0.false within

pub can_stand-stands-requires-clause-components : goal.can_stand-stands-requires-clause-components
can_stand-stands-requires-clause-components g c =
    let here = place c.args.at.now c.args.words.now c.args.held.now (g.S.Store.content c.args.store.now) in
    let q = c.requires in (
      (of c.args.classes.now.world c.args.next here q.texts q.c q.addresses q.done q.below q.stores c.if-array-eq0.false).components,
      (c.component_type-components.ensures.of_type c.args.classes.now.world
          (of c.args.classes.now.world c.args.next here q.texts q.c q.addresses q.done q.below q.stores c.if-array-eq0.false).components
          (subst (λ (n : ℕ). IsArrayWord c.args.classes.now.world (of c.args.classes.now.world c.args.next here q.texts q.c q.addresses q.done q.below
          q.stores c.if-array-eq0.false).components n) (sym c.get-word.ensures)
          (array_word c.args.classes.now.world c.args.next here q.texts q.c q.addresses q.done q.below q.stores c.if-array-eq0.false))),
    )

pub returns-then-not-store_reference-clause-stores : goal.returns-then-not-store_reference-clause-stores
returns-then-not-store_reference-clause-stores g c = λ texts x addresses done below h.
    let here = place c.args.at.now c.args.words.now c.args.held.now (g.S.Store.content c.args.store.now) in
    let count = length_word c.args.classes.now.world c.args.next here texts x addresses done below h c.if-array-eq0.false in
    let e = c.get-length.ensures in
    let less = c.if-length-index.false in
    let within : get_or c.args.words.now (c.args.at.now.top - 2) 0 < length
    (of c.args.classes.now.world c.args.next here texts x addresses done below h c.if-array-eq0.false).values = omega (arith, count, e, less) in
    let is = sym c.store_reference.ensures.tells ∙ c.if-not-store_reference.true in
    subst (λ (blocks : Blocks). DidIn here.blocks texts (place c.args.at.now c.args.words.now c.args.held.now blocks) (effects.Raises 9) x addresses done below)
    (sym (c.store_reference.ensures.refused is))
    (store_raises c.args.classes.now.world c.args.next here texts x addresses done below h c.if-array-eq0.false within c.component_type-components.result
    (c.component_type-components.ensures.of_type c.args.classes.now.world (of c.args.classes.now.world c.args.next here texts x addresses done below h c.if-array-eq0.false).components
    (subst (λ (n : ℕ). IsArrayWord c.args.classes.now.world (of c.args.classes.now.world c.args.next here texts x addresses done below h
    c.if-array-eq0.false).components n) (sym c.get-word.ensures) (array_word c.args.classes.now.world c.args.next here texts x addresses done
    below h c.if-array-eq0.false)))
    c.can_stand-stands.result c.can_stand-stands.ensures is)

pub overflow_add-index : goal.overflow_add-index
overflow_add-index g c =
    let here = place c.args.at.now c.args.words.now c.args.held.now (g.S.Store.content c.args.store.now) in
    let q = c.requires in
    let count = length_word c.args.classes.now.world c.args.next here q.texts q.c q.addresses q.done q.below q.stores c.if-array-eq0.false in
    let e = c.get-length.ensures in
    let less = c.if-length-index.false in
    let within : get_or c.args.words.now (c.args.at.now.top - 2) 0 < length
    (of c.args.classes.now.world c.args.next here q.texts q.c q.addresses q.done q.below q.stores c.if-array-eq0.false).values =
    omega (arith, count, e, less) in
    let few = few_values c.args.classes.now.world c.args.next here q.texts q.c q.addresses q.done q.below q.stores c.if-array-eq0.false in omega (arith, within, few)

pub store_reference-requires : goal.store_reference-requires
store_reference-requires g c =
    let here = place c.args.at.now c.args.words.now c.args.held.now (g.S.Store.content c.args.store.now) in
    let q = c.requires in
    let count = length_word c.args.classes.now.world c.args.next here q.texts q.c q.addresses q.done q.below q.stores c.if-array-eq0.false in
    let e = c.get-length.ensures in
    let less = c.if-length-index.false in
    let within : get_or c.args.words.now (c.args.at.now.top - 2) 0 < length
    (of c.args.classes.now.world c.args.next here q.texts q.c q.addresses q.done q.below q.stores c.if-array-eq0.false).values =
    omega (arith, count, e, less) in
    let size = block_length c.args.classes.now.world c.args.next here q.texts q.c q.addresses q.done q.below q.stores c.if-array-eq0.false in omega (arith, within, size)

pub overflow_sub-at : goal.overflow_sub-at
overflow_sub-at g c =
    let here = place c.args.at.now c.args.words.now c.args.held.now (g.S.Store.content c.args.store.now) in
    let q = c.requires in
    let t = top c.args.classes.now.world c.args.next here q.texts q.c q.addresses q.done q.below q.stores in let enough = t.enough in omega (arith, enough)

pub returns-clause-stores : goal.returns-clause-stores
returns-clause-stores g c = λ texts x addresses done below h.
    let here = place c.args.at.now c.args.words.now c.args.held.now (g.S.Store.content c.args.store.now) in
    let count = length_word c.args.classes.now.world c.args.next here texts x addresses done below h c.if-array-eq0.false in
    let e = c.get-length.ensures in
    let less = c.if-length-index.false in
    let within : get_or c.args.words.now (c.args.at.now.top - 2) 0 < length
    (of c.args.classes.now.world c.args.next here texts x addresses done below h c.if-array-eq0.false).values = omega (arith, count, e, less) in
    let is = sym c.store_reference.ensures.tells ∙ c.if-not-store_reference.false in
    stored c.args.classes.now.world c.args.next here texts x addresses done below h c.if-array-eq0.false within c.component_type-components.result
    (c.component_type-components.ensures.of_type c.args.classes.now.world (of c.args.classes.now.world c.args.next here texts x addresses done below h c.if-array-eq0.false).components
    (subst (λ (n : ℕ). IsArrayWord c.args.classes.now.world (of c.args.classes.now.world c.args.next here texts x addresses done below h
    c.if-array-eq0.false).components n) (sym c.get-word.ensures) (array_word c.args.classes.now.world c.args.next here texts x addresses done
    below h c.if-array-eq0.false)))
    c.can_stand-stands.result c.can_stand-stands.ensures is _ (g.S.Store.content c.store_reference.new.store)
    (c.store_reference.ensures.stored is) refl refl
