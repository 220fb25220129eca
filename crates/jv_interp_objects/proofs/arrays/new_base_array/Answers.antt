use Rattle.std.proofs.lemmas.Result.{IfOk-weaker}
use Rattle.jv_meaning_machine.specs.Arrays.{base_of, base_components}
use Rattle.jv_interp_held.specs.declared.effect.Effect.{Effect}
use Rattle.jv_interp_held.specs.Executing.{place}
use Rattle.jv_interp_objects.specs.Arrays.{MakesArray, MakesBaseArray}
use Rattle.jv_interp_objects.proofs.Counted.{base_array}
use Rattle.jv_interp_objects.proofs.arrays.new_base_array.Goals as goal

pub returns-clause-makes : goal.returns-clause-makes
returns-clause-makes g c =
    IfOk-weaker c.new_array.result
    (λ (effect : Effect). MakesArray c.args.word c.args.slots c.args.next c.args.at.now c.args.words.now c.args.held.now
    (g.S.Store.content c.args.store.now) c.new_array.new.at c.new_array.new.words c.new_array.new.held (g.S.Store.content c.new_array.new.store)
    effect)
    (λ (effect : Effect). MakesBaseArray c.args.word c.args.slots c.args.next c.args.at.now c.args.words.now c.args.held.now
    (g.S.Store.content c.args.store.now) c.new_array.new.at c.new_array.new.words c.new_array.new.held (g.S.Store.content c.new_array.new.store)
    effect)
    (λ effect makes. λ texts x element addresses done below h.
    makes texts x (base_components (base_of element)) addresses done below
    (base_array c.args.word c.args.slots c.args.next (place c.args.at.now c.args.words.now c.args.held.now (g.S.Store.content c.args.store.now)) texts x element addresses done below h))
    c.new_array.ensures.makes

pub new_array-requires-clause-can : goal.new_array-requires-clause-can
new_array-requires-clause-can g c =
    let here = place c.args.at.now c.args.words.now c.args.held.now (g.S.Store.content c.args.store.now) in
    let q = c.requires.can in
    record {
      texts = q.texts;
      c = q.c;
      components = base_components (base_of q.element);
      addresses = q.addresses;
      done = q.done;
      below = q.below;
      makes = base_array c.args.word c.args.slots c.args.next here q.texts q.c q.element q.addresses q.done q.below q.makes;
    }
