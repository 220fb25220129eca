use Rattle.std.proofs.Common.{Bool, refl, ap, ◌∙◌, arith, if◌then◌else◌}
use Rattle.jv_interp_heap.specs.declared.narrowing.Narrowing.TheVariants as narrowings
use Rattle.jv_code.specs.declared.kinds.FieldAccess.TheVariants as access
use Rattle.jv_interp_members.specs.Known.{known}
use Rattle.jv_interp_held.specs.Executing.{place}
use Rattle.jv_interp_members.proofs.UsedAtSite.{has_operand, it, failed_in, d, words_are, few, not_static_put, putting, narrows, long_whole}
use Rattle.jv_interp_members.proofs.fields.putfield.Goals as goal

pub used-requires-clause-index : goal.used-requires-clause-index
used-requires-clause-index g c =
    let w = c.requires in
    has_operand access.PutField c.args.index c.args.current.next (known c.args.current.classes.now.world c.args.linked.now c.args.current.site)
    (place c.args.at.now c.args.words.now c.args.held.now (g.S.Store.content c.args.store.now)) w.texts w.c w.addresses w.done w.below w.uses

pub returns-in-Err-clause-puts : goal.returns-in-Err-clause-puts
returns-in-Err-clause-puts g c = λ texts x addresses done below h.
    let k = known c.args.current.classes.now.world c.args.linked.now c.args.current.site in
    let here = place c.args.at.now c.args.words.now c.args.held.now (g.S.Store.content c.args.store.now) in
    failed_in access.PutField c.args.index c.args.current.next k here texts x addresses done below h c.in-Err.class c.in-Err.ensures.found

pub overflow_cast-field : goal.overflow_cast-field
overflow_cast-field g c =
    let k = known c.args.current.classes.now.world c.args.linked.now c.args.current.site in
    let here = place c.args.at.now c.args.words.now c.args.held.now (g.S.Store.content c.args.store.now) in
    let w = c.requires in
    let n = few access.PutField c.args.index c.args.current.next k here w.texts w.c w.addresses w.done w.below w.uses c.field_is_used.ensures c.in-Ok.field
    c.in-Ok.ensures.found c.in-Ok.ensures.used (not_static_put access.PutField c.args.index c.args.current.next k here w.texts w.c w.addresses w.done
    w.below w.uses c.field_is_used.ensures c.in-Ok.field c.in-Ok.ensures.found c.in-Ok.ensures.used refl) in
    omega (arith, n)

pub put_long_field-requires-clause-few : goal.put_long_field-requires-clause-few
put_long_field-requires-clause-few g c =
    let k = known c.args.current.classes.now.world c.args.linked.now c.args.current.site in
    let here = place c.args.at.now c.args.words.now c.args.held.now (g.S.Store.content c.args.store.now) in
    let w = c.requires in
    few access.PutField c.args.index c.args.current.next k here w.texts w.c w.addresses w.done w.below w.uses c.field_is_used.ensures c.in-Ok.field
    c.in-Ok.ensures.found c.in-Ok.ensures.used (not_static_put access.PutField c.args.index c.args.current.next k here w.texts w.c w.addresses w.done
    w.below w.uses c.field_is_used.ensures c.in-Ok.field c.in-Ok.ensures.found c.in-Ok.ensures.used refl)

pub put_long_field-requires-clause-can : goal.put_long_field-requires-clause-can
put_long_field-requires-clause-can g c =
    let k = known c.args.current.classes.now.world c.args.linked.now c.args.current.site in
    let here = place c.args.at.now c.args.words.now c.args.held.now (g.S.Store.content c.args.store.now) in
    let w = c.requires in
    record {
      texts = w.texts;
      c = w.c;
      reference =
          (it access.PutField c.args.index c.args.current.next k here w.texts w.c w.addresses w.done w.below w.uses).reference;
      d =
          d access.PutField c.args.index c.args.current.next k here w.texts w.c w.addresses w.done w.below w.uses c.field_is_used.ensures c.in-Ok.field
          c.in-Ok.ensures.found c.in-Ok.ensures.used;
      addresses = w.addresses;
      done = w.done;
      below = w.below;
      puts =
          putting access.PutField c.args.index c.args.current.next k here w.texts w.c w.addresses w.done w.below w.uses c.field_is_used.ensures c.in-Ok.field
          c.in-Ok.ensures.found c.in-Ok.ensures.used refl 2 (words_are access.PutField c.args.index c.args.current.next k here w.texts w.c w.addresses w.done
          w.below w.uses c.field_is_used.ensures c.in-Ok.field c.in-Ok.ensures.found c.in-Ok.ensures.used c.is_long.result c.is_long.ensures ∙
          ap (λ (b : Bool). if b then 2 else 1) c.if-is_long.true) narrowings.Whole
          (long_whole access.PutField c.args.index c.args.current.next k here w.texts w.c w.addresses w.done w.below w.uses c.field_is_used.ensures
          c.in-Ok.field c.in-Ok.ensures.found c.in-Ok.ensures.used (words_are access.PutField c.args.index c.args.current.next k here w.texts w.c w.addresses
          w.done w.below w.uses c.field_is_used.ensures c.in-Ok.field c.in-Ok.ensures.found c.in-Ok.ensures.used c.is_long.result c.is_long.ensures ∙
          ap (λ (b : Bool). if b then 2 else 1) c.if-is_long.true));
    }

pub returns-then-is_long-clause-puts : goal.returns-then-is_long-clause-puts
returns-then-is_long-clause-puts g c = λ texts x addresses done below h.
    let k = known c.args.current.classes.now.world c.args.linked.now c.args.current.site in
    let here = place c.args.at.now c.args.words.now c.args.held.now (g.S.Store.content c.args.store.now) in
    c.put_long_field.ensures.puts texts x (it access.PutField c.args.index c.args.current.next k here texts x addresses done below h).reference
    (d access.PutField c.args.index c.args.current.next k here texts x addresses done below h c.field_is_used.ensures c.in-Ok.field c.in-Ok.ensures.found
    c.in-Ok.ensures.used) addresses done below (putting access.PutField c.args.index c.args.current.next k here texts x addresses done below h
    c.field_is_used.ensures c.in-Ok.field c.in-Ok.ensures.found c.in-Ok.ensures.used refl 2
    (words_are access.PutField c.args.index c.args.current.next k here texts x addresses done below h c.field_is_used.ensures c.in-Ok.field
    c.in-Ok.ensures.found c.in-Ok.ensures.used c.is_long.result c.is_long.ensures ∙ ap (λ (b : Bool). if b then 2 else 1) c.if-is_long.true)
    narrowings.Whole (long_whole access.PutField c.args.index c.args.current.next k here texts x addresses done below h c.field_is_used.ensures
    c.in-Ok.field c.in-Ok.ensures.found c.in-Ok.ensures.used (words_are access.PutField c.args.index c.args.current.next k here texts x addresses done
    below h c.field_is_used.ensures c.in-Ok.field c.in-Ok.ensures.found c.in-Ok.ensures.used c.is_long.result c.is_long.ensures ∙
    ap (λ (b : Bool). if b then 2 else 1) c.if-is_long.true)))

pub overflow_cast-field-2 : goal.overflow_cast-field-2
overflow_cast-field-2 g c =
    let k = known c.args.current.classes.now.world c.args.linked.now c.args.current.site in
    let here = place c.args.at.now c.args.words.now c.args.held.now (g.S.Store.content c.args.store.now) in
    let w = c.requires in
    let n = few access.PutField c.args.index c.args.current.next k here w.texts w.c w.addresses w.done w.below w.uses c.field_is_used.ensures c.in-Ok.field
    c.in-Ok.ensures.found c.in-Ok.ensures.used (not_static_put access.PutField c.args.index c.args.current.next k here w.texts w.c w.addresses w.done
    w.below w.uses c.field_is_used.ensures c.in-Ok.field c.in-Ok.ensures.found c.in-Ok.ensures.used refl) in
    omega (arith, n)

pub put_field-requires-clause-few : goal.put_field-requires-clause-few
put_field-requires-clause-few g c =
    let k = known c.args.current.classes.now.world c.args.linked.now c.args.current.site in
    let here = place c.args.at.now c.args.words.now c.args.held.now (g.S.Store.content c.args.store.now) in
    let w = c.requires in
    few access.PutField c.args.index c.args.current.next k here w.texts w.c w.addresses w.done w.below w.uses c.field_is_used.ensures c.in-Ok.field
    c.in-Ok.ensures.found c.in-Ok.ensures.used (not_static_put access.PutField c.args.index c.args.current.next k here w.texts w.c w.addresses w.done
    w.below w.uses c.field_is_used.ensures c.in-Ok.field c.in-Ok.ensures.found c.in-Ok.ensures.used refl)

pub put_field-requires-clause-can : goal.put_field-requires-clause-can
put_field-requires-clause-can g c =
    let k = known c.args.current.classes.now.world c.args.linked.now c.args.current.site in
    let here = place c.args.at.now c.args.words.now c.args.held.now (g.S.Store.content c.args.store.now) in
    let w = c.requires in
    record {
      texts = w.texts;
      c = w.c;
      reference =
          (it access.PutField c.args.index c.args.current.next k here w.texts w.c w.addresses w.done w.below w.uses).reference;
      d =
          d access.PutField c.args.index c.args.current.next k here w.texts w.c w.addresses w.done w.below w.uses c.field_is_used.ensures c.in-Ok.field
          c.in-Ok.ensures.found c.in-Ok.ensures.used;
      addresses = w.addresses;
      done = w.done;
      below = w.below;
      puts =
          putting access.PutField c.args.index c.args.current.next k here w.texts w.c w.addresses w.done w.below w.uses c.field_is_used.ensures c.in-Ok.field
          c.in-Ok.ensures.found c.in-Ok.ensures.used refl 1 (words_are access.PutField c.args.index c.args.current.next k here w.texts w.c w.addresses w.done
          w.below w.uses c.field_is_used.ensures c.in-Ok.field c.in-Ok.ensures.found c.in-Ok.ensures.used c.is_long.result c.is_long.ensures ∙
          ap (λ (b : Bool). if b then 2 else 1) c.if-is_long.false) c.narrowing_by-how.result
          (narrows access.PutField c.args.index c.args.current.next k here w.texts w.c w.addresses w.done w.below w.uses c.field_is_used.ensures c.in-Ok.field
          c.in-Ok.ensures.found c.in-Ok.ensures.used c.narrowing_by-how.result c.narrowing_by-how.ensures);
    }

pub returns-clause-puts : goal.returns-clause-puts
returns-clause-puts g c = λ texts x addresses done below h.
    let k = known c.args.current.classes.now.world c.args.linked.now c.args.current.site in
    let here = place c.args.at.now c.args.words.now c.args.held.now (g.S.Store.content c.args.store.now) in
    c.put_field.ensures.puts texts x (it access.PutField c.args.index c.args.current.next k here texts x addresses done below h).reference
    (d access.PutField c.args.index c.args.current.next k here texts x addresses done below h c.field_is_used.ensures c.in-Ok.field c.in-Ok.ensures.found
    c.in-Ok.ensures.used) addresses done below (putting access.PutField c.args.index c.args.current.next k here texts x addresses done below h
    c.field_is_used.ensures c.in-Ok.field c.in-Ok.ensures.found c.in-Ok.ensures.used refl 1
    (words_are access.PutField c.args.index c.args.current.next k here texts x addresses done below h c.field_is_used.ensures c.in-Ok.field
    c.in-Ok.ensures.found c.in-Ok.ensures.used c.is_long.result c.is_long.ensures ∙ ap (λ (b : Bool). if b then 2 else 1) c.if-is_long.false)
    c.narrowing_by-how.result (narrows access.PutField c.args.index c.args.current.next k here texts x addresses done below h c.field_is_used.ensures
    c.in-Ok.field c.in-Ok.ensures.found c.in-Ok.ensures.used c.narrowing_by-how.result c.narrowing_by-how.ensures))
