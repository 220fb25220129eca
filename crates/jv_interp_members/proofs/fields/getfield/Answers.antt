use Rattle.std.proofs.Common.{Bool, refl, ap, ◌∙◌, arith, if◌then◌else◌}
use Rattle.jv_code.specs.declared.kinds.FieldAccess.TheVariants as access
use Rattle.jv_interp_members.specs.Known.{known}
use Rattle.jv_interp_held.specs.Executing.{place}
use Rattle.jv_interp_members.proofs.UsedAtSite.{has_operand, failed, d, words_are, few, not_static_get, getting}
use Rattle.jv_interp_members.proofs.fields.getfield.Goals as goal

pub used-requires-clause-index : goal.used-requires-clause-index
used-requires-clause-index g c =
    let w = c.requires in
    has_operand access.GetField c.args.index c.args.current.next (known c.args.current.classes.now.world c.args.linked.now c.args.current.site)
    (place c.args.at.now c.args.words.now c.args.held.now (g.S.Store.content c.args.store.now)) w.texts w.c w.addresses w.done w.below w.uses

pub returns-in-Err-clause-uses : goal.returns-in-Err-clause-uses
returns-in-Err-clause-uses g c = λ texts x addresses done below h.
    let k = known c.args.current.classes.now.world c.args.linked.now c.args.current.site in
    let here = place c.args.at.now c.args.words.now c.args.held.now (g.S.Store.content c.args.store.now) in
    failed access.GetField c.args.index c.args.current.next k here texts x addresses done below h c.in-Err.class c.in-Err.ensures.found

pub overflow_cast-field : goal.overflow_cast-field
overflow_cast-field g c =
    let k = known c.args.current.classes.now.world c.args.linked.now c.args.current.site in
    let here = place c.args.at.now c.args.words.now c.args.held.now (g.S.Store.content c.args.store.now) in
    let w = c.requires in
    let n = few access.GetField c.args.index c.args.current.next k here w.texts w.c w.addresses w.done w.below w.uses c.field_is_used.ensures c.in-Ok.field
    c.in-Ok.ensures.found c.in-Ok.ensures.used (not_static_get access.GetField c.args.index c.args.current.next k here w.texts w.c w.addresses w.done
    w.below w.uses c.field_is_used.ensures c.in-Ok.field c.in-Ok.ensures.found c.in-Ok.ensures.used refl) in
    omega (arith, n)

pub get_long_field-requires-clause-few : goal.get_long_field-requires-clause-few
get_long_field-requires-clause-few g c =
    let k = known c.args.current.classes.now.world c.args.linked.now c.args.current.site in
    let here = place c.args.at.now c.args.words.now c.args.held.now (g.S.Store.content c.args.store.now) in
    let w = c.requires in
    few access.GetField c.args.index c.args.current.next k here w.texts w.c w.addresses w.done w.below w.uses c.field_is_used.ensures c.in-Ok.field
    c.in-Ok.ensures.found c.in-Ok.ensures.used (not_static_get access.GetField c.args.index c.args.current.next k here w.texts w.c w.addresses w.done
    w.below w.uses c.field_is_used.ensures c.in-Ok.field c.in-Ok.ensures.found c.in-Ok.ensures.used refl)

pub get_long_field-requires-clause-can : goal.get_long_field-requires-clause-can
get_long_field-requires-clause-can g c =
    let k = known c.args.current.classes.now.world c.args.linked.now c.args.current.site in
    let here = place c.args.at.now c.args.words.now c.args.held.now (g.S.Store.content c.args.store.now) in
    let w = c.requires in
    record {
      texts = w.texts;
      c = w.c;
      d = d access.GetField c.args.index c.args.current.next k here w.texts w.c w.addresses w.done w.below w.uses
          c.field_is_used.ensures c.in-Ok.field c.in-Ok.ensures.found c.in-Ok.ensures.used;
      addresses = w.addresses;
      done = w.done;
      below =
          w.below;
      gets = getting access.GetField c.args.index c.args.current.next k here w.texts w.c w.addresses w.done w.below w.uses c.field_is_used.ensures
          c.in-Ok.field c.in-Ok.ensures.found c.in-Ok.ensures.used refl 2
          (words_are access.GetField c.args.index c.args.current.next k here w.texts w.c w.addresses w.done w.below w.uses c.field_is_used.ensures c.in-Ok.field
          c.in-Ok.ensures.found c.in-Ok.ensures.used c.is_long.result c.is_long.ensures ∙ ap (λ (b : Bool). if b then 2 else 1) c.if-is_long.true);
      room = w.room;
    }

pub returns-then-is_long-clause-uses : goal.returns-then-is_long-clause-uses
returns-then-is_long-clause-uses g c = λ texts x addresses done below h.
    let k = known c.args.current.classes.now.world c.args.linked.now c.args.current.site in
    let here = place c.args.at.now c.args.words.now c.args.held.now (g.S.Store.content c.args.store.now) in
    c.get_long_field.ensures.gets texts x (d access.GetField c.args.index c.args.current.next k here texts x addresses done below h c.field_is_used.ensures
    c.in-Ok.field c.in-Ok.ensures.found c.in-Ok.ensures.used) addresses done below
    (getting access.GetField c.args.index c.args.current.next k here texts x addresses done below h c.field_is_used.ensures c.in-Ok.field
    c.in-Ok.ensures.found c.in-Ok.ensures.used refl 2 (words_are access.GetField c.args.index c.args.current.next k here texts x addresses done below h
    c.field_is_used.ensures c.in-Ok.field c.in-Ok.ensures.found c.in-Ok.ensures.used c.is_long.result c.is_long.ensures ∙
    ap (λ (b : Bool). if b then 2 else 1) c.if-is_long.true))

pub overflow_cast-field-2 : goal.overflow_cast-field-2
overflow_cast-field-2 g c =
    let k = known c.args.current.classes.now.world c.args.linked.now c.args.current.site in
    let here = place c.args.at.now c.args.words.now c.args.held.now (g.S.Store.content c.args.store.now) in
    let w = c.requires in
    let n = few access.GetField c.args.index c.args.current.next k here w.texts w.c w.addresses w.done w.below w.uses c.field_is_used.ensures c.in-Ok.field
    c.in-Ok.ensures.found c.in-Ok.ensures.used (not_static_get access.GetField c.args.index c.args.current.next k here w.texts w.c w.addresses w.done
    w.below w.uses c.field_is_used.ensures c.in-Ok.field c.in-Ok.ensures.found c.in-Ok.ensures.used refl) in
    omega (arith, n)

pub get_field-requires-clause-few : goal.get_field-requires-clause-few
get_field-requires-clause-few g c =
    let k = known c.args.current.classes.now.world c.args.linked.now c.args.current.site in
    let here = place c.args.at.now c.args.words.now c.args.held.now (g.S.Store.content c.args.store.now) in
    let w = c.requires in
    few access.GetField c.args.index c.args.current.next k here w.texts w.c w.addresses w.done w.below w.uses c.field_is_used.ensures c.in-Ok.field
    c.in-Ok.ensures.found c.in-Ok.ensures.used (not_static_get access.GetField c.args.index c.args.current.next k here w.texts w.c w.addresses w.done
    w.below w.uses c.field_is_used.ensures c.in-Ok.field c.in-Ok.ensures.found c.in-Ok.ensures.used refl)

pub get_field-requires-clause-can : goal.get_field-requires-clause-can
get_field-requires-clause-can g c =
    let k = known c.args.current.classes.now.world c.args.linked.now c.args.current.site in
    let here = place c.args.at.now c.args.words.now c.args.held.now (g.S.Store.content c.args.store.now) in
    let w = c.requires in
    record {
      texts = w.texts;
      c = w.c;
      d = d access.GetField c.args.index c.args.current.next k here w.texts w.c w.addresses w.done w.below w.uses
          c.field_is_used.ensures c.in-Ok.field c.in-Ok.ensures.found c.in-Ok.ensures.used;
      addresses = w.addresses;
      done = w.done;
      below =
          w.below;
      gets = getting access.GetField c.args.index c.args.current.next k here w.texts w.c w.addresses w.done w.below w.uses c.field_is_used.ensures
          c.in-Ok.field c.in-Ok.ensures.found c.in-Ok.ensures.used refl 1
          (words_are access.GetField c.args.index c.args.current.next k here w.texts w.c w.addresses w.done w.below w.uses c.field_is_used.ensures c.in-Ok.field
          c.in-Ok.ensures.found c.in-Ok.ensures.used c.is_long.result c.is_long.ensures ∙ ap (λ (b : Bool). if b then 2 else 1) c.if-is_long.false);
      room = w.room;
    }

pub returns-clause-uses : goal.returns-clause-uses
returns-clause-uses g c = λ texts x addresses done below h.
    let k = known c.args.current.classes.now.world c.args.linked.now c.args.current.site in
    let here = place c.args.at.now c.args.words.now c.args.held.now (g.S.Store.content c.args.store.now) in
    c.get_field.ensures.gets texts x (d access.GetField c.args.index c.args.current.next k here texts x addresses done below h c.field_is_used.ensures
    c.in-Ok.field c.in-Ok.ensures.found c.in-Ok.ensures.used) addresses done below
    (getting access.GetField c.args.index c.args.current.next k here texts x addresses done below h c.field_is_used.ensures c.in-Ok.field
    c.in-Ok.ensures.found c.in-Ok.ensures.used refl 1 (words_are access.GetField c.args.index c.args.current.next k here texts x addresses done below h
    c.field_is_used.ensures c.in-Ok.field c.in-Ok.ensures.found c.in-Ok.ensures.used c.is_long.result c.is_long.ensures ∙
    ap (λ (b : Bool). if b then 2 else 1) c.if-is_long.false))
