use Rattle.std.proofs.Common.{Bool, refl, sym, ap, ◌∙◌, if◌then◌else◌}
use Rattle.jv_interp_heap.specs.declared.narrowing.Narrowing.TheVariants as narrowings
use Rattle.jv_code.specs.declared.kinds.FieldAccess.TheVariants as access
use Rattle.jv_interp_members.specs.Known.{known}
use Rattle.jv_interp_held.specs.Executing.{place}
use Rattle.jv_interp_members.proofs.UsedAtSite.{has_operand, failed, d, class_at, words_are, begins_put, putting_static, narrows, long_whole}
use Rattle.jv_interp_members.proofs.fields.putstatic.Goals as goal

pub used-requires-clause-index : goal.used-requires-clause-index
used-requires-clause-index c =
    let w = c.requires in
    has_operand access.PutStatic c.args.index c.args.current.next (known c.args.current.classes.now.world c.args.linked.now c.args.current.site)
    (place c.args.at.now c.args.words.now c.args.held.now w.blocks) w.texts w.c w.addresses w.done w.below w.uses.uses

pub returns-in-Err-clause-uses : goal.returns-in-Err-clause-uses
returns-in-Err-clause-uses c = λ blocks texts x addresses done below h.
    let k = known c.args.current.classes.now.world c.args.linked.now c.args.current.site in
    let here = place c.args.at.now c.args.words.now c.args.held.now blocks in
    failed access.PutStatic c.args.index c.args.current.next k here texts x addresses done below h.uses c.in-Err.class c.in-Err.ensures.found

pub returns-then-not-is_ready-clause-uses : goal.returns-then-not-is_ready-clause-uses
returns-then-not-is_ready-clause-uses c = λ blocks texts x addresses done below h.
    let k = known c.args.current.classes.now.world c.args.linked.now c.args.current.site in
    let here = place c.args.at.now c.args.words.now c.args.held.now blocks in
    begins_put access.PutStatic c.args.index c.args.current.next k here texts x addresses done below h.uses c.field_is_used.ensures c.in-Ok.field c.in-Ok.ensures.found c.in-Ok.ensures.used refl
    (sym (c.is_ready.ensures k.world x.states (d access.PutStatic c.args.index c.args.current.next k here texts x addresses done below h.uses
    c.field_is_used.ensures c.in-Ok.field c.in-Ok.ensures.found c.in-Ok.ensures.used).by h.states_are
    (class_at access.PutStatic c.args.index c.args.current.next k here texts x addresses done below h.uses c.field_is_used.ensures c.in-Ok.field
    c.in-Ok.ensures.found c.in-Ok.ensures.used)) ∙ c.if-not-is_ready.true)

pub put_long_static-requires : goal.put_long_static-requires
put_long_static-requires c =
    let k = known c.args.current.classes.now.world c.args.linked.now c.args.current.site in
    let w = c.requires in
    let here = place c.args.at.now c.args.words.now c.args.held.now w.blocks in
    record {
      blocks = w.blocks;
      texts = w.texts;
      c = w.c;
      d = d access.PutStatic c.args.index c.args.current.next k here w.texts w.c w.addresses w.done
          w.below w.uses.uses c.field_is_used.ensures c.in-Ok.field c.in-Ok.ensures.found c.in-Ok.ensures.used;
      addresses = w.addresses;
      done =
          w.done;
      below = w.below;
      puts = putting_static access.PutStatic c.args.index c.args.current.next k here w.texts w.c w.addresses w.done w.below
          w.uses.uses c.field_is_used.ensures c.in-Ok.field c.in-Ok.ensures.found c.in-Ok.ensures.used refl
          (sym (c.is_ready.ensures k.world w.c.states (d access.PutStatic c.args.index c.args.current.next k here w.texts w.c w.addresses w.done w.below
          w.uses.uses c.field_is_used.ensures c.in-Ok.field c.in-Ok.ensures.found c.in-Ok.ensures.used).by w.uses.states_are
          (class_at access.PutStatic c.args.index c.args.current.next k here w.texts w.c w.addresses w.done w.below w.uses.uses c.field_is_used.ensures
          c.in-Ok.field c.in-Ok.ensures.found c.in-Ok.ensures.used)) ∙ c.if-not-is_ready.false) 2
          (words_are access.PutStatic c.args.index c.args.current.next k here w.texts w.c w.addresses w.done w.below w.uses.uses c.field_is_used.ensures
          c.in-Ok.field c.in-Ok.ensures.found c.in-Ok.ensures.used c.is_long.result c.is_long.ensures ∙ ap (λ (b : Bool). if b then 2 else 1)
          c.if-is_long.true) narrowings.Whole (long_whole access.PutStatic c.args.index c.args.current.next k here w.texts w.c w.addresses w.done w.below
          w.uses.uses c.field_is_used.ensures c.in-Ok.field c.in-Ok.ensures.found c.in-Ok.ensures.used
          (words_are access.PutStatic c.args.index c.args.current.next k here w.texts w.c w.addresses w.done w.below w.uses.uses c.field_is_used.ensures
          c.in-Ok.field c.in-Ok.ensures.found c.in-Ok.ensures.used c.is_long.result c.is_long.ensures ∙ ap (λ (b : Bool). if b then 2 else 1)
          c.if-is_long.true));
    }

pub returns-then-is_long-clause-uses : goal.returns-then-is_long-clause-uses
returns-then-is_long-clause-uses c = λ blocks texts x addresses done below h.
    let k = known c.args.current.classes.now.world c.args.linked.now c.args.current.site in
    let here = place c.args.at.now c.args.words.now c.args.held.now blocks in
    c.put_long_static.ensures.puts blocks texts x (d access.PutStatic c.args.index c.args.current.next k here texts x addresses done below h.uses
    c.field_is_used.ensures c.in-Ok.field c.in-Ok.ensures.found c.in-Ok.ensures.used) addresses done below
    (putting_static access.PutStatic c.args.index c.args.current.next k here texts x addresses done below h.uses c.field_is_used.ensures c.in-Ok.field
    c.in-Ok.ensures.found c.in-Ok.ensures.used refl
    (sym (c.is_ready.ensures k.world x.states (d access.PutStatic c.args.index c.args.current.next k here texts x addresses done below h.uses
    c.field_is_used.ensures c.in-Ok.field c.in-Ok.ensures.found c.in-Ok.ensures.used).by h.states_are
    (class_at access.PutStatic c.args.index c.args.current.next k here texts x addresses done below h.uses c.field_is_used.ensures c.in-Ok.field
    c.in-Ok.ensures.found c.in-Ok.ensures.used)) ∙ c.if-not-is_ready.false) 2
    (words_are access.PutStatic c.args.index c.args.current.next k here texts x addresses done below h.uses c.field_is_used.ensures c.in-Ok.field
    c.in-Ok.ensures.found c.in-Ok.ensures.used c.is_long.result c.is_long.ensures ∙ ap (λ (b : Bool). if b then 2 else 1) c.if-is_long.true)
    narrowings.Whole (long_whole access.PutStatic c.args.index c.args.current.next k here texts x addresses done below h.uses c.field_is_used.ensures
    c.in-Ok.field c.in-Ok.ensures.found c.in-Ok.ensures.used (words_are access.PutStatic c.args.index c.args.current.next k here texts x addresses done
    below h.uses c.field_is_used.ensures c.in-Ok.field c.in-Ok.ensures.found c.in-Ok.ensures.used c.is_long.result c.is_long.ensures ∙
    ap (λ (b : Bool). if b then 2 else 1) c.if-is_long.true)))

pub put_static-requires : goal.put_static-requires
put_static-requires c =
    let k = known c.args.current.classes.now.world c.args.linked.now c.args.current.site in
    let w = c.requires in
    let here = place c.args.at.now c.args.words.now c.args.held.now w.blocks in
    record {
      blocks = w.blocks;
      texts = w.texts;
      c = w.c;
      d = d access.PutStatic c.args.index c.args.current.next k here w.texts w.c w.addresses w.done
          w.below w.uses.uses c.field_is_used.ensures c.in-Ok.field c.in-Ok.ensures.found c.in-Ok.ensures.used;
      addresses = w.addresses;
      done =
          w.done;
      below = w.below;
      puts = putting_static access.PutStatic c.args.index c.args.current.next k here w.texts w.c w.addresses w.done w.below
          w.uses.uses c.field_is_used.ensures c.in-Ok.field c.in-Ok.ensures.found c.in-Ok.ensures.used refl
          (sym (c.is_ready.ensures k.world w.c.states (d access.PutStatic c.args.index c.args.current.next k here w.texts w.c w.addresses w.done w.below
          w.uses.uses c.field_is_used.ensures c.in-Ok.field c.in-Ok.ensures.found c.in-Ok.ensures.used).by w.uses.states_are
          (class_at access.PutStatic c.args.index c.args.current.next k here w.texts w.c w.addresses w.done w.below w.uses.uses c.field_is_used.ensures
          c.in-Ok.field c.in-Ok.ensures.found c.in-Ok.ensures.used)) ∙ c.if-not-is_ready.false) 1
          (words_are access.PutStatic c.args.index c.args.current.next k here w.texts w.c w.addresses w.done w.below w.uses.uses c.field_is_used.ensures
          c.in-Ok.field c.in-Ok.ensures.found c.in-Ok.ensures.used c.is_long.result c.is_long.ensures ∙ ap (λ (b : Bool). if b then 2 else 1)
          c.if-is_long.false) c.narrowing_by-how.result (narrows access.PutStatic c.args.index c.args.current.next k here w.texts w.c w.addresses w.done w.below
          w.uses.uses c.field_is_used.ensures c.in-Ok.field c.in-Ok.ensures.found c.in-Ok.ensures.used c.narrowing_by-how.result
          c.narrowing_by-how.ensures);
    }

pub returns-clause-uses : goal.returns-clause-uses
returns-clause-uses c = λ blocks texts x addresses done below h.
    let k = known c.args.current.classes.now.world c.args.linked.now c.args.current.site in
    let here = place c.args.at.now c.args.words.now c.args.held.now blocks in
    c.put_static.ensures.puts blocks texts x (d access.PutStatic c.args.index c.args.current.next k here texts x addresses done below h.uses
    c.field_is_used.ensures c.in-Ok.field c.in-Ok.ensures.found c.in-Ok.ensures.used) addresses done below
    (putting_static access.PutStatic c.args.index c.args.current.next k here texts x addresses done below h.uses c.field_is_used.ensures c.in-Ok.field
    c.in-Ok.ensures.found c.in-Ok.ensures.used refl
    (sym (c.is_ready.ensures k.world x.states (d access.PutStatic c.args.index c.args.current.next k here texts x addresses done below h.uses
    c.field_is_used.ensures c.in-Ok.field c.in-Ok.ensures.found c.in-Ok.ensures.used).by h.states_are
    (class_at access.PutStatic c.args.index c.args.current.next k here texts x addresses done below h.uses c.field_is_used.ensures c.in-Ok.field
    c.in-Ok.ensures.found c.in-Ok.ensures.used)) ∙ c.if-not-is_ready.false) 1
    (words_are access.PutStatic c.args.index c.args.current.next k here texts x addresses done below h.uses c.field_is_used.ensures c.in-Ok.field
    c.in-Ok.ensures.found c.in-Ok.ensures.used c.is_long.result c.is_long.ensures ∙ ap (λ (b : Bool). if b then 2 else 1) c.if-is_long.false)
    c.narrowing_by-how.result (narrows access.PutStatic c.args.index c.args.current.next k here texts x addresses done below h.uses
    c.field_is_used.ensures c.in-Ok.field c.in-Ok.ensures.found c.in-Ok.ensures.used c.narrowing_by-how.result c.narrowing_by-how.ensures))
