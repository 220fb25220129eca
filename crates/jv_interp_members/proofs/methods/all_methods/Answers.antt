use Rattle.std.proofs.Common.{◌≡◌, ℕ, ◌<◌, ◌+◌, length, ap, ◌∙◌, arith}
use Rattle.jv_interp_words.specs.FramesInWords.{methods_of}
use Rattle.std.proofs.Common.{take}
use Rattle.jv_interp_members.proofs.OfClasses.{item_at, class_joins, first_joins, methods_made}
use Rattle.jv_interp_members.proofs.methods.all_methods.Goals as goal

pub loop-class-preserved : goal.loop-class-preserved
loop-class-preserved c =
    let world = c.args.table.now in
    let less : c.loop-class.class < length world = omega (arith, c.loop-class-test.true, c.count-class-end.ensures) in
    let item = item_at world c.loop-class.class less in (
      class_joins world c.loop-class.class item.0 _ item.1
          (c.in_ok-add_methods.ensures.added item.0 item.1 (methods_of (take c.loop-class.class world)) c.loop-class.invariant.0),
      rw c.in_ok-push.ensures.items
          (first_joins world c.loop-class.class c.len.result _ item.0 c.loop-class.firsts.items item.1
          (c.in_ok-add_methods.ensures.count item.0 item.1 ∙ ap (λ (n : ℕ). n + length item.0.class.methods)
          (let e : length c.loop-class.rows.items ≡ c.len.result = omega (arith, c.loop-class.rows.ok.0, c.len.ensures) in e))
          (rw c.len.ensures (rw c.loop-class.rows.ok.0 c.loop-class.invariant.1))),
    )

pub returns-then-len-le4294967295 : goal.returns-then-len-le4294967295
returns-then-len-le4294967295 c =
    methods_made c.args.table.now _ c.loop-class.class (omega (arith, c.loop-class-test.false, c.count-class-end.ensures))
    c.loop-class.invariant.0 c.loop-class.invariant.1 (omega (arith, c.if-len-le4294967295.true, c.len-2.ensures, c.loop-class.rows.ok.0))
