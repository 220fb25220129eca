use Rattle.std.proofs.Common.{◌≡◌, ◌∙◌, ap, sym, subst, length}
use Rattle.std.specs.List.{All}
use Rattle.jv_verify_frame.specs.Inside.Before.{IsBefore}
use Rattle.jv_verify_frame.proofs.MadeBefore.{all_written, all_later}
use Rattle.jv_verify_frame.proofs.Noting.{noted_written}
use Rattle.jv_verify_frame.proofs.items.Items.put.Goals as goal

pub invariant_of-self : goal.invariant_of-self
invariant_of-self c =
    let many : c.self.inside.items.len ≡ length c.put.new.locals = c.self.inside.items.ok.0 ∙ (ap length (sym c.deref_mut.ensures.value) ∙ sym c.put.ensures.same) in (
      all_written c.raised-self-inside.result c.put.new.locals _ c.self.inside.items.len many
          (c.put.ensures.before c.raised-self-inside.result c.raised-self-inside.ensures.before
          (subst (All (IsBefore c.raised-self-inside.result)) (sym c.deref_mut.ensures.value)
          (all_later c.self.inside.end c.raised-self-inside.result c.raised-self-inside.ensures.least c.self.inside.items.items c.self.invariant.0))),
      noted_written c.args.place c.args.item c.self.inside.notes c.add.new.self c.self.inside.items.items _ c.put.new.locals _ c.self.inside.items.len
          c.deref_mut.ensures.value many c.add.ensures c.put.ensures.objects c.self.invariant.1,
    )
