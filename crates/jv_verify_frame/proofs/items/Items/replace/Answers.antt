use Rattle.std.proofs.Common.{◌≡◌, ◌∙◌, ap, sym, map, subst}
use Rattle.std.specs.Prelude.{List}
use Rattle.jv_verify_types.specs.Numbered.{Item}
use Rattle.jv_verify_frame.specs.Inside.Swapped.{swapped}
use Rattle.jv_verify_frame.proofs.MadeBefore.{none_swapped, all_rewritten}
use Rattle.jv_verify_frame.proofs.Noting.{replaced_written}
use Rattle.jv_verify_frame.proofs.items.Items.replace.Goals as goal

pub returns-then-is_past : goal.returns-then-is_past
returns-then-is_past c =
    subst (λ (xs : List Item). xs ≡ map (swapped c.args.object c.args.by) xs) c.self.view_is
    (none_swapped c.self.inside.end c.args.object c.args.by (sym c.is_past.ensures ∙ c.if-is_past.true) c.self.inside.items.items c.self.invariant.0)

pub invariant_of-self : goal.invariant_of-self
invariant_of-self c =
    let inside = c.self-2.inside in
    let all : c.replace_copies.new.items ≡ map (swapped c.args.object c.args.by) inside.items.items =
    c.replace_copies.ensures.all ∙ ap (map (swapped c.args.object c.args.by)) c.deref_mut.ensures.value in (
      all_rewritten inside.end c.raised-self-inside.result c.args.object c.args.by c.raised-self-inside.ensures.least c.raised-self-inside.ensures.before
          inside.items.items c.replace_copies.new.items _ inside.items.len inside.items.ok.0 all c.self-2.invariant.0,
      replaced_written c.args.object c.args.by inside.notes c.allow.new.self c.leave.new.self inside.items.items c.replace_copies.new.items _ inside.items.len inside.items.ok.0 all
          c.allow.ensures.kept c.allow.ensures.none c.leave.ensures c.self-2.invariant.1,
    )
