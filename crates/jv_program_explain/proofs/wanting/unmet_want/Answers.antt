use Rattle.std.proofs.Common.{◌≡◌, Option, Some, true, false, sym, ap, subst, ◌∙◌}
use Rattle.std.specs.Prelude.{IfOk, slice_get}
use Rattle.std.specs.Borrow.{Bor}
use Rattle.std.specs.Option.{option_map}
use Rattle.jv_meaning_world.specs.Numbers.{HoldsAtNumber}
use Rattle.jv_meaning_world.specs.World.{Loaded, World}
use Rattle.jv_operands.specs.Seen.{seen_unmet}
use Rattle.jv_verify.specs.Before.{seen_frame}
use Rattle.jv_verify.specs.declared.NamedFrame.{NamedFrame}
use Rattle.jv_program_explain.specs.Inside.Wanting.{IsUnmetWantOf}
use Rattle.jv_program_explain.proofs.BelowFaults.{class_there}
use Rattle.jv_program_explain.proofs.wanting.unmet_want.Goals as goal

pub unreachable-requires : goal.unreachable-requires
unreachable-requires c =
    let (l, there) = class_there c.args.classes.now.world c.args.class c.requires.judged.class in
    let at = subst (λ (w : World). slice_get w c.args.class ≡ Some l) (sym c.table.ensures) there in
    let none = (c.in_default-file.ensures {u = tt}).none in
    clash (sym (ap (λ (x : Loaded). x.by_system) (sym (c.class_at.ensures l at) ∙ none)) ∙ c.requires.judged.guest l there)
  where
    clash : true ≡ false → ⊥
    clash e = cc

pub returns : goal.returns
returns c =
    subst (λ (b : Option (Bor NamedFrame)). IfOk c.want_in.result (λ want. HoldsAtNumber c.args.classes.now.world c.args.class (λ l.
    IsUnmetWantOf c.args.classes.now.world l c.args.fault (option_map (λ f. seen_frame f.now) b) (option_map seen_unmet want)))) (sym c.in-Some.is) c.want_in.ensures
