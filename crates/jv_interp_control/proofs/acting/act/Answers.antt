use Rattle.std.proofs.Common.{◌≡◌, ℕ, refl, subst, rules}
use Rattle.jv_interp_held.specs.declared.effect.Effect.{Effect}
use Rattle.jv_interp_held.specs.declared.effect.Effect.TheVariants as effects
use Rattle.jv_interp_control.specs.Standing.{kept}
use Rattle.jv_interp_control.specs.Acting.{Acting}
use Rattle.jv_interp_control.specs.Inside.Above.{IsAbove}
use Rattle.jv_interp_control.proofs.Acts.{runs_on, returns, left_reaches}
use Rattle.jv_interp_control.proofs.acting.act.Goals as goal

is_above : (e : Effect) → (e ≡ effects.Goes → ⊥) → ((words : ℕ) → e ≡ effects.Leaves words → ⊥) → IsAbove e
is_above effects.Goes g l = g refl
is_above (effects.Enters number words) g l = tt
is_above (effects.Leaves words) g l = l words refl
is_above (effects.Throws address) g l = tt
is_above (effects.Raises number) g l = tt
is_above (effects.Begins number) g l = tt

pub return_from-requires : goal.return_from-requires
return_from-requires g c =
    let w = c.requires.can in
    let world = c.args.program.now.classes.now.world in
    let blocks = g.S.Store.content c.args.store.now in
    let h =
    subst (λ (e : Effect). Acting world c.args.at e w.program w.texts w.s w.t w.addresses (kept c.args.frames.now c.args.control.now c.args.held.now blocks)) c.in-Leaves.is
    w.acting in
    let r = returns world c.args.at c.in-Leaves.words w.program w.texts w.s w.t w.addresses c.args.frames.now c.args.control.now c.args.held.now blocks h
    c.args.program.now.methods.now c.requires.methods in
    record {
      can = record {
        program = w.program;
        addresses = w.addresses;
        memory = _;
        frame = _;
        others = _;
        control = _;
        result = r.result;
        t = w.t;
        returning = r.returning;
      };
    }

pub act_above-requires : goal.act_above-requires
act_above-requires g c = record {
  above = is_above c.args.effect c.in_default.not-Goes c.in_default.not-Leaves;
  can = c.requires.can;
  linked = c.requires.linked;
  methods = c.requires.methods;
  few_classes = c.requires.few_classes;
  few = c.requires.few;
  room = c.requires.room;
}

pub returns-in-Goes-clause-acted : goal.returns-in-Goes-clause-acted
returns-in-Goes-clause-acted g c = λ program texts s t addresses are h.
    let world = c.args.program.now.classes.now.world in
    let blocks = g.S.Store.content c.args.store.now in (
      refl,
      runs_on world c.args.at program texts s t addresses c.args.frames.now c.args.control.now c.args.held.now blocks
          (subst (λ (e : Effect). Acting world c.args.at e program texts s t addresses (kept c.args.frames.now c.args.control.now c.args.held.now blocks)) c.in-Goes.is h),
    )

pub returns-in-Leaves-clause-acted : goal.returns-in-Leaves-clause-acted
returns-in-Leaves-clause-acted g c = λ program texts s t addresses are h.
    let world = c.args.program.now.classes.now.world in
    let blocks = g.S.Store.content c.args.store.now in
    let k = subst (λ (e : Effect). Acting world c.args.at e program texts s t addresses (kept c.args.frames.now c.args.control.now c.args.held.now blocks)) c.in-Leaves.is h in
    let r = returns world c.args.at c.in-Leaves.words program texts s t addresses c.args.frames.now c.args.control.now c.args.held.now blocks k c.args.program.now.methods.now c.requires.methods in
    left_reaches world c.args.at c.in-Leaves.words program texts s t addresses c.args.frames.now c.args.control.now c.args.held.now blocks k c.args.program.now.methods.now c.requires.methods
    c.return_from.new.frames c.return_from.new.control (c.return_from.ensures program addresses _ _ _ _ r.result t r.returning)

pub returns-in_ok-act_above-in_default : goal.returns-in_ok-act_above-in_default
returns-in_ok-act_above-in_default g c = record {
  acted = c.in_ok-act_above-in_default.ensures.acted;
  goes = (λ on. absurd cc, λ e. absurd (c.in_default.not-Goes e));
  going = λ e. absurd (c.in_default.not-Goes e);
  fewer = c.act_above.ensures.fewer;
  room = c.in_ok-act_above-in_default.ensures.room;
  refused_frames = tt;
  refused_control = tt;
  refused = tt;
  refused_content = tt;
  refused_room = tt;
  sure = search rules;
}
