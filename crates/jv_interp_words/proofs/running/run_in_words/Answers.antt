use Rattle.std.proofs.Common.{◌≡◌, ℕ, zero, suc, ◌+◌, ◌-◌, Bool, false, List, get_or, refl, sym, subst, ◌∙◌, arith, nat_eq}
use Rattle.std.proofs.Math.Dec.{eqb-suc-zero}
use Rattle.jv_interp_words.specs.Opcodes.{works_alone}
use Rattle.jv_interp_words.specs.declared.registers.Registers.{Registers}
use Rattle.jv_interp_words.specs.Running.{RunsTo}
use Rattle.jv_interp_words.specs.Stepping.{TookStep}
use Rattle.jv_interp_words.proofs.RunsOn.{has_step, ran_more}
use Rattle.jv_interp_words.proofs.running.run_in_words.Goals as goal

pub step_in_words-other-requires : goal.step_in_words-other-requires
step_in_words-other-requires c =
    has_step (c.args.n - c.loop-left.left) c.args.at.now c.loop-left.now c.args.words.now c.loop-left.words c.requires
    c.loop-left.invariant.ran

not_zero : (n : ℕ) → (n ≡ 0 → ⊥) → nat_eq n 0 ≡ false
not_zero zero some = absurd (some refl)
not_zero (suc n) some = eqb-suc-zero n

pub returns-then-other-ne0-clause-ran : goal.returns-then-other-ne0-clause-ran
returns-then-other-ne0-clause-ran c =
    let other = c.step_in_words-other in
    let same =
    subst (λ (b : Bool). TookStep b c.loop-left.now c.loop-left.words other.new.at other.new.words) (not_zero other.result c.if-other-ne0.true)
    other.ensures.took in
    let n = c.args.n - c.loop-left.left in
    subst (λ (a : Registers). RunsTo n c.args.at.now c.args.words.now a other.new.words) (sym same.0)
    (subst (λ (ws : List ℕ). RunsTo n c.args.at.now c.args.words.now c.loop-left.now ws) (sym same.1) c.loop-left.invariant.ran)

pub returns-then-other-ne0-clause-stops : goal.returns-then-other-ne0-clause-stops
returns-then-other-ne0-clause-stops c = λ some.
    let other = c.step_in_words-other in
    let nothing = not_zero other.result c.if-other-ne0.true in
    let same = subst (λ (b : Bool). TookStep b c.loop-left.now c.loop-left.words other.new.at other.new.words) nothing other.ensures.took in
    subst (λ (a : Registers). works_alone (get_or a.code.now a.pc 0) ≡ false) (sym same.0) (sym other.ensures.when ∙ nothing)

pub returns-then-other-ne0-clause-rest : goal.returns-then-other-ne0-clause-rest
returns-then-other-ne0-clause-rest c = λ some.
    let other = c.step_in_words-other in
    let nothing = not_zero other.result c.if-other-ne0.true in
    let same = subst (λ (b : Bool). TookStep b c.loop-left.now c.loop-left.words other.new.at other.new.words) nothing other.ensures.took in
    subst (λ (a : Registers). other.result ≡ get_or a.code.now a.pc 0 + 1) (sym same.0) (other.ensures.rest nothing)

pub loop-left-preserved : goal.loop-left-preserved
loop-left-preserved c =
    let next : suc (c.args.n - c.loop-left.left) ≡ c.args.n - (c.loop-left.left - 1) =
    omega (arith, c.loop-left.invariant.few, c.loop-left-test.true) in
    let took =
    subst (λ (n : ℕ). TookStep (nat_eq n 0) c.loop-left.now c.loop-left.words c.step_in_words-other.new.at c.step_in_words-other.new.words)
    c.if-other-ne0.false c.step_in_words-other.ensures.took in
    record {
      few = omega (arith, c.loop-left.invariant.few);
      ran =
          subst (λ (n : ℕ). RunsTo n c.args.at.now c.args.words.now c.step_in_words-other.new.at c.step_in_words-other.new.words) next
          (ran_more (c.args.n - c.loop-left.left) c.args.at.now c.loop-left.now c.step_in_words-other.new.at c.args.words.now c.loop-left.words
          c.step_in_words-other.new.words c.loop-left.invariant.ran took);
    }
