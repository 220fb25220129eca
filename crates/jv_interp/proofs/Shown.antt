-- What a guest shows is what it shows alone (own).
use Rattle.std.proofs.Common.{◌≡◌, ℕ, List, Option, ◌∙◌, sym, ap, refl}
use Rattle.jv_meaning_typing.specs.declared.verdict.Verdict.{Verdict}
use Rattle.jv_meaning_world.specs.World.{World}
use Rattle.jv_meaning_machine.specs.State.{ThrowPlace, End as EndOfNames}
use Rattle.jv_meaning_machine.specs.State.End.{Running, Returned, Threw, NoMain}
use Rattle.jv_interp_control.specs.declared.control.End.{End}
use Rattle.jv_interp_control.specs.declared.control.End.TheVariants as ends
use Rattle.jv_interp_control.specs.ControlStands.{EndStands}
use Rattle.jv_meaning_machine.specs.Start.{Budget}
use Rattle.jv_meaning_machine.specs.Alone.{GuestFiles, Feed}
use Rattle.jv_meaning_machine.specs.Observation.{Observed, observation, Shows}
use Rattle.jv_interp_heap.specs.ObjectsInBlocks.{Blocks}
use Rattle.jv_interp.specs.declared.guest.Guest.{Guest}
use Rattle.jv_interp.specs.Standing.{GuestStands}

pub shows :
    (g : GuestFiles) (b : Budget) (feeds : List Feed) (n : ℕ) (addresses : List ℕ) (guest : Guest) (blocks : Blocks)
    (h : GuestStands g b feeds n addresses guest blocks) (o : Observed) → o.verdicts ≡ guest.judged.verdicts → o.steps ≡ guest.steps
    → o.output ≡ guest.held.output.items → o.throws ≡ guest.control.throws → o.last ≡ h.state.control.last
    → o.place ≡ h.state.control.place → o.end ≡ h.state.control.end → Shows g b feeds n o
shows g b feeds n addresses guest blocks h o verdicts steps output throws last place end = record {
  judged = h.judged;
  right = h.right;
  state = h.state;
  ran = h.ran;
  shown =
      all (verdicts ∙ sym h.verdicts_are) (steps ∙ h.steps_are) (output ∙ sym h.stands.memory.output) (throws ∙ sym h.stands.control.throws) last place end;
}
  where
    all :
        o.verdicts ≡ h.judged.verdicts → o.steps ≡ n → o.output ≡ h.state.memory.output → o.throws ≡ h.state.control.throws
        → o.last ≡ h.state.control.last → o.place ≡ h.state.control.place → o.end ≡ h.state.control.end → o ≡ observation h.judged.verdicts n h.state
    all v s w t l p e =
        ap (λ (x : List Verdict). record o { verdicts = x }) v ∙
        ap (λ (x : ℕ). record (observation h.judged.verdicts o.steps h.state) {
          output = o.output;
          throws = o.throws;
          last = o.last;
          place = o.place;
          end = o.end;
          steps = x;
        }) s
        ∙ ap (λ (x : List ℕ). record (observation h.judged.verdicts n h.state) { output = x; throws = o.throws; last = o.last; place = o.place; end = o.end }) w
        ∙ ap (λ (x : ℕ). record (observation h.judged.verdicts n h.state) { throws = x; last = o.last; place = o.place; end = o.end }) t
        ∙ ap (λ (x : Option (List ℕ)). record (observation h.judged.verdicts n h.state) { last = x; place = o.place; end = o.end }) l
        ∙ ap (λ (x : Option ThrowPlace). record (observation h.judged.verdicts n h.state) { place = x; end = o.end }) p
        ∙ ap (λ (x : EndOfNames). record (observation h.judged.verdicts n h.state) { end = x }) e

-- ---- whether it takes steps

pub told_running : (world : World) (ended : EndOfNames) (end : End) → end ≡ ends.Running → EndStands world ended end → ended ≡ Running
told_running world Running end is h = refl
told_running world Returned ends.Returned is h = absurd cc
told_running world Returned ends.Running is h = absurd h
told_running world Returned (ends.Threw number) is h = absurd h
told_running world Returned ends.NoMain is h = absurd h
told_running world (Threw class) ends.Running is h = absurd h
told_running world (Threw class) ends.Returned is h = absurd h
told_running world (Threw class) (ends.Threw number) is h = absurd cc
told_running world (Threw class) ends.NoMain is h = absurd h
told_running world NoMain ends.Running is h = absurd h
told_running world NoMain ends.Returned is h = absurd h
told_running world NoMain (ends.Threw number) is h = absurd h
told_running world NoMain ends.NoMain is h = absurd cc

pub told_over : (world : World) (ended : EndOfNames) (end : End) → (end ≡ ends.Running → ⊥) → EndStands world ended end → ended ≡ Running → ⊥
told_over world Running ends.Running not h e = not refl
told_over world Running ends.Returned not h e = h
told_over world Running (ends.Threw number) not h e = h
told_over world Running ends.NoMain not h e = h
told_over world Returned end not h e = cc
told_over world (Threw class) end not h e = cc
told_over world NoMain end not h e = cc
