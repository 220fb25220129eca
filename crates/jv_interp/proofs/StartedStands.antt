-- What is kept of a guest at its start stands.
use Rattle.std.proofs.Common.{◌≡◌, ℕ, Bool, List, [], ◌∷◌, ◌++◌, Option, Some, None, Ok, codes, refl, sym, ap, subst, ◌∙◌}
use Rattle.jv_meaning_world.specs.World.{Loaded, World, class_named}
use Rattle.jv_meaning_machine.specs.Faults.{found, ◌>>=◌}
use Rattle.jv_meaning_machine.specs.Faults.Fault.{ReferenceFault}
use Rattle.jv_meaning_machine.specs.State.{Program, State, state_of}
use Rattle.jv_meaning_machine.specs.State.End.{Running}
use Rattle.jv_meaning_machine.specs.Initialization.{main_method}
use Rattle.jv_meaning_machine.specs.Start.{Budget as BudgetOfMachine, start_memory, start_control, start_with, start}
use Rattle.jv_lookups.specs.declared.place.Place.{Place}
use Rattle.jv_lookups.specs.Places.{IsMethodFound}
use Rattle.jv_interp_heap.specs.ObjectsInBlocks.{Blocks}
use Rattle.jv_interp_held.specs.Growing.{Grows}
use Rattle.jv_interp_held.proofs.Growths.{then_grows}
use Rattle.jv_interp_control.specs.Standing.{StateStands, Moves, Moved}
use Rattle.jv_interp.specs.declared.budget.Budget.{Budget}
use Rattle.jv_interp.specs.declared.first.Started.{Started}
use Rattle.jv_interp.specs.Starting.{BothJoin}
use Rattle.jv_interp.specs.Opening.{Opening}
use Rattle.jv_interp.specs.Started.{budget_of, kept_of, FirstStands, StartsIn, HasStarted}
use Rattle.jv_interp.proofs.MainBegins.{both_grow}

-- ---- what the machine's start is

record Inverted (program : Program) (main input : List ℕ) (budget : BudgetOfMachine) (s : State) : Type 0 where
  error : Loaded
  named : class_named program.world (codes "java/lang/OutOfMemoryError") ≡ Some error
  does : start_with program main budget (start_memory program.world input budget error) (main_method program.world main) ≡ Ok s

inverted : (program : Program) (main input : List ℕ) (budget : BudgetOfMachine) (s : State) → start program main input budget ≡ Ok s → Inverted program main input budget s
inverted program main input budget s e = by_class (class_named program.world (codes "java/lang/OutOfMemoryError")) refl e
  where
    by_class : (o : Option Loaded) → class_named program.world (codes "java/lang/OutOfMemoryError") ≡ o
        → (found ReferenceFault o >>= λ error. start_with program main budget (start_memory program.world input budget error) (main_method program.world main)) ≡ Ok s
        → Inverted program main input budget s
    by_class None f g = absurd cc
    by_class (Some error) f g = record { error = error; named = f; does = g }

module _ (world : World) (verified : List Bool) (texts : List (List ℕ)) (main input : List ℕ) (budget : Budget) (place : Option Place) (first : Started) (between : Blocks)
    (stands : FirstStands world texts place input budget first between) (at : IsMethodFound world place (main_method world main)) where
  abbrev both : List ℕ
  both = first.held.out_of_memory ∷ first.held.arguments ∷ []

  abbrev opened : Program → Loaded → State
  opened program error = state_of (start_memory program.world input (budget_of budget) error) [] (start_control main (budget_of budget) Running)

  pub opening :
      (program : Program) (s : State) → StartsIn world verified main input budget program s
      → (error : Loaded) × Moves world (Opening place verified) program texts (opened program error) s both (kept_of first between)
  opening program s h =
      let i = inverted program main input (budget_of budget) s h.does in
      let found_there = subst (λ (w : World). IsMethodFound w place (main_method w main)) (sym h.world_is) at in (
        i.error,
        record {
          world_is = h.world_is;
          guests = h.guests;
          stands = stands program main i.error h.world_is h.guests found_there i.named;
          does = record { main = main; budget = budget_of budget; found = found_there; are = h.are; none = refl; control = refl; does = i.does };
        },
      )

  pub has_started :
      (started : Started) (before after : Blocks) → BothJoin first.held.out_of_memory first.held.arguments before between
      → Moved world (Opening place verified) (kept_of first between) (kept_of started after)
      → HasStarted world verified texts main input budget before started after
  has_started started before after joined moved program s h =
      let o = opening program s h in
      let r = moved program texts (opened program o.0) s both o.1 in
      let error = same_some first.held.out_of_memory started.held.out_of_memory r.stands.memory.error_stands in
      let strings = same_some first.held.arguments started.held.arguments r.stands.memory.arguments_stand in
      let addresses : both ++ r.more ≡ started.held.out_of_memory ∷ started.held.arguments ∷ r.more =
      ap (λ (a : ℕ). a ∷ first.held.arguments ∷ r.more) error ∙ ap (λ (b : ℕ). started.held.out_of_memory ∷ b ∷ r.more) strings in
      record {
        more = r.more;
        stands = subst (λ (l : List ℕ). StateStands program texts s l (kept_of started after)) addresses r.stands;
        grows =
            subst (λ (l : List ℕ). Grows [] l before after) addresses
            (then_grows [] both r.more before between after (both_grow first.held.out_of_memory first.held.arguments before between joined) r.grows);
      }
    where
      same_some : (a b : ℕ) → Some a ≡ Some b → a ≡ b
      same_some a b e = cc
