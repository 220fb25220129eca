use Rattle.std.proofs.Common.{[], ◌∷◌, refl, sym, subst}
use Rattle.jv_meaning_world.specs.World.{World}
use Rattle.jv_meaning_machine.specs.State.End.{Running}
use Rattle.jv_meaning_machine.specs.Initialization.{main_method}
use Rattle.jv_meaning_machine.specs.Start.{start_control}
use Rattle.jv_lookups.specs.Places.{IsMethodFound}
use Rattle.jv_link_cache.specs.Linked.{IsLinked}
use Rattle.jv_interp_heap.specs.SystemNumbers.{IsGuestsWorld}
use Rattle.jv_interp_control.specs.ControlStands.{ControlStands}
use Rattle.jv_interp.specs.Started.{budget_of}
use Rattle.jv_interp.proofs.first.first_kept.Goals as goal

pub returns-clause-stands : goal.returns-clause-stands
returns-clause-stands g c = λ program main error world_is guests found named.
    let budget = budget_of c.args.budget in
    record {
      frames = c.in_ok-frames.ensures program (c.in_ok-held.held.out_of_memory ∷ c.in_ok-held.held.arguments ∷ []);
      control =
          subst (λ (w : World). ControlStands w (start_control main budget Running) c.in_ok-control.control) (sym world_is)
          (c.in_ok-control.ensures main budget (subst IsGuestsWorld world_is guests)
          (subst (λ (w : World). IsMethodFound w c.args.place (main_method w main)) world_is found));
      memory =
          c.in_ok-held.ensures.starts program.world c.args.program.now.texts.now.names budget error
          (record {
            guests = guests;
            statics = sym (c.static_words.ensures program.world (subst (λ (w : World). IsLinked w c.args.linked.now) (sym world_is) c.requires.linked));
            count = sym c.count.ensures;
            differ = c.requires.texts.differ;
            cells_are = refl;
            output_is = refl;
            error_named = named;
          });
    }
