-- `new` on words, as far as the making: what the machine does stands afterwards.
use Rattle.std.proofs.Common.{◌≡◌, ℕ, ◌<◌, ◌≤◌, Bool, true, false, not, List, Some, Ok, Err, sym, ap, subst, ◌∙◌, arith, slice_get}
use Rattle.std.specs.Prelude.{Result, if◌then◌else◌}
use Rattle.std.proofs.lemmas.Option.{slice_get_within}
use Rattle.jv_text.specs.Name.{is_array_name}
use Rattle.jv_meaning_world.specs.World.{Loaded, World}
use Rattle.jv_meaning_typing.specs.Uses.Use.{New}
use Rattle.jv_meaning_typing.specs.LinkErrors.{error_class}
use Rattle.jv_meaning_typing.specs.Operands.{class_operand}
use Rattle.jv_meaning_typing.specs.ClassResolution.{resolve_class}
use Rattle.jv_meaning_typing.specs.ClassResolution.ResolvedClass.{ClassOf}
use Rattle.jv_meaning_typing.specs.Layout.{object_words, object_cells}
use Rattle.jv_meaning_typing.specs.Environment.{current_class}
use Rattle.jv_meaning_machine.specs.Faults.{tested, ◌>>=◌}
use Rattle.jv_meaning_machine.specs.Faults.Fault.{OffsetFault}
use Rattle.jv_meaning_machine.specs.State.{Memory, class_state, is_ready}
use Rattle.jv_meaning_machine.specs.Effects.{Effect, Context, Outcome, world_at, method_at, site_at, unless_error, class_constant, out_of_memory}
use Rattle.jv_meaning_machine.specs.Effects.Effect.{Throws, Begins}
use Rattle.jv_meaning_machine.specs.Instructions.{push_object, create, new}
use Rattle.jv_interp_words.proofs.Gave.{bound_gave, found_gave, tested_gave}
use Rattle.jv_interp_held.specs.declared.class_state.ClassState.{ClassState}
use Rattle.jv_interp_held.specs.declared.effect.Effect.TheVariants as effects
use Rattle.jv_interp_held.specs.Executing.{Place}
use Rattle.jv_interp_held.specs.Growing.{DidIn}
use Rattle.jv_interp_members.specs.Known.{Known}
use Rattle.jv_interp_held.proofs.Entered.{done_same}
use Rattle.jv_interp_members.proofs.Called.{unless_raised, unless_next}
use Rattle.jv_interp_objects.specs.Objects.{object_of, Creating}
use Rattle.jv_interp_objects.proofs.Went.{paid_lacks, raises_in}
use Rattle.jv_interp_objects.specs.Named.{NamesClass, IsClassOf, NamesNew, IsNewClass}
use Rattle.jv_interp_objects.specs.Making.{MakingObject}
use Rattle.jv_interp_objects.proofs.Stays.{stays_in, executed}

pub record NewOf (c : Context) (index : ℕ) (done : Memory × Effect) : Type 0 where
  pub text : List ℕ
  pub operand : class_operand (current_class (method_at c)) index ≡ Some text
  pub does : unless_error c (resolve_class (world_at c) (site_at c) (Some New) text) (create c) ≡ Ok done

new_of : (c : Context) (index : ℕ) (done : Memory × Effect) → new c index ≡ Ok done → NewOf c index done
new_of c index done e =
    let text =
    bound_gave (class_constant c index)
    (λ (t : List ℕ). tested OffsetFault (not (is_array_name t)) t >>= λ text. unless_error c (resolve_class (world_at c) (site_at c) (Some New) text) (create c)) done e in
    let plain =
    bound_gave (tested OffsetFault (not (is_array_name text.0)) text.0)
    (λ (t : List ℕ). unless_error c (resolve_class (world_at c) (site_at c) (Some New) t) (create c)) done text.2 in
    record {
      text = plain.0;
      operand =
          found_gave OffsetFault (class_operand (current_class (method_at c)) index) text.0 text.1
          ∙ ap Some (tested_gave OffsetFault (not (is_array_name text.0)) text.0 plain.0 plain.1).1;
      does = plain.2;
    }

module _ (index next : ℕ) (k : Known) (states : List ClassState) (here : Place) (texts : List (List ℕ)) (c : Context) (addresses : List ℕ) (done : Memory × Effect) (below : List ℕ)
    (h : MakingObject index next k states here texts c addresses done below) where
  abbrev part : Context → Outcome
  part = λ c. new c index

  pub it : NewOf c index done
  it = new_of c index done h.executes.does

  pub names : NamesClass k.world k.site index
  names = record { s = c.frame.method.site; text = it.text; seen = h.known.site; operand = it.operand }

  resolves :
      (answer : Result ℕ ℕ) → IsNewClass k.world k.site index answer
      → NamesNew c.program.world (resolve_class c.program.world c.frame.method.site (Some New) it.text) answer
  resolves answer clause =
      subst (λ (w : World). NamesNew w (resolve_class w c.frame.method.site (Some New) it.text) answer) (sym h.known.world)
      (clause c.frame.method.site it.text h.known.site it.operand)

  pub failed : (number : ℕ) → IsNewClass k.world k.site index (Err number) → DidIn here.blocks texts here (effects.Raises number) c addresses done below
  failed number clause =
      let e = resolves (Err number) clause in
      raises_in part texts next here c addresses done below h.executes (error_class e.error) number
      (unless_raised c (resolve_class (world_at c) (site_at c) (Some New) it.text) (create c) e.error done e.is it.does) e.numbered

  -- ---- the class

  module _ (number : ℕ) (clause : IsNewClass k.world k.site index (Ok number)) where
    pub class : IsClassOf c.program.world (resolve_class c.program.world c.frame.method.site (Some New) it.text) number
    class = resolves (Ok number) clause

    abbrev pub l : Loaded
    l = class.l

    pub at : slice_get k.world number ≡ Some l
    at = subst (λ (w : World). slice_get w number ≡ Some class.l) h.known.world class.at

    pub few : number < 2147483648
    few = let inside = slice_get_within k.world number l at in let all = h.known.few in omega (arith, inside, all)

    does : create c (ClassOf l) ≡ Ok done
    does = unless_next c (resolve_class (world_at c) (site_at c) (Some New) it.text) (create c) (ClassOf class.l) done class.is it.does

    pub begins : is_ready (class_state c.states l) ≡ false → DidIn here.blocks texts here (effects.Begins number) c addresses done below
    begins other =
        stays_in part texts next here c addresses done below h.executes (Begins l) (effects.Begins number)
        (done_same (c.memory, Begins l) done
        (subst (λ (b : Bool). (if b then object_of l c else Ok (c.memory, Begins l)) ≡ Ok done) other does))
        (class.at, record { pc_is = h.executes.pc_is; stand = h.executes.frame })

    -- ---- it is ready

    module _ (ready : is_ready (class_state c.states l) ≡ true) where
      pushes : object_of l c ≡ Ok done
      pushes = subst (λ (b : Bool). (if b then object_of l c else Ok (c.memory, Begins l)) ≡ Ok done) ready does

      pub lacks : (size : ℕ) → size ≡ object_words k.world l → here.held.cells ≤ size → DidIn here.blocks texts here (effects.Throws here.held.out_of_memory) c addresses done below
      lacks size size_is most =
          let words : size ≡ object_words c.program.world l = size_is ∙ ap (λ (w : World). object_words w l) (sym h.known.world) in
          let fewer : c.memory.cells < object_cells c.program.world l = let a = h.executes.memory.cells in omega (arith, a, words, most) in
          stays_in part texts next here c addresses done below h.executes (Throws out_of_memory) (effects.Throws here.held.out_of_memory)
          (done_same (c.memory, Throws out_of_memory) done
          (sym (ap (push_object c l) (paid_lacks (object_cells c.program.world l) c.memory fewer)) ∙ pushes))
          (h.executes.memory.error_stands, record { pc_is = h.executes.pc_is; stand = h.executes.frame })

      pub creating : (size : ℕ) → size ≡ object_words k.world l → Creating number size next here texts c l addresses done below
      creating size size_is =
          record {
            executes = executed part texts next here c addresses done below h.executes (object_of l) pushes;
            named = class.named;
            has_number = class.at;
            size_is = ap (λ (w : World). object_words w l) h.known.world ∙ sym size_is;
          }
