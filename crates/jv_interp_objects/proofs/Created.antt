-- `new` on words: what the machine does stands afterwards.
use Rattle.std.proofs.Common.{◌≡◌, ℕ, ◌+◌, ◌-◌, ◌<◌, ◌≤◌, false, List, [], ◌∷◌, ◌++◌, length, replicate, set, refl, sym, ap, subst, ◌∙◌, arith}
use Rattle.jv_meaning_world.specs.World.{Loaded}
use Rattle.jv_meaning_typing.specs.Layout.{object_cells}
use Rattle.jv_meaning_machine.specs.Values.Value.{Reference}
use Rattle.jv_meaning_machine.specs.Objects.{new_object}
use Rattle.jv_meaning_machine.specs.State.{Memory}
use Rattle.jv_meaning_machine.specs.Costs.{next_object}
use Rattle.jv_meaning_machine.specs.Effects.{Effect, Context, out_of_memory}
use Rattle.jv_meaning_machine.specs.Effects.Effect.{Goes, Throws}
use Rattle.jv_meaning_machine.specs.Instructions.{push_object}
use Rattle.jv_interp_words.specs.declared.registers.Registers.{Registers}
use Rattle.jv_interp_words.specs.FramesInWords.{in_use}
use Rattle.jv_interp_words.proofs.Grown.{frame_grown}
use Rattle.jv_interp_words.proofs.InUse.{in_use_pushed}
use Rattle.jv_interp_heap.specs.ObjectsInBlocks.{Blocks}
use Rattle.jv_interp_heap.proofs.NewObjects.{instance_joined}
use Rattle.jv_interp_held.specs.declared.effect.Effect.TheVariants as effects
use Rattle.jv_interp_held.specs.Executing.{Place, place, HasRoom}
use Rattle.jv_interp_held.specs.Growing.{DidIn}
use Rattle.jv_interp_held.proofs.Popped.{frame_pushed}
use Rattle.jv_interp_objects.specs.Payments.{IsLacking, IsMade}
use Rattle.jv_interp_objects.specs.Objects.{object_of, Creating}
use Rattle.jv_interp_held.proofs.Growths.{joined_grows}
use Rattle.jv_interp_objects.proofs.More.{memory_grown, last_place}
use Rattle.jv_interp_objects.proofs.Went.{done_same, paid_lacks, paid_left, lacks_in, goes_in, room_for}

module _ (class size next : ℕ) (here : Place) (texts : List (List ℕ)) (c : Context) (l : Loaded) (addresses : List ℕ) (done : Memory × Effect) (below : List ℕ)
    (h : Creating class size next here texts c l addresses done below) where
  abbrev cost : ℕ
  cost = object_cells c.program.world l

  cost_is : cost ≡ 1 + size
  cost_is = ap (λ (n : ℕ). 1 + n) h.size_is

  pub lacking : (cells : ℕ) (after : Blocks) → IsLacking (1 + size) here.held.cells cells here.blocks after → DidIn here.blocks texts
      (place here.at here.words (record here.held { cells = cells }) after) (effects.Throws here.held.out_of_memory) c addresses done below
  lacking cells after lacks =
      let fewer : c.memory.cells < cost = let a = h.executes.memory.cells in let b = lacks.lacks in let e = cost_is in omega (arith, a, b, e) in
      lacks_in (object_of l) texts next here c addresses done below h.executes cells after
      (done_same (c.memory, Throws out_of_memory) done (sym (ap (push_object c l) (paid_lacks cost c.memory fewer)) ∙ h.executes.does))
      lacks.same_cells lacks.same

  goes : 1 + size ≤ here.held.cells → done ≡ (
    record c.memory { objects = c.memory.objects ++ new_object c.program.world l ∷ []; cells = c.memory.cells - cost },
    Goes c.next c.frame.locals
        (Reference (next_object c.memory) ∷ c.frame.stack),
  )
  goes enough =
      let left : cost ≤ c.memory.cells = let a = h.executes.memory.cells in let e = cost_is in omega (arith, a, e, enough) in
      done_same (
        record c.memory { objects = c.memory.objects ++ new_object c.program.world l ∷ []; cells = c.memory.cells - cost },
        Goes c.next c.frame.locals (Reference (next_object c.memory) ∷ c.frame.stack),
      ) done
      (sym (ap (push_object c l) (paid_left cost c.memory left)) ∙ h.executes.does)

  -- there is room for the reference
  pub has_room : 1 + size ≤ here.held.cells → HasRoom c below (length here.words) done → here.at.top < length here.words
  has_room enough room =
      let fits =
      room_for (object_of l) texts next here c addresses done below h.executes (Reference (next_object c.memory))
      (record c.memory { objects = c.memory.objects ++ new_object c.program.world l ∷ []; cells = c.memory.cells - cost }) (goes enough) room in
      omega (arith, fits)

  pub created :
      (cells : ℕ) (after : Blocks) (address : ℕ) (at : Registers) → class < 2147483648
      → IsMade (class ∷ replicate size 0) (1 + size) here.held.cells cells here.blocks after address → at.pc ≡ next → at.top ≡ here.at.top + 1
      → here.at.top < length here.words
      → DidIn here.blocks texts (place at (set here.words here.at.top address) (record here.held { cells = cells }) after) effects.Goes c addresses done below
  created cells after address at few new pc_is top_is room =
      let enough : 1 + size ≤ here.held.cells = let b = new.paid in omega (arith, b) in
      let left : cells + cost ≡ here.held.cells = let b = new.paid in let e = cost_is in omega (arith, b, e) in
      let stand =
      instance_joined c.program.world c.memory.objects addresses here.blocks after false l class address size h.executes.memory.objects
      (record { l = l; named = h.named; at = h.has_number }) refl few h.size_is new.joins in
      let used =
      subst (λ (n : ℕ). in_use (set here.words here.at.top address) n ≡ address ∷ in_use here.words here.at.top) (sym top_is)
      (in_use_pushed here.words here.at.top address room) in
      let lower = frame_grown addresses (address ∷ []) c.frame.locals c.frame.stack (in_use here.words here.at.top) below h.executes.frame in
      goes_in (object_of l) texts next here c addresses done below h.executes at (set here.words here.at.top address) (record here.held { cells = cells }) after
      (address ∷ []) _ (Reference (next_object c.memory) ∷ c.frame.stack) (goes enough) pc_is
      (frame_pushed (addresses ++ address ∷ []) c.frame.locals (Reference (next_object c.memory)) c.frame.stack (in_use (set here.words here.at.top address) at.top)
      (in_use here.words here.at.top) below lower (address, used, last_place addresses address (next_object c.memory) h.executes.memory.objects.count))
      (memory_grown c.program.world texts c.memory addresses (address ∷ []) here.held here.blocks after (new_object c.program.world l ∷ []) h.executes.memory stand cost cells left)
      (joined_grows addresses (class ∷ replicate size 0) here.blocks after address new.joins)
