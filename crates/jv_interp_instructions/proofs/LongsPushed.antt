-- Longs of a class's pool that are pushed.
use Rattle.std.proofs.Common.{◌≡◌, ℕ, List, ◌∷◌, Option, Some, None, Ok, refl, sym, ap, subst, ◌∙◌, slice_get}
use Rattle.std.specs.Int.{w64, cast_signed}
use Rattle.std.specs.Option.{option_map}
use Rattle.jv_pool.specs.Constants.{long_at}
use Rattle.jv_code.specs.declared.insn.Insn.TheVariants as insns
use Rattle.jv_meaning_world.specs.World.{World}
use Rattle.jv_meaning_machine.specs.Faults.{found, ◌>>=◌}
use Rattle.jv_meaning_machine.specs.Faults.Fault.{OffsetFault}
use Rattle.jv_meaning_machine.specs.Values.Value.{Long}
use Rattle.jv_meaning_machine.specs.State.{Memory}
use Rattle.jv_meaning_machine.specs.Effects.{Effect as EffectOfNames, Context, goes_on}
use Rattle.jv_meaning_machine.specs.Literals.{pool_at}
use Rattle.jv_meaning_machine.specs.Laws.Steps.{ExecutionKeeps}
use Rattle.jv_link.specs.declared.site.Site.{Site}
use Rattle.jv_link.specs.Seen.{place_of}
use Rattle.jv_interp_words.specs.declared.registers.Registers.{Registers}
use Rattle.jv_interp_words.specs.ValuesInWords.{long_of}
use Rattle.jv_interp_heap.specs.ObjectsInBlocks.{Blocks}
use Rattle.jv_interp_held.specs.declared.held.Held.{Held}
use Rattle.jv_interp_held.specs.declared.effect.Effect.{Effect}
use Rattle.jv_interp_objects.specs.Constants.{PushingLong, CanPushLong, PushesLong}
use Rattle.jv_interp_members.specs.Known.{Known}
use Rattle.jv_interp_members.proofs.Sites.{AtPlace, at_place}
use Rattle.jv_interp_held.specs.Executing.{place}
use Rattle.jv_interp_instructions.specs.InGuest.{ExecutesIn, CanExecute, Executed}
use Rattle.jv_interp_instructions.specs.PoolConstants.{IsLongOf, IsOfSite}
use Rattle.jv_interp_instructions.proofs.Grown.{did_same}

module _ (kept : ExecutionKeeps) (index next : ℕ) (k : Known) (texts : List (List ℕ)) (world : World) (site : Site) (of_site : IsOfSite world site k)
    (at : Registers) (words : List ℕ) (held : Held) (blocks : Blocks) where
  module _ (c : Context) (addresses : List ℕ) (done : Memory × EffectOfNames) (below : List ℕ)
      (h : ExecutesIn (insns.PoolLongConstant index) next k texts (place at words held blocks) c addresses done below) where
    at_site : AtPlace k.world (place_of k.site) c.frame.method.site
    at_site = at_place k.world (place_of k.site) c.frame.method.site h.known.site

    class_is : slice_get world site.class ≡ Some c.frame.method.site.by
    class_is =
        subst (λ (w : World). slice_get w site.class ≡ Some c.frame.method.site.by) of_site.world_is
        (ap (λ (s : Site). slice_get k.world s.class) (sym of_site.site_is) ∙ at_site.class)

    long_is : (answer : Option (ℕ × ℕ)) → IsLongOf world site.class index answer
        → option_map (cast_signed w64) (long_at (pool_at c) index) ≡ option_map (λ halves. long_of halves.0 halves.1) answer
    long_is answer clause = clause c.frame.method.site.by class_is

    pub some_long : IsLongOf world site.class index None → ⊥
    some_long clause = by_found (long_at (pool_at c) index) (long_is None clause) h.executes.does
      where
        by_found :
            (o : Option ℕ) → option_map (cast_signed w64) o ≡ None
            → (found OffsetFault o >>= λ bits. goes_on c (Long (cast_signed w64 bits) ∷ c.frame.stack)) ≡ Ok done → ⊥
        by_found None e f = absurd cc
        by_found (Some bits) e f = absurd cc

    pushes_here : (low high : ℕ) → IsLongOf world site.class index (Some (low, high)) → PushingLong low high next (place at words held blocks) texts c index addresses done below
    pushes_here low high clause = record { executes = h.executes; constant_is = long_is (Some (low, high)) clause }

  pub can_push_long :
      (low high : ℕ) → IsLongOf world site.class index (Some (low, high)) → CanExecute (insns.PoolLongConstant index) next k texts at words held blocks
      → CanPushLong low high next at words
  can_push_long low high clause h = record {
    held = held;
    blocks = blocks;
    texts = texts;
    c = h.c;
    index = index;
    addresses = h.addresses;
    done = h.done;
    below = h.below;
    pushes = pushes_here h.c h.addresses h.done h.below h.executes low high clause;
    room = h.room;
  }

  pub long_done :
      (low high : ℕ) → IsLongOf world site.class index (Some (low, high)) → (after : Registers) (words_after : List ℕ) (effect : Effect)
      → PushesLong low high next at words after words_after effect
      → Executed (insns.PoolLongConstant index) next k texts (place at words held blocks) (place after words_after held blocks) effect
  long_done low high clause after words_after effect m c addresses done below h =
      did_same kept (insns.PoolLongConstant index) next k texts (place at words held blocks) c addresses done below h after words_after held effect refl
      (m held blocks texts c index addresses done below (pushes_here c addresses done below h low high clause))
