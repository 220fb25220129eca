-- An object is thrown, and an exception that the machine makes (JVMS 2.10).
use Rattle.std.proofs.Common.{◌≡◌, ℕ, ◌+◌, ◌-◌, ◌^◌, ◌<◌, min, List, ◌++◌, Option, Some, Ok, drop, length, get_or, reverse, sym, ap, subst, ◌∙◌, arith, append_assoc}
use Rattle.std.specs.Prelude.{unwrap_or}
use Rattle.std.proofs.lemmas.List.{length-reverse}
use Rattle.jv_store.specs.Content.{words_at}
use Rattle.jv_meaning_world.specs.World.{World}
use Rattle.jv_meaning_world.specs.Numbers.{HoldsAtNumber}
use Rattle.jv_meaning_typing.specs.Layout.{object_words, object_cells}
use Rattle.jv_meaning_machine.specs.Faults.{OrFault, ◌>>=◌}
use Rattle.jv_meaning_machine.specs.State.{Program, Memory, State, state_of}
use Rattle.jv_meaning_machine.specs.Costs.{paid}
use Rattle.jv_meaning_machine.specs.Throws.{Thrown as ThrownOfNames, place_in, thrown, exception, exception_made, unwound}
use Rattle.jv_interp_words.specs.FramesInWords.{in_use}
use Rattle.jv_interp_words.proofs.Gave.{bound_gave}
use Rattle.jv_interp_heap.specs.ObjectsInBlocks.{Blocks}
use Rattle.jv_interp_held.specs.declared.held.Held.{Held}
use Rattle.jv_interp_held.proofs.Growths.{then_grows}
use Rattle.jv_interp_control.specs.declared.frames.Frames.{Frames}
use Rattle.jv_interp_control.specs.declared.control.Control.{Control}
use Rattle.jv_interp_control.specs.declared.control.PlaceRecord.{PlaceRecord}
use Rattle.jv_interp_control.specs.declared.throwing.Thrown.{Thrown}
use Rattle.jv_interp_control.specs.ControlStands.{PlaceStands}
use Rattle.jv_interp_control.specs.Inside.Places.{record_place}
use Rattle.jv_interp_control.specs.Exceptions.{IsMade}
use Rattle.jv_interp_control.specs.Standing.{kept, StateStands, Moves, Reaches}
use Rattle.jv_interp_control.specs.Moves.{Throwing, Raising}
use Rattle.jv_interp_control.specs.Inside.Unwinding.{Unwinding}
use Rattle.jv_interp_control.proofs.Counted.{frames_count}
use Rattle.jv_interp_control.proofs.MemoryJoined.{ExceptionStands}
use Rattle.jv_interp_control.proofs.PlacesStand.{places_stand}
use Rattle.jv_interp_control.proofs.Replacements.{NewThrown, new_thrown, exception_stands}
use Rattle.jv_interp_control.proofs.ThrownAgain.{IsThrown, is_thrown, has_word, thrown_stands, thrown_control}
use Rattle.jv_interp_control.proofs.Unwound.{stand_grown}

-- ---- an object

module _ (world : World) (address : ℕ) (program : Program) (texts : List (List ℕ)) (s t : State) (addresses : List ℕ) (frames : Frames) (control : Control) (held : Held) (blocks : Blocks)
    (h : Moves world (Throwing address) program texts s t addresses (kept frames control held blocks)) where
  pub record IsGoing : Type 0 where
    pub th : ThrownOfNames
    pub is : IsThrown (place_in s.frames) s.control (s.memory, h.does.object) th
    pub goes : unwound program.world th s.frames ≡ Ok t

  pub is_going : IsGoing
  is_going =
      let parts = bound_gave (thrown (place_in s.frames) s.control (s.memory, h.does.object)) (λ (th : ThrownOfNames). unwound program.world th s.frames) t h.does.does in
      record { th = parts.0; is = is_thrown (place_in s.frames) s.control (s.memory, h.does.object) parts.0 parts.1; goes = parts.2 }

  pub few_records : length frames.records.items < 4294967296
  few_records =
      let f = h.stands.frames in
      let room = f.room in
      let few = f.few in
      let count = frames_count program addresses s.frames (reverse frames.records.items) (in_use frames.words.items frames.top) f.stand in
      omega (arith, room, few, count, length-reverse frames.records.items)

  pub word_there : 0 < length (words_at blocks address)
  word_there = has_word program.world texts s.memory addresses held blocks h.does.object address is_going.is.instance h.stands.memory h.does.at is_going.is.there

  pub unwinding :
      (now : Thrown) → now.address ≡ address → get_or (words_at blocks address) 0 0 ≡ now.class → now.throws ≡ min (control.throws + 1) (2 ^ 64 - 1)
      → now.place ≡ record_place (drop 0 (reverse frames.records.items))
      → Unwinding world now program texts s.frames s.control is_going.th t addresses (kept frames control held blocks)
  unwinding now at word more place =
      record {
        world_is = h.world_is;
        guests = h.guests;
        frames_stand = h.stands.frames;
        control_stands = h.stands.control;
        control_is = thrown_control (place_in s.frames) s.control (s.memory, h.does.object) is_going.th is_going.is;
        thrown_stands =
            thrown_stands program texts (place_in s.frames) s.control (s.memory, h.does.object) is_going.th addresses held blocks now control.throws h.stands.memory (h.does.at ∙ ap Some (sym at))
            is_going.is (ap (λ (a : ℕ). get_or (words_at blocks a) 0 0) at ∙ word) h.stands.control.throws more
            (subst (λ (o : Option PlaceRecord). PlaceStands program.world (place_in s.frames) o) (sym place)
            (places_stand program addresses s.frames (reverse frames.records.items) (in_use frames.words.items frames.top) 0 h.stands.frames.stand));
        goes = is_going.goes;
      }

-- ---- an exception

module _ (world : World) (class : ℕ) (program : Program) (texts : List (List ℕ)) (s t : State) (addresses : List ℕ) (frames : Frames) (control : Control) (held : Held) (blocks : Blocks)
    (h : Moves world (Raising class) program texts s t addresses (kept frames control held blocks)) (words : ℕ)
    (size : HoldsAtNumber program.world class (λ l. words ≡ object_words program.world l)) (few : class < 2147483648) (after : Held) (blocks_after : Blocks) (made : Option ℕ)
    (same : after ≡ record held { cells = after.cells }) (is_made : IsMade class words held.cells after.cells blocks blocks_after made) where
  pub parts : (th : ThrownOfNames) × ((exception program.world h.does.name s.memory >>= thrown (place_in s.frames) s.control) ≡ Ok th) × (unwound program.world th s.frames ≡ Ok t)
  parts = bound_gave (exception program.world h.does.name s.memory >>= thrown (place_in s.frames) s.control) (λ (th : ThrownOfNames). unwound program.world th s.frames) t h.does.does

  pub new : NewThrown program.world h.does.name (place_in s.frames) s.control s.memory parts.0
  new = new_thrown program.world h.does.name (place_in s.frames) s.control s.memory parts.0 parts.1

  abbrev made_now : Memory × ℕ
  made_now = exception_made program.world new.l s.memory (paid (object_cells program.world new.l) s.memory)

  pub stands : ExceptionStands program.world texts made_now addresses (unwrap_or made held.out_of_memory) blocks after blocks_after
  stands =
      exception_stands program texts h.does.name (place_in s.frames) s.control s.memory parts.0 addresses held after blocks blocks_after class words made new
      h.stands.memory h.does.has_number size few same is_made

  abbrev between : State
  between = state_of made_now.0 s.frames s.control

  pub then_throws :
      (address : ℕ) → address ≡ unwrap_or made held.out_of_memory
      → Moves world (Throwing address) program texts between t (addresses ++ stands.more) (kept frames control after blocks_after)
  then_throws address at = record {
    world_is = h.world_is;
    guests = h.guests;
    stands = record {
      frames = stand_grown program addresses stands.more s.frames frames s.control.words h.stands.frames;
      control = h.stands.control;
      memory = stands.memory;
    };
    does = record {
      object = made_now.1;
      at = stands.object ∙ ap Some (sym at);
      does = ap (λ (o : OrFault ThrownOfNames). o >>= λ (th : ThrownOfNames). unwound program.world th s.frames) new.throws ∙ parts.2;
    };
  }

  pub then_reaches :
      (frames_after : Frames) (control_after : Control) (held_after : Held) (last : Blocks)
      → Reaches program texts t (addresses ++ stands.more) (kept frames control after blocks_after) (kept frames_after control_after held_after last)
      → Reaches program texts t addresses (kept frames control held blocks) (kept frames_after control_after held_after last)
  then_reaches frames_after control_after held_after last r = record {
    more = stands.more ++ r.more;
    stands = subst (λ (l : List ℕ). StateStands program texts t l (kept frames_after control_after held_after last)) (append_assoc addresses stands.more r.more) r.stands;
    grows = then_grows addresses stands.more r.more blocks blocks_after last stands.grows r.grows;
  }
