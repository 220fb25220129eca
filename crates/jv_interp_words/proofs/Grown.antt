-- What stands under the addresses of objects stands under them and more as well.
use Rattle.std.proofs.Common.{◌≡◌, ℕ, zero, suc, List, [], ◌∷◌, ◌++◌, Some, reverse, slice_get}
use Rattle.jv_meaning_machine.specs.Values.{Value}
use Rattle.jv_meaning_machine.specs.Values.Value.{Int, Long, Null, Reference, Half, Unset}
use Rattle.jv_meaning_machine.specs.Frames.{MethodFrame, Frame}
use Rattle.jv_meaning_machine.specs.Frames.Frame.{Runs, Initializes}
use Rattle.jv_meaning_machine.specs.State.{Program}
use Rattle.jv_interp_words.specs.declared.records.MethodRecord.{MethodRecord}
use Rattle.jv_interp_words.specs.declared.records.FrameRecord.{FrameRecord}
use Rattle.jv_interp_words.specs.declared.records.FrameRecord.TheVariants as records
use Rattle.jv_interp_words.specs.declared.registers.Registers.{Registers}
use Rattle.jv_interp_words.specs.ValuesInWords.{IsOnTop, AreOnTop, IsLocal, AreLocals}
use Rattle.jv_interp_words.specs.FramesInWords.{in_use, FrameStands, MethodStands, AreFrames}
use Rattle.jv_interp_words.specs.StatesInWords.{record_of, RunningStands}

pub get_more : {A : Type 0} (xs more : List A) (k : ℕ) (x : A) → slice_get xs k ≡ Some x → slice_get (xs ++ more) k ≡ Some x
get_more [] more k x e = absurd cc
get_more (y ∷ ys) more zero x e = e
get_more (y ∷ ys) more (suc k) x e = get_more ys more k x e

module _ (addresses more : List ℕ) where
  top_grown : (value : Value) (words below : List ℕ) → IsOnTop addresses value words below → IsOnTop (addresses ++ more) value words below
  top_grown (Int value) words below h = h
  top_grown (Long value) words below h = h
  top_grown Null words below h = h
  top_grown (Reference id) words below h = (h.0, h.1, get_more addresses more id h.0 h.2)
  top_grown Half words below h = h
  top_grown Unset words below h = h

  pub stack_grown : (stack : List Value) (words below : List ℕ) → AreOnTop addresses stack words below → AreOnTop (addresses ++ more) stack words below
  stack_grown [] words below h = h
  stack_grown (value ∷ stack) words below h = (h.0, top_grown value words h.0 h.1, stack_grown stack h.0 below h.2)

  local_grown : (local : Value) (word : ℕ) (behind : List ℕ) → IsLocal addresses local word behind → IsLocal (addresses ++ more) local word behind
  local_grown (Int value) word behind h = h
  local_grown (Long value) word behind h = h
  local_grown Null word behind h = h
  local_grown (Reference id) word behind h = get_more addresses more id word h
  local_grown Half word behind h = h
  local_grown Unset word behind h = h

  pub locals_grown : (locals : List Value) (words : List ℕ) → AreLocals addresses locals words → AreLocals (addresses ++ more) locals words
  locals_grown [] [] h = h
  locals_grown [] (word ∷ behind) h = h
  locals_grown (local ∷ locals) [] h = h
  locals_grown (local ∷ locals) (word ∷ behind) h = (local_grown local word behind h.0, locals_grown locals behind h.1)

  pub frame_grown :
      (locals stack : List Value) (used below : List ℕ) → FrameStands addresses locals stack used below
      → FrameStands (addresses ++ more) locals stack used below
  frame_grown locals stack used below h = record {
    words = h.words;
    stack_stands = stack_grown stack used _ h.stack_stands;
    locals_stand = locals_grown locals h.words h.locals_stand;
  }

  pub method_grown :
      (program : Program) (frame : MethodFrame) (kept : MethodRecord) (used below : List ℕ) → MethodStands program addresses frame kept used below
      → MethodStands program (addresses ++ more) frame kept used below
  method_grown program frame kept used below h = record {
    declared = h.declared;
    has_number = h.has_number;
    entered = h.entered;
    words = frame_grown frame.locals frame.stack used below h.words;
    base_is = h.base_is;
    pc_is = h.pc_is;
    locals_count = h.locals_count;
    stack_fits = h.stack_fits;
  }

  pub frames_grown :
      (program : Program) (frames : List Frame) (kept : List FrameRecord) (used : List ℕ) → AreFrames program addresses frames kept used
      → AreFrames program (addresses ++ more) frames kept used
  frames_grown program [] [] used h = h
  frames_grown program [] (k ∷ others) used h = absurd h
  frames_grown program (Runs frame ∷ frames) [] used h = absurd h
  frames_grown program (Runs frame ∷ frames) (records.Runs k ∷ others) used h =
      (h.0, method_grown program frame k used h.0 h.1, frames_grown program frames others h.0 h.2)
  frames_grown program (Runs frame ∷ frames) (records.Initializes k ∷ others) used h = absurd h
  frames_grown program (Initializes frame ∷ frames) [] used h = absurd h
  frames_grown program (Initializes frame ∷ frames) (records.Runs k ∷ others) used h = absurd h
  frames_grown program (Initializes frame ∷ frames) (records.Initializes k ∷ others) used h =
      (h.0, frames_grown program frames others used h.1)

  pub running_grown :
      (program : Program) (frames : List Frame) (at : Registers) (waiting : List FrameRecord) (words : List ℕ) (left : ℕ)
      → RunningStands program addresses frames at waiting words left → RunningStands program (addresses ++ more) frames at waiting words left
  running_grown program frames at waiting words left h = record {
    frame = h.frame;
    others = h.others;
    frames_are = h.frames_are;
    below = h.below;
    current = method_grown program h.frame (record_of at) (in_use words at.top) h.below h.current;
    others_stand = frames_grown program h.others (reverse waiting) h.below h.others_stand;
    code_is = h.code_is;
    top_within = h.top_within;
    room = h.room;
  }
