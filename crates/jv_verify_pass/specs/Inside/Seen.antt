-- What is known beside the frame before an instruction.
use Rattle.std.specs.Prelude.{◌≡◌, ℕ, ◌<◌, ◌≤◌, ◌/◌, Bool, false, [], length}
use Rattle.jv_stackmap.specs.Frames.{by_words}
use Rattle.jv_verify_types.specs.Numbered.{NumberFrame, frame_of}
use Rattle.jv_verify_types.specs.Mapped.{initial_types}
use Rattle.jv_verify_known.specs.Known.{number_at, IsKnown, KnownLocals, StaysKnown}
use Rattle.jv_verify_pass.specs.declared.seen.Seen.{Seen}
use Rattle.jv_verify_pass.specs.Pass.{Pass, names_in}
use Rattle.jv_verify_pass.specs.Inside.Opening.{AreHandled, IsByWords}
use Rattle.jv_verify_pass.specs.Inside.Stacks.{AreFlowed}

-- into which frames of the map its local variables and its stack flow, and which of its handlers have begun, where an offset has come
pub record IsSeen (pass : Pass) (seen : Seen) (offset : ℕ) (frame : NumberFrame) : Type 0 where
  pub locals : length frame.locals ≡ pass.max_locals
  pub few : length frame.locals ≤ 65535
  pub words : IsByWords pass seen.known.words
  pub known : IsKnown pass.types seen.known frame.locals
  pub handled : AreHandled pass seen.known seen.openings offset frame.locals
  pub stacks : AreFlowed pass seen.stacks.stacks.items frame

-- it stays so at each offset
abbrev pub StaysSeen : Pass → NumberFrame → Seen → Seen → Type 0
StaysSeen pass frame old new = (offset : ℕ) → IsSeen pass old offset frame → IsSeen pass new offset frame

-- the frame with which a method begins
abbrev pub BeginsWith : Pass → NumberFrame → Type 0
BeginsWith pass frame =
    (length frame.locals ≡ pass.max_locals) × (frame_of (names_in pass) frame ≡ by_words pass.max_locals (initial_types pass.types) [])

-- The next write may be to each local variable of which a test says so, and what is known stays known.
pub record NotesWrites (may : ℕ → Bool) (old new : KnownLocals) : Type 0 where
  pub words : new.words ≡ old.words
  pub next : new.writes.next ≡ old.writes.next
  pub many : length new.writes.numbers ≡ length old.writes.numbers
  pub same : (k : ℕ) → number_at new.writes k < old.writes.next → number_at new.writes k ≡ number_at old.writes k
  pub covers : (k : ℕ) → k < 65536 → k / 16 < length old.writes.numbers → number_at new.writes k < old.writes.next → may k ≡ false
  pub known : StaysKnown old new
