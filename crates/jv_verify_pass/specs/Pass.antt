-- A method whose code is checked, with numbers for names (JVMS 4.10.1.6).
use Rattle.std.specs.Prelude.{◌≡◌, ℕ, ◌≤◌, List, Bool, Option}
use Rattle.jv_format.specs.declared.handlers.Handler.{Handler}
use Rattle.jv_stackmap.specs.Entries.{ReadFrame, frames_placed}
use Rattle.jv_stackmap.specs.Frames.{PlacedFrame, Frame}
use Rattle.jv_meaning_typing.specs.Environment.{Environment, IsEnvironment}
use Rattle.jv_meaning_typing.specs.Typing.{AreFrames, entries_before, frame_at}
use Rattle.jv_verify_rules.specs.Method.{MethodContext, IsOfMethod}
use Rattle.jv_verify_types.specs.Mapped.{EntryTypes, initial_types, names_of_types, local_entry_words, frame_by_types}
use Rattle.std.specs.Option.{option_map}
use Rattle.jv_verify_types.specs.Numbered.{NumberFrame, frame_of}

-- what the rules ask of it, the types of the initial local entries among what the map's entries stand for, how many local
-- variables it has, its handlers, and the frames of its stack map
pub record Pass : Type 0 where
  pub context : MethodContext
  pub types : EntryTypes
  pub max_locals : ℕ
  pub handlers : List Handler
  pub frames : List ReadFrame

abbrev pub names_in : Pass → List (List ℕ)
names_in pass = names_of_types pass.types

-- the frames by words that those of the stack map stand for
abbrev pub maps_of : Pass → List PlacedFrame
maps_of pass = frames_placed pass.types.constants.pool (initial_types pass.types) pass.max_locals pass.frames

-- the environment of the method, in which these are the frames of the stack map
pub record IsOfPass (pass : Pass) (env : Environment) : Type 0 where
  pub is : IsEnvironment env
  pub context : IsOfMethod pass.context env
  pub initial : entries_before env ≡ initial_types pass.types
  pub max_locals : env.code.max_locals ≡ pass.max_locals
  pub handlers : env.code.exception_table ≡ pass.handlers
  pub maps : AreFrames env (maps_of pass)

-- a frame of the map has the words of its local entries, for which there is room
pub record HasRoom (types : EntryTypes) (max_locals : ℕ) (f : ReadFrame) : Type 0 where
  pub words : f.local_words ≡ local_entry_words types f
  pub room : f.local_words ≤ max_locals

-- ---- in every environment

-- it holds in every environment of the method
abbrev pub InPass : Pass → (Environment → Type 0) → Type 0
InPass pass P = (env : Environment) → IsOfPass pass env → P env

-- a test of the rules on the frames of the stack map and the frame before an instruction
abbrev pub Tests : Pass → (Environment → List PlacedFrame → Frame → Bool) → NumberFrame → Bool → Type 0
Tests pass test frame answer =
    (env : Environment) → IsOfPass pass env → answer ≡ test env (maps_of pass) (frame_of (names_in pass) frame)

-- the frame of the stack map at an offset
abbrev pub IsFrameAt : Pass → ℕ → Option ReadFrame → Type 0
IsFrameAt pass offset found =
    (env : Environment) → IsOfPass pass env → option_map (frame_by_types pass.types pass.max_locals) found ≡ frame_at (maps_of pass) offset
