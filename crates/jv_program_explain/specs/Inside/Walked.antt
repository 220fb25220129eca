-- The code of a method, listed so far.
use Rattle.std.specs.Prelude.{◌≡◌, ℕ, List, ◌++◌, length, Option, Some, IsSome, slice_get, string_bytes}
use Rattle.std.specs.List.{flat_map}
use Rattle.std.specs.Option.{option_map}
use Rattle.jv_pool.specs.Constants.{Entry}
use Rattle.jv_class.specs.Class.{Method}
use Rattle.jv_code.specs.Insns.{instruction_of}
use Rattle.jv_explain.specs.Text.{place_text}
use Rattle.jv_lines.specs.Lines.{line_at}
use Rattle.jv_meaning_world.specs.World.{Loaded, World}
use Rattle.jv_meaning_world.specs.Verdicts.{declared_by}
use Rattle.jv_meaning_typing.specs.Uses.{Site}
use Rattle.jv_meaning_typing.specs.Typing.{HasTyping}
use Rattle.jv_verify.specs.Before.{seen_frame}
use Rattle.jv_verify.specs.sink.FramedInsn.{FramedInsn}
use Rattle.jv_program_explain.specs.Listing.{IsCodeListed, before_text}
use Rattle.jv_program_explain.specs.declared.walk.Listing.{Listing}

-- an instruction with the frames before it, of a class with these constants
abbrev pub framed_text : List Entry → (line : ℕ → Option ℕ) → FramedInsn → List ℕ
framed_text pool line f =
    place_text pool f.offset (line f.offset) (instruction_of f.insn)
    ++ before_text (option_map seen_frame f.falling) (option_map seen_frame f.map)

-- it is what a list has more
abbrev pub TakesFramed : Listing → FramedInsn → Listing → Type 0
TakesFramed old f new =
    (new ≡ record old { text = new.text })
    × (string_bytes new.text ≡ string_bytes old.text ++ framed_text old.pool.now (line_at old.lines.now old.method) f)

-- a method that has code has a typing
abbrev pub IsTypedSite : World → Site → Type 0
IsTypedSite world s = IsSome s.method.code → HasTyping world s

-- the first methods of a class are listed, so many
pub record AreFirstListed (world : World) (l : Loaded) (lines : ℕ → ℕ → Option ℕ) (count : ℕ) (text : List ℕ) : Type 0 where
  pub listed : List (List ℕ)
  pub count_is : length listed ≡ count
  pub each : (number : ℕ) (m : Method) (one : List ℕ) → slice_get l.class.methods number ≡ Some m → slice_get listed number ≡ Some one
      → IsCodeListed world (declared_by l m) (lines number) number m.code one
  pub told : text ≡ flat_map (λ one. one) listed
