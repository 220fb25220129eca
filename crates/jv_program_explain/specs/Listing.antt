-- The code of a class's methods as it is listed, with the frame before each instruction (JVMS 4.10.1.6), as text (own).
use Rattle.std.specs.Prelude.{◌≡◌, ◌⊎◌, ℕ, ◌<◌, ◌≤◌, List, [], ◌∷◌, ◌++◌, length, codes, Option, Some, None, slice_get}
use Rattle.std.specs.Fmt.{decimal}
use Rattle.std.specs.List.{flat_map}
use Rattle.jv_class_structure.specs.Parts.{CodeSeen}
use Rattle.jv_class.specs.Class.{Method}
use Rattle.jv_code.specs.Insns.{Instruction, insn_bytes}
use Rattle.jv_code.specs.Places.{IsCode}
use Rattle.jv_stackmap.specs.Frames.{Frame}
use Rattle.jv_meaning_world.specs.World.{Loaded, World}
use Rattle.jv_meaning_world.specs.Verdicts.{declared_by}
use Rattle.jv_meaning_typing.specs.Uses.{Site}
use Rattle.jv_meaning_typing.specs.Environment.{offset_behind}
use Rattle.jv_meaning_typing.specs.declared.verdict.VerifyFault.{VerifyFault}
use Rattle.jv_meaning_typing.specs.declared.verdict.VerifyRule.{VerifyRule}
use Rattle.jv_meaning_typing.specs.declared.verdict.VerifyRule.TheVariants as rules
use Rattle.jv_meaning_typing.specs.Judgement.{WithFrames}
use Rattle.jv_shown.specs.Frames.{frame_text}
use Rattle.jv_explain.specs.Text.{method_text, place_text}
use Rattle.jv_verify.specs.Before.{FramesStand}

-- ---- an instruction

-- the frame before it: that of the stack map, in lines that begin with `map`, where it has one there, else what falls there
abbrev pub before_text : (falling map : Option Frame) → List ℕ
before_text falling (Some map) = frame_text (codes "map ") map
before_text (Some frame) None = frame_text [] frame
before_text None None = []

-- the one at an offset of a method, with a line of source, and the frame before it
pub record IsListed (world : World) (site : Site) (line : ℕ → Option ℕ) (pc : ℕ) (insn : Instruction) (text : List ℕ) : Type 0 where
  pub falling : Option Frame
  pub map : Option Frame
  pub before : WithFrames world site (λ env maps. FramesStand env maps pc falling map)
  pub told : text ≡ place_text site.by.class.constant_pool pc (line pc) insn ++ before_text falling map

-- ---- a method

-- those of a list, the first of which stands at an offset, one behind the other
abbrev pub AreListed : World → Site → (line : ℕ → Option ℕ) → ℕ → List Instruction → List ℕ → Type 0
AreListed world site line pc [] text = text ≡ []
AreListed world site line pc (insn ∷ more) text =
    (one : List ℕ) × (rest : List ℕ) × IsListed world site line pc insn one
    × AreListed world site line (offset_behind pc insn) more rest × (text ≡ one ++ rest)

abbrev pub more_text : ℕ → List ℕ
more_text pc = codes "  from offset " ++ decimal pc ++ codes " on nothing is listed" ++ 10 ∷ []

-- where a list stops that is to go up to an offset: there, or earlier, where it has 1,048,576 bytes at least, which a line says
abbrev pub Stops : (listing : List ℕ) → (stop end : ℕ) → List ℕ → Type 0
Stops listing stop end text =
    ((stop ≡ end) × (text ≡ [])) ⊎ ((1048576 ≤ length listing) × (stop < end) × (text ≡ more_text stop))

-- the instructions of code from the first on, up to an offset
pub record IsListedTo (world : World) (site : Site) (line : ℕ → Option ℕ) (code : List ℕ) (end : ℕ) (text : List ℕ) : Type 0 where
  pub before : List Instruction
  pub after : List Instruction
  pub is : IsCode code (before ++ after)
  pub listing : List ℕ
  pub listed : AreListed world site line 0 before listing
  pub behind : List ℕ
  pub stops : Stops listing (length (flat_map insn_bytes before)) end behind
  pub told : text ≡ listing ++ behind

-- all of a method, by its number, behind its line, where it has code
abbrev pub IsCodeListed : World → Site → (line : ℕ → Option ℕ) → ℕ → Option CodeSeen → List ℕ → Type 0
IsCodeListed world site line number None text = text ≡ []
IsCodeListed world site line number (Some body) text =
    (listing : List ℕ) × IsListedTo world site line body.code (length body.code) listing
    × (text ≡ method_text number site.method ++ listing)

-- the instructions below the one at which a method breaks a rule, with lines of source, as the file may say them
pub record IsFaultListed (world : World) (l : Loaded) (fault : VerifyFault) (text : List ℕ) : Type 0 where
  pub method : Method
  pub at : slice_get l.class.methods fault.method ≡ Some method
  pub body : CodeSeen
  pub has_code : method.code ≡ Some body
  pub line : ℕ → Option ℕ
  pub listed : IsListedTo world (declared_by l method) line body.code fault.offset text

-- rules on the whole code are broken at no instruction
abbrev pub IsFaultListedOf : World → Loaded → VerifyFault → VerifyRule → List ℕ → Type 0
IsFaultListedOf world l fault rules.Code text = text ≡ []
IsFaultListedOf world l fault rules.HandlerTable text = text ≡ []
IsFaultListedOf world l fault rules.MapFrames text = text ≡ []
IsFaultListedOf world l fault rule text = IsFaultListed world l fault text

-- ---- a class

-- each method of a class, in the class's order; and of each by its number, at each offset, the line of source, as the file may say it
-- (4.7.12), which no definition here speaks of
pub record AreMethodsListed (world : World) (l : Loaded) (text : List ℕ) : Type 0 where
  pub lines : ℕ → ℕ → Option ℕ
  pub listed : List (List ℕ)
  pub count : length listed ≡ length l.class.methods
  pub each : (number : ℕ) (m : Method) (one : List ℕ) → slice_get l.class.methods number ≡ Some m → slice_get listed number ≡ Some one
      → IsCodeListed world (declared_by l m) (lines number) number m.code one
  pub told : text ≡ flat_map (λ one. one) listed
