-- The frames that are shown where a method breaks a rule (JVMS 4.10.1.6).
use Rattle.std.specs.Prelude.{◌≡◌, ℕ, false, List, [], ◌∷◌, ◌++◌, codes, Option, Some, None, slice_get}
use Rattle.std.specs.Fmt.{decimal}
use Rattle.jv_format.specs.Format.{◌>>=◌}
use Rattle.jv_class.specs.Class.{Method}
use Rattle.jv_stackmap.specs.Frames.{Frame}
use Rattle.jv_stackmap.specs.Types.{FrameType}
use Rattle.jv_meaning_world.specs.FileContent.{FileContent}
use Rattle.jv_meaning_world.specs.declared.content.Content.TheVariants.{Holds}
use Rattle.jv_meaning_world.specs.World.{Loaded, World, loaded}
use Rattle.jv_meaning_world.specs.Verdicts.{declared_by}
use Rattle.jv_meaning_typing.specs.declared.verdict.VerifyRule.{VerifyRule}
use Rattle.jv_meaning_typing.specs.declared.verdict.VerifyRule.TheVariants as rules
use Rattle.jv_meaning_typing.specs.declared.verdict.VerifyFault.{VerifyFault}
use Rattle.jv_meaning_typing.specs.declared.verdict.Verdict.{Verdict}
use Rattle.jv_meaning_typing.specs.declared.verdict.Verdict.TheVariants.{Verify}
use Rattle.jv_meaning_typing.specs.Environment.{Environment, instruction_at}
use Rattle.jv_meaning_typing.specs.Judgement.{WithFrames}
use Rattle.jv_operands.specs.Text.{unmet_line}
use Rattle.jv_operands.specs.Unmet.{Unmet as UnmetWant, first_unmet}
use Rattle.jv_shown.specs.Frames.{frame_text, type_text}
use Rattle.jv_shown.specs.Instructions.{first_of}
use Rattle.jv_verify.specs.Before.{StandBefore}
use Rattle.jv_verify.specs.Onward.{Unmet}
use Rattle.jv_verify.specs.difference.Difference.{Difference}
use Rattle.jv_verify.specs.difference.Difference.TheVariants.{Local, Item, Flag}

-- a frame, where there is one
abbrev pub some_text : (whose : List ℕ) → Option Frame → List ℕ
some_text whose None = []
some_text whose (Some frame) = frame_text whose frame

-- a frame, and one of the stack map
abbrev pub both_text : (falling map : Option Frame) → List ℕ
both_text falling map = some_text [] falling ++ some_text (codes "map ") map

-- ---- what goes on to a frame of the stack map into which it doesn't flow

-- where it goes; a jump may go to no offset
abbrev pub goes_on_text : Option ℕ → List ℕ
goes_on_text None = codes "  goes on outside" ++ 10 ∷ []
goes_on_text (Some to) = codes "  goes on at offset " ++ decimal to ++ 10 ∷ []

abbrev pub some_type : Option FrameType → List ℕ
some_type None = codes "none"
some_type (Some type) = type_text type

-- the type that is there, and the one of the stack map
abbrev pub wanted_text : (from to : Option FrameType) → List ℕ
wanted_text from to = codes ": " ++ some_type from ++ codes "; wanted " ++ some_type to ++ 10 ∷ []

-- the first place at which the two frames differ
abbrev pub difference_text : (frame map : Frame) → Difference → List ℕ
difference_text frame map (Local k) =
    codes "  local variable " ++ decimal k ++ wanted_text (slice_get frame.locals k) (slice_get map.locals k)
difference_text frame map (Item k) =
    codes "  stack item " ++ decimal k ++ codes " from the top" ++ wanted_text (slice_get frame.stack k) (slice_get map.stack k)
difference_text frame map Flag = codes "  flag uninitializedThis; wanted none" ++ 10 ∷ []

abbrev pub differ_text : (frame map : Frame) → Option Difference → List ℕ
differ_text frame map None = []
differ_text frame map (Some difference) = difference_text frame map difference

abbrev pub there_text : (frame : Frame) → (map : Option Frame) → Option Difference → List ℕ
there_text frame None differ = codes "  map has no frame there" ++ 10 ∷ []
there_text frame (Some map) differ = frame_text (codes "map ") map ++ differ_text frame map differ

abbrev pub unmet_text : (whose : List ℕ) → Option Unmet → List ℕ
unmet_text whose None = []
unmet_text whose (Some u) = frame_text whose u.frame ++ goes_on_text u.to ++ there_text u.frame u.map u.differ

-- ---- what an instruction wants of the frame before it

-- the first want of the instruction at an offset that the frame doesn't meet
abbrev pub unmet_want_at : Environment → ℕ → Option Frame → Option UnmetWant
unmet_want_at env pc before = before >>= λ frame. instruction_at env pc >>= λ insn. first_unmet env insn frame

abbrev pub want_text : Option UnmetWant → List ℕ
want_text None = []
want_text (Some u) = unmet_line u

-- ---- by the rule that is broken

-- where what falls there is not merged into the stack map's frame both; else the frame before the instruction: that of the stack map,
-- where it has one there, and what falls there, where it has none; and of handlers and of targets what goes on from the instruction, of
-- an instruction that is not type safe what it wants first of that frame that isn't there
abbrev pub frames_text : VerifyRule → (falling map : Option Frame) → Option Unmet → Option UnmetWant → List ℕ
frames_text rules.Merge falling map unmet want = both_text falling map
frames_text rules.CoveredHandler falling map unmet want = some_text [] (first_of map falling) ++ unmet_text (codes "thrown ") unmet
frames_text rules.Instruction falling map unmet want = some_text [] (first_of map falling) ++ want_text want
frames_text rules.BranchTarget falling map unmet want = some_text [] (first_of map falling) ++ unmet_text (codes "left ") unmet
frames_text rule falling map unmet want = both_text (first_of map falling) None

-- the frames before the instruction
pub record ShowsFrames (world : World) (l : Loaded) (fault : VerifyFault) (text : List ℕ) : Type 0 where
  pub method : Method
  pub at : slice_get l.class.methods fault.method ≡ Some method
  pub falling : Option Frame
  pub map : Option Frame
  pub unmet : Option Unmet
  pub want : Option UnmetWant
  pub before : WithFrames world (declared_by l method) (λ env maps. StandBefore env maps fault.offset falling map unmet
      × (unmet_want_at env fault.offset (first_of map falling) ≡ want))
  pub told : text ≡ frames_text fault.rule falling map unmet want

-- rules on the whole code are broken at no instruction
abbrev pub ShowsFramesOf : World → Loaded → VerifyFault → VerifyRule → List ℕ → Type 0
ShowsFramesOf world l fault rules.Code text = text ≡ []
ShowsFramesOf world l fault rules.HandlerTable text = text ≡ []
ShowsFramesOf world l fault rules.MapFrames text = text ≡ []
ShowsFramesOf world l fault rule text = ShowsFrames world l fault text

-- of a class whose method breaks a rule, and of nothing else
abbrev pub AreFramesShown : World → FileContent → Verdict → List ℕ → Type 0
AreFramesShown world (Holds class) (Verify fault) text = ShowsFramesOf world (loaded false class) fault fault.rule text
AreFramesShown world content verdict text = text ≡ []
