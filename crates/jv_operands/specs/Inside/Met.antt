-- Whether what is there meets a want.
use Rattle.std.specs.Prelude.{Bool, is_some, false, Option, Some, None}
use Rattle.jv_stackmap.specs.Types.{FrameType}
use Rattle.jv_meaning_world.specs.World.{World}
use Rattle.jv_meaning_typing.specs.FrameChanges.{item_width}
use Rattle.jv_meaning_typing.specs.ValueRules.{reference_component}
use Rattle.jv_operands.specs.Unmet.{is_met, is_one}
use Rattle.jv_operands.specs.Wants.{FrameWant}

abbrev pub holds_references : FrameType → Bool
holds_references type = is_some (reference_component type)

abbrev pub is_word : FrameType → Bool
is_word type = is_one (item_width type)

-- of what is there, if anything is
abbrev pub is_met_by : World → FrameWant → Option FrameType → Bool
is_met_by world want None = false
is_met_by world want (Some found) = is_met world want found
