-- Local variables against the words of a frame of the stack map, some of which are compared (JVMS 4.10.1.4).
use Rattle.std.specs.Prelude.{◌≡◌, ℕ, ◌-◌, ◌<◌, ◌≤◌, true, false, List, get_or}
use Rattle.jv_stackmap.specs.declared.entry.FrameEntry.{FrameEntry}
use Rattle.jv_stackmap.specs.declared.entry.FrameEntry.TheVariants as entries
use Rattle.jv_meaning_world.specs.Flow.{flows}
use Rattle.jv_verify_types.specs.Numbered.{Item}
use Rattle.jv_verify_types.specs.Mapped.{EntryTypes, type_of_entry, world_of_types}
use Rattle.jv_verify_maps.specs.Words.{MapWords}
use Rattle.jv_verify_known.specs.Known.{Writes, number_at, local_at, word_at, FlowsAt}

-- a local variable from one on, before another, flows to an entry of a stretch of words, which has the last first
abbrev pub FlowToStretch : EntryTypes → List Item → List FrameEntry → ℕ → ℕ → Type 0
FlowToStretch types locals stretch from to =
    (k : ℕ) → from ≤ k → k < to
    → flows (world_of_types types) (local_at types locals k) (type_of_entry types (get_or stretch (to - 1 - k) entries.Top)) ≡ true

-- one of them does not
abbrev pub OneFlowsNotToStretch : EntryTypes → List Item → List FrameEntry → ℕ → ℕ → Type 0
OneFlowsNotToStretch types locals stretch from to =
    (k : ℕ) × (from ≤ k) × (k < to)
    × (flows (world_of_types types) (local_at types locals k) (type_of_entry types (get_or stretch (to - 1 - k) entries.Top)) ≡ false)

-- local variables from one on, before another, flow to their words of the frame at a place
abbrev pub FlowBetween : EntryTypes → MapWords → List Item → ℕ → ℕ → ℕ → Type 0
FlowBetween types words locals place from to = (k : ℕ) → from ≤ k → k < to → FlowsAt types words locals place k

-- so do those that were written since a number
abbrev pub FlowWhereWritten : EntryTypes → MapWords → Writes → List Item → (place since from to : ℕ) → Type 0
FlowWhereWritten types words writes locals place since from to =
    (k : ℕ) → from ≤ k → k < to → since < number_at writes k → FlowsAt types words locals place k

-- a local variable does not flow to its word
abbrev pub OneFlowsNot : EntryTypes → MapWords → List Item → ℕ → Type 0
OneFlowsNot types words locals place =
    (k : ℕ) × (flows (world_of_types types) (local_at types locals k) (word_at types words place k) ≡ false)
