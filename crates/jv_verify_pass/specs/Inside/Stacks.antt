-- Frames of a stack map to whose stacks the lowest items of the stack are known to flow.
use Rattle.std.specs.Prelude.{◌≡◌, ◌⊎◌, ℕ, ◌-◌, ◌≤◌, Bool, true, not, List, [], ◌∷◌, ◌++◌, length, map, drop, set, Option, Some, None, IsTrue, slice_get}
use Rattle.std.specs.List.{All, list_any}
use Rattle.jv_stackmap.specs.Entries.{ReadFrame}
use Rattle.jv_stackmap.specs.Types.{FrameType}
use Rattle.jv_meaning_world.specs.FrameFlow.{all_flow, item_flows}
use Rattle.jv_meaning_typing.specs.FrameChanges.{is_same_object}
use Rattle.std.specs.Global.{Vec}
use Rattle.jv_verify_types.specs.Numbered.{Item, NumberFrame}
use Rattle.jv_verify_pass.specs.Inside.Objects.{HoldOnStack, below_places, lower, objects_of}
use Rattle.jv_verify_pass.specs.declared.stacks.FlowedStack.{FlowedStack}
use Rattle.jv_verify_types.specs.Mapped.{EntryTypes, world_of_types, types_of_entries, stack_of}
use Rattle.jv_verify_pass.specs.Pass.{Pass}

-- so many items of a stack, whose top is first, from the lowest on
abbrev pub lowest_of : {X : Type 0} → ℕ → List X → List X
lowest_of count stack = drop (length stack - count) stack

-- as many items of a stack flow to those of a frame of the map as are kept
pub record LowestFlow (types : EntryTypes) (stack : List FrameType) (map : ReadFrame) (s : FlowedStack) : Type 0 where
  pub height : length map.stack ≡ s.height
  pub there : s.lowest ≤ length stack
  pub within : s.lowest ≤ s.height
  pub objects : s.objects.items ≡ objects_of (types_of_entries types map.stack)
  pub flow :
      all_flow (item_flows (world_of_types types)) (lowest_of s.lowest stack) (lowest_of s.lowest (types_of_entries types map.stack)) ≡ true

abbrev pub IsFlowed : Pass → List FrameType → FlowedStack → Type 0
IsFlowed pass stack s = (map : ReadFrame) → slice_get pass.frames s.place ≡ Some map → LowestFlow pass.types stack map s

abbrev pub AreFlowed : Pass → List FlowedStack → NumberFrame → Type 0
AreFlowed pass stacks frame = All (IsFlowed pass (stack_of pass.types frame)) stacks

-- none of these items is an object, if there is one
abbrev pub is_without : Option FrameType → List FrameType → Bool
is_without None items = true
is_without (Some object) items = not (list_any (is_same_object object) items)

-- none of those of the map's items to which items are known to flow is such an object
abbrev pub AreWithout : Pass → Option FrameType → List FlowedStack → Type 0
AreWithout pass object stacks =
    All (λ (s : FlowedStack). (map : ReadFrame) → slice_get pass.frames s.place ≡ Some map
    → IsTrue (is_without object (lowest_of s.lowest (types_of_entries pass.types map.stack)))) stacks

-- where at most so many of the lowest items have stayed
abbrev pub lowered : ℕ → FlowedStack → FlowedStack
lowered stayed s = record s { lowest = lower s.lowest stayed }

-- where only the items have stayed that are below those of these places at which the map's frame has an object
abbrev pub lowered_below : List ℕ → FlowedStack → FlowedStack
lowered_below places s = record s { lowest = below_places s.objects.items places s.lowest }

-- an object gets another type wherever it is on a stack; or nothing is kept
abbrev pub GoesBelow : Item → List Item → List FlowedStack → List FlowedStack → Type 0
GoesBelow object stack old new =
    ((places : List ℕ) × HoldOnStack places object stack × (new ≡ map (lowered_below places) old)) ⊎ (new ≡ [])

-- one that flows whole
abbrev pub raised : FlowedStack → FlowedStack
raised s = record s { lowest = s.height }

-- the one with a number flows whole
abbrev pub IsRaised : List FlowedStack → ℕ → List FlowedStack → Type 0
IsRaised old k new = (s : FlowedStack) → slice_get old k ≡ Some s → new ≡ set old k (raised s)

-- that a stack of so many items flows to that of a frame of the map is kept, or nothing more is
abbrev pub Keeps : EntryTypes → ReadFrame → ℕ → ℕ → List FlowedStack → List FlowedStack → Type 0
Keeps types map place height old new =
    (new ≡ old) ⊎ ((objects : Vec Bool) × (new ≡ old ++ record { place = place; height = height; lowest = height; objects = objects } ∷ [])
    × (objects.items ≡ objects_of (types_of_entries types map.stack)))
