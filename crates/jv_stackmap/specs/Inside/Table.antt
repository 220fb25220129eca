-- What a table of frames stands for while it is read, and what holds of it.
use Rattle.std.specs.Prelude.{◌≡◌, ℕ, ◌*◌, ◌≤◌, List, [], length, map}
use Rattle.std.specs.List.{All}
use Rattle.jv_stackmap.specs.declared.entry.FrameEntry.{FrameEntry}
use Rattle.jv_stackmap.specs.declared.nodes.KeptFrame.{KeptFrame}
use Rattle.jv_stackmap.specs.declared.nodes.Pile.{Pile}
use Rattle.jv_stackmap.specs.declared.width.Width.{Width}
use Rattle.jv_stackmap.specs.declared.table.FrameTable.TheInside.{Inside}
use Rattle.jv_stackmap.specs.Inside.Nodes.{chain, frame_in, IsKept, IsPile, RiseTo}
use Rattle.jv_stackmap.specs.Inside.Steps.{Built}

abbrev pub built : List Width → List (List FrameEntry) → List KeptFrame → ℕ → ℕ → ℕ → Built
built widths chains frames base locals pile = record {
  widths = widths;
  frames = map (frame_in chains) frames;
  base = base;
  locals = chain chains locals;
  pile = chain chains pile;
}

-- the tops are nodes, the words are right, the offsets rise, and none is out of range
pub record Holds (widths : List Width) (chains : List (List FrameEntry)) (frames : List KeptFrame) (base : ℕ) (locals pile : Pile)
    : Type 0 where
  pub bottom : chain chains 0 ≡ []
  pub kept : All (IsKept (length chains)) frames
  pub rising : RiseTo 0 frames base
  pub low : base ≤ 65536 * length frames
  pub settled : IsPile widths chains locals
  pub laid : IsPile widths chains pile

abbrev pub built_of : Inside → Built
built_of t = built t.widths.now t.nodes t.frames.items t.base t.locals.top t.pile.top

abbrev pub IsTable : Inside → Type 0
IsTable t = Holds t.widths.now t.nodes t.frames.items t.base t.locals t.pile
