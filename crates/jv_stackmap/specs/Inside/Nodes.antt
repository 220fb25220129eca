-- Entries as nodes: an entry and the node below it; and the list of entries from each node down.
use Rattle.std.specs.Prelude.{◌≡◌, ℕ, ◌+◌, ◌-◌, ◌*◌, ◌/◌, ◌%◌, ◌<◌, ◌≤◌, ◌==◌, List, [], ◌∷◌, ◌++◌, length, slice_index_or, if◌then◌else◌}
use Rattle.jv_stackmap.specs.declared.entry.FrameEntry.{FrameEntry}
use Rattle.jv_stackmap.specs.declared.entry.FrameEntry.TheVariants as entries
use Rattle.jv_stackmap.specs.declared.nodes.Node.{Node}
use Rattle.jv_stackmap.specs.declared.nodes.PackedNode.{PackedNode}
use Rattle.jv_stackmap.specs.declared.nodes.FarNode.{FarNode}
use Rattle.jv_stackmap.specs.declared.nodes.KeptFrame.{KeptFrame}
use Rattle.jv_stackmap.specs.declared.nodes.Pile.{Pile}
use Rattle.jv_stackmap.specs.declared.width.Width.{Width}
use Rattle.jv_stackmap.specs.Entries.{ReadFrame, words_in}

-- the entries from a node on down; node 0 is below all, and has none
abbrev pub chain : List (List FrameEntry) → ℕ → List FrameEntry
chain chains top = slice_index_or chains top []

-- the chains of nodes, each laid on one of those before it
abbrev pub chains_on : List (List FrameEntry) → List Node → List (List FrameEntry)
chains_on chains [] = chains
chains_on chains (node ∷ more) = chains_on (chains ++ (node.entry ∷ chain chains node.below) ∷ []) more

abbrev pub chains_of : List Node → List (List FrameEntry)
chains_of nodes = chains_on ([] ∷ []) nodes

-- each node is laid on one before it, where so many stand before the first
abbrev pub AreLaid : ℕ → List Node → Type 0
AreLaid before [] = Unit {0}
AreLaid before (node ∷ more) = (node.below < before) × AreLaid (before + 1) more

-- keys rise, from one base to another
abbrev pub RiseBy : {X : Type 0} → (X → ℕ) → ℕ → List X → ℕ → Type 0
RiseBy key from [] base = from ≤ base
RiseBy key from (x ∷ more) base = (from ≤ key x) × RiseBy key (key x + 1) more base

-- ---- nodes in four bytes each

-- the entry by the number of its kind, and by what it holds
abbrev pub entry_with : ℕ → ℕ → FrameEntry
entry_with kind operand =
    if kind == 0 then entries.Top
    else if kind == 1 then entries.Int
    else if kind == 2 then entries.Long
    else if kind == 3 then entries.Null
    else if kind == 4 then entries.UninitializedThis
    else if kind == 5 then entries.Object operand
    else if kind == 6 then entries.Uninitialized operand
    else entries.Initial operand

-- the number of an entry's kind, and what it holds
abbrev pub kind_of : FrameEntry → ℕ
kind_of entries.Top = 0
kind_of entries.Int = 1
kind_of entries.Long = 2
kind_of entries.Null = 3
kind_of entries.UninitializedThis = 4
kind_of (entries.Object class) = 5
kind_of (entries.Uninitialized offset) = 6
kind_of (entries.Initial place) = 7

abbrev pub operand_of : FrameEntry → ℕ
operand_of (entries.Object class) = class
operand_of (entries.Uninitialized offset) = offset
operand_of (entries.Initial place) = place
operand_of _ = 0

-- the node below the one with a number, where a list says it
abbrev pub below_in : List FarNode → ℕ → ℕ
below_in [] number = 0
below_in (node ∷ more) number = if node.number == number then node.below else below_in more number

-- the node below the one with a number, by how much lower its own is: 4095 says that nothing is below, and 0 that a list says it
abbrev pub below_by : List FarNode → ℕ → ℕ → ℕ
below_by far number distance =
    if distance == 0 then below_in far number
    else if distance == 4095 then 0
    else number - distance

-- the node with a number: its head is 4096 times the number of its entry's kind, and the distance
abbrev pub node_with : List FarNode → ℕ → PackedNode → Node
node_with far number node = record {
  entry = entry_with (node.head / 4096) node.operand;
  below = below_by far number (node.head % 4096);
}

-- the nodes from a number on
abbrev pub nodes_from : List FarNode → ℕ → List PackedNode → List Node
nodes_from far number [] = []
nodes_from far number (node ∷ more) = node_with far number node ∷ nodes_from far (number + 1) more

abbrev pub nodes_in : List FarNode → List PackedNode → List Node
nodes_in far nodes = nodes_from far 1 nodes

abbrev pub number_of : FarNode → ℕ
number_of node = node.number

-- the numbers in the list rise, and none is above the count
abbrev pub AreFar : List FarNode → ℕ → Type 0
AreFar far count = RiseBy number_of 0 far (count + 1)

-- what holds of the nodes that are kept
pub record ArePacked (far : List FarNode) (nodes : List PackedNode) : Type 0 where
  pub laid : AreLaid 1 (nodes_in far nodes)
  pub rising : AreFar far (length nodes)

-- ---- frames

-- the frame that a kept one stands for
abbrev pub frame_in : List (List FrameEntry) → KeptFrame → ReadFrame
frame_in chains kept = record {
  offset = kept.offset;
  locals = chain chains kept.locals;
  local_words = kept.local_words;
  stack = chain chains kept.stack;
}

-- both tops are nodes
abbrev pub IsKept : ℕ → KeptFrame → Type 0
IsKept count kept = (kept.locals < count) × (kept.stack < count)

-- the top is a node, and the words are those of its chain
pub record IsPile (widths : List Width) (chains : List (List FrameEntry)) (pile : Pile) : Type 0 where
  pub there : pile.top < length chains
  pub counted : pile.words ≡ words_in widths (chain chains pile.top)
  pub few : pile.words ≤ 2 * length chains

abbrev pub kept_offset : KeptFrame → ℕ
kept_offset frame = frame.offset

-- offsets rise, from one base to another
abbrev pub RiseTo : ℕ → List KeptFrame → ℕ → Type 0
RiseTo from frames base = RiseBy kept_offset from frames base

abbrev pub AreRising : List KeptFrame → Type 0
AreRising frames = (base : ℕ) × RiseTo 0 frames base
