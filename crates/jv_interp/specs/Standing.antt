-- What it means that what is kept of a guest stands for the state that its own files give on the machine alone (JVMS 2.5; own). Under
-- addresses of the store, without repeats, stand the guest's objects in the order in which it made them.
use Rattle.std.specs.Prelude.{◌≡◌, ℕ, ◌+◌, ◌<◌, ◌≤◌, List, [], ◌∷◌, ◌++◌, Ok, Contains, length}
use Rattle.jv_meaning_world.specs.Library.{with_library}
use Rattle.jv_meaning_world.specs.World.{World}
use Rattle.jv_meaning_machine.specs.State.{State}
use Rattle.jv_meaning_machine.specs.Start.{Budget}
use Rattle.jv_meaning_machine.specs.Alone.{GuestFiles, Judged, IsJudged, Feed, Stands, alone}
use Rattle.jv_meaning_machine.specs.Laws.Feeds.{NothingComes}
use Rattle.jv_link_cache.specs.Linked.{IsLinked}
use Rattle.jv_interp_heap.specs.ObjectsInBlocks.{Blocks}
use Rattle.jv_interp_held.specs.Growing.{Grows}
use Rattle.jv_interp_members.specs.Methods.{AreMethods}
use Rattle.jv_interp_objects.specs.Texts.{AreTexts}
use Rattle.jv_interp_control.specs.Moves.{AreVerified}
use Rattle.jv_interp_control.specs.Standing.{Kept, kept, StateStands}
use Rattle.jv_interp.specs.declared.guest.Guest.{Guest}

-- its frames, its control, what it holds, and the blocks of the store
abbrev pub kept_of : Guest → Blocks → Kept
kept_of guest blocks = kept guest.frames guest.control guest.held blocks

-- What is known of its classes, of which there are at most 2,083 (own): what they link to, their methods and their texts.
pub record AreTables (world : World) (guest : Guest) : Type 0 where
  pub linked : IsLinked world guest.linked
  pub methods : AreMethods world guest.methods
  pub texts : AreTexts world guest.texts
  pub few : length world ≤ 2083

-- A guest with these files and this budget, which was fed so, stands after so many of its own steps, where its host's library stands. What
-- came, came by then.
pub record GuestStands (g : GuestFiles) (b : Budget) (feeds : List Feed) (n : ℕ) (addresses : List ℕ) (guest : Guest)
    (blocks : Blocks) : Type 0 where
  pub judged : Judged
  pub right : IsJudged g.library g.files judged
  pub library_stands : Stands judged.program.world (with_library right.given)
  pub world_is : judged.program.world ≡ guest.judged.world
  pub verdicts_are : judged.verdicts ≡ guest.judged.verdicts
  pub verified_are : AreVerified judged.program guest.verified.items
  pub tables : AreTables guest.judged.world guest
  pub came : (more : ℕ) → NothingComes n more feeds
  pub state : State
  pub ran : alone judged g b feeds n ≡ Ok state
  pub stands : StateStands judged.program guest.texts.names state addresses (kept_of guest blocks)
  pub steps_are : guest.steps ≡ n
  pub few_cells : guest.held.cells < 2147483648

-- Some guest does.
pub record IsSomeGuest (guest : Guest) (blocks : Blocks) : Type 0 where
  pub g : GuestFiles
  pub b : Budget
  pub feeds : List Feed
  pub n : ℕ
  pub addresses : List ℕ
  pub stands : GuestStands g b feeds n addresses guest blocks

-- It took so many further steps: it stands after them, with the addresses of new objects behind the others, and the blocks of other
-- guests are as they were.
pub record Went (k : ℕ) (g : GuestFiles) (b : Budget) (feeds : List Feed) (n : ℕ) (addresses : List ℕ) (before after : Guest)
    (blocks_before blocks_after : Blocks) : Type 0 where
  pub more : List ℕ
  pub stands : GuestStands g b feeds (n + k) (addresses ++ more) after blocks_after
  pub grows : Grows addresses more blocks_before blocks_after

abbrev pub WentOn : ℕ → Guest → Guest → Blocks → Blocks → Type 0
WentOn k before after blocks_before blocks_after =
    (g : GuestFiles) (b : Budget) (feeds : List Feed) (n : ℕ) (addresses : List ℕ) → GuestStands g b feeds n addresses before blocks_before
    → Went k g b feeds n addresses before after blocks_before blocks_after

-- Bytes came: they join behind the input that waits, at the guest's own step.
abbrev pub IsFed : List ℕ → Guest → Guest → Type 0
IsFed bytes before after =
    (g : GuestFiles) (b : Budget) (feeds : List Feed) (n : ℕ) (addresses : List ℕ) (blocks : Blocks)
    → GuestStands g b feeds n addresses before blocks
    → GuestStands g b (feeds ++ record { own_step = n; bytes = bytes } ∷ []) n addresses after blocks

-- It stands for what it stood for, with all that came to it.
abbrev pub StandsStill : Guest → Guest → Type 0
StandsStill before after =
    (g : GuestFiles) (b : Budget) (feeds : List Feed) (n : ℕ) (addresses : List ℕ) (blocks : Blocks)
    → GuestStands g b feeds n addresses before blocks
    → GuestStands g b feeds n addresses after blocks

-- no address is in both lists
abbrev pub AreApart : List ℕ → List ℕ → Type 0
AreApart own others = (address : ℕ) → Contains own address → Contains others address → ⊥
