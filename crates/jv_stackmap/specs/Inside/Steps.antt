-- What reading does to a table of frames, step by step (JVMS 4.7.4).
use Rattle.std.specs.Prelude.{ℕ, zero, suc, ◌+◌, Bool, ◌&&◌, List, [], ◌∷◌, ◌++◌, length, nat_le, Option, Some, None, if◌then◌else◌}
use Rattle.jv_format.specs.Format.{◌>>=◌}
use Rattle.jv_pool.specs.Constants.{Entry, class_name_at}
use Rattle.jv_stackmap.specs.declared.item.Item.{Item}
use Rattle.jv_stackmap.specs.declared.item.Item.TheVariants as items
use Rattle.jv_stackmap.specs.declared.form.Form.TheVariants.{Same, SameItem, SameItemExtended, Chop, SameExtended, Append, Full}
use Rattle.jv_stackmap.specs.declared.limits.Limits.{Limits}
use Rattle.jv_stackmap.specs.declared.width.Width.{Width}
use Rattle.jv_stackmap.specs.declared.entry.FrameEntry.{FrameEntry}
use Rattle.jv_stackmap.specs.declared.entry.FrameEntry.TheVariants as entries
use Rattle.jv_stackmap.specs.Bytes.{MapForm}
use Rattle.jv_stackmap.specs.Frames.{delta_of}
use Rattle.jv_stackmap.specs.Entries.{ReadFrame, words_in}
use Rattle.jv_stackmap.specs.Inside.Reading.{item, so_many_items, counted_items, short_contents, append_contents, full_contents, form_contents, form, forms_of, counted_forms}

-- ---- entries of items

abbrev pub object_in : ℕ → List ℕ → Option FrameEntry
object_in class name = Some (entries.Object class)

abbrev pub object_at : List Entry → ℕ → Option FrameEntry
object_at pool class = class_name_at pool class >>= object_in class

-- the entry of an item; an Object's index is that of a Class constant
abbrev pub entry_of : List Entry → Item → Option FrameEntry
entry_of pool items.Top = Some entries.Top
entry_of pool items.Integer = Some entries.Int
entry_of pool items.Long = Some entries.Long
entry_of pool items.Null = Some entries.Null
entry_of pool items.UninitializedThis = Some entries.UninitializedThis
entry_of pool (items.Object class) = object_at pool class
entry_of pool (items.Uninitialized offset) = Some (entries.Uninitialized offset)

-- ---- a table

-- the frames so far, the base of the next delta, the local entries of the last frame, and the entries that are laid for
-- the next
pub record Built : Type 0 where
  pub widths : List Width
  pub frames : List ReadFrame
  pub base : ℕ
  pub locals : List FrameEntry
  pub pile : List FrameEntry

abbrev pub with_pile : List FrameEntry → Built → Built
with_pile pile b = record { widths = b.widths; frames = b.frames; base = b.base; locals = b.locals; pile = pile }

abbrev pub with_locals : List FrameEntry → Built → Built
with_locals locals b = record { widths = b.widths; frames = b.frames; base = b.base; locals = locals; pile = b.pile }

-- so many initial local entries, the last first
abbrev pub initial_down : ℕ → List FrameEntry
initial_down zero = []
initial_down (suc n) = entries.Initial n ∷ initial_down n

-- no frame and no entry
abbrev pub empty : List Width → Built
empty widths = record { widths = widths; frames = []; base = 0; locals = []; pile = [] }

abbrev pub started : List Width → Built
started widths = record { widths = widths; frames = []; base = 0; locals = initial_down (length widths); pile = [] }

-- the local entries of the last frame, to lay others on them
abbrev pub resumed : Built → Built
resumed b = with_pile b.locals b

-- what is laid becomes the local entries of the next frame
abbrev pub settled : Built → Built
settled b = with_pile [] (with_locals b.pile b)

abbrev pub laid_entry : Built → FrameEntry → Option Built
laid_entry b entry = Some (with_pile (entry ∷ b.pile) b)

abbrev pub laid_item : List Entry → Built → Item → Option Built
laid_item pool b item = entry_of pool item >>= laid_entry b

abbrev pub chopped_one : List FrameEntry → Built → Option Built
chopped_one [] b = None
chopped_one (entry ∷ below) b = Some (with_locals below b)

abbrev pub chopped_in : ℕ → Built → Option Built
chopped_in zero b = Some b
chopped_in (suc n) b = chopped_one b.locals b >>= chopped_in n

abbrev pub is_within_in : Limits → Built → Bool
is_within_in limits b = nat_le (words_in b.widths b.locals) limits.max_locals && nat_le (words_in b.widths b.pile) limits.max_stack

abbrev pub frame_next : ℕ → Built → ReadFrame
frame_next offset b = record { offset = offset; locals = b.locals; local_words = words_in b.widths b.locals; stack = b.pile }

abbrev pub with_frame : ℕ → Built → Built
with_frame offset b =
    record { widths = b.widths; frames = b.frames ++ frame_next offset b ∷ []; base = offset + 1; locals = b.locals; pile = [] }

-- a frame joins, with what is laid as its stack
abbrev pub finished : Limits → ℕ → Built → Option Built
finished limits delta b = if is_within_in limits b then Some (with_frame (b.base + delta) b) else None

-- ---- steps over lists

abbrev pub all_steps : {S A : Type 0} → (S → A → Option S) → S → List A → Option S
all_steps step s [] = Some s
all_steps step s (a ∷ more) = step s a >>= λ t. all_steps step t more

-- a step by what was read, beside the rest
abbrev pub beside : {S : Type 0} → List ℕ → S → Option (S × List ℕ)
beside rest s = Some (s, rest)

abbrev pub stepped : {S A : Type 0} → (S → A → Option S) → S → A × List ℕ → Option (S × List ℕ)
stepped step s x = step s x.0 >>= beside x.1

abbrev pub all_stepped : {S A : Type 0} → (S → A → Option S) → S → List A × List ℕ → Option (S × List ℕ)
all_stepped step s x = all_steps step s x.0 >>= beside x.1

-- ---- a form

abbrev pub laid_items : List Entry → Built → List Item → Option Built
laid_items pool b list = all_steps (laid_item pool) b list

abbrev pub settled_in : Built → Option Built
settled_in b = Some (settled b)

abbrev pub stack_laid : List Entry → List Item → Built → Option Built
stack_laid pool stack b = laid_items pool (settled b) stack

-- the local entries and what is laid, as a form has them
abbrev pub form_laid : List Entry → Built → MapForm → Option Built
form_laid pool b (Same delta) = Some b
form_laid pool b (SameItem delta item) = laid_item pool b item
form_laid pool b (SameItemExtended delta item) = laid_item pool b item
form_laid pool b (Chop count delta) = chopped_in count b
form_laid pool b (SameExtended delta) = Some b
form_laid pool b (Append delta locals) = laid_items pool (resumed b) locals >>= settled_in
form_laid pool b (Full delta locals stack) = laid_items pool b locals >>= stack_laid pool stack

-- beside its delta
abbrev pub with_delta : ℕ → Built → Option (ℕ × Built)
with_delta delta b = Some (delta, b)

-- and beside the rest
abbrev pub begun : List Entry → Built → MapForm × List ℕ → Option ((ℕ × Built) × List ℕ)
begun pool b x = form_laid pool b x.0 >>= with_delta (delta_of x.0) >>= beside x.1

abbrev pub form_done : List Entry → Limits → Built → MapForm → Option Built
form_done pool limits b form = form_laid pool b form >>= finished limits (delta_of form)

-- ---- what the functions that read come to

abbrev pub item_laid : List Entry → Built → List ℕ → Option (Built × List ℕ)
item_laid pool b bytes = item.read bytes >>= stepped (laid_item pool) b

abbrev pub items_laid : List Entry → ℕ → Built → List ℕ → Option (Built × List ℕ)
items_laid pool count b bytes = (so_many_items count).read bytes >>= all_stepped (laid_item pool) b

abbrev pub counted_laid : List Entry → Built → List ℕ → Option (Built × List ℕ)
counted_laid pool b bytes = counted_items.read bytes >>= all_stepped (laid_item pool) b

abbrev pub short_begun : List Entry → ℕ → Built → List ℕ → Option ((ℕ × Built) × List ℕ)
short_begun pool tag b bytes = short_contents tag bytes >>= begun pool b

abbrev pub append_begun : List Entry → ℕ → Built → List ℕ → Option ((ℕ × Built) × List ℕ)
append_begun pool count b bytes = append_contents count bytes >>= begun pool b

abbrev pub full_begun : List Entry → Built → List ℕ → Option ((ℕ × Built) × List ℕ)
full_begun pool b bytes = full_contents bytes >>= begun pool b

abbrev pub form_begun : List Entry → ℕ → Built → List ℕ → Option ((ℕ × Built) × List ℕ)
form_begun pool tag b bytes = form_contents tag bytes >>= begun pool b

abbrev pub frame_read : List Entry → Limits → Built → List ℕ → Option (Built × List ℕ)
frame_read pool limits b bytes = form.read bytes >>= stepped (form_done pool limits) b

abbrev pub frames_read : List Entry → Limits → ℕ → Built → List ℕ → Option (Built × List ℕ)
frames_read pool limits count b bytes = (forms_of count).read bytes >>= all_stepped (form_done pool limits) b

-- what nothing follows
abbrev pub ended_by : Built → List ℕ → Option Built
ended_by b [] = Some b
ended_by b (byte ∷ more) = None

abbrev pub ended : Built × List ℕ → Option Built
ended x = ended_by x.0 x.1

-- a whole table
abbrev pub table_read : List Entry → Limits → Built → List ℕ → Option Built
table_read pool limits b bytes = counted_forms.read bytes >>= all_stepped (form_done pool limits) b >>= ended
