-- How a StackMapTable's contents are read (JVMS 4.7.4).
use Rattle.std.specs.Prelude.{◌≡◌, ℕ, ◌-◌, List, [], ◌∷◌, length, nat_lt, Option, Some, None, Result, Ok, Err, ◌==◌, if◌then◌else◌}
use Rattle.jv_format.specs.Format.{Format, ◌>>=◌, half}
use Rattle.jv_format.specs.Readers.{both, list_of, after, found_as}
use Rattle.jv_stackmap.specs.declared.item.Item.{Item}
use Rattle.jv_stackmap.specs.declared.item.Item.TheVariants as items
use Rattle.jv_stackmap.specs.declared.form.Form.TheVariants.{Same, SameItem, SameItemExtended, Chop, SameExtended, Append, Full}
use Rattle.jv_stackmap.specs.declared.fault.FrameFault.{FrameFault}
use Rattle.jv_stackmap.specs.declared.fault.FrameFault.TheVariants.{BadFrames, OutOfMemory}
use Rattle.jv_stackmap.specs.Bytes.{MapForm, item_bytes, item_fits, form_bytes, form_fits}

-- ---- items

abbrev pub object : ℕ → Item
object class = items.Object class

abbrev pub uninitialized : ℕ → Item
uninitialized offset = items.Uninitialized offset

-- what follows a tag
abbrev pub item_contents : ℕ → List ℕ → Option (Item × List ℕ)
item_contents tag rest =
    if tag == 0 then Some (items.Top, rest)
    else if tag == 1 then Some (items.Integer, rest)
    else if tag == 4 then Some (items.Long, rest)
    else if tag == 5 then Some (items.Null, rest)
    else if tag == 6 then Some (items.UninitializedThis, rest)
    else if tag == 7 then half.read rest >>= found_as object
    else if tag == 8 then half.read rest >>= found_as uninitialized
    else None

abbrev pub item_read : List ℕ → Option (Item × List ℕ)
item_read [] = None
item_read (tag ∷ rest) = item_contents tag rest

abbrev pub item : Format Item
item = record { spelling = item_bytes; fits = item_fits; read = item_read }

-- so many items
abbrev pub so_many_items : ℕ → Format (List Item)
so_many_items count = list_of count item

-- items behind their number
abbrev pub counted_items : Format (List Item)
counted_items = after half length so_many_items

-- ---- frames

abbrev pub same : ℕ → MapForm
same delta = Same delta

abbrev pub same_item : ℕ → Item → MapForm
same_item delta item = SameItem delta item

abbrev pub same_item_extended : ℕ × Item → MapForm
same_item_extended p = SameItemExtended p.0 p.1

abbrev pub chop : ℕ → ℕ → MapForm
chop count delta = Chop count delta

abbrev pub same_extended : ℕ → MapForm
same_extended delta = SameExtended delta

abbrev pub append : ℕ × List Item → MapForm
append p = Append p.0 p.1

abbrev pub full : ℕ × (List Item × List Item) → MapForm
full p = Full p.0 p.1.0 p.1.1

-- what follows a type below 252
abbrev pub short_contents : ℕ → List ℕ → Option (MapForm × List ℕ)
short_contents tag rest =
    if nat_lt tag 64 then Some (Same tag, rest)
    else if nat_lt tag 128 then item.read rest >>= found_as (same_item (tag - 64))
    else if nat_lt tag 247 then None
    else if tag == 247 then (both half item).read rest >>= found_as same_item_extended
    else if nat_lt tag 251 then half.read rest >>= found_as (chop (251 - tag))
    else half.read rest >>= found_as same_extended

-- what follows a type from 252 to 254, by how many items
abbrev pub append_contents : ℕ → List ℕ → Option (MapForm × List ℕ)
append_contents count rest = (both half (so_many_items count)).read rest >>= found_as append

-- what follows type 255
abbrev pub full_contents : List ℕ → Option (MapForm × List ℕ)
full_contents rest = (both half (both counted_items counted_items)).read rest >>= found_as full

-- what follows a type
abbrev pub form_contents : ℕ → List ℕ → Option (MapForm × List ℕ)
form_contents tag rest =
    if nat_lt tag 252 then short_contents tag rest
    else if nat_lt tag 255 then append_contents (tag - 251) rest
    else full_contents rest

abbrev pub form_read : List ℕ → Option (MapForm × List ℕ)
form_read [] = None
form_read (tag ∷ rest) = form_contents tag rest

abbrev pub form : Format MapForm
form = record { spelling = form_bytes; fits = form_fits; read = form_read }

-- so many frames
abbrev pub forms_of : ℕ → Format (List MapForm)
forms_of count = list_of count form

-- the frames behind their number
abbrev pub counted_forms : Format (List MapForm)
counted_forms = after half length forms_of

-- frames that nothing follows
abbrev pub all_of : List MapForm → List ℕ → Option (List MapForm)
all_of forms [] = Some forms
all_of forms (byte ∷ more) = None

abbrev pub whole : List MapForm × List ℕ → Option (List MapForm)
whole p = all_of p.0 p.1

-- the frames of a whole table
abbrev pub whole_table : List ℕ → Option (List MapForm)
whole_table bytes = counted_forms.read bytes >>= whole

-- ---- what functions give

-- a fault where there is this
abbrev pub Fails : {A : Type 0} → FrameFault → Option A → Type 0
Fails BadFrames read = read ≡ None
Fails OutOfMemory read = Unit {0}

-- What a function gave, seen by view, is this, unless memory ran out.
abbrev pub IsGiven : {A X : Type 0} → Option A → (X → A) → Result X FrameFault → Type 0
IsGiven read view (Ok x) = read ≡ Some (view x)
IsGiven read view (Err e) = Fails e read
