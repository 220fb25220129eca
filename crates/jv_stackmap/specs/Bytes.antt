-- The bytes of a StackMapTable's contents (JVMS 4.7.4).
use Rattle.std.specs.Prelude.{ℕ, ◌+◌, ◌-◌, Bool, true, ◌&&◌, List, [], ◌∷◌, ◌++◌, length, nat_lt, nat_le}
use Rattle.std.specs.List.{flat_map, list_all}
use Rattle.jv_format.specs.Format.{half}
use Rattle.jv_stackmap.specs.declared.item.Item.{Item}
use Rattle.jv_stackmap.specs.declared.item.Item.TheVariants as items
use Rattle.jv_stackmap.specs.declared.form.Form.{Form}
use Rattle.jv_stackmap.specs.declared.form.Form.TheVariants.{Same, SameItem, SameItemExtended, Chop, SameExtended, Append, Full}

-- ---- items

-- a tag, and for two of them a number; Float (2) and Double (3) have no item (own)
abbrev pub item_bytes : Item → List ℕ
item_bytes items.Top = 0 ∷ []
item_bytes items.Integer = 1 ∷ []
item_bytes items.Long = 4 ∷ []
item_bytes items.Null = 5 ∷ []
item_bytes items.UninitializedThis = 6 ∷ []
item_bytes (items.Object class) = 7 ∷ half.spelling class
item_bytes (items.Uninitialized offset) = 8 ∷ half.spelling offset

-- the number fits its two bytes
abbrev pub item_fits : Item → Bool
item_fits (items.Object class) = half.fits class
item_fits (items.Uninitialized offset) = half.fits offset
item_fits _ = true

-- ---- frames

-- a stack_map_frame, by its form, with its items
abbrev pub MapForm : Type 0
MapForm = Form (List Item)

-- items behind their number
abbrev pub counted_bytes : List Item → List ℕ
counted_bytes list = half.spelling (length list) ++ flat_map item_bytes list

abbrev pub counted_fits : List Item → Bool
counted_fits list = half.fits (length list) && list_all item_fits list

-- a frame_type, and what the form of that type holds
abbrev pub form_bytes : MapForm → List ℕ
form_bytes (Same delta) = delta ∷ []
form_bytes (SameItem delta item) = (64 + delta) ∷ item_bytes item
form_bytes (SameItemExtended delta item) = 247 ∷ (half.spelling delta ++ item_bytes item)
form_bytes (Chop count delta) = (251 - count) ∷ half.spelling delta
form_bytes (SameExtended delta) = 251 ∷ half.spelling delta
form_bytes (Append delta locals) = (251 + length locals) ∷ (half.spelling delta ++ flat_map item_bytes locals)
form_bytes (Full delta locals stack) = 255 ∷ (half.spelling delta ++ (counted_bytes locals ++ counted_bytes stack))

-- from one to three
abbrev pub is_few : ℕ → Bool
is_few count = nat_le 1 count && nat_le count 3

-- the numbers of a frame fit their fields
abbrev pub form_fits : MapForm → Bool
form_fits (Same delta) = nat_lt delta 64
form_fits (SameItem delta item) = nat_lt delta 64 && item_fits item
form_fits (SameItemExtended delta item) = half.fits delta && item_fits item
form_fits (Chop count delta) = is_few count && half.fits delta
form_fits (SameExtended delta) = half.fits delta
form_fits (Append delta locals) = is_few (length locals) && (half.fits delta && list_all item_fits locals)
form_fits (Full delta locals stack) = half.fits delta && (counted_fits locals && counted_fits stack)

-- the bytes of a StackMapTable's contents: the count of the frames, and the frames one after the other
abbrev pub stack_map_bytes : List MapForm → List ℕ
stack_map_bytes forms = half.spelling (length forms) ++ flat_map form_bytes forms
