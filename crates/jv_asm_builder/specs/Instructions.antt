-- Instructions in their shortest forms (JVMS 6.5).
use Rattle.std.specs.Prelude.{ℕ, ◌+◌, ℤ, pos, negsuc, ◌&&◌, nat_lt, if◌then◌else◌}
use Rattle.jv_code.specs.Numbers.{signed8}
use Rattle.jv_asm.specs.declared.item.Item.{Item}
use Rattle.jv_asm.specs.declared.item.Item.TheVariants as item

-- with a local variable: in the opcode, the first of which is `with_0`, in a byte, or behind `wide`
abbrev pub local_item : ℕ → ℕ → ℕ → Item
local_item with_0 opcode local =
    if nat_lt local 4 then item.Plain (with_0 + local) else if nat_lt local 256 then item.Byte opcode local else item.Wide opcode local

abbrev pub pushed_item : ℤ → Item
pushed_item value = if signed8.fits value then item.SignedByte 16 value else item.SignedHalf 17 value

-- an int: `iconst_m1` to `iconst_5`, `bipush`, or `sipush`
abbrev pub int_item : ℤ → Item
int_item (pos n) = if nat_lt n 6 then item.Plain (n + 3) else pushed_item (pos n)
int_item (negsuc n) = if nat_lt n 1 then item.Plain 2 else pushed_item (negsuc n)

-- a constant at an index
abbrev pub ldc_item : ℕ → Item
ldc_item index = if nat_lt index 256 then item.Byte 18 index else item.Half 19 index

abbrev pub iinc_item : ℕ → ℤ → Item
iinc_item local by = if nat_lt local 256 && signed8.fits by then item.Iinc local by else item.WideIinc local by
