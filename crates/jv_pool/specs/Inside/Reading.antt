-- How constants are read.
use Rattle.std.specs.Prelude.{◌≡◌, ℕ, zero, suc, Bool, true, false, List, [], ◌∷◌, map, Option, Some, None, Result, Ok, Err, ◌==◌, ◌+◌, ◌-◌, ◌&&◌, length, drop, slice_get, if◌then◌else◌}
use Rattle.std.specs.Option.{option_map}
use Rattle.std.specs.List.{flat_map, list_all}
use Rattle.std.specs.Borrow.{Bor}
use Rattle.jv_format.specs.Format.{Format, ◌>>=◌, byte, half, quad, text}
use Rattle.jv_format.specs.Readers.{both, never, after, found_as}
use Rattle.jv_pool.specs.declared.constant.Constant.{Constant}
use Rattle.jv_pool.specs.declared.constant.Constant.TheVariants.{Utf8, Integer, Float, Long, Double, Class, String, Fieldref, Methodref, InterfaceMethodref, NameAndType, MethodHandle, MethodType, InvokeDynamic}
use Rattle.jv_pool.specs.declared.shape.QuadKind.{QuadKind}
use Rattle.jv_pool.specs.declared.shape.QuadKind.TheVariants as quads
use Rattle.jv_pool.specs.declared.shape.TwoQuadsKind.{TwoQuadsKind}
use Rattle.jv_pool.specs.declared.shape.TwoQuadsKind.TheVariants as two_quads
use Rattle.jv_pool.specs.declared.shape.HalfKind.{HalfKind}
use Rattle.jv_pool.specs.declared.shape.HalfKind.TheVariants as halves
use Rattle.jv_pool.specs.declared.shape.TwoHalvesKind.{TwoHalvesKind}
use Rattle.jv_pool.specs.declared.shape.TwoHalvesKind.TheVariants as two_halves
use Rattle.jv_pool.specs.declared.shape.ConstantShape.{ConstantShape}
use Rattle.jv_pool.specs.declared.shape.ConstantShape.TheVariants as shapes
use Rattle.jv_pool.specs.declared.fault.PoolFault.{PoolFault}
use Rattle.jv_pool.specs.declared.fault.PoolFault.TheVariants.{BadPool, OutOfMemory}
use Rattle.jv_pool.specs.Constants.{Entry, constant_bytes, constant_fits, takes_two, table_of, pool_count, usable}
use Rattle.jv_pool.specs.Seen.{seen}

-- ---- one constant: its tag tells the shape of what follows

abbrev pub shape_of : ℕ → Option ConstantShape
shape_of tag =
    if tag == 1 then Some shapes.Text
    else if tag == 3 then Some (shapes.Quad quads.Integer)
    else if tag == 4 then Some (shapes.Quad quads.Float)
    else if tag == 5 then Some (shapes.TwoQuads two_quads.Long)
    else if tag == 6 then Some (shapes.TwoQuads two_quads.Double)
    else if tag == 7 then Some (shapes.Half halves.Class)
    else if tag == 8 then Some (shapes.Half halves.String)
    else if tag == 9 then Some (shapes.TwoHalves two_halves.Fieldref)
    else if tag == 10 then Some (shapes.TwoHalves two_halves.Methodref)
    else if tag == 11 then Some (shapes.TwoHalves two_halves.InterfaceMethodref)
    else if tag == 12 then Some (shapes.TwoHalves two_halves.NameAndType)
    else if tag == 15 then Some shapes.ByteAndHalf
    else if tag == 16 then Some (shapes.Half halves.MethodType)
    else if tag == 18 then Some (shapes.TwoHalves two_halves.InvokeDynamic)
    else None

-- the constants that their contents make
abbrev pub utf8 : List ℕ → Entry
utf8 t = Utf8 t

abbrev pub of_quad : QuadKind → ℕ → Entry
of_quad quads.Integer bits = Integer bits
of_quad quads.Float bits = Float bits

abbrev pub of_two_quads : TwoQuadsKind → ℕ × ℕ → Entry
of_two_quads two_quads.Long p = Long p.0 p.1
of_two_quads two_quads.Double p = Double p.0 p.1

abbrev pub of_half : HalfKind → ℕ → Entry
of_half halves.Class n = Class n
of_half halves.String n = String n
of_half halves.MethodType n = MethodType n

abbrev pub of_two_halves : TwoHalvesKind → ℕ × ℕ → Entry
of_two_halves two_halves.Fieldref p = Fieldref p.0 p.1
of_two_halves two_halves.Methodref p = Methodref p.0 p.1
of_two_halves two_halves.InterfaceMethodref p = InterfaceMethodref p.0 p.1
of_two_halves two_halves.NameAndType p = NameAndType p.0 p.1
of_two_halves two_halves.InvokeDynamic p = InvokeDynamic p.0 p.1

abbrev pub method_handle : ℕ × ℕ → Entry
method_handle p = MethodHandle p.0 p.1

abbrev pub shaped_read : ConstantShape → List ℕ → Option (Entry × List ℕ)
shaped_read shapes.Text bytes = text.read bytes >>= found_as utf8
shaped_read (shapes.Quad kind) bytes = quad.read bytes >>= found_as (of_quad kind)
shaped_read (shapes.TwoQuads kind) bytes = (both quad quad).read bytes >>= found_as (of_two_quads kind)
shaped_read (shapes.Half kind) bytes = half.read bytes >>= found_as (of_half kind)
shaped_read (shapes.TwoHalves kind) bytes = (both half half).read bytes >>= found_as (of_two_halves kind)
shaped_read shapes.ByteAndHalf bytes = (both byte half).read bytes >>= found_as method_handle

abbrev pub shaped : ConstantShape → Format Entry
shaped shape = record { spelling = constant_bytes; fits = constant_fits; read = shaped_read shape }

abbrev pub contents_read : Option ConstantShape → List ℕ → Option (Entry × List ℕ)
contents_read None bytes = None
contents_read (Some shape) bytes = shaped_read shape bytes

abbrev pub seen_found : Constant (Bor (List ℕ)) × Bor (List ℕ) → Entry × List ℕ
seen_found x = (seen x.0, x.1.now)

abbrev pub constant_read : List ℕ → Option (Entry × List ℕ)
constant_read [] = None
constant_read (tag ∷ rest) = contents_read (shape_of tag) rest

abbrev pub constant : Format Entry
constant = record { spelling = constant_bytes; fits = constant_fits; read = constant_read }

-- ---- the table: so many entries, where the first may be the second one of a constant before it

abbrev pub entries_read : Bool → ℕ → List ℕ → Option (List Entry × List ℕ)
entries_read true zero bytes = None
entries_read false zero bytes = Some ([], bytes)
entries_read true (suc n) bytes = entries_read false n bytes
entries_read false (suc n) bytes = constant_read bytes >>= λ c. entries_read (takes_two c.0) n c.1 >>= λ cs. Some (c.0 ∷ cs.0, cs.1)

abbrev pub entries : ℕ → Format (List Entry)
entries n = record {
  spelling = flat_map constant_bytes;
  fits = λ p. length (table_of p) == n
      && list_all constant_fits p;
  read = entries_read false n;
}

-- the constants behind a count, which is one more than the entries
abbrev pub so_many_constants : ℕ → Format (List Entry)
so_many_constants count = if count == 0 then never else entries (count - 1)

-- a list of constants that may break their rules
abbrev pub constants : Format (List Entry)
constants = after half pool_count so_many_constants

-- one entry, whether the next one belongs to it, and what follows
abbrev pub step_read : Bool → List ℕ → Option (Option Entry × Bool × List ℕ)
step_read true bytes = Some (None, false, bytes)
step_read false bytes = constant_read bytes >>= λ c. Some (Some c.0, takes_two c.0, c.1)

abbrev pub seen_step : Option (Constant (Bor (List ℕ))) × Bool × Bor (List ℕ) → Option Entry × Bool × List ℕ
seen_step x = (option_map seen x.0, x.1, x.2.now)

abbrev pub pending : Bool → List (Option Entry)
pending true = None ∷ []
pending false = []

-- ---- the table in the code: of each entry it is kept where its constant stands

-- the constants of a table's entries
abbrev pub entry_list : Option Entry → List Entry
entry_list None = []
entry_list (Some c) = c ∷ []

abbrev pub constants_in : List (Option Entry) → List Entry
constants_in table = flat_map entry_list table

abbrev pub found_first : Entry × List ℕ → Entry
found_first c = c.0

-- A place is one more than the number of the bytes before a constant; 0 is that of no constant.
abbrev pub entry_of : List ℕ → ℕ → Option Entry
entry_of bytes zero = None
entry_of bytes (suc before) = option_map found_first (constant_read (drop before bytes))

-- the place of what stands behind so many bytes, where it is a constant
abbrev pub place_behind : Bool → ℕ → ℕ
place_behind true before = suc before
place_behind false before = zero

abbrev pub entries_in : List ℕ → List ℕ → List (Option Entry)
entries_in bytes places = map (entry_of bytes) places

-- the entries are the table of their constants, and so many
pub record IsTable (count : ℕ) (table : List (Option Entry)) : Type 0 where
  pub counted : count ≡ length table + 1
  pub entries : table_of (constants_in table) ≡ table

abbrev pub entry_at : List (Option Entry) → ℕ → Option Entry
entry_at table zero = None
entry_at table (suc n) = usable (slice_get table n)

-- ---- what a reading gives

-- a fault where this is read
abbrev pub Fails : {A : Type 0} → PoolFault → Option A → Type 0
Fails BadPool read = read ≡ None
Fails OutOfMemory read = Unit {0}

-- What a function gave, seen by view, is what the format reads, unless memory ran out.
abbrev pub Gives : {A X : Type 0} → Format A → List ℕ → (X → A × List ℕ) → Result X PoolFault → Type 0
Gives f bytes view (Ok x) = f.read bytes ≡ Some (view x)
Gives f bytes view (Err e) = Fails e (f.read bytes)
