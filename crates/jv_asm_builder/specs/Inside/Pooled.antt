-- How the builder finds constants: a map from what a constant holds to its index.
use Rattle.std.specs.Prelude.{◌≡◌, ℕ, List, [], Option, Some, None, IsTrue}
use Rattle.std.specs.Borrow.{Bor}
use Rattle.std.specs.BTreeMap.{BTreeMap, get_by}
use Rattle.std.specs.Cmp.Lexicographic.{slice_cmp}
use Rattle.std.specs.declared.cmp.Ordering.{Ordering}
use Rattle.std.specs.Ordering.{nat_cmp, ordering_then}
use Rattle.jv_pool.specs.declared.constant.Constant.TheVariants.{Utf8, Integer, Float, Long, Double, Class, String, Fieldref, Methodref, InterfaceMethodref, NameAndType, MethodHandle, MethodType, InvokeDynamic}
use Rattle.jv_pool.specs.Constants.{Entry, pool_count, pool_fits}
use Rattle.jv_asm_builder.specs.Added.{IsIndexOf, IsNew}

-- what a constant holds: its tag (table 4.4-A), its two numbers and its text, with 0 and no bytes for what it doesn't have
abbrev pub Holding : Type 0
Holding = ℕ × ℕ × ℕ × List ℕ

abbrev pub holding : Entry → Holding
holding (Utf8 t) = (1, 0, 0, t)
holding (Integer bits) = (3, bits, 0, [])
holding (Float bits) = (4, bits, 0, [])
holding (Long high low) = (5, high, low, [])
holding (Double high low) = (6, high, low, [])
holding (Class name) = (7, name, 0, [])
holding (String t) = (8, t, 0, [])
holding (Fieldref class name_and_type) = (9, class, name_and_type, [])
holding (Methodref class name_and_type) = (10, class, name_and_type, [])
holding (InterfaceMethodref class name_and_type) = (11, class, name_and_type, [])
holding (NameAndType name descriptor) = (12, name, descriptor, [])
holding (MethodHandle kind index) = (15, kind, index, [])
holding (MethodType descriptor) = (16, descriptor, 0, [])
holding (InvokeDynamic bootstrap name_and_type) = (18, bootstrap, name_and_type, [])

-- the same, with a text that is a slice
abbrev pub Key : Type 0
Key = ℕ × ℕ × ℕ × Bor (List ℕ)

abbrev pub key_holding : Key → Holding
key_holding k = (k.0, k.1, k.2, k.3.now)

abbrev pub compare : Holding → Key → Ordering
compare h k =
    ordering_then (ordering_then (ordering_then (nat_cmp h.0 k.0) (nat_cmp h.1 k.1)) (nat_cmp h.2 k.2)) (slice_cmp nat_cmp h.3 k.3.now)

-- the index of a constant by the map
abbrev pub index_by : BTreeMap Key ℕ → Entry → Option ℕ
index_by m c = get_by (compare (holding c)) m

abbrev pub IsIndexFound : List Entry → Entry → Option ℕ → Type 0
IsIndexFound pool c None = IsNew pool c
IsIndexFound pool c (Some index) = IsIndexOf pool c index

-- the map has the index of each constant of the pool, and no others
abbrev pub AreIndices : List Entry → BTreeMap Key ℕ → Type 0
AreIndices pool m = (c : Entry) → IsIndexFound pool c (index_by m c)

-- what a pool in the making keeps
pub record IsPooled (pool : List Entry) (m : BTreeMap Key ℕ) (count : ℕ) : Type 0 where
  pub fits : IsTrue (pool_fits pool)
  pub counted : count ≡ pool_count pool
  pub indices : AreIndices pool m
