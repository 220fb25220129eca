-- Constants that are found in a pool, or added to it (JVMS 4.4): with each comes its index, and the pool behind it.
use Rattle.std.specs.Prelude.{◌≡◌, ◌≢◌, ◌⊎◌, ℕ, ◌<◌, List, [], ◌∷◌, ◌++◌, Some, IsTrue}
use Rattle.jv_pool.specs.declared.constant.Constant.TheVariants.{Utf8, Class, NameAndType}
use Rattle.jv_pool.specs.Constants.{Entry, at_index, pool_fits}

-- a constant stands at an index, and at none below
pub record IsIndexOf (pool : List Entry) (c : Entry) (index : ℕ) : Type 0 where
  pub here : at_index pool index ≡ Some c
  pub first : (i : ℕ) → i < index → at_index pool i ≢ Some c

-- a constant stands nowhere
abbrev pub IsNew : List Entry → Entry → Type 0
IsNew pool c = (i : ℕ) → at_index pool i ≢ Some c

-- A constant has its index in the new pool, which is the old one, or the old one with that constant behind it where it is new.
pub record IsAdded (old : List Entry) (c : Entry) (new : List Entry) (index : ℕ) : Type 0 where
  pub here : IsIndexOf new c index
  pub pool : (new ≡ old) ⊎ (IsNew old c × (new ≡ old ++ c ∷ []))

-- a constant that names one text
pub record IsNamedAdded (constant : ℕ → Entry) (old : List Entry) (name : List ℕ) (new : List Entry) (index : ℕ) : Type 0 where
  pub between : List Entry
  pub name_index : ℕ
  pub name_added : IsAdded old (Utf8 name) between name_index
  pub added : IsAdded between (constant name_index) new index

-- two classes
pub record AreClassesAdded (old : List Entry) (first second : List ℕ) (new : List Entry) (first_index second_index : ℕ) : Type 0 where
  pub between : List Entry
  pub first_added : IsNamedAdded Class old first between first_index
  pub second_added : IsNamedAdded Class between second new second_index

-- two texts
pub record AreTextsAdded (old : List Entry) (first second : List ℕ) (new : List Entry) (first_index second_index : ℕ) : Type 0 where
  pub between : List Entry
  pub first_added : IsAdded old (Utf8 first) between first_index
  pub second_added : IsAdded between (Utf8 second) new second_index

-- a name and a descriptor (4.4.6)
pub record IsNameAndTypeAdded (old : List Entry) (name descriptor : List ℕ) (new : List Entry) (index : ℕ) : Type 0 where
  pub between : List Entry
  pub name_index : ℕ
  pub descriptor_index : ℕ
  pub texts_added : AreTextsAdded old name descriptor between name_index descriptor_index
  pub added : IsAdded between (NameAndType name_index descriptor_index) new index

-- a class, and the name and descriptor of its member
pub record IsMemberNamed (old : List Entry) (class name descriptor : List ℕ) (new : List Entry) (class_index member_index : ℕ)
    : Type 0 where
  pub between : List Entry
  pub class_added : IsNamedAdded Class old class between class_index
  pub member_added : IsNameAndTypeAdded between name descriptor new member_index

-- a member of a class (4.4.2)
pub record IsMemberAdded (constant : ℕ → ℕ → Entry) (old : List Entry) (class name descriptor : List ℕ) (new : List Entry)
    (index : ℕ) : Type 0 where
  pub between : List Entry
  pub class_index : ℕ
  pub member_index : ℕ
  pub named : IsMemberNamed old class name descriptor between class_index member_index
  pub added : IsAdded between (constant class_index member_index) new index

-- There is a pool with what is to be added, and its count and the numbers of all its constants fit their fields.
abbrev pub HasRoom : (List Entry → ℕ → Type 0) → Type 0
HasRoom Added = (new : List Entry) × (index : ℕ) × Added new index × IsTrue (pool_fits new)

-- the same of two indices
abbrev pub HasRoomForTwo : (List Entry → ℕ → ℕ → Type 0) → Type 0
HasRoomForTwo Added = (new : List Entry) × (first : ℕ) × (second : ℕ) × Added new first second × IsTrue (pool_fits new)

-- each constant keeps its index: others only joined behind it
abbrev pub IsGrownPool : List Entry → List Entry → Type 0
IsGrownPool old new = (more : List Entry) × (new ≡ old ++ more)
