-- The headers of the system's classes, and how those of a library's classes compare.
use Rattle.std.specs.Prelude.{◌≡◌, ◌≢◌, ℕ, ◌||◌, Bool, List, [], map, Option, Some, IsNone, IsSome, IsTrue, codes, slice_get}
use Rattle.std.specs.List.{list_any}
use Rattle.std.specs.Option.{option_copied}
use Rattle.std.specs.Str.{bytes_eq}
use Rattle.jv_class.specs.Class.{Class, Field, Method, method_named}
use Rattle.jv_classes.specs.Inside.KeptNames.{texts_of}
use Rattle.jv_classes.specs.declared.member.Member.{Member}
use Rattle.jv_meaning_world.specs.Numbers.{HoldsAtNumber, number_named}
use Rattle.jv_meaning_world.specs.System.Interfaces.{cloneable, serializable}
use Rattle.jv_meaning_world.specs.World.{Loaded, World}
use Rattle.jv_loader.specs.declared.header.FieldHeader.{FieldHeader}
use Rattle.jv_loader.specs.declared.header.Header.{Header as HeaderRow}
use Rattle.jv_loader.specs.declared.library_fault.LibraryFault.{LibraryFault}
use Rattle.jv_loader.specs.declared.library_fault.LibraryFault.TheVariants.{Header, Initializer, AboveArrays}

-- a field by its flags and texts
pub record FieldSeen : Type 0 where
  pub access_flags : ℕ
  pub name : List ℕ
  pub descriptor : List ℕ

-- what a class has besides its version, its methods and its constants
pub record HeaderSeen : Type 0 where
  pub access_flags : ℕ
  pub name : List ℕ
  pub super_class : Option (List ℕ)
  pub interfaces : List (List ℕ)
  pub fields : List FieldSeen

abbrev pub field_of : Field → FieldSeen
field_of f = record { access_flags = f.access_flags; name = f.name; descriptor = f.descriptor }

abbrev pub member_of : Member → FieldSeen
member_of m = record { access_flags = m.access_flags; name = m.name.now; descriptor = m.descriptor.now }

abbrev pub header_of : Class → HeaderSeen
header_of class = record {
  access_flags = class.access_flags;
  name = class.name;
  super_class = class.super_class;
  interfaces = class.interfaces;
  fields = map field_of class.fields;
}

-- ---- the same of a row of the code's table

abbrev pub field_in : FieldHeader → FieldSeen
field_in f = record { access_flags = f.access_flags; name = f.name.now; descriptor = f.descriptor.now }

abbrev pub header_in : HeaderRow → HeaderSeen
header_in h = record {
  access_flags = h.access_flags;
  name = h.name.now;
  super_class = option_copied h.super_name;
  interfaces = texts_of h.interfaces.now;
  fields = map field_in h.fields.now;
}

abbrev pub headers_in : List HeaderRow → List HeaderSeen
headers_in rows = map header_in rows

-- ---- a class that lends its methods to the one with a header

abbrev pub is_above_arrays : List ℕ → Bool
is_above_arrays name = bytes_eq name cloneable.name || bytes_eq name serializable.name

abbrev pub initializer_of : Class → Option Method
initializer_of class = method_named class (codes "<clinit>") (codes "()V")

pub record LendsTo (h : HeaderSeen) (by : Class) : Type 0 where
  pub header : header_of by ≡ h
  pub initializer : IsNone (initializer_of by)
  pub above_arrays : IsTrue (is_above_arrays by.name) → by.methods ≡ []

-- why it does not, where it stands at a place
abbrev pub IsBeside : ℕ → HeaderSeen → Class → LibraryFault → Type 0
IsBeside place h by (Header p) = (p ≡ place) × (header_of by ≢ h)
IsBeside place h by (Initializer p) = (p ≡ place) × IsSome (initializer_of by)
IsBeside place h by (AboveArrays p) = (p ≡ place) × IsTrue (is_above_arrays by.name) × (by.methods ≢ [])
IsBeside place h by _ = ⊥

-- ---- the same in a list of classes

abbrev pub LendsIn : World → HeaderSeen → Type 0
LendsIn world h = (place : ℕ) → number_named world h.name ≡ Some place → HoldsAtNumber world place (λ l. LendsTo h l.class)

abbrev pub AllLend : World → List HeaderSeen → Type 0
AllLend world headers = (k : ℕ) (h : HeaderSeen) → slice_get headers k ≡ Some h → LendsIn world h

pub record IsFaultIn (world : World) (h : HeaderSeen) (fault : LibraryFault) : Type 0 where
  pub place : ℕ
  pub by : Loaded
  pub named : number_named world h.name ≡ Some place
  pub there : slice_get world place ≡ Some by
  pub beside : IsBeside place h by.class fault

pub record IsFaultOfOne (world : World) (headers : List HeaderSeen) (fault : LibraryFault) : Type 0 where
  pub at : ℕ
  pub h : HeaderSeen
  pub row : slice_get headers at ≡ Some h
  pub wrong : IsFaultIn world h fault

-- a class with one of the headers has the name
abbrev pub is_lent : List HeaderSeen → List ℕ → Bool
is_lent headers name = list_any (λ h. bytes_eq h.name name) headers
