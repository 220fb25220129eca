-- The class or the array that a constant names, by numbers (JVMS 5.4.3.1), or the number of the class of the error that is thrown.
use Rattle.std.specs.Prelude.{◌≡◌, ℕ, List, Some, None, Result, Ok, Err, slice_get}
use Rattle.jv_meaning_world.specs.World.{Loaded, World, class_named}
use Rattle.jv_meaning_typing.specs.Uses.{Site as SiteOfNames}
use Rattle.jv_meaning_typing.specs.Uses.Use.{New}
use Rattle.jv_meaning_typing.specs.LinkErrors.{OrError}
use Rattle.jv_meaning_typing.specs.ClassResolution.{ResolvedClass, resolve_class}
use Rattle.jv_meaning_typing.specs.ClassResolution.ResolvedClass.{ClassOf}
use Rattle.jv_meaning_typing.specs.Operands.{class_operand}
use Rattle.jv_meaning_machine.specs.Effects.{resolved_type}
use Rattle.jv_link.specs.declared.site.Site.{Site}
use Rattle.jv_link.specs.Seen.{seen_site}
use Rattle.jv_interp_members.specs.Resolved.{IsErrorOf}
use Rattle.jv_interp_objects.specs.declared.types.NumberedType.{NumberedType}
use Rattle.jv_interp_objects.specs.Types.{IsOfType}

-- A site is there, and the constant at an index of its class is of a class.
pub record NamesClass (world : World) (site : Site) (index : ℕ) : Type 0 where
  pub s : SiteOfNames
  pub text : List ℕ
  pub seen : seen_site world site ≡ Some s
  pub operand : class_operand s.by.class index ≡ Some text

-- It is a class or an array, whose type has these numbers.
pub record IsTypeOf (world : World) (expected : OrError ResolvedClass) (numbers : NumberedType) : Type 0 where
  pub resolved : ResolvedClass
  pub is : expected ≡ Ok resolved
  pub of_type : IsOfType world (resolved_type resolved) numbers

abbrev pub Names : World → OrError ResolvedClass → Result NumberedType ℕ → Type 0
Names world expected (Ok numbers) = IsTypeOf world expected numbers
Names world expected (Err number) = IsErrorOf world expected number

-- the class or the array that the constant at an index names, for an instruction at a site that has no rules of its own
abbrev pub IsNamed : World → Site → ℕ → Result NumberedType ℕ → Type 0
IsNamed world site index answer =
    (s : SiteOfNames) (text : List ℕ) → seen_site world site ≡ Some s → class_operand s.by.class index ≡ Some text
    → Names world (resolve_class world s None text) answer

-- ---- for `new` (6.5)

-- It is the class with this number.
pub record IsClassOf (world : World) (expected : OrError ResolvedClass) (number : ℕ) : Type 0 where
  pub l : Loaded
  pub is : expected ≡ Ok (ClassOf l)
  pub at : slice_get world number ≡ Some l
  pub named : class_named world l.class.name ≡ Some l

abbrev pub NamesNew : World → OrError ResolvedClass → Result ℕ ℕ → Type 0
NamesNew world expected (Ok number) = IsClassOf world expected number
NamesNew world expected (Err number) = IsErrorOf world expected number

-- the class that the constant at an index names, for `new` at a site
abbrev pub IsNewClass : World → Site → ℕ → Result ℕ ℕ → Type 0
IsNewClass world site index answer =
    (s : SiteOfNames) (text : List ℕ) → seen_site world site ≡ Some s → class_operand s.by.class index ≡ Some text
    → NamesNew world (resolve_class world s (Some New) text) answer
