-- What is passed over behind a constant pool.
use Rattle.std.specs.Prelude.{◌≡◌, ℕ, ◌<◌, List, [], length, Option, Some, None, Result, Ok, Err}
use Rattle.std.specs.Borrow.{Bor}
use Rattle.jv_format.specs.Format.{half}
use Rattle.jv_pool.specs.Constants.{Entry}
use Rattle.jv_class_structure.specs.Structure.{field_bytes, method_bytes, attribute_bytes}
use Rattle.jv_class_structure.specs.Inside.Reading.{table}
use Rattle.jv_malformed.specs.First.{IsFirstMissing}
use Rattle.jv_malformed.specs.Part.{BeginsWithTable, BeginsWithHead, BeginsWithMethods, field_stands, method_stands, attribute_stands, IsFaultyStructure}
use Rattle.jv_malformed.specs.declared.structure.FaultyStructure.{FaultyStructure}
use Rattle.jv_malformed.specs.declared.structure.FaultyStructure.TheVariants.{FieldCount, Field, MethodCount, Method}

-- the interfaces are read, and these bytes follow; or none are
abbrev pub AreInterfacesPassed : List ℕ → Option (Bor (List ℕ)) → Type 0
AreInterfacesPassed bytes None = (table half).read bytes ≡ None
AreInterfacesPassed bytes (Some rest) = (interfaces : List ℕ) × ((table half).read bytes ≡ Some (interfaces, rest.now))

abbrev pub IsHeadPassed : List ℕ → Option (Bor (List ℕ)) → Type 0
IsHeadPassed bytes None = (rest : List ℕ) → BeginsWithHead rest bytes → ⊥
IsHeadPassed bytes (Some rest) = BeginsWithHead rest.now bytes

abbrev pub AreFieldsPassed : List Entry → List ℕ → Result (Bor (List ℕ)) FaultyStructure → Type 0
AreFieldsPassed pool bytes (Ok rest) = BeginsWithTable field_bytes (field_stands pool) rest.now bytes
AreFieldsPassed pool bytes (Err FieldCount) = length bytes < 2
AreFieldsPassed pool bytes (Err (Field place)) = IsFirstMissing field_bytes (field_stands pool) length place bytes
AreFieldsPassed pool bytes (Err fault) = ⊥

abbrev pub AreMethodsPassed : List Entry → List ℕ → Result (Bor (List ℕ)) FaultyStructure → Type 0
AreMethodsPassed pool bytes (Ok rest) = BeginsWithTable method_bytes (method_stands pool) rest.now bytes
AreMethodsPassed pool bytes (Err MethodCount) = length bytes < 2
AreMethodsPassed pool bytes (Err (Method place)) = IsFirstMissing method_bytes (method_stands pool) length place bytes
AreMethodsPassed pool bytes (Err fault) = ⊥

-- behind the methods no attributes stand that end the bytes
abbrev pub NoWhole : List Entry → List ℕ → Type 0
NoWhole pool bytes =
    (rest : List ℕ) → BeginsWithMethods pool rest bytes → BeginsWithTable attribute_bytes (attribute_stands pool) [] rest → ⊥

abbrev pub IsFaultyUnlessWhole : List Entry → List ℕ → FaultyStructure → Type 0
IsFaultyUnlessWhole pool bytes fault = NoWhole pool bytes → IsFaultyStructure pool bytes fault
