-- What is found of a constant pool.
use Rattle.std.specs.Prelude.{◌≡◌, ℕ, List, Option, Some, None}
use Rattle.std.specs.List.{All}
use Rattle.jv_pool.specs.declared.constant.Kind.{Kind}
use Rattle.jv_pool.specs.Constants.{Entry, at_index, kind_at}
use Rattle.jv_pool.specs.Rules.{KeepsRules}
use Rattle.jv_pool.specs.Inside.Known.{IsKept}
use Rattle.jv_malformed.specs.First.{IsFirstBreach}
use Rattle.jv_malformed.specs.Part.{BeginsWithPool, IsFaultyPool}
use Rattle.jv_malformed.specs.declared.pool.FaultyPool.{FaultyPool}
use Rattle.jv_malformed.specs.declared.pool.FaultyPool.TheVariants.{Count, Missing, Broken}

-- the kind of the constant at an index, which breaks its rule; none where it keeps that, or where none is there
abbrev pub IsBrokenAt : List Entry → ℕ → Option Kind → Type 0
IsBrokenAt pool index None = IsKept pool (at_index pool index)
IsBrokenAt pool index (Some kind) = (kind_at pool index ≡ Some kind) × (¬ IsKept pool (at_index pool index))

-- the first constant that breaks its rule, where one does
abbrev pub IsFoundBroken : List Entry → Option FaultyPool → Type 0
IsFoundBroken pool None = All (KeepsRules pool) pool
IsFoundBroken pool (Some Count) = ⊥
IsFoundBroken pool (Some (Missing index)) = ⊥
IsFoundBroken pool (Some (Broken index kind)) = (kind_at pool index ≡ Some kind) × IsFirstBreach (KeepsRules pool) (at_index pool) index

-- what is at fault, or a pool
abbrev pub IsFoundInPool : List ℕ → Option FaultyPool → Type 0
IsFoundInPool bytes None = BeginsWithPool bytes
IsFoundInPool bytes (Some fault) = IsFaultyPool bytes fault
