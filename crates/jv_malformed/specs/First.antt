-- The first of several items at which something is at fault.
use Rattle.std.specs.Prelude.{◌≡◌, ℕ, ◌<◌, Bool, List, ◌++◌, Option, Some, IsTrue}
use Rattle.std.specs.List.{flat_map, list_all}
use Rattle.jv_format.specs.Format.{half}

-- an item stands at a place that breaks a rule, and all at places before keep it
pub record IsFirstBreach {A : Type 0} (Keeps : A → Type 0) (at : ℕ → Option A) (place : ℕ) : Type 0 where
  pub item : A
  pub here : at place ≡ Some item
  pub breaks : ¬ Keeps item
  pub before : (k : ℕ) (other : A) → k < place → at k ≡ Some other → Keeps other

-- bytes begin with a count in two bytes, behind it with items that may stand there, one after the other, and then with these bytes
pub record BeginsWithItems {A : Type 0} (spelling : A → List ℕ) (may_stand : A → Bool) (count : ℕ) (items : List A) (rest bytes : List ℕ)
    : Type 0 where
  pub count_fits : count < 65536
  pub stand : IsTrue (list_all may_stand items)
  pub begins : bytes ≡ half.spelling count ++ flat_map spelling items ++ rest

-- behind the items before it none is spelled that has this number, which is one of those that the count wants
pub record IsFirstMissing {A : Type 0} (spelling : A → List ℕ) (may_stand : A → Bool) (next_of : List A → ℕ) (number : ℕ)
    (bytes : List ℕ) : Type 0 where
  pub count : ℕ
  pub before : List A
  pub rest : List ℕ
  pub begins : BeginsWithItems spelling may_stand count before rest bytes
  pub numbered : next_of before ≡ number
  pub wanted : number < count
  pub none : (item : A) (after : List ℕ) → IsTrue (may_stand item) → rest ≡ spelling item ++ after → ⊥
