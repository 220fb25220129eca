-- What a guest holds at its start, in words (JVMS 5.2; own): static fields are zero or null, and the machine has made an OutOfMemoryError
-- object and an empty array of Strings.
use Rattle.std.specs.Prelude.{◌≡◌, ℕ, ◌+◌, List, [], ◌∷◌, Some, codes, length, slice_get, sum_by}
use Rattle.jv_meaning_world.specs.World.{Loaded, World, class_named}
use Rattle.jv_meaning_typing.specs.Layout.{field_words}
use Rattle.jv_meaning_machine.specs.Start.{Budget, start_memory}
use Rattle.jv_interp_heap.specs.ObjectsInBlocks.{Blocks}
use Rattle.jv_interp_heap.specs.NewBlocks.{Joins}
use Rattle.jv_interp_held.specs.declared.held.Held.{Held}
use Rattle.jv_interp_held.specs.HeldInWords.{static_fields, MemoryStands}
use Rattle.jv_interp_heap.specs.SystemNumbers.{IsGuestsWorld}
use Rattle.jv_interp_heap.specs.declared.numbers.TheConstants.{STRING, OUT_OF_MEMORY}

-- ---- the two objects

-- the OutOfMemoryError object, with a field that is null, and then an array of Strings with no component: an array's first word is
-- 2^31 and more, by 8 and the class's number where its components are of a class
pub record BothJoin (error strings : ℕ) (before after : Blocks) : Type 0 where
  pub between : Blocks
  pub error_joins : Joins (OUT_OF_MEMORY ∷ 0 ∷ []) before between error
  pub strings_join : Joins ((2147483648 + (8 + STRING)) ∷ 0 ∷ []) between after strings

-- ---- all of it

abbrev pub Differ : List (List ℕ) → Type 0
Differ texts = (number other : ℕ) (text : List ℕ) → slice_get texts number ≡ Some text → slice_get texts other ≡ Some text → other ≡ number

-- A guest starts whose static fields have so many words, and whose literals are of so many texts, no two of them alike.
pub record Starting (static_words literal_count cells output : ℕ) (world : World) (texts : List (List ℕ)) (budget : Budget)
    (error : Loaded) : Type 0 where
  pub guests : IsGuestsWorld world
  pub statics : sum_by field_words (static_fields world) ≡ static_words
  pub count : length texts ≡ literal_count
  pub differ : Differ texts
  pub cells_are : budget.cells ≡ cells
  pub output_is : budget.output ≡ output
  pub error_named : class_named world (codes "java/lang/OutOfMemoryError") ≡ Some error

-- The memory of each such guest stands.
abbrev pub Starts : ℕ → ℕ → List ℕ → ℕ → ℕ → Blocks → Held → Type 0
Starts static_words literal_count input cells output after held =
    (world : World) (texts : List (List ℕ)) (budget : Budget) (error : Loaded)
    → Starting static_words literal_count cells output world texts budget error
    → MemoryStands world texts (start_memory world input budget error) (held.out_of_memory ∷ held.arguments ∷ []) held after
