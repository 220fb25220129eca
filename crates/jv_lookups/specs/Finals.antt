-- Classes by their numbers that break a final method of a superclass (JVMS 4.10, 5.4.5).
use Rattle.std.specs.Prelude.{ℕ, Bool, not, List, [], slice_get, IsTrue, ◌≡◌}
use Rattle.std.specs.List.{list_all, list_any}
use Rattle.std.specs.Str.{bytes_eq}
use Rattle.jv_meaning_world.specs.World.{Loaded}
use Rattle.jv_meaning_world.specs.Verdicts.{passes, is_final_instance, breaks_final}
use Rattle.jv_meaning_world.specs.Numbers.{classes_at}

-- the class declares a final instance method (4.6)
abbrev pub declares_final : Loaded → Bool
declares_final l = list_any is_final_instance l.class.methods

-- none of these classes has the class's name
abbrev pub have_other_names : Loaded → List Loaded → Bool
have_other_names l others = list_all (λ s. not (bytes_eq s.class.name l.class.name)) others

-- no superclass has the class's name: a class that is not circular is not among its superclasses, and names differ in a world
abbrev pub AreUnlike : List Loaded → ℕ → List ℕ → Type 0
AreUnlike classes of chain = IsTrue (passes (λ l. have_other_names l (classes_at classes chain)) (slice_get classes of))

-- the class with a number breaks a final method of its superclasses, whose numbers these are, the direct one first
abbrev pub breaks_final_at : List Loaded → ℕ → List ℕ → Bool
breaks_final_at classes of chain = passes (λ l. breaks_final l [] (classes_at classes chain)) (slice_get classes of)

-- the class with a number, where there is one, with the superclasses that have these numbers
abbrev pub PassesWith : List Loaded → ℕ → List ℕ → (Loaded → List Loaded → Bool) → Bool → Type 0
PassesWith classes of chain test answer = answer ≡ passes (λ l. test l (classes_at classes chain)) (slice_get classes of)
