-- Where an object was thrown, by the method's number (JVMS 4.6; own).
use Rattle.std.proofs.Common.{◌≡◌, ℕ, zero, suc, ◌<◌, ◌≤◌, List, [], ◌∷◌, Option, Some, None, length, slice_get, refl, sym, ap, ◌∙◌, arith}
use Rattle.std.specs.Option.{option_map}
use Rattle.std.proofs.lemmas.Option.{slice_get-map, slice_get_past}
use Rattle.jv_meaning_world.specs.World.{World}
use Rattle.jv_meaning_world.specs.Overriding.{Declared}
use Rattle.jv_interp_words.specs.FramesInWords.{methods_of}
use Rattle.jv_interp_members.specs.declared.methods.MethodRow.{MethodRow}
use Rattle.jv_interp_members.specs.declared.methods.Methods.{Methods}
use Rattle.jv_interp_members.specs.Methods.{AreMethods, known, method_in}

past : {X : Type 0} (xs : List X) (k : ℕ) → slice_get xs k ≡ None → length xs ≤ k
past [] k e = omega arith
past (x ∷ xs) zero e = absurd cc
past (x ∷ xs) (suc k) e = let rest = past xs k e in omega (arith, rest)

module _ (world : World) (methods : Methods) (h : AreMethods world methods) (number : ℕ) where
  same_place : option_map (method_in world) (slice_get methods.rows.items number) ≡ option_map known (slice_get (methods_of world) number)
  same_place =
      sym (slice_get-map (method_in world) methods.rows.items number) ∙ ap (λ (l : List (Option Declared)). slice_get l number) h.rows.places
      ∙ slice_get-map known (methods_of world) number

  pub none_past : length methods.rows.items ≤ number → slice_get (methods_of world) number ≡ None
  none_past e = by_method (slice_get (methods_of world) number) (ap (option_map (method_in world)) (sym (slice_get_past methods.rows.items number e)) ∙ same_place)
    where
      by_method : (o : Option Declared) → None ≡ option_map known o → o ≡ None
      by_method None k = refl
      by_method (Some d) k = absurd cc

  pub there : number < length methods.rows.items → (d : Declared) × (slice_get (methods_of world) number ≡ Some d)
  there within = by_row (slice_get methods.rows.items number) refl
    where
      by_method :
          (o : Option Declared) (row : MethodRow) → slice_get (methods_of world) number ≡ o → Some (method_in world row) ≡ option_map known o
          → (d : Declared) × (slice_get (methods_of world) number ≡ Some d)
      by_method None row at k = absurd cc
      by_method (Some d) row at k = (d, at)

      by_row : (o : Option MethodRow) → slice_get methods.rows.items number ≡ o → (d : Declared) × (slice_get (methods_of world) number ≡ Some d)
      by_row None at = absurd (omega (arith, within, past methods.rows.items number at))
      by_row (Some row) at =
          by_method (slice_get (methods_of world) number) row refl (ap (option_map (method_in world)) (sym at) ∙ same_place)
