-- What a call runs does not depend on the method at the site, and on its class for invokespecial alone.
use Rattle.std.proofs.Common.{◌≡◌, ℕ, Option, Some, Result, Ok, refl, sym, ap, ◌∙◌}
use Rattle.std.specs.Prelude.{slice_get}
use Rattle.jv_meaning_world.specs.World.{Loaded, World}
use Rattle.jv_lookups.proofs.Standing.{method_stands}
use Rattle.jv_meaning_typing.specs.Uses.{Site as SiteOfNames}
use Rattle.jv_meaning_typing.specs.LinkErrors.{◌>>=◌}
use Rattle.jv_meaning_typing.specs.MethodResolution.{MethodTarget as TargetOfNames, target as named_so}
use Rattle.jv_meaning_typing.specs.Selection.{select, select_special}
use Rattle.jv_link.specs.declared.error.LinkError.{LinkError}
use Rattle.jv_link.specs.declared.site.Site.{Site}
use Rattle.jv_link.specs.declared.site.Use.{Use}
use Rattle.jv_link.specs.declared.site.Use.TheVariants.{Getstatic, Putstatic, Getfield, Putfield, Invokevirtual, Invokespecial, Invokestatic, Invokeinterface, New}
use Rattle.jv_link.specs.declared.target.MethodTarget.{MethodTarget}
use Rattle.jv_link.specs.Seen.{seen_use, seen_site, place_of, IsSite}
use Rattle.jv_link.specs.Objects.{object_class_at}
use Rattle.jv_link.specs.Answers.{IsSelected}
use Rattle.jv_link.proofs.Placed.{method_placed}
use Rattle.jv_link_cache.specs.Inside.Selections.{IsFor}

same_some : {A : Type 0} → {x y : A} → Some x ≡ Some y → x ≡ y
same_some e = cc

module _ (world : World) where
  -- two sites of one class are in the same class
  in_one_class : (one other : Site) (s t : SiteOfNames) → one.class ≡ other.class → seen_site world one ≡ Some s → seen_site world other ≡ Some t → s.by ≡ t.by
  in_one_class one other s t same at_s at_t =
      same_some (sym (method_placed world (place_of one) s at_s) ∙ ap (slice_get world) same ∙ method_placed world (place_of other) t at_t)

  alike : (how : Use) (class : ℕ) (one other : Site) (s t : SiteOfNames) (target : TargetOfNames) (object : Option Loaded)
      → IsFor how class one → IsFor how class other → seen_site world one ≡ Some s → seen_site world other ≡ Some t
      → select world s (seen_use how) target object ≡ select world t (seen_use how) target object
  alike Getstatic class one other s t target object is_one is_other at_s at_t = refl
  alike Putstatic class one other s t target object is_one is_other at_s at_t = refl
  alike Getfield class one other s t target object is_one is_other at_s at_t = refl
  alike Putfield class one other s t target object is_one is_other at_s at_t = refl
  alike Invokevirtual class one other s t target object is_one is_other at_s at_t = refl
  alike Invokespecial class one other s t target object is_one is_other at_s at_t =
      ap (λ by. select_special world by target >>= λ d. Ok (named_so target.named d)) (in_one_class one other s t (is_one ∙ sym is_other) at_s at_t)
  alike Invokestatic class one other s t target object is_one is_other at_s at_t = refl
  alike Invokeinterface class one other s t target object is_one is_other at_s at_t = refl
  alike New class one other s t target object is_one is_other at_s at_t = refl

  -- what a call runs at a site, it runs at each other one that is for the same
  pub selected_for : (how : Use) (class : ℕ) (one other : Site) (target : MethodTarget) (object : Option ℕ) (answer : Result MethodTarget LinkError)
      → IsSite world one → IsFor how class one → IsFor how class other
      → IsSelected world one how target object answer → IsSelected world other how target object answer
  selected_for how class one other target object answer site is_one is_other selected t n at_t at_n =
      let stands = method_stands world (place_of one) site in
      selected stands.0 n stands.1 at_n
      ∙ ap Some (alike how class one other stands.0 t n (object_class_at world object) is_one is_other stands.1 at_t)
