use Rattle.std.proofs.Common.{◌≡◌, Option, Some, List, ℕ, [], codes, refl, sym, ap, true≢false}
use Rattle.std.specs.Option.{unwrap_or}
use Rattle.std.specs.Str.{bytes_eq}
use Rattle.jv_class.specs.Class.{Class}
use Rattle.jv_meaning_world.proofs.system_law.library_rows.Goals as goal

-- the two names differ in their second part
wrong_superclass : Some (codes "java/util/Tool") ≡ Some (codes "java/lang/Object") → ⊥
wrong_superclass e = true≢false (ap (λ (o : Option (List ℕ)). bytes_eq (unwrap_or o []) (codes "java/util/Tool")) e)

pub returns : goal.returns
returns c = record {
  none = refl;
  names = refl;
  string_has_lent_methods = refl;
  string_has_lent_version = refl;
  string_has_lent_pool = refl;
  string_keeps_its_fields = refl;
  string_keeps_its_superclass = refl;
  string_is_comparable = refl;
  string_keeps_its_place = refl;
  object_is_as_it_was = refl;
  interface_is_as_it_was = refl;
  io_is_as_it_was = refl;
  nothing_lent = refl;
  but_for_string = refl;
  others = refl;
  first_counts = refl;
  own_is_behind = refl;
  reserved = refl;
  taken = refl;
  lends = record { same = refl; initialized = refl; above_arrays = λ e. absurd (true≢false (sym e)) };
  lends_not = λ h. wrong_superclass (ap (λ (c : Class). c.super_class) h.same);
}
