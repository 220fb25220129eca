-- A field that an instruction uses in whichever method it stands.
use Rattle.std.proofs.Common.{◌≡◌, ℕ, true, Option, Some, None, Ok, refl, sym, ap, ◌∙◌}
use Rattle.std.specs.Prelude.{IfSome}
use Rattle.std.specs.Option.{option_map}
use Rattle.jv_pool.specs.Constants.{MemberReference}
use Rattle.jv_meaning_world.specs.World.{World}
use Rattle.jv_meaning_world.specs.LookUps.{DeclaredField}
use Rattle.jv_meaning_typing.specs.Uses.{Use as UseOfNames, Site as SiteOfNames}
use Rattle.jv_meaning_typing.specs.LinkErrors.{OrError, provided, ◌>>=◌}
use Rattle.jv_meaning_typing.specs.LinkErrors.LinkError.{IncompatibleClassChangeError, IllegalAccessError}
use Rattle.jv_meaning_typing.specs.Kind.{has_field_kind, can_use_final}
use Rattle.jv_meaning_typing.specs.FieldResolution.{resolved_field, resolve_field}
use Rattle.jv_lookups.specs.Places.{field_at}
use Rattle.jv_link.specs.declared.site.Site.{Site}
use Rattle.jv_link.specs.declared.site.Use.{Use}
use Rattle.jv_link.specs.Seen.{place_of, seen_use, answer}
use Rattle.jv_link.specs.Answers.{IsFieldResolved}
use Rattle.jv_link.proofs.Placed.{method_placed}
use Rattle.jv_link_cache.specs.declared.field_use.FieldUse.{FieldUse}
use Rattle.jv_link_cache.specs.FieldUses.{IsFieldUse}
use Rattle.jv_link_cache.specs.Inside.Fields.{IsUsedAtOnce}

same_some : {A : Type 0} → {x y : A} → Some x ≡ Some y → x ≡ y
same_some e = cc

passes : (how : UseOfNames) (s : SiteOfNames) (d : DeclaredField) (found : OrError DeclaredField) → found ≡ Ok d
    → has_field_kind how d.field ≡ true → can_use_final how s d ≡ true
    → (found >>= (λ (e : DeclaredField). provided (has_field_kind how e.field) IncompatibleClassChangeError e)
    >>= (λ (e : DeclaredField). provided (can_use_final how s e) IllegalAccessError e)) ≡ Ok d
passes how s d found is kind settable =
    ap (λ (o : OrError DeclaredField). o >>= (λ (e : DeclaredField). provided (has_field_kind how e.field) IncompatibleClassChangeError e)
    >>= (λ (e : DeclaredField). provided (can_use_final how s e) IllegalAccessError e)) is
    ∙ ap (λ b. provided b IncompatibleClassChangeError d >>= (λ (e : DeclaredField). provided (can_use_final how s e) IllegalAccessError e)) kind
    ∙ ap (λ b. provided b IllegalAccessError d) settable

pub at_once : (world : World) (site : Site) (how : Use) (index : ℕ) (used : FieldUse) → IsUsedAtOnce world site.class index how used
    → IsFieldResolved world site how index (Ok used.place)
at_once world site how index used h = λ s reference at operand.
    by_field s reference (field_at world used.place) refl (h.found.found s.by (method_placed world (place_of site) s at) reference operand)
  where
    by_field : (s : SiteOfNames) (reference : MemberReference) (o : Option DeclaredField) → field_at world used.place ≡ o
        → option_map answer (field_at world used.place) ≡ Some (resolved_field world s.by reference)
        → option_map answer (field_at world used.place) ≡ Some (resolve_field world s (seen_use how) reference)
    by_field s reference None at found = absurd (none found (ap (option_map answer) at))
      where
        none : {A : Type 0} → {x : Option A} → {y : A} → x ≡ Some y → x ≡ None → ⊥
        none e f = cc
    by_field s reference (Some d) at found =
        let flags = h.found.used.flags d at in
        let is : resolved_field world s.by reference ≡ Ok d = same_some (sym found ∙ ap (option_map answer) at) in
        ap (option_map answer) at ∙ ap Some (sym (passes (seen_use how) s d (resolved_field world s.by reference) is (h.kind d.field flags) (h.settable s d flags)))

pub found_at_once : (world : World) (site : Site) (how : Use) (index : ℕ) (found : Option FieldUse) → IfSome found (λ used. IsUsedAtOnce world site.class index how used)
    → IfSome found (λ used. IsFieldResolved world site how index (Ok used.place))
found_at_once world site how index None h = tt
found_at_once world site how index (Some used) h = at_once world site how index used h

pub use_at_once : (world : World) (class : ℕ) (how : Use) (index : ℕ) (found : Option FieldUse) → IfSome found (λ used. IsUsedAtOnce world class index how used)
    → IfSome found (IsFieldUse world)
use_at_once world class how index None h = tt
use_at_once world class how index (Some used) h = h.found.used
