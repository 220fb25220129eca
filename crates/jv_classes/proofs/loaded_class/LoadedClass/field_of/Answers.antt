use Rattle.std.proofs.Common.{◌≡◌, ◌<◌, Option, ℕ, length, ◌∙◌, sym, ap, subst, refl}
use Rattle.std.specs.Prelude.{◌&&◌, position, slice_get, IfSome}
use Rattle.std.specs.Option.{option_and_then}
use Rattle.std.specs.Str.{bytes_eq}
use Rattle.std.specs.Arc.{arc_value}
use Rattle.jv_class.specs.Class.{Field}
use Rattle.jv_classes.specs.Inside.Kept.{class_of_file}
use Rattle.jv_classes.specs.Inside.Seen.{field_seen, declares}
use Rattle.jv_classes.proofs.Places.{place_seen, found_there, place_within}
use Rattle.jv_classes.proofs.loaded_class.LoadedClass.field_of.Goals as goal

pub returns : goal.returns
returns c =
    let test = λ (m : Field). bytes_eq m.name c.args.name.now && bytes_eq m.descriptor c.args.descriptor.now in
    let fields = c.args.self.now.class.fields in
    let place : c.place_of.result ≡ position test fields =
    c.place_of.ensures
    ∙ (ap (λ read. position (declares c.args.name.now c.args.descriptor.now) read.kept.fields) c.deref.ensures
    ∙ (ap (position (declares c.args.name.now c.args.descriptor.now)) c.self.invariant.keeps.fields
    ∙ (sym (place_seen (declares c.args.name.now c.args.descriptor.now) test field_seen (λ m. refl) (class_of_file (arc_value c.self.inside.read).file).fields)
    ∙ ap (λ l. position test l.class.fields) c.self.view_is))) in
    record {
      place = place;
      found = ap (option_and_then (slice_get fields)) place ∙ found_there test fields;
      within = subst (λ (found : Option ℕ). IfSome found (λ at. at < length fields)) (sym place) (place_within test fields);
    }
