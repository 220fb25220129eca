use Rattle.std.proofs.Common.{◌≡◌, ◌<◌, Option, ℕ, length, ◌∙◌, sym, ap, subst, refl}
use Rattle.std.specs.Prelude.{◌&&◌, position, slice_get, IfSome}
use Rattle.std.specs.Option.{option_and_then}
use Rattle.std.specs.Str.{bytes_eq}
use Rattle.std.specs.Arc.{arc_value}
use Rattle.jv_class.specs.Class.{Method}
use Rattle.jv_classes.specs.Inside.Kept.{class_of_file}
use Rattle.jv_classes.specs.Inside.Seen.{method_seen, declares}
use Rattle.jv_classes.proofs.Places.{place_seen, found_there, place_within}
use Rattle.jv_classes.proofs.loaded_class.LoadedClass.method_of.Goals as goal

pub returns : goal.returns
returns c =
    let test = λ (m : Method). bytes_eq m.name c.args.name.now && bytes_eq m.descriptor c.args.descriptor.now in
    let methods = c.args.self.now.class.methods in
    let place : c.place_of.result ≡ position test methods =
    c.place_of.ensures
    ∙ (ap (λ read. position (declares c.args.name.now c.args.descriptor.now) read.kept.methods) c.deref.ensures
    ∙ (ap (position (declares c.args.name.now c.args.descriptor.now)) c.self.invariant.keeps.methods
    ∙ (sym (place_seen (declares c.args.name.now c.args.descriptor.now) test method_seen (λ m. refl) (class_of_file (arc_value c.self.inside.read).file).methods)
    ∙ ap (λ l. position test l.class.methods) c.self.view_is))) in
    record {
      place = place;
      found = ap (option_and_then (slice_get methods)) place ∙ found_there test methods;
      within = subst (λ (found : Option ℕ). IfSome found (λ at. at < length methods)) (sym place) (place_within test methods);
    }
