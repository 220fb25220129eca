-- The body of a method whose code is known.
use Rattle.std.proofs.Common.{◌≡◌, ℕ, ◌<◌, Option, Some, None, length, slice_get, refl, sym, ap, ◌∙◌, subst, map, arith}
use Rattle.std.specs.Option.{option_map}
use Rattle.jv_format.specs.Format.{◌>>=◌}
use Rattle.jv_class.specs.Class.{Method}
use Rattle.jv_meaning_world.specs.World.{Loaded, World}
use Rattle.jv_meaning_world.specs.Verdicts.{declared_by}
use Rattle.jv_lookups.specs.declared.place.Place.{Place}
use Rattle.jv_lookups.specs.Places.{method_of, method_at}
use Rattle.std.proofs.lemmas.Option.{slice_get_within}
use Rattle.jv_class_structure.specs.Parts.{CodeSeen}
use Rattle.jv_class_structure.specs.Seen.{seen_code}
use Rattle.jv_meaning_world.specs.Overriding.{Declared}
use Rattle.jv_meaning_machine.specs.State.{Program}
use Rattle.jv_link_cache.specs.declared.bodies.Body.{Body}
use Rattle.jv_link_cache.specs.Bodies.{IsBody}
use Rattle.jv_interp_words.specs.FramesInWords.{methods_of}
use Rattle.jv_interp_members.specs.declared.methods.Methods.{Methods}
use Rattle.std.proofs.lemmas.List.{length-map}
use Rattle.jv_interp_members.specs.Methods.{method_in, known}
use Rattle.jv_interp_control.specs.Inside.Codes.{IsCodeOf}

same_some : {A : Type 0} (x y : A) → Some x ≡ Some y → x ≡ y
same_some x y e = cc

pub number_within :
    (methods : Methods) (number : ℕ) (program : Program) (d : Declared) (code : CodeSeen) → IsCodeOf methods number program d code
    → number < length methods.rows.items
number_within methods number program d code h =
    let low = slice_get_within (methods_of program.world) number d h.at in
    let size : length (map (method_in program.world) methods.rows.items) ≡ length (map known (methods_of program.world)) = ap length h.are.rows.places in
    let left = length-map methods.rows.items (method_in program.world) in
    let right = length-map (methods_of program.world) known in
    omega (arith, low, size, left, right)

pub no_body : (d : Declared) (code : CodeSeen) (body : Option Body) → body ≡ None → IsBody d.method body → d.method.code ≡ Some code → ⊥
no_body d code None e h is = absurd (clash (sym h ∙ is))
  where
    clash : None ≡ Some code → ⊥
    clash e = cc
no_body d code (Some body) e h is = absurd cc

pub body_code :
    (d : Declared) (code : CodeSeen) (found : Option Body) (body : Body) → found ≡ Some body → IsBody d.method found → d.method.code ≡ Some code
    → seen_code body.code ≡ code
body_code d code None body e h is = absurd cc
body_code d code (Some own) body e h is =
    let same : own ≡ body = cc in
    same_some (seen_code body.code) code (sym (subst (λ (b : Body). d.method.code ≡ Some (seen_code b.code)) same h.code) ∙ is)

-- the class at a method's place declares it
pub class_there : (world : World) (place : Place) (d : Declared) → method_at world place ≡ Some d → slice_get world place.class ≡ Some d.by
class_there world place d e = by_class (slice_get world place.class) refl e
  where
    by_method : (l : Loaded) (o : Option Method) → option_map (declared_by l) o ≡ Some d → l ≡ d.by
    by_method l None e = absurd cc
    by_method l (Some m) e =
        let same : declared_by l m ≡ d = cc in
        ap (λ (x : Declared). x.by) same

    by_class : (o : Option Loaded) → slice_get world place.class ≡ o → (o >>= method_of place.member) ≡ Some d → o ≡ Some d.by
    by_class None e f = absurd cc
    by_class (Some l) e f = ap Some (by_method l (slice_get l.class.methods place.member) f)
