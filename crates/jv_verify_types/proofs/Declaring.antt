-- The members that classes declare, as they are looked up and as they are kept.
use Rattle.std.proofs.Common.{◌≡◌, ℕ, ◌<◌, Bool, List, length, get_or, Option, Some, sym, ap, ◌∙◌, subst}
use Rattle.std.specs.Prelude.{IfSome, slice_get}
use Rattle.std.specs.Option.{option_map, option_and_then}
use Rattle.jv_format.specs.Format.{◌>>=◌}
use Rattle.jv_pool.specs.Constants.{Entry, MemberReference}
use Rattle.jv_class.specs.Class.{field_named, method_named}
use Rattle.jv_meaning_world.specs.World.{Loaded, World}
use Rattle.jv_meaning_world.specs.Verdicts.{declared_by}
use Rattle.jv_meaning_world.specs.LookUps.{field_by}
use Rattle.jv_lookups.specs.Places.{field_in, method_of}
use Rattle.jv_verify_types.specs.Inside.Answered.{AreTextsOf, IsDeclared, IsFieldDeclared, IsMethodDeclared, IsFieldOfClass, IsMethodOfClass, IsAnswer}
use Rattle.jv_verify_types.proofs.Protecting.{class_there}

-- ---- what a look into a class finds

module _ (world classes : List Loaded) (class : ℕ) (x : Loaded) (name descriptor : List ℕ) (place : Option ℕ) (same : classes ≡ world) (is : x ≡ get_or classes class x) where
  pub method_looked_up : option_and_then (slice_get x.class.methods) place ≡ method_named x.class name descriptor →
      IfSome place (λ p. p < length x.class.methods) → IsMethodDeclared world class name descriptor place
  method_looked_up found within = record {
    found = λ l at. subst (λ (k : Loaded). option_and_then (slice_get k.class.methods) place ≡ method_named k.class name descriptor) (class_there world classes class x l same is at) found;
    within = λ l at. subst (λ (k : Loaded). IfSome place (λ p. p < length k.class.methods)) (class_there world classes class x l same is at) within;
  }

  pub field_looked_up : option_and_then (slice_get x.class.fields) place ≡ field_named x.class name descriptor →
      IfSome place (λ p. p < length x.class.fields) → IsFieldDeclared world class name descriptor place
  field_looked_up found within = record {
    found = λ l at. subst (λ (k : Loaded). option_and_then (slice_get k.class.fields) place ≡ field_named k.class name descriptor) (class_there world classes class x l same is at) found;
    within = λ l at. subst (λ (k : Loaded). IfSome place (λ p. p < length k.class.fields)) (class_there world classes class x l same is at) within;
  }

-- ---- its place in the world

pub method_placed : (world : World) (class : ℕ) (r : MemberReference) (member : ℕ) → class < length world → IsMethodDeclared world class r.name r.descriptor (Some member)
    → IsMethodOfClass world class r (Some (record { class = class; member = member }))
method_placed world class r member less d = record {
  found = λ l at. ap (λ o. o >>= method_of member) at ∙ ap (option_map (declared_by l)) (d.found l at);
  stands = record { class = less; member = d.within };
}

pub field_placed : (world : World) (class : ℕ) (r : MemberReference) (member : ℕ) → class < length world → IsFieldDeclared world class r.name r.descriptor (Some member)
    → IsFieldOfClass world class r (Some (record { class = class; member = member }))
field_placed world class r member less d = record {
  found = λ l at. ap (λ o. o >>= field_in member) at ∙ ap (option_map (field_by l)) (d.found l at);
  stands = record { class = less; member = d.within };
}

-- ---- what is kept

same_text : {a b : List ℕ} → Some a ≡ Some b → a ≡ b
same_text e = cc

-- what was found for one reference is the answer for each with the same texts
pub answers_all : (world : World) (pool : List Entry) (of_method : Bool) (class name_index descriptor_index : ℕ) (r : MemberReference) (name descriptor : List ℕ) (place : ℕ)
    → AreTextsOf pool name_index descriptor_index r → name ≡ r.name → descriptor ≡ r.descriptor → IsDeclared of_method world class name descriptor (Some place)
    → IsAnswer world pool (record { of_method = of_method; class = class; name = name_index; descriptor = descriptor_index }) place
answers_all world pool of_method class name_index descriptor_index r name descriptor place texts e f is s others =
    subst (λ d. IsDeclared of_method world class s.name d (Some place)) (f ∙ same_text (sym texts.descriptor_is ∙ others.descriptor_is))
    (subst (λ n. IsDeclared of_method world class n descriptor (Some place)) (e ∙ same_text (sym texts.name_is ∙ others.name_is)) is)
