-- The first direct super in which a fault is found.
use Rattle.std.proofs.Common.{◌≡◌, ℕ, Bool, true, false, cond, List, ◌∷◌, Option, Some, None, refl, sym, ap, ◌∙◌}
use Rattle.std.specs.Prelude.{is_some, slice_get}
use Rattle.std.specs.List.{find}
use Rattle.std.specs.Option.{option_map}
use Rattle.jv_class_structure.specs.Structure.{ClassStructure}
use Rattle.jv_pool.specs.Constants.{class_name_at}
use Rattle.jv_class.specs.Class.{Class, class_of, super_of, all_found, field_of, method_of}
use Rattle.jv_class.specs.ClassFile.{class_name}
use Rattle.jv_meaning_world.specs.World.{Loaded, World, class_named}
use Rattle.jv_format.specs.Format.{◌>>=◌}
use Rattle.jv_meaning_world.specs.Numbers.{number_named}
use Rattle.jv_meaning_world.specs.declared.verdict.LoadVerdict.{LoadVerdict}
use Rattle.jv_meaning_world.specs.declared.verdict.LoadVerdict.TheVariants.{Version, Format, Unsupported, Reserved, Duplicate, Circular, NoSuper, WrongKind, NoAccess, FinalBroken}
use Rattle.jv_classes.proofs.Followed.{at_named}
use Rattle.jv_explain.specs.declared.supers.SuperFault.{SuperFault}
use Rattle.jv_explain.specs.Inside.Blamed.{blamed_among}
use Rattle.jv_explain.specs.Supers.{Super, blamed_text, fault_of, line_text, super_fault}

-- a name without a number is that of no class
pub no_class : (world : World) (name : List ℕ) → number_named world name ≡ None → class_named world name ≡ None
no_class world name none = sym (at_named world name) ∙ ap (λ o. o >>= slice_get world) none

-- a verdict finds a fault in a super that isn't there only where it is about that
pub none_missing : (world : World) (l : Loaded) (why : LoadVerdict) (as_interface : Bool) → (why ≡ NoSuper → ⊥) → fault_of world l why as_interface None ≡ None
none_missing world l Version kind other = refl
none_missing world l Format kind other = refl
none_missing world l Unsupported kind other = refl
none_missing world l Reserved kind other = refl
none_missing world l Duplicate kind other = refl
none_missing world l Circular kind other = refl
none_missing world l NoSuper kind other = absurd (other refl)
none_missing world l WrongKind true other = refl
none_missing world l WrongKind false other = refl
none_missing world l NoAccess kind other = refl
none_missing world l FinalBroken kind other = refl

module _ (world : World) (l : Loaded) (why : LoadVerdict) (s : Super) (more : List Super) where
  -- it is the first of which one is found
  pub found_first : (fault : SuperFault) → super_fault world l why s ≡ Some fault → blamed_among world l why (s ∷ more) ≡ line_text s (Some fault)
  found_first fault e = by_fault (super_fault world l why s) refl e
    where
      by_fault : (o : Option SuperFault) → super_fault world l why s ≡ o → o ≡ Some fault → blamed_among world l why (s ∷ more) ≡ line_text s (Some fault)
      by_fault None is none = absurd cc
      by_fault (Some f) is same =
          ap (λ (b : Bool). blamed_text world l why (cond b (Some s) (find (λ x. is_some (super_fault world l why x)) more))) (ap is_some is)
          ∙ ap (line_text s) (is ∙ same)

  -- it is not
  pub passed_over : super_fault world l why s ≡ None → blamed_among world l why (s ∷ more) ≡ blamed_among world l why more
  passed_over e = ap (λ (b : Bool). blamed_text world l why (cond b (Some s) (find (λ x. is_some (super_fault world l why x)) more))) (ap is_some e)

-- ---- lists

pub same_there : (world : World) (k : ℕ) (a b : Loaded) → slice_get world k ≡ Some a → slice_get world k ≡ Some b → a ≡ b
same_there world k a b at_a at_b = one (sym at_a ∙ at_b)
  where
    one : Some a ≡ Some b → a ≡ b
    one e = cc

-- ---- files

-- the class of a file has the name that the file gives it
pub name_of_class : (file : ClassStructure) (class : Class) → class_of file ≡ Some class → class_name file ≡ Some class.name
name_of_class file class e =
    let (name, named, rest) = bound (class_name file) _ class e in
    let (up, above, rest2) = bound (super_of file) _ class rest in
    let (interfaces, named2, rest3) = bound (all_found (class_name_at file.constant_pool) file.interfaces) _ class rest2 in
    let (fields, found, rest4) = bound (all_found (field_of file.constant_pool) file.fields) _ class rest3 in
    let (methods, found2, rest5) = bound (all_found (method_of file.constant_pool) file.methods) _ class rest4 in
    named ∙ ap (λ o. option_map (λ (c : Class). c.name) o) rest5
  where
    bound : {X Y : Type 0} (o : Option X) (f : X → Option Y) (y : Y) → (o >>= f) ≡ Some y → (x : X) × (o ≡ Some x) × (f x ≡ Some y)
    bound None f y h = absurd cc
    bound (Some x) f y h = (x, refl, h)
