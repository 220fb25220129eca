-- A class as it is kept with its file.
use Rattle.std.proofs.Common.{◌≡◌, Bool, Option, Some, None, refl, sym, ap, ◌∙◌}
use Rattle.std.specs.Prelude.{IsSome, unwrap_or}
use Rattle.jv_class_structure.specs.Structure.{ClassStructure}
use Rattle.jv_class.specs.Class.{Class, class_of}
use Rattle.jv_meaning_world.specs.System.Io.{io}
use Rattle.jv_classes.specs.declared.kept.Kept.{Kept}
use Rattle.jv_classes.specs.Inside.Kept.{Keeps, class_of_file, IsLoaded}

itself : {A : Type 0} (o : Option A) (d : A) → IsSome o → o ≡ Some (unwrap_or o d)
itself None d there = absurd cc
itself (Some a) d there = refl

pub class_known : (c : ClassStructure) → IsSome (class_of c) → class_of c ≡ Some (class_of_file (Some c))
class_known c there = itself (class_of c) io there

pub is_loaded : (by_system : Bool) (c : ClassStructure) (kept : Kept) → IsSome (class_of c) → ((class : Class) → class_of c ≡ Some class → Keeps class kept) → IsLoaded by_system (Some c) kept
is_loaded by_system c kept there keeps = record {
  keeps = keeps (class_of_file (Some c)) (class_known c there);
  known = λ d same. known d same;
  built_in = λ none. absurd cc;
}
  where
    known : (d : ClassStructure) → Some c ≡ Some d → class_of d ≡ Some (class_of_file (Some c))
    known d same =
        let one : c ≡ d = cc in
        ap class_of (sym one) ∙ class_known c there
