-- A method of a name and a descriptor, and whether it is an instance method.
use Rattle.std.proofs.Common.{◌≡◌, Bool, Option, Some, None, ap, ◌∙◌}
use Rattle.std.specs.Prelude.{if◌then◌else◌}
use Rattle.std.specs.Option.{option_map}
use Rattle.jv_class.specs.Class.{Method}
use Rattle.jv_meaning_world.specs.World.{Loaded}
use Rattle.jv_meaning_world.specs.Overriding.{Declared, is_instance, declared_if}
use Rattle.jv_meaning_world.specs.Verdicts.{declared_by}

pub declared_or_not : (l : Loaded) (o : Option Method) (d : Declared) (b : Bool) → option_map (declared_by l) o ≡ Some d → is_instance d.method ≡ b → declared_if l o ≡ (if b then Some d else None)
declared_or_not l None d b e h = absurd cc
declared_or_not l (Some m) d b e h =
    ap (λ t. if t then Some (declared_by l m) else None) (ap (λ (x : Declared). is_instance x.method) (same e) ∙ h) ∙ ap (λ x. if b then Some x else None) (same e)
  where
    same : Some (declared_by l m) ≡ Some d → declared_by l m ≡ d
    same e = cc
