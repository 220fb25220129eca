-- A method is looked up as the class that is named is: an interface or none.
use Rattle.std.proofs.Common.{◌≡◌, Bool, true, false, not, Some, refl, sym, ap, ◌∙◌}
use Rattle.std.specs.Prelude.{if◌then◌else◌}
use Rattle.std.specs.Option.{ok_or}
use Rattle.jv_pool.specs.Constants.{MemberReference}
use Rattle.jv_meaning_world.specs.World.{Loaded, World}
use Rattle.jv_meaning_world.specs.Verdicts.{is_interface}
use Rattle.jv_meaning_world.specs.LookUps.{lookup_class_method, lookup_interface_method}
use Rattle.jv_meaning_typing.specs.LinkErrors.{◌>>=◌, provided}
use Rattle.jv_meaning_typing.specs.LinkErrors.LinkError.{IncompatibleClassChangeError, NoSuchMethodError}
use Rattle.jv_meaning_typing.specs.Operands.{through}
use Rattle.jv_meaning_typing.specs.MethodResolution.{names_its_kind, found_method, method_from}
use Rattle.jv_link.specs.Inside.References.{constant_of}
use Rattle.jv_link.specs.Inside.Steps.{looked_up, accessible_method}

turned : (b : Bool) → not b ≡ true → b ≡ false
turned true h = absurd cc
turned false h = refl

same_search : (world : World) (named : Loaded) (of_interface : Bool) (reference : MemberReference) → names_its_kind (constant_of of_interface) named ≡
    true → looked_up world named reference ≡ found_method world (constant_of of_interface) named reference
same_search world named true reference h =
    ap (λ b. ok_or (if b then lookup_interface_method world named reference.name reference.descriptor else lookup_class_method world named reference.name reference.descriptor) NoSuchMethodError) h
same_search world named false reference h =
    ap (λ b. ok_or (if b then lookup_interface_method world named reference.name reference.descriptor else lookup_class_method world named
    reference.name reference.descriptor) NoSuchMethodError) (turned (is_interface named) h)

pub by_kind : (world : World) (current named : Loaded) (of_interface : Bool) (reference : MemberReference) → names_its_kind (constant_of of_interface) named ≡ true
    → Some (looked_up world named reference >>= accessible_method world current named) ≡ Some (method_from world current (through (constant_of of_interface) reference) named)
by_kind world current named of_interface reference h =
    ap (λ a. Some (a >>= accessible_method world current named)) (same_search world named of_interface reference h)
    ∙ ap (λ b. Some (provided b IncompatibleClassChangeError named >>= (λ m. found_method world (constant_of of_interface) m reference) >>= (λ d. accessible_method world current named d))) (sym h)
