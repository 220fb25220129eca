use Rattle.std.proofs.Common.{◌≡◌, Some, List, sym, subst}
use Rattle.std.specs.Prelude.{IsSome, slice_get}
use Rattle.std.specs.Option.{option_map}
use Rattle.jv_pool.specs.Constants.{Entry, utf8_at}
use Rattle.jv_class_structure.specs.Parts.{methods_of}
use Rattle.jv_class_structure.specs.Seen.{seen_method}
use Rattle.jv_class.proofs.Keys.{method_there}
use Rattle.jv_class.proofs.alike.method_key.Goals as goal

pub key_of-requires-clause-name : goal.key_of-requires-clause-name
key_of-requires-clause-name c =
    let at : option_map seen_method (Some c.in-Some.method) ≡ slice_get (methods_of c.args.parts.now) c.args.place = c.in-Some.ensures in
    subst (λ (pool : List Entry). IsSome (utf8_at pool c.in-Some.method.name.0)) (sym c.pool.ensures) (method_there c.args.parts.now c.args.place (Some c.in-Some.method) c.requires at).0

pub key_of-requires-clause-descriptor : goal.key_of-requires-clause-descriptor
key_of-requires-clause-descriptor c =
    let at : option_map seen_method (Some c.in-Some.method) ≡ slice_get (methods_of c.args.parts.now) c.args.place = c.in-Some.ensures in
    subst (λ (pool : List Entry). IsSome (utf8_at pool c.in-Some.method.descriptor.0)) (sym c.pool.ensures) (method_there c.args.parts.now c.args.place (Some c.in-Some.method) c.requires at).1
