-- host/Io's methods, which are built in (own).
use Rattle.std.proofs.Common.{◌≡◌, zero, suc, true, false, List, [], ◌∷◌, ◌++◌, map, Some, refl, sym, ap, subst, ◌∙◌, arith}
use Rattle.std.specs.Prelude.{codes}
use Rattle.std.specs.List.{Contains}
use Rattle.std.specs.Str.{bytes_eq}
use Rattle.jv_meaning_world.specs.Library.{system_with}
use Rattle.jv_meaning_world.specs.System.Io.{io}
use Rattle.jv_class.specs.Class.{Class, Method, method_named}
use Rattle.jv_meaning_world.specs.World.{Loaded, World, class_named, loaded}
use Rattle.jv_meaning_world.specs.Overriding.{Declared}
use Rattle.jv_meaning_world.proofs.Up.{same_name}
use Rattle.jv_meaning_machine.specs.Calls.{is_built_in}
use Rattle.jv_meaning_machine.specs.State.{Program}
use Rattle.jv_sound.specs.Sound.{IsSound}
use Rattle.jv_sound.specs.Calls.{IsHostMethod}
use Rattle.jv_sound.proofs.Taking.{and_parts}
use Rattle.jv_sound.proofs.Asked.{method_stands}

io_there : (library : List Class) (guests : World) → class_named (map (loaded true) (system_with library) ++ guests) (codes "host/Io") ≡ Some (loaded true io)
io_there [] _ = refl
io_there (c ∷ more) _ = refl

same_some : {A : Type 0} (a b : A) → Some a ≡ Some b → a ≡ b
same_some a b e = cc

-- each of them, by what it is
abbrev IsHost : Method → Type 0
IsHost m = IsHostMethod (record { by = loaded true io; method = m })

host_method_there : (m : Method) → Contains io.methods m → IsHost m
host_method_there m (zero, less, e) = subst IsHost e refl
host_method_there m (suc zero, less, e) = subst IsHost e refl
host_method_there m (suc (suc zero), less, e) = subst IsHost e refl
host_method_there m (suc (suc (suc zero)), less, e) = subst IsHost e refl
host_method_there m (suc (suc (suc (suc k))), less, e) = absurd (omega (arith, less))

pub built_in : (program : Program) → IsSound program → (d : Declared) → class_named program.world d.by.class.name ≡ Some d.by
    → method_named d.by.class d.method.name d.method.descriptor ≡ Some d.method → is_built_in d ≡ true → IsHostMethod d
built_in program sound d here declared e =
    let name : d.by.class.name ≡ codes "host/Io" = same_name d.by.class.name (codes "host/Io")
    (and_parts d.by.by_system (bytes_eq d.by.class.name (codes "host/Io")) e).1 in
    let is_io : loaded true io ≡ d.by =
    same_some (loaded true io) d.by (sym (io_there sound.library (map (loaded false) sound.guests)) ∙ ap (λ (w : World). class_named w (codes "host/Io"))
    (sym sound.world) ∙ ap (class_named program.world) (sym name) ∙ here) in
    host_method_there d.method (subst (λ (l : Loaded). Contains l.class.methods d.method) (sym is_io)
    (method_stands d.by.class d.method.name d.method.descriptor d.method declared))
