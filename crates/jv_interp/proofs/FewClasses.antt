-- A guest has few classes.
use Rattle.std.proofs.Common.{suc, ◌+◌, ◌≤◌, Bool, true, false, cond, ◌||◌, List, [], ◌∷◌, ◌++◌, length, map, length-append, ap, arith}
use Rattle.std.proofs.lemmas.List.{length-map}
use Rattle.jv_class.specs.Class.{Class}
use Rattle.jv_meaning_world.specs.FileContent.{FileContent}
use Rattle.jv_meaning_world.specs.declared.content.Content.TheVariants.{OtherVersion, NoClassFile, MoreThanProfile, Holds}
use Rattle.jv_meaning_world.specs.Library.{front_of, system_with, with_class_more, with_library}
use Rattle.jv_meaning_world.specs.World.{World, loaded, is_reserved, has_class, with_class_of, joined_all, classes_in}
use Rattle.jv_verify.specs.Files.{Verified, AreVerified}

one_more : (classes : List Class) (file : FileContent) → length (with_class_of classes file) ≤ suc (length classes)
one_more classes OtherVersion = omega arith
one_more classes NoClassFile = omega arith
one_more classes MoreThanProfile = omega arith
one_more classes (Holds class) = by_test (is_reserved class.name || has_class classes class.name)
  where
    by_test : (b : Bool) → length (cond b classes (classes ++ class ∷ [])) ≤ suc (length classes)
    by_test true = omega arith
    by_test false =
        let more = length-append classes (class ∷ []) in
        omega (arith, more)

all_more : (classes : List Class) (files : List FileContent) → length (joined_all classes files) ≤ length classes + length files
all_more classes [] = omega arith
all_more classes (file ∷ files) =
    let rest = all_more (with_class_of classes file) files in
    let first = one_more classes file in
    omega (arith, rest, first)

pub few_classes :
    (given : List Class) (contents : List FileContent) (verified : Verified) → AreVerified given contents verified
    → length verified.world ≤ verified.host + length verified.verdicts
few_classes given contents verified are =
    let host = with_library given in
    let own = classes_in host contents in
    let size = ap (λ (w : World). length w) are.world in
    let both = length-append (map (loaded true) host.system) (map (loaded false) own) in
    let first = length-map host.system (loaded true) in
    let more = length-map own (loaded false) in
    let count = are.verdicts.count in
    let few = all_more host.front contents in
    let host_is = are.host in
    omega (arith, size, both, first, more, count, few, host_is)

-- ---- and a host gives few

front_fits : (library front classes : List Class) → length (front_of library front classes) ≤ length front + length classes
front_fits library front [] = omega arith
front_fits library front (c ∷ classes) =
    let rest = front_fits library (with_class_more library front c) classes in
    let one = by_test (has_class (system_with library) c.name || has_class front c.name) in
    omega (arith, rest, one)
  where
    by_test : (b : Bool) → length (cond b front (front ++ c ∷ [])) ≤ suc (length front)
    by_test true = omega arith
    by_test false = let more = length-append front (c ∷ []) in omega (arith, more)

system_fits : (library : List Class) → length (system_with library) ≤ 35
system_fits [] = omega arith
system_fits (c ∷ library) = omega arith

pub few_given :
    (given : List Class) (contents : List FileContent) (verified : Verified) → AreVerified given contents verified
    → length verified.world ≤ 35 + (length given + length verified.verdicts)
few_given given contents verified are =
    let all = few_classes given contents verified are in
    let host = are.host in
    let system = system_fits given in
    let front = front_fits given [] given in
    omega (arith, all, host, system, front)
