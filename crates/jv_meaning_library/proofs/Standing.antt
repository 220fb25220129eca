-- A closed library stands beside any guest's files exactly where it stands alone.
use Rattle.std.proofs.Common.{Bool, true, false, List, [], ◌∷◌, map, subst, inl, inr}
use Rattle.std.specs.Prelude.{◌⊎◌, ◌≡◌, get_or}
use Rattle.std.specs.List.{All, Contains}
use Rattle.std.proofs.lemmas.List.Elements.{Contains-get_or, Contains-append_left, Contains-append_right}
use Rattle.jv_class.specs.Class.{Class}
use Rattle.jv_meaning_world.specs.World.{HostClasses, Loaded, World, loaded, world_of}
use Rattle.jv_meaning_world.specs.Library.{with_library}
use Rattle.jv_meaning_world.proofs.Up.{none, first, later}
use Rattle.jv_meaning_typing.specs.declared.verdict.Verdict.TheVariants.{Accepted}
use Rattle.jv_meaning_typing.specs.Judgement.{IsVerdictOfClass}
use Rattle.jv_meaning_typing.proofs.Found.{split}
use Rattle.jv_meaning_machine.specs.Alone.{Stands}
use Rattle.jv_meaning_library.specs.Law.{ClosedStandsOnce}
use Rattle.jv_meaning_library.proofs.Given.{closed_is_judged_once}

all_so : {X : Type 0} (P Q : X → Type 0) (xs : List X) → ((x : X) → Contains xs x → P x → Q x) → All P xs → All Q xs
all_so P Q xs f h k d lt = f (get_or xs k d) (Contains-get_or xs k d lt) (h k d lt)

in_map : (by_system : Bool) (cs : List Class) (c : Class) → Contains cs c → Contains (map (loaded by_system) cs) (loaded by_system c)
in_map by_system [] c h = absurd (none c h)
in_map by_system (x ∷ cs) c h = by_part (λ k. in_map by_system cs c k) (split x cs c h)
  where
    by_part : (Contains cs c → Contains (map (loaded by_system) cs) (loaded by_system c)) → (x ≡ c) ⊎ Contains cs c
        → Contains (map (loaded by_system) (x ∷ cs)) (loaded by_system c)
    by_part again (inl e) =
        subst (λ (y : Class). Contains (map (loaded by_system) (x ∷ cs)) (loaded by_system y)) e (first (loaded by_system x) (map (loaded by_system) cs))
    by_part again (inr k) = later (loaded by_system x) (map (loaded by_system) cs) (loaded by_system c) (again k)

-- what is accepted in one world is in the other
module _ (host : HostClasses) (v w : World) (so : (l : Loaded) → Contains (world_of host []) l → IsVerdictOfClass v l Accepted → IsVerdictOfClass w l Accepted) where
  stands_so : Stands v host → Stands w host
  stands_so h = record {
    system = all_so (λ c. IsVerdictOfClass v (loaded true c) Accepted) (λ c. IsVerdictOfClass w (loaded true c) Accepted) host.system
        (λ c k. so (loaded true c) (Contains-append_left (map (loaded true) host.system) (map (loaded false) host.front) (loaded true c) (in_map true host.system c k))) h.system;
    front = all_so (λ c. IsVerdictOfClass v (loaded false c) Accepted) (λ c. IsVerdictOfClass w (loaded false c) Accepted) host.front
        (λ c k. so (loaded false c) (Contains-append_right (map (loaded true) host.system) (map (loaded false) host.front) (loaded false c) (in_map false host.front c k))) h.front;
  }

pub closed_stands_once : ClosedStandsOnce
closed_stands_once given library is closed files contents are = (
  stands_so (with_library library) alone beside (λ l there. (closed_is_judged_once given library is closed files contents are l there Accepted).0),
  stands_so (with_library library) beside alone (λ l there. (closed_is_judged_once given library is closed files contents are l there Accepted).1),
)
  where
    alone : World
    alone = world_of (with_library library) []

    beside : World
    beside = world_of (with_library library) contents
