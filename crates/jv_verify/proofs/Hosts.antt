-- The classes that a host gives, by their numbers: they stand where each of these is accepted, and so they do without a library.
use Rattle.std.proofs.Common.{◌≡◌, ℕ, zero, suc, ◌+◌, ◌<◌, ◌≤◌, Bool, true, false, not, List, [], ◌∷◌, ◌++◌, append-nil, length, map, Option, Some, None, Result, Ok, refl, sym, ap, subst, ◌∙◌, inl, inr, arith}
use Rattle.std.specs.Prelude.{IsTrue, slice_get, is_none, is_some, ◌⊎◌, ◌↔◌}
use Rattle.std.specs.List.{All, Contains}
use Rattle.std.proofs.lemmas.List.{length-append, length-map}
use Rattle.std.proofs.lemmas.List.Elements.{All-cons, All-contains, All-get_or, All-map, All-nil, Contains-append_cases, Contains-append_left}
use Rattle.std.proofs.lemmas.Option.{get_or_from_slice_get, slice_get_within}
use Rattle.jv_class.specs.Class.{Class}
use Rattle.jv_meaning_world.specs.FileContent.{AreContents, FileContent}
use Rattle.jv_meaning_world.specs.declared.content.Content.TheVariants.{Holds}
use Rattle.jv_meaning_world.specs.declared.verdict.LoadVerdict.{LoadVerdict}
use Rattle.jv_meaning_world.specs.Library.{IsLibrary, with_library}
use Rattle.jv_meaning_world.specs.Numbers.{HoldsAtNumber}
use Rattle.jv_meaning_world.specs.System.Classes.{system_classes}
use Rattle.jv_meaning_world.specs.Verdicts.{verdict_of_class}
use Rattle.jv_meaning_world.specs.World.{HostClasses, Loaded, World, classes_in, loaded, world_of}
use Rattle.jv_meaning_typing.specs.declared.verdict.Verdict.{Verdict}
use Rattle.jv_meaning_typing.specs.declared.verdict.Verdict.TheVariants.{Accepted, Refused}
use Rattle.jv_meaning_typing.specs.Judgement.{AreTyped, IsVerdictBehind, IsVerdictOfClass}
use Rattle.jv_meaning_typing.specs.Laws.{OneJudgement}
use Rattle.jv_meaning_machine.specs.Alone.{Stands}
use Rattle.jv_sound_system.specs.Law.{SystemIsAccepted}
use Rattle.jv_loader.specs.FirstVerdicts.{AreVerdictsOnFirst}
use Rattle.jv_verify.specs.Files.{Verified, AreAcceptedBelow, AreFilesOf, AreHostTyped, AreVerified, HostStands, IsFirstBroken, IsSystemAccepted, StandingAreTyped}
use Rattle.jv_verify.specs.Inside.Numbered.{IsVerdictAt}
use Rattle.jv_verify.proofs.Numbered.{all_grow, behind_system}

-- ---- lists

all_places : {X : Type 0} (P : X → Type 0) (xs : List X) → ((k : ℕ) (x : X) → slice_get xs k ≡ Some x → P x) → All P xs
all_places P [] h = All-nil P
all_places P (x ∷ xs) h = All-cons P x xs (h 0 x refl) (all_places P xs (λ k y e. h (suc k) y e))

at_place : {X : Type 0} (P : X → Type 0) (xs : List X) → All P xs → (k : ℕ) (x : X) → slice_get xs k ≡ Some x → P x
at_place P xs all k x e = subst P (get_or_from_slice_get xs k x x e) (All-get_or P xs k x (slice_get_within xs k x e) all)

there : {X : Type 0} (xs : List X) (k : ℕ) → k < length xs → (x : X) × (slice_get xs k ≡ Some x)
there [] k h = absurd (omega (arith, h))
there (x ∷ xs) zero h = (x, refl)
there (x ∷ xs) (suc k) h = there xs k (omega (arith, h))

-- ---- the class with a number

pub of_class : (world : World) (n : ℕ) (why : Option LoadVerdict) (v : Verdict) → HoldsAtNumber world n (λ l. why ≡ verdict_of_class world l) → IsVerdictAt world n why v
    → HoldsAtNumber world n (λ l. IsVerdictOfClass world l v)
of_class world n (Some why) v is h = λ l at. subst (λ w. IsVerdictBehind world l w v) (is l at) h
of_class world n None v is h = λ l at. subst (λ w. IsVerdictBehind world l w v) (is l at) (h l at)

pub of_first : (world : World) (count : ℕ) (first : List (Option LoadVerdict)) → AreVerdictsOnFirst world count first → (n : ℕ) (why : Option LoadVerdict) (v : Verdict)
    → slice_get first n ≡ Some why → IsVerdictAt world n why v → HoldsAtNumber world n (λ l. IsVerdictOfClass world l v)
of_first world count first are n why v at h = of_class world n why v (are.verdict n why at) h

pub one_more : (world : World) (n : ℕ) (v : Verdict) → AreAcceptedBelow world n → HoldsAtNumber world n (λ l. IsVerdictOfClass world l v) → v ≡ Accepted
    → AreAcceptedBelow world (n + 1)
one_more world n v before is e k less = by_order (below_or_last n k less)
  where
    below_or_last : (n k : ℕ) → k < n + 1 → (k < n) ⊎ (k ≡ n)
    below_or_last zero zero h = inr refl
    below_or_last zero (suc k) h = absurd (omega (arith, h))
    below_or_last (suc n) zero h = inl (omega arith)
    below_or_last (suc n) (suc k) h = by_again (below_or_last n k (omega (arith, h)))
      where
        by_again : (k < n) ⊎ (k ≡ n) → (suc k < suc n) ⊎ (suc k ≡ suc n)
        by_again (inl less) = inl (omega (arith, less))
        by_again (inr same) = inr (ap suc same)

    by_order : (k < n) ⊎ (k ≡ n) → HoldsAtNumber world k (λ l. IsVerdictOfClass world l Accepted)
    by_order (inl less) = before k less
    by_order (inr same) =
        subst (λ (m : ℕ). HoldsAtNumber world m (λ l. IsVerdictOfClass world l Accepted)) (sym same)
        (subst (λ (w : Verdict). HoldsAtNumber world n (λ l. IsVerdictOfClass world l w)) e is)

-- ---- the first that isn't accepted

pub refuses : (b : Bool) (v : Verdict) → IsTrue b ↔ (v ≡ Accepted) → b ≡ false → v ≡ Accepted → ⊥
refuses b v told off e = by_test b (told.1 e) off
  where
    by_test : (b : Bool) → IsTrue b → b ≡ false → ⊥
    by_test true on off = absurd cc
    by_test false on off = absurd cc

pub none_told : {X : Type 0} (found : Option X) (b : Bool) → is_some found ≡ not b → b ≡ is_none found
none_told None true e = refl
none_told None false e = absurd cc
none_told (Some x) true e = absurd cc
none_told (Some x) false e = refl

pub no_answer_but : {E : Type 0} (r : Result (Option (ℕ × Verdict)) E) (found : Option (ℕ × Verdict)) → r ≡ Ok found → r ≡ Ok None → is_none found ≡ true
no_answer_but r None is e = refl
no_answer_but r (Some found) is e = absurd cc

-- ---- where the classes that a host gives stand in a world

system_at : (system : List Class) (guests : World) (k : ℕ) (c : Class) → slice_get system k ≡ Some c → slice_get (map (loaded true) system ++ guests) k ≡ Some (loaded true c)
system_at [] guests zero c e = absurd cc
system_at [] guests (suc k) c e = absurd cc
system_at (s ∷ system) guests zero c e =
    let same : s ≡ c = cc in
    ap (λ (x : Class). Some (loaded true x)) same
system_at (s ∷ system) guests (suc k) c e = system_at system guests k c e

in_front : (front more : List Class) (k : ℕ) (c : Class) → slice_get front k ≡ Some c → slice_get (map (loaded false) (front ++ more)) k ≡ Some (loaded false c)
in_front [] more zero c e = absurd cc
in_front [] more (suc k) c e = absurd cc
in_front (f ∷ front) more zero c e =
    let same : f ≡ c = cc in
    ap (λ (x : Class). Some (loaded false x)) same
in_front (f ∷ front) more (suc k) c e = in_front front more k c e

abbrev Given : List Class → List Class → Loaded → Type 0
Given system front l = ((k : ℕ) × (c : Class) × (slice_get system k ≡ Some c) × (l ≡ loaded true c)) ⊎ ((k : ℕ) × (c : Class) × (slice_get front k ≡ Some c) × (l ≡ loaded false c))

given_in_front : (front more : List Class) (k : ℕ) (l : Loaded) → k < length front → slice_get (map (loaded false) (front ++ more)) k ≡ Some l
    → (c : Class) × (slice_get front k ≡ Some c) × (l ≡ loaded false c)
given_in_front [] more k l h e = absurd (omega (arith, h))
given_in_front (f ∷ front) more zero l h e = (f, refl, cc)
given_in_front (f ∷ front) more (suc k) l h e = given_in_front front more k l (omega (arith, h)) e

given_at : (system front more : List Class) (k : ℕ) (l : Loaded) → k < length system + length front
    → slice_get (map (loaded true) system ++ map (loaded false) (front ++ more)) k ≡ Some l → Given system front l
given_at [] front more k l h e =
    let found = given_in_front front more k l (omega (arith, h)) e in
    inr (k, found.0, found.1, found.2)
given_at (s ∷ system) front more zero l h e = inl (0, s, refl, cc)
given_at (s ∷ system) front more (suc k) l h e = by_again (given_at system front more k l (omega (arith, h)) e)
  where
    by_again : Given system front l → Given (s ∷ system) front l
    by_again (inl found) = inl (suc found.0, found.1, found.2, found.3)
    by_again (inr found) = inr found

-- ---- what a host gives

module _ (given : List Class) (contents : List FileContent) (verified : Verified) (are : AreVerified given contents verified) where
  abbrev host : HostClasses
  host = with_library given

  abbrev Is : Loaded → Type 0
  Is l = IsVerdictOfClass verified.world l Accepted

  more : (rest : List Class) × (classes_in host contents ≡ host.front ++ rest)
  more = all_grow host.front contents

  world_is : verified.world ≡ map (loaded true) host.system ++ map (loaded false) (host.front ++ more.0)
  world_is = are.world ∙ ap (λ (cs : List Class). map (loaded true) host.system ++ map (loaded false) cs) more.1

  pub host_within : verified.host ≤ length verified.world
  host_within =
      let size = ap length world_is ∙ length-append (map (loaded true) host.system) (map (loaded false) (host.front ++ more.0)) in
      let first = length-map host.system (loaded true) in
      let others = length-map (host.front ++ more.0) (loaded false) in
      let parts = length-append host.front more.0 in
      let count = are.host in
      omega (arith, size, first, others, parts, count)

  pub accepted_stand : AreAcceptedBelow verified.world verified.host → Stands verified.world host
  accepted_stand below = record {
    system = all_places (λ c. Is (loaded true c)) host.system
        (λ k c e. below k (in_system k c e) (loaded true c) (ap (λ w. slice_get w k) world_is ∙ system_at host.system (map (loaded false) (host.front ++ more.0)) k c e));
    front = all_places (λ c. Is (loaded false c)) host.front
        (λ k c e. below (length host.system + k) (among_front k c e) (loaded false c)
        (ap (λ w. slice_get w (length host.system + k)) world_is
        ∙ (behind_system host.system (map (loaded false) (host.front ++ more.0)) k ∙ in_front host.front more.0 k c e)));
  }
    where
      in_system : (k : ℕ) (c : Class) → slice_get host.system k ≡ Some c → k < verified.host
      in_system k c e =
          let less = slice_get_within host.system k c e in
          let count = are.host in
          omega (arith, less, count)

      among_front : (k : ℕ) (c : Class) → slice_get host.front k ≡ Some c → length host.system + k < verified.host
      among_front k c e =
          let less = slice_get_within host.front k c e in
          let count = are.host in
          omega (arith, less, count)

  pub stand_accepted : Stands verified.world host → AreAcceptedBelow verified.world verified.host
  stand_accepted stands k less l at =
      by_part (given_at host.system host.front more.0 k l (subst (λ n. k < n) are.host less) (sym (ap (λ w. slice_get w k) world_is) ∙ at))
    where
      by_part : Given host.system host.front l → Is l
      by_part (inl found) = subst Is (sym found.3) (at_place (λ c. Is (loaded true c)) host.system stands.system found.0 found.1 found.2)
      by_part (inr found) = subst Is (sym found.3) (at_place (λ c. Is (loaded false c)) host.front stands.front found.0 found.1 found.2)

  -- the answer to whether they stand, by the first that is broken
  pub answers : OneJudgement → (found : Option (ℕ × Verdict)) → IsFirstBroken verified found → IsTrue (is_none found) ↔ Stands verified.world host
  answers one None standing = (λ yes. standing given contents are, λ stands. refl)
  answers one (Some (n, v)) broken = (λ yes. absurd cc, λ stands. absurd (none stands))
    where
      none : Stands verified.world host → ⊥
      none stands =
          let within = host_within in
          let less = broken.given in
          let here = there verified.world n (omega (arith, within, less)) in
          broken.broken (one verified.world here.0 v Accepted (broken.verdict here.0 here.1) (stand_accepted stands n broken.given here.0 here.1))

  -- ---- what is accepted is typed

  of_accepted : (l : Loaded) → Is l → AreTyped verified.world l l.class.methods
  of_accepted l = by_why (verdict_of_class verified.world l)
    where
      unlike : (why : LoadVerdict) → Accepted ≡ Refused why → ⊥
      unlike why e = cc

      by_why : (why : Option LoadVerdict) → IsVerdictBehind verified.world l why Accepted → AreTyped verified.world l l.class.methods
      by_why None h = h
      by_why (Some why) h = absurd (unlike why h)

  by_system : (P : Loaded → Type 0) → All (λ c. P (loaded true c)) host.system → (l : Loaded) → Contains verified.world l → IsTrue l.by_system → P l
  by_system P all l here by =
      by_part (Contains-append_cases (map (loaded true) host.system) (map (loaded false) (host.front ++ more.0)) l (subst (λ w. Contains w l) world_is here))
    where
      none_by : (k : ℕ) (c : Class) → slice_get (host.front ++ more.0) k ≡ Some c → IsTrue (loaded false c).by_system → ⊥
      none_by k c e by = absurd cc

      by_part : Contains (map (loaded true) host.system) l ⊎ Contains (map (loaded false) (host.front ++ more.0)) l → P l
      by_part (inl first) = All-contains P (map (loaded true) host.system) l (All-map P (loaded true) host.system all) first
      by_part (inr other) =
          absurd (All-contains (λ m. IsTrue m.by_system → ⊥) (map (loaded false) (host.front ++ more.0)) l
          (All-map (λ m. IsTrue m.by_system → ⊥) (loaded false) (host.front ++ more.0) (all_places (λ c. IsTrue (loaded false c).by_system → ⊥) (host.front ++ more.0) none_by)) other by)

  pub standing_accepted : Stands verified.world host → IsSystemAccepted verified.world
  standing_accepted stands l of = by_system Is stands.system l of.0 of.1

  pub standing_typed : Stands verified.world host → AreHostTyped verified.world host
  standing_typed stands = record {
    system = λ l of. of_accepted l (standing_accepted stands l of);
    front = all_places (λ c. AreTyped verified.world (loaded false c) c.methods) host.front
        (λ k c e. of_accepted (loaded false c) (at_place (λ x. Is (loaded false x)) host.front stands.front k c e));
  }

pub standing_are_typed : (verified : Verified) → StandingAreTyped verified
standing_are_typed verified given contents are stands = standing_typed given contents verified are stands

-- ---- without a library

none_held : (given : List Class) → AreContents [] (map Holds given) → given ≡ []
none_held [] h = refl
none_held (class ∷ given) h = absurd h

pub none_given : (given : List Class) → IsLibrary [] given → given ≡ []
none_given given is = none_held given is.held

-- what is found of files beside a library of no files
pub alone : (library files : List (List ℕ)) (verified : Verified) → library ≡ [] → (are : AreFilesOf library files verified) → AreVerified [] are.contents verified
alone library files verified e are =
    subst (λ (given : List Class). AreVerified given are.contents verified) (none_given are.given (subst (λ (fs : List (List ℕ)). IsLibrary fs are.given) e are.gives)) are.found

-- a host gives 33 classes only where there is no library
nothing_given : (given : List Class) (contents : List FileContent) (verified : Verified) → AreVerified given contents verified → verified.host ≡ 33 → given ≡ []
nothing_given [] contents verified are e = refl
nothing_given (class ∷ given) contents verified are e =
    let more : 35 + length (with_library (class ∷ given)).front ≡ 33 = sym are.host ∙ e in
    absurd (omega (arith, more))

each_accepted :
    SystemIsAccepted → (contents : List FileContent) (classes : List Class)
    → ((l : Loaded) → Contains (map (loaded true) classes) l → Contains (world_of (with_library []) contents) l)
    → All (λ c. IsVerdictOfClass (world_of (with_library []) contents) (loaded true c) Accepted) classes
each_accepted law contents classes inside =
    all_places _ classes (λ k c e. law contents (loaded true c) (inside (loaded true c) (listed classes k c e)) refl)
  where
    listed : (cs : List Class) (k : ℕ) (c : Class) → slice_get cs k ≡ Some c → Contains (map (loaded true) cs) (loaded true c)
    listed cs k c e =
        let here : slice_get (map (loaded true) cs) k ≡ Some (loaded true c) = ap (λ w. slice_get w k) (sym (append-nil (map (loaded true) cs))) ∙ system_at cs [] k c e in
        (k, slice_get_within (map (loaded true) cs) k (loaded true c) here, get_or_from_slice_get (map (loaded true) cs) k (loaded true c) (loaded true c) here)

pub stands_alone : SystemIsAccepted → (contents : List FileContent) (verified : Verified) → AreVerified [] contents verified → Stands verified.world (with_library [])
stands_alone law contents verified are =
    subst (λ (w : World). Stands w (with_library [])) (sym are.world)
    (record {
      system = each_accepted law contents system_classes
          (λ l h. Contains-append_left (map (loaded true) system_classes) (map (loaded false) (classes_in (with_library []) contents)) l h);
      front = All-nil _;
    })

pub counted_stand : SystemIsAccepted → (verified : Verified) → verified.host ≡ 33 → HostStands verified
counted_stand law verified e given contents are =
    let nothing = nothing_given given contents verified are e in
    subst (λ (cs : List Class). Stands verified.world (with_library cs)) (sym nothing)
    (stands_alone law contents verified (subst (λ (cs : List Class). AreVerified cs contents verified) nothing are))
