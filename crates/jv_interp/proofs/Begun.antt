-- A guest at its start stands for the start of its machine (JVMS 5.2).
use Rattle.std.proofs.Common.{◌≡◌, ℕ, ◌+◌, ◌<◌, ◌≤◌, Bool, List, [], ◌∷◌, map, length, Option, Some, None, Ok, Err, IsOk, refl, sym, ap, subst, ◌∙◌, arith, append-nil}
use Rattle.jv_meaning_world.specs.World.{World, world_of}
use Rattle.jv_meaning_world.specs.FileContent.{FileContent, AreContents, OneContent}
use Rattle.jv_meaning_world.specs.Library.{with_library}
use Rattle.jv_meaning_world.specs.declared.content.Content.TheVariants.{Holds}
use Rattle.jv_class.specs.Class.{Class}
use Rattle.jv_meaning_machine.specs.Faults.{Fault, OrFault, ◌>>=◌}
use Rattle.jv_meaning_machine.specs.State.{State}
use Rattle.jv_meaning_machine.specs.Start.{start}
use Rattle.jv_meaning_machine.specs.Alone.{GuestFiles, Judged, IsJudged, Stands, fed, alone}
use Rattle.jv_meaning_machine.specs.Laws.Shown.{JudgedByVerdicts}
use Rattle.jv_sound.specs.Law.{NeverFaults}
use Rattle.jv_verify.specs.Files.{Verified, AreFilesOf}
use Rattle.jv_interp_heap.specs.ObjectsInBlocks.{Blocks}
use Rattle.jv_interp_control.specs.Moves.{AreVerified}
use Rattle.jv_interp.specs.declared.budget.Budget.{Budget}
use Rattle.jv_interp.specs.declared.first.Started.{Started}
use Rattle.jv_interp.specs.Started.{budget_of, StartsIn, CanStart, StandsFirst}
use Rattle.jv_interp.specs.VerifiedClasses.{AreVerifiedClasses}
use Rattle.jv_interp.specs.declared.guest.Guest.{Guest}
use Rattle.jv_interp.specs.Standing.{AreTables}
use Rattle.jv_interp.specs.Beginning.{guest_with, Begins}

not_ok : (fault : Fault) → IsOk {T = State} (Err fault) → ⊥
not_ok fault h = cc

-- nothing came
fed_nothing : (s : State) → fed [] s ≡ s
fed_nothing s = ap (λ (input : List ℕ). record s { memory = record s.memory { input = input } }) (append-nil s.memory.input)

there_is : (o : OrFault State) → IsOk (o >>= λ s. Ok (fed [] s)) → (s : State) × (o ≡ Ok s) × ((o >>= λ s. Ok (fed [] s)) ≡ Ok s)
there_is (Ok s) h = (s, refl, ap (λ (x : State). Ok x) (fed_nothing s))
there_is (Err fault) h = absurd (not_ok fault h)

-- files hold one thing each
one_each :
    OneContent → (files : List (List ℕ)) (contents others : List FileContent) → AreContents files contents → AreContents files others
    → contents ≡ others
one_each one [] [] [] h k = refl
one_each one [] [] (o ∷ others) h k = absurd k
one_each one [] (c ∷ contents) others h k = absurd h
one_each one (f ∷ files) [] others h k = absurd h
one_each one (f ∷ files) (c ∷ contents) [] h k = absurd k
one_each one (f ∷ files) (c ∷ contents) (o ∷ others) h k =
    ap (λ (x : FileContent). x ∷ contents) (one f c o h.0 k.0) ∙ ap (λ (xs : List FileContent). o ∷ xs) (one_each one files contents others h.1 k.1)

-- and files that hold classes hold these
one_held : (a b : List Class) → map Holds a ≡ map Holds b → a ≡ b
one_held [] [] e = refl
one_held [] (d ∷ b) e = absurd cc
one_held (c ∷ a) [] e = absurd cc
one_held (c ∷ a) (d ∷ b) e =
    ap (λ (x : Class). x ∷ a) (ap (λ (l : List FileContent). held_is (first_of l) c) e)
    ∙ ap (λ (xs : List Class). d ∷ xs) (one_held a b (ap rest_of e))
  where
    held_is : Option FileContent → Class → Class
    held_is (Some (Holds c)) d = c
    held_is _ d = d

    first_of : List FileContent → Option FileContent
    first_of [] = None
    first_of (x ∷ a) = Some x

    rest_of : List FileContent → List FileContent
    rest_of [] = []
    rest_of (x ∷ a) = a

module _ (by_verdicts : JudgedByVerdicts) (one : OneContent) (found : Verified) (library files : List (List ℕ)) (are : AreFilesOf library files found) where
  pub judging : (judged : Judged) × IsJudged library files judged × (judged.verdicts ≡ found.verdicts)
  judging = by_verdicts library files are.given are.contents found.verdicts are.gives are.read are.found.verdicts.count are.found.verdicts.verdict

  abbrev pub judged : Judged
  judged = judging.0

  pub right : IsJudged library files judged
  right = judging.1

  given_is : right.given ≡ are.given
  given_is = one_held right.given are.given (one_each one library (map Holds right.given) (map Holds are.given) right.gives.held are.gives.held)

  pub world_is : judged.program.world ≡ found.world
  world_is =
      right.world ∙ ap (λ (given : List Class). world_of (with_library given) right.contents) given_is
      ∙ ap (λ (cs : List FileContent). world_of (with_library are.given) cs) (one_each one files right.contents are.contents right.held are.read) ∙ sym are.found.world

  -- the library stands beside the files where it stands by what the verifier finds, and there alone
  pub stands_there : Stands found.world (with_library are.given) → Stands judged.program.world (with_library right.given)
  stands_there stand =
      subst (λ (given : List Class). Stands judged.program.world (with_library given)) (sym given_is)
      (subst (λ (w : World). Stands w (with_library are.given)) (sym world_is) stand)

  pub stands_here : Stands judged.program.world (with_library right.given) → Stands found.world (with_library are.given)
  stands_here stand =
      subst (λ (w : World). Stands w (with_library are.given)) world_is
      (subst (λ (given : List Class). Stands judged.program.world (with_library given)) given_is stand)

  host_is : found.host ≡ length (with_library right.given).system + length (with_library right.given).front
  host_is =
      are.found.host
      ∙ ap (λ (given : List Class). length (with_library given).system + length (with_library given).front) (sym given_is)

  module _ (never : NeverFaults) (stand : Stands found.world (with_library are.given)) (main input : List ℕ) (budget : Budget)
      (verified : List Bool) (told : AreVerifiedClasses found verified) where
    library_stands : Stands judged.program.world (with_library right.given)
    library_stands = stands_there stand

    abbrev pub g : GuestFiles
    g = guest_with library files main input

    pub first : (s : State) × (start judged.program main input (budget_of budget) ≡ Ok s) × (alone judged g (budget_of budget) [] 0 ≡ Ok s)
    first = there_is (start judged.program main input (budget_of budget)) (never judged g (budget_of budget) [] 0 right library_stands)

    pub are_verified : AreVerified judged.program verified
    are_verified = told library files judged right world_is judging.2 host_is

    pub starts_in :
        (world : World) (flags : List Bool) → world ≡ found.world → flags ≡ verified → StartsIn world flags main input budget judged.program first.0
    starts_in world flags same flags_are =
        subst (λ (fs : List Bool). StartsIn world fs main input budget judged.program first.0) (sym flags_are)
        (record {
          world_is = world_is ∙ sym same;
          guests = record {
            library = library;
            given = right.given;
            gives = right.gives;
            files = files;
            contents = right.contents;
            held = right.held;
            world_is = right.world;
          };
          are = are_verified;
          does = first.1;
        })

    pub can_start : (world : World) (flags : List Bool) → world ≡ found.world → flags ≡ verified → CanStart world flags main input budget
    can_start world flags same flags_are = record { program = judged.program; s = first.0; starts = starts_in world flags same flags_are }

    pub begins :
        (guest : Guest) (before after : Blocks) (started : Started) → guest.judged ≡ found → guest.verified.items ≡ verified
        → AreTables guest.judged.world guest → guest.frames ≡ started.frames → guest.control ≡ started.control → guest.held ≡ started.held → guest.steps ≡ 0
        → started.held.cells + 4 ≤ budget.cells → budget.cells < 2147483648
        → StandsFirst judged.program guest.texts.names first.0 before started after → Begins library files main input budget before guest after
    begins guest before after started found_is verified_is tables frames_are control_is held_is steps_are less few s =
        record {
          addresses = started.held.out_of_memory ∷ started.held.arguments ∷ s.more;
          stands = record {
            judged = judged;
            right = right;
            library_stands = library_stands;
            world_is = world_is ∙ sym (ap (λ (v : Verified). v.world) found_is);
            verdicts_are = judging.2 ∙ sym (ap (λ (v : Verified). v.verdicts) found_is);
            verified_are = subst (λ (v : List Bool). AreVerified judged.program v) (sym verified_is) are_verified;
            tables = tables;
            came = λ more k above within. refl;
            state = first.0;
            ran = first.2;
            stands = record {
              frames =
                  subst (λ f. Rattle.jv_interp_control.specs.FramesStand.FramesStand judged.program
                  (started.held.out_of_memory ∷ started.held.arguments ∷ s.more) first.0.frames f first.0.control.words)
                  (sym frames_are) s.stands.frames;
              control = subst (λ c. Rattle.jv_interp_control.specs.ControlStands.ControlStands judged.program.world first.0.control c) (sym control_is) s.stands.control;
              memory =
                  subst (λ h. Rattle.jv_interp_held.specs.HeldInWords.MemoryStands judged.program.world guest.texts.names first.0.memory
                  (started.held.out_of_memory ∷ started.held.arguments ∷ s.more) h after)
                  (sym held_is) s.stands.memory;
            };
            steps_are = steps_are;
            few_cells = let cells = ap (λ (h : Rattle.jv_interp_held.specs.declared.held.Held.Held). h.cells) held_is in omega (arith, cells, less, few);
          };
          grows = s.grows;
        }
