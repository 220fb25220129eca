-- What is found of files is one thing, and so is what a guest shows.
use Rattle.std.proofs.Common.{◌≡◌, ℕ, zero, suc, ◌+◌, ◌≤◌, add-zero, add-suc, true≢false, is_some, codes, List, [], ◌∷◌, ◌++◌, map, length, Option, Some, None, Ok, refl, sym, ap, subst, ◌∙◌, arith}
use Rattle.std.specs.Prelude.{◌↔◌, Err, IsErr, slice_get}
use mathlib.Core.Path.{fun_ext}
use Rattle.jv_code.specs.Insns.{Instruction}
use Rattle.jv_class.specs.Class.{Class}
use Rattle.jv_meaning_world.specs.Library.{with_library}
use Rattle.jv_meaning_world.specs.World.{Loaded, World, class_named, world_of}
use Rattle.jv_meaning_world.proofs.Libraries.{no_library_is_one}
use Rattle.jv_meaning_world.specs.Overriding.{Declared}
use Rattle.jv_meaning_world.specs.FileContent.{FileContent, AreContents, OneContent}
use Rattle.jv_meaning_world.specs.declared.content.Content.TheVariants.{Holds}
use Rattle.jv_meaning_typing.specs.declared.verdict.Verdict.{Verdict}
use Rattle.jv_meaning_typing.specs.Judgement.{IsVerdictOfFile}
use Rattle.jv_meaning_typing.specs.Laws.{OneJudgementOfFile}
use Rattle.jv_meaning_machine.specs.Faults.{Fault, OrFault, found, ◌>>=◌}
use Rattle.jv_meaning_machine.specs.Faults.Fault.{ReferenceFault}
use Rattle.jv_meaning_machine.specs.State.{State, state_of}
use Rattle.jv_meaning_machine.specs.State.End.{NoMain}
use Rattle.jv_meaning_machine.specs.Initialization.{main_method}
use Rattle.jv_meaning_machine.specs.Start.{Budget, start_memory, start_control, start_with, start}
use Rattle.jv_meaning_machine.specs.Step.{step}
use Rattle.jv_meaning_machine.specs.Alone.{GuestFiles, Judged, IsJudged, Feed, came_at, fed, accepted_names, alone}
use Rattle.jv_meaning_machine.specs.Laws.Feeds.{came_behind}
use Rattle.jv_meaning_machine.specs.Observation.{Observed, Shows, FaultsWithin, observation}
use Rattle.jv_meaning_machine.specs.Laws.Kept.{BeginsWith}
use Rattle.jv_meaning_machine.specs.Laws.Forward.{IsLater}
use Rattle.jv_meaning_machine.specs.Laws.Shown.{OneJudged, JudgedByVerdicts, ShowsNoMain, ShowsOneThing, FaultsShowNothing, EndedShowsTheSame, FaultsStay, ShowedBefore, ShowsMore}
use Rattle.jv_meaning_machine.proofs.Ends.{stays_fed, ended_guest_stays}
use Rattle.jv_meaning_machine.proofs.KeptMemory.{begins_same, begins_over}
use Rattle.jv_meaning_machine.proofs.KeptSteps.{step_kept}
use Rattle.jv_meaning_machine.proofs.Fed.{later_keeps}
use Rattle.jv_meaning_machine.proofs.Forward.{throws_never_fall}
use Rattle.jv_meaning_machine.proofs.Decoding.{instructions_in, are_instructions, units_in, are_units}
use Rattle.jv_meaning_machine.proofs.Mains.{no_main_without_files}

-- ---- what files hold, and the verdicts on them

module _ (one_content : OneContent) (one_verdict : OneJudgementOfFile) where
  one_list : (files : List (List ℕ)) (a b : List FileContent) → AreContents files a → AreContents files b → a ≡ b
  one_list [] [] [] h k = refl
  one_list [] [] (y ∷ b) h k = absurd k
  one_list [] (x ∷ a) b h k = absurd h
  one_list (bytes ∷ files) [] b h k = absurd h
  one_list (bytes ∷ files) (x ∷ a) [] h k = absurd k
  one_list (bytes ∷ files) (x ∷ a) (y ∷ b) h k =
      ap (λ (f : FileContent). f ∷ a) (one_content bytes x y h.0 k.0) ∙ ap (λ (fs : List FileContent). y ∷ fs) (one_list files a b h.1 k.1)

  same_items :
      (v w : List Verdict) → length v ≡ length w → ((k : ℕ) (a b : Verdict) → slice_get v k ≡ Some a → slice_get w k ≡ Some b → a ≡ b)
      → v ≡ w
  same_items [] [] e h = refl
  same_items [] (y ∷ w) e h = absurd (omega (arith, e))
  same_items (x ∷ v) [] e h = absurd (omega (arith, e))
  same_items (x ∷ v) (y ∷ w) e h =
      let rest : length v ≡ length w = omega (arith, e) in
      ap (λ (z : Verdict). z ∷ v) (h zero x y refl refl) ∙ ap (λ (zs : List Verdict). y ∷ zs) (same_items v w rest (λ k. h (suc k)))

  -- ---- functions that answer exactly where a relation holds

  same_option : {A : Type 0} (o p : Option A) → ((a : A) → o ≡ Some a → p ≡ Some a) → ((a : A) → p ≡ Some a → o ≡ Some a) → o ≡ p
  same_option None None h k = refl
  same_option None (Some b) h k = k b refl
  same_option (Some a) p h k = sym (h a refl)

  same_function :
      {A : Type 0} (R : List ℕ → A → Type 0) (f g : List ℕ → Option A) → ((bytes : List ℕ) (a : A) → (f bytes ≡ Some a) ↔ R bytes a)
      → ((bytes : List ℕ) (a : A) → (g bytes ≡ Some a) ↔ R bytes a) → f ≡ g
  same_function R f g h k =
      fun_ext (λ bytes. same_option (f bytes) (g bytes) (λ a e. (k bytes a).1 ((h bytes a).0 e)) (λ a e. (h bytes a).1 ((k bytes a).0 e)))

  -- ---- all that is found

  held_is : Option FileContent → Class → Class
  held_is (Some (Holds c)) d = c
  held_is _ d = d

  first_of : List FileContent → Option FileContent
  first_of [] = None
  first_of (x ∷ a) = Some x

  rest_of : List FileContent → List FileContent
  rest_of [] = []
  rest_of (x ∷ a) = a

  one_held : (a b : List Class) → map Holds a ≡ map Holds b → a ≡ b
  unfolding held_is first_of rest_of
  one_held [] [] e = refl
  one_held [] (d ∷ b) e = absurd cc
  one_held (c ∷ a) [] e = absurd cc
  one_held (c ∷ a) (d ∷ b) e =
      ap (λ (x : Class). x ∷ a) (ap (λ (l : List FileContent). held_is (first_of l) c) e) ∙ ap (λ (xs : List Class). d ∷ xs) (one_held a b (ap rest_of e))

  abbrev names_in_front : List Class → List (List ℕ)
  names_in_front given = map (λ c. c.name) (with_library given).front

  abbrev made : World → List (List ℕ) → (List ℕ → Option (List Instruction)) → (List ℕ → Option (List ℕ)) → List Verdict → Judged
  made world accepted instructions units verdicts =
      record { program = record { world = world; accepted = accepted; instructions = instructions; units = units }; verdicts = verdicts }

  pub one_judged : OneJudged
  one_judged library files one other h k =
      ap (λ (w : World). made w one.program.accepted one.program.instructions one.program.units one.verdicts) world
      ∙ (ap (λ (n : List (List ℕ)). made other.program.world n one.program.instructions one.program.units one.verdicts) accepted
      ∙ (ap (λ (f : List ℕ → Option (List Instruction)). made other.program.world other.program.accepted f one.program.units one.verdicts) instructions
      ∙ (ap (λ (f : List ℕ → Option (List ℕ)). made other.program.world other.program.accepted other.program.instructions f one.verdicts) units
      ∙ ap (λ (v : List Verdict). made other.program.world other.program.accepted other.program.instructions other.program.units v)
      verdicts)))
    where
      contents : h.contents ≡ k.contents
      contents = one_list files h.contents k.contents h.held k.held

      given : h.given ≡ k.given
      given = one_held h.given k.given (one_list library (map Holds h.given) (map Holds k.given) h.gives.held k.gives.held)

      world : one.program.world ≡ other.program.world
      world = h.world ∙ (ap (λ (c : List FileContent). world_of (with_library h.given) c) contents
          ∙ (ap (λ (cs : List Class). world_of (with_library cs) k.contents) given ∙ sym k.world))

      verdicts : one.verdicts ≡ other.verdicts
      verdicts = same_items one.verdicts other.verdicts (h.count ∙ (ap length contents ∙ sym k.count)) (λ place a b at there.
          one_verdict (with_library h.given) h.contents place a b (h.verdict place a at)
          (subst (λ (cs : List Class). IsVerdictOfFile (with_library cs) h.contents place b) (sym given)
          (subst (λ (c : List FileContent). IsVerdictOfFile (with_library k.given) c place b) (sym contents) (k.verdict place b there))))

      accepted : one.program.accepted ≡ other.program.accepted
      accepted =
          h.accepted
          ∙ (ap (λ (cs : List Class). names_in_front cs ++ accepted_names h.contents one.verdicts) given
          ∙ (ap (λ (c : List FileContent). names_in_front k.given ++ accepted_names c one.verdicts) contents
          ∙ (ap (λ (v : List Verdict). names_in_front k.given ++ accepted_names k.contents v) verdicts ∙ sym k.accepted)))

      instructions : one.program.instructions ≡ other.program.instructions
      instructions = same_function _ one.program.instructions other.program.instructions h.instructions k.instructions

      units : one.program.units ≡ other.program.units
      units = same_function _ one.program.units other.program.units h.units k.units

-- ---- what a guest shows

same_state : (r : OrFault State) (s t : State) → r ≡ Ok s → r ≡ Ok t → s ≡ t
same_state r s t h k =
    let both : Ok s ≡ Ok t = sym h ∙ k in
    cc

pub shows_one_thing : OneJudged → ShowsOneThing
shows_one_thing law g b feeds n one other h k =
    h.shown
    ∙ (ap (λ (j : Judged). observation j.verdicts n h.state) same
    ∙ (ap (observation k.judged.verdicts n) (same_state (alone k.judged g b feeds n) h.state k.state (subst (λ (j : Judged). alone j g b feeds n ≡ Ok h.state) same h.ran) k.ran) ∙ sym k.shown))
  where
    same : h.judged ≡ k.judged
    same = law g.library g.files h.judged k.judged h.right k.right

no_fault : (r : OrFault State) (s : State) → r ≡ Ok s → IsErr r → ⊥
no_fault (Ok t) s e f = absurd cc
no_fault (Err fault) s e f = absurd cc

pub faults_show_nothing : OneJudged → FaultsShowNothing
faults_show_nothing law g b feeds n o f h =
    no_fault (alone f.judged g b feeds n) h.state
    (subst (λ (j : Judged). alone j g b feeds n ≡ Ok h.state) (law g.library g.files h.judged f.judged h.right f.right) h.ran) f.fault

pub ended_shows_the_same : EndedShowsTheSame
ended_shows_the_same g b feeds n more o h ended = record {
  judged = h.judged;
  right = h.right;
  state = fed (came_behind n more feeds) h.state;
  ran =
      ended_guest_stays h.judged g b feeds n more h.state h.right h.ran (λ running. ended (ap (λ (x : Observed). x.end) h.shown ∙ running));
  shown = ap (λ (x : Observed). record x { steps = n + more }) h.shown;
}

-- ---- what there is to be found

abbrev pub judged_by_verdicts : JudgedByVerdicts
judged_by_verdicts library files given contents verdicts gives held count right = (
  record {
    program = record {
      world = world_of (with_library given) contents;
      accepted = map (λ c. c.name) (with_library given).front ++ accepted_names contents verdicts;
      instructions = instructions_in;
      units = units_in;
    };
    verdicts = verdicts;
  },
  record {
    given = given;
    gives = gives;
    contents = contents;
    held = held;
    world = refl;
    count = count;
    verdict = right;
    accepted = refl;
    instructions = are_instructions;
    units = are_units;
  },
  refl,
)

from_zero :
    (judged :
    Judged) (g : GuestFiles) (b : Budget) (feeds : List Feed) (n : ℕ) → alone judged g b feeds n ≡ alone judged g b feeds (zero + n)
from_zero judged g b feeds n =
    let same : n ≡ zero + n = omega arith in
    ap (λ (k : ℕ). alone judged g b feeds k) same

no_verdict : (place : ℕ) (verdict : Verdict) → slice_get [] place ≡ Some verdict → IsVerdictOfFile (with_library []) [] place verdict
no_verdict zero verdict e = absurd cc
no_verdict (suc place) verdict e = absurd cc

abbrev found_none : (judged : Judged) × IsJudged [] [] judged × (judged.verdicts ≡ [])
found_none = judged_by_verdicts [] [] [] [] [] no_library_is_one tt refl no_verdict

pub shows_no_main : ShowsNoMain
shows_no_main main input b feeds n = by_class (class_named (world_of (with_library []) []) (codes "java/lang/OutOfMemoryError")) refl
  where
    by_class :
        (o : Option Loaded) → class_named (world_of (with_library []) []) (codes "java/lang/OutOfMemoryError") ≡ o
        → Shows (record { library = []; files = []; main = main; input = input }) b feeds n
        (record { verdicts = []; steps = n; output = []; throws = 0; last = None; place = None; end = NoMain })
    by_class None e = absurd (true≢false (ap (λ (o : Option Loaded). is_some o) e))
    by_class (Some error) e =
        let first : State = state_of (start_memory (world_of (with_library []) []) input b error) [] (start_control main b NoMain) in
        let started :
        start found_none.0.program main input b
        ≡ Ok (state_of (start_memory (world_of (with_library []) []) input b error) [] (start_control main b NoMain)) =
        ap
        (λ (o : Option Loaded).
        found ReferenceFault o >>= λ l.
        start_with found_none.0.program main b (start_memory (world_of (with_library []) []) input b l)
        (main_method (world_of (with_library []) []) main))
        e
        ∙ ap (λ (d : Option Declared). start_with found_none.0.program main b (start_memory (world_of (with_library []) []) input b error) d)
        (no_main_without_files main) in
        record {
          judged = found_none.0;
          right = found_none.1;
          state = fed (came_behind zero n feeds) (fed (came_at zero feeds) first);
          ran =
              from_zero found_none.0 (record { library = []; files = []; main = main; input = input }) b feeds n
              ∙ stays_fed found_none.0 (record { library = []; files = []; main = main; input = input }) b feeds zero n (fed (came_at zero feeds) first)
              (ap (λ (o : OrFault State). o >>= λ s. Ok (fed (came_at zero feeds) s)) started) refl;
          shown = refl;
        }

-- ---- faults stay, and what is shown grows

fault_over :
    (judged : Judged) (g : GuestFiles) (b : Budget) (feeds : List Feed) (n more : ℕ) (fault : Fault) → alone judged g b feeds n ≡ Err fault
    → alone judged g b feeds (n + more) ≡ Err fault
fault_over judged g b feeds n zero fault e = ap (λ (k : ℕ). alone judged g b feeds k) (add-zero n) ∙ e
fault_over judged g b feeds n (suc more) fault e =
    ap (λ (k : ℕ). alone judged g b feeds k) (add-suc n more)
    ∙ ap (λ (o : OrFault State). o >>= step judged.program >>= λ s. Ok (fed (came_at (suc (n + more)) feeds) s))
    (fault_over judged g b feeds n more fault e)

pub faults_stay : FaultsStay
faults_stay g b feeds n more h = by_result (alone h.judged g b feeds n) refl h.fault
  where
    by_result : (r : OrFault State) → alone h.judged g b feeds n ≡ r → IsErr r → FaultsWithin g b feeds (n + more)
    by_result (Ok s) e fails = absurd (no_fault (Ok s) s refl fails)
    by_result (Err fault) e fails = record {
      judged = h.judged;
      right = h.right;
      fault = subst (λ (r : OrFault State). IsErr r) (sym (fault_over h.judged g b feeds n more fault e)) fails;
    }

-- what was written before is in front of what is written later
written_more :
    (judged : Judged) (g : GuestFiles) (b : Budget) (feeds : List Feed) (n more : ℕ) (s t : State) → alone judged g b feeds n ≡ Ok s
    → alone judged g b feeds (n + more) ≡ Ok t → BeginsWith t.memory.output s.memory.output
written_more judged g b feeds n more s t e f =
    (later_keeps judged g b feeds (λ (u : State). BeginsWith u.memory.output s.memory.output)
    (λ u v h k. begins_over s.memory.output u.memory.output v.memory.output h (step_kept judged.program u v k).memory.output)
    (λ bytes u h. h) n more s e
    (begins_same s.memory.output)).at
    t f

pub shows_more : ShowsMore
shows_more g b feeds n more o h = by_result (alone h.judged g b feeds n) refl
  where
    by_result : (r : OrFault State) → alone h.judged g b feeds n ≡ r → ShowedBefore g b feeds n o
    by_result (Err fault) e =
        let fails : alone h.judged g b feeds (n + more) ≡ Err fault = fault_over h.judged g b feeds n more fault e in
        absurd cc
    by_result (Ok s) e =
        let later : IsLater h.judged g b feeds s h.state =
        record { right = h.right; n = n; more = more; ran = e; ran_on = h.ran } in
        record {
          earlier = observation h.judged.verdicts n s;
          shows = record { judged = h.judged; right = h.right; state = s; ran = e; shown = refl };
          verdicts = ap (λ (x : Observed). x.verdicts) h.shown;
          output =
              subst (λ (x : Observed). BeginsWith x.output s.memory.output) (sym h.shown)
              (written_more h.judged g b feeds n more s h.state e h.ran);
          throws =
              subst (λ (x : Observed). s.control.throws ≤ x.throws) (sym h.shown) (throws_never_fall h.judged g b feeds s h.state later).0;
        }
