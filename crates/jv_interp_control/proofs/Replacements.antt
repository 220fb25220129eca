-- What is thrown behind the initialization of a class (JVMS 5.5).
use Rattle.std.proofs.Common.{◌≡◌, ℕ, ◌+◌, ◌-◌, ◌^◌, ◌<◌, min, Bool, true, false, List, [], ◌∷◌, ◌++◌, Option, Some, Ok, codes, drop, length, get_or, replicate, reverse, slice_get, refl, sym, ap, subst, ◌∙◌, arith, append-nil}
use Rattle.std.specs.Prelude.{unwrap_or}
use Rattle.std.specs.Option.{option_or}
use Rattle.std.proofs.lemmas.Option.{slice_get_within}
use Rattle.jv_store.specs.Content.{words_at}
use Rattle.jv_meaning_world.specs.World.{Loaded, World, class_named}
use Rattle.jv_meaning_world.specs.Numbers.{HoldsAtNumber, HoldsAtBoth}
use Rattle.jv_meaning_typing.specs.Layout.{object_words, object_cells}
use Rattle.jv_meaning_machine.specs.Faults.{OrFault, found, ◌>>=◌}
use Rattle.jv_meaning_machine.specs.Faults.Fault.{ReferenceFault}
use Rattle.jv_meaning_machine.specs.Objects.{is_at_or_below}
use Rattle.jv_meaning_machine.specs.Frames.{Frame}
use Rattle.jv_meaning_machine.specs.State.{Program, Memory, ThrowPlace, Control}
use Rattle.jv_meaning_machine.specs.Costs.{paid}
use Rattle.jv_meaning_machine.specs.Throws.{Thrown, replacement_place, thrown, exception, exception_made, replacement_if}
use Rattle.jv_interp_words.specs.declared.records.FrameRecord.{FrameRecord}
use Rattle.jv_interp_words.proofs.Gave.{bound_gave, found_gave}
use Rattle.jv_interp_heap.specs.ObjectsInBlocks.{Blocks, HasNumber}
use Rattle.jv_interp_heap.specs.NewBlocks.{Joins}
use Rattle.jv_interp_heap.proofs.NewWords.{joined_words}
use Rattle.jv_interp_held.specs.declared.held.Held.{Held}
use Rattle.jv_interp_held.specs.HeldInWords.{MemoryStands}
use Rattle.jv_interp_held.proofs.Growths.{grows_not}
use Rattle.jv_interp_heap.specs.SystemNumbers.{IsGuestsWorld, AreSystemNumbers, SystemHasNumbers}
use Rattle.jv_interp_control.specs.declared.control.PlaceRecord.{PlaceRecord}
use Rattle.jv_interp_control.specs.declared.throwing.Thrown.{Thrown as ThrownInWords}
use Rattle.jv_interp_control.specs.ControlStands.{PlaceStands}
use Rattle.jv_interp_control.specs.Inside.Places.{record_place}
use Rattle.jv_interp_control.specs.Exceptions.{IsMade}
use Rattle.jv_interp_control.specs.Inside.Walking.{ThrownStands, Replacing, Replaced}
use Rattle.jv_meaning_world.proofs.Up.{found_is_named}
use Rattle.jv_interp_control.proofs.MemoryJoined.{ExceptionStands, made_of}
use Rattle.jv_interp_control.proofs.ThrownAgain.{initializer_error, IsThrown, is_thrown, has_word, thrown_stands, thrown_control}

same_some : {A : Type 0} (x y : A) → Some x ≡ Some y → x ≡ y
same_some x y e = cc

same_ok : {A : Type 0} (x y : A) → ◌≡◌ {A = OrFault A} (Ok x) (Ok y) → x ≡ y
same_ok x y e = cc

pub numbers_in : (world : World) → IsGuestsWorld world → SystemHasNumbers → AreSystemNumbers world
numbers_in world guests system = subst (λ (w : World). AreSystemNumbers w) (sym guests.world_is) (system guests.given guests.contents)

-- a class has one name
pub same_name_at : (world : World) (a b : List ℕ) (class : ℕ) → HasNumber world a class → HasNumber world b class → a ≡ b
same_name_at world a b class h k =
    let same : h.l ≡ k.l = same_some h.l k.l (sym h.at ∙ k.at) in
    sym (found_is_named world a h.l h.named) ∙ ap (λ (l : Loaded). l.class.name) same ∙ found_is_named world b k.l k.named

-- a class that a name has, with its number
pub numbered_class : (world : World) (name : List ℕ) (class : ℕ) (l : Loaded) → HasNumber world name class → class_named world name ≡ Some l → (h : HasNumber world l.class.name class) × (h.l ≡ l)
numbered_class world name class l h e =
    let same : h.l ≡ l = same_some h.l l (sym h.named ∙ e) in (
      record {
        l = l;
        named = ap (class_named world) (found_is_named world name l e) ∙ e;
        at = h.at ∙ ap Some same;
      },
      refl,
    )

-- ---- an exception that the machine makes and throws, of a class with a number

pub record NewThrown (world : World) (name : List ℕ) (place : Option ThrowPlace) (control : Control) (memory : Memory) (t : Thrown) : Type 0 where
  pub l : Loaded
  pub named : class_named world name ≡ Some l
  pub thrown_is : IsThrown place control (exception_made world l memory (paid (object_cells world l) memory)) t
  pub throws : thrown place control (exception_made world l memory (paid (object_cells world l) memory)) ≡ Ok t

pub new_thrown :
    (world : World) (name : List ℕ) (place : Option ThrowPlace) (control : Control) (memory : Memory) (t : Thrown)
    → (exception world name memory >>= thrown place control) ≡ Ok t → NewThrown world name place control memory t
new_thrown world name place control memory t e =
    let made = bound_gave (exception world name memory) (thrown place control) t e in
    let l = bound_gave (found ReferenceFault (class_named world name)) (λ (l : Loaded). Ok (exception_made world l memory (paid (object_cells world l) memory))) made.0 made.1 in
    let is = same_ok (exception_made world l.0 memory (paid (object_cells world l.0) memory)) made.0 l.2 in
    record {
      l = l.0;
      named = found_gave ReferenceFault (class_named world name) l.0 l.1;
      thrown_is = subst (λ (m : Memory × ℕ). IsThrown place control m t) (sym is) (is_thrown place control made.0 t made.2);
      throws = subst (λ (m : Memory × ℕ). thrown place control m ≡ Ok t) (sym is) made.2;
    }

module _ (program : Program) (texts : List (List ℕ)) (name : List ℕ) (place : Option ThrowPlace) (control : Control) (memory : Memory) (t : Thrown) (addresses : List ℕ)
    (held after : Held) (before blocks : Blocks) (class words : ℕ) (made : Option ℕ) (n : NewThrown program.world name place control memory t)
    (h : MemoryStands program.world texts memory addresses held before) (has : HasNumber program.world name class)
    (size : HoldsAtNumber program.world class (λ l. words ≡ object_words program.world l)) (few : class < 2147483648)
    (same : after ≡ record held { cells = after.cells }) (is_made : IsMade class words held.cells after.cells before blocks made) where
  number : (k : HasNumber program.world n.l.class.name class) × (k.l ≡ n.l)
  number = numbered_class program.world name class n.l has n.named

  pub exception_stands :
      ExceptionStands program.world texts (exception_made program.world n.l memory (paid (object_cells program.world n.l) memory)) addresses
      (unwrap_or made held.out_of_memory) before after blocks
  exception_stands =
      made_of program.world texts memory addresses held after before blocks class words h same few n.l made number.0 number.1
      (sym (size n.l (number.0.at ∙ ap Some number.1))) is_made

  pub exception_word : 0 < length (words_at blocks (unwrap_or made held.out_of_memory))
  exception_word =
      let s = exception_stands in
      has_word program.world texts (exception_made program.world n.l memory (paid (object_cells program.world n.l) memory)).0 (addresses ++ s.more) after blocks
      (exception_made program.world n.l memory (paid (object_cells program.world n.l) memory)).1 (unwrap_or made held.out_of_memory) n.thrown_is.instance s.memory s.object n.thrown_is.there

  pub exception_thrown :
      (now : ThrownInWords) (throws : ℕ) → now.address ≡ unwrap_or made held.out_of_memory → get_or (words_at blocks now.address) 0 0 ≡ now.class
      → control.throws ≡ throws → now.throws ≡ min (throws + 1) (2 ^ 64 - 1) → PlaceStands program.world place now.place
      → ThrownStands program texts t (addresses ++ exception_stands.more) now after blocks
  exception_thrown now throws at word throws_are more there =
      let s = exception_stands in
      thrown_stands program texts place control (exception_made program.world n.l memory (paid (object_cells program.world n.l) memory)) t (addresses ++ s.more) after blocks
      now throws s.memory (s.object ∙ ap Some (sym at)) n.thrown_is word throws_are more there

-- the word of a new one
pub new_word : (class words address : ℕ) (before blocks : Blocks) → Joins (class ∷ replicate words 0) before blocks address → get_or (words_at blocks address) 0 0 ≡ class
new_word class words address before blocks h = ap (λ (ws : List ℕ). get_or ws 0 0) (joined_words (class ∷ replicate words 0) before blocks address h)

-- ---- behind an initialization

module _ (world : World) (all : List FrameRecord) (passed : ℕ) (program : Program) (texts : List (List ℕ)) (t : Thrown) (below : List Frame) (behind : Thrown)
    (addresses : List ℕ) (now : ThrownInWords) (held : Held) (blocks : Blocks)
    (h : Replacing world all passed now held blocks program texts t below behind addresses) (system : SystemHasNumbers) where
  pub numbers : AreSystemNumbers program.world
  numbers = numbers_in program.world h.guests system

  pub class_within : now.class < length world
  class_within = subst (λ (w : World). now.class < length w) h.world_is (slice_get_within program.world now.class _ h.stands.class.at)

  pub error_within : 6 < length world
  error_within = subst (λ (w : World). 6 < length w) h.world_is (slice_get_within program.world 6 _ numbers.error.at)

  pub is_test :
      (r : Bool) → HoldsAtBoth world now.class 6 (λ l to. r ≡ is_at_or_below world l.class.name to.class.name)
      → r ≡ is_at_or_below program.world t.class (codes "java/lang/Error")
  is_test r tells =
      tells h.stands.class.l (ap (λ (w : World). slice_get w now.class) (sym h.world_is) ∙ h.stands.class.at) numbers.error.l
      (ap (λ (w : World). slice_get w 6) (sym h.world_is) ∙ numbers.error.at)
      ∙ ap (λ (w : World). is_at_or_below w h.stands.class.l.class.name numbers.error.l.class.name) (sym h.world_is)
      ∙ ap (λ (name : List ℕ). is_at_or_below program.world name numbers.error.l.class.name) (found_is_named program.world t.class h.stands.class.l h.stands.class.named)
      ∙ ap (λ (name : List ℕ). is_at_or_below program.world t.class name) (found_is_named program.world (codes "java/lang/Error") numbers.error.l numbers.error.named)

  pub known_error : now.class ≡ 23 → is_at_or_below program.world t.class (codes "java/lang/Error") ≡ true
  known_error e =
      let name : t.class ≡ codes "java/lang/ExceptionInInitializerError" =
      same_name_at program.world t.class (codes "java/lang/ExceptionInInitializerError") 23
      (subst (λ (n : ℕ). HasNumber program.world t.class n) e h.stands.class) numbers.in_initializer in
      ap (λ (text : List ℕ). is_at_or_below program.world text (codes "java/lang/Error")) name
      ∙ ap (λ (w : World). is_at_or_below w (codes "java/lang/ExceptionInInitializerError") (codes "java/lang/Error")) h.guests.world_is
      ∙ initializer_error h.guests.given h.guests.contents

  pub stays : is_at_or_below program.world t.class (codes "java/lang/Error") ≡ true → Replaced program texts t behind addresses blocks now held blocks
  stays e =
      let same : t ≡ behind = same_ok t behind (ap (λ (b : Bool). replacement_if program.world t below b) (sym e) ∙ h.goes) in
      subst (λ (b : Thrown). Replaced program texts t b addresses blocks now held blocks) same
      (record {
        more = [];
        stands = subst (λ (l : List ℕ). ThrownStands program texts t l now held blocks) (sym (append-nil addresses)) h.stands;
        control_is = refl;
        grows = grows_not addresses blocks;
      })

  pub new_behind :
      is_at_or_below program.world t.class (codes "java/lang/Error") ≡ false
      → NewThrown program.world (codes "java/lang/ExceptionInInitializerError") (replacement_place below t.control) t.control t.memory behind
  new_behind e =
      new_thrown program.world (codes "java/lang/ExceptionInInitializerError") (replacement_place below t.control) t.control t.memory behind
      (ap (λ (b : Bool). replacement_if program.world t below b) (sym e) ∙ h.goes)

  pub replaced_by :
      (after : Held) (blocks_after : Blocks) (words : ℕ) (made : Option ℕ) (next : ThrownInWords)
      → is_at_or_below program.world t.class (codes "java/lang/Error") ≡ false
      → HoldsAtNumber program.world 23 (λ l. words ≡ object_words program.world l) → after ≡ record held { cells = after.cells }
      → IsMade 23 words held.cells after.cells blocks blocks_after made → next.address ≡ unwrap_or made held.out_of_memory
      → get_or (words_at blocks_after next.address) 0 0 ≡ next.class → next.throws ≡ min (now.throws + 1) (2 ^ 64 - 1)
      → next.place ≡ option_or (record_place (drop passed (reverse all))) now.place
      → Replaced program texts t behind addresses blocks next after blocks_after
  replaced_by after blocks_after words made next e size same is_made at word throws place =
      let n = new_behind e in
      let name = codes "java/lang/ExceptionInInitializerError" in
      let s =
      exception_stands program texts name (replacement_place below t.control) t.control t.memory behind addresses held after blocks blocks_after 23 words made n h.stands.memory
      numbers.in_initializer size (omega arith) same is_made in
      record {
        more = s.more;
        stands =
            exception_thrown program texts name (replacement_place below t.control) t.control t.memory behind addresses held after blocks blocks_after 23 words made n h.stands.memory
            numbers.in_initializer size (omega arith) same is_made next now.throws at word h.stands.throws throws
            (subst (λ (o : Option PlaceRecord). PlaceStands program.world (replacement_place below t.control) o) (sym place) h.place);
        control_is = thrown_control (replacement_place below t.control) t.control _ behind n.thrown_is;
        grows = s.grows;
      }

  pub word_there :
      (after : Held) (blocks_after : Blocks) (words : ℕ) (made : Option ℕ) → is_at_or_below program.world t.class (codes "java/lang/Error") ≡ false
      → HoldsAtNumber program.world 23 (λ l. words ≡ object_words program.world l) → after ≡ record held { cells = after.cells }
      → IsMade 23 words held.cells after.cells blocks blocks_after made → 0 < length (words_at blocks_after (unwrap_or made held.out_of_memory))
  word_there after blocks_after words made e size same is_made =
      exception_word program texts (codes "java/lang/ExceptionInInitializerError") (replacement_place below t.control) t.control t.memory behind addresses held after blocks blocks_after 23 words made
      (new_behind e) h.stands.memory numbers.in_initializer size (omega arith) same is_made
