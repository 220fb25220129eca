-- Instructions that ask what type an object is of: what the machine does stands afterwards.
use Rattle.std.proofs.Common.{◌≡◌, ℕ, ◌+◌, ◌-◌, ◌<◌, pos, Bool, true, false, List, ◌∷◌, Some, None, Ok, Err, length, get_or, set, refl, sym, ap, subst, ◌∙◌, arith, slice_get}
use Rattle.std.specs.Prelude.{Result, if◌then◌else◌}
use Rattle.std.specs.Int.{w32, cast_signed}
use Rattle.jv_text.specs.declared.descriptor.FieldTypeOf.{FieldTypeOf}
use Rattle.jv_store.specs.Content.{words_at}
use Rattle.jv_meaning_world.specs.World.{World}
use Rattle.jv_meaning_typing.specs.LinkErrors.{error_class}
use Rattle.jv_meaning_typing.specs.Operands.{class_operand}
use Rattle.jv_meaning_typing.specs.ClassResolution.{resolve_class}
use Rattle.jv_meaning_typing.specs.Environment.{current_class}
use Rattle.jv_meaning_typing.specs.Named.{object_class_type}
use Rattle.jv_meaning_machine.specs.Faults.{◌>>=◌}
use Rattle.jv_meaning_machine.specs.Faults.Fault.{OffsetFault, ReferenceFault}
use Rattle.jv_meaning_machine.specs.Values.{Value, is_reference_value}
use Rattle.jv_meaning_machine.specs.Values.Value.{Int, Null, Reference}
use Rattle.jv_meaning_machine.specs.Objects.{Object, is_instance_of}
use Rattle.jv_meaning_machine.specs.State.{Memory}
use Rattle.jv_meaning_machine.specs.Operands.{object_at, taken_reference}
use Rattle.jv_meaning_machine.specs.Effects.{Effect, Context, Outcome, world_at, method_at, site_at, unless_error, class_constant, resolved_type, class_cast}
use Rattle.jv_meaning_machine.specs.Effects.Effect.{Goes, Raises}
use Rattle.jv_meaning_machine.specs.Instructions.{when_tested, cast_if, check_cast_of, answered, instance_of_value}
use Rattle.jv_interp_words.specs.declared.registers.Registers.{Registers}
use Rattle.jv_interp_words.specs.FramesInWords.{in_use, FrameStands}
use Rattle.jv_interp_words.proofs.Gave.{bound_gave, found_gave}
use Rattle.jv_interp_words.proofs.Taken.{taken_gave}
use Rattle.jv_interp_words.proofs.InUse.{in_use_pushed}
use Rattle.jv_interp_heap.specs.ObjectsInBlocks.{HasNumber, ObjectStands}
use Rattle.jv_interp_held.specs.declared.effect.Effect.TheVariants as effects
use Rattle.jv_interp_held.specs.Executing.{Place, place, Did}
use Rattle.jv_interp_heap.proofs.Numbered.{system_numbers}
use Rattle.jv_interp_held.proofs.Popped.{frame_pushed}
use Rattle.jv_interp_held.proofs.Raised.{raised, went_on}
use Rattle.jv_interp_members.specs.Known.{Known}
use Rattle.jv_interp_held.proofs.Entered.{done_same}
use Rattle.jv_interp_members.proofs.Called.{unless_raised, unless_next}
use Rattle.jv_interp_objects.proofs.Thrice.{taken_kind}
use Rattle.jv_interp_objects.specs.declared.types.NumberedType.{NumberedType}
use Rattle.jv_interp_objects.specs.Types.{IsOfType, HasWord}
use Rattle.jv_interp_objects.specs.Named.{NamesClass, Names, IsNamed}
use Rattle.jv_interp_objects.specs.Asking.{Asking}
use Rattle.jv_interp_objects.proofs.TypeWords.{first_word, some_word}
use Rattle.jv_interp_objects.proofs.TopReference.{OnTop, reference_on_top}

-- ---- such an instruction: its constant, the reference on top, and what is done with these

abbrev pub Step : Type 0
Step = Context → List ℕ → Value → List Value → Outcome

abbrev pub asks : Step → ℕ → Context → Outcome
asks step index c = class_constant c index >>= λ text. taken_reference c.memory.objects c.frame.stack >>= λ top. step c text top.0 top.1

-- and what an answer leads to
abbrev pub Tail : Type 0
Tail = Context → List Value → Bool → Outcome

abbrev pub ByTest : Step → Tail → Type 0
ByTest step tail =
    (c : Context) (text : List ℕ) (id : ℕ) (rest : List Value) → step c text (Reference id) rest ≡ when_tested c text id (tail c rest)

pub record Asked (step : Step) (c : Context) (index : ℕ) (done : Memory × Effect) : Type 0 where
  pub text : List ℕ
  pub operand : class_operand (current_class (method_at c)) index ≡ Some text
  pub value : Value
  pub rest : List Value
  pub stood : c.frame.stack ≡ value ∷ rest
  pub kind : is_reference_value value ≡ true
  pub does : step c text value rest ≡ Ok done

pub asked : (step : Step) (c : Context) (index : ℕ) (done : Memory × Effect) → asks step index c ≡ Ok done → Asked step c index done
asked step c index done e =
    let text =
    bound_gave (class_constant c index)
    (λ (t : List ℕ). taken_reference c.memory.objects c.frame.stack >>= λ top. step c t top.0 top.1) done e in
    let top = bound_gave (taken_reference c.memory.objects c.frame.stack) (λ (t : Value × List Value). step c text.0 t.0 t.1) done text.2 in
    record {
      text = text.0;
      operand = found_gave OffsetFault (class_operand (current_class (method_at c)) index) text.0 text.1;
      value = top.0.0;
      rest = top.0.1;
      stood = taken_gave c.memory.objects object_class_type c.frame.stack top.0 top.1;
      kind = taken_kind c.memory.objects object_class_type c.frame.stack top.0 top.1;
      does = top.2;
    }

module _ (step : Step) (index next : ℕ) (k : Known) (here : Place) (texts : List (List ℕ)) (c : Context) (addresses : List ℕ) (done : Memory × Effect) (below : List ℕ)
    (h : Asking (asks step index) next k here texts c addresses done below) where
  pub it : Asked step c index done
  it = asked step c index done h.executes.does

  pub top : OnTop addresses c.frame.locals it.value it.rest here.words here.at.top below
  top =
      reference_on_top addresses c.frame.locals c.frame.stack it.value it.rest here.words here.at.top below h.executes.memory.objects.are
      h.executes.frame it.stood it.kind h.executes.top_within

  abbrev word : ℕ
  word = get_or here.words (here.at.top - 1) 0

  abbrev block : List ℕ
  block = words_at here.blocks word

  pub names : NamesClass k.world k.site index
  names = record { s = c.frame.method.site; text = it.text; seen = h.known.site; operand = it.operand }

  -- null is on top
  pub null_does : word ≡ 0 → step c it.text Null it.rest ≡ Ok done
  null_does zero_is = subst (λ (v : Value). step c it.text v it.rest ≡ Ok done) (top.null zero_is) it.does

  -- ---- an object is

  module _ (tail : Tail) (tests : ByTest step tail) (other : word ≡ 0 → ⊥) where
    pub record Tested : Type 0 where
      pub object : Object
      pub stands : ObjectStands c.program.world addresses object block
      pub does :
          unless_error c (resolve_class (world_at c) (site_at c) None it.text)
          (λ class. tail c it.rest (is_instance_of (world_at c) object (resolved_type class))) ≡ Ok done

    pub tested : Tested
    tested =
        let r = top.refers other in
        let does : when_tested c it.text r.id (tail c it.rest) ≡ Ok done =
        sym (tests c it.text r.id it.rest) ∙ subst (λ (v : Value). step c it.text v it.rest ≡ Ok done) r.is it.does in
        let object =
        bound_gave (object_at c.memory.objects r.id)
        (λ (o : Object).
        unless_error c (resolve_class (world_at c) (site_at c) None it.text)
        (λ class. tail c it.rest (is_instance_of (world_at c) o (resolved_type class)))) done does in
        record {
          object = object.0;
          stands =
              h.executes.memory.objects.each r.id word object.0 r.at
              (found_gave ReferenceFault (slice_get c.memory.objects r.id) object.0 object.1);
          does = object.2;
        }

    pub has_word : HasWord k.world tested.object (get_or block 0 0)
    has_word =
        subst (λ (w : World). HasWord w tested.object (get_or block 0 0)) h.known.world
        (first_word c.program.world addresses tested.object block tested.stands)

    pub some_block : 0 < length block
    some_block = some_word c.program.world addresses tested.object block tested.stands

    resolves :
        (answer : Result NumberedType ℕ) → IsNamed k.world k.site index answer
        → Names c.program.world (resolve_class c.program.world c.frame.method.site None it.text) answer
    resolves answer clause =
        subst (λ (w : World). Names w (resolve_class w c.frame.method.site None it.text) answer) (sym h.known.world)
        (clause c.frame.method.site it.text h.known.site it.operand)

    pub failed : (number : ℕ) → IsNamed k.world k.site index (Err number) → Did texts here (effects.Raises number) c addresses done below
    failed number clause =
        let e = resolves (Err number) clause in
        raised (asks step index) texts next here c addresses done below h.executes (error_class e.error) number
        (unless_raised c (resolve_class (world_at c) (site_at c) None it.text)
        (λ class. tail c it.rest (is_instance_of (world_at c) tested.object (resolved_type class))) e.error done e.is tested.does) e.numbered

    -- the type that is asked for
    pub record OfType (numbers : NumberedType) : Type 0 where
      pub type : FieldTypeOf (List ℕ)
      pub is_of : IsOfType k.world type numbers
      pub does : tail c it.rest (is_instance_of k.world tested.object type) ≡ Ok done

    pub of_type : (numbers : NumberedType) → IsNamed k.world k.site index (Ok numbers) → OfType numbers
    of_type numbers clause =
        let t = resolves (Ok numbers) clause in
        record {
          type = resolved_type t.resolved;
          is_of = subst (λ (w : World). IsOfType w (resolved_type t.resolved) numbers) h.known.world t.of_type;
          does =
              subst (λ (w : World). tail c it.rest (is_instance_of w tested.object (resolved_type t.resolved)) ≡ Ok done) h.known.world
              (unless_next c (resolve_class (world_at c) (site_at c) None it.text)
              (λ class. tail c it.rest (is_instance_of (world_at c) tested.object (resolved_type class))) t.resolved done t.is tested.does);
        }

    pub does_so :
        (numbers : NumberedType) (clause : IsNamed k.world k.site index (Ok numbers)) (answer : Bool)
        → ((object : Object) (type : FieldTypeOf (List ℕ)) → HasWord k.world object (get_or block 0 0) → IsOfType k.world type numbers
        → answer ≡ is_instance_of k.world object type)
        → tail c it.rest answer ≡ Ok done
    does_so numbers clause answer tells =
        let t = of_type numbers clause in
        ap (tail c it.rest) (tells tested.object t.type has_word t.is_of) ∙ t.does

-- ---- instanceof

abbrev pub instance_step : Step
instance_step c text value rest = instance_of_value c text value rest

abbrev pub instance_tail : Tail
instance_tail c rest answer = answered c rest answer

pub instance_tests : ByTest instance_step instance_tail
instance_tests c text id rest = refl

module _ (index next : ℕ) (k : Known) (here : Place) (texts : List (List ℕ)) (c : Context) (addresses : List ℕ) (done : Memory × Effect) (below : List ℕ)
    (h : Asking (asks instance_step index) next k here texts c addresses done below) where
  abbrev i : Asked instance_step c index done
  i = it instance_step index next k here texts c addresses done below h

  abbrev t : OnTop addresses c.frame.locals i.value i.rest here.words here.at.top below
  t = top instance_step index next k here texts c addresses done below h

  answers :
      (number : ℕ) (at : Registers) (words : List ℕ) → done ≡ (c.memory, Goes c.next c.frame.locals (Int (cast_signed w32 number) ∷ i.rest))
      → at.pc ≡ next → in_use words at.top ≡ number ∷ in_use here.words (here.at.top - 1)
      → Did texts (place at words here.held here.blocks) effects.Goes c addresses done below
  answers number at words is pc_is used =
      went_on (asks instance_step index) texts next here c addresses done below h.executes at words (Int (cast_signed w32 number) ∷ i.rest) is pc_is
      (frame_pushed addresses c.frame.locals (Int (cast_signed w32 number)) i.rest (in_use words at.top) (in_use here.words (here.at.top - 1)) below
      t.lower (number, used, refl))

  pub null_answers : (at : Registers) → get_or here.words (here.at.top - 1) 0 ≡ 0 → at.pc ≡ next → at.top ≡ here.at.top →
      Did texts (place at here.words here.held here.blocks) effects.Goes c addresses done below
  null_answers at zero_is pc_is top_is =
      answers 0 at here.words
      (done_same (c.memory, Goes c.next c.frame.locals (Int (pos 0) ∷ i.rest)) done
      (null_does instance_step index next k here texts c addresses done below h zero_is)) pc_is
      (ap (in_use here.words) top_is ∙ t.used_is ∙ ap (λ (n : ℕ). n ∷ in_use here.words (here.at.top - 1)) zero_is)

  pub object_answers :
      (answer : Bool) (at : Registers) → instance_tail c i.rest answer ≡ Ok done → at.pc ≡ next → at.top ≡ here.at.top
      → Did texts (place at (set here.words (here.at.top - 1) (if answer then 1 else 0)) here.held here.blocks) effects.Goes c addresses done below
  object_answers answer at does pc_is top_is =
      answers (if answer then 1 else 0) at (set here.words (here.at.top - 1) (if answer then 1 else 0)) (is answer does) pc_is
      (ap (in_use (set here.words (here.at.top - 1) (if answer then 1 else 0))) (top_is ∙ up)
      ∙ in_use_pushed here.words (here.at.top - 1) (if answer then 1 else 0) below_top)
    where
      up : here.at.top ≡ here.at.top - 1 + 1
      up = let some = t.some in omega (arith, some)

      below_top : here.at.top - 1 < length here.words
      below_top = let some = t.some in let within = h.executes.top_within in omega (arith, some, within)

      is :
          (b : Bool) → answered c i.rest b ≡ Ok done
          → done ≡ (c.memory, Goes c.next c.frame.locals (Int (cast_signed w32 (if b then 1 else 0)) ∷ i.rest))
      is true e = done_same (c.memory, Goes c.next c.frame.locals (Int (pos 1) ∷ i.rest)) done e
      is false e = done_same (c.memory, Goes c.next c.frame.locals (Int (pos 0) ∷ i.rest)) done e

-- ---- checkcast

abbrev pub cast_step : Step
cast_step c text value rest = check_cast_of c text value

abbrev pub cast_tail : Tail
cast_tail c rest answer = cast_if c answer

pub cast_tests : ByTest cast_step cast_tail
cast_tests c text id rest = refl

module _ (index next : ℕ) (k : Known) (here : Place) (texts : List (List ℕ)) (c : Context) (addresses : List ℕ) (done : Memory × Effect) (below : List ℕ)
    (h : Asking (asks cast_step index) next k here texts c addresses done below) where
  stays :
      (at : Registers) → done ≡ (c.memory, Goes c.next c.frame.locals c.frame.stack) → at.pc ≡ next → at.top ≡ here.at.top
      → Did texts (place at here.words here.held here.blocks) effects.Goes c addresses done below
  stays at is pc_is top_is =
      went_on (asks cast_step index) texts next here c addresses done below h.executes at here.words c.frame.stack is pc_is
      (subst (λ (l : List ℕ). FrameStands addresses c.frame.locals c.frame.stack l below) (sym (ap (in_use here.words) top_is)) h.executes.frame)

  pub null_stays : (at : Registers) → get_or here.words (here.at.top - 1) 0 ≡ 0 → at.pc ≡ next → at.top ≡ here.at.top →
      Did texts (place at here.words here.held here.blocks) effects.Goes c addresses done below
  null_stays at zero_is pc_is top_is =
      stays at
      (done_same (c.memory, Goes c.next c.frame.locals c.frame.stack) done
      (null_does cast_step index next k here texts c addresses done below h zero_is)) pc_is top_is

  pub object_stays :
      (answer : Bool) (at : Registers) → cast_if c answer ≡ Ok done → answer ≡ true → at.pc ≡ next → at.top ≡ here.at.top
      → Did texts (place at here.words here.held here.blocks) effects.Goes c addresses done below
  object_stays answer at does is pc_is top_is =
      stays at
      (done_same (c.memory, Goes c.next c.frame.locals c.frame.stack) done (subst (λ (b : Bool). cast_if c b ≡ Ok done) is does)) pc_is top_is

  pub cast_raises : (answer : Bool) → cast_if c answer ≡ Ok done → answer ≡ false → Did texts here (effects.Raises 10) c addresses done below
  cast_raises answer does is =
      raised (asks cast_step index) texts next here c addresses done below h.executes class_cast 10
      (done_same (c.memory, Raises class_cast) done (subst (λ (b : Bool). cast_if c b ≡ Ok done) is does))
      (subst (λ (w : World). HasNumber w class_cast 10) (sym (h.known.world ∙ h.known.guests.world_is)) (system_numbers h.known.guests.given h.known.guests.contents).class_cast)
