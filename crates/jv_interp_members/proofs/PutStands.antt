-- putfield on words: the operands, and what stands afterwards.
use Rattle.std.proofs.Common.{◌≡◌, ℕ, zero, suc, ◌+◌, ◌-◌, ◌<◌, ◌≤◌, List, [], ◌∷◌, ◌++◌, Some, Ok, length, refl, sym, ap, subst, ◌∙◌, get_or, drop, set, arith, slice_get, length-append, append-nil}
use Rattle.jv_text.specs.declared.descriptor.FieldTypeOf.{FieldTypeOf}
use Rattle.jv_text.specs.declared.descriptor.Element.{Element}
use Rattle.jv_text.specs.declared.descriptor.Element.TheVariants as elements
use Rattle.jv_stackmap.specs.Types.{value_type}
use Rattle.jv_store.specs.Content.{words_at, written}
use Rattle.jv_pool.specs.Constants.{MemberReference}
use Rattle.jv_meaning_world.specs.World.{World}
use Rattle.jv_meaning_world.specs.LookUps.{DeclaredField}
use Rattle.jv_meaning_machine.specs.Values.{Value, value_words, narrowed, narrowed_by}
use Rattle.jv_meaning_machine.specs.Values.Value.{Int, Long, Null, Reference, Half, Unset}
use Rattle.jv_meaning_machine.specs.Objects.{key_of}
use Rattle.jv_meaning_machine.specs.Objects.Object.{InstanceOf}
use Rattle.jv_meaning_machine.specs.State.{Memory}
use Rattle.jv_meaning_machine.specs.Effects.{Effect, Context, null_pointer}
use Rattle.jv_meaning_machine.specs.Effects.Effect.{Goes, Raises}
use Rattle.jv_meaning_machine.specs.Fields.{with_object, with_field_value, put_field_of, put_field}
use Rattle.jv_interp_words.specs.declared.registers.Registers.{Registers}
use Rattle.jv_interp_words.specs.ValuesInWords.{IsOnTop}
use Rattle.jv_interp_words.specs.FramesInWords.{in_use, FrameStands}
use Rattle.jv_interp_words.proofs.InUse.{in_use_top, length-in_use}
use Rattle.jv_interp_heap.specs.declared.narrowing.Narrowing.{Narrowing}
use Rattle.jv_interp_heap.specs.ObjectsInBlocks.{Blocks, IsIn, HasNumber}
use Rattle.jv_interp_heap.specs.Narrowing.{Narrows}
use Rattle.jv_interp_heap.proofs.Changed.{Changes, word_written, then_changed}
use Rattle.jv_interp_heap.proofs.Fields.{own_length}
use Rattle.jv_interp_heap.proofs.Carried.{word_taken, long_taken}
use Rattle.jv_interp_heap.proofs.Widths.{typed_words, described_words}
use Rattle.jv_interp_held.specs.declared.effect.Effect.TheVariants as effects
use Rattle.jv_interp_held.specs.EffectsInWords.{EffectStands}
use Rattle.jv_interp_held.specs.Executing.{Place, place}
use Rattle.jv_interp_held.specs.Growing.{DidIn}
use Rattle.jv_interp_held.specs.HeldInWords.{MemoryStands}
use Rattle.jv_interp_heap.proofs.Numbered.{system_numbers}
use Rattle.jv_interp_held.proofs.Growths.{changed_grows}
use Rattle.jv_interp_held.proofs.Raised.{raised_in}
use Rattle.jv_interp_held.proofs.Popped.{Popped, frame_popped, some_used, null_word, reference_word, not_zero}
use Rattle.jv_interp_members.specs.Fields.{PuttingField}
use Rattle.jv_interp_members.proofs.Got.{done_same}
use Rattle.jv_interp_members.proofs.Putting.{Puts, puts, PutOf, put_of}
use Rattle.jv_interp_members.proofs.FieldStands.{FieldIn, field_in}
use Rattle.jv_interp_members.proofs.FieldChanged.{word_changed, long_changed}

pub long_stays : (type : FieldTypeOf (List ℕ)) (value : Value) → value_words value ≡ 2 → narrowed type value ≡ value
long_stays type (Long number) e = by_parts type.dimensions type.element
  where
    by_parts : (n : ℕ) (element : Element (List ℕ)) → narrowed_by n element (Long number) ≡ Long number
    by_parts zero (elements.Base base) = refl
    by_parts zero (elements.Class name) = refl
    by_parts (suc n) element = refl
long_stays type (Int number) e = absurd cc
long_stays type Null e = absurd cc
long_stays type (Reference id) e = absurd cc
long_stays type Half e = absurd cc
long_stays type Unset e = absurd cc

module _ (word slots : ℕ) (how : Narrowing) (next : ℕ) (here : Place) (texts : List (List ℕ)) (c : Context) (reference : MemberReference)
    (d : DeclaredField) (addresses : List ℕ) (done : Memory × Effect) (below : List ℕ)
    (h : PuttingField word slots how next here texts c reference d addresses done below) where
  pub p : Puts c reference d done
  p = puts c reference d done h.executes.does

  pub value_width : value_words p.value ≡ slots
  value_width = typed_words (value_type p.type) p.value p.kind ∙ sym (described_words d.field.descriptor p.type p.type_is) ∙ h.width_is

  pub first : Popped addresses c.frame.locals p.value (p.object ∷ p.rest) (in_use here.words here.at.top) below
  first = frame_popped addresses c.frame.locals c.frame.stack p.value (p.object ∷ p.rest) (in_use here.words here.at.top) below h.executes.frame p.stood

  pub second : Popped addresses c.frame.locals p.object p.rest first.under below
  second = frame_popped addresses c.frame.locals (p.object ∷ p.rest) p.object p.rest first.under below first.lower refl

  -- so many words stand on the object's
  pub record Under (size : ℕ) : Type 0 where
    pub enough : size + 1 ≤ here.at.top
    pub under_is : first.under ≡ in_use here.words (here.at.top - size)

  has_top : 1 ≤ here.at.top
  has_top = some_used addresses p.value here.words here.at.top first.under h.executes.top_within first.on_top

  top_used : in_use here.words here.at.top ≡ get_or here.words (here.at.top - 1) 0 ∷ in_use here.words (here.at.top - 1)
  top_used = in_use_top here.words here.at.top has_top h.executes.top_within

  pub record OneUnder : Type 0 where
    pub under : Under 1
    pub value_in : IsIn addresses p.value (get_or here.words (here.at.top - 1) 0 ∷ [])

  pub one_under : slots ≡ 1 → OneUnder
  one_under one =
      let t = word_taken addresses p.value (in_use here.words here.at.top) first.under first.on_top (value_width ∙ one) in
      let both = sym t.used_is ∙ top_used in
      let under : first.under ≡ in_use here.words (here.at.top - 1) = ap (λ (l : List ℕ). drop 1 l) both in
      let is : t.word ≡ get_or here.words (here.at.top - 1) 0 = ap (λ (l : List ℕ). get_or l 0 0) both in
      let within : here.at.top - 1 ≤ length here.words = let a = h.executes.top_within in omega (arith, a) in
      let more =
      some_used addresses p.object here.words (here.at.top - 1) second.under within
      (subst (λ (u : List ℕ). IsOnTop addresses p.object u second.under) under second.on_top) in
      record {
        under = record { enough = omega (arith, more); under_is = under };
        value_in = subst (λ (w : ℕ). IsIn addresses p.value (w ∷ [])) is t.stands;
      }

  pub record TwoUnder : Type 0 where
    pub under : Under 2
    pub value_in : IsIn addresses p.value (get_or here.words (here.at.top - 2) 0 ∷ get_or here.words (here.at.top - 1) 0 ∷ [])

  pub two_under : slots ≡ 2 → TwoUnder
  two_under two =
      let t = long_taken addresses p.value (in_use here.words here.at.top) first.under first.on_top (value_width ∙ two) in
      let length_is = ap length t.used_is in
      let size = length-in_use here.words here.at.top h.executes.top_within in
      let enough : 2 ≤ here.at.top = omega (arith, length_is, size) in
      let lower : here.at.top - 1 ≤ length here.words = let a = h.executes.top_within in omega (arith, a) in
      let next_used = in_use_top here.words (here.at.top - 1) (omega (arith, enough)) lower in
      let minus : here.at.top - 1 - 1 ≡ here.at.top - 2 = omega arith in
      let second_used : in_use here.words (here.at.top - 1) ≡ get_or here.words (here.at.top - 2) 0 ∷ in_use here.words (here.at.top - 2) =
      subst (λ (n : ℕ). in_use here.words (here.at.top - 1) ≡ get_or here.words n 0 ∷ in_use here.words n) minus next_used in
      let both = sym t.used_is ∙ top_used ∙ ap (λ (l : List ℕ). get_or here.words (here.at.top - 1) 0 ∷ l) second_used in
      let under : first.under ≡ in_use here.words (here.at.top - 2) = ap (λ (l : List ℕ). drop 2 l) both in
      let high : t.high ≡ get_or here.words (here.at.top - 1) 0 = ap (λ (l : List ℕ). get_or l 0 0) both in
      let low : t.low ≡ get_or here.words (here.at.top - 2) 0 = ap (λ (l : List ℕ). get_or l 1 0) both in
      let within : here.at.top - 2 ≤ length here.words = let a = h.executes.top_within in omega (arith, a) in
      let more =
      some_used addresses p.object here.words (here.at.top - 2) second.under within
      (subst (λ (u : List ℕ). IsOnTop addresses p.object u second.under) under second.on_top) in
      record {
        under = record { enough = omega (arith, more); under_is = under };
        value_in =
            subst (λ (w : ℕ). IsIn addresses p.value (w ∷ get_or here.words (here.at.top - 1) 0 ∷ [])) low
            (subst (λ (w : ℕ). IsIn addresses p.value (t.low ∷ w ∷ [])) high t.stands);
      }

  module _ (size : ℕ) (u : Under size) where
    abbrev object_word : ℕ
    object_word = get_or here.words (here.at.top - size - 1) 0

    used_is : in_use here.words (here.at.top - size) ≡ object_word ∷ in_use here.words (here.at.top - size - 1)
    used_is =
        let a = h.executes.top_within in
        let b = u.enough in
        in_use_top here.words (here.at.top - size) (omega (arith, b)) (omega (arith, a))

    on_top : IsOnTop addresses p.object (object_word ∷ in_use here.words (here.at.top - size - 1)) second.under
    on_top = subst (λ (ws : List ℕ). IsOnTop addresses p.object ws second.under) (u.under_is ∙ used_is) second.on_top

    -- ---- null

    pub raises : object_word ≡ 0 → DidIn here.blocks texts here (effects.Raises 15) c addresses done below
    raises zero_is = by_reference p.object p.does on_top
      where
        by_reference :
            (v : Value) → put_field_of c reference d v (narrowed p.type p.value) p.rest ≡ Ok done
            → IsOnTop addresses v (object_word ∷ in_use here.words (here.at.top - size - 1)) second.under
            → DidIn here.blocks texts here (effects.Raises 15) c addresses done below
        by_reference Null does t =
            raised_in (λ c. put_field c reference d) texts next here c addresses done below h.executes null_pointer 15
            (done_same (c.memory, Raises null_pointer) done does)
            (subst (λ (w : World). HasNumber w null_pointer 15) (sym h.guests.world_is) (system_numbers h.guests.given h.guests.contents).null_pointer)
        by_reference (Reference id) does t =
            let r = reference_word addresses id object_word _ second.under t in
            absurd (not_zero addresses id object_word h.executes.memory.objects.are r.0 zero_is)
        by_reference (Int n) does t = absurd cc
        by_reference (Long n) does t = absurd cc
        by_reference Half does t = absurd cc
        by_reference Unset does t = absurd cc

    -- ---- an object

    pub record PutsIn : Type 0 where
      pub id : ℕ
      pub at : slice_get addresses id ≡ Some object_word
      pub of : PutOf c d id (narrowed p.type p.value) p.rest done
      pub field : FieldIn c.program.world addresses of.instance d of.old word (words_at here.blocks object_word)
      pub rest_is : in_use here.words (here.at.top - size - 1) ≡ second.under

    pub puts_in : (object_word ≡ 0 → ⊥) → PutsIn
    puts_in some = by_reference p.object p.does on_top
      where
        by_reference :
            (v : Value) → put_field_of c reference d v (narrowed p.type p.value) p.rest ≡ Ok done
            → IsOnTop addresses v (object_word ∷ in_use here.words (here.at.top - size - 1)) second.under → PutsIn
        by_reference Null does t = absurd (some (null_word addresses object_word _ second.under t).0)
        by_reference (Reference id) does t =
            let r = reference_word addresses id object_word _ second.under t in
            let of = put_of c reference d id (narrowed p.type p.value) p.rest done does in
            record {
              id = id;
              at = r.0;
              of = of;
              field =
                  field_in c.program.world addresses of.instance (words_at here.blocks object_word) d of.old word
                  (λ l named. h.loadable id of.instance l of.there named)
                  (h.executes.memory.objects.each id object_word (InstanceOf of.instance) r.0 of.there) h.begins of.holds;
              rest_is = r.1;
            }
        by_reference (Int n) does t = absurd cc
        by_reference (Long n) does t = absurd cc
        by_reference Half does t = absurd cc
        by_reference Unset does t = absurd cc

    -- the frame goes on without both, over the changed memory
    pub went :
        (i : PutsIn) (at : Registers) (after : Blocks) → at.pc ≡ next → at.top ≡ here.at.top - size - 1
        → MemoryStands c.program.world texts (with_object i.id (with_field_value (key_of d) (narrowed p.type p.value) i.of.instance) c.memory) addresses here.held after
        → (block : List ℕ) → Changes object_word block here.blocks after
        → DidIn here.blocks texts (place at here.words here.held after) effects.Goes c addresses done below
    went i at after pc_is top_is memory block changes =
        subst (λ (x : Memory × Effect). DidIn here.blocks texts (place at here.words here.held after) effects.Goes c addresses x below) (sym i.of.is)
        (record {
          did = record {
            more = [];
            effect_stands =
                subst (λ (l : List ℕ). EffectStands c.program.world l c.frame (Goes c.next c.frame.locals p.rest) effects.Goes at (in_use here.words at.top) below)
                (sym (append-nil addresses))
                (record {
                  pc_is = pc_is ∙ h.executes.next_is;
                  count = refl;
                  stand =
                      subst (λ (u : List ℕ). FrameStands addresses c.frame.locals p.rest u below)
                      (sym (ap (in_use here.words) top_is ∙ i.rest_is)) second.lower;
                });
            memory =
                subst (λ (l : List ℕ). MemoryStands c.program.world texts (with_object i.id (with_field_value (key_of d) (narrowed p.type p.value) i.of.instance) c.memory) l here.held after)
                (sym (append-nil addresses)) memory;
          };
          grows = changed_grows addresses block i.id object_word here.blocks after i.at changes;
        })

    -- the block has the field's words
    pub block_length : (i : PutsIn) → word + slots < length (words_at here.blocks object_word)
    block_length i =
        let own = own_length addresses i.of.old i.field.own i.field.stands in
        let width = i.field.width ∙ h.width_is in
        let size = ap length i.field.block_is in
        omega (arith, own, width, size, i.field.place_is, length-append i.field.before (i.field.own ++ i.field.behind), length-append i.field.own i.field.behind)

    new_width : (i : PutsIn) → value_words (narrowed p.type p.value) ≡ slots → value_words (narrowed p.type p.value) ≡ value_words i.of.old
    new_width i e = e ∙ sym (i.field.width ∙ h.width_is)

  -- ---- one word

  pub put_word :
      (one : slots ≡ 1) (stored : ℕ) (at : Registers) (after : Blocks) → Narrows how (get_or here.words (here.at.top - 1) 0) stored
      → (i : PutsIn 1 (one_under one).under) → at.pc ≡ next → at.top ≡ here.at.top - 2
      → after ≡ written here.blocks (get_or here.words (here.at.top - 2) 0) (word + 1) stored
      → DidIn here.blocks texts (place at here.words here.held after) effects.Goes c addresses done below
  put_word one stored at after narrows i pc_is top_is after_is =
      let u = one_under one in
      let value_in = narrows addresses p.type p.value (h.narrows p.type p.type_is) p.kind u.value_in in
      let size = sym (own_length addresses (narrowed p.type p.value) (stored ∷ []) value_in) in
      let old_one : value_words i.of.old ≡ 1 = i.field.width ∙ h.width_is ∙ one in
      let minus : here.at.top - 1 - 1 ≡ here.at.top - 2 = omega arith in
      let memory =
      word_changed c.program.world texts c.memory addresses here.held here.blocks d word i.id (object_word 1 u.under) i.of.instance i.of.old
      (narrowed p.type p.value) h.executes.memory i.at i.of.there i.field (size ∙ sym old_one) stored value_in old_one in
      let written_is : after ≡ written here.blocks (object_word 1 u.under) (word + 1) stored =
      after_is ∙ ap (λ (n : ℕ). written here.blocks (get_or here.words n 0) (word + 1) stored) (sym minus) in
      went 1 u.under i at after pc_is (top_is ∙ sym minus)
      (subst (λ (b : Blocks). MemoryStands c.program.world texts (with_object i.id (with_field_value (key_of d) (narrowed p.type p.value) i.of.instance) c.memory) addresses here.held b)
      (sym written_is) memory)
      (set (words_at here.blocks (object_word 1 u.under)) (word + 1) stored)
      (subst (λ (b : Blocks). Changes (object_word 1 u.under) (set (words_at here.blocks (object_word 1 u.under)) (word + 1) stored) here.blocks b) (sym written_is)
      (word_written here.blocks (object_word 1 u.under) (word + 1) stored))

  -- ---- a long, which nothing narrows

  pub put_long :
      (two : slots ≡ 2) (at : Registers) (after : Blocks) → IsIn addresses (narrowed p.type p.value) (get_or here.words (here.at.top - 2) 0 ∷ get_or here.words (here.at.top - 1) 0 ∷ [])
      → (i : PutsIn 2 (two_under two).under) → at.pc ≡ next → at.top ≡ here.at.top - 3
      → after ≡ written (written here.blocks (get_or here.words (here.at.top - 3) 0) (word + 1) (get_or here.words (here.at.top - 2) 0))
      (get_or here.words (here.at.top - 3) 0) (word + 2) (get_or here.words (here.at.top - 1) 0)
      → DidIn here.blocks texts (place at here.words here.held after) effects.Goes c addresses done below
  put_long two at after value_in i pc_is top_is after_is =
      let u = two_under two in
      let low = get_or here.words (here.at.top - 2) 0 in
      let high = get_or here.words (here.at.top - 1) 0 in
      let size = sym (own_length addresses (narrowed p.type p.value) (low ∷ high ∷ []) value_in) in
      let old_two : value_words i.of.old ≡ 2 = i.field.width ∙ h.width_is ∙ two in
      let minus : here.at.top - 2 - 1 ≡ here.at.top - 3 = omega arith in
      let memory =
      long_changed c.program.world texts c.memory addresses here.held here.blocks d word i.id (object_word 2 u.under) i.of.instance i.of.old
      (narrowed p.type p.value) h.executes.memory i.at i.of.there i.field (size ∙ sym old_two) low high value_in old_two in
      let address = object_word 2 u.under in
      let between = written here.blocks address (word + 1) low in
      let written_is : after ≡ written between address (word + 2) high =
      after_is ∙ ap (λ (n : ℕ). written (written here.blocks (get_or here.words n 0) (word + 1) low) (get_or here.words n 0) (word + 2) high) (sym minus) in
      went 2 u.under i at after pc_is (top_is ∙ sym minus)
      (subst (λ (b : Blocks). MemoryStands c.program.world texts (with_object i.id (with_field_value (key_of d) (narrowed p.type p.value) i.of.instance) c.memory) addresses here.held b)
      (sym written_is) memory)
      (set (words_at between address) (word + 2) high)
      (subst (λ (b : Blocks). Changes address (set (words_at between address) (word + 2) high) here.blocks b) (sym written_is)
      (then_changed address (set (words_at here.blocks address) (word + 1) low) (set (words_at between address) (word + 2) high) here.blocks between (written between address (word + 2) high)
      (word_written here.blocks address (word + 1) low) (word_written between address (word + 2) high)))

  -- a long is stored as it is
  pub long_whole : slots ≡ 2 → narrowed p.type p.value ≡ p.value
  long_whole two = long_stays p.type p.value (value_width ∙ two)
