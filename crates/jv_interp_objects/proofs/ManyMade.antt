-- multianewarray on words: what the machine does stands afterwards.
use Rattle.std.proofs.Common.{◌≡◌, ℕ, zero, suc, ◌+◌, ◌-◌, ◌*◌, ◌<◌, ◌≤◌, Bool, true, false, List, [], ◌∷◌, ◌++◌, Some, Ok, map, length, reverse, replicate, take, drop, set, slice_get, sym, ap, subst, ◌∙◌, arith}
use Rattle.std.specs.List.{list_any}
use Rattle.std.proofs.lemmas.List.{length-replicate}
use Rattle.jv_text.specs.declared.descriptor.FieldTypeOf.{FieldTypeOf}
use Rattle.jv_stackmap.specs.declared.verification.VerificationTypeOf.TheVariants as types
use Rattle.jv_stackmap.specs.Types.{FrameType, value_type, width, component}
use Rattle.jv_meaning_world.specs.World.{World}
use Rattle.jv_meaning_machine.specs.Values.{Value}
use Rattle.jv_meaning_machine.specs.Values.Value.{Reference}
use Rattle.jv_meaning_machine.specs.State.{Memory}
use Rattle.jv_meaning_machine.specs.Costs.{arrays_cells, paid, next_object}
use Rattle.jv_meaning_machine.specs.Operands.{taken}
use Rattle.jv_meaning_machine.specs.Effects.{Effect, Context, out_of_memory, negative_size}
use Rattle.jv_meaning_machine.specs.Effects.Effect.{Goes, Throws, Raises}
use Rattle.jv_meaning_machine.specs.Arrays.{arrays_made, push_arrays, is_negative_count, count_of, make_arrays_if, make_arrays}
use Rattle.jv_meaning_machine.proofs.TakenItems.{taken_count}
use Rattle.jv_interp_words.specs.declared.registers.Registers.{Registers}
use Rattle.jv_interp_words.specs.ValuesInWords.{AreOnTop}
use Rattle.jv_interp_words.specs.FramesInWords.{in_use, FrameStands}
use Rattle.jv_interp_words.proofs.Gave.{bound_gave}
use Rattle.jv_interp_words.proofs.Taken.{all_taken}
use Rattle.jv_interp_words.proofs.Grown.{frame_grown}
use Rattle.jv_interp_words.proofs.InUse.{in_use_pushed}
use Rattle.jv_interp_heap.specs.ObjectsInBlocks.{Blocks, HasNumber, ObjectsStand}
use Rattle.jv_interp_held.specs.declared.effect.Effect.TheVariants as effects
use Rattle.jv_interp_held.specs.Executing.{Place, place}
use Rattle.jv_interp_held.specs.Growing.{Grows, DidIn}
use Rattle.jv_interp_heap.proofs.Numbered.{system_numbers}
use Rattle.jv_interp_held.proofs.Popped.{frame_pushed}
use Rattle.jv_interp_objects.specs.Payments.{IsLacking}
use Rattle.jv_interp_objects.specs.NestedBlocks.{nested_cost}
use Rattle.jv_interp_objects.specs.NestedArrays.{AreCounts, AreWords, is_negative_word, NestedPaid, arrays_of, HoldsArrays, MakingArrays}
use Rattle.jv_interp_objects.proofs.More.{memory_grown}
use Rattle.jv_interp_objects.proofs.Went.{done_same, paid_lacks, paid_left, lacks_in, raises_in, goes_in}
use Rattle.jv_interp_objects.proofs.Behind.{addresses_in, behind_grows, under_more, under_all, all_joined}
use Rattle.jv_interp_objects.proofs.NestedObjects.{cost_is, PlacedAt, nested_stand}
use Rattle.jv_interp_objects.proofs.CountsTaken.{AreInts, ints_taken, OnTop, on_top, words_count, Among, among, negatives, are_counts, counts_are}

-- ---- types

few_words : (t : FrameType) → width t ≤ 2
few_words types.Long = omega arith
few_words _ = omega arith

pub slots_few : (slots n : ℕ) (type : FieldTypeOf (List ℕ)) → HoldsArrays slots n type → slots ≤ 2
slots_few slots zero type h = absurd h
slots_few slots (suc zero) type h = let few = few_words (value_type type) in let is = h.0 in omega (arith, few, is)
slots_few slots (suc (suc n)) type h = slots_few slots (suc n) (component type) h.1

enough_dimensions : (slots n : ℕ) (type : FieldTypeOf (List ℕ)) → HoldsArrays slots n type → n ≤ type.dimensions + 1
enough_dimensions slots zero type h = absurd h
enough_dimensions slots (suc zero) type h = omega arith
enough_dimensions slots (suc (suc n)) type h =
    let rest = enough_dimensions slots (suc n) (component type) h.1 in
    let some = h.0 in
    omega (arith, rest, some)

pub some_dimension : (slots n : ℕ) (type : FieldTypeOf (List ℕ)) → HoldsArrays slots n type → 1 ≤ n
some_dimension slots zero type h = absurd h
some_dimension slots (suc n) type h = omega arith

get_behind : (xs ys : List ℕ) (i j a : ℕ) → j ≡ length xs + i → slice_get ys i ≡ Some a → slice_get (xs ++ ys) j ≡ Some a
get_behind [] ys i j a n e =
    let same : i ≡ j = omega (arith, n) in
    subst (λ (k : ℕ). slice_get ys k ≡ Some a) same e
get_behind (x ∷ xs) ys i zero a n e = absurd (omega (arith, n))
get_behind (x ∷ xs) ys i (suc j) a n e = get_behind xs ys i j a (omega (arith, n)) e

-- ---- what the machine does

pub record TakesCounts (c : Context) (dimensions : ℕ) (components : FieldTypeOf (List ℕ)) (done : Memory × Effect) : Type 0 where
  pub values : List Value
  pub rest : List Value
  pub stood : c.frame.stack ≡ reverse values ++ rest
  pub ints : AreInts values
  pub count : length values ≡ dimensions
  pub does : make_arrays c components values rest ≡ Ok done

pub takes_counts : (c : Context) (dimensions : ℕ) (components : FieldTypeOf (List ℕ)) (done : Memory × Effect) → arrays_of dimensions components c ≡ Ok done → TakesCounts c dimensions components done
takes_counts c dimensions components done e =
    let kinds = replicate dimensions types.Int in
    let taking =
    bound_gave (taken c.memory.objects kinds c.frame.stack)
    (λ (counts : List Value × List Value). make_arrays c components counts.0 counts.1) done e in
    record {
      values = taking.0.0;
      rest = taking.0.1;
      stood = all_taken c.memory.objects kinds c.frame.stack taking.0 taking.1;
      ints = ints_taken c.memory.objects dimensions c.frame.stack taking.0 taking.1;
      count = taken_count c.memory.objects kinds c.frame.stack taking.0 taking.1 ∙ length-replicate {A = FrameType} dimensions types.Int;
      does = taking.2;
    }

module _ (word slots dimensions next : ℕ) (here : Place) (texts : List (List ℕ)) (c : Context) (components : FieldTypeOf (List ℕ)) (addresses : List ℕ) (done : Memory × Effect) (below : List ℕ)
    (h : MakingArrays word slots dimensions next here texts c components addresses done below) where
  t : TakesCounts c dimensions components done
  t = takes_counts c dimensions components done h.executes.does

  abbrev used : List ℕ
  used = in_use here.words here.at.top

  o : OnTop addresses t.values t.rest used (reverse h.executes.frame.words ++ below)
  o =
      on_top addresses t.values t.rest used (reverse h.executes.frame.words ++ below) t.ints
      (subst (λ (vs : List Value). AreOnTop addresses vs used (reverse h.executes.frame.words ++ below)) t.stood h.executes.frame.stack_stands)

  lower : FrameStands addresses c.frame.locals t.rest o.under below
  lower = record { words = h.executes.frame.words; stack_stands = o.lower; locals_stand = h.executes.frame.locals_stand }

  size : length o.words ≡ dimensions
  size = words_count t.values o.words o.are ∙ t.count

  abbrev first : ℕ
  first = here.at.top - dimensions

  a : Among here.words o.words o.under here.at.top first
  a =
      among here.words o.words o.under here.at.top first h.executes.top_within o.used_is
      (let n = size in omega (arith, n))

  pub within : first + dimensions ≡ here.at.top
  within = let n = size in let w = a.within in omega (arith, n, w)

  pub top_within : here.at.top ≤ length here.words
  top_within = h.executes.top_within

  pub some : 1 ≤ dimensions
  some = some_dimension slots dimensions components h.holds

  pub few : slots ≤ 2
  few = slots_few slots dimensions components h.holds

  pub word_fits : 65536 * dimensions ≤ word + 65536
  word_fits =
      let n = enough_dimensions slots dimensions components h.holds in
      let is = h.type.is in
      omega (arith, n, is)

  pub counts_length : (known : List ℕ) → known ≡ drop first (take here.at.top here.words) → length known ≡ dimensions
  counts_length known e = ap (λ (l : List ℕ). length l) (e ∙ a.words_are) ∙ size

  -- ---- a negative one

  pub raises :
      (known : List ℕ) → known ≡ drop first (take here.at.top here.words) → AreWords known → list_any is_negative_word known ≡ true
      → DidIn here.blocks texts here (effects.Raises 14) c addresses done below
  raises known e fits negative =
      let is = e ∙ a.words_are in
      let there : list_any is_negative_count t.values ≡ true =
      negatives t.values o.words o.are (subst (λ (l : List ℕ). AreWords l) is fits) ∙ ap (λ (l : List ℕ). list_any is_negative_word l) (sym is) ∙ negative in
      raises_in (arrays_of dimensions components) texts next here c addresses done below h.executes negative_size 14
      (done_same (c.memory, Raises negative_size) done
      (sym (ap (λ (b : Bool). make_arrays_if c components t.values t.rest b) there) ∙ t.does))
      (subst (λ (w : World). HasNumber w negative_size 14) (sym h.guests.world_is) (system_numbers h.guests.given h.guests.contents).negative_size)

  -- ---- none

  module _ (known : List ℕ) (e : known ≡ drop first (take here.at.top here.words)) (fits : AreWords known) (none : list_any is_negative_word known ≡ false) where
    is : known ≡ o.words
    is = e ∙ a.words_are

    small : AreCounts known
    small = are_counts known none

    counts : map count_of t.values ≡ known
    counts = counts_are t.values o.words o.are (subst (λ (l : List ℕ). AreCounts l) is small) ∙ sym is

    holds : HoldsArrays slots (length known) components
    holds = subst (λ (n : ℕ). HoldsArrays slots n components) (sym (counts_length known e)) h.holds

    abbrev cost : ℕ
    cost = arrays_cells components known

    same_cost : cost ≡ nested_cost slots known
    same_cost = cost_is slots known components holds

    not_negative : list_any is_negative_count t.values ≡ false
    not_negative =
        negatives t.values o.words o.are (subst (λ (l : List ℕ). AreWords l) is fits) ∙ ap (λ (l : List ℕ). list_any is_negative_word l) (sym is) ∙ none

    does : push_arrays c components known t.rest (paid cost c.memory) ≡ Ok done
    does =
        subst (λ (l : List ℕ). push_arrays c components l t.rest (paid (arrays_cells components l) c.memory) ≡ Ok done) counts
        (sym (ap (λ (b : Bool). make_arrays_if c components t.values t.rest b) not_negative) ∙ t.does)

    pub lacking :
        (cells : ℕ) (after : Blocks) → IsLacking (nested_cost slots known) here.held.cells cells here.blocks after
        → DidIn here.blocks texts (place here.at here.words (record here.held { cells = cells }) after) (effects.Throws here.held.out_of_memory) c addresses done below
    lacking cells after lacks =
        let fewer : c.memory.cells < cost = let m = h.executes.memory.cells in let b = lacks.lacks in let s = same_cost in omega (arith, m, b, s) in
        lacks_in (arrays_of dimensions components) texts next here c addresses done below h.executes cells after
        (done_same (c.memory, Throws out_of_memory) done (sym (ap (push_arrays c components known t.rest) (paid_lacks cost c.memory fewer)) ∙ does))
        lacks.same_cells lacks.same

    abbrev number : ℕ
    number = next_object c.memory

    pub made :
        (cells : ℕ) (after : Blocks) (address : ℕ) (at : Registers) → NestedPaid slots known word here.held.cells cells here.blocks after address
        → at.pc ≡ next → at.top ≡ first + 1
        → DidIn here.blocks texts (place at (set here.words first address) (record here.held { cells = cells }) after) effects.Goes c addresses done below
    made cells after address at new pc_is top_is =
        let j = new.joins in
        let more = addresses_in j.blocks in
        let all = addresses ++ more in
        let objects = arrays_made components known number in
        let enough : cost ≤ c.memory.cells = let m = h.executes.memory.cells in let b = new.paid in let s = same_cost in omega (arith, m, b, s) in
        let left : cells + cost ≡ here.held.cells = let b = new.paid in let s = same_cost in omega (arith, b, s) in
        let done_is : done ≡ (
          record c.memory { objects = c.memory.objects ++ arrays_made components known number; cells = c.memory.cells - cost },
          Goes c.next c.frame.locals (Reference number ∷ t.rest),
        ) =
        done_same (record c.memory { objects = c.memory.objects ++ arrays_made components known number; cells = c.memory.cells - cost }, Goes c.next c.frame.locals (Reference number ∷ t.rest)) done
        (sym (ap (push_arrays c components known t.rest) (paid_left cost c.memory enough)) ∙ does) in
        let placed : PlacedAt c.program.world all number j.blocks =
        record {
          at =
              λ i x f.
              get_behind addresses more i (number + i) x
              (let n = h.executes.memory.objects.count in omega (arith, n)) f;
        } in
        let one =
        nested_stand c.program.world all slots known components word number j.blocks address holds h.type small j.are placed in
        let stand : ObjectsStand c.program.world (c.memory.objects ++ objects) all after =
        subst (λ (b : Blocks). ObjectsStand c.program.world (c.memory.objects ++ objects) all b) (sym j.joins)
        (under_all c.program.world (c.memory.objects ++ objects) all (here.blocks ++ j.blocks)
        (all_joined c.program.world all c.memory.objects addresses here.blocks objects j.blocks
        (under_more c.program.world more c.memory.objects addresses here.blocks h.executes.memory.objects) j.above one.stand)) in
        let grows = subst (λ (b : Blocks). Grows addresses more here.blocks b) (sym j.joins) (behind_grows addresses here.blocks j.blocks j.above) in
        let room : first < length here.words = let w = within in let s = some in let m = top_within in omega (arith, w, s, m) in
        let used_now =
        subst (λ (n : ℕ). in_use (set here.words first address) n ≡ address ∷ in_use here.words first) (sym top_is)
        (in_use_pushed here.words first address room) in
        let frame = frame_grown addresses more c.frame.locals t.rest o.under below lower in
        goes_in (arrays_of dimensions components) texts next here c addresses done below h.executes at (set here.words first address) (record here.held { cells = cells }) after
        more _ (Reference number ∷ t.rest) done_is pc_is
        (frame_pushed all c.frame.locals (Reference number) t.rest (in_use (set here.words first address) at.top) o.under below frame
        (address, used_now ∙ ap (λ (u : List ℕ). address ∷ u) a.under_is, one.at))
        (memory_grown c.program.world texts c.memory addresses more here.held here.blocks after objects h.executes.memory stand cost cells left)
        grows
