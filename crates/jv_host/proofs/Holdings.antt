-- All guests of a host stand in one store, whatever one of them does.
use Rattle.std.proofs.Common.{◌≡◌, ◌≢◌, ℕ, zero, suc, ◌+◌, ◌*◌, ◌<◌, ◌≤◌, List, [], ◌∷◌, ◌++◌, Some, Contains, length, length-append, append-nil, slice_get, map, set, refl, sym, ap, subst, ◌∙◌, inl, inr, arith}
use Rattle.jv_store.specs.Content.{words_held, greatest}
use Rattle.jv_meaning_machine.specs.Laws.Runs.{CellsAreBudgeted}
use Rattle.jv_interp_heap.specs.ObjectsInBlocks.{Blocks}
use Rattle.jv_interp_held.specs.Growing.{Grows, words_under}
use Rattle.jv_interp_held.proofs.Growths.{grows_not, under_both, under_same}
use Rattle.jv_interp.specs.Started.{budget_of}
use Rattle.jv_interp.specs.Standing.{AreApart}
use Rattle.jv_interp.proofs.Elsewhere.{held_at, stands_elsewhere, still_apart}
use Rattle.jv_host.specs.declared.admission.Admitted.{Admitted}
use Rattle.jv_host.specs.Files.{guest_of}
use Rattle.jv_host.specs.Host.{Admission}
use Rattle.jv_host.specs.Inside.Holding.{feed_of, IsHeld, Goes, GoesOn, StaysHeld, HasBegun, AreHeld, cells_of, cells_left, words_of}
use Rattle.jv_host.proofs.ObjectWords.{words_paid}
use Rattle.jv_host.proofs.Places.{same_or_other, at_set, beside_set, count_of_set, at_more, place_within, one_of_sum, sum_of_set, sum_of_more}

-- ---- one address more or less

apart_again : (own others : List ℕ) → AreApart own others → AreApart others own
apart_again own others h address one other = h address other one

both : {one other own others : List ℕ} → own ≡ one → others ≡ other → AreApart own others → AreApart one other
both {one} {other} {own} {others} e f h =
    subst (λ (l : List ℕ). AreApart one l) f (subst (λ (l : List ℕ). AreApart l others) e h)

-- what another did, behind which a guest stands as before
held_elsewhere :
    (a : Admitted) (own addresses more : List ℕ) (before after : Blocks) → AreApart own addresses → Grows addresses more before after
    → IsHeld a own before → IsHeld a own after
held_elsewhere a own addresses more before after apart grows h = record {
  stands = stands_elsewhere (guest_of a.files) (budget_of a.budget) (map feed_of a.feeds.items) a.guest.steps own addresses more a.guest before after apart grows h.stands;
  came = h.came;
  few = h.few;
  least = h.least;
  most = h.most;
}

apart_elsewhere :
    (a : Admitted) (own addresses more : List ℕ) (before after : Blocks) → AreApart own addresses → Grows addresses more before after
    → IsHeld a own before → AreApart own (addresses ++ more)
apart_elsewhere a own addresses more before after apart grows h =
    still_apart (guest_of a.files) (budget_of a.budget) (map feed_of a.feeds.items) a.guest.steps own addresses more a.guest before after apart grows h.stands

-- the addresses with those of one guest changed
abbrev with_addresses : (ℕ → List ℕ) → ℕ → List ℕ → ℕ → List ℕ
with_addresses addresses zero own zero = own
with_addresses addresses zero own (suc k) = addresses (suc k)
with_addresses addresses (suc id) own zero = addresses zero
with_addresses addresses (suc id) own (suc k) = with_addresses (λ n. addresses (suc n)) id own k

with_own : (addresses : ℕ → List ℕ) (id : ℕ) (own : List ℕ) → with_addresses addresses id own id ≡ own
with_own addresses zero own = refl
with_own addresses (suc id) own = with_own (λ n. addresses (suc n)) id own

without_own : (addresses : ℕ → List ℕ) (id : ℕ) (own : List ℕ) (k : ℕ) → k ≢ id → with_addresses addresses id own k ≡ addresses k
without_own addresses zero own zero other = absurd (other refl)
without_own addresses zero own (suc k) other = refl
without_own addresses (suc id) own zero other = refl
without_own addresses (suc id) own (suc k) other = without_own (λ n. addresses (suc n)) id own k (λ e. other (ap suc e))

-- ---- the words of their objects

address_there : (a : Admitted) (own : List ℕ) (blocks : Blocks) → IsHeld a own blocks → (address : ℕ) → Contains own address → address ≤ greatest blocks
address_there a own blocks h address inside =
    let at = held_at own address inside in
    h.stands.stands.memory.objects.held at.0 address at.1

-- with the cells that it has left they are no more than its budget's
paid : CellsAreBudgeted → (a : Admitted) (own : List ℕ) (blocks : Blocks) → IsHeld a own blocks → words_under own blocks + a.guest.held.cells ≤ a.budget.cells
paid budgeted a own blocks h =
    let least = h.least in
    let used =
    budgeted h.stands.judged (guest_of a.files) (budget_of a.budget) (map feed_of a.feeds.items) a.guest.steps h.stands.state h.stands.right
    (omega (arith, least)) h.stands.ran in
    let words = words_paid h.stands.judged.program.world h.stands.state.memory own blocks h.stands.stands.memory.objects in
    let cells = h.stands.stands.memory.cells in
    omega (arith, used, words, cells)

all_paid :
    CellsAreBudgeted → (guests : List Admitted) (addresses : ℕ → List ℕ) (blocks : Blocks)
    → ((id : ℕ) (a : Admitted) → slice_get guests id ≡ Some a → IsHeld a (addresses id) blocks)
    → words_of addresses guests blocks + cells_left guests ≤ length guests * 16777216
all_paid budgeted [] addresses blocks each = omega arith
all_paid budgeted (a ∷ more) addresses blocks each =
    let one = paid budgeted a (addresses 0) blocks (each 0 a refl) in
    let most = (each 0 a refl).most in
    let rest = all_paid budgeted more (λ id. addresses (suc id)) blocks (λ id b e. each (suc id) b e) in
    let product : suc (length more) * 16777216 ≡ 16777216 + length more * 16777216 = omega arith in
    omega (arith, one, most, rest, product)

words_of_same :
    (guests : List Admitted) (addresses : ℕ → List ℕ) (before after : Blocks)
    → ((id : ℕ) (a : Admitted) → slice_get guests id ≡ Some a → words_under (addresses id) after ≡ words_under (addresses id) before)
    → words_of addresses guests after ≡ words_of addresses guests before
words_of_same [] addresses before after same = refl
words_of_same (a ∷ more) addresses before after same =
    let one = same 0 a refl in
    let rest = words_of_same more (λ id. addresses (suc id)) before after (λ id b e. same (suc id) b e) in
    omega (arith, one, rest)

words_of_set :
    (guests : List Admitted) (addresses : ℕ → List ℕ) (id : ℕ) (own : List ℕ) (old new : Admitted) (blocks : Blocks) → slice_get guests id ≡ Some old
    → words_of (with_addresses addresses id own) (set guests id new) blocks + words_under (addresses id) blocks
    ≡ words_of addresses guests blocks + words_under own blocks
words_of_set [] addresses id own old new blocks e = absurd cc
words_of_set (a ∷ more) addresses zero own old new blocks e = omega arith
words_of_set (a ∷ more) addresses (suc id) own old new blocks e =
    let rest = words_of_set more (λ n. addresses (suc n)) id own old new blocks e in
    omega (arith, rest)

words_of_more :
    (guests : List Admitted) (addresses : ℕ → List ℕ) (own : List ℕ) (new : Admitted) (blocks : Blocks)
    → words_of (with_addresses addresses (length guests) own) (guests ++ new ∷ []) blocks ≡ words_of addresses guests blocks + words_under own blocks
words_of_more [] addresses own new blocks = omega arith
words_of_more (a ∷ more) addresses own new blocks =
    let rest = words_of_more more (λ n. addresses (suc n)) own new blocks in
    omega (arith, rest)

-- ---- all guests

pub none_held : (room : ℕ) (blocks : Blocks) → room ≡ 0 → blocks ≡ [] → AreHeld [] room blocks
none_held room blocks no_room no_block = record {
  addresses = λ id. [];
  each = λ id a e. absurd cc;
  apart = λ one other a b e f differ. absurd cc;
  room_is = no_room;
  words = ap words_held no_block;
  few = omega arith;
}

module _ (guests : List Admitted) (room : ℕ) (blocks : Blocks) (h : AreHeld guests room blocks) where
  -- a guest's cells are in the store's room
  pub has_room : (id : ℕ) (a : Admitted) → slice_get guests id ≡ Some a → a.guest.held.cells ≤ room
  has_room id a e = let one = one_of_sum cells_of guests id a e in let all = h.room_is in omega (arith, one, all)

  -- there is room for one more
  pub has_place : CellsAreBudgeted → length guests < 64 → (cells : ℕ) → cells ≤ 16777216 → room + words_held blocks + cells ≤ 4294967294
  has_place budgeted less cells most =
      let all = all_paid budgeted guests h.addresses blocks h.each in
      let held = h.words in
      let left = h.room_is in
      omega (arith, less, most, all, held, left)

  -- each stands in blocks that are there
  there : (id : ℕ) (a : Admitted) → slice_get guests id ≡ Some a → (address : ℕ) → Contains (h.addresses id) address → address ≤ greatest blocks
  there id a e address inside = address_there a (h.addresses id) blocks (h.each id a e) address inside

  module _ (id room_after : ℕ) (old new : Admitted) (blocks_after : Blocks) (found : slice_get guests id ≡ Some old) where
    cells_after :
        room + new.guest.held.cells ≡ room_after + old.guest.held.cells → room_after ≡ cells_left (set guests id new)
    cells_after e =
        let set_sum = sum_of_set cells_of guests id old new found in
        let all = h.room_is in
        omega (arith, e, set_sum, all)

    few_after : length (set guests id new) ≤ 64
    few_after = let same = count_of_set guests id new in let few = h.few in omega (arith, same, few)

    -- one guest went on
    module _ (goes : GoesOn old new blocks blocks_after) where
      abbrev gone : Goes new (h.addresses id) blocks blocks_after
      gone = goes (h.addresses id) (h.each id old found)

      abbrev own : List ℕ
      own = h.addresses id ++ gone.more

      abbrev after : ℕ → List ℕ
      after = with_addresses h.addresses id own

      other_apart : (k : ℕ) (a : Admitted) → slice_get guests k ≡ Some a → k ≢ id → AreApart (h.addresses k) (h.addresses id)
      other_apart k a e other = h.apart k id a old e found other

      each_after : (k : ℕ) (a : Admitted) → slice_get (set guests id new) k ≡ Some a → IsHeld a (after k) blocks_after
      each_after k a e =
          elim (same_or_other k id) [
            | inl same ↦
                let here : slice_get (set guests id new) id ≡ Some a = ap (λ (n : ℕ). slice_get (set guests id new) n) (sym same) ∙ e in
                subst (λ (x : Admitted). IsHeld x (after k) blocks_after) (at_set guests id new a here)
                (subst (λ (l : List ℕ). IsHeld new l blocks_after)
                (sym (ap (λ (n : ℕ). after n) same ∙ with_own h.addresses id own)) gone.held)
            | inr other ↦
                let there = sym (beside_set guests id k new other) ∙ e in
                subst (λ (l : List ℕ). IsHeld a l blocks_after) (sym (without_own h.addresses id own k other))
                (held_elsewhere a (h.addresses k) (h.addresses id) gone.more blocks blocks_after (other_apart k a there other) gone.grows
                (h.each k a there))
          ]

      apart_from_own : (k : ℕ) (a : Admitted) → slice_get guests k ≡ Some a → k ≢ id → AreApart (h.addresses k) own
      apart_from_own k a e other =
          apart_elsewhere a (h.addresses k) (h.addresses id) gone.more blocks blocks_after (other_apart k a e other) gone.grows (h.each k a e)

      apart_after :
          (one other : ℕ) (a b : Admitted) → slice_get (set guests id new) one ≡ Some a → slice_get (set guests id new) other ≡ Some b
          → (one ≡ other → ⊥) → AreApart (after one) (after other)
      apart_after one other a b e f differ =
          elim (same_or_other one id) [
            | inl same ↦
                let beside : other ≢ id = λ g. differ (same ∙ sym g) in
                let there = sym (beside_set guests id other new beside) ∙ f in
                both (sym (ap (λ (n : ℕ). after n) same ∙ with_own h.addresses id own)) (sym (without_own h.addresses id own other beside))
                (apart_again (h.addresses other) own (apart_from_own other b there beside))
            | inr beside ↦
                let here = sym (beside_set guests id one new beside) ∙ e in
                elim (same_or_other other id) [
                  | inl same ↦
                      both (sym (without_own h.addresses id own one beside)) (sym (ap (λ (n : ℕ). after n) same ∙ with_own h.addresses id own))
                      (apart_from_own one a here beside)
                  | inr too ↦
                      let there = sym (beside_set guests id other new too) ∙ f in
                      both (sym (without_own h.addresses id own one beside)) (sym (without_own h.addresses id own other too))
                      (h.apart one other a b here there differ)
                ]
          ]

      words_after : words_held blocks_after ≡ words_of after (set guests id new) blocks_after
      words_after =
          let held = gone.grows.words in
          let old_words = h.words in
          let same =
          words_of_same guests h.addresses blocks blocks_after
          (λ k a e.
          under_same (h.addresses k) blocks blocks_after (λ address inside. gone.grows.lengths address (there k a e address inside))) in
          let changed = words_of_set guests h.addresses id own old new blocks_after found in
          let both = under_both (h.addresses id) gone.more blocks_after in
          omega (arith, held, old_words, same, changed, both)

      pub one_went :
          room + new.guest.held.cells ≡ room_after + old.guest.held.cells → AreHeld (set guests id new) room_after blocks_after
      one_went e = record {
        addresses = after;
        each = each_after;
        apart = apart_after;
        room_is = cells_after e;
        words = words_after;
        few = few_after;
      }

    -- one guest stays where it is
    pub one_stayed : StaysHeld old new → new.guest.held.cells ≡ old.guest.held.cells → room_after ≡ room → blocks_after ≡ blocks → AreHeld (set guests id new) room_after blocks_after
    one_stayed stays same room_same blocks_same = one_went goes (omega (arith, same, room_same))
      where
        goes : GoesOn old new blocks blocks_after
        goes addresses held = record {
          more = [];
          held =
              subst (λ (l : List ℕ). IsHeld new l blocks_after) (sym (append-nil addresses))
              (subst (λ (b : Blocks). IsHeld new addresses b) (sym blocks_same) (stays addresses blocks held));
          grows = subst (λ (b : Blocks). Grows addresses [] blocks b) (sym blocks_same) (grows_not addresses blocks);
        }

  -- ---- a guest more

  module _ (room_after : ℕ) (new : Admitted) (admission : Admission) (blocks_after : Blocks) (begun : HasBegun admission new blocks blocks_after) where
    abbrev place : ℕ
    place = length guests

    abbrev joined : ℕ → List ℕ
    joined = with_addresses h.addresses place begun.addresses

    before : (k : ℕ) (a : Admitted) → slice_get guests k ≡ Some a → k ≢ place
    before k a e same = let less = place_within guests k a e in omega (arith, same, less)

    no_address : (own : List ℕ) → AreApart own []
    no_address own address one other = let less = other.1 in omega (arith, less)

    each_joined : (k : ℕ) (a : Admitted) → slice_get (guests ++ new ∷ []) k ≡ Some a → IsHeld a (joined k) blocks_after
    each_joined k a e =
        elim (at_more guests new a k e) [
          | inl old ↦
              subst (λ (l : List ℕ). IsHeld a l blocks_after) (sym (without_own h.addresses place begun.addresses k (before k a old)))
              (held_elsewhere a (h.addresses k) [] begun.addresses blocks blocks_after (no_address (h.addresses k)) begun.grows (h.each k a old))
          | inr last ↦
              subst (λ (x : Admitted). IsHeld x (joined k) blocks_after) last.1
              (subst (λ (l : List ℕ). IsHeld new l blocks_after)
              (sym (ap (λ (n : ℕ). joined n) last.0 ∙ with_own h.addresses place begun.addresses)) begun.held)
        ]

    apart_from_new : (k : ℕ) (a : Admitted) → slice_get guests k ≡ Some a → AreApart (h.addresses k) begun.addresses
    apart_from_new k a e = apart_elsewhere a (h.addresses k) [] begun.addresses blocks blocks_after (no_address (h.addresses k)) begun.grows (h.each k a e)

    apart_joined :
        (one other : ℕ) (a b : Admitted) → slice_get (guests ++ new ∷ []) one ≡ Some a → slice_get (guests ++ new ∷ []) other ≡ Some b
        → (one ≡ other → ⊥) → AreApart (joined one) (joined other)
    apart_joined one other a b e f differ =
        elim (at_more guests new a one e) [
          | inl here ↦
              let first = sym (without_own h.addresses place begun.addresses one (before one a here)) in
              elim (at_more guests new b other f) [
                | inl there ↦
                    both first (sym (without_own h.addresses place begun.addresses other (before other b there)))
                    (h.apart one other a b here there differ)
                | inr last ↦
                    both first (sym (ap (λ (n : ℕ). joined n) last.0 ∙ with_own h.addresses place begun.addresses)) (apart_from_new one a here)
              ]
          | inr last ↦
              let first = sym (ap (λ (n : ℕ). joined n) last.0 ∙ with_own h.addresses place begun.addresses) in
              elim (at_more guests new b other f) [
                | inl there ↦
                    both first (sym (without_own h.addresses place begun.addresses other (before other b there)))
                    (apart_again (h.addresses other) begun.addresses (apart_from_new other b there))
                | inr too ↦ absurd (differ (last.0 ∙ sym too.0))
              ]
        ]

    pub one_more :
        length guests < 64 → room_after ≡ room + new.guest.held.cells → AreHeld (guests ++ new ∷ []) room_after blocks_after
    one_more less e = record {
      addresses = joined;
      each = each_joined;
      apart = apart_joined;
      room_is = let all = h.room_is in let sum = sum_of_more cells_of guests new in omega (arith, e, all, sum);
      words =
          let held = begun.grows.words in
          let old_words = h.words in
          let same =
          words_of_same guests h.addresses blocks blocks_after
          (λ k a f.
          under_same (h.addresses k) blocks blocks_after (λ address inside. begun.grows.lengths address (there k a f address inside))) in
          let all = words_of_more guests h.addresses begun.addresses new blocks_after in
          omega (arith, held, old_words, same, all);
      few = let count = length-append guests (new ∷ []) in omega (arith, count, less);
    }
