-- One object that changes, in its own block, and all others that stay.
use Rattle.std.proofs.Common.{◌≡◌, ℕ, Bool, true, false, cond, nat_eq, List, Some, length, set, refl, sym, ap, subst, ◌∙◌, arith, slice_get, slice_set}
use Rattle.std.proofs.lemmas.List.{length-set}
use Rattle.jv_store.specs.Content.{words_at, words_held, greatest, written}
use Rattle.jv_store.proofs.Contents.{words_held-written}
use Rattle.jv_store.proofs.LookUps.{greatest-written, words_at-written}
use Rattle.jv_meaning_world.specs.World.{World}
use Rattle.jv_meaning_machine.specs.Objects.{Object}
use Rattle.jv_meaning_machine.proofs.KeptMemory.{set_there, set_elsewhere}
use Rattle.jv_interp_heap.specs.ObjectsInBlocks.{Blocks, ObjectStands, ObjectsStand}

-- the block at an address has these words now, as many as before, and no other one has others
pub record Changes (address : ℕ) (words : List ℕ) (before after : Blocks) : Type 0 where
  pub own : words_at after address ≡ words
  pub others : (other : ℕ) → (other ≡ address → ⊥) → words_at after other ≡ words_at before other
  pub same_greatest : greatest after ≡ greatest before
  pub same_lengths : (other : ℕ) → length (words_at after other) ≡ length (words_at before other)
  pub same_held : words_held after ≡ words_held before

same_number : (n : ℕ) → nat_eq n n ≡ true
same_number n = grind arith

other_number : (a b : ℕ) → (b ≡ a → ⊥) → nat_eq a b ≡ false
other_number a b h = by_test (nat_eq a b) refl
  where
    by_test : (t : Bool) → nat_eq a b ≡ t → t ≡ false
    by_test false e = refl
    by_test true e = absurd (h (grind (arith, e)))

-- one word of it is written
pub word_written : (blocks : Blocks) (address place word : ℕ) → Changes address (set (words_at blocks address) place word) blocks (written blocks address place word)
word_written blocks address place word = record {
  own =
      words_at-written blocks address place word address
      ∙ ap (λ (b : Bool). cond b (set (words_at blocks address) place word) (words_at blocks address)) (same_number address);
  others =
      λ other apart.
      words_at-written blocks address place word other
      ∙ ap (λ (b : Bool). cond b (set (words_at blocks address) place word) (words_at blocks other)) (other_number address other apart);
  same_greatest = greatest-written blocks address place word;
  same_lengths = λ other. ap (λ (ws : List ℕ). length ws) (words_at-written blocks address place word other) ∙ by_number other (nat_eq address other) refl;
  same_held = words_held-written blocks address place word;
}
  where
    by_number :
        (other : ℕ) (b : Bool) → nat_eq address other ≡ b
        → length (cond b (set (words_at blocks address) place word) (words_at blocks other)) ≡ length (words_at blocks other)
    by_number other false e = refl
    by_number other true e =
        let is : address ≡ other = grind (arith, e) in
        length-set (words_at blocks address) place word ∙ ap (λ (n : ℕ). length (words_at blocks n)) is

-- and then it is changed again
pub then_changed :
    (address : ℕ) (words more : List ℕ) (before between after : Blocks) → Changes address words before between → Changes address more between after
    → Changes address more before after
then_changed address words more before between after h k = record {
  own = k.own;
  others = λ other apart. k.others other apart ∙ h.others other apart;
  same_greatest = k.same_greatest ∙ h.same_greatest;
  same_lengths = λ other. k.same_lengths other ∙ h.same_lengths other;
  same_held = k.same_held ∙ h.same_held;
}

pub object_changed :
    (world : World) (objects : List Object) (addresses : List ℕ) (before after : Blocks) (id address : ℕ) (old new : Object) (words : List ℕ)
    → ObjectsStand world objects addresses before → slice_get addresses id ≡ Some address → slice_get objects id ≡ Some old
    → Changes address words before after → ObjectStands world addresses new words
    → ObjectsStand world (slice_set objects id new) addresses after
object_changed world objects addresses before after id address old new words h at there changes stands = record {
  count = h.count ∙ sym (length-set objects id new);
  are = h.are;
  held = λ other a e. let low = h.held other a e in let same = changes.same_greatest in omega (arith, low, same);
  each = λ other a object e f. by_number other a object e f (nat_eq other id) refl;
}
  where
    by_number :
        (other a : ℕ) (object : Object) → slice_get addresses other ≡ Some a → slice_get (slice_set objects id new) other ≡ Some object
        → (b : Bool) → nat_eq other id ≡ b → ObjectStands world addresses object (words_at after a)
    by_number other a object e f true t =
        let is : other ≡ id = grind (arith, t) in
        let own : new ≡ object =
        same_some new object (sym (set_there objects id new old there) ∙ subst (λ (n : ℕ). slice_get (slice_set objects id new) n ≡ Some object) is f) in
        let a_is : address ≡ a = same_some address a (sym at ∙ subst (λ (n : ℕ). slice_get addresses n ≡ Some a) is e) in
        subst (λ (n : ℕ). ObjectStands world addresses object (words_at after n)) a_is
        (subst (λ (o : Object). ObjectStands world addresses o (words_at after address)) own
        (subst (λ (ws : List ℕ). ObjectStands world addresses new ws) (sym changes.own) stands))
      where
        same_some : {A : Type 0} (x y : A) → Some x ≡ Some y → x ≡ y
        same_some x y e = cc
    by_number other a object e f false t =
        let apart : other ≡ id → ⊥ = λ same. absurd (differ other id t same) in
        subst (λ (ws : List ℕ). ObjectStands world addresses object ws)
        (sym (changes.others a (λ same. apart (h.are.apart other id a e (subst (λ (n : ℕ). slice_get addresses id ≡ Some n) (sym same) at)))))
        (h.each other a object e (sym (set_elsewhere objects id other new apart) ∙ f))
      where
        differ : (x y : ℕ) → nat_eq x y ≡ false → x ≡ y → ⊥
        differ x y e same = absurd (grind (arith, e, same))
