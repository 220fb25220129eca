-- Blocks that stand behind others, each above all before it, and the objects in them.
use Rattle.std.proofs.Common.{◌≡◌, ℕ, ◌<◌, ◌≤◌, inl, inr, List, [], ◌∷◌, ◌++◌, Some, map, length, set, slice_get, refl, sym, ap, subst, ◌∙◌, arith, append-nil, append_assoc, length-append, eq-eqb}
use Rattle.std.specs.Prelude.{⊤}
use Rattle.jv_store.specs.Content.{words_at, greatest, written}
use Rattle.jv_store.proofs.LookUps.{greatest-append_above}
use Rattle.jv_store.proofs.Contents.{words_at-append, below, smaller}
use Rattle.jv_meaning_world.specs.World.{World}
use Rattle.jv_meaning_machine.specs.Objects.{Object}
use Rattle.jv_interp_words.specs.ValuesInWords.{AreAddresses}
use Rattle.jv_interp_heap.specs.ObjectsInBlocks.{Blocks, ObjectStands, ObjectsStand}
use Rattle.jv_interp_heap.proofs.Grown.{object_grown}
use Rattle.jv_interp_heap.proofs.Joined.{get_cases, within, others_stay}
use Rattle.jv_interp_held.specs.Growing.{Grows}
use Rattle.jv_interp_objects.specs.NestedBlocks.{EachAbove}
use Rattle.jv_interp_held.proofs.Growths.{joined_grows, same_grows, then_grows}

-- ---- one list of blocks behind the other

pub above_both : (before xs ys : Blocks) → EachAbove before xs → EachAbove (before ++ xs) ys → EachAbove before (xs ++ ys)
above_both before [] ys h k = subst (λ (b : Blocks). EachAbove b ys) (append-nil before) k
above_both before (x ∷ xs) ys h k =
    (h.0, above_both (before ++ x ∷ []) xs ys h.1 (subst (λ (b : Blocks). EachAbove b ys) (sym (append_assoc before (x ∷ []) xs)) k))

pub above_front : (before xs ys : Blocks) → EachAbove before (xs ++ ys) → EachAbove before xs
above_front before [] ys h = tt
above_front before (x ∷ xs) ys h = (h.0, above_front (before ++ x ∷ []) xs ys h.1)

pub above_behind : (before xs ys : Blocks) → EachAbove before (xs ++ ys) → EachAbove (before ++ xs) ys
above_behind before [] ys h = subst (λ (b : Blocks). EachAbove b ys) (sym (append-nil before)) h
above_behind before (x ∷ xs) ys h =
    subst (λ (b : Blocks). EachAbove b ys) (append_assoc before (x ∷ []) xs) (above_behind (before ++ x ∷ []) xs ys h.1)

pub not_lower : (before xs : Blocks) → EachAbove before xs → greatest before ≤ greatest (before ++ xs)
not_lower before [] h = let same = ap greatest (append-nil before) in omega (arith, same)
not_lower before (x ∷ xs) h =
    let up = greatest-append_above before x.0 x.1 h.0 in
    let rest = not_lower (before ++ x ∷ []) xs h.1 in
    let same = ap greatest (append_assoc before (x ∷ []) xs) in
    let first = h.0 in
    omega (arith, up, rest, same, first)

pub stays_behind : (before xs : Blocks) (other : ℕ) → EachAbove before xs → other ≤ greatest before → words_at (before ++ xs) other ≡ words_at before other
stays_behind before [] other h low = ap (λ (b : Blocks). words_at b other) (append-nil before)
stays_behind before (x ∷ xs) other h low =
    let up = greatest-append_above before x.0 x.1 h.0 in
    let first = h.0 in
    ap (λ (b : Blocks). words_at b other) (sym (append_assoc before (x ∷ []) xs))
    ∙ stays_behind (before ++ x ∷ []) xs other h.1 (omega (arith, up, low, first))
    ∙ others_stay before x.0 x.1 other h.0 low

-- a block between others
pub own_words : (before : Blocks) (address : ℕ) (words : List ℕ) (xs : Blocks) → greatest before < address →
    EachAbove (before ++ (address, words) ∷ []) xs → words_at ((before ++ (address, words) ∷ []) ++ xs) address ≡ words
own_words before address words xs above h =
    let up = greatest-append_above before address words above in
    stays_behind (before ++ (address, words) ∷ []) xs address h (omega (arith, up)) ∙ words_at-append before address words above

pub own_written : (before : Blocks) (address : ℕ) (words : List ℕ) (xs : Blocks) (place word : ℕ) → greatest before < address →
    written (before ++ (address, words) ∷ xs) address place word ≡ before ++ (address, set words place word) ∷ xs
own_written [] address words xs place word h = rw (eq-eqb address address refl) refl
own_written (b ∷ before) address words xs place word h =
    rw (below b.0 (greatest before) address h)
    (ap (λ (l : Blocks). b ∷ l) (own_written before address words xs place word (smaller b.0 (greatest before) address h)))

-- ---- what the blocks' addresses are

abbrev pub addresses_in : Blocks → List ℕ
addresses_in blocks = map (λ b. b.0) blocks

pub behind_grows : (addresses : List ℕ) (before xs : Blocks) → EachAbove before xs → Grows addresses (addresses_in xs) before (before ++ xs)
behind_grows addresses before [] h = same_grows addresses before (before ++ []) (append-nil before)
behind_grows addresses before (x ∷ xs) h =
    subst (λ (b : Blocks). Grows addresses (x.0 ∷ addresses_in xs) before b) (append_assoc before (x ∷ []) xs)
    (then_grows addresses (x.0 ∷ []) (addresses_in xs) before (before ++ x ∷ []) ((before ++ x ∷ []) ++ xs)
    (joined_grows addresses x.1 before (before ++ x ∷ []) x.0 (record { above = h.0; joins = refl }))
    (behind_grows (addresses ++ x.0 ∷ []) (before ++ x ∷ []) xs h.1))

-- ---- objects, whose references are to any of these addresses

pub record StandUnder (world : World) (all : List ℕ) (objects : List Object) (addresses : List ℕ) (blocks : Blocks) : Type 0 where
  pub count : length addresses ≡ length objects
  pub are : AreAddresses addresses
  pub held : (id address : ℕ) → slice_get addresses id ≡ Some address → address ≤ greatest blocks
  pub each :
      (id address : ℕ) (object : Object) → slice_get addresses id ≡ Some address → slice_get objects id ≡ Some object
      → ObjectStands world all object (words_at blocks address)

pub under_more : (world : World) (more : List ℕ) (objects : List Object) (addresses : List ℕ) (blocks : Blocks) → ObjectsStand world objects addresses
    blocks → StandUnder world (addresses ++ more) objects addresses blocks
under_more world more objects addresses blocks h = record {
  count = h.count;
  are = h.are;
  held = h.held;
  each = λ id address object e f. object_grown addresses more world object (words_at blocks address) (h.each id address object e f);
}

pub under_all : (world : World) (objects : List Object) (addresses : List ℕ) (blocks : Blocks) → StandUnder world addresses objects addresses blocks → ObjectsStand world objects addresses blocks
under_all world objects addresses blocks h = record { count = h.count; are = h.are; held = h.held; each = h.each }

module _ (world : World) (all : List ℕ) (objects : List Object) (addresses : List ℕ) (before : Blocks) (object : Object) (address : ℕ) (words : List ℕ)
    (h : StandUnder world all objects addresses before) (above : greatest before < address) (new : ObjectStands world all object words) where
  abbrev after : Blocks
  after = before ++ (address, words) ∷ []

  lower : (a : ℕ) → a ≤ greatest before → a ≡ address → ⊥
  lower a low same = omega (arith, above, low, same)

  top : greatest after ≡ address
  top = greatest-append_above before address words above

  pub one_joined : StandUnder world all (objects ++ object ∷ []) (addresses ++ address ∷ []) after
  one_joined = record {
    count = let n = h.count in omega (arith, n, length-append addresses (address ∷ []), length-append objects (object ∷ []));
    are = record {
      apart =
          λ id other a e f.
          elim (get_cases addresses address id a e) [
            | inl p ↦ elim (get_cases addresses address other a f) [
              | inl q ↦ h.are.apart id other a p q
              | inr q ↦ absurd (lower a (h.held id a p) (sym q.1))
            ]
            | inr p ↦ elim (get_cases addresses address other a f) [
              | inl q ↦ absurd (lower a (h.held other a q) (sym p.1))
              | inr q ↦ p.0 ∙ sym q.0
            ]
          ];
      not_null =
          λ id e.
          elim (get_cases addresses address id 0 e) [
            | inl p ↦ h.are.not_null id p
            | inr p ↦ let q = p.1 in omega (arith, above, q)
          ];
    };
    held =
        λ id a e.
        elim (get_cases addresses address id a e) [
          | inl p ↦ let low = h.held id a p in omega (arith, low, top, above)
          | inr p ↦ let q = p.1 in omega (arith, top, q)
        ];
    each =
        λ id a found e f.
        elim (get_cases addresses address id a e) [
          | inl p ↦ elim (get_cases objects object id found f) [
            | inl q ↦
                subst (λ (ws : List ℕ). ObjectStands world all found ws) (sym (others_stay before address words a above (h.held id a p)))
                (h.each id a found p q)
            | inr q ↦ absurd (let low = within addresses id a p in let n = q.0 in let c = h.count in omega (arith, low, n, c))
          ]
          | inr p ↦ elim (get_cases objects object id found f) [
            | inl q ↦ absurd (let low = within objects id found q in let n = p.0 in let c = h.count in omega (arith, low, n, c))
            | inr q ↦
                subst (λ (n : ℕ). ObjectStands world all found (words_at after n)) p.1
                (subst (λ (ws : List ℕ). ObjectStands world all found ws) (sym (words_at-append before address words above))
                (subst (λ (o : Object). ObjectStands world all o words) q.1 new))
          ]
        ];
  }

-- objects in blocks, one by one
abbrev pub EachStands : World → List ℕ → List Object → Blocks → Type 0
EachStands world all [] [] = ⊤
EachStands world all (object ∷ objects) (block ∷ blocks) = ObjectStands world all object block.1 × EachStands world all objects blocks
EachStands world all _ _ = ⊥

pub all_joined :
    (world : World) (all : List ℕ) (objects : List Object) (addresses : List ℕ) (before : Blocks) (new : List Object) (xs : Blocks)
    → StandUnder world all objects addresses before → EachAbove before xs → EachStands world all new xs
    → StandUnder world all (objects ++ new) (addresses ++ addresses_in xs) (before ++ xs)
all_joined world all objects addresses before [] [] h above each =
    subst (λ (o : List Object). StandUnder world all o (addresses ++ []) (before ++ [])) (sym (append-nil objects))
    (subst (λ (a : List ℕ). StandUnder world all objects a (before ++ [])) (sym (append-nil addresses))
    (subst (λ (b : Blocks). StandUnder world all objects addresses b) (sym (append-nil before)) h))
all_joined world all objects addresses before [] (x ∷ xs) h above each = absurd each
all_joined world all objects addresses before (object ∷ new) [] h above each = absurd each
all_joined world all objects addresses before (object ∷ new) (x ∷ xs) h above each =
    subst (λ (o : List Object). StandUnder world all o (addresses ++ x.0 ∷ addresses_in xs) (before ++ x ∷ xs)) (append_assoc objects (object ∷ []) new)
    (subst (λ (a : List ℕ). StandUnder world all ((objects ++ object ∷ []) ++ new) a (before ++ x ∷ xs)) (append_assoc addresses (x.0 ∷ []) (addresses_in xs))
    (subst (λ (b : Blocks). StandUnder world all ((objects ++ object ∷ []) ++ new) ((addresses ++ x.0 ∷ []) ++ addresses_in xs) b) (append_assoc before (x ∷ []) xs)
    (all_joined world all (objects ++ object ∷ []) (addresses ++ x.0 ∷ []) (before ++ x ∷ []) new xs
    (one_joined world all objects addresses before object x.0 x.1 h above.0 each.0) above.1 each.1)))
