-- An object that joins the others, in a block that joins the store.
use Rattle.std.proofs.Common.{◌≡◌, ℕ, zero, suc, ◌<◌, ◌≤◌, Bool, false, cond, nat_eq, List, [], ◌∷◌, ◌++◌, Some, length, sym, ap, subst, ◌∙◌, ◌⊎◌, inl, inr, refl, arith, slice_get, length-append}
use Rattle.jv_store.specs.Content.{words_at, greatest}
use Rattle.jv_store.proofs.LookUps.{words_at-append_any, greatest-append_above}
use Rattle.jv_store.proofs.Contents.{words_at-append}
use Rattle.jv_meaning_world.specs.World.{World}
use Rattle.jv_meaning_machine.specs.Objects.{Object}
use Rattle.jv_interp_heap.specs.ObjectsInBlocks.{Blocks, ObjectStands, ObjectsStand}
use Rattle.jv_interp_heap.proofs.Grown.{object_grown}

-- ---- one more at the end of a list

pub get_cases :
    {A : Type 0} (xs : List A) (x : A) (k : ℕ) (y : A) → slice_get (xs ++ x ∷ []) k ≡ Some y
    → (slice_get xs k ≡ Some y) ⊎ ((k ≡ length xs) × (x ≡ y))
get_cases [] x zero y e = inr (refl, cc)
get_cases [] x (suc k) y e = absurd cc
get_cases (z ∷ zs) x zero y e = inl e
get_cases (z ∷ zs) x (suc k) y e =
    elim (get_cases zs x k y e) [ inl h ↦ inl h | inr h ↦ inr (ap suc h.0, h.1) ]

pub within : {A : Type 0} (xs : List A) (k : ℕ) (x : A) → slice_get xs k ≡ Some x → k < length xs
within [] k x e = absurd cc
within (y ∷ ys) zero x e = omega arith
within (y ∷ ys) (suc k) x e = let h = within ys k x e in omega (arith, h)

other_number : (a b : ℕ) → b < a → nat_eq a b ≡ false
other_number a b h = grind arith

-- a block above all others leaves these as they are
pub others_stay :
    (before : Blocks) (address : ℕ) (words : List ℕ) (other : ℕ) → greatest before < address → other ≤ greatest before
    → words_at (before ++ (address, words) ∷ []) other ≡ words_at before other
others_stay before address words other h k =
    words_at-append_any before address words other h
    ∙ ap (λ (b : Bool). cond b words (words_at before other)) (other_number address other (omega (arith, h, k)))

-- ---- the object

module _ (world : World) (objects : List Object) (addresses : List ℕ) (before after : Blocks) (object : Object) (address : ℕ) (words : List ℕ)
    (h : ObjectsStand world objects addresses before) (above : greatest before < address) (joins : after ≡ before ++ (address, words) ∷ [])
    (new : ObjectStands world (addresses ++ address ∷ []) object words) where
  lower : (a : ℕ) → a ≤ greatest before → a ≡ address → ⊥
  lower a low same = omega (arith, above, low, same)

  top : greatest after ≡ address
  top = ap greatest joins ∙ greatest-append_above before address words above

  pub object_joined : ObjectsStand world (objects ++ object ∷ []) (addresses ++ address ∷ []) after
  object_joined = record {
    count = omega (arith, h.count, length-append addresses (address ∷ []), length-append objects (object ∷ []));
    are = record {
      apart =
          λ id other a e f.
          elim (get_cases addresses address id a e) [
            | inl p ↦ elim (get_cases addresses address other a f) [
              | inl q ↦ h.are.apart id other a p q
              | inr q ↦ absurd (lower a (h.held id a p) (sym q.1))
            ]
            | inr p ↦ elim (get_cases addresses address other a f) [
              | inl q ↦ absurd (lower a (h.held other a q) (sym p.1))
              | inr q ↦ p.0 ∙ sym q.0
            ]
          ];
      not_null =
          λ id e.
          elim (get_cases addresses address id 0 e) [
            | inl p ↦ h.are.not_null id p
            | inr p ↦ let q = p.1 in omega (arith, above, q)
          ];
    };
    held =
        λ id a e.
        elim (get_cases addresses address id a e) [
          | inl p ↦ let low = h.held id a p in omega (arith, low, top, above)
          | inr p ↦ let q = p.1 in omega (arith, top, q)
        ];
    each =
        λ id a found e f.
        elim (get_cases addresses address id a e) [
          | inl p ↦ elim (get_cases objects object id found f) [
            | inl q ↦
                subst (λ (ws : List ℕ). ObjectStands world (addresses ++ address ∷ []) found ws)
                (sym (ap (λ (c : Blocks). words_at c a) joins ∙ others_stay before address words a above (h.held id a p)))
                (object_grown addresses (address ∷ []) world found (words_at before a) (h.each id a found p q))
            | inr q ↦ absurd (let low = within addresses id a p in let n = q.0 in omega (arith, low, n, h.count))
          ]
          | inr p ↦ elim (get_cases objects object id found f) [
            | inl q ↦ absurd (let low = within objects id found q in let n = p.0 in omega (arith, low, n, h.count))
            | inr q ↦
                subst (λ (ws : List ℕ). ObjectStands world (addresses ++ address ∷ []) found ws)
                (sym (ap (λ (c : Blocks). words_at c a) joins
                ∙ ap (λ (n : ℕ). words_at (before ++ (n, words) ∷ []) a) p.1 ∙ words_at-append before a words (subst (λ (n : ℕ). greatest before < n) p.1 above)))
                (subst (λ (o : Object). ObjectStands world (addresses ++ address ∷ []) o words) q.1 new)
          ]
        ];
  }
