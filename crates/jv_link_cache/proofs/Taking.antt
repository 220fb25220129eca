-- The first handler that takes what is thrown (JVMS 2.10), found item by item or by a table.
use Rattle.std.proofs.Common.{◌≡◌, ℕ, zero, suc, ◌+◌, ◌<◌, Bool, true, false, cond, List, [], ◌∷◌, Option, Some, None, length, drop, slice_get, take, refl, sym, ap, ◌∙◌, subst, arith}
use Rattle.std.specs.List.{find, position, position_from}
use Rattle.std.specs.Option.{option_or}
use Rattle.std.proofs.lemmas.List.{take-append-drop}
use Rattle.std.proofs.lemmas.List.Folds.{find-append}
use Rattle.std.proofs.lemmas.Iterator.Adapters.{position_from-zero}
use Rattle.jv_format.specs.declared.handlers.Handler.{Handler}
use Rattle.jv_pool.specs.Constants.{Entry}
use Rattle.jv_class.specs.Class.{Method}
use Rattle.jv_meaning_world.specs.World.{Loaded, World, loaded}
use Rattle.jv_meaning_world.specs.System.Io.{io}
use Rattle.jv_classes.proofs.Numbers.{take_more, at_position, position_found}
use Rattle.jv_link_handlers.specs.declared.firsts.Firsts.{Firsts}
use Rattle.jv_link_handlers.specs.Firsts.{reaches_to}
use Rattle.jv_link_cache.specs.declared.caught.Caught.{Caught}
use Rattle.jv_link_cache.specs.Handlers.{takes}
use Rattle.jv_link_cache.specs.Inside.Caught.{IsCaught, AreCaught}
use Rattle.jv_link_cache.specs.Inside.Ranks.{rank_of}
use Rattle.jv_link_cache.specs.Inside.Reaches.{AreFirstsOf}
use Rattle.jv_link_cache.proofs.CatchTypes.{same_some}
use Rattle.jv_link_cache.proofs.Eachwise.{within_list, some_item}

-- ---- item by item

module _ {X : Type 0} (p : X → Bool) (xs : List X) (k : ℕ) (x : X) (before : find p (take k xs) ≡ None) (there : slice_get xs k ≡ Some x) where
  pub find_more : p x ≡ false → find p (take (k + 1) xs) ≡ None
  find_more e =
      ap (find p) (take_more xs k x there) ∙ find-append p (take k xs) (x ∷ [])
      ∙ ap (λ (o : Option X). option_or o (find p (x ∷ []))) before ∙ ap (λ (b : Bool). cond b (Some x) None) e

  pub find_here : p x ≡ true → find p xs ≡ Some x
  find_here e =
      ap (find p) (sym (take-append-drop (k + 1) xs)) ∙ find-append p (take (k + 1) xs) (drop (k + 1) xs)
      ∙ ap (λ (o : Option X). option_or o (find p (drop (k + 1) xs)))
      (ap (find p) (take_more xs k x there) ∙ find-append p (take k xs) (x ∷ [])
      ∙ ap (λ (o : Option X). option_or o (find p (x ∷ []))) before ∙ ap (λ (b : Bool). cond b (Some x) None) e)

-- what the handler at a place catches
pub caught_there : (world : World) (pool : List Entry) (handlers : List Handler) (caught : List Caught) (k : ℕ) (h : Handler) (result : Caught)
    → AreCaught world pool handlers caught → slice_get handlers k ≡ Some h → ((one : Caught) → slice_get caught k ≡ Some one → result ≡ one)
    → IsCaught world pool h result
caught_there world pool handlers caught k h result are there is =
    let many = are.count_of in
    let within = within_list handlers k h there in
    let one = some_item caught k (omega (arith, many, within)) in
    subst (λ (c : Caught). IsCaught world pool h c) (sym (is one.0 one.1)) (are.each k one.0 one.1 h there)

-- ---- by a table

pub same_positions : {A B : Type 0} (p : A → Bool) (q : B → Bool) (n : ℕ) (xs : List A) (ys : List B) → length xs ≡ length ys
    → ((k : ℕ) (x : A) (y : B) → slice_get xs k ≡ Some x → slice_get ys k ≡ Some y → p x ≡ q y) → position_from p n xs ≡ position_from q n ys
same_positions p q n [] [] e same = refl
same_positions p q n [] (y ∷ ys) e same = absurd (omega (arith, e))
same_positions p q n (x ∷ xs) [] e same = absurd (omega (arith, e))
same_positions p q n (x ∷ xs) (y ∷ ys) e same =
    let fewer : length xs ≡ length ys = omega (arith, e) in
    ap (λ (b : Bool). cond b (Some n) (position_from p (n + 1) xs)) (same zero x y refl refl)
    ∙ ap (λ (o : Option ℕ). cond (q y) (Some n) o) (same_positions p q (n + 1) xs ys fewer (λ k a b at there. same (suc k) a b at there))

pub same_position : {A B : Type 0} (p : A → Bool) (q : B → Bool) (xs : List A) (ys : List B) → length xs ≡ length ys
    → ((k : ℕ) (x : A) (y : B) → slice_get xs k ≡ Some x → slice_get ys k ≡ Some y → p x ≡ q y) → position p xs ≡ position q ys
same_position p q xs ys e same = position_from-zero p xs ∙ same_positions p q 0 xs ys e same ∙ sym (position_from-zero q ys)

-- what is found stands at its position
pub found_none : {X : Type 0} (p : X → Bool) (xs : List X) → position p xs ≡ None → find p xs ≡ None
found_none p xs e = by_find (find p xs) refl
  where
    clash : {k : ℕ} → None ≡ Some k → ⊥
    clash h = cc

    by_find : (o : Option _) → find p xs ≡ o → o ≡ None
    by_find None h = refl
    by_find (Some x) h = absurd (clash (sym e ∙ position_found p xs x h))

pub found_at : {X : Type 0} (p : X → Bool) (xs : List X) (k : ℕ) → position p xs ≡ Some k → find p xs ≡ slice_get xs k
found_at p xs k e = at_position p xs k e

pub table_position : (world : World) (ranks : List ℕ) (pool : List Entry) (handlers : List Handler) (firsts : Firsts) (class offset rank : ℕ) (thrown : Loaded)
    (result : Option ℕ) → (is : AreFirstsOf world ranks pool handlers firsts) → slice_get world class ≡ Some thrown → rank ≡ rank_of ranks class → rank < 65535
    → result ≡ position (reaches_to offset rank) is.reaches → result ≡ position (takes world pool thrown offset) handlers
table_position world ranks pool handlers firsts class offset rank thrown result is at rank_is less first =
    first ∙ same_position (reaches_to offset rank) (takes world pool thrown offset) is.reaches handlers is.of_handlers.count_of
    (λ k r h there behind.
    ap (λ (n : ℕ). reaches_to offset n r) rank_is
    ∙ is.of_handlers.each k r there h behind class thrown at (subst (λ (n : ℕ). n < 65535) rank_is less) offset)

-- ---- host/Io's methods have no code

pub io_no_code : (l : Loaded) → l ≡ loaded true io → (k : ℕ) (m : Method) → slice_get l.class.methods k ≡ Some m → m.code ≡ None
io_no_code l e k m at = by_place k (subst (λ (x : Loaded). slice_get x.class.methods k ≡ Some m) e at)
  where
    by_place : (k : ℕ) → slice_get io.methods k ≡ Some m → m.code ≡ None
    by_place zero h = subst (λ (x : Method). x.code ≡ None) (same_some _ m h) refl
    by_place (suc zero) h = subst (λ (x : Method). x.code ≡ None) (same_some _ m h) refl
    by_place (suc (suc zero)) h = subst (λ (x : Method). x.code ≡ None) (same_some _ m h) refl
    by_place (suc (suc (suc zero))) h = subst (λ (x : Method). x.code ≡ None) (same_some _ m h) refl
    by_place (suc (suc (suc (suc k)))) h = absurd cc
