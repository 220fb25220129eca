-- The two laws of an item and of lists of items (JVMS 4.7.4).
use Rattle.std.proofs.Common.{◌≡◌, ℕ, suc, true, eqb, List, [], ◌∷◌, ◌++◌, length, Option, Some, refl, sym, ap, subst, ◌∙◌}
use Rattle.std.specs.Prelude.{IsTrue}
use Rattle.std.proofs.lemmas.Bool.{and_parts, eqb-true}
use Rattle.jv_format.specs.Format.{half, IsBytes}
use Rattle.jv_format.proofs.Laws.{is_some, IsFormat, Took, half_is, list_is, after_is, by_test, took, again_as}
use Rattle.jv_stackmap.specs.declared.item.Item.{Item}
use Rattle.jv_stackmap.specs.declared.item.Item.TheVariants as items
use Rattle.jv_stackmap.specs.Bytes.{item_bytes, item_fits}
use Rattle.jv_stackmap.specs.Inside.Reading.{object, uninitialized, item_contents, item_read, item, so_many_items, counted_items}

abbrev found : Item → List ℕ → Option (Item × List ℕ)
found i bytes = Some (i, bytes)

-- an item that is a tag alone
tag_alone : (i : Item) (tag first : ℕ) (bytes rest : List ℕ) (c : Item) → item_bytes i ≡ tag ∷ [] → IsTrue (item_fits i) → eqb first tag ≡ true →
    found i bytes ≡ Some (c, rest) → Took item_bytes item_fits first bytes rest c
tag_alone i tag first bytes rest c spelled fits is e =
    subst (λ (y : Item × List ℕ). Took item_bytes item_fits first bytes y.1 y.0) (is_some (i, bytes) (c, rest) e)
    (ap (λ (k : ℕ). k ∷ bytes) (eqb-true first tag is) ∙ ap (λ (x : List ℕ). x ++ bytes) (sym spelled), fits)

item_take : (tag : ℕ) (bytes rest : List ℕ) (c : Item) → IsBytes bytes → item_contents tag bytes ≡ Some (c, rest) → Took item_bytes item_fits tag bytes rest c
item_take tag bytes rest c small e =
    by_test _ _ _ _ e (λ t r. tag_alone items.Top 0 tag bytes rest c refl refl t r) (λ e.
    by_test _ _ _ _ e (λ t r. tag_alone items.Integer 1 tag bytes rest c refl refl t r) (λ e.
    by_test _ _ _ _ e (λ t r. tag_alone items.Long 4 tag bytes rest c refl refl t r) (λ e.
    by_test _ _ _ _ e (λ t r. tag_alone items.Null 5 tag bytes rest c refl refl t r) (λ e.
    by_test _ _ _ _ e (λ t r. tag_alone items.UninitializedThis 6 tag bytes rest c refl refl t r) (λ e.
    by_test _ _ _ _ e (λ t r. took item_bytes item_fits half object 7 tag bytes rest c half_is small (λ a. refl) (λ a. refl) t r) (λ e.
    by_test _ _ _ _ e (λ t r. took item_bytes item_fits half uninitialized 8 tag bytes rest c half_is small (λ a. refl) (λ a. refl) t r) (λ e. absurd cc)))))))

item_takes : (bytes rest : List ℕ) (c : Item) → IsBytes bytes → item_read bytes ≡ Some (c, rest) → (bytes ≡ item_bytes c ++ rest) × IsTrue (item_fits c)
item_takes [] rest c small e = absurd cc
item_takes (tag ∷ bytes) rest c small e = let more : IsBytes bytes = λ k. small (suc k) in item_take tag bytes rest c more e

item_again : (c : Item) (rest : List ℕ) → IsTrue (item_fits c) → item_read (item_bytes c ++ rest) ≡ Some (c, rest)
item_again items.Top rest h = refl
item_again items.Integer rest h = refl
item_again items.Long rest h = refl
item_again items.Null rest h = refl
item_again items.UninitializedThis rest h = refl
item_again (items.Object class) rest h = again_as half object class rest half_is h
item_again (items.Uninitialized offset) rest h = again_as half uninitialized offset rest half_is h

pub item_is : IsFormat item
item_is = record { takes = item_takes; again = item_again }

pub items_are : (n : ℕ) → IsFormat (so_many_items n)
items_are n = list_is n item item_is

pub counted_is : IsFormat counted_items
counted_is = after_is half length so_many_items half_is items_are (λ n list h. eqb-true _ _ (and_parts _ _ h).0)
