-- What is kept at an index is what the constant there says.
use Rattle.std.proofs.Common.{◌≡◌, ℕ, ◌+◌, ◌<◌, ◌≤◌, List, [], ◌∷◌, ◌++◌, length, get_or, Option, Some, None, refl, sym, ap, ◌∙◌, inl, inr, arith}
use Rattle.std.specs.Prelude.{◌⊎◌}
use Rattle.std.specs.Option.{option_map}
use Rattle.std.proofs.lemmas.Bool.{cases_lt}
use Rattle.std.proofs.lemmas.List.{get_or_past}
use Rattle.std.proofs.Math.ListN.{get_or-append}
use Rattle.std.proofs.Math.Seq.{get_or-append_seam}
use Rattle.jv_format.specs.Format.{◌>>=◌}
use Rattle.jv_text.specs.declared.descriptor.FieldTypeOf.{FieldTypeOf}
use Rattle.jv_pool.specs.declared.constant.Constant.TheVariants.{Class}
use Rattle.jv_pool.specs.Constants.{Entry, pool_count, at_index, class_name_in, class_name_at}
use Rattle.jv_pool.proofs.Kept.{past_table}
use Rattle.jv_stackmap.specs.Types.{reference_type, value_type}
use Rattle.jv_meaning_typing.specs.Named.{named_type}
use Rattle.jv_verify_types.specs.Typed.{typed, typed_field}
use Rattle.jv_verify_types.specs.declared.texts.TextTypes.{TextTypes}
use Rattle.jv_verify_types.specs.PoolTypes.{typed_result, named_type_at, class_type_at, field_type_at}
use Rattle.jv_verify_types.specs.Inside.KeptTexts.{Item, field_in, kept_at, AreKept, IsItemAt, AreItemsBelow, AreItems}
use Rattle.jv_verify_types.proofs.Lasting.{lasts_now}
use Rattle.jv_verify_types.proofs.Descriptors.{reference_by_name}

as_result : (names : List (List ℕ)) (found : Option (FieldTypeOf ℕ)) → option_map (typed_field names) found ≡ typed_result names found
as_result names None = refl
as_result names (Some type) = refl

pub field_found : {names : List (List ℕ)} {arguments : List Item} {pool : List Entry} {texts : List TextTypes} (index : ℕ) (list : List TextTypes) (found : Option (FieldTypeOf ℕ))
    → AreKept names arguments pool texts → list ≡ texts → found ≡ field_in (kept_at list index).described → option_map (typed_field names) found ≡ field_type_at pool index
field_found {names = names} index list found kept same is =
    as_result names found
    ∙ (ap (typed_result names) (is ∙ ap (λ l. field_in (kept_at l index).described) same) ∙ lasts_now (kept.described index).field)

pub name_found : {names : List (List ℕ)} {arguments : List Item} {pool : List Entry} {texts : List TextTypes} (index name : ℕ) (list : List TextTypes) (found : Option (FieldTypeOf ℕ))
    → AreKept names arguments pool texts → list ≡ texts → at_index pool index ≡ Some (Class name) → found ≡ (kept_at list name).named → option_map (typed_field names) found ≡ named_type_at pool index
name_found {names = names} {pool = pool} index name list found kept same at is =
    as_result names found
    ∙ (ap (typed_result names) (is ∙ ap (λ l. (kept_at l name).named) same)
    ∙ (lasts_now (kept.named index name at) ∙ sym (ap (λ o. class_name_in pool o >>= named_type) at)))

-- the type of an object of what is named
pub object_of_named : (pool : List Entry) (index : ℕ) (found : Option (FieldTypeOf (List ℕ))) → found ≡ named_type_at pool index → option_map value_type found ≡ class_type_at pool index
object_of_named pool index found is = ap (option_map value_type) is ∙ by_name (class_name_at pool index)
  where
    by_name : (o : Option (List ℕ)) → option_map value_type (o >>= named_type) ≡ (o >>= reference_type)
    by_name None = refl
    by_name (Some text) = sym (reference_by_name text)

-- ---- the types of objects, one after the other

pub items_next : (names : List (List ℕ)) (pool : List Entry) (items : List (Option Item)) (count : ℕ) (found : Option Item) → length items ≡ count
    → option_map (typed names) found ≡ class_type_at pool count → AreItemsBelow count names pool items → AreItemsBelow (count + 1) names pool (items ++ found ∷ [])
items_next names pool items count found size here below index lt = by_index (cases_lt index count)
  where
    by_index : (index < count) ⊎ (count ≤ index) → IsItemAt names pool (items ++ found ∷ []) index
    by_index (inl before) = ap (option_map (typed names)) (get_or-append items (found ∷ []) None index (omega (arith, size))) ∙ below index before
    by_index (inr behind) =
        let last : index ≡ count = omega arith in
        let place : index ≡ length items = last ∙ sym size in
        ap (option_map (typed names)) (ap (λ n. get_or (items ++ found ∷ []) n None) place ∙ get_or-append_seam items found [] None)
        ∙ (here ∙ ap (class_type_at pool) (sym last))

pub all_items : (names : List (List ℕ)) (pool : List Entry) (items : List (Option Item)) → length items ≡ pool_count pool → AreItemsBelow (pool_count pool) names pool items
    → AreItems names pool items
all_items names pool items size below index = by_index (cases_lt index (pool_count pool))
  where
    by_index : (index < pool_count pool) ⊎ (pool_count pool ≤ index) → IsItemAt names pool items index
    by_index (inl inside) = below index inside
    by_index (inr past) =
        ap (option_map (typed names)) (get_or_past items index None (omega (arith, size)))
        ∙ sym (ap (λ o. class_name_in pool o >>= reference_type) (past_table pool index past))
