-- Attributes, and the tables of attributes of fields and of Code.
use Rattle.std.proofs.Common.{◌≡◌, ℕ, Bool, true, false, cond, List, length, Option, Some, None, refl, sym, ap, ◌∙◌, eq-eqb}
use Rattle.std.specs.Prelude.{IsTrue, ◌&&◌, filter, is_some, codes, nat_lt}
use Rattle.std.specs.Option.{option_map}
use Rattle.std.specs.List.{list_all}
use Rattle.std.proofs.lemmas.Bool.{and_parts, and_from}
use Rattle.jv_format.specs.Format.{◌>>=◌, half, quad}
use Rattle.jv_format.specs.Readers.{both, contents, such_that}
use Rattle.jv_format.proofs.Laws.{IsFormat, half_is, both_is, such_is, contents_is}
use Rattle.jv_pool.specs.Constants.{Entry}
use Rattle.jv_class_structure.specs.Structure.{AttributeInfo, attribute_bytes, attribute_fits, table_fits}
use Rattle.jv_class_structure.specs.Attributes.{has_attribute_name, has_utf8_name, all_named, at_most_one, sole, value_index}
use Rattle.jv_class_structure.specs.Inside.Reading.{values_in, is_utf8, attribute_of, attribute, value_of, has_value, field_attribute, field_attributes, value_kept, values_kept, stack_map_of, code_attributes, stack_map_kept, stack_maps_kept}
use Rattle.jv_class_structure.proofs.Lists.{all_both, all_parts, all_true, all_own, same_number, same_value, same_mapped, own_all, none_in}
use Rattle.jv_class_structure.proofs.Forms.{Keeps, shaped_is, solely_is, kept_itself, gather_keeps}

-- ---- an attribute

fits_enter : (n u l : Bool) → IsTrue ((n && l) && u) → IsTrue ((n && u) && l)
fits_enter n u l h =
    let a = and_parts (n && l) u h in
    let b = and_parts n l a.0 in
    and_from _ _ (and_from _ _ b.0 a.1) b.1

pub contents_fit : (t : List ℕ) → IsTrue (quad.fits (length t)) → IsTrue (contents.fits t)
contents_fit t h = and_from _ _ h (eq-eqb (length t) (length t) refl)

pub contents_fit-from : (t : List ℕ) → IsTrue (contents.fits t) → IsTrue (quad.fits (length t))
contents_fit-from t h = (and_parts (quad.fits (length t)) _ h).0

attribute_enters : (pool : List Entry) (a : AttributeInfo) → IsTrue (attribute_fits a && has_utf8_name pool a) →
    IsTrue ((half.fits a.attribute_name_index && is_utf8 pool a.attribute_name_index) && contents.fits a.info)
attribute_enters pool a h =
    let x = and_parts (half.fits a.attribute_name_index && is_utf8 pool a.attribute_name_index) (quad.fits (length a.info))
    (fits_enter (half.fits a.attribute_name_index) (is_utf8 pool a.attribute_name_index) (quad.fits (length a.info)) h) in
    and_from _ _ x.0 (contents_fit a.info x.1)

attribute_leaves : (pool : List Entry) (p : ℕ × List ℕ) → IsTrue ((half.fits p.0 && is_utf8 pool p.0) && contents.fits p.1) →
    IsTrue (attribute_fits (attribute_of p) && has_utf8_name pool (attribute_of p))
attribute_leaves pool p h =
    let a = and_parts (half.fits p.0 && is_utf8 pool p.0) (contents.fits p.1) h in
    let b = and_parts (half.fits p.0) (is_utf8 pool p.0) a.0 in
    and_from _ _ (and_from _ _ b.0 (contents_fit-from p.1 a.1)) b.1

pub attribute_is : (pool : List Entry) → IsFormat (attribute pool)
attribute_is pool =
    shaped_is attribute_bytes (λ a. attribute_fits a && has_utf8_name pool a) attribute_of (λ a. (a.attribute_name_index, a.info)) (both (such_that (is_utf8 pool) half) contents)
    (λ a. refl) (λ c. refl) (λ c h. refl) (attribute_enters pool) (attribute_leaves pool)
    (both_is (such_that (is_utf8 pool) half) contents (such_is (is_utf8 pool) half half_is) contents_is)

-- ---- tables of named attributes

-- a table of attributes that fit, all of them named
pub named_enters : (pool : List Entry) (xs : List AttributeInfo) → IsTrue (table_fits attribute_fits xs) → IsTrue (all_named pool xs) →
    IsTrue (table_fits (λ a. attribute_fits a && has_utf8_name pool a) xs)
named_enters pool xs h named =
    let a = and_parts (nat_lt (length xs) 65536) (list_all attribute_fits xs) h in
    and_from _ _ a.0 (all_both attribute_fits (has_utf8_name pool) xs (and_from _ _ a.1 named))

pub named_leaves : (pool : List Entry) (xs : List AttributeInfo) → IsTrue (table_fits (λ a. attribute_fits a && has_utf8_name pool a) xs) →
    IsTrue (table_fits attribute_fits xs) × IsTrue (all_named pool xs)
named_leaves pool xs h =
    let a = and_parts (nat_lt (length xs) 65536) (list_all (λ x. attribute_fits x && has_utf8_name pool x) xs) h in
    let b = all_parts attribute_fits (has_utf8_name pool) xs a.1 in
    (and_from _ _ a.0 b.0, b.1)

-- ---- a field's

-- the rule of the values, by whether the field is static
abbrev pub values_keep_rules : List Entry → Bool → List AttributeInfo → Bool
values_keep_rules pool static xs =
    cond static
    (at_most_one (filter (has_attribute_name pool (codes "ConstantValue")) xs) && list_all (λ a. is_some (value_index a)) (filter (has_attribute_name pool (codes "ConstantValue")) xs))
    true

abbrev pub static_value_in : List Entry → Bool → List AttributeInfo → Option ℕ
static_value_in pool static xs = cond static (sole (filter (has_attribute_name pool (codes "ConstantValue")) xs) >>= value_index) None

values_enter : (pool : List Entry) (static : Bool) (xs : List AttributeInfo) → IsTrue (values_keep_rules pool static xs) →
    IsTrue (list_all (has_value pool static) xs) × IsTrue (at_most_one (values_in (value_of pool static) xs))
values_enter pool true xs h =
    let named = has_attribute_name pool (codes "ConstantValue") in
    let a = and_parts (at_most_one (filter named xs)) _ h in
    let own : IsTrue (list_all (has_value pool true) xs) = all_own named value_index xs ∙ a.1 in
    (own, same_number named value_index xs own ∙ a.0)
values_enter pool false xs h = (all_true xs, ap at_most_one (none_in {V = ℕ} xs))

values_leave : (pool : List Entry) (static : Bool) (xs : List AttributeInfo) → IsTrue (list_all (has_value pool static) xs) →
    IsTrue (at_most_one (values_in (value_of pool static) xs)) → IsTrue (values_keep_rules pool static xs)
values_leave pool true xs own one =
    let named = has_attribute_name pool (codes "ConstantValue") in
    and_from _ _ (sym (same_number named value_index xs own) ∙ one) (sym (all_own named value_index xs) ∙ own)
values_leave pool false xs own one = refl

pub field_attribute_is : (pool : List Entry) (static : Bool) → IsFormat (field_attribute pool static)
field_attribute_is pool static = such_is (has_value pool static) (attribute pool) (attribute_is pool)

pub field_attributes_is : (pool : List Entry) (static : Bool) → IsFormat (field_attributes pool static)
field_attributes_is pool static = solely_is (value_of pool static) (field_attribute pool static) (field_attribute_is pool static)

pub field_attributes_enter : (pool : List Entry) (static : Bool) (xs : List AttributeInfo) → IsTrue (table_fits attribute_fits xs) →
    IsTrue (all_named pool xs && values_keep_rules pool static xs) → IsTrue ((field_attributes pool static).fits xs)
field_attributes_enter pool static xs h right =
    let a = and_parts (all_named pool xs) (values_keep_rules pool static xs) right in
    let b = values_enter pool static xs a.1 in
    let c = named_enters pool xs h a.0 in
    let d = and_parts (nat_lt (length xs) 65536) (list_all (λ x. attribute_fits x && has_utf8_name pool x) xs) c in
    let e = all_both (λ x. attribute_fits x && has_utf8_name pool x) (has_value pool static) xs (and_from _ _ d.1 b.0) in
    and_from _ _ (and_from _ _ d.0 e) b.1

pub record FieldAttributesFit (pool : List Entry) (static : Bool) (xs : List AttributeInfo) : Type 0 where
  pub fit : IsTrue (table_fits attribute_fits xs)
  pub right : IsTrue (all_named pool xs && values_keep_rules pool static xs)
  pub own : IsTrue (list_all (has_value pool static) xs)

pub field_attributes_leave : (pool : List Entry) (static : Bool) (xs : List AttributeInfo) → IsTrue ((field_attributes pool static).fits xs) → FieldAttributesFit pool static xs
field_attributes_leave pool static xs h =
    let a = and_parts (table_fits (field_attribute pool static).fits xs) (at_most_one (values_in (value_of pool static) xs)) h in
    let b = and_parts (nat_lt (length xs) 65536) (list_all (field_attribute pool static).fits xs) a.0 in
    let c = all_parts (λ x. attribute_fits x && has_utf8_name pool x) (has_value pool static) xs b.1 in
    let d = named_leaves pool xs (and_from _ _ b.0 c.0) in
    record { fit = d.0; right = and_from _ _ d.1 (values_leave pool static xs c.1 a.1); own = c.1 }

pub value_shown : (pool : List Entry) (static : Bool) (xs : List AttributeInfo) → IsTrue (list_all (has_value pool static) xs) →
    sole (values_in (value_of pool static) xs) ≡ static_value_in pool static xs
value_shown pool true xs own = same_value (has_attribute_name pool (codes "ConstantValue")) value_index xs own
value_shown pool false xs own = ap sole (none_in {V = ℕ} xs)

pub values_keep : (pool : List Entry) (static : Bool) → Keeps (values_kept pool static) (λ (xs : List AttributeInfo). sole (values_in (value_of pool static) xs)) (field_attributes pool static)
values_keep pool static =
    gather_keeps (value_kept pool static) (value_of pool static) (field_attribute pool static) (field_attribute_is pool static) (kept_itself (value_of pool static) (field_attribute pool static))

-- ---- a Code's

pub code_attributes_is : (pool : List Entry) → IsFormat (code_attributes pool)
code_attributes_is pool = solely_is (stack_map_of pool) (attribute pool) (attribute_is pool)

abbrev pub stack_maps_in : List Entry → List AttributeInfo → List AttributeInfo
stack_maps_in pool xs = filter (has_attribute_name pool (codes "StackMapTable")) xs

abbrev info_of : AttributeInfo → List ℕ
info_of a = a.info

maps_number : (pool : List Entry) (xs : List AttributeInfo) → at_most_one (values_in (stack_map_of pool) xs) ≡ at_most_one (stack_maps_in pool xs)
maps_number pool xs = let named = has_attribute_name pool (codes "StackMapTable") in same_number named (λ a. Some (info_of a)) xs (own_all named info_of xs)

pub map_shown : (pool : List Entry) (xs : List AttributeInfo) → sole (values_in (stack_map_of pool) xs) ≡ option_map info_of (sole (stack_maps_in pool xs))
map_shown pool xs = same_mapped (has_attribute_name pool (codes "StackMapTable")) info_of xs

pub code_attributes_enter : (pool : List Entry) (xs : List AttributeInfo) → IsTrue (table_fits attribute_fits xs) → IsTrue (all_named pool xs) →
    IsTrue (at_most_one (stack_maps_in pool xs)) → IsTrue ((code_attributes pool).fits xs)
code_attributes_enter pool xs h named one = and_from _ _ (named_enters pool xs h named) (maps_number pool xs ∙ one)

pub code_attributes_leave : (pool : List Entry) (xs : List AttributeInfo) → IsTrue ((code_attributes pool).fits xs) →
    (IsTrue (table_fits attribute_fits xs) × IsTrue (all_named pool xs)) × IsTrue (at_most_one (stack_maps_in pool xs))
code_attributes_leave pool xs h =
    let a = and_parts (table_fits (λ x. attribute_fits x && has_utf8_name pool x) xs) (at_most_one (values_in (stack_map_of pool) xs)) h in
    (named_leaves pool xs a.0, sym (maps_number pool xs) ∙ a.1)

pub stack_maps_keep : (pool : List Entry) → Keeps (stack_maps_kept pool) (λ (xs : List AttributeInfo). sole (values_in (stack_map_of pool) xs)) (code_attributes pool)
stack_maps_keep pool = gather_keeps (stack_map_kept pool) (stack_map_of pool) (attribute pool) (attribute_is pool) (kept_itself (stack_map_of pool) (attribute pool))
