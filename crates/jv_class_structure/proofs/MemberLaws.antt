-- Fields, Code and methods.
use Rattle.std.proofs.Common.{◌≡◌, ℕ, Bool, true, false, cond, List, [], ◌∷◌, ◌++◌, length, Option, Some, None, refl, sym, ap, subst, ◌∙◌, append_assoc, inl, inr}
use Rattle.std.specs.Prelude.{IsTrue, ◌&&◌, ◌⊎◌, not, map, codes, nat_lt}
use Rattle.std.specs.Option.{option_map}
use Rattle.std.specs.List.{flat_map, list_all}
use Rattle.std.proofs.lemmas.Bool.{and_parts, and_from, not-true, not_from_false}
use Rattle.jv_format.specs.Format.{Format, ◌>>=◌, half, quad}
use Rattle.jv_format.specs.Readers.{both, contents, such_that, paired, enclosed, case_of, found_as, passed}
use Rattle.jv_format.proofs.Laws.{is_some, IsFormat, half_is, both_is, such_is, contents_is, paired_is, enclosed_is, case_is, choice_is}
use Rattle.jv_pool.specs.Constants.{Entry}
use Rattle.jv_format.specs.declared.handlers.Handler.{Handler}
use Rattle.jv_format.specs.Handlers.{handler_bytes, handler_fits}
use Rattle.jv_class_structure.specs.Structure.{AttributeInfo, CodeAttribute, MethodAttribute, FieldInfo, MethodInfo, table_bytes, attribute_bytes, code_bytes, contents_bytes, method_attribute_bytes, field_bytes, method_bytes, table_fits, attribute_fits, code_fits, method_attribute_fits, field_fits, method_fits}
use Rattle.jv_class_structure.specs.Structure.MethodAttribute.{Code, Other}
use Rattle.jv_class_structure.specs.Attributes.{has_attribute_name, has_utf8_name, all_named, at_most_one, sole, code_length_keeps_rules, field_attributes_keep_rules, code_keeps_rules, method_attribute_keeps_rules, code_in, codes_of, method_attributes_keep_rules}
use Rattle.jv_class_structure.specs.Parts.{CodeSeen, field_shown, code_shown, method_shown}
use Rattle.jv_class_structure.specs.Packed.{handlers_kept}
use Rattle.jv_class_structure.specs.Inside.Reading.{Three, three, kept, table, values_in, is_utf8, attribute_of, is_static, field_of_parts, attributes_behind, field, values_behind, field_seen_of, field_kept, exception, value_of, stack_map_of, code_attributes, code_text, CodeBody, code_of, code_body, code, stack_maps_kept, code_seen, code_kept, is_code, on_left, on_right, left_of, right_of, Held, code_held, other_held, held, method_attribute_of, method_attribute, code_shown_inside, method_attributes, there, nothing, held_kept, code_behind, method_attribute_kept, codes_kept, method_of_parts, method, method_seen_of, method_kept}
use Rattle.jv_class_structure.proofs.Lists.{all_both, all_parts, at_most_one-map, sole-map}
use Rattle.jv_class_structure.proofs.Forms.{Keeps, each_side, second_side, shaped_is, table_is, solely_is, itself, both_keeps, paired_keeps, shaped_keeps, gather_keeps, enclosed_keeps}
use Rattle.jv_class_structure.proofs.AttributeLaws.{contents_fit, contents_fit-from, field_attributes_is, field_attributes_enter, field_attributes_leave, value_shown, values_keep, code_attributes_is, stack_maps_in, code_attributes_enter, code_attributes_leave, map_shown, stack_maps_keep}
use Rattle.jv_class_structure.proofs.Handlers.{exception_is, handlers_keep}

pub three_is : IsFormat three
three_is = both_is half (both half half) half_is (both_is half half half_is half_is)

three_enters : (a b c r : Bool) → IsTrue (((a && b) && c) && r) → IsTrue (a && (b && c)) × IsTrue r
three_enters a b c r h =
    let x = and_parts ((a && b) && c) r h in
    let y = and_parts (a && b) c x.0 in
    let z = and_parts a b y.0 in
    (and_from _ _ z.0 (and_from _ _ z.1 y.1), x.1)

three_leaves : (a b c r : Bool) → IsTrue (a && (b && c)) → IsTrue r → IsTrue (((a && b) && c) && r)
three_leaves a b c r h k =
    let x = and_parts a (b && c) h in
    let y = and_parts b c x.1 in
    and_from _ _ (and_from _ _ (and_from _ _ x.0 y.0) y.1) k

three_parts : (a b c r : List ℕ) → ((a ++ b) ++ c) ++ r ≡ (a ++ (b ++ c)) ++ r
three_parts a b c r = simp append_assoc

-- ---- fields

abbrev from_field : FieldInfo → Three × List AttributeInfo
from_field f = ((f.access_flags, (f.name_index, f.descriptor_index)), f.attributes)

field_enters : (pool : List Entry) (f : FieldInfo) → IsTrue (field_fits f && field_attributes_keep_rules pool f) → IsTrue ((paired three (attributes_behind pool)).fits (from_field f))
field_enters pool f h =
    let a = and_parts (field_fits f) (field_attributes_keep_rules pool f) h in
    let b = three_enters (half.fits f.access_flags) (half.fits f.name_index) (half.fits f.descriptor_index) (table_fits attribute_fits f.attributes) a.0 in
    and_from _ _ b.0 (field_attributes_enter pool (is_static (from_field f).0) f.attributes b.1 a.1)

field_leaves : (pool : List Entry) (p : Three × List AttributeInfo) → IsTrue ((paired three (attributes_behind pool)).fits p) →
    IsTrue (field_fits (field_of_parts p) && field_attributes_keep_rules pool (field_of_parts p))
field_leaves pool p h =
    let a = and_parts (three.fits p.0) ((attributes_behind pool p.0).fits p.1) h in
    let b = field_attributes_leave pool (is_static p.0) p.1 a.1 in
    and_from _ _ (three_leaves (half.fits p.0.0) (half.fits p.0.1.0) (half.fits p.0.1.1) (table_fits attribute_fits p.1) a.0 b.fit) b.right

paired_fields_is : (pool : List Entry) → IsFormat (paired three (attributes_behind pool))
paired_fields_is pool = paired_is three (attributes_behind pool) three_is (λ t. field_attributes_is pool (is_static t))

pub field_is : (pool : List Entry) → IsFormat (field pool)
field_is pool =
    shaped_is field_bytes (λ f. field_fits f && field_attributes_keep_rules pool f) field_of_parts from_field (paired three (attributes_behind pool))
    (λ a. refl) (λ c. refl)
    (λ c h. three_parts (half.spelling c.access_flags) (half.spelling c.name_index) (half.spelling c.descriptor_index) (table_bytes attribute_bytes c.attributes))
    (field_enters pool) (field_leaves pool) (paired_fields_is pool)

abbrev value_behind : List Entry → Three → List AttributeInfo → Option ℕ
value_behind pool t xs = sole (values_in (value_of pool (is_static t)) xs)

field_same : (pool : List Entry) (p : Three × List AttributeInfo) → IsTrue ((paired three (attributes_behind pool)).fits p) →
    field_seen_of (second_side (value_behind pool) p) ≡ field_shown pool (field_of_parts p)
field_same pool p h =
    let a = and_parts (three.fits p.0) ((attributes_behind pool p.0).fits p.1) h in
    let b = field_attributes_leave pool (is_static p.0) p.1 a.1 in
    ap (λ (v : Option ℕ). field_seen_of (p.0, v)) (value_shown pool (is_static p.0) p.1 b.own)

pub field_keeps : (pool : List Entry) → Keeps (field_kept pool) (field_shown pool) (field pool)
field_keeps pool =
    shaped_keeps (paired three (values_behind pool)) (second_side (value_behind pool)) (paired three (attributes_behind pool)) field_bytes
    (λ f. field_fits f && field_attributes_keep_rules pool f) field_of_parts field_seen_of (field_shown pool)
    (paired_fields_is pool) (field_same pool)
    (paired_keeps three (values_behind pool) (value_behind pool) (attributes_behind pool) three_is (λ t. values_keep pool (is_static t)))

-- ---- Code

abbrev from_code : CodeAttribute → CodeBody
from_code c = ((c.max_stack, c.max_locals), (c.code, (c.exception_table, c.attributes)))

code_parts : (a b c d e : List ℕ) → (((a ++ b) ++ c) ++ d) ++ e ≡ (a ++ b) ++ (c ++ (d ++ e))
code_parts a b c d e = simp append_assoc

code_enters : (pool : List Entry) (c : CodeAttribute) → IsTrue (code_fits c && code_keeps_rules pool c) → IsTrue ((code_body pool).fits (from_code c))
code_enters pool c h =
    let limits : Bool = half.fits c.max_stack && half.fits c.max_locals in
    let all = and_parts (code_fits c) (code_keeps_rules pool c) h in
    let a = and_parts (limits && quad.fits (length c.code) && table_fits handler_fits c.exception_table) (table_fits attribute_fits c.attributes) all.0 in
    let b = and_parts (limits && quad.fits (length c.code)) (table_fits handler_fits c.exception_table) a.0 in
    let d = and_parts limits (quad.fits (length c.code)) b.0 in
    let e = and_parts (code_length_keeps_rules c.code && all_named pool c.attributes) (at_most_one (stack_maps_in pool c.attributes)) all.1 in
    let f = and_parts (code_length_keeps_rules c.code) (all_named pool c.attributes) e.0 in
    and_from _ _ d.0 (and_from _ _ (and_from _ _ (contents_fit c.code d.1) f.0) (and_from _ _ b.1 (code_attributes_enter pool c.attributes a.1 f.1 e.1)))

code_leaves : (pool : List Entry) (p : CodeBody) → IsTrue ((code_body pool).fits p) → IsTrue (code_fits (code_of p) && code_keeps_rules pool (code_of p))
code_leaves pool p h =
    let limits : Bool = half.fits p.0.0 && half.fits p.0.1 in
    let tables : Bool = table_fits handler_fits p.1.1.0 && (code_attributes pool).fits p.1.1.1 in
    let a = and_parts limits (contents.fits p.1.0 && code_length_keeps_rules p.1.0 && tables) h in
    let b = and_parts (contents.fits p.1.0 && code_length_keeps_rules p.1.0) tables a.1 in
    let c = and_parts (contents.fits p.1.0) (code_length_keeps_rules p.1.0) b.0 in
    let d = and_parts (table_fits handler_fits p.1.1.0) ((code_attributes pool).fits p.1.1.1) b.1 in
    let e = code_attributes_leave pool p.1.1.1 d.1 in
    and_from _ _ (and_from _ _ (and_from _ _ (and_from _ _ a.0 (contents_fit-from p.1.0 c.0)) d.0) e.0.0) (and_from _ _ (and_from _ _ c.1 e.0.1) e.1)

code_text_is : IsFormat code_text
code_text_is = such_is code_length_keeps_rules contents contents_is

code_body_is : (pool : List Entry) → IsFormat (code_body pool)
code_body_is pool =
    both_is (both half half) (both code_text (both (table exception) (code_attributes pool))) (both_is half half half_is half_is)
    (both_is code_text (both (table exception) (code_attributes pool)) code_text_is (both_is (table exception) (code_attributes pool) (table_is exception exception_is) (code_attributes_is pool)))

pub code_is : (pool : List Entry) → IsFormat (code pool)
code_is pool =
    shaped_is code_bytes (λ c. code_fits c && code_keeps_rules pool c) code_of from_code (code_body pool) (λ a. refl) (λ c. refl)
    (λ c h. code_parts (half.spelling c.max_stack) (half.spelling c.max_locals) (contents_bytes c.code) (table_bytes handler_bytes c.exception_table) (table_bytes attribute_bytes c.attributes))
    (code_enters pool) (code_leaves pool) (code_body_is pool)

abbrev own : {A : Type 0} → A → A
own a = a

abbrev map_in : List Entry → List AttributeInfo → Option (List ℕ)
map_in pool xs = sole (values_in (stack_map_of pool) xs)

abbrev code_side : List Entry → CodeBody → (ℕ × ℕ) × (List ℕ × (List Handler × Option (List ℕ)))
code_side pool = each_side own (each_side own (each_side own (map_in pool)))

code_same : (pool : List Entry) (p : CodeBody) → code_seen (code_side pool p) ≡ code_shown pool (code_of p)
code_same pool p = ap (λ (m : Option (List ℕ)). code_seen (p.0, (p.1.0, (p.1.1.0, m)))) (map_shown pool p.1.1.1)

code_body_keeps : (pool : List Entry) → Keeps (both (both half half) (both code_text (both handlers_kept (stack_maps_kept pool)))) (code_side pool) (code_body pool)
code_body_keeps pool =
    both_keeps (both half half) own (both half half) (both code_text (both handlers_kept (stack_maps_kept pool)))
    (each_side own (each_side own (map_in pool))) (both code_text (both (table exception) (code_attributes pool)))
    (both_is half half half_is half_is) (itself (both half half))
    (both_keeps code_text own code_text (both handlers_kept (stack_maps_kept pool)) (each_side own (map_in pool)) (both (table exception) (code_attributes pool)) code_text_is (itself code_text)
    (both_keeps handlers_kept own (table exception) (stack_maps_kept pool) (map_in pool) (code_attributes pool) (table_is exception exception_is) handlers_keep (stack_maps_keep pool)))

pub code_keeps : (pool : List Entry) → Keeps (code_kept pool) (code_shown pool) (code pool)
code_keeps pool =
    shaped_keeps (both (both half half) (both code_text (both handlers_kept (stack_maps_kept pool)))) (code_side pool) (code_body pool) code_bytes
    (λ c. code_fits c && code_keeps_rules pool c) code_of code_seen (code_shown pool)
    (code_body_is pool) (λ p h. code_same pool p) (code_body_keeps pool)

-- ---- a method's attributes

left_back : {A B : Type 0} (c : A ⊎ B) (a : A) → left_of c ≡ Some a → on_left a ≡ c
left_back {B = B} (inl b) a e = ap (λ x. on_left {B = B} x) (sym (is_some b a e))
left_back (inr b) a e = absurd cc

right_back : {A B : Type 0} (c : A ⊎ B) (b : B) → right_of c ≡ Some b → on_right b ≡ c
right_back (inl a) b e = absurd cc
right_back {A = A} (inr a) b e = ap (λ x. on_right {A = A} x) (sym (is_some a b e))

code_held_is : (pool : List Entry) → IsFormat (code_held pool)
code_held_is pool = case_is on_left left_of (enclosed (code pool)) (λ a h. refl) left_back (enclosed_is (code pool) (code_is pool))

other_held_is : (pool : List Entry) (name : ℕ) → IsFormat (other_held pool name)
other_held_is pool name = such_is (λ _. is_utf8 pool name) (case_of on_right right_of contents) (case_is on_right right_of contents (λ a h. refl) right_back contents_is)

held_is : (pool : List Entry) (name : ℕ) → IsFormat (held pool name)
held_is pool name = choice_is (is_code pool name) (code_held pool) (other_held pool name) (code_held_is pool) (other_held_is pool name)

abbrev from_method_attribute : MethodAttribute → ℕ × Held
from_method_attribute (Code name c) = (name, inl c)
from_method_attribute (Other a) = (a.attribute_name_index, inr a.info)

attribute_there : (p : ℕ × Held) → from_method_attribute (method_attribute_of p) ≡ p
attribute_there (name, inl c) = refl
attribute_there (name, inr t) = refl

attribute_back : (a : MethodAttribute) → method_attribute_of (from_method_attribute a) ≡ a
attribute_back (Code name c) = refl
attribute_back (Other a) = refl

abbrev held_by : List Entry → ℕ → Bool → Format Held
held_by pool name b = cond b (code_held pool) (other_held pool name)

abbrev attribute_keeps_rules : List Entry → MethodAttribute → Bool
attribute_keeps_rules pool a = method_attribute_fits a && method_attribute_keeps_rules pool a

record CodeFits (pool : List Entry) (name : ℕ) (c : CodeAttribute) : Type 0 where
  pub name_fits : IsTrue (half.fits name)
  pub length_fits : IsTrue (quad.fits (length (code_bytes c)))
  pub fits : IsTrue (code_fits c && code_keeps_rules pool c)
  pub named : is_code pool name ≡ true

CodeFits-from : (pool : List Entry) (name : ℕ) (c : CodeAttribute) → IsTrue (attribute_keeps_rules pool (Code name c)) → CodeFits pool name c
CodeFits-from pool name c h =
    let a = and_parts (half.fits name && quad.fits (length (code_bytes c)) && code_fits c) (is_code pool name && code_keeps_rules pool c) h in
    let b = and_parts (half.fits name && quad.fits (length (code_bytes c))) (code_fits c) a.0 in
    let d = and_parts (half.fits name) (quad.fits (length (code_bytes c))) b.0 in
    let e = and_parts (is_code pool name) (code_keeps_rules pool c) a.1 in
    record { name_fits = d.0; length_fits = d.1; fits = and_from _ _ b.1 e.1; named = e.0 }

record OtherFits (pool : List Entry) (a : AttributeInfo) : Type 0 where
  pub name_fits : IsTrue (half.fits a.attribute_name_index)
  pub fits : IsTrue (contents.fits a.info)
  pub utf8 : IsTrue (is_utf8 pool a.attribute_name_index)
  pub other : is_code pool a.attribute_name_index ≡ false

OtherFits-from : (pool : List Entry) (a : AttributeInfo) → IsTrue (attribute_keeps_rules pool (Other a)) → OtherFits pool a
OtherFits-from pool x h =
    let a = and_parts (attribute_fits x) (has_utf8_name pool x && not (has_attribute_name pool (codes "Code") x)) h in
    let b = and_parts (half.fits x.attribute_name_index) (quad.fits (length x.info)) a.0 in
    let c = and_parts (has_utf8_name pool x) (not (has_attribute_name pool (codes "Code") x)) a.1 in
    record { name_fits = b.0; fits = contents_fit x.info b.1; utf8 = c.0; other = not-true (has_attribute_name pool (codes "Code") x) c.1 }

attribute_spelled : (pool : List Entry) (a : MethodAttribute) → IsTrue (attribute_keeps_rules pool a) → method_attribute_bytes a ≡ (paired half (held pool)).spelling (from_method_attribute a)
attribute_spelled pool (Code name c) h =
    let f = CodeFits-from pool name c h in
    ap (λ (b : Bool). half.spelling name ++ (held_by pool name b).spelling (inl c)) (sym f.named)
attribute_spelled pool (Other a) h =
    let f = OtherFits-from pool a h in
    ap (λ (b : Bool). half.spelling a.attribute_name_index ++ (held_by pool a.attribute_name_index b).spelling (inr a.info)) (sym f.other)

attribute_enters : (pool : List Entry) (a : MethodAttribute) → IsTrue (attribute_keeps_rules pool a) → IsTrue ((paired half (held pool)).fits (from_method_attribute a))
attribute_enters pool (Code name c) h =
    let f = CodeFits-from pool name c h in
    and_from _ _ f.name_fits (subst (λ (b : Bool). IsTrue ((held_by pool name b).fits (inl c))) (sym f.named) (and_from _ _ f.length_fits f.fits))
attribute_enters pool (Other a) h =
    let f = OtherFits-from pool a h in
    and_from _ _ f.name_fits (subst (λ (b : Bool). IsTrue ((held_by pool a.attribute_name_index b).fits (inr a.info))) (sym f.other) (and_from _ _ f.fits f.utf8))

code_left : (pool : List Entry) (name : ℕ) (c : CodeAttribute) (b : Bool) → is_code pool name ≡ b → IsTrue (half.fits name) →
    IsTrue ((held_by pool name b).fits (inl c)) → IsTrue (attribute_keeps_rules pool (Code name c))
code_left pool name c true e n h =
    let a = and_parts (quad.fits (length (code_bytes c))) (code_fits c && code_keeps_rules pool c) h in
    let d = and_parts (code_fits c) (code_keeps_rules pool c) a.1 in
    and_from _ _ (and_from _ _ (and_from _ _ n a.0) d.0) (and_from _ _ e d.1)
code_left pool name c false e n h = let no : false ≡ true = h in absurd cc

other_left : (pool : List Entry) (name : ℕ) (t : List ℕ) (b : Bool) → is_code pool name ≡ b → IsTrue (half.fits name) →
    IsTrue ((held_by pool name b).fits (inr t)) → IsTrue (attribute_keeps_rules pool (Other (attribute_of (name, t))))
other_left pool name t true e n h = let no : false ≡ true = h in absurd cc
other_left pool name t false e n h =
    let a = and_parts (contents.fits t) (is_utf8 pool name) h in
    and_from _ _ (and_from _ _ n (contents_fit-from t a.0)) (and_from _ _ a.1 (not_from_false (is_code pool name) e))

attribute_leaves : (pool : List Entry) (p : ℕ × Held) → IsTrue ((paired half (held pool)).fits p) → IsTrue (attribute_keeps_rules pool (method_attribute_of p))
attribute_leaves pool (name, inl c) h = let a = and_parts (half.fits name) ((held pool name).fits (inl c)) h in code_left pool name c (is_code pool name) refl a.0 a.1
attribute_leaves pool (name, inr t) h = let a = and_parts (half.fits name) ((held pool name).fits (inr t)) h in other_left pool name t (is_code pool name) refl a.0 a.1

paired_held_is : (pool : List Entry) → IsFormat (paired half (held pool))
paired_held_is pool = paired_is half (held pool) half_is (held_is pool)

pub method_attribute_is : (pool : List Entry) → IsFormat (method_attribute pool)
method_attribute_is pool =
    shaped_is method_attribute_bytes (attribute_keeps_rules pool) method_attribute_of from_method_attribute (paired half (held pool))
    attribute_there attribute_back (attribute_spelled pool) (attribute_enters pool) (attribute_leaves pool) (paired_held_is pool)

-- what is kept of what stands behind a name
abbrev held_seen : List Entry → Held → Option CodeSeen
held_seen pool (inl c) = Some (code_shown pool c)
held_seen pool (inr t) = None

join_code : (pool : List Entry) (o : Option (CodeAttribute × List ℕ)) → ((o >>= found_as (code_shown pool)) >>= found_as there) ≡ ((o >>= found_as on_left) >>= found_as (held_seen pool))
join_code pool None = refl
join_code pool (Some c) = refl

join_other : (pool : List Entry) (u : Bool) (o : Option (List ℕ × List ℕ)) → ((o >>= passed (λ (t : List ℕ). u)) >>= found_as nothing) ≡
    (((o >>= found_as on_right) >>= passed (λ (t : Held). u)) >>= found_as (held_seen pool))
join_other pool u None = refl
join_other pool true (Some t) = refl
join_other pool false (Some t) = refl

abbrev kept_by : List Entry → ℕ → Bool → Format (Option CodeSeen)
kept_by pool name b = cond b (kept there (enclosed (code_kept pool))) (kept nothing (such_that (λ (t : List ℕ). is_utf8 pool name) contents))

held_keeps_by : (pool : List Entry) (name : ℕ) (b : Bool) → Keeps (kept_by pool name b) (held_seen pool) (held_by pool name b)
held_keeps_by pool name true = record {
  reads = λ bytes small.
      ap (λ (o : Option (CodeSeen × List ℕ)). o >>= found_as there) ((enclosed_keeps (code_kept pool) (code_shown pool) (code pool) (code_keeps pool)).reads bytes small)
      ∙ join_code pool ((enclosed (code pool)).read bytes);
}
held_keeps_by pool name false = record { reads = λ bytes small. join_other pool (is_utf8 pool name) (contents.read bytes) }

abbrev held_behind : List Entry → ℕ → Held → Option CodeSeen
held_behind pool name x = held_seen pool x

attribute_same : (pool : List Entry) (p : ℕ × Held) → code_behind (second_side (held_behind pool) p) ≡ code_shown_inside pool (method_attribute_of p)
attribute_same pool (name, inl c) = refl
attribute_same pool (name, inr t) = refl

pub method_attribute_keeps : (pool : List Entry) → Keeps (method_attribute_kept pool) (code_shown_inside pool) (method_attribute pool)
method_attribute_keeps pool =
    shaped_keeps (paired half (held_kept pool)) (second_side (held_behind pool)) (paired half (held pool)) method_attribute_bytes
    (attribute_keeps_rules pool) method_attribute_of code_behind (code_shown_inside pool)
    (paired_held_is pool) (λ p h. attribute_same pool p)
    (paired_keeps half (held_kept pool) (held_behind pool) (held pool) half_is (λ name. held_keeps_by pool name (is_code pool name)))

-- ---- methods

codes_values : (pool : List Entry) (xs : List MethodAttribute) → values_in (code_shown_inside pool) xs ≡ map (code_shown pool) (flat_map code_in xs)
codes_values pool [] = refl
codes_values pool (Code name c ∷ xs) = ap (λ (v : List CodeSeen). code_shown pool c ∷ v) (codes_values pool xs)
codes_values pool (Other a ∷ xs) = codes_values pool xs

codes_number : (pool : List Entry) (xs : List MethodAttribute) → at_most_one (values_in (code_shown_inside pool) xs) ≡ at_most_one (flat_map code_in xs)
codes_number pool xs = ap at_most_one (codes_values pool xs) ∙ at_most_one-map (code_shown pool) (flat_map code_in xs)

code_found : (pool : List Entry) (xs : List MethodAttribute) → sole (values_in (code_shown_inside pool) xs) ≡ option_map (code_shown pool) (sole (flat_map code_in xs))
code_found pool xs = ap sole (codes_values pool xs) ∙ sole-map (code_shown pool) (flat_map code_in xs)

method_attributes_is : (pool : List Entry) → IsFormat (method_attributes pool)
method_attributes_is pool = solely_is (code_shown_inside pool) (method_attribute pool) (method_attribute_is pool)

abbrev from_method : MethodInfo → Three × List MethodAttribute
from_method m = ((m.access_flags, (m.name_index, m.descriptor_index)), m.attributes)

method_enters : (pool : List Entry) (m : MethodInfo) → IsTrue (method_fits m && method_attributes_keep_rules pool m) → IsTrue ((both three (method_attributes pool)).fits (from_method m))
method_enters pool m h =
    let a = and_parts (method_fits m) (method_attributes_keep_rules pool m) h in
    let b = three_enters (half.fits m.access_flags) (half.fits m.name_index) (half.fits m.descriptor_index) (table_fits method_attribute_fits m.attributes) a.0 in
    let c = and_parts (nat_lt (length m.attributes) 65536) (list_all method_attribute_fits m.attributes) b.1 in
    let d = and_parts (list_all (method_attribute_keeps_rules pool) m.attributes) (at_most_one (codes_of m)) a.1 in
    let all = all_both method_attribute_fits (method_attribute_keeps_rules pool) m.attributes (and_from _ _ c.1 d.0) in
    and_from _ _ b.0 (and_from _ _ (and_from _ _ c.0 all) (codes_number pool m.attributes ∙ d.1))

method_leaves : (pool : List Entry) (p : Three × List MethodAttribute) → IsTrue ((both three (method_attributes pool)).fits p) →
    IsTrue (method_fits (method_of_parts p) && method_attributes_keep_rules pool (method_of_parts p))
method_leaves pool p h =
    let a = and_parts (three.fits p.0) ((method_attributes pool).fits p.1) h in
    let b = and_parts (table_fits (attribute_keeps_rules pool) p.1) (at_most_one (values_in (code_shown_inside pool) p.1)) a.1 in
    let c = and_parts (nat_lt (length p.1) 65536) (list_all (attribute_keeps_rules pool) p.1) b.0 in
    let d = all_parts method_attribute_fits (method_attribute_keeps_rules pool) p.1 c.1 in
    and_from _ _ (three_leaves (half.fits p.0.0) (half.fits p.0.1.0) (half.fits p.0.1.1) (table_fits method_attribute_fits p.1) a.0 (and_from _ _ c.0 d.0))
    (and_from _ _ d.1 (sym (codes_number pool p.1) ∙ b.1))

both_methods_is : (pool : List Entry) → IsFormat (both three (method_attributes pool))
both_methods_is pool = both_is three (method_attributes pool) three_is (method_attributes_is pool)

pub method_is : (pool : List Entry) → IsFormat (method pool)
method_is pool =
    shaped_is method_bytes (λ m. method_fits m && method_attributes_keep_rules pool m) method_of_parts from_method (both three (method_attributes pool))
    (λ a. refl) (λ c. refl)
    (λ c h. three_parts (half.spelling c.access_flags) (half.spelling c.name_index) (half.spelling c.descriptor_index) (table_bytes method_attribute_bytes c.attributes))
    (method_enters pool) (method_leaves pool) (both_methods_is pool)

abbrev code_among : List Entry → List MethodAttribute → Option CodeSeen
code_among pool xs = sole (values_in (code_shown_inside pool) xs)

method_same : (pool : List Entry) (p : Three × List MethodAttribute) → method_seen_of (each_side own (code_among pool) p) ≡ method_shown pool (method_of_parts p)
method_same pool p = ap (λ (c : Option CodeSeen). method_seen_of (p.0, c)) (code_found pool p.1)

pub method_keeps : (pool : List Entry) → Keeps (method_kept pool) (method_shown pool) (method pool)
method_keeps pool =
    shaped_keeps (both three (codes_kept pool)) (each_side own (code_among pool)) (both three (method_attributes pool)) method_bytes
    (λ m. method_fits m && method_attributes_keep_rules pool m) method_of_parts method_seen_of (method_shown pool)
    (both_methods_is pool) (λ p h. method_same pool p)
    (both_keeps three own three (codes_kept pool) (code_among pool) (method_attributes pool) three_is (itself three)
    (gather_keeps (method_attribute_kept pool) (code_shown_inside pool) (method_attribute pool) (method_attribute_is pool) (method_attribute_keeps pool)))
