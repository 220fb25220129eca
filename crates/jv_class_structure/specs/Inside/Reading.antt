-- How the parts of a class file behind its pool are read, and what is kept of them. Not for believing: no contract of
-- a public function is understood by it.
use Rattle.std.specs.Prelude.{◌≡◌, ℕ, zero, suc, Bool, true, false, ◌&&◌, ◌⊎◌, List, [], ◌∷◌, length, map, Option, Some, None, is_some, codes, Result, Ok, Err, if◌then◌else◌}
use Rattle.std.specs.Option.{option_map}
use Rattle.std.proofs.Common.{inl, inr}
use Rattle.std.specs.List.{flat_map}
use Rattle.jv_format.specs.Format.{Format, ◌>>=◌, half}
use Rattle.jv_format.specs.Readers.{both, list_of, found_as, after, such_that, paired, contents, whole, enclosed, case_of}
use Rattle.jv_format.specs.declared.handlers.Handler.{Handler}
use Rattle.jv_format.specs.Handlers.{handler_bytes, handler_fits, handler}
use Rattle.jv_pool.specs.Constants.{Entry, utf8_at}
use Rattle.jv_class_structure.specs.declared.fault.PartsFault.{PartsFault}
use Rattle.jv_class_structure.specs.declared.fault.PartsFault.TheVariants.{Format as BadFormat, OutOfMemory}
use Rattle.jv_class_structure.specs.Structure.{AttributeInfo, CodeAttribute, MethodAttribute, FieldInfo, MethodInfo, ClassStructure, table_bytes, attribute_bytes, code_bytes, method_attribute_bytes, field_bytes, method_bytes, table_fits, attribute_fits, code_fits, method_attribute_fits, field_fits, method_fits}
use Rattle.jv_class_structure.specs.Structure.MethodAttribute.{Code, Other}
use Rattle.jv_class_structure.specs.Flags.{has, acc_static}
use Rattle.jv_class_structure.specs.Attributes.{is_text_at, has_attribute_name, at_most_one, has_utf8_name, value_index, code_length_keeps_rules, field_attributes_keep_rules, code_keeps_rules, method_attribute_keeps_rules, method_attributes_keep_rules}
use Rattle.jv_class_structure.specs.Parts.{FieldSeen, CodeSeen, MethodSeen, field_shown, code_shown, method_shown}
use Rattle.jv_class_structure.specs.Packed.{handlers_kept}

-- ---- forms

-- values of another shape, with bytes and a test of their own
abbrev pub shaped : {A C : Type 0} → (C → List ℕ) → (C → Bool) → (A → C) → Format A → Format C
shaped spelling fits to f = record { spelling = spelling; fits = fits; read = λ bytes. f.read bytes >>= found_as to }

-- what is kept of a value that is read; such a format only reads
abbrev pub kept : {A S : Type 0} → (A → S) → Format A → Format S
kept keep f = record { spelling = λ _. []; fits = λ _. false; read = λ bytes. f.read bytes >>= found_as keep }

-- how many there are, in two bytes, and the items
abbrev pub items_of : {A : Type 0} → Format A → ℕ → Format (List A)
items_of f n = list_of n f

abbrev pub table : {A : Type 0} → Format A → Format (List A)
table f = record { spelling = table_bytes f.spelling; fits = table_fits f.fits; read = (after half length (items_of f)).read }

-- a value that may be there, as a list
abbrev pub listed : {V : Type 0} → Option V → List V
listed None = []
listed (Some v) = v ∷ []

-- the values that a list's items have
abbrev pub values_in : {A V : Type 0} → (A → Option V) → List A → List V
values_in value items = flat_map (λ a. listed (value a)) items

-- tables in which at most one item has a value
abbrev pub solely : {A V : Type 0} → (A → Option V) → Format A → Format (List A)
solely value f = such_that (λ items. at_most_one (values_in value items)) (table f)

-- one more value that may be there
abbrev pub one_more : {V : Type 0} → Option V → Option V → Option (Option V)
one_more None next = Some next
one_more (Some v) None = Some (Some v)
one_more (Some v) (Some w) = None

-- the one value of as many items as the number says, beside the one that was found before
abbrev pub gathered : {V : Type 0} → Format (Option V) → ℕ → Option V → List ℕ → Option (Option V × List ℕ)
gathered f zero found bytes = Some (found, bytes)
gathered f (suc n) found bytes = f.read bytes >>= λ x. one_more found x.0 >>= λ v. gathered f n v x.1

abbrev pub gathered_behind : {V : Type 0} → Format (Option V) → ℕ × List ℕ → Option (Option V × List ℕ)
gathered_behind f n = gathered f n.0 None n.1

abbrev pub gather : {V : Type 0} → Format (Option V) → Format (Option V)
gather f = record { spelling = λ _. []; fits = λ _. false; read = λ bytes. half.read bytes >>= gathered_behind f }

abbrev pub Three : Type 0
Three = ℕ × (ℕ × ℕ)

abbrev pub three : Format Three
three = both half (both half half)

-- ---- attributes

abbrev pub attribute_of : ℕ × List ℕ → AttributeInfo
attribute_of p = record { attribute_name_index = p.0; info = p.1 }

abbrev pub is_utf8 : List Entry → ℕ → Bool
is_utf8 pool index = is_some (utf8_at pool index)

abbrev pub attribute : List Entry → Format AttributeInfo
attribute pool =
    shaped attribute_bytes (λ a. attribute_fits a && has_utf8_name pool a) attribute_of (both (such_that (is_utf8 pool) half) contents)

-- ---- a field's attributes

-- the attribute tells the value of a static field
abbrev pub tells_value : List Entry → Bool → AttributeInfo → Bool
tells_value pool static a = static && has_attribute_name pool (codes "ConstantValue") a

abbrev pub value_of : List Entry → Bool → AttributeInfo → Option ℕ
value_of pool static a = if tells_value pool static a then value_index a else None

abbrev pub has_value : List Entry → Bool → AttributeInfo → Bool
has_value pool static a = if tells_value pool static a then is_some (value_index a) else true

abbrev pub field_attribute : List Entry → Bool → Format AttributeInfo
field_attribute pool static = such_that (has_value pool static) (attribute pool)

abbrev pub field_attributes : List Entry → Bool → Format (List AttributeInfo)
field_attributes pool static = solely (value_of pool static) (field_attribute pool static)

-- ---- fields

abbrev pub is_static : Three → Bool
is_static t = has t.0 acc_static

abbrev pub field_of_parts : Three × List AttributeInfo → FieldInfo
field_of_parts p = record { access_flags = p.0.0; name_index = p.0.1.0; descriptor_index = p.0.1.1; attributes = p.1 }

abbrev pub attributes_behind : List Entry → Three → Format (List AttributeInfo)
attributes_behind pool t = field_attributes pool (is_static t)

abbrev pub field : List Entry → Format FieldInfo
field pool =
    shaped field_bytes (λ f. field_fits f && field_attributes_keep_rules pool f) field_of_parts (paired three (attributes_behind pool))

-- ---- Code

abbrev pub exception_of : (ℕ × ℕ) × (ℕ × ℕ) → Handler
exception_of p = handler p.0.0 p.0.1 p.1.0 p.1.1

abbrev pub exception : Format Handler
exception = shaped handler_bytes handler_fits exception_of (both (both half half) (both half half))

abbrev pub stack_map_of : List Entry → AttributeInfo → Option (List ℕ)
stack_map_of pool a = if has_attribute_name pool (codes "StackMapTable") a then Some a.info else None

abbrev pub code_attributes : List Entry → Format (List AttributeInfo)
code_attributes pool = solely (stack_map_of pool) (attribute pool)

abbrev pub code_text : Format (List ℕ)
code_text = such_that code_length_keeps_rules contents

abbrev pub CodeBody : Type 0
CodeBody = (ℕ × ℕ) × (List ℕ × (List Handler × List AttributeInfo))

abbrev pub code_of : CodeBody → CodeAttribute
code_of p = record { max_stack = p.0.0; max_locals = p.0.1; code = p.1.0; exception_table = p.1.1.0; attributes = p.1.1.1 }

abbrev pub code_body : List Entry → Format CodeBody
code_body pool = both (both half half) (both code_text (both (table exception) (code_attributes pool)))

abbrev pub code : List Entry → Format CodeAttribute
code pool = shaped code_bytes (λ c. code_fits c && code_keeps_rules pool c) code_of (code_body pool)

-- ---- a method's attributes

abbrev pub is_code : List Entry → ℕ → Bool
is_code pool name = is_text_at pool (codes "Code") name

abbrev pub on_left : {A B : Type 0} → A → A ⊎ B
on_left a = inl a

abbrev pub on_right : {A B : Type 0} → B → A ⊎ B
on_right b = inr b

abbrev pub left_of : {A B : Type 0} → A ⊎ B → Option A
left_of (inl a) = Some a
left_of (inr b) = None

abbrev pub right_of : {A B : Type 0} → A ⊎ B → Option B
right_of (inl a) = None
right_of (inr b) = Some b

abbrev pub Held : Type 0
Held = CodeAttribute ⊎ List ℕ

-- what stands behind a name: the code, or contents that are passed over
abbrev pub code_held : List Entry → Format Held
code_held pool = case_of on_left left_of (enclosed (code pool))

abbrev pub other_held : List Entry → ℕ → Format Held
other_held pool name = such_that (λ _. is_utf8 pool name) (case_of on_right right_of contents)

abbrev pub held : List Entry → ℕ → Format Held
held pool name = if is_code pool name then code_held pool else other_held pool name

abbrev pub method_attribute_of : ℕ × Held → MethodAttribute
method_attribute_of (name, inl code) = Code name code
method_attribute_of (name, inr info) = Other (attribute_of (name, info))

abbrev pub method_attribute : List Entry → Format MethodAttribute
method_attribute pool =
    shaped method_attribute_bytes (λ a. method_attribute_fits a && method_attribute_keeps_rules pool a) method_attribute_of
    (paired half (held pool))

abbrev pub code_inside : MethodAttribute → Option CodeAttribute
code_inside (Code name code) = Some code
code_inside (Other a) = None

-- what is shown of it
abbrev pub code_shown_inside : List Entry → MethodAttribute → Option CodeSeen
code_shown_inside pool a = option_map (code_shown pool) (code_inside a)

abbrev pub method_attributes : List Entry → Format (List MethodAttribute)
method_attributes pool = solely (code_shown_inside pool) (method_attribute pool)

-- ---- methods

abbrev pub method_of_parts : Three × List MethodAttribute → MethodInfo
method_of_parts p = record { access_flags = p.0.0; name_index = p.0.1.0; descriptor_index = p.0.1.1; attributes = p.1 }

abbrev pub method : List Entry → Format MethodInfo
method pool =
    shaped method_bytes (λ m. method_fits m && method_attributes_keep_rules pool m) method_of_parts (both three (method_attributes pool))

-- ---- what stands behind the pool

abbrev pub Body : Type 0
Body = Three × (List ℕ × (List FieldInfo × (List MethodInfo × List AttributeInfo)))

abbrev pub class_body : List Entry → Format Body
class_body pool = both three (both (table half) (both (table (field pool)) (both (table (method pool)) (field_attributes pool false))))

abbrev pub structure_of : ℕ → List Entry → Body → ClassStructure
structure_of major pool b = record {
  minor_version = 0;
  major_version = major;
  constant_pool = pool;
  access_flags = b.0.0;
  this_class = b.0.1.0;
  super_class = b.0.1.1;
  interfaces = b.1.0;
  fields = b.1.1.0;
  methods = b.1.1.1.0;
  attributes = b.1.1.1.1;
}

-- the body that bytes hold, where they hold one
abbrev pub body_in : Option (Body × List ℕ) → Body
body_in None = ((0, (0, 0)), ([], ([], ([], []))))
body_in (Some b) = b.0

abbrev pub structure_in : ℕ → List Entry → List ℕ → ClassStructure
structure_in major pool bytes = structure_of major pool (body_in ((class_body pool).read bytes))

-- ---- what is kept of each part

abbrev pub value_kept : List Entry → Bool → Format (Option ℕ)
value_kept pool static = kept (value_of pool static) (field_attribute pool static)

abbrev pub values_kept : List Entry → Bool → Format (Option ℕ)
values_kept pool static = gather (value_kept pool static)

-- a number of attributes
abbrev pub so_many_kept : {V : Type 0} → Format (Option V) → ℕ → Format (Option V)
so_many_kept f n = record { spelling = λ _. []; fits = λ _. false; read = gathered f n None }

abbrev pub counted_values : List Entry → Bool → ℕ → Format (Option ℕ)
counted_values pool static n = so_many_kept (value_kept pool static) n

abbrev pub field_seen_of : Three × Option ℕ → FieldSeen
field_seen_of p = record { access_flags = p.0.0; name_index = p.0.1.0; descriptor_index = p.0.1.1; constant_value = p.1 }

abbrev pub values_behind : List Entry → Three → Format (Option ℕ)
values_behind pool t = values_kept pool (is_static t)

abbrev pub field_kept : List Entry → Format FieldSeen
field_kept pool = kept field_seen_of (paired three (values_behind pool))

abbrev pub stack_map_kept : List Entry → Format (Option (List ℕ))
stack_map_kept pool = kept (stack_map_of pool) (attribute pool)

abbrev pub stack_maps_kept : List Entry → Format (Option (List ℕ))
stack_maps_kept pool = gather (stack_map_kept pool)

abbrev pub counted_stack_maps : List Entry → ℕ → Format (Option (List ℕ))
counted_stack_maps pool n = so_many_kept (stack_map_kept pool) n

abbrev pub code_seen : (ℕ × ℕ) × (List ℕ × (List Handler × Option (List ℕ))) → CodeSeen
code_seen p = record { max_stack = p.0.0; max_locals = p.0.1; code = p.1.0; exception_table = p.1.1.0; stack_map_table = p.1.1.1 }

abbrev pub code_kept : List Entry → Format CodeSeen
code_kept pool = kept code_seen (both (both half half) (both code_text (both handlers_kept (stack_maps_kept pool))))

abbrev pub there : CodeSeen → Option CodeSeen
there c = Some c

abbrev pub nothing : {A : Type 0} → A → Option CodeSeen
nothing _ = None

abbrev pub held_kept : List Entry → ℕ → Format (Option CodeSeen)
held_kept pool name =
    if is_code pool name then kept there (enclosed (code_kept pool))
    else kept nothing (such_that (λ _. is_utf8 pool name) contents)

abbrev pub code_behind : ℕ × Option CodeSeen → Option CodeSeen
code_behind p = p.1

abbrev pub method_attribute_kept : List Entry → Format (Option CodeSeen)
method_attribute_kept pool = kept code_behind (paired half (held_kept pool))

abbrev pub codes_kept : List Entry → Format (Option CodeSeen)
codes_kept pool = gather (method_attribute_kept pool)

abbrev pub counted_codes : List Entry → ℕ → Format (Option CodeSeen)
counted_codes pool n = so_many_kept (method_attribute_kept pool) n

abbrev pub method_seen_of : Three × Option CodeSeen → MethodSeen
method_seen_of p = record { access_flags = p.0.0; name_index = p.0.1.0; descriptor_index = p.0.1.1; code = p.1 }

abbrev pub method_kept : List Entry → Format MethodSeen
method_kept pool = kept method_seen_of (both three (codes_kept pool))

-- attributes of which nothing is kept
abbrev pub passed_over : List Entry → Format ℕ
passed_over pool = kept (λ (v : Option ℕ). 0) (values_kept pool false)

abbrev pub MembersSeen : Type 0
MembersSeen = List FieldSeen × (List MethodSeen × ℕ)

abbrev pub members_kept : List Entry → Format MembersSeen
members_kept pool = both (table (field_kept pool)) (both (table (method_kept pool)) (passed_over pool))

abbrev pub BodySeen : Type 0
BodySeen = Three × (List ℕ × MembersSeen)

abbrev pub body_kept : List Entry → Format BodySeen
body_kept pool = both three (both (table half) (members_kept pool))

-- what is kept of a body
abbrev pub body_shown : List Entry → Body → BodySeen
body_shown pool b = (b.0, (b.1.0, (map (field_shown pool) b.1.1.0, (map (method_shown pool) b.1.1.1.0, 0))))

-- the bytes are a body, of which this is kept
abbrev pub AreBody : List Entry → List ℕ → BodySeen → Type 0
AreBody pool bytes seen = ((class_body pool).read bytes >>= found_as (body_shown pool)) ≡ Some (seen, [])

-- ---- what functions give that take memory

-- a fault where this is read
abbrev pub Fails : {A : Type 0} → PartsFault → Option A → Type 0
Fails BadFormat read = read ≡ None
Fails OutOfMemory read = Unit {0}

-- What a function gave, seen by view, is what the format reads, unless memory ran out.
abbrev pub Gives : {A X : Type 0} → Format A → List ℕ → (X → A × List ℕ) → Result X PartsFault → Type 0
Gives f bytes view (Ok x) = f.read bytes ≡ Some (view x)
Gives f bytes view (Err e) = Fails e (f.read bytes)

-- a fault where this is read by the whole
abbrev pub FailsWhole : {A : Type 0} → PartsFault → Option (A × List ℕ) → Type 0
FailsWhole BadFormat read = (read >>= whole []) ≡ None
FailsWhole OutOfMemory read = Unit {0}

-- What a function gave, seen by view, is what the format reads where nothing follows it, unless memory ran out.
abbrev pub GivesWhole : {A X : Type 0} → Format A → List ℕ → (X → A) → Result X PartsFault → Type 0
GivesWhole f bytes view (Ok x) = f.read bytes ≡ Some (view x, [])
GivesWhole f bytes view (Err e) = FailsWhole e (f.read bytes)

-- the methods, behind which the attributes are passed over
abbrev pub last_kept : List Entry → Format (List MethodSeen × ℕ)
last_kept pool = both (table (method_kept pool)) (passed_over pool)
