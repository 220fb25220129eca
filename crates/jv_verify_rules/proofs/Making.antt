-- Objects that `<init>` is called on.
use Rattle.std.proofs.Common.{◌≡◌, ℕ, Bool, true, false, ◌&&◌, ◌||◌, cond, List, [], ◌∷◌, length, Option, Some, None, refl, sym, ap, ◌∙◌, if◌then◌else◌}
use Rattle.std.specs.Prelude.{slice_get}
use Rattle.std.specs.Option.{option_map}
use Rattle.std.specs.Str.{bytes_eq}
use Rattle.std.proofs.lemmas.List.{length-map}
use Rattle.std.proofs.lemmas.Option.{slice_get-map}
use Rattle.jv_format.specs.Format.{◌>>=◌}
use Rattle.jv_text.specs.declared.descriptor.FieldTypeOf.{FieldTypeOf}
use Rattle.jv_text.specs.Name.{is_array_name, is_class_name, is_init}
use Rattle.jv_text.specs.Types.{field_type_of}
use Rattle.jv_pool.specs.Constants.{Entry, MemberReference, class_name_at}
use Rattle.jv_stackmap.specs.declared.verification.VerificationTypeOf.TheVariants as types
use Rattle.jv_stackmap.specs.Types.{FrameType, component, array_of, reference_type, width}
use Rattle.jv_stackmap.specs.Frames.{Frame}
use Rattle.jv_meaning_world.specs.World.{Loaded, World}
use Rattle.jv_meaning_world.specs.Flow.{flows}
use Rattle.jv_meaning_typing.specs.Operands.{class_operand, MethodReference}
use Rattle.jv_link.specs.Inside.References.{method_operand_in}
use Rattle.jv_meaning_typing.specs.Environment.{Environment, current_class, instruction_at}
use Rattle.jv_meaning_typing.specs.FrameChanges.{taken}
use Rattle.jv_meaning_typing.specs.Named.{when, MethodUse, method_named_by, current_type}
use Rattle.jv_meaning_typing.specs.MemberRules.{has_plain_name, called_on, is_near, invoke_super, is_that_name, class_of_new, constructs_new, constructs_this, constructed_type, construct_top}
use Rattle.jv_verify_types.specs.Typed.{TypeWorld, name_at, typed, typed_all}
use Rattle.jv_verify_types.specs.Numbered.{Item, NumberFrame, class_number, frame_of, with_stack}
use Rattle.jv_verify_types.specs.Current.{CurrentClass, IsOfClass}
use Rattle.jv_verify_rules.specs.Objects.{object_in}
use Rattle.jv_verify_types.specs.Operands.{HasPool}
use Rattle.jv_verify_rules.specs.Inside.Constructed.{one_word, constructed_as, object_below}
use Rattle.jv_verify_rules.proofs.Using.{method_reference}

-- ---- the class that a method is named with

abbrev type_by : Bool → List ℕ → Option FrameType
type_by array text = cond array (field_type_of text >>= array_of) (cond (is_class_name text) (Some (types.Class text)) None)

no_array : (names : List (List ℕ)) (o : Option (FieldTypeOf (List ℕ))) (number : ℕ) → (o >>= array_of) ≡ Some (types.Class (name_at names number)) → ⊥
no_array names None number e = cc
no_array names (Some type) number e = cc

same_class : {a b : List ℕ} → Some (types.Class a) ≡ Some (types.Class b) → a ≡ b
same_class e = cc

-- one that has a number
pub class_named : (names : List (List ℕ)) (text : List ℕ) (owner : Item) (number : ℕ) → reference_type text ≡ Some (typed names owner) → Some number ≡
    class_number (Some owner) → text ≡ name_at names number
class_named names text owner number e is = by_array (is_array_name text) (e ∙ ap (λ t. Some t) (is_class owner is))
  where
    is_class : (t : Item) → Some number ≡ class_number (Some t) → typed names t ≡ types.Class (name_at names number)
    is_class (types.Class n) f = cc
    is_class types.Top f = absurd cc
    is_class types.Int f = absurd cc
    is_class types.Long f = absurd cc
    is_class types.Null f = absurd cc
    is_class types.UninitializedThis f = absurd cc
    is_class (types.Array c) f = absurd cc
    is_class (types.Uninitialized p) f = absurd cc

    by_class : (b : Bool) → cond b (Some (types.Class text)) None ≡ Some (types.Class (name_at names number)) → text ≡ name_at names number
    by_class true f = same_class f
    by_class false f = absurd cc

    by_array : (b : Bool) → type_by b text ≡ Some (types.Class (name_at names number)) → text ≡ name_at names number
    by_array true f = absurd (no_array names (field_type_of text) number f)
    by_array false f = by_class (is_class_name text) f

-- one that has none is an array
no_class : (names : List (List ℕ)) (text : List ℕ) (owner : Item) → None ≡ class_number (Some owner) → Some (types.Class text) ≡ Some (typed names owner) → ⊥
no_class names text (types.Class n) none e = absurd cc
no_class names text types.Top none e = cc
no_class names text types.Int none e = cc
no_class names text types.Long none e = cc
no_class names text types.Null none e = cc
no_class names text types.UninitializedThis none e = cc
no_class names text (types.Array c) none e = cc
no_class names text (types.Uninitialized p) none e = cc

array_named : (names : List (List ℕ)) (text : List ℕ) (owner : Item) → reference_type text ≡ Some (typed names owner) → None ≡ class_number (Some owner) → is_array_name text ≡ true
array_named names text owner e none = by_array (is_array_name text) e
  where
    by_class : (b : Bool) → cond b (Some (types.Class text)) None ≡ Some (typed names owner) → false ≡ true
    by_class true f = absurd (no_class names text owner none f)
    by_class false f = absurd cc

    by_array : (b : Bool) → type_by b text ≡ Some (typed names owner) → b ≡ true
    by_array true f = refl
    by_array false f = by_class (is_class_name text) f

-- no class flows to it
array_is : (o : Option (FieldTypeOf (List ℕ))) (t : FrameType) → (o >>= array_of) ≡ Some t → (c : FieldTypeOf (List ℕ)) × (t ≡ types.Array c)
array_is None t e = absurd cc
array_is (Some type) t e = (component type, cc)

no_flow : (world : World) (name text : List ℕ) (t : FrameType) → reference_type text ≡ Some t → is_array_name text ≡ true → flows world (types.Class name) t ≡ false
no_flow world name text t e array =
    let is = array_is (field_type_of text) t (sym (ap (λ b. type_by b text) array) ∙ e) in
    ap (flows world (types.Class name)) is.1

pub not_above : (names : List (List ℕ)) (env : Environment) (named : MethodUse) (owner : Item) (frame : Frame) →
    reference_type named.reference.class ≡ Some (typed names owner) → named.owner ≡ typed names owner
    → None ≡ class_number (Some owner) → invoke_super env named frame ≡ None
not_above names env named owner frame e is none =
    let array : is_array_name named.reference.class ≡ true = array_named names named.reference.class owner e none in
    by_plain (has_plain_name named) (ap (flows env.world (current_type env)) is ∙ no_flow env.world (current_class env).name named.reference.class (typed names owner) e array)
  where
    by_plain : (b : Bool) → flows env.world (current_type env) named.owner ≡ false
        → (if b && flows env.world (current_type env) named.owner && is_near env named.reference.class then called_on env named (current_type env ∷ []) frame else None) ≡ None
    by_plain false h = refl
    by_plain true h = ap (λ f. if f && is_near env named.reference.class then called_on env named (current_type env ∷ []) frame else None) h

-- it is of one word
one_wide : (text : List ℕ) (t : FrameType) → reference_type text ≡ Some t → width t ≡ 1
one_wide text t e = by_array (is_array_name text) e
  where
    by_class : (b : Bool) → cond b (Some (types.Class text)) None ≡ Some t → width t ≡ 1
    by_class true f = let is : types.Class text ≡ t = cc in sym (ap width is)
    by_class false f = absurd cc

    by_array : (b : Bool) → type_by b text ≡ Some t → width t ≡ 1
    by_array true f = ap width (array_is (field_type_of text) t f).1
    by_array false f = by_class (is_class_name text) f

-- ---- the receiver

pub this_or_super : (class : CurrentClass) (env : Environment) (named : MethodUse) (name : List ℕ) → IsOfClass class env → named.reference.class ≡ name
    → constructs_this env named ≡ (bytes_eq name class.by.class.name || is_that_name name class.by.class.super_class)
this_or_super class env named name of is =
    ap (λ t. bytes_eq t (current_class env).name || is_that_name t (current_class env).super_class) is
    ∙ ap (λ (l : Loaded). bytes_eq name l.class.name || is_that_name name l.class.super_class) of.by

-- ---- what `new` made

module _ (env : Environment) (index : ℕ) (named : MethodUse) (offset : ℕ) (pool : List Entry) (class : ℕ) (answer : Bool) (has : HasPool pool env) (is : method_named_by env index ≡ Some named)
    (made : class_of_new env (instruction_at env offset) ≡ class_operand (current_class env) class)
    (told : (m : MethodReference) → method_operand_in pool index ≡ Some m → is_that_name m.member.class (class_name_at pool class) ≡ answer) where
  pub is_made : is_that_name named.reference.class (class_of_new env (instruction_at env offset)) ≡ answer
  is_made =
      let reference = method_reference env index named is in
      ap (is_that_name named.reference.class) (made ∙ ap (λ p. class_name_at p class) has)
      ∙ (ap (λ (r : MemberReference). is_that_name r.class (class_name_at pool class)) (sym reference.member)
      ∙ told reference.constant (ap (λ p. method_operand_in p index) (sym has) ∙ reference.found))

-- ---- types of one word

fits_one : (t : Item) (names : List (List ℕ)) → width (typed names t) ≡ 1 → one_word t ≡ Some t
fits_one types.Long names e = absurd cc
fits_one types.Top names e = refl
fits_one types.Int names e = refl
fits_one types.Null names e = refl
fits_one types.UninitializedThis names e = refl
fits_one (types.Class n) names e = refl
fits_one (types.Array c) names e = refl
fits_one (types.Uninitialized p) names e = refl

type_wide : (env : Environment) (named : MethodUse) (object t : FrameType) → width named.owner ≡ 1 → constructed_type env named object ≡ Some t → width t ≡ 1
type_wide env named (types.Uninitialized offset) t wide e = by_test (constructs_new env named offset) e
  where
    by_test : (b : Bool) → when b named.owner ≡ Some t → width t ≡ 1
    by_test true f = let is : named.owner ≡ t = cc in sym (ap width is) ∙ wide
    by_test false f = absurd cc
type_wide env named types.UninitializedThis t wide e = by_test (constructs_this env named) e
  where
    by_test : (b : Bool) → when b (current_type env) ≡ Some t → width t ≡ 1
    by_test true f = let is : current_type env ≡ t = cc in sym (ap width is)
    by_test false f = absurd cc
type_wide env named types.Top t wide e = absurd cc
type_wide env named types.Int t wide e = absurd cc
type_wide env named types.Long t wide e = absurd cc
type_wide env named types.Null t wide e = absurd cc
type_wide env named (types.Class n) t wide e = absurd cc
type_wide env named (types.Array c) t wide e = absurd cc

pub type_fits : (names : List (List ℕ)) (env : Environment) (index : ℕ) (named : MethodUse) (object : FrameType) (by : Item) (fitting : Option Item) → method_named_by env index ≡ Some named
    → Some (typed names by) ≡ constructed_type env named object → fitting ≡ one_word by → option_map (typed names) fitting ≡ constructed_type env named object
type_fits names env index named object by fitting is e same =
    let reference = method_reference env index named is in
    ap (option_map (typed names)) (same ∙ fits_one by names (type_wide env named object (typed names by) (one_wide named.reference.class named.owner reference.owner) (sym e))) ∙ e

-- ---- the item below the arguments

module _ (names : List (List ℕ)) (env : Environment) (index : ℕ) (named : MethodUse) (f : NumberFrame) where
  abbrev below_of : Option MethodUse → Option FrameType
  below_of o = o >>= λ m. when (is_init m.reference.name) m >>= λ m. slice_get (frame_of names f).stack (length m.arguments)

  pub below_init : (arguments : List Item) (item : Option Item) → method_named_by env index ≡ Some named → is_init named.reference.name ≡ true → named.arguments ≡ typed_all names arguments
      → item ≡ slice_get f.stack (length arguments) → object_below env (Some index) (frame_of names f) ≡ option_map (typed names) item
  below_init arguments item is init same there =
      ap below_of is
      ∙ (ap (λ b. when b named >>= λ m. slice_get (frame_of names f).stack (length m.arguments)) init
      ∙ (ap (slice_get (typed_all names f.stack)) (ap length same ∙ length-map arguments (typed names))
      ∙ (slice_get-map (typed names) f.stack (length arguments) ∙ ap (option_map (typed names)) (sym there))))

  pub below_other : method_named_by env index ≡ Some named → is_init named.reference.name ≡ false → object_below env (Some index) (frame_of names f) ≡ None
  below_other is other =
      ap below_of is ∙ ap (λ b. when b named >>= λ m. slice_get (frame_of names f).stack (length m.arguments)) other

-- ---- the frame behind

pub left_by : (world : TypeWorld) (env : Environment) (named : MethodUse) (arguments : List Item) (old : NumberFrame) → env.world ≡ world.world → named.arguments ≡ typed_all world.names arguments
    → taken env.world named.arguments (typed_all world.names old.stack) ≡ taken world.world (typed_all world.names arguments) (typed_all world.names old.stack)
left_by world env named arguments old same is =
    ap (λ w. taken w named.arguments (typed_all world.names old.stack)) same ∙ ap (λ ts. taken world.world ts (typed_all world.names old.stack)) is

pub no_object : (env : Environment) (named : MethodUse) (frame : Frame) (left : Option (List FrameType)) → object_in left ≡ None → (left >>= construct_top env named frame) ≡ None
no_object env named frame None e = refl
no_object env named frame (Some []) e = refl
no_object env named frame (Some (object ∷ below)) e = absurd cc

pub object_taken : (names : List (List ℕ)) (env : Environment) (named : MethodUse) (object : Item) (old mid : NumberFrame) (left : Option (List FrameType))
    → left ≡ Some (typed names object ∷ typed_all names mid.stack) → mid ≡ with_stack mid.stack old
    → (left >>= construct_top env named (frame_of names old)) ≡ constructed_as (frame_of names mid) (typed names object) (typed_all names mid.stack) (constructed_type env named (typed names object))
object_taken names env named object old mid left e same =
    ap (λ o. o >>= construct_top env named (frame_of names old)) e
    ∙ ap (λ (f : NumberFrame). constructed_as (frame_of names f) (typed names object) (typed_all names mid.stack) (constructed_type env named (typed names object))) (sym same)
