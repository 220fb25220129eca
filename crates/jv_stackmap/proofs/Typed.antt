-- The types that entries stand for: those of the items that they are of, with their widths.
use Rattle.std.proofs.Common.{◌≡◌, ℕ, zero, suc, ◌≤◌, ◌<◌, Bool, true, false, cond, List, [], ◌∷◌, length, take, get_or, Option, Some, None, refl, sym, ap, ◌∙◌, arith, inl, inr}
use Rattle.std.specs.Prelude.{map, reverse, unwrap_or, IsSome, IsTrue, nat_le, ◌&&◌}
use Rattle.std.specs.Option.{option_map}
use Rattle.std.proofs.lemmas.List.{reverse-append, length-map}
use Rattle.std.proofs.lemmas.List.Sums.{sum_by-cons}
use Rattle.std.proofs.Math.Seq.{take-suc}
use Rattle.jv_format.specs.Format.{◌>>=◌}
use Rattle.jv_text.specs.declared.descriptor.FieldTypeOf.{FieldTypeOf}
use Rattle.jv_text.specs.Name.{is_class_name, is_array_name}
use Rattle.jv_text.specs.Types.{field_type_of, TypesAgree}
use Rattle.jv_pool.specs.Constants.{Entry, class_name_at}
use Rattle.jv_pool.specs.Rules.{NamesClass}
use Rattle.jv_stackmap.specs.declared.item.Item.{Item}
use Rattle.jv_stackmap.specs.declared.item.Item.TheVariants as items
use Rattle.jv_stackmap.specs.declared.entry.FrameEntry.{FrameEntry}
use Rattle.jv_stackmap.specs.declared.entry.FrameEntry.TheVariants as entries
use Rattle.jv_stackmap.specs.declared.limits.Limits.{Limits}
use Rattle.jv_stackmap.specs.declared.width.Width.{Width}
use Rattle.jv_stackmap.specs.declared.width.Width.TheVariants.{One}
use Rattle.jv_stackmap.specs.declared.verification.VerificationTypeOf.TheVariants as types
use Rattle.jv_stackmap.specs.Types.{FrameType, array_of, reference_type, width, words}
use Rattle.jv_stackmap.specs.Frames.{MapFrame, object_type, type_of, is_within}
use Rattle.jv_stackmap.specs.Entries.{entry_type, word_count, HaveWidths, entry_words, words_in}
use Rattle.jv_stackmap.specs.Inside.Steps.{object_in, entry_of, initial_down}
use Rattle.jv_stackmap.proofs.Described.{array_there}
use Rattle.jv_stackmap.proofs.Naming.{mapped}

-- ---- what a Class constant names has a type

by_name : (text : List ℕ) (a b : Bool) (o : Option (FieldTypeOf (List ℕ))) → (IsTrue a → IsSome o) → (a ≡ false → IsTrue b)
    → IsSome (cond a (o >>= array_of) (cond b (Some (types.Class text)) None))
by_name text true b None array class = absurd (none_there (array refl))
  where
    none_there : IsSome {T = FieldTypeOf (List ℕ)} None → ⊥
    none_there e = cc
by_name text true b (Some t) array class = refl
by_name text false true o array class = refl
by_name text false false o array class = absurd (off (class refl))
  where
    off : IsTrue false → ⊥
    off e = cc

class_there : (text : List ℕ) → NamesClass text → is_array_name text ≡ false → IsTrue (is_class_name text)
class_there text (inl class) e = class
class_there text (inr h) e = let on : is_array_name text ≡ true = h.array in absurd cc

pub reference_there : TypesAgree → (text : List ℕ) → NamesClass text → IsSome (reference_type text)
reference_there law text h = by_name text (is_array_name text) (is_class_name text) (field_type_of text) (array_there law text h) (class_there text h)

some_or : (o : Option FrameType) (d : FrameType) → IsSome o → o ≡ Some (unwrap_or o d)
some_or None d h = absurd cc
some_or (Some t) d h = refl

-- ---- items

-- each Class constant's text names a class or an array
abbrev pub NameClasses : List Entry → Type 0
NameClasses pool = (class : ℕ) (text : List ℕ) → class_name_at pool class ≡ Some text → NamesClass text

object_by : (name : FrameEntry → FrameType) (class : ℕ) (o : Option (List ℕ)) (t : Option FrameType) → t ≡ (o >>= reference_type) → ((text : List ℕ) → o ≡ Some text → IsSome (reference_type text))
    → name (entries.Object class) ≡ unwrap_or t types.Top → t ≡ option_map name (o >>= object_in class)
object_by name class None t is there e = is
object_by name class (Some text) t is there e =
    let some : IsSome t = rw is (there text refl) in
    some_or t types.Top some ∙ ap (λ (t : FrameType). Some t) (sym e)

pub item_named : (pool : List Entry) (initial : List FrameType) → TypesAgree → NameClasses pool → (i : Item) → type_of pool i ≡ option_map (entry_type pool initial) (entry_of pool i)
item_named pool initial law names items.Top = refl
item_named pool initial law names items.Integer = refl
item_named pool initial law names items.Long = refl
item_named pool initial law names items.Null = refl
item_named pool initial law names items.UninitializedThis = refl
item_named pool initial law names (items.Object class) =
    object_by (entry_type pool initial) class (class_name_at pool class) (object_type pool class) refl (λ text is. reference_there law text (names class text is)) refl
item_named pool initial law names (items.Uninitialized offset) = refl

-- ---- words

narrow : (text : List ℕ) (a b : Bool) (o : Option (FieldTypeOf (List ℕ))) → width (unwrap_or (cond a (o >>= array_of) (cond b (Some (types.Class text)) None)) types.Top) ≡ 1
narrow text true b None = refl
narrow text true b (Some t) = refl
narrow text false true o = refl
narrow text false false o = refl

object_width : (o : Option (List ℕ)) → width (unwrap_or (o >>= reference_type) types.Top) ≡ 1
object_width None = refl
object_width (Some text) = narrow text (is_array_name text) (is_class_name text) (field_type_of text)

place_width : (initial : List FrameType) (widths : List Width) (place : ℕ) → map width initial ≡ map word_count widths → width (get_or initial place types.Top) ≡ word_count (get_or widths place One)
place_width [] [] place e = refl
place_width [] (w ∷ ws) place e = absurd cc
place_width (t ∷ ts) [] place e = absurd cc
place_width (t ∷ ts) (w ∷ ws) zero e = cc
place_width (t ∷ ts) (w ∷ ws) (suc place) e = let more : map width ts ≡ map word_count ws = cc in place_width ts ws place more

entry_width : (pool : List Entry) (initial : List FrameType) (widths : List Width) → HaveWidths initial widths → (e : FrameEntry) → width (entry_type pool initial e) ≡ entry_words widths e
entry_width pool initial widths h entries.Top = refl
entry_width pool initial widths h entries.Int = refl
entry_width pool initial widths h entries.Long = refl
entry_width pool initial widths h entries.Null = refl
entry_width pool initial widths h entries.UninitializedThis = refl
entry_width pool initial widths h (entries.Object class) = object_width (class_name_at pool class)
entry_width pool initial widths h (entries.Uninitialized offset) = refl
entry_width pool initial widths h (entries.Initial place) = place_width initial widths place h.alike

words_typed : (pool : List Entry) (initial : List FrameType) (widths : List Width) → HaveWidths initial widths → (es : List FrameEntry) → words (map (entry_type pool initial) es) ≡ words_in widths es
words_typed pool initial widths h [] = refl
words_typed pool initial widths h (e ∷ es) =
    omega (
      arith,
      sum_by-cons width (entry_type pool initial e) (map (entry_type pool initial) es),
      sum_by-cons (entry_words widths) e es,
      entry_width pool initial widths h e,
      words_typed pool initial widths h es,
    )

-- a frame of entries is within the limits
abbrev pub fits_in : Limits → List Width → MapFrame FrameEntry → Bool
fits_in limits widths f = nat_le (words_in widths f.locals) limits.max_locals && nat_le (words_in widths f.stack) limits.max_stack

pub fits_typed : (pool : List Entry) (limits : Limits) (initial : List FrameType) (widths : List Width) → HaveWidths initial widths → (f : MapFrame FrameEntry)
    → is_within limits (mapped (entry_type pool initial) f) ≡ fits_in limits widths f
fits_typed pool limits initial widths h f =
    let locals = words_typed pool initial widths h f.locals in
    let stack = words_typed pool initial widths h f.stack in
    ap (λ (n : ℕ). nat_le n limits.max_locals && nat_le (words (map (entry_type pool initial) f.stack)) limits.max_stack) locals
    ∙ ap (λ (n : ℕ). nat_le (words_in widths f.locals) limits.max_locals && nat_le n limits.max_stack) stack

-- ---- the initial local entries

initial_taken : (pool : List Entry) (initial : List FrameType) (n : ℕ) → n ≤ length initial → map (entry_type pool initial) (initial_down n) ≡ reverse (take n initial)
initial_taken pool initial zero le = refl
initial_taken pool initial (suc n) le =
    let lt : n < length initial = omega arith in
    let more : map (entry_type pool initial) (initial_down n) ≡ reverse (take n initial) = initial_taken pool initial n (omega arith) in
    let last : List FrameType = get_or initial n types.Top ∷ [] in
    ap (λ (l : List FrameType). get_or initial n types.Top ∷ l) more
    ∙ sym (reverse-append (take n initial) last)
    ∙ ap (λ (l : List FrameType). reverse l) (sym (take-suc initial n types.Top lt))

take_all : (l : List FrameType) → take (length l) l ≡ l
take_all [] = refl
take_all (t ∷ ts) = ap (λ (l : List FrameType). t ∷ l) (take_all ts)

same_length : (initial : List FrameType) (widths : List Width) → HaveWidths initial widths → length widths ≡ length initial
same_length initial widths h = sym (length-map widths word_count) ∙ ap (λ (l : List ℕ). length l) (sym h.alike) ∙ length-map initial width

pub initial_typed : (pool : List Entry) (initial : List FrameType) (widths : List Width) → HaveWidths initial widths → map (entry_type pool initial) (initial_down (length widths)) ≡ reverse initial
initial_typed pool initial widths h =
    ap (λ (n : ℕ). map (entry_type pool initial) (initial_down n)) (same_length initial widths h)
    ∙ initial_taken pool initial (length initial) (omega arith)
    ∙ ap (λ (l : List FrameType). reverse l) (take_all initial)
