-- The frames of a stack map (JVMS 4.7.4), and the one with which a method begins (4.10.1.6), are of known types where the class names
-- known classes alone.
use Rattle.std.proofs.Common.{◌≡◌, ℕ, zero, suc, ◌+◌, ◌-◌, Bool, true, false, List, [], ◌∷◌, map, reverse, replicate, Option, Some, None, sym, subst, codes}
use Rattle.std.specs.Prelude.{IfSome, IsTrue, if◌then◌else◌, not, ◌&&◌}
use Rattle.std.specs.List.{AllByRecursion, flat_map}
use Rattle.std.specs.Str.{bytes_eq}
use Rattle.jv_text.specs.Name.{is_init}
use Rattle.jv_format.specs.Format.{◌>>=◌}
use Rattle.jv_text.specs.declared.descriptor.FieldTypeOf.{FieldTypeOf}
use Rattle.jv_pool.specs.Constants.{Entry, class_name_at}
use Rattle.jv_stackmap.specs.declared.item.Item.{Item}
use Rattle.jv_stackmap.specs.declared.item.Item.TheVariants as items
use Rattle.jv_stackmap.specs.declared.form.Form.TheVariants.{SameItem, SameItemExtended, Chop, Append, Full}
use Rattle.jv_stackmap.specs.declared.verification.VerificationTypeOf.TheVariants as types
use Rattle.jv_stackmap.specs.Bytes.{MapForm}
use Rattle.jv_stackmap.specs.Types.{FrameType, value_type, words, reference_type}
use Rattle.jv_stackmap.specs.Frames.{type_of, MapFrame, laid, chopped, locals_behind, stack_in, delta_of, map_frame, frame_behind, frame_if, frames_behind, type_by_words, expanded, by_words, PlacedFrame, placed_frame, is_within}
use Rattle.jv_stackmap.specs.Initial.{receiver_entries, initial_entries}
use Rattle.jv_meaning_typing.specs.Environment.{Environment, current_class}
use Rattle.jv_meaning_typing.specs.Typing.{is_static, limits_of, entries_before, HasFrames, first_frame}
use Rattle.jv_meaning_library.proofs.Answers.{KnownType}
use Rattle.jv_meaning_library.proofs.Steps.{each_appended, each_reversed, each_repeated, each_mapped, each_weaker}
use Rattle.jv_meaning_library.proofs.Frames.{AllKnown, KnownFrame, words_known}
use Rattle.jv_meaning_library.proofs.Operands.{if_bound, KnownField, KnownText, values_known, reference_known}
use Rattle.jv_meaning_library.proofs.Rules.{KnownEnvironment}

module _ (known : List ℕ → Bool) where
  -- ---- by words

  each_by_words : (ts : List FrameType) → AllKnown known ts → AllKnown known (flat_map type_by_words ts)
  each_by_words [] h = tt
  each_by_words (t ∷ ts) h = each_appended (KnownType known) (type_by_words t) (flat_map type_by_words ts) (words_known known t h.0) (each_by_words ts h.1)

  expanded_known : (max_locals : ℕ) (entries : List FrameType) → AllKnown known entries → AllKnown known (expanded max_locals entries)
  expanded_known max_locals entries h =
      each_appended (KnownType known) (flat_map type_by_words entries) (replicate (max_locals - words entries) types.Top) (each_by_words entries h)
      (each_repeated (KnownType known) (max_locals - words entries) types.Top tt)

  by_words_known : (max_locals : ℕ) (entries stack : List FrameType) → AllKnown known entries → AllKnown known stack → KnownFrame known (by_words max_locals entries stack)
  by_words_known max_locals entries stack h k = record { locals = expanded_known max_locals entries h; stack = k }

  -- ---- initial entries

  receiver_known : (name : List ℕ) (static init : Bool) → IsTrue (known name) → AllKnown known (receiver_entries name static init)
  receiver_known name true init k = tt
  receiver_known name false init k = (by_test (init && not (bytes_eq name (codes "java/lang/Object"))), tt)
    where
      by_test : (b : Bool) → KnownType known (if b then types.UninitializedThis else types.Class name)
      by_test true = tt
      by_test false = k

  initial_known : (name : List ℕ) (static init : Bool) (parameters : List (FieldTypeOf (List ℕ))) → IsTrue (known name) → AllByRecursion (KnownField known) parameters
      → AllKnown known (initial_entries name static init parameters)
  initial_known name static init parameters k h =
      each_appended (KnownType known) (receiver_entries name static init) (map value_type parameters) (receiver_known name static init k) (values_known known parameters h)

  -- ---- one frame behind another

  record KnownMap (f : MapFrame FrameType) : Type 0 where
    locals : AllKnown known f.locals
    stack : AllKnown known f.stack

  module _ (pool : List Entry) (texts : (index : ℕ) → IfSome (class_name_at pool index) (KnownText known)) where
    item_known : (item : Item) → IfSome (type_of pool item) (KnownType known)
    item_known items.Top = tt
    item_known items.Integer = tt
    item_known items.Long = tt
    item_known items.Null = tt
    item_known items.UninitializedThis = tt
    item_known (items.Object class) = if_bound (KnownText known) (KnownType known) (class_name_at pool class) reference_type (texts class) (reference_known known)
    item_known (items.Uninitialized offset) = tt

    laid_known : (below : List FrameType) (more : List Item) → AllKnown known below → IfSome (laid (type_of pool) below more) (AllKnown known)
    laid_known below [] h = h
    laid_known below (item ∷ more) h =
        if_bound (KnownType known) (AllKnown known) (type_of pool item) (λ entry. laid (type_of pool) (entry ∷ below) more) (item_known item)
        (λ t k. laid_known (t ∷ below) more (k, h))

    chopped_known : (n : ℕ) (entries : List FrameType) → AllKnown known entries → IfSome (chopped n entries) (AllKnown known)
    chopped_known zero entries h = h
    chopped_known (suc n) [] h = tt
    chopped_known (suc n) (entry ∷ below) h = chopped_known n below h.1

    locals_known : (before : List FrameType) (form : MapForm) → AllKnown known before → IfSome (locals_behind (type_of pool) before form) (AllKnown known)
    locals_known before (Chop count delta) h = chopped_known count before h
    locals_known before (Append delta locals) h = laid_known before locals h
    locals_known before (Full delta locals stack) h = laid_known [] locals tt
    locals_known before form h = h

    stack_known : (form : MapForm) → IfSome (stack_in (type_of pool) form) (AllKnown known)
    stack_known (SameItem delta item) = laid_known [] (item ∷ []) tt
    stack_known (SameItemExtended delta item) = laid_known [] (item ∷ []) tt
    stack_known (Full delta locals stack) = laid_known [] stack tt
    stack_known form = tt

    behind_known : (base : ℕ) (before : List FrameType) (form : MapForm) → AllKnown known before → IfSome (frame_behind (type_of pool) base before form) KnownMap
    behind_known base before form h =
        if_bound (AllKnown known) KnownMap (locals_behind (type_of pool) before form) _ (locals_known before form h)
        (λ locals l. if_bound (AllKnown known) KnownMap (stack_in (type_of pool) form) (λ stack. Some (map_frame (base + delta_of form) locals stack)) (stack_known form)
        (λ stack s. record { locals = l; stack = s }))

    tested_known : (test : MapFrame FrameType → Bool) (f : MapFrame FrameType) → KnownMap f → IfSome (frame_if test f) KnownMap
    tested_known test f k = by_test (test f)
      where
        by_test : (b : Bool) → IfSome (if b then Some f else None) KnownMap
        by_test true = k
        by_test false = tt

    frames_known : (test : MapFrame FrameType → Bool) (base : ℕ) (before : List FrameType) (forms : List MapForm) → AllKnown known before
        → IfSome (frames_behind (type_of pool) test base before forms) (AllByRecursion KnownMap)
    frames_known test base before [] h = tt
    frames_known test base before (form ∷ more) h =
        if_bound KnownMap (AllByRecursion KnownMap) (frame_behind (type_of pool) base before form >>= frame_if test) _
        (if_bound KnownMap KnownMap (frame_behind (type_of pool) base before form) (frame_if test) (behind_known base before form h) (tested_known test))
        (λ f k. if_bound (AllByRecursion KnownMap) (AllByRecursion KnownMap) (frames_behind (type_of pool) test (f.offset + 1) f.locals more) (λ fs. Some (f ∷ fs))
        (frames_known test (f.offset + 1) f.locals more k.locals) (λ fs ks. (k, ks)))

  -- ---- a method's

  abbrev pub KnownPlaced : PlacedFrame → Type 0
  KnownPlaced f = KnownFrame known f.frame

  placed_known : (max_locals : ℕ) (f : MapFrame FrameType) → KnownMap f → KnownPlaced (placed_frame max_locals f)
  placed_known max_locals f k = by_words_known max_locals (reverse f.locals) f.stack (each_reversed (KnownType known) f.locals k.locals) k.stack

  module _ (env : Environment) (k : KnownEnvironment known env) where
    before_known : AllKnown known (entries_before env)
    before_known =
        initial_known (current_class env).name (is_static env) (is_init env.site.method.name) env.descriptor.parameters k.names.own k.descriptor.parameters

    pub first_known : KnownFrame known (first_frame env)
    first_known = by_words_known env.code.max_locals (entries_before env) [] before_known tt

    pub maps_known : (o : Option (List ℕ)) (maps : List PlacedFrame) → HasFrames env o maps → AllByRecursion KnownPlaced maps
    maps_known None maps e = subst (AllByRecursion KnownPlaced) (sym e) tt
    maps_known (Some bytes) maps h =
        subst (AllByRecursion KnownPlaced) (sym h.expand)
        (each_mapped KnownPlaced (placed_frame env.code.max_locals) h.entries
        (each_weaker KnownMap (λ f. KnownPlaced (placed_frame env.code.max_locals f)) (placed_known env.code.max_locals) h.entries
        (made h.entries h.made)))
      where
        made : (entries : List (MapFrame FrameType))
            → frames_behind (type_of (current_class env).constant_pool) (is_within (limits_of env)) 0 (reverse (entries_before env)) h.forms ≡ Some entries
            → AllByRecursion KnownMap entries
        made entries e =
            out entries (frames_behind (type_of (current_class env).constant_pool) (is_within (limits_of env)) 0 (reverse (entries_before env)) h.forms) e
            (frames_known (current_class env).constant_pool k.names.texts (is_within (limits_of env)) 0 (reverse (entries_before env)) h.forms
            (each_reversed (KnownType known) (entries_before env) before_known))
          where
            out : (entries : List (MapFrame FrameType)) (o : Option (List (MapFrame FrameType))) → o ≡ Some entries → IfSome o (AllByRecursion KnownMap) → AllByRecursion KnownMap entries
            out entries None f j = absurd cc
            out entries (Some found) f j = subst (AllByRecursion KnownMap) (unsome f) j
              where
                unsome : Some found ≡ Some entries → found ≡ entries
                unsome g = cc
