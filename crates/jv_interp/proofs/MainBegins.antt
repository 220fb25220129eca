-- What a guest holds at its start stands.
use Rattle.std.proofs.Common.{◌≡◌, ℕ, zero, suc, true, ◌+◌, ◌*◌, ◌≤◌, List, [], ◌∷◌, ◌++◌, Some, codes, map, filter, length, replicate, slice_get, sum_by, drop, refl, sym, ap, subst, ◌∙◌, arith}
use Rattle.std.specs.Prelude.{vec_capacity}
use Rattle.std.specs.List.{flat_map}
use Rattle.std.proofs.lemmas.List.{length-replicate, map-append}
use Rattle.std.proofs.lemmas.List.Concat.{flat_map-cons}
use Rattle.jv_stackmap.specs.Types.{value_type, width}
use Rattle.jv_text.specs.Descriptor.{field_slots}
use Rattle.jv_class.specs.Class.{Class}
use Rattle.jv_meaning_world.specs.FileContent.{FileContent}
use Rattle.jv_meaning_world.specs.Library.{with_library}
use Rattle.jv_meaning_world.specs.World.{Loaded, World, class_named, world_of}
use Rattle.jv_meaning_world.specs.LookUps.{DeclaredField, field_by}
use Rattle.jv_meaning_typing.specs.Kind.{is_static_field}
use Rattle.jv_meaning_typing.specs.Layout.{field_words, object_words}
use Rattle.jv_meaning_typing.specs.Named.{class_components}
use Rattle.jv_meaning_machine.specs.Objects.{Content, default_entry, made_object, new_array}
use Rattle.jv_meaning_machine.specs.Literals.{string_name}
use Rattle.jv_meaning_machine.specs.Start.{static_entries, start_cells}
use Rattle.jv_interp_heap.specs.ObjectsInBlocks.{Blocks, AreFields, HasNumber, IsArrayWord, ObjectsStand}
use Rattle.jv_interp_heap.specs.NewBlocks.{Joins}
use Rattle.jv_interp_heap.proofs.NewObjects.{fields_begin, instance_joined, array_joined}
use Rattle.jv_interp_held.specs.declared.held.Held.{Held}
use Rattle.jv_interp_held.specs.HeldInWords.{own_static_fields, static_fields, AreLiterals}
use Rattle.jv_interp_held.specs.Growing.{Grows}
use Rattle.jv_interp_held.proofs.Growths.{joined_grows, then_grows}
use Rattle.jv_interp.specs.Starting.{BothJoin, Differ, Starts}

-- ---- the two classes

pub record Known (world : World) (l : Loaded) : Type 0 where
  pub named : class_named world (codes "java/lang/OutOfMemoryError") ≡ Some l
  pub own : HasNumber world l.class.name 20
  pub own_is : own.l ≡ l
  pub size : object_words world l ≡ 1
  pub string : HasNumber world string_name 3

same_some : (a b : Loaded) → Some a ≡ Some b → a ≡ b
same_some a b e = cc

known : (given : List Class) (contents : List FileContent) → (l : Loaded) × Known (world_of (with_library given) contents) l
known [] contents = (
  _,
  record {
    named = refl;
    own = record { l = _; named = refl; at = refl };
    own_is = refl;
    size = refl;
    string = record { l = _; named = refl; at = refl };
  },
)
known (c ∷ given) contents = (
  _,
  record {
    named = refl;
    own = record { l = _; named = refl; at = refl };
    own_is = refl;
    size = refl;
    string = record { l = _; named = refl; at = refl };
  },
)

pub known_in :
    (world : World) (given : List Class) (contents : List FileContent) (error : Loaded) → world ≡ world_of (with_library given) contents
    → class_named world (codes "java/lang/OutOfMemoryError") ≡ Some error → Known world error
known_in world given contents error is named =
    subst (λ (w : World). class_named w (codes "java/lang/OutOfMemoryError") ≡ Some error → Known w error) (sym is)
    (λ e. let k = known given contents in subst (λ (l : Loaded). Known (world_of (with_library given) contents) l) (same_some k.0 error (sym k.1.named ∙ e)) k.1)
    named

-- ---- objects

pub none_stand : (world : World) (blocks : Blocks) → ObjectsStand world [] [] blocks
none_stand world blocks = record {
  count = refl;
  are = record { apart = λ id other a e f. absurd cc; not_null = λ id e. absurd cc };
  held = λ id a e. absurd cc;
  each = λ id a o e f. absurd cc;
}

strings_word : (world : World) → HasNumber world string_name 3 → IsArrayWord world (class_components string_name) 2147483659
strings_word world string = record {
  element = 11;
  element_is = (3, string, refl);
  few_elements = omega arith;
  few_dimensions = omega arith;
  is = refl;
}

none_behind : (slots : ℕ) → replicate {A = ℕ} (0 * slots) 0 ≡ []
none_behind slots = let none : 0 * slots ≡ 0 = omega arith in ap (λ (n : ℕ). replicate {A = ℕ} n 0) none

pub both_stand :
    (world : World) (l : Loaded) (error strings : ℕ) (before after : Blocks) → Known world l → BothJoin error strings before after
    → ObjectsStand world (made_object world l ∷ new_array (class_components string_name) 0 ∷ []) (error ∷ strings ∷ []) after
both_stand world l error strings before after k both =
    let first =
    instance_joined world [] [] before both.between true l 20 error 1 (none_stand world before) k.own k.own_is (omega arith) k.size both.error_joins in
    array_joined world (made_object world l ∷ []) (error ∷ []) both.between after (class_components string_name) 2147483659 0 strings first
    (strings_word world k.string) (omega arith)
    (subst (λ (w : List ℕ). Joins (2147483659 ∷ 0 ∷ w) both.between after strings) (sym (none_behind (width (value_type (class_components string_name))))) both.strings_join)

pub both_grow :
    (error strings : ℕ) (before after : Blocks) → BothJoin error strings before after → Grows [] (error ∷ strings ∷ []) before after
both_grow error strings before after both =
    then_grows [] (error ∷ []) (strings ∷ []) before both.between after (joined_grows [] (20 ∷ 0 ∷ []) before both.between error both.error_joins)
    (joined_grows (error ∷ []) (2147483659 ∷ 0 ∷ []) both.between after strings both.strings_join)

-- ---- static fields

map_twice : {A B C : Type 0} (f : B → C) (g : A → B) (xs : List A) → map f (map g xs) ≡ map (λ x. f (g x)) xs
map_twice f g [] = refl
map_twice f g (x ∷ xs) = ap (λ ys. f (g x) ∷ ys) (map_twice f g xs)

entries_are : (classes : List Loaded) → map default_entry (flat_map own_static_fields classes) ≡ flat_map static_entries classes
entries_are [] = refl
entries_are (l ∷ more) =
    ap (λ (ds : List DeclaredField). map default_entry ds) (flat_map-cons own_static_fields l more)
    ∙ map-append default_entry (own_static_fields l) (flat_map own_static_fields more)
    ∙ ap (λ (c : Content). c ++ map default_entry (flat_map own_static_fields more)) (map_twice default_entry (field_by l) (filter is_static_field l.class.fields))
    ∙ ap (λ (c : Content). static_entries l ++ c) (entries_are more) ∙ sym (flat_map-cons static_entries l more)

pub statics_begin :
    (world : World) (addresses words : List ℕ) (count : ℕ) → sum_by field_words (static_fields world) ≡ count → words ≡ replicate count 0
    → AreFields addresses (static_fields world) (flat_map static_entries world) words
statics_begin world addresses words count size zeros =
    subst (λ (c : Content). AreFields addresses (static_fields world) c words) (entries_are world)
    (subst (λ (w : List ℕ). AreFields addresses (static_fields world) (map default_entry (static_fields world)) w)
    (ap (λ (n : ℕ). replicate {A = ℕ} n 0) size ∙ sym zeros) (fields_begin addresses (static_fields world)))

-- ---- literals

zero_there : (n k a : ℕ) → slice_get (replicate {A = ℕ} n 0) k ≡ Some a → a ≡ 0
zero_there zero k a e = absurd cc
zero_there (suc n) zero a e = cc
zero_there (suc n) (suc k) a e = zero_there n k a e

pub literals_begin :
    (texts : List (List ℕ)) (addresses kept : List ℕ) (count : ℕ) → length texts ≡ count → kept ≡ replicate count 0 → Differ texts
    → AreLiterals texts addresses [] kept
literals_begin texts addresses kept count texts_count zeros differ = record {
  count = ap (λ (l : List ℕ). length l) zeros ∙ length-replicate {A = ℕ} count 0 ∙ sym texts_count;
  each = λ number text address e f. zero_there count number address (subst (λ (l : List ℕ). slice_get l number ≡ Some address) zeros f);
  differ = differ;
  among = λ text object e. absurd cc;
}

-- ---- all of it

cost_is : (world : World) (error : Loaded) → object_words world error ≡ 1 → start_cells world error ≡ 4
cost_is world error size =
    let none : 0 * field_slots (class_components string_name) ≡ 0 = omega arith in
    let words : start_cells world error ≡ (1 + object_words world error) + (2 + 0 * field_slots (class_components string_name)) = refl in
    omega (arith, none, words, size)

module _ (static_words literal_count cells output : ℕ) (input : List ℕ) (before after : Blocks) (held : Held) where
  pub begins :
      BothJoin held.out_of_memory held.arguments before after → held.statics.items ≡ replicate static_words 0
      → held.literals.items ≡ replicate literal_count 0 → held.cells + 4 ≡ cells → held.output_left ≡ output → held.output.items ≡ []
      → length held.output.items + held.output_left ≤ vec_capacity held.output
      → held.input.items ≡ input → held.read ≡ 0 → Starts static_words literal_count input cells output after held
  begins both statics literals paid left none room waits unread world texts budget error h =
      let k = known_in world h.guests.given h.guests.contents error h.guests.world_is h.error_named in
      let addresses = held.out_of_memory ∷ held.arguments ∷ [] in
      record {
        objects = both_stand world error held.out_of_memory held.arguments before after k both;
        statics = statics_begin world addresses held.statics.items static_words h.statics statics;
        literals = literals_begin texts addresses held.literals.items literal_count h.count literals h.differ;
        error_stands = refl;
        arguments_stand = refl;
        cells = let cost = cost_is world error k.size in let are = h.cells_are in omega (arith, cost, are, paid);
        output_left = h.output_is ∙ sym left;
        output = sym none;
        output_room = room;
        read_within = omega (arith, unread);
        input = sym (subst (λ (n : ℕ). ◌≡◌ {A = List ℕ} (drop n held.input.items) input) (sym unread) waits);
      }
