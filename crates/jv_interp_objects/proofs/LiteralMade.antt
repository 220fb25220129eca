-- String literals on words: what the machine gives stands.
use Rattle.std.proofs.Common.{◌≡◌, ℕ, zero, suc, ◌+◌, ◌-◌, ◌*◌, ◌<◌, ◌≤◌, pos, Bool, true, IsTrue, List, [], ◌∷◌, ◌++◌, Option, Some, None, Ok, map, length, set, sum_by, get_or, slice_get, slice_set, refl, sym, ap, subst, ◌∙◌, arith, append-nil, append_assoc, length-append, if◌then◌else◌}
use Rattle.std.specs.Int.{w32, cast_signed}
use Rattle.std.specs.List.{list_all}
use Rattle.std.proofs.lemmas.Int.{to_z_pos}
use Rattle.std.proofs.lemmas.Bool.{and_parts}
use Rattle.std.proofs.lemmas.List.{length-map}
use Rattle.std.proofs.lemmas.Option.{slice_get-get_or}
use Rattle.std.proofs.Math.Seq.{set-append_seam}
use Rattle.jv_store.specs.Content.{written}
use Rattle.jv_text.specs.declared.descriptor.Base.TheVariants as bases
use Rattle.jv_text.specs.Text.{is_unit, Spells, IsText}
use Rattle.jv_meaning_world.specs.World.{Loaded, World, class_named}
use Rattle.jv_meaning_world.specs.LookUps.{DeclaredField}
use Rattle.jv_meaning_typing.specs.Layout.{instance_fields, field_words, object_words}
use Rattle.jv_meaning_machine.specs.Faults.{OrFault, found, ◌>>=◌}
use Rattle.jv_meaning_machine.specs.Faults.Fault.{OffsetFault, ReferenceFault}
use Rattle.jv_meaning_machine.specs.Values.Value.{Reference}
use Rattle.jv_meaning_machine.specs.Objects.{FieldKey, key_of, same_key, with_value, default_entry, Content, Object, new_instance}
use Rattle.jv_meaning_machine.specs.Objects.Object.{InstanceOf}
use Rattle.jv_meaning_machine.specs.State.{Program, Memory}
use Rattle.jv_meaning_machine.specs.Costs.{paid}
use Rattle.jv_meaning_machine.specs.Initialization.{main_arguments}
use Rattle.jv_meaning_machine.specs.Effects.{out_of_memory}
use Rattle.jv_meaning_machine.specs.Arrays.{base_components}
use Rattle.jv_meaning_machine.specs.Literals.{string_name, string_value, char_of, chars_of, string_with, literal_in, literal_made, literal_cells, literal_or_new}
use Rattle.jv_interp_words.proofs.Gave.{bound_gave, found_gave}
use Rattle.jv_interp_heap.specs.ObjectsInBlocks.{Blocks, AreFields, AreComponents, HasNumber, IsArrayWord, ObjectStands, ObjectsStand}
use Rattle.jv_interp_heap.proofs.Grown.{get_more, fields_grown}
use Rattle.jv_interp_heap.proofs.Joined.{within, object_joined}
use Rattle.jv_interp_heap.proofs.Changed.{Changes, word_written, object_changed}
use Rattle.jv_interp_heap.proofs.NewObjects.{instance_joined}
use Rattle.jv_interp_held.specs.declared.held.Held.{Held}
use Rattle.jv_interp_held.specs.HeldInWords.{static_fields, IsLiteral, AreLiterals, MemoryStands}
use Rattle.jv_interp_held.specs.Growing.{Grows}
use Rattle.jv_interp_heap.proofs.Numbered.{system_numbers}
use Rattle.jv_interp_objects.specs.Payments.{IsLacking}
use Rattle.jv_interp_objects.specs.Exceptions.{GivesObject}
use Rattle.jv_interp_objects.specs.TextBlocks.{TextJoins, text_cost, TextPaid}
use Rattle.jv_interp_objects.specs.Literals.{FindingLiteral, LiteralGiven}
use Rattle.jv_interp_held.proofs.Growths.{changed_grows, grows_not, joined_grows, then_grows}
use Rattle.jv_interp_objects.proofs.More.{last_place}
use Rattle.jv_interp_objects.proofs.Went.{paid_lacks, paid_left}
use Rattle.jv_interp_objects.proofs.Noted.{noted}
use Rattle.jv_interp_objects.proofs.StringClass.{HoldsChars, holds_chars, same_value}
use Rattle.jv_interp_objects.proofs.TextJoined.{string_words}
use Rattle.jv_interp_objects.proofs.Spelled.{unit_fits}
use Rattle.jv_interp_objects.proofs.Filled.{few_units}

-- ---- chars

pub chars_stand : (addresses units : List ℕ) → IsTrue (list_all is_unit units) → AreComponents addresses (base_components bases.Char) (map char_of units) units
chars_stand addresses [] h = refl
chars_stand addresses (unit ∷ units) h =
    let parts = and_parts (is_unit unit) (list_all is_unit units) h in
    let fits = unit_fits unit parts.0 in
    let is : pos unit ≡ cast_signed w32 unit = sym (to_z_pos w32 unit (omega (arith, fits))) in
    (unit ∷ [], units, refl, refl, (unit, refl, is), chars_stand addresses units parts.1)

-- ---- a String that has its chars

pub fields_with : (world : World) (l : Loaded) (h : HoldsChars world l) (constructed : Bool) (chars : ℕ) → with_value string_value (Reference chars)
    (new_instance world constructed l).fields ≡ (key_of h.field, Reference chars) ∷ []
fields_with world l h constructed chars =
    let known : same_key string_value (key_of h.field) ≡ true =
    subst (λ (k : FieldKey). same_key string_value k ≡ true) (sym h.key) same_value in
    ap (λ (fields : List DeclaredField). with_value string_value (Reference chars) (map default_entry fields)) h.fields
    ∙ ap (λ (b : Bool). if b then (key_of h.field, Reference chars) ∷ [] else default_entry h.field ∷ []) known

chars_word : (world : World) → IsArrayWord world (base_components bases.Char) 2147483649
chars_word world =
    record { element = 1; element_is = refl; few_elements = omega arith; few_dimensions = omega arith; is = refl }

any_default : (all : List ℕ) (k a b : ℕ) → k < length all → get_or all k a ≡ get_or all k b
any_default [] k a b h = absurd (omega (arith, h))
any_default (x ∷ all) zero a b h = refl
any_default (x ∷ all) (suc k) a b h = any_default all k a b (omega (arith, h))

same_ok : (a b : Option (Memory × ℕ)) → ◌≡◌ {A = OrFault (Option (Memory × ℕ))} (Ok a) (Ok b) → b ≡ a
same_ok a b e = cc

module _ (number : ℕ) (text : List ℕ) (held : Held) (before : Blocks) (texts : List (List ℕ)) (program : Program) (memory : Memory) (addresses : List ℕ) (made : Option (Memory × ℕ))
    (h : FindingLiteral number text held before texts program memory addresses made) where
  pub kept_length : number < length held.literals.items
  kept_length = let a = within texts number text h.number_is in let b = h.stands.literals.count in omega (arith, a, b)

  abbrev kept : ℕ
  kept = get_or held.literals.items number 0

  there : slice_get held.literals.items number ≡ Some kept
  there = slice_get-get_or held.literals.items number 0 kept_length

  is_literal : IsLiteral addresses (literal_in text memory.literals) kept
  is_literal = h.stands.literals.each number text kept h.number_is there

  pub kept_is : (word : ℕ) → word ≡ get_or held.literals.items number word → word ≡ kept
  kept_is word e = e ∙ any_default held.literals.items number word 0 kept_length

  -- ---- it has an object

  pub known : (kept ≡ 0 → ⊥) → LiteralGiven program.world texts addresses held before made held before (Some kept)
  known some = by_literal (literal_in text memory.literals) refl is_literal
    where
      by_literal :
          (o : Option ℕ) → literal_in text memory.literals ≡ o → IsLiteral addresses o kept
          → LiteralGiven program.world texts addresses held before made held before (Some kept)
      by_literal None e l = absurd (some l)
      by_literal (Some object) e l =
          let is : made ≡ Some (memory, object) =
          same_ok (Some (memory, object)) made (sym (ap (literal_or_new program text memory) e) ∙ h.does) in
          subst (λ (m : Option (Memory × ℕ)). LiteralGiven program.world texts addresses held before m held before (Some kept)) (sym is)
          (record {
            more = [];
            stands = subst (λ (a : List ℕ). slice_get a object ≡ Some kept) (sym (append-nil addresses)) l;
            memory = subst (λ (a : List ℕ). MemoryStands program.world texts memory a held before) (sym (append-nil addresses)) h.stands;
            grows = grows_not addresses before;
          })

  -- ---- it has none

  pub record Making : Type 0 where
    pub l : Loaded
    pub named : class_named program.world string_name ≡ Some l
    pub units : List ℕ
    pub spelled : program.units text ≡ Some units
    pub is : made ≡ literal_made program l text units (paid (literal_cells program l units) memory)

  pub making : kept ≡ 0 → Making
  making zero_is =
      let none = by_literal (literal_in text memory.literals) refl is_literal in
      let does : literal_or_new program text memory None ≡ Ok made = sym (ap (literal_or_new program text memory) none) ∙ h.does in
      let l =
      bound_gave (found ReferenceFault (class_named program.world string_name))
      (λ (l : Loaded). found OffsetFault (program.units text) >>= λ units. Ok (literal_made program l text units (paid (literal_cells program l units) memory)))
      made does in
      let units =
      bound_gave (found OffsetFault (program.units text))
      (λ (units : List ℕ). Ok (literal_made program l.0 text units (paid (literal_cells program l.0 units) memory))) made l.2 in
      record {
        l = l.0;
        named = found_gave ReferenceFault (class_named program.world string_name) l.0 l.1;
        units = units.0;
        spelled = found_gave OffsetFault (program.units text) units.0 units.1;
        is = same_ok (literal_made program l.0 text units.0 (paid (literal_cells program l.0 units.0) memory)) made units.2;
      }
    where
      by_literal : (o : Option ℕ) → literal_in text memory.literals ≡ o → IsLiteral addresses o kept → literal_in text memory.literals ≡ None
      by_literal None e l = e
      by_literal (Some object) e l = absurd (h.stands.objects.are.not_null object (l ∙ ap Some zero_is))

  pub spells : (m : Making) → Spells m.units text
  spells m = (h.units text m.units).0 m.spelled

  pub is_text : kept ≡ 0 → IsText text
  is_text zero_is = let m = making zero_is in (m.units, spells m)

  holds : (m : Making) → HoldsChars program.world m.l
  holds m =
      subst (λ (w : World). class_named w string_name ≡ Some m.l → HoldsChars w m.l) (sym h.guests.world_is) (holds_chars h.guests.given h.guests.contents m.l) m.named

  one_word : (m : Making) → object_words program.world m.l ≡ 1
  one_word m =
      let k = holds m in
      ap (λ (fields : List DeclaredField). sum_by field_words fields) k.fields ∙ zero_more (field_words k.field) k.words
    where
      zero_more : (n : ℕ) → n ≡ 1 → 0 + n ≡ 1
      zero_more n e = omega (arith, e)

  cost_is : (m : Making) → literal_cells program m.l m.units ≡ text_cost m.units
  cost_is m =
      let one = one_word m in
      let each : length m.units * 1 ≡ length m.units = omega arith in
      omega (arith, one, each)

  pub lacking :
      (cells : ℕ) (after : Blocks) → kept ≡ 0 → ((units : List ℕ) → Spells units text → IsLacking (text_cost units) held.cells cells before after)
      → LiteralGiven program.world texts addresses held before made held after None
  lacking cells after zero_is all =
      let m = making zero_is in
      let lacks = all m.units (spells m) in
      let fewer : memory.cells < literal_cells program m.l m.units = let a = h.stands.cells in let b = lacks.lacks in let e = cost_is m in omega (arith, a, b, e) in
      let is : made ≡ None = m.is ∙ ap (literal_made program m.l text m.units) (paid_lacks (literal_cells program m.l m.units) memory fewer) in
      subst (λ (o : Option (Memory × ℕ)). LiteralGiven program.world texts addresses held before o held after None) (sym is)
      (record { same_held = refl; same = lacks.same })

  -- ---- a new one

  module _ (zero_is : kept ≡ 0) (cells : ℕ) (after : Blocks) (string : ℕ)
      (all : (units : List ℕ) → Spells units text → TextPaid units held.cells cells before after string) where
    m : Making
    m = making zero_is

    p : TextPaid m.units held.cells cells before after string
    p = all m.units (spells m)

    j : TextJoins m.units before after string
    j = p.joins

    abbrev cost : ℕ
    cost = literal_cells program m.l m.units

    abbrev next : ℕ
    next = length memory.objects

    abbrev first_object : Object
    first_object = InstanceOf (new_instance program.world true m.l)

    abbrev with_string : List ℕ
    with_string = addresses ++ string ∷ []

    abbrev with_both : List ℕ
    with_both = with_string ++ j.chars ∷ []

    -- the String's class
    string_number : HasNumber program.world string_name 3
    string_number = subst (λ (w : World). HasNumber w string_name 3) (sym h.guests.world_is) (system_numbers h.guests.given h.guests.contents).string

    one_class : (a b : Loaded) → Some a ≡ Some b → a ≡ b
    one_class a b e = cc

    class_named_so : class_named program.world m.l.class.name ≡ Some m.l
    class_named_so = subst (λ (n : List ℕ). class_named program.world n ≡ Some m.l) (sym (holds m).called) m.named

    class_at : slice_get program.world 3 ≡ Some m.l
    class_at = string_number.at ∙ ap Some (one_class string_number.l m.l (sym string_number.named ∙ m.named))

    abbrev class : HasNumber program.world m.l.class.name 3
    class = record { l = m.l; named = class_named_so; at = class_at }

    three : 3 < 2147483648
    three = omega arith

    -- the String with its first fields, and then the chars
    string_stands : ObjectsStand program.world (memory.objects ++ first_object ∷ []) with_string j.between
    string_stands =
        instance_joined program.world memory.objects addresses before j.between true m.l 3 string 1 h.stands.objects class refl three (one_word m) j.string_joins

    chars_stand_there : length text < 2147483648 → ObjectStands program.world with_both (chars_of m.units) (2147483649 ∷ length m.units ∷ m.units)
    chars_stand_there few = record {
      word = 2147483649;
      type = chars_word program.world;
      few =
          let size = length-map m.units char_of in
          let fewer = few_units m.units text (spells m) in
          omega (arith, size, fewer, few);
      inside = m.units;
      words_are = ap (λ (n : ℕ). 2147483649 ∷ n ∷ m.units) (sym (length-map m.units char_of));
      stand = chars_stand with_both m.units (spells m).fit;
    }

    both_stand : length text < 2147483648 → ObjectsStand program.world ((memory.objects ++ first_object ∷ []) ++ chars_of m.units ∷ []) with_both j.filled
    both_stand few =
        object_joined program.world (memory.objects ++ first_object ∷ []) with_string j.between j.filled (chars_of m.units) j.chars
        (2147483649 ∷ length m.units ∷ m.units) string_stands j.chars_join.above j.chars_join.joins (chars_stand_there few)

    -- and then the String with its chars
    string_at : slice_get with_both next ≡ Some string
    string_at = get_more with_string (j.chars ∷ []) next string (last_place addresses string next h.stands.objects.count)

    chars_at : slice_get with_both (next + 1) ≡ Some j.chars
    chars_at =
        last_place with_string j.chars (next + 1) (let e = h.stands.objects.count in omega (arith, e, length-append addresses (string ∷ [])))

    string_there : slice_get ((memory.objects ++ first_object ∷ []) ++ chars_of m.units ∷ []) next ≡ Some first_object
    string_there = get_more (memory.objects ++ first_object ∷ []) (chars_of m.units ∷ []) next first_object (last_place memory.objects first_object next refl)

    string_changes : Changes string (3 ∷ j.chars ∷ []) j.filled after
    string_changes =
        let words = string_words (2147483649 ∷ length m.units ∷ m.units) before j.between j.filled string j.chars j.string_joins j.chars_join in
        subst (λ (b : Blocks). Changes string (3 ∷ j.chars ∷ []) j.filled b) (sym j.linked)
        (subst (λ (w : List ℕ). Changes string (set w 1 j.chars) j.filled (written j.filled string 1 j.chars)) words
        (word_written j.filled string 1 j.chars))

    linked_stands : ObjectStands program.world with_both (string_with program m.l (next + 1)) (3 ∷ j.chars ∷ [])
    linked_stands =
        let k = holds m in
        record {
          number = 3;
          class = class;
          few = three;
          fields = j.chars ∷ [];
          words_are = refl;
          stand =
              subst (λ (content : Content). AreFields with_both (instance_fields program.world m.l) content (j.chars ∷ []))
              (sym (fields_with program.world m.l k true (next + 1)))
              (subst (λ (fields : List DeclaredField). AreFields with_both fields ((key_of k.field, Reference (next + 1)) ∷ []) (j.chars ∷ []))
              (sym k.fields) (j.chars ∷ [], [], refl, refl, sym k.words, (j.chars, refl, chars_at), refl));
        }

    objects_are :
        slice_set ((memory.objects ++ first_object ∷ []) ++ chars_of m.units ∷ []) next (string_with program m.l (next + 1))
        ≡ memory.objects ++ string_with program m.l (next + 1) ∷ chars_of m.units ∷ []
    objects_are =
        ap (λ (l : List Object). slice_set l next (string_with program m.l (next + 1))) (append_assoc memory.objects (first_object ∷ []) (chars_of m.units ∷ []))
        ∙ set-append_seam memory.objects first_object (chars_of m.units ∷ []) (string_with program m.l (next + 1))

    stand : length text < 2147483648 → ObjectsStand program.world (memory.objects ++ string_with program m.l (next + 1) ∷ chars_of m.units ∷ []) (addresses ++ string ∷ j.chars ∷ []) after
    stand few =
        subst (λ (a : List ℕ). ObjectsStand program.world (memory.objects ++ string_with program m.l (next + 1) ∷ chars_of m.units ∷ []) a after)
        (append_assoc addresses (string ∷ []) (j.chars ∷ []))
        (subst (λ (objects : List Object). ObjectsStand program.world objects with_both after) objects_are
        (object_changed program.world ((memory.objects ++ first_object ∷ []) ++ chars_of m.units ∷ []) with_both j.filled after next string first_object
        (string_with program m.l (next + 1)) (3 ∷ j.chars ∷ []) (both_stand few) string_at string_there string_changes linked_stands))

    grows : Grows addresses (string ∷ j.chars ∷ []) before after
    grows =
        let two =
        then_grows addresses (string ∷ []) (j.chars ∷ []) before j.between j.filled (joined_grows addresses (3 ∷ 0 ∷ []) before j.between string j.string_joins)
        (joined_grows with_string (2147483649 ∷ length m.units ∷ m.units) j.between j.filled j.chars j.chars_join) in
        let at = subst (λ (a : List ℕ). slice_get a next ≡ Some string) (append_assoc addresses (string ∷ []) (j.chars ∷ [])) string_at in
        then_grows addresses (string ∷ j.chars ∷ []) [] before j.filled after two
        (changed_grows (addresses ++ string ∷ j.chars ∷ []) (3 ∷ j.chars ∷ []) next string j.filled after at string_changes)

    abbrev memory_after : Memory
    memory_after = record memory {
      objects = memory.objects ++ string_with program m.l (next + 1) ∷ chars_of m.units ∷ [];
      literals = (text, next) ∷ memory.literals;
      cells = memory.cells - cost;
    }

    made_is : made ≡ Some (memory_after, next)
    made_is =
        let enough : cost ≤ memory.cells = let a = h.stands.cells in let b = p.paid in let e = cost_is m in omega (arith, a, b, e) in
        m.is ∙ ap (literal_made program m.l text m.units) (paid_left cost memory enough)

    pub given :
        (held_after : Held) → length text < 2147483648 → held_after ≡ record held { literals = held_after.literals; cells = cells }
        → held_after.literals.items ≡ set held.literals.items number string
        → LiteralGiven program.world texts addresses held before made held_after after (Some string)
    given held_after few same literals_are =
        let more = string ∷ j.chars ∷ [] in
        let at : slice_get (addresses ++ more) next ≡ Some string =
        subst (λ (a : List ℕ). slice_get a next ≡ Some string) (append_assoc addresses (string ∷ []) (j.chars ∷ [])) string_at in
        let stands : MemoryStands program.world texts memory_after (addresses ++ more) (record held { literals = held_after.literals; cells = cells }) after =
        record {
          objects = stand few;
          statics = fields_grown addresses more (static_fields program.world) memory.statics held.statics.items h.stands.statics;
          literals =
              subst (λ (kept : List ℕ). AreLiterals texts (addresses ++ more) ((text, next) ∷ memory.literals) kept) (sym literals_are)
              (noted texts addresses more memory.literals held.literals.items number text next kept string h.stands.literals h.number_is there at);
          error_stands = get_more addresses more out_of_memory held.out_of_memory h.stands.error_stands;
          arguments_stand = get_more addresses more main_arguments held.arguments h.stands.arguments_stand;
          cells = let a = h.stands.cells in let b = p.paid in let e = cost_is m in omega (arith, a, b, e);
          output_left = h.stands.output_left;
          output = h.stands.output;
          output_room = h.stands.output_room;
          read_within = h.stands.read_within;
          input = h.stands.input;
        } in
        subst (λ (o : Option (Memory × ℕ)). LiteralGiven program.world texts addresses held before o held_after after (Some string)) (sym made_is)
        (subst (λ (x : Held). GivesObject program.world texts addresses before (memory_after, next) x after string) (sym same)
        (record { more = more; stands = at; memory = stands; grows = grows }))
