-- What an index names of a pool to which constants were added.
use Rattle.std.proofs.Common.{◌≡◌, ℕ, List, ◌++◌, Option, Some, None, ap, ◌∙◌, append_assoc, arith}
use Rattle.std.specs.Prelude.{zero, suc, slice_get}
use Rattle.std.proofs.lemmas.Option.{same_Some}
use Rattle.std.proofs.lemmas.Grind.{flat_map-append}
use Rattle.jv_pool.specs.declared.constant.Constant.TheVariants.{Utf8, Class, String, Fieldref, Methodref, InterfaceMethodref, NameAndType}
use Rattle.jv_pool.specs.Constants.{Entry, entries_of, table_of, usable, at_index, utf8_in, utf8_at, class_name_in, class_name_at, string_in, string_at, named_at, name_and_descriptor, name_and_type_in, name_and_type_at, member_of, member_at, field_reference_in, method_reference_in, interface_method_reference_in}
use Rattle.jv_format.specs.Format.{◌>>=◌}
use Rattle.jv_asm_builder.specs.Added.{IsAdded, IsNamedAdded, IsNameAndTypeAdded, IsMemberNamed, IsGrownPool}
use Rattle.jv_asm_builder.specs.Law.{reference, IndicesName}
use Rattle.jv_asm_builder.proofs.Pooled.{front_get, within}
use Rattle.jv_asm_builder.proofs.Joined.{grown_pool}

kept : (old new : List Entry) (index : ℕ) (c : Entry) → IsGrownPool old new → at_index old index ≡ Some c → at_index new index ≡ Some c
kept old new zero c g e = absurd cc
kept old new (suc n) c g e =
    let lt = within old c (suc n) e in
    ap (λ p. at_index p (suc n)) g.1 ∙ ap (λ t. usable (slice_get t n)) (flat_map-append entries_of old g.0)
    ∙ ap usable (front_get (table_of old) (table_of g.0) n (omega arith)) ∙ e

-- the text that was added first is there when another constant has joined
stays : (old : List Entry) (c : Entry) (new : List Entry) (index i : ℕ) (d : Entry) → IsAdded old c new index → at_index old i ≡ Some d → at_index new i ≡ Some d
stays old c new index i d h e = kept old new i d (grown_pool old c new index h) e

text : (old new : List Entry) (t : List ℕ) (index : ℕ) → IsAdded old (Utf8 t) new index → utf8_at new index ≡ Some t
text old new t index h = ap utf8_in h.here.here

class : (old new : List Entry) (name : List ℕ) (index : ℕ) → IsNamedAdded Class old name new index → class_name_at new index ≡ Some name
class old new name index h =
    ap (class_name_in new) h.added.here.here
    ∙ ap utf8_in (stays h.between (Class h.name_index) new index h.name_index (Utf8 name) h.added h.name_added.here.here)

string : (old new : List Entry) (t : List ℕ) (index : ℕ) → IsNamedAdded String old t new index → string_at new index ≡ Some t
string old new t index h =
    ap (string_in new) h.added.here.here
    ∙ ap utf8_in (stays h.between (String h.name_index) new index h.name_index (Utf8 t) h.added h.name_added.here.here)

names : (new : List Entry) (i j : ℕ) (name descriptor : List ℕ) → utf8_at new i ≡ Some name → utf8_at new j ≡ Some descriptor → named_at new i j ≡ Some (name_and_descriptor name descriptor)
names new i j name descriptor e f =
    ap (λ o. o >>= λ n. utf8_at new j >>= λ d. Some (name_and_descriptor n d)) e ∙ ap (λ o. o >>= λ d. Some (name_and_descriptor name d)) f

name_and_type : (old new : List Entry) (name descriptor : List ℕ) (index : ℕ) → IsNameAndTypeAdded old name descriptor new index
    → name_and_type_at new index ≡ Some (name_and_descriptor name descriptor)
name_and_type old new name descriptor index h =
    let t = h.texts_added in
    let first = stays t.between (Utf8 descriptor) h.between h.descriptor_index h.name_index (Utf8 name) t.second_added t.first_added.here.here in
    let c = NameAndType h.name_index h.descriptor_index in
    ap (name_and_type_in new) h.added.here.here
    ∙ names new h.name_index h.descriptor_index name descriptor
    (ap utf8_in (stays h.between c new index h.name_index (Utf8 name) h.added first))
    (ap utf8_in (stays h.between c new index h.descriptor_index (Utf8 descriptor) h.added t.second_added.here.here))

-- ---- members

-- growth over several steps
both : (a b c : List Entry) → IsGrownPool a b → IsGrownPool b c → IsGrownPool a c
both a b c g h = (g.0 ++ h.0, h.1 ∙ ap (λ x. x ++ h.0) g.1 ∙ append_assoc a g.0 h.0)

name_and_type_grows : (old new : List Entry) (name descriptor : List ℕ) (index : ℕ) → IsNameAndTypeAdded old name descriptor new index → IsGrownPool old new
name_and_type_grows old new name descriptor index h =
    let t = h.texts_added in
    both old h.between new
    (both old t.between h.between (grown_pool old (Utf8 name) t.between h.name_index t.first_added) (grown_pool t.between (Utf8 descriptor) h.between h.descriptor_index t.second_added))
    (grown_pool h.between (NameAndType h.name_index h.descriptor_index) new index h.added)

-- what names a class or a member goes on to do so
some_text : (pool : List Entry) (o : Option Entry) (t : List ℕ) → utf8_in o ≡ Some t → o ≡ Some (Utf8 t)
some_text pool None t e = absurd cc
some_text pool (Some (Utf8 s)) t e = ap (λ x. Some (Utf8 x)) (same_Some s t e)
some_text pool (Some c) t e = absurd cc

text_kept : (old new : List Entry) (i : ℕ) (t : List ℕ) → IsGrownPool old new → utf8_at old i ≡ Some t → utf8_at new i ≡ Some t
text_kept old new i t g e = ap utf8_in (kept old new i (Utf8 t) g (some_text old (at_index old i) t e))

class_kept : (old new : List Entry) (i n : ℕ) (t : List ℕ) → IsGrownPool old new → at_index old i ≡ Some (Class n) → utf8_at old n ≡ Some t → class_name_at new i ≡ Some t
class_kept old new i n t g e f = ap (class_name_in new) (kept old new i (Class n) g e) ∙ text_kept old new n t g f

member : (old mid new : List Entry) (class_name name descriptor : List ℕ) (i j : ℕ) → IsMemberNamed old class_name name descriptor mid i j → IsGrownPool mid new
    → member_at new i j ≡ Some (reference class_name name descriptor)
member old mid new class_name name descriptor i j h g =
    let c = h.class_added in
    let m = h.member_added in
    let all = both h.between mid new (name_and_type_grows h.between mid name descriptor j m) g in
    let class_is : class_name_at new i ≡ Some class_name =
    class_kept h.between new i c.name_index class_name all c.added.here.here
    (ap utf8_in (stays c.between (Class c.name_index) h.between i c.name_index (Utf8 class_name) c.added c.name_added.here.here)) in
    let member_is : name_and_type_at new j ≡ Some (name_and_descriptor name descriptor) =
    member_kept mid new j m.name_index m.descriptor_index name descriptor g m.added.here.here (names_in h.between mid name descriptor j m) in
    ap (λ o. o >>= λ c. name_and_type_at new j >>= λ m. Some (member_of c m)) class_is ∙ ap (λ o. o >>= λ m. Some (member_of class_name m)) member_is
  where
    names_in : (old mid : List Entry) (name descriptor : List ℕ) (j : ℕ) (m : IsNameAndTypeAdded old name descriptor mid j)
        → (utf8_at mid m.name_index ≡ Some name) × (utf8_at mid m.descriptor_index ≡ Some descriptor)
    names_in old mid name descriptor j m =
        let t = m.texts_added in
        let first = stays t.between (Utf8 descriptor) m.between m.descriptor_index m.name_index (Utf8 name) t.second_added t.first_added.here.here in
        let c = NameAndType m.name_index m.descriptor_index in (
          ap utf8_in (stays m.between c mid j m.name_index (Utf8 name) m.added first),
          ap utf8_in (stays m.between c mid j m.descriptor_index (Utf8 descriptor) m.added t.second_added.here.here),
        )

    member_kept : (mid new : List Entry) (j n d : ℕ) (name descriptor : List ℕ) → IsGrownPool mid new → at_index mid j ≡ Some (NameAndType n d)
        → (utf8_at mid n ≡ Some name) × (utf8_at mid d ≡ Some descriptor) → name_and_type_at new j ≡ Some (name_and_descriptor name descriptor)
    member_kept mid new j n d name descriptor g e both =
        ap (name_and_type_in new) (kept mid new j (NameAndType n d) g e)
        ∙ names new n d name descriptor (text_kept mid new n name g both.0) (text_kept mid new d descriptor g both.1)

pub indices_name : IndicesName
indices_name = record {
  kept = kept;
  text = text;
  class = class;
  string = string;
  name_and_type = name_and_type;
  field = λ old new class_name name descriptor index h. ap (field_reference_in new) h.added.here.here
      ∙ member old h.between new class_name name descriptor h.class_index h.member_index h.named (grown_pool h.between (Fieldref h.class_index h.member_index) new index h.added);
  method = λ old new class_name name descriptor index h. ap (method_reference_in new) h.added.here.here
      ∙ member old h.between new class_name name descriptor h.class_index h.member_index h.named (grown_pool h.between (Methodref h.class_index h.member_index) new index h.added);
  interface_method = λ old new class_name name descriptor index h. ap (interface_method_reference_in new) h.added.here.here
      ∙ member old h.between new class_name name descriptor h.class_index h.member_index h.named (grown_pool h.between (InterfaceMethodref h.class_index h.member_index) new index h.added);
}
