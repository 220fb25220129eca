-- A whole table of frames (JVMS 4.7.4): what is spelled is read, and the other way round.
use Rattle.std.proofs.Common.{◌≡◌, ℕ, ◌<◌, List, [], ◌∷◌, ◌++◌, length, Option, Some, refl, sym, ap, ◌∙◌, eq-eqb}
use Rattle.std.specs.Prelude.{IsTrue}
use Rattle.std.specs.List.{list_all}
use Rattle.std.proofs.lemmas.Bool.{and_parts, and_from, ltb-true, lt-ltb}
use Rattle.std.proofs.lemmas.List.{append-nil}
use Rattle.jv_format.specs.Format.{half, ◌>>=◌, IsBytes}
use Rattle.jv_format.proofs.Laws.{is_some, bind_some}
use Rattle.jv_stackmap.specs.Bytes.{MapForm, form_fits, stack_map_bytes}
use Rattle.jv_stackmap.specs.Inside.Reading.{counted_forms, forms_of, all_of, whole, whole_table}
use Rattle.jv_stackmap.proofs.Forms.{counted_forms_is}

-- what a whole table is
pub record IsWholeTable (bytes : List ℕ) (forms : List MapForm) : Type 0 where
  pub spelled : bytes ≡ stack_map_bytes forms
  pub counted : length forms < 65536
  pub fit : IsTrue (list_all form_fits forms)

table_fits : (forms : List MapForm) → length forms < 65536 → IsTrue (list_all form_fits forms) → IsTrue (counted_forms.fits forms)
table_fits forms lt fit = and_from (half.fits (length forms)) ((forms_of (length forms)).fits forms) (lt-ltb _ _ lt) (and_from _ _ (eq-eqb (length forms) (length forms) refl) fit)

all_is : (forms others : List MapForm) (rest : List ℕ) → all_of forms rest ≡ Some others → (rest ≡ []) × (forms ≡ others)
all_is forms others [] e = (refl, is_some forms others e)
all_is forms others (byte ∷ more) e = absurd cc

pub table_taken : (bytes : List ℕ) (forms : List MapForm) → IsBytes bytes → whole_table bytes ≡ Some forms → IsWholeTable bytes forms
table_taken bytes forms small e =
    let a = bind_some (counted_forms.read bytes) whole forms e in
    let end = all_is a.0.0 forms a.0.1 a.2 in
    let one = counted_forms_is.takes bytes a.0.1 a.0.0 small a.1 in
    let parts = and_parts (half.fits (length a.0.0)) ((forms_of (length a.0.0)).fits a.0.0) one.1 in
    let more = and_parts _ (list_all form_fits a.0.0) parts.1 in
    rw (← end.1) (record {
      spelled = one.0 ∙ ap (λ (r : List ℕ). stack_map_bytes a.0.0 ++ r) end.0 ∙ append-nil (stack_map_bytes a.0.0);
      counted = ltb-true _ _ parts.0;
      fit = more.1;
    })

pub table_again : (bytes : List ℕ) (forms : List MapForm) → IsWholeTable bytes forms → whole_table bytes ≡ Some forms
table_again bytes forms h =
    ap (λ (b : List ℕ). counted_forms.read b >>= whole) (h.spelled ∙ sym (append-nil (stack_map_bytes forms)))
    ∙ ap (λ (o : Option (List MapForm × List ℕ)). o >>= whole) (counted_forms_is.again forms [] (table_fits forms h.counted h.fit))
