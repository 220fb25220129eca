-- What is kept of texts.
use Rattle.std.proofs.Common.{◌≡◌, ℕ, ◌+◌, ◌<◌, ◌≤◌, Bool, false, List, [], ◌∷◌, ◌++◌, length, get_or, Option, Some, None, refl, sym, ap, ◌∙◌, subst, inl, inr, arith}
use Rattle.std.specs.Prelude.{◌⊎◌}
use Rattle.std.proofs.lemmas.Bool.{cases_lt}
use Rattle.std.proofs.lemmas.List.{get_or_past}
use Rattle.std.proofs.Math.ListN.{get_or-append}
use Rattle.std.proofs.Math.Seq.{get_or-append_seam}
use Rattle.jv_format.specs.Format.{◌>>=◌}
use Rattle.jv_text.specs.Descriptor.{MethodDescriptor}
use Rattle.jv_text.specs.Types.{method_type_of}
use Rattle.jv_pool.specs.declared.constant.Constant.TheVariants.{Class}
use Rattle.jv_pool.specs.Constants.{Entry, pool_count, at_index, utf8_in, utf8_at}
use Rattle.jv_pool.proofs.Kept.{past_table}
use Rattle.jv_verify_types.specs.Typed.{GoesOn}
use Rattle.jv_verify_types.specs.declared.texts.MethodEntry.{MethodEntry}
use Rattle.jv_verify_types.specs.declared.texts.TextTypes.{TextTypes}
use Rattle.jv_verify_types.specs.declared.texts.Described.{Described}
use Rattle.jv_verify_types.specs.Inside.Lasting.{IsFront}
use Rattle.jv_verify_types.specs.Inside.KeptTexts.{Item, IsMethodKept, method_in, IsDescribed, IsNamed, IsKept, nothing, kept_at, AreMarkedBelow, AreKeptBelow, AreKept}
use Rattle.jv_verify_types.proofs.Lasting.{lasts_on}
use Rattle.jv_verify_types.proofs.Arguments.{arguments_on}

-- ---- what is kept also when more names and more arguments have joined

method_on : {names longer : List (List ℕ)} {arguments all : List Item} → GoesOn names longer → IsFront arguments all
    → (entry : Option MethodEntry) (found : Option MethodDescriptor) → IsMethodKept names arguments entry found → IsMethodKept longer all entry found
method_on goes_on front None found here = here
method_on goes_on front (Some entry) found here = record {
  method = here.method;
  is = here.is;
  entered = record {
    parameters = arguments_on entry.start entry.end goes_on front here.entered.parameters;
    result = lasts_on goes_on here.entered.result;
  };
}

pub described_on : {names longer : List (List ℕ)} {arguments all : List Item} {text : Option (List ℕ)} {found : Described} → GoesOn names longer → IsFront arguments all
    → IsDescribed names arguments text found → IsDescribed longer all text found
described_on {text = text} {found = found} goes_on front here = record {
  field = lasts_on goes_on here.field;
  method = method_on goes_on front (method_in found) (text >>= method_type_of) here.method;
}

pub kept_on : {names longer : List (List ℕ)} {arguments all : List Item} {text : Option (List ℕ)} {is_name : Bool} {entry : TextTypes} → GoesOn names longer → IsFront arguments all
    → IsKept names arguments text is_name entry → IsKept longer all text is_name entry
kept_on goes_on front here = record {
  described = described_on goes_on front here.described;
  named = λ marked. lasts_on goes_on (here.named marked);
}

-- ---- where no text is

pub nothing_described : (names : List (List ℕ)) (arguments : List Item) → IsDescribed names arguments None nothing.described
nothing_described names arguments = record { field = record { kept = λ longer more. refl }; method = refl }

pub nothing_named : (names : List (List ℕ)) → IsNamed names None None
nothing_named names = record { kept = λ longer more. refl }

-- ---- all texts

pub kept_next : {names longer : List (List ℕ)} {arguments all : List Item} (pool : List Entry) (marks : List Bool) (texts : List TextTypes) (count : ℕ) (entry : TextTypes)
    → length texts ≡ count → GoesOn names longer → IsFront arguments all → AreKeptBelow count names arguments pool marks texts
    → IsKept longer all (utf8_at pool count) (get_or marks count false) entry → AreKeptBelow (count + 1) longer all pool marks (texts ++ entry ∷ [])
kept_next {longer = longer} {all = all} pool marks texts count entry size goes_on front below here index lt = by_index (cases_lt index count)
  where
    by_index : (index < count) ⊎ (count ≤ index) → IsKept longer all (utf8_at pool index) (get_or marks index false) (kept_at (texts ++ entry ∷ []) index)
    by_index (inl before) =
        subst (IsKept longer all (utf8_at pool index) (get_or marks index false)) (sym (get_or-append texts (entry ∷ []) nothing index (omega (arith, size))))
        (kept_on goes_on front (below index before))
    by_index (inr behind) =
        let last : index ≡ count = omega arith in
        let place : index ≡ length texts = last ∙ sym size in
        subst (IsKept longer all (utf8_at pool index) (get_or marks index false)) (sym (ap (λ n. kept_at (texts ++ entry ∷ []) n) place ∙ get_or-append_seam texts entry [] nothing))
        (subst (λ n. IsKept longer all (utf8_at pool n) (get_or marks n false) entry) (sym last) here)

pub all_kept : (names : List (List ℕ)) (arguments : List Item) (pool : List Entry) (marks : List Bool) (texts : List TextTypes)
    → length texts ≡ pool_count pool → length marks ≡ pool_count pool → ((count : ℕ) → AreMarkedBelow count pool marks)
    → AreKeptBelow (pool_count pool) names arguments pool marks texts → AreKept names arguments pool texts
all_kept names arguments pool marks texts size marks_size marked below = record {
  described = λ index. described index (cases_lt index (pool_count pool));
  named = λ index name at. named index name at (cases_lt name (pool_count pool));
}
  where
    no_text : (index : ℕ) → pool_count pool ≤ index → utf8_at pool index ≡ None
    no_text index past = ap utf8_in (past_table pool index past)

    no_entry : (index : ℕ) → pool_count pool ≤ index → kept_at texts index ≡ nothing
    no_entry index past = get_or_past texts index nothing (omega (arith, size))

    described : (index : ℕ) → (index < pool_count pool) ⊎ (pool_count pool ≤ index) → IsDescribed names arguments (utf8_at pool index) (kept_at texts index).described
    described index (inl inside) = (below index inside).described
    described index (inr past) =
        subst (λ t. IsDescribed names arguments t (kept_at texts index).described) (sym (no_text index past))
        (subst (λ e. IsDescribed names arguments None e.described) (sym (no_entry index past)) (nothing_described names arguments))

    named : (index name : ℕ) → at_index pool index ≡ Some (Class name) → (name < pool_count pool) ⊎ (pool_count pool ≤ name) → IsNamed names (utf8_at pool name) (kept_at texts name).named
    named index name at (inl inside) = (below name inside).named (marked (index + 1) index name (omega arith) at (omega (arith, marks_size)))
    named index name at (inr past) =
        subst (λ t. IsNamed names t (kept_at texts name).named) (sym (no_text name past))
        (subst (λ e. IsNamed names None e.named) (sym (no_entry name past)) (nothing_named names))
