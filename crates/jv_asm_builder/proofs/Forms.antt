-- Frames one after the other.
use Rattle.std.proofs.Common.{◌≡◌, ◌==◌, ℕ, false, ◌+◌, ◌<◌, List, [], ◌∷◌, ◌++◌, length, drop, get_or, Some, Ok, Err, refl, sym, ap, ◌∙◌, append_assoc}
use Rattle.std.specs.Prelude.{map, suc, if◌then◌else◌}
use Rattle.std.specs.List.{flat_map}
use Rattle.std.proofs.lemmas.Bool.{lt-ltb}
use Rattle.jv_format.specs.Format.{half}
use Rattle.jv_stackmap.specs.Bytes.{MapForm, form_bytes, stack_map_bytes}
use Rattle.jv_asm_builder.specs.declared.fault.BuilderFault.{BuilderFault}
use Rattle.jv_asm_builder.specs.declared.fault.BuilderFault.TheVariants.{TooLarge}
use Rattle.jv_asm_builder.specs.Faults.{Expected, ◌>>=◌}
use Rattle.jv_asm_builder.specs.Assembly.{StackFrame, form_from, forms_from, stack_map_table}
use Rattle.jv_asm_builder.specs.Inside.Behind.{frame_behind, frames_behind}
use Rattle.jv_asm_builder.proofs.Mapped.{mapped_left}
use Rattle.jv_asm_builder.proofs.Steps.{same}

-- one frame before others
one_before : (out new : List ℕ) (form : MapForm) (rest : Expected (List MapForm)) → out ++ form_bytes form ≡ new
    → (rest >>= λ forms. Ok (new ++ flat_map form_bytes forms)) ≡ ((rest >>= λ forms. Ok (form ∷ forms)) >>= λ forms. Ok (out ++ flat_map form_bytes forms))
one_before out new form (Err fault) e = refl
one_before out new form (Ok forms) e = ap (λ b. Ok (b ++ flat_map form_bytes forms)) (sym e) ∙ ap Ok (append_assoc out (form_bytes form) (flat_map form_bytes forms))

-- the frames behind one that is known
abbrev forms_behind : List ℕ → StackFrame → List StackFrame → Expected MapForm → Expected (List ℕ)
forms_behind out f rest r = (r >>= λ form. forms_from (f.offset + 1) rest >>= λ forms. Ok (form ∷ forms)) >>= λ forms. Ok (out ++ flat_map form_bytes forms)

behind_next : (out new : List ℕ) (base : ℕ) (f : StackFrame) (rest : List StackFrame) → frame_behind out base f ≡ Ok new
    → frames_behind new (f.offset + 1) rest ≡ frames_behind out base (f ∷ rest)
behind_next out new base f rest e = by_form (form_from base f) refl e
  where
    by_form : (r : Expected MapForm) → form_from base f ≡ r → (r >>= λ form. Ok (out ++ form_bytes form)) ≡ Ok new
        → frames_behind new (f.offset + 1) rest ≡ frames_behind out base (f ∷ rest)
    by_form (Err fault) h k = absurd cc
    by_form (Ok form) h k =
        one_before out new form (forms_from (f.offset + 1) rest) (same (out ++ form_bytes form) new k) ∙ ap (forms_behind out f rest) (sym h)

behind_stops : (out : List ℕ) (base : ℕ) (f : StackFrame) (rest : List StackFrame) (fault : BuilderFault) → frame_behind out base f ≡ Err fault
    → frames_behind out base (f ∷ rest) ≡ Err fault
behind_stops out base f rest fault e = by_form (form_from base f) refl e
  where
    by_form : (r : Expected MapForm) → form_from base f ≡ r → (r >>= λ form. Ok (out ++ form_bytes form)) ≡ Err fault
        → frames_behind out base (f ∷ rest) ≡ Err fault
    by_form (Ok form) h k = absurd cc
    by_form (Err g) h k = ap (forms_behind out f rest) h ∙ k

-- ---- in a loop over what the code builder keeps of frames

module _ {X : Type 0} (view : X → StackFrame) (xs : List X) (i : ℕ) (x : X) (lt : i < length xs) (is : x ≡ get_or xs i x) (out : List ℕ) (base : ℕ) where
  pub frame_next : (new : List ℕ) → frame_behind out base (view x) ≡ Ok new
      → frames_behind new ((view x).offset + 1) (drop (i + 1) (map view xs)) ≡ frames_behind out base (drop i (map view xs))
  frame_next new e =
      behind_next out new base (view x) (drop (i + 1) (map view xs)) e ∙ sym (ap (frames_behind out base) (mapped_left view xs i x lt is))

  pub frame_stops : (fault : BuilderFault) → frame_behind out base (view x) ≡ Err fault → frames_behind out base (drop i (map view xs)) ≡ Err fault
  frame_stops fault e =
      ap (frames_behind out base) (mapped_left view xs i x lt is) ∙ behind_stops out base (view x) (drop (i + 1) (map view xs)) fault e

-- ---- the whole table

forms_length : (base : ℕ) (frames : List StackFrame) (forms : List MapForm) → forms_from base frames ≡ Ok forms → length forms ≡ length frames
forms_length base [] forms e = ap length (sym (same [] forms e))
forms_length base (f ∷ frames) forms e =
    by_first (form_from base f) (forms_from (f.offset + 1) frames) (λ rest s. forms_length (f.offset + 1) frames rest s) e
  where
    by_first : (r : Expected MapForm) (rs : Expected (List MapForm)) → ((rest : List MapForm) → rs ≡ Ok rest → length rest ≡ length frames)
        → (r >>= λ x. rs >>= λ xs. Ok (x ∷ xs)) ≡ Ok forms → length forms ≡ suc (length frames)
    by_first (Ok x) (Ok rest) s h = ap length (sym (same (x ∷ rest) forms h)) ∙ ap (λ n. suc n) (s rest refl)
    by_first (Ok x) (Err fault) s h = absurd cc
    by_first (Err fault) rs s h = absurd cc

pub contents_are : (frames : List StackFrame) (out : List ℕ) → (length frames == 0) ≡ false → length frames < 65536
    → frames_behind (half.spelling (length frames)) 0 frames ≡ Ok out → stack_map_table frames ≡ Ok (Some out)
contents_are [] out some few e = absurd cc
contents_are (f ∷ frames) out some few e =
    ap (λ b. (if b then Ok (f ∷ frames) else Err TooLarge) >>= λ all. forms_from 0 all >>= λ forms. Ok (Some (stack_map_bytes forms))) (lt-ltb (length (f ∷ frames)) 65536 few)
    ∙ by_forms (forms_from 0 (f ∷ frames)) refl e
  where
    by_forms : (r : Expected (List MapForm)) → forms_from 0 (f ∷ frames) ≡ r → (r >>= λ forms. Ok (half.spelling (length (f ∷ frames)) ++ flat_map form_bytes forms)) ≡ Ok out
        → (r >>= λ forms. Ok (Some (stack_map_bytes forms))) ≡ Ok (Some out)
    by_forms (Err fault) h k = absurd cc
    by_forms (Ok forms) h k =
        ap (λ n. Ok (Some (half.spelling n ++ flat_map form_bytes forms))) (forms_length 0 (f ∷ frames) forms h)
        ∙ ap (λ v. Ok (Some v)) (same (half.spelling (length (f ∷ frames)) ++ flat_map form_bytes forms) out k)
