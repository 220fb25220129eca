-- No method descriptor begins another one, and its parameters are read from the front.
use Rattle.std.proofs.Common.{◌≡◌, ℕ, ◌+◌, ◌≤◌, ◌<◌, true, Bool, false, List, [], ◌∷◌, ◌++◌, drop, refl, sym, ap, ◌∙◌, append_assoc, arith, Option, Some, None}
use Rattle.std.specs.Prelude.{◌≢◌, ◌||◌, IsTrue, sum_by}
use Rattle.std.specs.List.{list_all, list_any, flat_map}
use Rattle.std.proofs.lemmas.Bool.{and_parts, and_from}
use Rattle.std.proofs.lemmas.Grind.{flat_map-append}
use Rattle.std.proofs.lemmas.List.{append-nil}
use Rattle.std.proofs.lemmas.List.Folds.{list_all-append, list_any-append}
use Rattle.std.proofs.lemmas.List.Sums.{sum_by-append, sum_by-cons}
use Rattle.jv_text.specs.declared.descriptor.FieldTypeOf.{FieldTypeOf}
use Rattle.jv_text.specs.Name.{begins_with}
use Rattle.jv_text.specs.Descriptor.{field_text, is_field_type, field_slots, result_text, is_result_type, MethodDescriptor, method_text, slots, is_floating, is_floating_result, IsMethod, OneMethod}
use Rattle.jv_text.proofs.Fields.{one_front, no_close, no_void}

-- the parameters of a method whose text begins with those of `before` begin with `before`
pub parameters_split : (before all : List (FieldTypeOf (List ℕ))) (tail rest : List ℕ) → IsTrue (list_all is_field_type before) → IsTrue (list_all is_field_type all)
    → flat_map field_text all ++ (41 ∷ tail) ≡ flat_map field_text before ++ rest
    → (more : List (FieldTypeOf (List ℕ))) × (all ≡ before ++ more) × (rest ≡ flat_map field_text more ++ (41 ∷ tail)) × IsTrue (list_all is_field_type more)
parameters_split [] all tail rest fb fa e = (all, refl, sym e, fa)
parameters_split (t ∷ ts) [] tail rest fb fa e = absurd (no_close t (flat_map field_text ts ++ rest) tail (sym (append_assoc (field_text t) (flat_map field_text ts) rest) ∙ sym e))
parameters_split (t ∷ ts) (u ∷ us) tail rest fb fa e =
    let mine = and_parts (is_field_type t) (list_all is_field_type ts) fb in
    let others = and_parts (is_field_type u) (list_all is_field_type us) fa in
    let joined = sym (append_assoc (field_text u) (flat_map field_text us) (41 ∷ tail)) ∙ e ∙ append_assoc (field_text t) (flat_map field_text ts) rest in
    let same = one_front u t (flat_map field_text us ++ (41 ∷ tail)) (flat_map field_text ts ++ rest) others.0 mine.0 joined in
    let one = parameters_split ts us tail rest mine.1 others.1 same.1 in
    (one.0, cc, one.2, one.3)

one_result : (a b : Option (FieldTypeOf (List ℕ))) → IsTrue (is_result_type a) → IsTrue (is_result_type b) → result_text a ≡ result_text b → a ≡ b
one_result None None h k e = refl
one_result None (Some t) h k e = absurd (no_void t [] [] (append-nil (field_text t) ∙ sym e))
one_result (Some t) None h k e = absurd (no_void t [] [] (append-nil (field_text t) ∙ e))
one_result (Some t) (Some u) h k e = ap (λ (x : FieldTypeOf (List ℕ)). Some x) (one_front t u [] [] h k (append-nil (field_text t) ∙ e ∙ sym (append-nil (field_text u)))).0

abbrev made : List (FieldTypeOf (List ℕ)) → Option (FieldTypeOf (List ℕ)) → MethodDescriptor
made parameters result = record { parameters = parameters; result = result }

-- each method descriptor begins with `(`
pub unopened_method : (text : List ℕ) (m : MethodDescriptor) → begins_with 40 text ≡ false → IsMethod text m → ⊥
unopened_method text m unopened h =
    let opened : begins_with 40 text ≡ true = ap (begins_with 40) h.spelled in
    absurd cc

-- the law: one method type
pub one_method : OneMethod
one_method text one other h k =
    let texts : method_text one ≡ method_text other = sym h.spelled ∙ k.spelled in
    let inside : flat_map field_text one.parameters ++ (41 ∷ result_text one.result) ≡ flat_map field_text other.parameters ++
    (41 ∷ result_text other.result) = ap (λ (xs : List ℕ). drop 1 xs) texts in
    let split = parameters_split other.parameters one.parameters (result_text one.result) (41 ∷ result_text other.result) k.parameters h.parameters inside in
    let ends = no_more split.0 (result_text other.result) (result_text one.result) split.2 in
    let lists : one.parameters ≡ other.parameters = split.1 ∙ ap (λ (ts : List (FieldTypeOf (List ℕ))). other.parameters ++ ts) ends.0 ∙ append-nil other.parameters in
    let results : one.result ≡ other.result = one_result one.result other.result h.result k.result (sym ends.1) in
    ap (λ (ts : List (FieldTypeOf (List ℕ))). made ts one.result) lists ∙ ap (λ (r : Option (FieldTypeOf (List ℕ))). made other.parameters r) results
  where
    no_more : (more : List (FieldTypeOf (List ℕ))) (tail end : List ℕ) → 41 ∷ tail ≡ flat_map field_text more ++ (41 ∷ end) → (more ≡ []) × (tail ≡ end)
    no_more [] tail end e = (refl, cc)
    no_more (t ∷ ts) tail end e = absurd (no_close t (flat_map field_text ts ++ (41 ∷ end)) tail (sym (append_assoc (field_text t) (flat_map field_text ts) (41 ∷ end)) ∙ sym e))

-- parameters that were read with the slots that they fill, and the bytes behind them
pub record Front (before : List (FieldTypeOf (List ℕ))) (count : ℕ) (text rest : List ℕ) : Type 0 where
  pub fit : IsTrue (list_all is_field_type before)
  pub counted : count ≡ sum_by field_slots before
  pub few : count ≤ 255
  pub spelled : text ≡ 40 ∷ (flat_map field_text before ++ rest)

pub Front-push : (before : List (FieldTypeOf (List ℕ))) (count : ℕ) (text rest : List ℕ) (t : FieldTypeOf (List ℕ)) (total : ℕ) (after : List ℕ)
    → IsTrue (is_field_type t) → total ≡ count + field_slots t → total ≤ 255 → rest ≡ field_text t ++ after → Front before count text rest → Front (before ++ t ∷ []) total text after
Front-push before count text rest t total after fits counts few e front = record {
  fit = list_all-append is_field_type before (t ∷ []) ∙ and_from (list_all is_field_type before) (list_all is_field_type (t ∷ [])) front.fit (and_from (is_field_type t) true fits refl);
  counted =
      let sums : sum_by field_slots (before ++ t ∷ []) ≡ sum_by field_slots before + sum_by field_slots (t ∷ []) = sum_by-append field_slots before (t ∷ []) in
      let last : sum_by field_slots (t ∷ []) ≡ field_slots t + sum_by field_slots [] = sum_by-cons field_slots t [] in
      let none : sum_by field_slots [] ≡ 0 = refl in
      omega (arith, sums, last, none, counts, front.counted);
  few = few;
  spelled =
      let parts : flat_map field_text (before ++ t ∷ []) ≡ flat_map field_text before ++ (field_text t ++ []) = flat_map-append field_text before (t ∷ []) in
      let mid : text ≡ 40 ∷ (flat_map field_text before ++ (field_text t ++ after)) = rw (← e) front.spelled in
      rw (parts, append-nil, append_assoc) mid;
}

pub Front-method : (before : List (FieldTypeOf (List ℕ))) (count : ℕ) (text rest : List ℕ) (r : Option (FieldTypeOf (List ℕ))) →
    IsTrue (is_result_type r) → rest ≡ 41 ∷ result_text r → Front before count text rest → IsMethod text (record { parameters = before; result = r })
Front-method before count text rest r fits e front = record {
  parameters = front.fit;
  result = fits;
  few = omega (arith, front.counted, front.few);
  spelled = front.spelled ∙ ap (λ (xs : List ℕ). 40 ∷ (flat_map field_text before ++ xs)) e;
}

split : (before : List (FieldTypeOf (List ℕ))) (count : ℕ) (text rest : List ℕ) → Front before count text rest → (m : MethodDescriptor) → IsMethod text m
    → (more : List (FieldTypeOf (List ℕ))) × (m.parameters ≡ before ++ more) × (rest ≡ flat_map field_text more ++ (41 ∷ result_text m.result)) × IsTrue (list_all is_field_type more)
split before count text rest front m h =
    let texts : method_text m ≡ 40 ∷ (flat_map field_text before ++ rest) = sym h.spelled ∙ front.spelled in
    parameters_split before m.parameters (result_text m.result) rest front.fit h.parameters (ap (λ (xs : List ℕ). drop 1 xs) texts)

-- where neither a parameter that fits nor the end is at the front of the rest, there is no method
pub Front-no_parameter : (before : List (FieldTypeOf (List ℕ))) (count : ℕ) (text rest : List ℕ) → Front before count text rest → ((more : List ℕ) → rest ≢ 41 ∷ more)
    → ((t : FieldTypeOf (List ℕ)) (after : List ℕ) → IsTrue (is_field_type t) → count + field_slots t ≤ 255 → rest ≢ field_text t ++ after) → (m : MethodDescriptor) → IsMethod text m → ⊥
Front-no_parameter before count text rest front unended none m h =
    let parts = split before count text rest front m h in
    first parts.0 parts.1 parts.2 parts.3
  where
    first : (more : List (FieldTypeOf (List ℕ))) → m.parameters ≡ before ++ more → rest ≡ flat_map field_text more ++ (41 ∷ result_text m.result) → IsTrue (list_all is_field_type more) → ⊥
    first [] all e fits = unended (result_text m.result) e
    first (t ∷ ts) all e fits =
        let sums : slots m ≡ sum_by field_slots before + sum_by field_slots (t ∷ ts) =
        ap (λ (xs : List (FieldTypeOf (List ℕ))). sum_by field_slots xs) all ∙ sum_by-append field_slots before (t ∷ ts) in
        let last : sum_by field_slots (t ∷ ts) ≡ field_slots t + sum_by field_slots ts = sum_by-cons field_slots t ts in
        none t (flat_map field_text ts ++ (41 ∷ result_text m.result)) (and_parts (is_field_type t) (list_all is_field_type ts) fits).0
        (omega (arith, sums, last, front.counted, h.few)) (e ∙ append_assoc (field_text t) (flat_map field_text ts) (41 ∷ result_text m.result))

-- nor where the parameters end and no result follows
pub Front-no_result : (before : List (FieldTypeOf (List ℕ))) (count : ℕ) (text rest : List ℕ) → Front before count text rest → (tail : List ℕ) → rest ≡ 41 ∷ tail
    → ((r : Option (FieldTypeOf (List ℕ))) → IsTrue (is_result_type r) → rest ≢ 41 ∷ result_text r) → (m : MethodDescriptor) → IsMethod text m → ⊥
Front-no_result before count text rest front tail end none m h =
    let parts = split before count text rest front m h in
    first parts.0 parts.2
  where
    first : (more : List (FieldTypeOf (List ℕ))) → rest ≡ flat_map field_text more ++ (41 ∷ result_text m.result) → ⊥
    first [] e = none m.result h.result e
    first (t ∷ ts) e = no_close t (flat_map field_text ts ++ (41 ∷ result_text m.result)) tail (sym (append_assoc (field_text t) (flat_map field_text ts) (41 ∷ result_text m.result)) ∙ sym e ∙ end)

-- a parameter whose slots are too many for the descriptor stands where no other one does
pub no_room : (text rest : List ℕ) (t : FieldTypeOf (List ℕ)) (count : ℕ) → IsTrue (is_field_type t) → text ≡ field_text t ++ rest → 255 < count + field_slots t
    → (other : FieldTypeOf (List ℕ)) (after : List ℕ) → IsTrue (is_field_type other) → count + field_slots other ≤ 255 → text ≢ field_text other ++ after
no_room text rest t count fits found many other after h few e =
    let one = one_front t other rest after fits h (sym found ∙ e) in
    omega (arith, many, few, ap field_slots one.0)

or_false : (b : Bool) → (b || false) ≡ b
or_false true = refl
or_false false = refl

-- whether one of some types is floating, and one more
pub floats_more : (before : List (FieldTypeOf (List ℕ))) (t : FieldTypeOf (List ℕ)) (b now : Bool) → now ≡ (b || is_floating t) → b ≡
    list_any is_floating before → now ≡ list_any is_floating (before ++ t ∷ [])
floats_more before t b now is so_far =
    is ∙ ap (λ (x : Bool). x || is_floating t) so_far ∙ ap (λ (x : Bool). list_any is_floating before || x) (sym (or_false (is_floating t))) ∙ sym (list_any-append is_floating before (t ∷ []))

-- and the result
pub floats_all : (before : List (FieldTypeOf (List ℕ))) (r : Option (FieldTypeOf (List ℕ))) (b now : Bool) → now ≡ (b || is_floating_result r) → b ≡
    list_any is_floating before → now ≡ (list_any is_floating before || is_floating_result r)
floats_all before r b now is so_far = is ∙ ap (λ (x : Bool). x || is_floating_result r) so_far
