-- Where a stack map table stands among the contents of a Code attribute.
use Rattle.std.proofs.Common.{◌≡◌, ℕ, Bool, true, false, cond, ◌*◌, ◌<◌, List, [], ◌++◌, length, Option, Some, None, refl, sym, ap, subst, ◌∙◌, append_assoc, length-append, arith}
use Rattle.std.specs.Prelude.{IfSome}
use Rattle.std.proofs.lemmas.Bool.{ltb-true}
use Rattle.jv_format.specs.Format.{◌>>=◌, IsBytes, half, quad, front}
use Rattle.jv_format.specs.Readers.{both, contents, passed, found_as}
use Rattle.jv_format.specs.declared.handlers.Handler.{Handler}
use Rattle.jv_format.specs.Handlers.{handlers_in}
use Rattle.jv_format.proofs.Laws.{is_some, bind_some, IsBytes-rest, half_is, both_is, such_is, contents_is, bytes_is}
use Rattle.jv_pool.specs.Constants.{Entry}
use Rattle.jv_class_structure.specs.declared.attributes.FoundMap.{FoundMap}
use Rattle.jv_class_structure.specs.Structure.{AttributeInfo}
use Rattle.jv_class_structure.specs.Attributes.{code_length_keeps_rules}
use Rattle.jv_class_structure.specs.Parts.{CodeSeen}
use Rattle.jv_class_structure.specs.Packed.{handlers_kept, handlers_read, CodeFront, code_front, front_found, code_with, code_in}
use Rattle.jv_class_structure.specs.Inside.Reading.{one_more, attribute, code_seen, code_text, stack_maps_kept, code_kept}
use Rattle.jv_class_structure.specs.Inside.Within.{IsRest, IsBehindSome, IsFoundIn}
use Rattle.jv_class_structure.proofs.AttributeLaws.{attribute_is, contents_fit-from}

-- ---- what follows what was read

pub rest_itself : (bytes : List ℕ) → IsRest bytes bytes
rest_itself bytes = record { front = []; joined = refl }

pub rest_more : (bytes rest last : List ℕ) → IsRest bytes rest → IsRest rest last → IsRest bytes last
rest_more bytes rest last one two =
    record { front = one.front ++ two.front; joined = one.joined ∙ ap (λ (r : List ℕ). one.front ++ r) two.joined ∙ sym (append_assoc one.front two.front last) }

pub half_rest : (bytes rest : List ℕ) (n : ℕ) → IsBytes bytes → half.read bytes ≡ Some (n, rest) → IsRest bytes rest
half_rest bytes rest n small e = record { front = half.spelling n; joined = (half_is.takes bytes rest n small e).0 }

pub limits_rest : (bytes rest : List ℕ) (x : ℕ × ℕ) → IsBytes bytes → (both half half).read bytes ≡ Some (x, rest) → IsRest bytes rest
limits_rest bytes rest x small e = record { front = (both half half).spelling x; joined = ((both_is half half half_is half_is).takes bytes rest x small e).0 }

pub text_rest : (bytes rest text : List ℕ) → IsBytes bytes → code_text.read bytes ≡ Some (text, rest) → IsRest bytes rest
text_rest bytes rest text small e =
    record { front = contents.spelling text; joined = ((such_is code_length_keeps_rules contents contents_is).takes bytes rest text small e).0 }

pub handlers_rest : (bytes rest : List ℕ) (handlers : List Handler) → IsBytes bytes → handlers_kept.read bytes ≡ Some (handlers, rest) → IsRest bytes rest
handlers_rest bytes rest handlers small e =
    let n = bind_some (half.read bytes) handlers_read (handlers, rest) e in
    let t = bind_some (front (n.0.0 * 8, n.0.1)) (found_as handlers_in) (handlers, rest) n.2 in
    let one : IsRest bytes n.0.1 = half_rest bytes n.0.1 n.0.0 small n.1 in
    let two : IsRest n.0.1 t.0.1 = record { front = t.0.0; joined = front_rest (n.0.0 * 8) n.0.1 t.0.1 t.0.0 (IsBytes-rest one.front n.0.1 bytes one.joined small) t.1 } in
    let made : List Handler × List ℕ = (handlers_in t.0.0, t.0.1) in
    let same : made ≡ (handlers, rest) = is_some made (handlers, rest) t.2 in
    subst (λ (y : List Handler × List ℕ). IsRest bytes y.1) same (rest_more bytes n.0.1 t.0.1 one two)
  where
    front_rest : (n : ℕ) (bytes rest text : List ℕ) → IsBytes bytes → front (n, bytes) ≡ Some (text, rest) → bytes ≡ text ++ rest
    front_rest n bytes rest text small e = ((bytes_is n).takes bytes rest text small e).0

-- ---- an attribute

pub attribute_within : (pool : List Entry) (bytes rest : List ℕ) (a : AttributeInfo) → IsBytes bytes → (attribute pool).read bytes ≡ Some (a, rest) → IsBehindSome bytes (a.info ++ rest)
attribute_within pool bytes rest a small e =
    let spelled = ((attribute_is pool).takes bytes rest a small e).0 in
    let head : List ℕ = half.spelling a.attribute_name_index ++ quad.spelling (length a.info) in
    record { front = head; joined = spelled ∙ append_assoc head a.info rest; some = omega arith }

pub attribute_rest : (pool : List Entry) (bytes rest : List ℕ) (a : AttributeInfo) → IsBytes bytes → (attribute pool).read bytes ≡ Some (a, rest) → IsRest bytes rest
attribute_rest pool bytes rest a small e =
    let within = attribute_within pool bytes rest a small e in
    rest_more bytes (a.info ++ rest) rest (record { front = within.front; joined = within.joined }) (record { front = a.info; joined = refl })

-- ---- what was found, seen from farther in front

pub found_before : (bytes rest : List ℕ) (found : Option FoundMap) → IsRest bytes rest → IsFoundIn rest found → IsFoundIn bytes found
found_before bytes rest None one there = tt
found_before bytes rest (Some found) one there =
    let last : List ℕ = found.info.now ++ found.behind.now in
    record {
      front = one.front ++ there.front;
      joined = one.joined ∙ ap (λ (r : List ℕ). one.front ++ r) there.joined ∙ sym (append_assoc one.front there.front last);
      some = omega (arith, there.some, length-append one.front there.front);
    }

pub found_behind : {A : Type 0} (bytes rest : List ℕ) (found : Option (Option FoundMap × A)) → IsRest bytes rest → IfSome found (λ x. IsFoundIn rest x.0) → IfSome found (λ x. IsFoundIn bytes x.0)
found_behind bytes rest None one there = tt
found_behind bytes rest (Some x) one there = found_before bytes rest x.0 one there

-- ---- two that may be found, of which one is

pub found_joined : (bytes : List ℕ) (found next joined : Option FoundMap) → one_more found next ≡ Some joined → IsFoundIn bytes found → IsFoundIn bytes next → IsFoundIn bytes joined
found_joined bytes None next joined e before here = let same : next ≡ joined = cc in subst (IsFoundIn bytes) same here
found_joined bytes (Some f) None joined e before here = let same : Some f ≡ joined = cc in subst (IsFoundIn bytes) same before
found_joined bytes (Some f) (Some g) joined e before here = absurd cc

-- ---- the code that was read, as its contents hold it

-- contents of a length that a file can tell
pub contents_small : (bytes rest text : List ℕ) → IsBytes bytes → contents.read bytes ≡ Some (text, rest) → length text < 4294967296
contents_small bytes rest text small e = ltb-true _ _ (contents_fit-from text (contents_is.takes bytes rest text small e).1)

passed_same : {A : Type 0} (test : A → Bool) (x y : A × List ℕ) → passed test x ≡ Some y → x ≡ y
passed_same {A = A} test x y e = by_test (test x.0) e
  where
    by_test : {A : Type 0} {x y : A × List ℕ} (b : Bool) → cond b (Some x) None ≡ Some y → x ≡ y
    by_test true h = cc
    by_test false h = absurd cc

handlers_found : (pool : List Entry) (bytes rest : List ℕ) (handlers : List Handler) (map : Option (List ℕ)) → (both handlers_kept (stack_maps_kept pool)).read bytes ≡ Some ((handlers, map), rest)
    → (behind : List ℕ) × (handlers_kept.read bytes ≡ Some (handlers, behind))
handlers_found pool bytes rest handlers map e =
    let h = bind_some (handlers_kept.read bytes) (λ a. (stack_maps_kept pool).read a.1 >>= λ b. Some ((a.0, b.0), b.1)) ((handlers, map), rest) e in
    let m = bind_some ((stack_maps_kept pool).read h.0.1) (λ b. Some ((h.0.0, b.0), b.1)) ((handlers, map), rest) h.2 in
    let made : (List Handler × Option (List ℕ)) × List ℕ = ((h.0.0, m.0.0), m.0.1) in
    let same : made ≡ ((handlers, map), rest) = is_some made ((handlers, map), rest) m.2 in
    (h.0.1, h.1 ∙ ap (λ (y : (List Handler × Option (List ℕ)) × List ℕ). Some (y.0.0, h.0.1)) same)

code_front_found : (bytes behind_limits behind_text behind : List ℕ) (limits : ℕ × ℕ) (text : List ℕ) (handlers : List Handler)
    → (both half half).read bytes ≡ Some (limits, behind_limits) → contents.read behind_limits ≡ Some (text, behind_text) → handlers_kept.read behind_text ≡ Some (handlers, behind)
    → code_front.read bytes ≡ Some ((limits, (text, handlers)), behind)
code_front_found bytes behind_limits behind_text behind limits text handlers one two three = rw (one, two, three) refl

pub code_found : (pool : List Entry) (bytes behind_limits behind_text rest : List ℕ) (limits : ℕ × ℕ) (text : List ℕ) (handlers : List Handler) (map : Option (List ℕ))
    → (both half half).read bytes ≡ Some (limits, behind_limits) → code_text.read behind_limits ≡ Some (text, behind_text)
    → (both handlers_kept (stack_maps_kept pool)).read behind_text ≡ Some ((handlers, map), rest) → (code_kept pool).read bytes ≡ Some (code_in bytes map, rest)
code_found pool bytes behind_limits behind_text rest limits text handlers map one two three =
    let t = bind_some (contents.read behind_limits) (passed code_length_keeps_rules) (text, behind_text) two in
    let held : contents.read behind_limits ≡ Some (text, behind_text) = t.1 ∙ ap (λ (x : List ℕ × List ℕ). Some x) (passed_same code_length_keeps_rules t.0 (text, behind_text) t.2) in
    let h = handlers_found pool behind_text rest handlers map three in
    together pool bytes behind_limits behind_text rest limits text handlers map one two three (code_front_found bytes behind_limits behind_text h.0 limits text handlers one held h.1)
  where
    together : (pool : List Entry) (bytes behind_limits behind_text rest : List ℕ) (limits : ℕ × ℕ) (text : List ℕ) (handlers : List Handler) (map : Option (List ℕ)) {behind : List ℕ}
        → (both half half).read bytes ≡ Some (limits, behind_limits) → code_text.read behind_limits ≡ Some (text, behind_text)
        → (both handlers_kept (stack_maps_kept pool)).read behind_text ≡ Some ((handlers, map), rest)
        → code_front.read bytes ≡ Some ((limits, (text, handlers)), behind) → (code_kept pool).read bytes ≡ Some (code_in bytes map, rest)
    together pool bytes behind_limits behind_text rest limits text handlers map one two three front =
        let read : (code_kept pool).read bytes ≡ Some (code_seen (limits, (text, (handlers, map))), rest) = rw (one, two, three) refl in
        let shown : code_in bytes map ≡ code_seen (limits, (text, (handlers, map))) = ap (λ (o : Option (CodeFront × List ℕ)). code_with map (front_found o)) front in
        read ∙ ap (λ (c : CodeSeen). Some (c, rest)) (sym shown)
