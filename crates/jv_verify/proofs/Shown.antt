-- The methods that a file shows are those of its class.
use Rattle.std.proofs.Common.{Bool, ◌≡◌, ℕ, zero, suc, ◌<◌, ◌≤◌, ◌+◌, ◌&&◌, List, [], ◌∷◌, map, length, take, get_or, Option, Some, None, refl, sym, ap, subst, ◌∙◌, arith}
use Rattle.std.specs.Prelude.{◌↔◌, IsTrue, is_some, not, nat_lt, IsSome, IfSome, Result, Ok, Err, IfOk, slice_get}
use Rattle.std.specs.Option.{option_map}
use Rattle.std.specs.List.{All, list_all}
use Rattle.std.proofs.lemmas.Bool.{and_parts, ltb-true}
use Rattle.std.proofs.lemmas.List.{take_all, length-map}
use Rattle.std.proofs.lemmas.List.Elements.{All-more, All-head, All-tail, All-nil, All-cons, All-weaker}
use Rattle.std.proofs.lemmas.Option.{slice_get-get_or}
use Rattle.jv_format.specs.Format.{◌>>=◌, half}
use Rattle.jv_pool.specs.Constants.{Entry, utf8_at, class_name_at, name_and_descriptor}
use Rattle.jv_class.specs.ClassFile.{class_name}
use Rattle.jv_class_structure.specs.Parts.{CodeSeen, MethodSeen, method_shown, methods_of}
use Rattle.jv_class_structure.specs.Structure.{MethodInfo, ClassStructure, body_fits, table_fits, field_fits, method_fits, attribute_fits}
use Rattle.jv_class.specs.Class.{Method, Class, all_found, field_of, method_of, super_of, class_of}
use Rattle.jv_meaning_world.specs.World.{Loaded, World}
use Rattle.jv_meaning_world.specs.Verdicts.{declared_by}
use Rattle.jv_meaning_typing.specs.declared.verdict.VerifyFault.{VerifyFault}
use Rattle.jv_meaning_typing.specs.Judgement.{AreTyped, IsFirstFault, BreaksRule}
use Rattle.jv_meaning_typing.specs.Typing.{HasTyping}
use Rattle.jv_verify_types.specs.Current.{CurrentClass}
use Rattle.jv_verify_pass.specs.declared.fault.CodeFault.{CodeFault}
use Rattle.jv_verify.specs.Judged.{IsMethodOf, IsVerdictOnMethod}
use Rattle.jv_verify.specs.Inside.Shown.{method_in, AreMethodsOf, IsMethodJudged}

pub there : {A : Type 0} (o : Option A) → IsSome o → (a : A) × (o ≡ Some a)
there None h = absurd cc
there (Some a) h = (a, refl)

pub if_ok_so : {A F : Type 0} (r : Result A F) (P Q : A → Type 0) → ((x : A) → P x → Q x) → IfOk r P → IfOk r Q
if_ok_so (Ok x) P Q so h = so x h
if_ok_so (Err e) P Q so h = tt

-- ---- one method

abbrev named : MethodSeen → List ℕ → List ℕ → Method
named shown n d = record { access_flags = shown.access_flags; name = n; descriptor = d; code = shown.code }

pub known_method : (class : CurrentClass) (shown : MethodSeen) (body : CodeSeen) → shown.code ≡ Some body → (m : Method) →
    method_in class.by.class.constant_pool shown ≡ Some m → IsMethodOf class shown body (declared_by class.by m)
known_method class shown body is m e = by_texts (utf8_at class.by.class.constant_pool shown.name_index) refl (utf8_at class.by.class.constant_pool shown.descriptor_index) refl e
  where
    by_texts : (n : Option (List ℕ)) → utf8_at class.by.class.constant_pool shown.name_index ≡ n → (d : Option (List ℕ)) → utf8_at class.by.class.constant_pool shown.descriptor_index ≡ d
        → option_map (λ texts. named shown texts.name texts.descriptor) (n >>= λ n. d >>= λ d. Some (name_and_descriptor n d)) ≡ Some m → IsMethodOf class shown body (declared_by class.by m)
    by_texts None at_name d at_descriptor e = absurd cc
    by_texts (Some n) at_name None at_descriptor e = absurd cc
    by_texts (Some n) at_name (Some d) at_descriptor e =
        let same : named shown n d ≡ m = cc in
        record {
          by = refl;
          flags = ap (λ x. x.access_flags) (sym same);
          name = at_name ∙ ap (λ x. Some x.name) same;
          descriptor = at_descriptor ∙ ap (λ x. Some x.descriptor) same;
          code = ap (λ x. x.code) (sym same) ∙ is;
        }

pub has_body : (pool : List Entry) (shown : MethodSeen) (m : Method) → method_in pool shown ≡ Some m → m.code ≡ shown.code
has_body pool shown m e = by_texts (utf8_at pool shown.name_index) (utf8_at pool shown.descriptor_index) e
  where
    by_texts : (n d : Option (List ℕ)) → option_map (λ texts. named shown texts.name texts.descriptor) (n >>= λ n. d >>= λ d. Some (name_and_descriptor n d)) ≡ Some m → m.code ≡ shown.code
    by_texts None d e = absurd cc
    by_texts (Some n) None e = absurd cc
    by_texts (Some n) (Some d) e =
        let same : named shown n d ≡ m = cc in
        ap (λ x. x.code) (sym same)

pub judged_method : (world : World) (l : Loaded) (m : Method) (body : CodeSeen) → m.code ≡ Some body → (fault : Option CodeFault) →
    IsVerdictOnMethod world (declared_by l m) fault → IsMethodJudged world l m fault
judged_method world l m body is None h = λ has. h
judged_method world l m body is (Some fault) h = (subst (λ (o : Option CodeSeen). IsSome o) (sym is) refl, h)

pub no_code : (world : World) (l : Loaded) (m : Method) → m.code ≡ None → IsMethodJudged world l m None
no_code world l m is = λ has. absurd (nothing (subst (λ (o : Option CodeSeen). IsSome o) is has))
  where
    nothing : IsSome {T = CodeSeen} None → ⊥
    nothing h = cc

-- ---- those of a class, one by one

module _ {S Y : Type 0} (look : S → Option Y) where
  parts_found : (x : S) (xs : List S) (ys : List Y) → all_found look (x ∷ xs) ≡ Some ys → (y : Y) × (more : List Y) × (look x ≡ Some y) × (all_found look xs ≡ Some more) × (ys ≡ y ∷ more)
  parts_found x xs ys e = by_cases (look x) refl (all_found look xs) refl e
    where
      by_cases : (o : Option Y) → look x ≡ o → (m : Option (List Y)) → all_found look xs ≡ m → (o >>= λ y. m >>= λ more. Some (y ∷ more)) ≡ Some ys
          → (y : Y) × (more : List Y) × (look x ≡ Some y) × (all_found look xs ≡ Some more) × (ys ≡ y ∷ more)
      by_cases None first m others e = absurd cc
      by_cases (Some y) first None others e = absurd cc
      by_cases (Some y) first (Some more) others e = (y, more, first, others, cc)

module _ {S Y : Type 0} (look : S → Option Y) where
  pub found_at : (xs : List S) (ys : List Y) → all_found look xs ≡ Some ys → (k : ℕ) → k < length xs → (x : S) × (y : Y) × (slice_get xs k ≡ Some x) × (look x ≡ Some y) × (slice_get ys k ≡ Some y)
  found_at [] ys e k less = absurd (omega (arith, less))
  found_at (x ∷ xs) ys e zero less =
      let parts = parts_found look x xs ys e in
      (x, parts.0, refl, parts.2, ap (λ l. slice_get l zero) parts.4)
  found_at (x ∷ xs) ys e (suc k) less =
      let parts = parts_found look x xs ys e in
      let again = found_at xs parts.1 parts.3 k (omega (arith, less)) in
      (again.0, again.1, again.2, again.3, ap (λ l. slice_get l (suc k)) parts.4 ∙ again.4)

  pub as_many : (xs : List S) (ys : List Y) → all_found look xs ≡ Some ys → length ys ≡ length xs
  as_many [] ys e =
      let none : ys ≡ [] = cc in
      ap length none
  as_many (x ∷ xs) ys e =
      let parts = parts_found look x xs ys e in
      ap length parts.4 ∙ ap suc (as_many xs parts.1 parts.3)

placed : {Y : Type 0} (ys : List Y) (k : ℕ) (y : Y) → k < length ys → slice_get ys k ≡ Some y → get_or ys k y ≡ y
placed ys k y less at =
    let both : Some (get_or ys k y) ≡ Some y = sym (slice_get-get_or ys k y less) ∙ at in
    cc

-- what is found of the method at a place
abbrev pub IsPlaceJudged : World → Loaded → List MethodSeen → ℕ → Option CodeFault → Type 0
IsPlaceJudged world l methods k fault =
    IfSome (slice_get methods k) (λ shown. (m : Method) → method_in l.class.constant_pool shown ≡ Some m → IsMethodJudged world l m fault)

module _ (world : World) (l : Loaded) (methods : List MethodSeen) (are : AreMethodsOf l methods) (k : ℕ) (less : k < length methods) where
  pub is_method : IfSome (slice_get methods k) (λ shown. IsSome (method_in l.class.constant_pool shown))
  is_method =
      let at = found_at (method_in l.class.constant_pool) methods l.class.methods are k less in
      subst (λ (o : Option MethodSeen). IfSome o (λ shown. IsSome (method_in l.class.constant_pool shown))) (sym at.2) (subst (λ (o : Option Method). IsSome o) (sym at.3) refl)

  found : (fault : Option CodeFault) → IsPlaceJudged world l methods k fault → (m : Method) × (slice_get l.class.methods k ≡ Some m) × IsMethodJudged world l m fault
  found fault judged =
      let at = found_at (method_in l.class.constant_pool) methods l.class.methods are k less in
      let here = subst (λ (o : Option MethodSeen). IfSome o (λ shown. (m : Method) → method_in l.class.constant_pool shown ≡ Some m → IsMethodJudged world l m fault)) at.2 judged in
      (at.1, at.4, here at.1 at.3)

  pub more_typed : AreTyped world l (take k l.class.methods) → IsPlaceJudged world l methods k None → AreTyped world l (take (k + 1) l.class.methods)
  more_typed before judged =
      let at = found None judged in
      let within : k < length l.class.methods = subst (λ n. k < n) (sym (as_many (method_in l.class.constant_pool) methods l.class.methods are)) less in
      All-more (λ m. IsSome m.code → HasTyping world (declared_by l m)) l.class.methods k at.0 within before
      (subst (λ (m : Method). IsSome m.code → HasTyping world (declared_by l m)) (sym (placed l.class.methods k at.0 within at.1)) at.2)

  pub first_broken : AreTyped world l (take k l.class.methods) → (fault : CodeFault) (result : VerifyFault) → result.method ≡ k → result.offset ≡
      fault.offset → result.rule ≡ fault.rule → IsPlaceJudged world l methods k (Some fault)
      → IsFirstFault world l result
  first_broken before fault result place is_offset is_rule judged =
      let at = found (Some fault) judged in
      record {
        method = at.0;
        at = ap (slice_get l.class.methods) place ∙ at.1;
        has_code = at.2.0;
        before = subst (λ n. AreTyped world l (take n l.class.methods)) (sym place) before;
        breaks = subst (λ o. BreaksRule world (declared_by l at.0) o result.rule) (sym is_offset) (subst (λ r. BreaksRule world (declared_by l at.0) fault.offset r) (sym is_rule) at.2.1);
      }

pub all_typed : (world : World) (l : Loaded) (methods : List MethodSeen) → AreMethodsOf l methods → (k : ℕ) → length methods ≤ k →
    AreTyped world l (take k l.class.methods) → AreTyped world l l.class.methods
all_typed world l methods are k past before =
    let many = as_many (method_in l.class.constant_pool) methods l.class.methods are in
    let end : length l.class.methods ≤ k = subst (λ n. n ≤ k) (sym many) past in
    subst (AreTyped world l) (take_all k l.class.methods end) before

-- ---- those of a file

found_of_shown : (pool : List Entry) (methods : List MethodInfo) → all_found (method_of pool) methods ≡ all_found (method_in pool) (map (method_shown pool) methods)
found_of_shown pool [] = refl
found_of_shown pool (m ∷ methods) = ap (λ o. method_of pool m >>= λ y. o >>= λ more. Some (y ∷ more)) (found_of_shown pool methods)

chained : {A B : Type 0} (o : Option A) (f : A → Option B) (y : B) → (o >>= f) ≡ Some y → (a : A) × (o ≡ Some a) × (f a ≡ Some y)
chained None f y e = absurd cc
chained (Some a) f y e = (a, refl, e)

pub none_left : {A : Type 0} (o : Option A) → ((a : A) → o ≡ Some a → ⊥) → o ≡ None
none_left None h = refl
none_left (Some a) h = absurd (h a refl)

pub of_structure : (c : ClassStructure) (class : Class) → class_of c ≡ Some class → (c.constant_pool ≡ class.constant_pool) × (all_found (method_of c.constant_pool) c.methods ≡ Some class.methods)
of_structure c class e =
    let name = chained (class_name c) _ class e in
    let above = chained (super_of c) _ class name.2 in
    let interfaces = chained (all_found (class_name_at c.constant_pool) c.interfaces) _ class above.2 in
    let fields = chained (all_found (field_of c.constant_pool) c.fields) _ class interfaces.2 in
    let methods = chained (all_found (method_of c.constant_pool) c.methods) _ class fields.2 in
    (cc, methods.1 ∙ ap (λ l. Some l) cc)

pub of_file : (c : ClassStructure) (l : Loaded) → class_of c ≡ Some l.class → AreMethodsOf l (methods_of c)
of_file c l e =
    let parts = of_structure c l.class e in
    ap (λ (pool : List Entry). all_found (method_in pool) (methods_of c)) (sym parts.0) ∙ (sym (found_of_shown c.constant_pool c.methods) ∙ parts.1)

sixth : (a b c d e f g : Bool) → IsTrue (a && b && c && d && e && f && g) → IsTrue f
sixth a b c d e f g h =
    (and_parts (a && b && c && d && e) f (and_parts (a && b && c && d && e && f) g h).0).1

pub few : (c : ClassStructure) → IsTrue (body_fits c) → length (methods_of c) < 65536
few c fits =
    let table : IsTrue (table_fits method_fits c.methods) =
    sixth (half.fits c.access_flags) (half.fits c.this_class) (half.fits c.super_class) (table_fits half.fits c.interfaces)
    (table_fits field_fits c.fields) (table_fits method_fits c.methods) (table_fits attribute_fits c.attributes) fits in
    subst (λ n. n < 65536) (sym (length-map c.methods (method_shown c.constant_pool)))
    (ltb-true (length c.methods) 65536 (and_parts (nat_lt (length c.methods) 65536) (list_all method_fits c.methods) table).0)

-- ---- where none has code

none_in : (o : Option CodeSeen) (test : Bool) → test ≡ is_some o → IsTrue (not test) ↔ (o ≡ None)
none_in None test e = (λ _. refl, λ _. ap not e)
none_in (Some code) test e = (λ h. absurd cc, λ h. absurd cc)

pub none_at : (at : Option MethodSeen) (shown : MethodSeen) (test : Bool) → Some shown ≡ at → test ≡ is_some shown.code → IsTrue (not test) ↔ IfSome at (λ m. m.code ≡ None)
none_at at shown test here is = subst (λ (o : Option MethodSeen). IsTrue (not test) ↔ IfSome o (λ m. m.code ≡ None)) here (none_in shown.code test is)

none_of : (pool : List Entry) (methods : List MethodSeen) (ms : List Method) → all_found (method_in pool) methods ≡ Some ms →
    All (λ (m : MethodSeen). m.code ≡ None) methods → All (λ (m : Method). m.code ≡ None) ms
none_of pool [] ms e h =
    let none : [] ≡ ms = cc in
    subst (λ (l : List Method). All (λ (m : Method). m.code ≡ None) l) none (All-nil (λ (m : Method). m.code ≡ None))
none_of pool (x ∷ methods) ms e h =
    let parts = parts_found (method_in pool) x methods ms e in
    subst (λ (l : List Method). All (λ (m : Method). m.code ≡ None) l) (sym parts.4)
    (All-cons (λ (m : Method). m.code ≡ None) parts.0 parts.1 (has_body pool x parts.0 parts.2 ∙ All-head (λ (m : MethodSeen). m.code ≡ None) x methods h)
    (none_of pool methods parts.1 parts.3 (All-tail (λ (m : MethodSeen). m.code ≡ None) x methods h)))

pub none_typed : (world : World) (l : Loaded) (methods : List MethodSeen) → AreMethodsOf l methods → All (λ (m : MethodSeen). m.code ≡ None) methods → AreTyped world l l.class.methods
none_typed world l methods are h =
    All-weaker (λ (m : Method). m.code ≡ None) (λ (m : Method). IsSome m.code → HasTyping world (declared_by l m)) (no_code world l) l.class.methods
    (none_of l.class.constant_pool methods l.class.methods are h)
