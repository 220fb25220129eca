-- What stands behind a pool, and which structure the bytes behind a version are.
use Rattle.std.proofs.Common.{◌≡◌, ℕ, Bool, true, false, List, [], ◌++◌, length, Option, Some, None, refl, sym, ap, subst, ◌∙◌, append_assoc}
use Rattle.std.specs.Prelude.{IsTrue, ◌&&◌, map, nat_lt, Result, Err}
use Rattle.std.specs.List.{list_all}
use Rattle.std.proofs.lemmas.Bool.{and_parts, and_from}
use Rattle.std.proofs.lemmas.List.{append-nil}
use Rattle.jv_format.specs.Format.{Format, ◌>>=◌, half, IsBytes}
use Rattle.jv_format.specs.Readers.{both, found_as, whole}
use Rattle.jv_format.proofs.Laws.{is_some, IsFormat, half_is, both_is}
use Rattle.jv_pool.specs.Constants.{Entry, pool_bytes}
use Rattle.jv_pool.specs.Rules.{IsPool, OnePool}
use Rattle.jv_class_structure.specs.Structure.{ClassStructure, table_bytes, attribute_bytes, field_bytes, method_bytes, body_bytes, table_fits, attribute_fits, field_fits, method_fits, body_fits}
use Rattle.jv_class_structure.specs.Attributes.{all_named, field_attributes_keep_rules, method_attributes_keep_rules, attributes_keep_rules}
use Rattle.jv_class_structure.specs.Parts.{IsBehindVersion, OneBehindVersion, field_shown, method_shown}
use Rattle.jv_class_structure.specs.Inside.Reading.{three, kept, table, field_attributes, field, method, Body, class_body, structure_of, body_in, structure_in, values_kept, field_kept, method_kept, passed_over, members_kept, BodySeen, body_kept, body_shown, AreBody, FailsWhole}
use Rattle.jv_class_structure.specs.declared.fault.PartsFault.{PartsFault}
use Rattle.jv_class_structure.specs.declared.fault.PartsFault.TheVariants.{Format as BadFormat, OutOfMemory}
use Rattle.jv_class_structure.proofs.Lists.{all_both, all_parts}
use Rattle.jv_class_structure.proofs.Forms.{Keeps, each_side, table_is, itself, both_keeps, table_keeps}
use Rattle.jv_class_structure.proofs.AttributeLaws.{field_attributes_is, field_attributes_enter, field_attributes_leave, values_keep}
use Rattle.jv_class_structure.proofs.MemberLaws.{three_is, field_is, field_keeps, method_is, method_keeps}

-- ---- the body's format

members_is : (pool : List Entry) → IsFormat (both (table (field pool)) (both (table (method pool)) (field_attributes pool false)))
members_is pool =
    both_is (table (field pool)) (both (table (method pool)) (field_attributes pool false)) (table_is (field pool) (field_is pool))
    (both_is (table (method pool)) (field_attributes pool false) (table_is (method pool) (method_is pool)) (field_attributes_is pool false))

pub class_body_is : (pool : List Entry) → IsFormat (class_body pool)
class_body_is pool =
    both_is three (both (table half) (both (table (field pool)) (both (table (method pool)) (field_attributes pool false)))) three_is
    (both_is (table half) (both (table (field pool)) (both (table (method pool)) (field_attributes pool false))) (table_is half half_is) (members_is pool))

-- ---- what is kept of it

join_kept : {A S T : Type 0} (s : A → S) (t : S → T) (o : Option (A × List ℕ)) → ((o >>= found_as s) >>= found_as t) ≡ (o >>= found_as (λ (a : A). t (s a)))
join_kept s t None = refl
join_kept s t (Some a) = refl

kept_keeps : {A S T : Type 0} (g : Format S) (s : A → S) (f : Format A) (t : S → T) → Keeps g s f → Keeps (kept t g) (λ (a : A). t (s a)) f
kept_keeps {S = S} g s f t K = record { reads = λ bytes small. ap (λ (o : Option (S × List ℕ)). o >>= found_as t) (K.reads bytes small) ∙ join_kept s t (f.read bytes) }

abbrev own : {A : Type 0} → A → A
own a = a

abbrev zero_of : {A : Type 0} → A → ℕ
zero_of a = 0

members_keeps : (pool : List Entry)
    → Keeps (members_kept pool) (each_side (map (field_shown pool)) (each_side (map (method_shown pool)) zero_of))
    (both (table (field pool)) (both (table (method pool)) (field_attributes pool false)))
members_keeps pool =
    both_keeps (table (field_kept pool)) (map (field_shown pool)) (table (field pool)) (both (table (method_kept pool)) (passed_over pool))
    (each_side (map (method_shown pool)) zero_of) (both (table (method pool)) (field_attributes pool false))
    (table_is (field pool) (field_is pool)) (table_keeps (field_kept pool) (field_shown pool) (field pool) (field_is pool) (field_keeps pool))
    (both_keeps (table (method_kept pool)) (map (method_shown pool)) (table (method pool)) (passed_over pool) zero_of (field_attributes pool false)
    (table_is (method pool) (method_is pool)) (table_keeps (method_kept pool) (method_shown pool) (method pool) (method_is pool) (method_keeps pool))
    (kept_keeps (values_kept pool false) _ (field_attributes pool false) (λ (v : Option ℕ). 0) (values_keep pool false)))

pub body_keeps : (pool : List Entry) → Keeps (body_kept pool) (body_shown pool) (class_body pool)
body_keeps pool =
    both_keeps three own three (both (table half) (members_kept pool)) (each_side own (each_side (map (field_shown pool)) (each_side (map (method_shown pool)) zero_of)))
    (both (table half) (both (table (field pool)) (both (table (method pool)) (field_attributes pool false)))) three_is (itself three)
    (both_keeps (table half) own (table half) (members_kept pool) (each_side (map (field_shown pool)) (each_side (map (method_shown pool)) zero_of))
    (both (table (field pool)) (both (table (method pool)) (field_attributes pool false)))
    (table_is half half_is) (itself (table half)) (members_keeps pool))

-- ---- a structure and its body

abbrev pub body_of : ClassStructure → Body
body_of c = ((c.access_flags, (c.this_class, c.super_class)), (c.interfaces, (c.fields, (c.methods, c.attributes))))

body_parts : (f t s i fs ms as' : List ℕ) → (((((f ++ t) ++ s) ++ i) ++ fs) ++ ms) ++ as' ≡ (f ++ (t ++ s)) ++ (i ++ (fs ++ (ms ++ as')))
body_parts f t s i fs ms as' = simp append_assoc

pub body-spelling : (pool : List Entry) (c : ClassStructure) → body_bytes c ≡ (class_body pool).spelling (body_of c)
body-spelling pool c =
    body_parts (half.spelling c.access_flags) (half.spelling c.this_class) (half.spelling c.super_class) (table_bytes half.spelling c.interfaces)
    (table_bytes field_bytes c.fields) (table_bytes method_bytes c.methods) (table_bytes attribute_bytes c.attributes)

table_both : {A : Type 0} (p q : A → Bool) (xs : List A) → IsTrue (table_fits p xs) → IsTrue (list_all q xs) → IsTrue (table_fits (λ a. p a && q a) xs)
table_both p q xs h k = let a = and_parts (nat_lt (length xs) 65536) (list_all p xs) h in and_from _ _ a.0 (all_both p q xs (and_from _ _ a.1 k))

table_parts : {A : Type 0} (p q : A → Bool) (xs : List A) → IsTrue (table_fits (λ a. p a && q a) xs) → IsTrue (table_fits p xs) × IsTrue (list_all q xs)
table_parts p q xs h =
    let a = and_parts (nat_lt (length xs) 65536) (list_all (λ x. p x && q x) xs) h in
    let b = all_parts p q xs a.1 in
    (and_from _ _ a.0 b.0, b.1)

record Fits (pool : List Entry) (b : Body) : Type 0 where
  pub access_flags : IsTrue (half.fits b.0.0)
  pub this_class : IsTrue (half.fits b.0.1.0)
  pub super_class : IsTrue (half.fits b.0.1.1)
  pub interfaces : IsTrue (table_fits half.fits b.1.0)
  pub fields : IsTrue (table_fits field_fits b.1.1.0)
  pub methods : IsTrue (table_fits method_fits b.1.1.1.0)
  pub attributes : IsTrue (table_fits attribute_fits b.1.1.1.1)
  pub fields_keep_rules : IsTrue (list_all (field_attributes_keep_rules pool) b.1.1.0)
  pub methods_keep_rules : IsTrue (list_all (method_attributes_keep_rules pool) b.1.1.1.0)
  pub named : IsTrue (all_named pool b.1.1.1.1)

Fits-from_structure : (c : ClassStructure) → IsTrue (body_fits c) → IsTrue (attributes_keep_rules c) → Fits c.constant_pool (body_of c)
Fits-from_structure c h k =
    let pool = c.constant_pool in
    let names : Bool = half.fits c.access_flags && half.fits c.this_class && half.fits c.super_class in
    let i : Bool = table_fits half.fits c.interfaces in
    let f : Bool = table_fits field_fits c.fields in
    let m : Bool = table_fits method_fits c.methods in
    let a = and_parts (names && i && f && m) (table_fits attribute_fits c.attributes) h in
    let b = and_parts (names && i && f) m a.0 in
    let d = and_parts (names && i) f b.0 in
    let e = and_parts names i d.0 in
    let g = and_parts (half.fits c.access_flags && half.fits c.this_class) (half.fits c.super_class) e.0 in
    let j = and_parts (half.fits c.access_flags) (half.fits c.this_class) g.0 in
    let r = and_parts (list_all (field_attributes_keep_rules pool) c.fields && list_all (method_attributes_keep_rules pool) c.methods) (all_named pool c.attributes) k in
    let s = and_parts (list_all (field_attributes_keep_rules pool) c.fields) (list_all (method_attributes_keep_rules pool) c.methods) r.0 in
    record {
      access_flags = j.0;
      this_class = j.1;
      super_class = g.1;
      interfaces = e.1;
      fields = d.1;
      methods = b.1;
      attributes = a.1;
      fields_keep_rules = s.0;
      methods_keep_rules = s.1;
      named = r.1;
    }

structure-from_Fits : (major : ℕ) (pool : List Entry) (b : Body) → Fits pool b → IsTrue (body_fits (structure_of major pool b)) × IsTrue (attributes_keep_rules (structure_of major pool b))
structure-from_Fits major pool b h = (
  and_from _ _ (and_from _ _ (and_from _ _ (and_from _ _ (and_from _ _ (and_from _ _ h.access_flags h.this_class) h.super_class) h.interfaces) h.fields) h.methods) h.attributes,
  and_from _ _ (and_from _ _ h.fields_keep_rules h.methods_keep_rules) h.named,
)

body-from_Fits : (pool : List Entry) (b : Body) → Fits pool b → IsTrue ((class_body pool).fits b)
body-from_Fits pool b h =
    let fs = table_both field_fits (field_attributes_keep_rules pool) b.1.1.0 h.fields h.fields_keep_rules in
    let ms = table_both method_fits (method_attributes_keep_rules pool) b.1.1.1.0 h.methods h.methods_keep_rules in
    let as' = field_attributes_enter pool false b.1.1.1.1 h.attributes (and_from _ _ h.named refl) in
    and_from _ _ (and_from _ _ h.access_flags (and_from _ _ h.this_class h.super_class)) (and_from _ _ h.interfaces (and_from _ _ fs (and_from _ _ ms as')))

Fits-from_body : (pool : List Entry) (b : Body) → IsTrue ((class_body pool).fits b) → Fits pool b
Fits-from_body pool b h =
    let i : Bool = table_fits half.fits b.1.0 in
    let f : Bool = (table (field pool)).fits b.1.1.0 in
    let m : Bool = (table (method pool)).fits b.1.1.1.0 in
    let l : Bool = (field_attributes pool false).fits b.1.1.1.1 in
    let a = and_parts (three.fits b.0) (i && (f && (m && l))) h in
    let c = and_parts (half.fits b.0.0) (half.fits b.0.1.0 && half.fits b.0.1.1) a.0 in
    let d = and_parts (half.fits b.0.1.0) (half.fits b.0.1.1) c.1 in
    let e = and_parts i (f && (m && l)) a.1 in
    let g = and_parts f (m && l) e.1 in
    let j = and_parts m l g.1 in
    let fs = table_parts field_fits (field_attributes_keep_rules pool) b.1.1.0 g.0 in
    let ms = table_parts method_fits (method_attributes_keep_rules pool) b.1.1.1.0 j.0 in
    let as' = field_attributes_leave pool false b.1.1.1.1 j.1 in
    record {
      access_flags = c.0;
      this_class = d.0;
      super_class = d.1;
      interfaces = e.0;
      fields = fs.0;
      methods = ms.0;
      attributes = as'.fit;
      fields_keep_rules = fs.1;
      methods_keep_rules = ms.1;
      named = (and_parts (all_named pool b.1.1.1.1) true as'.right).0;
    }

abbrev made : ℕ → ℕ → List Entry → Body → ClassStructure
made minor major pool b = record (structure_of major pool b) { minor_version = minor }

pub same_structure : (major : ℕ) (c : ClassStructure) → (c.minor_version ≡ 0) × (c.major_version ≡ major) → c ≡ structure_of major c.constant_pool (body_of c)
same_structure major c v =
    ap (λ (n : ℕ). made n c.major_version c.constant_pool (body_of c)) v.0
    ∙ ap (λ (n : ℕ). made 0 n c.constant_pool (body_of c)) v.1

-- ---- behind the version

-- a structure's bytes behind its pool are read as its body
body_again : (major : ℕ) (bytes : List ℕ) (c : ClassStructure) → IsBehindVersion major bytes c → (class_body c.constant_pool).read (body_bytes c) ≡ Some (body_of c, [])
body_again major bytes c b =
    let pool = c.constant_pool in
    let fits = body-from_Fits pool (body_of c) (Fits-from_structure c b.fits b.attributes) in
    ap (class_body pool).read (body-spelling pool c ∙ sym (append-nil ((class_body pool).spelling (body_of c)))) ∙ (class_body_is pool).again (body_of c) [] fits

-- the bytes behind a pool are read as the body of the structure
rest_again : OnePool → (major : ℕ) (front rest : List ℕ) (pool : List Entry) → IsPool front pool → (c : ClassStructure) → IsBehindVersion major
    (front ++ rest) c → (pool ≡ c.constant_pool) × ((class_body pool).read rest ≡ Some (body_of c, []))
rest_again law major front rest pool is c b =
    let one = law front (pool_bytes c.constant_pool) rest (body_bytes c) pool c.constant_pool b.spelled is b.pool in
    (one.0, ap (λ (p : List Entry). (class_body p).read rest) one.0 ∙ ap (class_body c.constant_pool).read one.2 ∙ body_again major (front ++ rest) c b)

-- a body that was read is that of a structure
behind : (major : ℕ) (front rest : List ℕ) (pool : List Entry) (b : Body) → IsBytes rest → IsPool front pool → (class_body pool).read rest ≡
    Some (b, []) → IsBehindVersion major (front ++ rest) (structure_of major pool b)
behind major front rest pool b small is found =
    let one = (class_body_is pool).takes rest [] b small found in
    let fits = structure-from_Fits major pool b (Fits-from_body pool b one.1) in
    let same : rest ≡ body_bytes (structure_of major pool b) = one.0 ∙ append-nil ((class_body pool).spelling b) ∙ sym (body-spelling pool (structure_of major pool b)) in
    record {
      spelled = ap (λ (x : List ℕ). x ++ rest) is.spelled ∙ ap (λ (x : List ℕ). pool_bytes pool ++ x) same;
      version = (refl, refl);
      pool = subst (λ (x : List ℕ). IsPool x pool) is.spelled is;
      fits = fits.0;
      attributes = fits.1;
    }

-- what is kept of a body tells that it was read
kept_whole : (pool : List Entry) (o : Option (Body × List ℕ)) (seen : BodySeen) → (o >>= found_as (body_shown pool)) ≡ Some (seen, []) →
    (o ≡ Some (body_in o, [])) × (body_shown pool (body_in o) ≡ seen)
kept_whole pool None seen e = absurd cc
kept_whole pool (Some b) seen e =
    let same : (body_shown pool b.0, b.1) ≡ (seen, []) = is_some (body_shown pool b.0, b.1) (seen, []) e in
    (ap (λ (r : BodySeen × List ℕ). Some (b.0, r.1)) same, ap (λ (r : BodySeen × List ℕ). r.0) same)

pub AreBody-from : (pool : List Entry) (bytes : List ℕ) (seen : BodySeen) → IsBytes bytes → (body_kept pool).read bytes ≡ Some (seen, []) → AreBody pool bytes seen
AreBody-from pool bytes seen small e = sym ((body_keeps pool).reads bytes small) ∙ e

pub behind_kept : (major : ℕ) (front rest : List ℕ) (pool : List Entry) (seen : BodySeen) → IsBytes rest → IsPool front pool →
    (body_kept pool).read rest ≡ Some (seen, []) → IsBehindVersion major (front ++ rest) (structure_in major pool rest)
behind_kept major front rest pool seen small is e =
    let found = kept_whole pool ((class_body pool).read rest) seen (AreBody-from pool rest seen small e) in
    behind major front rest pool (body_in ((class_body pool).read rest)) small is found.0

-- where no body stands behind a pool there is no structure
pub no_body : OnePool → (major : ℕ) (front rest : List ℕ) (pool : List Entry) → IsBytes rest → IsPool front pool →
    ((body_kept pool).read rest >>= whole []) ≡ None → (c : ClassStructure) → IsBehindVersion major (front ++ rest) c → ⊥
no_body law major front rest pool small is none c b =
    let again = (rest_again law major front rest pool is c b).1 in
    let seen : (body_kept pool).read rest ≡ Some (body_shown pool (body_of c), []) = (body_keeps pool).reads rest small ∙ ap (λ (o : Option (Body × List ℕ)). o >>= found_as (body_shown pool)) again in
    let some : ((body_kept pool).read rest >>= whole []) ≡ Some (body_shown pool (body_of c), []) = ap (λ (o : Option (BodySeen × List ℕ)). o >>= whole []) seen in
    cc (none, some)

-- ---- the law

pub OneBehindVersion-holds : OnePool → OneBehindVersion
OneBehindVersion-holds law major bytes c d one two =
    let again = rest_again law major (pool_bytes c.constant_pool) (body_bytes c) c.constant_pool one.pool d (subst (λ (x : List ℕ). IsBehindVersion major x d) one.spelled two) in
    let same : (body_of c, []) ≡ (body_of d, []) = is_some (body_of c, []) (body_of d, []) (sym (body_again major bytes c one) ∙ again.1) in
    same_structure major c one.version
    ∙ ap (structure_of major c.constant_pool) (ap (λ (x : Body × List ℕ). x.0) same)
    ∙ ap (λ (p : List Entry). structure_of major p (body_of d)) again.0
    ∙ sym (same_structure major d two.version)

-- ---- for the answers

abbrev pub err : {A : Type 0} → PartsFault → Result A PartsFault
err e = Err e

fault_in : {A : Type 0} (e f : PartsFault) → err {A = A} e ≡ err {A = A} f → e ≡ f
fault_in e f same = cc

whole_fails : {A : Type 0} (read : Option (A × List ℕ)) (e : PartsFault) → e ≡ BadFormat → FailsWhole e read → (read >>= whole []) ≡ None
whole_fails read BadFormat is h = h
whole_fails read OutOfMemory is h = absurd cc

pub no_whole : {A : Type 0} (B : Type 0) (read : Option (A × List ℕ)) (e : PartsFault) → err {A = B} e ≡ err {A = B} BadFormat → FailsWhole e read → (read >>= whole []) ≡ None
no_whole B read e same h = whole_fails read e (fault_in {A = B} e BadFormat same) h
