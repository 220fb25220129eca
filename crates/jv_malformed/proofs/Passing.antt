-- What stands behind a pool, part by part.
use Rattle.std.proofs.Common.{◌≡◌, ℕ, ◌+◌, ◌-◌, ◌<◌, ◌≤◌, Bool, List, [], ◌∷◌, ◌++◌, length, Option, Some, None, refl, sym, ap, subst, ◌∙◌, arith, append_assoc, length-append}
use Rattle.std.specs.Prelude.{◌&&◌, nat_lt, take, drop}
use Rattle.std.specs.List.{flat_map, list_all}
use Rattle.std.specs.Borrow.{Bor}
use Rattle.std.proofs.lemmas.Bool.{and_parts, and_from, ltb-true, lt-ltb}
use Rattle.std.proofs.lemmas.List.{append-nil, take-append-drop}
use Rattle.jv_format.specs.Format.{Format, IsBytes, half, ◌>>=◌}
use Rattle.jv_format.specs.Readers.{list_read, found_as, then_read}
use Rattle.jv_format.proofs.Laws.{is_some, IsFormat, bind_some, IsBytes-rest, half_is, none_spelled, with_front, just, goes_on, ends}
use Rattle.jv_pool.specs.Constants.{Entry, pool_bytes}
use Rattle.jv_pool.specs.Rules.{IsPool}
use Rattle.jv_class_structure.specs.Structure.{ClassStructure, table_bytes, attribute_bytes, field_bytes, method_bytes, body_bytes, attribute_fits, field_fits, method_fits}
use Rattle.jv_class_structure.specs.Attributes.{has_utf8_name, field_attributes_keep_rules, method_attributes_keep_rules}
use Rattle.jv_class_structure.specs.Parts.{IsBehindVersion}
use Rattle.jv_class_structure.specs.Inside.Reading.{Three, three, items_of, table}
use Rattle.jv_class_structure.proofs.Lists.{all_parts}
use Rattle.jv_class_structure.proofs.Forms.{Keeps, table_is}
use Rattle.jv_class_structure.proofs.MemberLaws.{three_is}
use Rattle.jv_malformed.specs.First.{BeginsWithItems, IsFirstMissing}
use Rattle.jv_malformed.specs.Part.{BeginsWithPool, BeginsWithTable, BeginsWithHead, BeginsWithMethods, attribute_stands, IsFaultyBehindPool}
use Rattle.jv_malformed.specs.Inside.Behind.{NoStructure}
use Rattle.jv_malformed.specs.Inside.Passing.{AreInterfacesPassed, IsHeadPassed, IsFaultyUnlessWhole}
use Rattle.jv_malformed.specs.declared.structure.FaultyStructure.{FaultyStructure}
use Rattle.jv_malformed.proofs.Items.{begins_on}

differ : {A : Type 0} (o : Option A) (x : A) → o ≡ None → o ≡ Some x → ⊥
differ o x none some = cc

-- ---- a table, item by item

-- the items of a table that were passed, of which the next one has this place
pub record Passed {A : Type 0} (spelling : A → List ℕ) (may_stand : A → Bool) (count place : ℕ) (rest bytes : List ℕ) : Type 0 where
  pub items : List A
  pub begins : BeginsWithItems spelling may_stand count items rest bytes
  pub numbered : length items ≡ place

pub pass_start : {A : Type 0} (spelling : A → List ℕ) (may_stand : A → Bool) (bytes behind : List ℕ) (count : ℕ) → IsBytes bytes → half.read bytes ≡ Some (count, behind)
    → Passed spelling may_stand count 0 behind bytes
pass_start spelling may_stand bytes behind count small e =
    let took = half_is.takes bytes behind count small e in
    record { items = []; begins = record { count_fits = ltb-true count 65536 took.1; stand = refl; begins = took.0 }; numbered = refl }

pub pass_all : {A : Type 0} (spelling : A → List ℕ) (may_stand : A → Bool) (count place : ℕ) (rest bytes : List ℕ) → place ≡ count
    → Passed spelling may_stand count place rest bytes → BeginsWithTable spelling may_stand rest bytes
pass_all spelling may_stand count place rest bytes end so_far =
    let all : count ≡ length so_far.items = sym (so_far.numbered ∙ end) in
    (so_far.items, subst (λ (n : ℕ). BeginsWithItems spelling may_stand n so_far.items rest bytes) all so_far.begins)

module _ {A S : Type 0} (g : Format S) (s : A → S) (f : Format A) (F : IsFormat f) (K : Keeps g s f) where
  kept_some : (bytes after : List ℕ) (x : S) → IsBytes bytes → g.read bytes ≡ Some (x, after) → (a : A) × (f.read bytes ≡ Some (a, after))
  kept_some bytes after x small e =
      let b = bind_some (f.read bytes) (found_as s) (x, after) (sym (K.reads bytes small) ∙ e) in
      let made : S × List ℕ = (s b.0.0, b.0.1) in
      let same : b.0.1 ≡ after = ap (λ (y : S × List ℕ). y.1) (is_some made (x, after) b.2) in
      (b.0.0, b.1 ∙ ap (λ (r : List ℕ). just (b.0.0, r)) same)

  none_kept : (o : Option (A × List ℕ)) → (o >>= found_as s) ≡ None → o ≡ None
  none_kept None e = refl
  none_kept (Some x) e = absurd cc

  pub pass_on : (count place : ℕ) (rest after bytes : List ℕ) (x : S) → IsBytes bytes → g.read rest ≡ Some (x, after)
      → Passed f.spelling f.fits count place rest bytes → Passed f.spelling f.fits count (place + 1) after bytes
  pass_on count place rest after bytes x small e so_far =
      let inside : IsBytes rest = IsBytes-rest (half.spelling count ++ flat_map f.spelling so_far.items) rest bytes so_far.begins.begins small in
      let a = kept_some rest after x inside e in
      let took = F.takes rest after a.0 inside a.1 in
      let before : length so_far.items ≡ place = so_far.numbered in
      record {
        items = so_far.items ++ a.0 ∷ [];
        begins = begins_on f.spelling f.fits count so_far.items rest after bytes a.0 so_far.begins took.0 took.1;
        numbered = omega (arith, length-append so_far.items (a.0 ∷ []), before);
      }

  pub pass_missing : (count place : ℕ) (rest bytes : List ℕ) → IsBytes bytes → place < count → g.read rest ≡ None
      → Passed f.spelling f.fits count place rest bytes → IsFirstMissing f.spelling f.fits length place bytes
  pass_missing count place rest bytes small lt e so_far =
      let inside : IsBytes rest = IsBytes-rest (half.spelling count ++ flat_map f.spelling so_far.items) rest bytes so_far.begins.begins small in
      let none : f.read rest ≡ None = none_kept (f.read rest) (sym (K.reads rest inside) ∙ e) in
      record {
        count = count;
        before = so_far.items;
        rest = rest;
        begins = so_far.begins;
        numbered = so_far.numbered;
        wanted = lt;
        none = λ x after fits is. none_spelled f F rest none x after fits is;
      }

pub cut_count : (bytes : List ℕ) → half.read bytes ≡ None → length bytes < 2
cut_count [] e = omega arith
cut_count (a ∷ []) e = omega arith
cut_count (a ∷ b ∷ rest) e = absurd cc

-- ---- interfaces

-- the interfaces that were passed
pub record HalvesPassed (count i : ℕ) (rest bytes : List ℕ) : Type 0 where
  pub before : List ℕ
  pub read : with_front before (list_read half (count - i) rest) ≡ (table half).read bytes

nothing_before : (o : Option (List ℕ × List ℕ)) → with_front [] o ≡ o
nothing_before None = refl
nothing_before (Some x) = refl

pub halves_start : (bytes behind : List ℕ) (count : ℕ) → half.read bytes ≡ Some (count, behind) → HalvesPassed count 0 behind bytes
halves_start bytes behind count e =
    let all : count - 0 ≡ count = omega arith in
    record {
      before = [];
      read = ap (λ (n : ℕ). with_front [] (list_read half n behind)) all ∙ nothing_before (list_read half count behind)
          ∙ sym (ap (λ (o : Option (ℕ × List ℕ)). o >>= then_read (items_of half)) e);
    }

pub halves_on : (count i : ℕ) (rest after bytes : List ℕ) (x : ℕ) → i < count → half.read rest ≡ Some (x, after) → HalvesPassed count i rest bytes
    → HalvesPassed count (i + 1) after bytes
halves_on count i rest after bytes x lt e so_far =
    record { before = so_far.before ++ x ∷ []; read = goes_on half so_far.before count i rest x after ((table half).read bytes) lt e so_far.read }

pub halves_end : (count i : ℕ) (rest bytes : List ℕ) → i < count → half.read rest ≡ None → HalvesPassed count i rest bytes → (table half).read bytes ≡ None
halves_end count i rest bytes lt e so_far = ends half so_far.before count i rest ((table half).read bytes) lt e so_far.read

pub halves_done : (count i : ℕ) (rest bytes : List ℕ) → count ≤ i → HalvesPassed count i rest bytes → (interfaces : List ℕ) × ((table half).read bytes ≡ Some (interfaces, rest))
halves_done count i rest bytes le so_far =
    let k : count - i ≡ 0 = omega arith in
    (so_far.before, sym so_far.read ∙ ap (λ (n : ℕ). with_front so_far.before (list_read half n rest)) k ∙ ap (λ (t : List ℕ). just (t, rest)) (append-nil so_far.before))

pub no_interfaces : (bytes : List ℕ) → half.read bytes ≡ None → (table half).read bytes ≡ None
no_interfaces bytes e = ap (λ (o : Option (ℕ × List ℕ)). o >>= then_read (items_of half)) e

-- ---- the head

three_read : (rest bytes : List ℕ) (h : BeginsWithHead rest bytes) → three.read bytes ≡ Some ((h.access_flags, (h.this_class, h.super_class)), h.behind)
three_read rest bytes h =
    let a = and_parts (half.fits h.access_flags && half.fits h.this_class) (half.fits h.super_class) h.fit in
    let b = and_parts (half.fits h.access_flags) (half.fits h.this_class) a.0 in
    ap three.read h.begins ∙ three_is.again (h.access_flags, (h.this_class, h.super_class)) h.behind (and_from _ _ b.0 (and_from _ _ b.1 a.1))

pub no_head : (bytes : List ℕ) → three.read bytes ≡ None → (rest : List ℕ) → BeginsWithHead rest bytes → ⊥
no_head bytes none rest h = differ (three.read bytes) ((h.access_flags, (h.this_class, h.super_class)), h.behind) none (three_read rest bytes h)

pub head_passed : (bytes rest : List ℕ) (x : Three) (found : Option (Bor (List ℕ))) → IsBytes bytes → three.read bytes ≡ Some (x, rest) → AreInterfacesPassed rest found
    → IsHeadPassed bytes found
head_passed bytes rest x None small e none = λ last h.
    let same : rest ≡ h.behind =
    ap (λ (y : Three × List ℕ). y.1) (is_some (x, rest) ((h.access_flags, (h.this_class, h.super_class)), h.behind) (sym e ∙ three_read last bytes h)) in
    let items = h.interfaces in
    let fit = and_from _ _ (lt-ltb (length items.0) 65536 items.1.count_fits) items.1.stand in
    let again : (table half).read h.behind ≡ Some (items.0, last) = ap (table half).read items.1.begins ∙ (table_is half half_is).again items.0 last fit in
    differ ((table half).read rest) (items.0, last) none (ap (table half).read same ∙ again)
head_passed bytes rest x (Some last) small e found =
    let took = three_is.takes bytes rest x small e in
    let inside : IsBytes rest = IsBytes-rest (three.spelling x) rest bytes took.0 small in
    let items = (table_is half half_is).takes rest last.now found.0 inside found.1 in
    let counted = and_parts (nat_lt (length found.0) 65536) (list_all half.fits found.0) items.1 in
    let a = and_parts (half.fits x.0) (half.fits x.1.0 && half.fits x.1.1) took.1 in
    let b = and_parts (half.fits x.1.0) (half.fits x.1.1) a.1 in
    let stand : BeginsWithItems half.spelling half.fits (length found.0) found.0 last.now rest =
    record { count_fits = ltb-true (length found.0) 65536 counted.0; stand = counted.1; begins = items.0 } in
    record {
      access_flags = x.0;
      this_class = x.1.0;
      super_class = x.1.1;
      behind = rest;
      fit = and_from _ _ (and_from _ _ a.0 b.0) b.1;
      begins = took.0;
      interfaces = (found.0, stand);
    }

-- ---- the whole

body_parts : (f t s i fs ms as' : List ℕ) → ((f ++ t) ++ s) ++ (i ++ (fs ++ (ms ++ (as' ++ [])))) ≡ (((((f ++ t) ++ s) ++ i) ++ fs) ++ ms) ++ as'
body_parts f t s i fs ms as' = simp (append_assoc, append-nil)

-- all parts are those of a structure
structure_there : (major : ℕ) (bytes : List ℕ) (b : BeginsWithPool bytes) (rest : List ℕ) → BeginsWithMethods b.pool rest b.rest
    → BeginsWithTable attribute_bytes (attribute_stands b.pool) [] rest → (c : ClassStructure) × IsBehindVersion major bytes c
structure_there major bytes b rest members attributes =
    let pool = b.pool in
    let head = members.1.1 in
    let is = head.interfaces in
    let fs = members.1.2 in
    let ms = members.2 in
    let c : ClassStructure = record {
      minor_version = 0;
      major_version = major;
      constant_pool = pool;
      access_flags = head.access_flags;
      this_class = head.this_class;
      super_class = head.super_class;
      interfaces = is.0;
      fields = fs.0;
      methods = ms.0;
      attributes = attributes.0;
    } in
    let front : List ℕ = half.spelling head.access_flags ++ half.spelling head.this_class ++ half.spelling head.super_class in
    let body : b.rest ≡ body_bytes c =
    head.begins ∙ ap (λ (t : List ℕ). front ++ t) (is.1.begins ∙ ap (λ (t : List ℕ). table_bytes half.spelling is.0 ++ t) (fs.1.begins
    ∙ ap (λ (t : List ℕ). table_bytes field_bytes fs.0 ++ t) (ms.1.begins ∙ ap (λ (t : List ℕ). table_bytes method_bytes ms.0 ++ t) attributes.1.begins)))
    ∙ body_parts (half.spelling head.access_flags) (half.spelling head.this_class) (half.spelling head.super_class) (table_bytes half.spelling is.0)
    (table_bytes field_bytes fs.0) (table_bytes method_bytes ms.0) (table_bytes attribute_bytes attributes.0) in
    let fields = all_parts field_fits (field_attributes_keep_rules pool) fs.0 fs.1.stand in
    let methods = all_parts method_fits (method_attributes_keep_rules pool) ms.0 ms.1.stand in
    let named = all_parts attribute_fits (has_utf8_name pool) attributes.0 attributes.1.stand in
    let interfaces_fit = and_from _ _ (lt-ltb (length is.0) 65536 is.1.count_fits) is.1.stand in
    let fields_fit = and_from _ _ (lt-ltb (length fs.0) 65536 fs.1.count_fits) fields.0 in
    let methods_fit = and_from _ _ (lt-ltb (length ms.0) 65536 ms.1.count_fits) methods.0 in
    let attributes_fit = and_from _ _ (lt-ltb (length attributes.0) 65536 attributes.1.count_fits) named.0 in
    let behind : IsBehindVersion major bytes c = record {
      spelled = b.begins ∙ ap (λ (t : List ℕ). t ++ b.rest) b.is_pool.spelled ∙ ap (λ (t : List ℕ). pool_bytes pool ++ t) body;
      version = (refl, refl);
      pool = subst (λ (t : List ℕ). IsPool t pool) b.is_pool.spelled b.is_pool;
      fits = and_from _ _ (and_from _ _ (and_from _ _ (and_from _ _ head.fit interfaces_fit) fields_fit) methods_fit) attributes_fit;
      attributes = and_from _ _ (and_from _ _ fields.1 methods.1) named.1;
    } in
    (c, behind)

pub structure_told : (major n : ℕ) (bytes rest : List ℕ) (pool : List Entry) (fault : FaultyStructure) → rest ≡ drop n bytes → IsPool (take n bytes) pool
    → NoStructure major bytes → IsFaultyUnlessWhole pool rest fault → IsFaultyBehindPool bytes fault
structure_told major n bytes rest pool fault back is none h =
    let b : BeginsWithPool bytes = record {
      pool = pool;
      front = take n bytes;
      rest = rest;
      begins = sym (take-append-drop n bytes) ∙ ap (λ (t : List ℕ). take n bytes ++ t) (sym back);
      is_pool = is;
    } in
    (b, h (λ last members attributes. let c = structure_there major bytes b last members attributes in none c.0 c.1))
