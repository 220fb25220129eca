-- The two laws of a constant and of a list of constants, and what follows for pools.
use Rattle.std.proofs.Common.{◌≡◌, ℕ, zero, suc, ◌≤◌, take, ◌+◌, ◌-◌, ◌<◌, length, Bool, true, false, cond, eqb, List, [], ◌∷◌, ◌++◌, Option, Some, None, refl, sym, ap, subst, ◌∙◌, arith, eq-eqb, append_assoc}
use Rattle.std.specs.Prelude.{IsTrue, nat_lt, ◌&&◌}
use Rattle.std.specs.List.{list_all, flat_map, All}
use Rattle.std.proofs.lemmas.Bool.{and_parts, and_from, eqb-true}
use Rattle.std.proofs.lemmas.Bool.Decides.{nat_tests}
use Rattle.std.proofs.lemmas.Grind.{common_steps}
use Rattle.std.proofs.lemmas.List.{length-append, take_at}
use Rattle.jv_format.specs.Format.{Format, byte, half, quad, text, ◌>>=◌, IsBytes}
use Rattle.jv_format.specs.Readers.{both, never, then_read}
use Rattle.jv_format.proofs.Laws.{is_some, IsFormat, Took, byte_is, half_is, quad_is, both_is, text_is, never_is, choice_is, after_is, by_test, took, again_as, bind_some, IsBytes-rest}
use Rattle.jv_pool.specs.declared.constant.Constant.TheVariants.{Utf8, Integer, Float, Long, Double, Class, String, Fieldref, Methodref, InterfaceMethodref, NameAndType, MethodHandle, MethodType, InvokeDynamic}
use Rattle.jv_pool.specs.declared.shape.QuadKind.{QuadKind}
use Rattle.jv_pool.specs.declared.shape.QuadKind.TheVariants as quads
use Rattle.jv_pool.specs.declared.shape.TwoQuadsKind.{TwoQuadsKind}
use Rattle.jv_pool.specs.declared.shape.TwoQuadsKind.TheVariants as two_quads
use Rattle.jv_pool.specs.declared.shape.HalfKind.{HalfKind}
use Rattle.jv_pool.specs.declared.shape.HalfKind.TheVariants as halves
use Rattle.jv_pool.specs.declared.shape.TwoHalvesKind.{TwoHalvesKind}
use Rattle.jv_pool.specs.declared.shape.TwoHalvesKind.TheVariants as two_halves
use Rattle.jv_pool.specs.declared.shape.ConstantShape.{ConstantShape}
use Rattle.jv_pool.specs.declared.shape.ConstantShape.TheVariants as shapes
use Rattle.jv_pool.specs.declared.fault.PoolFault.{PoolFault}
use Rattle.jv_pool.specs.declared.fault.PoolFault.TheVariants.{BadPool, OutOfMemory}
use Rattle.jv_pool.specs.Constants.{Entry, constant_bytes, constant_fits, takes_two, table_of, pool_count, pool_bytes, pool_fits}
use Rattle.jv_pool.specs.Rules.{KeepsRules, IsPool, OnePool}
use Rattle.jv_pool.specs.Inside.Reading.{shape_of, utf8, of_quad, of_two_quads, of_half, of_two_halves, method_handle, shaped_read, contents_read, constant_read, entries_read, entries, so_many_constants, constants, Fails}

-- ---- the tag of a shape

tag_of : ConstantShape → ℕ
tag_of shapes.Text = 1
tag_of (shapes.Quad quads.Integer) = 3
tag_of (shapes.Quad quads.Float) = 4
tag_of (shapes.TwoQuads two_quads.Long) = 5
tag_of (shapes.TwoQuads two_quads.Double) = 6
tag_of (shapes.Half halves.Class) = 7
tag_of (shapes.Half halves.String) = 8
tag_of (shapes.Half halves.MethodType) = 16
tag_of (shapes.TwoHalves two_halves.Fieldref) = 9
tag_of (shapes.TwoHalves two_halves.Methodref) = 10
tag_of (shapes.TwoHalves two_halves.InterfaceMethodref) = 11
tag_of (shapes.TwoHalves two_halves.NameAndType) = 12
tag_of (shapes.TwoHalves two_halves.InvokeDynamic) = 18
tag_of shapes.ByteAndHalf = 15

-- the shape that a test of the tag gave
tested : (tag k : ℕ) (one shape : ConstantShape) → k ≡ tag_of one → eqb tag k ≡ true → Some one ≡ Some shape → tag ≡ tag_of shape
tested tag k one shape own t r = eqb-true tag k t ∙ own ∙ ap tag_of (is_some one shape r)

tag_is : (tag : ℕ) (shape : ConstantShape) → shape_of tag ≡ Some shape → tag ≡ tag_of shape
unfolding tag_of
tag_is tag shape e =
    by_test _ _ _ _ e (λ t r. tested tag 1 shapes.Text shape refl t r) (λ e.
    by_test _ _ _ _ e (λ t r. tested tag 3 (shapes.Quad quads.Integer) shape refl t r) (λ e.
    by_test _ _ _ _ e (λ t r. tested tag 4 (shapes.Quad quads.Float) shape refl t r) (λ e.
    by_test _ _ _ _ e (λ t r. tested tag 5 (shapes.TwoQuads two_quads.Long) shape refl t r) (λ e.
    by_test _ _ _ _ e (λ t r. tested tag 6 (shapes.TwoQuads two_quads.Double) shape refl t r) (λ e.
    by_test _ _ _ _ e (λ t r. tested tag 7 (shapes.Half halves.Class) shape refl t r) (λ e.
    by_test _ _ _ _ e (λ t r. tested tag 8 (shapes.Half halves.String) shape refl t r) (λ e.
    by_test _ _ _ _ e (λ t r. tested tag 9 (shapes.TwoHalves two_halves.Fieldref) shape refl t r) (λ e.
    by_test _ _ _ _ e (λ t r. tested tag 10 (shapes.TwoHalves two_halves.Methodref) shape refl t r) (λ e.
    by_test _ _ _ _ e (λ t r. tested tag 11 (shapes.TwoHalves two_halves.InterfaceMethodref) shape refl t r) (λ e.
    by_test _ _ _ _ e (λ t r. tested tag 12 (shapes.TwoHalves two_halves.NameAndType) shape refl t r) (λ e.
    by_test _ _ _ _ e (λ t r. tested tag 15 shapes.ByteAndHalf shape refl t r) (λ e.
    by_test _ _ _ _ e (λ t r. tested tag 16 (shapes.Half halves.MethodType) shape refl t r) (λ e.
    by_test _ _ _ _ e (λ t r. tested tag 18 (shapes.TwoHalves two_halves.InvokeDynamic) shape refl t r) (λ e. absurd cc))))))))))))))

-- ---- one constant

pairs_is : IsFormat (both half half)
pairs_is = both_is half half half_is half_is

wide_is : IsFormat (both quad quad)
wide_is = both_is quad quad quad_is quad_is

handle_is : IsFormat (both byte half)
handle_is = both_is byte half byte_is half_is

-- a constant behind its tag
abbrev Behind : ℕ → ConstantShape → Type 0
Behind tag shape = (bytes rest : List ℕ) (c : Entry) → IsBytes bytes → shaped_read shape bytes ≡ Some (c, rest) → Took constant_bytes constant_fits tag bytes rest c

quad_takes : (tag : ℕ) (kind : QuadKind) → ((n : ℕ) → constant_bytes (of_quad kind n) ≡ tag ∷ quad.spelling n) →
    ((n : ℕ) → constant_fits (of_quad kind n) ≡ quad.fits n) → eqb tag tag ≡ true → Behind tag (shapes.Quad kind)
quad_takes tag kind spelled fit same bytes rest c small e = took constant_bytes constant_fits quad (of_quad kind) tag tag bytes rest c quad_is small spelled fit same e

two_quads_takes : (tag : ℕ) (kind : TwoQuadsKind) → ((p : ℕ × ℕ) → constant_bytes (of_two_quads kind p) ≡ tag ∷ (both quad quad).spelling p) →
    ((p : ℕ × ℕ) → constant_fits (of_two_quads kind p) ≡ (both quad quad).fits p) → eqb tag tag ≡ true → Behind tag (shapes.TwoQuads kind)
two_quads_takes tag kind spelled fit same bytes rest c small e = took constant_bytes constant_fits (both quad quad) (of_two_quads kind) tag tag bytes rest c wide_is small spelled fit same e

half_takes : (tag : ℕ) (kind : HalfKind) → ((n : ℕ) → constant_bytes (of_half kind n) ≡ tag ∷ half.spelling n) →
    ((n : ℕ) → constant_fits (of_half kind n) ≡ half.fits n) → eqb tag tag ≡ true → Behind tag (shapes.Half kind)
half_takes tag kind spelled fit same bytes rest c small e = took constant_bytes constant_fits half (of_half kind) tag tag bytes rest c half_is small spelled fit same e

two_halves_takes : (tag : ℕ) (kind : TwoHalvesKind) → ((p : ℕ × ℕ) → constant_bytes (of_two_halves kind p) ≡ tag ∷ (both half half).spelling p) →
    ((p : ℕ × ℕ) → constant_fits (of_two_halves kind p) ≡ (both half half).fits p) → eqb tag tag ≡ true → Behind tag (shapes.TwoHalves kind)
two_halves_takes tag kind spelled fit same bytes rest c small e = took constant_bytes constant_fits (both half half) (of_two_halves kind) tag tag bytes rest c pairs_is small spelled fit same e

text_takes : Behind 1 shapes.Text
text_takes bytes rest c small e = took constant_bytes constant_fits text utf8 1 1 bytes rest c text_is small (λ a. refl) (λ a. refl) refl e

handle_takes : Behind 15 shapes.ByteAndHalf
handle_takes bytes rest c small e = took constant_bytes constant_fits (both byte half) method_handle 15 15 bytes rest c handle_is small (λ a. refl) (λ a. refl) refl e

shaped_takes : (shape : ConstantShape) → Behind (tag_of shape) shape
unfolding tag_of
shaped_takes shapes.Text = text_takes
shaped_takes (shapes.Quad quads.Integer) = quad_takes 3 quads.Integer (λ a. refl) (λ a. refl) refl
shaped_takes (shapes.Quad quads.Float) = quad_takes 4 quads.Float (λ a. refl) (λ a. refl) refl
shaped_takes (shapes.TwoQuads two_quads.Long) = two_quads_takes 5 two_quads.Long (λ a. refl) (λ a. refl) refl
shaped_takes (shapes.TwoQuads two_quads.Double) = two_quads_takes 6 two_quads.Double (λ a. refl) (λ a. refl) refl
shaped_takes (shapes.Half halves.Class) = half_takes 7 halves.Class (λ a. refl) (λ a. refl) refl
shaped_takes (shapes.Half halves.String) = half_takes 8 halves.String (λ a. refl) (λ a. refl) refl
shaped_takes (shapes.Half halves.MethodType) = half_takes 16 halves.MethodType (λ a. refl) (λ a. refl) refl
shaped_takes (shapes.TwoHalves two_halves.Fieldref) = two_halves_takes 9 two_halves.Fieldref (λ a. refl) (λ a. refl) refl
shaped_takes (shapes.TwoHalves two_halves.Methodref) = two_halves_takes 10 two_halves.Methodref (λ a. refl) (λ a. refl) refl
shaped_takes (shapes.TwoHalves two_halves.InterfaceMethodref) = two_halves_takes 11 two_halves.InterfaceMethodref (λ a. refl) (λ a. refl) refl
shaped_takes (shapes.TwoHalves two_halves.NameAndType) = two_halves_takes 12 two_halves.NameAndType (λ a. refl) (λ a. refl) refl
shaped_takes (shapes.TwoHalves two_halves.InvokeDynamic) = two_halves_takes 18 two_halves.InvokeDynamic (λ a. refl) (λ a. refl) refl
shaped_takes shapes.ByteAndHalf = handle_takes

contents_take : (tag : ℕ) (found : Option ConstantShape) (bytes rest : List ℕ) (c : Entry) → IsBytes bytes → shape_of tag ≡ found →
    contents_read found bytes ≡ Some (c, rest) → Took constant_bytes constant_fits tag bytes rest c
contents_take tag None bytes rest c small s e = absurd cc
contents_take tag (Some shape) bytes rest c small s e = rw (tag_is tag shape s) (shaped_takes shape bytes rest c small e)

pub constant_takes : (bytes rest : List ℕ) (c : Entry) → IsBytes bytes → constant_read bytes ≡ Some (c, rest) → (bytes ≡ constant_bytes c ++ rest) × IsTrue (constant_fits c)
constant_takes [] rest c small e = absurd cc
constant_takes (tag ∷ bytes) rest c small e = let more : IsBytes bytes = λ k. small (suc k) in contents_take tag (shape_of tag) bytes rest c more refl e

constant_again : (c : Entry) (rest : List ℕ) → IsTrue (constant_fits c) → constant_read (constant_bytes c ++ rest) ≡ Some (c, rest)
constant_again (Utf8 t) rest h = again_as text utf8 t rest text_is h
constant_again (Integer n) rest h = again_as quad (of_quad quads.Integer) n rest quad_is h
constant_again (Float n) rest h = again_as quad (of_quad quads.Float) n rest quad_is h
constant_again (Long a b) rest h = again_as (both quad quad) (of_two_quads two_quads.Long) (a, b) rest wide_is h
constant_again (Double a b) rest h = again_as (both quad quad) (of_two_quads two_quads.Double) (a, b) rest wide_is h
constant_again (Class n) rest h = again_as half (of_half halves.Class) n rest half_is h
constant_again (String n) rest h = again_as half (of_half halves.String) n rest half_is h
constant_again (Fieldref a b) rest h = again_as (both half half) (of_two_halves two_halves.Fieldref) (a, b) rest pairs_is h
constant_again (Methodref a b) rest h = again_as (both half half) (of_two_halves two_halves.Methodref) (a, b) rest pairs_is h
constant_again (InterfaceMethodref a b) rest h = again_as (both half half) (of_two_halves two_halves.InterfaceMethodref) (a, b) rest pairs_is h
constant_again (NameAndType a b) rest h = again_as (both half half) (of_two_halves two_halves.NameAndType) (a, b) rest pairs_is h
constant_again (MethodHandle a b) rest h = again_as (both byte half) method_handle (a, b) rest handle_is h
constant_again (MethodType n) rest h = again_as half (of_half halves.MethodType) n rest half_is h
constant_again (InvokeDynamic a b) rest h = again_as (both half half) (of_two_halves two_halves.InvokeDynamic) (a, b) rest pairs_is h

-- ---- the table

-- the constants behind an entry that belongs to one before them fill one less than n entries
abbrev entry_count : Bool → List Entry → ℕ
entry_count true cs = suc (length (table_of cs))
entry_count false cs = length (table_of cs)

abbrev Reads : Bool → ℕ → Type 0
Reads flag n =
    (bytes rest : List ℕ) (cs : List Entry) → IsBytes bytes → entries_read flag n bytes ≡ Some (cs, rest)
    → (bytes ≡ flat_map constant_bytes cs ++ rest) × (entry_count flag cs ≡ n) × IsTrue (list_all constant_fits cs)

-- one constant more
counts : (c : Entry) (cs : List Entry) (n : ℕ) (two : Bool) → takes_two c ≡ two → entry_count two cs ≡ n → length (table_of (c ∷ cs)) ≡ suc n
counts c cs n true is e = rw is (ap (λ (k : ℕ). suc k) e)
counts c cs n false is e = rw is (ap (λ (k : ℕ). suc k) e)

entries_take : (flag : Bool) (n : ℕ) → Reads flag n
entries_take true zero bytes rest cs small e = absurd cc
entries_take false zero bytes rest cs small e =
    let same : ([], bytes) ≡ (cs, rest) = is_some ([], bytes) (cs, rest) e in
    let none : [] ≡ cs = ap (λ (y : List Entry × List ℕ). y.0) same in
    let all : bytes ≡ rest = ap (λ (y : List Entry × List ℕ). y.1) same in
    rw (← none, ← all) (refl, refl, refl)
entries_take true (suc n) bytes rest cs small e =
    let more = entries_take false n bytes rest cs small e in
    (more.0, ap suc more.1, more.2)
entries_take false (suc n) bytes rest cs small e =
    let a = bind_some (constant_read bytes) (λ c. entries_read (takes_two c.0) n c.1 >>= λ cs. Some (c.0 ∷ cs.0, cs.1)) (cs, rest) e in
    let b = bind_some (entries_read (takes_two a.0.0) n a.0.1) (λ cs. Some (a.0.0 ∷ cs.0, cs.1)) (cs, rest) a.2 in
    let one = constant_takes bytes a.0.1 a.0.0 small a.1 in
    let two = entries_take (takes_two a.0.0) n a.0.1 b.0.1 b.0.0 (IsBytes-rest (constant_bytes a.0.0) a.0.1 bytes one.0 small) b.1 in
    let made : List Entry × List ℕ = (a.0.0 ∷ b.0.0, b.0.1) in
    subst (λ (y : List Entry × List ℕ). (bytes ≡ flat_map constant_bytes y.0 ++ y.1) × (length (table_of y.0) ≡ suc n) × IsTrue (list_all constant_fits y.0)) (is_some made (cs, rest) b.2) (
      one.0 ∙ ap (λ (r : List ℕ). constant_bytes a.0.0 ++ r) two.0 ∙ sym (append_assoc (constant_bytes a.0.0) (flat_map constant_bytes b.0.0) b.0.1),
      counts a.0.0 b.0.0 n (takes_two a.0.0) refl two.1,
      and_from _ _ one.1 two.2,
    )

-- entries behind one that takes one or two
behind_again : (two : Bool) (cs : List Entry) (bytes rest : List ℕ) → entries_read false (length (table_of cs)) bytes ≡ Some (cs, rest) → entries_read two (entry_count two cs) bytes ≡ Some (cs, rest)
behind_again true cs bytes rest h = h
behind_again false cs bytes rest h = h

entries_again : (cs : List Entry) (rest : List ℕ) → IsTrue (list_all constant_fits cs) → entries_read false (length (table_of cs)) (flat_map constant_bytes cs ++ rest) ≡ Some (cs, rest)
entries_again [] rest h = refl
entries_again (c ∷ cs) rest h =
    let parts = and_parts (constant_fits c) (list_all constant_fits cs) h in
    let bytes = flat_map constant_bytes cs ++ rest in
    let two = takes_two c in
    let long : length (table_of (c ∷ cs)) ≡ suc (entry_count two cs) = counts c cs (entry_count two cs) two refl refl in
    let tail : entries_read two (entry_count two cs) bytes ≡ Some (cs, rest) = behind_again two cs bytes rest (entries_again cs rest parts.1) in
    ap (λ (n : ℕ). entries_read false n ((constant_bytes c ++ flat_map constant_bytes cs) ++ rest)) long
    ∙ ap (λ (b : List ℕ). entries_read false (suc (entry_count two cs)) b) (append_assoc (constant_bytes c) (flat_map constant_bytes cs) rest)
    ∙ ap (λ (o : Option (Entry × List ℕ)). o >>= λ c. entries_read (takes_two c.0) (entry_count two cs) c.1 >>= λ cs. Some (c.0 ∷ cs.0, cs.1)) (constant_again c bytes parts.0)
    ∙ ap (λ (o : Option (List Entry × List ℕ)). o >>= λ cs. Some (c ∷ cs.0, cs.1)) tail

entries_is : (n : ℕ) → IsFormat (entries n)
entries_is n = record {
  takes = λ bytes rest cs small e.
      let all = entries_take false n bytes rest cs small e in
      (all.0, and_from _ _ (eq-eqb (length (table_of cs)) n all.1) all.2);
  again = λ cs rest h.
      let parts = and_parts _ _ h in
      ap (λ (k : ℕ). entries_read false k (flat_map constant_bytes cs ++ rest)) (sym (eqb-true _ _ parts.0)) ∙ entries_again cs rest parts.1;
}

counted_is : (n : ℕ) → IsFormat (so_many_constants n)
counted_is n = choice_is _ _ _ never_is (entries_is (n - 1))

own_count : (n : ℕ) (p : List Entry) → IsTrue ((so_many_constants n).fits p) → pool_count p ≡ n
own_count n p h = grind (arith, common_steps, nat_tests)

pub constants_is : IsFormat constants
constants_is = after_is half pool_count so_many_constants half_is counted_is own_count

-- there is a count
counted_some : (p : List Entry) → so_many_constants (pool_count p) ≡ entries (length (table_of p) + 1 - 1)
counted_some p =
    let no : eqb (length (table_of p) + 1) 0 ≡ false = grind (arith, common_steps, nat_tests) in
    ap (λ (b : Bool). cond b never (entries (length (table_of p) + 1 - 1))) no

pub constants-spelling : (p : List Entry) → constants.spelling p ≡ pool_bytes p
constants-spelling p = ap (λ (f : Format (List Entry)). half.spelling (pool_count p) ++ f.spelling p) (counted_some p)

pub constants-fits : (p : List Entry) → constants.fits p ≡ pool_fits p
constants-fits p =
    let n = length (table_of p) in
    let same : eqb n (n + 1 - 1) ≡ true = grind (arith, common_steps, nat_tests) in
    ap (λ (f : Format (List Entry)). nat_lt (n + 1) 65536 && f.fits p) (counted_some p)
    ∙ ap (λ (b : Bool). nat_lt (n + 1) 65536 && (b && list_all constant_fits p)) same

-- ---- reading

-- the constants behind a count
pub constants_read : (bytes rest : List ℕ) (n : ℕ) → half.read bytes ≡ Some (n, rest) → 0 < n → constants.read bytes ≡ entries_read false (n - 1) rest
constants_read bytes rest n h lt =
    let no : eqb n 0 ≡ false = grind (arith, common_steps, nat_tests) in
    ap (λ (o : Option (ℕ × List ℕ)). o >>= then_read so_many_constants) h
    ∙ ap (λ (b : Bool). (cond b never (entries (n - 1))).read rest) no

-- constants that were read, and keep their rules, are the pool of the bytes that they took
pub pool_taken : (bytes rest : List ℕ) (p : List Entry) → IsBytes bytes → constants.read bytes ≡ Some (p, rest) → All (KeepsRules p) p →
    (length rest ≤ length bytes) × IsPool (take (length bytes - length rest) bytes) p
pool_taken bytes rest p small e rules =
    let one = constants_is.takes bytes rest p small e in
    let len : length bytes ≡ length (constants.spelling p) + length rest = ap length one.0 ∙ length-append (constants.spelling p) rest in
    let front : take (length bytes - length rest) bytes ≡ constants.spelling p = ap (take (length bytes - length rest)) one.0 ∙
    take_at (constants.spelling p) rest (length bytes - length rest) (omega arith) in
    (omega arith, record { spelled = front ∙ constants-spelling p; fits = sym (constants-fits p) ∙ one.1; rules = rules })

-- a pool's bytes are read as that pool
pub pool_again : (bytes : List ℕ) (p : List Entry) (front rest : List ℕ) → bytes ≡ front ++ rest → IsPool front p → constants.read bytes ≡ Some (p, rest)
pool_again bytes p front rest is h =
    let fits : IsTrue (constants.fits p) = constants-fits p ∙ h.fits in
    ap constants.read (is ∙ ap (λ (x : List ℕ). x ++ rest) (h.spelled ∙ sym (constants-spelling p))) ∙ constants_is.again p rest fits

pub no_pool : (bytes : List ℕ) → constants.read bytes ≡ None → (p : List Entry) (front rest : List ℕ) → bytes ≡ front ++ rest → IsPool front p → ⊥
no_pool bytes none p front rest is h = let e = pool_again bytes p front rest is h in cc

-- constants that break their rules are in the way of a pool
pub no_other : (bytes after : List ℕ) (q : List Entry) → constants.read bytes ≡ Some (q, after) → (All (KeepsRules q) q → ⊥) →
    (p : List Entry) (front rest : List ℕ) → bytes ≡ front ++ rest → IsPool front p → ⊥
no_other bytes after q found broken p front rest is h =
    let e = pool_again bytes p front rest is h in
    let found_same : (q, after) ≡ (p, rest) = is_some (q, after) (p, rest) (sym found ∙ e) in
    let same : q ≡ p = ap (λ (x : List Entry × List ℕ). x.0) found_same in
    broken (rw same h.rules)

pub fails_bad : {A : Type 0} (read : Option A) (e : PoolFault) → e ≡ BadPool → Fails e read → read ≡ None
fails_bad read BadPool is g = g
fails_bad read OutOfMemory is g = absurd cc

pub OnePool-holds : OnePool
OnePool-holds front other rest after p q e one two =
    let a = pool_again (front ++ rest) p front rest refl one in
    let b = pool_again (front ++ rest) q other after e two in
    let same : (p, rest) ≡ (q, after) = is_some (p, rest) (q, after) (sym a ∙ b) in
    let pools : p ≡ q = ap (λ (x : List Entry × List ℕ). x.0) same in
    (pools, one.spelled ∙ ap pool_bytes pools ∙ sym two.spelled, ap (λ (x : List Entry × List ℕ). x.1) same)
