-- How the constants of a pool are gone over, and what is found of them.
use Rattle.std.proofs.Common.{◌≡◌, ℕ, suc, ◌+◌, ◌-◌, ◌<◌, ◌≤◌, length, Bool, true, false, ltb, inl, inr, List, [], ◌∷◌, ◌++◌, Option, Some, None, refl, sym, ap, ◌∙◌, arith, length-append}
use Rattle.std.specs.Prelude.{IsTrue, IfSome, nat_lt, take, drop}
use Rattle.std.specs.List.{flat_map, list_all}
use Rattle.std.specs.Option.{option_map}
use Rattle.std.proofs.lemmas.Bool.{and_parts, and_from, ltb-true, ltb-false, lt-ltb}
use Rattle.std.proofs.lemmas.Grind.{flat_map-append}
use Rattle.std.proofs.lemmas.List.{append-nil, take-append-drop}
use Rattle.jv_format.specs.Format.{IsBytes, half, ◌>>=◌}
use Rattle.jv_format.proofs.Laws.{IsBytes-rest, half_is}
use Rattle.jv_pool.specs.Constants.{Entry, constant_bytes, constant_fits, takes_two, entries_of, table_of, pool_count, at_index, kind_of}
use Rattle.jv_pool.specs.Rules.{KeepsRules}
use Rattle.jv_pool.specs.declared.constant.Kind.{Kind}
use Rattle.jv_pool.specs.Inside.Known.{IsKept}
use Rattle.jv_pool.specs.Inside.Reading.{constant, entries_read, constants}
use Rattle.jv_pool.proofs.Constants.{constant_takes, constants_is, constants-spelling, constants-fits, constants_read, pool_taken}
use Rattle.jv_malformed.specs.Part.{BeginsWithConstants, IsFaultyPool}
use Rattle.jv_malformed.specs.Inside.Pools.{IsBrokenAt, IsFoundBroken, IsFoundInPool}
use Rattle.jv_malformed.specs.declared.pool.FaultyPool.{FaultyPool}
use Rattle.jv_malformed.specs.declared.pool.FaultyPool.TheVariants.{Count, Missing, Broken}
use Rattle.jv_malformed.proofs.Items.{begins_on, first_breach}

differ : {A : Type 0} (o : Option A) (x : A) → o ≡ None → o ≡ Some x → ⊥
differ o x none some = cc

-- ---- constants that aren't spelled

-- the constants that were gone over, of which the next one has this index
pub record Walked (count index : ℕ) (rest bytes : List ℕ) : Type 0 where
  pub passed : List Entry
  pub begins : BeginsWithConstants count passed rest bytes
  pub numbered : pool_count passed ≡ index
  pub within : index ≤ count + 1

pub walk_start : (bytes behind : List ℕ) (count : ℕ) → IsBytes bytes → half.read bytes ≡ Some (count, behind) → Walked count 1 behind bytes
walk_start bytes behind count small e =
    let took = half_is.takes bytes behind count small e in
    record {
      passed = [];
      begins = record { count_fits = ltb-true count 65536 took.1; stand = refl; begins = took.0 };
      numbered = refl;
      within = omega arith;
    }

pub walk_on : (count index : ℕ) (rest after bytes : List ℕ) (c : Entry) (n : ℕ) → IsBytes bytes → index < count → constant.read rest ≡ Some (c, after)
    → n ≡ length (entries_of c) → n ≤ 2 → Walked count index rest bytes → Walked count (index + n) after bytes
walk_on count index rest after bytes c n small lt e taken few so_far =
    let old = so_far.passed in
    let took = constant_takes rest after c (IsBytes-rest (half.spelling count ++ flat_map constant_bytes old) rest bytes so_far.begins.begins small) e in
    let table : table_of (old ++ c ∷ []) ≡ table_of old ++ entries_of c =
    flat_map-append entries_of old (c ∷ []) ∙ ap (λ (t : List (Option Entry)). table_of old ++ t) (append-nil (entries_of c)) in
    let number : length (table_of (old ++ c ∷ [])) ≡ length (table_of old) + length (entries_of c) =
    ap length table ∙ length-append (table_of old) (entries_of c) in
    let before : length (table_of old) + 1 ≡ index = so_far.numbered in
    record {
      passed = old ++ c ∷ [];
      begins = begins_on constant_bytes constant_fits count old rest after bytes c so_far.begins took.0 took.1;
      numbered = omega (arith, number, taken, before);
      within = omega arith;
    }

-- its table has an entry, and at most two
one_entry : (c : Entry) (two : Bool) → takes_two c ≡ two → (m : ℕ) × (length (table_of (c ∷ [])) ≡ suc m) × (m ≤ 1)
one_entry c true e = (1, rw e refl, omega arith)
one_entry c false e = (0, rw e refl, omega arith)

-- where no constant is read, none is spelled
no_constant : (rest : List ℕ) → constant.read rest ≡ None → (c : Entry) (after : List ℕ) → IsTrue (constant_fits c) → rest ≡ constant_bytes c ++ after → ⊥
no_constant rest none c after fits is =
    let one = one_entry c (takes_two c) refl in
    let n : ℕ = pool_count (c ∷ []) in
    let size : n ≡ suc (suc one.0) = omega (arith, one.1) in
    let small : n < 65536 = omega (arith, one.2) in
    let behind : List ℕ = constant_bytes c ++ after in
    let spelled : constants.spelling (c ∷ []) ++ after ≡ half.spelling n ++ behind =
    ap (λ (t : List ℕ). t ++ after) (constants-spelling (c ∷ [])) ∙ ap (λ (t : List ℕ). (half.spelling n ++ t) ++ after) (append-nil (constant_bytes c)) in
    let fit : IsTrue (constants.fits (c ∷ [])) = constants-fits (c ∷ []) ∙ and_from _ _ (lt-ltb n 65536 small) (and_from _ _ fits refl) in
    let some : constants.read (half.spelling n ++ behind) ≡ Some (c ∷ [], after) = ap constants.read (sym spelled) ∙ constants_is.again (c ∷ []) after fit in
    let counted = constants_read (half.spelling n ++ behind) behind n (half_is.again n behind (lt-ltb n 65536 small)) (omega arith) in
    let next : n - 1 ≡ suc one.0 = omega arith in
    let nothing : entries_read false (suc one.0) behind ≡ None =
    ap (λ (o : Option (Entry × List ℕ)). o >>= λ c. entries_read (takes_two c.0) one.0 c.1 >>= λ cs. Some (c.0 ∷ cs.0, cs.1)) (ap constant.read (sym is) ∙ none) in
    differ (constants.read (half.spelling n ++ behind)) (c ∷ [], after) (counted ∙ ap (λ (k : ℕ). entries_read false k behind) next ∙ nothing) some

pub walk_missing : (count index : ℕ) (rest bytes : List ℕ) → index < count → constant.read rest ≡ None → Walked count index rest bytes → IsFaultyPool bytes (Missing index)
walk_missing count index rest bytes lt none so_far = record {
  count = count;
  before = so_far.passed;
  rest = rest;
  begins = so_far.begins;
  numbered = so_far.numbered;
  wanted = lt;
  none = no_constant rest none;
}

-- ---- the count

pub cut_count : (bytes : List ℕ) → half.read bytes ≡ None → IsFaultyPool bytes Count
cut_count [] e = inl (omega arith)
cut_count (a ∷ []) e = inl (omega arith)
cut_count (a ∷ b ∷ rest) e = absurd cc

-- constants that fill what the count wants are read
all_read : (count : ℕ) (pool : List Entry) (rest bytes : List ℕ) → BeginsWithConstants count pool rest bytes → pool_count pool ≡ count → constants.read bytes ≡ Some (pool, rest)
all_read count pool rest bytes b same =
    let spelled : bytes ≡ constants.spelling pool ++ rest =
    b.begins ∙ ap (λ (n : ℕ). (half.spelling n ++ flat_map constant_bytes pool) ++ rest) (sym same) ∙ ap (λ (t : List ℕ). t ++ rest) (sym (constants-spelling pool)) in
    let small : pool_count pool < 65536 = omega (arith, same, b.count_fits) in
    let fit : IsTrue (constants.fits pool) = constants-fits pool ∙ and_from _ _ (lt-ltb (pool_count pool) 65536 small) b.stand in
    ap constants.read spelled ∙ constants_is.again pool rest fit

pub walk_done : (count index : ℕ) (rest bytes : List ℕ) → count ≤ index → constants.read bytes ≡ None → Walked count index rest bytes → IsFaultyPool bytes Count
walk_done count index rest bytes le none so_far = by_order (ltb count index) refl
  where
    by_order : (b : Bool) → ltb count index ≡ b → IsFaultyPool bytes Count
    by_order true less =
        let lt : count < index = ltb-true count index less in
        let before : pool_count so_far.passed ≡ index = so_far.numbered in
        let within : index ≤ count + 1 = so_far.within in
        inr (count, so_far.passed, rest, so_far.begins, omega (arith, lt, before, within))
    by_order false more =
        let ge : index ≤ count = ltb-false count index more in
        let before : pool_count so_far.passed ≡ index = so_far.numbered in
        let same : pool_count so_far.passed ≡ count = omega (arith, ge, le, before) in
        absurd (differ (constants.read bytes) (so_far.passed, rest) none (all_read count so_far.passed rest bytes so_far.begins same))

-- ---- constants that break a rule

pub kept_none : (pool : List Entry) (o : Option Entry) → option_map kind_of o ≡ None → IsKept pool o
kept_none pool None e = tt
kept_none pool (Some c) e = absurd cc

kept_if : (pool : List Entry) (o : Option Entry) → IsKept pool o → IfSome o (KeepsRules pool)
kept_if pool None h = tt
kept_if pool (Some c) h = h

if_kept : (pool : List Entry) (o : Option Entry) → IfSome o (KeepsRules pool) → IsKept pool o
if_kept pool None h = tt
if_kept pool (Some c) h = h

pub broken_found : (pool : List Entry) (index : ℕ) (kind : Kind) → IsBrokenAt pool index (Some kind) → ((k : ℕ) → k < index → IsKept pool (at_index pool k))
    → IsFoundBroken pool (Some (Broken index kind))
broken_found pool index kind broken below = (
  broken.0,
  first_breach (KeepsRules pool) (at_index pool) index (λ k lt. kept_if pool (at_index pool k) (below k lt)) (λ keeps. broken.1 (if_kept pool (at_index pool index) keeps)),
)

-- constants that were read are a pool, or one of them breaks the rule of its kind
pub found_in_pool : (bytes rest : List ℕ) (pool : List Entry) (found : Option FaultyPool) → IsBytes bytes → constants.read bytes ≡ Some (pool, rest)
    → IsFoundBroken pool found → IsFoundInPool bytes found
found_in_pool bytes rest pool None small e all =
    let n : ℕ = length bytes - length rest in
    record {
      pool = pool;
      front = take n bytes;
      rest = drop n bytes;
      begins = sym (take-append-drop n bytes);
      is_pool = (pool_taken bytes rest pool small e all).1;
    }
found_in_pool bytes rest pool (Some Count) small e h = absurd h
found_in_pool bytes rest pool (Some (Missing index)) small e h = absurd h
found_in_pool bytes rest pool (Some (Broken index kind)) small e h =
    let took = constants_is.takes bytes rest pool small e in
    let parts = and_parts (nat_lt (pool_count pool) 65536) (list_all constant_fits pool) (sym (constants-fits pool) ∙ took.1) in
    let begins : BeginsWithConstants (pool_count pool) pool rest bytes = record {
      count_fits = ltb-true (pool_count pool) 65536 parts.0;
      stand = parts.1;
      begins = took.0 ∙ ap (λ (t : List ℕ). t ++ rest) (constants-spelling pool);
    } in
    (pool, rest, begins, h.0, h.1)
