-- The loop that reads the table.
use Rattle.std.proofs.Common.{◌≡◌, ℕ, suc, ◌≤◌, ◌+◌, ◌-◌, ◌<◌, length, drop, Bool, true, false, List, [], ◌∷◌, ◌++◌, Option, Some, None, refl, sym, ap, subst, ◌∙◌, arith, append_assoc, Bor}
use Rattle.std.specs.Prelude.{is_some as has_value}
use Rattle.std.specs.Option.{option_map}
use Rattle.std.proofs.lemmas.Grind.{flat_map-append}
use Rattle.std.proofs.lemmas.List.{append-nil, map_push, length-append}
use Rattle.std.proofs.Math.Seq.{drop-append_seam}
use Rattle.jv_format.specs.Format.{Finds, byte, ◌>>=◌, IsBytes}
use Rattle.jv_format.proofs.Laws.{is_some, bind_some, with_front, just, IsBytes-rest}
use Rattle.jv_pool.specs.declared.constant.Constant.{Constant}
use Rattle.jv_pool.specs.declared.shape.ConstantShape.{ConstantShape}
use Rattle.jv_pool.specs.Constants.{Entry, constant_bytes, takes_two, entries_of, table_of}
use Rattle.jv_pool.specs.Seen.{seen}
use Rattle.jv_pool.specs.Inside.Reading.{shape_of, contents_read, constant_read, seen_found, constant, entries_read, step_read, entry_list, constants_in, entry_of, entries_in, found_first, place_behind, pending}
use Rattle.jv_pool.proofs.Constants.{constant_takes}

-- ---- one constant

pub constant_found : (bytes rest : List ℕ) (tag : ℕ) (found : Option ConstantShape) → byte.read bytes ≡ Some (tag, rest) → shape_of tag ≡ found → constant_read bytes ≡ contents_read found rest
constant_found [] rest tag found e s = absurd cc
constant_found (t ∷ bytes) rest tag found e s =
    let same : (t, bytes) ≡ (tag, rest) = is_some (t, bytes) (tag, rest) e in
    ap (λ (y : ℕ × List ℕ). contents_read (shape_of y.0) y.1) same ∙ ap (λ (o : Option ConstantShape). contents_read o rest) s

-- the same, said of a result
pub finds_constant : (bytes : List ℕ) (r : Option (Constant (Bor (List ℕ)) × Bor (List ℕ))) → option_map seen_found r ≡ constant_read bytes → Finds constant bytes (λ x. (seen x.0, x.1.now)) r
finds_constant bytes None e = sym e
finds_constant bytes (Some x) e = sym e

-- ---- one entry

seen_some : (x : Option (Constant (Bor (List ℕ)))) → has_value x ≡ has_value (option_map seen x)
seen_some None = refl
seen_some (Some c) = refl

regroup : {A : Type 0} (before : List A) (x : A) (read : Option (List A × List ℕ)) → with_front before (read >>= λ xs. just (x ∷ xs.0, xs.1)) ≡ with_front (before ++ x ∷ []) read
regroup before x None = refl
regroup {A = A} before x (Some y) = ap (λ (xs : List A). just (xs, y.1)) (sym (append_assoc before (x ∷ []) y.0))

-- what a step found is the next of the constants
step_on : (flag : Bool) (before : List Entry) (k : ℕ) (bytes : List ℕ) (entry : Option Entry) (more : Bool) (after : List ℕ)
    (total : Option (List Entry × List ℕ)) → step_read flag bytes ≡ Some (entry, more, after)
    → with_front before (entries_read flag (suc k) bytes) ≡ total → with_front (before ++ entry_list entry) (entries_read more k after) ≡ total
step_on true before k bytes entry more after total e so_far =
    let made : Option Entry × Bool × List ℕ = (None, false, bytes) in
    subst (λ (y : Option Entry × Bool × List ℕ). with_front (before ++ entry_list y.0) (entries_read y.1 k y.2) ≡ total) (is_some made (entry, more, after) e)
    (rw (append-nil before) so_far)
step_on false before k bytes entry more after total e so_far =
    let c = bind_some (constant_read bytes) (λ c. Some (Some c.0, takes_two c.0, c.1)) (entry, more, after) e in
    let made : Option Entry × Bool × List ℕ = (Some c.0.0, takes_two c.0.0, c.0.1) in
    let one : with_front before (entries_read false (suc k) bytes) ≡ with_front (before ++ c.0.0 ∷ []) (entries_read (takes_two c.0.0) k c.0.1) =
    ap (λ (o : Option (Entry × List ℕ)). with_front before (o >>= λ c. entries_read (takes_two c.0) k c.1 >>= λ cs. Some (c.0 ∷ cs.0, cs.1))) c.1 ∙
    regroup before c.0.0 (entries_read (takes_two c.0.0) k c.0.1) in
    subst (λ (y : Option Entry × Bool × List ℕ). with_front (before ++ entry_list y.0) (entries_read y.1 k y.2) ≡ total) (is_some made (entry, more, after) c.2) (sym one ∙ so_far)

entries_two : (c : Entry) (two : Bool) → takes_two c ≡ two → entries_of c ≡ Some c ∷ pending two
entries_two c true e = rw e refl
entries_two c false e = rw e refl

-- and the next of the table
pub table_on : (flag : Bool) (table : List (Option Entry)) (pool : List Entry) (bytes : List ℕ) (entry : Option Entry) (more : Bool) (after : List ℕ) → step_read flag bytes ≡ Some (entry, more, after)
    → table_of pool ≡ table ++ pending flag → table_of (pool ++ entry_list entry) ≡ (table ++ entry ∷ []) ++ pending more
table_on true table pool bytes entry more after e so_far =
    let made : Option Entry × Bool × List ℕ = (None, false, bytes) in
    subst (λ (y : Option Entry × Bool × List ℕ). table_of (pool ++ entry_list y.0) ≡ (table ++ y.0 ∷ []) ++ pending y.1) (is_some made (entry, more, after) e)
    (rw (append-nil pool, append-nil (table ++ None ∷ [])) so_far)
table_on false table pool bytes entry more after e so_far =
    let c = bind_some (constant_read bytes) (λ c. Some (Some c.0, takes_two c.0, c.1)) (entry, more, after) e in
    let made : Option Entry × Bool × List ℕ = (Some c.0.0, takes_two c.0.0, c.0.1) in
    let two = takes_two c.0.0 in
    let new : table_of (pool ++ c.0.0 ∷ []) ≡ table_of pool ++ (entries_of c.0.0 ++ []) = flat_map-append entries_of pool (c.0.0 ∷ []) in
    let here : table_of pool ≡ table = so_far ∙ append-nil table in
    subst (λ (y : Option Entry × Bool × List ℕ). table_of (pool ++ entry_list y.0) ≡ (table ++ y.0 ∷ []) ++ pending y.1) (is_some made (entry, more, after) c.2) (
    new ∙ ap (λ (t : List (Option Entry)). t ++ (entries_of c.0.0 ++ [])) here
    ∙ ap (λ (t : List (Option Entry)). table ++ t) (append-nil (entries_of c.0.0) ∙ entries_two c.0.0 two refl)
    ∙ sym (append_assoc table (Some c.0.0 ∷ []) (pending two))
    )

-- ---- the loop, by the entries that it has found

pub record Entered (count i : ℕ) (flag : Bool) (table : List (Option Entry)) (rest bytes : List ℕ) : Type 0 where
  pub read : with_front (constants_in table) (entries_read flag (count - i) rest) ≡ entries_read false count bytes
  pub entries : table_of (constants_in table) ≡ table ++ pending flag

nothing_before : {A : Type 0} (o : Option (List A × List ℕ)) → with_front [] o ≡ o
nothing_before None = refl
nothing_before (Some x) = refl

entered_start : (count : ℕ) (bytes : List ℕ) → Entered count 0 false [] bytes bytes
entered_start count bytes =
    let all : count - 0 ≡ count = omega arith in
    record { read = rw all (nothing_before (entries_read false count bytes)); entries = refl }

entered_push : (count i : ℕ) (flag : Bool) (table : List (Option Entry)) (rest bytes : List ℕ) (entry : Option Entry) (more : Bool) (after : List ℕ) → i < count
    → step_read flag rest ≡ Some (entry, more, after) → Entered count i flag table rest bytes → Entered count (i + 1) more (table ++ entry ∷ []) after bytes
entered_push count i flag table rest bytes entry more after lt e so_far =
    let all : constants_in (table ++ entry ∷ []) ≡ constants_in table ++ entry_list entry =
    flat_map-append entry_list table (entry ∷ []) ∙ ap (λ (t : List Entry). constants_in table ++ t) (append-nil (entry_list entry)) in
    let k : count - i ≡ suc (count - (i + 1)) = omega arith in
    let now : with_front (constants_in table) (entries_read flag (suc (count - (i + 1))) rest) ≡ entries_read false count bytes = rw (← k) so_far.read in
    record {
      read = rw all (step_on flag (constants_in table) (count - (i + 1)) rest entry more after (entries_read false count bytes) e now);
      entries = rw all (table_on flag table (constants_in table) rest entry more after e so_far.entries);
    }

none_bind : {A B : Type 0} (o : Option A) (f : A → B) → (o >>= λ a. Some (f a)) ≡ None → o ≡ None
none_bind None f e = refl
none_bind (Some a) f e = absurd cc

step_ends : (flag : Bool) (before : List Entry) (k : ℕ) (bytes : List ℕ) → step_read flag bytes ≡ None → with_front before (entries_read flag (suc k) bytes) ≡ None
step_ends true before k bytes e = absurd cc
step_ends false before k bytes e =
    let none : constant_read bytes ≡ None = none_bind (constant_read bytes) (λ c. (Some c.0, takes_two c.0, c.1)) e in
    ap (λ (o : Option (Entry × List ℕ)). with_front before (o >>= λ c. entries_read (takes_two c.0) k c.1 >>= λ cs. Some (c.0 ∷ cs.0, cs.1))) none

-- ---- the loop, by the places of these entries: what is left stands behind what was read

pub record Listed (count i : ℕ) (flag : Bool) (places rest bytes : List ℕ) : Type 0 where
  pub long : length places ≡ i
  pub front : List ℕ
  pub whole : bytes ≡ front ++ rest
  pub found : Entered count i flag (entries_in bytes places) rest bytes

pub Listed-start : (count : ℕ) (bytes : List ℕ) → Listed count 0 false [] bytes bytes
Listed-start count bytes = record { long = refl; front = []; whole = refl; found = entered_start count bytes }

pub Listed-front : (count i : ℕ) (flag : Bool) (places rest bytes : List ℕ) → Listed count i flag places rest bytes → length rest ≤ length bytes
Listed-front count i flag places rest bytes so_far =
    let all : length bytes ≡ length so_far.front + length rest = ap length so_far.whole ∙ length-append so_far.front rest in
    omega arith

-- what a step leaves stands behind what it took
step_behind : (flag : Bool) (bytes front rest : List ℕ) (entry : Option Entry) (more : Bool) (after : List ℕ) → IsBytes bytes → bytes ≡ front ++ rest → step_read flag rest ≡ Some (entry, more, after)
    → (next : List ℕ) × (bytes ≡ next ++ after)
step_behind true bytes front rest entry more after small whole e =
    let made : Option Entry × Bool × List ℕ = (None, false, rest) in
    (front, whole ∙ ap (λ (y : Option Entry × Bool × List ℕ). front ++ y.2) (is_some made (entry, more, after) e))
step_behind false bytes front rest entry more after small whole e =
    let c = bind_some (constant_read rest) (λ c. Some (Some c.0, takes_two c.0, c.1)) (entry, more, after) e in
    let made : Option Entry × Bool × List ℕ = (Some c.0.0, takes_two c.0.0, c.0.1) in
    let left : c.0.1 ≡ after = ap (λ (y : Option Entry × Bool × List ℕ). y.2) (is_some made (entry, more, after) c.2) in
    let took = constant_takes rest c.0.1 c.0.0 (IsBytes-rest front rest bytes whole small) c.1 in (
      front ++ constant_bytes c.0.0,
      whole ∙ ap (λ (r : List ℕ). front ++ r) (took.0 ∙ ap (λ (r : List ℕ). constant_bytes c.0.0 ++ r) left) ∙ sym (append_assoc front (constant_bytes c.0.0) after),
    )

-- and its entry is what is read at its place
step_place : (flag : Bool) (bytes front rest : List ℕ) (entry : Option Entry) (more : Bool) (after : List ℕ) (before : ℕ) → bytes ≡ front ++ rest → before ≡ length front
    → step_read flag rest ≡ Some (entry, more, after) → entry_of bytes (place_behind (has_value entry) before) ≡ entry
step_place true bytes front rest entry more after before whole at e =
    let made : Option Entry × Bool × List ℕ = (None, false, rest) in
    let none : None ≡ entry = ap (λ (y : Option Entry × Bool × List ℕ). y.0) (is_some made (entry, more, after) e) in
    subst (λ (o : Option Entry). entry_of bytes (place_behind (has_value o) before) ≡ o) none refl
step_place false bytes front rest entry more after before whole at e =
    let c = bind_some (constant_read rest) (λ c. Some (Some c.0, takes_two c.0, c.1)) (entry, more, after) e in
    let made : Option Entry × Bool × List ℕ = (Some c.0.0, takes_two c.0.0, c.0.1) in
    let one : Some c.0.0 ≡ entry = ap (λ (y : Option Entry × Bool × List ℕ). y.0) (is_some made (entry, more, after) c.2) in
    let tail : drop before bytes ≡ rest = ap (λ (n : ℕ). drop n bytes) at ∙ ap (drop (length front)) whole ∙ drop-append_seam front rest in
    let here : entry_of bytes (suc before) ≡ Some c.0.0 = ap (λ (r : List ℕ). option_map found_first (constant_read r)) tail ∙ ap (option_map found_first) c.1 in
    subst (λ (o : Option Entry). entry_of bytes (place_behind (has_value o) before) ≡ o) one here

pub Listed-push : (count i : ℕ) (flag : Bool) (places rest bytes : List ℕ) (entry : Option (Constant (Bor (List ℕ)))) (more : Bool) (after : List ℕ) (before place : ℕ) (there : Bool) → i < count
    → IsBytes bytes → before ≡ length bytes - length rest → there ≡ has_value entry → place ≡ place_behind there before
    → step_read flag rest ≡ Some (option_map seen entry, more, after) → Listed count i flag places rest bytes → Listed count (i + 1) more (places ++ place ∷ []) after bytes
Listed-push count i flag places rest bytes entry more after before place there lt small at test put e so_far =
    let all : length bytes ≡ length so_far.front + length rest = ap length so_far.whole ∙ length-append so_far.front rest in
    let behind : before ≡ length so_far.front = omega arith in
    let tested : there ≡ has_value (option_map seen entry) = test ∙ seen_some entry in
    let here : entry_of bytes place ≡ option_map seen entry =
    ap (entry_of bytes) put ∙ ap (λ (b : Bool). entry_of bytes (place_behind b before)) tested
    ∙ step_place flag bytes so_far.front rest (option_map seen entry) more after before so_far.whole behind e in
    let next = step_behind flag bytes so_far.front rest (option_map seen entry) more after small so_far.whole e in
    record {
      long = omega (arith, so_far.long, length-append places (place ∷ []));
      front = next.0;
      whole = next.1;
      found =
          rw (map_push (entry_of bytes) places place, here)
          (entered_push count i flag (entries_in bytes places) rest bytes (option_map seen entry) more after lt e so_far.found);
    }

pub Listed-ends : (count i : ℕ) (flag : Bool) (places rest bytes : List ℕ) → i < count → step_read flag rest ≡ None → Listed count i flag places rest bytes → entries_read false count bytes ≡ None
Listed-ends count i flag places rest bytes lt e so_far =
    let table = entries_in bytes places in
    let k : count - i ≡ suc (count - (i + 1)) = omega arith in
    let now : with_front (constants_in table) (entries_read flag (suc (count - (i + 1))) rest) ≡ entries_read false count bytes = rw (← k) so_far.found.read in
    sym now ∙ step_ends flag (constants_in table) (count - (i + 1)) rest e

pub Listed-cut : (count i : ℕ) (flag : Bool) (places rest bytes : List ℕ) → count ≤ i → flag ≡ true → Listed count i flag places rest bytes → entries_read false count bytes ≡ None
Listed-cut count i flag places rest bytes le on so_far =
    let table = entries_in bytes places in
    let k : count - i ≡ 0 = omega arith in
    sym so_far.found.read ∙ ap (λ (n : ℕ). with_front (constants_in table) (entries_read flag n rest)) k ∙ ap (λ (b : Bool). with_front (constants_in table) (entries_read b 0 rest)) on

pub Listed-done : (count i : ℕ) (flag : Bool) (places rest bytes : List ℕ) → count ≤ i → flag ≡ false → Listed count i flag places rest bytes
    → entries_read false count bytes ≡ Some (constants_in (entries_in bytes places), rest)
Listed-done count i flag places rest bytes le off so_far =
    let table = entries_in bytes places in
    let k : count - i ≡ 0 = omega arith in
    sym so_far.found.read ∙ ap (λ (n : ℕ). with_front (constants_in table) (entries_read flag n rest)) k ∙ ap (λ (b : Bool). with_front (constants_in table) (entries_read b 0 rest)) off
    ∙ ap (λ (xs : List Entry). just (xs, rest)) (append-nil (constants_in table))
