-- Arrays that are made together (JVMS 6.5, multianewarray): each is of its type, where all of them stand one behind the other.
use Rattle.std.proofs.Common.{◌≡◌, ◌⊎◌, inl, inr, ℕ, zero, suc, ◌+◌, ◌*◌, ◌≤◌, List, [], ◌∷◌, ◌++◌, length, map, replicate, Some, refl, sym, subst, ◌∙◌, arith}
use Rattle.std.specs.Prelude.{IsTrue, slice_get}
use Rattle.std.specs.List.{AllByRecursion, flat_map, range_with_len}
use Rattle.std.proofs.Math.Nat.{suc-mul}
use Rattle.std.proofs.lemmas.List.{length-append}
use Rattle.jv_text.specs.declared.descriptor.FieldTypeOf.{FieldTypeOf}
use Rattle.jv_stackmap.specs.declared.verification.VerificationTypeOf.TheVariants as types
use Rattle.jv_stackmap.specs.Types.{FrameType, component, value_type}
use Rattle.jv_meaning_world.proofs.Order.{below_is_reflexive}
use Rattle.jv_meaning_world.specs.Laws.Order.{has_loadable_element}
use Rattle.jv_meaning_machine.specs.Values.{Value, default_of_type}
use Rattle.jv_meaning_machine.specs.Objects.{Object, new_array}
use Rattle.jv_meaning_machine.specs.Objects.Object.{ArrayWith}
use Rattle.jv_meaning_machine.specs.State.{Program}
use Rattle.jv_meaning_machine.specs.Arrays.{arrays_in, inner_numbers, reference_to, arrays_made}
use Rattle.jv_sound.specs.Values.{Fits}
use Rattle.jv_sound.specs.Memory.{IsTypedObject}
use Rattle.jv_sound.proofs.Heaps.{get_append}
use Rattle.jv_sound.proofs.Memories.{first_fits, append_cases}
use Rattle.jv_sound.proofs.ResolvedTypes.{value_of_array}

-- ---- lists of objects in a longer one

-- these stand from a place on
abbrev pub Stands : List Object → ℕ → List Object → Type 0
Stands all n list = (k : ℕ) (o : Object) → slice_get list k ≡ Some o → slice_get all (n + k) ≡ Some o

pub get_after : (a b : List Object) (k : ℕ) (o : Object) → slice_get b k ≡ Some o → slice_get (a ++ b) (length a + k) ≡ Some o
get_after [] b k o e = subst (λ (n : ℕ). slice_get b n ≡ Some o) (sym (zero_plus k)) e
  where
    zero_plus : (k : ℕ) → 0 + k ≡ k
    zero_plus k = omega arith
get_after (x ∷ a) b k o e = subst (λ (n : ℕ). slice_get ((x ∷ a) ++ b) n ≡ Some o) (sym (suc_plus (length a) k)) (get_after a b k o e)
  where
    suc_plus : (m k : ℕ) → suc m + k ≡ suc (m + k)
    suc_plus m k = omega arith

pub stands_first : (all : List Object) (n : ℕ) (a b : List Object) → Stands all n (a ++ b) → Stands all n a
stands_first all n a b h k o e = h k o (get_append a b k o e)

pub stands_second : (all : List Object) (n : ℕ) (a b : List Object) → Stands all n (a ++ b) → Stands all (n + length a) b
stands_second all n a b h k o e = subst (λ (m : ℕ). slice_get all m ≡ Some o) (regroup n (length a) k)
    (h (length a + k) o (get_after a b k o e))
  where
    regroup : (n m k : ℕ) → n + (m + k) ≡ n + m + k
    regroup n m k = omega arith

stands_at : (all : List Object) (n : ℕ) (x : Object) (more : List Object) → Stands all n (x ∷ more) → slice_get all n ≡ Some x
stands_at all n x more h = subst (λ (m : ℕ). slice_get all m ≡ Some x) (plus_zero n) (h 0 x refl)
  where
    plus_zero : (n : ℕ) → n + 0 ≡ n
    plus_zero n = omega arith

stands_behind : (all : List Object) (n : ℕ) (x : Object) (more : List Object) → Stands all n (x ∷ more) → Stands all (n + 1) more
stands_behind all n x more h k o e = subst (λ (m : ℕ). slice_get all m ≡ Some o) (regroup n k) (h (suc k) o e)
  where
    regroup : (n k : ℕ) → n + suc k ≡ n + 1 + k
    regroup n k = omega arith

-- ---- how many there are

abbrev numbers_from : ℕ → ℕ → ℕ → ℕ → List ℕ
numbers_from number each start count = map (λ k. number + 1 + k * each) (range_with_len start count)

one_more : (start each : ℕ) → (start + 1) * each ≡ start * each + each
one_more start each = subst (λ (n : ℕ). n * each ≡ start * each + each) (plus_one start) (suc-mul start each)
  where
    plus_one : (n : ℕ) → suc n ≡ n + 1
    plus_one n = omega arith

groups_length : (f : ℕ → List Object) (number each start count : ℕ) → ((n : ℕ) → length (f n) ≡ each)
    → length (flat_map f (numbers_from number each start count)) ≡ count * each
groups_length f number each start zero h = zero_times each
  where
    zero_times : (n : ℕ) → 0 ≡ 0 * n
    zero_times n = omega arith
groups_length f number each start (suc count) h =
    let again : length (flat_map f (numbers_from number each (start + 1) count)) ≡ count * each = groups_length f number each
    (start + 1) count h in
    let one : length (f (number + 1 + start * each)) ≡ each = h (number + 1 + start * each) in
    length-append (f (number + 1 + start * each)) (flat_map f (numbers_from number each (start + 1) count)) ∙ omega
    (arith, again, one, suc-mul count each)

pub made_length : (counts : List ℕ) (c : FieldTypeOf (List ℕ)) (n : ℕ) → length (arrays_made c counts n) ≡ arrays_in counts
made_length [] c n = refl
made_length (count ∷ []) c n = refl
made_length (count ∷ next ∷ more) c n =
    let inner : length (flat_map (λ i. arrays_made (component c) (next ∷ more) i) (inner_numbers count (next ∷ more) n)) ≡ count * arrays_in
    (next ∷ more) =
    groups_length (λ i. arrays_made (component c) (next ∷ more) i) n (arrays_in (next ∷ more)) 0 count
    (λ m. made_length (next ∷ more) (component c) m) in
    omega (arith, inner)

-- ---- each group stands at its number

groups_stand : (all : List Object) (f : ℕ → List Object) (number each start count : ℕ) → ((n : ℕ) → length (f n) ≡ each)
    → Stands all (number + 1 + start * each) (flat_map f (numbers_from number each start count))
    → AllByRecursion (λ n. Stands all n (f n)) (numbers_from number each start count)
groups_stand all f number each start zero h s = tt
groups_stand all f number each start (suc count) h s =
    let here : ℕ = number + 1 + start * each in
    let behind : Stands all (here + length (f here)) (flat_map f (numbers_from number each (start + 1) count)) = stands_second all here
    (f here) (flat_map f (numbers_from number each (start + 1) count)) s in
    let place : here + length (f here) ≡ number + 1 + (start + 1) * each = omega (arith, h here, one_more start each) in (
      stands_first all here (f here) (flat_map f (numbers_from number each (start + 1) count)) s,
      groups_stand all f number each (start + 1) count h (subst (λ (m : ℕ). Stands all m
          (flat_map f (numbers_from number each (start + 1) count))) place behind),
    )

-- ---- each array is of its type

replicated : (P : Value → Type 0) (n : ℕ) (v : Value) → P v → AllByRecursion P (replicate n v)
replicated P zero v h = tt
replicated P (suc n) v h = (h, replicated P n v h)

of_groups : (P : Object → Type 0) (f : ℕ → List Object) (xs : List ℕ)
    → AllByRecursion (λ n. (k : ℕ) (o : Object) → slice_get (f n) k ≡ Some o → P o) xs → (k : ℕ) (o : Object)
    → slice_get (flat_map f xs) k ≡ Some o → P o
of_groups P f [] h k o e = absurd cc
of_groups P f (x ∷ xs) h k o e = by_part (λ j g. of_groups P f xs h.1 j o g) (append_cases (f x) (flat_map f xs) k o e)
  where
    by_part : ((j : ℕ) → slice_get (flat_map f xs) j ≡ Some o → P o)
        → (slice_get (f x) k ≡ Some o) ⊎ ((j : ℕ) × (slice_get (flat_map f xs) j ≡ Some o)) → P o
    by_part again (inl g) = h.0 k o g
    by_part again (inr g) = again g.0 g.1

all_of : {P Q : ℕ → Type 0} → ((n : ℕ) → P n → Q n) → (xs : List ℕ) → AllByRecursion P xs → AllByRecursion Q xs
all_of k [] h = tt
all_of k (x ∷ xs) h = (k x h.0, all_of k xs h.1)

all_mapped : (P : Value → Type 0) (xs : List ℕ) → AllByRecursion (λ n. P (reference_to n)) xs → AllByRecursion P (map reference_to xs)
all_mapped P [] h = tt
all_mapped P (x ∷ xs) h = (h.0, all_mapped P xs h.1)

module _ (program : Program) (all : List Object) where
  -- the first of them is the array of all
  pub made_first : (counts : List ℕ) (c : FieldTypeOf (List ℕ)) (n : ℕ) → 1 ≤ length counts → Stands all n (arrays_made c counts n)
      → (values : List Value) × (slice_get all n ≡ Some (ArrayWith c values))
  made_first [] c n some s = absurd (omega (arith, some))
  made_first (count ∷ []) c n some s = (replicate count (default_of_type c), stands_at all n (new_array c count) [] s)
  made_first (count ∷ next ∷ more) c n some s = (map reference_to (inner_numbers count (next ∷ more) n), stands_at all n _ _ s)

  pub made_typed : (counts : List ℕ) (c : FieldTypeOf (List ℕ)) (n : ℕ) → length counts ≤ suc c.dimensions
      → IsTrue (has_loadable_element program.world c.element) → Stands all n (arrays_made c counts n)
      → (k : ℕ) (o : Object) → slice_get (arrays_made c counts n) k ≡ Some o → IsTypedObject program all o
  made_typed [] c n deep loadable s k o e = absurd cc
  made_typed (count ∷ []) c n deep loadable s zero o e =
      let same : new_array c count ≡ o = cc in
      subst (λ (p : Object). IsTypedObject program all p) same
      (record {
        loadable = loadable;
        fit = replicated (Fits program.world all (value_type c)) count (default_of_type c)
            (first_fits program.world all c);
      })
  made_typed (count ∷ []) c n deep loadable s (suc k) o e = absurd cc
  made_typed (count ∷ next ∷ more) c n deep loadable s k o e =
      let dimensions = less_deep c.dimensions (length more) deep in
      let groups = groups_stand all (λ i. arrays_made (component c) (next ∷ more) i) n (arrays_in (next ∷ more)) 0 count
      (λ m. made_length (next ∷ more) (component c) m)
      (subst (λ (m : ℕ). Stands all m (flat_map (λ i. arrays_made (component c) (next ∷ more) i) (inner_numbers count (next ∷ more) n)))
      (at_start n (arrays_in (next ∷ more))) (stands_behind all n _ _ s)) in
      by_place
      (all_mapped (Fits program.world all (value_type c)) (inner_numbers count (next ∷ more) n)
      (all_of {P = λ m. Stands all m (arrays_made (component c) (next ∷ more) m)}
      (λ m t. reference_fits dimensions.0 dimensions.1 m (made_first (next ∷ more) (component c) m (omega arith) t))
      (inner_numbers count (next ∷ more) n) groups))
      (of_groups (IsTypedObject program all) (λ i. arrays_made (component c) (next ∷ more) i) (inner_numbers count (next ∷ more) n)
      (all_of {P = λ m. Stands all m (arrays_made (component c) (next ∷ more) m)}
      (λ m t. made_typed (next ∷ more) (component c) m (inner_deep dimensions.0 dimensions.1) loadable t)
      (inner_numbers count (next ∷ more) n) groups))
      k e
    where
      less_deep : (d m : ℕ) → suc (suc m) ≤ suc d → (j : ℕ) × (d ≡ suc j)
      less_deep zero m h = absurd (omega (arith, h))
      less_deep (suc j) m h = (j, refl)

      at_start : (n each : ℕ) → n + 1 ≡ n + 1 + 0 * each
      at_start n each = omega arith

      inner_deep : (j : ℕ) → c.dimensions ≡ suc j → suc (length more) ≤ suc (component c).dimensions
      inner_deep j e = omega (arith, deep, e)

      reference_fits : (j : ℕ) → c.dimensions ≡ suc j → (m : ℕ) → (values : List Value)
          × (slice_get all m ≡ Some (ArrayWith (component c) values)) → Fits program.world all (value_type c) (reference_to m)
      reference_fits j e m t =
          subst (λ (u : FrameType). Fits program.world all u (reference_to m)) (sym (value_of_array c j e))
          (record {
            object = ArrayWith (component c) t.0;
            there = t.1;
            constructed = refl;
            below = below_is_reflexive program.world
                (types.Array (component c));
          })

      by_place : AllByRecursion (Fits program.world all (value_type c)) (map reference_to (inner_numbers count (next ∷ more) n))
          → ((k : ℕ) (o : Object) → slice_get (flat_map (λ i. arrays_made (component c) (next ∷ more) i)
          (inner_numbers count (next ∷ more) n)) k ≡ Some o → IsTypedObject program all o)
          → (k : ℕ) → slice_get (arrays_made c (count ∷ next ∷ more) n) k ≡ Some o → IsTypedObject program all o
      by_place outer inner zero e =
          let same : ArrayWith c (map reference_to (inner_numbers count (next ∷ more) n)) ≡ o = cc in
          subst (λ (p : Object). IsTypedObject program all p) same (record { loadable = loadable; fit = outer })
      by_place outer inner (suc k) e = inner k o e
