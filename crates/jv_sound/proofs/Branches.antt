-- Branches and switches.
use Rattle.std.proofs.Common.{◌≡◌, inl, ℕ, zero, suc, ℤ, pos, Bool, true, false, ◌||◌, List, [], ◌∷◌, map, Option, Some, None, Ok, Err, refl, subst}
use Rattle.std.specs.Prelude.{⊤, IsTrue, IsSome, slice_get, int_lt, nat_abs, ◌-ℤ◌, unwrap_or, find, if◌then◌else◌}
use Rattle.std.specs.Option.{option_map}
use Rattle.std.specs.List.{Contains}
use Rattle.jv_format.specs.Format as rules
use Rattle.jv_stackmap.specs.declared.verification.VerificationTypeOf.TheVariants as types
use Rattle.jv_stackmap.specs.Types.{FrameType}
use Rattle.jv_stackmap.specs.Frames.{Frame as TypesOf}
use Rattle.jv_code.specs.declared.insn.Insn.TheVariants as insns
use Rattle.jv_code.specs.declared.kinds.Condition.{Condition}
use Rattle.jv_code.specs.declared.kinds.Equality.{Equality}
use Rattle.jv_code.specs.declared.kinds.JumpForm.{JumpForm}
use Rattle.jv_code.specs.declared.kinds.Test.TheVariants as tests
use Rattle.jv_code.specs.declared.kinds.ValueKind.TheVariants as kinds
use Rattle.jv_code.specs.Insns.{Instruction}
use Rattle.jv_code.specs.Successors.{falls_through, jump_distances, jump_targets}
use Rattle.jv_code.specs.Switches.{distances_in, pairs_in, pair_distance, has_key}
use Rattle.jv_code.specs.Targets.{target_of}
use Rattle.jv_meaning_typing.specs.FrameChanges.{with_stack, taken_of_kind}
use Rattle.jv_meaning_machine.specs.Faults.{OrFault, ◌>>=◌}
use Rattle.jv_meaning_machine.specs.Values.{Value, is_reference_value}
use Rattle.jv_meaning_machine.specs.Values.Value.{Null, Reference}
use Rattle.jv_meaning_machine.specs.Operands.{popped_reference}
use Rattle.jv_meaning_machine.specs.Effects.Effect.{Goes}
use Rattle.jv_meaning_machine.specs.Arithmetic.{holds as condition_holds, table_distance, key_distance}
use Rattle.jv_meaning_machine.specs.Instructions.{jumps, jumps_if, is_same, is_met}
use Rattle.jv_sound.specs.Values.{Fits, HasStack}
use Rattle.jv_sound.specs.Frames.{Holds}
use Rattle.jv_sound.proofs.Logic.{clash, Agrees, then2, then_holds, holds}
use Rattle.jv_sound.proofs.Types.{kind_fits}
use Rattle.jv_sound.proofs.Taking.{IsOfKind, kind_taken}
use Rattle.jv_sound.proofs.Pure.{agrees_from, none_ok, one_ok, two_ok, int_ok}
use Rattle.jv_sound.proofs.Members.{in_map}
use Rattle.jv_meaning_world.proofs.Up.{first, later}
use Rattle.jv_sound.proofs.Ways.{Setting, IsSet, world_of, here, context_of, Does, Sound, stays, goes_ok, by_table}

-- ---- lists

pub got_contained : {A : Type 0} (xs : List A) (k : ℕ) (y : A) → slice_get xs k ≡ Some y → Contains xs y
got_contained [] k y e = absurd cc
got_contained (x ∷ xs) zero y e = let s : x ≡ y = cc in subst (λ z. Contains (x ∷ xs) z) s (first x xs)
got_contained (x ∷ xs) (suc k) y e = later x xs y (got_contained xs k y e)

pub found_contained : {A : Type 0} (test : A → Bool) (xs : List A) (y : A) → find test xs ≡ Some y → Contains xs y
found_contained test [] y e = absurd cc
found_contained test (x ∷ xs) y e = by_test (test x) e (λ k. found_contained test xs y k)
  where
    by_test : (b : Bool) → (if b then Some x else find test xs) ≡ Some y → (find test xs ≡ Some y → Contains xs y) → Contains (x ∷ xs) y
    by_test true e next = let s : x ≡ y = cc in subst (λ z. Contains (x ∷ xs) z) s (first x xs)
    by_test false e next = later x xs y (next e)

or_default : (default : ℤ) (ds : List ℤ) (o : Option ℤ) → ((d : ℤ) → o ≡ Some d → Contains ds d)
    → Contains (default ∷ ds) (unwrap_or o default)
or_default default ds None k = first default ds
or_default default ds (Some d) k = later default ds d (k d refl)

table_contained : (default low high : ℤ) (distances : List ℕ) (number : ℤ)
    → Contains (default ∷ distances_in distances) (table_distance default low high distances number)
table_contained default low high distances number = by_test (int_lt number low || int_lt high number)
  where
    by_test : (b : Bool) → Contains (default ∷ distances_in distances)
        (if b then default else unwrap_or (slice_get (distances_in distances) (nat_abs (number -ℤ low))) default)
    by_test true = first default (distances_in distances)
    by_test false = or_default default (distances_in distances) (slice_get (distances_in distances) (nat_abs (number -ℤ low)))
        (λ d e. got_contained (distances_in distances) (nat_abs (number -ℤ low)) d e)

key_contained : (default : ℤ) (pairs : List ℕ) (number : ℤ) → Contains (default ∷ map pair_distance (pairs_in pairs))
    (key_distance default pairs number)
key_contained default pairs number = by_pair (find (has_key number) (pairs_in pairs)) refl
  where
    by_pair : (o : Option (ℤ × ℤ)) → find (has_key number) (pairs_in pairs) ≡ o
        → Contains (default ∷ map pair_distance (pairs_in pairs)) (unwrap_or (option_map pair_distance o) default)
    by_pair None e = first default (map pair_distance (pairs_in pairs))
    by_pair (Some p) e = later default (map pair_distance (pairs_in pairs)) (pair_distance p)
        (in_map pair_distance (pairs_in pairs) p (found_contained (has_key number) (pairs_in pairs) p e))

-- ---- jumps

-- each distance leads to an offset
abbrev pub HasTargets : Setting → Instruction → Type 0
HasTargets x insn =
    (d : ℤ) → Contains (jump_distances insn) d → (to : ℕ) × (target_of x.frame.offset d ≡ Some to)
    × Contains (jump_targets x.frame.offset insn) (Some to)

-- from what Leads says of targets
pub has_targets : (x : Setting) (insn : Instruction) → ((o : Option ℕ) → Contains (jump_targets x.frame.offset insn) o → IsSome o)
    → HasTargets x insn
has_targets x insn k d h =
    by_target (target_of x.frame.offset d) refl (k (target_of x.frame.offset d)
    (in_map (target_of x.frame.offset) (jump_distances insn) d h)) (in_map (target_of x.frame.offset) (jump_distances insn) d h)
  where
    by_target : (o : Option ℕ) → target_of x.frame.offset d ≡ o → IsSome o
        → Contains (jump_targets x.frame.offset insn) (target_of x.frame.offset d)
        → (to : ℕ) × (target_of x.frame.offset d ≡ Some to) × Contains (jump_targets x.frame.offset insn) (Some to)
    by_target None e some c = absurd (clash some)
    by_target (Some to) e some c = (to, e, subst (λ (o : Option ℕ). Contains (jump_targets x.frame.offset insn) o) e c)

module _ (x : Setting) (h : IsSet x) where
  jumps_ok : (insn : Instruction) (z : ℤ) (S : List FrameType) (s : List Value) → Contains (jump_distances insn) z → HasTargets x insn
      → HasStack (here x) S s
      → Does x insn (with_stack x.given S) (jumps (context_of x insn) z s)
  jumps_ok insn z S s c t hs =
      let k = t z c in
      rw k.1 (stays x h insn (with_stack x.given S) (Goes k.0 x.frame.locals s)
      (inl k.2, record { locals = h.holding.locals; stack = hs; ready = h.holding.ready }))

  jumps_if_ok : (insn : Instruction) (z : ℤ) (S : List FrameType) (s : List Value) (test : Bool) → IsTrue (falls_through insn)
      → Contains (jump_distances insn) z → HasTargets x insn → HasStack (here x) S s
      → Does x insn (with_stack x.given S) (jumps_if (context_of x insn) z s test)
  jumps_if_ok insn z S s true falls c t hs = jumps_ok insn z S s c t hs
  jumps_if_ok insn z S s false falls c t hs = goes_ok x h insn S s falls hs

  pub goto_ok : (z : ℤ) (form : JumpForm) → HasTargets x (insns.Goto z form) → Sound x (insns.Goto z form)
  goto_ok z form t =
      by_table x h (insns.Goto z form) [] [] tt (λ S values s f hs.
      then_holds (none_ok {P = λ b. HasStack (here x) S b} (Fits (world_of x) x.heap.objects) s values f hs)
      (λ b k. jumps_ok (insns.Goto z form) z S b (first z []) t k))

  pub if_int_ok : (condition : Condition) (z : ℤ) → HasTargets x (insns.Branch (tests.IfInt condition) z)
      → Sound x (insns.Branch (tests.IfInt condition) z)
  if_int_ok condition z t =
      by_table x h (insns.Branch (tests.IfInt condition) z) (types.Int ∷ []) [] (tt, tt) (λ S values s f hs.
      then_holds (then_holds (one_ok (Fits (world_of x) x.heap.objects) types.Int values f) (λ v k. int_ok v k)) (λ a _.
      jumps_if_ok (insns.Branch (tests.IfInt condition) z) z S s (condition_holds condition a (pos 0)) refl (first z []) t hs))

  pub if_ints_ok : (condition : Condition) (z : ℤ) → HasTargets x (insns.Branch (tests.IfInts condition) z)
      → Sound x (insns.Branch (tests.IfInts condition) z)
  if_ints_ok condition z t =
      by_table x h (insns.Branch (tests.IfInts condition) z) (types.Int ∷ types.Int ∷ []) [] (tt, (tt, tt)) (λ S values s f hs.
      then_holds (two_ok (Fits (world_of x) x.heap.objects) types.Int types.Int values f) (λ q k.
      then_holds (int_ok q.0 k.0) (λ a _. then_holds (int_ok q.1 k.1) (λ b _.
      jumps_if_ok (insns.Branch (tests.IfInts condition) z) z S s (condition_holds condition a b) refl (first z []) t hs))))

  pub table_switch_ok : (padding : List ℕ) (default low high : ℤ) (distances : List ℕ)
      → HasTargets x (insns.TableSwitch padding default low high distances) → Sound x (insns.TableSwitch padding default low high distances)
  table_switch_ok padding default low high distances t =
      by_table x h (insns.TableSwitch padding default low high distances) (types.Int ∷ []) [] (tt, tt) (λ S values s f hs.
      then_holds (then_holds (one_ok (Fits (world_of x) x.heap.objects) types.Int values f) (λ v k. int_ok v k)) (λ a _.
      jumps_ok (insns.TableSwitch padding default low high distances) (table_distance default low high distances a) S s
      (table_contained default low high distances a) t hs))

  pub lookup_switch_ok : (padding : List ℕ) (default : ℤ) (pairs : List ℕ) → HasTargets x (insns.LookupSwitch padding default pairs)
      → Sound x (insns.LookupSwitch padding default pairs)
  lookup_switch_ok padding default pairs t =
      by_table x h (insns.LookupSwitch padding default pairs) (types.Int ∷ []) [] (tt, tt) (λ S values s f hs.
      then_holds (then_holds (one_ok (Fits (world_of x) x.heap.objects) types.Int values f) (λ v k. int_ok v k)) (λ a _.
      jumps_ok (insns.LookupSwitch padding default pairs) (key_distance default pairs a) S s (key_contained default pairs a) t hs))

  -- ---- on references, constructed or not

  abbrev Popped : FrameType × List FrameType → Value × List Value → Type 0
  Popped u top = (is_reference_value top.0 ≡ true) × HasStack (here x) u.1 top.1

  pub reference_popped : (S : List FrameType) (s : List Value) → HasStack (here x) S s
      → Agrees Popped (taken_of_kind kinds.Reference S) (popped_reference s)
  reference_popped S s hs = weakened _ _ (kind_taken (here x) h.rooted h.loadable kinds.Reference S s hs)
    where
      weakened : (r : Option (FrameType × List FrameType)) (m : OrFault (Value × List Value))
          → Agrees (IsOfKind (here x) kinds.Reference) r m → Agrees Popped r m
      weakened None m a = record { by = tt }
      weakened (Some u) (Err fault) a = absurd a.by
      weakened (Some u) (Ok top) a = record { by = (kind_fits (here x) kinds.Reference u.0 top.0 a.by.0 a.by.1.fits, a.by.2) }

  same_ok : (a b : Value) → is_reference_value a ≡ true → is_reference_value b ≡ true → Holds (λ (b : Bool). ⊤) (is_same a b)
  same_ok Null Null e k = holds tt
  same_ok Null (Reference m) e k = holds tt
  same_ok (Reference n) Null e k = holds tt
  same_ok (Reference n) (Reference m) e k = holds tt
  same_ok Null _ e k = absurd (clash k)
  same_ok (Reference n) _ e k = absurd (clash k)
  same_ok _ b e k = absurd (clash e)

  pub if_null_ok : (equality : Equality) (z : ℤ) → HasTargets x (insns.Branch (tests.IfNull equality) z)
      → Sound x (insns.Branch (tests.IfNull equality) z)
  if_null_ok equality z t =
      then2 (reference_popped x.given.stack x.frame.stack h.holding.stack) (λ u top k.
      agrees_from (then_holds (same_ok top.0 Null k.0 refl) (λ same _.
      jumps_if_ok (insns.Branch (tests.IfNull equality) z) z u.1 top.1 (is_met equality same) refl (first z []) t k.1)))

  -- a step of the rule that gives a frame, and the next one from it
  from_frame :
      {Q : FrameType × List FrameType → Value × List Value → Type 0} {C D : Type 0} {R : C → D
      → Type 0} (f : TypesOf) (o : Option (FrameType × List FrameType)) (m : OrFault (Value × List Value))
      (k : TypesOf → Option C) (g : Value × List Value → OrFault D)
      → Agrees Q o m → ((u : FrameType × List FrameType) (top : Value × List Value) → Q u top → Agrees R (k (with_stack f u.1)) (g top))
      → Agrees R (rules.◌>>=◌ (rules.◌>>=◌ o (λ u. Some (with_stack f u.1))) k) (m >>= g)
  from_frame f None m k g a n = record { by = tt }
  from_frame f (Some u) (Err fault) k g a n = absurd a.by
  from_frame f (Some u) (Ok top) k g a n = n u top a.by

  pub if_references_ok : (equality : Equality) (z : ℤ) → HasTargets x (insns.Branch (tests.IfReferences equality) z)
      → Sound x (insns.Branch (tests.IfReferences equality) z)
  if_references_ok equality z t =
      from_frame x.given (taken_of_kind kinds.Reference x.given.stack) (popped_reference x.frame.stack) _ _
      (reference_popped x.given.stack x.frame.stack h.holding.stack) (λ u second k.
      then2 (reference_popped u.1 second.1 k.1) (λ w first_one j.
      agrees_from (then_holds (same_ok first_one.0 second.0 j.0 k.0) (λ same _.
      jumps_if_ok (insns.Branch (tests.IfReferences equality) z) z w.1 first_one.1 (is_met equality same) refl (first z []) t j.1))))
