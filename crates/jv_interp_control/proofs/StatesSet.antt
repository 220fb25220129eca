-- The state of a class changes, and those of others stay (JVMS 5.5).
use Rattle.std.proofs.Common.{◌≡◌, ℕ, Bool, true, false, nat_eq, List, ◌∷◌, Some, set, slice_get, refl, sym, ap, subst, ◌∙◌, arith, if◌then◌else◌}
use Rattle.std.specs.Str.{bytes_eq}
use Rattle.std.specs.Cmp.Lexicographic.{nat_list_eq_equiv}
use Rattle.std.proofs.lemmas.Bool.{eqb-true}
use Rattle.jv_meaning_world.specs.World.{Loaded, World}
use Rattle.jv_meaning_world.specs.Numbers.{IsNumbered, number_named}
use Rattle.jv_meaning_world.proofs.Up.{same_name}
use Rattle.jv_meaning_machine.specs.State.{ClassState as StateOfNames, ClassStates, class_state, state_named}
use Rattle.jv_meaning_machine.specs.State.ClassState.{Initialized}
use Rattle.jv_meaning_machine.proofs.KeptMemory.{set_there, set_elsewhere}
use Rattle.jv_interp_held.specs.declared.class_state.ClassState.{ClassState}
use Rattle.jv_interp_held.specs.ClassStates.{kept_state, AreClassStates}

same_some : {A : Type 0} (x y : A) → Some x ≡ Some y → x ≡ y
same_some x y e = cc

-- classes with different numbers have different names
pub other_name :
    (world : World) (n m : ℕ) (l k : Loaded) → IsNumbered world → slice_get world n ≡ Some l → slice_get world m ≡ Some k
    → (n ≡ m → ⊥) → bytes_eq l.class.name k.class.name ≡ false
other_name world n m l k numbers at there apart = by_test (bytes_eq l.class.name k.class.name) refl
  where
    by_test : (b : Bool) → bytes_eq l.class.name k.class.name ≡ b → b ≡ false
    by_test true e =
        absurd (apart (same_some n m (sym (numbers n l at) ∙ ap (number_named world) (same_name l.class.name k.class.name e) ∙ numbers m k there)))
    by_test false e = refl

state_stays :
    (states : ClassStates) (l k : Loaded) (new : StateOfNames) → bytes_eq l.class.name k.class.name ≡ false
    → class_state ((k.class.name, new) ∷ states) l ≡ class_state states l
state_stays states l k new e =
    ap (λ (b : Bool). if l.by_system then Initialized else (if b then new else state_named l.class.name states)) e

state_new :
    (states : ClassStates) (l : Loaded) (new : StateOfNames) → l.by_system ≡ false → class_state ((l.class.name, new) ∷ states) l ≡ new
state_new states l new guests =
    ap (λ (b : Bool). if b then Initialized else (if bytes_eq l.class.name l.class.name then new else state_named l.class.name states)) guests
    ∙ ap (λ (b : Bool). if b then new else state_named l.class.name states) (nat_list_eq_equiv.refl l.class.name)

state_of_system : (states : ClassStates) (l : Loaded) → l.by_system ≡ true → class_state states l ≡ Initialized
state_of_system states l e = ap (λ (b : Bool). if b then Initialized else state_named l.class.name states) e

module _ (world : World) (numbers : IsNumbered world) (class : ℕ) (l : Loaded) (states : ClassStates) (new : StateOfNames) (before : List ClassState)
    (at : slice_get world class ≡ Some l) (are : AreClassStates world states before) where
  -- one of the system's
  pub system_stays : l.by_system ≡ true → AreClassStates world ((l.class.name, new) ∷ states) before
  system_stays system = λ n k there. by_number n k there (nat_eq n class) refl
    where
      by_number :
          (n : ℕ) (k : Loaded) → slice_get world n ≡ Some k → (b : Bool) → nat_eq n class ≡ b
          → slice_get before n ≡ Some (kept_state (class_state ((l.class.name, new) ∷ states) k))
      by_number n k there true e =
          let same : l ≡ k = same_some l k (sym at ∙ ap (slice_get world) (sym (eqb-true n class e)) ∙ there) in
          let system_k : k.by_system ≡ true = ap (λ (m : Loaded). m.by_system) (sym same) ∙ system in
          are n k there
          ∙ ap (λ (s : StateOfNames). Some (kept_state s)) (state_of_system states k system_k ∙ sym (state_of_system ((l.class.name, new) ∷ states) k system_k))
      by_number n k there false e =
          are n k there
          ∙ ap (λ (s : StateOfNames). Some (kept_state s)) (sym (state_stays states k l new (other_name world n class k l numbers there at (differ n class e))))
        where
          differ : (x y : ℕ) → nat_eq x y ≡ false → x ≡ y → ⊥
          differ x y e same = absurd (grind (arith, e, same))

  -- one of the guest's
  pub guests_set : l.by_system ≡ false → AreClassStates world ((l.class.name, new) ∷ states) (set before class (kept_state new))
  guests_set guests = λ n k there. by_number n k there (nat_eq n class) refl
    where
      by_number :
          (n : ℕ) (k : Loaded) → slice_get world n ≡ Some k → (b : Bool) → nat_eq n class ≡ b
          → slice_get (set before class (kept_state new)) n ≡ Some (kept_state (class_state ((l.class.name, new) ∷ states) k))
      by_number n k there true e =
          let is : n ≡ class = eqb-true n class e in
          let same : l ≡ k = same_some l k (sym at ∙ ap (slice_get world) (sym is) ∙ there) in
          ap (λ (m : ℕ). slice_get (set before class (kept_state new)) m) is
          ∙ set_there before class (kept_state new) (kept_state (class_state states l)) (are class l at)
          ∙ ap (λ (s : StateOfNames). Some (kept_state s))
          (sym (ap (λ (m : Loaded). class_state ((l.class.name, new) ∷ states) m) (sym same) ∙ state_new states l new guests))
      by_number n k there false e =
          set_elsewhere before class n (kept_state new) (differ n class e)
          ∙ are n k there
          ∙ ap (λ (s : StateOfNames). Some (kept_state s)) (sym (state_stays states k l new (other_name world n class k l numbers there at (differ n class e))))
        where
          differ : (x y : ℕ) → nat_eq x y ≡ false → x ≡ y → ⊥
          differ x y e same = absurd (grind (arith, e, same))

  -- either
  pub state_set :
      (by_system : Bool) (after : List ClassState) → l.by_system ≡ by_system → (by_system ≡ true → after ≡ before)
      → (by_system ≡ false → after ≡ set before class (kept_state new)) → AreClassStates world ((l.class.name, new) ∷ states) after
  state_set true after is same changed =
      subst (λ (all : List ClassState). AreClassStates world ((l.class.name, new) ∷ states) all) (sym (same refl)) (system_stays is)
  state_set false after is same changed =
      subst (λ (all : List ClassState). AreClassStates world ((l.class.name, new) ∷ states) all) (sym (changed refl)) (guests_set is)
