-- What holds of whatever steps give that can end in a fault.
use Rattle.std.proofs.Common.{◌≡◌, Bool, true, false, Option, Some, None, Ok, Err, refl, subst}
use Rattle.jv_meaning_machine.specs.Faults.{Fault, OrFault, found, tested, ◌>>=◌}

-- it holds of what is given, if there is no fault
pub record Leads (A : Type 0) (P : A → Type 0) (o : OrFault A) : Type 0 where
  pub at : (a : A) → o ≡ Ok a → P a

pub same_given : {A : Type 0} (a b : A) (o : OrFault A) → o ≡ Ok a → o ≡ Ok b → a ≡ b
same_given a b o e f = cc

pub leaf : {A : Type 0} (P : A → Type 0) (a : A) → P a → Leads A P (Ok a)
leaf P a h = record { at = λ b e. subst P (same_given a b (Ok a) refl e) h }

-- and what follows from it
pub also : {A : Type 0} {P : A → Type 0} (Q : A → Type 0) (o : OrFault A) → ((a : A) → P a → Q a) → Leads A P o → Leads A Q o
also Q o f h = record { at = λ a e. f a (h.at a e) }

pub failing : {A : Type 0} {P : A → Type 0} (fault : Fault) → Leads A P (Err fault)
failing fault = record { at = λ b e. absurd cc }

-- a step, and the next one with what it gave
pub bound :
    {A B : Type 0} {P : B → Type 0} (o : OrFault A) (next : A → OrFault B) → ((a : A) → o ≡ Ok a → Leads B P (next a))
    → Leads B P (o >>= next)
bound (Ok a) next h = h a refl
bound (Err fault) next h = failing fault

-- a test, and a step with what passed it
pub bound_tested :
    {A B : Type 0} {P : B → Type 0} (fault : Fault) (test : Bool) (a : A) (next : A → OrFault B) → (test ≡ true → Leads B P (next a))
    → Leads B P (tested fault test a >>= next)
bound_tested fault true a next h = h refl
bound_tested fault false a next h = failing fault

-- the same, where something holds of what the first one gives
pub chained :
    {A B : Type 0} (Q : A → Type 0) (P : B → Type 0) (o : OrFault A) (next : A → OrFault B) → Leads A Q o
    → ((a : A) → Q a → Leads B P (next a)) → Leads B P (o >>= next)
chained Q P (Ok a) next first h = h a (first.at a refl)
chained Q P (Err fault) next first h = failing fault

-- ---- what is known of steps that gave something

pub bound_gave :
    {A B : Type 0} (o : OrFault A) (next : A → OrFault B) (b : B) → (o >>= next) ≡ Ok b → (a : A) × (o ≡ Ok a) × (next a ≡ Ok b)
bound_gave (Ok a) next b e = (a, refl, e)
bound_gave (Err fault) next b e = absurd cc

pub found_gave : {A : Type 0} (fault : Fault) (o : Option A) (a : A) → found fault o ≡ Ok a → o ≡ Some a
found_gave fault None a e = absurd cc
found_gave fault (Some b) a e = cc

pub tested_gave : {A : Type 0} (fault : Fault) (test : Bool) (a b : A) → tested fault test a ≡ Ok b → (test ≡ true) × (a ≡ b)
tested_gave fault true a b e = (refl, cc)
tested_gave fault false a b e = absurd cc
