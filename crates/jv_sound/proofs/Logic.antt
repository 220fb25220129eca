-- A rule of type checking and what the machine does, side by side.
use Rattle.std.proofs.Common.{◌≡◌, Bool, true, false, Option, Some, None, Ok, Err, refl, subst}
use Rattle.std.specs.Prelude.{⊤}
use Rattle.jv_format.specs.Format as rules
use Rattle.jv_meaning_typing.specs.Named.{when}
use Rattle.jv_meaning_machine.specs.Faults as machine
use Rattle.jv_meaning_machine.specs.Faults.{Fault, OrFault, found, tested}
use Rattle.jv_sound.specs.Frames.{Holds}

pub clash : false ≡ true → ⊥
clash e = absurd cc

-- where a rule gives something, so does the machine, and they fit together
abbrev pub AgreesBy : {A B : Type 0} → (A → B → Type 0) → Option A → OrFault B → Type 0
AgreesBy R None m = ⊤
AgreesBy R (Some a) (Ok b) = R a b
AgreesBy R (Some a) (Err fault) = ⊥

pub record Agrees {A B : Type 0} (R : A → B → Type 0) (r : Option A) (m : OrFault B) : Type 0 where
  pub by : AgreesBy R r m

pub then2 :
    {A B C D : Type 0} {Q : A → B → Type 0} {R : C → D → Type 0} {r : Option A} {m : OrFault B} {f : A → Option C} {g : B → OrFault D}
    → Agrees Q r m → ((a : A) (b : B) → Q a b → Agrees R (f a) (g b)) → Agrees R (rules.◌>>=◌ r f) (machine.◌>>=◌ m g)
then2 {r = None} h k = record { by = tt }
then2 {r = Some a} {m = Ok b} h k = k a b h.by
then2 {r = Some a} {m = Err fault} h k = absurd h.by

-- a step of the machine alone
pub then1 :
    {B C D : Type 0} {Q : B → Type 0} {R : C → D → Type 0} {r : Option C} {m : OrFault B} {g : B → OrFault D}
    → Holds Q m → ((b : B) → Q b → Agrees R r (g b)) → Agrees R r (machine.◌>>=◌ m g)
then1 {m = Ok b} h k = k b h.by
then1 {m = Err fault} h k = absurd h.by

-- a step of the rule alone
pub then0 :
    {A C D : Type 0} {R : C → D → Type 0} {r : Option A} {f : A → Option C} {m : OrFault D}
    → ((a : A) → r ≡ Some a → Agrees R (f a) m) → Agrees R (rules.◌>>=◌ r f) m
then0 {r = None} k = record { by = tt }
then0 {r = Some a} k = k a refl

pub both : {A B : Type 0} {R : A → B → Type 0} {a : A} {b : B} → R a b → Agrees R (Some a) (Ok b)
both h = record { by = h }

pub nothing : {A B : Type 0} {R : A → B → Type 0} {m : OrFault B} → Agrees R None m
nothing = record { by = tt }

-- the same of two options
abbrev pub AlikeBy : {A B : Type 0} → (A → B → Type 0) → Option A → Option B → Type 0
AlikeBy R None m = ⊤
AlikeBy R (Some a) (Some b) = R a b
AlikeBy R (Some a) None = ⊥

pub record Alike {A B : Type 0} (R : A → B → Type 0) (r : Option A) (m : Option B) : Type 0 where
  pub by : AlikeBy R r m

pub or_fault : {A B : Type 0} {R : A → B → Type 0} {r : Option A} {m : Option B} (fault : Fault) → Alike R r m → Agrees R r (found fault m)
or_fault {r = None} fault a = record { by = tt }
or_fault {r = Some x} {m = Some y} fault a = record { by = a.by }
or_fault {r = Some x} {m = None} fault a = absurd a.by

-- a test of the rule, and one of the machine that it implies
pub when_tested :
    {A B : Type 0} {R : A → B → Type 0} (fault : Fault) (s t : Bool) (a : A) (b : B) → (s ≡ true → t ≡ true) → (s ≡ true → R a b)
    → Agrees R (when s a) (tested fault t b)
when_tested fault false t a b h k = record { by = tt }
when_tested fault true true a b h k = record { by = k refl }
when_tested fault true false a b h k = absurd (clash (h refl))

-- ---- the machine alone

pub then_holds :
    {A B : Type 0} {P : A → Type 0} {Q : B → Type 0} {r : OrFault A} {f : A → OrFault B} → Holds P r → ((a : A) → P a → Holds Q (f a))
    → Holds Q (machine.◌>>=◌ r f)
then_holds {r = Ok a} h k = k a h.by
then_holds {r = Err fault} h k = absurd h.by

pub holds : {A : Type 0} {P : A → Type 0} {a : A} → P a → Holds P (Ok a)
holds h = record { by = h }

pub found_holds : {A : Type 0} {P : A → Type 0} (fault : Fault) (o : Option A) (a : A) → o ≡ Some a → P a → Holds P (found fault o)
found_holds {P = P} fault None a e h = absurd cc
found_holds {P = P} fault (Some b) a e h = let same : a ≡ b = cc in record { by = subst P same h }

pub tested_holds : {A : Type 0} {P : A → Type 0} (fault : Fault) (test : Bool) (a : A) → test ≡ true → P a → Holds P (tested fault test a)
tested_holds fault true a e h = record { by = h }
tested_holds fault false a e h = absurd (clash e)

-- what a rule gives, the machine's fits to
pub used : {A B : Type 0} {R : A → B → Type 0} {r : Option A} {m : OrFault B} → Agrees R r m → (a : A) → r ≡ Some a → Holds (R a) m
used {R = R} {r = Some b} {m = Ok x} h a e = let same : b ≡ a = cc in record { by = subst (λ y. R y x) same h.by }
used {r = Some b} {m = Err fault} h a e = absurd h.by
used {r = None} h a e = absurd cc

-- steps in another grouping
pub regrouped :
    {A B C D : Type 0} {R : D → C → Type 0} {r : Option D} (m : OrFault A) (n : A → OrFault B) (g : B → OrFault C)
    → Agrees R r (machine.◌>>=◌ (machine.◌>>=◌ m n) g) → Agrees R r (machine.◌>>=◌ m (λ a. machine.◌>>=◌ (n a) g))
regrouped (Ok a) n g h = h
regrouped (Err fault) n g h = h

-- ---- steps of a rule that only hand on

pub handed_on : {A B C : Type 0} {R : B → C → Type 0} (o : Option A) (f : A → Option B) (m : OrFault C) → Agrees R (rules.◌>>=◌ o f) m
    → Agrees R (rules.◌>>=◌ (rules.◌>>=◌ o (λ a. Some a)) f) m
handed_on None f m h = h
handed_on (Some a) f m h = h

pub handed_over : {A B C D : Type 0} {R : C → D → Type 0} (o : Option A) (f : A → Option B) (g : B → Option C) (m : OrFault D)
    → Agrees R (rules.◌>>=◌ o (λ a. rules.◌>>=◌ (f a) g)) m
    → Agrees R (rules.◌>>=◌ (rules.◌>>=◌ (rules.◌>>=◌ o (λ a. Some a)) f) g) m
handed_over None f g m h = record { by = tt }
handed_over (Some a) f g m h = h

pub handed_further : {A B C D E : Type 0} {R : D → E → Type 0} (o : Option A) (e : A → Option B) (f : B → Option C) (g : C
    → Option D) (m : OrFault E)
    → Agrees R (rules.◌>>=◌ o (λ a. rules.◌>>=◌ (e a) (λ b. rules.◌>>=◌ (f b) g))) m
    → Agrees R (rules.◌>>=◌ (rules.◌>>=◌ (rules.◌>>=◌ o (λ a. rules.◌>>=◌ (e a) (λ b. Some b))) f) g) m
handed_further None e f g m h = record { by = tt }
handed_further (Some a) e f g m h = handed_over (e a) f g m h

-- steps of a rule in another grouping
pub grouped : {A B C D : Type 0} {R : C → D → Type 0} (o : Option A) (f : A → Option B) (g : B → Option C) (m : OrFault D)
    → Agrees R (rules.◌>>=◌ o (λ a. rules.◌>>=◌ (f a) g)) m → Agrees R (rules.◌>>=◌ (rules.◌>>=◌ o f) g) m
grouped None f g m h = h
grouped (Some a) f g m h = h

-- what the machine's step gave is known behind it
pub then2_known :
    {A B C D : Type 0} {Q : A → B → Type 0} {R : C → D → Type 0} {r : Option A} {m : OrFault B} {f : A → Option C} {g : B → OrFault D}
    → Agrees Q r m → ((a : A) (b : B) → m ≡ Ok b → Q a b → Agrees R (f a) (g b)) → Agrees R (rules.◌>>=◌ r f) (machine.◌>>=◌ m g)
then2_known {r = None} h k = record { by = tt }
then2_known {r = Some a} {m = Ok b} h k = k a b refl h.by
then2_known {r = Some a} {m = Err fault} h k = absurd h.by

-- and what the rule's step gave
pub then2_from :
    {A B C D : Type 0} {Q : A → B → Type 0} {R : C → D → Type 0} {r : Option A} {m : OrFault B} {f : A → Option C} {g : B → OrFault D}
    → Agrees Q r m → ((a : A) (b : B) → r ≡ Some a → Q a b → Agrees R (f a) (g b)) → Agrees R (rules.◌>>=◌ r f) (machine.◌>>=◌ m g)
then2_from {r = None} h k = record { by = tt }
then2_from {r = Some a} {m = Ok b} h k = k a b refl h.by
then2_from {r = Some a} {m = Err fault} h k = absurd h.by
