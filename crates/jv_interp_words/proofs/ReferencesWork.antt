-- Branches on references (JVMS 6.5, if_acmp<cond>, ifnull and ifnonnull).
use Rattle.std.proofs.Common.{◌≡◌, ℕ, ℤ, ◌≤◌, Bool, true, false, nat_eq, List, ◌∷◌, ◌++◌, Some, Ok, length, reverse, slice_get, refl, sym, ap, subst, ◌∙◌, arith}
use Rattle.std.proofs.lemmas.Bool.{eqb-true}
use Rattle.jv_code.specs.declared.kinds.Equality.{Equality}
use Rattle.jv_meaning_typing.specs.Named.{object_class_type}
use Rattle.jv_meaning_machine.specs.Faults.{OrFault, tested, ◌>>=◌}
use Rattle.jv_meaning_machine.specs.Faults.Fault.{TagFault}
use Rattle.jv_meaning_machine.specs.Values.{Value, has_type, is_reference_value}
use Rattle.jv_meaning_machine.specs.Values.Value.{Int, Long, Null, Reference, Half, Unset}
use Rattle.jv_meaning_machine.specs.State.{Memory}
use Rattle.jv_meaning_machine.specs.Operands.{popped, popped_reference}
use Rattle.jv_meaning_machine.specs.Effects.{Effect, Context}
use Rattle.jv_meaning_machine.specs.Instructions.{is_same, is_met, jumps_if}
use Rattle.jv_interp_words.specs.declared.registers.Registers.{Registers}
use Rattle.jv_interp_words.specs.ValuesInWords.{AreAddresses, IsOnTop, AreOnTop}
use Rattle.jv_interp_words.specs.FramesInWords.{in_use, FrameStands}
use Rattle.jv_interp_words.proofs.Gave.{bound_gave, tested_gave}
use Rattle.jv_interp_words.proofs.InUse.{length-in_use}
use Rattle.jv_interp_words.proofs.Taken.{popped_as_gave}
use Rattle.jv_interp_words.specs.Going.{Works, CanWork, GoesOn}
use Rattle.jv_interp_words.specs.Inside.Branches.{LeadsOn, BranchesTo, if_same, if_null}
use Rattle.jv_interp_words.proofs.Jumped.{went, branch_leads, branch_goes}

clash : false ≡ true → ⊥
clash e = absurd cc

-- ---- the word of a reference

abbrev pub IsWordOf : List ℕ → Value → ℕ → Type 0
IsWordOf addresses Null word = word ≡ 0
IsWordOf addresses (Reference id) word = slice_get addresses id ≡ Some word
IsWordOf addresses _ word = ⊥

pub reference_word :
    (addresses : List ℕ) (value : Value) (used below : List ℕ) → is_reference_value value ≡ true → IsOnTop addresses value used below
    → (word : ℕ) × (used ≡ word ∷ below) × IsWordOf addresses value word
reference_word addresses (Int number) used below r h = absurd (clash r)
reference_word addresses (Long number) used below r h = absurd (clash r)
reference_word addresses Null used below r h = (0, h, refl)
reference_word addresses (Reference id) used below r h = (h.0, h.1, h.2)
reference_word addresses Half used below r h = absurd h
reference_word addresses Unset used below r h = absurd h

-- ---- two are the same where their words are

eq_of : (a b : ℕ) → nat_eq a b ≡ true → a ≡ b
eq_of a b e = eqb-true a b e

itself : (a : ℕ) → nat_eq a a ≡ true
itself a = grind (arith, eqb-true)

by_numbers :
    (addresses : List ℕ) (a b x y : ℕ) (same words : Bool) → AreAddresses addresses → slice_get addresses a ≡ Some x
    → slice_get addresses b ≡ Some y → nat_eq a b ≡ same → nat_eq x y ≡ words → words ≡ same
by_numbers addresses a b x y true true apart e f g h = refl
by_numbers addresses a b x y false false apart e f g h = refl
by_numbers addresses a b x y true false apart e f g h =
    let known : a ≡ b = eq_of a b g in
    let there : slice_get addresses b ≡ Some x = ap (λ (n : ℕ). slice_get addresses n) (sym known) ∙ e in
    let same : x ≡ y = cc (there, f) in
    absurd (clash (sym h ∙ ap (λ (n : ℕ). nat_eq n y) same ∙ itself y))
by_numbers addresses a b x y false true apart e f g h =
    let known : x ≡ y = eq_of x y h in
    let there : slice_get addresses b ≡ Some x = f ∙ ap (λ (n : ℕ). Some n) (sym known) in
    let same : a ≡ b = apart.apart a b x e there in
    absurd (clash (sym g ∙ ap (λ (n : ℕ). nat_eq n b) same ∙ itself b))

not_null :
    (addresses : List ℕ) (b x y : ℕ) (words : Bool) → AreAddresses addresses → x ≡ 0 → slice_get addresses b ≡ Some y → nat_eq x y ≡ words
    → words ≡ false
not_null addresses b x y false apart e f h = refl
not_null addresses b x y true apart e f h =
    let known : 0 ≡ y = sym e ∙ eq_of x y h in
    absurd (apart.not_null b (f ∙ ap (λ (n : ℕ). Some n) (sym known)))

not_null_either :
    (addresses : List ℕ) (a x y : ℕ) (words : Bool) → AreAddresses addresses → slice_get addresses a ≡ Some x → y ≡ 0 → nat_eq x y ≡ words
    → words ≡ false
not_null_either addresses a x y false apart e f h = refl
not_null_either addresses a x y true apart e f h =
    let known : 0 ≡ x = sym (eq_of x y h ∙ f) in
    absurd (apart.not_null a (e ∙ ap (λ (n : ℕ). Some n) (sym known)))

same_given : (a b : Bool) (o : OrFault Bool) → o ≡ Ok a → o ≡ Ok b → a ≡ b
same_given a b o e f = cc

pub same_is :
    (addresses : List ℕ) (a b : Value) (x y : ℕ) (same : Bool) → AreAddresses addresses → IsWordOf addresses a x → IsWordOf addresses b y
    → is_same a b ≡ Ok same → nat_eq x y ≡ same
same_is addresses Null Null x y same apart h k e =
    ap (λ (n : ℕ). nat_eq n y) (h ∙ sym k) ∙ itself y ∙ same_given true same (Ok true) refl e
same_is addresses Null (Reference b) x y same apart h k e =
    not_null addresses b x y (nat_eq x y) apart h k refl ∙ same_given false same (Ok false) refl e
same_is addresses (Reference a) Null x y same apart h k e =
    not_null_either addresses a x y (nat_eq x y) apart h k refl ∙ same_given false same (Ok false) refl e
same_is addresses (Reference a) (Reference b) x y same apart h k e =
    by_numbers addresses a b x y (nat_eq a b) (nat_eq x y) apart h k refl refl ∙ same_given (nat_eq a b) same (Ok (nat_eq a b)) refl e
same_is addresses (Int a) b x y same apart h k e = absurd h
same_is addresses (Long a) b x y same apart h k e = absurd h
same_is addresses Half b x y same apart h k e = absurd h
same_is addresses Unset b x y same apart h k e = absurd h
same_is addresses Null (Int b) x y same apart h k e = absurd k
same_is addresses Null (Long b) x y same apart h k e = absurd k
same_is addresses Null Half x y same apart h k e = absurd k
same_is addresses Null Unset x y same apart h k e = absurd k
same_is addresses (Reference a) (Int b) x y same apart h k e = absurd k
same_is addresses (Reference a) (Long b) x y same apart h k e = absurd k
same_is addresses (Reference a) Half x y same apart h k e = absurd k
same_is addresses (Reference a) Unset x y same apart h k e = absurd k

-- ---- references on top

-- one was popped, and its word is on top
pub record Popped (addresses : List ℕ) (stack : List Value) (top : Value × List Value) (used below : List ℕ) : Type 0 where
  pub word : ℕ
  pub under : List ℕ
  pub place : used ≡ word ∷ under
  pub is : IsWordOf addresses top.0 word
  pub rest : AreOnTop addresses top.1 under below

pub reference_popped :
    (addresses : List ℕ) (stack : List Value) (top : Value × List Value) (used below : List ℕ) → popped_reference stack ≡ Ok top
    → AreOnTop addresses stack used below → Popped addresses stack top used below
reference_popped addresses stack top used below e h =
    let parts = bound_gave (popped stack) (λ (p : Value × List Value). tested TagFault (has_type object_class_type p.0) p) top e in
    let test = tested_gave TagFault (has_type object_class_type parts.0.0) parts.0 top parts.2 in
    let kind : is_reference_value top.0 ≡ true = ap (λ (p : Value × List Value). is_reference_value p.0) (sym test.1) ∙ test.0 in
    let s = subst (λ (s : List Value). AreOnTop addresses s used below) (popped_as_gave object_class_type stack top e) h in
    let w = reference_word addresses top.0 used s.0 kind s.1 in
    record { word = w.0; under = s.0; place = w.1; is = w.2; rest = s.2 }

-- ---- two of them

pub record ReferencesStand (c : Context) (equality : Equality) (distance : ℤ) (addresses : List ℕ) (done : Memory × Effect) (used below : List ℕ) : Type 0 where
  pub first : ℕ
  pub second : ℕ
  pub under : List ℕ
  pub rest : List Value
  pub place : used ≡ second ∷ first ∷ under
  pub lower : FrameStands addresses c.frame.locals rest under below
  pub does : jumps_if c distance rest (is_met equality (nat_eq first second)) ≡ Ok done

pub references_stand :
    (equality : Equality) (distance : ℤ) (next : ℕ) (at : Registers) (words : List ℕ) (c : Context) (addresses : List ℕ)
    (done : Memory × Effect) (below : List ℕ) → Works (if_same equality distance) next at words c addresses done below
    → ReferencesStand c equality distance addresses done (in_use words at.top) below
references_stand equality distance next at words c addresses done below w =
    let second =
    bound_gave (popped_reference c.frame.stack)
    (λ (second : Value × List Value). popped_reference second.1 >>= λ first. is_same first.0 second.0 >>= λ same.
    jumps_if c distance first.1 (is_met equality same)) done w.does in
    let first =
    bound_gave (popped_reference second.0.1)
    (λ (first : Value × List Value). is_same first.0 second.0.0 >>= λ same. jumps_if c distance first.1 (is_met equality same)) done second.2 in
    let same =
    bound_gave (is_same first.0.0 second.0.0) (λ (same : Bool). jumps_if c distance first.0.1 (is_met equality same)) done first.2 in
    let up =
    reference_popped addresses c.frame.stack second.0 (in_use words at.top) (reverse w.frame.words ++ below) second.1 w.frame.stack_stands in
    let low = reference_popped addresses second.0.1 first.0 up.under (reverse w.frame.words ++ below) first.1 up.rest in
    record {
      first = low.word;
      second = up.word;
      under = low.under;
      rest = first.0.1;
      place = up.place ∙ ap (λ (l : List ℕ). up.word ∷ l) low.place;
      lower = record { words = w.frame.words; stack_stands = low.rest; locals_stand = w.frame.locals_stand };
      does =
          ap (λ (b : Bool). jumps_if c distance first.0.1 (is_met equality b))
          (same_is addresses first.0.0 second.0.0 low.word up.word same.0 w.apart low.is up.is same.1)
          ∙ same.2;
    }

pub references_top :
    (equality : Equality) (distance : ℤ) (next : ℕ) (at : Registers) (words : List ℕ) → CanWork (if_same equality distance) next at words
    → 2 ≤ at.top
references_top equality distance next at words h =
    let r = references_stand equality distance next at words h.c h.addresses h.done h.below h.works in
    omega (arith, ap length r.place, length-in_use words at.top h.works.top_within)

words_are :
    (x y a b : ℕ) (taken under : List ℕ) → y ∷ x ∷ taken ≡ b ∷ a ∷ under → (x ≡ a) × (y ≡ b) × (taken ≡ under)
words_are x y a b taken under e = (cc, cc, cc)

-- the words that were read, and what stands below
pub record ReadReferences (c : Context) (equality : Equality) (distance : ℤ) (addresses : List ℕ) (done : Memory × Effect) (taken below : List ℕ) (x y : ℕ) : Type 0 where
  pub rest : List Value
  pub lower : FrameStands addresses c.frame.locals rest taken below
  pub does : jumps_if c distance rest (is_met equality (nat_eq x y)) ≡ Ok done

references_read :
    (c : Context) (equality : Equality) (distance : ℤ) (addresses : List ℕ) (done : Memory × Effect) (used taken below : List ℕ) (x y : ℕ)
    → ReferencesStand c equality distance addresses done used below → used ≡ y ∷ x ∷ taken
    → ReadReferences c equality distance addresses done taken below x y
references_read c equality distance addresses done used taken below x y r e =
    let known = words_are x y r.first r.second taken r.under (sym e ∙ r.place) in
    record {
      rest = r.rest;
      lower = subst (λ (l : List ℕ). FrameStands addresses c.frame.locals r.rest l below) (sym known.2) r.lower;
      does =
          ap (λ (n : ℕ). jumps_if c distance r.rest (is_met equality (nat_eq n y))) known.0
          ∙ ap (λ (n : ℕ). jumps_if c distance r.rest (is_met equality (nat_eq r.first n))) known.1
          ∙ r.does;
    }

pub same_leads :
    (equality : Equality) (distance : ℤ) (next : ℕ) (at : Registers) (words taken : List ℕ) (x y : ℕ) (test : Bool)
    → CanWork (if_same equality distance) next at words → in_use words at.top ≡ y ∷ x ∷ taken → test ≡ is_met equality (nat_eq x y)
    → LeadsOn at.pc distance test
same_leads equality distance next at words taken x y test h e f =
    let r = references_stand equality distance next at words h.c h.addresses h.done h.below h.works in
    let t = references_read h.c equality distance h.addresses h.done (in_use words at.top) taken h.below x y r e in
    branch_leads h.c distance t.rest h.done at.pc (is_met equality (nat_eq x y)) test t.does h.works.pc_is f

pub same_goes :
    (equality : Equality) (distance : ℤ) (next : ℕ) (at after : Registers) (words : List ℕ) (x y : ℕ) (test : Bool)
    → in_use words at.top ≡ y ∷ x ∷ in_use words after.top → test ≡ is_met equality (nat_eq x y)
    → BranchesTo at.pc distance next test after.pc → GoesOn (if_same equality distance) next at words after words
same_goes equality distance next at after words x y test e f to = λ c addresses done below w.
    let r = references_stand equality distance next at words c addresses done below w in
    let t = references_read c equality distance addresses done (in_use words at.top) (in_use words after.top) below x y r e in
    went c addresses done below after words t.rest
    (branch_goes c distance t.rest done at.pc next after.pc (is_met equality (nat_eq x y)) test t.does w.pc_is w.next_is f to) t.lower

-- ---- one of them, against null

pub record ReadReference (c : Context) (equality : Equality) (distance : ℤ) (addresses : List ℕ) (done : Memory × Effect) (taken below : List ℕ) (x : ℕ) : Type 0 where
  pub rest : List Value
  pub lower : FrameStands addresses c.frame.locals rest taken below
  pub does : jumps_if c distance rest (is_met equality (nat_eq x 0)) ≡ Ok done

pub record ReferenceStands (c : Context) (equality : Equality) (distance : ℤ) (addresses : List ℕ) (done : Memory × Effect) (used below : List ℕ) : Type 0 where
  pub word : ℕ
  pub under : List ℕ
  pub place : used ≡ word ∷ under
  pub read : ReadReference c equality distance addresses done under below word

pub reference_stands :
    (equality : Equality) (distance : ℤ) (next : ℕ) (at : Registers) (words : List ℕ) (c : Context) (addresses : List ℕ)
    (done : Memory × Effect) (below : List ℕ) → Works (if_null equality distance) next at words c addresses done below
    → ReferenceStands c equality distance addresses done (in_use words at.top) below
reference_stands equality distance next at words c addresses done below w =
    let top =
    bound_gave (popped_reference c.frame.stack)
    (λ (top : Value × List Value). is_same top.0 Null >>= λ same. jumps_if c distance top.1 (is_met equality same)) done w.does in
    let same = bound_gave (is_same top.0.0 Null) (λ (same : Bool). jumps_if c distance top.0.1 (is_met equality same)) done top.2 in
    let up = reference_popped addresses c.frame.stack top.0 (in_use words at.top) (reverse w.frame.words ++ below) top.1 w.frame.stack_stands in
    record {
      word = up.word;
      under = up.under;
      place = up.place;
      read = record {
        rest = top.0.1;
        lower = record { words = w.frame.words; stack_stands = up.rest; locals_stand = w.frame.locals_stand };
        does =
            ap (λ (b : Bool). jumps_if c distance top.0.1 (is_met equality b))
            (same_is addresses top.0.0 Null up.word 0 same.0 w.apart up.is refl same.1)
            ∙ same.2;
      };
    }

pub reference_top :
    (equality : Equality) (distance : ℤ) (next : ℕ) (at : Registers) (words : List ℕ) → CanWork (if_null equality distance) next at words
    → 1 ≤ at.top
reference_top equality distance next at words h =
    let r = reference_stands equality distance next at words h.c h.addresses h.done h.below h.works in
    omega (arith, ap length r.place, length-in_use words at.top h.works.top_within)

word_is : (x a : ℕ) (taken under : List ℕ) → x ∷ taken ≡ a ∷ under → (a ≡ x) × (under ≡ taken)
word_is x a taken under e = (cc, cc)

reference_read :
    (c : Context) (equality : Equality) (distance : ℤ) (addresses : List ℕ) (done : Memory × Effect) (used taken below : List ℕ) (x : ℕ)
    → ReferenceStands c equality distance addresses done used below → used ≡ x ∷ taken
    → ReadReference c equality distance addresses done taken below x
reference_read c equality distance addresses done used taken below x r e =
    let known = word_is x r.word taken r.under (sym e ∙ r.place) in
    subst (λ (n : ℕ). ReadReference c equality distance addresses done taken below n) known.0
    (subst (λ (l : List ℕ). ReadReference c equality distance addresses done l below r.word) known.1 r.read)

pub null_leads :
    (equality : Equality) (distance : ℤ) (next : ℕ) (at : Registers) (words taken : List ℕ) (x : ℕ) (test : Bool)
    → CanWork (if_null equality distance) next at words → in_use words at.top ≡ x ∷ taken → test ≡ is_met equality (nat_eq x 0)
    → LeadsOn at.pc distance test
null_leads equality distance next at words taken x test h e f =
    let r = reference_stands equality distance next at words h.c h.addresses h.done h.below h.works in
    let t = reference_read h.c equality distance h.addresses h.done (in_use words at.top) taken h.below x r e in
    branch_leads h.c distance t.rest h.done at.pc (is_met equality (nat_eq x 0)) test t.does h.works.pc_is f

pub null_goes_on :
    (equality : Equality) (distance : ℤ) (next : ℕ) (at after : Registers) (words : List ℕ) (x : ℕ) (test : Bool)
    → in_use words at.top ≡ x ∷ in_use words after.top → test ≡ is_met equality (nat_eq x 0)
    → BranchesTo at.pc distance next test after.pc → GoesOn (if_null equality distance) next at words after words
null_goes_on equality distance next at after words x test e f to = λ c addresses done below w.
    let r = reference_stands equality distance next at words c addresses done below w in
    let t = reference_read c equality distance addresses done (in_use words at.top) (in_use words after.top) below x r e in
    went c addresses done below after words t.rest
    (branch_goes c distance t.rest done at.pc next after.pc (is_met equality (nat_eq x 0)) test t.does w.pc_is w.next_is f to) t.lower
