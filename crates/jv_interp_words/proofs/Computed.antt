-- What a computation that gave something had as operands, and what stands in their place.
use Rattle.std.proofs.Common.{◌≡◌, ℕ, ◌+◌, ℤ, List, [], ◌∷◌, Ok, Err, length, reverse, refl, sym, ap, subst, ◌∙◌, arith}
use Rattle.std.proofs.Common.{◌*◌, FitsSigned}
use Rattle.std.proofs.lemmas.Int.{to_z-of_z}
use borrow.Author.Gap.{read_sfits}
use Rattle.std.specs.Int.{Width, w32, w64, cast_signed, cast_unsigned}
use Rattle.jv_code.specs.declared.kinds.NumberKind.{NumberKind}
use Rattle.jv_code.specs.declared.kinds.NumberKind.TheVariants as numbers
use Rattle.jv_meaning_machine.specs.Faults.{OrFault, ◌>>=◌}
use Rattle.jv_meaning_machine.specs.Values.{Value, value_words}
use Rattle.jv_meaning_machine.specs.Values.Value.{Int, Long, Null, Reference, Half, Unset}
use Rattle.jv_meaning_machine.specs.Arithmetic.{number_value, width_of, as_number, one, two, none}
use Rattle.jv_interp_words.specs.ValuesInWords.{IsOnTop, AreOnTop}
use Rattle.jv_interp_words.specs.Inside.Numbers.{Takes, Puts}
use Rattle.jv_interp_words.proofs.Gave.{bound_gave, number_gave, one_gave, two_gave, none_gave}

-- as many words came as a value has
pub on_top_length :
    (addresses : List ℕ) (value : Value) (words below : List ℕ) → IsOnTop addresses value words below
    → length words ≡ value_words value + length below
on_top_length addresses (Int value) words below h = ap length h.1 ∙ omega arith
on_top_length addresses (Long value) words below h = ap length h.2 ∙ omega arith
on_top_length addresses Null words below h = ap length h ∙ omega arith
on_top_length addresses (Reference id) words below h = ap length h.1 ∙ omega arith
on_top_length addresses Half words below h = absurd h
on_top_length addresses Unset words below h = absurd h

-- ---- two numbers

abbrev pub of_two : NumberKind → NumberKind → (ℤ → ℤ → Value) → List Value → OrFault Value
of_two kind other f values =
    two values >>= λ p. as_number kind p.0 >>= λ a. as_number other p.1 >>= λ b. Ok (f a b)

pub record OfTwo (kind other : NumberKind) (f : ℤ → ℤ → Value) (values : List Value) (value : Value) : Type 0 where
  pub first : ℤ
  pub second : ℤ
  pub values_are : values ≡ number_value kind first ∷ number_value other second ∷ []
  pub value_is : f first second ≡ value

same_given : (a b : Value) (o : OrFault Value) → o ≡ Ok a → o ≡ Ok b → a ≡ b
same_given a b o e f = cc

pub two_numbers :
    (kind other : NumberKind) (f : ℤ → ℤ → Value) (values : List Value) (value : Value) → of_two kind other f values ≡ Ok value
    → OfTwo kind other f values value
two_numbers kind other f values value e =
    let p = bound_gave (two values) (λ (p : Value × Value). as_number kind p.0 >>= λ a. as_number other p.1 >>= λ b. Ok (f a b)) value e in
    let a = bound_gave (as_number kind p.0.0) (λ (a : ℤ). as_number other p.0.1 >>= λ b. Ok (f a b)) value p.2 in
    let b = bound_gave (as_number other p.0.1) (λ (b : ℤ). Ok (f a.0 b)) value a.2 in
    record {
      first = a.0;
      second = b.0;
      values_are =
          two_gave values p.0 p.1
          ∙ ap (λ (v : Value). v ∷ p.0.1 ∷ []) (number_gave kind p.0.0 a.0 a.1)
          ∙ ap (λ (v : Value). number_value kind a.0 ∷ v ∷ []) (number_gave other p.0.1 b.0 b.1);
      value_is = same_given (f a.0 b.0) value (Ok (f a.0 b.0)) refl b.2;
    }

-- what is done with two numbers on top is done with the operands
pub done_with_two :
    (kind other : NumberKind) (f : ℤ → ℤ → Value) (before after : List ℕ)
    → ((addresses : List ℕ) (a b : ℤ) (below : List ℕ)
    → AreOnTop addresses (number_value other b ∷ number_value kind a ∷ []) before below → IsOnTop addresses (f a b) after below)
    → (addresses : List ℕ) (values : List Value) (value : Value) (below : List ℕ) → of_two kind other f values ≡ Ok value
    → AreOnTop addresses (reverse values) before below → IsOnTop addresses value after below
done_with_two kind other f before after done addresses values value below e stand =
    let known = two_numbers kind other f values value e in
    subst (λ (v : Value). IsOnTop addresses v after below) known.value_is
    (done addresses known.first known.second below
    (subst (λ (vs : List Value). AreOnTop addresses (reverse vs) before below) known.values_are stand))

-- ---- code that takes numbers from the top and puts one there

-- what was made of a word is it again after a way through its bits
cast_signed_again : (w : Width) (n : ℕ) → cast_signed w (cast_unsigned w (cast_signed w n)) ≡ cast_signed w n
cast_signed_again w n = to_z-of_z w (cast_signed w n) (read_sfits w n)

-- a number that was handed on
abbrev pub again : NumberKind → ℤ → ℤ
again kind number = cast_signed (width_of kind) (cast_unsigned (width_of kind) number)

pub known_again :
    (kind : NumberKind) (addresses : List ℕ) (value number : ℤ) (words below : List ℕ) → IsOnTop addresses (number_value kind value) words below
    → value ≡ number → again kind number ≡ value
known_again numbers.Int addresses value number words below h e =
    ap (again numbers.Int) (sym e ∙ h.2) ∙ cast_signed_again w32 h.0 ∙ sym h.2
known_again numbers.Long addresses value number words below h e =
    ap (again numbers.Long) (sym e ∙ h.3) ∙ cast_signed_again w64 (h.1 * 4294967296 + h.0) ∙ sym h.3

-- what is done with two numbers on top of words
pub two_done :
    (first second gives : NumberKind) (f : ℤ → ℤ → ℤ) (before between taken after : List ℕ) (x y r : ℤ) → Takes second before between y
    → Takes first between taken x → r ≡ f (again first x) (again second y) → FitsSigned (width_of gives) r
    → Puts gives taken after (again gives r)
    → (addresses : List ℕ) (a b : ℤ) (below : List ℕ)
    → AreOnTop addresses (number_value second b ∷ number_value first a ∷ []) before below
    → IsOnTop addresses (number_value gives (f a b)) after below
two_done first second gives f before between taken after x y r take_y take_x is fits put addresses a b below s =
    let upper = take_y addresses b s.0 s.1 in
    let lower =
    take_x addresses a s.2.0 (subst (λ (u : List ℕ). IsOnTop addresses (number_value first a) u s.2.0) (sym upper.1) s.2.1) in
    subst (λ (u : List ℕ). IsOnTop addresses (number_value gives (f a b)) after u) (lower.1 ∙ s.2.2)
    (subst (λ (n : ℤ). IsOnTop addresses (number_value gives n) after taken)
    (to_z-of_z (width_of gives) r fits ∙ is
    ∙ ap (λ (n : ℤ). f n (again second y)) (known_again first addresses a x s.0 s.2.0 s.2.1 lower.0)
    ∙ ap (λ (n : ℤ). f a n) (known_again second addresses b y before s.0 s.1 upper.0)) (put addresses))

pub two_computed :
    (first second gives : NumberKind) (f : ℤ → ℤ → ℤ) (before between taken after : List ℕ) (x y r : ℤ) → Takes second before between y
    → Takes first between taken x → r ≡ f (again first x) (again second y) → FitsSigned (width_of gives) r
    → Puts gives taken after (again gives r)
    → (addresses : List ℕ) (values : List Value) (value : Value) (below : List ℕ)
    → of_two first second (λ a b. number_value gives (f a b)) values ≡ Ok value → AreOnTop addresses (reverse values) before below
    → IsOnTop addresses value after below
two_computed first second gives f before between taken after x y r take_y take_x is fits put addresses values value below e stand =
    done_with_two first second (λ (a b : ℤ). number_value gives (f a b)) before after
    (two_done first second gives f before between taken after x y r take_y take_x is fits put) addresses values value below e stand

-- ---- one number

abbrev pub of_one : NumberKind → (ℤ → Value) → List Value → OrFault Value
of_one kind f values = one values >>= as_number kind >>= λ a. Ok (f a)

pub record OfOne (kind : NumberKind) (f : ℤ → Value) (values : List Value) (value : Value) : Type 0 where
  pub number : ℤ
  pub values_are : values ≡ number_value kind number ∷ []
  pub value_is : f number ≡ value

pub one_number :
    (kind : NumberKind) (f : ℤ → Value) (values : List Value) (value : Value) → of_one kind f values ≡ Ok value → OfOne kind f values value
one_number kind f values value e =
    let a = bound_gave (one values >>= as_number kind) (λ (a : ℤ). Ok (f a)) value e in
    let v = bound_gave (one values) (as_number kind) a.0 a.1 in
    record {
      number = a.0;
      values_are = one_gave values v.0 v.1 ∙ ap (λ (v : Value). v ∷ []) (number_gave kind v.0 a.0 v.2);
      value_is = same_given (f a.0) value (Ok (f a.0)) refl a.2;
    }

pub one_computed :
    (takes gives : NumberKind) (f : ℤ → ℤ) (before taken after : List ℕ) (x r : ℤ) → Takes takes before taken x → r ≡ f (again takes x)
    → FitsSigned (width_of gives) r → Puts gives taken after (again gives r)
    → (addresses : List ℕ) (values : List Value) (value : Value) (below : List ℕ)
    → of_one takes (λ a. number_value gives (f a)) values ≡ Ok value → AreOnTop addresses (reverse values) before below
    → IsOnTop addresses value after below
one_computed takes gives f before taken after x r pop is fits push addresses values value below e stand =
    let known = one_number takes (λ (a : ℤ). number_value gives (f a)) values value e in
    let s = subst (λ (vs : List Value). AreOnTop addresses (reverse vs) before below) known.values_are stand in
    let popped = pop addresses known.number s.0 s.1 in
    subst (λ (v : Value). IsOnTop addresses v after below) known.value_is
    (subst (λ (u : List ℕ). IsOnTop addresses (number_value gives (f known.number)) after u) (popped.1 ∙ s.2)
    (subst (λ (n : ℤ). IsOnTop addresses (number_value gives n) after taken) (to_z-of_z (width_of gives) r fits ∙ is ∙ ap f (known_again takes addresses known.number x before s.0 s.1 popped.0))
    (push addresses)))

-- ---- conversions, and constants

pub bound_behind :
    {A B C : Type 0} (o : OrFault A) (f : A → OrFault B) (g : B → OrFault C) → (o >>= f >>= g) ≡ (o >>= λ a. f a >>= g)
bound_behind (Ok a) f g = refl
bound_behind (Err fault) f g = refl

pub one_converted :
    (takes gives : NumberKind) (f : ℤ → ℤ) (before taken after : List ℕ) (x r : ℤ) → Takes takes before taken x → r ≡ f (again takes x)
    → FitsSigned (width_of gives) r → Puts gives taken after (again gives r)
    → (addresses : List ℕ) (values : List Value) (value : Value) (below : List ℕ)
    → (one values >>= λ v. as_number takes v >>= λ a. Ok (number_value gives (f a))) ≡ Ok value
    → AreOnTop addresses (reverse values) before below → IsOnTop addresses value after below
one_converted takes gives f before taken after x r pop is fits push addresses values value below e stand =
    one_computed takes gives f before taken after x r pop is fits push addresses values value below
    (bound_behind (one values) (as_number takes) (λ (a : ℤ). Ok (number_value gives (f a))) ∙ e) stand

pub constant_computed :
    (gives : NumberKind) (number r : ℤ) (before after : List ℕ) → r ≡ number → FitsSigned (width_of gives) r
    → Puts gives before after (again gives r)
    → (addresses : List ℕ) (values : List Value) (value : Value) (below : List ℕ) → none (number_value gives number) values ≡ Ok value
    → AreOnTop addresses (reverse values) before below → IsOnTop addresses value after below
constant_computed gives number r before after is fits push addresses values value below e stand =
    let known = none_gave (number_value gives number) value values e in
    subst (λ (v : Value). IsOnTop addresses v after below) known.1
    (subst (λ (u : List ℕ). IsOnTop addresses (number_value gives number) after u)
    (subst (λ (vs : List Value). AreOnTop addresses (reverse vs) before below) known.0 stand)
    (subst (λ (n : ℤ). IsOnTop addresses (number_value gives n) after before) (to_z-of_z (width_of gives) r fits ∙ is) (push addresses)))
