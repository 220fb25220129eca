-- Stacks on top of words.
use Rattle.std.proofs.Common.{◌≡◌, ℕ, List, [], ◌∷◌, ◌++◌, refl, sym, ap, subst, ◌∙◌, append_assoc}
use Rattle.jv_meaning_machine.specs.Values.{Value}
use Rattle.jv_meaning_machine.specs.Values.Value.{Int, Long, Null, Reference, Half, Unset}
use Rattle.jv_interp_words.specs.ValuesInWords.{IsOnTop, AreOnTop}

-- the words that came on top of others, and could stand on yet others as well
pub record Above (stands : List ℕ → List ℕ → Type 0) (words below : List ℕ) : Type 0 where
  pub front : List ℕ
  pub place : words ≡ front ++ below
  pub moves : (others : List ℕ) → stands (front ++ others) others

pub value_above :
    (addresses : List ℕ) (value : Value) (words below : List ℕ) → IsOnTop addresses value words below
    → Above (IsOnTop addresses value) words below
value_above addresses (Int value) words below h =
    record { front = h.0 ∷ []; place = h.1; moves = λ others. (h.0, refl, h.2) }
value_above addresses (Long value) words below h =
    record { front = h.1 ∷ h.0 ∷ []; place = h.2; moves = λ others. (h.0, h.1, refl, h.3) }
value_above addresses Null words below h = record { front = 0 ∷ []; place = h; moves = λ others. refl }
value_above addresses (Reference id) words below h =
    record { front = h.0 ∷ []; place = h.1; moves = λ others. (h.0, refl, h.2) }
value_above addresses Half words below h = absurd h
value_above addresses Unset words below h = absurd h

pub stack_above :
    (addresses : List ℕ) (stack : List Value) (words below : List ℕ) → AreOnTop addresses stack words below
    → Above (AreOnTop addresses stack) words below
stack_above addresses [] words below h = record { front = []; place = h; moves = λ others. refl }
stack_above addresses (value ∷ stack) words below h =
    let first = value_above addresses value words h.0 h.1 in
    let rest = stack_above addresses stack h.0 below h.2 in
    record {
      front = first.front ++ rest.front;
      place = first.place ∙ ap (λ (l : List ℕ). first.front ++ l) rest.place ∙ sym (append_assoc first.front rest.front below);
      moves =
          λ others. (
            rest.front ++ others,
            subst (λ (l : List ℕ). IsOnTop addresses value l (rest.front ++ others)) (sym (append_assoc first.front rest.front others))
                (first.moves (rest.front ++ others)),
            rest.moves others,
          );
    }

-- a stack in two parts
pub stack_split :
    (addresses : List ℕ) (upper lower : List Value) (words below : List ℕ) → AreOnTop addresses (upper ++ lower) words below
    → (middle : List ℕ) × AreOnTop addresses upper words middle × AreOnTop addresses lower middle below
stack_split addresses [] lower words below h = (words, refl, h)
stack_split addresses (value ∷ upper) lower words below h =
    let rest = stack_split addresses upper lower h.0 below h.2 in
    (rest.0, (h.0, h.1, rest.1), rest.2)

-- and put on one another
pub stack_joined :
    (addresses : List ℕ) (upper lower : List Value) (words middle below : List ℕ) → AreOnTop addresses upper words middle
    → AreOnTop addresses lower middle below → AreOnTop addresses (upper ++ lower) words below
stack_joined addresses [] lower words middle below h k = subst (λ (l : List ℕ). AreOnTop addresses lower l below) (sym h) k
stack_joined addresses (value ∷ upper) lower words middle below h k =
    (h.0, h.1, stack_joined addresses upper lower h.0 middle below h.2 k)
