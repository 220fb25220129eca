-- Arguments on top of a stack are local variables already, as they stand.
use Rattle.std.proofs.Common.{◌≡◌, ℕ, ◌+◌, ◌-◌, ◌≤◌, nat_le, List, [], ◌∷◌, ◌++◌, length, reverse, replicate, refl, sym, ap, subst, ◌∙◌, arith, length-append, append_assoc}
use Rattle.std.proofs.lemmas.List.{reverse-append, reverse-reverse, length-reverse}
use Rattle.std.proofs.lemmas.Grind.{common_steps}
use Rattle.std.specs.List.{flat_map}
use Rattle.jv_meaning_machine.specs.Faults.Fault.{LocalFault}
use Rattle.jv_meaning_machine.specs.Values.{Value}
use Rattle.jv_meaning_machine.specs.Values.Value.{Int, Long, Null, Reference, Half, Unset}
use Rattle.jv_meaning_machine.specs.Frames.{local_words}
use Rattle.jv_interp_words.specs.ValuesInWords.{IsOnTop, AreOnTop, AreLocals}
use Rattle.jv_interp_words.specs.FramesInWords.{FrameStands}
use Rattle.jv_interp_words.specs.Inside.Calls.{Passes}
use Rattle.jv_interp_words.proofs.Gave.{tested_gave}
use Rattle.jv_interp_words.proofs.Stacks.{stack_split}
use Rattle.jv_interp_words.proofs.Stored.{joined, same_length}

pub record AreFirst (addresses : List ℕ) (locals : List Value) (used under : List ℕ) : Type 0 where
  pub words : List ℕ
  pub place : used ≡ reverse words ++ under
  pub stand : AreLocals addresses locals words

one_first :
    (addresses : List ℕ) (value : Value) (used under : List ℕ) → IsOnTop addresses value used under
    → AreFirst addresses (local_words value) used under
one_first addresses (Int number) used under h = record { words = h.0 ∷ []; place = h.1; stand = (h.2, tt) }
one_first addresses (Long number) used under h =
    record { words = h.0 ∷ h.1 ∷ []; place = h.2; stand = ((omega arith, h.3), (tt, tt)) }
one_first addresses Null used under h = record { words = 0 ∷ []; place = h; stand = (refl, tt) }
one_first addresses (Reference id) used under h = record { words = h.0 ∷ []; place = h.1; stand = (h.2, tt) }
one_first addresses Half used under h = absurd h
one_first addresses Unset used under h = absurd h

pub all_first :
    (addresses : List ℕ) (arguments : List Value) (used under : List ℕ) → AreOnTop addresses (reverse arguments) used under
    → AreFirst addresses (flat_map local_words arguments) used under
all_first addresses [] used under h = record { words = []; place = h; stand = tt }
all_first addresses (value ∷ more) used under h =
    let parts =
    stack_split addresses (reverse more) (value ∷ []) used under
    (subst (λ (vs : List Value). AreOnTop addresses vs used under) (reverse-append (value ∷ []) more) h) in
    let upper = all_first addresses more used parts.0 parts.1 in
    let lower =
    one_first addresses value parts.0 under (subst (λ (l : List ℕ). IsOnTop addresses value parts.0 l) parts.2.2 parts.2.1) in
    record {
      words = lower.words ++ upper.words;
      place =
          upper.place ∙ ap (λ (l : List ℕ). reverse upper.words ++ l) lower.place
          ∙ sym (append_assoc (reverse upper.words) (reverse lower.words) under)
          ∙ ap (λ (l : List ℕ). l ++ under) (sym (reverse-append lower.words upper.words));
      stand = joined addresses (local_words value) (flat_map local_words more) lower.words upper.words lower.stand upper.stand;
    }

-- words that hold nothing
unset_stand : (addresses words : List ℕ) → AreLocals addresses (replicate (length words) Unset) words
unset_stand addresses [] = tt
unset_stand addresses (word ∷ words) = (tt, unset_stand addresses words)

pub passed_count :
    (max_locals count : ℕ) (used addresses : List ℕ) (locals : List Value) (under : List ℕ)
    → Passes max_locals count used addresses locals under → (count ≤ max_locals) × (length used ≡ count + length under)
passed_count max_locals count used addresses locals under h =
    let first = all_first addresses h.arguments used under h.on_top in
    let fits =
    (tested_gave LocalFault (nat_le (length (flat_map local_words h.arguments)) max_locals)
    (flat_map local_words h.arguments ++ replicate (max_locals - length (flat_map local_words h.arguments)) Unset) locals h.fills).0 in
    let below : length (flat_map local_words h.arguments) ≤ max_locals = grind (arith, common_steps) in (
      omega (arith, below, h.count_is),
      omega (
        arith,
        ap length first.place,
        length-append (reverse first.words) under,
        length-reverse first.words,
        h.count_is,
        same_length addresses (flat_map local_words h.arguments) first.words first.stand,
      ),
    )

pub entered_stands :
    (max_locals count : ℕ) (used addresses : List ℕ) (locals : List Value) (under front after : List ℕ)
    → Passes max_locals count used addresses locals under → after ≡ front ++ used → length front ≡ max_locals - count
    → FrameStands addresses locals [] after under
entered_stands max_locals count used addresses locals under front after h e size =
    let arguments = flat_map local_words h.arguments in
    let first = all_first addresses h.arguments used under h.on_top in
    let locals_are =
    (tested_gave LocalFault (nat_le (length arguments) max_locals) (arguments ++ replicate (max_locals - length arguments) Unset) locals h.fills).1 in
    let rest : length (reverse front) ≡ max_locals - length arguments =
    length-reverse front ∙ size ∙ ap (λ (n : ℕ). max_locals - n) h.count_is in
    record {
      words = first.words ++ reverse front;
      stack_stands =
          e ∙ ap (λ (l : List ℕ). front ++ l) first.place ∙ sym (append_assoc front (reverse first.words) under)
          ∙ ap (λ (l : List ℕ). (l ++ reverse first.words) ++ under) (sym (reverse-reverse front))
          ∙ ap (λ (l : List ℕ). l ++ under) (sym (reverse-append first.words (reverse front)));
      locals_stand =
          subst (λ (vs : List Value). AreLocals addresses vs (first.words ++ reverse front)) locals_are
          (joined addresses arguments (replicate (max_locals - length arguments) Unset) first.words (reverse front) first.stand
          (subst (λ (n : ℕ). AreLocals addresses (replicate n Unset) (reverse front)) rest (unset_stand addresses (reverse front))));
    }
