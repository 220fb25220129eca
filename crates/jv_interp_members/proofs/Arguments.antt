-- Arguments on the words of a frame, and the receiver below them.
use Rattle.std.proofs.Common.{◌≡◌, ℕ, ◌+◌, ◌-◌, ◌≤◌, List, [], ◌∷◌, ◌++◌, length, reverse, refl, sym, ap, subst, ◌∙◌, get_or, arith, length-append}
use Rattle.std.specs.List.{flat_map}
use Rattle.std.proofs.lemmas.List.{length-reverse}
use Rattle.jv_meaning_machine.specs.Values.{Value}
use Rattle.jv_meaning_machine.specs.Frames.{local_words}
use Rattle.jv_interp_words.specs.ValuesInWords.{IsOnTop, AreOnTop}
use Rattle.jv_interp_words.specs.FramesInWords.{in_use, FrameStands}
use Rattle.jv_interp_words.proofs.InUse.{in_use_top, length-in_use}
use Rattle.jv_interp_words.proofs.Passed.{all_first}
use Rattle.jv_interp_words.proofs.Stacks.{stack_split, stack_joined}
use Rattle.jv_interp_words.proofs.Stored.{same_length}
use Rattle.jv_interp_words.proofs.Tops.{falls}
use Rattle.jv_interp_held.proofs.Popped.{frame_popped, some_used}

-- the arguments are on top of the frame without them
pub record OnFrame (addresses : List ℕ) (locals arguments rest : List Value) (used below : List ℕ) : Type 0 where
  pub under : List ℕ
  pub on_top : AreOnTop addresses (reverse arguments) used under
  pub left : FrameStands addresses locals rest under below
  pub front : List ℕ
  pub place : used ≡ front ++ under
  pub size : length front ≡ length (flat_map local_words arguments)

pub on_frame :
    (addresses : List ℕ) (locals stack arguments rest : List Value) (used below : List ℕ) → FrameStands addresses locals stack used below
    → stack ≡ reverse arguments ++ rest → OnFrame addresses locals arguments rest used below
on_frame addresses locals stack arguments rest used below h e =
    let parts =
    stack_split addresses (reverse arguments) rest used (reverse h.words ++ below)
    (subst (λ (vs : List Value). AreOnTop addresses vs used (reverse h.words ++ below)) e h.stack_stands) in
    let first = all_first addresses arguments used parts.0 parts.1 in
    record {
      under = parts.0;
      on_top = parts.1;
      left = record { words = h.words; stack_stands = parts.2; locals_stand = h.locals_stand };
      front = reverse first.words;
      place = first.place;
      size = length-reverse first.words ∙ sym (same_length addresses (flat_map local_words arguments) first.words first.stand);
    }

-- the receiver below them
pub record OnReceiver (addresses : List ℕ) (locals arguments : List Value) (receiver : Value) (rest : List Value) (words : List ℕ) (top : ℕ) (below : List ℕ) : Type 0 where
  pub count : ℕ
  pub count_is : count ≡ length (flat_map local_words arguments)
  pub enough : 1 + count ≤ top
  pub under : List ℕ
  pub more : List ℕ
  pub receiver_on : IsOnTop addresses receiver (get_or words (top - (1 + count)) 0 ∷ more) under
  pub on_top : AreOnTop addresses (reverse arguments ++ receiver ∷ []) (in_use words top) under
  pub left : FrameStands addresses locals rest under below

pub on_receiver :
    (addresses : List ℕ) (locals stack arguments : List Value) (receiver : Value) (rest : List Value) (words : List ℕ) (top : ℕ) (below : List ℕ)
    → top ≤ length words → FrameStands addresses locals stack (in_use words top) below → stack ≡ reverse arguments ++ (receiver ∷ rest)
    → OnReceiver addresses locals arguments receiver rest words top below
on_receiver addresses locals stack arguments receiver rest words top below within h e =
    let o = on_frame addresses locals stack arguments (receiver ∷ rest) (in_use words top) below h e in
    let p = frame_popped addresses locals (receiver ∷ rest) receiver rest o.under below o.left refl in
    let count = length (flat_map local_words arguments) in
    let all = length-in_use words top within in
    let sum : length (in_use words top) ≡ length o.front + length o.under = ap length o.place ∙ length-append o.front o.under in
    let size = o.size in
    let less : length o.under ≤ top = omega (arith, all, sum) in
    let here : in_use words (length o.under) ≡ o.under = falls words (in_use words top) o.front o.under top (length o.under) refl less o.place refl in
    let lower_within : length o.under ≤ length words = omega (arith, less, within) in
    let on : IsOnTop addresses receiver (in_use words (length o.under)) p.under =
    subst (λ (u : List ℕ). IsOnTop addresses receiver u p.under) (sym here) p.on_top in
    let some = some_used addresses receiver words (length o.under) p.under lower_within on in
    let index : length o.under - 1 ≡ top - (1 + length (flat_map local_words arguments)) = omega (arith, all, sum, size, some) in
    record {
      count = length (flat_map local_words arguments);
      count_is = refl;
      enough = omega (arith, all, sum, size, some);
      under = p.under;
      more = in_use words (length o.under - 1);
      receiver_on =
          subst (λ (n : ℕ). IsOnTop addresses receiver (get_or words n 0 ∷ in_use words (length o.under - 1)) p.under) index
          (subst (λ (u : List ℕ). IsOnTop addresses receiver u p.under) (in_use_top words (length o.under) some lower_within) on);
      on_top =
          stack_joined addresses (reverse arguments) (receiver ∷ []) (in_use words top) o.under p.under o.on_top (p.under, p.on_top, refl);
      left = p.lower;
    }
