-- Local variables that are stored to, and the words that they stand in.
use Rattle.std.proofs.Common.{◌≡◌, ℕ, zero, suc, ◌+◌, ◌<◌, ◌≤◌, Bool, true, false, nat_le, List, [], ◌∷◌, ◌++◌, Option, Some, None, length, drop, get_or, set, refl, sym, ap, subst, ◌∙◌, arith, length-append, length-drop}
use Rattle.std.proofs.lemmas.List.{get_or_append_left}
use Rattle.std.proofs.lemmas.Grind.{common_steps}
use Rattle.std.specs.Prelude.{if◌then◌else◌}
use Rattle.std.specs.Option.{option_map}
use Rattle.jv_meaning_machine.specs.Values.{Value}
use Rattle.jv_meaning_machine.specs.Values.Value.{Int, Long, Null, Reference, Half, Unset}
use Rattle.jv_meaning_machine.specs.Frames.{stored, without_half}
use Rattle.jv_interp_words.specs.ValuesInWords.{long_of, IsLocal, AreLocals}

-- words with others from a place on
abbrev pub overwritten : List ℕ → ℕ → List ℕ → List ℕ
overwritten new zero words = new ++ drop (length new) words
overwritten new (suc k) [] = []
overwritten new (suc k) (word ∷ words) = word ∷ overwritten new k words

module _ (addresses : List ℕ) where
  pub same_length : (locals : List Value) (words : List ℕ) → AreLocals addresses locals words → length locals ≡ length words
  same_length [] [] h = refl
  same_length [] (word ∷ behind) h = absurd h
  same_length (local ∷ more) [] h = absurd h
  same_length (local ∷ more) (word ∷ behind) h = ap suc (same_length more behind h.1)

  dropped : (n : ℕ) (locals : List Value) (words : List ℕ) → AreLocals addresses locals words → AreLocals addresses (drop n locals) (drop n words)
  dropped zero locals words h = h
  dropped (suc n) [] [] h = h
  dropped (suc n) [] (word ∷ behind) h = absurd h
  dropped (suc n) (local ∷ more) [] h = absurd h
  dropped (suc n) (local ∷ more) (word ∷ behind) h = dropped n more behind h.1

  half_gone : (locals : List Value) (words : List ℕ) → AreLocals addresses locals words → AreLocals addresses (without_half locals) words
  half_gone [] words h = h
  half_gone (Half ∷ more) [] h = absurd h
  half_gone (Half ∷ more) (word ∷ behind) h = (tt, h.1)
  half_gone (Int number ∷ more) words h = h
  half_gone (Long number ∷ more) words h = h
  half_gone (Null ∷ more) words h = h
  half_gone (Reference id ∷ more) words h = h
  half_gone (Unset ∷ more) words h = h

  -- only a long looks at the word behind its own
  local_kept :
      (local : Value) (word : ℕ) (behind others : List ℕ) → IsLocal addresses local word behind
      → (1 ≤ length behind → (1 ≤ length others) × (get_or others 0 0 ≡ get_or behind 0 0)) → IsLocal addresses local word others
  local_kept (Int number) word behind others h same = h
  local_kept (Long number) word behind others h same =
      let parts = same h.0 in
      (parts.0, h.1 ∙ ap (λ (n : ℕ). long_of word n) (sym parts.1))
  local_kept Null word behind others h same = h
  local_kept (Reference id) word behind others h same = h
  local_kept Half word behind others h same = h
  local_kept Unset word behind others h same = h

  pub joined :
      (locals others : List Value) (words behind : List ℕ) → AreLocals addresses locals words → AreLocals addresses others behind
      → AreLocals addresses (locals ++ others) (words ++ behind)
  joined [] others [] behind h k = k
  joined [] others (word ∷ words) behind h k = absurd h
  joined (local ∷ locals) others [] behind h k = absurd h
  joined (local ∷ locals) others (word ∷ words) behind h k = (
    local_kept local word words (words ++ behind) h.0
        (λ some. (omega (arith, length-append words behind), get_or_append_left words behind 0 0 some)),
    joined locals others words behind h.1 k,
  )

  mapped : {A B : Type 0} (f : A → B) (o : Option A) (b : B) → option_map f o ≡ Some b → (a : A) × (o ≡ Some a) × (f a ≡ b)
  mapped f None b e = absurd cc
  mapped f (Some a) b e = (a, refl, cc)

  pub record IsStored (values : List Value) (new : List ℕ) (k : ℕ) (words : List ℕ) (after : List Value) : Type 0 where
    pub within : k + length values ≤ length words
    pub stand : AreLocals addresses after (overwritten new k words)

  at_front :
      (values : List Value) (new : List ℕ) (locals : List Value) (words : List ℕ) (after : List Value) (test : Bool) → nat_le (length values) (length locals) ≡ test
      → (if test then Some (values ++ without_half (drop (length values) locals)) else None) ≡ Some after → AreLocals addresses values new
      → AreLocals addresses locals words → IsStored values new 0 words after
  at_front values new locals words after true f e v h =
      let known : values ++ without_half (drop (length values) locals) ≡ after = cc in
      let same : length values ≡ length new = same_length values new v in
      let lengths : length locals ≡ length words = same_length locals words h in
      let fits : length values ≤ length locals = grind (arith, common_steps) in
      record {
        within = omega (arith, fits, lengths);
        stand =
            subst (λ (vs : List Value). AreLocals addresses vs (new ++ drop (length new) words)) known
            (joined values (without_half (drop (length values) locals)) new (drop (length new) words) v
            (half_gone (drop (length values) locals) (drop (length new) words)
            (subst (λ (n : ℕ). AreLocals addresses (drop (length values) locals) (drop n words)) same (dropped (length values) locals words h))));
      }
  at_front values new locals words after false f e v h = absurd cc

  -- one local variable further
  further :
      (values : List Value) (new : List ℕ) (k : ℕ) (local : Value) (word : ℕ) (words : List ℕ) (rest after : List Value)
      → IsLocal addresses local word (overwritten new k words) → local ∷ rest ≡ after → IsStored values new k words rest
      → IsStored values new (suc k) (word ∷ words) after
  further values new k local word words rest after here e h =
      record {
        within = let w = h.within in omega (arith, w);
        stand = subst (λ (vs : List Value). AreLocals addresses vs (word ∷ overwritten new k words)) e (here, h.stand);
      }

  -- a place behind that is not the next one leaves the next word as it is
  not_next :
      (new : List ℕ) (k : ℕ) (words : List ℕ) → 1 ≤ length words
      → (1 ≤ length (overwritten new (suc k) words)) × (get_or (overwritten new (suc k) words) 0 0 ≡ get_or words 0 0)
  not_next new k [] h = absurd (omega arith)
  not_next new k (word ∷ words) h = (omega arith, refl)

  pub locals_stored :
      (values : List Value) (new : List ℕ) (k : ℕ) (locals : List Value) (words : List ℕ) (after : List Value) → AreLocals addresses values new
      → stored values k locals ≡ Some after → AreLocals addresses locals words → IsStored values new k words after
  locals_stored values new zero locals words after v e h =
      at_front values new locals words after (nat_le (length values) (length locals)) refl e v h
  locals_stored values new (suc k) [] words after v e h = absurd cc
  locals_stored values new (suc k) (local ∷ more) [] after v e h = absurd h
  locals_stored values new (suc zero) (Long number ∷ more) (word ∷ words) after v e h =
      let parts = mapped (λ (rest : List Value). Unset ∷ rest) (stored values zero more) after e in
      further values new zero Unset word words parts.0 after tt parts.2 (locals_stored values new zero more words parts.0 v parts.1 h.1)
  locals_stored values new (suc zero) (Int number ∷ more) (word ∷ words) after v e h =
      let parts = mapped (λ (rest : List Value). Int number ∷ rest) (stored values zero more) after e in
      further values new zero (Int number) word words parts.0 after h.0 parts.2 (locals_stored values new zero more words parts.0 v parts.1 h.1)
  locals_stored values new (suc zero) (Null ∷ more) (word ∷ words) after v e h =
      let parts = mapped (λ (rest : List Value). Null ∷ rest) (stored values zero more) after e in
      further values new zero Null word words parts.0 after h.0 parts.2 (locals_stored values new zero more words parts.0 v parts.1 h.1)
  locals_stored values new (suc zero) (Reference id ∷ more) (word ∷ words) after v e h =
      let parts = mapped (λ (rest : List Value). Reference id ∷ rest) (stored values zero more) after e in
      further values new zero (Reference id) word words parts.0 after h.0 parts.2 (locals_stored values new zero more words parts.0 v parts.1 h.1)
  locals_stored values new (suc zero) (Half ∷ more) (word ∷ words) after v e h =
      let parts = mapped (λ (rest : List Value). Half ∷ rest) (stored values zero more) after e in
      further values new zero Half word words parts.0 after h.0 parts.2 (locals_stored values new zero more words parts.0 v parts.1 h.1)
  locals_stored values new (suc zero) (Unset ∷ more) (word ∷ words) after v e h =
      let parts = mapped (λ (rest : List Value). Unset ∷ rest) (stored values zero more) after e in
      further values new zero Unset word words parts.0 after h.0 parts.2 (locals_stored values new zero more words parts.0 v parts.1 h.1)
  locals_stored values new (suc (suc k)) (local ∷ more) (word ∷ words) after v e h =
      let parts = mapped (λ (rest : List Value). local ∷ rest) (stored values (suc k) more) after e in
      further values new (suc k) local word words parts.0 after
      (local_kept local word words (overwritten new (suc k) words) h.0 (not_next new k words)) parts.2
      (locals_stored values new (suc k) more words parts.0 v parts.1 h.1)

-- ---- by single writes

pub one_set : (words : List ℕ) (k word : ℕ) → k < length words → set words k word ≡ overwritten (word ∷ []) k words
one_set [] k word h = absurd (omega arith)
one_set (first ∷ words) zero word h = refl
one_set (first ∷ words) (suc k) word h = ap (λ (l : List ℕ). first ∷ l) (one_set words k word (omega arith))

pub two_set :
    (words : List ℕ) (k low high : ℕ) → suc k < length words → set (set words k low) (suc k) high ≡ overwritten (low ∷ high ∷ []) k words
two_set [] k low high h = absurd (omega arith)
two_set (first ∷ []) zero low high h = absurd (omega arith)
two_set (first ∷ second ∷ words) zero low high h = refl
two_set (first ∷ words) (suc k) low high h = ap (λ (l : List ℕ). first ∷ l) (two_set words k low high (omega arith))

-- ---- as many local variables as before

half_count : (locals : List Value) → length (without_half locals) ≡ length locals
half_count [] = refl
half_count (Half ∷ more) = refl
half_count (Int number ∷ more) = refl
half_count (Long number ∷ more) = refl
half_count (Null ∷ more) = refl
half_count (Reference id ∷ more) = refl
half_count (Unset ∷ more) = refl

front_count :
    (values locals after : List Value) (test : Bool) → nat_le (length values) (length locals) ≡ test
    → (if test then Some (values ++ without_half (drop (length values) locals)) else None) ≡ Some after → length after ≡ length locals
front_count values locals after true f e =
    let known : values ++ without_half (drop (length values) locals) ≡ after = cc in
    let fits : length values ≤ length locals = grind (arith, common_steps) in
    omega (
      arith,
      ap length known,
      length-append values (without_half (drop (length values) locals)),
      half_count (drop (length values) locals),
      length-drop (length values) locals,
      fits,
    )
front_count values locals after false f e = absurd cc

one_more :
    (o : Option (List Value)) (first : Value) (count : ℕ) (after : List Value) → ((rest : List Value) → o ≡ Some rest → length rest ≡ count)
    → option_map (λ rest. first ∷ rest) o ≡ Some after → length after ≡ suc count
one_more None first count after h e = absurd cc
one_more (Some rest) first count after h e =
    let known : first ∷ rest ≡ after = cc in
    sym (ap length known) ∙ ap suc (h rest refl)

pub stored_count :
    (values : List Value) (k : ℕ) (locals after : List Value) → stored values k locals ≡ Some after → length after ≡ length locals
stored_count values zero locals after e = front_count values locals after (nat_le (length values) (length locals)) refl e
stored_count values (suc k) [] after e = absurd cc
stored_count values (suc zero) (Long number ∷ more) after e =
    one_more (stored values zero more) Unset (length more) after (λ rest f. stored_count values zero more rest f) e
stored_count values (suc zero) (Int number ∷ more) after e =
    one_more (stored values zero more) (Int number) (length more) after (λ rest f. stored_count values zero more rest f) e
stored_count values (suc zero) (Null ∷ more) after e =
    one_more (stored values zero more) Null (length more) after (λ rest f. stored_count values zero more rest f) e
stored_count values (suc zero) (Reference id ∷ more) after e =
    one_more (stored values zero more) (Reference id) (length more) after (λ rest f. stored_count values zero more rest f) e
stored_count values (suc zero) (Half ∷ more) after e =
    one_more (stored values zero more) Half (length more) after (λ rest f. stored_count values zero more rest f) e
stored_count values (suc zero) (Unset ∷ more) after e =
    one_more (stored values zero more) Unset (length more) after (λ rest f. stored_count values zero more rest f) e
stored_count values (suc (suc k)) (local ∷ more) after e =
    one_more (stored values (suc k) more) local (length more) after (λ rest f. stored_count values (suc k) more rest f) e
