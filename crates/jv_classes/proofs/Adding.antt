-- Members by their keys.
use Rattle.std.proofs.Common.{◌≡◌, ℕ, true, List, sym, ap, ◌∙◌}
use Rattle.std.specs.Str.{bytes_eq}
use Rattle.std.proofs.lemmas.Bool.{and_parts, eq-eqb}
use Rattle.std.proofs.lemmas.Slice.Eq.{bytes_eq-Decides}
use Rattle.jv_classes.specs.Inside.Seen.{MemberSeen, declares}
use Rattle.jv_classes.specs.Texts.{Key, key_of}
use Rattle.jv_classes.specs.Inside.Linked.{is_in_slot}
use Rattle.jv_classes.specs.Marks.{slot_of}

-- a member with a name and a descriptor has their key
pub same_keys : (seed : ℕ) (name descriptor : List ℕ) (m : MemberSeen) → declares name descriptor m ≡ true → key_of seed m.name m.descriptor ≡ key_of seed name descriptor
same_keys seed name descriptor m e =
    let parts = and_parts (bytes_eq m.name name) (bytes_eq m.descriptor descriptor) e in
    ap (λ n. key_of seed n m.descriptor) ((bytes_eq-Decides m.name name).0 parts.0)
    ∙ ap (λ n. key_of seed name n) ((bytes_eq-Decides m.descriptor descriptor).0 parts.1)

-- and falls into its slot
pub implied : (seed size : ℕ) (name descriptor : List ℕ) (key : Key) → key ≡ key_of seed name descriptor → (slot : ℕ) → slot ≡ slot_of size key
    → (m : MemberSeen) → declares name descriptor m ≡ true → is_in_slot seed size slot m ≡ true
implied seed size name descriptor key k slot s m e =
    eq-eqb (slot_of size (key_of seed m.name m.descriptor)) slot (ap (slot_of size) (same_keys seed name descriptor m e ∙ sym k) ∙ sym s)
