-- A table in which members are found: each falls into a slot, and those of one slot are linked, the last one first.
use Rattle.std.specs.Prelude.{◌≡◌, ◌<◌, ℕ, zero, suc, Bool, List, [], Some, length, map, get_or, slice_get, nat_eq, if◌then◌else◌}
use Rattle.std.specs.List.{All}
use Rattle.jv_classes.specs.Inside.Seen.{MemberSeen, IsHashed, IsWithin, kept_key, kept_seen, kept_text, member_made}
use Rattle.jv_classes.specs.Marks.{slot_of}
use Rattle.jv_classes.specs.Texts.{key_of}
use Rattle.jv_classes.specs.declared.members.KeptMember.{KeptMember}
use Rattle.jv_classes.specs.declared.members.KeptText.{KeptText}

abbrev pub is_in_slot : ℕ → ℕ → ℕ → MemberSeen → Bool
is_in_slot seed size slot m = nat_eq (slot_of size (key_of seed m.name m.descriptor)) slot

abbrev pub seen_at : List MemberSeen → ℕ → MemberSeen
seen_at members place = get_or members place (member_made 0 [] [])

-- of so many members, the end of those up to the last one that passes a test, 0 where none does
abbrev pub end_of : (MemberSeen → Bool) → List MemberSeen → ℕ → ℕ
end_of test members zero = 0
end_of test members (suc place) = if test (seen_at members place) then suc place else end_of test members place

-- a table of so many slots has the end for each of them, and each member that for those before it in its slot
pub record AreLinked (seed size : ℕ) (texts : List (List ℕ)) (members : List KeptMember) (table : List ℕ) : Type 0 where
  pub long : length table ≡ size
  pub some_slot : 0 < size
  pub ends : (slot : ℕ) → slot < size
      → get_or table slot 0 ≡ end_of (is_in_slot seed size slot) (map (kept_seen texts) members) (length members)
  pub before : (place : ℕ) (m : KeptMember) → slice_get members place ≡ Some m
      → m.end_before ≡ end_of (is_in_slot seed size (slot_of size (kept_key seed texts m))) (map (kept_seen texts) members) place

-- texts that know their hashes, and members by the places of theirs, linked
pub record AreKept (seed : ℕ) (texts : List KeptText) (members : List KeptMember) (table : List ℕ) : Type 0 where
  pub linked : AreLinked seed (length table) (map kept_text texts) members table
  pub hashed : All (IsHashed seed) texts
  pub within : All (IsWithin (length texts)) members
