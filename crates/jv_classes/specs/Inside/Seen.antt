-- A field or a method as it is kept.
use Rattle.std.specs.Prelude.{◌≡◌, ◌<◌, ◌++◌, ℕ, Bool, ◌&&◌, List, [], ◌∷◌, get_or, map}
use Rattle.std.specs.Str.{bytes_eq}
use Rattle.jv_classes.specs.Texts.{text_hash, Key, key_of}
use Rattle.jv_class.specs.Class.{Field, Method}
use Rattle.jv_classes.specs.declared.member.Member.{Member}
use Rattle.jv_classes.specs.declared.members.KeptMember.{KeptMember}
use Rattle.jv_classes.specs.declared.members.KeptText.{KeptText}

-- a field or a method, as far as it is kept
pub record MemberSeen : Type 0 where
  pub access_flags : ℕ
  pub name : List ℕ
  pub descriptor : List ℕ

abbrev pub member_made : ℕ → List ℕ → List ℕ → MemberSeen
member_made access_flags name descriptor = record { access_flags = access_flags; name = name; descriptor = descriptor }

abbrev pub member_seen : Member → MemberSeen
member_seen m = member_made m.access_flags m.name.now m.descriptor.now

abbrev pub field_seen : Field → MemberSeen
field_seen f = member_made f.access_flags f.name f.descriptor

abbrev pub method_seen : Method → MemberSeen
method_seen m = member_made m.access_flags m.name m.descriptor

-- the member has this name and this descriptor
abbrev pub declares : List ℕ → List ℕ → MemberSeen → Bool
declares name descriptor m = bytes_eq m.name name && bytes_eq m.descriptor descriptor

-- a text as it is kept
abbrev pub kept_text : KeptText → List ℕ
kept_text t = t.bytes.now

-- the hash that is kept beside it is its own under a seed
abbrev pub IsHashed : ℕ → KeptText → Type 0
IsHashed seed t = t.hash ≡ text_hash seed t.bytes.now

abbrev pub text_at : List (List ℕ) → ℕ → List ℕ
text_at texts place = get_or texts place []

-- a member as it is kept, beside the texts among which its own are
abbrev pub kept_seen : List (List ℕ) → KeptMember → MemberSeen
kept_seen texts m = member_made m.access_flags (text_at texts m.name) (text_at texts m.descriptor)

-- its texts are among so many
abbrev pub IsWithin : ℕ → KeptMember → Type 0
IsWithin count m = (m.name < count) × (m.descriptor < count)

-- the key of a member as it is kept
abbrev pub kept_key : ℕ → List (List ℕ) → KeptMember → Key
kept_key seed texts m = key_of seed (text_at texts m.name) (text_at texts m.descriptor)

-- what is gathered of a class: texts, and members by the places of theirs
pub record GatheredSeen : Type 0 where
  pub texts : List (List ℕ)
  pub members : List MemberSeen

abbrev pub gathered_seen : List KeptText → List KeptMember → GatheredSeen
gathered_seen texts members = record { texts = map kept_text texts; members = map (kept_seen (map kept_text texts)) members }

abbrev pub nothing_gathered : GatheredSeen
nothing_gathered = record { texts = []; members = [] }

-- one text more
abbrev pub with_text : GatheredSeen → List ℕ → GatheredSeen
with_text g text = record { texts = g.texts ++ text ∷ []; members = g.members }

-- one member more, whose texts stand at these places
abbrev pub with_member : GatheredSeen → ℕ → ℕ → ℕ → GatheredSeen
with_member g access_flags name descriptor =
    record { texts = g.texts; members = g.members ++ member_made access_flags (text_at g.texts name) (text_at g.texts descriptor) ∷ [] }
