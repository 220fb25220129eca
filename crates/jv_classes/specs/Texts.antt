-- Hashes of texts.
use Rattle.std.specs.Prelude.{◌+◌, ◌%◌, ◌^◌, ℕ, List}
use Rattle.std.specs.List.{fold}
use Rattle.std.specs.Hash as fed
use Rattle.std.specs.Hash.DefaultHasher as sip

-- of a text behind a seed
abbrev pub text_hash : ℕ → List ℕ → ℕ
text_hash seed text = sip.finish (sip.write (fold sip.write sip.initial (fed.u64 seed)) text)

-- the number under which a member is found, by the hashes of its name and of its descriptor
abbrev pub Key : Type 0
Key = ℕ

abbrev pub key_of : ℕ → List ℕ → List ℕ → Key
key_of seed name descriptor = (text_hash seed name + text_hash seed descriptor) % 2 ^ 64
