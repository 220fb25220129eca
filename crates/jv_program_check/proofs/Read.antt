-- Files that are read one behind the other.
use Rattle.std.proofs.Common.{◌≡◌, ℕ, ◌+◌, List, [], ◌∷◌, ◌++◌, length, take, map, Bor, Option, Some, refl, sym, ap, subst, ◌∙◌, inl, inr, arith}
use Rattle.std.specs.Prelude.{slice_get}
use Rattle.std.specs.Global.{Vec}
use Rattle.jv_limits.specs.Bytes.{bytes_of}
use Rattle.jv_program_base.specs.Disk.{Disk, IsReadAt}
use Rattle.jv_program_base.proofs.Places.{length-more, map-take-more, pushed}
use Rattle.jv_program_check.specs.Named.{AreFilesAt}

files-more : (disk : Option Disk) (names files : List (List ℕ)) (name bytes : List ℕ) → AreFilesAt disk names files → IsReadAt disk name 4194304 bytes
    → AreFilesAt disk (names ++ name ∷ []) (files ++ bytes ∷ [])
files-more disk names files name bytes before last =
    let same : length files ≡ length names = before.count in
    record {
      count = length-more files bytes ∙ ap (λ (n : ℕ). n + 1) before.count ∙ sym (length-more names name);
      read = λ place n b there found. elim (pushed names name place n there) [
        | inl h ↦ elim (pushed files bytes place b found) [
          | inl i ↦ before.read place n b h.1 i.1
          | inr i ↦ absurd (let lt = h.0 in let at = i.0 in omega (arith, same, lt, at))
        ]
        | inr h ↦ elim (pushed files bytes place b found) [
          | inl i ↦ absurd (let lt = i.0 in let at = h.0 in omega (arith, same, lt, at))
          | inr i ↦ subst (λ (x : List ℕ). IsReadAt disk x 4194304 b) (sym h.1) (subst (λ (x : List ℕ). IsReadAt disk name 4194304 x) (sym i.1) last)
        ]
      ];
    }

map-more : (files : List (Vec ℕ)) (file : Vec ℕ) → map (λ f. f.items) (files ++ file ∷ []) ≡ map (λ f. f.items) files ++ file.items ∷ []
map-more [] file = refl
map-more (f ∷ files) file = ap (λ (fs : List (List ℕ)). f.items ∷ fs) (map-more files file)

-- one file more, that of the next name
pub next_file : (disk now : Option Disk) (names : List (Bor (List ℕ))) (k : ℕ) (name : Bor (List ℕ)) (files : List (Vec ℕ)) (file : Vec ℕ) (new : List (Vec ℕ))
    → slice_get names k ≡ Some name → new ≡ files ++ file ∷ [] → AreFilesAt disk (map bytes_of (take k names)) (map (λ f. f.items) files)
    → now ≡ disk → IsReadAt now name.now 4194304 file.items → AreFilesAt disk (map bytes_of (take (k + 1) names)) (map (λ f. f.items) new)
next_file disk now names k name files file new found after before same last =
    subst (λ (ns : List (List ℕ)). AreFilesAt disk ns (map (λ f. f.items) new)) (sym (map-take-more bytes_of names k name found))
    (subst (λ (fs : List (List ℕ)). AreFilesAt disk (map bytes_of (take k names) ++ name.now ∷ []) fs) (sym (ap (map (λ f. f.items)) after ∙ map-more files file))
    (files-more disk (map bytes_of (take k names)) (map (λ f. f.items) files) name.now file.items before (subst (λ d. IsReadAt d name.now 4194304 file.items) same last)))
