-- The names of a folder's class files, as texts.
use Rattle.std.proofs.Common.{◌≡◌, ℕ, ◌+◌, ◌<◌, Bool, true, false, cond, List, [], ◌∷◌, length, get_or, map, Option, refl, sym, ap, subst, arith}
use Rattle.std.specs.Prelude.{◌||◌, All, IsSorted, IsPermutation, Result, Ok, Err, IfOk, filter}
use Rattle.std.specs.Global.{Vec}
use Rattle.std.specs.List.{list_any}
use Rattle.std.specs.Borrow.{Bor}
use Rattle.std.specs.Cmp.Lexicographic.{slice_cmp}
use Rattle.std.specs.Ordering.{nat_cmp}
use Rattle.std.proofs.Common.{is_lt}
use Rattle.std.proofs.lemmas.List.{length-map, get_or-map}
use Rattle.std.proofs.lemmas.List.Sorted.{IsPermutation-map}
use Rattle.jv_limits.specs.Bytes.{bytes_of}
use Rattle.jv_program_base.specs.declared.failure.Failure.{Failure}
use Rattle.jv_program_base.specs.declared.folder.NamedFile.{NamedFile}
use Rattle.jv_program_base.specs.Disk.{Disk}
use Rattle.jv_program_base.specs.Folder.{AreClassFilesOf, AreClassNames, IsFileIn, file_name}
use Rattle.jv_program_base.specs.Names.{is_class_file}

filter_step : (p : List ℕ → Bool) (name : Bor (List ℕ)) (names : List (Bor (List ℕ))) (b : Bool) → filter p (map bytes_of names) ≡ map bytes_of (filter (λ name. p name.now) names)
    → cond b (name.now ∷ filter p (map bytes_of names)) (filter p (map bytes_of names)) ≡ map bytes_of (cond b (name ∷ filter (λ name. p name.now) names) (filter (λ name. p name.now) names))
filter_step p name names true same = ap (λ (texts : List (List ℕ)). name.now ∷ texts) same
filter_step p name names false same = same

filter-map : (p : List ℕ → Bool) (names : List (Bor (List ℕ))) → filter p (map bytes_of names) ≡ map bytes_of (filter (λ name. p name.now) names)
filter-map p [] = refl
filter-map p (name ∷ names) = filter_step p name names (p name.now) (filter-map p names)

-- a test of texts, over slices
pub list_any-map : (p : List ℕ → Bool) (names : List (Bor (List ℕ))) → list_any (λ name. p name.now) names ≡ list_any p (map bytes_of names)
list_any-map p [] = refl
list_any-map p (name ∷ names) = ap (λ (b : Bool). p name.now || b) (list_any-map p names)

-- slices that are the class files among others are so as texts
pub exact_texts : (names found : List (Bor (List ℕ))) → IsPermutation (filter (λ name. is_class_file name.now) names) found
    → IsPermutation (filter is_class_file (map bytes_of names)) (map bytes_of found)
exact_texts names found same =
    subst (λ (texts : List (List ℕ)). IsPermutation texts (map bytes_of found)) (sym (filter-map is_class_file names))
    (IsPermutation-map bytes_of (filter (λ name. is_class_file name.now) names) found same)

-- slices in order have their texts in order
pub sorted_texts : (found : List (Bor (List ℕ))) → IsSorted (λ a b. slice_cmp nat_cmp a.now b.now) found → IsSorted (slice_cmp nat_cmp) (map bytes_of found)
sorted_texts [] sorted k d low lt = absurd (omega (arith, lt))
sorted_texts (name ∷ names) sorted k d low lt =
    let long : length (map bytes_of (name ∷ names)) ≡ length (name ∷ names) = length-map (name ∷ names) bytes_of in
    let first : k < length (name ∷ names) = omega arith in
    let second : k + 1 < length (name ∷ names) = omega arith in
    let here = get_or-map bytes_of (name ∷ names) k name d first in
    let next = get_or-map bytes_of (name ∷ names) (k + 1) name d second in
    subst (λ (text : List ℕ). is_lt (slice_cmp nat_cmp (get_or (map bytes_of (name ∷ names)) (k + 1) d) text) ≡ false) (sym here)
    (subst (λ (text : List ℕ). is_lt (slice_cmp nat_cmp text (bytes_of (get_or (name ∷ names) k name))) ≡ false) (sym next) (sorted k name low second))

-- they are the class files' names, in order
pub class_names : (names found lent : List (Bor (List ℕ))) → IsPermutation (filter (λ name. is_class_file name.now) names) found
    → IsSorted (λ a b. slice_cmp nat_cmp a.now b.now) found → lent ≡ found → AreClassNames (map bytes_of names) (map bytes_of lent)
class_names names found lent same sorted is =
    subst (λ (ns : List (Bor (List ℕ))). AreClassNames (map bytes_of names) (map bytes_of ns)) (sym is)
    (record { exact = exact_texts names found same; order = sorted_texts found sorted })

pub class_files_of : (disk : Option Disk) (word : List ℕ) (names classes : List (List ℕ)) (result : Result (Vec NamedFile) Failure) → AreClassNames names classes
    → IfOk result (λ files. map file_name files.items ≡ classes) → IfOk result (λ files. All (IsFileIn disk word) files.items)
    → IfOk result (λ files. AreClassFilesOf disk word names files.items)
class_files_of disk word names classes (Err e) order named read = tt
class_files_of disk word names classes (Ok files) order named read =
    record { named = subst (AreClassNames names) (sym named) order; read = read }
