-- The standard input stands behind a guest's own.
use Rattle.std.proofs.Common.{◌≡◌, ℕ, ◌-◌, ◌<◌, false, List, Option, Some, None, Result, Ok, Err, refl, sym, ap, subst, ◌∙◌, map, arith}
use Rattle.std.specs.Prelude.{OnOk, set, slice_get}
use Rattle.std.specs.Option.{option_map}
use Rattle.std.proofs.lemmas.List.{map-set}
use Rattle.std.proofs.lemmas.Option.{slice_get-map}
use Rattle.jv_program_base.specs.declared.folder.Folder.{Folder}
use Rattle.jv_program_run.specs.Guests.{named_guest}
use Rattle.jv_program_run.specs.Named.{AreReady, IsReadBehind, lacks_guest, reads_all}
use Rattle.jv_program_run.specs.declared.settings.RunSettings.{RunSettings}
use Rattle.jv_program_run.proofs.Played.{one_of}
use Rattle.jv_program_run.proofs.Read.{none_lacks}

pub ready_one : (library : List (List ℕ)) (number : ℕ) (folders news : List Folder) (one found : Folder) (before after : Option (List ℕ)) → slice_get folders (number - 1) ≡ Some one
    → news ≡ set folders (number - 1) found → IsReadBehind (named_guest library one) (named_guest library found) before after
    → AreReady (Some number) (map (named_guest library) folders) (map (named_guest library) news) before after
ready_one library number folders news one found before after at is behind = (
  named_guest library one,
  named_guest library found,
  slice_get-map (named_guest library) folders (number - 1) ∙ ap (option_map (named_guest library)) at,
  behind,
  ap (map (named_guest library)) is ∙ map-set (named_guest library) folders (number - 1) found,
)

raw_of : (stdin raw : Option ℕ) (number : ℕ) → (elim stdin [ Some other ↦ None | None ↦ raw ]) ≡ Some number → raw ≡ Some number
raw_of None raw number e = e
raw_of (Some other) raw number e = absurd cc

-- the guest that has it is one of so many
pub within : (s : RunSettings) (number count : ℕ) → reads_all s ≡ Some number → lacks_guest s count ≡ false → number - 1 < count
within s number count e h =
    let it = one_of s.raw number count (raw_of s.stdin s.raw number e) (none_lacks s count h).1 in
    omega (arith, it.0, it.1)

on_ok : {T E : Type 0} (r : Result T E) (P Q : Type 0) → (P → Q) → OnOk r P → OnOk r Q
on_ok (Ok x) P Q f h = f h
on_ok (Err e) P Q f h = tt

pub ready_where : {T E : Type 0} (library : List (List ℕ)) (s : RunSettings) (number : ℕ) (folders : List Folder) (one found : Folder) (r : Result T E) (before after : Option (List ℕ))
    → reads_all s ≡ Some number → slice_get folders (number - 1) ≡ Some one → OnOk r (IsReadBehind (named_guest library one) (named_guest library found) before after)
    → OnOk r (AreReady (reads_all s) (map (named_guest library) folders) (map (named_guest library) (set folders (number - 1) found)) before after)
ready_where library s number folders one found r before after e at h =
    on_ok r (IsReadBehind (named_guest library one) (named_guest library found) before after)
    (AreReady (reads_all s) (map (named_guest library) folders) (map (named_guest library) (set folders (number - 1) found)) before after)
    (λ behind. subst (λ (o : Option ℕ). AreReady o (map (named_guest library) folders) (map (named_guest library) (set folders (number - 1) found)) before after) (sym e)
    (ready_one library number folders (set folders (number - 1) found) one found before after at refl behind)) h
