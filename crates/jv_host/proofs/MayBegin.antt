-- What is known of a guest where there is no reason to refuse it.
use Rattle.std.proofs.Common.{◌≡◌, ℕ, Bool, true, false, cond, not, ◌&&◌, ◌<◌, ◌≤◌, Option, Some, None, length, refl, arith}
use Rattle.std.specs.Prelude.{nat_lt, nat_le}
use Rattle.std.specs.Option.{option_or}
use Rattle.std.proofs.lemmas.Bool.{leb-false, leb-true, ltb-false}
use Rattle.jv_store.proofs.Contents.{right_of}
use Rattle.jv_format.specs.Numbers.{is_from_to}
use Rattle.jv_meaning_machine.specs.Start.{Budget}
use Rattle.jv_meaning_machine.specs.Alone.{GuestFiles}
use Rattle.jv_limits.specs.declared.fault.AdmitFault.{AdmitFault}
use Rattle.jv_limits.specs.FileLimits.{first_file_refusal}
use Rattle.jv_host.specs.Limits.{first_other_refusal, first_refusal, is_in_range}

passed : (test : Bool) (fault : AdmitFault) (rest : Option AdmitFault) → cond test (Some fault) rest ≡ None → (test ≡ false) × (rest ≡ None)
passed true fault rest e = absurd cc
passed false fault rest e = (refl, e)

passed_files : (first rest : Option AdmitFault) → option_or first rest ≡ None → rest ≡ None
passed_files None rest e = e
passed_files (Some fault) rest e = absurd cc

-- its library has few files
pub few_in_library : (g : GuestFiles) (b : Budget) (guests : ℕ) → first_refusal g b guests ≡ None → length g.library ≤ 1024
few_in_library g b guests e =
    let library = passed (nat_lt 1024 (length g.library)) _ _ (passed_files (first_file_refusal g.files) (first_other_refusal g b guests) e) in
    let least = ltb-false 1024 (length g.library) library.0 in
    omega (arith, least)

-- there is room for one more
pub few_guests : (g : GuestFiles) (b : Budget) (guests : ℕ) → first_refusal g b guests ≡ None → guests < 64
few_guests g b guests e =
    let library = passed (nat_lt 1024 (length g.library)) _ _ (passed_files (first_file_refusal g.files) (first_other_refusal g b guests) e) in
    let input = passed (nat_lt 16777216 (length g.input)) _ _ library.1 in
    let range = passed (not (is_in_range b)) _ _ input.1 in
    let held = passed (nat_le 64 guests) _ _ range.1 in
    let less = leb-false 64 guests held.0 in
    omega (arith, less)

-- and its cells are no more than it may have
pub most_cells : (g : GuestFiles) (b : Budget) (guests : ℕ) → first_refusal g b guests ≡ None → b.cells ≤ 16777216
most_cells g b guests e =
    let library = passed (nat_lt 1024 (length g.library)) _ _ (passed_files (first_file_refusal g.files) (first_other_refusal g b guests) e) in
    let input = passed (nat_lt 16777216 (length g.input)) _ _ library.1 in
    let range = passed (not (is_in_range b)) _ _ input.1 in
    let cells = first_of (is_from_to 64 16777216 b.cells) (is_from_to 64 1048576 b.words) (nat_le b.output 1048576) (not_false (is_in_range b) range.0) in
    leb-true b.cells 16777216 (right_of (nat_le 64 b.cells) (nat_le b.cells 16777216) cells)
  where
    not_false : (b : Bool) → not b ≡ false → b ≡ true
    not_false true e = refl
    not_false false e = absurd cc

    first_of : (x y z : Bool) → (x && y && z) ≡ true → x ≡ true
    first_of true y z e = refl
    first_of false y z e = e
