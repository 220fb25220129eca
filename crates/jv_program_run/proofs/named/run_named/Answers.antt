use Rattle.std.proofs.Common.{rules, ◌≡◌, ◌∙◌, ◌++◌, ℕ, List, Option, false, ap, arith, drop, length, map, option_map, subst, sym, take}
use Rattle.std.proofs.Math.Seq.{take-append_seam}
use Rattle.std.proofs.lemmas.List.{length-map}
use Rattle.jv_limits.specs.Bytes.{bytes_of}
use Rattle.jv_program_base.specs.Disk.{Disk}
use Rattle.jv_program_base.specs.declared.folder.Folder.{Folder}
use Rattle.jv_program_base.proofs.Places.{passed_on}
use Rattle.jv_program_run.specs.Named.{AreFoldersOf, AreTaken, IsRunFailure, lacks_guest}
use Rattle.jv_program_run.proofs.NotRun.{no_input, no_library, not_read}
use Rattle.jv_program_run.proofs.Ran.{ran_as, failed_as}
use Rattle.jv_program_run.proofs.named.run_named.Goals as goal

pub returns-clause-ok : goal.returns-clause-ok
returns-clause-ok g c =
    let disk = g.F.Folders.disk c.args.folders.now in
    let words = map bytes_of c.args.words.now in
    let count = length-map c.args.words.now bytes_of in
    let few = c.if-words-gt-FOLDERS.false in
    let there : lacks_guest c.args.settings (length c.args.words.now) ≡ false = search rules in
    let taken : AreTaken c.args.settings words = (omega (arith, count, few), subst (λ (n : ℕ). lacks_guest c.args.settings n ≡ false) (sym count) there) in
    let read : AreFoldersOf disk words c.in_ok-read.read.items =
    subst (λ (d : Option Disk). AreFoldersOf d words c.in_ok-read.read.items) c.read_library.ensures.disk (c.in_ok-read.ensures {u = tt}).ok in
    let same : c.as_mut_slice.result.now ≡ c.in_ok-read.read.items = search rules in
    let items = c.in_ok-read.read.items in
    let news = c.read_input.new.folders in
    let size = c.in_ok-read.read.ok.0 in
    let many = c.read_input.ensures.count in
    let long = ap (λ (l : List Folder). length l) same in
    let whole : c.in_ok-read.read.len ≡ length news = omega (arith, size, many, long) in
    let kept : c.as_slice-read.result.now ≡ news =
    c.as_slice-read.ensures.value
    ∙ (ap (λ (n : ℕ). take n (news ++ drop (length news) items)) whole ∙ take-append_seam news (drop (length news) items)) in
    ran_as disk c.args.settings (option_map bytes_of c.args.library) words c.in_ok-system.system c.in_ok-read.read.items c.as_mut_slice.result.now
    c.read_input.new.folders c.as_slice-read.result.now (g.I.Read.remaining c.args.input.now) (g.I.Read.remaining c.read_input.new.input)
    (g.I.Read.remaining c.run_folders.new.input) taken (c.in_ok-system.ensures {u = tt}).ok read same kept
    ((c.in_ok-read_input.ensures {u = tt}).ok c.in_ok-system.system) c.run_folders.result c.run_folders.ensures.ok

pub returns-clause-err : goal.returns-clause-err
returns-clause-err g c =
    let disk = g.F.Folders.disk c.args.folders.now in
    let words = map bytes_of c.args.words.now in
    let count = length-map c.args.words.now bytes_of in
    let few = c.if-words-gt-FOLDERS.false in
    let there : lacks_guest c.args.settings (length c.args.words.now) ≡ false = search rules in
    let taken : AreTaken c.args.settings words = (omega (arith, count, few), subst (λ (n : ℕ). lacks_guest c.args.settings n ≡ false) (sym count) there) in
    let read : AreFoldersOf disk words c.in_ok-read.read.items =
    subst (λ (d : Option Disk). AreFoldersOf d words c.in_ok-read.read.items) c.read_library.ensures.disk (c.in_ok-read.ensures {u = tt}).ok in
    let same : c.as_mut_slice.result.now ≡ c.in_ok-read.read.items = search rules in
    let items = c.in_ok-read.read.items in
    let news = c.read_input.new.folders in
    let size = c.in_ok-read.read.ok.0 in
    let many = c.read_input.ensures.count in
    let long = ap (λ (l : List Folder). length l) same in
    let whole : c.in_ok-read.read.len ≡ length news = omega (arith, size, many, long) in
    let kept : c.as_slice-read.result.now ≡ news =
    c.as_slice-read.ensures.value
    ∙ (ap (λ (n : ℕ). take n (news ++ drop (length news) items)) whole ∙ take-append_seam news (drop (length news) items)) in
    failed_as disk c.args.settings (option_map bytes_of c.args.library) words c.in_ok-system.system c.in_ok-read.read.items c.as_mut_slice.result.now
    c.read_input.new.folders c.as_slice-read.result.now (g.I.Read.remaining c.args.input.now) (g.I.Read.remaining c.read_input.new.input)
    (g.I.Read.remaining c.run_folders.new.input) taken (c.in_ok-system.ensures {u = tt}).ok read same kept
    ((c.in_ok-read_input.ensures {u = tt}).ok c.in_ok-system.system) c.run_folders.result c.run_folders.ensures.err

-- there is no library
pub returns-in_err-system-clause-err : goal.returns-in_err-system-clause-err
returns-in_err-system-clause-err g c =
    let disk = g.F.Folders.disk c.args.folders.now in
    let library = option_map bytes_of c.args.library in
    let words = map bytes_of c.args.words.now in
    let before = g.I.Read.remaining c.args.input.now in
    let count = length-map c.args.words.now bytes_of in
    let few = c.if-words-gt-FOLDERS.false in
    let there : lacks_guest c.args.settings (length c.args.words.now) ≡ false = search rules in
    let taken : AreTaken c.args.settings words = (omega (arith, count, few), subst (λ (n : ℕ). lacks_guest c.args.settings n ≡ false) (sym count) there) in
    let failure = c.in_err-system.field-0.0 in
    passed_on c.from_residual.result failure (IsRunFailure disk c.args.settings library words before before) c.from_residual.ensures.1
    (no_library disk c.args.settings library words taken before failure (c.in_err-system.ensures {u = tt}).err)

-- a folder was not read
pub returns-in_err-read-clause-err : goal.returns-in_err-read-clause-err
returns-in_err-read-clause-err g c =
    let disk = g.F.Folders.disk c.args.folders.now in
    let library = option_map bytes_of c.args.library in
    let words = map bytes_of c.args.words.now in
    let before = g.I.Read.remaining c.args.input.now in
    let count = length-map c.args.words.now bytes_of in
    let few = c.if-words-gt-FOLDERS.false in
    let there : lacks_guest c.args.settings (length c.args.words.now) ≡ false = search rules in
    let taken : AreTaken c.args.settings words = (omega (arith, count, few), subst (λ (n : ℕ). lacks_guest c.args.settings n ≡ false) (sym count) there) in
    let failure = c.in_err-read.field-0.0 in
    passed_on c.from_residual-in_err-read.result failure (IsRunFailure disk c.args.settings library words before before) c.from_residual-in_err-read.ensures.1
    (not_read disk c.args.settings library words taken (g.F.Folders.disk c.read_library.new.folders) c.in_ok-system.system before failure
    c.read_library.ensures.disk (c.in_ok-system.ensures {u = tt}).ok (c.in_err-read.ensures {u = tt}).err)

-- the input was not
pub returns-in_err-read_input-clause-err : goal.returns-in_err-read_input-clause-err
returns-in_err-read_input-clause-err g c =
    let disk = g.F.Folders.disk c.args.folders.now in
    let library = option_map bytes_of c.args.library in
    let words = map bytes_of c.args.words.now in
    let before = g.I.Read.remaining c.args.input.now in
    let count = length-map c.args.words.now bytes_of in
    let few = c.if-words-gt-FOLDERS.false in
    let there : lacks_guest c.args.settings (length c.args.words.now) ≡ false = search rules in
    let taken : AreTaken c.args.settings words = (omega (arith, count, few), subst (λ (n : ℕ). lacks_guest c.args.settings n ≡ false) (sym count) there) in
    let after = g.I.Read.remaining c.read_input.new.input in
    let failure = c.in_err-read_input.field-0.0 in
    let read : AreFoldersOf disk words c.in_ok-read.read.items =
    subst (λ (d : Option Disk). AreFoldersOf d words c.in_ok-read.read.items) c.read_library.ensures.disk (c.in_ok-read.ensures {u = tt}).ok in
    passed_on c.from_residual-in_err-read_input.result failure (IsRunFailure disk c.args.settings library words before after) c.from_residual-in_err-read_input.ensures.1
    (no_input disk c.args.settings library words taken c.in_ok-system.system c.in_ok-read.read.items before after failure (c.in_ok-system.ensures {u = tt}).ok read
    (c.in_err-read_input.ensures {u = tt}).err)
