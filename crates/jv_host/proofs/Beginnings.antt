-- A guest that was begun.
use Rattle.std.proofs.Common.{◌≡◌, ℕ, suc, ◌≤◌, List, [], ◌∷◌, length, map, refl, sym, ap, subst, ◌∙◌, arith}
use Rattle.std.specs.Borrow.{Bor}
use Rattle.std.proofs.lemmas.List.{length-map}
use Rattle.jv_meaning_world.specs.declared.content.Content.TheVariants.{Holds}
use Rattle.jv_meaning_world.specs.FileContent.{FileContent, AreContents}
use Rattle.jv_meaning_machine.specs.Alone.{Feed}
use Rattle.jv_library.specs.Files.{Verified, AreFilesOf}
use Rattle.jv_interp_heap.specs.ObjectsInBlocks.{Blocks}
use Rattle.jv_interp.specs.Started.{budget_of}
use Rattle.jv_interp.proofs.FewClasses.{few_given}
use Rattle.jv_interp.specs.Standing.{GuestStands}
use Rattle.jv_interp.specs.Beginning.{Begins}
use Rattle.jv_host.specs.declared.admission.Fed.{Fed}
use Rattle.jv_host.specs.declared.admission.Admitted.{Admitted}
use Rattle.jv_limits.specs.Bytes.{bytes_of}
use Rattle.jv_host.specs.Files.{guest_of}
use Rattle.jv_host.specs.Host.{Admission, fed_bytes}
use Rattle.jv_host.specs.Calls.{admission}
use Rattle.jv_host.specs.Inside.Holding.{feed_of, HasBegun}
use Rattle.jv_host.proofs.Places.{count_of_map}

-- ---- how many classes there are

one_each : (files : List (List ℕ)) (contents : List FileContent) → AreContents files contents → length contents ≡ length files
one_each [] [] h = refl
one_each [] (content ∷ contents) h = absurd h
one_each (bytes ∷ files) [] h = absurd h
one_each (bytes ∷ files) (content ∷ contents) h = ap suc (one_each files contents h.1)

pub few_of_files :
    (library : List (List ℕ)) (files : List (Bor (List ℕ))) (judged : Verified) → AreFilesOf library (map bytes_of files) judged
    → length library ≤ 1024 → length files ≤ 1024 → length judged.world ≤ 2083
few_of_files library files judged are most few =
    let classes = few_given are.given are.contents judged are.found in
    let given = one_each library (map Holds are.given) are.gives.held in
    let as_many = length-map are.given Holds in
    let verdicts = are.found.verdicts.count in
    let contents = one_each (map bytes_of files) are.contents are.read in
    let same = count_of_map bytes_of files in
    omega (arith, classes, given, as_many, most, verdicts, contents, same, few)

-- ---- a guest at its start

pub begun :
    (a : Admitted) (before after : Blocks) → a.feeds.items ≡ [] → a.came ≡ length a.files.input.now → a.came ≤ 16777216
    → 64 ≤ a.budget.cells → a.budget.cells ≤ 16777216
    → Begins a.files.system.now (map bytes_of a.files.files.now) a.files.main.now a.files.input.now a.budget before a.guest after
    → HasBegun (admission (guest_of a.files) (budget_of a.budget)) a before after
begun a before after empty came few least most h = record {
  admission_is = ap (λ (f : List Feed). fed_so f a.guest.steps) no_feeds ∙ ap (λ (n : ℕ). fed_so [] n) h.stands.steps_are;
  addresses = h.addresses;
  held = record {
    stands =
        subst (λ (f : List Feed). GuestStands (guest_of a.files) (budget_of a.budget) f a.guest.steps h.addresses a.guest after) (sym no_feeds)
        (subst (λ (n : ℕ). GuestStands (guest_of a.files) (budget_of a.budget) [] n h.addresses a.guest after) (sym h.stands.steps_are) h.stands);
    came = let none = ap (λ (f : List Feed). fed_bytes f) no_feeds in omega (arith, none, came);
    few = few;
    least = least;
    most = most;
  };
  grows = h.grows;
}
  where
    no_feeds : map feed_of a.feeds.items ≡ []
    no_feeds = ap (λ (l : List Fed). map feed_of l) empty

    fed_so : List Feed → ℕ → Admission
    fed_so feeds steps = record { guest = guest_of a.files; budget = budget_of a.budget; feeds = feeds; steps = steps }
