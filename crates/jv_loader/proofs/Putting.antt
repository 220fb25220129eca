-- Files that are put into a world one by one.
use Rattle.std.proofs.Common.{◌≡◌, ℕ, ◌+◌, ◌<◌, List, [], ◌∷◌, ◌++◌, length, take, get_or, Result, refl, sym, ap, ◌∙◌, subst}
use Rattle.std.specs.Borrow.{Bor}
use Rattle.std.proofs.lemmas.List.{map-append}
use Rattle.std.proofs.lemmas.Option.{slice_get-get_or}
use Rattle.jv_classes.proofs.Numbers.{take_more}
use Rattle.jv_meaning_world.specs.FileContent.{FileContent, IsContent, AreContents}
use Rattle.jv_meaning_world.specs.declared.verdict.LoadVerdict.{LoadVerdict}
use Rattle.jv_meaning_world.specs.World.{World}
use Rattle.jv_classes.specs.Inside.KeptNames.{text_of, texts_of}
use Rattle.jv_loader.specs.Inside.Files.{ArePut, with_file, with_files, entry_of, entries_from}

pub are_more : (bytes : List (List ℕ)) (contents : List FileContent) (b : List ℕ) (f : FileContent) → AreContents bytes contents → IsContent b f → AreContents (bytes ++ b ∷ []) (contents ++ f ∷ [])
are_more [] [] b f h k = (k, tt)
are_more [] (g ∷ contents) b f h k = absurd h
are_more (x ∷ bytes) [] b f h k = absurd h
are_more (x ∷ bytes) (g ∷ contents) b f h k = (h.0, are_more bytes contents b f h.1 k)

files_more : (world : World) (contents : List FileContent) (f : FileContent) → with_files world (contents ++ f ∷ []) ≡ with_file (with_files world contents) f
files_more world [] f = refl
files_more world (g ∷ contents) f = files_more (with_file world g) contents f

entries_more : (world : World) (contents : List FileContent) (f : FileContent) → entries_from world (contents ++ f ∷ []) ≡ entries_from world contents ++ entry_of (with_files world contents) f ∷ []
entries_more world [] f = refl
entries_more world (g ∷ contents) f = ap (λ es. entry_of world g ∷ es) (entries_more (with_file world g) contents f)

pub put_more : (files : List (List ℕ)) (b : List ℕ) (before now after : World) (entries : List (Result ℕ LoadVerdict)) (entry : Result ℕ LoadVerdict) → ArePut files before now entries
    → (content : FileContent) × IsContent b content × (after ≡ with_file now content) × (entry ≡ entry_of now content)
    → ArePut (files ++ b ∷ []) before after (entries ++ entry ∷ [])
put_more files b before now after entries entry put one = record {
  contents = put.contents ++ one.0 ∷ [];
  read = are_more files put.contents b one.0 put.read one.1;
  world = one.2 ∙ (ap (λ w. with_file w one.0) put.world ∙ sym (files_more before put.contents one.0));
  entry =
      ap (λ e. entries ++ e ∷ []) (one.3 ∙ ap (λ w. entry_of w one.0) put.world)
      ∙ (ap (λ es. es ++ entry_of (with_files before put.contents) one.0 ∷ []) put.entry ∙ sym (entries_more before put.contents one.0));
}

pub texts_more : (files : List (Bor (List ℕ))) (k : ℕ) (d : Bor (List ℕ)) → k < length files → texts_of (take (k + 1) files) ≡ texts_of (take k files) ++ (get_or files k d).now ∷ []
texts_more files k d h = ap texts_of (take_more files k (get_or files k d) (slice_get-get_or files k d h)) ∙ map-append text_of (take k files) (get_or files k d ∷ [])

pub put_next : (files : List (Bor (List ℕ))) (k : ℕ) (d : Bor (List ℕ)) (before now after : World) (entries more : List (Result ℕ LoadVerdict))
    (entry : Result ℕ LoadVerdict) → k < length files → ArePut (texts_of (take k files)) before now entries
    → (content : FileContent) × IsContent (get_or files k d).now content × (after ≡ with_file now content) × (entry ≡ entry_of now content)
    → more ≡ entries ++ entry ∷ []
    → ArePut (texts_of (take (k + 1) files)) before after more
put_next files k d before now after entries more entry h put one e =
    subst (λ es. ArePut (texts_of (take (k + 1) files)) before after es) (sym e)
    (subst (λ ts. ArePut ts before after (entries ++ entry ∷ [])) (sym (texts_more files k d h)) (put_more (texts_of (take k files)) (get_or files k d).now before now after entries entry put one))
