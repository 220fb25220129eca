-- A search for an offset among frames whose offsets rise.
use Rattle.std.proofs.Common.{◌≡◌, ◌≢◌, ℕ, zero, suc, ◌<◌, List, [], ◌∷◌, length, get_or, Option, Some, None, Result, ap, ◌∙◌, refl, arith}
use Rattle.std.specs.Prelude.{map, slice_get, IfSome, IfNone}
use Rattle.std.specs.List.{All}
use Rattle.std.specs.List.Sorted.{IsSearchInRange, IsBinarySearchResult}
use Rattle.std.specs.Option.{option_map}
use Rattle.std.specs.Ordering.{nat_cmp}
use Rattle.std.specs.Result.{result_ok}
use Rattle.std.proofs.lemmas.List.Elements.{All-map}
use Rattle.jv_stackmap.specs.declared.entry.FrameEntry.{FrameEntry}
use Rattle.jv_stackmap.specs.declared.nodes.KeptFrame.{KeptFrame}
use Rattle.jv_stackmap.specs.Entries.{offset_of}
use Rattle.jv_stackmap.specs.Inside.Nodes.{frame_in, kept_offset, RiseTo}
use Rattle.jv_stackmap.proofs.Rises.{IsSought, sought}

abbrev any : KeptFrame
any = record { offset = 0; locals = 0; stack = 0; local_words = 0 }

offset_at : (cs : List (List FrameEntry)) (fs : List KeptFrame) (i : ℕ) (d : KeptFrame) → i < length fs → option_map offset_of (slice_get (map (frame_in cs) fs) i) ≡ Some (get_or fs i d).offset
offset_at cs [] i d lt = absurd (omega arith)
offset_at cs (f ∷ fs) zero d lt = refl
offset_at cs (f ∷ fs) (suc i) d lt = offset_at cs fs i d (omega arith)

-- what a search by offset finds
pub record Found (cs : List (List FrameEntry)) (fs : List KeptFrame) (k : ℕ) (o : Option ℕ) : Type 0 where
  pub found : IfSome o (λ place. option_map offset_of (slice_get (map (frame_in cs) fs) place) ≡ Some k)
  pub none : IfNone o (All (λ f. f.offset ≢ k) (map (frame_in cs) fs))

by_place : (cs : List (List FrameEntry)) (fs : List KeptFrame) (k : ℕ) (o : Option ℕ) → IsSought kept_offset fs k o → Found cs fs k o
by_place cs fs k (Some at) h = record {
  found = offset_at cs fs at any h.found.0 ∙ ap (λ (n : ℕ). Some n) (h.found.1 any);
  none = tt;
}
by_place cs fs k None h = record {
  found = tt;
  none = All-map (λ f. f.offset ≢ k) (frame_in cs) fs h.none;
}

pub searched : (cs : List (List FrameEntry)) (base : ℕ) (fs : List KeptFrame) (k : ℕ) → RiseTo 0 fs base → (r : Result ℕ ℕ) (o : Option ℕ) → o ≡ result_ok r → IsSearchInRange r (length fs)
    → IsBinarySearchResult (λ f. nat_cmp f.offset k) fs r → Found cs fs k o
searched cs base fs k h r o is range result = rw is (by_place cs fs k (result_ok r) (sought kept_offset base fs k h r range result))
