-- Chains of nodes: what a new node leaves as it was, and what each node stands on.
use Rattle.std.proofs.Common.{◌≡◌, ℕ, zero, suc, ◌+◌, ◌<◌, ◌≤◌, List, [], ◌∷◌, ◌++◌, length, get_or, refl, sym, ap, subst, ◌∙◌, inl, inr, arith}
use Rattle.std.proofs.lemmas.Bool.{cases_lt}
use Rattle.std.proofs.lemmas.List.{length-append, get_or_append_left, get_or_past}
use Rattle.std.proofs.Math.Seq.{get_or-append_seam}
use Rattle.std.specs.Prelude.{map, ◌⊎◌}
use Rattle.std.specs.List.{All}
use Rattle.jv_stackmap.specs.declared.entry.FrameEntry.{FrameEntry}
use Rattle.jv_stackmap.specs.declared.nodes.Node.{Node}
use Rattle.jv_stackmap.specs.declared.nodes.KeptFrame.{KeptFrame}
use Rattle.jv_stackmap.specs.Inside.Nodes.{chain, chains_on, AreLaid, frame_in, IsKept}

abbrev Chains : Type 0
Chains = List (List FrameEntry)

-- the chain of one node more
abbrev pub chain_more : Chains → Node → List FrameEntry
chain_more cs node = node.entry ∷ chain cs node.below

longer : (cs : Chains) (c : List FrameEntry) → length (cs ++ c ∷ []) ≡ length cs + 1
longer cs c = omega (arith, length-append cs (c ∷ []))

pub length_on : (cs : Chains) (nodes : List Node) → length (chains_on cs nodes) ≡ length cs + length nodes
length_on cs [] = omega arith
length_on cs (node ∷ more) = omega (arith, length_on (cs ++ chain_more cs node ∷ []) more, longer cs (chain_more cs node))

pub push_on : (cs : Chains) (nodes : List Node) (node : Node) → chains_on cs (nodes ++ node ∷ []) ≡ chains_on cs nodes ++ chain_more (chains_on cs nodes) node ∷ []
push_on cs [] node = refl
push_on cs (first ∷ more) node = push_on (cs ++ chain_more cs first ∷ []) more node

-- a chain is not changed by those that come
pub chain_kept : (cs : Chains) (c : List FrameEntry) (n : ℕ) → n < length cs → chain (cs ++ c ∷ []) n ≡ chain cs n
chain_kept cs c n lt = get_or_append_left cs (c ∷ []) [] n lt

kept_on : (cs : Chains) (nodes : List Node) (n : ℕ) → n < length cs → chain (chains_on cs nodes) n ≡ chain cs n
kept_on cs [] n lt = refl
kept_on cs (node ∷ more) n lt =
    let far : n < length (cs ++ chain_more cs node ∷ []) = omega (arith, lt, longer cs (chain_more cs node)) in
    kept_on (cs ++ chain_more cs node ∷ []) more n far ∙ chain_kept cs (chain_more cs node) n lt

pub chain_new : (cs : Chains) (c : List FrameEntry) → chain (cs ++ c ∷ []) (length cs) ≡ c
chain_new cs c = get_or-append_seam cs c [] []

pub laid_more : (before : ℕ) (nodes : List Node) (node : Node) → AreLaid before nodes → node.below < before + length nodes → AreLaid before (nodes ++ node ∷ [])
laid_more before [] node h lt = (omega arith, tt)
laid_more before (first ∷ more) node h lt = (h.0, laid_more (before + 1) more node h.1 (omega arith))

-- what each node stands on
pub record StandsOn (chains : Chains) (place : ℕ) (node : Node) : Type 0 where
  pub chain_is : chain chains place ≡ node.entry ∷ chain chains node.below
  pub low : node.below < place

pub stands_on : (cs : Chains) (nodes : List Node) (i : ℕ) (d : Node) → AreLaid (length cs) nodes → i < length nodes → StandsOn (chains_on cs nodes) (length cs + i) (get_or nodes i d)
stands_on cs [] i d h lt = absurd (omega arith)
stands_on cs (node ∷ more) zero d h lt =
    let next : Chains = cs ++ chain_more cs node ∷ [] in
    let len : length next ≡ length cs + 1 = longer cs (chain_more cs node) in
    let here : length cs + 0 ≡ length cs = omega arith in
    let old : chain (chains_on next more) node.below ≡ chain cs node.below = kept_on next more node.below (omega (arith, h.0, len)) ∙ chain_kept cs (chain_more cs node) node.below h.0 in
    record {
      chain_is =
          ap (chain (chains_on next more)) here ∙ kept_on next more (length cs) (omega (arith, len)) ∙ chain_new cs (chain_more cs node)
          ∙ ap (λ (c : List FrameEntry). node.entry ∷ c) (sym old);
      low = omega (arith, h.0);
    }
stands_on cs (node ∷ more) (suc i) d h lt =
    let next : Chains = cs ++ chain_more cs node ∷ [] in
    let len : length next ≡ length cs + 1 = longer cs (chain_more cs node) in
    let same : length next + i ≡ length cs + suc i = omega (arith, len) in
    let laid : AreLaid (length next) more = subst (λ (n : ℕ). AreLaid n more) (sym len) h.1 in
    subst (λ (n : ℕ). StandsOn (chains_on next more) n (get_or more i d)) same (stands_on next more i d laid (omega arith))

pub first_empty : (nodes : List Node) → chain (chains_on ([] ∷ []) nodes) 0 ≡ []
first_empty nodes = kept_on ([] ∷ []) nodes 0 (omega arith)

pub past_empty : (nodes : List Node) (n : ℕ) → length nodes < n → chain (chains_on ([] ∷ []) nodes) n ≡ []
past_empty nodes n lt = get_or_past (chains_on ([] ∷ []) nodes) n [] (omega (arith, lt, length_on ([] ∷ []) nodes))

-- ---- from a node on down there are no more entries than its number

abbrev pub AreShort : Chains → Type 0
AreShort cs = (n : ℕ) → length (chain cs n) ≤ n

short_more : (cs : Chains) (node : Node) → node.below < length cs → AreShort cs → AreShort (cs ++ chain_more cs node ∷ [])
short_more cs node lt h n = by_side (cases_lt n (length cs)) (cases_lt (length cs) n)
  where
    by_side : (n < length cs) ⊎ (length cs ≤ n) → (length cs < n) ⊎ (n ≤ length cs) → length (chain (cs ++ chain_more cs node ∷ []) n) ≤ n
    by_side (inl below) other = rw (chain_kept cs (chain_more cs node) n below) (h n)
    by_side (inr above) (inl past) = rw (get_or_past (cs ++ chain_more cs node ∷ []) n [] (omega (arith, past, longer cs (chain_more cs node)))) (omega arith)
    by_side (inr above) (inr within) =
        let here : n ≡ length cs = omega (arith, above, within) in
        rw (here, chain_new cs (chain_more cs node)) (omega (arith, lt, h node.below))

short_on : (cs : Chains) (nodes : List Node) → AreLaid (length cs) nodes → AreShort cs → AreShort (chains_on cs nodes)
short_on cs [] laid h = h
short_on cs (node ∷ more) laid h =
    let rest : AreLaid (length (cs ++ chain_more cs node ∷ [])) more = subst (λ (n : ℕ). AreLaid n more) (sym (longer cs (chain_more cs node))) laid.1 in
    short_on (cs ++ chain_more cs node ∷ []) more rest (short_more cs node laid.0 h)

nothing_short : AreShort ([] ∷ [])
nothing_short zero = omega arith
nothing_short (suc n) = omega arith

pub are_short : (nodes : List Node) → AreLaid 1 nodes → AreShort (chains_on ([] ∷ []) nodes)
are_short nodes laid = short_on ([] ∷ []) nodes laid nothing_short

-- ---- frames

pub frame_kept : (cs : Chains) (c : List FrameEntry) (f : KeptFrame) → IsKept (length cs) f → frame_in (cs ++ c ∷ []) f ≡ frame_in cs f
frame_kept cs c f h =
    let locals = chain_kept cs c f.locals h.0 in
    let stack = chain_kept cs c f.stack h.1 in
    rw (locals, stack) refl

pub frames_kept : (cs : Chains) (c : List FrameEntry) (fs : List KeptFrame) → All (IsKept (length cs)) fs → map (frame_in (cs ++ c ∷ [])) fs ≡ map (frame_in cs) fs
frames_kept cs c [] h = refl
frames_kept cs c (f ∷ fs) h =
    let one : frame_in (cs ++ c ∷ []) f ≡ frame_in cs f = frame_kept cs c f (h 0 f (omega arith)) in
    let more : map (frame_in (cs ++ c ∷ [])) fs ≡ map (frame_in cs) fs = frames_kept cs c fs (λ k d lt. h (suc k) d (omega arith)) in
    cc

pub all_kept : (n m : ℕ) (fs : List KeptFrame) → n ≤ m → All (IsKept n) fs → All (IsKept m) fs
all_kept n m fs le h k d lt = let one = h k d lt in (omega (arith, le, one.0), omega (arith, le, one.1))

pub kept_more : (n : ℕ) (fs : List KeptFrame) (f : KeptFrame) → All (IsKept n) fs → IsKept n f → All (IsKept n) (fs ++ f ∷ [])
kept_more n [] f h one zero d lt = one
kept_more n [] f h one (suc k) d lt = absurd (omega arith)
kept_more n (g ∷ fs) f h one zero d lt = h 0 d (omega arith)
kept_more n (g ∷ fs) f h one (suc k) d lt = kept_more n fs f (λ k d lt. h (suc k) d (omega arith)) one k d (omega arith)
