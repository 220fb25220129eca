-- Nodes in four bytes: what each stands for, and that this is not changed by one more.
use Rattle.std.proofs.Common.{◌≡◌, ◌≢◌, ℕ, zero, suc, ◌+◌, ◌-◌, ◌/◌, ◌%◌, ◌<◌, ◌≤◌, Bool, List, [], ◌∷◌, ◌++◌, length, get_or, Result, Ok, Err, refl, sym, ap, subst, ◌∙◌, arith}
use Rattle.std.specs.Prelude.{◌==◌, if◌then◌else◌, MatchResult}
use Rattle.std.specs.List.{All}
use Rattle.std.specs.List.Sorted.{IsSearchInRange, IsBinarySearchResult}
use Rattle.std.specs.Ordering.{nat_cmp}
use Rattle.std.proofs.lemmas.Bool.{eq-eqb, ne_eqb}
use Rattle.std.proofs.lemmas.List.{length-append}
use Rattle.jv_stackmap.specs.declared.entry.FrameEntry.{FrameEntry}
use Rattle.jv_stackmap.specs.declared.nodes.Node.{Node}
use Rattle.jv_stackmap.specs.declared.nodes.PackedNode.{PackedNode}
use Rattle.jv_stackmap.specs.declared.nodes.FarNode.{FarNode}
use Rattle.jv_stackmap.specs.Inside.Nodes.{chain, chains_of, AreLaid, RiseBy, entry_with, number_of, below_in, below_by, node_with, nodes_from, nodes_in, AreFar, ArePacked}
use Rattle.jv_stackmap.proofs.Rises.{lower, rise_more, rise_up, sought}
use Rattle.jv_stackmap.proofs.Chains.{chain_more, length_on, push_on, laid_more, StandsOn, stands_on}

abbrev node_if : FarNode → List FarNode → ℕ → Bool → ℕ
node_if node more number b = if b then node.below else below_in more number

here : (node : FarNode) (more : List FarNode) (number : ℕ) → node.number ≡ number → below_in (node ∷ more) number ≡ node.below
here node more number is = ap (node_if node more number) (eq-eqb node.number number is)

further : (node : FarNode) (more : List FarNode) (number : ℕ) → node.number ≢ number → below_in (node ∷ more) number ≡ below_in more number
further node more number other = ap (node_if node more number) (ne_eqb node.number number other)

-- ---- one far node more

-- leaves the lower ones as they were
below_kept : (far : List FarNode) (node : FarNode) (number : ℕ) → number < node.number → below_in (far ++ node ∷ []) number ≡ below_in far number
below_kept [] node number lt = further node [] number (λ is. omega arith)
below_kept (first ∷ far) node number lt = ap (λ (n : ℕ). if first.number == number then first.below else n) (below_kept far node number lt)

-- is found where all others are lower
below_new : (from : ℕ) (far : List FarNode) (node : FarNode) → RiseBy number_of from far node.number → below_in (far ++ node ∷ []) node.number ≡ node.below
below_new from [] node h = here node [] node.number refl
below_new from (first ∷ far) node h =
    further first (far ++ node ∷ []) node.number (λ is. omega (arith, most (first.number + 1) far node.number h.1)) ∙ below_new (first.number + 1) far node h.1
  where
    most : (from : ℕ) (xs : List FarNode) (base : ℕ) → RiseBy number_of from xs base → from ≤ base
    most from [] base h = h
    most from (x ∷ xs) base h = omega (arith, h.0, most (x.number + 1) xs base h.1)

with_kept : (far : List FarNode) (node : FarNode) (number : ℕ) (packed : PackedNode) → number < node.number → node_with (far ++ node ∷ []) number packed ≡ node_with far number packed
with_kept far node number packed lt = rw (below_kept far node number lt) refl

nodes_kept : (far : List FarNode) (node : FarNode) (number : ℕ) (nodes : List PackedNode) → number + length nodes ≤ node.number →
    nodes_from (far ++ node ∷ []) number nodes ≡ nodes_from far number nodes
nodes_kept far node number [] le = refl
nodes_kept far node number (first ∷ nodes) le =
    let one : node_with (far ++ node ∷ []) number first ≡ node_with far number first = with_kept far node number first (omega arith) in
    let more : nodes_from (far ++ node ∷ []) (number + 1) nodes ≡ nodes_from far (number + 1) nodes = nodes_kept far node (number + 1) nodes (omega arith) in
    cc

-- ---- one node more

nodes_more : (far : List FarNode) (number : ℕ) (nodes : List PackedNode) (packed : PackedNode)
    → nodes_from far number (nodes ++ packed ∷ []) ≡ nodes_from far number nodes ++ node_with far (number + length nodes) packed ∷ []
nodes_more far number [] packed = ap (λ (n : ℕ). node_with far n packed ∷ []) (omega arith)
nodes_more far number (first ∷ nodes) packed =
    let same : number + 1 + length nodes ≡ number + length (first ∷ nodes) = omega arith in
    ap (λ (l : List Node). node_with far number first ∷ l)
    (nodes_more far (number + 1) nodes packed ∙ ap (λ (n : ℕ). nodes_from far (number + 1) nodes ++ node_with far n packed ∷ []) same)

pub as_many : (far : List FarNode) (number : ℕ) (nodes : List PackedNode) → length (nodes_from far number nodes) ≡ length nodes
as_many far number [] = refl
as_many far number (first ∷ nodes) = omega (arith, as_many far (number + 1) nodes)

node_there : (far : List FarNode) (number : ℕ) (nodes : List PackedNode) (i : ℕ) (d : Node) (p : PackedNode) → i < length nodes →
    get_or (nodes_from far number nodes) i d ≡ node_with far (number + i) (get_or nodes i p)
node_there far number [] i d p lt = absurd (omega arith)
node_there far number (first ∷ nodes) zero d p lt = ap (λ (n : ℕ). node_with far n first) (omega arith)
node_there far number (first ∷ nodes) (suc i) d p lt =
    let same : number + 1 + i ≡ number + suc i = omega arith in
    node_there far (number + 1) nodes i d p (omega arith) ∙ ap (λ (n : ℕ). node_with far n (get_or nodes i p)) same

-- ---- the search

found_at : (from base : ℕ) (far : List FarNode) (i : ℕ) (d : FarNode) → RiseBy number_of from far base → i < length far → below_in far (get_or far i d).number ≡ (get_or far i d).below
found_at from base [] i d h lt = absurd (omega arith)
found_at from base (first ∷ far) zero d h lt = here first far first.number refl
found_at from base (first ∷ far) (suc i) d h lt =
    let low : first.number + 1 ≤ (get_or far i d).number = lower number_of (first.number + 1) base far i d h.1 (omega arith) in
    further first far (get_or far i d).number (λ is. omega arith) ∙ found_at (first.number + 1) base far i d h.1 (omega arith)

none_at : (far : List FarNode) (number : ℕ) → All (λ f. f.number ≢ number) far → below_in far number ≡ 0
none_at [] number h = refl
none_at (first ∷ far) number h = further first far number (h 0 first (omega arith)) ∙ none_at far number (λ k d lt. h (suc k) d (omega arith))

pub record IsBelow (far : List FarNode) (number : ℕ) (r : Result ℕ ℕ) : Type 0 where
  pub found : MatchResult r (λ at. (d : FarNode) → below_in far number ≡ (get_or far at d).below) (λ at. below_in far number ≡ 0)

pub below_found : (base : ℕ) (far : List FarNode) (number : ℕ) → RiseBy number_of 0 far base → (r : Result ℕ ℕ) → IsSearchInRange r (length far) →
    IsBinarySearchResult (λ f. nat_cmp f.number number) far r
    → IsBelow far number r
below_found base far number h (Ok at) lt equal =
    let all = sought number_of base far number h (Ok at) lt equal in record {
      found = λ d. ap (below_in far) (sym (all.found.1 d)) ∙ found_at 0 base far at d h lt;
    }
below_found base far number h (Err at) le parted =
    let all = sought number_of base far number h (Err at) le parted in record { found = none_at far number all.none }

-- ---- what one node more gives

abbrev made : FrameEntry → ℕ → Node
made entry below = record { entry = entry; below = below }

pub record IsPushed (far : List FarNode) (nodes : List PackedNode) (cs : List (List FrameEntry)) (entry : FrameEntry) (below : ℕ) : Type 0 where
  pub packed : ArePacked far nodes
  pub chains : chains_of (nodes_in far nodes) ≡ cs ++ (entry ∷ chain cs below) ∷ []

pub count_is : (far : List FarNode) (nodes : List PackedNode) (cs : List (List FrameEntry)) → chains_of (nodes_in far nodes) ≡ cs → length cs ≡ 1 + length nodes
count_is far nodes cs view =
    let len : length (chains_of (nodes_in far nodes)) ≡ length cs = ap (λ (l : List (List FrameEntry)). length l) view in
    omega (arith, len, length_on ([] ∷ []) (nodes_in far nodes), as_many far 1 nodes)

one_more : (far : List FarNode) (nodes : List PackedNode) (before : List Node) (cs : List (List FrameEntry)) (entry : FrameEntry) (below : ℕ)
    → nodes_in far nodes ≡ before ++ made entry below ∷ [] → AreLaid 1 before → chains_of before ≡ cs → below < 1 + length before → AreFar far (length nodes) → IsPushed far nodes cs entry below
one_more far nodes before cs entry below is laid view lt rising = record {
  packed = record { laid = subst (λ (l : List Node). AreLaid 1 l) (sym is) (laid_more 1 before (made entry below) laid lt); rising = rising };
  chains = ap chains_of is ∙ push_on ([] ∷ []) before (made entry below) ∙ ap (λ (l : List (List FrameEntry)). l ++ chain_more l (made entry below) ∷ []) view;
}

node_is : (far : List FarNode) (number : ℕ) (packed : PackedNode) (entry : FrameEntry) (below : ℕ) → entry_with (packed.head / 4096) packed.operand ≡
    entry → below_by far number (packed.head % 4096) ≡ below
    → node_with far number packed ≡ made entry below
node_is far number packed entry below entry_is below_is = ap (λ (e : FrameEntry). made e (below_by far number (packed.head % 4096))) entry_is ∙ ap (made entry) below_is

near_more : (far : List FarNode) (nodes : List PackedNode) (packed : PackedNode) (cs : List (List FrameEntry)) (entry : FrameEntry) (below : ℕ) →
    ArePacked far nodes → chains_of (nodes_in far nodes) ≡ cs
    → below < length cs → entry_with (packed.head / 4096) packed.operand ≡ entry → below_by far (length cs) (packed.head % 4096) ≡ below → IsPushed far (nodes ++ packed ∷ []) cs entry below
near_more far nodes packed cs entry below h view lt entry_is below_is =
    let count : length cs ≡ 1 + length nodes = count_is far nodes cs view in
    let longer : length (nodes ++ packed ∷ []) ≡ length nodes + 1 = omega (arith, length-append nodes (packed ∷ [])) in
    let same : node_with far (1 + length nodes) packed ≡ made entry below = ap (λ (n : ℕ). node_with far n packed) (sym count) ∙ node_is far (length cs) packed entry below entry_is below_is in
    one_more far (nodes ++ packed ∷ []) (nodes_in far nodes) cs entry below
    (nodes_more far 1 nodes packed ∙ ap (λ (node : Node). nodes_in far nodes ++ node ∷ []) same)
    h.laid view (omega (arith, lt, count, as_many far 1 nodes))
    (rise_up number_of 0 (length nodes + 1) (length (nodes ++ packed ∷ []) + 1) far h.rising (omega (arith, longer)))

pub pushed_near : (far : List FarNode) (nodes all_nodes : List PackedNode) (packed : PackedNode) (cs : List (List FrameEntry)) (entry : FrameEntry)
    (number below distance : ℕ) → ArePacked far nodes → chains_of (nodes_in far nodes) ≡ cs
    → below < length cs → number ≡ length cs → below_by far number distance ≡ below → entry_with (packed.head / 4096) packed.operand ≡ entry → packed.head % 4096 ≡ distance
    → all_nodes ≡ nodes ++ packed ∷ [] → IsPushed far all_nodes cs entry below
pushed_near far nodes all_nodes packed cs entry number below distance h view lt number_is below_is entry_is distance_is is =
    let here : below_by far (length cs) (packed.head % 4096) ≡ below = ap (below_by far (length cs)) distance_is ∙ ap (λ (n : ℕ). below_by far n distance) (sym number_is) ∙ below_is in
    subst (λ (l : List PackedNode). IsPushed far l cs entry below) (sym is) (near_more far nodes packed cs entry below h view lt entry_is here)

far_more : (far : List FarNode) (nodes : List PackedNode) (node : FarNode) (packed : PackedNode) (cs : List (List FrameEntry)) (entry : FrameEntry) →
    ArePacked far nodes → chains_of (nodes_in far nodes) ≡ cs
    → node.number ≡ length cs → node.below < node.number → entry_with (packed.head / 4096) packed.operand ≡ entry → packed.head % 4096 ≡ 0
    → IsPushed (far ++ node ∷ []) (nodes ++ packed ∷ []) cs entry node.below
far_more far nodes node packed cs entry h view number lt entry_is distance =
    let count : length cs ≡ 1 + length nodes = count_is far nodes cs view in
    let longer : length (nodes ++ packed ∷ []) ≡ length nodes + 1 = omega (arith, length-append nodes (packed ∷ [])) in
    let rising : RiseBy number_of 0 far node.number = rise_up number_of 0 (length nodes + 1) node.number far h.rising (omega (arith, number, count)) in
    let all : List FarNode = far ++ node ∷ [] in
    let below_is : below_by all node.number (packed.head % 4096) ≡ node.below = ap (below_by all node.number) distance ∙ below_new 0 far node rising in
    let same : node_with all (1 + length nodes) packed ≡ made entry node.below =
    ap (λ (n : ℕ). node_with all n packed) (sym count ∙ sym number) ∙ node_is all node.number packed entry node.below entry_is below_is in
    let old : nodes_in all nodes ≡ nodes_in far nodes = nodes_kept far node 1 nodes (omega (arith, number, count)) in
    one_more all (nodes ++ packed ∷ []) (nodes_in far nodes) cs entry node.below
    (nodes_more all 1 nodes packed ∙ ap (λ (l : List Node). l ++ node_with all (1 + length nodes) packed ∷ []) old ∙ ap (λ (n : Node). nodes_in far nodes ++ n ∷ []) same)
    h.laid view (omega (arith, lt, number, count, as_many far 1 nodes))
    (rise_up number_of 0 (node.number + 1) (length (nodes ++ packed ∷ []) + 1) all (rise_more number_of 0 node.number far node rising (omega arith)) (omega (arith, longer, number, count)))

pub pushed_far : (far reserved all_far : List FarNode) (nodes all_nodes : List PackedNode) (node : FarNode) (packed : PackedNode)
    (cs : List (List FrameEntry)) (entry : FrameEntry) → ArePacked far nodes
    → chains_of (nodes_in far nodes) ≡ cs → node.number ≡ length cs → node.below < node.number → entry_with (packed.head / 4096) packed.operand ≡ entry → packed.head % 4096 ≡ 0
    → reserved ≡ far → all_far ≡ reserved ++ node ∷ [] → all_nodes ≡ nodes ++ packed ∷ [] → IsPushed all_far all_nodes cs entry node.below
pushed_far far reserved all_far nodes all_nodes node packed cs entry h view number lt entry_is distance reserved_is far_is is =
    let both : all_far ≡ far ++ node ∷ [] = far_is ∙ ap (λ (l : List FarNode). l ++ node ∷ []) reserved_is in
    rw (both, is) (far_more far nodes node packed cs entry h view number lt entry_is distance)

-- ---- what the node with a number is

at_number : (far : List FarNode) (nodes : List PackedNode) (all : List (List FrameEntry)) (top : ℕ) (packed : PackedNode) → ArePacked far nodes →
    chains_of (nodes_in far nodes) ≡ all → 1 ≤ top → top - 1 < length nodes
    → packed ≡ get_or nodes (top - 1) packed → StandsOn all top (node_with far top packed)
at_number far nodes all top packed h view low lt is =
    let number : 1 + (top - 1) ≡ top = omega arith in
    let node : Node = node_with far top packed in
    let there : get_or (nodes_in far nodes) (top - 1) node ≡ node =
    node_there far 1 nodes (top - 1) node packed lt ∙ ap (λ (n : ℕ). node_with far n (get_or nodes (top - 1) packed)) number ∙ ap (node_with far top) (sym is) in
    let one : StandsOn (chains_of (nodes_in far nodes)) (1 + (top - 1)) (get_or (nodes_in far nodes) (top - 1) node) =
    stands_on ([] ∷ []) (nodes_in far nodes) (top - 1) node h.laid (omega (arith, lt, as_many far 1 nodes)) in
    subst (λ (n : Node). StandsOn all top n) there
    (subst (λ (cs : List (List FrameEntry)). StandsOn cs top (get_or (nodes_in far nodes) (top - 1) node)) view
    (subst (λ (k : ℕ). StandsOn (chains_of (nodes_in far nodes)) k (get_or (nodes_in far nodes) (top - 1) node)) number one))

-- where both lists are looked at by slices
pub looked_at : (far : List FarNode) (nodes : List PackedNode) (all : List (List FrameEntry)) (top : ℕ) (far_seen : List FarNode) (nodes_seen : List PackedNode) (packed : PackedNode) (node : Node)
    → ArePacked far nodes → chains_of (nodes_in far nodes) ≡ all → far_seen ≡ far → nodes_seen ≡ nodes → 1 ≤ top → top - 1 < length nodes_seen → packed ≡ get_or nodes_seen (top - 1) packed
    → node ≡ node_with far_seen top packed → StandsOn all top node × (node.below < length all)
looked_at far nodes all top far_seen nodes_seen packed node h view far_is nodes_is low lt is node_is =
    let len : length nodes_seen ≡ length nodes = ap (λ (l : List PackedNode). length l) nodes_is in
    let there : packed ≡ get_or nodes (top - 1) packed = is ∙ ap (λ (l : List PackedNode). get_or l (top - 1) packed) nodes_is in
    let same : node ≡ node_with far top packed = node_is ∙ ap (λ (l : List FarNode). node_with l top packed) far_is in
    let stands : StandsOn all top node = subst (λ (n : Node). StandsOn all top n) (sym same) (at_number far nodes all top packed h view low (omega (arith, lt, len)) there) in
    (stands, omega (arith, stands.low, lt, len, count_is far nodes all view))
