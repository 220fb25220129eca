-- What is found by nodes in a row.
use Rattle.std.proofs.Common.{◌≡◌, ℕ, zero, suc, ◌+◌, ◌<◌, ◌≤◌, List, [], ◌∷◌, ◌++◌, length, length-append, refl, ap, ◌∙◌, subst, arith, Bool, true, false, min, Option, Some, None}
use Rattle.std.proofs.lemmas.Bool.Decides.{nat_tests}
use Rattle.std.specs.Prelude.{nat_lt, if◌then◌else◌, slice_get}
use Rattle.jv_link_handlers.specs.declared.tree.Node.{Node}
use Rattle.jv_link_handlers.specs.Inside.Pieces.{place_in, Rise}
use Rattle.jv_link_handlers.specs.Inside.Nodes.{left_after, asked, found_to, found, Rises, Lengthens}

-- ---- nodes that are added behind others

there_still : (nodes more : List Node) (k : ℕ) → k < length nodes → slice_get (nodes ++ more) k ≡ slice_get nodes k
there_still [] more k lt = absurd (omega (arith, lt))
there_still (n ∷ ns) more zero lt = refl
there_still (n ∷ ns) more (suc k) lt = there_still ns more k (omega (arith, lt))

pub at_end : (nodes : List Node) (node : Node) → slice_get (nodes ++ node ∷ []) (length nodes) ≡ Some node
at_end [] node = refl
at_end (n ∷ ns) node = at_end ns node

pub pushed : (nodes : List Node) (node : Node) → Lengthens nodes (nodes ++ node ∷ [])
pushed nodes node = record {
  longer = let all = length-append nodes (node ∷ []) in omega (arith, all);
  same = λ k lt. there_still nodes (node ∷ []) k lt;
}

pub twice : (one two three : List Node) → Lengthens one two → Lengthens two three → Lengthens one three
twice one two three a b = record {
  longer = let l = a.longer in let m = b.longer in omega (arith, l, m);
  same = λ k lt. let l = a.longer in b.same k (omega (arith, lt, l)) ∙ a.same k lt;
}

-- ---- the steps don't matter where there are enough

left_within : (node : Node) (k rank : ℕ) → left_after node k rank ≤ k
left_within node k rank = case (nat_lt rank node.middle) where
  case : (b : Bool) → (if b then min node.below k else k) ≤ k
  case true = omega arith
  case false = omega arith

enough_asked : (at : Option Node) (f g : ℕ → ℕ) (k offset rank : ℕ) → ((left : ℕ) → left ≤ k → f left ≡ g left) → asked at f k offset rank ≡ asked at g k offset rank
enough_asked None f g k offset rank same = refl
enough_asked (Some node) f g k offset rank same = ap (min (place_in node.pieces.items offset)) (same (left_after node k rank) (left_within node k rank))

pub enough : (nodes : List Node) (s t left offset rank : ℕ) → left ≤ s → left ≤ t → found_to nodes s left offset rank ≡ found_to nodes t left offset rank
enough nodes zero zero left offset rank a b = refl
enough nodes zero (suc t) zero offset rank a b = refl
enough nodes zero (suc t) (suc k) offset rank a b = absurd (omega (arith, a))
enough nodes (suc s) zero zero offset rank a b = refl
enough nodes (suc s) zero (suc k) offset rank a b = absurd (omega (arith, b))
enough nodes (suc s) (suc t) zero offset rank a b = refl
enough nodes (suc s) (suc t) (suc k) offset rank a b =
    enough_asked (slice_get nodes k) (λ left. found_to nodes s left offset rank) (λ left. found_to nodes t left offset rank) k offset rank
    (λ left le. enough nodes s t left offset rank (omega (arith, a, le)) (omega (arith, b, le)))

-- ---- what stands behind doesn't matter

pub found_same : (before after : List Node) → Lengthens before after → (s left offset rank : ℕ) → left ≤ length before
    → found_to after s left offset rank ≡ found_to before s left offset rank
found_same before after same zero left offset rank le = refl
found_same before after same (suc s) zero offset rank le = refl
found_same before after same (suc s) (suc k) offset rank le =
    ap (λ (at : Option Node). asked at (λ left. found_to after s left offset rank) k offset rank) (same.same k (omega (arith, le)))
    ∙ enough_asked (slice_get before k) (λ left. found_to after s left offset rank) (λ left. found_to before s left offset rank) k offset rank
    (λ left less. found_same before after same s left offset rank (omega (arith, le, less)))

-- the last of so many, and what is found after it
pub found_by : (nodes : List Node) (node : Node) (k offset rank : ℕ) → slice_get nodes k ≡ Some node
    → found_to nodes (k + 1) (k + 1) offset rank ≡ min (place_in node.pieces.items offset) (found_to nodes (left_after node k rank) (left_after node k rank) offset rank)
found_by nodes node k offset rank at =
    let one : k + 1 ≡ suc k = omega arith in
    ap (λ (n : ℕ). found_to nodes n n offset rank) one ∙ ap (λ (it : Option Node). asked it (λ left. found_to nodes k left offset rank) k offset rank) at
    ∙ ap (min (place_in node.pieces.items offset)) (enough nodes k (left_after node k rank) (left_after node k rank) offset rank (left_within node k rank) (omega arith))

pub found_pushed : (nodes : List Node) (node : Node) (offset rank : ℕ) → found (nodes ++ node ∷ []) offset rank
    ≡ min (place_in node.pieces.items offset) (found_to nodes (left_after node (length nodes) rank) (left_after node (length nodes) rank) offset rank)
found_pushed nodes node offset rank =
    let all : length (nodes ++ node ∷ []) ≡ length nodes + 1 = length-append nodes (node ∷ []) in
    ap (λ (n : ℕ). found_to (nodes ++ node ∷ []) n n offset rank) all ∙ found_by (nodes ++ node ∷ []) node (length nodes) offset rank (at_end nodes node)
    ∙ ap (min (place_in node.pieces.items offset))
    (found_same nodes (nodes ++ node ∷ []) (pushed nodes node) _ (left_after node (length nodes) rank) offset rank (left_within node (length nodes) rank))

-- ---- a leaf, and a fork

pub found_leaf : (nodes : List Node) (node : Node) (offset rank place : ℕ) → node.below ≡ 0 → rank < node.middle → place_in node.pieces.items offset ≡ place → place ≤ 65535
    → found (nodes ++ node ∷ []) offset rank ≡ place
found_leaf nodes node offset rank place none lt is within =
    let here : nat_lt rank node.middle ≡ true = grind (arith, nat_tests) in
    let left : left_after node (length nodes) rank ≡ 0 = ap (λ b. if b then min node.below (length nodes) else length nodes) here ∙ omega (arith, none) in
    found_pushed nodes node offset rank ∙ ap (λ n. min (place_in node.pieces.items offset) (found_to nodes n n offset rank)) left ∙ omega (arith, is, within)

fork_side : (one two : List Node) (node : Node) (offset rank : ℕ) → Lengthens one two → node.below ≡ length one → (b : Bool)
    → found_to two (if b then min node.below (length two) else length two) (if b then min node.below (length two) else length two) offset rank
    ≡ (if b then found one offset rank else found two offset rank)
fork_side one two node offset rank same below true =
    let l = same.longer in
    let left : min node.below (length two) ≡ length one = omega (arith, below, l) in
    ap (λ n. found_to two n n offset rank) left ∙ found_same one two same (length one) (length one) offset rank (omega arith)
fork_side one two node offset rank same below false = refl

pub found_fork : (one two : List Node) (node : Node) (offset rank : ℕ) → Lengthens one two → node.below ≡ length one
    → found (two ++ node ∷ []) offset rank
    ≡ min (place_in node.pieces.items offset) (if nat_lt rank node.middle then found one offset rank else found two offset rank)
found_fork one two node offset rank same below =
    found_pushed two node offset rank ∙ ap (min (place_in node.pieces.items offset)) (fork_side one two node offset rank same below (nat_lt rank node.middle))

-- ---- each node's pieces rise

pub rises_pushed : (nodes : List Node) (node : Node) → Rises nodes → Rise node.pieces.items → Rises (nodes ++ node ∷ [])
rises_pushed [] node all one zero it at = subst (λ (n : Node). Rise n.pieces.items) (some_same at) one where
  some_same : {a b : Node} → Some a ≡ Some b → a ≡ b
  some_same e = cc
rises_pushed [] node all one (suc k) it at = absurd (cc)
rises_pushed (n ∷ ns) node all one zero it at = all zero it at
rises_pushed (n ∷ ns) node all one (suc k) it at = rises_pushed ns node (λ j other is. all (suc j) other is) one k it at

-- what is found so far, and from so many nodes on, is what is found at all
pub record Asking (nodes : List Node) (place left offset rank : ℕ) : Type 0 where
  pub within : left ≤ length nodes
  pub small : place ≤ 65535
  pub met : Rises nodes → min place (found_to nodes left left offset rank) ≡ found nodes offset rank

asked_within : (at : Option Node) (f : ℕ → ℕ) (k offset rank : ℕ) → ((left : ℕ) → f left ≤ 65535) → asked at f k offset rank ≤ 65535
asked_within None f k offset rank small = omega arith
asked_within (Some node) f k offset rank small = let rest = small (left_after node k rank) in omega (arith, rest)

found_within : (nodes : List Node) (s left offset rank : ℕ) → found_to nodes s left offset rank ≤ 65535
found_within nodes zero left offset rank = omega arith
found_within nodes (suc s) zero offset rank = omega arith
found_within nodes (suc s) (suc k) offset rank =
    asked_within (slice_get nodes k) (λ left. found_to nodes s left offset rank) k offset rank (λ left. found_within nodes s left offset rank)

pub asking_first : (nodes : List Node) (offset rank : ℕ) → Asking nodes 65535 (length nodes) offset rank
asking_first nodes offset rank = record {
  within = omega arith;
  small = omega arith;
  met = λ all. let rest = found_within nodes (length nodes) (length nodes) offset rank in omega (arith, rest);
}

pub asking_next : (nodes : List Node) (node : Node) (place here new left k next offset rank : ℕ) → Asking nodes place left offset rank → left ≡ k + 1
    → slice_get nodes k ≡ Some node → (Rise node.pieces.items → here ≡ place_in node.pieces.items offset) → new ≡ min place here → next ≡ left_after node k rank
    → Asking nodes new next offset rank
asking_next nodes node place here new left k next offset rank a more at is new_is next_is = record {
  within = let within = a.within in let less = left_within node k rank in omega (arith, within, less, more, next_is);
  small = let small = a.small in omega (arith, small, new_is);
  met = λ all.
      let met = a.met all in
      let rise = is (all k node at) in
      let by = ap (λ (n : ℕ). found_to nodes n n offset rank) more ∙ found_by nodes node k offset rank at in
      let to = ap (λ (n : ℕ). found_to nodes n n offset rank) next_is in
      omega (arith, met, rise, by, to, new_is);
}

found_none : (nodes : List Node) (s offset rank : ℕ) → found_to nodes s 0 offset rank ≡ 65535
found_none nodes zero offset rank = refl
found_none nodes (suc s) offset rank = refl

pub asking_all : (nodes : List Node) (place left offset rank : ℕ) → Asking nodes place left offset rank → left ≡ 0 → Rises nodes → place ≡ found nodes offset rank
asking_all nodes place left offset rank a none all =
    let met = a.met all in
    let rest = ap (λ (n : ℕ). found_to nodes n n offset rank) none ∙ found_none nodes 0 offset rank in
    let small = a.small in
    omega (arith, met, rest, small)

pub none_rise : (nodes : List Node) → nodes ≡ [] → Rises nodes
none_rise [] none k it at = absurd (cc)
none_rise (n ∷ ns) none k it at = absurd (cc)
