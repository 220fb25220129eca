-- What is taken from the stack is of the types that the rule takes.
use Rattle.std.proofs.Common.{◌≡◌, Bool, true, false, ◌&&◌, List, [], ◌∷◌, reverse, Some, None, refl, subst}
use Rattle.std.specs.Prelude.{if◌then◌else◌}
use Rattle.std.specs.List.{AllByRecursion, list_all}
use mathlib.Core.List.{reverse_aux}
use Rattle.std.proofs.lemmas.List.{reverse-reverse}
use Rattle.jv_stackmap.specs.Types.{FrameType}
use Rattle.jv_code.specs.declared.kinds.ValueKind.{ValueKind}
use Rattle.jv_meaning_world.specs.FrameFlow.{item_flows}
use Rattle.jv_meaning_world.specs.Laws.Order.{IsRooted}
use Rattle.jv_meaning_typing.specs.FrameChanges as rules
use Rattle.jv_meaning_typing.specs.FrameChanges.{is_of_kind, taken_of_kind, taken_as_all, taken_downward}
use Rattle.jv_meaning_machine.specs.Faults.{tested, ◌>>=◌}
use Rattle.jv_meaning_machine.specs.Faults.Fault.{TagFault}
use Rattle.jv_meaning_machine.specs.Values.{Value, has_kind, has_type}
use Rattle.jv_meaning_machine.specs.Operands as machine
use Rattle.jv_meaning_machine.specs.Operands.{popped, popped_as, taken_as, taken_before}
use Rattle.jv_sound.specs.Values.{Zip, Fits, Place, Item, HasStack}
use Rattle.jv_sound.specs.Sound.{IsSort}
use Rattle.jv_sound.proofs.Logic.{clash, Agrees, then2, both, nothing}
use Rattle.jv_sound.specs.Memory.{AreLoadable}
use Rattle.jv_sound.proofs.Types.{kind_fits, sort_has_type, sort_usable, fits_out, item_flows_fit}

pub and_parts : (a b : Bool) → (a && b) ≡ true → (a ≡ true) × (b ≡ true)
and_parts true b e = (refl, e)
and_parts false b e = absurd (clash e)

abbrev pub IsTaken : Place → FrameType → List FrameType → Value × List Value → Type 0
IsTaken p t below top = Fits p.method.world p.heap.objects t top.0 × HasStack p below top.1

abbrev pub AreTaken : Place → List FrameType → List FrameType → List Value × List Value → Type 0
AreTaken p ts below out = Zip (Fits p.method.world p.heap.objects) ts out.0 × HasStack p below out.1

abbrev pub IsOfKind : Place → ValueKind → FrameType × List FrameType → Value × List Value → Type 0
IsOfKind p kind u top = (is_of_kind kind u.0 ≡ true) × Item p u.0 top.0 × HasStack p u.1 top.1

pub all_reversed : (P : FrameType → Type 0) (xs ys : List FrameType) → AllByRecursion P xs → AllByRecursion P ys
    → AllByRecursion P (reverse_aux xs ys)
all_reversed P [] ys h k = k
all_reversed P (x ∷ xs) ys h k = all_reversed P xs (x ∷ ys) h.1 (h.0, k)

module _ (p : Place) (rooted : IsRooted p.method.world) (loadable : AreLoadable p.method.world p.heap.objects) where
  -- the item on top, which is to be of a type; the machine asks for the kind of another one
  pub taken_ok :
      (t u : FrameType) (others S : List FrameType) (s : List Value) → IsSort t
      → ((v : Value) → Fits p.method.world p.heap.objects t v → has_type u v ≡ true) → HasStack p S s
      → Agrees (IsTaken p t) (taken_as_all p.method.world (t ∷ others) S) (taken_as p.heap.objects u s)
  taken_ok t u others [] s sort kinds hs = nothing
  taken_ok t u others (x ∷ S) (v ∷ s) sort kinds hs =
      go (item_flows p.method.world x t && list_all (item_flows p.method.world x) others)
      (λ e. fits_out p t v sort (item_flows_fit p rooted loadable x t v (and_parts (item_flows p.method.world x t) _ e).0 hs.0).fits)
    where
      go :
          (b : Bool) → (b ≡ true → Fits p.method.world p.heap.objects t v)
          → Agrees (IsTaken p t) (if b then Some S else None) (taken_as p.heap.objects u (v ∷ s))
      go false k = nothing
      go true k =
          let f : Fits p.method.world p.heap.objects t v = k refl in
          rw (kinds v f, sort_usable p.method.world p.heap.objects t v sort f) (both (f, hs.1))
  taken_ok t u others (x ∷ S) [] sort kinds hs = absurd hs

  -- the same where it is not to be used yet
  pub popped_ok :
      (t u : FrameType) (others S : List FrameType) (s : List Value) → IsSort t
      → ((v : Value) → Fits p.method.world p.heap.objects t v → has_type u v ≡ true) → HasStack p S s
      → Agrees (IsTaken p t) (taken_as_all p.method.world (t ∷ others) S) (popped_as u s)
  popped_ok t u others [] s sort kinds hs = nothing
  popped_ok t u others (x ∷ S) (v ∷ s) sort kinds hs =
      go (item_flows p.method.world x t && list_all (item_flows p.method.world x) others)
      (λ e. fits_out p t v sort (item_flows_fit p rooted loadable x t v (and_parts (item_flows p.method.world x t) _ e).0 hs.0).fits)
    where
      go :
          (b : Bool) → (b ≡ true → Fits p.method.world p.heap.objects t v)
          → Agrees (IsTaken p t) (if b then Some S else None) (popped_as u (v ∷ s))
      go false k = nothing
      go true k =
          let f : Fits p.method.world p.heap.objects t v = k refl in
          rw (kinds v f) (both (f, hs.1))
  popped_ok t u others (x ∷ S) [] sort kinds hs = absurd hs

  pub taken_one : (t : FrameType) (S : List FrameType) (s : List Value) → IsSort t → HasStack p S s
      → Agrees (IsTaken p t) (taken_as_all p.method.world (t ∷ []) S) (taken_as p.heap.objects t s)
  taken_one t S s sort hs = taken_ok t t [] S s sort (λ v f. sort_has_type p.method.world p.heap.objects t v sort f) hs

  before_ok :
      (ts done S : List FrameType) (values s : List Value) → AllByRecursion IsSort ts → Zip (Fits p.method.world p.heap.objects) done values
      → HasStack p S s
      → Agrees (λ below out. AreTaken p (reverse_aux ts done) below out) (taken_downward p.method.world ts S)
      (taken_before p.heap.objects values ts s)
  before_ok [] done S values s sorts fits hs = both (fits, hs)
  before_ok (t ∷ ts) done S values s sorts fits hs =
      then2 (taken_one t S s sorts.0 hs) (λ below top h. before_ok ts (t ∷ done) below (top.0 ∷ values) top.1 sorts.1 (h.0, fits) h.1)

  pub taken_all : (ts S : List FrameType) (s : List Value) → AllByRecursion IsSort ts → HasStack p S s
      → Agrees (AreTaken p ts) (rules.taken p.method.world ts S) (machine.taken p.heap.objects ts s)
  taken_all ts S s sorts hs =
      subst (λ (us : List FrameType). Agrees (AreTaken p us) (rules.taken p.method.world ts S) (machine.taken p.heap.objects ts s))
      (reverse-reverse ts)
      (before_ok (reverse ts) [] S [] s (all_reversed IsSort ts [] sorts tt) tt hs)

  -- an item of a kind, whether its object is constructed or not
  pub kind_taken : (kind : ValueKind) (S : List FrameType) (s : List Value) → HasStack p S s
      → Agrees (IsOfKind p kind) (taken_of_kind kind S) (popped s >>= λ top. tested TagFault (has_kind kind top.0) top)
  kind_taken kind [] s hs = nothing
  kind_taken kind (x ∷ S) (v ∷ s) hs = go (is_of_kind kind x) (λ e. kind_fits p kind x v e hs.0.fits) (λ e. (e, hs.0, hs.1))
    where
      go : (b : Bool) → (b ≡ true → has_kind kind v ≡ true) → (b ≡ true → (is_of_kind kind x ≡ true) × Item p x v × HasStack p S s)
          → Agrees (IsOfKind p kind) (if b then Some (x, S) else None) (tested TagFault (has_kind kind v) (v, s))
      go false k z = nothing
      go true k z = rw (k refl) (both (z refl))
  kind_taken kind (x ∷ S) [] hs = absurd hs
