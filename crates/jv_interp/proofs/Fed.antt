-- Bytes that come join behind the input that waits (own).
use Rattle.std.proofs.Common.{◌≡◌, ℕ, ◌+◌, ◌≤◌, ◌==◌, Bool, true, false, List, [], ◌∷◌, ◌++◌, Ok, drop, length, if◌then◌else◌, refl, sym, ap, subst, ◌∙◌, arith, length-append}
use Rattle.std.specs.Prelude.{vec_capacity}
use Rattle.std.proofs.lemmas.List.{drop-append-le}
use Rattle.std.proofs.lemmas.Bool.{eqb-true}
use Rattle.jv_meaning_machine.specs.Start.{Budget}
use Rattle.jv_meaning_machine.specs.Alone.{GuestFiles, Feed, came_at, alone}
use Rattle.jv_meaning_machine.specs.Laws.Feeds.{NothingComes, FeedJoins}
use Rattle.jv_interp_heap.specs.ObjectsInBlocks.{Blocks}
use Rattle.jv_interp_held.specs.declared.held.Held.{Held}
use Rattle.jv_interp.specs.declared.guest.Guest.{Guest}
use Rattle.jv_interp.specs.Standing.{AreTables, GuestStands, IsFed, StandsStill}
use Rattle.jv_interp_control.specs.Moves.{AreVerified}

abbrev feed_at : ℕ → List ℕ → Feed
feed_at n bytes = record { own_step = n; bytes = bytes }

-- a feed at another step adds nothing here
not_here : (k n : ℕ) (bytes : List ℕ) → (n ≡ k → ⊥) → came_at k (feed_at n bytes ∷ []) ≡ []
not_here k n bytes apart = by_test (n == k) refl
  where
    by_test : (test : Bool) → (n == k) ≡ test → (if n == k then bytes ++ [] else []) ≡ []
    by_test true is = absurd (apart (eqb-true n k is))
    by_test false is = ap (λ (t : Bool). if t then bytes ++ [] else []) is

same_came : (k n : ℕ) (bytes : List ℕ) (feeds : List Feed) → (n ≡ k → ⊥) → came_at k (feeds ++ feed_at n bytes ∷ []) ≡ came_at k feeds
same_came k n bytes [] apart = not_here k n bytes apart
same_came k n bytes (f ∷ feeds) apart =
    ap (λ (rest : List ℕ). if f.own_step == k then f.bytes ++ rest else rest) (same_came k n bytes feeds apart)

-- A guest of which nothing has changed but its input, where that is this now.
pub input_changed :
    (before after : Guest) → after ≡ record before { held = after.held } → after.held ≡ record before.held { input = after.held.input }
    → (g : GuestFiles) (b : Budget) (feeds later : List Feed) (n : ℕ) (addresses : List ℕ) (blocks : Blocks) (input : List ℕ)
    (h : GuestStands g b feeds n addresses before blocks)
    → alone h.judged g b later n ≡ Ok (record h.state { memory = record h.state.memory { input = input } })
    → ((more : ℕ) → NothingComes n more later) → length before.held.input.items ≤ length after.held.input.items
    → input ≡ drop before.held.read after.held.input.items → GuestStands g b later n addresses after blocks
input_changed before after same held_is g b feeds later n addresses blocks input h ran came longer input_is =
    let m = h.stands.memory in
    let low = m.read_within in
    let read_is = ap (λ (x : Held). x.read) held_is in
    record {
      judged = h.judged;
      right = h.right;
      library_stands = h.library_stands;
      world_is = h.world_is ∙ sym (ap (λ (x : Guest). x.judged.world) same);
      verdicts_are = h.verdicts_are ∙ sym (ap (λ (x : Guest). x.judged.verdicts) same);
      verified_are = subst (λ (x : Guest). AreVerified h.judged.program x.verified.items) (sym same) h.verified_are;
      tables = tables_again;
      came = came;
      state = record h.state { memory = record h.state.memory { input = input } };
      ran = ran;
      stands = record {
        frames = subst (λ (x : Guest). Rattle.jv_interp_control.specs.FramesStand.FramesStand h.judged.program addresses h.state.frames x.frames h.state.control.words) (sym same) h.stands.frames;
        control = subst (λ (x : Guest). Rattle.jv_interp_control.specs.ControlStands.ControlStands h.judged.program.world h.state.control x.control) (sym same) h.stands.control;
        memory = record {
          objects = m.objects;
          statics = subst (λ (x : Held). Rattle.jv_interp_heap.specs.ObjectsInBlocks.AreFields addresses
              (Rattle.jv_interp_held.specs.HeldInWords.static_fields h.judged.program.world) h.state.memory.statics x.statics.items) (sym held_is)
              m.statics;
          literals =
              subst (λ names. Rattle.jv_interp_held.specs.HeldInWords.AreLiterals names addresses h.state.memory.literals after.held.literals.items) (sym (ap (λ (x : Guest). x.texts.names) same))
              (subst (λ (x : Held). Rattle.jv_interp_held.specs.HeldInWords.AreLiterals before.texts.names addresses h.state.memory.literals x.literals.items) (sym held_is) m.literals);
          error_stands = m.error_stands ∙ ap Rattle.std.proofs.Common.Some (sym (ap (λ (x : Held). x.out_of_memory) held_is));
          arguments_stand = m.arguments_stand ∙ ap Rattle.std.proofs.Common.Some (sym (ap (λ (x : Held). x.arguments) held_is));
          cells = m.cells ∙ sym (ap (λ (x : Held). x.cells) held_is);
          output_left = m.output_left ∙ sym (ap (λ (x : Held). x.output_left) held_is);
          output = m.output ∙ sym (ap (λ (x : Held). x.output.items) held_is);
          output_room = subst (λ (x : Held). length x.output.items + x.output_left ≤ vec_capacity x.output) (sym held_is) m.output_room;
          read_within = omega (arith, low, longer, read_is);
          input = input_is ∙ ap (λ (k : ℕ). drop k after.held.input.items) (sym read_is);
        };
      };
      steps_are = ap (λ (x : Guest). x.steps) same ∙ h.steps_are;
      few_cells = let few = h.few_cells in let cells = ap (λ (x : Held). x.cells) held_is in omega (arith, few, cells);
    }
  where
    tables_again : AreTables after.judged.world after
    tables_again = record {
      linked = subst (λ (x : Guest). Rattle.jv_link_cache.specs.Linked.IsLinked x.judged.world x.linked) (sym same) h.tables.linked;
      methods = subst (λ (x : Guest). Rattle.jv_interp_members.specs.Methods.AreMethods x.judged.world x.methods) (sym same) h.tables.methods;
      texts = subst (λ (x : Guest). Rattle.jv_interp_objects.specs.Texts.AreTexts x.judged.world x.texts) (sym same) h.tables.texts;
      few = subst (λ (x : Guest). length x.judged.world ≤ 2083) (sym same) h.tables.few;
    }

pub fed_stands :
    FeedJoins → (bytes : List ℕ) (before after : Guest) → after ≡ record before { held = after.held }
    → after.held ≡ record before.held { input = after.held.input } → after.held.input.items ≡ before.held.input.items ++ bytes → IsFed bytes before after
fed_stands joins bytes before after same held_is input_is g b feeds n addresses blocks h =
    let m = h.stands.memory in
    let size = ap (λ (l : List ℕ). length l) input_is in
    let sum = length-append before.held.input.items bytes in
    input_changed before after same held_is g b feeds (feeds ++ feed_at n bytes ∷ []) n addresses blocks (h.state.memory.input ++ bytes) h
    (joins h.judged g b feeds bytes n h.state h.ran)
    (λ more k above within. same_came k n bytes feeds (λ e. omega (arith, above, e)) ∙ h.came more k above within)
    (omega (arith, size, sum))
    (ap (λ (l : List ℕ). l ++ bytes) m.input ∙ sym (drop-append-le before.held.read before.held.input.items bytes m.read_within)
    ∙ ap (λ (l : List ℕ). drop before.held.read l) (sym input_is))

pub still_stands :
    (before after : Guest) → after ≡ record before { held = after.held } → after.held ≡ record before.held { input = after.held.input }
    → after.held.input.items ≡ before.held.input.items → StandsStill before after
still_stands before after same held_is input_is g b feeds n addresses blocks h =
    let size = ap (λ (l : List ℕ). length l) input_is in
    input_changed before after same held_is g b feeds feeds n addresses blocks h.state.memory.input h h.ran h.came (omega (arith, size))
    (h.stands.memory.input ∙ ap (λ (l : List ℕ). drop before.held.read l) (sym input_is))
