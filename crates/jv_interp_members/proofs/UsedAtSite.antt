-- A use of a field in words, as far as the field: what linking answers is what the machine finds, and where its values stand.
use Rattle.std.proofs.Common.{◌≡◌, ℕ, zero, suc, ◌<◌, Bool, true, false, not, List, Option, Some, None, Ok, Err, refl, sym, ap, subst, ◌∙◌, arith, slice_get}
use Rattle.std.specs.Prelude.{Result, IsSome, IsTrue, IsFalse, is_some, if◌then◌else◌}
use Rattle.jv_text.specs.declared.descriptor.Base.TheVariants as bases
use Rattle.jv_text.specs.declared.descriptor.Element.{Element}
use Rattle.jv_text.specs.declared.descriptor.Element.TheVariants as elements
use Rattle.jv_text.specs.declared.descriptor.FieldTypeOf.{FieldTypeOf}
use Rattle.jv_text.specs.Types.{field_type_of}
use Rattle.jv_pool.specs.Constants.{MemberReference}
use Rattle.jv_stackmap.specs.Types.{value_type_by, value_type, width}
use Rattle.jv_code.specs.declared.kinds.FieldAccess.{FieldAccess}
use Rattle.jv_code.specs.declared.kinds.FieldAccess.TheVariants as access
use Rattle.jv_meaning_world.specs.World.{Loaded, World}
use Rattle.jv_meaning_world.specs.LookUps.{DeclaredField}
use Rattle.jv_meaning_world.specs.Numbers.{HoldsAtNumber}
use Rattle.jv_lookups.specs.Places.{field_at}
use Rattle.jv_meaning_typing.specs.LinkErrors.{error_class}
use Rattle.jv_meaning_typing.specs.Kind.{is_static_field, has_field_kind}
use Rattle.jv_meaning_typing.specs.Layout.{field_words}
use Rattle.jv_meaning_typing.specs.Operands.{field_operand}
use Rattle.jv_meaning_typing.specs.FieldResolution.{resolve_field}
use Rattle.jv_meaning_typing.specs.LinkingLaws.{FieldIsUsed}
use Rattle.jv_link.specs.declared.site.Use.{Use}
use Rattle.jv_link.specs.declared.site.Use.TheVariants as uses
use Rattle.jv_link.specs.Seen.{place_of, seen_use, IsSite}
use Rattle.jv_link_cache.specs.declared.field_use.FieldUse.{FieldUse}
use Rattle.jv_link_cache.specs.FieldUses.{kind_of, IsFieldUse}
use Rattle.jv_meaning_typing.specs.Environment.{current_class}
use Rattle.jv_meaning_machine.specs.Faults.{OrFault, found}
use Rattle.jv_meaning_machine.specs.Faults.Fault.{OffsetFault}
use Rattle.jv_meaning_machine.specs.State.{Memory, class_state, is_ready}
use Rattle.jv_meaning_machine.specs.Effects.{Effect, Context, Outcome, world_at, method_at, site_at, unless_error, once_initialized}
use Rattle.jv_meaning_machine.specs.Effects.Effect.{Begins}
use Rattle.jv_meaning_machine.specs.Fields.{get_static, put_static, get_field, put_field, access_field, use_for, use_field}
use Rattle.jv_interp_words.proofs.Gave.{bound_gave, found_gave}
use Rattle.jv_interp_heap.specs.ObjectsInBlocks.{AreLoadable}
use Rattle.jv_interp_heap.specs.Narrowing.{narrowing_at, narrowing_of}
use Rattle.jv_interp_heap.specs.declared.narrowing.Narrowing.{Narrowing}
use Rattle.jv_interp_heap.specs.declared.narrowing.Narrowing.TheVariants as narrowings
use Rattle.jv_interp_heap.proofs.Widths.{described_words}
use Rattle.jv_interp_held.specs.declared.effect.Effect.TheVariants as effects
use Rattle.jv_interp_held.specs.Executing.{Place, Executes, Did}
use Rattle.jv_interp_held.specs.Growing.{DidIn}
use Rattle.jv_interp_heap.specs.SystemNumbers.{IsGuestsWorld}
use Rattle.jv_interp_held.proofs.Raised.{raised_in}
use Rattle.jv_interp_members.specs.Fields.{GettingField, PuttingField}
use Rattle.jv_interp_members.specs.Statics.{GettingStatic, PuttingStatic}
use Rattle.jv_interp_members.specs.Known.{Known}
use Rattle.jv_interp_members.specs.Resolved.{IsFieldOf, ResolvesField, IsUsedField}
use Rattle.jv_interp_members.specs.Using.{Using}
use Rattle.jv_interp_members.proofs.FieldPlaces.{StandsAtItsWord, stands_at_word}
use Rattle.jv_interp_members.proofs.Sites.{some_same, AtPlace, at_place, is_place, field_class, stood, field_there}
use Rattle.jv_interp_held.proofs.Entered.{done_same}
use Rattle.jv_interp_members.proofs.Called.{unless_raised, unless_next}
use Rattle.jv_interp_held.proofs.Entered.{begun}

-- ---- the constant

pub record UsesConstant (c : Context) (how : FieldAccess) (index : ℕ) (done : Memory × Effect) : Type 0 where
  pub reference : MemberReference
  pub operand : field_operand (current_class (method_at c)) index ≡ Some reference
  pub does : unless_error c (resolve_field (world_at c) (site_at c) (use_for how) reference) (access_field c how reference) ≡ Ok done

pub uses_constant : (c : Context) (how : FieldAccess) (index : ℕ) (done : Memory × Effect) → use_field c how index ≡ Ok done → UsesConstant c how index done
uses_constant c how index done e =
    let operand =
    bound_gave (found OffsetFault (field_operand (current_class (method_at c)) index))
    (λ (r : MemberReference). unless_error c (resolve_field (world_at c) (site_at c) (use_for how) r) (access_field c how r)) done e in
    record {
      reference = operand.0;
      operand = found_gave OffsetFault (field_operand (current_class (method_at c)) index) operand.0 operand.1;
      does = operand.2;
    }

-- ---- what the instruction is

abbrev pub by_number : FieldAccess → Use
by_number access.GetStatic = uses.Getstatic
by_number access.PutStatic = uses.Putstatic
by_number access.GetField = uses.Getfield
by_number access.PutField = uses.Putfield

pub by_number_is : (how : FieldAccess) → seen_use (by_number how) ≡ use_for how
by_number_is access.GetStatic = refl
by_number_is access.PutStatic = refl
by_number_is access.GetField = refl
by_number_is access.PutField = refl

is_false : (b : Bool) → IsTrue (not b) → IsFalse b
is_false true h = absurd cc
is_false false h = refl

some_type : (o : Option (FieldTypeOf (List ℕ))) → IsSome o → (type : FieldTypeOf (List ℕ)) × (o ≡ Some type)
some_type None h = absurd cc
some_type (Some type) h = (type, refl)

one_is_two : ◌≡◌ {A = ℕ} 1 2 → ⊥
one_is_two e = omega (arith, e)

wide_by : (n : ℕ) (element : Element (List ℕ)) → width (value_type_by n element) ≡ 2 → narrowing_at n element ≡ narrowings.Whole
wide_by zero (elements.Base bases.Byte) e = absurd (one_is_two e)
wide_by zero (elements.Base bases.Char) e = absurd (one_is_two e)
wide_by zero (elements.Base bases.Short) e = absurd (one_is_two e)
wide_by zero (elements.Base bases.Boolean) e = absurd (one_is_two e)
wide_by zero (elements.Base bases.Int) e = refl
wide_by zero (elements.Base bases.Long) e = refl
wide_by zero (elements.Base bases.Float) e = refl
wide_by zero (elements.Base bases.Double) e = refl
wide_by zero (elements.Class name) e = refl
wide_by (suc n) element e = refl

wide_whole : (t : FieldTypeOf (List ℕ)) → width (value_type t) ≡ 2 → narrowing_of t ≡ narrowings.Whole
wide_whole t e = wide_by t.dimensions t.element e

module _ (how : FieldAccess) (index next : ℕ) (k : Known) (here : Place) (texts : List (List ℕ)) (c : Context) (addresses : List ℕ) (done : Memory × Effect) (below : List ℕ)
    (h : Using how index next k here texts c addresses done below) where
  abbrev part : Context → Outcome
  part = λ c. use_field c how index

  pub it : UsesConstant c how index done
  it = uses_constant c how index done h.executes.does

  here_site : AtPlace k.world (place_of k.site) c.frame.method.site
  here_site = at_place k.world (place_of k.site) c.frame.method.site h.known.site

  pub is_site : IsSite k.world k.site
  is_site = is_place k.world (place_of k.site) c.frame.method.site h.known.site

  pub has_operand : HoldsAtNumber k.world k.site.class (λ l. IsSome (field_operand l.class index))
  has_operand = λ l at.
      subst (λ (x : Loaded). IsSome (field_operand x.class index)) (some_same c.frame.method.site.by l (sym here_site.class ∙ at)) (ap is_some it.operand)

  resolves :
      (answer : Result FieldUse ℕ) → IsUsedField k.world k.site (by_number how) index answer
      → ResolvesField k.world (resolve_field k.world c.frame.method.site (use_for how) it.reference) answer
  resolves answer clause =
      subst (λ (u : _). ResolvesField k.world (resolve_field k.world c.frame.method.site u it.reference) answer) (by_number_is how)
      (clause c.frame.method.site it.reference h.known.site it.operand)

  resolves_here :
      (answer : Result FieldUse ℕ) → IsUsedField k.world k.site (by_number how) index answer
      → ResolvesField c.program.world (resolve_field c.program.world c.frame.method.site (use_for how) it.reference) answer
  resolves_here answer clause =
      subst (λ (w : World). ResolvesField w (resolve_field w c.frame.method.site (use_for how) it.reference) answer) (sym h.known.world)
      (resolves answer clause)

  pub failed_in :
      (number : ℕ) → IsUsedField k.world k.site (by_number how) index (Err number)
      → DidIn here.blocks texts here (effects.Raises number) c addresses done below
  failed_in number clause =
      let e = resolves_here (Err number) clause in
      raised_in part texts next here c addresses done below h.executes (error_class e.error) number
      (unless_raised c (resolve_field c.program.world c.frame.method.site (use_for how) it.reference) (access_field c how it.reference)
      e.error done e.is it.does) e.numbered

  pub failed : (number : ℕ) → IsUsedField k.world k.site (by_number how) index (Err number) → Did texts here (effects.Raises number) c addresses done below
  failed number clause = (failed_in number clause).did

  -- ---- a field

  pub guests : IsGuestsWorld c.program.world
  guests = subst (λ (w : World). IsGuestsWorld w) (sym h.known.world) h.known.guests

  executed : (q : Context → Outcome) → q c ≡ Ok done → Executes q texts next here c addresses done below
  executed q does =
      record {
        does = does;
        frame = h.executes.frame;
        memory = h.executes.memory;
        base_is = h.executes.base_is;
        pc_is = h.executes.pc_is;
        next_is = h.executes.next_is;
        top_within = h.executes.top_within;
      }

  module _ (law : FieldIsUsed) (using_it : FieldUse) (clause : IsUsedField k.world k.site (by_number how) index (Ok using_it)) (use_of : IsFieldUse k.world using_it) where
    pub answered : IsFieldOf k.world (resolve_field k.world c.frame.method.site (use_for how) it.reference) using_it
    answered = resolves (Ok using_it) clause

    abbrev pub d : DeclaredField
    d = answered.d

    is : resolve_field k.world c.frame.method.site (use_for how) it.reference ≡ Ok d
    is = answered.is

    at : field_at k.world using_it.place ≡ Some d
    at = answered.at

    does : access_field c how it.reference d ≡ Ok done
    does =
        unless_next c (resolve_field c.program.world c.frame.method.site (use_for how) it.reference) (access_field c how it.reference) d done
        (subst (λ (w : World). resolve_field w c.frame.method.site (use_for how) it.reference ≡ Ok d) (sym h.known.world) is) it.does

    pub class_at : slice_get k.world using_it.place.class ≡ Some d.by
    class_at = field_class k.world using_it.place d at

    stands : StandsAtItsWord c.program.world d using_it.word
    stands =
        subst (λ (w : World). StandsAtItsWord w d using_it.word) (sym h.known.world)
        (stands_at_word k.world h.known.guests d using_it.word (stood k.world using_it.place.class d.by class_at)
        (field_there k.world using_it.place d at) (use_of.word d at) h.known.few)

    type : (t : FieldTypeOf (List ℕ)) × (field_type_of d.field.descriptor ≡ Some t)
    type = some_type (field_type_of d.field.descriptor) stands.typed

    pub words_are : (long : Bool) → ((t : FieldTypeOf (List ℕ)) → using_it.kind ≡ kind_of t → width (value_type t) ≡ (if long then 2 else 1))
        → field_words d ≡ (if long then 2 else 1)
    words_are long by_kind = described_words d.field.descriptor type.0 type.1 ∙ by_kind type.0 (use_of.kind d at type.0 type.1)

    pub narrows : (narrowing : Narrowing) → ((t : FieldTypeOf (List ℕ)) → using_it.kind ≡ kind_of t → narrowing_of t ≡ narrowing)
        → (t : FieldTypeOf (List ℕ)) → field_type_of d.field.descriptor ≡ Some t → narrowing_of t ≡ narrowing
    narrows narrowing by_kind t e = by_kind t (use_of.kind d at t e)

    -- ---- of an object

    plain : IsTrue (has_field_kind (use_for how) d.field)
    plain = (law k.world c.frame.method.site (use_for how) it.reference d is).1.kind

    pub not_static_get : how ≡ access.GetField → IsFalse (is_static_field d.field)
    not_static_get e = is_false (is_static_field d.field) (subst (λ (a : FieldAccess). IsTrue (has_field_kind (use_for a) d.field)) e plain)

    pub not_static_put : how ≡ access.PutField → IsFalse (is_static_field d.field)
    not_static_put e = is_false (is_static_field d.field) (subst (λ (a : FieldAccess). IsTrue (has_field_kind (use_for a) d.field)) e plain)

    pub few : IsFalse (is_static_field d.field) → using_it.word < 1073741824
    few = stands.few

    pub getting : how ≡ access.GetField → (words : ℕ) → field_words d ≡ words → GettingField using_it.word words next here texts c d addresses done below
    getting e words wide =
        record {
          executes = executed (λ c. get_field c d) (subst (λ (a : FieldAccess). access_field c a it.reference d ≡ Ok done) e does);
          begins = stands.instance (not_static_get e);
          loadable = subst (λ (w : World). AreLoadable w c.memory.objects) (sym h.known.world) h.loadable;
          width_is = wide;
          guests = guests;
        }

    pub putting :
        how ≡ access.PutField → (words : ℕ) → field_words d ≡ words → (narrowing : Narrowing)
        → ((t : FieldTypeOf (List ℕ)) → field_type_of d.field.descriptor ≡ Some t → narrowing_of t ≡ narrowing)
        → PuttingField using_it.word words narrowing next here texts c it.reference d addresses done below
    putting e words wide narrowing by_type =
        record {
          executes = executed (λ c. put_field c it.reference d) (subst (λ (a : FieldAccess). access_field c a it.reference d ≡ Ok done) e does);
          begins = stands.instance (not_static_put e);
          loadable = subst (λ (w : World). AreLoadable w c.memory.objects) (sym h.known.world) h.loadable;
          width_is = wide;
          narrows = by_type;
          guests = guests;
        }

    -- ---- static

    begins_if :
        (outcome : OrFault (Memory × Effect)) → once_initialized c d.by outcome ≡ Ok done → is_ready (class_state c.states d.by) ≡ false
        → Did texts here (effects.Begins using_it.place.class) c addresses done below
    begins_if outcome e other =
        begun part texts next here c addresses done below h.executes d.by using_it.place.class
        (done_same (c.memory, Begins d.by) done
        (subst (λ (b : Bool). (if b then outcome else Ok (c.memory, Begins d.by)) ≡ Ok done) other e))
        (subst (λ (w : World). slice_get w using_it.place.class ≡ Some d.by) (sym h.known.world) class_at)

    ready_then :
        (outcome : OrFault (Memory × Effect)) → once_initialized c d.by outcome ≡ Ok done → is_ready (class_state c.states d.by) ≡ true → outcome ≡ Ok done
    ready_then outcome e ready = subst (λ (b : Bool). (if b then outcome else Ok (c.memory, Begins d.by)) ≡ Ok done) ready e

    does_get : how ≡ access.GetStatic → once_initialized c d.by (get_static c d) ≡ Ok done
    does_get e = subst (λ (a : FieldAccess). access_field c a it.reference d ≡ Ok done) e does

    does_put : how ≡ access.PutStatic → once_initialized c d.by (put_static c d) ≡ Ok done
    does_put e = subst (λ (a : FieldAccess). access_field c a it.reference d ≡ Ok done) e does

    pub begins_get : how ≡ access.GetStatic → is_ready (class_state c.states d.by) ≡ false → Did texts here (effects.Begins using_it.place.class) c addresses done below
    begins_get e other = begins_if (get_static c d) (does_get e) other

    pub begins_put : how ≡ access.PutStatic → is_ready (class_state c.states d.by) ≡ false → Did texts here (effects.Begins using_it.place.class) c addresses done below
    begins_put e other = begins_if (put_static c d) (does_put e) other

    static_get : how ≡ access.GetStatic → IsTrue (is_static_field d.field)
    static_get e = subst (λ (a : FieldAccess). IsTrue (has_field_kind (use_for a) d.field)) e plain

    static_put : how ≡ access.PutStatic → IsTrue (is_static_field d.field)
    static_put e = subst (λ (a : FieldAccess). IsTrue (has_field_kind (use_for a) d.field)) e plain

    pub getting_static :
        how ≡ access.GetStatic → is_ready (class_state c.states d.by) ≡ true → (words : ℕ) → field_words d ≡ words
        → GettingStatic using_it.word words next here texts c d addresses done below
    getting_static e ready words wide =
        record {
          executes = executed (λ c. get_static c d) (ready_then (get_static c d) (does_get e) ready);
          stands = record { begins = stands.static (static_get e); width_is = wide };
        }

    pub putting_static :
        how ≡ access.PutStatic → is_ready (class_state c.states d.by) ≡ true → (words : ℕ) → field_words d ≡ words → (narrowing : Narrowing)
        → ((t : FieldTypeOf (List ℕ)) → field_type_of d.field.descriptor ≡ Some t → narrowing_of t ≡ narrowing)
        → PuttingStatic using_it.word words narrowing next here texts c d addresses done below
    putting_static e ready words wide narrowing by_type =
        record {
          executes = executed (λ c. put_static c d) (ready_then (put_static c d) (does_put e) ready);
          stands = record { begins = stands.static (static_put e); width_is = wide };
          narrows = by_type;
        }

    -- a long is stored whole
    pub long_whole : field_words d ≡ 2 → (t : FieldTypeOf (List ℕ)) → field_type_of d.field.descriptor ≡ Some t → narrowing_of t ≡ narrowings.Whole
    long_whole wide t e = wide_whole t (sym (described_words d.field.descriptor t e) ∙ wide)
