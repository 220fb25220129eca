-- Calls of an object's methods in words: what the machine does stands afterwards.
use Rattle.std.proofs.Common.{◌≡◌, ℕ, suc, ◌+◌, ◌-◌, ◌≤◌, Bool, true, false, List, [], ◌∷◌, ◌++◌, Option, Some, None, Ok, Err, reverse, refl, sym, ap, subst, ◌∙◌, get_or, arith, append_assoc, slice_get, inl, inr}
use Rattle.std.specs.Prelude.{Result, IsTrue, if◌then◌else◌}
use Rattle.std.proofs.lemmas.List.{reverse-append}
use Rattle.jv_store.specs.Content.{words_at}
use Rattle.jv_text.specs.Descriptor.{slots}
use Rattle.jv_text.specs.Name.{is_init}
use Rattle.jv_class.specs.Class.{Method}
use Rattle.jv_meaning_world.specs.World.{Loaded, World, class_named}
use Rattle.jv_meaning_world.specs.Overriding.{Declared}
use Rattle.jv_meaning_world.specs.Verdicts.{is_loadable}
use Rattle.jv_lookups.specs.Places.{method_at}
use Rattle.jv_meaning_typing.specs.Uses.{Use as UseOfNames}
use Rattle.jv_meaning_typing.specs.Uses.Use.{Invokevirtual, Invokespecial, Invokeinterface}
use Rattle.jv_meaning_typing.specs.LinkErrors.{error_class, ◌>>=◌ as ◌>>==◌}
use Rattle.jv_meaning_typing.specs.Kind.{is_static_method, has_method_kind}
use Rattle.jv_meaning_typing.specs.MethodResolution.{MethodTarget, target}
use Rattle.jv_meaning_typing.specs.Selection.{select, select_from, special_start}
use Rattle.jv_meaning_typing.specs.LinkingLaws.{MethodIsCalled}
use Rattle.jv_link.specs.declared.site.Use.{Use}
use Rattle.jv_link.specs.declared.site.Use.TheVariants as uses
use Rattle.jv_link.specs.Seen.{seen_use}
use Rattle.jv_link.specs.Objects.{object_class_at, IsObject}
use Rattle.jv_link_cache.specs.declared.method_use.MethodUse.{MethodUse}
use Rattle.jv_link_cache.specs.MethodUses.{IsMethodUse}
use Rattle.jv_meaning_machine.specs.Faults.{tested, ◌>>=◌}
use Rattle.jv_meaning_machine.specs.Faults.Fault.{ReferenceFault, ConstructionFault}
use Rattle.jv_meaning_machine.specs.Values.{Value, is_reference_value}
use Rattle.jv_meaning_machine.specs.Values.Value.{Int, Long, Null, Reference, Half, Unset}
use Rattle.jv_meaning_machine.specs.Objects.{Object, Instance, is_constructed}
use Rattle.jv_meaning_machine.specs.Objects.Object.{InstanceOf, ArrayWith}
use Rattle.jv_meaning_machine.specs.State.{Memory}
use Rattle.jv_meaning_machine.specs.Operands.{object_at}
use Rattle.jv_meaning_machine.specs.Effects.{Effect, Context, world_at, site_at, raises, unless_error, null_pointer}
use Rattle.jv_meaning_machine.specs.Effects.Effect.{Enters, Constructs, Raises}
use Rattle.jv_meaning_machine.specs.Entering.{passed_values}
use Rattle.jv_meaning_machine.specs.Fields.{instance_in}
use Rattle.jv_meaning_machine.specs.Calls.{call, call_target, call_instance, call_with, call_special, call_on, construct, class_of_object, run_on, can_receive, can_enter}
use Rattle.jv_interp_words.specs.ValuesInWords.{IsOnTop, AreOnTop}
use Rattle.jv_interp_words.specs.FramesInWords.{in_use, methods_of}
use Rattle.jv_interp_words.proofs.Gave.{bound_gave, found_gave, tested_gave}
use Rattle.jv_interp_heap.specs.ObjectsInBlocks.{HasNumber}
use Rattle.jv_interp_held.specs.declared.effect.Effect.TheVariants as effects
use Rattle.jv_interp_held.specs.Executing.{Place, Did}
use Rattle.jv_interp_heap.proofs.Numbered.{system_numbers}
use Rattle.jv_interp_held.proofs.Popped.{null_word, reference_word, not_zero}
use Rattle.jv_interp_held.proofs.Raised.{raised}
use Rattle.jv_interp_members.specs.Known.{Known}
use Rattle.jv_interp_members.specs.Resolved.{Selects, IsResolved, class_number, IsRun}
use Rattle.jv_interp_members.specs.Calling.{Calling, IsVirtual}
use Rattle.jv_interp_held.proofs.Entered.{done_same}
use Rattle.jv_interp_members.proofs.Called.{unless_raised, unless_next, CalledOn, called_on}
use Rattle.jv_interp_members.proofs.Arguments.{OnReceiver, on_receiver}
use Rattle.jv_interp_held.proofs.Entered.{left_within, Enterable, entered, constructed}
use Rattle.jv_interp_members.proofs.ObjectClasses.{HasClass, has_class}
use Rattle.jv_interp_members.proofs.StaticFlags.{virtual_on, special_on, interface_on}
use Rattle.jv_interp_members.proofs.AtSite.{it, Found, found, few_words}

-- ---- an instance that is found among the objects

instance_is : (object : Object) (instance : Instance) → instance_in object ≡ Ok instance → object ≡ InstanceOf instance
instance_is (InstanceOf known) instance e = cc
instance_is (ArrayWith components values) instance e = absurd cc

instance_there :
    (objects : List Object) (id : ℕ) (instance : Instance) → (object_at objects id >>= instance_in) ≡ Ok instance
    → slice_get objects id ≡ Some (InstanceOf instance)
instance_there objects id instance e =
    let parts = bound_gave (object_at objects id) instance_in instance e in
    found_gave ReferenceFault (slice_get objects id) parts.0 parts.1 ∙ ap Some (instance_is parts.0 instance parts.2)

-- ---- instructions that call a method of an object

pub record IsInstanceUse (how : UseOfNames) : Type 0 where
  pub of_instance : (c : Context) (descriptor : _) (t : MethodTarget) → call_target c how descriptor t ≡ call_instance c how descriptor t
  pub receives : (m : Method) → IsTrue (has_method_kind how m) → is_static_method m ≡ false
  pub of_null : (c : Context) (t : MethodTarget) (arguments rest : List Value) → call_with c how t arguments Null rest ≡ raises c null_pointer

pub record IsVirtualUse (how : UseOfNames) : Type 0 where
  pub on : (c : Context) (t : MethodTarget) (arguments : List Value) (receiver : Value) (rest : List Value) → call_with c how t arguments receiver rest ≡ call_on c how t arguments receiver rest

of_virtual : IsInstanceUse Invokevirtual
of_virtual = record { of_instance = λ c d t. refl; receives = virtual_on; of_null = λ c t arguments rest. refl }

of_interface : IsInstanceUse Invokeinterface
of_interface = record { of_instance = λ c d t. refl; receives = interface_on; of_null = λ c t arguments rest. refl }

special_null : (c : Context) (t : MethodTarget) (arguments rest : List Value) (init : Bool) → call_special c t arguments Null rest init ≡ raises c null_pointer
special_null c t arguments rest true = refl
special_null c t arguments rest false = refl

pub of_special : IsInstanceUse Invokespecial
of_special =
    record {
      of_instance = λ c d t. refl;
      receives = special_on;
      of_null = λ c t arguments rest. special_null c t arguments rest (is_init t.declared.method.name);
    }

pub instance_use : (how : Use) → IsVirtual how → IsInstanceUse (seen_use how)
instance_use how (inl e) = subst (λ (u : Use). IsInstanceUse (seen_use u)) (sym e) of_virtual
instance_use how (inr e) = subst (λ (u : Use). IsInstanceUse (seen_use u)) (sym e) of_interface

pub virtual_use : (how : Use) → IsVirtual how → IsVirtualUse (seen_use how)
virtual_use how (inl e) = subst (λ (u : Use). IsVirtualUse (seen_use u)) (sym e) (record { on = λ c t arguments receiver rest. refl })
virtual_use how (inr e) = subst (λ (u : Use). IsVirtualUse (seen_use u)) (sym e) (record { on = λ c t arguments receiver rest. refl })

-- ---- calls

module _ (how : Use) (index next : ℕ) (k : Known) (here : Place) (texts : List (List ℕ)) (c : Context) (addresses : List ℕ) (done : Memory × Effect) (below : List ℕ)
    (h : Calling how index next k here texts c addresses done below) (u : IsInstanceUse (seen_use how)) (law : MethodIsCalled) (using_it : MethodUse)
    (resolved : IsResolved k.world k.site how index (Ok using_it)) (use_of : IsMethodUse k.world using_it) where
  pub f : Found how index next k here texts c addresses done below h using_it
  f = found how index next k here texts c addresses done below h law using_it resolved use_of

  pub on : CalledOn c (seen_use how) (it how index next k here texts c addresses done below h).descriptor f.target done
  on =
      called_on c (seen_use how) (it how index next k here texts c addresses done below h).descriptor f.target done
      (sym (u.of_instance c (it how index next k here texts c addresses done below h).descriptor f.target) ∙ f.does)

  pub words : OnReceiver addresses c.frame.locals on.arguments on.receiver on.rest here.words here.at.top below
  words =
      on_receiver addresses c.frame.locals c.frame.stack on.arguments on.receiver on.rest here.words here.at.top below h.executes.top_within
      h.executes.frame on.passed.stood

  pub count_is : using_it.argument_words ≡ 1 + words.count
  count_is =
      let own = f.count in
      let sort = u.receives f.target.declared.method f.called_so.kind in
      let static = ap (λ (b : Bool). (if b then 0 else 1) + slots (it how index next k here texts c addresses done below h).descriptor) sort in
      let width = on.passed.width in
      let size = words.count_is in
      omega (arith, own, static, width, size)

  pub enough : using_it.argument_words ≤ here.at.top
  enough = let n = count_is in let e = words.enough in omega (arith, n, e)

  pub some : 1 ≤ using_it.argument_words
  some = let n = count_is in omega (arith, n)

  pub few : using_it.argument_words ≤ 256
  few =
      let n = count_is in
      let w = on.passed.width in
      let s = words.count_is in
      let most = few_words how index next k here texts c addresses done below h in
      omega (arith, n, w, s, most)

  abbrev word : ℕ
  word = get_or here.words (here.at.top - using_it.argument_words) 0

  receiver_on : IsOnTop addresses on.receiver (word ∷ words.more) words.under
  receiver_on =
      subst (λ (n : ℕ). IsOnTop addresses on.receiver (get_or here.words (here.at.top - n) 0 ∷ words.more) words.under) (sym count_is) words.receiver_on

  -- ---- null

  pub raises_null : word ≡ 0 → Did texts here (effects.Raises 15) c addresses done below
  raises_null zero_is = by_receiver on.receiver on.reference on.does receiver_on
    where
      by_receiver :
          (v : Value) → is_reference_value v ≡ true → call_with c (seen_use how) f.target on.arguments v on.rest ≡ Ok done
          → IsOnTop addresses v (word ∷ words.more) words.under → Did texts here (effects.Raises 15) c addresses done below
      by_receiver Null kind does t =
          raised (λ c. call c (seen_use how) index) texts next here c addresses done below h.executes null_pointer 15
          (done_same (c.memory, Raises null_pointer) done (sym (u.of_null c f.target on.arguments on.rest) ∙ does))
          (subst (λ (w : World). HasNumber w null_pointer 15) (sym (h.known.world ∙ h.known.guests.world_is)) (system_numbers h.known.guests.given h.known.guests.contents).null_pointer)
      by_receiver (Reference id) kind does t =
          let r = reference_word addresses id word words.more words.under t in
          absurd (not_zero addresses id word h.executes.memory.objects.are r.0 zero_is)
      by_receiver (Int n) kind does t = absurd cc
      by_receiver (Long n) kind does t = absurd cc
      by_receiver Half kind does t = absurd cc
      by_receiver Unset kind does t = absurd cc

  -- ---- an object

  pub record Receives : Type 0 where
    pub id : ℕ
    pub is : on.receiver ≡ Reference id
    pub at : slice_get addresses id ≡ Some word

  pub receives : (word ≡ 0 → ⊥) → Receives
  receives other = by_receiver on.receiver refl on.reference receiver_on
    where
      by_receiver :
          (v : Value) → on.receiver ≡ v → is_reference_value v ≡ true → IsOnTop addresses v (word ∷ words.more) words.under → Receives
      by_receiver Null is kind t = absurd (other (null_word addresses word words.more words.under t).0)
      by_receiver (Reference id) is kind t = record { id = id; is = is; at = (reference_word addresses id word words.more words.under t).0 }
      by_receiver (Int n) is kind t = absurd cc
      by_receiver (Long n) is kind t = absurd cc
      by_receiver Half is kind t = absurd cc
      by_receiver Unset is kind t = absurd cc

  -- the frame of the method that is entered on it
  pub enterable :
      (r : Receives) (d : _) (number : ℕ) → slice_get (methods_of c.program.world) number ≡ Some d
      → Enterable (λ c. call c (seen_use how) index) texts next here c addresses done below h.executes d (passed_values (Some r.id) on.arguments) on.rest number using_it.argument_words
  enterable r d number has =
      record {
        has_number = has;
        words_are = count_is ∙ one_more words.count ∙ ap suc words.count_is;
        under = words.under;
        on_top =
            subst (λ (vs : List Value). AreOnTop addresses vs (in_use here.words here.at.top) words.under)
            (ap (λ (v : Value). reverse on.arguments ++ v ∷ []) r.is ∙ sym (reverse-append (Reference r.id ∷ []) on.arguments)) words.on_top;
        left = words.left;
        no_more =
            left_within (reverse on.arguments ++ on.receiver ∷ []) on.rest c.frame.stack
            (on.passed.stood ∙ sym (append_assoc (reverse on.arguments) (on.receiver ∷ []) on.rest));
      }
    where
      one_more : (n : ℕ) → 1 + n ≡ suc n
      one_more n = omega arith

  -- ---- a method that is selected by the object's class

  module _ (r : Receives) (does : call_on c (seen_use how) f.target on.arguments on.receiver on.rest ≡ Ok done) where
    pub record Selected : Type 0 where
      pub object : Object
      pub there : slice_get c.memory.objects r.id ≡ Some object
      pub class : Option Loaded
      pub class_is : class_of_object c.program.world object ≡ Ok class
      pub runs :
          unless_error c (select c.program.world c.frame.method.site (seen_use how) f.target class) (run_on c r.id object on.arguments on.rest)
          ≡ Ok done

    pub selected : Selected
    selected =
        let does_on : call_on c (seen_use how) f.target on.arguments (Reference r.id) on.rest ≡ Ok done =
        subst (λ (v : Value). call_on c (seen_use how) f.target on.arguments v on.rest ≡ Ok done) r.is does in
        let object =
        bound_gave (object_at c.memory.objects r.id)
        (λ (o : Object).
        tested ConstructionFault (is_constructed o) o >>= λ o. class_of_object (world_at c) o >>= λ class.
        unless_error c (select (world_at c) (site_at c) (seen_use how) f.target class) (run_on c r.id o on.arguments on.rest)) done does_on in
        let same =
        bound_gave (tested ConstructionFault (is_constructed object.0) object.0)
        (λ (o : Object).
        class_of_object (world_at c) o >>= λ class.
        unless_error c (select (world_at c) (site_at c) (seen_use how) f.target class) (run_on c r.id o on.arguments on.rest)) done object.2 in
        let class =
        bound_gave (class_of_object (world_at c) same.0)
        (λ (class : Option Loaded).
        unless_error c (select (world_at c) (site_at c) (seen_use how) f.target class) (run_on c r.id same.0 on.arguments on.rest)) done same.2 in
        record {
          object = same.0;
          there =
              found_gave ReferenceFault (slice_get c.memory.objects r.id) object.0 object.1
              ∙ ap Some (tested_gave ConstructionFault (is_constructed object.0) object.0 same.0 same.1).1;
          class = class.0;
          class_is = class.1;
          runs = class.2;
        }

    abbrev block : List ℕ
    block = words_at here.blocks word

    pub has : HasClass c.program.world selected.object selected.class block
    has =
        has_class c.program.world addresses selected.object selected.class block
        (h.executes.memory.objects.each r.id word selected.object r.at selected.there) selected.class_is

    pub is_object : IsObject k.world (class_number (get_or block 0 0))
    is_object =
        subst (λ (w : World). IsObject w (class_number (get_or block 0 0))) h.known.world
        (has.loadable (λ instance l is named.
        subst (λ (w : World). IsTrue (is_loadable w l)) (sym h.known.world)
        (h.loadable r.id instance l (selected.there ∙ ap Some is) (subst (λ (w : World). class_named w instance.class ≡ Some l) h.known.world named))))

    selects :
        (answer : Result ℕ ℕ) → IsRun k.world k.site how using_it.target (get_or block 0 0) answer
        → Selects c.program.world (select c.program.world c.frame.method.site (seen_use how) f.target selected.class) answer
    selects answer clause =
        subst (λ (o : Option Loaded). Selects c.program.world (select c.program.world c.frame.method.site (seen_use how) f.target o) answer) has.class_is
        (subst (λ (w : World). Selects w (select w c.frame.method.site (seen_use how) f.target (object_class_at w (class_number (get_or block 0 0)))) answer)
        (sym h.known.world) (clause c.frame.method.site f.target h.known.site f.target_at))

    pub runs : (number : ℕ) → IsRun k.world k.site how using_it.target (get_or block 0 0) (Ok number) → Did texts here (effects.Enters number using_it.argument_words) c addresses done below
    runs number clause =
        let s = selects (Ok number) clause in
        let ran =
        unless_next c (select c.program.world c.frame.method.site (seen_use how) f.target selected.class)
        (run_on c r.id selected.object on.arguments on.rest) s.target done s.is selected.runs in
        let same =
        bound_gave (tested ReferenceFault (can_receive (world_at c) s.target.declared selected.object) s.target)
        (λ (t : MethodTarget). Ok (c.memory, Enters t.declared (Some r.id) on.arguments on.rest)) done ran in
        let is = (tested_gave ReferenceFault (can_receive (world_at c) s.target.declared selected.object) s.target same.0 same.1).1 in
        entered (λ c. call c (seen_use how) index) texts next here c addresses done below h.executes s.target.declared (Some r.id) on.arguments on.rest number
        using_it.argument_words
        (done_same (c.memory, Enters same.0.declared (Some r.id) on.arguments on.rest) done same.2
        ∙ ap (λ (t : MethodTarget). (c.memory, Enters t.declared (Some r.id) on.arguments on.rest)) (sym is))
        (enterable r s.target.declared number s.numbered)

    pub refused : (number : ℕ) → IsRun k.world k.site how using_it.target (get_or block 0 0) (Err number) → Did texts here (effects.Raises number) c addresses done below
    refused number clause =
        let e = selects (Err number) clause in
        raised (λ c. call c (seen_use how) index) texts next here c addresses done below h.executes (error_class e.error) number
        (unless_raised c (select c.program.world c.frame.method.site (seen_use how) f.target selected.class)
        (run_on c r.id selected.object on.arguments on.rest) e.error done e.is selected.runs) e.numbered

  -- ---- an `<init>`, which is entered itself

  pub constructs :
      (r : Receives) → construct c f.target on.arguments on.receiver on.rest ≡ Ok done → is_init f.target.declared.method.name ≡ true
      → (number : ℕ) → slice_get (methods_of c.program.world) number ≡ Some f.target.declared
      → Did texts here (effects.Enters number using_it.argument_words) c addresses done below
  constructs r does init number has =
      let does_on : construct c f.target on.arguments (Reference r.id) on.rest ≡ Ok done =
      subst (λ (v : Value). construct c f.target on.arguments v on.rest ≡ Ok done) r.is does in
      let instance =
      bound_gave (object_at c.memory.objects r.id >>= instance_in)
      (λ (i : Instance).
      tested ConstructionFault (can_enter (world_at c) i f.target.declared.by.class.name) i >>= λ i.
      unless_error c (select (world_at c) (site_at c) Invokespecial f.target None) (λ t.
      Ok (c.memory, Constructs t.declared r.id i on.arguments on.rest))) done does_on in
      let same =
      bound_gave (tested ConstructionFault (can_enter (world_at c) instance.0 f.target.declared.by.class.name) instance.0)
      (λ (i : Instance).
      unless_error c (select (world_at c) (site_at c) Invokespecial f.target None) (λ t.
      Ok (c.memory, Constructs t.declared r.id i on.arguments on.rest))) done instance.2 in
      let itself : select (world_at c) (site_at c) Invokespecial f.target None ≡ Ok (target f.target.named f.target.declared) =
      ap (λ (b : Bool). (if b then Ok f.target.declared else select_from (world_at c) f.target.declared.method
      (special_start (world_at c) (site_at c).by f.target.named)) >>== (λ d. Ok (target f.target.named d))) init in
      constructed (λ c. call c (seen_use how) index) texts next here c addresses done below h.executes f.target.declared r.id same.0 on.arguments on.rest number
      using_it.argument_words
      (done_same (c.memory, Constructs f.target.declared r.id same.0 on.arguments on.rest) done
      (unless_next c (select (world_at c) (site_at c) Invokespecial f.target None)
      (λ t. Ok (c.memory, Constructs t.declared r.id same.0 on.arguments on.rest)) (target f.target.named f.target.declared) done itself same.2))
      (instance_there c.memory.objects r.id instance.0 instance.1
      ∙ ap (λ (i : Instance). Some (InstanceOf i))
      (tested_gave ConstructionFault (can_enter (world_at c) instance.0 f.target.declared.by.class.name) instance.0 same.0 same.1).1)
      (enterable r f.target.declared number has)

  pub virtual_does : IsVirtualUse (seen_use how) → call_on c (seen_use how) f.target on.arguments on.receiver on.rest ≡ Ok done
  virtual_does v = sym (v.on c f.target on.arguments on.receiver on.rest) ∙ on.does

-- ---- invokespecial

module _ (index next : ℕ) (k : Known) (here : Place) (texts : List (List ℕ)) (c : Context) (addresses : List ℕ) (done : Memory × Effect) (below : List ℕ)
    (h : Calling uses.Invokespecial index next k here texts c addresses done below) (law : MethodIsCalled) (using_it : MethodUse)
    (resolved : IsResolved k.world k.site uses.Invokespecial index (Ok using_it)) (use_of : IsMethodUse k.world using_it) where
  abbrev target_is : MethodTarget
  target_is = (f uses.Invokespecial index next k here texts c addresses done below h of_special law using_it resolved use_of).target

  abbrev how_on : CalledOn c Invokespecial (it uses.Invokespecial index next k here texts c addresses done below h).descriptor target_is done
  how_on = on uses.Invokespecial index next k here texts c addresses done below h of_special law using_it resolved use_of

  pub init_is : using_it.is_init ≡ is_init target_is.declared.method.name
  init_is =
      use_of.init target_is.declared (f uses.Invokespecial index next k here texts c addresses done below h of_special law using_it resolved use_of).at_known

  pub special_does : using_it.is_init ≡ false → call_on c Invokespecial target_is how_on.arguments how_on.receiver how_on.rest ≡ Ok done
  special_does other =
      subst (λ (b : Bool). call_special c target_is how_on.arguments how_on.receiver how_on.rest b ≡ Ok done) (sym init_is ∙ other) how_on.does

  pub init_does : using_it.is_init ≡ true → construct c target_is how_on.arguments how_on.receiver how_on.rest ≡ Ok done
  init_does is =
      subst (λ (b : Bool). call_special c target_is how_on.arguments how_on.receiver how_on.rest b ≡ Ok done) (sym init_is ∙ is) how_on.does

  pub entered_init :
      (r : Receives uses.Invokespecial index next k here texts c addresses done below h of_special law using_it resolved use_of) → using_it.is_init ≡ true
      → (number : ℕ) → ((d : Declared) → method_at k.world using_it.target.declared ≡ Some d → slice_get (methods_of k.world) number ≡ Some d)
      → Did texts here (effects.Enters number using_it.argument_words) c addresses done below
  entered_init r is number numbers =
      constructs uses.Invokespecial index next k here texts c addresses done below h of_special law using_it resolved use_of r (init_does is)
      (sym init_is ∙ is) number
      (subst (λ (w : World). slice_get (methods_of w) number ≡ Some target_is.declared) (sym h.known.world)
      (numbers target_is.declared (f uses.Invokespecial index next k here texts c addresses done below h of_special law using_it resolved use_of).at_known))
