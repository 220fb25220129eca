-- The classes that a host with a closed library gives: what they name is known, and the world of a guest's files agrees with theirs alone.
use Rattle.std.proofs.Common.{◌≡◌, ℕ, Bool, true, false, true≢false, ◌||◌, not, List, [], ◌∷◌, ◌++◌, map, Option, Some, None, refl, sym, ap, ◌∙◌, subst, inl, inr, append_assoc, append-nil, codes}
use Rattle.std.specs.Prelude.{is_some, ◌⊎◌, IfSome, IsTrue, if◌then◌else◌}
use Rattle.std.specs.List.{AllByRecursion, Contains, flat_map, list_all}
use Rattle.std.specs.Str.{bytes_eq}
use Rattle.std.proofs.lemmas.Bool.{and_parts, or_cases, or_left, or_right, and_from}
use Rattle.std.proofs.lemmas.List.{map-append}
use Rattle.std.proofs.lemmas.List.Folds.{list_all-append}
use Rattle.std.proofs.lemmas.List.Elements.{All-from_recursion}
use Rattle.jv_format.specs.Format.{◌>>=◌}
use Rattle.jv_text.specs.declared.descriptor.Element.{Element}
use Rattle.jv_text.specs.declared.descriptor.Element.TheVariants as elements
use Rattle.jv_text.specs.declared.descriptor.FieldTypeOf.{FieldTypeOf}
use Rattle.jv_text.specs.Descriptor.{MethodDescriptor}
use Rattle.jv_text.specs.Name.{is_array_name}
use Rattle.jv_text.specs.Types.{field_type_of, method_type_of}
use Rattle.jv_pool.specs.declared.constant.Constant.TheVariants as constants
use Rattle.jv_pool.specs.Constants.{Entry, at_index, utf8_at, class_name_in, name_and_descriptor, name_and_type_in}
use Rattle.jv_pool.specs.Inside.Known.{At}
use Rattle.jv_pool.proofs.Kept.{at_every}
use Rattle.jv_class.specs.Class.{Class, Field, Method}
use Rattle.jv_class.specs.Rules.{is_no_array_name}
use Rattle.jv_meaning_world.specs.FileContent.{FileContent}
use Rattle.jv_meaning_world.specs.declared.content.Content.TheVariants.{OtherVersion, NoClassFile, MoreThanProfile, Holds}
use Rattle.jv_meaning_world.specs.World.{HostClasses, Loaded, World, class_named, loaded, is_reserved, has_class, with_class_of, joined_all, world_of}
use Rattle.jv_meaning_world.specs.Above.{super_names}
use Rattle.jv_meaning_world.specs.Library.{with_library}
use Rattle.jv_meaning_world.proofs.Up.{named_stands, has_name}
use Rattle.jv_meaning_world.proofs.OrderChains.{all_at}
use Rattle.jv_meaning_world.proofs.OrderWorlds.{files_are_rooted}
use Rattle.jv_meaning_library.specs.Closed.{element_names, type_names, method_names, descriptor_names, class_text_names, names_of_text, constant_names, names_in, is_there, names_classes_of, world_alone}
use Rattle.jv_meaning_library.specs.Law.{ClosedIsJudgedOnce}
use Rattle.jv_meaning_library.proofs.Worlds.{Agree}
use Rattle.jv_meaning_library.proofs.Answers.{KnownElement}
use Rattle.jv_meaning_library.proofs.Operands.{KnownField, KnownMethod, KnownDescriptor, KnownText, NamesKnown}
use Rattle.jv_meaning_library.proofs.Verdicts.{verdicts_same}
use Rattle.jv_meaning_library.proofs.Naming.{named_itself, given_differ, world_plain}

-- ---- lists of names

weaker : (one other : List ℕ → Bool) → ((name : List ℕ) → IsTrue (one name) → IsTrue (other name)) → (names : List (List ℕ)) → IsTrue (list_all one names) → IsTrue (list_all other names)
weaker one other so [] h = refl
weaker one other so (n ∷ names) h =
    let parts = and_parts (one n) (list_all one names) h in
    and_from (other n) (list_all other names) (so n parts.0) (weaker one other so names parts.1)

module _ {X : Type 0} (test : List ℕ → Bool) (names : X → List (List ℕ)) where
  each_names : (xs : List X) → IsTrue (list_all test (flat_map names xs)) → AllByRecursion (λ x. IsTrue (list_all test (names x))) xs
  each_names [] h = tt
  each_names (x ∷ xs) h =
      let parts = and_parts (list_all test (names x)) (list_all test (flat_map names xs)) (sym (list_all-append test (names x) (flat_map names xs)) ∙ h) in
      (parts.0, each_names xs parts.1)

module _ {X : Type 0} (P Q : X → Type 0) where
  each_so : ((x : X) → P x → Q x) → (xs : List X) → AllByRecursion P xs → AllByRecursion Q xs
  each_so f [] h = tt
  each_so f (x ∷ xs) h = (f x h.0, each_so f xs h.1)

-- ---- what a class names, where each name passes a test, and so do the names of arrays

module _ (given known : List ℕ → Bool) (so : (name : List ℕ) → IsTrue (given name) → IsTrue (known name)) (arrays : (name : List ℕ) → IsTrue (is_array_name name) → IsTrue (known name)) where
  element_is : (element : Element (List ℕ)) → IsTrue (list_all given (element_names element)) → KnownElement known element
  element_is (elements.Base base) h = tt
  element_is (elements.Class name) h = so name (and_parts (given name) true h).0

  type_is : (o : Option (FieldTypeOf (List ℕ))) → IsTrue (list_all given (type_names o)) → IfSome o (KnownField known)
  type_is None h = tt
  type_is (Some type) h = element_is type.element h

  parameters_are : (parameters : List (FieldTypeOf (List ℕ))) → IsTrue (list_all given (flat_map (λ type. element_names type.element) parameters))
      → AllByRecursion (KnownField known) parameters
  parameters_are parameters h =
      each_so (λ type. IsTrue (list_all given (element_names type.element))) (KnownField known) (λ type k. element_is type.element k) parameters
      (each_names given (λ type. element_names type.element) parameters h)

  method_is : (o : Option MethodDescriptor) → IsTrue (list_all given (method_names o)) → IfSome o (KnownMethod known)
  method_is None h = tt
  method_is (Some method) h =
      let parts = and_parts (list_all given (flat_map (λ type. element_names type.element) method.parameters)) (list_all given (type_names method.result))
      (sym (list_all-append given (flat_map (λ type. element_names type.element) method.parameters) (type_names method.result)) ∙ h) in
      record { parameters = parameters_are method.parameters parts.0; result = type_is method.result parts.1 }

  descriptor_is : (text : List ℕ) → IsTrue (list_all given (descriptor_names text)) → KnownDescriptor known text
  descriptor_is text h =
      let parts = and_parts (list_all given (type_names (field_type_of text))) (list_all given (method_names (method_type_of text)))
      (sym (list_all-append given (type_names (field_type_of text)) (method_names (method_type_of text))) ∙ h) in
      record { field = type_is (field_type_of text) parts.0; method = method_is (method_type_of text) parts.1 }

  text_is : (text : List ℕ) → IsTrue (list_all given (class_text_names text)) → KnownText known text
  text_is text h = by_array (is_array_name text) refl h
    where
      by_array : (b : Bool) → is_array_name text ≡ b → IsTrue (list_all given (if b then type_names (field_type_of text) else text ∷ [])) → KnownText known text
      by_array true e k = record { name = arrays text e; array = λ t. type_is (field_type_of text) k }
      by_array false e k = record { name = so text (and_parts (given text) true k).0; array = λ t. absurd (true≢false (sym t ∙ e)) }

  module _ (class : Class) (h : IsTrue (list_all given (names_in class))) where
    abbrev constants_named : List (List ℕ)
    constants_named = flat_map (constant_names class.constant_pool) class.constant_pool

    abbrev fields_named : List (List ℕ)
    fields_named = flat_map (λ (f : Field). descriptor_names f.descriptor) class.fields

    abbrev methods_named : List (List ℕ)
    methods_named = flat_map (λ (m : Method). descriptor_names m.descriptor) class.methods

    supers_part : IsTrue (list_all given (super_names class)) × IsTrue (list_all given (constants_named ++ (fields_named ++ methods_named)))
    supers_part =
        and_parts (list_all given (super_names class)) (list_all given (constants_named ++ (fields_named ++ methods_named)))
        (sym (list_all-append given (super_names class) (constants_named ++ (fields_named ++ methods_named))) ∙ h)

    pool_part : IsTrue (list_all given constants_named) × IsTrue (list_all given (fields_named ++ methods_named))
    pool_part =
        and_parts (list_all given constants_named) (list_all given (fields_named ++ methods_named))
        (sym (list_all-append given constants_named (fields_named ++ methods_named)) ∙ supers_part.1)

    members_part : IsTrue (list_all given fields_named) × IsTrue (list_all given methods_named)
    members_part =
        and_parts (list_all given fields_named) (list_all given methods_named) (sym (list_all-append given fields_named methods_named) ∙ pool_part.1)

    pub supers_are : IsTrue (list_all known (super_names class))
    supers_are = weaker given known so (super_names class) supers_part.0

    pub methods_are : AllByRecursion (λ m. KnownDescriptor known m.descriptor) class.methods
    methods_are =
        each_so (λ (m : Method). IsTrue (list_all given (descriptor_names m.descriptor))) (λ m. KnownDescriptor known m.descriptor) (λ m k. descriptor_is m.descriptor k) class.methods
        (each_names given (λ (m : Method). descriptor_names m.descriptor) class.methods members_part.1)

    abbrev IsNamed : Entry → Type 0
    IsNamed entry = IsTrue (list_all given (constant_names class.constant_pool entry))

    at_entry : (index : ℕ) → At IsNamed (at_index class.constant_pool index)
    at_entry index =
        at_every IsNamed class.constant_pool (All-from_recursion IsNamed class.constant_pool (each_names given (constant_names class.constant_pool) class.constant_pool pool_part.0)) index

    by_text : (names : List ℕ → List (List ℕ)) (P : List ℕ → Type 0) → ((text : List ℕ) → IsTrue (list_all given (names text)) → P text) → (o : Option (List ℕ))
        → IsTrue (list_all given (names_of_text names o)) → IfSome o P
    by_text names P each None k = tt
    by_text names P each (Some text) k = each text k

    class_is : (o : Option Entry) → At IsNamed o → IfSome (class_name_in class.constant_pool o) (KnownText known)
    class_is (Some (constants.Class name)) k = by_text class_text_names (KnownText known) text_is (utf8_at class.constant_pool name) k
    class_is o k = tt

    pair_is : (n d : Option (List ℕ)) → IfSome d (KnownDescriptor known)
        → IfSome (n >>= λ n. d >>= λ d. Some (name_and_descriptor n d)) (λ m. KnownDescriptor known m.descriptor)
    pair_is None d k = tt
    pair_is (Some n) None k = tt
    pair_is (Some n) (Some d) k = k

    member_is : (o : Option Entry) → At IsNamed o → IfSome (name_and_type_in class.constant_pool o) (λ m. KnownDescriptor known m.descriptor)
    member_is (Some (constants.NameAndType name descriptor)) k =
        pair_is (utf8_at class.constant_pool name) (utf8_at class.constant_pool descriptor)
        (by_text descriptor_names (KnownDescriptor known) descriptor_is (utf8_at class.constant_pool descriptor) k)
    member_is o k = tt

    pub constants_are : IsTrue (known class.name) → NamesKnown known class
    constants_are own = record {
      own = own;
      texts = λ index. class_is (at_index class.constant_pool index) (at_entry index);
      descriptors = λ index. member_is (at_index class.constant_pool index) (at_entry index);
    }

-- ---- the world of a guest's files behind these classes

found_left : (xs ys : World) (name : List ℕ) (l : Loaded) → class_named xs name ≡ Some l → class_named (xs ++ ys) name ≡ Some l
found_left [] ys name l e = absurd cc
found_left (x ∷ xs) ys name l e = by_test (bytes_eq x.class.name name) e (λ k. found_left xs ys name l k)
  where
    by_test : (b : Bool) → (if b then Some x else class_named xs name) ≡ Some l → (class_named xs name ≡ Some l → class_named (xs ++ ys) name ≡ Some l)
        → (if b then Some x else class_named (xs ++ ys) name) ≡ Some l
    by_test true k again = k
    by_test false k again = again k

one_more : (classes : List Class) (file : FileContent) → (more : List Class) × (with_class_of classes file ≡ classes ++ more)
one_more classes OtherVersion = ([], sym (append-nil classes))
one_more classes NoClassFile = ([], sym (append-nil classes))
one_more classes MoreThanProfile = ([], sym (append-nil classes))
one_more classes (Holds c) = by_test (is_reserved c.name || has_class classes c.name)
  where
    by_test : (b : Bool) → (more : List Class) × ((if b then classes else classes ++ c ∷ []) ≡ classes ++ more)
    by_test true = ([], sym (append-nil classes))
    by_test false = (c ∷ [], refl)

all_more : (classes : List Class) (files : List FileContent) → (more : List Class) × (joined_all classes files ≡ classes ++ more)
all_more classes [] = ([], sym (append-nil classes))
all_more classes (file ∷ files) =
    let here = one_more classes file in
    let rest = all_more (with_class_of classes file) files in
    (here.0 ++ rest.0, rest.1 ∙ ap (λ cs. cs ++ rest.0) here.1 ∙ append_assoc classes here.0 rest.0)

module _ (host : HostClasses) where
  abbrev alone : World
  alone = world_of host []

  grows : (contents : List FileContent) → (more : World) × (world_of host contents ≡ alone ++ more)
  grows contents =
      let all = all_more host.front contents in (
        map (loaded false) all.0,
        ap (λ cs. map (loaded true) host.system ++ map (loaded false) cs) all.1
            ∙ ap (λ ls. map (loaded true) host.system ++ ls) (map-append (loaded false) host.front all.0)
            ∙ sym (append_assoc (map (loaded true) host.system) (map (loaded false) host.front) (map (loaded false) all.0)),
      )

  abbrev pub known : List ℕ → Bool
  known name = is_array_name name || is_there alone name

  there_known : (name : List ℕ) → IsTrue (is_there alone name) → IsTrue (known name)
  there_known name h = or_right (is_array_name name) (is_there alone name) h

  arrays_known : (name : List ℕ) → IsTrue (is_array_name name) → IsTrue (known name)
  arrays_known name h = or_left (is_array_name name) (is_there alone name) h

  no_array_named : (world : World) → ((l : Loaded) → Contains world l → IsTrue (is_no_array_name l.class.name)) → (name : List ℕ) → IsTrue (is_array_name name)
      → class_named world name ≡ None
  no_array_named world plain name h = by_class (class_named world name) refl
    where
      clash : (b : Bool) → IsTrue b → IsTrue (not b) → ⊥
      clash true i j = absurd cc
      clash false i j = absurd cc

      by_class : (o : Option Loaded) → class_named world name ≡ o → o ≡ None
      by_class None e = refl
      by_class (Some l) e =
          absurd (clash (is_array_name name) h (subst (λ n. IsTrue (is_no_array_name n)) (has_name world name l e) (plain l (named_stands world name l e))))

  module _ (contents : List FileContent) (plain : (l : Loaded) → Contains (world_of host contents) l → IsTrue (is_no_array_name l.class.name))
      (alone_plain : (l : Loaded) → Contains alone l → IsTrue (is_no_array_name l.class.name)) where
    pub named_same : (name : List ℕ) → IsTrue (known name) → class_named alone name ≡ class_named (world_of host contents) name
    named_same name k = by_part (or_cases (is_array_name name) (is_there alone name) k)
      where
        by_class : (o : Option Loaded) → class_named alone name ≡ o → IsTrue (is_some o) → class_named alone name ≡ class_named (world_of host contents) name
        by_class None e g = absurd cc
        by_class (Some l) e g = let more = grows contents in e ∙ sym (found_left alone more.0 name l e) ∙ sym (ap (λ world. class_named world name) more.1)

        by_part : (is_array_name name ≡ true) ⊎ (is_there alone name ≡ true) → class_named alone name ≡ class_named (world_of host contents) name
        by_part (inl a) = no_array_named alone alone_plain name a ∙ sym (no_array_named (world_of host contents) plain name a)
        by_part (inr g) = by_class (class_named alone name) refl g

-- ---- the law

object_there : (library : List Class) → IsTrue (is_there (world_alone library) (codes "java/lang/Object"))
object_there [] = refl
object_there (c ∷ more) = refl

string_there : (library : List Class) → IsTrue (is_there (world_alone library) (codes "java/lang/String"))
string_there [] = refl
string_there (c ∷ more) = refl

throwable_there : (library : List Class) → IsTrue (is_there (world_alone library) (codes "java/lang/Throwable"))
throwable_there [] = refl
throwable_there (c ∷ more) = refl

pub closed_is_judged_once : ClosedIsJudgedOnce
closed_is_judged_once given library is closed files contents are l there verdict =
    verdicts_same (known host) (alone host) (world_of host contents) agree l (record { name = own; found = itself }) (record {
      constants = constants_are (is_there (alone host)) (known host) (there_known host) (arrays_known host) l.class (names l there) own;
      methods = methods_are (is_there (alone host)) (known host) (there_known host) (arrays_known host) l.class (names l there);
      object = there_known host (codes "java/lang/Object") (object_there library);
      string = there_known host (codes "java/lang/String") (string_there library);
      throwable = there_known host (codes "java/lang/Throwable") (throwable_there library);
    }) verdict
  where
    host : HostClasses
    host = with_library library

    names : (s : Loaded) → Contains (alone host) s → IsTrue (names_classes_of (alone host) s.class)
    names s at = all_at (λ (x : Loaded). names_classes_of (alone host) x.class) (alone host) s closed at

    itself : class_named (alone host) l.class.name ≡ Some l
    itself = named_itself (alone host) (given_differ library) l there

    own : IsTrue (known host l.class.name)
    own = there_known host l.class.name (ap is_some itself)

    agree : Agree (known host) (alone host) (world_of host contents)
    agree = record {
      named = named_same host contents (world_plain given library is files contents are) (world_plain given library is [] [] tt);
      supers = λ name s k e. supers_are (is_there (alone host)) (known host) (there_known host) (arrays_known host) s.class (names s (named_stands (alone host) name s e));
      object = there_known host (codes "java/lang/Object") (object_there library);
      first_rooted = files_are_rooted given library is [] [] tt;
      second_rooted = files_are_rooted given library is contents files are;
    }
