-- Steps of the loops over headers and over a library's classes.
use Rattle.std.proofs.Common.{◌≡◌, ℕ, ◌+◌, ◌<◌, ◌≤◌, Bool, true, false, List, [], ◌∷◌, ◌++◌, length, map, take, get_or, Option, None, Some, ◌||◌, refl, sym, ap, ◌∙◌, subst, inl, inr, append-nil, if◌then◌else◌}
use Rattle.std.specs.Prelude.{◌⊎◌, IfNone, IfSome, IsTrue, is_some, not, slice_get}
use Rattle.std.specs.Borrow.{Bor}
use Rattle.std.specs.List.{IsDistinct, filter, list_any}
use Rattle.std.specs.Option.{IsSomeAnd, option_map}
use Rattle.std.specs.Str.{bytes_eq}
use Rattle.std.specs.Cmp.Lexicographic.{nat_list_eq_equiv}
use Rattle.std.proofs.lemmas.Bool.{false≢true}
use Rattle.std.proofs.lemmas.List.{map-append, take_all, take_more as take_next}
use Rattle.std.proofs.lemmas.List.Elements.{All-nil, All-push, filter-append}
use Rattle.std.proofs.lemmas.Map.Keys.{IsDistinct-push}
use Rattle.std.proofs.lemmas.Option.{slice_get-get_or, slice_get-map}
use Rattle.std.proofs.lemmas.Slice.Eq.{bytes_eq-Decides}
use Rattle.jv_class.specs.Class.{Class, Field}
use Rattle.jv_classes.proofs.Numbers.{take_more}
use Rattle.jv_classes.specs.Inside.KeptNames.{texts_of}
use Rattle.jv_classes.specs.Members.{IsField}
use Rattle.jv_classes.specs.declared.member.Member.{Member}
use Rattle.jv_meaning_world.specs.FileContent.{AreContents}
use Rattle.jv_meaning_world.specs.Numbers.{number_named}
use Rattle.jv_meaning_world.specs.World.{Loaded, World, has_class, loaded}
use Rattle.jv_meaning_world.specs.declared.content.Content.TheVariants.{Holds}
use Rattle.jv_loader.specs.declared.header.Header.{Header}
use Rattle.jv_loader.specs.Inside.Given.{AreGiven, IsGivenBy, MayBeGiven}
use Rattle.jv_loader.specs.Inside.Headers.{AllLend, FieldSeen, HeaderSeen, LendsIn, field_of, header_in, headers_in, is_lent, member_of}
use Rattle.jv_loader.specs.Inside.Tables.{in_front}
use Rattle.jv_loader.proofs.FirstVerdicts.{pushed}
use Rattle.jv_loader.proofs.InSystem.{any_named, is_found}
use Rattle.jv_loader.proofs.Putting.{are_more, texts_more}

-- ---- answers of a test

pub never : {P : Type 0} → (P → ⊥) → (IsTrue false → P) × (P → IsTrue false)
never refutes = (λ h. absurd (false≢true h), λ p. absurd (refutes p))

pub always : {P : Type 0} → P → (IsTrue true → P) × (P → IsTrue true)
always p = (λ h. p, λ q. refl)

pub unturned : (b : Bool) → not b ≡ false → b ≡ true
unturned true e = refl
unturned false e = absurd cc

pub texts_differ : (a b : List ℕ) → not (bytes_eq a b) ≡ true → a ≡ b → ⊥
texts_differ a b e same = by_test (bytes_eq a b) e ((bytes_eq-Decides a b).1 same)
  where
    by_test : (t : Bool) → not t ≡ true → t ≡ true → ⊥
    by_test true e f = false≢true e
    by_test false e f = false≢true f

-- ---- two lists, place by place

module _ {X : Type 0} (xs ys : List X) where
  pub same_next : (k : ℕ) (x : X) → take k xs ≡ take k ys → slice_get xs k ≡ Some x → slice_get ys k ≡ Some x → take (k + 1) xs ≡ take (k + 1) ys
  same_next k x before e f = take_more xs k x e ∙ (ap (λ zs. zs ++ x ∷ []) before ∙ sym (take_more ys k x f))

  pub same_all : (k : ℕ) → length xs ≤ k → length ys ≤ k → take k xs ≡ take k ys → xs ≡ ys
  same_all k h g e = sym (take_all k xs h) ∙ (e ∙ take_all k ys g)

  pub unlike_at : (k : ℕ) (x y : X) → slice_get xs k ≡ Some x → slice_get ys k ≡ Some y → (x ≡ y → ⊥) → xs ≡ ys → ⊥
  unlike_at k x y e f differ same =
      let both : Some x ≡ Some y = sym e ∙ (ap (λ zs. slice_get zs k) same ∙ f) in
      differ cc

pub seen_at : (fields : List Field) (k : ℕ) (m : Member) → IsSomeAnd (slice_get fields k) (IsField m) → slice_get (map field_of fields) k ≡ Some (member_of m)
seen_at fields k m h = slice_get-map field_of fields k ∙ by_found (slice_get fields k) h
  where
    by_found : (o : Option Field) → IsSomeAnd o (IsField m) → option_map field_of o ≡ Some (member_of m)
    by_found None h = absurd h
    by_found (Some f) h =
        let made : ℕ → List ℕ → List ℕ → FieldSeen = λ a n d. record { access_flags = a; name = n; descriptor = d } in
        ap (λ x. Some x) (ap (λ a. made a f.name f.descriptor) (sym h.access_flags) ∙ (ap (λ n. made m.access_flags n f.descriptor) (sym h.name)
        ∙ ap (λ d. made m.access_flags m.name.now d) (sym h.descriptor)))

pub row_at : {X Y : Type 0} → (f : X → Y) (rows : List X) (k : ℕ) (d : X) → k < length rows → slice_get (map f rows) k ≡ Some (f (get_or rows k d))
row_at f rows k d less = slice_get-map f rows k ∙ ap (option_map f) (slice_get-get_or rows k d less)

-- ---- a list that is mapped, one by one

pub map_next : {X Y : Type 0} → (f : X → Y) (rows : List X) (k : ℕ) (d : X) (made more : List Y) (y : Y) → k < length rows → made ≡ map f (take k rows)
    → y ≡ f (get_or rows k d) → more ≡ made ++ y ∷ [] → more ≡ map f (take (k + 1) rows)
map_next f rows k d made more y less before is e =
    e ∙ (ap (λ ys. ys ++ y ∷ []) before ∙ (ap (λ z. map f (take k rows) ++ z ∷ []) is
    ∙ sym (ap (map f) (take_next rows k d less) ∙ map-append f (take k rows) (get_or rows k d ∷ []))))

pub map_twice : {X Y Z : Type 0} → (g : Y → Z) (f : X → Y) (xs : List X) → map g (map f xs) ≡ map (λ x. g (f x)) xs
map_twice g f [] = refl
map_twice g f (x ∷ xs) = ap (λ ys. g (f x) ∷ ys) (map_twice g f xs)

pub take_whole : {X : Type 0} → (xs : List X) (k : ℕ) → length xs ≤ k → take k xs ≡ xs
take_whole xs k h = take_all k xs h

-- ---- a header more

pub lend_next : (world : World) (rows : List Header) (k : ℕ) (d : Header) → k < length rows → AllLend world (headers_in (take k rows))
    → LendsIn world (header_in (get_or rows k d)) → AllLend world (headers_in (take (k + 1) rows))
lend_next world rows k d less before here = λ j h e.
    by_place h (pushed (headers_in (take k rows)) (header_in (get_or rows k d)) j h (sym (ap (λ hs. slice_get hs j) more) ∙ e)) j
  where
    more : headers_in (take (k + 1) rows) ≡ headers_in (take k rows) ++ header_in (get_or rows k d) ∷ []
    more = ap headers_in (take_next rows k d less) ∙ map-append header_in (take k rows) (get_or rows k d ∷ [])

    by_place : (h : HeaderSeen) {j : ℕ} → (slice_get (headers_in (take k rows)) j ≡ Some h) ⊎ ((j ≡ length (headers_in (take k rows))) × (header_in (get_or rows k d) ≡ h)) → ℕ → LendsIn world h
    by_place h {j = j} (inl there) n = before j h there
    by_place h (inr last) n = subst (LendsIn world) last.1 here

pub none_of : {X : Type 0} → (o : Option X) (P : Type 0) → is_some o ≡ false → IfNone o P → P
none_of None P e h = h
none_of (Some x) P e h = absurd cc

pub some_map : {X : Type 0} → (P Q : X → Type 0) → ((x : X) → P x → Q x) → (o : Option X) → IfSome o P → IfSome o Q
some_map P Q on None h = h
some_map P Q on (Some x) h = on x h

-- ---- a class more that may stand in front

pub lent_rows : (rows : List Header) (name : List ℕ) → list_any (λ (h : Header). bytes_eq h.name.now name) rows ≡ is_lent (headers_in rows) name
lent_rows [] name = refl
lent_rows (h ∷ rows) name = ap (λ b. bytes_eq h.name.now name || b) (lent_rows rows name)

module _ (headers : List HeaderSeen) (world : World) (k : ℕ) (l : Loaded) (there : slice_get world k ≡ Some l) (front : List ℕ)
    (before : map (slice_get world) front ≡ map Some (in_front headers (take k world))) where
  abbrev test : Loaded → Bool
  test m = not (is_lent headers m.class.name)

  one_more : (b : Bool) → test l ≡ b → in_front headers (take (k + 1) world) ≡ in_front headers (take k world) ++ (if b then l ∷ [] else [])
  one_more b e = ap (in_front headers) (take_more world k l there) ∙ (filter-append test (take k world) (l ∷ []) ∙ ap (λ ls. in_front headers (take k world) ++ ls) (last b e))
    where
      last : (b : Bool) → test l ≡ b → filter test (l ∷ []) ≡ (if b then l ∷ [] else [])
      last true e = rw e refl
      last false e = rw e refl

  pub joins_front : (more : List ℕ) → is_lent headers l.class.name ≡ false → more ≡ front ++ k ∷ []
      → map (slice_get world) more ≡ map Some (in_front headers (take (k + 1) world))
  joins_front more e is =
      ap (map (slice_get world)) is ∙ (map-append (slice_get world) front (k ∷ []) ∙ (ap (λ os. os ++ slice_get world k ∷ []) before
      ∙ (ap (λ o. map Some (in_front headers (take k world)) ++ o ∷ []) there
      ∙ sym (ap (map Some) (one_more true (ap not e)) ∙ map-append Some (in_front headers (take k world)) (l ∷ [])))))

  pub stays_behind : (more : List ℕ) → is_lent headers l.class.name ≡ true → more ≡ front
      → map (slice_get world) more ≡ map Some (in_front headers (take (k + 1) world))
  stays_behind more e is =
      ap (map (slice_get world)) is ∙ (before ∙ sym (ap (map Some) (one_more false (ap not e) ∙ append-nil (in_front headers (take k world)))))

-- ---- a file of a library more

abbrev name_of : Class → List ℕ
name_of c = c.name

no_names : IsDistinct bytes_eq []
unfolding IsDistinct
no_names = tt

pub none_given : (world : World) → world ≡ [] → AreGiven [] world
none_given world e = record { given = []; held = tt; world_is = e; may = All-nil MayBeGiven; differ = no_names }

has_flipped : (given : List Class) (name : List ℕ) → list_any (bytes_eq name) (map name_of given) ≡ has_class given name
has_flipped [] name = refl
has_flipped (c ∷ given) name = ap (λ b. b || list_any (bytes_eq name) (map name_of given)) (nat_list_eq_equiv.symm name c.name) ∙ ap (λ b. bytes_eq c.name name || b) (has_flipped given name)

pub has_given : (given : List Class) (name : List ℕ) → is_some (number_named (map (loaded false) given) name) ≡ has_class given name
has_given given name = is_found (λ (l : Loaded). bytes_eq l.class.name name) (map (loaded false) given) ∙ any_named false given name

pub given_more : (files : List (List ℕ)) (bytes : List ℕ) (old new : World) → AreGiven files old → IsGivenBy bytes old new → AreGiven (files ++ bytes ∷ []) new
given_more files bytes old new are by = record {
  given = are.given ++ by.class ∷ [];
  held = subst (AreContents (files ++ bytes ∷ [])) (sym (map-append Holds are.given (by.class ∷ []))) (are_more files (map Holds are.given) bytes (Holds by.class) are.held by.holds);
  world_is = by.joins ∙ (ap (λ w. w ++ loaded false by.class ∷ []) are.world_is ∙ sym (map-append (loaded false) are.given (by.class ∷ [])));
  may = All-push MayBeGiven are.given by.class are.may by.may;
  differ = subst (IsDistinct bytes_eq) (sym (map-append name_of are.given (by.class ∷ []))) (IsDistinct-push nat_list_eq_equiv (map name_of are.given) by.class.name are.differ is_new);
}
  where
    is_new : list_any (bytes_eq by.class.name) (map name_of are.given) ≡ false
    is_new =
        has_flipped are.given by.class.name
        ∙ (sym (has_given are.given by.class.name) ∙ ap is_some (ap (λ w. number_named w by.class.name) (sym are.world_is) ∙ by.is_new))

pub given_next : (files : List (Bor (List ℕ))) (k : ℕ) (d : Bor (List ℕ)) (old new : World) → k < length files → AreGiven (texts_of (take k files)) old
    → IsGivenBy (get_or files k d).now old new → AreGiven (texts_of (take (k + 1) files)) new
given_next files k d old new less are by =
    subst (λ ts. AreGiven ts new) (sym (texts_more files k d less)) (given_more (texts_of (take k files)) (get_or files k d).now old new are by)
