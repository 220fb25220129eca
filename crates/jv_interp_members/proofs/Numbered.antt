-- Methods that get numbers one behind the other.
use Rattle.std.proofs.Common.{◌≡◌, ℕ, zero, suc, ◌+◌, ◌<◌, ◌≤◌, List, [], ◌∷◌, ◌++◌, length, map, Option, Some, None, refl, sym, ap, ◌∙◌, subst, arith, take, slice_get, length-append, append_assoc}
use Rattle.std.specs.Prelude.{All}
use Rattle.std.specs.Option.{option_map}
use Rattle.std.proofs.Math.Seq.{take-suc}
use Rattle.std.proofs.lemmas.List.{map-append, length-map}
use Rattle.std.proofs.lemmas.List.Elements.{All-append}
use Rattle.std.proofs.lemmas.Option.{slice_get-map, slice_get-get_or, slice_get_within, get_or_from_slice_get}
use Rattle.jv_class.specs.Class.{Method}
use Rattle.jv_meaning_world.specs.World.{Loaded, World}
use Rattle.jv_meaning_world.specs.Overriding.{Declared}
use Rattle.jv_meaning_world.specs.Verdicts.{declared_by}
use Rattle.jv_format.specs.Format.{◌>>=◌}
use Rattle.jv_lookups.specs.declared.place.Place.{Place}
use Rattle.jv_lookups.specs.Places.{method_of, method_at}
use Rattle.jv_link_cache.specs.Bodies.{IsBody}
use Rattle.jv_interp_words.specs.FramesInWords.{methods_of}
use Rattle.jv_interp_members.specs.declared.methods.MethodRow.{MethodRow}
use Rattle.jv_interp_members.specs.declared.methods.Methods.{Methods}
use Rattle.jv_interp_members.specs.Inside.Counted.{own_methods, firsts_from}
use Rattle.jv_interp_members.specs.Methods.{method_in, HasBody, HasItsCode, IsRowOf, known, AreRows, AreMethods}

some_same : {A : Type 0} → {x y : A} → Some x ≡ Some y → x ≡ y
some_same e = cc

-- ---- rows

module _ (world : World) where
  has_one : (row : MethodRow) (d : Declared) → method_in world row ≡ Some d → IsBody d.method row.body → All (HasBody world) (row ∷ [])
  has_one row d at body zero default less e at_e = subst (λ (x : Declared). IsBody x.method row.body) (some_same (sym at ∙ at_e)) body
  has_one row d at body (suc k) default less e at_e = absurd (omega (arith, less))

  has_one_code : (row : MethodRow) → HasItsCode row → All HasItsCode (row ∷ [])
  has_one_code row h zero default less = h
  has_one_code row h (suc k) default less = absurd (omega (arith, less))

  pub row_joins :
      (methods : List Declared) (rows : List MethodRow) (d : Declared) (row : MethodRow) → AreRows world methods rows
      → method_in world row ≡ Some d → IsBody d.method row.body → HasItsCode row → AreRows world (methods ++ d ∷ []) (rows ++ row ∷ [])
  row_joins methods rows d row h at body code = record {
    places =
        map-append (method_in world) rows (row ∷ []) ∙ ap (λ (l : List (Option Declared)). l ++ method_in world row ∷ []) h.places
        ∙ ap (λ (o : Option Declared). map known methods ++ o ∷ []) at ∙ sym (map-append known methods (d ∷ []));
    bodies = All-append (HasBody world) rows (row ∷ []) h.bodies (has_one row d at body);
    codes = All-append HasItsCode rows (row ∷ []) h.codes (has_one_code row code);
  }

  -- the method at a place of a class
  pub own_at :
      (class member : ℕ) (l : Loaded) → slice_get world class ≡ Some l → member < length l.class.methods
      → (d : Declared) × (method_at world (record { class = class; member = member }) ≡ Some d) × (slice_get (own_methods l) member ≡ Some d)
  own_at class member l at less = by_method (slice_get l.class.methods member) refl
    where
      by_method :
          (o : Option Method) → slice_get l.class.methods member ≡ o
          → (d : Declared) × (method_at world (record { class = class; member = member }) ≡ Some d) × (slice_get (own_methods l) member ≡ Some d)
      by_method None e =
          absurd (none (sym (slice_get-get_or l.class.methods member (record { access_flags = 0; name = []; descriptor = []; code = None }) less) ∙ e))
        where
          none : {m : Method} → Some m ≡ None → ⊥
          none e = cc
      by_method (Some m) e = (
        declared_by l m,
        ap (λ (o : Option Loaded). o >>= method_of member) at ∙ ap (option_map (declared_by l)) e,
        slice_get-map (declared_by l) l.class.methods member ∙ ap (option_map (declared_by l)) e,
      )

  one_more : (k : ℕ) → k + 1 ≡ suc k
  one_more k = omega arith

  pub own_joins :
      (methods : List Declared) (rows : List MethodRow) (l : Loaded) (class member : ℕ) (row : MethodRow) → slice_get world class ≡ Some l
      → member < length l.class.methods → AreRows world (methods ++ take member (own_methods l)) rows
      → row.place ≡ record { class = class; member = member } → ((d : Declared) → method_in world row ≡ Some d → IsBody d.method row.body) → HasItsCode row
      → AreRows world (methods ++ take (member + 1) (own_methods l)) (rows ++ row ∷ [])
  own_joins methods rows l class member row at less h place body code =
      let own = own_at class member l at less in
      let here : method_in world row ≡ Some own.0 = ap (method_at world) place ∙ own.1 in
      let within : member < length (own_methods l) = slice_get_within (own_methods l) member own.0 own.2 in
      let longer : take (member + 1) (own_methods l) ≡ take member (own_methods l) ++ own.0 ∷ [] =
      ap (λ (n : ℕ). take n (own_methods l)) (one_more member) ∙ take-suc (own_methods l) member own.0 within
      ∙ ap (λ (d : Declared). take member (own_methods l) ++ d ∷ []) (get_or_from_slice_get (own_methods l) member own.0 own.0 own.2) in
      let joined : methods ++ take (member + 1) (own_methods l) ≡ (methods ++ take member (own_methods l)) ++ own.0 ∷ [] =
      ap (λ (ds : List Declared). methods ++ ds) longer ∙ sym (append_assoc methods (take member (own_methods l)) (own.0 ∷ [])) in
      subst (λ (ds : List Declared). AreRows world ds (rows ++ row ∷ [])) (sym joined)
      (row_joins (methods ++ take member (own_methods l)) rows own.0 row h here (body own.0 here) code)

-- ---- firsts

pub first_at :
    (number : ℕ) (world : World) (class : ℕ) (l : Loaded) → slice_get world class ≡ Some l
    → slice_get (firsts_from number world) class ≡ Some (number + length (methods_of (take class world)))
unfolding firsts_from
first_at number [] class l e = absurd cc
first_at number (m ∷ more) zero l e = ap Some (omega arith)
first_at number (m ∷ more) (suc class) l e =
    first_at (number + length m.class.methods) more class l e ∙ ap Some (longer (methods_of (take class more)))
  where
    longer : (ds : List Declared) → number + length m.class.methods + length ds ≡ number + length (own_methods m ++ ds)
    longer ds =
        let a = length-append (own_methods m) ds in let b = length-map m.class.methods (declared_by m) in omega (arith, a, b)

-- ---- a method's number

pub number_at :
    (world : World) (class member : ℕ) (l : Loaded) (d : Declared) → slice_get world class ≡ Some l → slice_get (own_methods l) member ≡ Some d
    → slice_get (methods_of world) (length (methods_of (take class world)) + member) ≡ Some d
number_at [] class member l d at e = absurd cc
number_at (m ∷ more) zero member l d at e =
    ap (slice_get (own_methods m ++ methods_of more)) zero_more
    ∙ in_front (own_methods m) (methods_of more) member d (subst (λ (x : Loaded). slice_get (own_methods x) member ≡ Some d) (sym (some_same at)) e)
  where
    zero_more : 0 + member ≡ member
    zero_more = omega arith

    in_front : (xs ys : List Declared) (k : ℕ) (x : Declared) → slice_get xs k ≡ Some x → slice_get (xs ++ ys) k ≡ Some x
    in_front [] ys k x h = absurd cc
    in_front (y ∷ xs) ys zero x h = h
    in_front (y ∷ xs) ys (suc k) x h = in_front xs ys k x h
number_at (m ∷ more) (suc class) member l d at e =
    ap (slice_get (own_methods m ++ methods_of more)) (place_is (methods_of (take class more)))
    ∙ behind (own_methods m) (methods_of more) (length (methods_of (take class more)) + member) ∙ number_at more class member l d at e
  where
    place_is :
        (ds : List Declared) → length (own_methods m ++ ds) + member ≡ length (own_methods m) + (length ds + member)
    place_is ds = let a = length-append (own_methods m) ds in omega (arith, a)

    zero_more : (k : ℕ) → 0 + k ≡ k
    zero_more k = omega arith

    next_is : (n k : ℕ) → suc n + k ≡ suc (n + k)
    next_is n k = omega arith

    behind : (xs ys : List Declared) (k : ℕ) → slice_get (xs ++ ys) (length xs + k) ≡ slice_get ys k
    behind [] ys k = ap (slice_get ys) (zero_more k)
    behind (x ∷ xs) ys k = ap (slice_get (x ∷ (xs ++ ys))) (next_is (length xs) k) ∙ behind xs ys k

pub numbered :
    (world : World) (methods : Methods) (place : Place) (d : Declared) (first number : ℕ) → AreMethods world methods
    → method_at world place ≡ Some d → slice_get methods.firsts.items place.class ≡ Some first
    → (first + place.member < length methods.rows.items → length methods.rows.items ≤ 4294967295 → number ≡ first + place.member)
    → slice_get (methods_of world) number ≡ Some d
numbered world methods place d first number h at first_is is = by_class (slice_get world place.class) refl at
  where
    count : length methods.rows.items ≡ length (methods_of world)
    count = sym (length-map methods.rows.items (method_in world)) ∙ ap length h.rows.places ∙ length-map (methods_of world) known

    by_class : (o : Option Loaded) → slice_get world place.class ≡ o → (o >>= method_of place.member) ≡ Some d → slice_get (methods_of world) number ≡ Some d
    by_class None e found = absurd cc
    by_class (Some l) e found =
        let own : slice_get (own_methods l) place.member ≡ Some d = slice_get-map (declared_by l) l.class.methods place.member ∙ found in
        let there = number_at world place.class place.member l d e own in
        let same : first ≡ length (methods_of (take place.class world)) = some_same (sym first_is ∙ h.firsts place.class l e) in
        let here : slice_get (methods_of world) (first + place.member) ≡ Some d =
        ap (λ (n : ℕ). slice_get (methods_of world) (n + place.member)) same ∙ there in
        let within : first + place.member < length methods.rows.items =
        subst (λ (n : ℕ). first + place.member < n) (sym count) (slice_get_within (methods_of world) (first + place.member) d here) in
        ap (slice_get (methods_of world)) (is within h.few) ∙ here

-- a class's first method has a number
pub no_first :
    (world : World) (methods : Methods) (place : Place) (d : Declared) → AreMethods world methods → method_at world place ≡ Some d
    → place.class < length methods.firsts.items
no_first world methods place d h at = by_class (slice_get world place.class) refl at
  where
    by_class : (o : Option Loaded) → slice_get world place.class ≡ o → (o >>= method_of place.member) ≡ Some d → place.class < length methods.firsts.items
    by_class None e found = absurd cc
    by_class (Some l) e found =
        slice_get_within methods.firsts.items place.class (length (methods_of (take place.class world))) (h.firsts place.class l e)

-- ---- the method with a number

pub row_of :
    (world : World) (methods : Methods) (number : ℕ) (d : Declared) (row : MethodRow) → AreMethods world methods
    → slice_get (methods_of world) number ≡ Some d → slice_get methods.rows.items number ≡ Some row → IsRowOf world d row
row_of world methods number d row h at is =
    let here : method_in world row ≡ Some d =
    some_same (sym (slice_get-map (method_in world) methods.rows.items number ∙ ap (option_map (method_in world)) is)
    ∙ ap (λ (l : List (Option Declared)). slice_get l number) h.rows.places
    ∙ slice_get-map known (methods_of world) number ∙ ap (option_map known) at) in
    let less = slice_get_within methods.rows.items number row is in
    let body = h.rows.bodies number row less in
    record {
      place = here;
      body =
          subst (λ (r : MethodRow). HasBody world r) (get_or_from_slice_get methods.rows.items number row row is) body d here;
      code =
          subst (λ (r : MethodRow). HasItsCode r) (get_or_from_slice_get methods.rows.items number row row is)
          (h.rows.codes number row less);
    }
