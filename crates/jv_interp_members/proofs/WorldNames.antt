-- The classes in the world of a guest's files behind a library have names of their own (JVMS 5.3).
use Rattle.std.proofs.Common.{◌≡◌, inl, inr, ℕ, Bool, true, false, not, ◌&&◌, ◌||◌, List, [], ◌∷◌, ◌++◌, map, refl, sym, ap, subst, ◌∙◌, if◌then◌else◌}
use Rattle.std.specs.Prelude.{⊤}
use Rattle.std.specs.List.{Contains}
use Rattle.std.specs.Str.{bytes_eq}
use Rattle.std.proofs.lemmas.List.Elements.{Contains-append_cases}
use Rattle.std.proofs.lemmas.Slice.Eq.{bytes_eq-Decides}
use Rattle.jv_class.specs.Class.{Class}
use Rattle.jv_meaning_world.specs.FileContent.{FileContent}
use Rattle.jv_meaning_world.specs.declared.content.Content.TheVariants.{OtherVersion, NoClassFile, MoreThanProfile, Holds}
use Rattle.jv_meaning_world.specs.Library.{front_of, system_with, with_class_more, with_library}
use Rattle.jv_meaning_world.specs.World.{Loaded, loaded, is_reserved, has_class, with_class_of, joined_all, classes_in, world_of}
use Rattle.jv_meaning_world.proofs.Libraries.{not_of_system, system_reserved}
use Rattle.jv_meaning_world.proofs.Up.{none, single, first, later}
use Rattle.jv_meaning_typing.proofs.Found.{split}

-- ---- each of them once

abbrev pub HaveOwnNames : List Loaded → Type 0
HaveOwnNames [] = ⊤
HaveOwnNames (l ∷ ls) = ((other : Loaded) → Contains ls other → other.class.name ≡ l.class.name → ⊥) × HaveOwnNames ls

abbrev AreOnce : List Class → Type 0
AreOnce [] = ⊤
AreOnce (c ∷ cs) = ((other : Class) → Contains cs other → other.name ≡ c.name → ⊥) × AreOnce cs

clash : {A : Type 0} → true ≡ false → A
clash e = absurd cc

both : (a b : Bool) → (a && b) ≡ true → (a ≡ true) × (b ≡ true)
both true b e = (refl, e)
both false b e = absurd cc

is_false : (b : Bool) → not b ≡ true → b ≡ false
is_false true e = absurd cc
is_false false e = refl

neither : (a b : Bool) → (a || b) ≡ false → (a ≡ false) × (b ≡ false)
neither true b e = absurd cc
neither false b e = (refl, e)

-- a name that none has is of none
not_among : (cs : List Class) (name : List ℕ) → has_class cs name ≡ false → (c : Class) → Contains cs c → c.name ≡ name → ⊥
not_among [] name e c h same = none c h
not_among (x ∷ cs) name e c h same =
    let parts = neither (bytes_eq x.name name) (has_class cs name) e in
    elim (split x cs c h) [
      | inl is ↦ clash (sym ((bytes_eq-Decides x.name name).1 (ap (λ (y : Class). y.name) is ∙ same)) ∙ parts.0)
      | inr k ↦ not_among cs name parts.1 c k same
    ]

joined_once : (cs : List Class) (c : Class) → AreOnce cs → has_class cs c.name ≡ false → AreOnce (cs ++ c ∷ [])
joined_once [] c once new = ((λ other h same. none other h), tt)
joined_once (x ∷ cs) c once new =
    let parts = neither (bytes_eq x.name c.name) (has_class cs c.name) new in (
      (λ other h same.
          elim (Contains-append_cases cs (c ∷ []) other h) [
            | inl k ↦ once.0 other k same
            | inr k ↦
                clash (sym ((bytes_eq-Decides x.name c.name).1 (sym same ∙ ap (λ (y : Class). y.name) (sym (single c other k)))) ∙ parts.0)
          ]),
      joined_once cs c once.1 parts.1,
    )

-- ---- those in front and those of a guest's files: no class of the system has their names

module _ (library : List Class) where
  record AreOwn (cs : List Class) : Type 0 where
    once : AreOnce cs
    free : (c : Class) → Contains cs c → has_class (system_with library) c.name ≡ false

  no_classes : AreOwn []
  no_classes = record { once = tt; free = λ c h. absurd (none c h) }

  one_more : (cs : List Class) (c : Class) → AreOwn cs → has_class (system_with library) c.name ≡ false → has_class cs c.name ≡ false → AreOwn (cs ++ c ∷ [])
  one_more cs c own free new = record {
    once = joined_once cs c own.once new;
    free =
        λ other h.
        elim (Contains-append_cases cs (c ∷ []) other h) [
          | inl k ↦ own.free other k
          | inr k ↦ subst (λ (y : Class). has_class (system_with library) y.name ≡ false) (single c other k) free
        ];
  }

  with_front : (front : List Class) (c : Class) → AreOwn front → AreOwn (with_class_more library front c)
  with_front front c own = by_test (has_class (system_with library) c.name) (has_class front c.name) refl refl
    where
      by_test :
          (a b : Bool) → has_class (system_with library) c.name ≡ a → has_class front c.name ≡ b → AreOwn (if a || b then front else front ++ c ∷ [])
      by_test true b e k = own
      by_test false true e k = own
      by_test false false e k = one_more front c own e k

  all_front : (front classes : List Class) → AreOwn front → AreOwn (front_of library front classes)
  all_front front [] own = own
  all_front front (c ∷ classes) own = all_front (with_class_more library front c) classes (with_front front c own)

  with_one : (cs : List Class) (file : FileContent) → AreOwn cs → AreOwn (with_class_of cs file)
  with_one cs OtherVersion own = own
  with_one cs NoClassFile own = own
  with_one cs MoreThanProfile own = own
  with_one cs (Holds c) own = by_test (is_reserved c.name) (has_class cs c.name) refl refl
    where
      by_test : (a b : Bool) → is_reserved c.name ≡ a → has_class cs c.name ≡ b → AreOwn (if a || b then cs else cs ++ c ∷ [])
      by_test true b e k = own
      by_test false true e k = own
      by_test false false e k = one_more cs c own (not_of_system (system_with library) c.name (system_reserved library) e) k

  all_own : (cs : List Class) (files : List FileContent) → AreOwn cs → AreOwn (joined_all cs files)
  all_own cs [] own = own
  all_own cs (file ∷ files) own = all_own (with_class_of cs file) files (with_one cs file own)

-- ---- the system's, computed

differ : List Class → Bool
differ [] = true
differ (c ∷ cs) = not (has_class cs c.name) && differ cs

differ_once : (cs : List Class) → differ cs ≡ true → AreOnce cs
unfolding differ
differ_once [] e = tt
differ_once (c ∷ cs) e =
    let parts = both (not (has_class cs c.name)) (differ cs) e in
    (not_among cs c.name (is_false (has_class cs c.name) parts.0), differ_once cs parts.1)

system_once : (library : List Class) → AreOnce (system_with library)
unfolding differ
system_once [] = differ_once (system_with []) refl
system_once (c ∷ library) = differ_once (system_with (c ∷ library)) refl

-- ---- both

pub in_loaded :
    (by_system : Bool) (cs : List Class) (l : Loaded) → Contains (map (loaded by_system) cs) l → (c : Class) × Contains cs c × (loaded by_system c ≡ l)
in_loaded by_system [] l h = absurd (none l h)
in_loaded by_system (c ∷ cs) l h =
    elim (split (loaded by_system c) (map (loaded by_system) cs) l h) [
      | inl is ↦ (c, first c cs, is)
      | inr k ↦ let found = in_loaded by_system cs l k in (found.0, later c cs found.0 found.1, found.2)
    ]

loaded_own : (by_system : Bool) (cs : List Class) → AreOnce cs → HaveOwnNames (map (loaded by_system) cs)
loaded_own by_system [] once = tt
loaded_own by_system (c ∷ cs) once = (
  (λ other h same.
      let found = in_loaded by_system cs other h in
      once.0 found.0 found.1 (ap (λ (l : Loaded). l.class.name) found.2 ∙ same)),
  loaded_own by_system cs once.1,
)

own_append :
    (xs ys : List Loaded) → HaveOwnNames xs → HaveOwnNames ys
    → ((x y : Loaded) → Contains xs x → Contains ys y → y.class.name ≡ x.class.name → ⊥) → HaveOwnNames (xs ++ ys)
own_append [] ys own more apart = more
own_append (x ∷ xs) ys own more apart = (
  (λ other h same.
      elim (Contains-append_cases xs ys other h) [
        | inl k ↦ own.0 other k same
        | inr k ↦ apart x other (first x xs) k same
      ]),
  own_append xs ys own.1 more (λ z y h k. apart z y (later x xs z h) k),
)

-- a class stands under its name
has_itself : (cs : List Class) (c : Class) → Contains cs c → has_class cs c.name ≡ true
has_itself [] c h = absurd (none c h)
has_itself (x ∷ cs) c h =
    elim (split x cs c h) [
      | inl is ↦
          ap (λ (b : Bool). b || has_class cs c.name) ((bytes_eq-Decides x.name c.name).1 (ap (λ (y : Class). y.name) is))
      | inr k ↦ behind (bytes_eq x.name c.name) (has_itself cs c k)
    ]
  where
    behind : (b : Bool) → has_class cs c.name ≡ true → (b || has_class cs c.name) ≡ true
    behind true e = refl
    behind false e = e

pub names_differ : (library : List Class) (contents : List FileContent) → HaveOwnNames (world_of (with_library library) contents)
names_differ library contents =
    let own = all_own library (with_library library).front contents (all_front library [] library (no_classes library)) in
    own_append (map (loaded true) (system_with library)) (map (loaded false) (classes_in (with_library library) contents))
    (loaded_own true (system_with library) (system_once library)) (loaded_own false (classes_in (with_library library) contents) own.once)
    (λ x y h k same.
    let c = in_loaded true (system_with library) x h in
    let d = in_loaded false (classes_in (with_library library) contents) y k in
    let same_name : c.0.name ≡ d.0.name =
    ap (λ (l : Loaded). l.class.name) c.2 ∙ sym same ∙ ap (λ (l : Loaded). l.class.name) (sym d.2) in
    clash (sym (has_itself (system_with library) c.0 c.1) ∙ ap (has_class (system_with library)) same_name ∙ own.free d.0 d.1))
