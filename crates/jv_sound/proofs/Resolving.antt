-- Classes that references name, and what is found from them (JVMS 5.4.3).
use Rattle.std.proofs.Common.{◌≡◌, inl, inr, ℕ, Bool, true, false, List, Option, Some, None, Ok, Err, refl, sym, ap, subst, ◌∙◌}
use Rattle.std.specs.Prelude.{IsTrue, if◌then◌else◌}
use Rattle.std.specs.Option.{ok_or}
use Rattle.std.specs.Str.{bytes_eq}
use Rattle.std.specs.Cmp.Lexicographic.{nat_list_eq_equiv}
use Rattle.jv_text.specs.Name.{is_array_name}
use Rattle.jv_text.specs.Types.{field_type_of}
use Rattle.jv_stackmap.specs.declared.verification.VerificationTypeOf.TheVariants as types
use Rattle.jv_pool.specs.Constants.{MemberReference}
use Rattle.jv_meaning_world.specs.World.{Loaded, World, class_named, can_name}
use Rattle.jv_meaning_world.specs.Above.{above}
use Rattle.jv_meaning_world.specs.Laws.Above.{SystemStandsAlone}
use Rattle.jv_meaning_world.specs.Verdicts.{is_loadable}
use Rattle.jv_meaning_world.proofs.Up.{named_stands, above_by_ways, above_is_transitive}
use Rattle.jv_meaning_world.proofs.Standing.{loadable_by_all}
use Rattle.jv_meaning_typing.specs.LinkErrors as link
use Rattle.jv_meaning_typing.specs.LinkErrors.{LinkError, OrError, provided, unless_wrong}
use Rattle.jv_meaning_typing.specs.LinkErrors.LinkError.{NoClassDefFoundError, IllegalAccessError}
use Rattle.jv_meaning_typing.specs.ClassResolution.{error_of_class, resolve_name, member_class}
use Rattle.jv_meaning_typing.specs.ClassResolution.ResolvedClass.{ClassOf}
use Rattle.jv_meaning_typing.specs.LinkingLaws.{IsAtOrAbove, IsNamed}
use Rattle.jv_meaning_typing.proofs.Loading.{loadable_resolves}
use Rattle.jv_meaning_world.proofs.Up.{has_name}
use Rattle.jv_meaning_world.proofs.OrderChains.{any_made}
use Rattle.jv_meaning_world.proofs.Order.{below_is_reflexive}
use Rattle.jv_meaning_world.proofs.OrderAbove.{above_is_below}
use Rattle.jv_meaning_world.specs.Laws.Order.{IsBelow, IsRooted}
use Rattle.jv_sound.proofs.Subtypes.{above_is_named}
use Rattle.jv_sound.proofs.Logic.{clash}

-- ---- the class that a reference names

pub record IsResolved (world : World) (name : List ℕ) (l : Loaded) : Type 0 where
  pub named : class_named world name ≡ Some l
  pub right : error_of_class world l ≡ None

pub resolved : (world : World) (current : Loaded) (name : List ℕ) (l : Loaded) → resolve_name world current name ≡ Ok l
    → IsResolved world name l
resolved world current name l e = by_class (class_named world name) refl e
  where
    by_access : (b : Bool) (c : Loaded) → provided b IllegalAccessError c ≡ Ok l → c ≡ l
    by_access true c k = cc
    by_access false c k = absurd cc

    by_error : (c : Loaded) (o : Option LinkError) → error_of_class world c ≡ o → class_named world name ≡ Some c
        → link.◌>>=◌ (unless_wrong o c) (λ l. provided (can_name current l) IllegalAccessError l) ≡ Ok l → IsResolved world name l
    by_error c None r n k = let s : c ≡ l = by_access (can_name current c) c k in subst (λ (x : Loaded). IsResolved world name x) s
        (record { named = n; right = r })
    by_error c (Some x) r n k = absurd cc

    by_class : (o : Option Loaded) → class_named world name ≡ o
        → link.◌>>=◌ (link.◌>>=◌ (ok_or o NoClassDefFoundError) (λ l. unless_wrong (error_of_class world l) l))
        (λ l. provided (can_name current l) IllegalAccessError l) ≡ Ok l
        → IsResolved world name l
    by_class None n k = absurd cc
    by_class (Some c) n k = by_error c (error_of_class world c) refl n k

abbrev fine : Loaded → OrError Loaded
fine l = Ok l

pub named_class : (world : World) (current : Loaded) (reference : MemberReference) (error : LinkError) (named : Loaded)
    → is_array_name reference.class ≡ false → IsNamed world current reference error named
    → IsResolved world reference.class named
named_class world current reference error named plain h = by_array (is_array_name reference.class) plain h
  where
    by_name : (r : OrError Loaded) → (resolve_name world current reference.class ≡ r)
        → link.◌>>=◌ (link.◌>>=◌ r (λ l. Ok (ClassOf l))) (λ c. ok_or (member_class world c) error) ≡ Ok named
        → IsResolved world reference.class named
    by_name (Ok l) e k = let s : l ≡ named = cc in resolved world current reference.class named (e ∙ ap (λ (x : Loaded). fine x) s)
    by_name (Err x) e k = absurd cc

    by_array : (b : Bool) → b ≡ false
        → link.◌>>=◌ (if b then Rattle.jv_meaning_typing.specs.ClassResolution.resolve_array world current
        (field_type_of reference.class) else link.◌>>=◌ (resolve_name world current reference.class) (λ l. Ok (ClassOf l)))
        (λ c. ok_or (member_class world c) error) ≡ Ok named
        → IsResolved world reference.class named
    by_array true e k = absurd (clash (sym e))
    by_array false e k = by_name (resolve_name world current reference.class) refl k

-- a class is below each that declares what is found from it
pub below_declaring : (world : World) → IsRooted world → (named by : Loaded) → class_named world named.class.name ≡ Some named
    → IsTrue (is_loadable world named) → IsAtOrAbove world named by
    → (class_named world by.class.name ≡ Some by) × IsBelow world (types.Class named.class.name) (types.Class by.class.name)
below_declaring world rooted named by e loadable (inl s) = (
  subst (λ (x : Loaded). class_named world x.class.name ≡ Some x) (sym s) e,
  subst (λ (x : Loaded). IsBelow world (types.Class named.class.name) (types.Class x.class.name)) (sym s)
      (below_is_reflexive world (types.Class named.class.name)),
)
below_declaring world rooted named by e loadable (inr h) = (
  above_is_named world named.class by h,
  above_is_below world rooted named.class.name by.class.name named e loadable
      (any_made (λ (s : Loaded). bytes_eq s.class.name by.class.name) (above world named.class) by h (nat_list_eq_equiv.refl by.class.name)),
)

-- a class that a reference names can be loaded, and is found by its own name
pub record IsNamedClass (world : World) (text : List ℕ) (l : Loaded) : Type 0 where
  pub name : l.class.name ≡ text
  pub there : class_named world l.class.name ≡ Some l
  pub loadable : IsTrue (is_loadable world l)

pub resolved_class : (world : World) → SystemStandsAlone world → (name : List ℕ) (l : Loaded) → IsResolved world name l
    → IsNamedClass world name l
resolved_class world alone name l r =
    let own : l.class.name ≡ name = has_name world name l r.named in
    record {
      name = own;
      there = ap (class_named world) own ∙ r.named;
      loadable = (loadable_resolves above_by_ways above_is_transitive loadable_by_all world l alone
          (named_stands world name l r.named)).0 r.right;
    }
