-- The tasks of a class in their order, by the places of its fields with constants and the numbers of its supers (JVMS 5.5).
use Rattle.std.proofs.Common.{◌≡◌, ℕ, zero, suc, ◌+◌, ◌-◌, ◌≤◌, List, [], ◌∷◌, ◌++◌, Option, Some, None, drop, length, map, refl, sym, ap, subst, ◌∙◌, arith, slice_get}
use Rattle.std.specs.Prelude.{is_some, if◌then◌else◌}
use Rattle.std.specs.List.{filter_map, cons_option}
use Rattle.std.specs.Option.{option_map}
use Rattle.jv_class.specs.Class.{Field, InitialValue}
use Rattle.jv_meaning_world.specs.World.{Loaded, World}
use Rattle.jv_meaning_world.specs.LookUps.{field_by}
use Rattle.jv_meaning_world.specs.Numbers.{classes_at, AreNumbers}
use Rattle.jv_classes.proofs.Followed.{some_class}
use Rattle.jv_link_cache.specs.Tasks.{settings_from}
use Rattle.jv_meaning_machine.specs.Frames.{Task}
use Rattle.jv_meaning_machine.specs.Frames.Task.{SetsField}
use Rattle.jv_meaning_machine.specs.Initialization.{setting}

-- ---- lists

pub drop_behind : {A : Type 0} (xs ys : List A) (k : ℕ) → drop (length xs + k) (xs ++ ys) ≡ drop k ys
drop_behind [] ys k = let e : 0 + k ≡ k = omega arith in ap (λ n. drop n ys) e
drop_behind (x ∷ xs) ys k =
    let e : suc (length xs) + k ≡ suc (length xs + k) = omega arith in
    ap (λ n. drop n ((x ∷ xs) ++ ys)) e ∙ drop_behind xs ys k

pub map_dropped : {A B : Type 0} (f : A → B) (xs : List A) (k : ℕ) → drop k (map f xs) ≡ map f (drop k xs)
map_dropped f [] zero = refl
map_dropped f [] (suc k) = refl
map_dropped f (x ∷ xs) zero = refl
map_dropped f (x ∷ xs) (suc k) = map_dropped f xs k

-- ---- fields with constants

pub record SettingAt (l : Loaded) (fs : List Field) (start k p : ℕ) : Type 0 where
  pub f : Field
  pub constant : InitialValue
  pub low : start ≤ p
  pub at : slice_get fs (p - start) ≡ Some f
  pub initial : f.initial ≡ Some constant
  pub task : slice_get (filter_map (setting l) fs) k ≡ Some (SetsField (field_by l f) constant)

module _ (l : Loaded) where
  abbrev Again : Field → List Field → ℕ → Type 0
  Again f more start = (k p : ℕ) → slice_get (settings_from (start + 1) more) k ≡ Some p → SettingAt l more (start + 1) k p

  -- one field more in front, which has no constant or one
  passed :
      (f : Field) (more : List Field) (start k m p : ℕ) → SettingAt l more (start + 1) k p
      → ((task : Task) → slice_get (filter_map (setting l) more) k ≡ Some task → slice_get (filter_map (setting l) (f ∷ more)) m ≡ Some task)
      → SettingAt l (f ∷ more) start m p
  passed f more start k m p r leads =
      let low = r.low in
      let next : p - start ≡ suc (p - (start + 1)) = omega (arith, low) in
      record {
        f = r.f;
        constant = r.constant;
        low = omega (arith, low);
        at = ap (slice_get (f ∷ more)) next ∙ r.at;
        initial = r.initial;
        task = leads (SetsField (field_by l r.f) r.constant) r.task;
      }

  by_initial :
      (f : Field) (more : List Field) (start k p : ℕ) (o : Option InitialValue) → f.initial ≡ o
      → slice_get (if is_some o then start ∷ settings_from (start + 1) more else settings_from (start + 1) more) k ≡ Some p
      → Again f more start → SettingAt l (f ∷ more) start k p
  by_initial f more start k p None e at again =
      passed f more start k k p (again k p at)
      (λ task h. subst (λ (o : Option InitialValue). slice_get (cons_option (option_map (SetsField (field_by l f)) o) (filter_map (setting l) more)) k ≡ Some task) (sym e) h)
  by_initial f more start zero p (Some constant) e at again =
      let is : start ≡ p = same start p at in
      let none : p - start ≡ 0 = omega (arith, is) in
      record {
        f = f;
        constant = constant;
        low = omega (arith, is);
        at = ap (slice_get (f ∷ more)) none;
        initial = e;
        task = subst (λ (o : Option InitialValue). slice_get (cons_option (option_map (SetsField (field_by l f)) o) (filter_map (setting l) more)) 0 ≡
            Some (SetsField (field_by l f) constant)) (sym e) refl;
      }
    where
      same : (a b : ℕ) → Some a ≡ Some b → a ≡ b
      same a b e = cc
  by_initial f more start (suc k) p (Some constant) e at again =
      passed f more start k (suc k) p (again k p at)
      (λ task h. subst (λ (o : Option InitialValue). slice_get (cons_option (option_map (SetsField (field_by l f)) o) (filter_map (setting l) more)) (suc k) ≡ Some task) (sym e) h)

  pub setting_at : (fs : List Field) (start k p : ℕ) → slice_get (settings_from start fs) k ≡ Some p → SettingAt l fs start k p
  setting_at [] start zero p e = absurd cc
  setting_at [] start (suc k) p e = absurd cc
  setting_at (f ∷ more) start k p e = by_initial f more start k p f.initial refl e (λ k p at. setting_at more (start + 1) k p at)

  pub settings_count : (fs : List Field) (start : ℕ) → length (settings_from start fs) ≡ length (filter_map (setting l) fs)
  settings_count [] start = refl
  settings_count (f ∷ more) start = by_value f.initial (settings_count more (start + 1))
    where
      by_value :
          (o : Option InitialValue) → length (settings_from (start + 1) more) ≡ length (filter_map (setting l) more)
          → length (if is_some o then start ∷ settings_from (start + 1) more else settings_from (start + 1) more)
          ≡ length (cons_option (option_map (SetsField (field_by l f)) o) (filter_map (setting l) more))
      by_value None e = e
      by_value (Some constant) e = ap suc e

-- ---- classes by number

module _ (world : World) where
  pub classes_dropped : (numbers : List ℕ) (k : ℕ) → AreNumbers world numbers → drop k (classes_at world numbers) ≡ classes_at world (drop k numbers)
  classes_dropped [] zero all = refl
  classes_dropped [] (suc k) all = refl
  classes_dropped (n ∷ numbers) zero all = refl
  classes_dropped (n ∷ numbers) (suc k) all =
      let c = some_class world n (all 0 0 (omega arith)) in
      ap (λ o. drop (suc k) (cons_option o (classes_at world numbers))) c.1
      ∙ classes_dropped numbers k (λ i d h. all (suc i) d (omega (arith, h)))

  pub classes_count : (numbers : List ℕ) → AreNumbers world numbers → length (classes_at world numbers) ≡ length numbers
  classes_count [] all = refl
  classes_count (n ∷ numbers) all =
      let c = some_class world n (all 0 0 (omega arith)) in
      ap (λ o. length (cons_option o (classes_at world numbers))) c.1 ∙ ap suc (classes_count numbers (λ i d h. all (suc i) d (omega (arith, h))))
