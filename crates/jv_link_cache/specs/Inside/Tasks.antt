-- What the initialization of each class does itself, one class behind the other (JVMS 5.5).
use Rattle.std.specs.Prelude.{◌≡◌, ℕ, List}
use Rattle.jv_meaning_world.specs.World.{Loaded, World}
use Rattle.jv_meaning_world.specs.Numbers.{HoldsAtNumber}
use Rattle.jv_link_cache.specs.declared.tasks.ClassTasks.{ClassTasks}
use Rattle.jv_link_cache.specs.Tasks.{settings_of, IsInitializer}
use Rattle.jv_link_cache.specs.Inside.Each.{Each}

pub record AreTasksOf (l : Loaded) (row : ClassTasks) : Type 0 where
  pub settings : row.settings.items ≡ settings_of l
  pub initializer : IsInitializer l row.initializer

abbrev pub AreTasksAt : World → ℕ → ClassTasks → Type 0
AreTasksAt world class row = HoldsAtNumber world class (λ l. AreTasksOf l row)

-- of so many classes
abbrev pub AreTasks : World → ℕ → List ClassTasks → Type 0
AreTasks world count rows = Each (AreTasksAt world) count rows
