-- What is known of the linking of a guest's classes (JVMS 5.4), once it was asked.
use Rattle.std.specs.Prelude.{◌≡◌, length}
use Rattle.jv_meaning_world.specs.World.{World}
use Rattle.jv_link.specs.declared.site.Use.TheVariants.{Invokevirtual, Invokeinterface, Invokespecial}
use Rattle.jv_link_cache.specs.declared.linked.Linked.{Linked}
use Rattle.jv_link_cache.specs.Inside.Classes.{IsEntry as IsClassEntry}
use Rattle.jv_link_cache.specs.Inside.Fields.{IsEntry as IsFieldEntry}
use Rattle.jv_link_cache.specs.Inside.Handlers.{AreHandlers}
use Rattle.jv_link_cache.specs.Inside.Methods.{IsEntry as IsMethodEntry}
use Rattle.jv_link_cache.specs.Inside.Orders.{AreOrders}
use Rattle.jv_link_cache.specs.Inside.Tasks.{AreTasks}
use Rattle.jv_link_cache.specs.Inside.Words.{static_end, AreWords}
use Rattle.jv_link_cache.specs.Inside.Rows.{AreRows}
use Rattle.jv_link_cache.specs.Inside.Selections.{AreSelections}

-- it is of the classes of this world: what it knows of classes, of fields, of methods and of the methods that calls run is right there, and
-- so are the words of the fields, the orders and the tasks of initialization, and what handlers catch
pub record IsLinked (world : World) (linked : Linked) : Type 0 where
  pub classes : AreRows (IsClassEntry world) linked.classes.items
  pub fields : AreRows (IsFieldEntry world) linked.fields.items
  pub methods : AreRows (IsMethodEntry world) linked.methods.items
  pub virtuals : AreSelections world Invokevirtual linked.virtuals.items
  pub interfaces : AreSelections world Invokeinterface linked.interfaces.items
  pub specials : AreSelections world Invokespecial linked.specials.items
  pub words : AreWords world linked.words.items
  pub statics : linked.statics ≡ static_end world 0 world
  pub orders : AreOrders world (length world) linked.orders.items
  pub tasks : AreTasks world (length world) linked.tasks.items
  pub handlers : AreHandlers world linked.handlers.ranks.items (length world) linked.handlers.rows.items
