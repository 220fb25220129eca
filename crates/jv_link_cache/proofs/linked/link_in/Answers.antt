use Rattle.jv_link.specs.declared.site.Use.TheVariants.{Invokevirtual, Invokeinterface, Invokespecial}
use Rattle.jv_link_cache.specs.Inside.Classes.{IsEntry as IsClassEntry}
use Rattle.jv_link_cache.specs.Inside.Fields.{IsEntry as IsFieldEntry}
use Rattle.jv_link_cache.specs.Inside.Methods.{IsEntry as IsMethodEntry}
use Rattle.jv_link_cache.specs.Inside.Selections.{IsEntry as IsSelectionEntry}
use Rattle.std.proofs.Common.{None}
use Rattle.jv_link_cache.proofs.Rowed.{rows_begin}
use Rattle.jv_link_cache.proofs.linked.link_in.Goals as goal

pub returns : goal.returns
returns c =
    let world = c.args.table.now in
    record {
      classes = rows_begin (IsClassEntry world) None _ (λ number at. tt) c.in_ok-of_classes.ensures;
      fields = rows_begin (IsFieldEntry world) None _ (λ number at. tt) c.in_ok-of_fields.ensures;
      methods = rows_begin (IsMethodEntry world) None _ (λ number at. tt) c.in_ok-of_methods.ensures;
      virtuals = rows_begin (λ number at. IsSelectionEntry world Invokevirtual) None _ (λ number at. tt) c.in_ok-virtuals.ensures;
      interfaces = rows_begin (λ number at. IsSelectionEntry world Invokeinterface) None _ (λ number at. tt) c.in_ok-interfaces.ensures;
      specials = rows_begin (λ number at. IsSelectionEntry world Invokespecial) None _ (λ number at. tt) c.in_ok-specials.ensures;
      words = c.in_ok-words.ensures.words;
      statics = c.in_ok-words.ensures.statics;
      orders = c.in_ok-orders.ensures;
      tasks = c.in_ok-tasks.ensures;
      handlers = c.in_ok-handlers.ensures;
    }
