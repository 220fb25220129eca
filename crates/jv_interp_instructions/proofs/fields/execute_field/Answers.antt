use Rattle.jv_interp_instructions.proofs.fields.execute_field.Goals as goal

pub returns-in-GetStatic-clause-done : goal.returns-in-GetStatic-clause-done
returns-in-GetStatic-clause-done g c = rw c.in-GetStatic.is c.execute_getstatic.ensures.done

pub returns-in-PutStatic-clause-done : goal.returns-in-PutStatic-clause-done
returns-in-PutStatic-clause-done g c = rw c.in-PutStatic.is c.execute_putstatic.ensures.done

pub returns-in-GetField-clause-done : goal.returns-in-GetField-clause-done
returns-in-GetField-clause-done g c = rw c.in-GetField.is c.execute_getfield.ensures.done

pub returns-in-PutField-clause-done : goal.returns-in-PutField-clause-done
returns-in-PutField-clause-done g c = rw c.in-PutField.is c.execute_putfield.ensures.done
