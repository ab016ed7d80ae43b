use Rattle.std.proofs.Common.{ap, sym, inl}
use Rattle.recordings.specs.declared.error.RecordingError.TheVariants as fault
use Rattle.rec_format.proofs.table.new_format.Goals as goal

pub returns-then-not-is_system : goal.returns-then-not-is_system
returns-then-not-is_system c = λ other earlier here. inl (sym c.if-not-is_system.ensures, ap (λ n. fault.BadSystem n) (sym here))

pub returns-in_ok-with_layout-in-Ok : goal.returns-in_ok-with_layout-in-Ok
returns-in_ok-with_layout-in-Ok c = record {
  layout = c.in-Ok.layout;
  made = c.in_ok-with_layout-in-Ok.ensures;
  system = sym c.if-not-is_system.ensures;
  read = c.in-Ok.ensures.found;
}
