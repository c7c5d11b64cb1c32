use Rattle.std.proofs.Common.{◌≤◌}
use Rattle.slotted_data.specs.Users.{EntersUsers}
use Rattle.slotted_data.proofs.users.enter_users.Given as goal

-- the classes so far are among the users of what their children find
abbrev pub invariant-loop-class : goal.invariant-loop-class
invariant-loop-class g l = record {
  enters : EntersUsers l.store l.fn.data.entered l.class l.fn.nodes l.nodes l.fn.data l.data;
  from : l.fn.data.entered ≤ l.class;
  within : l.class ≤ l.class-end;
}
