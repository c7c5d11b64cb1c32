use Rattle.slotted_check.proofs.Closings.{name-passed, head-passed, scope-passed, leave-passed, close-passed}
use Rattle.slotted_check.proofs.WalkSteps.{ok-map}
use Rattle.slotted_check.proofs.terms.pass.Goals as goal

pub returns-in-Name : goal.returns-in-Name
returns-in-Name c = rw c.in-Name.is (λ t ps h. name-passed c.args.open.now.items c.in-Name.field-0 ps (c.is_inside.ensures t) h)

pub returns-in-Head : goal.returns-in-Head
returns-in-Head c = rw c.in-Head.is (ok-map c.begin.result
    (λ b s t ps h. head-passed c.args.open.now.items c.begin.new.open.items c.in-Head.field-0 ps (s t).0 (s t).1 h) c.begin.ensures)

pub returns-in-Scope : goal.returns-in-Scope
returns-in-Scope c = rw c.in-Scope.is (ok-map c.begin-in-Scope.result
    (λ b s t ps h. scope-passed c.args.open.now.items c.begin-in-Scope.new.open.items ps (s t).0 (s t).1 h) c.begin-in-Scope.ensures)

pub returns-in-Leave : goal.returns-in-Leave
returns-in-Leave c = rw c.in-Leave.is (λ t ps h. leave-passed c.args.open.now.items c.end.new.open.items ps (c.end.ensures t) h)

pub returns-in-Close : goal.returns-in-Close
returns-in-Close c = rw c.in-Close.is (λ t ps h. close-passed c.args.open.now.items c.end-in-Close.new.open.items ps (c.end-in-Close.ensures t) h)
