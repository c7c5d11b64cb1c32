use Rattle.std.proofs.Common.{ap, sym, ◌∙◌}
use Rattle.std.specs.declared.num.ParseIntError.{ParseIntError}
use Rattle.slotted_lines.specs.Requests.{run_by}
use Rattle.slotted_lines.proofs.Lines.{number-not_read, number-read, run_is}
use Rattle.slotted_lines.proofs.request.Request.read_run.Goals as goal

pub returns-in-Ok : goal.returns-in-Ok
returns-in-Ok c =
    let text = c.args.text.now in
    sym (ap run_by (number-read ParseIntError text c.in-Ok.limit c.in-Ok.ensures.value.0)) ∙ run_is text

pub returns-in-Err : goal.returns-in-Err
returns-in-Err c =
    let text = c.args.text.now in
    sym (ap run_by (number-not_read text c.in-Err.field-0 c.in-Err.ensures.value.0)) ∙ run_is text
