-- The parts of the line are those of the entry.
use Rattle.std.proofs.Common.{◌≡◌, ◌∙◌, ℕ, List, [], ◌∷◌, ◌++◌, codes, decimal, Option, ap, subst, refl, string_bytes}
use Rattle.std.specs.Prelude.{IfSome}
use Rattle.slotted_model.specs.ProofList.{Step}
use Rattle.slotted_proofs.specs.Entries.{Proven, proven_at, step_of, text_of}
use Rattle.slotted_proofs.specs.Reasons.{reason_text}
use Rattle.slotted_graph.specs.Image.{Image}
use Rattle.slotted_explain.specs.Printed.{IsLine}
use Rattle.slotted_explain.proofs.print.push_line.Goals as goal

pub returns-clause-line : goal.returns-clause-line
returns-clause-line g c =
    let graph = c.args.graph.now in
    let p = c.args.p in
    let lines = c.args.lines.now in
    let one = c.in_ok-sides.ensures in
    let stored : c.proofs.result.now ≡ graph.image.stored = c.proofs.ensures.list ∙ ap (λ (x : Image). x.stored) one.takes.reads.image in
    let bytes = string_bytes c.in_ok-reason.reason in
    let step : step_of c.proof.result.now ≡ (proven_at graph.image.stored p).step = c.proof.ensures.step ∙ ap (λ (ps : List Proven). (proven_at ps p).step) stored in
    let text : text_of c.proof.result.now ≡ (proven_at graph.image.stored p).text = c.proof.ensures.text ∙ ap (λ (ps : List Proven). (proven_at ps p).text) stored in
    let by_step = subst (λ (s : Step). IfSome (reason_text lines s (text_of c.proof.result.now)) (λ r. bytes ≡ r)) step c.in_ok-reason.ensures.ok in
    let by_text = subst (λ (o : Option (List ℕ)). IfSome (reason_text lines (proven_at graph.image.stored p).step o) (λ r. bytes ≡ r)) text by_step in
    let bs = decimal c.args.i ++ (codes ": " ++ (string_bytes c.in_ok-sides.sides ++ (codes " by " ++ (bytes ++ 10 ∷ [])))) in
    let line : IsLine g.L.Printable.written graph c.sides_text.new.graph lines c.args.i p bs = record {
      sides = string_bytes c.in_ok-sides.sides;
      sides_are = one.text;
      reason = bytes;
      reason_is = by_text;
      bytes = refl;
    } in
    (bs, line, c.in_ok-writeln.ensures.bytes)
