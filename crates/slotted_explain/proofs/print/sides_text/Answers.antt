-- Both sides are valid ids.
use Rattle.std.proofs.Common.{◌∙◌, List, ap, sym, subst, inl, inr, rules, string_bytes}
use Rattle.slotted_model.specs.Classes.{term_of}
use Rattle.slotted_proofs.specs.Equations.{IsWritten, to_applied}
use Rattle.slotted_proofs.specs.Entries.{Proven, statement_at}
use Rattle.slotted_proofs.specs.Proving.{IsProved}
use Rattle.slotted_graph.specs.Image.{Image}
use Rattle.slotted_explain.proofs.PrintedLines.{side_later}
use Rattle.slotted_explain.proofs.Sides.{left_valid, right_valid}
use Rattle.slotted_explain.proofs.SlotsOfLines.{left_makes, both_make, left_lacks, right_lacks}
use Rattle.slotted_explain.proofs.print.sides_text.Goals as goal

pub side_text-requires-clause-valid : goal.side_text-requires-clause-valid
side_text-requires-clause-valid g c =
    let graph = c.args.graph.now in
    let proved : IsProved graph.image.canonical graph.image.stored = elim c.proofs.ensures.proved [
      | inl h ↦ absurd (c.requires.well h)
      | inr h ↦ h
    ] in
    let e = c.in_ok-equation.equation in
    let sides : IsWritten (statement_at graph.image.stored c.args.p) e =
    subst (λ (ps : List Proven). IsWritten (statement_at ps c.args.p) e) c.proofs.ensures.list (subst (IsWritten (statement_at c.proofs.result.now c.args.p)) (sym c.in_ok-equation.ensures.ok) c.equ.ensures) in
    left_valid graph c.args.p (to_applied e.l) (to_applied e.r) proved c.requires.within sides

pub side_text-requires-2-clause-valid : goal.side_text-requires-2-clause-valid
side_text-requires-2-clause-valid g c =
    let graph = c.args.graph.now in
    let later = c.side_text.new.graph in
    let image = c.in_ok-left.ensures.takes.reads.image in
    let proved : IsProved graph.image.canonical graph.image.stored = elim c.proofs.ensures.proved [
      | inl h ↦ absurd (c.requires.well h)
      | inr h ↦ h
    ] in
    let e = c.in_ok-equation.equation in
    let sides : IsWritten (statement_at graph.image.stored c.args.p) e =
    subst (λ (ps : List Proven). IsWritten (statement_at ps c.args.p) e) c.proofs.ensures.list (subst (IsWritten (statement_at c.proofs.result.now c.args.p)) (sym c.in_ok-equation.ensures.ok) c.equ.ensures) in
    right_valid graph later image c.args.p (to_applied e.l) (to_applied e.r) proved c.requires.within sides

pub returns-clause-text : goal.returns-clause-text
returns-clause-text g c =
    let graph = c.args.graph.now in
    let p = c.args.p in
    let e = c.in_ok-equation.equation in
    let sides : IsWritten (statement_at graph.image.stored p) e =
    subst (λ (ps : List Proven). IsWritten (statement_at ps p) e) c.proofs.ensures.list (subst (IsWritten (statement_at c.proofs.result.now p)) (sym c.in_ok-equation.ensures.ok) c.equ.ensures) in
    let one = c.in_ok-left.ensures in
    let two = c.in_ok-right.ensures in
    record {
      left = to_applied e.l;
      right = to_applied e.r;
      sides = sides;
      left_text = string_bytes c.in_ok-left.left;
      right_text = string_bytes c.in_ok-right.right;
      left_is = side_later g.L.Printable.written graph c.side_text.new.graph c.side_text-2.new.graph two.takes.reads.more (to_applied e.l) (string_bytes c.in_ok-left.left) one.text;
      right_is = record {
        term = two.text.term;
        table = two.text.table;
        is = two.text.is ∙ ap (λ (x : Image). term_of x.canonical (to_applied e.r)) one.takes.reads.image;
        known = two.text.known;
        names = two.text.names ∙ one.takes.names;
        bytes = two.text.bytes;
      };
      bytes = c.in_ok-text.ensures.ok;
    }

pub returns-clause-count : goal.returns-clause-count
returns-clause-count g c =
    let graph = c.args.graph.now in
    let e = c.in_ok-equation.equation in
    let sides : IsWritten (statement_at graph.image.stored c.args.p) e =
    subst (λ (ps : List Proven). IsWritten (statement_at ps c.args.p) e) c.proofs.ensures.list (subst (IsWritten (statement_at c.proofs.result.now c.args.p)) (sym c.in_ok-equation.ensures.ok) c.equ.ensures) in
    both_make graph c.args.p (to_applied e.l) (to_applied e.r) sides c.side_text.new.graph c.side_text-2.new.graph c.in_ok-left.ensures.takes.reads.image c.side_text.ensures.count c.side_text-2.ensures.count

pub returns-in_err-left-clause-count : goal.returns-in_err-left-clause-count
returns-in_err-left-clause-count g c =
    let graph = c.args.graph.now in
    let e = c.in_ok-equation.equation in
    let sides : IsWritten (statement_at graph.image.stored c.args.p) e =
    subst (λ (ps : List Proven). IsWritten (statement_at ps c.args.p) e) c.proofs.ensures.list (subst (IsWritten (statement_at c.proofs.result.now c.args.p)) (sym c.in_ok-equation.ensures.ok) c.equ.ensures) in
    left_makes graph c.args.p (to_applied e.l) (to_applied e.r) sides c.side_text.new.graph c.side_text.ensures.count

pub returns-in_err-right-clause-count : goal.returns-in_err-right-clause-count
returns-in_err-right-clause-count g c =
    let graph = c.args.graph.now in
    let e = c.in_ok-equation.equation in
    let sides : IsWritten (statement_at graph.image.stored c.args.p) e =
    subst (λ (ps : List Proven). IsWritten (statement_at ps c.args.p) e) c.proofs.ensures.list (subst (IsWritten (statement_at c.proofs.result.now c.args.p)) (sym c.in_ok-equation.ensures.ok) c.equ.ensures) in
    both_make graph c.args.p (to_applied e.l) (to_applied e.r) sides c.side_text.new.graph c.side_text-2.new.graph c.in_ok-left.ensures.takes.reads.image c.side_text.ensures.count c.side_text-2.ensures.count

pub returns-in_err-text-clause-count : goal.returns-in_err-text-clause-count
returns-in_err-text-clause-count g c =
    let graph = c.args.graph.now in
    let e = c.in_ok-equation.equation in
    let sides : IsWritten (statement_at graph.image.stored c.args.p) e =
    subst (λ (ps : List Proven). IsWritten (statement_at ps c.args.p) e) c.proofs.ensures.list (subst (IsWritten (statement_at c.proofs.result.now c.args.p)) (sym c.in_ok-equation.ensures.ok) c.equ.ensures) in
    both_make graph c.args.p (to_applied e.l) (to_applied e.r) sides c.side_text.new.graph c.side_text-2.new.graph c.in_ok-left.ensures.takes.reads.image c.side_text.ensures.count c.side_text-2.ensures.count

pub returns-in_err-left-clause-full : goal.returns-in_err-left-clause-full
returns-in_err-left-clause-full g c x =
    let graph = c.args.graph.now in
    let e = c.in_ok-equation.equation in
    let sides : IsWritten (statement_at graph.image.stored c.args.p) e =
    subst (λ (ps : List Proven). IsWritten (statement_at ps c.args.p) e) c.proofs.ensures.list (subst (IsWritten (statement_at c.proofs.result.now c.args.p)) (sym c.in_ok-equation.ensures.ok) c.equ.ensures) in
    left_lacks graph c.args.p (to_applied e.l) (to_applied e.r) sides c.side_text.new.graph (c.in_err-left.ensures.full (search rules))

pub returns-in_err-right-clause-full : goal.returns-in_err-right-clause-full
returns-in_err-right-clause-full g c x =
    let graph = c.args.graph.now in
    let e = c.in_ok-equation.equation in
    let sides : IsWritten (statement_at graph.image.stored c.args.p) e =
    subst (λ (ps : List Proven). IsWritten (statement_at ps c.args.p) e) c.proofs.ensures.list (subst (IsWritten (statement_at c.proofs.result.now c.args.p)) (sym c.in_ok-equation.ensures.ok) c.equ.ensures) in
    right_lacks graph c.args.p (to_applied e.l) (to_applied e.r) sides c.side_text.new.graph c.side_text-2.new.graph c.in_ok-left.ensures.takes.reads.image c.side_text.ensures.count (c.in_err-right.ensures.full (search rules))
