-- What is refused makes fresh slots at most, and what is printed is the term that was extracted.
use Rattle.std.proofs.Common.{◌≡◌, ap, inl, sym, subst}
use Rattle.std.specs.Prelude.{Err, string_bytes}
use Rattle.std.proofs.lemmas.Result.{err_from_is_err_and}
use Rattle.slotted_slots.specs.Table.{Table}
use Rattle.slotted_terms.specs.Shown.{term_text}
use Rattle.slotted_commands.specs.Extracted.{extracted, extraction_ran_out}
use Rattle.slotted_commands.proofs.Extracting.{not_slots}
use Rattle.slotted_commands.proofs.extraction.extract_term.Goals as goal

pub returns-in_err-cost : goal.returns-in_err-cost
returns-in_err-cost g c =
    let e = c.in_err-cost.ensures in
    let p = err_from_is_err_and c.from_residual.result c.from_residual.ensures.1 in
    rw (p.1, p.2) (extraction_ran_out (record { shortage = e.err; cause = λ o. e.full (ap Err o); takes = e.takes; count = e.count }))

pub returns-in_err-text : goal.returns-in_err-text
returns-in_err-text g c =
    let p = err_from_is_err_and c.from_residual-in_err-text.result c.from_residual-in_err-text.ensures.1 in
    rw (p.1, p.2) (extraction_ran_out (record {
      shortage = inl c.in_err-text.ensures.err;
      cause = λ o. absurd (not_slots c.in_err-text.field-0.0 c.in_err-text.ensures.err o);
      takes = c.in_ok-cost.ensures.takes;
      count = c.in_ok-cost.ensures.count;
    }))

pub returns : goal.returns
returns g c =
    let e = c.in_ok-cost.ensures in
    extracted (record {
      term = c.in_ok-cost.term;
      smallest = e.ok;
      bytes = subst (λ (t : Table). string_bytes c.in_ok-text.text ≡ term_text g.L.Printable.written t c.in_ok-cost.term) c.table.ensures c.in_ok-text.ensures.ok;
      takes = e.takes;
      count = e.count;
    })
