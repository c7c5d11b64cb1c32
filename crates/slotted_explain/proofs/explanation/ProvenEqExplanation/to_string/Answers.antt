-- The lines are those of the proof list, and stand in it.
use Rattle.std.proofs.Common.{◌<◌, ◌∙◌, List, [], ◌∷◌, length, ap, sym, subst, arith, rules, inl, inr}
use Rattle.std.proofs.lemmas.Bool.{false≢true}
use Rattle.slotted_proofs.specs.Entries.{Proven, entry_of}
use Rattle.slotted_proofs.specs.Lines.{Lines, PartsAreEarlier}
use Rattle.slotted_classes.proofs.KeptLists.{length-mapped}
use Rattle.slotted_graph.proofs.Layers.{each_at}
use Rattle.slotted_explain.proofs.LinesBelow.{lines_below}
use Rattle.slotted_explain.proofs.explanation.ProvenEqExplanation.to_string.Goals as goal

pub lines-requires-clause-within : goal.lines-requires-clause-within
lines-requires-clause-within g c = elim c.requires [
  | inl h ↦ absurd (false≢true (sym c.if-is_failed.false ∙ (c.is_failed.ensures.failed ∙ h)))
  | inr lt ↦ omega (arith, lt, ap length c.proofs.ensures.entries, length-mapped entry_of c.args.graph.now.image.stored, ap length c.proofs.ensures.list)
]

pub lines-requires-clause-earlier : goal.lines-requires-clause-earlier
lines-requires-clause-earlier g c = elim c.proofs.ensures.earlier [
  | inl h ↦ absurd (false≢true (sym c.if-is_failed.false ∙ (c.is_failed.ensures.failed ∙ h)))
  | inr earlier ↦ subst PartsAreEarlier (sym c.proofs.ensures.list) earlier
]

pub lines_text-requires-clause-well : goal.lines_text-requires-clause-well
lines_text-requires-clause-well g c h = false≢true (sym c.if-is_failed.false ∙ (c.is_failed.ensures.failed ∙ h))

pub lines_text-requires-clause-within : goal.lines_text-requires-clause-within
lines_text-requires-clause-within g c k d lt =
    let stored = c.args.graph.now.image.stored in
    let earlier : PartsAreEarlier stored = elim c.proofs.ensures.earlier [
      | inl h ↦ absurd (false≢true (sym c.if-is_failed.false ∙ (c.is_failed.ensures.failed ∙ h)))
      | inr h ↦ h
    ] in
    let below : c.args.self < length stored = elim c.requires [
      | inl h ↦ absurd (false≢true (sym c.if-is_failed.false ∙ (c.is_failed.ensures.failed ∙ h)))
      | inr lt ↦ omega (arith, lt, ap length c.proofs.ensures.entries, length-mapped entry_of stored)
    ] in
    let order : Lines stored [] (c.args.self ∷ []) c.in_ok-lines.lines = subst (λ (ps : List Proven). Lines ps [] (c.args.self ∷ []) c.in_ok-lines.lines) c.proofs.ensures.list c.in_ok-lines.ensures.ok in
    each_at (λ q. q < length stored) c.in_ok-lines.lines k d lt (lines_below stored earlier order tt (below, tt))

pub returns-clause-text : goal.returns-clause-text
returns-clause-text g c = record {
  lines = c.in_ok-lines.lines;
  order = subst (λ (ps : List Proven). Lines ps [] (c.args.self ∷ []) c.in_ok-lines.lines) c.proofs.ensures.list c.in_ok-lines.ensures.ok;
  printed = c.in_ok-text.ensures.text;
}

pub returns-clause-count : goal.returns-clause-count
returns-clause-count g c = inr (c.in_ok-lines.lines, subst (λ (ps : List Proven). Lines ps [] (c.args.self ∷ []) c.in_ok-lines.lines) c.proofs.ensures.list c.in_ok-lines.ensures.ok, c.lines_text.ensures.count)

pub returns-in_err-text-clause-count : goal.returns-in_err-text-clause-count
returns-in_err-text-clause-count g c = inr (c.in_ok-lines.lines, subst (λ (ps : List Proven). Lines ps [] (c.args.self ∷ []) c.in_ok-lines.lines) c.proofs.ensures.list c.in_ok-lines.ensures.ok, c.lines_text.ensures.count)

pub returns-in_err-text-clause-full : goal.returns-in_err-text-clause-full
returns-in_err-text-clause-full g c e = (c.in_ok-lines.lines, subst (λ (ps : List Proven). Lines ps [] (c.args.self ∷ []) c.in_ok-lines.lines) c.proofs.ensures.list c.in_ok-lines.ensures.ok, c.in_err-text.ensures.full (search rules))
