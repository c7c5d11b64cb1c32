-- A key that stands under its own shape.
use Rattle.std.proofs.Common.{◌≡◌, ◌∙◌, ℕ, List, length, ap, sym}
use Rattle.std.specs.Prelude.{option_map}
use Rattle.std.proofs.lemmas.Bool.{eq-eqb}
use Rattle.slotted_slots.specs.Maps.{keys}
use Rattle.slotted_nodes.specs.Form.{Form}
use Rattle.slotted_classes.proofs.KeptLists.{length-mapped}
use Rattle.slotted_hashcons.specs.WellFiled.{IsKeyed}
use Rattle.slotted_reports.proofs.checking.node_fits.Goals as goal

pub is_found-requires : goal.is_found-requires
is_found-requires g c =
    let form = g.L.LanguageChildren.form in
    let at = sym (ap (option_map (λ p. (form p.0.now, p.1.now))) (sym c.in-Some.is) ∙ c.node.ensures) in
    (c.in-Some.slots.now, at)

pub returns-in_ok-shape-in-Some-clause-ok : goal.returns-in_ok-shape-in-Some-clause-ok
returns-in_ok-shape-in-Some-clause-ok g c =
    let form = g.L.LanguageChildren.form in
    let key = form c.in-Some.key.now in
    let slots = c.in-Some.slots.now in
    let numbers = c.in_ok-shape-in-Some.numbers in
    let at = sym (ap (option_map (λ p. (form p.0.now, p.1.now))) (sym c.in-Some.is) ∙ c.node.ensures) in
    let keyed : IsKeyed (key, slots) = c.requires (key, slots) at in
    let same = ap (λ (r : Form × List (ℕ × ℕ)). r.0) c.in_ok-shape-in-Some.ensures.shape ∙ keyed.itself in
    let many : length numbers ≡ length slots =
    sym (length-mapped (λ (p : ℕ × ℕ). p.0) numbers) ∙ (ap (λ (r : Form × List (ℕ × ℕ)). length (keys r.1)) c.in_ok-shape-in-Some.ensures.shape
    ∙ (ap length (sym keyed.numbers) ∙ length-mapped (λ (p : ℕ × ℕ). p.0) slots)) in
    c.all.ensures (c.is_same.ensures same) (eq-eqb _ _ (c.len.ensures.len ∙ (many ∙ sym c.len-in-Some.ensures.len))) c.is_found.ensures
