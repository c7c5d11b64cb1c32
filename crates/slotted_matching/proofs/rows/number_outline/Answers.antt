use Rattle.std.proofs.Common.{◌≡◌, ◌∙◌, ℕ, length, map, ap, sym, subst, arith}
use Rattle.slotted_lists.proofs.Members.{In, Contains-In}
use Rattle.slotted_slots.specs.Table.{slot_limit}
use Rattle.slotted_nodes.specs.Form.{Form, IsSmall}
use Rattle.slotted_languages.specs.Outline.{outlined_form}
use Rattle.slotted_languages.specs.Shape.{Fits}
use Rattle.slotted_matching.specs.KeyRows.{AreCovered, blanked_form, slot_number, unmarked}
use Rattle.slotted_matching.specs.Skeletons.{HasFewPlaces, StandsAt}
use Rattle.slotted_matching.proofs.Blanking.{blanked-outline}
use Rattle.slotted_matching.proofs.Building.{unmarked-own}
use Rattle.slotted_matching.proofs.SkeletonPlaces.{few-outlined}
use Rattle.slotted_matching.proofs.rows.number_outline.Goals as goal

-- the mark stands nowhere
away : (f : Form) (v : ℕ) → AreCovered f → slot_number v ≡ length f.names → ¬ In v f.names
away f v covered e i = let l = covered v (Contains-In f.names v i) in omega (arith, l, e)

-- the outline is small
small : (v : ℕ) (f h : Form) → Fits f → HasFewPlaces f → h ≡ outlined_form v f → IsSmall h
small v f h fits few e = subst IsSmall (sym e) (few-outlined v f slot_limit fits few)

pub unmarked_numbers-requires : goal.unmarked_numbers-requires
unmarked_numbers-requires g c =
    let form = g.L.LanguageChildren.form in
    small c.numeric_at-mark.result (form c.args.node.now) (form c.in_ok-marked.marked) (g.met.L.LanguageChildren.fits c.args.node.now) c.requires.few c.in_ok-marked.ensures.ok

pub blank-requires : goal.blank-requires
blank-requires g c =
    let form = g.L.LanguageChildren.form in
    small c.numeric_at-mark.result (form c.args.node.now) (form c.in_ok-marked.marked) (g.met.L.LanguageChildren.fits c.args.node.now) c.requires.few c.in_ok-marked.ensures.ok

pub returns-clause-place : goal.returns-clause-place
returns-clause-place g c =
    let form = g.L.LanguageChildren.form in
    let f : Form = form c.args.node.now in
    let v : ℕ = c.numeric_at-mark.result in
    let many : c.slot_count.result ≡ length f.names = omega (arith, c.slot_count.ensures, c.requires.few) in
    let mark : slot_number v ≡ length f.names = omega (arith, c.numeric_at-mark.ensures, many) in
    subst (λ (h : Form). StandsAt c.add.new.self h c.in_ok-number.number)
    (c.blank.ensures ∙ (ap (blanked_form v) c.in_ok-marked.ensures.ok ∙ blanked-outline v f (g.met.L.LanguageChildren.fits c.args.node.now) (away f v c.requires.covered mark)))
    c.in_ok-number.ensures.ok

pub returns-clause-owns : goal.returns-clause-owns
returns-clause-owns g c =
    let form = g.L.LanguageChildren.form in
    let f : Form = form c.args.node.now in
    let v : ℕ = c.numeric_at-mark.result in
    let many : c.slot_count.result ≡ length f.names = omega (arith, c.slot_count.ensures, c.requires.few) in
    let mark : slot_number v ≡ length f.names = omega (arith, c.numeric_at-mark.ensures, many) in
    c.in_ok-owns.ensures.ok
    ∙ (ap (λ (h : Form). map slot_number (unmarked v h.names)) c.in_ok-marked.ensures.ok
    ∙ unmarked-own v f (g.met.L.LanguageChildren.fits c.args.node.now) (away f v c.requires.covered mark))
