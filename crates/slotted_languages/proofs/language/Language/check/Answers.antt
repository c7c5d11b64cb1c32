use Rattle.std.proofs.Common.{◌<◌, ◌≤◌, ◌∙◌, length, refl, subst, sym, arith}
use Rattle.std.specs.Prelude.{slice_index}
use Rattle.std.proofs.lemmas.Bool.{false≢true}
use Rattle.slotted_nodes.specs.Public.{IsPublic}
use Rattle.slotted_languages.proofs.BelowNext.{below_next}
use Rattle.slotted_languages.specs.Children.{IsBound}
use Rattle.slotted_languages.proofs.language.Language.check.Goals as goal
use Rattle.slotted_languages.proofs.language.Language.check.Goals.{else-is_public-via-then-is_public+else-is_bound, else-is_public-via-else-is_public}

pub is_public-requires : goal.is_public-requires
is_public-requires g c = omega (arith, c.loop-i-test.true, c.slot_count-i-end.ensures)

pub slot-requires : goal.slot-requires
slot-requires g c = omega (arith, c.loop-i-test.true, c.slot_count-i-end.ensures)

pub returns : goal.returns
returns g c =
    let le : length (g.Self.LanguageChildren.form c.args.self.now).names ≤ c.loop-i.i = omega (arith, c.loop-i-test.false, c.slot_count-i-end.ensures, c.requires.small) in
    ((λ _ i lt. c.loop-i.invariant i (omega (arith, lt, le))), λ _. refl)

pub returns-then-is_bound : goal.returns-then-is_bound
returns-then-is_bound g c =
    let lt : c.loop-i.i < length (g.Self.LanguageChildren.form c.args.self.now).names = omega (arith, c.loop-i-test.true, c.slot_count-i-end.ensures) in
    let bound = subst (λ x. IsBound (g.Self.LanguageChildren.form c.args.self.now) x) c.slot.ensures (c.is_bound.ensures.0 c.if-is_bound.true) in
    ((λ h. absurd (false≢true h)), λ none. absurd (none c.loop-i.i lt (c.is_public.ensures.means.0 c.if-is_public.true) bound))

pub loop-i-preserved : goal.loop-i-preserved
loop-i-preserved g c =
    let f = (g.Self.LanguageChildren.form c.args.self.now) in
    below_next (λ i. IsPublic f i → IsBound f (slice_index f.names i) → ⊥) c.loop-i.i c.loop-i.invariant
    (λ public bound. elim c.else-is_public.branch [
      | else-is_public-via-then-is_public+else-is_bound w ↦ false≢true (sym w.if-is_bound.false ∙ w.is_bound.ensures.1 (subst (IsBound f) (sym w.slot.ensures) bound))
      | else-is_public-via-else-is_public w ↦ false≢true (sym w.if-is_public.false ∙ c.is_public.ensures.means.1 public)
    ])
