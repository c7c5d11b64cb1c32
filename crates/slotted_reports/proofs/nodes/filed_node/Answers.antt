-- The node with the names of the id, and with fresh binders.
use Rattle.std.proofs.Common.{rules, ◌≤◌, ◌<◌, ◌+◌, ◌∙◌, ℕ, List, length, ap, sym, subst, inl, inr, arith}
use Rattle.std.specs.Prelude.{Contains, option_map}
use Rattle.std.proofs.lemmas.Bool.{cases_lt}
use Rattle.slotted_lists.proofs.Contained.{Contains-nil}
use Rattle.slotted_slots.specs.Table.{slot_limit}
use Rattle.slotted_proofs.specs.Equations.{to_applied}
use Rattle.slotted_hashcons.proofs.Indexed.{place-within}
use Rattle.slotted_classes.proofs.StoredFinds.{stored-finds}
use Rattle.slotted_reports.proofs.FreshNodes.{key-takes, refreshed-is, refreshed-key, refreshed-lacks, refreshed-takes, renamed-lacks, renamed-takes}
use Rattle.slotted_reports.proofs.nodes.filed_node.Goals as goal

pub names_beside-requires-clause-good : goal.names_beside-requires-clause-good
names_beside-requires-clause-good g c = stored-finds c.args.store.now c.requires.good.stored

pub names_beside-requires-clause-within : goal.names_beside-requires-clause-within
names_beside-requires-clause-within g c =
    let h = c.requires.source.0 in
    omega (arith, place-within c.args.nodes.now.filed c.args.source h.0 h.1, c.requires.good.count)

pub returns-clause-key : goal.returns-clause-key
returns-clause-key g c =
    let form = g.L.LanguageChildren.form in
    let fits = g.met.L.LanguageChildren.fits in
    let k = c.args.store.now in
    let r = c.args.nodes.now in
    let o = c.args.source in
    let a = to_applied c.args.a.now in
    let b = c.in_ok-node-in-Some.node in
    let n = c.in_ok-answer-in-Some.answer in
    let quiet : ¬ Contains r.waiting o = λ h. Contains-nil o (subst (λ (w : List ℕ). Contains w o) c.requires.quiet h) in
    let at = sym (ap (option_map (λ p. (form p.0.now, p.1.now))) (sym c.in-Some.is) ∙ c.node.ensures) in
    refreshed-key k r c.requires.good o (form c.in-Some.key.now) c.in-Some.slots.now at quiet a c.requires.findable c.requires.source.1 c.args.table.now c.requires.known
    c.in_ok-names-in-Some.names c.in_ok-names-in-Some.ensures.ok (form b) (fits b) c.in_ok-node-in-Some.ensures.renamed _ c.in_ok-node-in-Some.ensures.more c.in_ok-node-in-Some.ensures.known
    _ (form n) (fits n) c.in_ok-answer-in-Some.ensures.same c.in_ok-answer-in-Some.ensures.more c.in_ok-answer-in-Some.ensures.known c.in_ok-answer-in-Some.ensures.unused

pub returns-clause-ok : goal.returns-clause-ok
returns-clause-ok g c =
    let form = g.L.LanguageChildren.form in
    let fits = g.met.L.LanguageChildren.fits in
    let k = c.args.store.now in
    let r = c.args.nodes.now in
    let o = c.args.source in
    let a = to_applied c.args.a.now in
    let key = form c.in-Some.key.now in
    let b = c.in_ok-node-in-Some.node in
    let n = c.in_ok-answer-in-Some.answer in
    let quiet : ¬ Contains r.waiting o = λ h. Contains-nil o (subst (λ (w : List ℕ). Contains w o) c.requires.quiet h) in
    let at = sym (ap (option_map (λ p. (form p.0.now, p.1.now))) (sym c.in-Some.is) ∙ c.node.ensures) in
    let few : length key.names < slot_limit = elim (cases_lt (length key.names) slot_limit) [
      | inl l ↦ l
      | inr l ↦ let refused = c.in_ok-node-in-Some.ensures.large l in cc
    ] in
    refreshed-is k r c.requires.good o key c.in-Some.slots.now at quiet a c.requires.findable c.requires.source.1 c.args.table.now c.requires.known
    c.in_ok-names-in-Some.names c.in_ok-names-in-Some.ensures.ok (form b) (fits b) c.in_ok-node-in-Some.ensures.renamed _ c.in_ok-node-in-Some.ensures.more c.in_ok-node-in-Some.ensures.known
    _ (form n) (fits n) c.in_ok-answer-in-Some.ensures.same c.in_ok-answer-in-Some.ensures.more c.in_ok-answer-in-Some.ensures.known c.in_ok-answer-in-Some.ensures.unused few

pub returns-in_err-node-in-Some-clause-full : goal.returns-in_err-node-in-Some-clause-full
returns-in_err-node-in-Some-clause-full g c e =
    let form = g.L.LanguageChildren.form in
    let k = c.args.store.now in
    let r = c.args.nodes.now in
    let o = c.args.source in
    let a = to_applied c.args.a.now in
    let quiet : ¬ Contains r.waiting o = λ h. Contains-nil o (subst (λ (w : List ℕ). Contains w o) c.requires.quiet h) in
    let at = sym (ap (option_map (λ p. (form p.0.now, p.1.now))) (sym c.in-Some.is) ∙ c.node.ensures) in
    renamed-lacks k r c.requires.good o (form c.in-Some.key.now) c.in-Some.slots.now at quiet a c.requires.findable c.requires.source.1 c.args.table.now c.requires.known
    c.in_ok-names-in-Some.names c.in_ok-names-in-Some.ensures.ok c.apply_slotmap_fresh.new.table c.apply_slotmap_fresh.ensures.more (c.in_err-node-in-Some.ensures.full (search rules))

pub returns-in_err-node-in-Some-clause-takes : goal.returns-in_err-node-in-Some-clause-takes
returns-in_err-node-in-Some-clause-takes g c =
    let form = g.L.LanguageChildren.form in
    let fits = g.met.L.LanguageChildren.fits in
    let k = c.args.store.now in
    let r = c.args.nodes.now in
    let t = c.args.table.now in
    let o = c.args.source in
    let a = to_applied c.args.a.now in
    let key = form c.in-Some.key.now in
    let slots = c.in-Some.slots.now in
    let u = c.apply_slotmap_fresh.new.table in
    let quiet : ¬ Contains r.waiting o = λ h. Contains-nil o (subst (λ (w : List ℕ). Contains w o) c.requires.quiet h) in
    let at = sym (ap (option_map (λ p. (form p.0.now, p.1.now))) (sym c.in-Some.is) ∙ c.node.ensures) in
    let few : u.fresh ≤ t.fresh + length key.names =
    renamed-takes k r c.requires.good o key slots at quiet a c.requires.findable c.requires.source.1 t c.requires.known c.in_ok-names-in-Some.names c.in_ok-names-in-Some.ensures.ok u c.apply_slotmap_fresh.ensures.count in
    key-takes r o key slots at t u (omega (arith, few))

pub returns-in_err-answer-in-Some-clause-takes : goal.returns-in_err-answer-in-Some-clause-takes
returns-in_err-answer-in-Some-clause-takes g c =
    let form = g.L.LanguageChildren.form in
    let fits = g.met.L.LanguageChildren.fits in
    let k = c.args.store.now in
    let r = c.args.nodes.now in
    let t = c.args.table.now in
    let o = c.args.source in
    let a = to_applied c.args.a.now in
    let key = form c.in-Some.key.now in
    let slots = c.in-Some.slots.now in
    let b = c.in_ok-node-in-Some.node in
    let u = c.apply_slotmap_fresh.new.table in
    let v = c.refresh_private.new.table in
    let quiet : ¬ Contains r.waiting o = λ h. Contains-nil o (subst (λ (w : List ℕ). Contains w o) c.requires.quiet h) in
    let at = sym (ap (option_map (λ p. (form p.0.now, p.1.now))) (sym c.in-Some.is) ∙ c.node.ensures) in
    key-takes r o key slots at t v
    (refreshed-takes k r c.requires.good o key slots at quiet a c.requires.findable c.requires.source.1 t c.requires.known
    c.in_ok-names-in-Some.names c.in_ok-names-in-Some.ensures.ok (form b) (fits b) c.in_ok-node-in-Some.ensures.renamed u c.in_ok-node-in-Some.ensures.more c.in_ok-node-in-Some.ensures.known
    v c.in_ok-node-in-Some.ensures.count c.refresh_private.ensures.count)

pub returns-clause-takes : goal.returns-clause-takes
returns-clause-takes g c =
    let form = g.L.LanguageChildren.form in
    let fits = g.met.L.LanguageChildren.fits in
    let k = c.args.store.now in
    let r = c.args.nodes.now in
    let t = c.args.table.now in
    let o = c.args.source in
    let a = to_applied c.args.a.now in
    let key = form c.in-Some.key.now in
    let slots = c.in-Some.slots.now in
    let b = c.in_ok-node-in-Some.node in
    let u = c.apply_slotmap_fresh.new.table in
    let v = c.refresh_private.new.table in
    let quiet : ¬ Contains r.waiting o = λ h. Contains-nil o (subst (λ (w : List ℕ). Contains w o) c.requires.quiet h) in
    let at = sym (ap (option_map (λ p. (form p.0.now, p.1.now))) (sym c.in-Some.is) ∙ c.node.ensures) in
    key-takes r o key slots at t v
    (refreshed-takes k r c.requires.good o key slots at quiet a c.requires.findable c.requires.source.1 t c.requires.known
    c.in_ok-names-in-Some.names c.in_ok-names-in-Some.ensures.ok (form b) (fits b) c.in_ok-node-in-Some.ensures.renamed u c.in_ok-node-in-Some.ensures.more c.in_ok-node-in-Some.ensures.known
    v c.in_ok-node-in-Some.ensures.count c.refresh_private.ensures.count)

pub returns-in_err-answer-in-Some-clause-full : goal.returns-in_err-answer-in-Some-clause-full
returns-in_err-answer-in-Some-clause-full g c e =
    let form = g.L.LanguageChildren.form in
    let fits = g.met.L.LanguageChildren.fits in
    let k = c.args.store.now in
    let r = c.args.nodes.now in
    let o = c.args.source in
    let a = to_applied c.args.a.now in
    let b = c.in_ok-node-in-Some.node in
    let quiet : ¬ Contains r.waiting o = λ h. Contains-nil o (subst (λ (w : List ℕ). Contains w o) c.requires.quiet h) in
    let at = sym (ap (option_map (λ p. (form p.0.now, p.1.now))) (sym c.in-Some.is) ∙ c.node.ensures) in
    refreshed-lacks k r c.requires.good o (form c.in-Some.key.now) c.in-Some.slots.now at quiet a c.requires.findable c.requires.source.1 c.args.table.now c.requires.known
    c.in_ok-names-in-Some.names c.in_ok-names-in-Some.ensures.ok (form b) (fits b) c.in_ok-node-in-Some.ensures.renamed c.apply_slotmap_fresh.new.table c.in_ok-node-in-Some.ensures.more
    c.in_ok-node-in-Some.ensures.known c.refresh_private.new.table c.refresh_private.ensures.more c.in_ok-node-in-Some.ensures.count (c.in_err-answer-in-Some.ensures.full (search rules))
