use Rattle.std.proofs.Common.{◌≡◌, ◌≤◌, ◌-◌, ◌∙◌, sym, ap, arith, length, take, drop, ◌∷◌}
use Rattle.std.proofs.lemmas.List.{take_all}
use Rattle.std.proofs.lemmas.Bool.{false≢true}
use Rattle.slotted_nodes.specs.Form.{scopes}
use Rattle.slotted_outlines.specs.Seen.{IsOpen, lefts, rights, opened}
use Rattle.slotted_outlines.proofs.Binders.{lefts-push, rights-push, kept-push}
use Rattle.slotted_outlines.proofs.Opened.{opened-open, opened-shut}
use Rattle.slotted_outlines.proofs.outlines.Outlines.push_open.Goals as goal
use Rattle.slotted_outlines.proofs.outlines.Outlines.push_open.Goals.{then-is_open+in_ok-push, else-is_open}

pub loop-i-preserved : goal.loop-i-preserved
loop-i-preserved g c =
    let f = g.L.LanguageChildren.form c.args.self.now.one in
    let n = g.L.LanguageChildren.form c.args.self.now.two in
    let i = c.loop-i.i in
    let at = c.args.at in
    let old = c.loop-i.binders.items in
    let inv = c.loop-i.invariant in
    let before = c.loop-i-test.true in
    let within : at ≤ length (scopes f.tree) = omega (arith, c.requires.within, g.met.L.LanguageChildren.fits c.args.self.now.one) in
    let new = c.if-is_open.binders.items in
    elim c.if-is_open.branch [
      | then-is_open+in_ok-push w ↦
          let b = c.is_open.ensures.0 w.if-is_open.true in
          let e = ap (λ v. v.items) w.binders-is ∙ w.in_ok-push.ensures.items in
          let p = ap lefts e ∙ (lefts-push old _ _ ∙ ap (λ z. z ∷ lefts old) w.slot.ensures) in
          let q = ap rights e ∙ (rights-push old _ _ ∙ ap (λ z. z ∷ rights old) w.slot-then-is_open.ensures) in
          record {
            left = opened-open i at (scopes f.tree) f.names (lefts old) before within b (lefts new) p inv.left;
            right = opened-open i at (scopes f.tree) n.names (rights old) before within b (rights new) q inv.right;
            kept = ap (take _) e ∙ kept-push _ old _ inv.kept;
          }
      | else-is_open w ↦
          let e = ap (λ v. v.items) w.binders-is in
          let b : IsOpen (scopes f.tree) i at → ⊥ = λ h. false≢true (sym w.if-is_open.false ∙ c.is_open.ensures.1 h) in
          record {
            left = opened-shut i at (scopes f.tree) f.names (lefts old) before within b (lefts new) (ap lefts e) inv.left;
            right = opened-shut i at (scopes f.tree) n.names (rights old) before within b (rights new) (ap rights e) inv.right;
            kept = ap (take _) e ∙ inv.kept;
          }
    ]

pub loop-i-init : goal.loop-i-init
loop-i-init g c =
    let f = g.L.LanguageChildren.form c.args.self.now.one in
    let n = g.L.LanguageChildren.form c.args.self.now.two in
    let old = c.args.binders.now.items in
    let whole : c.args.at - 0 ≡ c.args.at = omega arith in
    record {
      left = ap (λ k. opened k (scopes f.tree) f.names (lefts old)) whole;
      right = ap (λ k. opened k (scopes f.tree) n.names (rights old)) whole;
      kept = take_all (length old) old (omega arith);
    }

pub returns-clause-left : goal.returns-clause-left
returns-clause-left g c =
    let f = g.L.LanguageChildren.form c.args.self.now.one in
    let i = c.loop-i.i in
    let none : c.args.at - i ≡ 0 = omega (arith, c.loop-i-test.false) in
    sym (ap (λ k. opened k (drop i (scopes f.tree)) (drop i f.names) (lefts c.loop-i.binders.items)) none) ∙ c.loop-i.invariant.left

pub returns-clause-right : goal.returns-clause-right
returns-clause-right g c =
    let f = g.L.LanguageChildren.form c.args.self.now.one in
    let n = g.L.LanguageChildren.form c.args.self.now.two in
    let i = c.loop-i.i in
    let none : c.args.at - i ≡ 0 = omega (arith, c.loop-i-test.false) in
    sym (ap (λ k. opened k (drop i (scopes f.tree)) (drop i n.names) (rights c.loop-i.binders.items)) none) ∙ c.loop-i.invariant.right
