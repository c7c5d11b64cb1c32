use Rattle.std.proofs.Common.{◌∙◌, false, true, sym, rules}
use Rattle.std.proofs.lemmas.Bool.{false≢true}
use Rattle.slotted_classes.specs.Kept.{text_bytes}
use Rattle.slotted_proofs.specs.Equations.{to_applied}
use Rattle.slotted_rebuilding.proofs.GrownRows.{grown-count}
use Rattle.slotted_rebuilding.proofs.FiledStates.{united-well}
use Rattle.slotted_operations.proofs.Unions.UnionsOfFillings.{said, filled-filed, stays-filled, unites-filled, large-uniting, large-rebuilding}
use Rattle.slotted_operations.proofs.Graphs.Finds.{good-finds}
use Rattle.slotted_operations.proofs.Unions.CompressedPaths.{large-found, unites-shortened}
use Rattle.slotted_operations.proofs.uniting.union.Goals as goal

pub eq-found_alike-requires-clause-good : goal.eq-found_alike-requires-clause-good
eq-found_alike-requires-clause-good g c = good-finds c.args.store.now c.requires.good

pub unite-requires-clause-good : goal.unite-requires-clause-good
unite-requires-clause-good g c =
    (said c.args.store.now c.requires.good (to_applied c.args.l.now) (to_applied c.args.r.now) c.requires.left c.requires.right (text_bytes c.args.text) c.assert_sides.new.store c.in_ok-p.p c.in_ok-p.ensures.ok).stored

pub unite-requires-clause-within : goal.unite-requires-clause-within
unite-requires-clause-within g c =
    (said c.args.store.now c.requires.good (to_applied c.args.l.now) (to_applied c.args.r.now) c.requires.left c.requires.right (text_bytes c.args.text) c.assert_sides.new.store c.in_ok-p.p c.in_ok-p.ensures.ok).in_range

pub unite-requires-clause-count : goal.unite-requires-clause-count
unite-requires-clause-count g c =
    let entered = said c.args.store.now c.requires.good (to_applied c.args.l.now) (to_applied c.args.r.now) c.requires.left c.requires.right (text_bytes c.args.text) c.assert_sides.new.store c.in_ok-p.p c.in_ok-p.ensures.ok in
    c.requires.rests.filed.count ∙ sym (grown-count c.args.store.now c.assert_sides.new.store entered.grows)

pub rebuild-requires : goal.rebuild-requires
rebuild-requires g c =
    let k = c.args.store.now in
    let m = c.assert_sides.new.store in
    let a = to_applied c.args.l.now in
    let b = to_applied c.args.r.now in
    let text = text_bytes c.args.text in
    record {
      good =
          united-well c.in_ok-p.p m c.args.nodes.now c.unite.new.store c.unite.new.nodes
          (filled-filed k c.requires.good a b c.requires.left c.requires.right text m c.in_ok-p.p c.in_ok-p.ensures.ok c.args.nodes.now c.requires.rests.filed)
          (said k c.requires.good a b c.requires.left c.requires.right text m c.in_ok-p.p c.in_ok-p.ensures.ok).in_range c.in_ok-unite.ensures.ok;
    }

-- ids that find alike
pub returns-then-found_alike-clause-ok : goal.returns-then-found_alike-clause-ok
returns-then-found_alike-clause-ok g c =
    stays-filled c.args.store.now c.requires.good (to_applied c.args.l.now) (to_applied c.args.r.now) c.requires.left c.requires.right (text_bytes c.args.text) c.assert_sides.new.store c.in_ok-p.p c.in_ok-p.ensures.ok
    c.args.nodes.now c.requires.rests (c.eq-found_alike.ensures.0 c.if-found_alike.true) c.note_rest.new.store c.note_rest.ensures

pub compress_paths-requires : goal.compress_paths-requires
compress_paths-requires g c =
    record {
      good = (unites-filled c.args.store.now c.requires.good (to_applied c.args.l.now) (to_applied c.args.r.now) c.requires.left c.requires.right (text_bytes c.args.text) c.assert_sides.new.store c.in_ok-p.p c.in_ok-p.ensures.ok
          c.args.nodes.now c.requires.rests c.unite.new.store c.unite.new.nodes c.in_ok-unite.ensures.ok c.rebuild.new.store c.rebuild.new.nodes c.in_ok-rebuild.field-0 c.in_ok-rebuild.ensures.ok
          false (λ y. absurd (false≢true y), λ e. absurd (false≢true (sym c.if-found_alike.false ∙ c.eq-found_alike.ensures.1 e))) (λ y. absurd (false≢true y))).good.stored;
    }

pub returns-clause-ok : goal.returns-clause-ok
returns-clause-ok g c =
    unites-shortened c.args.store.now c.args.nodes.now c.requires.good c.rebuild.new.store c.rebuild.new.nodes (to_applied c.args.l.now) (to_applied c.args.r.now) (text_bytes c.args.text) true
    (unites-filled c.args.store.now c.requires.good (to_applied c.args.l.now) (to_applied c.args.r.now) c.requires.left c.requires.right (text_bytes c.args.text) c.assert_sides.new.store c.in_ok-p.p c.in_ok-p.ensures.ok
    c.args.nodes.now c.requires.rests c.unite.new.store c.unite.new.nodes c.in_ok-unite.ensures.ok c.rebuild.new.store c.rebuild.new.nodes c.in_ok-rebuild.field-0 c.in_ok-rebuild.ensures.ok
    false (λ y. absurd (false≢true y), λ e. absurd (false≢true (sym c.if-found_alike.false ∙ c.eq-found_alike.ensures.1 e))) (λ y. absurd (false≢true y)))
    c.compress_paths.new.store c.in_ok-compress_paths.ensures.ok

pub returns-in_err-compress_paths-clause-full : goal.returns-in_err-compress_paths-clause-full
returns-in_err-compress_paths-clause-full g c e =
    large-found c.args.store.now c.rebuild.new.store
    (unites-filled c.args.store.now c.requires.good (to_applied c.args.l.now) (to_applied c.args.r.now) c.requires.left c.requires.right (text_bytes c.args.text) c.assert_sides.new.store c.in_ok-p.p c.in_ok-p.ensures.ok
    c.args.nodes.now c.requires.rests c.unite.new.store c.unite.new.nodes c.in_ok-unite.ensures.ok c.rebuild.new.store c.rebuild.new.nodes c.in_ok-rebuild.field-0 c.in_ok-rebuild.ensures.ok
    false (λ y. absurd (false≢true y), λ e. absurd (false≢true (sym c.if-found_alike.false ∙ c.eq-found_alike.ensures.1 e))) (λ y. absurd (false≢true y))).nodes
    (c.in_err-compress_paths.ensures.full (search rules))

-- a class that is too large was so

pub returns-in_err-p-clause-full : goal.returns-in_err-p-clause-full
returns-in_err-p-clause-full g c e = c.in_err-p.ensures.full (search rules)

pub returns-in_err-unite-clause-full : goal.returns-in_err-unite-clause-full
returns-in_err-unite-clause-full g c e =
    large-uniting c.args.store.now c.requires.good (to_applied c.args.l.now) (to_applied c.args.r.now) c.requires.left c.requires.right (text_bytes c.args.text) c.assert_sides.new.store c.in_ok-p.p c.in_ok-p.ensures.ok
    (c.in_err-unite.ensures.full (search rules))

pub returns-in_err-rebuild-clause-full : goal.returns-in_err-rebuild-clause-full
returns-in_err-rebuild-clause-full g c e =
    large-rebuilding c.args.store.now c.requires.good (to_applied c.args.l.now) (to_applied c.args.r.now) c.requires.left c.requires.right (text_bytes c.args.text) c.assert_sides.new.store c.in_ok-p.p c.in_ok-p.ensures.ok
    c.unite.new.store c.in_ok-unite.ensures.ok.by.grows (c.in_err-rebuild.ensures.full (search rules))
