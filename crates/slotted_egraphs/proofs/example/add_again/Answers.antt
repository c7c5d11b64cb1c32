-- The canonical term is the one that was added, without bound names, and has its id: so adding it changes no class, and answers this id.
use Rattle.std.proofs.Common.{◌≡◌, ◌∙◌, ap, inr}
use Rattle.slotted_model.specs.Applied.{Applied}
use Rattle.slotted_egraphs.specs.Image.{found_id}
use Rattle.slotted_egraphs.specs.Nodes.{to_applied}
use Rattle.slotted_egraphs.proofs.Asking.{yes_if, same_again}
use Rattle.slotted_egraphs.proofs.CallerLemmas.{can_ask, can-compare, id_read, full-valid}
use Rattle.slotted_egraphs.proofs.example.add_again.Goals as goal

pub add_syn_expr-requires : goal.add_syn_expr-requires
add_syn_expr-requires g c = inr c.in_ok-term.ensures.valid

pub get_syn_expr-requires : goal.get_syn_expr-requires
get_syn_expr-requires g c = inr (full-valid c.add_syn_expr.new.self (to_applied c.in_ok-id.id) c.in_ok-id.ensures.valid)

pub add_syn_expr-requires-2 : goal.add_syn_expr-requires-2
add_syn_expr-requires-2 g c = inr c.in_ok-canonical.ensures.valid

pub eq-requires-clause-left : goal.eq-requires-clause-left
eq-requires-clause-left g c =
    let a = to_applied c.in_ok-id.id in
    let added = c.in_ok-again.ensures in
    can-compare c.add_syn_expr-2.new.self a
    (can_ask c.get_syn_expr.new.self c.add_syn_expr-2.new.self a added.extends added.more
    (id_read c.add_syn_expr.new.self c.get_syn_expr.new.self a c.in_ok-canonical.ensures.takes.reads c.in_ok-id.ensures.valid))

pub eq-requires-clause-right : goal.eq-requires-clause-right
eq-requires-clause-right g c = inr (full-valid c.add_syn_expr-2.new.self (to_applied c.in_ok-again.again) c.in_ok-again.ensures.valid)

pub returns : goal.returns
returns g c =
    let a = to_applied c.in_ok-id.id in
    let b = to_applied c.in_ok-again.again in
    let same : a ≡ b = same_again c.add_syn_expr.new.self c.get_syn_expr.new.self c.add_syn_expr-2.new.self c.in_ok-term.term c.in_ok-canonical.canonical a b c.in_ok-id.ensures.found (c.in_ok-canonical.ensures.term c.in_ok-id.ensures.valid.full ∙ c.in_ok-id.ensures.term) c.in_ok-canonical.ensures.takes.reads.image (λ s. (c.in_ok-again.ensures.kept s).image) c.in_ok-again.ensures.found in
    yes_if c.add_syn_expr-2.new.self.image a b c.eq.result c.eq.ensures.found (ap (λ (x : Applied). found_id c.add_syn_expr-2.new.self.image x) same)
