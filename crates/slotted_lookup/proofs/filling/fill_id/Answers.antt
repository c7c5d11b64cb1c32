use Rattle.std.proofs.Common.{◌≡◌, ◌≤◌, ◌+◌, ◌∙◌, ℕ, List, arith, ap, sym, subst, rules}
use Rattle.std.specs.List.{zip}
use Rattle.slotted_lists.proofs.Maps.{zip-keys_values}
use Rattle.slotted_slots.specs.Maps.{keys, values}
use Rattle.slotted_slots.specs.Table.{Table}
use Rattle.slotted_model.specs.Applied.{Applied}
use Rattle.slotted_model.specs.Classes.{canonical_slots}
use Rattle.slotted_model.specs.Correspondence.{identity}
use Rattle.slotted_model.proofs.Finds.NormalIds.{keys-identity, values-identity}
use Rattle.slotted_proofs.specs.Equations.{to_applied}
use Rattle.slotted_classes.specs.Finding.{IsFindable}
use Rattle.slotted_classes.specs.Kept.{Kept, nodes_of, names_at, rows_from}
use Rattle.slotted_classes.specs.Names.{between}
use Rattle.slotted_classes.proofs.KeptLists.{length-nodes_of}
use Rattle.slotted_classes.proofs.OwnIds.{has-row, own-map}
use Rattle.slotted_lookup.specs.Filling.{FillsId, MakesAtMost, RunsOut, filled_id, lacked, missing, named, with_fresh}
use Rattle.slotted_lookup.proofs.IdFillings.{Knows, all_known, filled-fills, filled-known, filled-whole, knows}
use Rattle.slotted_lookup.proofs.filling.fill_id.Goals as goal

-- the map of a class's slots to themselves, with the names in their places
answer : (k : Kept) (c : ℕ) (a : Applied) (n m : List (ℕ × ℕ)) → n ≡ identity (canonical_slots (nodes_of k) a.0) → keys m ≡ keys n → values m ≡ named c a.1 (values n) → (a.0, m) ≡ filled_id k c a
answer k c a n m e ks vs =
    let ss = canonical_slots (nodes_of k) a.0 in
    let is : m ≡ zip ss (named c a.1 ss) =
    sym (zip-keys_values m)
    ∙ (λ i. zip ((ks ∙ (ap keys e ∙ keys-identity ss)) i) ((vs ∙ ap (named c a.1) (ap values e ∙ values-identity ss)) i)) in
    λ i. (a.0, is i)

-- as many names are missing
lacks : (k : Kept) (a : Applied) (n : List (ℕ × ℕ)) → n ≡ identity (canonical_slots (nodes_of k) a.0) → lacked a.1 (values n) ≡ missing k a
lacks k a n e = ap (lacked a.1) (ap values e ∙ values-identity (canonical_slots (nodes_of k) a.0))

-- the class of an id that finds has a row, which files its canonical slots
own : (k : Kept) → k.rows ≡ rows_from 0 k.classes → (a : Applied) → IsFindable k a → (m n : List (ℕ × ℕ)) → m ≡ names_at k a.0 → n ≡ between m m → n ≡ identity (canonical_slots (nodes_of k) a.0)
own k rows a v m n at e = e ∙ own-map k rows a.0 (omega (arith, v.in_range, length-nodes_of k)) m at

pub names_of-slots-requires : goal.names_of-slots-requires
names_of-slots-requires g c =
    let k : Kept = c.args.store.now in
    has-row k c.requires.rows c.args.a.now.id.0 (omega (arith, c.requires.findable.in_range, length-nodes_of k))

pub returns-in_err-name_values-clause-takes : goal.returns-in_err-name_values-clause-takes
returns-in_err-name_values-clause-takes g c =
    let k : Kept = c.args.store.now in
    let a = to_applied c.args.a.now in
    let e = own k c.requires.rows a c.requires.findable c.names_of-slots.result.now c.in_ok-names.names c.names_of-slots.ensures c.in_ok-names.ensures.ok in
    subst (λ n. MakesAtMost n c.args.table.now c.name_values.new.table) (lacks k a c.in_ok-names.names e) c.name_values.ensures.takes

pub returns-in_err-name_values-clause-full : goal.returns-in_err-name_values-clause-full
returns-in_err-name_values-clause-full g c out =
    let k : Kept = c.args.store.now in
    let a = to_applied c.args.a.now in
    let e = own k c.requires.rows a c.requires.findable c.names_of-slots.result.now c.in_ok-names.names c.names_of-slots.ensures c.in_ok-names.ensures.ok in
    subst (λ n. RunsOut n c.args.table.now c.name_values.new.table) (lacks k a c.in_ok-names.names e) (c.in_err-name_values.ensures.full (search rules))

pub returns-clause-takes : goal.returns-clause-takes
returns-clause-takes g c =
    let k : Kept = c.args.store.now in
    let a = to_applied c.args.a.now in
    let e = own k c.requires.rows a c.requires.findable c.names_of-slots.result.now c.in_ok-names.names c.names_of-slots.ensures c.in_ok-names.ensures.ok in
    subst (λ n. MakesAtMost n c.args.table.now c.name_values.new.table) (lacks k a c.in_ok-names.names e) c.name_values.ensures.takes

pub returns-clause-made : goal.returns-clause-made
returns-clause-made g c =
    let k : Kept = c.args.store.now in
    let a = to_applied c.args.a.now in
    let e = own k c.requires.rows a c.requires.findable c.names_of-slots.result.now c.in_ok-names.names c.names_of-slots.ensures c.in_ok-names.ensures.ok in
    c.in_ok-name_values.ensures.made ∙ ap (λ n. with_fresh n c.args.table.now) (lacks k a c.in_ok-names.names e)

pub returns-clause-id : goal.returns-clause-id
returns-clause-id g c =
    let k : Kept = c.args.store.now in
    let a = to_applied c.args.a.now in
    let e = own k c.requires.rows a c.requires.findable c.names_of-slots.result.now c.in_ok-names.names c.names_of-slots.ensures c.in_ok-names.ensures.ok in
    answer k c.args.table.now.fresh a c.in_ok-names.names c.name_values.new.slots e c.in_ok-name_values.ensures.keys c.in_ok-name_values.ensures.values

pub returns-clause-fills : goal.returns-clause-fills
returns-clause-fills g c =
    let k : Kept = c.args.store.now in
    let a = to_applied c.args.a.now in
    let e = own k c.requires.rows a c.requires.findable c.names_of-slots.result.now c.in_ok-names.names c.names_of-slots.ensures c.in_ok-names.ensures.ok in
    subst (FillsId k c.args.table.now a) (sym (answer k c.args.table.now.fresh a c.in_ok-names.names c.name_values.new.slots e c.in_ok-name_values.ensures.keys c.in_ok-name_values.ensures.values))
    (filled-fills k c.args.table.now a c.requires.findable)

pub returns-clause-same : goal.returns-clause-same
returns-clause-same g c =
    let k : Kept = c.args.store.now in
    let a = to_applied c.args.a.now in
    let e = own k c.requires.rows a c.requires.findable c.names_of-slots.result.now c.in_ok-names.names c.names_of-slots.ensures c.in_ok-names.ensures.ok in
    λ full.
    answer k c.args.table.now.fresh a c.in_ok-names.names c.name_values.new.slots e c.in_ok-name_values.ensures.keys c.in_ok-name_values.ensures.values ∙ filled-whole k c.args.table.now.fresh a full

pub returns-clause-known : goal.returns-clause-known
returns-clause-known g c =
    let k : Kept = c.args.store.now in
    let a = to_applied c.args.a.now in
    let t : Table = c.args.table.now in
    let u : Table = c.name_values.new.table in
    let e = own k c.requires.rows a c.requires.findable c.names_of-slots.result.now c.in_ok-names.names c.names_of-slots.ensures c.in_ok-names.ensures.ok in
    let is = answer k t.fresh a c.in_ok-names.names c.name_values.new.slots e c.in_ok-name_values.ensures.keys c.in_ok-name_values.ensures.values in
    let made : u.fresh ≡ t.fresh + lacked a.1 (values c.in_ok-names.names) = ap (λ (v : Table). v.fresh) c.in_ok-name_values.ensures.made in
    let room : t.fresh + missing k a ≤ u.fresh = omega (arith, made, lacks k a c.in_ok-names.names e) in
    λ known. all_known u (values c.name_values.new.slots) (subst (λ (b : Applied). Knows u (values b.1)) (sym is) (filled-known k t u t.fresh a c.name_values.ensures.more room (knows t (values a.1) known)))
