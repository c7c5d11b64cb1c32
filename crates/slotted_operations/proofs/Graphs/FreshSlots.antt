-- The slots of classes stay fresh ones that the table made, so it knows each name of a canonical node.
use Rattle.std.proofs.Common.{◌∙◌, ◌<◌, ℕ, length, sym, subst, inl, inr}
use Rattle.std.specs.Prelude.{IsTrue, Contains, slice_index_or}
use Rattle.std.proofs.lemmas.Bool.{lt-ltb, ltb-true}
use Rattle.slotted_lists.proofs.Members.{Contains-In}
use Rattle.slotted_slots.specs.Table.{Table, is_known, fresh_slot, KnowsMore, AllKnown}
use Rattle.slotted_slots.proofs.TableLaws.{is_known-fresh_slot, is_known-numeric_slot}
use Rattle.slotted_theory.specs.Nameless.{DTerm}
use Rattle.slotted_model.specs.Ascending.{names}
use Rattle.slotted_classes.specs.Kept.{Kept, node_at}
use Rattle.slotted_operations.specs.Good.{Good, HasFreshSlots}
use Rattle.slotted_classes.proofs.NameMaps.{In-at}
use Rattle.slotted_classes.proofs.ClassNodes.{node-is}

-- a table that knows more has made the slots of the classes too
pub fresh_slots-more : (t u : Table) (k : Kept) → KnowsMore t u → HasFreshSlots t k → HasFreshSlots u k
fresh_slots-more t u k more over i s l c =
    let b = over i s l c in
    let known : IsTrue (is_known t (fresh_slot b.index)) = is_known-fresh_slot t b.index ∙ lt-ltb b.index t.fresh b.made in
    record {
      index = b.index;
      is_slot = b.is_slot;
      unused = b.unused;
      made = ltb-true b.index u.fresh (sym (is_known-fresh_slot u b.index) ∙ more (fresh_slot b.index) known);
    }

-- the names at the places of a canonical node are slots of its class and numbers of binders
pub stored-known : (t : Table) (k : Kept) → Good k → HasFreshSlots t k → (i : ℕ) → i < length k.classes → AllKnown t (node_at k i).names
stored-known t k good over i l j d h =
    let x : ℕ = slice_index_or (node_at k i).names j d in
    elim (good.numbered i l x (Contains-In (node_at k i).names x (In-at (node_at k i).names j d h))) [
      | inl free ↦
          let b = over i x l (subst (λ (e : DTerm). Contains (names e) x) (node-is k i l) free) in
          subst (λ y. IsTrue (is_known t y)) (sym b.is_slot) (is_known-fresh_slot t b.index ∙ lt-ltb b.index t.fresh b.made)
      | inr n ↦ subst (λ y. IsTrue (is_known t y)) (sym n.1) (is_known-numeric_slot t n.0)
    ]
