-- What is extracted moves with names, and is made by the entry of the found class.
use Rattle.std.proofs.Common.{◌≡◌, ℕ, List, [], ◌∷◌, sym, ◌∙◌, ap, subst, inl, inr}
use Rattle.std.specs.Prelude.{Contains}
use Rattle.slotted_lists.proofs.Contained.{contains_cases, Contains-nil}
use Rattle.slotted_theory.specs.Nameless.{DArgs, DTerm, lift, moved, moved_args}
use Rattle.slotted_theory.specs.Renaming.{IsInjective}
use Rattle.slotted_theory.proofs.Names.{lift-injective}
use Rattle.slotted_model.specs.Applied.{Applied, renamed_id}
use Rattle.slotted_model.specs.Classes.{IsFull}
use Rattle.slotted_model.specs.Find.{find_class}
use Rattle.slotted_model.specs.State.{Row, State}
use Rattle.slotted_model.specs.Rest.{AtRest}
use Rattle.slotted_model.specs.Cost.{CostFunction}
use Rattle.slotted_model.specs.Extraction.{TableEntry, cost_in, IsInOrder, Extracts, by_entry, ExtractsArgs, no_more, own_name, extracted, under_binder, IsMadeBy}
use Rattle.slotted_model.proofs.Data.Options.{None-Some}
use Rattle.slotted_model.proofs.Represented.Full.{full-renamed}
use Rattle.slotted_model.proofs.Finds.NormalIds.{found-renamed}
use Rattle.slotted_model.proofs.Represented.RenamedIds.{applied_of-moved, normal-renamed}
use Rattle.slotted_model.proofs.Rebuilding.RowNodes.{row_node, row-normal}
use Rattle.slotted_model.proofs.LeastTerms.Tables.{entry, entry-new}

module _ {C : Type 0} (g : State) (k : CostFunction C) (table : List (TableEntry C)) (rest : AtRest g) (in_order : IsInOrder g k table) where
  -- the node of a row, with the names of a renamed full id of its source
  row_node-renamed : (r : Row) → Contains g.rows r → (b : Applied) → IsFull g.nodes b → b.0 ≡ r.source → (f : ℕ → ℕ) → row_node r (renamed_id f b) ≡ moved f (row_node r b)
  row_node-renamed r c b full s f =
      row-normal g rest r c (renamed_id f b) s ∙ (normal-renamed g.nodes g.found b full f ∙ ap (moved f) (sym (row-normal g rest r c b s)))

  mutual
    -- what is extracted moves with names
    pub extracted-moved : (f : ℕ → ℕ) → IsInjective f → {a : Applied} {t : DTerm} → Extracts g table a t → Extracts g table (renamed_id f a) (moved f t)
    extracted-moved f inj {a} (by_entry {args = args} e b c full s same h) =
        let node : row_node e.row (renamed_id f b) ≡ moved f (row_node e.row b) = row_node-renamed e.row (entry g k table in_order e c).filed b full s f in
        by_entry e (renamed_id f b) c (full-renamed g.nodes b full f (λ x y i j. inj x y)) s
        (found-renamed g.found f b ∙ (ap (renamed_id f) same ∙ sym (found-renamed g.found f a)))
        (subst (λ (d : DTerm). ExtractsArgs g table d.args (moved_args f args)) (sym node) (extracted_args-moved f inj h))

    extracted_args-moved : (f : ℕ → ℕ) → IsInjective f → {d e : DArgs} → ExtractsArgs g table d e → ExtractsArgs g table (moved_args f d) (moved_args f e)
    extracted_args-moved f inj no_more = no_more
    extracted_args-moved f inj (own_name h) = own_name (extracted_args-moved f inj h)
    extracted_args-moved f inj (extracted {op = op} {payloads = payloads} {args = args} {t = t} x h) =
        extracted {op = op} {payloads = payloads} {args = moved_args f args} {t = moved f t}
        (subst (λ a. Extracts g table a (moved f t)) (sym (applied_of-moved f payloads args)) (extracted-moved f inj x)) (extracted_args-moved f inj h)
    extracted_args-moved f inj (under_binder h l) = under_binder (extracted_args-moved (lift f) (lift-injective f inj) h) (extracted_args-moved f inj l)

module _ {C : Type 0} (g : State) (k : CostFunction C) where
  -- an entry after the first is of another class
  later-class : (d : TableEntry C) (table : List (TableEntry C)) → IsInOrder g k (d ∷ table) → (e : TableEntry C) → Contains table e → d.class ≡ e.class → ⊥
  later-class d table h e c q = None-Some e.cost (sym (entry-new g k d table h.0) ∙ (ap (cost_in table) q ∙ (entry g k table h.1 e c).cost))

  -- each class has one entry
  one-entry : (table : List (TableEntry C)) → IsInOrder g k table → (d e : TableEntry C) → Contains table d → Contains table e → d.class ≡ e.class → d ≡ e
  one-entry [] h d e c i q = absurd (Contains-nil d c)
  one-entry (x ∷ table) h d e c i q = elim (contains_cases x table d c) [
    | inl p ↦ elim (contains_cases x table e i) [
      | inl s ↦ p ∙ sym s
      | inr j ↦ absurd (later-class x table h e j (sym (ap (λ (y : TableEntry C). y.class) p) ∙ q))
    ]
    | inr b ↦ elim (contains_cases x table e i) [
      | inl s ↦ absurd (later-class x table h d b (sym (ap (λ (y : TableEntry C). y.class) s) ∙ sym q))
      | inr j ↦ one-entry table h.1 d e b j q
    ]
  ]

  -- what is extracted is made by the entry of the found class
  pub extracted-made : (table : List (TableEntry C)) → IsInOrder g k table → {a : Applied} {t : DTerm} → Extracts g table a t → (e : TableEntry C) → Contains table e → e.class ≡ find_class g.found a.0 → IsMadeBy g table a t e
  extracted-made table in_order {a} (by_entry {args = args} d b c full s same h) e i q =
      let class : d.class ≡ e.class = sym (ap (find_class g.found) s ∙ (entry g k table in_order d c).class) ∙ (ap (λ (x : Applied). x.0) same ∙ sym q) in
      let one : d ≡ e = one-entry table in_order d e c i class in
      subst (IsMadeBy g table a (record { op = d.row.shape.op; payloads = d.row.shape.payloads; args = args })) one
      (record { id = b; args = args; full = full; source = s; alike = same; children = h; term = λ i. record { op = d.row.shape.op; payloads = d.row.shape.payloads; args = args } })
