-- What a fitting table extracts: a tree that is looked up as what the id finds, at the cost of its class; and there is one.
use Rattle.std.proofs.Common.{◌≡◌, ℕ, List, [], ◌∷◌, Some, sym, ◌∙◌, ap, refl, subst, inl, inr}
use Rattle.std.specs.Prelude.{Contains, option_map, option_and_then}
use Rattle.std.proofs.lemmas.Bool.{cases_eq}
use Rattle.std.proofs.lemmas.List.Elements.{Contains-append_left, Contains-append_right}
use Rattle.slotted_lists.proofs.Contained.{contains_head, contains_tail}
use Rattle.slotted_lists.proofs.Options.{Some-same}
use Rattle.slotted_theory.specs.Nameless.{DArgs, DTerm, stop, place, sub, scope, moved}
use Rattle.slotted_theory.specs.FiniteMaps.{filled}
use Rattle.slotted_theory.specs.Renaming.{IsInjective}
use Rattle.slotted_theory.specs.Shape.{shape}
use Rattle.slotted_theory.proofs.Filled.{filled-injective}
use Rattle.slotted_theory.proofs.Values.{node, child_before}
use Rattle.slotted_model.specs.Applied.{Applied, as_term, applied_of, EachChild}
use Rattle.slotted_model.specs.Classes.{IsFull}
use Rattle.slotted_model.specs.Find.{find_class, find, Linked}
use Rattle.slotted_model.specs.LookUp.{both, look_up_args}
use Rattle.slotted_model.specs.Normal.{normal_args, normal}
use Rattle.slotted_model.specs.ProofList.{node_of}
use Rattle.slotted_model.specs.State.{Row, State, filed_node, look_up_normal, look_up_node, look_up_tree, child_classes}
use Rattle.slotted_model.specs.Rest.{IsValidIn, AtRest}
use Rattle.slotted_model.specs.Trees.{HasNoIds, IsTree}
use Rattle.slotted_model.specs.Cost.{CostFunction, null_children, AreAlike, child_costs, tree_cost}
use Rattle.slotted_model.specs.Extraction.{IsLawfulFor, TableEntry, cost_in, costs_in, IsInOrder, Extracts, by_entry, ExtractsArgs, no_more, own_name, extracted, under_binder}
use Rattle.slotted_model.proofs.Data.Options.{option_map-some, None-Some}
use Rattle.slotted_model.proofs.Complete.AtRest.{normal-again}
use Rattle.slotted_model.proofs.Represented.Children.{EachChild-map}
use Rattle.slotted_model.proofs.Finds.Congruence.{child-applied}
use Rattle.slotted_model.proofs.Rebuilding.Events.{normal-found}
use Rattle.slotted_model.proofs.Complete.Marks.{child_classes-moved}
use Rattle.slotted_model.proofs.Rebuilding.RowNodes.{source-id, row_node, node-valid, row-normal, row-again}
use Rattle.slotted_model.proofs.Rebuilding.Rows.{current-look_up, rest-current}
use Rattle.slotted_model.proofs.LeastTerms.Costs.{alike-moved}
use Rattle.slotted_model.proofs.LeastTerms.Tables.{cost-later, costs-append, costs-by, costs-each, row-count, IsEntry, entry}

-- the same names, binders and places of children
null_children-extracted : {C : Type 0} {g : State} {table : List (TableEntry C)} {d e : DArgs} → ExtractsArgs g table d e → null_children d ≡ null_children e
null_children-extracted no_more = refl
null_children-extracted (own_name {x = x} h) = ap (place x) (null_children-extracted h)
null_children-extracted (extracted x h) = ap (sub 0 [] stop) (null_children-extracted h)
null_children-extracted (under_binder h l) = λ i. scope (null_children-extracted h i) (null_children-extracted l i)

module _ {C : Type 0} (g : State) (k : CostFunction C) (table : List (TableEntry C)) (rest : AtRest g) (in_order : IsInOrder g k table) where
  abbrev linked : Linked g.nodes g.found
  linked = rest.sane.sound.linked

  row-classes : (r : Row) → Contains g.rows r → (b : Applied) → IsFull g.nodes b → b.0 ≡ r.source → child_classes (normal_args g.found (row_node r b).args) ≡ child_classes r.shape.args
  row-classes r c b full s =
      ap (λ (t : DTerm). child_classes t.args) (row-again g rest r c b full s) ∙ (child_classes-moved (filled b.1) (filed_node r).args ∙ child_classes-moved (filled r.slots) r.shape.args)

  mutual
    -- what is extracted is looked up as what the id finds
    pub extracted-look_up : {a : Applied} {t : DTerm} → Extracts g table a t → look_up_tree g t ≡ Some (find g.found a)
    extracted-look_up {a} (by_entry {args = args} e b c full s same h) =
        let i : IsEntry C g k table e = entry g k table in_order e c in
        let d : DTerm = row_node e.row b in
        let n : DTerm = node_of g.nodes b in
        let twice : normal g.found (normal g.found d) ≡ normal g.found n =
        ap (normal g.found) (row-again g rest e.row i.filed b full s ∙ row-normal g rest e.row i.filed b s) ∙ normal-again g.nodes g.found linked n (node-valid g rest b full) in
        ap (option_and_then (λ found. look_up_node g (node d.op d.payloads found))) (extracted-look_up_args h)
        ∙ (ap (look_up_normal g) twice ∙ (current-look_up g linked rest.sane.filed e.row i.filed (rest-current g rest e.row i.filed) b full s ∙ ap Some same))

    extracted-look_up_args : {d e : DArgs} → ExtractsArgs g table d e → look_up_args (look_up_node g) e ≡ Some (normal_args g.found d)
    extracted-look_up_args no_more = refl
    extracted-look_up_args (own_name {x = x} h) = ap (option_map (place x)) (extracted-look_up_args h)
    extracted-look_up_args (extracted x h) = λ i. both (λ a found. child_before (as_term a) found) (extracted-look_up x i) (extracted-look_up_args h i)
    extracted-look_up_args (under_binder h l) = λ i. both scope (extracted-look_up_args h i) (extracted-look_up_args l i)

  mutual
    -- it is a tree
    pub extracted-tree : {a : Applied} {t : DTerm} → Extracts g table a t → IsTree t
    extracted-tree (by_entry e b c full s same h) = record { operator = (rest.sane.filed.each e.row (entry g k table in_order e c).filed).operator; children = extracted-tree_args h }

    extracted-tree_args : {d e : DArgs} → ExtractsArgs g table d e → HasNoIds e
    extracted-tree_args no_more = tt
    extracted-tree_args (own_name h) = extracted-tree_args h
    extracted-tree_args (extracted x h) = let t = extracted-tree x in (t.operator, t.children, extracted-tree_args h)
    extracted-tree_args (under_binder h l) = (extracted-tree_args h, extracted-tree_args l)

  module _ (law : IsLawfulFor C g k) where
    mutual
      -- its cost is that of the class
      pub extracted-cost : {a : Applied} {t : DTerm} → Extracts g table a t → cost_in table (find_class g.found a.0) ≡ Some (tree_cost k t)
      extracted-cost {a} (by_entry {args = args} e b c full s same h) =
          let i : IsEntry C g k table e = entry g k table in_order e c in
          let r : Row = e.row in
          let d : DTerm = row_node r b in
          let t : DTerm = node r.shape.op r.shape.payloads args in
          let xs : List C = child_costs k args in
          let there : costs_in table (child_classes r.shape.args) ≡ Some xs = ap (costs_in table) (sym (row-classes r i.filed b full s)) ∙ extracted-costs h in
          let inj : IsInjective (filled r.slots) = filled-injective r.slots (rest.sane.filed.each r i.filed).injective in
          let alike : AreAlike r.shape t =
          sym (alike-moved (filled r.slots) inj r.shape)
          ∙ (sym (alike-moved (filled b.1) (filled-injective b.1 full.injective) (filed_node r)) ∙ ap (λ z. shape (node r.shape.op r.shape.payloads z)) (null_children-extracted h)) in
          let cost : k.node_cost t xs ≡ e.cost =
          sym (law.alike r.shape t xs (r, i.filed, refl) (r, i.filed, sym alike) alike (row-count table r xs there)) ∙ Some-same (k.node_cost r.shape xs) e.cost (ap (option_map (k.node_cost r.shape)) (sym there) ∙ i.row) in
          let class : find_class g.found a.0 ≡ e.class = ap (λ (x : Applied). x.0) (sym same) ∙ (ap (find_class g.found) s ∙ i.class) in
          ap (cost_in table) class ∙ (i.cost ∙ ap Some (sym cost))

      extracted-costs : {d e : DArgs} → ExtractsArgs g table d e → costs_in table (child_classes (normal_args g.found d)) ≡ Some (child_costs k e)
      extracted-costs no_more = refl
      extracted-costs (own_name h) = extracted-costs h
      extracted-costs (extracted {payloads = p} {args = args} {d = d} {e = e} {t = t} x h) =
          costs-by table (find_class g.found (applied_of p args).0) (child_classes (normal_args g.found d)) (tree_cost k t) (child_costs k e) (extracted-cost x) (extracted-costs h)
      extracted-costs (under_binder {c = c} {f = f} {d = d} {e = e} h l) =
          costs-append table (child_classes (normal_args g.found c)) (child_classes (normal_args g.found d)) (child_costs k f) (child_costs k e) (extracted-costs h) (extracted-costs l)

-- what holds of each child, and of each child's class
each-class : (P : Applied → Type 0) (Q : ℕ → Type 0) (d : DArgs) → EachChild P d → ((c : ℕ) → Contains (child_classes d) c → Q c) → EachChild (λ a. P a × Q a.0) d
each-class P Q stop h q = tt
each-class P Q (place x rest) h q = each-class P Q rest h q
each-class P Q (sub op payloads args rest) h q =
    let c : ℕ = (applied_of payloads args).0 in
    let same : c ≡ h.0.0.0 = ap (λ (a : Applied). a.0) (child-applied P op payloads args h.0) in
    ((h.0.0, h.0.1, (h.0.2, subst Q same (q c (contains_head c (child_classes rest))))), each-class P Q rest h.1 (λ b i. q b (contains_tail c (child_classes rest) b i)))
each-class P Q (scope inner rest) h q = (
  each-class P Q inner h.0 (λ c i. q c (Contains-append_left (child_classes inner) (child_classes rest) c i)),
  each-class P Q rest h.1 (λ c i. q c (Contains-append_right (child_classes inner) (child_classes rest) c i)),
)

-- there is something to extract for arguments if there is for each child
extracts-args : {C : Type 0} (g : State) (table : List (TableEntry C)) (P : Applied → Type 0) → ((a : Applied) → P a → (t : DTerm) × Extracts g table a t) → (d : DArgs) → EachChild P d → (e : DArgs) × ExtractsArgs g table d e
extracts-args g table P h stop c = (stop, no_more)
extracts-args g table P h (place x rest) c = let r : (e : DArgs) × ExtractsArgs g table rest e = extracts-args g table P h rest c in (place x r.0, own_name r.1)
extracts-args g table P h (sub op payloads args rest) c =
    let t : (t : DTerm) × Extracts g table c.0.0 t = h c.0.0 c.0.2 in
    let r : (e : DArgs) × ExtractsArgs g table rest e = extracts-args g table P h rest c.1 in
    (child_before t.0 r.0, extracted (subst (λ a. Extracts g table a t.0) (sym (child-applied P op payloads args c.0)) t.1) r.1)
extracts-args g table P h (scope inner rest) c =
    let o : (e : DArgs) × ExtractsArgs g table inner e = extracts-args g table P h inner c.0 in
    let r : (e : DArgs) × ExtractsArgs g table rest e = extracts-args g table P h rest c.1 in
    (scope o.0 r.0, under_binder o.1 r.1)

module _ {C : Type 0} (g : State) (k : CostFunction C) (table : List (TableEntry C)) (rest : AtRest g) (in_order : IsInOrder g k table) where
  -- there is something to extract for each id whose class is in the table: the children of an entry's row are found in the entries before it
  extracts-from : (entries : List (TableEntry C)) → ((e : TableEntry C) → Contains entries e → Contains table e) → IsInOrder g k entries →
      (a : Applied) → IsValidIn g a → (x : C) → cost_in entries (find_class g.found a.0) ≡ Some x → (t : DTerm) × Extracts g table a t
  extracts-from [] within h a v x p = absurd (None-Some x p)
  extracts-from (e ∷ entries) within h a v x p = elim (cases_eq e.class (find_class g.found a.0)) [
    | inr n ↦ extracts-from entries (λ d i. within d (contains_tail e entries d i)) h.1 a v x (sym (cost-later e entries (find_class g.found a.0) n) ∙ p)
    | inl q ↦
        let r : Row = e.row in
        let filed : Contains g.rows r = h.0.candidate.filed in
        let l : Linked g.nodes g.found = rest.sane.sound.linked in
        let b : (b : Applied) × IsFull g.nodes b × (b.0 ≡ r.source) × (find g.found b ≡ find g.found a) = source-id g l r.source (rest.sane.filed.each r filed).in_range a v (h.0.class ∙ q) in
        let d : DTerm = moved (filled b.0.1) (filed_node r) in
        let P : Applied → Type 0 = λ c. IsValidIn g c × (find g.found c ≡ c) in
        let Q : ℕ → Type 0 = λ c. (y : C) × (cost_in entries c ≡ Some y) in
        let R : Applied → Type 0 = λ c. IsValidIn g c × Q (find_class g.found c.0) in
        let costs : (xs : List C) × (costs_in entries (child_classes r.shape.args) ≡ Some xs) × (k.node_cost r.shape xs ≡ e.cost) =
        option_map-some (k.node_cost r.shape) (costs_in entries (child_classes r.shape.args)) e.cost h.0.candidate.cost in
        let classes : child_classes d.args ≡ child_classes r.shape.args = child_classes-moved (filled b.0.1) (filed_node r).args ∙ child_classes-moved (filled r.slots) r.shape.args in
        let found : EachChild P d.args =
        subst (λ (t : DTerm). EachChild P t.args) (sym (row-normal g rest r filed b.0 b.2)) (normal-found g l (node_of g.nodes b.0).args (node-valid g rest b.0 b.1)) in
        let there : EachChild (λ c. P c × Q c.0) d.args = each-class P Q d.args found (λ c i. costs-each entries (child_classes r.shape.args) costs.0 costs.1 c (subst (λ cs. Contains cs c) classes i)) in
        let children : EachChild R d.args = EachChild-map (λ c. P c × Q c.0) R (λ c i. (i.0.0, subst Q (ap (λ (z : Applied). z.0) (sym i.0.1)) i.1)) d.args there in
        let made : (args : DArgs) × ExtractsArgs g table d.args args =
        extracts-args g table R (λ c i. extracts-from entries (λ f j. within f (contains_tail e entries f j)) h.1 c i.0 i.1.0 i.1.1) d.args children in
        (node r.shape.op r.shape.payloads made.0, by_entry e b.0 (within e (contains_head e entries)) b.1 b.2 b.3 made.1)
  ]

  pub extracts : (a : Applied) → IsValidIn g a → (x : C) → cost_in table (find_class g.found a.0) ≡ Some x → (t : DTerm) × Extracts g table a t
  extracts = extracts-from table (λ e c. c) in_order
