-- A tree whose value is an id is looked up as that id; where no class is marked, each tree that is looked up has such a value.
use Rattle.std.proofs.Common.{◌≡◌, ℕ, ◌<◌, Option, Some, None, Bool, false, sym, ◌∙◌, ap, refl, inl, inr}
use Rattle.std.specs.Prelude.{◌||◌, nat_lt, option_map, option_and_then}
use Rattle.std.proofs.lemmas.Bool.{cases_Bool, false≢true, lt-ltb}
use Rattle.slotted_lists.proofs.Booleans.{or-false}
use Rattle.slotted_lists.proofs.Options.{Some-same}
use Rattle.slotted_theory.specs.Nameless.{DArgs, DTerm, stop, place, sub, scope}
use Rattle.slotted_theory.proofs.Values.{node, child_before, value_args}
use Rattle.slotted_model.specs.Applied.{Applied, as_term}
use Rattle.slotted_model.specs.Trees.{HasNoIds, IsTree}
use Rattle.slotted_model.specs.Ids.{term_eq}
use Rattle.slotted_model.specs.LookUp.{both, look_up_args, look_up}
use Rattle.slotted_model.specs.Value.{fixed, has_fixed, has_node, id_value, answer_value, step, value_of_term}
use Rattle.slotted_model.proofs.Data.Options.{option_map-some, both-some, and_then-some}
use Rattle.slotted_model.proofs.Represented.Folds.{as_term-same}
use Rattle.slotted_model.proofs.Complete.Marks.{step-fixed, step-node, step-ids, id_value-marked, id_value-plain}

-- the look-up of a node over ids gave this id as its value
pub record Answered (look : DTerm → Option Applied) (marked : ℕ → Bool) (d : DTerm) : Type 0 where
  pub answer : Applied
  pub looked_up : look d ≡ Some answer
  pub value : step look marked d ≡ as_term answer
  pub no_fixed : has_fixed d.args ≡ false
  pub no_node : has_node d.args ≡ false

module _ (look : DTerm → Option Applied) (marked : ℕ → Bool) where
  pub answered : (d : DTerm) → 0 < d.op → term_eq (step look marked d) fixed ≡ false → nat_lt 0 (step look marked d).op ≡ false → Answered look marked d
  answered d h not_fixed not_node = elim (cases_Bool (has_fixed d.args)) [
    | inl p ↦ absurd (false≢true (sym not_fixed ∙ ap (λ v. term_eq v fixed) (step-fixed look marked d p)))
    | inr p ↦ elim (cases_Bool (has_node d.args)) [
      | inl q ↦ absurd (false≢true (sym not_node ∙ (ap (λ (v : DTerm). nat_lt 0 v.op) (step-node look marked d p q) ∙ lt-ltb 0 d.op h)))
      | inr q ↦ go p q (look d) refl
    ]
  ]
    where
      go : has_fixed d.args ≡ false → has_node d.args ≡ false → (o : Option Applied) → look d ≡ o → Answered look marked d
      go p q None e =
          let v : step look marked d ≡ d = step-ids look marked d p q ∙ ap (λ o. answer_value marked o d) e in
          absurd (false≢true (sym not_node ∙ (ap (λ (t : DTerm). nat_lt 0 t.op) v ∙ lt-ltb 0 d.op h)))
      go p q (Some a) e =
          let v : step look marked d ≡ id_value marked a = step-ids look marked d p q ∙ ap (λ o. answer_value marked o d) e in
          elim (cases_Bool (marked a.0)) [
            | inl m ↦ absurd (false≢true (sym not_fixed ∙ ap (λ t. term_eq t fixed) (v ∙ id_value-marked marked a m)))
            | inr m ↦ record { answer = a; looked_up = e; value = v ∙ id_value-plain marked a m; no_fixed = p; no_node = q }
          ]

  -- where no child's value is fixed or a node, the children are looked up
  look_up_args-values : (d : DArgs) → HasNoIds d → has_fixed (value_args (step look marked) d) ≡ false → has_node (value_args (step look marked) d) ≡ false → look_up_args look d ≡ Some (value_args (step look marked) d)
  look_up_args-values stop h p q = refl
  look_up_args-values (place x rest) h p q = ap (option_map (place x)) (look_up_args-values rest h p q)
  look_up_args-values (sub op payloads args rest) h p q =
      let n : DTerm = node op payloads (value_args (step look marked) args) in
      let pp : (term_eq (step look marked n) fixed ≡ false) × (has_fixed (value_args (step look marked) rest) ≡ false) = or-false (term_eq (step look marked n) fixed) (has_fixed (value_args (step look marked) rest)) p in
      let qq : (nat_lt 0 (step look marked n).op ≡ false) × (has_node (value_args (step look marked) rest) ≡ false) = or-false (nat_lt 0 (step look marked n).op) (has_node (value_args (step look marked) rest)) q in
      let r : Answered look marked n = answered n h.0 pp.0 qq.0 in
      let answer : Option DArgs → Option Applied = option_and_then (λ found. look (node op payloads found)) in
      let e : answer (look_up_args look args) ≡ Some r.answer = ap answer (look_up_args-values args h.1 r.no_fixed r.no_node) ∙ r.looked_up in
      (λ i. both (λ a found. child_before (as_term a) found) (e i) (look_up_args-values rest h.2 pp.1 qq.1 i))
      ∙ (λ i. Some (child_before (sym r.value i) (value_args (step look marked) rest)))
  look_up_args-values (scope inner rest) h p q =
      let pp : (has_fixed (value_args (step look marked) inner) ≡ false) × (has_fixed (value_args (step look marked) rest) ≡ false) = or-false (has_fixed (value_args (step look marked) inner)) (has_fixed (value_args (step look marked) rest)) p in
      let qq : (has_node (value_args (step look marked) inner) ≡ false) × (has_node (value_args (step look marked) rest) ≡ false) = or-false (has_node (value_args (step look marked) inner)) (has_node (value_args (step look marked) rest)) q in
      λ i. both scope (look_up_args-values inner h.0 pp.0 qq.0 i) (look_up_args-values rest h.1 pp.1 qq.1 i)

  -- a tree whose value is an id is looked up as that id
  pub value-look_up : (t : DTerm) → IsTree t → (a : Applied) → value_of_term look marked t ≡ as_term a → look_up look t ≡ Some a
  value-look_up t h a e =
      let n : DTerm = node t.op t.payloads (value_args (step look marked) t.args) in
      let r : Answered look marked n = answered n h.operator (ap (λ v. term_eq v fixed) e) (ap (λ (v : DTerm). nat_lt 0 v.op) e) in
      ap (option_and_then (λ found. look (node t.op t.payloads found))) (look_up_args-values t.args h.children r.no_fixed r.no_node)
      ∙ (r.looked_up ∙ ap Some (as_term-same r.answer a (sym r.value ∙ e)))

-- what the look-up of children gives where no class is marked
record Looked (look : DTerm → Option Applied) (d e : DArgs) : Type 0 where
  values : value_args (step look (λ c. false)) d ≡ e
  no_fixed : has_fixed e ≡ false
  no_node : has_node e ≡ false

module _ (look : DTerm → Option Applied) where
  looked : (d e : DArgs) → look_up_args look d ≡ Some e → Looked look d e
  looked stop e p =
      let q : stop ≡ e = Some-same stop e p in
      record { values = q; no_fixed = ap has_fixed (sym q); no_node = ap has_node (sym q) }
  looked (place x rest) e p =
      let r : (f : DArgs) × (look_up_args look rest ≡ Some f) × (place x f ≡ e) = option_map-some (place x) (look_up_args look rest) e p in
      let l : Looked look rest r.0 = looked rest r.0 r.1 in
      record {
        values = ap (place x) l.values ∙ r.2;
        no_fixed = ap has_fixed (sym r.2) ∙ l.no_fixed;
        no_node = ap has_node (sym r.2) ∙ l.no_node;
      }
  looked (sub op payloads args rest) e p =
      let answer : Option DArgs → Option Applied = option_and_then (λ found. look (node op payloads found)) in
      let r : (a : Applied) × (f : DArgs) × (answer (look_up_args look args) ≡ Some a) × (look_up_args look rest ≡ Some f) × (child_before (as_term a) f ≡ e) =
      both-some (λ a found. child_before (as_term a) found) (answer (look_up_args look args)) (look_up_args look rest) e p in
      let q : (b : DArgs) × (look_up_args look args ≡ Some b) × (look (node op payloads b) ≡ Some r.0) = and_then-some (λ found. look (node op payloads found)) (look_up_args look args) r.0 r.2 in
      let inside : Looked look args q.0 = looked args q.0 q.1 in
      let after : Looked look rest r.1 = looked rest r.1 r.3 in
      let w : step look (λ c. false) (node op payloads (value_args (step look (λ c. false)) args)) ≡ as_term r.0 =
      ap (λ x. step look (λ c. false) (node op payloads x)) inside.values
      ∙ (step-ids look (λ c. false) (node op payloads q.0) inside.no_fixed inside.no_node ∙ ap (λ o. answer_value (λ c. false) o (node op payloads q.0)) q.2) in
      record {
        values = (λ i. child_before (w i) (after.values i)) ∙ r.4;
        no_fixed = ap has_fixed (sym r.4) ∙ after.no_fixed;
        no_node = ap has_node (sym r.4) ∙ after.no_node;
      }
  looked (scope inner rest) e p =
      let r : (a : DArgs) × (f : DArgs) × (look_up_args look inner ≡ Some a) × (look_up_args look rest ≡ Some f) × (scope a f ≡ e) = both-some scope (look_up_args look inner) (look_up_args look rest) e p in
      let inside : Looked look inner r.0 = looked inner r.0 r.2 in
      let after : Looked look rest r.1 = looked rest r.1 r.3 in
      record {
        values = (λ i. scope (inside.values i) (after.values i)) ∙ r.4;
        no_fixed = ap has_fixed (sym r.4) ∙ (λ i. inside.no_fixed i || after.no_fixed i);
        no_node = ap has_node (sym r.4) ∙ (λ i. inside.no_node i || after.no_node i);
      }

  -- where no class is marked, a tree that is looked up has its id as its value
  pub look_up-value : (t : DTerm) (a : Applied) → look_up look t ≡ Some a → value_of_term look (λ c. false) t ≡ as_term a
  look_up-value t a p =
      let q : (b : DArgs) × (look_up_args look t.args ≡ Some b) × (look (node t.op t.payloads b) ≡ Some a) = and_then-some (λ found. look (node t.op t.payloads found)) (look_up_args look t.args) a p in
      let l : Looked look t.args q.0 = looked t.args q.0 q.1 in
      ap (λ x. step look (λ c. false) (node t.op t.payloads x)) l.values
      ∙ (step-ids look (λ c. false) (node t.op t.payloads q.0) l.no_fixed l.no_node ∙ ap (λ o. answer_value (λ c. false) o (node t.op t.payloads q.0)) q.2)
