-- In a closed graph the term of a full id has the value of what the id finds; so ids of equal terms find alike, up to marked classes.
use Rattle.std.proofs.Common.{◌≡◌, ℕ, zero, suc, ◌<◌, List, [], Option, Some, None, Bool, true, false, sym, ◌∙◌, ap, refl, arith, inl, inr}
use Rattle.std.specs.Prelude.{◌↔◌, Contains, nat_lt}
use Rattle.std.proofs.lemmas.Bool.{cases_Bool, false≢true}
use Rattle.slotted_lists.proofs.Options.{Some-same}
use Rattle.slotted_theory.specs.Nameless.{DArgs, DTerm, stop, place, sub, scope, moved}
use Rattle.slotted_theory.specs.FiniteMaps.{filled}
use Rattle.slotted_theory.specs.Derives.{Equal}
use Rattle.slotted_theory.proofs.Values.{node, child_before, value_args, value, expand_args, expand}
use Rattle.slotted_theory.proofs.Values as inductions
use Rattle.slotted_model.specs.Applied.{Applied, as_term, applied_of, EachChild}
use Rattle.slotted_model.specs.Ids.{term_eq}
use Rattle.slotted_model.specs.Classes.{term_by, stands, terms, canonical_node, term_of, layer_of, IsFull, Canonical}
use Rattle.slotted_model.specs.LookUp.{look_up}
use Rattle.slotted_model.specs.Trees.{IsTree}
use Rattle.slotted_model.specs.Sound.{Sound}
use Rattle.slotted_model.specs.Find.{Entry, find_class, used_slots, find, Linked}
use Rattle.slotted_model.specs.Filling.{IsValid, IsFilling}
use Rattle.slotted_model.specs.Normal.{normal_args, normal}
use Rattle.slotted_model.specs.ProofList.{ProofEntry, node_of, asserted}
use Rattle.slotted_model.specs.State.{child_classes}
use Rattle.slotted_model.specs.Value.{fixed, has_fixed, id_value, answer_value, step, value_of_term}
use Rattle.slotted_model.specs.Closed.{AreAlikeUpTo, IsAnswered, IsFoundPair, IsClosed}
use Rattle.slotted_model.proofs.Represented.Children.{EachChild-map, expand-child}
use Rattle.slotted_model.proofs.Finds.Congruence.{child-applied}
use Rattle.slotted_model.proofs.Represented.Full.{full-children, term_of-layer}
use Rattle.slotted_model.proofs.Finds.NormalIds.{filling-found}
use Rattle.slotted_model.proofs.Represented.RenamedIds.{normal-moves}
use Rattle.slotted_model.proofs.Finds.FindProofs.{found_alike-equal}
use Rattle.slotted_model.proofs.Complete.LookedUpTrees.{Answered, answered, value-look_up, look_up-value}
use Rattle.slotted_model.proofs.Represented.Folds.{as_term-same}
use Rattle.slotted_model.proofs.Represented.Fillings.{term_of-filling}
use Rattle.slotted_model.proofs.Complete.Marks.{has_marked, has_marked-some, has_marked-moved, step-moved, step-fixed, step-ids, id_value-marked, id_value-plain, id_value-same, valued_args, has_fixed-valued, valued-normal, has_node-normal}

-- the values of a node's children, where each child's term has the value of what the child finds
values-found : (ts : List DTerm) (found : List Entry) (look : DTerm → Option Applied) (marked : ℕ → Bool) (d : DArgs) →
    EachChild (λ a. value_of_term look marked (term_by ts a) ≡ id_value marked (find found a)) d →
    value_args (step look marked) (expand_args (stands ts) d) ≡ valued_args found marked d
values-found ts found look marked stop c = refl
values-found ts found look marked (place x rest) c = ap (place x) (values-found ts found look marked rest c)
values-found ts found look marked (sub op payloads args rest) c =
    let e : value_of_term look marked (expand (stands ts) (node op payloads args)) ≡ id_value marked (find found (applied_of payloads args)) =
    ap (value_of_term look marked) (expand-child ts _ (node op payloads args) c.0) ∙ (c.0.2 ∙ ap (λ x. id_value marked (find found x)) (sym (child-applied _ op payloads args c.0))) in
    λ i. child_before (e i) (values-found ts found look marked rest c.1 i)
values-found ts found look marked (scope inner rest) c =
    λ i. scope (values-found ts found look marked inner c.0 i) (values-found ts found look marked rest c.1 i)

-- full ids whose nodes have one normal form find alike
pub congruent-alike : (nodes : List DTerm) (found : List Entry) (E : List (DTerm × DTerm)) (look : DTerm → Option Applied) (marked : ℕ → Bool) → IsClosed nodes found E look marked →
    (a b : Applied) → IsFull nodes a → IsFull nodes b → normal found (node_of nodes a) ≡ normal found (node_of nodes b) → AreAlikeUpTo found marked a b
congruent-alike nodes found E look marked closed a b fa fb same =
    let r : IsAnswered nodes found look marked a = closed.answers a fa in
    let q : IsAnswered nodes found look marked b = closed.answers b fb in
    let one : r.answer ≡ q.answer = Some-same r.answer q.answer (sym r.looked_up ∙ (ap look same ∙ q.looked_up)) in
    let class : find_class found a.0 ≡ find_class found b.0 = sym r.class ∙ (ap (λ (x : Applied). x.0) one ∙ q.class) in
    elim (cases_Bool (marked (find_class found a.0))) [
      | inl p ↦ inr (p, ap marked (sym class) ∙ p)
      | inr p ↦ inl (sym (r.same p) ∙ (one ∙ q.same (ap marked (sym class) ∙ p)))
    ]

module _ (nodes : List DTerm) (can : Canonical nodes) (found : List Entry) (E : List (DTerm × DTerm)) (look : DTerm → Option Applied) (marked : ℕ → Bool) (closed : IsClosed nodes found E look marked) where
  -- a canonical node over what its children find has the value of what its id finds
  step-found : (a : Applied) → IsFull nodes a → has_marked marked (normal found (node_of nodes a)).args ≡ false → step look marked (normal found (node_of nodes a)) ≡ id_value marked (find found a)
  step-found a full none =
      let n : DTerm = normal found (node_of nodes a) in
      let r : IsAnswered nodes found look marked a = closed.answers a full in
      let no_fixed : has_fixed n.args ≡ false =
      ap has_fixed (sym (valued-normal found marked (node_of nodes a).args none)) ∙ (has_fixed-valued found marked (node_of nodes a).args ∙ none) in
      let e : step look marked n ≡ id_value marked r.answer =
      step-ids look marked n no_fixed (has_node-normal found (node_of nodes a).args) ∙ ap (λ o. answer_value marked o n) r.looked_up in
      e ∙ elim (cases_Bool (marked (find_class found a.0))) [
        | inl p ↦ id_value-marked marked r.answer (ap marked r.class ∙ p) ∙ sym (id_value-marked marked (find found a) p)
        | inr p ↦ ap (id_value marked) (r.same p)
      ]

  -- a class over a marked one is marked
  mark-rises : (a : Applied) → IsFull nodes a → has_marked marked (normal found (node_of nodes a)).args ≡ true → marked (find_class found a.0) ≡ true
  mark-rises a full some =
      let d : DTerm = canonical_node nodes a.0 in
      let m : normal found (node_of nodes a) ≡ moved (filled a.1) (normal found d) = normal-moves found (filled a.1) d in
      let here : has_marked marked (normal found d).args ≡ true =
      sym (has_marked-moved marked (filled a.1) (normal found d).args) ∙ (ap (λ (t : DTerm). has_marked marked t.args) (sym m) ∙ some) in
      let r : (c : ℕ) × Contains (child_classes (normal found d).args) c × (marked c ≡ true) = has_marked-some marked (normal found d).args here in
      closed.marks_rise a.0 r.0 full.in_range r.1 r.2

  value-below : (n : ℕ) (a : Applied) → a.0 < n → IsFull nodes a → value_of_term look marked (term_of nodes a) ≡ id_value marked (find found a)
  value-below zero a h full = absurd (omega arith)
  value-below (suc n) a h full =
      let d : DTerm = node_of nodes a in
      let children : EachChild (λ b. value_of_term look marked (term_of nodes b) ≡ id_value marked (find found b)) d.args =
      EachChild-map (λ b. (b.0 < a.0) × IsFull nodes b) (λ b. value_of_term look marked (term_of nodes b) ≡ id_value marked (find found b)) (λ b k. value-below n b (omega (arith, k.0)) k.1) d.args (full-children nodes can a full) in
      let over : value_of_term look marked (term_of nodes a) ≡ step look marked (node d.op d.payloads (valued_args found marked d.args)) =
      ap (value_of_term look marked) (term_of-layer nodes can a full) ∙ ap (λ x. step look marked (node d.op d.payloads x)) (values-found (terms nodes) found look marked d.args children) in
      over ∙ elim (cases_Bool (has_marked marked (normal_args found d.args))) [
        | inl p ↦
            step-fixed look marked (node d.op d.payloads (valued_args found marked d.args)) (has_fixed-valued found marked d.args ∙ p)
            ∙ sym (id_value-marked marked (find found a) (mark-rises a full p))
        | inr p ↦ ap (λ x. step look marked (node d.op d.payloads x)) (valued-normal found marked d.args p) ∙ step-found a full p
      ]

  -- the value of a full id's term
  pub value-full : (a : Applied) → IsFull nodes a → value_of_term look marked (term_of nodes a) ≡ id_value marked (find found a)
  value-full a full = value-below (suc a.0) a (omega arith) full

  -- the two terms of a listed pair have one value
  pub value-pair : (d e : DTerm) → Contains E (d, e) → value_of_term look marked d ≡ value_of_term look marked e
  value-pair d e c =
      let r : IsFoundPair nodes found marked d e = closed.pairs d e c in
      let same : id_value marked (find found r.left) ≡ id_value marked (find found r.right) = elim r.alike [
        | inl p ↦ ap (id_value marked) p
        | inr p ↦ id_value-marked marked (find found r.left) p.0 ∙ sym (id_value-marked marked (find found r.right) p.1)
      ] in
      ap (value_of_term look marked) (sym r.left_term) ∙ (value-full r.left r.left_full ∙ (same ∙ (sym (value-full r.right r.right_full) ∙ ap (value_of_term look marked) r.right_term)))

  -- equal terms have one value
  pub value-equal : (d e : DTerm) → Equal E d e → value_of_term look marked d ≡ value_of_term look marked e
  value-equal d e h = inductions.complete (step look marked) (step-moved look marked closed.renames) value-pair h

  -- ids of equal terms find alike, or both find marked classes
  pub full-alike : (a b : Applied) → IsFull nodes a → IsFull nodes b → Equal E (term_of nodes a) (term_of nodes b) → AreAlikeUpTo found marked a b
  full-alike a b fa fb h = id_value-same marked (find found a) (find found b) (sym (value-full a fa) ∙ (value-equal (term_of nodes a) (term_of nodes b) h ∙ value-full b fb))

  -- the same of valid ids, whatever names fill them
  pub filled-alike : Linked nodes found → (a b left right : Applied) (given more_given : List ℕ) → IsValid (used_slots found) nodes a → IsValid (used_slots found) nodes b →
      IsFilling nodes given a left → IsFilling nodes more_given b right → Equal E (term_of nodes left) (term_of nodes right) → AreAlikeUpTo found marked a b
  filled-alike linked a b left right given more_given va vb fl fr h =
      let ea : find found a ≡ find found left = filling-found nodes found linked given a left va fl in
      let eb : find found b ≡ find found right = filling-found nodes found linked more_given b right vb fr in
      elim (full-alike left right fl.full fr.full h) [
        | inl p ↦ inl (ea ∙ (p ∙ sym eb))
        | inr p ↦ inr (ap (λ (x : Applied). marked x.0) ea ∙ p.0, ap (λ (x : Applied). marked x.0) eb ∙ p.1)
      ]

  -- each tree that is equal to the term of an id of an unmarked class is looked up as what the id finds
  pub equal-look_up : (a : Applied) → IsFull nodes a → marked (find_class found a.0) ≡ false → (t : DTerm) → IsTree t → Equal E (term_of nodes a) t → look_up look t ≡ Some (find found a)
  equal-look_up a full m t h e =
      value-look_up look marked t h (find found a) (sym (value-equal (term_of nodes a) t e) ∙ (value-full a full ∙ id_value-plain marked (find found a) m))

  -- the same of a valid id that lacks names
  value-valid : Linked nodes found → (a : Applied) → IsValid (used_slots found) nodes a → value_of_term look marked (term_of nodes a) ≡ id_value marked (find found a)
  value-valid linked a v =
      let b : (x : Applied) × IsFilling nodes [] a x × (term_of nodes x ≡ term_of nodes a) = term_of-filling nodes can (used_slots found) a v in
      ap (value_of_term look marked) (sym b.2) ∙ (value-full b.0 b.1.full ∙ ap (id_value marked) (sym (filling-found nodes found linked [] a b.0 v b.1)))

  -- a node over valid ids whose term has an id as its value is looked up as that id
  node-look_up : Linked nodes found → (d : DTerm) → 0 < d.op → EachChild (IsValid (used_slots found) nodes) d.args → (x : Applied) → value_of_term look marked (layer_of nodes d) ≡ as_term x → look (normal found d) ≡ Some x
  node-look_up linked d h c x e =
      let v : DTerm = node d.op d.payloads (valued_args found marked d.args) in
      let over : value_of_term look marked (layer_of nodes d) ≡ step look marked v =
      ap (λ y. step look marked (node d.op d.payloads y))
      (values-found (terms nodes) found look marked d.args (EachChild-map (IsValid (used_slots found) nodes) (λ a. value_of_term look marked (term_of nodes a) ≡ id_value marked (find found a)) (value-valid linked) d.args c)) in
      let is_x : step look marked v ≡ as_term x = sym over ∙ e in
      let r : Answered look marked v = answered look marked v h (ap (λ t. term_eq t fixed) is_x) (ap (λ (t : DTerm). nat_lt 0 t.op) is_x) in
      let normal_args_are : valued_args found marked d.args ≡ normal_args found d.args = valued-normal found marked d.args (sym (has_fixed-valued found marked d.args) ∙ r.no_fixed) in
      ap (λ y. look (node d.op d.payloads y)) (sym normal_args_are) ∙ (r.looked_up ∙ ap Some (as_term-same r.answer x (sym r.value ∙ is_x)))

  -- each node whose term is equal to the term of an id of an unmarked class is looked up as what the id finds
  pub equal-look_up_node : Linked nodes found → (a : Applied) → IsFull nodes a → marked (find_class found a.0) ≡ false → (d : DTerm) → 0 < d.op → EachChild (IsValid (used_slots found) nodes) d.args → Equal E (term_of nodes a) (layer_of nodes d) → look (normal found d) ≡ Some (find found a)
  equal-look_up_node linked a full m d h c e =
      node-look_up linked d h c (find found a) (sym (value-equal (term_of nodes a) (layer_of nodes d) e) ∙ (value-full a full ∙ id_value-plain marked (find found a) m))

-- where no class is marked, ids of equal terms find alike
pub plainly-alike : (found : List Entry) (a b : Applied) → AreAlikeUpTo found (λ c. false) a b → find found a ≡ find found b
plainly-alike found a b (inl p) = p
plainly-alike found a b (inr p) = absurd (false≢true p.0)

-- where no class is marked, equal trees are looked up alike
pub equal_trees-alike : (nodes : List DTerm) → Canonical nodes → (found : List Entry) (E : List (DTerm × DTerm)) (look : DTerm → Option Applied) → IsClosed nodes found E look (λ c. false) →
    (t u : DTerm) → IsTree t → IsTree u → Equal E t u → look_up look t ≡ look_up look u
equal_trees-alike nodes can found E look closed t u ht hu e = go (look_up look t) (look_up look u) refl refl
  where
    same : value_of_term look (λ c. false) t ≡ value_of_term look (λ c. false) u
    same = value-equal nodes can found E look (λ c. false) closed t u e

    go : (o r : Option Applied) → look_up look t ≡ o → look_up look u ≡ r → look_up look t ≡ look_up look u
    go None None p q = p ∙ sym q
    go (Some a) r p q = p ∙ sym (value-look_up look (λ c. false) u hu a (sym same ∙ look_up-value look t a p))
    go None (Some b) p q = value-look_up look (λ c. false) t ht b (same ∙ look_up-value look u b q) ∙ sym q

-- so finding alike is what the asserted equations make equal, and no more
pub alike-iff : (nodes : List DTerm) (found : List Entry) (proofs : List ProofEntry) (look : DTerm → Option Applied) → Sound nodes found proofs → IsClosed nodes found (asserted nodes proofs) look (λ c. false) →
    (a b left right : Applied) (given more_given : List ℕ) → IsValid (used_slots found) nodes a → IsValid (used_slots found) nodes b → IsFilling nodes given a left → IsFilling nodes more_given b right →
    (find found a ≡ find found b) ↔ Equal (asserted nodes proofs) (term_of nodes left) (term_of nodes right)
alike-iff nodes found proofs look s closed a b left right given more_given va vb fl fr = (
  λ e. found_alike-equal nodes s.canonical found proofs s.linked s.proved s.exact a b left right given more_given va vb e fl fr,
  λ h. plainly-alike found a b (filled-alike nodes s.canonical found (asserted nodes proofs) look (λ c. false) closed s.linked a b left right given more_given va vb fl fr h),
)
