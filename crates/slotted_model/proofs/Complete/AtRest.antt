-- A graph at rest is closed, by any test that covers the classes that open symmetries affect.
use Rattle.std.proofs.Common.{◌≡◌, ℕ, ◌<◌, List, [], Some, Bool, true, false, length, get_or, sym, ◌∙◌, ap, refl, subst, inl, inr}
use Rattle.std.specs.Prelude.{◌↔◌, Contains, map}
use Rattle.std.proofs.lemmas.Bool.{cases_Bool, false≢true}
use Rattle.std.proofs.lemmas.List.{get_or_default}
use Rattle.slotted_lists.proofs.Options.{Some-same}
use Rattle.slotted_theory.specs.Term.{Term}
use Rattle.slotted_theory.specs.Nameless.{DTerm, nameless}
use Rattle.slotted_theory.specs.Derives.{Derives, Equal, nameless_pair}
use Rattle.slotted_theory.proofs.Forward.{Derives-equal}
use Rattle.slotted_theory.specs.Shape.{free_names, number_in}
use Rattle.slotted_model.specs.Applied.{Applied, EachChild}
use Rattle.slotted_model.specs.Classes.{canonical_node, term_of, layer_of, IsFull, Canonical}
use Rattle.slotted_model.specs.Trees.{IsTree}
use Rattle.slotted_model.specs.Find.{Entry, find_class, used_slots, find, Linked}
use Rattle.slotted_model.specs.Filling.{IsValid, IsFilling}
use Rattle.slotted_model.specs.Growth.{identity_id}
use Rattle.slotted_model.specs.Normal.{normal}
use Rattle.slotted_model.specs.ProofList.{Equation, ProofEntry, Step, explicit, reflexive, symmetric, transitive, congruent, node_of, equation_at, step_at, left_side, right_side, term_pair, if_explicit, asserted}
use Rattle.slotted_model.specs.State.{State, child_classes, normal_node, look_up_normal, look_up_node, look_up_tree}
use Rattle.slotted_model.specs.Sound.{Sound}
use Rattle.slotted_model.specs.Rest.{IsValidIn, AtRest, IsAffected, CoversAffected, FoundTogether, LookedUp, RestGives}
use Rattle.slotted_model.specs.Affected.{is_affected, HasNoOpenSymmetries, AreAlikeOrAffected}
use Rattle.slotted_model.specs.Closed.{AreAlikeUpTo, IsAnswered, IsFoundPair, IsClosed}
use Rattle.slotted_model.proofs.Data.Options.{None-Some}
use Rattle.slotted_model.proofs.Represented.Children.{EachChild-map}
use Rattle.slotted_model.proofs.Represented.Full.{full-children}
use Rattle.slotted_model.proofs.Finds.NormalIds.{found-again, full-is_valid}
use Rattle.slotted_model.proofs.Represented.Growing.{identity-full}
use Rattle.slotted_model.proofs.Finds.Congruence.{refined-normal}
use Rattle.slotted_model.proofs.Correspondences.Pairs.{Contains-of_filter_map}
use Rattle.slotted_model.proofs.Finds.FindProofs.{left_side-full, right_side-full, sides-equation, found_alike-derivable}
use Rattle.slotted_model.proofs.Finds.Steps.{Equal-between}
use Rattle.slotted_model.proofs.Complete.CanonicalValues.{full-alike, filled-alike, congruent-alike, equal-look_up, equal-look_up_node, equal_trees-alike, alike-iff}
use Rattle.slotted_model.proofs.Complete.Spreading.{is_affected-covers, is_affected-iff}
use Rattle.slotted_model.proofs.Complete.Meeting.{Meeting, meeting}
use Rattle.slotted_model.proofs.Complete.Agreement.{half-agrees, same-slots}
use Rattle.slotted_model.proofs.Rebuilding.Rows.{look_up_node-moved, rest-gives}
use Rattle.slotted_model.proofs.Rebuilding.Affected.{affected-marked, unmarked-closed}
use Rattle.slotted_model.proofs.Represented.Fillings.{a_filling}
use Rattle.slotted_model.proofs.Complete.LookUpsAreEqual.{tree-equal, filled-equal}
use Rattle.slotted_model.proofs.Complete.Marks.{child_classes-moved}

-- a normal form is its own
pub normal-again : (nodes : List DTerm) (found : List Entry) → Linked nodes found → (d : DTerm) → EachChild (IsValid (used_slots found) nodes) d.args → normal found (normal found d) ≡ normal found d
normal-again nodes found linked d c = sym (refined-normal nodes found found (λ a v. (v, sym (found-again nodes found linked a v))) d c)

explicit-pair : (s : Step) (p q : DTerm × DTerm) → if_explicit s p ≡ Some q → (s ≡ explicit) × (p ≡ q)
explicit-pair explicit p q e = (refl, Some-same p q e)
explicit-pair reflexive p q e = absurd (None-Some q e)
explicit-pair (symmetric r) p q e = absurd (None-Some q e)
explicit-pair (transitive r s) p q e = absurd (None-Some q e)
explicit-pair (congruent rs) p q e = absurd (None-Some q e)

-- an asserted pair is that of an explicit entry
pub asserted-entry : (nodes : List DTerm) (proofs : List ProofEntry) (d e : DTerm) → Contains (asserted nodes proofs) (d, e) →
    (p : ℕ) × (p < length proofs) × (step_at proofs p ≡ explicit) × (term_pair nodes (equation_at proofs p) ≡ (d, e))
asserted-entry nodes proofs d e c =
    let r : (x : ProofEntry) × Contains proofs x × (if_explicit x.step (term_pair nodes x.equation) ≡ Some (d, e)) =
    Contains-of_filter_map (λ (entry : ProofEntry). if_explicit entry.step (term_pair nodes entry.equation)) proofs (d, e) c in
    let blank : ProofEntry = record { equation = record { left = 0; right = 0; pairs = [] }; step = explicit } in
    let at : get_or proofs r.1.0 blank ≡ r.0 = get_or_default proofs r.1.0 blank r.0 r.1.1 ∙ r.1.2 in
    let p : (r.0.step ≡ explicit) × (term_pair nodes r.0.equation ≡ (d, e)) = explicit-pair r.0.step (term_pair nodes r.0.equation) (d, e) r.2 in
    (r.1.0, r.1.1, ap (λ (x : ProofEntry). x.step) at ∙ p.0, ap (λ (x : ProofEntry). term_pair nodes x.equation) at ∙ p.1)

module _ (g : State) (rest : AtRest g) (marked : ℕ → Bool) (covers : CoversAffected g marked) where
  abbrev gives : RestGives g
  gives = rest-gives g rest

  -- an unmarked id is what it is found together with
  together-alike : (a b : Applied) → FoundTogether g a b → AreAlikeUpTo g.found marked a b
  together-alike a b t = elim (cases_Bool (marked (find_class g.found a.0))) [
    | inl m ↦ inr (m, ap marked (sym t.class) ∙ m)
    | inr m ↦ inl (t.alike (unmarked-closed g marked covers (find_class g.found a.0) (λ y. false≢true (sym m ∙ y))))
  ]

  answered : (a : Applied) → IsFull g.nodes a → IsAnswered g.nodes g.found (look_up_node g) marked a
  answered a full =
      let r : LookedUp g a = gives.nodes a full in
      let children : EachChild (IsValid (used_slots g.found) g.nodes) (node_of g.nodes a).args =
      EachChild-map (λ b. (b.0 < a.0) × IsFull g.nodes b) (IsValid (used_slots g.found) g.nodes) (λ b h. full-is_valid g.nodes g.found rest.sane.sound.linked b h.1) (node_of g.nodes a).args (full-children g.nodes rest.sane.sound.canonical a full) in
      record {
        answer = r.answer;
        looked_up = ap (look_up_normal g) (normal-again g.nodes g.found rest.sane.sound.linked (node_of g.nodes a) children) ∙ r.looked_up;
        class = ap (λ (x : Applied). x.0) (sym r.normal_form) ∙ sym r.together.class;
        same = λ m. sym (r.together.alike (unmarked-closed g marked covers (find_class g.found a.0) (λ y. false≢true (sym m ∙ y))) ∙ r.normal_form);
      }

  mark-rises : (i c : ℕ) → i < length g.nodes → Contains (child_classes (normal g.found (canonical_node g.nodes i)).args) c → marked c ≡ true → marked (find_class g.found i) ≡ true
  mark-rises i c h k m =
      let r : LookedUp g (identity_id g.nodes i) = gives.nodes (identity_id g.nodes i) (identity-full g.nodes i h) in
      let N : DTerm = normal_node g i in
      let same : child_classes r.row.shape.args ≡ child_classes N.args = ap (λ (t : DTerm). child_classes t.args) r.shape_of_row ∙ child_classes-moved (number_in (free_names N.args)) N.args in
      ap marked (sym r.class_of_row) ∙ covers.parents r.row c r.filed (subst (λ cs. Contains cs c) (sym same) k) m

  found_pair : (d e : DTerm) → Contains (asserted g.nodes g.proofs) (d, e) → IsFoundPair g.nodes g.found marked d e
  found_pair d e c =
      let r : (p : ℕ) × (p < length g.proofs) × (step_at g.proofs p ≡ explicit) × (term_pair g.nodes (equation_at g.proofs p) ≡ (d, e)) = asserted-entry g.nodes g.proofs d e c in
      let o = rest.sane.sound.proved.over r.0 r.1 in
      let q : Equation = equation_at g.proofs r.0 in
      let left_full : IsFull g.nodes (left_side g.nodes q) = left_side-full g.nodes q o in
      let right_full : IsFull g.nodes (right_side g.nodes q) = right_side-full g.nodes q o in
      record {
        left = left_side g.nodes q;
        right = right_side g.nodes q;
        left_full = left_full;
        right_full = right_full;
        left_term = ap (λ (t : DTerm × DTerm). t.0) r.3;
        right_term = ap (λ (t : DTerm × DTerm). t.1) r.3;
        alike = together-alike (left_side g.nodes q) (right_side g.nodes q) (gives.asserted r.0 r.1 r.2 (left_side g.nodes q) (right_side g.nodes q) left_full right_full (sides-equation g.nodes q o));
      }

  -- a graph at rest is closed
  pub rest-closed : IsClosed g.nodes g.found (asserted g.nodes g.proofs) (look_up_node g) marked
  rest-closed = record {
    renames = look_up_node-moved g rest.sane.sound.linked rest.sane.filed;
    answers = answered;
    marks_rise = mark-rises;
    pairs = found_pair;
  }

-- where no symmetry is open, no class need be marked
unopened-covers : (g : State) → HasNoOpenSymmetries g → CoversAffected g (λ c. false)
unopened-covers g none = record { symmetries = λ y c o. absurd (none y c o); parents = λ r c h k m. m }

pub unopened-closed : (g : State) → AtRest g → HasNoOpenSymmetries g → IsClosed g.nodes g.found (asserted g.nodes g.proofs) (look_up_node g) (λ c. false)
unopened-closed g rest none = rest-closed g rest (λ c. false) (unopened-covers g none)

-- terms that are derivable are equal from the asserted list
as_listed : (g : State) (E : List (Term × Term)) (t u : Term) (left right : Applied) → map nameless_pair E ≡ asserted g.nodes g.proofs → nameless t ≡ term_of g.nodes left → nameless u ≡ term_of g.nodes right →
    Derives E t u → Equal (asserted g.nodes g.proofs) (term_of g.nodes left) (term_of g.nodes right)
as_listed g E t u left right listed_as et eu d =
    subst (λ (F : List (DTerm × DTerm)). Equal F (term_of g.nodes left) (term_of g.nodes right)) listed_as (Equal-between (sym et) (sym eu) (Derives-equal d))

module _ (g : State) (rest : AtRest g) where
  abbrev can : Canonical g.nodes
  can = rest.sane.sound.canonical

  affected-closed : IsClosed g.nodes g.found (asserted g.nodes g.proofs) (look_up_node g) (is_affected g)
  affected-closed = rest-closed g rest (is_affected g) (is_affected-covers g)

  or-affected : (a b : Applied) → AreAlikeUpTo g.found (is_affected g) a b → AreAlikeOrAffected g a b
  or-affected a b (inl p) = inl p
  or-affected a b (inr p) = inr ((is_affected-iff g (find_class g.found a.0)).0 p.0, (is_affected-iff g (find_class g.found b.0)).0 p.1)

  pub rest-alike : (a b left right : Applied) (given more_given : List ℕ) → IsValidIn g a → IsValidIn g b → IsFilling g.nodes given a left → IsFilling g.nodes more_given b right →
      Equal (asserted g.nodes g.proofs) (term_of g.nodes left) (term_of g.nodes right) → AreAlikeOrAffected g a b
  rest-alike a b left right given more_given va vb fl fr h =
      or-affected a b (filled-alike g.nodes can g.found (asserted g.nodes g.proofs) (look_up_node g) (is_affected g) affected-closed rest.sane.sound.linked a b left right given more_given va vb fl fr h)

  -- the same of full ids
  pub rest-full_alike : (a b : Applied) → IsFull g.nodes a → IsFull g.nodes b → Equal (asserted g.nodes g.proofs) (term_of g.nodes a) (term_of g.nodes b) → AreAlikeOrAffected g a b
  rest-full_alike a b fa fb h = or-affected a b (full-alike g.nodes can g.found (asserted g.nodes g.proofs) (look_up_node g) (is_affected g) affected-closed a b fa fb h)

  pub rest-congruent : (a b : Applied) → IsFull g.nodes a → IsFull g.nodes b → normal g.found (node_of g.nodes a) ≡ normal g.found (node_of g.nodes b) → AreAlikeOrAffected g a b
  rest-congruent a b fa fb same = or-affected a b (congruent-alike g.nodes g.found (asserted g.nodes g.proofs) (look_up_node g) (is_affected g) affected-closed a b fa fb same)

  unaffected : (a : Applied) → ¬ IsAffected g (find_class g.found a.0) → is_affected g (find_class g.found a.0) ≡ false
  unaffected a n = elim (cases_Bool (is_affected g (find_class g.found a.0))) [
    | inl y ↦ absurd (n ((is_affected-iff g (find_class g.found a.0)).0 y))
    | inr y ↦ y
  ]

  pub rest-look_up : (a : Applied) → IsFull g.nodes a → ¬ IsAffected g (find_class g.found a.0) → (t : DTerm) → IsTree t → Equal (asserted g.nodes g.proofs) (term_of g.nodes a) t → look_up_tree g t ≡ Some (find g.found a)
  rest-look_up a full n t h e =
      equal-look_up g.nodes can g.found (asserted g.nodes g.proofs) (look_up_node g) (is_affected g) affected-closed a full (unaffected a n) t h e

  pub rest-look_up_node : (a : Applied) → IsFull g.nodes a → ¬ IsAffected g (find_class g.found a.0) → (d : DTerm) → 0 < d.op → EachChild (IsValidIn g) d.args → Equal (asserted g.nodes g.proofs) (term_of g.nodes a) (layer_of g.nodes d) → look_up_node g d ≡ Some (find g.found a)
  rest-look_up_node a full n d h c e =
      ap (look_up_normal g) (sym (normal-again g.nodes g.found rest.sane.sound.linked d c))
      ∙ equal-look_up_node g.nodes can g.found (asserted g.nodes g.proofs) (look_up_node g) (is_affected g) affected-closed rest.sane.sound.linked a full (unaffected a n) d h c e

  -- the same of terms with names
  pub rest-derivable : (a b left right : Applied) (given more_given : List ℕ) → IsValidIn g a → IsValidIn g b → IsFilling g.nodes given a left → IsFilling g.nodes more_given b right →
      (E : List (Term × Term)) (t u : Term) → map nameless_pair E ≡ asserted g.nodes g.proofs → nameless t ≡ term_of g.nodes left → nameless u ≡ term_of g.nodes right →
      Derives E t u → AreAlikeOrAffected g a b
  rest-derivable a b left right given more_given va vb fl fr E t u listed_as et eu d =
      rest-alike a b left right given more_given va vb fl fr (as_listed g E t u left right listed_as et eu d)

  -- where no symmetry is open
  module _ (none : HasNoOpenSymmetries g) where
    pub rest-iff : (a b left right : Applied) (given more_given : List ℕ) → IsValidIn g a → IsValidIn g b → IsFilling g.nodes given a left → IsFilling g.nodes more_given b right →
        (E : List (Term × Term)) (t u : Term) → map nameless_pair E ≡ asserted g.nodes g.proofs → nameless t ≡ term_of g.nodes left → nameless u ≡ term_of g.nodes right →
        (find g.found a ≡ find g.found b) ↔ Derives E t u
    rest-iff a b left right given more_given va vb fl fr E t u listed_as et eu =
        let s : Sound g.nodes g.found g.proofs = rest.sane.sound in (
          λ e. found_alike-derivable g.nodes can g.found g.proofs s.linked s.proved s.exact a b left right given more_given va vb e fl fr E t u listed_as et eu,
          λ d. (alike-iff g.nodes g.found g.proofs (look_up_node g) s (unopened-closed g rest none) a b left right given more_given va vb fl fr).1 (as_listed g E t u left right listed_as et eu d),
        )

    pub rest-trees : (t u : DTerm) → IsTree t → IsTree u → Equal (asserted g.nodes g.proofs) t u → look_up_tree g t ≡ look_up_tree g u
    rest-trees t u ht hu e = equal_trees-alike g.nodes can g.found (asserted g.nodes g.proofs) (look_up_node g) (unopened-closed g rest none) t u ht hu e

-- where no symmetry is open, no class is affected
pub none-affected : (g : State) → HasNoOpenSymmetries g → (c : ℕ) → ¬ IsAffected g c
none-affected g none c a = false≢true (affected-marked g (λ d. false) (unopened-covers g none) a)

-- and a tree is looked up exactly if it is equal to the term of some full id
pub rest-represented : (g : State) → AtRest g → HasNoOpenSymmetries g → (t : DTerm) → IsTree t →
    ((x : Applied) × (look_up_tree g t ≡ Some x)) ↔ ((a : Applied) × IsFull g.nodes a × Equal (asserted g.nodes g.proofs) (term_of g.nodes a) t)
rest-represented g rest none t h = (
  λ r.
      let v : IsValidIn g r.0 = (tree-equal g rest t r.0 r.1).0 in
      let b : (x : Applied) × IsFilling g.nodes [] r.0 x = a_filling g.nodes (used_slots g.found) [] r.0 v in
      (b.0, b.1.full, filled-equal g rest t r.0 b.0 [] r.1 b.1),
  λ r. (find g.found r.0, rest-look_up g rest r.0 r.1 (none-affected g none (find_class g.found r.0.0)) t h r.2),
)

-- what one graph finds alike another does, where it has the same classes and knows what the one asserts
pub rest-agree : (g h : State) → AtRest g → AtRest h → HasNoOpenSymmetries h → g.nodes ≡ h.nodes →
    ((d e : DTerm) → Contains (asserted g.nodes g.proofs) (d, e) → Equal (asserted h.nodes h.proofs) d e) →
    (a b : Applied) → IsFull g.nodes a → IsFull g.nodes b → find g.found a ≡ find g.found b → find h.found a ≡ find h.found b
rest-agree g h rest_g rest_h none same known a b fa fb e =
    half-agrees g.nodes g.found h.found g.proofs (asserted h.nodes h.proofs) (look_up_node h) rest_g.sane.sound
    (subst (λ ns. IsClosed ns h.found (asserted h.nodes h.proofs) (look_up_node h) (λ c. false)) (sym same) (unopened-closed h rest_h none)) known a b fa fb e

module _ (g h : State) (rest_g : AtRest g) (rest_h : AtRest h) (none_g : HasNoOpenSymmetries g) (none_h : HasNoOpenSymmetries h) (same : g.nodes ≡ h.nodes)
    (known : (d e : DTerm) → Contains (asserted g.nodes g.proofs) (d, e) → Equal (asserted h.nodes h.proofs) d e)
    (known_back : (d e : DTerm) → Contains (asserted h.nodes h.proofs) (d, e) → Equal (asserted g.nodes g.proofs) d e) where
  pub rest-alike_iff : (a b : Applied) → IsFull g.nodes a → IsFull g.nodes b → (find g.found a ≡ find g.found b) ↔ (find h.found a ≡ find h.found b)
  rest-alike_iff a b fa fb = (
    rest-agree g h rest_g rest_h none_h same known a b fa fb,
    rest-agree h g rest_h rest_g none_g (sym same) known_back a b (subst (λ ns. IsFull ns a) same fa) (subst (λ ns. IsFull ns b) same fb),
  )

  pub rest-same_slots : (i : ℕ) → i < length g.nodes → used_slots g.found i ≡ used_slots h.found i
  rest-same_slots = same-slots g.nodes g.found h.found rest_g.sane.sound.linked (subst (λ ns. Linked ns h.found) (sym same) rest_h.sane.sound.linked) rest-alike_iff

  -- and the same classes lead to one class
  pub rest-same_classes : (i j : ℕ) → i < length g.nodes → j < length g.nodes → (find_class g.found i ≡ find_class g.found j) ↔ (find_class h.found i ≡ find_class h.found j)
  rest-same_classes i j hi hj = (
    λ e. through g.found h.found (meeting g.nodes g.found rest_g.sane.sound.linked i j hi hj e) (λ a b fa fb. (rest-alike_iff a b fa fb).0),
    λ e. through h.found g.found (meeting g.nodes h.found (subst (λ ns. Linked ns h.found) (sym same) rest_h.sane.sound.linked) i j hi hj e) (λ a b fa fb. (rest-alike_iff a b fa fb).1),
  )
    where
      through : (one other : List Entry) → Meeting g.nodes one i j → ((a b : Applied) → IsFull g.nodes a → IsFull g.nodes b → find one a ≡ find one b → find other a ≡ find other b) → find_class other i ≡ find_class other j
      through one other m more =
          ap (find_class other) (sym m.left_class) ∙ (ap (λ (x : Applied). x.0) (more m.left m.right m.left_full m.right_full m.alike) ∙ ap (find_class other) m.right_class)
