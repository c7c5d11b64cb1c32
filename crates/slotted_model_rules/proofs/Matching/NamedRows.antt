-- Rows take any names that stand for what was found: so a node of the matcher's can be named number by number.
use Rattle.std.proofs.Common.{◌≡◌, ◌≢◌, ℕ, ◌+◌, ◌<◌, List, [], ◌∷◌, Option, Some, None, map, sym, ◌∙◌, ap, refl, subst, inl, inr, arith}
use Rattle.std.specs.Prelude.{◌⊎◌, Contains, cond, nat_eq}
use Rattle.std.proofs.lemmas.Bool.{cases_eq, eq-eqb, ne_eqb}
use Rattle.slotted_lists.proofs.Contained.{above, Contains-below}
use Rattle.slotted_lists.proofs.Members.{In, In-map, In-of_map, In-Contains, Contains-In}
use Rattle.slotted_lists.proofs.Options.{Some-same}
use Rattle.slotted_theory.specs.Nameless.{DTerm, moved, moved_args}
use Rattle.slotted_theory.specs.FiniteMaps.{filled}
use Rattle.slotted_theory.specs.Renaming.{IsInjective}
use Rattle.slotted_theory.specs.Shape.{free_names}
use Rattle.slotted_theory.proofs.Filled.{filled-injective}
use Rattle.slotted_theory.proofs.FreeNames.{moved-agrees}
use Rattle.slotted_theory.proofs.Laws.{moved-moved}
use Rattle.slotted_model.specs.Applied.{Applied, values, renamed_id}
use Rattle.slotted_model.specs.Classes.{canonical_slots, IsFull}
use Rattle.slotted_model.specs.Correspondence.{AllDifferent, IsInjectiveOn, IsPartialInjection}
use Rattle.slotted_model.specs.Extraction.{row_class}
use Rattle.slotted_model.specs.Find.{find_class, find_map, find}
use Rattle.slotted_model.specs.State.{Row, State, filed_node}
use Rattle.slotted_model.specs.Rest.{IsValidIn, AtRest}
use Rattle.slotted_model.proofs.Correspondences.Pairs.{Contains-of_value}
use Rattle.slotted_model.proofs.Correspondences.PartialInjections.{one_partner}
use Rattle.slotted_model.proofs.Finds.Finding.{leads, find_map-partial}
use Rattle.slotted_model.proofs.Represented.Full.{full-ascending, full-renamed}
use Rattle.slotted_model.proofs.Data.Maps.{filled-pair}
use Rattle.slotted_model.proofs.Finds.NormalIds.{found-renamed, found-name}
use Rattle.slotted_model.proofs.Data.Options.{None-Some}
use Rattle.slotted_model.proofs.Data.Theory.{free_names-moved}
use Rattle.slotted_model.proofs.Rebuilding.RowNodes.{row_node, row-id}
use Rattle.slotted_model_rules.specs.Patterns.{IsOfRow}
use Rattle.slotted_model_rules.specs.Matcher.{NodeArgs, unnamed, bound_names, IsNodeOf}
use Rattle.slotted_model_rules.proofs.Matching.AllSlots.{renamed-agrees}
use Rattle.slotted_model_rules.proofs.Matching.HiddenNames.{row-renamed, standing-names, used-stands}
use Rattle.slotted_model_rules.proofs.Substitutions.Renamed.{renamed-id}

-- the first of the numbers to which e gives the name
abbrev number_for : (ℕ → ℕ) → List ℕ → ℕ → Option ℕ
number_for e [] z = None
number_for e (i ∷ N) z = cond (nat_eq (e i) z) (Some i) (number_for e N z)

number-found : (e : ℕ → ℕ) (N : List ℕ) (z i : ℕ) → number_for e N z ≡ Some i → In i N × (e i ≡ z)
number-found e [] z i h = absurd (None-Some i h)
number-found e (j ∷ N) z i h = elim (cases_eq (e j) z) [
  | inl same ↦
      let k : j ≡ i = Some-same j i (ap (λ b. cond b (Some j) (number_for e N z)) (sym (eq-eqb (e j) z same)) ∙ h) in
      (inl (sym k), ap e (sym k) ∙ same)
  | inr n ↦
      let r : In i N × (e i ≡ z) = number-found e N z i (ap (λ b. cond b (Some j) (number_for e N z)) (sym (ne_eqb (e j) z n)) ∙ h) in
      (inr r.0, r.1)
]

number-there : (e : ℕ → ℕ) (N : List ℕ) (i : ℕ) → In i N → (j : ℕ) × (number_for e N (e i) ≡ Some j)
number-there e [] i h = absurd h
number-there e (j ∷ N) i (inl h) = (j, ap (λ b. cond b (Some j) (number_for e N (e i))) (eq-eqb (e j) (e i) (ap e (sym h))))
number-there e (j ∷ N) i (inr h) =
    let r : (k : ℕ) × (number_for e N (e i) ≡ Some k) = number-there e N i h in
    elim (cases_eq (e j) (e i)) [
      | inl same ↦ (j, ap (λ b. cond b (Some j) (number_for e N (e i))) (eq-eqb (e j) (e i) same))
      | inr n ↦ (r.0, ap (λ b. cond b (Some j) (number_for e N (e i))) (ne_eqb (e j) (e i) n) ∙ r.1)
    ]

-- a name of a number becomes the number's other name, and all others go up
abbrev named_or_up : (ℕ → ℕ) → ℕ → ℕ → Option ℕ → ℕ
named_or_up ν k z None = z + k
named_or_up ν k z (Some i) = ν i

module _ (ν e : ℕ → ℕ) (N : List ℕ) (e_inj : IsInjective e) (ν_inj : IsInjectiveOn ν N) where
  abbrev top : ℕ
  top = above (map ν N)

  abbrev to : ℕ → ℕ
  to z = named_or_up ν top z (number_for e N z)

  at-number : (i : ℕ) → In i N → to (e i) ≡ ν i
  at-number i h =
      let j : (j : ℕ) × (number_for e N (e i) ≡ Some j) = number-there e N i h in
      ap (named_or_up ν top (e i)) j.1 ∙ ap ν (e_inj j.0 i (number-found e N (e i) j.0 j.1).1)

  below-top : (i : ℕ) → In i N → ν i < top
  below-top i h = Contains-below (map ν N) (ν i) (Contains-In (map ν N) (ν i) (In-map ν N i h))

  to-injective : IsInjective to
  to-injective x y q = go (number_for e N x) (number_for e N y) refl refl q
    where
      go : (o p : Option ℕ) → number_for e N x ≡ o → number_for e N y ≡ p → named_or_up ν top x o ≡ named_or_up ν top y p → x ≡ y
      go None None u v h = omega arith
      go None (Some j) u v h = let l : ν j < top = below-top j (number-found e N y j v).0 in omega arith
      go (Some i) None u v h = let l : ν i < top = below-top i (number-found e N x i u).0 in omega arith
      go (Some i) (Some j) u v h =
          let a : In i N × (e i ≡ x) = number-found e N x i u in
          let b : In j N × (e j ≡ y) = number-found e N y j v in
          sym a.1 ∙ (ap e (ν_inj i j (Contains-In N i a.0) (Contains-In N j b.0) h) ∙ b.1)

module _ (g : State) (rest : AtRest g) (r : Row) (filed : Contains g.rows r) (a : Applied) (va : IsValidIn g a) (same : row_class g r ≡ find_class g.found a.0) (ν : ℕ → ℕ) (inj : IsInjectiveOn ν (free_names r.shape.args))
    (keeps : (i s : ℕ) → Contains (free_names r.shape.args) i → Contains (find_map g.found r.source) (s, filled r.slots i) → Contains (find g.found a).1 (s, ν i)) where
  -- with these names, number by number, the shape is the node of some id of the row's source that finds the same
  pub row-named : (b : Applied) × IsOfRow g r b a × (row_node r b ≡ moved ν r.shape)
  row-named =
      let o : (b : Applied) × IsFull g.nodes b × (b.0 ≡ r.source) × (find g.found b ≡ find g.found a) = row-id g rest r filed a va (sym same) in
      let b : Applied = o.0 in
      let N : List ℕ = free_names r.shape.args in
      let e : ℕ → ℕ = λ i. filled b.1 (filled r.slots i) in
      let e_inj : IsInjective e = λ x y q. filled-injective r.slots (rest.sane.filed.each r filed).injective x y (filled-injective b.1 o.1.injective (filled r.slots x) (filled r.slots y) q) in
      let f : ℕ → ℕ = to ν e N e_inj inj in
      let f_inj : IsInjective f = to-injective ν e N e_inj inj in
      let stays : (z : ℕ) → In z (values (find g.found b).1) → f z ≡ z = λ z k.
      let p : (s : ℕ) × Contains (find g.found b).1 (s, z) = Contains-of_value (find g.found b).1 z (Contains-In (values (find g.found b).1) z k) in
      let q : (t : ℕ) × Contains (find_map g.found b.0) (p.0, t) × Contains b.1 (t, z) = found-name g.found b p.0 z p.1 in
      let st : In q.0 (free_names (filed_node r).args) = used-stands g rest r filed b o.1 o.2 p.0 q.0 q.1 in
      let m : (i : ℕ) × In i N × (q.0 ≡ filled r.slots i) = In-of_map (filled r.slots) N q.0 (subst (In q.0) (free_names-moved (filled r.slots) r.shape.args) st) in
      let asc = full-ascending g.nodes b o.1 in
      let at_t : filled b.1 q.0 ≡ z = filled-pair b.1 q.0 z asc (In-Contains b.1 (q.0, z) q.2) in
      let at_source : Contains (find_map g.found r.source) (p.0, q.0) = subst (λ c. Contains (find_map g.found c) (p.0, q.0)) o.2 q.1 in
      let w : Contains (find g.found a).1 (p.0, ν m.0) = keeps m.0 p.0 (Contains-In N m.0 m.1) (subst (λ t. Contains (find_map g.found r.source) (p.0, t)) m.2 at_source) in
      let u : (t : ℕ) × Contains (find_map g.found b.0) (p.0, t) × Contains b.1 (t, ν m.0) = found-name g.found b p.0 (ν m.0) (subst (λ (c : Applied). Contains c.1 (p.0, ν m.0)) (sym o.3) w) in
      let P : IsPartialInjection (canonical_slots g.nodes (find_class g.found b.0)) (canonical_slots g.nodes b.0) (find_map g.found b.0) =
      find_map-partial g.nodes g.found (leads g.nodes g.found rest.sane.sound.linked) b.0 o.1.in_range in
      let one : u.0 ≡ q.0 = one_partner (canonical_slots g.nodes (find_class g.found b.0)) (find_map g.found b.0) P.in_order p.0 u.0 q.0 u.1 q.1 in
      let is_z : ν m.0 ≡ z = sym (filled-pair b.1 u.0 (ν m.0) asc (In-Contains b.1 (u.0, ν m.0) u.2)) ∙ (ap (filled b.1) one ∙ at_t) in
      ap f (sym at_t ∙ ap (filled b.1) m.2) ∙ (at-number ν e N e_inj inj m.0 m.1 ∙ is_z) in (
        renamed_id f b,
        record {
          filed = filed;
          full = full-renamed g.nodes b o.1 f (λ x y i j. f_inj x y);
          source = o.2;
          same = found-renamed g.found f b ∙ (renamed-agrees f (λ x. x) (find g.found b) stays ∙ (renamed-id (find g.found b) ∙ o.3));
        },
        row-renamed g rest r filed b o.1 o.2 f
            ∙ (moved-moved f (filled b.1) (filed_node r) ∙ (moved-moved (λ x. f (filled b.1 x)) (filled r.slots) r.shape
            ∙ moved-agrees (λ x. f (e x)) ν r.shape (λ x c. at-number ν e N e_inj inj x (In-Contains N x c)))),
      )

  -- so a node that is named so is one of the matcher's, if the names that were not found are new
  pub named-node : (seen : List ℕ) (n : NodeArgs) → unnamed (λ y. y) n ≡ moved_args ν r.shape.args → AllDifferent (bound_names n) →
      ((z : ℕ) → Contains (bound_names n) z → (¬ Contains seen z) × ((i : ℕ) → Contains (free_names r.shape.args) i → ν i ≢ z)) →
      ((i : ℕ) → Contains (free_names r.shape.args) i → Contains (values (find g.found a).1) (ν i) ⊎ (¬ Contains seen (ν i))) → IsNodeOf g seen r a n
  named-node seen n form differ bound others =
      let o : (b : Applied) × IsOfRow g r b a × (row_node r b ≡ moved ν r.shape) = row-named in
      let N : List ℕ = free_names r.shape.args in
      let of_number : (z : ℕ) → Contains (free_names (row_node r o.0).args) z → (i : ℕ) × In i N × (z ≡ ν i) = λ z c.
      In-of_map ν N z (subst (In z) (ap (λ (t : DTerm). free_names t.args) o.2 ∙ free_names-moved ν r.shape.args) (In-Contains (free_names (row_node r o.0).args) z c)) in
      standing-names g rest seen r a o.0 n o.1 (form ∙ ap (λ (t : DTerm). t.args) (sym o.2)) differ
      (λ z c. ((bound z c).0, λ d. let i = of_number z d in (bound z c).1 i.0 (Contains-In N i.0 i.1) (sym i.2)))
      (λ z d. let i = of_number z d in subst (λ y. Contains (values (find g.found a).1) y ⊎ (¬ Contains seen y)) (sym i.2) (others i.0 (Contains-In N i.0 i.1)))
