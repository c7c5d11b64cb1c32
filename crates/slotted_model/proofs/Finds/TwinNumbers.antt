-- Twins, ids whose nodes have one normal form: they pair the slots that have one number in its shape, and move together.
use Rattle.std.proofs.Common.{◌≡◌, ◌↔◌, ℕ, List, get_or, sym, ◌∙◌, ap, refl, subst}
use Rattle.std.specs.Prelude.{Contains, map}
use Rattle.std.specs.Map.{keys_of, values_of}
use Rattle.slotted_lists.proofs.Members.{In-Contains, Contains-In}
use Rattle.slotted_theory.specs.Nameless.{DTerm, moved}
use Rattle.slotted_theory.specs.Renaming.{Bijection}
use Rattle.slotted_theory.specs.FiniteMaps.{filled, with_values}
use Rattle.slotted_theory.specs.Shape.{free_names, number_in}
use Rattle.slotted_theory.proofs.Bijections.{to-injective}
use Rattle.slotted_theory.proofs.Filled.{filled-injective}
use Rattle.slotted_theory.proofs.Shapes.{number_in-map}
use Rattle.slotted_model.specs.Ascending.{names}
use Rattle.slotted_model.specs.Applied.{Applied, renamed_id}
use Rattle.slotted_model.specs.Classes.{canonical_node, canonical_slots, IsFull}
use Rattle.slotted_model.specs.Correspondence.{IsFullMap, same_names}
use Rattle.slotted_model.specs.Find.{Entry}
use Rattle.slotted_model.specs.ProofList.{Equation, equation_of}
use Rattle.slotted_model.specs.Normal.{normal, HasNormalTwin, HasOneNumber}
use Rattle.slotted_model.proofs.Data.Theory.{free_names-moved, get_or-number_in}
use Rattle.slotted_model.proofs.Data.Maps.{filled-pair}
use Rattle.slotted_model.proofs.Represented.Full.{full-ascending, full-renamed}
use Rattle.slotted_model.proofs.Represented.RenamedIds.{normal-moves, normal-renamed}
use Rattle.slotted_model.proofs.Finds.Twins.{names-In}
use Rattle.slotted_model.proofs.Correspondences.Pairs.{Contains-key, Contains-value, Contains-of_key, Contains-of_value}
use Rattle.slotted_model.proofs.Correspondences.FullMaps.{same_names-over, same_names-by}
use Rattle.slotted_model.proofs.Correspondences.Matching.{same_names-bijection, same_names-renamed}
use Rattle.slotted_model.proofs.Correspondences.FullIds.{full_map}

module _ (nodes : List DTerm) (found : List Entry) (a b : Applied) (full : IsFull nodes a) (twin : HasNormalTwin nodes found a b) where
  abbrev N : DTerm
  N = normal found (canonical_node nodes a.0)

  abbrev M : DTerm
  M = normal found (canonical_node nodes b.0)

  one_form : moved (filled a.1) N ≡ moved (filled b.1) M
  one_form = sym (normal-moves found (filled a.1) (canonical_node nodes a.0)) ∙ (twin.same ∙ normal-moves found (filled b.1) (canonical_node nodes b.0))

  one_list : map (filled a.1) (free_names N.args) ≡ map (filled b.1) (free_names M.args)
  one_list = sym (free_names-moved (filled a.1) N.args) ∙ (ap (λ (d : DTerm). free_names d.args) one_form ∙ free_names-moved (filled b.1) M.args)

  left_name : (s x : ℕ) → Contains a.1 (s, x) → filled a.1 s ≡ x
  left_name s x c = filled-pair a.1 s x (full-ascending nodes a full) (In-Contains a.1 (s, x) c)

  right_name : (t x : ℕ) → Contains b.1 (t, x) → filled b.1 t ≡ x
  right_name t x c = filled-pair b.1 t x (full-ascending nodes b twin.full) (In-Contains b.1 (t, x) c)

  paired-number : (s t : ℕ) → Contains (same_names a.1 b.1) (s, t) → HasOneNumber found nodes a.0 b.0 s t
  paired-number s t c =
      let r = same_names-over a.1 b.1 s t c in
      let p = (twin.left_names s).0 (Contains-key (same_names a.1 b.1) s t c) in
      let q = (twin.right_names t).0 (Contains-value (same_names a.1 b.1) s t c) in
      let xs : List ℕ = free_names N.args in
      let ys : List ℕ = free_names M.args in
      let same : filled a.1 s ≡ filled b.1 t = left_name s r.0 r.1 ∙ sym (right_name t r.0 r.2) in
      record {
        left = p;
        right = q;
        number = sym (number_in-map (filled a.1) (filled-injective a.1 full.injective) xs s (Contains-In xs s (names-In N s p)))
            ∙ ((λ i. number_in (one_list i) (same i))
            ∙ number_in-map (filled b.1) (filled-injective b.1 twin.full.injective) ys t (Contains-In ys t (names-In M t q)));
      }

  numbered-pair : (s t : ℕ) → HasOneNumber found nodes a.0 b.0 s t → Contains (same_names a.1 b.1) (s, t)
  numbered-pair s t h =
      let k = Contains-of_key (same_names a.1 b.1) s ((twin.left_names s).1 h.left) in
      let j = Contains-of_value (same_names a.1 b.1) t ((twin.right_names t).1 h.right) in
      let p = same_names-over a.1 b.1 s k.0 k.1 in
      let q = same_names-over a.1 b.1 j.0 t j.1 in
      let same : filled a.1 s ≡ filled b.1 t =
      sym (get_or-number_in (filled a.1) (free_names N.args) s (names-In N s h.left))
      ∙ ((λ i. get_or (one_list i) (h.number i) 0)
      ∙ get_or-number_in (filled b.1) (free_names M.args) t (names-In M t h.right)) in
      let one : p.0 ≡ q.0 = sym (left_name s p.0 p.1) ∙ (same ∙ right_name t q.0 q.2) in
      same_names-by (canonical_slots nodes b.0) a.1 b.1 (full_map nodes b twin.full) s t p.0 p.1 (subst (λ x. Contains b.1 (t, x)) (sym one) q.2)

  pub twins-pair : (s t : ℕ) → Contains (same_names a.1 b.1) (s, t) ↔ HasOneNumber found nodes a.0 b.0 s t
  twins-pair s t = (paired-number s t, numbered-pair s t)

  renamed-twin : (π : Bijection) → HasNormalTwin nodes found (renamed_id π.to a) (renamed_id π.to b)
  renamed-twin π =
      let f : ℕ → ℕ = π.to in
      let kept : same_names a.1 b.1 ≡ same_names (with_values f a.1) (with_values f b.1) =
      same_names-renamed (canonical_slots nodes a.0) (canonical_slots nodes b.0) a.1 b.1 (with_values f a.1) (with_values f b.1) (full_map nodes a full) (full_map nodes b twin.full) f (to-injective π) refl refl in
      record {
        full = full-renamed nodes b twin.full f (λ x y c d e. to-injective π x y e);
        same = normal-renamed nodes found a full f ∙ (ap (moved f) twin.same ∙ sym (normal-renamed nodes found b twin.full f));
        left_names = λ s. subst (λ (A : List (ℕ × ℕ)). Contains (keys_of A) s ↔ Contains (names N) s) kept (twin.left_names s);
        right_names = λ t. subst (λ (A : List (ℕ × ℕ)). Contains (values_of A) t ↔ Contains (names M) t) kept (twin.right_names t);
      }

pub twins-move : (nodes : List DTerm) (found : List Entry) (a b c d : Applied) → IsFull nodes a → HasNormalTwin nodes found a b → IsFull nodes c → IsFull nodes d →
    equation_of c d ≡ equation_of a b → HasNormalTwin nodes found c d
twins-move nodes found a b c d full twin fc fd e =
    let left : c.0 ≡ a.0 = ap (λ (x : Equation). x.left) e in
    let right : d.0 ≡ b.0 = ap (λ (x : Equation). x.right) e in
    let map_c : IsFullMap (canonical_slots nodes a.0) c.1 = subst (λ i. IsFullMap (canonical_slots nodes i) c.1) left (full_map nodes c fc) in
    let map_d : IsFullMap (canonical_slots nodes b.0) d.1 = subst (λ i. IsFullMap (canonical_slots nodes i) d.1) right (full_map nodes d fd) in
    let r : (π : Bijection) × (c.1 ≡ with_values π.to a.1) × (d.1 ≡ with_values π.to b.1) =
    same_names-bijection (canonical_slots nodes a.0) (canonical_slots nodes b.0) a.1 b.1 c.1 d.1 (full_map nodes a full) (full_map nodes b twin.full) map_c map_d (sym (ap (λ (x : Equation). x.pairs) e)) in
    let one : renamed_id r.0.to a ≡ c = λ i. (sym left i, sym r.1 i) in
    let two : renamed_id r.0.to b ≡ d = λ i. (sym right i, sym r.2 i) in
    subst (λ (x : Applied). HasNormalTwin nodes found x d) one (subst (HasNormalTwin nodes found (renamed_id r.0.to a)) two (renamed-twin nodes found a b full twin r.0))
