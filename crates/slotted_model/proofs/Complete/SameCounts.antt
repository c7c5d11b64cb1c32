-- Graphs of the same terms have as many live classes, and as many slots of them.
use Rattle.std.proofs.Common.{◌≡◌, ℕ, suc, ◌+◌, ◌<◌, ◌≤◌, List, [], ◌∷◌, cond, length, sym, ◌∙◌, ap, refl, subst, arith, inl, inr}
use Rattle.std.specs.Prelude.{nat_eq}
use Rattle.std.specs.Map.{keys_of}
use Rattle.std.proofs.lemmas.Bool.{cases_eq, eq-eqb, ne_eqb}
use Rattle.std.proofs.lemmas.List.{length-map}
use Rattle.slotted_lists.proofs.Members.{In, In-Contains, Contains-In}
use Rattle.slotted_model.specs.Applied.{Applied, keys, values}
use Rattle.slotted_model.specs.Affected.{HasNoOpenSymmetries}
use Rattle.slotted_model.specs.Agreement.{Knows, Correspond, HasTermsOf, Agree}
use Rattle.slotted_model.specs.Classes.{IsFull}
use Rattle.slotted_model.specs.Find.{Entry, entry_at, IsLive, find_class, find, Linked}
use Rattle.slotted_model.specs.Growth.{identity_id}
use Rattle.slotted_model.specs.Rest.{IsValidIn, AtRest, lives_from, slots_from}
use Rattle.slotted_model.specs.State.{State}
use Rattle.slotted_model.proofs.Complete.Corresponding.{correspond-back, alike-there, class-there, names-there, each-corresponds, tree-there, looked_up-there, answer-there}
use Rattle.slotted_model.proofs.Correspondences.Listing.{injective-different}
use Rattle.slotted_model.proofs.Finds.Finding.{leads, find_class-live, found-in_range, found-live}
use Rattle.slotted_model.proofs.Represented.Growing.{identity-full}
use Rattle.slotted_model.proofs.Data.Injections.{sum_from, sum-at_most}
use Rattle.slotted_model.proofs.Finds.NormalIds.{found-full, found-slots, full-is_valid, used-live}
use Rattle.slotted_model.proofs.Data.Sets.{ascending-same}
use Rattle.slotted_model.proofs.Rebuilding.Touching.{different-length}

-- what each entry of a live class counts
abbrev counted : (Entry → ℕ) → List Entry → ℕ → ℕ
counted count found i = cond (nat_eq (entry_at found i).class i) (count (entry_at found i)) 0

counted-live : (count : Entry → ℕ) (found : List Entry) (i : ℕ) → IsLive found i → counted count found i ≡ count (entry_at found i)
counted-live count found i l = ap (λ b. cond b (count (entry_at found i)) 0) (eq-eqb (entry_at found i).class i l)

live-counted : (count : Entry → ℕ) (found : List Entry) (i : ℕ) → 0 < counted count found i → IsLive found i
live-counted count found i p = elim (cases_eq (entry_at found i).class i) [
  | inl e ↦ e
  | inr n ↦ let none : counted count found i ≡ 0 = ap (λ b. cond b (count (entry_at found i)) 0) (ne_eqb (entry_at found i).class i n) in absurd (omega arith)
]

-- live classes and their slots are such sums
abbrev one : Entry → ℕ
one e = 1

abbrev pairs : Entry → ℕ
pairs e = length e.pairs

lives-sum : (found : List Entry) (i : ℕ) (w : ℕ → ℕ) → ((k j : ℕ) → k < length found → j ≡ i + k → w j ≡ cond (nat_eq (entry_at found k).class j) 1 0) → lives_from i found ≡ sum_from w i (length found)
lives-sum [] i w h = refl
lives-sum (e ∷ found) i w h =
    let a : w i ≡ cond (nat_eq e.class i) 1 0 = h 0 i (omega arith) (omega arith) in
    let b : lives_from (suc i) found ≡ sum_from w (suc i) (length found) = lives-sum found (suc i) w (λ k j l p. h (suc k) j (omega arith) (omega arith)) in
    omega arith

slots-sum : (found : List Entry) (i : ℕ) (w : ℕ → ℕ) → ((k j : ℕ) → k < length found → j ≡ i + k → w j ≡ cond (nat_eq (entry_at found k).class j) (length (entry_at found k).pairs) 0) → slots_from i found ≡ sum_from w i (length found)
slots-sum [] i w h = refl
slots-sum (e ∷ found) i w h =
    let a : w i ≡ cond (nat_eq e.class i) (length e.pairs) 0 = h 0 i (omega arith) (omega arith) in
    let b : slots_from (suc i) found ≡ sum_from w (suc i) (length found) = slots-sum found (suc i) w (λ k j l p. h (suc k) j (omega arith) (omega arith)) in
    omega arith

lives-counted : (found : List Entry) → lives_from 0 found ≡ sum_from (counted one found) 0 (length found)
lives-counted found = lives-sum found 0 (counted one found) (λ k j l p. let e : j ≡ k = omega arith in ap (counted one found) e ∙ ap (λ x. cond (nat_eq (entry_at found k).class x) 1 0) (sym e))

slots-counted : (found : List Entry) → slots_from 0 found ≡ sum_from (counted pairs found) 0 (length found)
slots-counted found = slots-sum found 0 (counted pairs found) (λ k j l p. let e : j ≡ k = omega arith in ap (counted pairs found) e ∙ ap (λ x. cond (nat_eq (entry_at found k).class x) (length (entry_at found k).pairs) 0) (sym e))

module _ (g : State) (rest : AtRest g) where
  abbrev linked : Linked g.nodes g.found
  linked = rest.sane.sound.linked

  -- a found id has a name for each slot of its class, and all are different
  found-length : (a : Applied) → IsFull g.nodes a → length (values (find g.found a).1) ≡ length (entry_at g.found (find_class g.found a.0)).pairs
  found-length a full =
      let v : IsValidIn g a = full-is_valid g.nodes g.found linked a full in
      let lead = leads g.nodes g.found linked in
      let c : ℕ = find_class g.found a.0 in
      let in_range : c < length g.nodes = found-in_range g.nodes g.found lead a.0 full.in_range in
      let live : IsLive g.found c = found-live g.nodes g.found lead a.0 full.in_range in
      let slots : keys (find g.found a).1 ≡ keys_of (entry_at g.found c).pairs = found-slots g.nodes g.found linked a v ∙ used-live g.nodes g.found linked c in_range live in
      length-map (find g.found a).1 (λ (p : ℕ × ℕ). p.1)
      ∙ (sym (length-map (find g.found a).1 (λ (p : ℕ × ℕ). p.0)) ∙ (ap (λ (l : List ℕ). length l) slots ∙ length-map (entry_at g.found c).pairs (λ (p : ℕ × ℕ). p.0)))

module _ (g h : State) (rest_g : AtRest g) (rest_h : AtRest h) where
  -- where an id finds no name that one that corresponds to it does not find, its class has no more slots
  slots-at_most : (a b : Applied) → IsFull g.nodes a → IsFull h.nodes b → ((x : ℕ) → In x (values (find g.found a).1) → In x (values (find h.found b).1)) →
      length (entry_at g.found (find_class g.found a.0)).pairs ≤ length (entry_at h.found (find_class h.found b.0)).pairs
  slots-at_most a b fa fb fewer =
      let xs : List ℕ = values (find g.found a).1 in
      let ys : List ℕ = values (find h.found b).1 in
      let l : length xs ≤ length ys = different-length xs ys
      (injective-different (find g.found a).1 (found-full g.nodes g.found rest_g.sane.sound.linked a (full-is_valid g.nodes g.found rest_g.sane.sound.linked a fa)).injective)
      (λ z c. Contains-In ys z (fewer z (In-Contains xs z c))) in
      let p = found-length g rest_g a fa in
      let q = found-length h rest_h b fb in
      omega (arith, p, q)

  -- classes of ids that correspond
  abbrev Classes : ℕ → ℕ → Type 0
  Classes i j = (a : Applied) × (b : Applied) × Correspond g h a b × (find_class g.found a.0 ≡ i) × (find_class h.found b.0 ≡ j)

module _ (g h : State) (rest_g : AtRest g) (rest_h : AtRest h) (none_g : HasNoOpenSymmetries g) (none_h : HasNoOpenSymmetries h) (known : Knows h g) (known_back : Knows g h) (has : HasTermsOf h g) where
  -- a sum over the live classes of g is at most that over those of h
  counts-at_most : (count : Entry → ℕ) →
      ((a b : Applied) → Correspond g h a b → count (entry_at g.found (find_class g.found a.0)) ≤ count (entry_at h.found (find_class h.found b.0))) →
      sum_from (counted count g.found) 0 (length g.found) ≤ sum_from (counted count h.found) 0 (length h.found)
  counts-at_most count at_most = sum-at_most (length g.found) 0 (length h.found) (counted count g.found) (counted count h.found) (Classes g h rest_g rest_h) there own
    where
      there : (k : ℕ) → 0 ≤ k → k < 0 + length g.found → 0 < counted count g.found k →
          (j : ℕ) × (j < length h.found) × (counted count g.found k ≤ counted count h.found j) × Classes g h rest_g rest_h k j
      there k from to p =
          let entries : length g.found ≡ length g.nodes = rest_g.sane.sound.linked.entries in
          let in_range : k < length g.nodes = omega (arith, entries) in
          let live : IsLive g.found k = live-counted count g.found k p in
          let a : Applied = identity_id g.nodes k in
          let full : IsFull g.nodes a = identity-full g.nodes k in_range in
          let b : (b : Applied) × Correspond g h a b = each-corresponds g h rest_g rest_h known has a full in
          let lead = leads h.nodes h.found rest_h.sane.sound.linked in
          let j : ℕ = find_class h.found b.0.0 in
          let j_live : IsLive h.found j = found-live h.nodes h.found lead b.0.0 b.1.right_full.in_range in
          let j_in_range : j < length h.nodes = found-in_range h.nodes h.found lead b.0.0 b.1.right_full.in_range in
          let h_entries : length h.found ≡ length h.nodes = rest_h.sane.sound.linked.entries in
          let same : find_class g.found k ≡ k = find_class-live g.nodes g.found (leads g.nodes g.found rest_g.sane.sound.linked) k in_range live in
          let le : count (entry_at g.found (find_class g.found k)) ≤ count (entry_at h.found j) = at_most a b.0 b.1 in
          let here : count (entry_at g.found k) ≤ count (entry_at h.found j) = subst (λ i. count (entry_at g.found i) ≤ count (entry_at h.found j)) same le in
          let left : counted count g.found k ≡ count (entry_at g.found k) = counted-live count g.found k live in
          let right : counted count h.found j ≡ count (entry_at h.found j) = counted-live count h.found j j_live in
          let fits : counted count g.found k ≤ counted count h.found j = subst (λ z. z ≤ counted count h.found j) (sym left) (subst (λ z. count (entry_at g.found k) ≤ z) (sym right) here) in
          let below : j < length h.found = omega (arith, h_entries, j_in_range) in
          (j, below, fits, (a, b.0, b.1, same, refl))

      own : (k l j : ℕ) → Classes g h rest_g rest_h k j → Classes g h rest_g rest_h l j → k ≡ l
      own k l j r s =
          sym r.3 ∙ (class-there h g rest_h rest_g none_g known_back r.1 r.0 s.1 s.0 (correspond-back g h known_back r.0 r.1 r.2) (correspond-back g h known_back s.0 s.1 s.2) (r.4 ∙ sym s.4) ∙ s.3)

  lives-at_most : lives_from 0 g.found ≤ lives_from 0 h.found
  lives-at_most =
      let l : sum_from (counted one g.found) 0 (length g.found) ≤ sum_from (counted one h.found) 0 (length h.found) = counts-at_most one (λ a b c. omega arith) in
      subst (λ z. z ≤ lives_from 0 h.found) (sym (lives-counted g.found)) (subst (λ z. sum_from (counted one g.found) 0 (length g.found) ≤ z) (sym (lives-counted h.found)) l)

  slots-no_more : slots_from 0 g.found ≤ slots_from 0 h.found
  slots-no_more =
      let l : sum_from (counted pairs g.found) 0 (length g.found) ≤ sum_from (counted pairs h.found) 0 (length h.found) =
      counts-at_most pairs (λ a b c. slots-at_most g h rest_g rest_h a b c.left_full c.right_full
      (λ x i. names-there h g rest_h rest_g none_g known_back b a (correspond-back g h known_back a b c) x i)) in
      subst (λ z. z ≤ slots_from 0 h.found) (sym (slots-counted g.found)) (subst (λ z. sum_from (counted pairs g.found) 0 (length g.found) ≤ z) (sym (slots-counted h.found)) l)

-- so the graphs agree
pub agree : (g h : State) → AtRest g → AtRest h → HasNoOpenSymmetries g → HasNoOpenSymmetries h → Knows h g → Knows g h → HasTermsOf h g → HasTermsOf g h → Agree g h
agree g h rest_g rest_h none_g none_h known known_back has has_back = record {
  there = each-corresponds g h rest_g rest_h known has;
  back = λ b full. let r = each-corresponds h g rest_h rest_g known_back has_back b full in (r.0, correspond-back h g known b r.0 r.1);
  alike = λ a b x y c d. (
    alike-there g h rest_g rest_h none_h known a b x y c d,
    alike-there h g rest_h rest_g none_g known_back b a y x (back a b c) (back x y d),
  );
  classes = λ a b x y c d. (
    class-there g h rest_g rest_h none_h known a b x y c d,
    class-there h g rest_h rest_g none_g known_back b a y x (back a b c) (back x y d),
  );
  names = λ a b c. ascending-same (values (find g.found a).1) (values (find h.found b).1)
      (λ z. (names-there h g rest_h rest_g none_g known_back b a (back a b c) z, names-there g h rest_g rest_h none_h known a b c z));
  trees = λ t tree. (tree-there g h rest_g rest_h none_h known none_g has t tree, tree-there h g rest_h rest_g none_g known_back none_h has_back t tree);
  looked_up = λ a b c t tree. (
    looked_up-there g h rest_g rest_h none_h known a b c t tree,
    looked_up-there h g rest_h rest_g none_g known_back b a (back a b c) t tree,
  );
  answers = λ t u tree_t tree_u x p. (
    answer-there g h rest_g rest_h none_h known t u tree_t tree_u x p,
    λ e. let y = tree-there g h rest_g rest_h none_h known none_g has t tree_t (x, p) in answer-there h g rest_h rest_g none_g known_back t u tree_t tree_u y.0 y.1 e,
  );
  lives = let l = lives-at_most g h rest_g rest_h none_g none_h known known_back has in let m = lives-at_most h g rest_h rest_g none_h none_g known_back known has_back in omega (arith, l, m);
  slots = let l = slots-no_more g h rest_g rest_h none_g none_h known known_back has in let m = slots-no_more h g rest_h rest_g none_h none_g known_back known has_back in omega (arith, l, m);
}
  where
    back : (a b : Applied) → Correspond g h a b → Correspond h g b a
    back = correspond-back g h known_back
