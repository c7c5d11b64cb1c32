-- Fillings of applied ids that lack names.
use Rattle.std.proofs.Common.{◌≡◌, ◌↔◌, ℕ, ◌+◌, ◌<◌, ◌≤◌, List, [], ◌∷◌, sym, ◌∙◌, ap, refl, subst, inl, inr, arith}
use Rattle.std.specs.Prelude.{max, Contains}
use Rattle.slotted_lists.proofs.Members.{In, In-map, In-of_map, In-Contains, Contains-In}
use Rattle.slotted_theory.specs.Nameless.{DTerm}
use Rattle.slotted_theory.specs.FiniteMaps.{top, filled}
use Rattle.slotted_theory.specs.Shape.{free_names}
use Rattle.slotted_model.specs.Ascending.{IsAscending}
use Rattle.slotted_model.specs.Applied.{Applied, keys, values, map_on}
use Rattle.slotted_model.specs.Classes.{canonical_node, canonical_term, canonical_slots, term_of, IsFull, Canonical}
use Rattle.slotted_model.specs.Filling.{IsValid, IsFilling, EqualForSomeFilling, EqualForEveryFilling}
use Rattle.slotted_model.proofs.Data.Sets.{IsAscending-ascending, same_members}
use Rattle.slotted_model.proofs.Data.Theory.{moved-agrees, past, filled-past}
use Rattle.slotted_model.proofs.Data.Maps.{keys-map_on, filled-map_on, map_on-agrees, map_on-filled, IsInjectiveMap-map_on, past-missing, past-pair, past-injective, filled-pair, pair-filled}
use Rattle.slotted_model.proofs.Represented.Full.{full-ascending, canonical_term-members}
use Rattle.slotted_model.proofs.Represented.Unique.{term_of-same}

pub slots-ascending : (nodes : List DTerm) (i : ℕ) → IsAscending (canonical_slots nodes i)
slots-ascending nodes i = IsAscending-ascending (free_names (canonical_node nodes i).args)

pub valid-full : (nodes : List DTerm) (a : Applied) → IsValid (canonical_slots nodes) nodes a → IsFull nodes a
valid-full nodes a v = record {
  in_range = v.in_range;
  slots = same_members (keys a.1) (canonical_slots nodes a.0) v.ascending (slots-ascending nodes a.0)
      (λ z. (λ h. In-Contains (canonical_slots nodes a.0) z (v.within z (Contains-In (keys a.1) z h)), λ h. In-Contains (keys a.1) z (v.has_slots z (Contains-In (canonical_slots nodes a.0) z h))));
  injective = v.injective;
}

full-valid : (nodes : List DTerm) (a : Applied) → IsFull nodes a → IsValid (canonical_slots nodes) nodes a
full-valid nodes a full = record {
  in_range = full.in_range;
  ascending = full-ascending nodes a full;
  injective = full.injective;
  has_slots = λ s h. subst (λ ks. Contains ks s) (sym full.slots) h;
  within = λ s h. subst (λ ks. Contains ks s) full.slots h;
}

-- where no slot has been dropped the valid ids are the full ones
pub valid-iff : (nodes : List DTerm) (a : Applied) → IsValid (canonical_slots nodes) nodes a ↔ IsFull nodes a
valid-iff nodes a = (valid-full nodes a, full-valid nodes a)

pub fills-itself : (nodes : List DTerm) (given : List ℕ) (a : Applied) → IsFull nodes a → IsFilling nodes given a a
fills-itself nodes given a full = record {
  class = refl;
  full = full;
  keeps = λ s x h. h;
  fresh = λ s x h n. absurd (n (Contains-In (keys a.1) s (In-map (λ p. p.0) a.1 (s, x) (In-Contains a.1 (s, x) h))));
}

only-itself : (nodes : List DTerm) (given : List ℕ) (a b : Applied) → IsFull nodes a → IsFilling nodes given a b → b ≡ a
only-itself nodes given a b full f =
    let aa : IsAscending (keys a.1) = full-ascending nodes a full in
    let ab : IsAscending (keys b.1) = full-ascending nodes b f.full in
    let k : keys b.1 ≡ keys a.1 = f.full.slots ∙ (ap (canonical_slots nodes) f.class ∙ sym full.slots) in
    let m : map_on (filled b.1) (keys a.1) ≡ map_on (filled a.1) (keys a.1) =
    map_on-agrees (filled b.1) (filled a.1) (keys a.1)
    (λ s h. filled-pair b.1 s (filled a.1 s) ab (In-Contains b.1 (s, filled a.1 s) (f.keeps s (filled a.1 s) (Contains-In a.1 (s, filled a.1 s) (pair-filled a.1 s aa h))))) in
    let e : b.1 ≡ a.1 = sym (map_on-filled b.1 ab) ∙ (ap (map_on (filled b.1)) k ∙ (m ∙ map_on-filled a.1 aa)) in
    λ i. (f.class i, e i)

-- a full id lacks no name
pub filling-iff : (nodes : List DTerm) (given : List ℕ) (a b : Applied) → IsFull nodes a → IsFilling nodes given a b ↔ (b ≡ a)
filling-iff nodes given a b full = (only-itself nodes given a b full, λ e. subst (IsFilling nodes given a) (sym e) (fills-itself nodes given a full))

-- a number above all of the list
above : List ℕ → ℕ
above [] = 0
above (x ∷ xs) = max (x + 1) (above xs)

In-above : (xs : List ℕ) (x : ℕ) → In x xs → x < above xs
unfolding above
In-above [] x h = absurd h
In-above (y ∷ ys) x (inl e) = omega arith
In-above (y ∷ ys) x (inr h) = let l : x < above ys = In-above ys x h in omega arith

-- the pairs of a function on keys
pair-map_on : (f : ℕ → ℕ) (ks : List ℕ) (s x : ℕ) → In (s, x) (map_on f ks) → x ≡ f s
pair-map_on f ks s x h =
    let r : (k : ℕ) × In k ks × ((s, x) ≡ (k, f k)) = In-of_map (λ k. (k, f k)) ks (s, x) h in
    ap (λ p. p.1) r.2 ∙ ap f (sym (ap (λ p. p.0) r.2))

-- the id with a name for each canonical slot: what it lacks goes t up
filled_id : List DTerm → ℕ → Applied → Applied
filled_id nodes t a = (a.0, map_on (past t a.1) (canonical_slots nodes a.0))

-- past all values and all given names this is a filling
filled_id-fills : (nodes : List DTerm) (slots : ℕ → List ℕ) (given : List ℕ) (a : Applied) (t : ℕ) → IsValid slots nodes a → top a.1 ≤ t → above given ≤ t → IsFilling nodes given a (filled_id nodes t a)
unfolding filled_id
filled_id-fills nodes slots given a t v past_values past_given =
    let ss : List ℕ = canonical_slots nodes a.0 in
    record {
      class = refl;
      full = record {
        in_range = v.in_range;
        slots = keys-map_on (past t a.1) ss;
        injective = IsInjectiveMap-map_on (past t a.1) ss (λ x y h k p. past-injective t a.1 past_values v.injective x y p) (slots-ascending nodes a.0);
      };
      keeps = λ s x h.
          let p : In (s, x) a.1 = In-Contains a.1 (s, x) h in
          let k : In s ss = In-Contains ss s (v.within s (Contains-In (keys a.1) s (In-map (λ p. p.0) a.1 (s, x) p))) in
          Contains-In (map_on (past t a.1) ss) (s, x) (subst (λ y. In (s, y) (map_on (past t a.1) ss)) (past-pair t a.1 s x v.ascending p) (In-map (λ y. (y, past t a.1 y)) ss s k));
      fresh = λ s x h n c.
          let e : x ≡ past t a.1 s = pair-map_on (past t a.1) ss s x (In-Contains (map_on (past t a.1) ss) (s, x) h) in
          let q : past t a.1 s ≡ t + s = past-missing t a.1 s (λ k. n (Contains-In (keys a.1) s k)) in
          let l : x < above given = In-above given x (In-Contains given x c) in
          omega arith;
    }

pub a_filling : (nodes : List DTerm) (slots : ℕ → List ℕ) (given : List ℕ) (a : Applied) → IsValid slots nodes a → (b : Applied) × IsFilling nodes given a b
a_filling nodes slots given a v =
    let t : ℕ = max (top a.1) (above given) in
    (filled_id nodes t a, filled_id-fills nodes slots given a t v (omega arith) (omega arith))

-- what an id that lacks names stands for is what one of its fillings stands for
pub term_of-filling : (nodes : List DTerm) → Canonical nodes → (slots : ℕ → List ℕ) (a : Applied) → IsValid slots nodes a → (b : Applied) × IsFilling nodes [] a b × (term_of nodes b ≡ term_of nodes a)
unfolding filled_id above
term_of-filling nodes can slots a v =
    let ss : List ℕ = canonical_slots nodes a.0 in (
      filled_id nodes (top a.1) a,
      filled_id-fills nodes slots [] a (top a.1) v (omega arith) (omega arith),
      moved-agrees (filled (map_on (past (top a.1) a.1) ss)) (filled a.1) (canonical_term nodes a.0)
          (λ x h. filled-map_on (past (top a.1) a.1) ss x ((canonical_term-members nodes can a.0 v.in_range x).0 h) ∙ sym (filled-past a.1 x)),
    )

-- where no slot has been dropped, ids are told apart by their terms, whether some or every filling is asked
pub valid-same : (nodes : List DTerm) → Canonical nodes → (a b : Applied) → IsValid (canonical_slots nodes) nodes a → IsValid (canonical_slots nodes) nodes b →
    ((a ≡ b) ↔ EqualForSomeFilling nodes a b) × ((a ≡ b) ↔ EqualForEveryFilling nodes a b)
valid-same nodes can a b va vb =
    let fa : IsFull nodes a = valid-full nodes a va in
    let fb : IsFull nodes b = valid-full nodes b vb in (
      (
        λ e. record {
          left = a;
          right = b;
          left_fills = fills-itself nodes (values b.1) a fa;
          right_fills = fills-itself nodes (values a.1) b fb;
          equal = ap (term_of nodes) e;
        },
        λ s.
            let l : s.left ≡ a = only-itself nodes (values b.1) a s.left fa s.left_fills in
            let r : s.right ≡ b = only-itself nodes (values s.left.1) b s.right fb s.right_fills in
            (term_of-same nodes can a b fa fb).0 (ap (term_of nodes) (sym l) ∙ (s.equal ∙ ap (term_of nodes) r)),
      ),
      (
        λ e left right p q. ap (term_of nodes) (only-itself nodes (values b.1) a left fa p) ∙ (ap (term_of nodes) e ∙ ap (term_of nodes) (sym (only-itself nodes (values left.1) b right fb q))),
        λ every. (term_of-same nodes can a b fa fb).0 (every a b (fills-itself nodes (values b.1) a fa) (fills-itself nodes (values a.1) b fb)),
      ),
    )
