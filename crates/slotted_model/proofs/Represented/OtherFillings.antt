-- Fillings of one id differ by names that the id has not: what holds of one holds of all.
use Rattle.std.proofs.Common.{◌≡◌, ◌↔◌, ℕ, List, [], ◌∷◌, sym, ◌∙◌, ap, refl, subst, inl, inr, ◌⊎◌}
use Rattle.std.specs.Prelude.{map, Contains}
use Rattle.std.proofs.lemmas.Bool.{cases_eq}
use Rattle.slotted_lists.proofs.Members.{In, In-map, In-of_map, In-Contains, Contains-In}
use Rattle.slotted_lists.proofs.Maps.{keys-with_values, values-with_values}
use Rattle.slotted_theory.specs.Nameless.{DTerm, moved}
use Rattle.slotted_theory.specs.Renaming.{Bijection}
use Rattle.slotted_theory.specs.FiniteMaps.{filled, with_values}
use Rattle.slotted_theory.proofs.Bijections.{to-injective, then}
use Rattle.slotted_theory.proofs.Filled.{filled-injective}
use Rattle.slotted_model.specs.Ascending.{IsAscending}
use Rattle.slotted_model.specs.Applied.{Applied, keys, values, map_on, renamed_id}
use Rattle.slotted_model.specs.Classes.{canonical_slots, term_of, Canonical}
use Rattle.slotted_model.specs.Filling.{IsValid, IsFilling, EqualForSomeFilling, EqualForEveryFilling, RenamedFilling, RenamedTogether}
use Rattle.slotted_model.proofs.Data.Maps.{map_on-agrees, map_on-filled, filled-with_values, filled-pair, pair-filled}
use Rattle.slotted_model.proofs.Data.Extension.{Different, Extension, extension, Different-map}
use Rattle.slotted_model.proofs.Represented.Full.{full-ascending, full-renamed, term_of-renamed}
use Rattle.slotted_model.proofs.Represented.Fillings.{a_filling}

In-cases : (x : ℕ) (xs : List ℕ) → In x xs ⊎ (¬ In x xs)
In-cases x [] = inr (λ h. h)
In-cases x (y ∷ ys) = elim (cases_eq x y) [
  | inl e ↦ inl (inl e)
  | inr n ↦ elim (In-cases x ys) [
    | inl h ↦ inl (inr h)
    | inr m ↦ inr (λ h. elim h [
      | inl e ↦ n e
      | inr k ↦ m k
    ])
  ]
]

-- the names of two functions on slots, in pairs
pairs : (ℕ → ℕ) → (ℕ → ℕ) → List ℕ → List (ℕ × ℕ)
pairs f g ss = map (λ s. (f s, g s)) ss

keys-pairs : (f g : ℕ → ℕ) (ss : List ℕ) → keys (pairs f g ss) ≡ map f ss
unfolding pairs
keys-pairs f g [] = refl
keys-pairs f g (s ∷ ss) = ap (λ l. f s ∷ l) (keys-pairs f g ss)

values-pairs : (f g : ℕ → ℕ) (ss : List ℕ) → values (pairs f g ss) ≡ map g ss
unfolding pairs
values-pairs f g [] = refl
values-pairs f g (s ∷ ss) = ap (λ l. g s ∷ l) (values-pairs f g ss)

In-pairs : (f g : ℕ → ℕ) (ss : List ℕ) (s : ℕ) → In s ss → In (f s, g s) (pairs f g ss)
unfolding pairs
In-pairs f g ss s h = In-map (λ s. (f s, g s)) ss s h

-- a given name that a filling has is the id's own
given_name : (nodes : List DTerm) (given : List ℕ) (a b : Applied) → IsFilling nodes given a b → (z : ℕ) → In z given → In z (map (filled b.1) (keys b.1)) → In z (values a.1)
given_name nodes given a b f z h k =
    let asc : IsAscending (keys b.1) = full-ascending nodes b f.full in
    let r : (s : ℕ) × In s (keys b.1) × (z ≡ filled b.1 s) = In-of_map (filled b.1) (keys b.1) z k in
    let p : In (r.0, z) b.1 = subst (λ y. In (r.0, y) b.1) (sym r.2) (pair-filled b.1 r.0 asc r.1) in
    elim (In-cases r.0 (keys a.1)) [
      | inl i ↦
          let q : (t : ℕ × ℕ) × In t a.1 × (r.0 ≡ t.0) = In-of_map (λ t. t.0) a.1 r.0 i in
          let e : filled b.1 q.0.0 ≡ q.0.1 = filled-pair b.1 q.0.0 q.0.1 asc (In-Contains b.1 q.0 (f.keeps q.0.0 q.0.1 (Contains-In a.1 q.0 q.1))) in
          subst (λ y. In y (values a.1)) (sym (r.2 ∙ (ap (filled b.1) q.2 ∙ e))) (In-map (λ t. t.1) a.1 q.0 q.1)
      | inr n ↦ absurd (f.fresh r.0 z (Contains-In b.1 (r.0, z) p) (λ c. n (In-Contains (keys a.1) r.0 c)) (Contains-In given z h))
    ]

pub renamed_filling : (nodes : List DTerm) (given : List ℕ) (a b c : Applied) → IsFilling nodes given a b → IsFilling nodes given a c → RenamedFilling given a b c
renamed_filling nodes given a b c f g =
    let ab : IsAscending (keys b.1) = full-ascending nodes b f.full in
    let ac : IsAscending (keys c.1) = full-ascending nodes c g.full in
    let class : b.0 ≡ c.0 = f.class ∙ sym g.class in
    let same_keys : keys b.1 ≡ keys c.1 = f.full.slots ∙ (ap (canonical_slots nodes) class ∙ sym g.full.slots) in
    let m : List (ℕ × ℕ) = pairs (filled b.1) (filled c.1) (keys b.1) in
    let r : Extension m =
    extension m (subst Different (sym (keys-pairs (filled b.1) (filled c.1) (keys b.1))) (Different-map (filled b.1) (filled-injective b.1 f.full.injective) (keys b.1) ab))
    (subst Different (sym (values-pairs (filled b.1) (filled c.1) (keys b.1))) (Different-map (filled c.1) (filled-injective c.1 g.full.injective) (keys b.1) ab)) in
    let takes : (s : ℕ) → In s (keys b.1) → r.bijection.to (filled b.1 s) ≡ filled c.1 s = λ s h. r.at (filled b.1 s) (filled c.1 s) (In-pairs (filled b.1) (filled c.1) (keys b.1) s h) in
    let own : (z : ℕ) → In z (values a.1) → r.bijection.to z ≡ z =
    λ z h.
    let q : (t : ℕ × ℕ) × In t a.1 × (z ≡ t.1) = In-of_map (λ t. t.1) a.1 z h in
    let pb : In q.0 b.1 = In-Contains b.1 q.0 (f.keeps q.0.0 q.0.1 (Contains-In a.1 q.0 q.1)) in
    let pc : In q.0 c.1 = In-Contains c.1 q.0 (g.keeps q.0.0 q.0.1 (Contains-In a.1 q.0 q.1)) in
    let eb : filled b.1 q.0.0 ≡ z = filled-pair b.1 q.0.0 q.0.1 ab pb ∙ sym q.2 in
    let ec : filled c.1 q.0.0 ≡ z = filled-pair c.1 q.0.0 q.0.1 ac pc ∙ sym q.2 in
    ap r.bijection.to (sym eb) ∙ (takes q.0.0 (In-map (λ t. t.0) b.1 q.0 pb) ∙ ec) in
    let left : (z : ℕ) → In z (keys m) → In z (map (filled b.1) (keys b.1)) = λ z h. subst (In z) (keys-pairs (filled b.1) (filled c.1) (keys b.1)) h in
    let right : (z : ℕ) → In z (values m) → In z (map (filled c.1) (keys c.1)) =
    λ z h. subst (λ ks. In z (map (filled c.1) ks)) same_keys (subst (In z) (values-pairs (filled b.1) (filled c.1) (keys b.1)) h) in
    let leaves : (z : ℕ) → In z given → r.bijection.to z ≡ z =
    λ z h. elim (In-cases z (values a.1)) [
      | inl i ↦ own z i
      | inr n ↦ r.fixes z (λ k. n (given_name nodes given a b f z h (left z k))) (λ k. n (given_name nodes given a c g z h (right z k)))
    ] in
    let e : with_values r.bijection.to b.1 ≡ c.1 =
    sym (map_on-filled (with_values r.bijection.to b.1) (subst IsAscending (sym (keys-with_values r.bijection.to b.1)) ab))
    ∙ (ap (map_on (filled (with_values r.bijection.to b.1))) (keys-with_values r.bijection.to b.1)
    ∙ (map_on-agrees (filled (with_values r.bijection.to b.1)) (filled c.1) (keys b.1) (λ s h. filled-with_values r.bijection.to b.1 s h ∙ takes s h)
    ∙ (ap (map_on (filled c.1)) same_keys ∙ map_on-filled c.1 ac))) in
    record {
      bijection = r.bijection;
      leaves_given = λ x h. leaves x (In-Contains given x h);
      leaves_names = λ x h. own x (In-Contains (values a.1) x h);
      renames = λ i. (class i, e i);
    }

pub with_values-then : (f g : ℕ → ℕ) (m : List (ℕ × ℕ)) → with_values g (with_values f m) ≡ with_values (λ x. g (f x)) m
with_values-then f g [] = refl
with_values-then f g (p ∷ m) = ap (λ l. (p.0, g (f p.1)) ∷ l) (with_values-then f g m)

pub with_values-same : (f : ℕ → ℕ) (m : List (ℕ × ℕ)) → ((x : ℕ) → In x (values m) → f x ≡ x) → with_values f m ≡ m
with_values-same f [] h = refl
with_values-same f (p ∷ m) h = λ i. (p.0, h p.1 (inl refl) i) ∷ with_values-same f m (λ x k. h x (inr k)) i

-- a filling, renamed by a bijection that leaves the id's names
filling-renamed : (nodes : List DTerm) (given : List ℕ) (a b : Applied) → IsFilling nodes given a b → (π : Bijection) → ((x : ℕ) → Contains (values a.1) x → π.to x ≡ x) → IsFilling nodes (map π.to given) a (renamed_id π.to b)
filling-renamed nodes given a b f π own = record {
  class = f.class;
  full = full-renamed nodes b f.full π.to (λ x y h k e. to-injective π x y e);
  keeps = λ s x h.
      let e : π.to x ≡ x = own x (Contains-In (values a.1) x (In-map (λ p. p.1) a.1 (s, x) (In-Contains a.1 (s, x) h))) in
      let k : In (s, π.to x) (with_values π.to b.1) = In-map (λ p. (p.0, π.to p.1)) b.1 (s, x) (In-Contains b.1 (s, x) (f.keeps s x h)) in
      Contains-In (with_values π.to b.1) (s, x) (subst (λ y. In (s, y) (with_values π.to b.1)) e k);
  fresh = λ s y h n c.
      let r : (p : ℕ × ℕ) × In p b.1 × ((s, y) ≡ (p.0, π.to p.1)) = In-of_map (λ p. (p.0, π.to p.1)) b.1 (s, y) (In-Contains (with_values π.to b.1) (s, y) h) in
      let q : (x : ℕ) × In x given × (y ≡ π.to x) = In-of_map π.to given y (In-Contains (map π.to given) y c) in
      let e : q.0 ≡ r.0.1 = to-injective π q.0 r.0.1 (sym q.2 ∙ ap (λ p. p.1) r.2) in
      f.fresh r.0.0 r.0.1 (Contains-In b.1 r.0 r.1) (λ k. n (subst (Contains (keys a.1)) (sym (ap (λ p. p.0) r.2)) k)) (Contains-In given r.0.1 (subst (λ x. In x given) e q.1));
}

pub renamed_together : (nodes : List DTerm) (a b left right other_left other_right : Applied) →
    IsFilling nodes (values b.1) a left → IsFilling nodes (values left.1) b right →
    IsFilling nodes (values b.1) a other_left → IsFilling nodes (values other_left.1) b other_right → RenamedTogether left other_left right other_right
renamed_together nodes a b left right other_left other_right fl fr ol or =
    let p : RenamedFilling (values b.1) a left other_left = renamed_filling nodes (values b.1) a left other_left fl ol in
    let moved_names : map p.bijection.to (values left.1) ≡ values other_left.1 = sym (values-with_values p.bijection.to left.1) ∙ ap (λ x. values x.1) p.renames in
    let r : IsFilling nodes (values other_left.1) b (renamed_id p.bijection.to right) =
    subst (λ xs. IsFilling nodes xs b (renamed_id p.bijection.to right)) moved_names (filling-renamed nodes (values left.1) b right fr p.bijection p.leaves_given) in
    let q : RenamedFilling (values other_left.1) b (renamed_id p.bijection.to right) other_right = renamed_filling nodes (values other_left.1) b (renamed_id p.bijection.to right) other_right r or in
    record {
      bijection = then p.bijection q.bijection;
      renames_left = ap (λ m. (left.0, m)) (sym (with_values-then p.bijection.to q.bijection.to left.1))
          ∙ (ap (renamed_id q.bijection.to) p.renames
          ∙ ap (λ m. (other_left.0, m)) (with_values-same q.bijection.to other_left.1 (λ x h. q.leaves_given x (Contains-In (values other_left.1) x h))));
      renames_right = ap (λ m. (right.0, m)) (sym (with_values-then p.bijection.to q.bijection.to right.1)) ∙ q.renames;
    }

-- whether some or every filling is asked does not matter
pub some_is_every : (nodes : List DTerm) → Canonical nodes → (slots : ℕ → List ℕ) (a b : Applied) → IsValid slots nodes a → IsValid slots nodes b → EqualForSomeFilling nodes a b ↔ EqualForEveryFilling nodes a b
some_is_every nodes can slots a b va vb = (
  λ s left right fl fr.
      let w : RenamedTogether s.left left s.right right = renamed_together nodes a b s.left s.right left right s.left_fills s.right_fills fl fr in
      ap (term_of nodes) (sym w.renames_left)
      ∙ (term_of-renamed nodes can s.left s.left_fills.full w.bijection.to
      ∙ (ap (moved w.bijection.to) s.equal
      ∙ (sym (term_of-renamed nodes can s.right s.right_fills.full w.bijection.to) ∙ ap (term_of nodes) w.renames_right))),
  λ every.
      let l : (c : Applied) × IsFilling nodes (values b.1) a c = a_filling nodes slots (values b.1) a va in
      let r : (c : Applied) × IsFilling nodes (values l.0.1) b c = a_filling nodes slots (values l.0.1) b vb in
      record { left = l.0; right = r.0; left_fills = l.1; right_fills = r.1; equal = every l.0 r.0 l.1 r.1 },
)
