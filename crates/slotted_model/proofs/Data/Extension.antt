-- Pairs of names, different on either side, extend to a bijection that leaves all other names.
use Rattle.std.proofs.Common.{◌≡◌, ◌≢◌, ℕ, ◌<◌, List, [], ◌∷◌, sym, ◌∙◌, ap, refl, subst, inl, inr, arith}
use Rattle.std.specs.Prelude.{map, nat_eq, cond}
use Rattle.std.proofs.lemmas.Bool.{cases_eq, eq-eqb, ne_eqb}
use Rattle.slotted_lists.proofs.Members.{In, In-map, In-of_map}
use Rattle.slotted_theory.specs.Renaming.{Bijection, IsInjective}
use Rattle.slotted_theory.proofs.Bijections.{to-injective, then}
use Rattle.slotted_model.specs.Ascending.{IsAscending}
use Rattle.slotted_model.specs.Applied.{keys, values}
use Rattle.slotted_model.proofs.Data.Sets.{below_each}

exchange : ℕ → ℕ → ℕ → ℕ
exchange x y z = cond (nat_eq z x) y (cond (nat_eq z y) x z)

exchange-first : (x y z : ℕ) → z ≡ x → exchange x y z ≡ y
unfolding exchange
exchange-first x y z e = ap (λ b. cond b y (cond (nat_eq z y) x z)) (eq-eqb z x e)

exchange-second : (x y z : ℕ) → z ≢ x → z ≡ y → exchange x y z ≡ x
unfolding exchange
exchange-second x y z n e = ap (λ b. cond b y (cond (nat_eq z y) x z)) (ne_eqb z x n) ∙ ap (λ b. cond b x z) (eq-eqb z y e)

exchange-other : (x y z : ℕ) → z ≢ x → z ≢ y → exchange x y z ≡ z
unfolding exchange
exchange-other x y z n m = ap (λ b. cond b y (cond (nat_eq z y) x z)) (ne_eqb z x n) ∙ ap (λ b. cond b x z) (ne_eqb z y m)

exchange-twice : (x y z : ℕ) → exchange x y (exchange x y z) ≡ z
exchange-twice x y z = elim (cases_eq z x) [
  | inl e ↦ elim (cases_eq y x) [
    | inl d ↦ exchange-first x y (exchange x y z) (exchange-first x y z e ∙ d) ∙ (d ∙ sym e)
    | inr n ↦ ap (exchange x y) (exchange-first x y z e) ∙ (exchange-second x y y n refl ∙ sym e)
  ]
  | inr n ↦ elim (cases_eq z y) [
    | inl e ↦ ap (exchange x y) (exchange-second x y z n e) ∙ (exchange-first x y x refl ∙ sym e)
    | inr m ↦ ap (exchange x y) (exchange-other x y z n m) ∙ exchange-other x y z n m
  ]
]

exchanging : ℕ → ℕ → Bijection
exchanging x y = record { to = exchange x y; back = exchange x y; back_to = exchange-twice x y; to_back = exchange-twice x y }

unmoved : Bijection
unmoved = record { to = λ x. x; back = λ x. x; back_to = λ x. refl; to_back = λ x. refl }

-- no name stands twice
abbrev pub Different : List ℕ → Type 0
Different [] = Unit {0}
Different (x ∷ xs) = (¬ In x xs) × Different xs

-- a bijection with these values that leaves all other names
pub record Extension (m : List (ℕ × ℕ)) : Type 0 where
  pub bijection : Bijection
  pub at : (k v : ℕ) → In (k, v) m → bijection.to k ≡ v
  pub fixes : (z : ℕ) → ¬ In z (keys m) → ¬ In z (values m) → bijection.to z ≡ z

pub extension : (m : List (ℕ × ℕ)) → Different (keys m) → Different (values m) → Extension m
unfolding exchanging unmoved
extension [] d e = record { bijection = unmoved; at = λ k v h. absurd h; fixes = λ z n o. refl }
extension (p ∷ m) d e =
    let r : Extension m = extension m d.1 e.1 in
    let x : ℕ = r.bijection.to p.0 in
    record {
      bijection = then r.bijection (exchanging x p.1);
      at = λ k v h. elim h [
        | inl q ↦ exchange-first x p.1 (r.bijection.to k) (ap (λ t. r.bijection.to t.0) q) ∙ sym (ap (λ t. t.1) q)
        | inr i ↦
            let w : r.bijection.to k ≡ v = r.at k v i in
            ap (exchange x p.1) w
            ∙ exchange-other x p.1 v
            (λ f. d.0 (subst (λ y. In y (keys m)) (to-injective r.bijection k p.0 (w ∙ f)) (In-map (λ q. q.0) m (k, v) i)))
            (λ f. e.0 (subst (λ y. In y (values m)) f (In-map (λ q. q.1) m (k, v) i)))
      ];
      fixes = λ z n o.
          let w : r.bijection.to z ≡ z = r.fixes z (λ i. n (inr i)) (λ i. o (inr i)) in
          ap (exchange x p.1) w ∙ exchange-other x p.1 z (λ f. n (inl (to-injective r.bijection z p.0 (w ∙ f)))) (λ f. o (inl f));
    }

-- an injective function takes ascending names to different ones
pub Different-map : (f : ℕ → ℕ) → IsInjective f → (xs : List ℕ) → IsAscending xs → Different (map f xs)
Different-map f inj [] a = tt
Different-map f inj (x ∷ xs) a = (
  λ h.
      let r : (y : ℕ) × In y xs × (f x ≡ f y) = In-of_map f xs (f x) h in
      let e : x ≡ r.0 = inj x r.0 r.2 in
      let l : x < r.0 = below_each x xs a.0 r.0 r.1 in
      omega arith,
  Different-map f inj xs a.1,
)
