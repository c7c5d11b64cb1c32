-- Two equations match exactly if they have one correspondence.
use Rattle.std.proofs.Common.{◌≡◌, ℕ, List, [], ◌∷◌, sym, ◌∙◌, ap, subst, inl, inr}
use Rattle.std.specs.Prelude.{Contains, ◌++◌, ◌⊎◌, ◌↔◌}
use Rattle.std.proofs.lemmas.Bool.{cases_eq}
use Rattle.std.proofs.lemmas.List.Elements.{Contains-append_left, Contains-append_right, Contains-append_cases}
use Rattle.slotted_lists.proofs.Contained.{contains_head, contains_tail, contains_cases, Contains-nil}
use Rattle.slotted_lists.proofs.Maps.{with_values-pair}
use Rattle.slotted_theory.specs.Renaming.{Bijection, IsInjective}
use Rattle.slotted_theory.proofs.Bijections.{to-injective, then, swap, same, swapped-first, swapped-other}
use Rattle.slotted_theory.specs.FiniteMaps.{with_values}
use Rattle.slotted_model.specs.Correspondence.{IsFullMap, flipped, composite, same_names, IsMatch}
use Rattle.slotted_model.proofs.Correspondences.Pairs.{Contains-flipped, Contains-of_flipped}
use Rattle.slotted_model.proofs.Correspondences.PartialInjections.{composite-over, composite-by}
use Rattle.slotted_model.proofs.Correspondences.FullMaps.{full-in_order, full-name, full-slot, full-one_name, full-one_slot, full-ext, with_values-full, same_names-over, same_names-by, same_names-with_values}

-- a bijection of all names that takes the first name of each pair to the second
pub record Takes (w : List (ℕ × ℕ)) : Type 0 where
  pub bijection : Bijection
  pub takes : (x y : ℕ) → Contains w (x, y) → bijection.to x ≡ y

-- pairs of names are equal on the one side exactly where they are on the other
pub record IsOneToOne (w : List (ℕ × ℕ)) : Type 0 where
  pub forward : (x y x' y' : ℕ) → Contains w (x, y) → Contains w (x', y') → x ≡ x' → y ≡ y'
  pub backward : (x y x' y' : ℕ) → Contains w (x, y) → Contains w (x', y') → y ≡ y' → x ≡ x'

-- finitely many pairs of names can be taken one to the other by a bijection
pub takes_pairs : (w : List (ℕ × ℕ)) → IsOneToOne w → Takes w
takes_pairs [] o = record { bijection = same; takes = λ x y c. absurd (Contains-nil (x, y) c) }
takes_pairs (p ∷ w) o =
    let r : Takes w = takes_pairs w (record {
      forward = λ x y x' y' c d e. o.forward x y x' y' (contains_tail p w (x, y) c) (contains_tail p w (x', y') d) e;
      backward = λ x y x' y' c d e. o.backward x y x' y' (contains_tail p w (x, y) c) (contains_tail p w (x', y') d) e;
    }) in
    let a = r.bijection.to p.0 in
    record {
      bijection = then r.bijection (swap a p.1);
      takes = λ x y c. elim (cases_eq x p.0) [
        | inl e ↦
            swapped-first a p.1 (r.bijection.to x) (ap r.bijection.to e)
            ∙ o.forward p.0 p.1 x y (contains_head p w) c (sym e)
        | inr n ↦ elim (contains_cases p w (x, y) c) [
          | inl e ↦ absurd (n (ap (λ q. q.0) e))
          | inr h ↦
              swapped-other a p.1 (r.bijection.to x)
              (λ e. n (to-injective r.bijection x p.0 e))
              (λ e. n (o.backward x y p.0 p.1 c (contains_head p w) (sym (r.takes x y h) ∙ e)))
              ∙ r.takes x y h
        ]
      ];
    }

-- the pairs of a name in m and the name in m' of the same slot
abbrev renamings : List (ℕ × ℕ) → List (ℕ × ℕ) → List (ℕ × ℕ)
renamings m m' = composite (flipped m) m'

-- x is the name in m or n of a slot whose name in m' or n' is y
abbrev IsRenamed : (m n m' n' : List (ℕ × ℕ)) (x y : ℕ) → Type 0
IsRenamed m n m' n' x y = ((s : ℕ) × Contains m (s, x) × Contains m' (s, y)) ⊎ ((t : ℕ) × Contains n (t, x) × Contains n' (t, y))

renamed-left : (P : List ℕ) (m m' : List (ℕ × ℕ)) → IsFullMap P m → IsFullMap P m' → (s s' x y y' : ℕ) → Contains m (s, x) → Contains m' (s, y) → Contains m (s', x) → Contains m' (s', y') → y ≡ y'
renamed-left P m m' f f' s s' x y y' a b c d =
    full-one_name P m' f' s' y y' (subst (λ r. Contains m' (r, y)) (full-one_slot P m f s s' x a c) b) d

renamed-across : (P Q : List ℕ) (m n m' n' : List (ℕ × ℕ)) → IsFullMap Q n → IsFullMap P m' → IsFullMap Q n' → same_names m n ≡ same_names m' n' → (s t x y y' : ℕ) → Contains m (s, x) → Contains m' (s, y) → Contains n (t, x) → Contains n' (t, y') → y ≡ y'
renamed-across P Q m n m' n' g f' g' e s t x y y' a b c d =
    let r = same_names-over m' n' s t (subst (λ A. Contains A (s, t)) e (same_names-by Q m n g s t x a c)) in
    full-one_name P m' f' s y r.0 b r.1 ∙ full-one_name Q n' g' t r.0 y' r.2 d

renamed-once : (P Q : List ℕ) (m n m' n' : List (ℕ × ℕ)) → IsFullMap P m → IsFullMap Q n → IsFullMap P m' → IsFullMap Q n' → same_names m n ≡ same_names m' n' → (x y y' : ℕ) → IsRenamed m n m' n' x y → IsRenamed m n m' n' x y' → y ≡ y'
renamed-once P Q m n m' n' f g f' g' e x y y' (inl a) (inl b) = renamed-left P m m' f f' a.0 b.0 x y y' a.1 a.2 b.1 b.2
renamed-once P Q m n m' n' f g f' g' e x y y' (inl a) (inr b) = renamed-across P Q m n m' n' g f' g' e a.0 b.0 x y y' a.1 a.2 b.1 b.2
renamed-once P Q m n m' n' f g f' g' e x y y' (inr a) (inl b) = sym (renamed-across P Q m n m' n' g f' g' e b.0 a.0 x y' y b.1 b.2 a.1 a.2)
renamed-once P Q m n m' n' f g f' g' e x y y' (inr a) (inr b) = renamed-left Q n n' g g' a.0 b.0 x y y' a.1 a.2 b.1 b.2

renamed-back : (m n m' n' : List (ℕ × ℕ)) (x y : ℕ) → IsRenamed m n m' n' x y → IsRenamed m' n' m n y x
renamed-back m n m' n' x y (inl a) = inl (a.0, a.2, a.1)
renamed-back m n m' n' x y (inr a) = inr (a.0, a.2, a.1)

renamed-pair : (m n m' n' : List (ℕ × ℕ)) (x y : ℕ) → Contains (renamings m m' ++ renamings n n') (x, y) → IsRenamed m n m' n' x y
renamed-pair m n m' n' x y c = elim (Contains-append_cases (renamings m m') (renamings n n') (x, y) c) [
  | inl h ↦ let r = composite-over (flipped m) m' x y h in inl (r.0, Contains-of_flipped m r.0 x r.1, r.2)
  | inr h ↦ let r = composite-over (flipped n) n' x y h in inr (r.0, Contains-of_flipped n r.0 x r.1, r.2)
]

-- the two maps of an equation with the names of another of one correspondence
renamings-one_to_one : (P Q : List ℕ) (m n m' n' : List (ℕ × ℕ)) → IsFullMap P m → IsFullMap Q n → IsFullMap P m' → IsFullMap Q n' → same_names m n ≡ same_names m' n' → IsOneToOne (renamings m m' ++ renamings n n')
renamings-one_to_one P Q m n m' n' f g f' g' e = record {
  forward = λ x y x' y' c d p.
      renamed-once P Q m n m' n' f g f' g' e x' y y'
      (subst (λ z. IsRenamed m n m' n' z y) p (renamed-pair m n m' n' x y c)) (renamed-pair m n m' n' x' y' d);
  backward = λ x y x' y' c d p.
      renamed-once P Q m' n' m n f' g' f g (sym e) y' x x'
      (subst (λ z. IsRenamed m' n' m n z x) p (renamed-back m n m' n' x y (renamed-pair m n m' n' x y c))) (renamed-back m n m' n' x' y' (renamed-pair m n m' n' x' y' d));
}

-- a map that takes the names of m to those of m' takes m to m'
with_values-is : (f : ℕ → ℕ) → IsInjective f → (P : List ℕ) (m m' : List (ℕ × ℕ)) → IsFullMap P m → IsFullMap P m' → ((s x y : ℕ) → Contains m (s, x) → Contains m' (s, y) → f x ≡ y) → m' ≡ with_values f m
with_values-is f inj P m m' a b h = sym (full-ext P (with_values f m) m' (with_values-full f P m a (λ x y c d e. inj x y e)) b
    (λ s y c.
    let r = with_values-pair f m s y c in
    let q = full-name P m' b s (full-slot P m a s r.0 r.1) in
    subst (λ z. Contains m' (s, z)) (sym (h s r.0 q.0 r.1 q.1) ∙ r.2) q.1))

-- two equations have one correspondence exactly if a bijection of names takes the one to the other
pub same_names-bijection : (P Q : List ℕ) (m n m' n' : List (ℕ × ℕ)) → IsFullMap P m → IsFullMap Q n → IsFullMap P m' → IsFullMap Q n' → same_names m n ≡ same_names m' n' → (π : Bijection) × (m' ≡ with_values π.to m) × (n' ≡ with_values π.to n)
same_names-bijection P Q m n m' n' f g f' g' e =
    let r = takes_pairs (renamings m m' ++ renamings n n') (renamings-one_to_one P Q m n m' n' f g f' g' e) in (
      r.bijection,
      with_values-is r.bijection.to (to-injective r.bijection) P m m' f f'
          (λ s x y c d. r.takes x y (Contains-append_left (renamings m m') (renamings n n') (x, y) (composite-by P (flipped m) m' (full-in_order P m' f') x s y (Contains-flipped m s x c) d))),
      with_values-is r.bijection.to (to-injective r.bijection) Q n n' g g'
          (λ t x y c d. r.takes x y (Contains-append_right (renamings m m') (renamings n n') (x, y) (composite-by Q (flipped n) n' (full-in_order Q n' g') x t y (Contains-flipped n t x c) d))),
    )

pub same_names-renamed : (P Q : List ℕ) (m n m' n' : List (ℕ × ℕ)) → IsFullMap P m → IsFullMap Q n → (f : ℕ → ℕ) → IsInjective f → m' ≡ with_values f m → n' ≡ with_values f n → same_names m n ≡ same_names m' n'
same_names-renamed P Q m n m' n' a b f inj p q =
    sym (same_names-with_values f P Q m n a b (λ x y c d e. inj x y e)) ∙ (λ i. same_names (sym p i) (sym q i))

pub same_names_iff : (P Q : List ℕ) (m n m' n' : List (ℕ × ℕ)) → IsFullMap P m → IsFullMap Q n → IsFullMap P m' → IsFullMap Q n' → (same_names m n ≡ same_names m' n') ↔ ((π : Bijection) × (m' ≡ with_values π.to m) × (n' ≡ with_values π.to n))
same_names_iff P Q m n m' n' f g f' g' = (
  same_names-bijection P Q m n m' n' f g f' g',
  λ r. same_names-renamed P Q m n m' n' f g r.0.to (to-injective r.0) r.1 r.2,
)

pub match_iff : (P Q : List ℕ) (m n m' n' : List (ℕ × ℕ)) → IsFullMap P m → IsFullMap Q n → IsFullMap P m' → IsFullMap Q n' → IsMatch m n m' n' ↔ (same_names m n ≡ same_names m' n')
match_iff P Q m n m' n' f g f' g' = (
  λ r. same_names-renamed P Q m n m' n' f g r.name r.injective r.left r.right,
  λ e.
      let r = same_names-bijection P Q m n m' n' f g f' g' e in
      record { name = r.0.to; injective = to-injective r.0; left = r.1; right = r.2 },
)
