-- Explicit leaves: an entry of a proved list holds if its leaves do, and it has finitely many.
use Rattle.std.proofs.Common.{◌≡◌, ◌≢◌, ℕ, zero, suc, ◌<◌, ◌+◌, List, [], ◌∷◌, ◌++◌, length, refl, sym, ◌∙◌, ap, subst, arith, inl, inr, ◌↔◌, length-append}
use Rattle.std.specs.Prelude.{Contains, map, ◌⊎◌}
use Rattle.std.proofs.lemmas.List.{get_or_append_left}
use Rattle.std.proofs.lemmas.List.Elements.{Contains-append_left, Contains-append_right, Contains-append_cases}
use Rattle.slotted_lists.proofs.Contained.{contains_head, contains_tail, contains_cases, Contains-nil, Contains-of_map}
use Rattle.slotted_theory.specs.Nameless.{DTerm}
use Rattle.slotted_model.specs.Classes.{Canonical}
use Rattle.slotted_model.specs.ProofList.{Equation, Step, ProofEntry, explicit, reflexive, symmetric, transitive, congruent, HoldsFrom, equation_at, step_at, IsStepFor, Proved}
use Rattle.slotted_model.specs.Leaves.{parts_of, IsLeaf, here, through}
use Rattle.slotted_model.proofs.Finds.Steps.{reflexive-sound, symmetric-sound, transitive-sound, congruent-sound}

-- the parts of a step stand at earlier numbers
pub parts-earlier : (nodes : List DTerm) (proofs : List ProofEntry) (p : ℕ) (e : Equation) (s : Step) → IsStepFor nodes proofs p e s → (q : ℕ) → Contains (parts_of s) q → q < p
parts-earlier nodes proofs p e explicit h q c = absurd (Contains-nil q c)
parts-earlier nodes proofs p e reflexive h q c = absurd (Contains-nil q c)
parts-earlier nodes proofs p e (symmetric r) h q c = elim (contains_cases r [] q c) [
  | inl d ↦ let k : r < p = h.0 in omega arith
  | inr n ↦ absurd (Contains-nil q n)
]
parts-earlier nodes proofs p e (transitive r s) h q c = elim (contains_cases r (s ∷ []) q c) [
  | inl d ↦ let k : r < p = h.0 in omega arith
  | inr n ↦ elim (contains_cases s [] q n) [
    | inl d ↦ let k : s < p = h.1 in omega arith
    | inr m ↦ absurd (Contains-nil q m)
  ]
]
parts-earlier nodes proofs p e (congruent ps) h q c = h.0 q c

-- a leaf is an explicit entry
pub leaf-explicit : {entries : List ProofEntry} {p q : ℕ} → IsLeaf entries p q → (q < length entries) × (step_at entries q ≡ explicit)
leaf-explicit (here h e) = (h, e)
leaf-explicit (through c l) = leaf-explicit l

module _ (E : List (DTerm × DTerm)) (nodes : List DTerm) (can : Canonical nodes) (proofs : List ProofEntry) (proved : Proved nodes proofs) where
  -- an entry holds if its parts do; an explicit one has to hold by itself
  step-holds : (p : ℕ) → p < length proofs → (s : Step) → IsStepFor nodes proofs p (equation_at proofs p) s → (s ≡ explicit → HoldsFrom E nodes (equation_at proofs p)) → ((q : ℕ) → Contains (parts_of s) q → HoldsFrom E nodes (equation_at proofs q)) → HoldsFrom E nodes (equation_at proofs p)
  step-holds p h explicit c own parts = own refl
  step-holds p h reflexive c own parts = reflexive-sound E nodes (equation_at proofs p) c
  step-holds p h (symmetric q) c own parts = symmetric-sound E nodes (equation_at proofs p) (equation_at proofs q) c.1 (parts q (contains_head q []))
  step-holds p h (transitive q r) c own parts =
      let lq : q < p = c.0 in
      let lr : r < p = c.1 in
      transitive-sound E nodes (equation_at proofs p) (equation_at proofs q) (equation_at proofs r) (proved.over q (omega arith)) (proved.over r (omega arith)) c.2 (parts q (contains_head q (r ∷ []))) (parts r (contains_tail q (r ∷ []) r (contains_head r [])))
  step-holds p h (congruent qs) c own parts =
      congruent-sound E nodes can (equation_at proofs p) (map (equation_at proofs) qs) c.1
      (λ d k.
      let r : (x : ℕ) × Contains qs x × (equation_at proofs x ≡ d) = Contains-of_map (equation_at proofs) qs d k in
      subst (HoldsFrom E nodes) r.2 (parts r.0 r.1))

  holds-below : (n p : ℕ) → p < n → p < length proofs → ((q : ℕ) → IsLeaf proofs p q → HoldsFrom E nodes (equation_at proofs q)) → HoldsFrom E nodes (equation_at proofs p)
  holds-below zero p b h leaves = absurd (omega arith)
  holds-below (suc n) p b h leaves =
      step-holds p h (step_at proofs p) (proved.steps p h) (λ e. leaves p (here h e))
      (λ q c.
      let l : q < p = parts-earlier nodes proofs p (equation_at proofs p) (step_at proofs p) (proved.steps p h) q c in
      holds-below n q (omega arith) (omega arith) (λ r k. leaves r (through c k)))

  -- an entry holds if its leaves do
  pub leaves-hold : (p : ℕ) → p < length proofs → ((q : ℕ) → IsLeaf proofs p q → HoldsFrom E nodes (equation_at proofs q)) → HoldsFrom E nodes (equation_at proofs p)
  leaves-hold p h leaves = holds-below (suc p) p (omega arith) h leaves

-- a leaf is the entry itself or a leaf of a part
pub leaf_cases : {entries : List ProofEntry} {p q : ℕ} → IsLeaf entries p q → ((q ≡ p) × (step_at entries p ≡ explicit)) ⊎ ((r : ℕ) × Contains (parts_of (step_at entries p)) r × IsLeaf entries r q)
leaf_cases (here h e) = inl (refl, e)
leaf_cases (through {r = r} c l) = inr (r, c, l)

-- whether a step asserts
explicit_cases : (s : Step) → (s ≡ explicit) ⊎ (s ≢ explicit)
explicit_cases explicit = inl refl
explicit_cases reflexive = inr (λ e. cc)
explicit_cases (symmetric p) = inr (λ e. cc)
explicit_cases (transitive p q) = inr (λ e. cc)
explicit_cases (congruent ps) = inr (λ e. cc)

-- a list has just the leaves of an entry
abbrev HasJustLeaves : List ProofEntry → ℕ → List ℕ → Type 0
HasJustLeaves entries p leaves = (q : ℕ) → Contains leaves q ↔ IsLeaf entries p q

-- and there is one, if there is one for each part
gathered : (entries : List ProofEntry) (rs : List ℕ) → ((r : ℕ) → Contains rs r → (leaves : List ℕ) × HasJustLeaves entries r leaves) → (leaves : List ℕ) × ((q : ℕ) → Contains leaves q ↔ ((r : ℕ) × Contains rs r × IsLeaf entries r q))
gathered entries [] h = ([], λ q. (λ c. absurd (Contains-nil q c), λ k. absurd (Contains-nil k.0 k.1)))
gathered entries (r ∷ rs) h =
    let first : (leaves : List ℕ) × HasJustLeaves entries r leaves = h r (contains_head r rs) in
    let more : (leaves : List ℕ) × ((q : ℕ) → Contains leaves q ↔ ((s : ℕ) × Contains rs s × IsLeaf entries s q)) = gathered entries rs (λ s c. h s (contains_tail r rs s c)) in (
      first.0 ++ more.0,
      λ q. (
        λ c. elim (Contains-append_cases first.0 more.0 q c) [
          | inl k ↦ (r, contains_head r rs, (first.1 q).0 k)
          | inr k ↦ (((more.1 q).0 k).0, contains_tail r rs ((more.1 q).0 k).0 ((more.1 q).0 k).1, ((more.1 q).0 k).2)
        ],
        λ k. elim (contains_cases r rs k.0 k.1) [
          | inl e ↦ Contains-append_left first.0 more.0 q ((first.1 q).1 (subst (λ s. IsLeaf entries s q) e k.2))
          | inr c ↦ Contains-append_right first.0 more.0 q ((more.1 q).1 (k.0, c, k.2))
        ],
      ),
    )

module _ (nodes : List DTerm) (proofs : List ProofEntry) (proved : Proved nodes proofs) where
  earlier : (p : ℕ) → p < length proofs → (r : ℕ) → Contains (parts_of (step_at proofs p)) r → r < p
  earlier p h = parts-earlier nodes proofs p (equation_at proofs p) (step_at proofs p) (proved.steps p h)

  listed-below : (n p : ℕ) → p < n → p < length proofs → (leaves : List ℕ) × HasJustLeaves proofs p leaves
  listed-below zero p b h = absurd (omega arith)
  listed-below (suc n) p b h =
      let more : (leaves : List ℕ) × ((q : ℕ) → Contains leaves q ↔ ((r : ℕ) × Contains (parts_of (step_at proofs p)) r × IsLeaf proofs r q)) =
      gathered proofs (parts_of (step_at proofs p)) (λ r c. let l : r < p = earlier p h r c in listed-below n r (omega arith) (omega arith)) in
      elim (explicit_cases (step_at proofs p)) [
        | inl e ↦ (
          p ∷ more.0,
          λ q. (
            λ c. elim (contains_cases p more.0 q c) [
              | inl i ↦ subst (IsLeaf proofs p) (sym i) (here h e)
              | inr k ↦ through ((more.1 q).0 k).1 ((more.1 q).0 k).2
            ],
            λ l. elim (leaf_cases l) [
              | inl k ↦ subst (Contains (p ∷ more.0)) (sym k.0) (contains_head p more.0)
              | inr k ↦ contains_tail p more.0 q ((more.1 q).1 k)
            ],
          ),
        )
        | inr n ↦ (
          more.0,
          λ q. (
            λ c. through ((more.1 q).0 c).1 ((more.1 q).0 c).2,
            λ l. elim (leaf_cases l) [
              | inl k ↦ absurd (n k.1)
              | inr k ↦ (more.1 q).1 k
            ],
          ),
        )
      ]

  -- an entry has finitely many leaves
  pub leaves-listed : (p : ℕ) → p < length proofs → (leaves : List ℕ) × ((q : ℕ) → Contains leaves q ↔ IsLeaf proofs p q)
  leaves-listed p h = listed-below (suc p) p (omega arith) h

  -- and keeps them as the list grows

  step-longer : (more : List ProofEntry) (p : ℕ) → p < length proofs → step_at (proofs ++ more) p ≡ step_at proofs p
  step-longer more p h = ap (λ (x : ProofEntry). x.step) (get_or_append_left proofs more (record { equation = record { left = 0; right = 0; pairs = [] }; step = explicit }) p h)

  leaf-later : (more : List ProofEntry) {p q : ℕ} → p < length proofs → IsLeaf proofs p q → IsLeaf (proofs ++ more) p q
  leaf-later more {p} h (here k e) = let n : length (proofs ++ more) ≡ length proofs + length more = length-append proofs more in here (omega arith) (step-longer more p h ∙ e)
  leaf-later more {p} h (through {r = r} c l) =
      let k : r < p = earlier p h r c in
      through (subst (λ s. Contains (parts_of s) r) (sym (step-longer more p h)) c) (leaf-later more (omega arith) l)

  leaf-before : (more : List ProofEntry) {p q : ℕ} → p < length proofs → IsLeaf (proofs ++ more) p q → IsLeaf proofs p q
  leaf-before more {p} h (here k e) = here h (sym (step-longer more p h) ∙ e)
  leaf-before more {p} h (through {r = r} c l) =
      let d : Contains (parts_of (step_at proofs p)) r = subst (λ s. Contains (parts_of s) r) (step-longer more p h) c in
      let k : r < p = earlier p h r d in
      through d (leaf-before more (omega arith) l)

  pub leaves-stay : (more : List ProofEntry) (p q : ℕ) → p < length proofs → IsLeaf proofs p q ↔ IsLeaf (proofs ++ more) p q
  leaves-stay more p q h = (leaf-later more h, leaf-before more h)
