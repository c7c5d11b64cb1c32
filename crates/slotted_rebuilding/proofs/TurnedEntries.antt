-- An entry of two live classes turned round: it is one of live classes too, and what its left class does, the right one of
-- the entry does.
use Rattle.std.proofs.Common.{◌≡◌, ℕ, suc, ◌<◌, ◌≤◌, ◌∙◌, List, [], ◌∷◌, length, sym, ap, refl, subst, inl, inr, arith}
use Rattle.std.specs.Prelude.{◌⊎◌, Contains, Bool, true, false, Some, None}
use Rattle.std.specs.Map.{keys_of, values_of}
use Rattle.std.proofs.lemmas.Bool.{cases_eq, false≢true}
use Rattle.slotted_lists.proofs.Contained.{Contains-nil, contains_cases, contains_head, contains_tail}
use Rattle.slotted_model.specs.Classes.{canonical_slots}
use Rattle.slotted_model.specs.Correspondence.{AllDifferent, turned, IsFullMap, IsPartialInjection}
use Rattle.slotted_model.specs.Find.{Entry, entry_at, find_map, used_slots}
use Rattle.slotted_model.specs.ProofList.{Equation, turned_equation}
use Rattle.slotted_model.specs.Changes.{PairsAll}
use Rattle.slotted_model.proofs.Correspondences.Pairs.{Contains-key, Contains-value, Contains-of_key, Contains-of_value}
use Rattle.slotted_model.proofs.Correspondences.PartialInjections.{turned-pair, turned-by}
use Rattle.slotted_model.proofs.Correspondences.FullIds.{ascending-different}
use Rattle.slotted_model.proofs.Correspondences.FullMaps.{full-from}
use Rattle.slotted_model.proofs.Correspondences.Listing.{injective-different}
use Rattle.slotted_model.proofs.Finds.Finding.{slots-ascending}
use Rattle.slotted_model.proofs.Finds.NormalIds.{used-live}
use Rattle.slotted_model.proofs.Data.Ordered.{in_order-once}
use Rattle.slotted_model.proofs.Data.Sets.{IsAscending-ascending}
use Rattle.slotted_model.proofs.Rebuilding.Touching.{different-length}
use Rattle.slotted_proofs.specs.Entries.{turned_entry}
use Rattle.slotted_classes.specs.Kept.{Kept, find_at, nodes_of, entries_of, EntersIn, HasManySlots}
use Rattle.slotted_classes.proofs.KeptLists.{entry_at-of, length-mapped}
use Rattle.slotted_rebuilding.specs.Proving.{OnlyProves, Proves, HasLargeSide}
use Rattle.slotted_classes.specs.StateOf.{state_of}
use Rattle.slotted_classes.specs.Stored.{Stored}
use Rattle.slotted_rebuilding.specs.Uniting.{IsOfLive, PairsLeft, HasDropped, DropsLeft, DropsSide, HasLinked, LinksEither}
use Rattle.slotted_rebuilding.specs.Uniting.{equation_in}
use Rattle.slotted_rebuilding.proofs.EnteredProofs.{nothing-proved, stored-over, turned-only, stands-at, proves-stands, only-large, many-large}
use Rattle.slotted_rebuilding.proofs.LargeFinds.{large-among}

-- different numbers that all stand in a list which is no longer are all of it

in-or-not : (x : ℕ) (xs : List ℕ) → Contains xs x ⊎ (¬ Contains xs x)
in-or-not x [] = inr (λ c. Contains-nil x c)
in-or-not x (y ∷ ys) = elim (cases_eq x y) [
  | inl e ↦ inl (subst (Contains (y ∷ ys)) (sym e) (contains_head y ys))
  | inr n ↦ elim (in-or-not x ys) [
    | inl c ↦ inl (contains_tail y ys x c)
    | inr m ↦ inr (λ c. elim (contains_cases y ys x c) [
      | inl e ↦ n e
      | inr h ↦ m h
    ])
  ]
]

covers : (xs ys : List ℕ) → AllDifferent xs → ((z : ℕ) → Contains xs z → Contains ys z) → length ys ≤ length xs → (t : ℕ) → Contains ys t → Contains xs t
covers xs ys once within few t c = elim (in-or-not t xs) [
  | inl h ↦ h
  | inr n ↦
      let more : suc (length xs) ≤ length ys = different-length (t ∷ xs) ys (n, once) (λ z d. elim (contains_cases t xs z d) [
        | inl e ↦ subst (Contains ys) (sym e) c
        | inr h ↦ within z h
      ]) in
      absurd (omega (arith, more, few))
]

-- the slots of turned pairs
module _ (Q : List ℕ) (A : List (ℕ × ℕ)) where
  pub turned-key : (t : ℕ) → Contains (keys_of (turned Q A)) t → Contains (values_of A) t
  turned-key t c = let r = Contains-of_key (turned Q A) t c in Contains-value A r.0 t (turned-pair Q A r.0 t r.1)

  pub turned-value : (s : ℕ) → Contains (values_of (turned Q A)) s → Contains (keys_of A) s
  turned-value s c = let r = Contains-of_value (turned Q A) s c in Contains-key A s r.0 (turned-pair Q A s r.0 r.1)

module _ (P Q : List ℕ) (A : List (ℕ × ℕ)) (a : IsPartialInjection P Q A) where
  pub key-turned : (t : ℕ) → Contains (values_of A) t → Contains (keys_of (turned Q A)) t
  key-turned t c = let r = Contains-of_value A t c in Contains-key (turned Q A) t r.0 (turned-by P Q A a r.0 t r.1)

  pub value-turned : (s : ℕ) → Contains (keys_of A) s → Contains (values_of (turned Q A)) s
  value-turned s c = let r = Contains-of_key A s c in Contains-value (turned Q A) r.0 s (turned-by P Q A a s r.0 r.1)

-- what is said of live classes where only the proof list grew
pub still-live : (k l : Kept) (e : Equation) → OnlyProves k l → IsOfLive k e → IsOfLive l e
still-live k l e only live = subst (λ (m : Kept). IsOfLive m e) (sym only.kept)
    (record { left_lives = live.left_lives; right_lives = live.right_lives; left = live.left; right = live.right })

pub still-pairs_all : (k l : Kept) (e : Equation) → OnlyProves k l → PairsAll (state_of k) e → PairsAll (state_of l) e
still-pairs_all k l e only all = subst (λ (m : Kept). PairsAll (state_of m) e) (sym only.kept)
    (record { left = all.left; right = all.right })

-- no slot was dropped on the left
pub none-dropped : (k l : Kept) (e : Equation) (b : Bool) → b ≡ false → DropsLeft k l e b → (l ≡ k) × PairsLeft k e
none-dropped k l e true f d = absurd (false≢true (sym f))
none-dropped k l e false f d = d

module _ (k : Kept) (stored : Stored k) (q : ℕ) (h : q < length k.proofs) (live : IsOfLive k (equation_in k q)) where
  abbrev e : Equation
  e = equation_in k q

  abbrev back : Equation
  back = turned_equation (nodes_of k) e

  pairs-partial : IsPartialInjection (canonical_slots (nodes_of k) e.left) (canonical_slots (nodes_of k) e.right) e.pairs
  pairs-partial = (stored-over k stored q h).pairs

  back-live : IsOfLive k back
  back-live = record {
    left_lives = live.right_lives;
    right_lives = live.left_lives;
    left = λ s c. live.right s (turned-key (canonical_slots (nodes_of k) e.right) e.pairs s c);
    right = λ t c. live.left t (turned-value (canonical_slots (nodes_of k) e.right) e.pairs t c);
  }

  back-all : PairsAll (state_of k) e → PairsAll (state_of k) back
  back-all all = record {
    left = λ s c. key-turned (canonical_slots (nodes_of k) e.left) (canonical_slots (nodes_of k) e.right) e.pairs
        pairs-partial s (all.right s c);
    right = λ t c. value-turned (canonical_slots (nodes_of k) e.left) (canonical_slots (nodes_of k) e.right) e.pairs
        pairs-partial t (all.left t c);
  }

  all-pairs : PairsLeft k e → PairsLeft k back → PairsAll (state_of k) e
  all-pairs left right = record {
    left = left;
    right = λ t c. turned-key (canonical_slots (nodes_of k) e.right) e.pairs t (right t c);
  }

  -- the entry turned round stands
  module _ (m : Kept) (t : ℕ) (enters : EntersIn k m (turned_entry k.proofs q) t) where
    proves : Proves k m back t
    proves = turned-only k stored m q t h enters

    pub turned-stored : Stored m
    turned-stored = proves.only.stored

    pub turned-within : t < length m.proofs
    turned-within = proves.in_range

    pub turned-live : IsOfLive m (equation_in m t)
    turned-live = subst (IsOfLive m) (sym proves.equation) (still-live k m back proves.only back-live)

    pub turned-all : PairsAll (state_of k) e → PairsAll (state_of m) (equation_in m t)
    turned-all all = subst (PairsAll (state_of m)) (sym proves.equation)
        (still-pairs_all k m back proves.only (back-all all))

    -- a class that is large then was so
    pub turned-large : HasLargeSide m (equation_in m t) → HasLargeSide k e
    turned-large large = large-among k e.right e.left e.left e.right (inr refl) (inl refl)
        (only-large k m proves.only e.right e.left (subst (HasLargeSide m) proves.equation large))

    -- the right class drops slots
    pub turned-drops : PairsLeft k e → (l : Kept) (b : Bool) → b ≡ true → DropsLeft m l (equation_in m t) b → (c : ℕ) → c ≡ e.right → DropsSide k l e (Some c)
    turned-drops left l false h d c same = absurd (false≢true h)
    turned-drops left l true h d c same = inr (
      same,
      record {
        middle = m;
        only = proves.only;
        pairs_left = left;
        dropped = subst (HasDropped m l) proves.equation d;
      },
    )

    -- neither does
    pub turned-keeps : PairsLeft k e → (l : Kept) (b : Bool) → b ≡ false → DropsLeft m l (equation_in m t) b → DropsSide k l e None
    turned-keeps left l true h d = absurd (false≢true (sym h))
    turned-keeps left l false h d =
        let right : PairsLeft m back = subst (PairsLeft m) proves.equation d.1 in
        let before : PairsLeft k back =
        subst (λ es. (s : ℕ) → Contains (used_slots es back.left) s → Contains (keys_of back.pairs) s)
        (ap entries_of proves.only.kept) right in
        record {
          only = subst (OnlyProves k) (sym d.0) proves.only;
          pairs_all = subst (λ (x : Kept). PairsAll (state_of x) e) (sym d.0)
              (still-pairs_all k m e proves.only (all-pairs left before));
        }

    -- the right class dies
    pub turned-links : (l : Kept) → HasLinked m l (equation_in m t) t → (c : ℕ) → c ≡ e.right → LinksEither k l e c
    turned-links l linked c same = inr (
      same,
      record {
        middle = m;
        only = proves.only;
        number = t;
        stands = proves-stands k m back t proves;
        linked = subst (λ x. HasLinked m l x t) proves.equation linked;
      },
    )

  -- the left class dies
  pub left-links : (l : Kept) → HasLinked k l e q → (c : ℕ) → c ≡ e.left → LinksEither k l e c
  left-links l linked c same = inl (same, (q, stands-at k e q h refl, linked))

  -- the left class drops slots
  pub left-drops : (l : Kept) (b : Bool) → b ≡ true → DropsLeft k l e b → (c : ℕ) → c ≡ e.left → DropsSide k l e (Some c)
  left-drops l false f d c same = absurd (false≢true f)
  left-drops l true f d c same = inl (same, d)

  -- where no slot was dropped on the left, nothing has changed
  module _ (l : Kept) (b : Bool) (no : b ≡ false) (drops : DropsLeft k l e b) where
    pub still-large : HasManySlots l q q → HasLargeSide k e
    still-large many = many-large k stored q q h h (subst (λ (x : Kept). HasManySlots x q q)
        (none-dropped k l e b no drops).0 many)

    pub still-within : q < length l.proofs
    still-within = subst (λ (x : Kept). q < length x.proofs) (sym (none-dropped k l e b no drops).0) h

    -- nor does a slot of the right class lack a partner, if that has as many left
    pub as-many-keeps : length (find_at l e.left).pairs ≡ length (find_at l e.right).pairs → DropsSide k l e None
    as-many-keeps many =
        let found = entries_of k in
        let nodes = nodes_of k in
        let linked = stored.sane.sound.linked in
        let over = stored-over k stored q h in
        let is : l ≡ k = (none-dropped k l e b no drops).0 in
        let left : PairsLeft k e = (none-dropped k l e b no drops).1 in
        let entries : length (entry_at found e.left).pairs ≡ length (entry_at found e.right).pairs =
        ap (λ (x : Entry). length x.pairs) (entry_at-of k e.left) ∙ (subst (λ (x : Kept). length (find_at x e.left).pairs ≡ length (find_at x e.right).pairs) is many
        ∙ sym (ap (λ (x : Entry). length x.pairs) (entry_at-of k e.right))) in
        let U : used_slots found e.left ≡ keys_of (entry_at found e.left).pairs = used-live nodes found linked e.left over.left live.left_lives in
        let V : used_slots found e.right ≡ keys_of (entry_at found e.right).pairs = used-live nodes found linked e.right over.right live.right_lives in
        let once = in_order-once (canonical_slots nodes e.left) e.pairs (slots-ascending nodes e.left) pairs-partial.in_order in
        let full : IsFullMap (keys_of e.pairs) e.pairs = full-from (keys_of e.pairs) e.pairs refl once pairs-partial.injective in
        let keys : length (used_slots found e.left) ≤ length (keys_of e.pairs) =
        different-length (used_slots found e.left) (keys_of e.pairs) (ascending-different (used_slots found e.left) (IsAscending-ascending (values_of (find_map found e.left)))) left in
        let few : length (used_slots found e.right) ≤ length (values_of e.pairs) =
        omega (
          arith,
          keys,
          entries,
          ap length U,
          ap length V,
          length-mapped (λ (p : ℕ × ℕ). p.0) e.pairs,
          length-mapped (λ (p : ℕ × ℕ). p.1) e.pairs,
          length-mapped (λ (p : ℕ × ℕ). p.0) (entry_at found e.left).pairs,
          length-mapped (λ (p : ℕ × ℕ). p.0) (entry_at found e.right).pairs,
        ) in
        let all : PairsAll (state_of k) e = record {
          left = left;
          right = covers (values_of e.pairs) (used_slots found e.right) (injective-different e.pairs full.injective) live.right few;
        } in
        subst (λ (x : Kept). DropsSide k x e None) (sym is) (record { only = nothing-proved k stored; pairs_all = all })

    module _ (m : Kept) (t : ℕ) (enters : EntersIn l m (turned_entry l.proofs q) t) where
      same : EntersIn k m (turned_entry k.proofs q) t
      same = subst (λ (x : Kept). EntersIn x m (turned_entry x.proofs q) t) (none-dropped k l e b no drops).0 enters

      pub after-stored : Stored m
      after-stored = turned-stored m t same

      pub after-within : t < length m.proofs
      after-within = turned-within m t same

      pub after-live : IsOfLive m (equation_in m t)
      after-live = turned-live m t same

      pub after-large : HasLargeSide m (equation_in m t) → HasLargeSide k e
      after-large = turned-large m t same

      pub after-drops : (n : Kept) (d : Bool) → d ≡ true → DropsLeft m n (equation_in m t) d → (c : ℕ) → c ≡ e.right → DropsSide k n e (Some c)
      after-drops = turned-drops m t same (none-dropped k l e b no drops).1

      pub after-keeps : (n : Kept) (d : Bool) → d ≡ false → DropsLeft m n (equation_in m t) d → DropsSide k n e None
      after-keeps = turned-keeps m t same (none-dropped k l e b no drops).1
