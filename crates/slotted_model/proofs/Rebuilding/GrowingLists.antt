-- More entries of the proof list, and more listed symmetries: a graph stays sane.
use Rattle.std.proofs.Common.{◌≡◌, ℕ, zero, suc, ◌+◌, ◌-◌, ◌<◌, List, [], ◌∷◌, ◌++◌, length, get_or, sym, ◌∙◌, ap, refl, subst, inl, inr, arith, length-append}
use Rattle.std.specs.Prelude.{Contains, ◌⊎◌}
use Rattle.std.proofs.lemmas.Bool.{cases_lt}
use Rattle.std.proofs.lemmas.List.{get_or_append_left}
use Rattle.std.proofs.lemmas.List.Elements.{filter_map-append, Contains-append_left, Contains-append_cases}
use Rattle.std.proofs.Math.Seq.{get_or-append_right}
use Rattle.slotted_lists.proofs.Contained.{contains_cases, Contains-nil}
use Rattle.slotted_lists.proofs.Members.{In, Contains-In}
use Rattle.slotted_theory.specs.Nameless.{DTerm}
use Rattle.slotted_model.specs.Find.{entry_at}
use Rattle.slotted_model.specs.ProofList.{ProofEntry, explicit, equation_at, step_at, asserted, if_explicit, term_pair, Exact}
use Rattle.slotted_model.specs.State.{Symmetry, State}
use Rattle.slotted_model.specs.Rest.{IsListed, Sane}
use Rattle.slotted_model.specs.Changes.{GoesOn, ProofsGrow, with_proofs, with_symmetry}
use Rattle.slotted_model.proofs.Finds.NormalIds.{found-again}
use Rattle.slotted_model.proofs.Correspondences.Pairs.{Contains-filter_map}
use Rattle.slotted_model.proofs.Rebuilding.GoingOn.{still-row, still-listed}

-- what stands at a number of a list is one of the list
at-In : {X : Type 0} (xs : List X) (k : ℕ) (d : X) → k < length xs → In (get_or xs k d) xs
at-In [] k d h = absurd (omega arith)
at-In (x ∷ xs) zero d h = inl refl
at-In (x ∷ xs) (suc k) d h = inr (at-In xs k d (omega arith))

abbrev no_entry : ProofEntry
no_entry = record { equation = record { left = 0; right = 0; pairs = [] }; step = explicit }

-- entries by which nothing more is asserted are not explicit
module _ (nodes : List DTerm) (older more : List ProofEntry) (silent : asserted nodes (older ++ more) ≡ asserted nodes older) where
  none-asserted : length (asserted nodes more) ≡ 0
  none-asserted =
      let e : asserted nodes (older ++ more) ≡ asserted nodes older ++ asserted nodes more = filter_map-append (λ (x : ProofEntry). if_explicit x.step (term_pair nodes x.equation)) older more in
      let l : length (asserted nodes older) ≡ length (asserted nodes older) + length (asserted nodes more) =
      ap (λ (xs : List (DTerm × DTerm)). length xs) (sym silent ∙ e) ∙ length-append (asserted nodes older) (asserted nodes more) in
      omega arith

  none-explicit : (x : ProofEntry) → Contains more x → ¬ (x.step ≡ explicit)
  none-explicit x c e =
      let k : Contains (asserted nodes more) (term_pair nodes x.equation) =
      Contains-filter_map (λ (y : ProofEntry). if_explicit y.step (term_pair nodes y.equation)) more x (term_pair nodes x.equation) c (ap (λ s. if_explicit s (term_pair nodes x.equation)) e) in
      let l : k.0 < length (asserted nodes more) = k.1 in
      let n : length (asserted nodes more) ≡ 0 = none-asserted in
      omega arith

  earlier-explicit : (p : ℕ) → p < length (older ++ more) → step_at (older ++ more) p ≡ explicit → (p < length older) × (step_at older p ≡ explicit)
  earlier-explicit p h e = elim (cases_lt p (length older)) [
    | inl l ↦ (l, ap (λ (x : ProofEntry). x.step) (sym (get_or_append_left older more no_entry p l)) ∙ e)
    | inr l ↦
        let k : p - length older < length more = let q : length (older ++ more) ≡ length older + length more = length-append older more in omega arith in
        let s : get_or (older ++ more) p no_entry ≡ get_or more (p - length older) no_entry = get_or-append_right older more p no_entry l in
        absurd (none-explicit (get_or more (p - length older) no_entry) (Contains-In more (get_or more (p - length older) no_entry) (at-In more (p - length older) no_entry k)) (ap (λ (x : ProofEntry). x.step) (sym s) ∙ e))
  ]

-- the earlier entries of a list that grows are what they were
module _ (nodes : List DTerm) (older newer : List ProofEntry) (grow : ProofsGrow nodes older newer) where
  pub grow-equation : (p : ℕ) → p < length older → (p < length newer) × (equation_at newer p ≡ equation_at older p)
  grow-equation p h = (
    (let e : length newer ≡ length older + length grow.more = ap (λ (l : List ProofEntry). length l) grow.is ∙ length-append older grow.more in omega arith),
    ap (λ l. equation_at l p) grow.is ∙ ap (λ (x : ProofEntry). x.equation) (get_or_append_left older grow.more no_entry p h),
  )

  pub grow-explicit : (p : ℕ) → p < length newer → step_at newer p ≡ explicit → (p < length older) × (step_at older p ≡ explicit)
  grow-explicit p h e =
      earlier-explicit nodes older grow.more (ap (asserted nodes) (sym grow.is) ∙ grow.asserts_nothing) p
      (subst (λ (l : List ProofEntry). p < length l) grow.is h) (ap (λ l. step_at l p) (sym grow.is) ∙ e)

module _ (g : State) (sane : Sane g) where
  module _ (proofs : List ProofEntry) (grow : ProofsGrow g.nodes g.proofs proofs) where
    pub proofs-go_on : GoesOn g (with_proofs g proofs)
    proofs-go_on = record { classes = λ i h. (h, refl); finds = λ a v. (v, sym (found-again g.nodes g.found sane.sound.linked a v)); proofs = grow-equation g.nodes g.proofs proofs grow; symmetries = λ y c. c }

    grow-exact : Exact g.nodes g.found proofs
    grow-exact = record {
      in_range = λ i h. (grow-equation g.nodes g.proofs proofs grow (entry_at g.found i).proof (sane.sound.exact.in_range i h)).0;
      equations = λ i h. (grow-equation g.nodes g.proofs proofs grow (entry_at g.found i).proof (sane.sound.exact.in_range i h)).1 ∙ sane.sound.exact.equations i h;
    }

    pub proofs-sane : Sane (with_proofs g proofs)
    proofs-sane = record {
      sound = record { canonical = sane.sound.canonical; linked = sane.sound.linked; proved = grow.proved; exact = grow-exact };
      filed = record {
        each = λ r c. still-row g (with_proofs g proofs) sane.sound proofs-go_on r (sane.filed.each r c);
        once = sane.filed.once;
        shapes = sane.filed.shapes;
        waits_once = sane.filed.waits_once;
        waits_for_row = sane.filed.waits_for_row;
        current = λ r c n. let cur = sane.filed.current r c n in record { in_normal_form = cur.in_normal_form; covered = cur.covered };
      };
      each_listed = λ y c. still-listed g (with_proofs g proofs) sane.sound proofs-go_on y (sane.each_listed y c);
      listed_once = sane.listed_once;
    }

  -- a symmetry that is not listed can be listed
  module _ (y : Symmetry) (l : IsListed g y) (new : (z : Symmetry) → Contains g.symmetries z → z.class ≡ y.class → z.slots ≡ y.slots → z.pairs ≡ y.pairs → ⊥) where
    pub symmetry-goes_on : GoesOn g (with_symmetry g y)
    symmetry-goes_on = record { classes = λ i h. (h, refl); finds = λ a v. (v, sym (found-again g.nodes g.found sane.sound.linked a v)); proofs = λ p h. (h, refl); symmetries = λ z c. Contains-append_left g.symmetries (y ∷ []) z c }

    old-or-new : (z : Symmetry) → Contains (g.symmetries ++ y ∷ []) z → Contains g.symmetries z ⊎ (z ≡ y)
    old-or-new z c = elim (Contains-append_cases g.symmetries (y ∷ []) z c) [
      | inl h ↦ inl h
      | inr h ↦ elim (contains_cases y [] z h) [
        | inl e ↦ inr e
        | inr k ↦ absurd (Contains-nil z k)
      ]
    ]

    pub symmetry-sane : Sane (with_symmetry g y)
    symmetry-sane = record {
      sound = sane.sound;
      filed = record {
        each = λ r c. still-row g (with_symmetry g y) sane.sound symmetry-goes_on r (sane.filed.each r c);
        once = sane.filed.once;
        shapes = sane.filed.shapes;
        waits_once = sane.filed.waits_once;
        waits_for_row = sane.filed.waits_for_row;
        current = λ r c n. let cur = sane.filed.current r c n in record { in_normal_form = cur.in_normal_form; covered = cur.covered };
      };
      each_listed = λ z c. elim (old-or-new z c) [
        | inl h ↦ still-listed g (with_symmetry g y) sane.sound symmetry-goes_on z (sane.each_listed z h)
        | inr e ↦ subst (IsListed (with_symmetry g y)) (sym e) (still-listed g (with_symmetry g y) sane.sound symmetry-goes_on y l)
      ];
      listed_once = once;
    }
      where
        once : (z w : Symmetry) → Contains (g.symmetries ++ y ∷ []) z → Contains (g.symmetries ++ y ∷ []) w → z.class ≡ w.class → z.slots ≡ w.slots → z.pairs ≡ w.pairs → z ≡ w
        once z w c d e f h = elim (old-or-new z c) [
          | inl i ↦ elim (old-or-new w d) [
            | inl j ↦ sane.listed_once z w i j e f h
            | inr q ↦ absurd (new z i (e ∙ ap (λ (x : Symmetry). x.class) q) (f ∙ ap (λ (x : Symmetry). x.slots) q) (h ∙ ap (λ (x : Symmetry). x.pairs) q))
          ]
          | inr p ↦ elim (old-or-new w d) [
            | inl j ↦ absurd (new w j (sym e ∙ ap (λ (x : Symmetry). x.class) p) (sym f ∙ ap (λ (x : Symmetry). x.slots) p) (sym h ∙ ap (λ (x : Symmetry). x.pairs) p))
            | inr q ↦ p ∙ sym q
          ]
        ]
