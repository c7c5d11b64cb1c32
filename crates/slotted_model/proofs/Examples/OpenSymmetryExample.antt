-- A graph at rest with an open symmetry: equal terms whose ids do not find alike, so both find affected classes.
use Rattle.std.proofs.Common.{◌≡◌, ℕ, zero, suc, ◌+◌, ◌<◌, List, [], ◌∷◌, get_or, refl, sym, ◌∙◌, ap, subst, arith, inl, inr, ◌⊎◌}
use Rattle.std.specs.Prelude.{Contains}
use Rattle.slotted_lists.proofs.Contained.{contains_head, contains_tail, contains_cases, Contains-nil}
use Rattle.slotted_lists.proofs.Members.{In-Contains}
use Rattle.slotted_theory.specs.Nameless.{DTerm, stop, place}
use Rattle.slotted_theory.specs.FiniteMaps.{filled}
use Rattle.slotted_theory.specs.Derives.{Equal, listed as from_list, moving}
use Rattle.slotted_theory.proofs.Filled.{filled-injective}
use Rattle.slotted_theory.proofs.Values.{node}
use Rattle.slotted_model.specs.Applied.{Applied, keys, map_on, renamed_id}
use Rattle.slotted_model.specs.Classes.{canonical_slots, term_of, IsFull}
use Rattle.slotted_model.specs.Growth.{IsNew, Added}
use Rattle.slotted_model.specs.Correspondence.{identity, same_names, IsPartialInjection}
use Rattle.slotted_model.specs.Find.{Entry, find}
use Rattle.slotted_model.specs.ProofList.{Equation, ProofEntry, explicit, reflexive, equation_of, equation_at, step_at, asserted}
use Rattle.slotted_model.specs.Link.{CanEnter}
use Rattle.slotted_model.specs.Sound.{Sound}
use Rattle.slotted_model.specs.State.{Row, Symmetry, State, left_of, right_of, sources}
use Rattle.slotted_model.specs.Rest.{UpToSymmetries, listed, LinkedTo, IsRow, IsCurrent, IsListed, IsAligned, AtRest, IsAffected}
use Rattle.slotted_model.proofs.Data.Maps.{map_on-filled, filled-pair}
use Rattle.slotted_model.proofs.Represented.Full.{full-ascending}
use Rattle.slotted_model.proofs.Represented.Growing.{added, Canonical-nil}
use Rattle.slotted_model.proofs.Finds.Keeping.{nothing-sound, new_class-sound, entered-sound}
use Rattle.slotted_model.proofs.Correspondences.FullMaps.{same_names-over}
use Rattle.slotted_model.proofs.Rebuilding.UpTo.{linked_to-same}
use Rattle.slotted_model.proofs.Complete.Spreading.{is_affected-iff}
use Rattle.slotted_model.proofs.Examples.CompletenessExamples.{one_of}
use Rattle.slotted_model.proofs.Examples.TurnExamples.{both_slots}

-- h x y, which is asserted to be h y x
abbrev h_x_y : DTerm
h_x_y = node 6 [] (place 0 (place 1 stop))

abbrev nodes : List DTerm
nodes = h_x_y ∷ []

abbrev found : List Entry
found = record { class = 0; pairs = identity (0 ∷ 1 ∷ []); proof = 0; died = 0 } ∷ []

abbrev exchanged : List (ℕ × ℕ)
exchanged = (0, 1) ∷ (1, 0) ∷ []

abbrev h_is_h : Equation
h_is_h = record { left = 0; right = 0; pairs = exchanged }

abbrev itself : ProofEntry
itself = record { equation = record { left = 0; right = 0; pairs = identity (0 ∷ 1 ∷ []) }; step = reflexive }

abbrev assertion : ProofEntry
assertion = record { equation = h_is_h; step = explicit }

abbrev symmetry : Symmetry
symmetry = record { class = 0; slots = 0 ∷ 1 ∷ []; pairs = exchanged; proof = 1 }

abbrev row : Row
row = record { shape = h_x_y; source = 0; slots = (0, 0) ∷ (1, 1) ∷ [] }

abbrev graph : State
graph = record { nodes = nodes; found = found; proofs = itself ∷ assertion ∷ []; rows = row ∷ []; waiting = []; symmetries = symmetry ∷ [] }

h_is_new : IsNew [] h_x_y
h_is_new = record { operator = omega arith; children = tt; shape_is_new = λ i l p. omega arith }

with_h : Added [] nodes h_x_y
with_h = added [] h_x_y Canonical-nil h_is_new

two_of : {X : Type 0} (P : X → Type 0) (x y : X) → P x → P y → (w : X) → Contains (x ∷ y ∷ []) w → P w
two_of P x y p q w c = elim (contains_cases x (y ∷ []) w c) [
  | inl e ↦ subst P (sym e) p
  | inr k ↦ subst P (sym (one_of k)) q
]

exchanged-partial : IsPartialInjection (0 ∷ 1 ∷ []) (0 ∷ 1 ∷ []) exchanged
exchanged-partial = record {
  in_order = refl;
  within = λ s t c. two_of (λ p. Contains (0 ∷ 1 ∷ []) p.1) (0, 1) (1, 0) (contains_tail 0 (1 ∷ []) 1 (contains_head 1 [])) (contains_head 0 (1 ∷ [])) (s, t) c;
  injective = λ s r t c d.
      let p : s + t ≡ 1 = one_each s t c in
      let q : r + t ≡ 1 = one_each r t d in
      omega arith;
}
  where
    one_each : (s t : ℕ) → Contains exchanged (s, t) → s + t ≡ 1
    one_each s t c = two_of (λ p. p.0 + p.1 ≡ 1) (0, 1) (1, 0) refl refl (s, t) c

can_assert : CanEnter nodes (itself ∷ []) assertion
can_assert = record { over = record { left = omega arith; right = omega arith; pairs = exchanged-partial }; proved = tt; is_new = other }
  where
    other : (p : ℕ) → p < 1 → equation_at (itself ∷ []) p ≡ h_is_h → ⊥
    other zero l e = let n : ◌≡◌ {A = ℕ} 0 1 = ap (λ (x : Equation). (get_or x.pairs 0 (0, 0)).1) e in omega arith
    other (suc p) l e = omega arith

graph_sound : Sound nodes found graph.proofs
graph_sound = entered-sound nodes found (itself ∷ []) assertion (new_class-sound [] nodes [] [] nothing-sound with_h.canonical with_h.extends refl) can_assert

is_row : IsRow graph row
is_row = record {
  in_range = omega arith;
  operator = omega arith;
  children = tt;
  is_shape = refl;
  numbers = refl;
  injective = (different, (λ k. k, tt));
  within = λ s c. c;
  normal_form = refl;
}
  where
    different : ◌≡◌ {A = ℕ} 0 1 ⊎ ⊥ → ⊥
    different (inl e) = omega arith
    different (inr k) = k

is_listed : IsListed graph symmetry
is_listed = record {
  in_range = omega arith;
  ascending = ((omega arith, tt), (tt, tt));
  used = λ s c. c;
  within = λ s c. c;
  bijection = exchanged-partial;
  total = refl;
  onto = both_slots;
  moves = λ e. let n : ◌≡◌ {A = ℕ} 1 0 = ap (λ (m : List (ℕ × ℕ)). (get_or m 0 (0, 0)).1) e in omega arith;
  proof = omega arith;
  exact = refl;
}

-- the sides of the asserted equation are the sides of the listed symmetry, with some names put in
sides_equal : (p : ℕ) → p < 2 → step_at graph.proofs p ≡ explicit → (a b : Applied) → IsFull nodes a → IsFull nodes b → equation_of a b ≡ equation_at graph.proofs p → UpToSymmetries graph a b
sides_equal zero l e a b fa fb q = let n : ⊥ = cc in absurd n
sides_equal (suc zero) l e a b fa fb q =
    let ca : a.0 ≡ 0 = ap (λ (x : Equation). x.left) q in
    let cb : b.0 ≡ 0 = ap (λ (x : Equation). x.right) q in
    let ka : keys a.1 ≡ 0 ∷ 1 ∷ [] = fa.slots ∙ ap (canonical_slots nodes) ca in
    let kb : keys b.1 ≡ 0 ∷ 1 ∷ [] = fb.slots ∙ ap (canonical_slots nodes) cb in
    let pairs : same_names a.1 b.1 ≡ exchanged = ap (λ (x : Equation). x.pairs) q in
    let f : ℕ → ℕ = filled a.1 in
    let one_name : (s t : ℕ) → Contains exchanged (s, t) → f s ≡ filled b.1 t =
    λ s t c.
    let r = same_names-over a.1 b.1 s t (subst (λ A. Contains A (s, t)) (sym pairs) c) in
    filled-pair a.1 s r.0 (full-ascending nodes a fa) (In-Contains a.1 (s, r.0) r.1) ∙ sym (filled-pair b.1 t r.0 (full-ascending nodes b fb) (In-Contains b.1 (t, r.0) r.2)) in
    let is_a : renamed_id f (left_of symmetry) ≡ a = λ i. (sym ca i, (ap (map_on f) (sym ka) ∙ map_on-filled a.1 (full-ascending nodes a fa)) i) in
    let at_0 : f 1 ≡ filled b.1 0 = one_name 1 0 (contains_tail (0, 1) ((1, 0) ∷ []) (1, 0) (contains_head (1, 0) [])) in
    let at_1 : f 0 ≡ filled b.1 1 = one_name 0 1 (contains_head (0, 1) ((1, 0) ∷ [])) in
    let names : (renamed_id f (right_of symmetry)).1 ≡ map_on (filled b.1) (0 ∷ 1 ∷ []) = λ i. (0, at_0 i) ∷ (1, at_1 i) ∷ [] in
    let is_b : renamed_id f (right_of symmetry) ≡ b = λ i. (sym cb i, (names ∙ (ap (map_on (filled b.1)) (sym kb) ∙ map_on-filled b.1 (full-ascending nodes b fb))) i) in
    subst (λ x. UpToSymmetries graph x b) is_a
    (subst (UpToSymmetries graph (renamed_id f (left_of symmetry))) is_b
    (listed symmetry f (contains_head symmetry []) (filled-injective a.1 fa.injective)))
sides_equal (suc (suc p)) l e a b fa fb q = absurd (omega arith)

only_symmetry : (P : Symmetry → Type 0) → P symmetry → (y : Symmetry) → Contains graph.symmetries y → P y
only_symmetry P p y c = subst P (sym (one_of c)) p

only_row : (P : Row → Type 0) → P row → (r : Row) → Contains graph.rows r → P r
only_row P p r c = subst P (sym (one_of c)) p

at_rest : AtRest graph
at_rest = record {
  sane = record {
    sound = graph_sound;
    filed = record {
      each = only_row (IsRow graph) is_row;
      once = (Contains-nil 0, tt);
      shapes = λ r q c d e. ap (λ (x : Row). x.source) (one_of c ∙ sym (one_of d));
      waits_once = tt;
      waits_for_row = λ o c. absurd (Contains-nil o c);
      current = λ r c n. only_row (IsCurrent graph) (record { in_normal_form = refl; covered = λ s d. d }) r c;
    };
    each_listed = only_symmetry (IsListed graph) is_listed;
    listed_once = λ y z c d e k m. one_of c ∙ sym (one_of d);
  };
  represents = record { linked = own_row; asserted = sides_equal };
  nothing_waits = refl;
  aligned = only_symmetry (IsAligned graph) refl;
}
  where
    own_row : (i : ℕ) → i < 1 → (o : ℕ) × Contains (sources graph.rows) o × LinkedTo graph i o
    own_row zero l = (0, contains_head 0 [], linked_to-same graph graph_sound.linked 0 (omega arith))
    own_row (suc i) l = absurd (omega arith)

-- h 7 8 and h 8 7 are equal by what was asserted
abbrev h_7_8 : Applied
h_7_8 = (0, (0, 7) ∷ (1, 8) ∷ [])

abbrev h_8_7 : Applied
h_8_7 = (0, (0, 8) ∷ (1, 7) ∷ [])

h_7_8_full : IsFull nodes h_7_8
h_7_8_full = record { in_range = omega arith; slots = refl; injective = (different, (λ k. k, tt)) }
  where
    different : ◌≡◌ {A = ℕ} 7 8 ⊎ ⊥ → ⊥
    different (inl e) = omega arith
    different (inr k) = k

terms_equal : Equal (asserted nodes graph.proofs) (term_of nodes h_7_8) (term_of nodes h_8_7)
terms_equal = moving (filled h_7_8.1) (filled-injective h_7_8.1 h_7_8_full.injective) (from_list (contains_head (node 6 [] (place 0 (place 1 stop)), node 6 [] (place 1 (place 0 stop))) []))

-- they do not find alike
apart : find found h_7_8 ≡ find found h_8_7 → ⊥
apart p = let e : ◌≡◌ {A = ℕ} 7 8 = ap (λ (a : Applied). (get_or a.1 0 (0, 0)).1) p in omega arith

-- for the class is affected: completeness excepts just such ids
affected : IsAffected graph 0
affected = (is_affected-iff graph 0).0 refl
