-- Partners of slots below binders: the pairs of slots to which two maps of names give one number.
use Rattle.std.proofs.Common.{◌≡◌, ◌≢◌, ℕ, List, [], ◌∷◌, ◌++◌, Some, None, sym, ap, ◌∙◌, subst, refl, append_assoc}
use Rattle.slotted_lists.proofs.Maps.{value_of-first, value_of-rest}
use Rattle.slotted_slots.specs.Ascending.{AllAbove, IsAscending}
use Rattle.slotted_slots.specs.Maps.{with_pair}
use Rattle.slotted_theory.specs.FiniteMaps.{IsInjectiveMap, value_of}
use Rattle.slotted_theory.specs.Shape.{number_in}
use Rattle.slotted_theory.proofs.Shapes.{number_in-injective}
use Rattle.slotted_model.specs.Applied.{Applied, keys}
use Rattle.slotted_model.specs.Correspondence.{IsFullMap, IsPartialInjection, flipped, same_names, turned}
use Rattle.slotted_model.proofs.Correspondences.FullMaps.{same_names-partial, same_names-turned, with_values-full, with_values-keys}
use Rattle.slotted_proofs.specs.declared.equation.Equation.{Equation as Sides}
use Rattle.slotted_proofs.specs.Equations.{Statement, equality, to_applied, AreSides}
use Rattle.slotted_proofs.specs.Steps.{HasInjectiveSides, Matches}
use Rattle.slotted_proofs.proofs.Stepping.{state-matches, own_left, own_right}
use Rattle.slotted_proofs.proofs.Written.{stated}
use Rattle.slotted_proofs.proofs.Bridges.{own_full}
use Rattle.slotted_proofs.proofs.NumberedSides.{with_pair-last}
use Rattle.slotted_alike.specs.Frames.{numbers_under, under}

-- the first of the pairs that are left has the number
pub partner_found : (bs : List ℕ) (left rest more : List (ℕ × ℕ)) (n s x : ℕ) → value_of (flipped (numbers_under bs left)) n ≡ value_of (flipped (numbers_under bs rest)) n → rest ≡ (s, x) ∷ more → number_in bs x ≡ n → Some s ≡ value_of (flipped (numbers_under bs left)) n
partner_found bs left rest more n s x e f g =
    sym (e ∙ (ap (λ m. value_of (flipped (numbers_under bs m)) n) f ∙ value_of-first (number_in bs x, s) (flipped (numbers_under bs more)) n (sym g)))

-- or it has not
pub partner_next : (bs : List ℕ) (left rest more : List (ℕ × ℕ)) (n s x : ℕ) → value_of (flipped (numbers_under bs left)) n ≡ value_of (flipped (numbers_under bs rest)) n → rest ≡ (s, x) ∷ more → number_in bs x ≢ n → value_of (flipped (numbers_under bs left)) n ≡ value_of (flipped (numbers_under bs more)) n
partner_next bs left rest more n s x e f g =
    e ∙ (ap (λ m. value_of (flipped (numbers_under bs m)) n) f ∙ value_of-rest (number_in bs x, s) (flipped (numbers_under bs more)) n (λ h. g (sym h)))

-- what is paired so far, and what is left to pair
pub record Pairing (whole so_far rest : List (ℕ × ℕ)) (bs : List ℕ) (A : List (ℕ × ℕ)) : Type 0 where
  pub pairs : so_far ++ same_names (numbers_under bs rest) A ≡ same_names (numbers_under bs whole) A
  pub ascends : IsAscending (keys (so_far ++ rest))

drop_above : (k : ℕ) (m rest : List (ℕ × ℕ)) (p : ℕ × ℕ) → AllAbove k (keys (m ++ p ∷ rest)) → AllAbove k (keys (m ++ rest))
drop_above k [] rest p h = h.1
drop_above k (q ∷ m) rest p h = (h.0, drop_above k m rest p h.1)

drop_ascends : (m rest : List (ℕ × ℕ)) (p : ℕ × ℕ) → IsAscending (keys (m ++ p ∷ rest)) → IsAscending (keys (m ++ rest))
drop_ascends [] rest p h = h.1
drop_ascends (q ∷ m) rest p h = (drop_above q.0 m rest p h.0, drop_ascends m rest p h.1)

other_above : (k : ℕ) (m rest : List (ℕ × ℕ)) (s x y : ℕ) → AllAbove k (keys (m ++ (s, x) ∷ rest)) → AllAbove k (keys (m ++ (s, y) ∷ rest))
other_above k [] rest s x y h = h
other_above k (q ∷ m) rest s x y h = (h.0, other_above k m rest s x y h.1)

other_ascends : (m rest : List (ℕ × ℕ)) (s x y : ℕ) → IsAscending (keys (m ++ (s, x) ∷ rest)) → IsAscending (keys (m ++ (s, y) ∷ rest))
other_ascends [] rest s x y h = h
other_ascends (q ∷ m) rest s x y h = (other_above q.0 m rest s x y h.0, other_ascends m rest s x y h.1)

paired_first : (bs : List ℕ) (A more : List (ℕ × ℕ)) (s x t : ℕ) → value_of (flipped A) (number_in bs x) ≡ Some t → same_names (numbers_under bs ((s, x) ∷ more)) A ≡ (s, t) ∷ same_names (numbers_under bs more) A
paired_first bs A more s x t e = rw e refl

unpaired_first : (bs : List ℕ) (A more : List (ℕ × ℕ)) (s x : ℕ) → value_of (flipped A) (number_in bs x) ≡ None → same_names (numbers_under bs ((s, x) ∷ more)) A ≡ same_names (numbers_under bs more) A
unpaired_first bs A more s x e = rw e refl

pub pairing_more : (whole so_far rest more next : List (ℕ × ℕ)) (bs : List ℕ) (A : List (ℕ × ℕ)) (s x t : ℕ) → Pairing whole so_far rest bs A → rest ≡ (s, x) ∷ more → value_of (flipped A) (number_in bs x) ≡ Some t → next ≡ with_pair so_far s t → Pairing whole next more bs A
pairing_more whole so_far rest more next bs A s x t h e f g =
    let up : IsAscending (keys (so_far ++ (s, x) ∷ more)) = subst (λ r. IsAscending (keys (so_far ++ r))) e h.ascends in
    let last : next ≡ so_far ++ (s, t) ∷ [] = g ∙ with_pair-last so_far more s t x up in
    record {
      pairs = ap (λ m. m ++ same_names (numbers_under bs more) A) last
          ∙ (append_assoc so_far ((s, t) ∷ []) (same_names (numbers_under bs more) A)
          ∙ (ap (λ m. so_far ++ m) (sym (paired_first bs A more s x t f)) ∙ (ap (λ r. so_far ++ same_names (numbers_under bs r) A) (sym e) ∙ h.pairs)));
      ascends = subst (λ m. IsAscending (keys m)) (sym (ap (λ m. m ++ more) last ∙ append_assoc so_far ((s, t) ∷ []) more)) (other_ascends so_far more s x t up);
    }

pub pairing_none : (whole so_far rest more : List (ℕ × ℕ)) (bs : List ℕ) (A : List (ℕ × ℕ)) (s x : ℕ) → Pairing whole so_far rest bs A → rest ≡ (s, x) ∷ more → value_of (flipped A) (number_in bs x) ≡ None → Pairing whole so_far more bs A
pairing_none whole so_far rest more bs A s x h e f = record {
  pairs = ap (λ m. so_far ++ m) (sym (unpaired_first bs A more s x f)) ∙ (ap (λ r. so_far ++ same_names (numbers_under bs r) A) (sym e) ∙ h.pairs);
  ascends = drop_ascends so_far more (s, x) (subst (λ r. IsAscending (keys (so_far ++ r))) e h.ascends);
}

-- maps below binders

pub under_full : (bs : List ℕ) (m : List (ℕ × ℕ)) → IsAscending (keys m) → IsInjectiveMap m → IsFullMap (keys m) (numbers_under bs m)
under_full bs m a i = with_values-full (number_in bs) (keys m) m (own_full m a i) (λ x y c d e. number_in-injective bs x y e)

pub partners_partial : (bs cs : List ℕ) (a b shared : List (ℕ × ℕ)) → IsAscending (keys a) → IsAscending (keys b) → IsInjectiveMap a → IsInjectiveMap b → shared ≡ same_names (numbers_under cs b) (numbers_under bs a) → IsPartialInjection (keys b) (keys a) shared
partners_partial bs cs a b shared la lb ia ib e =
    subst (IsPartialInjection (keys b) (keys a)) (sym e) (same_names-partial (keys b) (keys a) (numbers_under cs b) (numbers_under bs a) (under_full cs b lb ib) (under_full bs a la ia))

pub partners_equality : (bs cs : List ℕ) (a b : Applied) (shared : List (ℕ × ℕ)) → IsAscending (keys a.1) → IsAscending (keys b.1) → IsInjectiveMap a.1 → IsInjectiveMap b.1 → shared ≡ same_names (numbers_under cs b.1) (numbers_under bs a.1) →
    (◌≡◌ {A = Statement} (record { left_slots = keys a.1; right_slots = keys b.1; equation = record { left = a.0; right = b.0; pairs = turned (keys a.1) shared } }) (equality (under bs a) (under cs b)))
partners_equality bs cs a b shared la lb ia ib e =
    let pairs : turned (keys a.1) shared ≡ same_names (numbers_under bs a.1) (numbers_under cs b.1) =
    ap (turned (keys a.1)) e ∙ sym (same_names-turned (keys b.1) (keys a.1) (numbers_under cs b.1) (numbers_under bs a.1) (under_full cs b.1 lb ib) (under_full bs a.1 la ia)) in
    λ i. record {
      left_slots = sym (with_values-keys (number_in bs) a.1) i;
      right_slots = sym (with_values-keys (number_in cs) b.1) i;
      equation = record { left = a.0; right = b.0; pairs = pairs i };
    }

-- an equation of this statement matches
pub written_matches : (bs cs : List ℕ) (a b : Applied) (e : Sides) → IsAscending (keys a.1) → IsAscending (keys b.1) → IsInjectiveMap a.1 → IsInjectiveMap b.1 → AreSides (equality (under bs a) (under cs b)) (to_applied e.l) (to_applied e.r) → Matches (under bs a) (under cs b) (to_applied e.l) (to_applied e.r)
written_matches bs cs a b e la lb ia ib w =
    let s : Statement = equality (under bs a) (under cs b) in
    state-matches (under bs a) (under cs b) (to_applied e.l) (to_applied e.r)
    (subst (λ K. IsFullMap K (numbers_under bs a.1)) (sym (with_values-keys (number_in bs) a.1)) (under_full bs a.1 la ia))
    (subst (λ K. IsFullMap K (numbers_under cs b.1)) (sym (with_values-keys (number_in cs) b.1)) (under_full cs b.1 lb ib))
    (own_left s (to_applied e.l) (to_applied e.r) w) (own_right s (to_applied e.l) (to_applied e.r) w) (sym (stated s (to_applied e.l) (to_applied e.r) w))

pub written_injective : (s : Statement) (e : Sides) → AreSides s (to_applied e.l) (to_applied e.r) → HasInjectiveSides e
written_injective s e w = record { left = w.left_full.injective; right = w.right_full.injective }
