-- What a session leads to holds just its trees and pairs, so sessions of the same trees and pairs lead to graphs that agree.
use Rattle.std.proofs.Common.{◌≡◌, ℕ, ◌+◌, ◌<◌, List, [], ◌∷◌, ◌++◌, length, sym, ap, refl, subst, arith, inl, inr}
use Rattle.std.specs.Prelude.{Contains}
use Rattle.std.proofs.lemmas.Bool.{cases_lt}
use Rattle.std.proofs.lemmas.List.{length-append}
use Rattle.std.proofs.lemmas.List.Elements.{Contains-append_left, Contains-append_cases}
use Rattle.slotted_lists.proofs.Contained.{contains_head, contains_tail, contains_cases, Contains-nil}
use Rattle.slotted_theory.specs.Nameless.{DTerm, moved}
use Rattle.slotted_theory.specs.Derives.{Equal, listed, turned, joined, moving}
use Rattle.slotted_theory.specs.Renaming.{Bijection}
use Rattle.slotted_theory.specs.Shape.{shape}
use Rattle.slotted_theory.proofs.Bijections.{to-injective}
use Rattle.slotted_theory.proofs.Equals.{Equal-through, Equal-more, Equal-along}
use Rattle.slotted_theory.proofs.Shapes.{shape_iff}
use Rattle.slotted_model.specs.Applied.{Applied, renamed_id}
use Rattle.slotted_model.specs.Classes.{term_of, layer_of, IsFull, Canonical}
use Rattle.slotted_model.specs.Growth.{IsNew, Added, identity_id}
use Rattle.slotted_model.specs.ProofList.{IsOver, HoldsFrom, equation_of, equation_at, left_side, right_side, term_pair, asserted}
use Rattle.slotted_model.specs.State.{State}
use Rattle.slotted_model.specs.Rest.{AtRest}
use Rattle.slotted_model.specs.Affected.{HasNoOpenSymmetries}
use Rattle.slotted_model.specs.Agreement.{Knows, HasTermsOf, Agree}
use Rattle.slotted_model.specs.Adding.{Adds, Asserts, HasAdded, HasAsserted}
use Rattle.slotted_model.specs.Sessions.{nothing, StandsFor, Session, starts, finds, adds, asserts, keeps, HoldsJust, Follow, AreAmong}
use Rattle.slotted_model.proofs.Rebuilding.Adding.{adds as adds-rest}
use Rattle.slotted_model.proofs.Rebuilding.Asserting.{asserts as asserts-rest, nothing-rests}
use Rattle.slotted_model.proofs.Finds.Explaining.{over-full}
use Rattle.slotted_model.proofs.Finds.FindProofs.{proved-holds, left_side-full, right_side-full, sides-equation}
use Rattle.slotted_model.proofs.Represented.Full.{full-renamed, term_of-renamed}
use Rattle.slotted_model.proofs.Represented.Growing.{added}
use Rattle.slotted_model.proofs.Complete.SameCounts.{agree}
use Rattle.slotted_model.proofs.Finds.Steps.{one_is_enough}

-- what an id stands for where nodes and equations are the same
same-stands : (g h : State) → h.nodes ≡ g.nodes → asserted h.nodes h.proofs ≡ asserted g.nodes g.proofs → (a : Applied) (t : DTerm) → StandsFor g a t → StandsFor h a t
same-stands g h nodes pairs a t s =
    subst (λ (p : List DTerm × List (DTerm × DTerm)). IsFull p.0 a × Equal p.1 (term_of p.0 a) t) (λ i. (sym nodes i, sym pairs i)) s

module _ (trees : List DTerm) (pairs : List (DTerm × DTerm)) (g : State) (holds : HoldsJust g trees pairs) where
  abbrev E : List (DTerm × DTerm)
  E = asserted g.nodes g.proofs

  can : Canonical g.nodes
  can = holds.rest.sane.sound.canonical

  -- a tree for which an id stands
  finds-holds : (t : DTerm) (a : Applied) → StandsFor g a t → HoldsJust g (t ∷ trees) pairs
  finds-holds t a s = record {
    rest = holds.rest;
    has = λ u c. elim (contains_cases t trees u c) [
      | inl e ↦ (a, subst (StandsFor g a) (sym e) s)
      | inr i ↦ holds.has u i
    ];
    classes = λ i l. let r = holds.classes i l in (r.0, r.1, r.2, r.3, contains_tail t trees r.1 r.4);
    asserted_follow = holds.asserted_follow;
    pairs_follow = holds.pairs_follow;
  }

  -- a change by which nothing is added or asserted
  keeps-holds : (h : State) → AtRest h → h.nodes ≡ g.nodes → asserted h.nodes h.proofs ≡ E → HoldsJust h trees pairs
  keeps-holds h rest nodes same = record {
    rest = rest;
    has = λ t c. let r = holds.has t c in (r.0, same-stands g h nodes same r.0 t r.1);
    classes = λ i l. let r = holds.classes i (subst (λ ns. i < length ns) nodes l) in (r.0, r.1, r.2, same-stands g h nodes same r.0 r.1 r.3, r.4);
    asserted_follow = λ d e c. holds.asserted_follow d e (subst (λ F. Contains F (d, e)) same c);
    pairs_follow = λ d e c. subst (λ F. Equal F d e) (sym same) (holds.pairs_follow d e c);
  }

  module _ (t c : DTerm) (new : IsNew g.nodes c) (equal : Equal E (layer_of g.nodes c) t) (h : State) (step : Adds g c h) where
    x : HasAdded g c h
    x = adds-rest g holds.rest c new h step

    abbrev newer : List DTerm
    newer = g.nodes ++ c ∷ []

    grown : Added g.nodes newer c
    grown = added g.nodes c can new

    -- in the newer graph
    there : (a : Applied) (u : DTerm) → IsFull newer a × Equal E (term_of newer a) u → StandsFor h a u
    there a u s =
        subst (λ (p : List DTerm × List (DTerm × DTerm)). IsFull p.0 a × Equal p.1 (term_of p.0 a) u) (λ i. (sym x.nodes i, sym x.same_asserted i)) s

    still : (a : Applied) (u : DTerm) → StandsFor g a u → StandsFor h a u
    still a u s = there a u (grown.extends.full a s.0, Equal-along (sym (grown.extends.terms a s.0)) refl s.1)

    abbrev last : Applied
    last = identity_id newer (length g.nodes)

    last-stands : StandsFor h last t
    last-stands = there last t (grown.full, Equal-along (sym grown.term) refl equal)

    adds-holds : HoldsJust h (t ∷ trees) pairs
    adds-holds = record {
      rest = x.rest;
      has = λ u k. elim (contains_cases t trees u k) [
        | inl e ↦ (last, subst (StandsFor h last) (sym e) last-stands)
        | inr i ↦ let r = holds.has u i in (r.0, still r.0 u r.1)
      ];
      classes = λ i l.
          let longer : length h.nodes ≡ length newer = ap (λ (ns : List DTerm). length ns) x.nodes in
          let count : length newer ≡ length g.nodes + 1 = length-append g.nodes (c ∷ []) in
          elim (cases_lt i (length g.nodes)) [
            | inl b ↦ let r = holds.classes i b in (r.0, r.1, r.2, still r.0 r.1 r.3, contains_tail t trees r.1 r.4)
            | inr b ↦ (last, t, (let e : length g.nodes ≡ i = omega arith in e), last-stands, contains_head t trees)
          ];
      asserted_follow = λ d e k. holds.asserted_follow d e (subst (λ F. Contains F (d, e)) x.same_asserted k);
      pairs_follow = λ d e k. subst (λ F. Equal F d e) (sym x.same_asserted) (holds.pairs_follow d e k);
    }

  module _ (t u : DTerm) (a b : Applied) (sa : StandsFor g a t) (sb : StandsFor g b u) (h : State) (step : Asserts g a b h) where
    y : HasAsserted g a b h
    y = asserts-rest g holds.rest a b sa.0 sb.0 h step

    abbrev F : List (DTerm × DTerm)
    F = asserted h.nodes h.proofs

    -- nothing that was asserted is lost
    more : (d e : DTerm) → Contains E (d, e) → Equal F d e
    more d e c = elim y.asserted_list [
      | inl p ↦ listed (subst (λ L. Contains L (d, e)) (sym p) c)
      | inr p ↦ listed (subst (λ L. Contains L (d, e)) (sym p) (Contains-append_left E (term_pair g.nodes (equation_of a b) ∷ []) (d, e) c))
    ]

    still-stands : (z : Applied) (w : DTerm) → StandsFor g z w → StandsFor h z w
    still-stands z w s =
        subst (λ ns. IsFull ns z × Equal F (term_of ns z) w) (sym y.same_nodes) (s.0, Equal-through more s.1)

    -- the two trees are equal now
    now-equal : Equal F t u
    now-equal =
        let ha : StandsFor h a t = still-stands a t sa in
        let hb : StandsFor h b u = still-stands b u sb in
        let s = y.rest.sane.sound in
        let entry : HoldsFrom F h.nodes (equation_at h.proofs y.stands.0) = proved-holds h.nodes s.canonical h.proofs s.proved y.stands.0 y.stands.1.0 in
        joined (turned ha.1) (joined (entry a b ha.0 hb.0 (sym y.stands.1.1)) hb.1)

    abbrev longer_pairs : List (DTerm × DTerm)
    longer_pairs = (t, u) ∷ pairs

    older : {d e : DTerm} → Equal E d e → Equal longer_pairs d e
    older q = Equal-more (λ p c. contains_tail (t, u) pairs p c) (Equal-through holds.asserted_follow q)

    over : IsOver g.nodes (equation_of a b)
    over = over-full g.nodes a b sa.0 sb.0

    -- the new pair of terms follows from the new pair of trees
    new-follows : Equal longer_pairs (term_of g.nodes (left_side g.nodes (equation_of a b))) (term_of g.nodes (right_side g.nodes (equation_of a b)))
    new-follows =
        let here : Equal longer_pairs (term_of g.nodes a) (term_of g.nodes b) = joined (older sa.1) (joined (listed (contains_head (t, u) pairs)) (turned (older sb.1))) in
        let all : HoldsFrom longer_pairs g.nodes (equation_of a b) = one_is_enough longer_pairs g.nodes can (equation_of a b) a b sa.0 sb.0 refl here in
        all (left_side g.nodes (equation_of a b)) (right_side g.nodes (equation_of a b)) (left_side-full g.nodes (equation_of a b) over) (right_side-full g.nodes (equation_of a b) over)
        (sides-equation g.nodes (equation_of a b) over)

    follows : (d e : DTerm) → Contains F (d, e) → Equal longer_pairs d e
    follows d e c = elim y.asserted_list [
      | inl p ↦ older (listed (subst (λ L. Contains L (d, e)) p c))
      | inr p ↦ elim (Contains-append_cases E (term_pair g.nodes (equation_of a b) ∷ []) (d, e) (subst (λ L. Contains L (d, e)) p c)) [
        | inl i ↦ older (listed i)
        | inr i ↦ elim (contains_cases (term_pair g.nodes (equation_of a b)) [] (d, e) i) [
          | inl q ↦ subst (λ (r : DTerm × DTerm). Equal longer_pairs r.0 r.1) (sym q) new-follows
          | inr n ↦ absurd (Contains-nil (d, e) n)
        ]
      ]
    ]

    asserts-holds : HoldsJust h trees longer_pairs
    asserts-holds = record {
      rest = y.rest;
      has = λ w c. let r = holds.has w c in (r.0, still-stands r.0 w r.1);
      classes = λ i l. let r = holds.classes i (subst (λ ns. i < length ns) y.same_nodes l) in (r.0, r.1, r.2, still-stands r.0 r.1 r.3, r.4);
      asserted_follow = follows;
      pairs_follow = λ d e c. elim (contains_cases (t, u) pairs (d, e) c) [
        | inl q ↦ subst (λ (r : DTerm × DTerm). Equal F r.0 r.1) (sym q) now-equal
        | inr i ↦ Equal-through more (holds.pairs_follow d e i)
      ];
    }

nothing-holds : HoldsJust nothing [] []
nothing-holds = record {
  rest = nothing-rests;
  has = λ t c. absurd (Contains-nil t c);
  classes = λ i l. absurd (omega arith);
  asserted_follow = λ d e c. absurd (Contains-nil (d, e) c);
  pairs_follow = λ d e c. absurd (Contains-nil (d, e) c);
}

pub session-holds : {trees : List DTerm} {pairs : List (DTerm × DTerm)} {g : State} → Session trees pairs g → HoldsJust g trees pairs
session-holds starts = nothing-holds
session-holds (finds {trees = trees} {pairs = pairs} {g = g} t a s stands) = finds-holds trees pairs g (session-holds s) t a stands
session-holds (adds {trees = trees} {pairs = pairs} {g = g} {h = h} t c s new equal step) = adds-holds trees pairs g (session-holds s) t c new equal h step
session-holds (asserts {trees = trees} {pairs = pairs} {g = g} {h = h} t u a b s sa sb step) = asserts-holds trees pairs g (session-holds s) t u a b sa sb h step
session-holds (keeps {trees = trees} {pairs = pairs} {g = g} {h = h} s rest nodes same) = keeps-holds trees pairs g (session-holds s) h rest nodes same

module _ (trees others : List DTerm) (pairs other_pairs : List (DTerm × DTerm)) (g h : State) (left : HoldsJust g trees pairs) (right : HoldsJust h others other_pairs) where
  -- what the one asserts follows from what the other asserts
  knows : Follow pairs other_pairs → Knows h g
  knows follow d e c = Equal-through right.pairs_follow (Equal-through follow (left.asserted_follow d e c))

  -- each class of the one stands for a tree of the other
  has-terms : Follow pairs other_pairs → AreAmong trees others → HasTermsOf h g
  has-terms follow among i l live =
      let r = left.classes i l in
      let u : (u : DTerm) × Contains others u × (shape u ≡ shape r.1) = among r.1 r.4 in
      let n : (π : Bijection) × (moved π.to u.0 ≡ r.1) = (shape_iff u.0 r.1).0 u.2 in
      let b = right.has u.0 u.1 in
      let f : ℕ → ℕ = n.0.to in
      let can : Canonical h.nodes = right.rest.sane.sound.canonical in
      let equal : Equal (asserted h.nodes h.proofs) (term_of h.nodes (renamed_id f b.0)) r.1 = Equal-along (sym (term_of-renamed h.nodes can b.0 b.1.0 f)) n.1 (moving f (to-injective n.0) b.1.1) in (
        r.0,
        renamed_id f b.0,
        r.2,
        record {
          left_full = r.3.0;
          right_full = full-renamed h.nodes b.0 b.1.0 f (λ x y j k. to-injective n.0 x y);
          equal = joined (Equal-through (knows follow) r.3.1) (turned equal);
        },
      )

-- where the trees of one session are among those of another and its pairs follow from the other's, so it is with the graphs
pub sessions-terms : (trees others : List DTerm) (pairs other_pairs : List (DTerm × DTerm)) (g h : State) → Session trees pairs g → Session others other_pairs h →
    Follow pairs other_pairs → AreAmong trees others → Knows h g × HasTermsOf h g
sessions-terms trees others pairs other_pairs g h s r follow among = (
  knows trees others pairs other_pairs g h (session-holds s) (session-holds r) follow,
  has-terms trees others pairs other_pairs g h (session-holds s) (session-holds r) follow among,
)

pub sessions-agree : (trees others : List DTerm) (pairs other_pairs : List (DTerm × DTerm)) (g h : State) → Session trees pairs g → Session others other_pairs h →
    HasNoOpenSymmetries g → HasNoOpenSymmetries h → Follow pairs other_pairs → Follow other_pairs pairs → AreAmong trees others → AreAmong others trees → Agree g h
sessions-agree trees others pairs other_pairs g h s r none_g none_h follow follow_back among among_back =
    let there : Knows h g × HasTermsOf h g = sessions-terms trees others pairs other_pairs g h s r follow among in
    let back : Knows g h × HasTermsOf g h = sessions-terms others trees other_pairs pairs h g r s follow_back among_back in
    agree g h (session-holds s).rest (session-holds r).rest none_g none_h there.0 back.0 there.1 back.1
