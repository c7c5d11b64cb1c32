-- After a union: what the graph represents, and that the size falls where a slot had no partner.
use Rattle.std.proofs.Common.{◌≡◌, ℕ, ◌<◌, ◌≤◌, List, length, sym, ◌∙◌, ap, subst, inl, inr, arith}
use Rattle.std.specs.Prelude.{Contains}
use Rattle.std.specs.Map.{keys_of, values_of}
use Rattle.std.proofs.lemmas.Bool.{cases_eq}
use Rattle.slotted_model.specs.Classes.{IsFull}
use Rattle.slotted_model.specs.Correspondence.{identity}
use Rattle.slotted_model.specs.Find.{used_slots}
use Rattle.slotted_model.specs.Link.{found_equation}
use Rattle.slotted_model.specs.ProofList.{Equation, equation_of, equation_at, turned_equation}
use Rattle.slotted_model.specs.State.{State, sources}
use Rattle.slotted_model.specs.Rest.{Sane, Represents, size, size_from}
use Rattle.slotted_model.specs.Changes.{GoesOn, dropped_state, with_proofs, found_entry, PairsAll, Lacks, Unites, finds_alike, proves, drops_left, drops_right, left_dies, right_dies, lists, is_listed, HasUnited, RepresentsBut}
use Rattle.slotted_model.proofs.Correspondences.Pairs.{Contains-key, Contains-value}
use Rattle.slotted_model.proofs.Correspondences.PartialInjections.{identity-by}
use Rattle.slotted_model.proofs.Rebuilding.Events.{drop-sane, drop-size}
use Rattle.slotted_model.proofs.Rebuilding.GoingOn.{still-linked, still-equal}
use Rattle.slotted_model.proofs.Rebuilding.GrowingLists.{proofs-go_on, proofs-sane}
use Rattle.slotted_model.proofs.Rebuilding.Unions.{can_drop-left, can_drop-right, back-key, unites}

-- a graph that represents everything represents all but one entry
pub represents-but : (p : ℕ) (g : State) → Represents g → RepresentsBut p g
represents-but p g r = record { linked = r.linked; asserted = λ q h n. r.asserted q h }

-- after the union by an entry that one is respected too
pub united-represents : (p : ℕ) (g h : State) → Sane g → RepresentsBut p g → HasUnited p g h → Represents h
united-represents p g h sane r u = record {
  linked = λ i k.
      let l = r.linked i (subst (λ nodes. i < length nodes) u.same_nodes k) in
      (l.0, subst (λ rows. Contains (sources rows) l.0) (sym u.same_rows) l.1, still-linked g h sane.sound u.goes_on i l.0 l.2);
  asserted = λ q k e a b fa fb s.
      let t = u.asserts_nothing q k e in
      let fa' : IsFull g.nodes a = subst (λ nodes. IsFull nodes a) u.same_nodes fa in
      let fb' : IsFull g.nodes b = subst (λ nodes. IsFull nodes b) u.same_nodes fb in
      let s' : equation_of a b ≡ equation_at g.proofs q = s ∙ (u.goes_on.proofs q t.0).1 in
      elim (cases_eq q p) [
        | inl c ↦ u.equal a b fa' fb' (s' ∙ ap (equation_at g.proofs) c)
        | inr n ↦ still-equal g h sane.sound u.goes_on (r.asserted q t.0 n t.1 a b fa' fb' s')
      ];
}

-- a union never raises the size
pub united-no_larger : (p : ℕ) (g h : State) → HasUnited p g h → size h ≤ size g
united-no_larger p g h u = elim u.smaller [
  | inl l ↦ omega arith
  | inr e ↦ let q : size h ≡ size g = ap (size_from 0) e.0 in omega arith
]

-- where a slot has no partner not all have one
lacks-not_all : (g : State) (e : Equation) → Lacks g e → PairsAll g e → ⊥
lacks-not_all g e (inl l) all = l.2 (all.left l.0 l.1)
lacks-not_all g e (inr l) all = l.2 (all.right l.0 l.1)

lacks-not_identity : (g : State) (e : Equation) → Lacks g e → e.left ≡ e.right → e.pairs ≡ identity (used_slots g.found e.left) → ⊥
lacks-not_identity g e (inl l) same i = l.2 (subst (λ A. Contains (keys_of A) l.0) (sym i) (Contains-key (identity (used_slots g.found e.left)) l.0 l.0 (identity-by (used_slots g.found e.left) l.0 l.1)))
lacks-not_identity g e (inr l) same i =
    let c : Contains (used_slots g.found e.left) l.0 = subst (λ k. Contains (used_slots g.found k) l.0) (sym same) l.1 in
    l.2 (subst (λ A. Contains (values_of A) l.0) (sym i) (Contains-value (identity (used_slots g.found e.left)) l.0 l.0 (identity-by (used_slots g.found e.left) l.0 c)))

-- then the size falls
pub lacking-falls : (p : ℕ) {g h : State} → Unites p g h → Sane g → p < length g.proofs → Lacks g (found_entry g p) → size h < size g
lacking-falls p (finds_alike {g = g} l i) sane k lacks = absurd (lacks-not_identity g (found_entry g p) lacks l i)
lacking-falls p (proves {g = g} {h = h} proofs grow u) sane k lacks =
    let on : GoesOn g (with_proofs g proofs) = proofs-go_on g sane proofs grow in
    lacking-falls p u (proofs-sane g sane proofs grow) (on.proofs p k).0 (subst (λ e. Lacks g (found_equation g.nodes g.found e)) (sym (on.proofs p k).1) lacks)
lacking-falls p (drops_left {g = g} {h = h} n s w used lacks at t u) sane k l =
    let kept : List ℕ = keys_of (found_entry g p).pairs in
    let can = can_drop-left g sane p k in
    let d : State = dropped_state g (found_entry g p).left kept n w in
    let r : HasUnited p d h = unites p u (drop-sane g sane (found_entry g p).left kept n can at.0 at.1 w t) k in
    let a : size d < size g = drop-size g sane (found_entry g p).left kept n can at.0 at.1 w t s used lacks in
    let b : size h ≤ size d = united-no_larger p d h r in
    omega arith
lacking-falls p (drops_right {g = g} {h = h} n x w all used lacks at t u) sane k l =
    let kept : List ℕ = keys_of (turned_equation g.nodes (found_entry g p)).pairs in
    let can = can_drop-right g sane p k in
    let d : State = dropped_state g (found_entry g p).right kept n w in
    let r : HasUnited p d h = unites p u (drop-sane g sane (found_entry g p).right kept n can at.0 at.1 w t) k in
    let a : size d < size g = drop-size g sane (found_entry g p).right kept n can at.0 at.1 w t x used (λ c. lacks (back-key g sane p k x c)) in
    let b : size h ≤ size d = united-no_larger p d h r in
    omega arith
lacking-falls p (left_dies {g = g} n moment w differ all at later t) sane k lacks = absurd (lacks-not_all g (found_entry g p) lacks all)
lacking-falls p (right_dies {g = g} n moment w differ all at later t) sane k lacks = absurd (lacks-not_all g (found_entry g p) lacks all)
lacking-falls p (lists {g = g} n same all moves new at) sane k lacks = absurd (lacks-not_all g (found_entry g p) lacks all)
lacking-falls p (is_listed {g = g} y same all c is) sane k lacks = absurd (lacks-not_all g (found_entry g p) lacks all)
