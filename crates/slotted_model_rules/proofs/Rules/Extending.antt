-- Structural writes extend a graph at rest, and enter as explicit only what is asserted.
use Rattle.std.proofs.Common.{◌≡◌, ℕ, suc, ◌<◌, ◌≤◌, List, [], ◌∷◌, ◌++◌, length, sym, ◌∙◌, ap, refl, subst, inl, inr, append_assoc, arith}
use Rattle.std.specs.Prelude.{slice_index_or}
use Rattle.std.proofs.lemmas.List.{append-nil, get_or_append_left}
use Rattle.slotted_theory.specs.Nameless.{DTerm}
use Rattle.slotted_model.specs.Applied.{Applied}
use Rattle.slotted_model.specs.Classes.{IsFull}
use Rattle.slotted_model.specs.Growth.{IsNew, Extends}
use Rattle.slotted_model.specs.Link.{reflexive_equation}
use Rattle.slotted_model.specs.ProofList.{ProofEntry, explicit, reflexive, equation_of, equation_at, step_at}
use Rattle.slotted_model.specs.State.{State}
use Rattle.slotted_model.specs.Rest.{Sane, AtRest, size}
use Rattle.slotted_model.specs.Changes.{GrowsAtEnds, with_proofs, HasUnited}
use Rattle.slotted_model.specs.Rebuild.{Runs, starts, takes_turn, takes_act, HasTurned}
use Rattle.slotted_model.specs.Adding.{with_new_class, with_new_row, with_assertion, Adds, joins_row, files_row, Asserts, is_new, stands, HasAdded, HasAsserted, IsExactAssertion}
use Rattle.slotted_model.proofs.Represented.Growing.{grown-extends, Extends-same, Extends-then}
use Rattle.slotted_model.proofs.Rebuilding.GoingOn.{goes_on-same, goes_on-then}
use Rattle.slotted_model.proofs.Rebuilding.GrowingLists.{proofs-sane, grow-explicit}
use Rattle.slotted_model.proofs.Finds.Entering.{no_proof, step-last, earlier_or_last, longer-length}
use Rattle.slotted_model.proofs.Rebuilding.Adding.{class-sane, filed-sane_on}
use Rattle.slotted_model.proofs.Rebuilding.Asserting.{can_assert, entry-sane}
use Rattle.slotted_model.proofs.Rebuilding.Unions.{unites}
use Rattle.slotted_model.proofs.Rebuilding.AfterUnions.{united-no_larger}
use Rattle.slotted_model.proofs.Rebuilding.Turning.{turned, acted, run, HasRun, run-no_larger}
use Rattle.slotted_model.proofs.Rebuilding.EndsGrow.{grows-then, unites-grow, run-grows, assertion-exact}
use Rattle.slotted_model_rules.specs.Rules.{IsExtension, IsNewEntry}

pub grows-same : (g : State) → GrowsAtEnds g g
grows-same g = record { more = []; proofs = sym (append-nil g.proofs); listed = []; symmetries = sym (append-nil g.symmetries) }

pub extension-same : (g : State) → Sane g → IsExtension g g
extension-same g s = record { goes_on = goes_on-same g s.sound.linked; grows = grows-same g; later = []; nodes = sym (append-nil g.nodes); terms = Extends-same g.nodes }

pub extension-then : (f g h : State) → Sane f → IsExtension f g → IsExtension g h → IsExtension f h
extension-then f g h s a b = record {
  goes_on = goes_on-then f g h s.sound.linked a.goes_on b.goes_on;
  grows = grows-then f g h a.grows b.grows;
  later = a.later ++ b.later;
  nodes = b.nodes ∙ (ap (λ (ns : List DTerm). ns ++ b.later) a.nodes ∙ append_assoc f.nodes a.later b.later);
  terms = Extends-then f.nodes g.nodes h.nodes a.terms b.terms;
}

-- a step of the proof list stays as the list grows
pub step-stays : (g h : State) → GrowsAtEnds g h → (p : ℕ) → p < length g.proofs → step_at h.proofs p ≡ step_at g.proofs p
step-stays g h grows p l =
    ap (λ (x : ProofEntry). x.step) (ap (λ (ps : List ProofEntry). slice_index_or ps p no_proof) grows.proofs ∙ get_or_append_left g.proofs grows.more no_proof p l)

-- an explicit entry after a union and a run was one before
module _ (p : ℕ) (k f h : State) {n : ℕ} (united : HasUnited p k f) (r : Runs f n h) where
  explicit-before : (q : ℕ) → q < length h.proofs → step_at h.proofs q ≡ explicit → (q < length k.proofs) × (step_at k.proofs q ≡ explicit)
  explicit-before q l e =
      let x : HasRun f n h = run f united.sane r in
      let a = x.rebuilt.asserts_nothing q l e in
      united.asserts_nothing q a.0 a.1

-- a class is made
module _ (g : State) (rest : AtRest g) (c : DTerm) (new : IsNew g.nodes c) where
  abbrev newer : State
  newer = with_new_class g c

  abbrev entry : ProofEntry
  entry = record { equation = reflexive_equation newer.nodes (length g.nodes); step = reflexive }

  class-grows : GrowsAtEnds g newer
  class-grows = record { more = entry ∷ []; proofs = refl; listed = []; symmetries = sym (append-nil g.symmetries) }

  not-explicit : (q : ℕ) → length g.proofs ≤ q → q < length newer.proofs → step_at newer.proofs q ≡ explicit → ⊥
  not-explicit q later l e = elim (earlier_or_last g.proofs entry q l) [
    | inl m ↦ omega arith
    | inr m ↦ let s : reflexive ≡ explicit = sym (ap (step_at newer.proofs) m ∙ step-last g.proofs entry) ∙ e in cc
  ]

  pub adding-grows : (h : State) → Adds g c h → GrowsAtEnds g h
  adding-grows h (joins_row {n = n} {f = f} proofs p r grow there same congruence u runs left) =
      let k : State = with_proofs newer proofs in
      grows-then g newer h class-grows (
      grows-then newer k h (record { more = grow.more; proofs = grow.is; listed = []; symmetries = sym (append-nil g.symmetries) }) (grows-then k f h (unites-grow u) (run-grows f runs))
      )
  adding-grows h (files_row {n = n} alone runs left) =
      let f : State = with_new_row newer (length g.nodes) in
      let r : GrowsAtEnds f h = run-grows f runs in
      grows-then g newer h class-grows (record { more = r.more; proofs = r.proofs; listed = r.listed; symmetries = r.symmetries })

  pub adding-asserts_nothing : (h : State) → HasAdded g c h → Adds g c h → (q : ℕ) → ¬ IsNewEntry g h q
  adding-asserts_nothing h has (joins_row {n = n} {f = f} proofs p r grow there same congruence u runs left) q e =
      let w : HasUnited p (with_proofs newer proofs) f = unites p u (proofs-sane newer (class-sane g rest.sane c new) proofs grow) congruence.stands.0 in
      let a = explicit-before p (with_proofs newer proofs) f h w runs q e.in_range e.explicit in
      let b = grow-explicit newer.nodes newer.proofs proofs grow q a.0 a.1 in
      not-explicit q e.later b.0 b.1
  adding-asserts_nothing h has (files_row {n = n} alone runs left) q e =
      let f : State = with_new_row newer (length g.nodes) in
      let x : HasRun f n h = run f (filed-sane_on g rest.sane c new alone).0 runs in
      let a = x.rebuilt.asserts_nothing q e.in_range e.explicit in
      not-explicit q e.later a.0 a.1

  pub adding-extends : (h : State) → HasAdded g c h → Adds g c h → IsExtension g h
  adding-extends h has step = record {
    goes_on = has.goes_on;
    grows = adding-grows h step;
    later = c ∷ [];
    nodes = has.nodes;
    terms = subst (Extends g.nodes) (sym has.nodes) (grown-extends g.nodes c rest.sane.sound.canonical new);
  }

-- two ids are asserted to be equal
module _ (g : State) (rest : AtRest g) (a b : Applied) (fa : IsFull g.nodes a) (fb : IsFull g.nodes b) (h : State) (has : HasAsserted g a b h) where
  pub asserting-extends : Asserts g a b h → IsExtension g h
  asserting-extends step = record {
    goes_on = has.goes_on;
    grows = (assertion-exact g rest a b fa fb h step).grows;
    later = [];
    nodes = has.same_nodes ∙ sym (append-nil g.nodes);
    terms = subst (Extends g.nodes) (sym has.same_nodes) (Extends-same g.nodes);
  }

  pub asserting-enters : Asserts g a b h → (q : ℕ) → IsNewEntry g h q → equation_of a b ≡ equation_at h.proofs q
  asserting-enters (is_new {n = n} {f = f} new u r done) q e =
      let x : ProofEntry = record { equation = equation_of a b; step = explicit } in
      let k : State = with_assertion g (equation_of a b) in
      let sane : Sane k = entry-sane g rest.sane x (can_assert g a b fa fb new) in
      let there : length g.proofs < length k.proofs = (let l : length k.proofs ≡ suc (length g.proofs) = longer-length g.proofs x in omega arith) in
      let before = explicit-before (length g.proofs) k f h (unites (length g.proofs) u sane there) r q e.in_range e.explicit in
      let exact : IsExactAssertion g a b h = assertion-exact g rest a b fa fb h (is_new new u r done) in
      elim (earlier_or_last g.proofs x q before.0) [
        | inl m ↦ let l = e.later in absurd (omega arith)
        | inr m ↦ sym (ap (equation_at h.proofs) m ∙ (exact.is_explicit new).1)
      ]
  asserting-enters (stands {n = n} {f = f} p at u r done) q e =
      let before = explicit-before p g f h (unites p u rest.sane at.0) r q e.in_range e.explicit in
      let l = e.later in
      absurd (omega (arith, before.0))

-- a run from where nothing waits that leaves the size leaves finds
still-run : (f : State) → Sane f → f.waiting ≡ [] → {n : ℕ} {h : State} → Runs f n h → size h ≡ size f → (h.found ≡ f.found) × (h.waiting ≡ [])
still-run f sane none starts e = (refl, none)
still-run f sane none (takes_turn {n = n} {g = g} {h = h} r t) e =
    let x : HasRun f n g = run f sane r in
    let u : HasTurned g h = turned t x.rebuilt.sane in
    let a : size g ≤ size f = run-no_larger f sane r in
    let b : size g ≡ size f = elim u.falls [ inl l ↦ omega arith | inr l ↦ (let z : size h ≡ size g = l.0 in omega arith) ] in
    let k = still-run f sane none r b in
    let w : 0 < length g.waiting = u.waited in
    let z : length g.waiting ≡ 0 = ap length k.1 in
    absurd (omega arith)
still-run f sane none (takes_act {n = n} {g = g} {h = h} r t) e =
    let x : HasRun f n g = run f sane r in
    let a : size g ≤ size f = run-no_larger f sane r in
    let l : size h < size g = (acted t x.rebuilt.sane).smaller in
    absurd (omega arith)

-- so does a union and a run after it
still-both : (p : ℕ) (k f h : State) → k.waiting ≡ [] → HasUnited p k f → {n : ℕ} → Runs f n h → size h ≡ size k → h.found ≡ k.found
still-both p k f h none w {n} r e =
    let l : size h ≤ size f = run-no_larger f w.sane r in
    elim w.smaller [
      | inl s ↦ absurd (omega arith)
      | inr s ↦ let m : size f ≤ size k = united-no_larger p k f w in (still-run f w.sane (s.1 ∙ none) r (omega arith)).0 ∙ s.0
    ]

-- an assertion that leaves the size leaves finds
pub still-asserting : (g : State) → AtRest g → (a b : Applied) → IsFull g.nodes a → IsFull g.nodes b → (h : State) → Asserts g a b h → size h ≡ size g → h.found ≡ g.found
still-asserting g rest a b fa fb h (is_new {n = n} {f = f} new u r done) e =
    let x : ProofEntry = record { equation = equation_of a b; step = explicit } in
    let k : State = with_assertion g (equation_of a b) in
    let sane : Sane k = entry-sane g rest.sane x (can_assert g a b fa fb new) in
    let there : length g.proofs < length k.proofs = (let l : length k.proofs ≡ suc (length g.proofs) = longer-length g.proofs x in omega arith) in
    still-both (length g.proofs) k f h rest.nothing_waits (unites (length g.proofs) u sane there) r e
still-asserting g rest a b fa fb h (stands {n = n} {f = f} p at u r done) e = still-both p g f h rest.nothing_waits (unites p u rest.sane at.0) r e
