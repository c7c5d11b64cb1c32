-- A new class keeps what holds of the entries and of the proof list, and what is found.
use Rattle.std.proofs.Common.{◌≡◌, ℕ, zero, suc, ◌+◌, ◌<◌, ◌≤◌, List, [], ◌∷◌, ◌++◌, length, sym, ◌∙◌, ap, refl, subst, inl, inr, arith, length-append}
use Rattle.std.specs.Prelude.{Contains, ◌⊎◌}
use Rattle.std.specs.List.{cons_option}
use Rattle.std.specs.Map.{keys_of, values_of}
use Rattle.std.proofs.lemmas.Bool.{cases_lt}
use Rattle.std.proofs.lemmas.List.{get_or_append_left}
use Rattle.std.proofs.Math.Seq.{get_or-append_seam}
use Rattle.slotted_theory.specs.Nameless.{DArgs, DTerm, moved}
use Rattle.slotted_theory.specs.FiniteMaps.{filled}
use Rattle.slotted_model.specs.Ascending.{names, ascending}
use Rattle.slotted_model.specs.Applied.{Applied}
use Rattle.slotted_model.specs.Classes.{canonical_slots, term_of, IsFull}
use Rattle.slotted_model.specs.Growth.{Extends}
use Rattle.slotted_model.specs.Correspondence.{composite, identity, turned, IsPartialInjection, numbered}
use Rattle.slotted_model.specs.Filling.{IsValid}
use Rattle.slotted_model.specs.Find.{Entry, entry_at, IsLive, moments, chased, find_class, find_map, used_slots, find, Linked}
use Rattle.slotted_model.specs.ProofList.{Equation, Step, ProofEntry, explicit, reflexive, symmetric, transitive, congruent, turned_equation, IsOver, IsReflexive, AreCongruent, no_more, one_name, one_child, one_binder, node_of, IsCongruent, equation_at, IsStepFor, Proved, left_side, right_side, term_pair, if_explicit, asserted, Exact}
use Rattle.slotted_model.specs.Link.{IsLater, reflexive_equation, with_new_entry}
use Rattle.slotted_model.proofs.Correspondences.PartialInjections.{identity-partial}
use Rattle.slotted_model.proofs.Finds.Finding.{Leads, leads, chased-enough, find_map-live}
use Rattle.slotted_model.proofs.Finds.NormalIds.{keys-identity, values-identity}
use Rattle.slotted_model.proofs.Finds.FindProofs.{left_side-full, right_side-full}
use Rattle.slotted_model.proofs.Finds.Dropping.{turned-identity}

module _ (older newer : List DTerm) (x : Extends older newer) where
  slots-same : (i : ℕ) → i < length older → canonical_slots newer i ≡ canonical_slots older i
  slots-same i h = ap names (x.classes i h).1

  partial-newer : (i j : ℕ) (A : List (ℕ × ℕ)) → i < length older → j < length older → IsPartialInjection (canonical_slots older i) (canonical_slots older j) A → IsPartialInjection (canonical_slots newer i) (canonical_slots newer j) A
  partial-newer i j A hi hj a = subst (λ P. IsPartialInjection P (canonical_slots newer j) A) (sym (slots-same i hi)) (subst (λ Q. IsPartialInjection (canonical_slots older i) Q A) (sym (slots-same j hj)) a)

  pub over-newer : (e : Equation) → IsOver older e → IsOver newer e
  over-newer e o = record { left = (x.classes e.left o.left).0; right = (x.classes e.right o.right).0; pairs = partial-newer e.left e.right e.pairs o.left o.right o.pairs }

  turned-same : (e : Equation) → IsOver older e → turned_equation newer e ≡ turned_equation older e
  turned-same e o i = record { left = e.right; right = e.left; pairs = turned (slots-same e.right o.right i) e.pairs }

  node_of-same : (a : Applied) → IsFull older a → node_of newer a ≡ node_of older a
  node_of-same a full = ap (moved (filled a.1)) (x.classes a.0 full.in_range).1

  AreCongruent-newer : {d e : DArgs} {parts : List Equation} → AreCongruent older d e parts → AreCongruent newer d e parts
  AreCongruent-newer no_more = no_more
  AreCongruent-newer (one_name c) = one_name (AreCongruent-newer c)
  AreCongruent-newer (one_child a b fa fb c) = one_child a b (x.full a fa) (x.full b fb) (AreCongruent-newer c)
  AreCongruent-newer (one_binder c k) = one_binder (AreCongruent-newer c) (AreCongruent-newer k)

  IsCongruent-newer : (e : Equation) (parts : List Equation) → IsCongruent older e parts → IsCongruent newer e parts
  IsCongruent-newer e parts c =
      let l : node_of newer c.left ≡ node_of older c.left = node_of-same c.left c.left_full in
      let r : node_of newer c.right ≡ node_of older c.right = node_of-same c.right c.right_full in
      record {
        left = c.left;
        right = c.right;
        left_full = x.full c.left c.left_full;
        right_full = x.full c.right c.right_full;
        equation = c.equation;
        operators = ap (λ (t : DTerm). t.op) l ∙ (c.operators ∙ sym (ap (λ (t : DTerm). t.op) r));
        payloads = ap (λ (t : DTerm). t.payloads) l ∙ (c.payloads ∙ sym (ap (λ (t : DTerm). t.payloads) r));
        children = subst (λ (t : DTerm). AreCongruent newer t.args (node_of newer c.right).args parts) (sym l)
            (subst (λ (t : DTerm). AreCongruent newer (node_of older c.left).args t.args parts) (sym r) (AreCongruent-newer c.children));
      }

  IsStepFor-newer : (proofs : List ProofEntry) (p : ℕ) (e : Equation) (s : Step) → IsOver older e → IsStepFor older proofs p e s → IsStepFor newer proofs p e s
  IsStepFor-newer proofs p e explicit o c = c
  IsStepFor-newer proofs p e reflexive o c = (c.0, c.1 ∙ ap identity (sym (slots-same e.left o.left)))
  IsStepFor-newer proofs p e (symmetric q) o c = (c.0, c.1 ∙ sym (turned-same e o))
  IsStepFor-newer proofs p e (transitive q r) o c = c
  IsStepFor-newer proofs p e (congruent qs) o c = (c.0, IsCongruent-newer e _ c.1)

  pub proved-newer : (proofs : List ProofEntry) → Proved older proofs → Proved newer proofs
  proved-newer proofs proved = record {
    over = λ p h. over-newer (equation_at proofs p) (proved.over p h);
    steps = λ p h. IsStepFor-newer proofs p (equation_at proofs p) _ (proved.over p h) (proved.steps p h);
    once = proved.once;
  }

  -- the asserted terms stay
  term_pair-same : (e : Equation) → IsOver older e → term_pair newer e ≡ term_pair older e
  term_pair-same e o =
      let l : left_side newer e ≡ left_side older e = λ i. (e.left, (numbered (slots-same e.left o.left i) (slots-same e.right o.right i) e.pairs).0) in
      let r : right_side newer e ≡ right_side older e = λ i. (e.right, (numbered (slots-same e.left o.left i) (slots-same e.right o.right i) e.pairs).1) in
      let tl : term_of newer (left_side newer e) ≡ term_of older (left_side older e) = ap (term_of newer) l ∙ x.terms (left_side older e) (left_side-full older e o) in
      let tr : term_of newer (right_side newer e) ≡ term_of older (right_side older e) = ap (term_of newer) r ∙ x.terms (right_side older e) (right_side-full older e o) in
      λ i. (tl i, tr i)

  pub asserted-newer : (proofs : List ProofEntry) → ((p : ℕ) → p < length proofs → IsOver older (equation_at proofs p)) → asserted newer proofs ≡ asserted older proofs
  asserted-newer [] o = refl
  asserted-newer (entry ∷ proofs) o =
      let e : term_pair newer entry.equation ≡ term_pair older entry.equation = term_pair-same entry.equation (o 0 (omega arith)) in
      λ i. cons_option (if_explicit entry.step (e i)) (asserted-newer proofs (λ p h. o (suc p) (omega arith)) i)

moments-append : (found more : List Entry) → moments found ≤ moments (found ++ more)
moments-append [] more = omega arith
moments-append (e ∷ found) more = let l : moments found ≤ moments (found ++ more) = moments-append found more in omega arith

module _ (older newer : List DTerm) (x : Extends older newer) (one : length newer ≡ suc (length older)) (found : List Entry) (linked : Linked older found) (proof : ℕ) where
  abbrev entries : List Entry
  entries = with_new_entry newer found proof

  abbrev S : List ℕ
  S = canonical_slots newer (length found)

  abbrev new_entry : Entry
  new_entry = record { class = length found; pairs = identity S; proof = proof; died = 0 }

  abbrev none : Entry
  none = record { class = 0; pairs = []; proof = 0; died = 0 }

  at-old : (i : ℕ) → i < length older → entry_at entries i ≡ entry_at found i
  at-old i h = get_or_append_left found (new_entry ∷ []) none i (let e : length found ≡ length older = linked.entries in omega arith)

  at-new : entry_at entries (length found) ≡ new_entry
  at-new = get_or-append_seam found new_entry [] none

  -- what holds of the new entry and of all others holds of the entries
  by_entry : (P : ℕ → Entry → Type 0) → ((i : ℕ) → i < length older → P i (entry_at found i)) → P (length found) new_entry → (i : ℕ) → i < length newer → P i (entry_at entries i)
  by_entry P old new i h = elim (cases_lt i (length older)) [
    | inl l ↦ subst (P i) (sym (at-old i l)) (old i l)
    | inr l ↦
        let n : length found ≡ length older = linked.entries in
        let e : length found ≡ i = omega arith in
        subst (λ j. P j (entry_at entries j)) e (subst (P (length found)) (sym at-new) new)
  ]

  new_in_range : length found < length newer
  new_in_range = let n : length found ≡ length older = linked.entries in omega arith

  new_lives : IsLive entries (length found)
  new_lives = ap (λ (y : Entry). y.class) at-new

  ends_at : (i k : ℕ) → k < length older → IsLive found k ⊎ ((entry_at found i).died < (entry_at found k).died) → IsLive entries k ⊎ ((entry_at found i).died < (entry_at entries k).died)
  ends_at i k h (inl l) = inl (ap (λ (y : Entry). y.class) (at-old k h) ∙ l)
  ends_at i k h (inr l) = inr (subst (λ (y : Entry). (entry_at found i).died < y.died) (sym (at-old k h)) l)

  pub new_leads : Leads newer entries
  new_leads = record {
    entries = let e : length entries ≡ length found + length (new_entry ∷ []) = length-append found (new_entry ∷ []) in let n : length found ≡ length older = linked.entries in omega arith;
    in_range = by_entry (λ i y. y.class < length newer) (λ i h. let l : (entry_at found i).class < length older = linked.in_range i h in omega arith) new_in_range;
    maps = by_entry (λ i y. IsPartialInjection (canonical_slots newer y.class) (canonical_slots newer i) y.pairs)
        (λ i h. partial-newer older newer x (entry_at found i).class i (entry_at found i).pairs (linked.in_range i h) h (linked.maps i h))
        (identity-partial S);
    live = by_entry (λ i y. y.class ≡ i → y.pairs ≡ identity (keys_of y.pairs)) linked.live (λ p. ap identity (sym (keys-identity S)));
    ends = by_entry (λ i y. IsLive entries y.class ⊎ (y.died < (entry_at entries y.class).died)) (λ i h. ends_at i (entry_at found i).class (linked.in_range i h) (linked.ends i h)) (inl new_lives);
  }

  -- the finds of the other classes stay
  chased-same : (n i : ℕ) → i < length older → chased entries n i ≡ chased found n i
  chased-same zero i h = λ k. (i, (at-old i h k).pairs)
  chased-same (suc n) i h =
      let c : ℕ = (entry_at found i).class in
      let m : List (ℕ × ℕ) = (entry_at found i).pairs in
      let e : chased entries n c ≡ chased found n c = chased-same n c (linked.in_range i h) in
      let p : chased entries (suc n) i ≡ ((chased entries n c).0, composite (chased entries n c).1 m) = λ k. ((chased entries n (at-old i h k).class).0, composite (chased entries n (at-old i h k).class).1 (at-old i h k).pairs) in
      p ∙ (λ k. ((e k).0, composite (e k).1 m))

  found-same : (i : ℕ) → i < length older → chased entries (moments entries) i ≡ chased found (moments found) i
  found-same i h = chased-same (moments entries) i h ∙ chased-enough older found (leads older found linked) (moments entries) i h (moments-append found (new_entry ∷ []))

  pub find_class-same : (i : ℕ) → i < length older → find_class entries i ≡ find_class found i
  find_class-same i h = ap (λ (a : Applied). a.0) (found-same i h)

  pub find_map-same : (i : ℕ) → i < length older → find_map entries i ≡ find_map found i
  find_map-same i h = ap (λ (a : Applied). a.1) (found-same i h)

  new_map : find_map entries (length found) ≡ identity S
  new_map = find_map-live newer entries new_leads (length found) new_in_range new_lives ∙ ap (λ (y : Entry). y.pairs) at-new

  pub linked-newer : Linked newer entries
  linked-newer = record {
    entries = new_leads.entries;
    in_range = new_leads.in_range;
    maps = new_leads.maps;
    live = new_leads.live;
    ends = new_leads.ends;
    uses = by_entry (λ i y. (s : ℕ) → Contains (values_of (find_map entries y.class)) s → Contains (keys_of y.pairs) s)
        (λ i h s d. linked.uses i h s (subst (λ (m : List (ℕ × ℕ)). Contains (values_of m) s) (find_map-same (entry_at found i).class (linked.in_range i h)) d))
        (λ s d. subst (λ L. Contains L s) (values-identity S ∙ sym (keys-identity S)) (subst (λ (m : List (ℕ × ℕ)). Contains (values_of m) s) new_map d));
  }

  pub valid-newer : (a : Applied) → IsValid (used_slots found) older a → IsValid (used_slots entries) newer a
  valid-newer a v = record {
    in_range = (x.classes a.0 v.in_range).0;
    ascending = v.ascending;
    injective = v.injective;
    has_slots = λ s d. v.has_slots s (subst (λ (m : List (ℕ × ℕ)). Contains (ascending (values_of m)) s) (find_map-same a.0 v.in_range) d);
    within = λ s d. subst (λ L. Contains L s) (sym (slots-same older newer x a.0 v.in_range)) (v.within s d);
  }

  pub find-same : (a : Applied) → IsValid (used_slots found) older a → find entries a ≡ find found a
  find-same a v i = (find_class-same a.0 v.in_range i, composite (find_map-same a.0 v.in_range i) a.1)

  pub later-newer : (moment : ℕ) → IsLater found moment → IsLater entries moment
  later-newer moment later i h = by_entry (λ k y. ¬ (y.class ≡ k) → y.died < moment)
      (λ k l d. later k (let m : length found ≡ length older = linked.entries in omega arith) d)
      (λ d. absurd (d refl))
      i (let m : length entries ≡ length newer = new_leads.entries in omega arith)

  pub exact-newer : (proofs : List ProofEntry) → proof < length proofs → equation_at proofs proof ≡ reflexive_equation newer (length older) → Exact older found proofs → Exact newer entries proofs
  exact-newer proofs h p exact = record {
    in_range = by_entry (λ i y. y.proof < length proofs) exact.in_range h;
    equations = by_entry (λ i y. equation_at proofs y.proof ≡ record { left = i; right = y.class; pairs = turned (canonical_slots newer i) y.pairs })
        (λ i k. exact.equations i k ∙ (λ j. record { left = i; right = (entry_at found i).class; pairs = turned (sym (slots-same older newer x i k) j) (entry_at found i).pairs }))
        (p ∙ ((λ j. reflexive_equation newer (sym linked.entries j)) ∙ (λ j. record { left = length found; right = length found; pairs = sym (turned-identity S S (identity-partial S)) j })));
  }

-- the equation of a class with itself is reflexive
pub reflexive-proved : (nodes : List DTerm) (i : ℕ) → i < length nodes → IsOver nodes (reflexive_equation nodes i) × IsReflexive nodes (reflexive_equation nodes i)
reflexive-proved nodes i h = (record { left = h; right = h; pairs = identity-partial (canonical_slots nodes i) }, (refl, refl))
