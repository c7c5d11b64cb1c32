-- An entry that leads at once to what is found changes no find.
use Rattle.std.proofs.Common.{◌≡◌, ◌≢◌, ℕ, ◌<◌, List, [], length, sym, ◌∙◌, ap, subst, inl, inr, arith, length-set}
use Rattle.std.specs.Prelude.{Contains, ◌⊎◌}
use Rattle.std.specs.Map.{keys_of, values_of}
use Rattle.std.proofs.lemmas.Bool.{cases_eq}
use Rattle.std.proofs.lemmas.List.{get_or-set_same, get_or-set_other}
use Rattle.slotted_theory.specs.Nameless.{DTerm}
use Rattle.slotted_model.specs.Applied.{Applied}
use Rattle.slotted_model.specs.Classes.{canonical_slots}
use Rattle.slotted_model.specs.Correspondence.{composite, identity, turned, IsPartialInjection}
use Rattle.slotted_model.specs.Find.{Entry, entry_at, IsLive, find_class, find_map, find, Linked}
use Rattle.slotted_model.specs.ProofList.{ProofEntry, equation_at, find_equation, Exact}
use Rattle.slotted_model.specs.Link.{IsLater, with_shortcut}
use Rattle.slotted_model.specs.Sound.{Sound}
use Rattle.slotted_model.proofs.Correspondences.PartialInjections.{identity-composite}
use Rattle.slotted_model.proofs.Correspondences.FullMaps.{full-partial}
use Rattle.slotted_model.proofs.Correspondences.Pairs.{Contains-value}
use Rattle.slotted_model.proofs.Finds.Finding.{Leads, leads, along, find_class-follows, find_map-follows, find_class-live, find_map-live, found-in_range, found-live, find_map-partial, found_keys, find_map-full}
use Rattle.slotted_model.proofs.Finds.NormalIds.{values-identity}

module _ (nodes : List DTerm) (found : List Entry) (linked : Linked nodes found) (i : ℕ) (proof : ℕ) (hi : i < length nodes) (dead : IsLive found i → ⊥) where
  abbrev newer : List Entry
  newer = with_shortcut found i proof

  abbrev L : Leads nodes found
  L = leads nodes found linked

  abbrev c : ℕ
  c = find_class found i

  abbrev shortcut : Entry
  shortcut = record { class = c; pairs = find_map found i; proof = proof; died = (entry_at found i).died }

  abbrev none : Entry
  none = record { class = 0; pairs = []; proof = 0; died = 0 }

  at-here : entry_at newer i ≡ shortcut
  at-here = get_or-set_same found i shortcut none (let l : length found ≡ length nodes = linked.entries in omega arith)

  at-other : (k : ℕ) → k ≢ i → entry_at newer k ≡ entry_at found k
  at-other k n = get_or-set_other found i k shortcut none n

  by_entry : (P : ℕ → Entry → Type 0) → P i shortcut → ((k : ℕ) → k ≢ i → P k (entry_at found k)) → (k : ℕ) → P k (entry_at newer k)
  by_entry P h f k = elim (cases_eq k i) [
    | inl p ↦ subst (λ j. P j (entry_at newer j)) (sym p) (subst (P i) (sym at-here) h)
    | inr n ↦ subst (P k) (sym (at-other k n)) (f k n)
  ]

  live-elsewhere : (k : ℕ) → IsLive found k → k ≢ i
  live-elsewhere k l p = dead (subst (IsLive found) p l)

  live-stays : (k : ℕ) → IsLive found k → IsLive newer k
  live-stays k l = ap (λ (y : Entry). y.class) (at-other k (live-elsewhere k l)) ∙ l

  c-in_range : c < length nodes
  c-in_range = found-in_range nodes found L i hi

  c-lives : IsLive found c
  c-lives = found-live nodes found L i hi

  -- moments of death are what they were
  died-same : (k : ℕ) → (entry_at newer k).died ≡ (entry_at found k).died
  died-same k = by_entry (λ j y. y.died ≡ (entry_at found j).died) (λ m. (entry_at found i).died) (λ j n m. (entry_at found j).died) k

  ends_at : (k d : ℕ) → IsLive found d ⊎ ((entry_at found k).died < (entry_at found d).died) → IsLive newer d ⊎ ((entry_at found k).died < (entry_at newer d).died)
  ends_at k d (inl l) = inl (live-stays d l)
  ends_at k d (inr l) = inr (subst (λ m. (entry_at found k).died < m) (sym (died-same d)) l)

  pub new_leads : Leads nodes newer
  new_leads = record {
    entries = length-set found i shortcut ∙ linked.entries;
    in_range = by_entry (λ k y. k < length nodes → y.class < length nodes) (λ h. c-in_range) (λ k n h. linked.in_range k h);
    maps = by_entry (λ k y. k < length nodes → IsPartialInjection (canonical_slots nodes y.class) (canonical_slots nodes k) y.pairs) (λ h. find_map-partial nodes found L i hi) (λ k n h. linked.maps k h);
    live = by_entry (λ k y. k < length nodes → y.class ≡ k → y.pairs ≡ identity (keys_of y.pairs)) (λ h p. absurd (live-elsewhere c c-lives p)) (λ k n h p. linked.live k h p);
    ends = by_entry (λ k y. k < length nodes → IsLive newer y.class ⊎ (y.died < (entry_at newer y.class).died)) (λ h. inl (live-stays c c-lives)) (λ k n h. ends_at k (entry_at found k).class (linked.ends k h));
  }

  live-class : (k : ℕ) → k < length nodes → IsLive found k → find_class newer k ≡ k
  live-class k h l = find_class-live nodes newer new_leads k h (live-stays k l)

  live-map : (k : ℕ) → k < length nodes → IsLive found k → find_map newer k ≡ (entry_at found k).pairs
  live-map k h l = find_map-live nodes newer new_leads k h (live-stays k l) ∙ ap (λ (y : Entry). y.pairs) (at-other k (live-elsewhere k l))

  -- before what is found nothing more happens
  found-neutral : composite (entry_at found c).pairs (find_map found i) ≡ find_map found i
  found-neutral =
      let K : List ℕ = found_keys nodes found linked i in
      let m : List (ℕ × ℕ) = find_map found i in
      ap (λ y. composite y m) (linked.live c c-in_range c-lives)
      ∙ identity-composite K (values_of m) m (full-partial K (values_of m) m (find_map-full nodes found linked i hi) (λ s x d. Contains-value m s x d))

  abbrev Same : ℕ → Type 0
  Same k = (find_class newer k ≡ find_class found k) × (find_map newer k ≡ find_map found k)

  same-here : Same i
  same-here = (
    find_class-follows nodes newer new_leads i hi ∙ (ap (λ (y : Entry). find_class newer y.class) at-here ∙ live-class c c-in_range c-lives),
    find_map-follows nodes newer new_leads i hi
        ∙ ((λ k. composite (find_map newer (at-here k).class) (at-here k).pairs)
        ∙ (ap (λ m. composite m (find_map found i)) (live-map c c-in_range c-lives) ∙ found-neutral)),
  )

  same-other : (k : ℕ) → k < length nodes → k ≢ i → Same (entry_at found k).class → Same k
  same-other k h n s = (
    find_class-follows nodes newer new_leads k h ∙ (ap (λ (y : Entry). find_class newer y.class) (at-other k n) ∙ (s.0 ∙ sym (find_class-follows nodes found L k h))),
    find_map-follows nodes newer new_leads k h
        ∙ ((λ j. composite (find_map newer (at-other k n j).class) (at-other k n j).pairs)
        ∙ (ap (λ m. composite m (entry_at found k).pairs) s.1 ∙ sym (find_map-follows nodes found L k h))),
  )

  -- what the find of a class was, it is
  pub shortcut-same : (k : ℕ) → k < length nodes → Same k
  shortcut-same = along nodes found L Same
      (λ k h l. (live-class k h l ∙ sym (find_class-live nodes found L k h l), live-map k h l ∙ sym (find_map-live nodes found L k h l)))
      (λ k h d s. elim (cases_eq k i) [
        | inl p ↦ subst Same (sym p) same-here
        | inr n ↦ same-other k h n s
      ])

  pub shortcut-find : (a : Applied) → a.0 < length nodes → find newer a ≡ find found a
  shortcut-find a h k = ((shortcut-same a.0 h).0 k, composite ((shortcut-same a.0 h).1 k) a.1)

  pub shortcut-linked : Linked nodes newer
  shortcut-linked = record {
    entries = new_leads.entries;
    in_range = new_leads.in_range;
    maps = new_leads.maps;
    live = new_leads.live;
    ends = new_leads.ends;
    uses = by_entry (λ k y. k < length nodes → (s : ℕ) → Contains (values_of (find_map newer y.class)) s → Contains (keys_of y.pairs) s)
        (λ h s d.
        let K : List ℕ = found_keys nodes found linked i in
        let e : find_map newer c ≡ identity K = live-map c c-in_range c-lives ∙ linked.live c c-in_range c-lives in
        let k : Contains K s = subst (λ S. Contains S s) (values-identity K) (subst (λ (m : List (ℕ × ℕ)). Contains (values_of m) s) e d) in
        subst (λ S. Contains S s) (sym (find_map-full nodes found linked i hi).slots) k)
        (λ k n h s d. linked.uses k h s (subst (λ (m : List (ℕ × ℕ)). Contains (values_of m) s) (shortcut-same (entry_at found k).class (linked.in_range k h)).1 d));
  }

  shortcut-exact : (proofs : List ProofEntry) → proof < length proofs → equation_at proofs proof ≡ find_equation nodes found i → Exact nodes found proofs → Exact nodes newer proofs
  shortcut-exact proofs h p exact = record {
    in_range = by_entry (λ k y. k < length nodes → y.proof < length proofs) (λ m. h) (λ k n m. exact.in_range k m);
    equations = by_entry (λ k y. k < length nodes → equation_at proofs y.proof ≡ record { left = k; right = y.class; pairs = turned (canonical_slots nodes k) y.pairs }) (λ m. p) (λ k n m. exact.equations k m);
  }

  pub shortcut-later : (moment : ℕ) → IsLater found moment → IsLater newer moment
  shortcut-later moment later j h = by_entry (λ k y. k < length nodes → ¬ (y.class ≡ k) → y.died < moment)
      (λ k d. later i (let m : length found ≡ length nodes = linked.entries in omega arith) dead)
      (λ k n l d. later k (let m : length found ≡ length nodes = linked.entries in omega arith) d)
      j (let m : length newer ≡ length nodes = shortcut-linked.entries in omega arith)

pub shortcut-sound : (nodes : List DTerm) (found : List Entry) (proofs : List ProofEntry) (i proof : ℕ) → Sound nodes found proofs → i < length nodes → (IsLive found i → ⊥) → proof < length proofs → equation_at proofs proof ≡ find_equation nodes found i → Sound nodes (with_shortcut found i proof) proofs
shortcut-sound nodes found proofs i proof s hi dead h p = record {
  canonical = s.canonical;
  linked = shortcut-linked nodes found s.linked i proof hi dead;
  proved = s.proved;
  exact = shortcut-exact nodes found s.linked i proof hi dead proofs h p s.exact;
}
