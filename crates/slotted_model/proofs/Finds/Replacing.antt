-- A live class gets another entry: finds go on from what was found before, and what was found alike is found alike.
use Rattle.std.proofs.Common.{◌≡◌, ◌≢◌, ℕ, ◌<◌, List, [], length, set, sym, ◌∙◌, ap, subst, inl, inr, arith, length-set}
use Rattle.std.specs.Prelude.{Contains, ◌⊎◌}
use Rattle.std.specs.Map.{keys_of, values_of}
use Rattle.std.proofs.lemmas.Bool.{cases_eq}
use Rattle.std.proofs.lemmas.List.{get_or-set_same, get_or-set_other}
use Rattle.slotted_theory.specs.Nameless.{DTerm}
use Rattle.slotted_model.specs.Applied.{Applied, keys, values}
use Rattle.slotted_model.specs.Classes.{canonical_slots}
use Rattle.slotted_model.specs.Correspondence.{composite, turned, identity, IsPartialInjection}
use Rattle.slotted_model.specs.Filling.{IsValid}
use Rattle.slotted_model.specs.Find.{Entry, entry_at, IsLive, find_class, find_map, used_slots, find, Linked}
use Rattle.slotted_model.specs.ProofList.{ProofEntry, equation_at, Exact}
use Rattle.slotted_model.specs.Link.{IsLater, Refines}
use Rattle.slotted_model.proofs.Correspondences.Pairs.{Contains-value, Contains-of_value}
use Rattle.slotted_model.proofs.Correspondences.PartialInjections.{composite-over, composite-composite, composite-identity, identity-pair}
use Rattle.slotted_model.proofs.Correspondences.FullMaps.{full-partial}
use Rattle.slotted_model.proofs.Finds.Finding.{Leads, leads, live-twice, along, find_class-follows, find_map-follows, find_class-live, find_map-live, found-in_range, find_map-partial}
use Rattle.slotted_model.proofs.Finds.NormalIds.{used-live, used-by, of_used, valid-map, found-valid}

-- the newer find of each class factors through the older one
pub record Factors (nodes : List DTerm) (older newer : List Entry) (i : ℕ) : Type 0 where
  pub class : find_class newer i ≡ find_class newer (find_class older i)
  pub map : find_map newer i ≡ composite (find_map newer (find_class older i)) (find_map older i)

-- then the newer find goes on from what the older one found
pub refines_from : (nodes : List DTerm) (older newer : List Entry) → Linked nodes older → Leads nodes newer → ((i : ℕ) → i < length nodes → Factors nodes older newer i) → Refines nodes older newer
refines_from nodes older newer linked new factors a v =
    let i : ℕ = a.0 in
    let c : ℕ = find_class older i in
    let hc : c < length nodes = found-in_range nodes older (leads nodes older linked) i v.in_range in
    let f : Factors nodes older newer i = factors i v.in_range in
    let known : (s : ℕ) → Contains (values_of (find_map older i)) s → Contains (keys a.1) s = λ s d. v.has_slots s (used-by older i s d) in
    let fewer : (s : ℕ) → Contains (values_of (find_map newer i)) s → Contains (values_of (find_map older i)) s =
    λ s d.
    let r = Contains-of_value (find_map newer i) s d in
    let k = composite-over (find_map newer c) (find_map older i) r.0 s (subst (λ m. Contains m (r.0, s)) f.map r.1) in
    Contains-value (find_map older i) k.0 s k.2 in
    let old : IsPartialInjection (canonical_slots nodes c) (canonical_slots nodes i) (find_map older i) = find_map-partial nodes older (leads nodes older linked) i v.in_range in
    let old_keys : IsPartialInjection (canonical_slots nodes c) (keys a.1) (find_map older i) = record { in_order = old.in_order; within = λ s t d. known t (Contains-value (find_map older i) s t d); injective = old.injective } in
    let names : IsPartialInjection (keys a.1) (values a.1) a.1 = full-partial (keys a.1) (values a.1) a.1 (valid-map nodes older linked a v) (λ s x d. Contains-value a.1 s x d) in
    let e : composite (find_map newer i) a.1 ≡ composite (find_map newer c) (composite (find_map older i) a.1) =
    ap (λ m. composite m a.1) f.map
    ∙ composite-composite (canonical_slots nodes (find_class newer c)) (canonical_slots nodes c) (keys a.1) (values a.1) (find_map newer c) (find_map older i) a.1 (find_map-partial nodes newer new c hc) old_keys names in (
      record {
        in_range = v.in_range;
        ascending = v.ascending;
        injective = v.injective;
        has_slots = λ s d. known s (fewer s (of_used newer i s d));
        within = v.within;
      },
      λ k. (f.class k, e k),
    )

-- what was found alike is found alike
pub refined-alike : (nodes : List DTerm) (older newer : List Entry) → Refines nodes older newer → (a b : Applied) → IsValid (used_slots older) nodes a → IsValid (used_slots older) nodes b → find older a ≡ find older b → find newer a ≡ find newer b
refined-alike nodes older newer r a b v w e = (r a v).1 ∙ (ap (find newer) e ∙ sym (r b w).1)

-- one event after another
pub refines-then : (nodes : List DTerm) (f g h : List Entry) → Linked nodes f → Refines nodes f g → Refines nodes g h → Refines nodes f h
refines-then nodes f g h linked r s a v =
    let va : IsValid (used_slots g) nodes a = (r a v).0 in
    let vf : IsValid (used_slots g) nodes (find f a) = (r (find f a) (found-valid nodes f linked a v)).0 in
    ((s a va).0, (s a va).1 ∙ (ap (find h) (r a v).1 ∙ sym (s (find f a) vf).1))

-- the entry can take the place of that of the live class c: it leads to c itself, with some of its slots, or to another live class, with all its slots
pub record CanReplace (nodes : List DTerm) (found : List Entry) (c : ℕ) (x : Entry) : Type 0 where
  pub in_range : c < length nodes
  pub lives : IsLive found c
  pub class_in_range : x.class < length nodes
  pub partial : IsPartialInjection (canonical_slots nodes x.class) (canonical_slots nodes c) x.pairs
  pub stays : x.class ≡ c → x.pairs ≡ identity (keys_of x.pairs)
  pub leads_on : (x.class ≡ c) ⊎ ((x.class ≢ c) × IsLive found x.class × IsLater found x.died)
  pub from : (t : ℕ) → Contains (values_of x.pairs) t → Contains (used_slots found c) t
  pub onto : (s : ℕ) → x.class ≢ c → Contains (used_slots found x.class) s → Contains (keys_of x.pairs) s

values-identity : (S : List ℕ) (s : ℕ) → Contains (values_of (identity S)) s → Contains S s
values-identity S s c = let r = Contains-of_value (identity S) s c in let p = identity-pair S r.0 s r.1 in subst (Contains S) p.1 p.0

module _ (nodes : List DTerm) (found : List Entry) (linked : Linked nodes found) (c : ℕ) (x : Entry) (can : CanReplace nodes found c x) where
  abbrev newer : List Entry
  newer = set found c x

  abbrev old_leads : Leads nodes found
  old_leads = leads nodes found linked

  abbrev none : Entry
  none = record { class = 0; pairs = []; proof = 0; died = 0 }

  pub at-replaced : entry_at newer c ≡ x
  at-replaced = get_or-set_same found c x none (let l : length found ≡ length nodes = linked.entries in let h : c < length nodes = can.in_range in omega arith)

  pub at-other : (i : ℕ) → i ≢ c → entry_at newer i ≡ entry_at found i
  at-other i n = get_or-set_other found c i x none n

  -- what holds of the new entry and of all others holds of the entries
  pub by_entry : (P : ℕ → Entry → Type 0) → P c x → ((i : ℕ) → i ≢ c → P i (entry_at found i)) → (i : ℕ) → P i (entry_at newer i)
  by_entry P h k i = elim (cases_eq i c) [
    | inl p ↦ subst (λ j. P j (entry_at newer j)) (sym p) (subst (P c) (sym at-replaced) h)
    | inr n ↦ subst (P i) (sym (at-other i n)) (k i n)
  ]

  pub live-stays : (i : ℕ) → i ≢ c → IsLive found i → IsLive newer i
  live-stays i n l = ap (λ (y : Entry). y.class) (at-other i n) ∙ l

  stays-live : x.class ≡ c → IsLive newer c
  stays-live p = ap (λ (y : Entry). y.class) at-replaced ∙ p

  ends_at : (i : ℕ) → i < length nodes → i ≢ c → IsLive newer (entry_at found i).class ⊎ ((entry_at found i).died < (entry_at newer (entry_at found i).class).died)
  ends_at i h n = elim (cases_eq (entry_at found i).class c) [
    | inl p ↦ elim can.leads_on [
      | inl q ↦ inl (subst (IsLive newer) (sym p) (stays-live q))
      | inr q ↦
          let m : (entry_at found i).died < x.died = q.2 i (let l : length found ≡ length nodes = linked.entries in omega arith) (λ l. n (sym l ∙ p)) in
          inr (subst (λ d. (entry_at found i).died < d) (sym (ap (λ j. (entry_at newer j).died) p ∙ ap (λ (y : Entry). y.died) at-replaced)) m)
    ]
    | inr o ↦ elim (linked.ends i h) [
      | inl q ↦ inl (live-stays (entry_at found i).class o q)
      | inr q ↦ inr (subst (λ (y : Entry). (entry_at found i).died < y.died) (sym (at-other (entry_at found i).class o)) q)
    ]
  ]

  leads-to_live : IsLive newer x.class
  leads-to_live = elim can.leads_on [
    | inl q ↦ subst (IsLive newer) (sym q) (stays-live q)
    | inr q ↦ live-stays x.class q.0 q.1
  ]

  pub new_leads : Leads nodes newer
  new_leads = record {
    entries = length-set found c x ∙ linked.entries;
    in_range = by_entry (λ i y. i < length nodes → y.class < length nodes) (λ h. can.class_in_range) (λ i n h. linked.in_range i h);
    maps = by_entry (λ i y. i < length nodes → IsPartialInjection (canonical_slots nodes y.class) (canonical_slots nodes i) y.pairs) (λ h. can.partial) (λ i n h. linked.maps i h);
    live = by_entry (λ i y. i < length nodes → y.class ≡ i → y.pairs ≡ identity (keys_of y.pairs)) (λ h p. can.stays p) (λ i n h p. linked.live i h p);
    ends = by_entry (λ i y. i < length nodes → IsLive newer y.class ⊎ (y.died < (entry_at newer y.class).died))
        (λ h. inl leads-to_live)
        (λ i n h. ends_at i h n);
  }

  -- the find of the class goes over the new entry
  pub replaced-class : find_class newer c ≡ find_class newer x.class
  replaced-class = find_class-follows nodes newer new_leads c can.in_range ∙ ap (λ (y : Entry). find_class newer y.class) at-replaced

  pub replaced-map : find_map newer c ≡ composite (find_map newer x.class) x.pairs
  replaced-map = find_map-follows nodes newer new_leads c can.in_range ∙ (λ i. composite (find_map newer (at-replaced i).class) (at-replaced i).pairs)

  -- so it uses only slots that were used
  replaced-used : (s t : ℕ) → Contains (find_map newer c) (s, t) → Contains (keys_of (entry_at found c).pairs) t
  replaced-used s t d =
      let r = composite-over (find_map newer x.class) x.pairs s t (subst (λ m. Contains m (s, t)) replaced-map d) in
      subst (λ S. Contains S t) (used-live nodes found linked c can.in_range can.lives) (can.from t (Contains-value x.pairs r.0 t r.2))

  replaced-neutral : composite (find_map newer c) (entry_at found c).pairs ≡ find_map newer c
  replaced-neutral =
      let S : List ℕ = keys_of (entry_at found c).pairs in
      let P : List ℕ = canonical_slots nodes (find_class newer c) in
      let m : IsPartialInjection P (canonical_slots nodes c) (find_map newer c) = find_map-partial nodes newer new_leads c can.in_range in
      ap (composite (find_map newer c)) (linked.live c can.in_range can.lives)
      ∙ composite-identity P S (find_map newer c) (record { in_order = m.in_order; within = replaced-used; injective = m.injective })

  factors-live : (i : ℕ) → i < length nodes → IsLive found i → find_map newer i ≡ composite (find_map newer i) (entry_at found i).pairs
  factors-live i h l = elim (cases_eq i c) [
    | inl p ↦ subst (λ j. find_map newer j ≡ composite (find_map newer j) (entry_at found j).pairs) (sym p) (sym replaced-neutral)
    | inr n ↦
        let same : find_map newer i ≡ (entry_at found i).pairs = find_map-live nodes newer new_leads i h (live-stays i n l) ∙ ap (λ (y : Entry). y.pairs) (at-other i n) in
        same ∙ (sym (live-twice nodes found old_leads i h l) ∙ ap (λ m. composite m (entry_at found i).pairs) (sym same))
  ]

  pub replaced-factors : (i : ℕ) → i < length nodes → Factors nodes found newer i
  replaced-factors = along nodes found old_leads (Factors nodes found newer)
      (λ i h l. record {
        class = ap (find_class newer) (sym (find_class-live nodes found old_leads i h l));
        map = factors-live i h l ∙ (λ k. composite (find_map newer (sym (find_class-live nodes found old_leads i h l) k)) (sym (find_map-live nodes found old_leads i h l) k));
      })
      (λ i h d f.
      let j : ℕ = (entry_at found i).class in
      let r : ℕ = find_class found j in
      let hj : j < length nodes = linked.in_range i h in
      let n : i ≢ c = λ p. d (subst (IsLive found) (sym p) can.lives) in
      let m : List (ℕ × ℕ) = (entry_at found i).pairs in
      record {
        class = find_class-follows nodes newer new_leads i h ∙ (ap (λ (y : Entry). find_class newer y.class) (at-other i n) ∙ (f.class ∙ ap (find_class newer) (sym (find_class-follows nodes found old_leads i h))));
        map = find_map-follows nodes newer new_leads i h
            ∙ ((λ k. composite (find_map newer (at-other i n k).class) (at-other i n k).pairs)
            ∙ (ap (λ y. composite y m) f.map
            ∙ (composite-composite (canonical_slots nodes (find_class newer r)) (canonical_slots nodes r) (canonical_slots nodes j) (canonical_slots nodes i) (find_map newer r) (find_map found j) m
            (find_map-partial nodes newer new_leads r (found-in_range nodes found old_leads j hj)) (find_map-partial nodes found old_leads j hj) (linked.maps i h)
            ∙ (λ k. composite (find_map newer (sym (find_class-follows nodes found old_leads i h) k)) (sym (find_map-follows nodes found old_leads i h) k)))));
      })

  -- the new entry knows what the next find uses
  replaced-uses : (s : ℕ) → Contains (values_of (find_map newer x.class)) s → Contains (keys_of x.pairs) s
  replaced-uses s d = elim can.leads_on [
    | inl q ↦
        let e : find_map newer x.class ≡ identity (keys_of x.pairs) = ap (find_map newer) q ∙ (find_map-live nodes newer new_leads c can.in_range (stays-live q) ∙ (ap (λ (y : Entry). y.pairs) at-replaced ∙ can.stays q)) in
        values-identity (keys_of x.pairs) s (subst (λ (m : List (ℕ × ℕ)). Contains (values_of m) s) e d)
    | inr q ↦
        let e : find_map newer x.class ≡ find_map found x.class =
        find_map-live nodes newer new_leads x.class can.class_in_range (live-stays x.class q.0 q.1) ∙ (ap (λ (y : Entry). y.pairs) (at-other x.class q.0) ∙ sym (find_map-live nodes found old_leads x.class can.class_in_range q.1)) in
        can.onto s q.0 (used-by found x.class s (subst (λ (m : List (ℕ × ℕ)). Contains (values_of m) s) e d))
  ]

  -- the entries lead on as before
  pub replaced-linked : Linked nodes newer
  replaced-linked = record {
    entries = new_leads.entries;
    in_range = new_leads.in_range;
    maps = new_leads.maps;
    live = new_leads.live;
    ends = new_leads.ends;
    uses = by_entry (λ i y. i < length nodes → (s : ℕ) → Contains (values_of (find_map newer y.class)) s → Contains (keys_of y.pairs) s)
        (λ h. replaced-uses)
        (λ i n h s d.
        let j : ℕ = (entry_at found i).class in
        let r = Contains-of_value (find_map newer j) s d in
        let k = composite-over (find_map newer (find_class found j)) (find_map found j) r.0 s (subst (λ m. Contains m (r.0, s)) (replaced-factors j (linked.in_range i h)).map r.1) in
        linked.uses i h s (Contains-value (find_map found j) k.0 s k.2));
  }

  pub replaced-refines : Refines nodes found newer
  replaced-refines = refines_from nodes found newer linked new_leads replaced-factors

  -- the new entry says what its proof proves
  pub replaced-exact : (proofs : List ProofEntry) → x.proof < length proofs → equation_at proofs x.proof ≡ record { left = c; right = x.class; pairs = turned (canonical_slots nodes c) x.pairs } → Exact nodes found proofs → Exact nodes newer proofs
  replaced-exact proofs h p exact = record {
    in_range = by_entry (λ i y. i < length nodes → y.proof < length proofs) (λ k. h) (λ i n k. exact.in_range i k);
    equations = by_entry (λ i y. i < length nodes → equation_at proofs y.proof ≡ record { left = i; right = y.class; pairs = turned (canonical_slots nodes i) y.pairs })
        (λ k. p)
        (λ i n k. exact.equations i k);
  }
