-- The id of a node or of a tree is exactly the full id that stands for it.
use Rattle.std.proofs.Common.{◌≡◌, ◌↔◌, ℕ, zero, suc, ◌<◌, List, [], ◌∷◌, Option, Some, None, length, get_or, true, false, cond, sym, ◌∙◌, ap, refl, subst, inl, inr, arith}
use Rattle.std.specs.Prelude.{option_map, option_and_then}
use Rattle.std.proofs.lemmas.Bool.{cases_Bool}
use Rattle.slotted_lists.proofs.Members.{In}
use Rattle.slotted_lists.proofs.Options.{Some-same}
use Rattle.slotted_theory.specs.Nameless.{DArgs, DTerm, stop, place, sub, scope, moved}
use Rattle.slotted_theory.specs.FiniteMaps.{filled}
use Rattle.slotted_theory.specs.Shape.{free_names, number_in, shape, SameUpToNames}
use Rattle.slotted_theory.proofs.Bijections.{to-injective}
use Rattle.slotted_theory.proofs.Shapes.{shape-moved, shape_iff}
use Rattle.slotted_theory.proofs.Filled.{filled-injective}
use Rattle.slotted_theory.proofs.Values.{node, child_before, expand_args, expand}
use Rattle.slotted_model.specs.Applied.{Applied, map_on, as_term, EachChild}
use Rattle.slotted_model.specs.Classes.{term_at, stands, terms, canonical_node, canonical_slots, term_of, layer_of, IsFull, Canonical}
use Rattle.slotted_model.specs.LookUp.{both, look_up_args}
use Rattle.slotted_model.specs.Ids.{term_eq, first_shaped, name_for, class_with_names, id_of_node, id_of}
use Rattle.slotted_model.proofs.Data.Sets.{IsAscending-ascending, In-ascending, In-of_ascending}
use Rattle.slotted_model.proofs.Data.Parts.{first_child}
use Rattle.slotted_model.proofs.Data.Options.{None-Some, option_map-some, option_map-none, and_then-some, both-some}
use Rattle.slotted_model.proofs.Data.Theory.{moved-agrees, free_names-moved, get_or-number_in, args_eq-true, args_eq-same}
use Rattle.slotted_model.proofs.Data.Maps.{keys-map_on, map_on-agrees, map_on-filled, filled-map_on, IsInjectiveMap-map_on}
use Rattle.slotted_model.proofs.Represented.Children.{EachChild-map, expand-child, expand-as_term}
use Rattle.slotted_model.proofs.Represented.Full.{full-ascending, full-children, term_of-layer}
use Rattle.slotted_model.proofs.Represented.Unique.{same_layers}

pub term_eq-true : (d e : DTerm) → term_eq d e ≡ true → d ≡ e
term_eq-true d e p = ap first_child (args_eq-true (child_before d stop) (child_before e stop) p)

pub term_eq-same : (d e : DTerm) → d ≡ e → term_eq d e ≡ true
term_eq-same d e p = ap (term_eq d) (sym p) ∙ args_eq-same (child_before d stop)

first_here : (s c : DTerm) (cs : List DTerm) → term_eq (shape c) s ≡ true → first_shaped s (c ∷ cs) ≡ Some 0
first_here s c cs e = ap (λ b. cond b (Some 0) (option_map suc (first_shaped s cs))) e

first_later : (s c : DTerm) (cs : List DTerm) → term_eq (shape c) s ≡ false → first_shaped s (c ∷ cs) ≡ option_map suc (first_shaped s cs)
first_later s c cs e = ap (λ b. cond b (Some 0) (option_map suc (first_shaped s cs))) e

-- the node that is found has the shape
shaped_at : (s : DTerm) (cs : List DTerm) (i : ℕ) → first_shaped s cs ≡ Some i → (i < length cs) × (shape (term_at cs i) ≡ s)
shaped_at s [] i p = absurd (None-Some i p)
shaped_at s (c ∷ cs) i p = elim (cases_Bool (term_eq (shape c) s)) [
  | inl t ↦
      let e : 0 ≡ i = Some-same 0 i (sym (first_here s c cs t) ∙ p) in
      subst (λ k. (k < length (c ∷ cs)) × (shape (term_at (c ∷ cs) k) ≡ s)) e (omega arith, term_eq-true (shape c) s t)
  | inr f ↦
      let r : (j : ℕ) × (first_shaped s cs ≡ Some j) × (suc j ≡ i) = option_map-some suc (first_shaped s cs) i (sym (first_later s c cs f) ∙ p) in
      let q : (r.0 < length cs) × (shape (term_at cs r.0) ≡ s) = shaped_at s cs r.0 r.1 in
      subst (λ k. (k < length (c ∷ cs)) × (shape (term_at (c ∷ cs) k) ≡ s)) r.2 (omega (arith, q.0), q.1)
]

-- the only node of the shape is found
first_shaped-at : (s : DTerm) (cs : List DTerm) (k : ℕ) → k < length cs → shape (term_at cs k) ≡ s → ((j : ℕ) → j < length cs → shape (term_at cs j) ≡ s → j ≡ k) → first_shaped s cs ≡ Some k
first_shaped-at s [] k l e one = absurd (omega arith)
first_shaped-at s (c ∷ cs) zero l e one = first_here s c cs (term_eq-same (shape c) s e)
first_shaped-at s (c ∷ cs) (suc k) l e one = elim (cases_Bool (term_eq (shape c) s)) [
  | inl t ↦ let z : 0 ≡ suc k = one 0 (omega arith) (term_eq-true (shape c) s t) in absurd (omega arith)
  | inr f ↦ first_later s c cs f ∙ ap (option_map suc) (first_shaped-at s cs k (omega arith) e (λ j h q. let z : suc j ≡ suc k = one (suc j) (omega arith) q in omega arith))
]

-- none is found exactly if no node has the shape
first_shaped-none : (s : DTerm) (cs : List DTerm) → first_shaped s cs ≡ None → (i : ℕ) → i < length cs → ¬ (shape (term_at cs i) ≡ s)
first_shaped-none s [] p i l e = omega arith
first_shaped-none s (c ∷ cs) p zero l e = None-Some 0 (sym p ∙ first_here s c cs (term_eq-same (shape c) s e))
first_shaped-none s (c ∷ cs) p (suc i) l e = elim (cases_Bool (term_eq (shape c) s)) [
  | inl t ↦ None-Some 0 (sym p ∙ first_here s c cs t)
  | inr f ↦ first_shaped-none s cs (option_map-none suc (first_shaped s cs) (sym (first_later s c cs f) ∙ p)) i (omega arith) e
]

none-first_shaped : (s : DTerm) (cs : List DTerm) → ((i : ℕ) → i < length cs → ¬ (shape (term_at cs i) ≡ s)) → first_shaped s cs ≡ None
none-first_shaped s [] n = refl
none-first_shaped s (c ∷ cs) n = elim (cases_Bool (term_eq (shape c) s)) [
  | inl t ↦ absurd (n 0 (omega arith) (term_eq-true (shape c) s t))
  | inr f ↦ first_later s c cs f ∙ ap (option_map suc) (none-first_shaped s cs (λ i l e. n (suc i) (omega arith) e))
]

-- what f moves c to has f x where c has x first
pub name_for-moved : (f : ℕ → ℕ) (c d : DTerm) → moved f c ≡ d → (x : ℕ) → In x (free_names c.args) → name_for c d x ≡ f x
name_for-moved f c d e x h =
    ap (λ ns. get_or ns (number_in (free_names c.args) x) 0) (ap (λ (t : DTerm). free_names t.args) (sym e) ∙ free_names-moved f c.args)
    ∙ get_or-number_in f (free_names c.args) x h

-- a node that is looked up is the canonical node with the names of a full id
abbrev pub Stands : List DTerm → DTerm → Applied → Type 0
Stands nodes d a = IsFull nodes a × (moved (filled a.1) (canonical_node nodes a.0) ≡ d)

pub class-stands : (nodes : List DTerm) (d : DTerm) (i : ℕ) → i < length nodes → SameUpToNames (canonical_node nodes i) d → Stands nodes d (class_with_names nodes d i)
class-stands nodes d i l s =
    let c : DTerm = canonical_node nodes i in
    let agree : (x : ℕ) → In x (canonical_slots nodes i) → name_for c d x ≡ s.0.to x = λ x h. name_for-moved s.0.to c d s.1 x (In-of_ascending x (free_names c.args) h) in (
      record {
        in_range = l;
        slots = keys-map_on (name_for c d) (canonical_slots nodes i);
        injective = IsInjectiveMap-map_on (name_for c d) (canonical_slots nodes i) (λ x y h k p. to-injective s.0 x y (sym (agree x h) ∙ (p ∙ agree y k))) (IsAscending-ascending (free_names c.args));
      },
      moved-agrees (filled (map_on (name_for c d) (canonical_slots nodes i))) s.0.to c
          (λ x h. filled-map_on (name_for c d) (canonical_slots nodes i) x (In-ascending x (free_names c.args) h) ∙ agree x (In-ascending x (free_names c.args) h))
          ∙ s.1,
    )

pub id_of_node-some : (nodes : List DTerm) (d : DTerm) (a : Applied) → id_of_node nodes d ≡ Some a → Stands nodes d a
id_of_node-some nodes d a p =
    let r : (i : ℕ) × (first_shaped (shape d) nodes ≡ Some i) × (class_with_names nodes d i ≡ a) = option_map-some (class_with_names nodes d) (first_shaped (shape d) nodes) a p in
    let q : (r.0 < length nodes) × (shape (canonical_node nodes r.0) ≡ shape d) = shaped_at (shape d) nodes r.0 r.1 in
    subst (Stands nodes d) r.2 (class-stands nodes d r.0 q.0 ((shape_iff (canonical_node nodes r.0) d).0 q.1))

pub id_of_node-full : (nodes : List DTerm) → Canonical nodes → (a : Applied) → IsFull nodes a → id_of_node nodes (moved (filled a.1) (canonical_node nodes a.0)) ≡ Some a
id_of_node-full nodes can a full =
    let c : DTerm = canonical_node nodes a.0 in
    let d : DTerm = moved (filled a.1) c in
    let same : shape d ≡ shape c = shape-moved (filled a.1) (filled-injective a.1 full.injective) c in
    let found : first_shaped (shape d) nodes ≡ Some a.0 =
    first_shaped-at (shape d) nodes a.0 full.in_range (sym same) (λ j h q. can.shapes j a.0 h full.in_range (q ∙ same)) in
    let m : map_on (name_for c d) (canonical_slots nodes a.0) ≡ a.1 =
    map_on-agrees (name_for c d) (filled a.1) (canonical_slots nodes a.0) (λ x h. name_for-moved (filled a.1) c d refl x (In-of_ascending x (free_names c.args) h))
    ∙ (ap (map_on (filled a.1)) (sym full.slots) ∙ map_on-filled a.1 (full-ascending nodes a full)) in
    ap (option_map (class_with_names nodes d)) found ∙ (λ i. Some (a.0, m i))

-- the id of a node over full ids is the full id that stands for it
pub id_of_node-iff : (nodes : List DTerm) → Canonical nodes → (d : DTerm) → EachChild (IsFull nodes) d.args → (a : Applied) → (id_of_node nodes d ≡ Some a) ↔ (IsFull nodes a × (term_of nodes a ≡ layer_of nodes d))
id_of_node-iff nodes can d c a = (
  λ p.
      let r : Stands nodes d a = id_of_node-some nodes d a p in
      (r.0, term_of-layer nodes can a r.0 ∙ ap (layer_of nodes) r.1),
  λ h.
      let e : DTerm = moved (filled a.1) (canonical_node nodes a.0) in
      let full : EachChild (IsFull nodes) e.args = EachChild-map (λ b. (b.0 < a.0) × IsFull nodes b) (IsFull nodes) (λ b k. k.1) e.args (full-children nodes can a h.0) in
      let q : e ≡ d = same_layers nodes can e d full c (sym (term_of-layer nodes can a h.0) ∙ h.1) in
      ap (id_of_node nodes) (sym q) ∙ id_of_node-full nodes can a h.0,
)

pub id_of_node-none : (nodes : List DTerm) (d : DTerm) → (id_of_node nodes d ≡ None) ↔ ((i : ℕ) → i < length nodes → ¬ (shape (canonical_node nodes i) ≡ shape d))
id_of_node-none nodes d = (
  λ p. first_shaped-none (shape d) nodes (option_map-none (class_with_names nodes d) (first_shaped (shape d) nodes) p),
  λ n. ap (option_map (class_with_names nodes d)) (none-first_shaped (shape d) nodes n),
)

-- arguments over full ids that stand for these arguments
abbrev StandForArgs : List DTerm → DArgs → DArgs → Type 0
StandForArgs nodes d e = EachChild (IsFull nodes) e × (expand_args (stands (terms nodes)) e ≡ d)

-- the answer for a node over what its children's look-ups answered
node_found : (nodes : List DTerm) → Canonical nodes → (op : ℕ) (payloads : List (List ℕ)) (args found : DArgs) (a : Applied) → StandForArgs nodes args found → id_of_node nodes (node op payloads found) ≡ Some a → IsFull nodes a × (term_of nodes a ≡ node op payloads args)
node_found nodes can op payloads args found a s p =
    let r : Stands nodes (node op payloads found) a = id_of_node-some nodes (node op payloads found) a p in
    (r.0, term_of-layer nodes can a r.0 ∙ (ap (layer_of nodes) r.1 ∙ ap (node op payloads) s.1))

look_up_args-some : (nodes : List DTerm) → Canonical nodes → (d e : DArgs) → look_up_args (id_of_node nodes) d ≡ Some e → StandForArgs nodes d e
look_up_args-some nodes can stop e p = subst (StandForArgs nodes stop) (Some-same stop e p) (tt, refl)
look_up_args-some nodes can (place x rest) e p =
    let r : (f : DArgs) × (look_up_args (id_of_node nodes) rest ≡ Some f) × (place x f ≡ e) = option_map-some (place x) (look_up_args (id_of_node nodes) rest) e p in
    let s : StandForArgs nodes rest r.0 = look_up_args-some nodes can rest r.0 r.1 in
    subst (StandForArgs nodes (place x rest)) r.2 (s.0, ap (place x) s.1)
look_up_args-some nodes can (sub op payloads args rest) e p =
    let look : DArgs → Option Applied = λ found. id_of_node nodes (node op payloads found) in
    let r : (a : Applied) × (f : DArgs) × (option_and_then look (look_up_args (id_of_node nodes) args) ≡ Some a) × (look_up_args (id_of_node nodes) rest ≡ Some f) × (child_before (as_term a) f ≡ e) =
    both-some (λ a found. child_before (as_term a) found) (option_and_then look (look_up_args (id_of_node nodes) args)) (look_up_args (id_of_node nodes) rest) e p in
    let q : (b : DArgs) × (look_up_args (id_of_node nodes) args ≡ Some b) × (look b ≡ Some r.0) = and_then-some look (look_up_args (id_of_node nodes) args) r.0 r.2 in
    let n : IsFull nodes r.0 × (term_of nodes r.0 ≡ node op payloads args) = node_found nodes can op payloads args q.0 r.0 (look_up_args-some nodes can args q.0 q.1) q.2 in
    let s : StandForArgs nodes rest r.1 = look_up_args-some nodes can rest r.1 r.3 in
    let t : expand (stands (terms nodes)) (as_term r.0) ≡ node op payloads args = expand-as_term (terms nodes) r.0 ∙ n.1 in
    subst (StandForArgs nodes (sub op payloads args rest)) r.4 (((r.0, refl, n.0), s.0), λ i. child_before (t i) (s.1 i))
look_up_args-some nodes can (scope inner rest) e p =
    let r : (a : DArgs) × (f : DArgs) × (look_up_args (id_of_node nodes) inner ≡ Some a) × (look_up_args (id_of_node nodes) rest ≡ Some f) × (scope a f ≡ e) = both-some scope (look_up_args (id_of_node nodes) inner) (look_up_args (id_of_node nodes) rest) e p in
    let s : StandForArgs nodes inner r.0 = look_up_args-some nodes can inner r.0 r.2 in
    let t : StandForArgs nodes rest r.1 = look_up_args-some nodes can rest r.1 r.3 in
    subst (StandForArgs nodes (scope inner rest)) r.4 ((s.0, t.0), λ i. scope (s.1 i) (t.1 i))

id_of-some : (nodes : List DTerm) → Canonical nodes → (t : DTerm) (a : Applied) → id_of nodes t ≡ Some a → IsFull nodes a × (term_of nodes a ≡ t)
id_of-some nodes can t a p =
    let look : DArgs → Option Applied = λ found. id_of_node nodes (node t.op t.payloads found) in
    let q : (b : DArgs) × (look_up_args (id_of_node nodes) t.args ≡ Some b) × (look b ≡ Some a) = and_then-some look (look_up_args (id_of_node nodes) t.args) a p in
    node_found nodes can t.op t.payloads t.args q.0 a (look_up_args-some nodes can t.args q.0 q.1) q.2

-- the look-up of what arguments over ids stand for, if each id is found by its term
look_up_args-expand : (nodes : List DTerm) (P : Applied → Type 0) → ((a : Applied) → P a → id_of nodes (term_of nodes a) ≡ Some a) → (d : DArgs) → EachChild P d → look_up_args (id_of_node nodes) (expand_args (stands (terms nodes)) d) ≡ Some d
look_up_args-expand nodes P one stop c = refl
look_up_args-expand nodes P one (place x rest) c = ap (option_map (place x)) (look_up_args-expand nodes P one rest c)
look_up_args-expand nodes P one (sub op payloads args rest) c =
    let d : DTerm = node op payloads args in
    let w : id_of nodes (expand (stands (terms nodes)) d) ≡ Some c.0.0 = ap (id_of nodes) (expand-child (terms nodes) P d c.0) ∙ one c.0.0 c.0.2 in
    (λ i. both (λ a found. child_before (as_term a) found) (w i) (look_up_args-expand nodes P one rest c.1 i)) ∙ (λ i. Some (child_before (sym c.0.1 i) rest))
look_up_args-expand nodes P one (scope inner rest) c =
    λ i. both scope (look_up_args-expand nodes P one inner c.0 i) (look_up_args-expand nodes P one rest c.1 i)

id_of-below : (nodes : List DTerm) → Canonical nodes → (n : ℕ) (a : Applied) → a.0 < n → IsFull nodes a → id_of nodes (term_of nodes a) ≡ Some a
id_of-below nodes can zero a h full = absurd (omega arith)
id_of-below nodes can (suc n) a h full =
    let d : DTerm = moved (filled a.1) (canonical_node nodes a.0) in
    let w : look_up_args (id_of_node nodes) (layer_of nodes d).args ≡ Some d.args =
    look_up_args-expand nodes (λ x. (x.0 < a.0) × IsFull nodes x) (λ x k. id_of-below nodes can n x (omega (arith, k.0)) k.1) d.args (full-children nodes can a full) in
    ap (id_of nodes) (term_of-layer nodes can a full)
    ∙ (ap (option_and_then (λ found. id_of_node nodes (node d.op d.payloads found))) w ∙ id_of_node-full nodes can a full)

-- the look-up of a tree answers exactly the full id that stands for it
pub id_of-iff : (nodes : List DTerm) → Canonical nodes → (t : DTerm) (a : Applied) → (id_of nodes t ≡ Some a) ↔ (IsFull nodes a × (term_of nodes a ≡ t))
id_of-iff nodes can t a = (id_of-some nodes can t a, λ h. ap (id_of nodes) (sym h.1) ∙ id_of-below nodes can (suc a.0) a (omega arith) h.0)
