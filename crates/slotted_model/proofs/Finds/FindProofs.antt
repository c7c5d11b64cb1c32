-- Find proofs: what a find says is proved along its entries, and two ids that find alike are joined by one transitive step.
use Rattle.std.proofs.Common.{◌≡◌, ℕ, ◌<◌, List, [], length, sym, ◌∙◌, ap, refl, subst, get_or}
use Rattle.std.specs.Prelude.{Contains, map}
use Rattle.slotted_lists.proofs.Contained.{Contains-get_or}
use Rattle.slotted_theory.specs.Term.{Term}
use Rattle.slotted_theory.specs.Nameless.{DTerm, nameless}
use Rattle.slotted_theory.specs.Derives.{Derives, Equal, listed, nameless_pair}
use Rattle.slotted_theory.proofs.Backward.{Equal-derives}
use Rattle.slotted_model.specs.Applied.{Applied}
use Rattle.slotted_model.specs.Classes.{canonical_slots, term_of, IsFull, Canonical}
use Rattle.slotted_model.specs.Correspondence.{same_names, composite, turned, IsPartialInjection, CanJoin, IsNumberedForm}
use Rattle.slotted_model.specs.Filling.{IsValid, IsFilling}
use Rattle.slotted_model.specs.Find.{Entry, entry_at, IsLive, find_class, find_map, used_slots, find, Linked}
use Rattle.slotted_model.specs.Leaves.{HasLeaves}
use Rattle.slotted_model.specs.ProofList.{Equation, ProofEntry, explicit, equation_of, turned_equation, IsOver, HoldsFrom, IsTransitive, equation_at, step_at, Proved, left_side, right_side, term_pair, if_explicit, asserted, entry_equation, find_equation, Exact}
use Rattle.slotted_model.proofs.Correspondences.Pairs.{Contains-filter_map}
use Rattle.slotted_model.proofs.Correspondences.PartialInjections.{turned-partial, turned-turned, turned-composite}
use Rattle.slotted_model.proofs.Correspondences.FullIds.{slots-different, full_map, full_id}
use Rattle.slotted_model.proofs.Correspondences.Joining.{composite-can_join, bridge}
use Rattle.slotted_model.proofs.Correspondences.Numbers.{numbered-form}
use Rattle.slotted_model.proofs.Finds.Steps.{Equal-between, one_is_enough, symmetric-sound, transitive-sound}
use Rattle.slotted_model.proofs.Finds.Leaves.{leaf-explicit, leaves-hold}
use Rattle.slotted_model.proofs.Finds.Finding.{Leads, leads, along, find_class-follows, find_map-follows, find_class-live, find_map-live, found-in_range, find_map-partial}
use Rattle.slotted_model.proofs.Finds.NormalIds.{filling-found}

-- the two sides of an equation are full ids with this equation
pub sides-form : (nodes : List DTerm) (e : Equation) → IsOver nodes e → IsNumberedForm (canonical_slots nodes e.left) (canonical_slots nodes e.right) e.pairs (left_side nodes e).1 (right_side nodes e).1
sides-form nodes e o = numbered-form (canonical_slots nodes e.left) (canonical_slots nodes e.right) e.pairs (slots-different nodes e.left) (slots-different nodes e.right) o.pairs

pub left_side-full : (nodes : List DTerm) (e : Equation) → IsOver nodes e → IsFull nodes (left_side nodes e)
left_side-full nodes e o = full_id nodes e.left (left_side nodes e).1 o.left (sides-form nodes e o).left

pub right_side-full : (nodes : List DTerm) (e : Equation) → IsOver nodes e → IsFull nodes (right_side nodes e)
right_side-full nodes e o = full_id nodes e.right (right_side nodes e).1 o.right (sides-form nodes e o).right

pub sides-equation : (nodes : List DTerm) (e : Equation) → IsOver nodes e → equation_of (left_side nodes e) (right_side nodes e) ≡ e
sides-equation nodes e o = λ i. record { left = e.left; right = e.right; pairs = (sides-form nodes e o).correspondence i }

-- an equation holds if the pair of the terms of its sides is listed
pub listed-holds : (E : List (DTerm × DTerm)) (nodes : List DTerm) → Canonical nodes → (e : Equation) → IsOver nodes e → Contains E (term_pair nodes e) → HoldsFrom E nodes e
listed-holds E nodes can e o c = one_is_enough E nodes can e (left_side nodes e) (right_side nodes e) (left_side-full nodes e o) (right_side-full nodes e o) (sides-equation nodes e o) (listed c)

-- each entry of a proved list holds, if the explicit ones do
pub entry-holds : (E : List (DTerm × DTerm)) (nodes : List DTerm) → Canonical nodes → (proofs : List ProofEntry) → Proved nodes proofs → ((p : ℕ) → p < length proofs → step_at proofs p ≡ explicit → HoldsFrom E nodes (equation_at proofs p)) → (p : ℕ) → p < length proofs → HoldsFrom E nodes (equation_at proofs p)
entry-holds E nodes can proofs proved explicit_hold p h = leaves-hold E nodes can proofs proved p h (λ q l. explicit_hold q (leaf-explicit l).0 (leaf-explicit l).1)

-- an entry of a proved list holds from each list that has its leaves
pub leaves-enough : (E : List (DTerm × DTerm)) (nodes : List DTerm) → Canonical nodes → (proofs : List ProofEntry) → Proved nodes proofs → (p : ℕ) → p < length proofs → HasLeaves E nodes proofs p → HoldsFrom E nodes (equation_at proofs p)
leaves-enough E nodes can proofs proved p h has = leaves-hold E nodes can proofs proved p h (λ q l. listed-holds E nodes can (equation_at proofs q) (proved.over q (leaf-explicit l).0) (has q l))

-- the pair of an explicit entry is asserted
pub asserted-contains : (nodes : List DTerm) (proofs : List ProofEntry) (p : ℕ) → p < length proofs → step_at proofs p ≡ explicit → Contains (asserted nodes proofs) (term_pair nodes (equation_at proofs p))
asserted-contains nodes proofs p h e =
    Contains-filter_map (λ (entry : ProofEntry). if_explicit entry.step (term_pair nodes entry.equation)) proofs
    (get_or proofs p (record { equation = record { left = 0; right = 0; pairs = [] }; step = explicit }))
    (term_pair nodes (equation_at proofs p))
    (Contains-get_or proofs p (record { equation = record { left = 0; right = 0; pairs = [] }; step = explicit }) h)
    (ap (λ s. if_explicit s (term_pair nodes (equation_at proofs p))) e)

-- so the asserted list has the leaves of each entry
pub asserted-leaves : (nodes : List DTerm) (proofs : List ProofEntry) (p : ℕ) → HasLeaves (asserted nodes proofs) nodes proofs p
asserted-leaves nodes proofs p q l = asserted-contains nodes proofs q (leaf-explicit l).0 (leaf-explicit l).1

-- each entry of a proved list holds from the asserted list
pub proved-holds : (nodes : List DTerm) → Canonical nodes → (proofs : List ProofEntry) → Proved nodes proofs → (p : ℕ) → p < length proofs → HoldsFrom (asserted nodes proofs) nodes (equation_at proofs p)
proved-holds nodes can proofs proved p h = leaves-enough (asserted nodes proofs) nodes can proofs proved p h (asserted-leaves nodes proofs p)

-- what a find says
module _ (nodes : List DTerm) (found : List Entry) (linked : Linked nodes found) where
  abbrev L : Leads nodes found
  L = leads nodes found linked

  pub entry_equation-over : (i : ℕ) → i < length nodes → IsOver nodes (entry_equation nodes found i)
  entry_equation-over i h = record {
    left = h;
    right = linked.in_range i h;
    pairs = turned-partial (canonical_slots nodes (entry_at found i).class) (canonical_slots nodes i) (entry_at found i).pairs (linked.maps i h);
  }

  pub find_equation-over : (i : ℕ) → i < length nodes → IsOver nodes (find_equation nodes found i)
  find_equation-over i h = record {
    left = h;
    right = found-in_range nodes found L i h;
    pairs = turned-partial (canonical_slots nodes (find_class found i)) (canonical_slots nodes i) (find_map found i) (find_map-partial nodes found L i h);
  }

  -- of a live class it is what its entry says
  pub find_equation-live : (i : ℕ) → i < length nodes → IsLive found i → find_equation nodes found i ≡ entry_equation nodes found i
  find_equation-live i h l = λ k. record {
    left = i;
    right = (find_class-live nodes found L i h l ∙ sym l) k;
    pairs = turned (canonical_slots nodes i) (find_map-live nodes found L i h l k);
  }

  -- and in general the composite of what the entry says and what the next find says
  pub find_equation-composite : (i : ℕ) → i < length nodes → (find_equation nodes found i).pairs ≡ composite (entry_equation nodes found i).pairs (find_equation nodes found (entry_at found i).class).pairs
  find_equation-composite i h =
      let j : ℕ = (entry_at found i).class in
      ap (turned (canonical_slots nodes i)) (find_map-follows nodes found L i h)
      ∙ turned-composite (canonical_slots nodes (find_class found j)) (canonical_slots nodes j) (canonical_slots nodes i) (find_map found j) (entry_at found i).pairs (find_map-partial nodes found L j (linked.in_range i h)) (linked.maps i h)

  pub find_equation-follows : (i : ℕ) → i < length nodes → IsTransitive (find_equation nodes found i) (entry_equation nodes found i) (find_equation nodes found (entry_at found i).class)
  find_equation-follows i h = record {
    left = refl;
    middle = refl;
    right = sym (find_class-follows nodes found L i h);
    joins = subst (λ A. CanJoin A (entry_equation nodes found i).pairs (find_equation nodes found (entry_at found i).class).pairs) (sym (find_equation-composite i h))
        (composite-can_join (entry_equation nodes found i).pairs (find_equation nodes found (entry_at found i).class).pairs);
  }

  -- two full ids that find alike are joined by one transitive step over what their finds say
  pub found_alike-join : (a b : Applied) → IsFull nodes a → IsFull nodes b → find found a ≡ find found b → IsTransitive (equation_of a b) (find_equation nodes found a.0) (turned_equation nodes (find_equation nodes found b.0))
  found_alike-join a b fa fb e =
      let c : ℕ = find_class found a.0 in
      let same : find_class found b.0 ≡ c = sym (ap (λ (x : Applied). x.0) e) in
      let S : List ℕ = canonical_slots nodes c in
      let P : List ℕ = canonical_slots nodes a.0 in
      let Q : List ℕ = canonical_slots nodes b.0 in
      let φ : List (ℕ × ℕ) = find_map found a.0 in
      let ψ : List (ℕ × ℕ) = find_map found b.0 in
      let ib : IsPartialInjection (canonical_slots nodes (find_class found b.0)) Q ψ = find_map-partial nodes found L b.0 fb.in_range in
      let back : turned (canonical_slots nodes (find_class found b.0)) (turned Q ψ) ≡ ψ = turned-turned (canonical_slots nodes (find_class found b.0)) Q ψ ib in
      record {
        left = refl;
        middle = sym same;
        right = refl;
        joins = subst (λ A. CanJoin (same_names a.1 b.1) (turned P φ) A) (sym back)
            (bridge S P Q φ ψ a.1 b.1 (find_map-partial nodes found L a.0 fa.in_range) (subst (λ i. IsPartialInjection (canonical_slots nodes i) Q ψ) same ib) (full_map nodes a fa) (full_map nodes b fb) (ap (λ (x : Applied). x.1) e));
      }

-- what a find says holds, if the find entries hold
module _ (E : List (DTerm × DTerm)) (nodes : List DTerm) (found : List Entry) (linked : Linked nodes found)
    (entries_hold : (i : ℕ) → i < length nodes → HoldsFrom E nodes (entry_equation nodes found i)) where
  pub find_equation-holds : (i : ℕ) → i < length nodes → HoldsFrom E nodes (find_equation nodes found i)
  find_equation-holds = along nodes found (leads nodes found linked) (λ i. HoldsFrom E nodes (find_equation nodes found i))
      (λ i h l. subst (HoldsFrom E nodes) (sym (find_equation-live nodes found linked i h l)) (entries_hold i h))
      (λ i h d p.
      let j : ℕ = (entry_at found i).class in
      transitive-sound E nodes (find_equation nodes found i) (entry_equation nodes found i) (find_equation nodes found j) (entry_equation-over nodes found linked i h) (find_equation-over nodes found linked j (linked.in_range i h)) (find_equation-follows nodes found linked i h) (entries_hold i h) p)

  pub full-found_alike : (a b : Applied) → IsFull nodes a → IsFull nodes b → find found a ≡ find found b → Equal E (term_of nodes a) (term_of nodes b)
  full-found_alike a b fa fb e =
      let f : Equation = find_equation nodes found a.0 in
      let g : Equation = find_equation nodes found b.0 in
      let og : IsOver nodes g = find_equation-over nodes found linked b.0 fb.in_range in
      let turned_over : IsOver nodes (turned_equation nodes g) = record { left = og.right; right = og.left; pairs = turned-partial (canonical_slots nodes g.left) (canonical_slots nodes g.right) g.pairs og.pairs } in
      let turned_holds : HoldsFrom E nodes (turned_equation nodes g) =
      symmetric-sound E nodes (turned_equation nodes g) g
      (λ i. record { left = g.left; right = g.right; pairs = sym (turned-turned (canonical_slots nodes g.left) (canonical_slots nodes g.right) g.pairs og.pairs) i })
      (find_equation-holds b.0 fb.in_range) in
      transitive-sound E nodes (equation_of a b) f (turned_equation nodes g) (find_equation-over nodes found linked a.0 fa.in_range) turned_over (found_alike-join nodes found linked a b fa fb e) (find_equation-holds a.0 fa.in_range) turned_holds
      a b fa fb (λ i. equation_of a b)

-- find entries with exact proofs of a proved list hold
pub exact-holds : (nodes : List DTerm) → Canonical nodes → (found : List Entry) (proofs : List ProofEntry) → Proved nodes proofs → Exact nodes found proofs → (i : ℕ) → i < length nodes → HoldsFrom (asserted nodes proofs) nodes (entry_equation nodes found i)
exact-holds nodes can found proofs proved exact i h = subst (HoldsFrom (asserted nodes proofs) nodes) (exact.equations i h) (proved-holds nodes can proofs proved (entry_at found i).proof (exact.in_range i h))

-- ids that find alike stand for equal terms, by whichever names they are filled
pub found_alike-equal : (nodes : List DTerm) → Canonical nodes → (found : List Entry) (proofs : List ProofEntry) → Linked nodes found → Proved nodes proofs → Exact nodes found proofs → (a b left right : Applied) (given more_given : List ℕ) → IsValid (used_slots found) nodes a → IsValid (used_slots found) nodes b → find found a ≡ find found b → IsFilling nodes given a left → IsFilling nodes more_given b right → Equal (asserted nodes proofs) (term_of nodes left) (term_of nodes right)
found_alike-equal nodes can found proofs linked proved exact a b left right given more_given va vb e fl fr =
    full-found_alike (asserted nodes proofs) nodes found linked (exact-holds nodes can found proofs proved exact) left right fl.full fr.full
    (sym (filling-found nodes found linked given a left va fl) ∙ (e ∙ filling-found nodes found linked more_given b right vb fr))

-- and for terms with names: they are derivable
pub found_alike-derivable : (nodes : List DTerm) → Canonical nodes → (found : List Entry) (proofs : List ProofEntry) → Linked nodes found → Proved nodes proofs → Exact nodes found proofs → (a b left right : Applied) (given more_given : List ℕ) → IsValid (used_slots found) nodes a → IsValid (used_slots found) nodes b → find found a ≡ find found b → IsFilling nodes given a left → IsFilling nodes more_given b right → (E : List (Term × Term)) (t u : Term) → map nameless_pair E ≡ asserted nodes proofs → nameless t ≡ term_of nodes left → nameless u ≡ term_of nodes right → Derives E t u
found_alike-derivable nodes can found proofs linked proved exact a b left right given more_given va vb e fl fr E t u listed_as et eu =
    Equal-derives t u (Equal-between et eu
    (subst (λ (F : List (DTerm × DTerm)). Equal F (term_of nodes left) (term_of nodes right)) (sym listed_as) (found_alike-equal nodes can found proofs linked proved exact a b left right given more_given va vb e fl fr)))
