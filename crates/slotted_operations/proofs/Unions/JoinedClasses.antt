-- Of two classes that a union makes one, the ids that were united find alike, whichever symmetries are open.
use Rattle.std.proofs.Common.{◌≡◌, ◌≢◌, ◌<◌, ℕ, List, length, sym, ◌∙◌, subst}
use Rattle.std.specs.Map.{keys_of}
use Rattle.slotted_model.specs.Applied.{Applied}
use Rattle.slotted_model.specs.Changes.{GoesOn, Unites, found_entry, with_proofs}
use Rattle.slotted_model.specs.Changes.{finds_alike, proves, drops_left, drops_right, left_dies, right_dies, lists, is_listed}
use Rattle.slotted_model.specs.Classes.{IsFull}
use Rattle.slotted_model.specs.Find.{Linked, find, find_class}
use Rattle.slotted_model.specs.Link.{CanDrop, CanLink, IsLater, found_equation, with_link, with_slots}
use Rattle.slotted_model.specs.ProofList.{Equation, equation_at, equation_of, turned_equation}
use Rattle.slotted_model.specs.Rest.{Sane}
use Rattle.slotted_model.specs.State.{State}
use Rattle.slotted_model.proofs.Rebuilding.Events.{drop-sane}
use Rattle.slotted_model.proofs.Rebuilding.FoundEntries.{says-turned}
use Rattle.slotted_model.proofs.Rebuilding.GrowingLists.{proofs-go_on, proofs-sane}
use Rattle.slotted_model.proofs.Rebuilding.Unions.{can_drop-left, can_drop-right, can_link-left, can_link-right}
use Rattle.slotted_model.proofs.Finds.Uniting.{linked-alike}
use Rattle.slotted_rebuilding.proofs.JoinedClasses.{drop-class}

-- the sides of an equation find different classes
abbrev FindsTwo : State → Equation → Type 0
FindsTwo g e = find_class g.found e.left ≢ find_class g.found e.right

-- a class that drops slots joins no two classes
drop-apart : (g : State) → Sane g → (c : ℕ) (slots : List ℕ) (n : ℕ) → CanDrop g.nodes g.found c slots → (i j : ℕ) → i < length g.nodes → j < length g.nodes →
    find_class g.found i ≢ find_class g.found j → find_class (with_slots g.found c slots n) i ≢ find_class (with_slots g.found c slots n) j
drop-apart g sane c slots n can i j hi hj differ same =
    let links : Linked g.nodes g.found = sane.sound.linked in
    differ (sym (drop-class g.nodes g.found links c slots n can i hi) ∙ (same ∙ drop-class g.nodes g.found links c slots n can j hj))

module _ (g : State) (sane : Sane g) (a b : Applied) (fa : IsFull g.nodes a) (fb : IsFull g.nodes b) (n moment : ℕ) (later : IsLater g.found moment) where
  abbrev links : Linked g.nodes g.found
  links = sane.sound.linked

  abbrev G : Equation → Equation
  G e = found_equation g.nodes g.found e

  abbrev AlikeBy : Equation → Type 0
  AlikeBy z = find (with_link g.nodes g.found z n moment) a ≡ find (with_link g.nodes g.found z n moment) b

  -- after a link the sides find alike
  linked-sides : (e : Equation) → equation_of a b ≡ e → CanLink g.nodes g.found (G e) → AlikeBy (G e)
  linked-sides e q = subst (λ x. CanLink g.nodes g.found (G x) → AlikeBy (G x)) q (λ c. linked-alike g.nodes g.found links a b fa fb n moment c later)

  linked-back : (e : Equation) → equation_of a b ≡ e → CanLink g.nodes g.found (turned_equation g.nodes (G e)) → AlikeBy (turned_equation g.nodes (G e))
  linked-back e q =
      subst (λ x. CanLink g.nodes g.found (turned_equation g.nodes (G x)) → AlikeBy (turned_equation g.nodes (G x))) q
      (subst (λ z. CanLink g.nodes g.found z → AlikeBy z) (sym (says-turned g.nodes g.found links a b fa fb))
      (λ c. sym (linked-alike g.nodes g.found links b a fb fa n moment c later)))

-- the union by an entry whose sides find different classes
pub united-alike : (p : ℕ) {g h : State} → Unites p g h → Sane g → p < length g.proofs → FindsTwo g (equation_at g.proofs p) →
    (a b : Applied) → IsFull g.nodes a → IsFull g.nodes b → equation_of a b ≡ equation_at g.proofs p → find h.found a ≡ find h.found b
united-alike p (finds_alike l i) sane k differ a b fa fb q = absurd (differ l)
united-alike p (proves {g = g} {h = h} proofs grow u) sane k differ a b fa fb q =
    let on : GoesOn g (with_proofs g proofs) = proofs-go_on g sane proofs grow in
    let same : equation_at proofs p ≡ equation_at g.proofs p = (on.proofs p k).1 in
    united-alike p u (proofs-sane g sane proofs grow) (on.proofs p k).0 (subst (FindsTwo g) (sym same) differ) a b fa fb (q ∙ sym same)
united-alike p (drops_left {g = g} {h = h} n s w used lacks at t u) sane k differ a b fa fb q =
    let c : ℕ = (found_entry g p).left in
    let kept : List ℕ = keys_of (found_entry g p).pairs in
    let can = can_drop-left g sane p k in
    let e : Equation = equation_at g.proofs p in
    let over = sane.sound.proved.over p k in
    united-alike p u (drop-sane g sane c kept n can at.0 at.1 w t) k (drop-apart g sane c kept n can e.left e.right over.left over.right differ) a b fa fb q
united-alike p (drops_right {g = g} {h = h} n x w all used lacks at t u) sane k differ a b fa fb q =
    let c : ℕ = (found_entry g p).right in
    let kept : List ℕ = keys_of (turned_equation g.nodes (found_entry g p)).pairs in
    let can = can_drop-right g sane p k in
    let e : Equation = equation_at g.proofs p in
    let over = sane.sound.proved.over p k in
    united-alike p u (drop-sane g sane c kept n can at.0 at.1 w t) k (drop-apart g sane c kept n can e.left e.right over.left over.right differ) a b fa fb q
united-alike p (left_dies {g = g} n moment w differ' all at later t) sane k differ a b fa fb q =
    linked-sides g sane a b fa fb n moment later (equation_at g.proofs p) q (can_link-left g sane p k differ' all)
united-alike p (right_dies {g = g} n moment w differ' all at later t) sane k differ a b fa fb q =
    linked-back g sane a b fa fb n moment later (equation_at g.proofs p) q (can_link-right g sane p k differ' all)
united-alike p (lists n same all moves new at) sane k differ a b fa fb q = absurd (differ same)
united-alike p (is_listed y same all c is) sane k differ a b fa fb q = absurd (differ same)
