-- What stays as slots are taken, and as entries are added.
use Rattle.std.proofs.Common.{◌≡◌, ◌<◌, ◌∙◌, ℕ, length, ap, refl, subst, sym}
use Rattle.std.specs.Coded.{Coded}
use Rattle.std.specs.Prelude.{All, Result, Ok, Err, OnOk}
use Rattle.slotted_slots.specs.Table.{KnowsMore, Table}
use Rattle.slotted_nodes.specs.Form.{Form}
use Rattle.slotted_model.specs.Classes.{IsFull}
use Rattle.slotted_model_symmetries.specs.Deciding.{IsDecided}
use Rattle.slotted_classes.specs.ChildIds.{child_ids}
use Rattle.slotted_classes.specs.Kept.{nodes_of}
use Rattle.slotted_operations.specs.Canonical.{IsNodeOf}
use Rattle.slotted_operations.specs.Explaining.{AddsTerms, KeepsClasses}
use Rattle.slotted_operations.specs.Graph.{Graph, OnlyTakesSlots}
use Rattle.slotted_operations.specs.Image.{Image, asserted_in, found_id}
use Rattle.slotted_operations.specs.LookUp.{look_up}
use Rattle.slotted_graph.specs.States.{IsGraph}
use Rattle.slotted_graph.proofs.Extending.{extends-added, extends-itself, extends-takes, extends-then}
use Rattle.slotted_deciding.specs.Equality.{EqualUpTo, IsDecidedGraph, IsTwist}
use Rattle.slotted_deciding.specs.Settling.{ClassIsSettled, IsLookedUpAs, child_at, with_child_at}
use Rattle.slotted_data.specs.Meaning.{IsMergeOf, Meaning}
use Rattle.slotted_graph.specs.Analysed.{LowersData}
use Rattle.slotted_graph.proofs.Saying.{lowers-itself, lowers-same, lowers-then}
use Rattle.slotted_graph.proofs.StatesLater.{state-takes, graph-takes}
use Rattle.slotted_deciding.specs.Steps.{GoesTo, LeadsTo}
use Rattle.slotted_deciding.proofs.Settled.{settled-decided}

-- a decided graph stays so if it only takes slots
pub decided-takes : (g h : Graph) → OnlyTakesSlots g h → IsDecidedGraph g → IsDecidedGraph h
decided-takes g h takes (x, is, decided) = (x, state-takes g h x is takes, decided)

pub takes-itself : (g : Graph) → OnlyTakesSlots g g
takes-itself g = record { reads = record { image = refl; filed = refl; part = refl; failed = refl; more = λ s k. k }; names = refl }

-- a class stays settled where only slots are taken
pub class-later : (g h : Graph) (i : ℕ) → h.image ≡ g.image → h.filed ≡ g.filed → ClassIsSettled g i → ClassIsSettled h i
class-later g h i image filed c = record {
  id = c.id;
  node = c.node;
  class = c.class;
  full = subst (λ (x : Image). IsFull x.canonical c.id) (sym image) c.full;
  is_node = subst (λ (x : Image). IsNodeOf x.canonical c.id c.node) (sym image) c.is_node;
  fits = c.fits;
  children_full = subst (λ (x : Image). All (IsFull x.canonical) (child_ids c.node)) (sym image) c.children_full;
  settled = λ k l d t.
      let f : Form = with_child_at c.node k d in
      let r : IsLookedUpAs g c.id f = c.settled k l d (subst (λ (x : Image). IsTwist x (found_id x (child_at c.node k)) d) image t) in
      record {
        answer = r.answer;
        looked_up = (λ j. look_up (record h { image = image j; filed = filed j }) f) ∙ r.looked_up;
        equal = subst (λ (x : Image). EqualUpTo x r.answer c.id) (sym image) r.equal;
      };
}

-- where only slots are taken nothing is asserted
pub goes-takes : (g h : Graph) → IsGraph g → OnlyTakesSlots g h → GoesTo g h
goes-takes g h is takes = record { graph = graph-takes g h is takes; extends = extends-takes g h takes; asserted = ap asserted_in takes.reads.image }

pub goes-itself : (g : Graph) → IsGraph g → GoesTo g g
goes-itself g is = record { graph = is; extends = extends-itself g; asserted = refl }

pub goes-then : (f g h : Graph) → GoesTo f g → GoesTo g h → GoesTo f h
goes-then f g h d e = record { graph = e.graph; extends = extends-then f g h d.extends e.extends; asserted = e.asserted ∙ d.asserted }

-- entries that assert nothing
pub goes-adds : (g h : Graph) → IsGraph h → AddsTerms g.image h.image → KnowsMore g.table h.table → GoesTo g h
goes-adds g h is adds more = record { graph = is; extends = extends-added g h adds.extends adds.adds more; asserted = adds.adds.asserted }

-- a settled graph is decided
pub all-decided : (g : Graph) → IsGraph g → ((i : ℕ) → i < length g.image.canonical → ClassIsSettled g i) → IsDecidedGraph g
all-decided g is settled =
    let s = is.is_state in
    let each : (i : ℕ) → i < length (nodes_of s.kept) → ClassIsSettled g i =
    λ i l. settled i (subst (λ (x : Image). i < length x.canonical) s.image l) in
    (is.state, s, subst IsDecided (sym s.state) (settled-decided s.kept s.rows s.good s.rests g s.image s.filed each))

-- what holds of each result does so of the good ones
pub on_ok : {A E : Type 0} (r : Result A E) {P : Type 0} → P → OnOk r P
on_ok (Ok x) p = p
on_ok (Err e) p = tt

pub on_ok_by : {A E : Type 0} (r : Result A E) {P Q : Type 0} → (P → Q) → OnOk r P → OnOk r Q
on_ok_by (Ok x) f p = f p
on_ok_by (Err e) f p = tt

-- an explanation of two ids enters proofs alone
pub goes-explained : (g h : Graph) → IsGraph h → KeepsClasses g h → AddsTerms g.image h.image → GoesTo g h
goes-explained g h is keeps adds = goes-adds g h is adds (subst (λ (t : Table). KnowsMore g.table t) (sym keeps.table) (λ s k. k))

module _ {N D : Type 0} (codes : Coded N × Coded D) (meaning : N → Meaning D) where
  pub leads-goes : (g h : Graph) → LeadsTo codes meaning g h → GoesTo g h
  leads-goes g h l = record { graph = l.graph; extends = l.extends; asserted = l.asserted }

  pub leads-with : (g h : Graph) → GoesTo g h → LowersData codes meaning g h → LeadsTo codes meaning g h
  leads-with g h goes lowers = record { graph = goes.graph; extends = goes.extends; asserted = goes.asserted; lowers = lowers }

  module _ (law : (n : N) → IsMergeOf (meaning n)) where
    pub leads-takes : (g h : Graph) → IsGraph g → OnlyTakesSlots g h → LeadsTo codes meaning g h
    leads-takes g h is takes = leads-with g h (goes-takes g h is takes) (lowers-same codes meaning law g h (goes-takes g h is takes).extends.canonical (ap (λ (x : Image). x.found) takes.reads.image) takes.reads.part)

    pub leads-then : (f g h : Graph) → LeadsTo codes meaning f g → LeadsTo codes meaning g h → LeadsTo codes meaning f h
    leads-then f g h d e = leads-with f h (goes-then f g h (leads-goes f g d) (leads-goes g h e)) (lowers-then codes meaning law f g h d.extends d.lowers e.lowers)

    pub leads-itself : (g : Graph) → IsGraph g → LeadsTo codes meaning g g
    leads-itself g is = leads-with g g (goes-itself g is) (lowers-itself codes meaning law g)
