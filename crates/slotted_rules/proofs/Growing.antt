-- One part built after another is built, and taking slots and adding a node build.
use Rattle.std.proofs.Common.{◌∙◌, ap, refl, subst, inl, inr}
use Rattle.std.specs.Prelude.{◌⊎◌, IsTrue}
use Rattle.slotted_slots.specs.Table.{KnowsMore}
use Rattle.slotted_model.specs.Applied.{Applied}
use Rattle.slotted_model.specs.Classes.{Canonical}
use Rattle.slotted_model.specs.Growth.{Extends}
use Rattle.slotted_graph.specs.Graph.{Graph, IsFullId, OnlyTakesSlots}
use Rattle.slotted_graph.specs.Image.{AddsClasses, Image, asserted_in}
use Rattle.slotted_graph.specs.States.{IsGraph}
use Rattle.slotted_graph.specs.Extension.{ExtendsTo}
use Rattle.slotted_graph.proofs.Extending.{extends-itself, extends-then, extends-takes, extends-added, full-extends}
use Rattle.slotted_graph.proofs.StatesLater.{graph-takes}
use Rattle.slotted_rules.specs.Building.{Grows, Builds}

pub graph-canonical : (g : Graph) → IsGraph g → Canonical g.image.canonical
graph-canonical g h = subst (λ (x : Image). Canonical x.canonical) h.is_state.image h.is_state.good.stored.sane.sound.canonical

pub builds-itself : (g : Graph) → IsGraph g → Builds g g
builds-itself g is = record { grows = record { graph = is; extends = extends-itself g }; asserts = refl }

pub builds-then : (f g h : Graph) → Builds f g → Builds g h → Builds f h
builds-then f g h b c = record {
  grows = record { graph = c.grows.graph; extends = extends-then f g h b.grows.extends c.grows.extends };
  asserts = c.asserts ∙ b.asserts;
}

pub builds-takes : (g h : Graph) → IsGraph g → OnlyTakesSlots g h → Builds g h
builds-takes g h is takes = record {
  grows = record { graph = graph-takes g h is takes; extends = extends-takes g h takes };
  asserts = ap asserted_in takes.reads.image;
}

-- a graph that is failed or is one is one where it is not failed
pub graph-added : (g h : Graph) → IsTrue h.failed ⊎ IsGraph h → (IsTrue h.failed → ⊥) → Extends g.image.canonical h.image.canonical → AddsClasses g.image h.image → KnowsMore g.table h.table → Builds g h
graph-added g h (inl failed) well extends adds more = absurd (well failed)
graph-added g h (inr is) well extends adds more = record {
  grows = record { graph = is; extends = extends-added g h extends adds more };
  asserts = adds.asserted;
}

-- what is built later is built from the beginning, where the graph has not failed
pub later-builds : (f g h : Graph) → Builds f g → IsTrue h.failed ⊎ Builds g h → IsTrue h.failed ⊎ Builds f h
later-builds f g h b (inl failed) = inl failed
later-builds f g h b (inr c) = inr (builds-then f g h b c)

pub full-builds : (g h : Graph) (a : Applied) → Builds g h → IsFullId g a → IsFullId h a
full-builds g h a b full = full-extends g h a b.grows.extends full

-- the same of what only grows

pub grows-itself : (g : Graph) → IsGraph g → Grows g g
grows-itself g is = record { graph = is; extends = extends-itself g }

pub grows-then : (f g h : Graph) → Grows f g → Grows g h → Grows f h
grows-then f g h b c = record { graph = c.graph; extends = extends-then f g h b.extends c.extends }

pub grows-takes : (g h : Graph) → IsGraph g → OnlyTakesSlots g h → Grows g h
grows-takes g h is takes = record { graph = graph-takes g h is takes; extends = extends-takes g h takes }

pub later-grows : (f g h : Graph) → Grows f g → IsTrue h.failed ⊎ Grows g h → IsTrue h.failed ⊎ Grows f h
later-grows f g h b (inl failed) = inl failed
later-grows f g h b (inr c) = inr (grows-then f g h b c)

pub extended-grows : (g h : Graph) → IsTrue h.failed ⊎ IsGraph h → IsTrue h.failed ⊎ ExtendsTo g h → IsTrue h.failed ⊎ Grows g h
extended-grows g h (inl failed) e = inl failed
extended-grows g h (inr is) (inl failed) = inl failed
extended-grows g h (inr is) (inr e) = inr (record { graph = is; extends = e })

-- three times
pub filled-grows : (g e f i : Graph) → IsGraph g → OnlyTakesSlots g e → OnlyTakesSlots e f → OnlyTakesSlots f i → Grows g i
filled-grows g e f i is first second third =
    let one = grows-takes g e is first in
    let two = grows-then g e f one (grows-takes e f one.graph second) in
    grows-then g f i two (grows-takes f i two.graph third)

pub later-built : (f g h : Graph) → Grows f g → IsTrue h.failed ⊎ Builds g h → IsTrue h.failed ⊎ Grows f h
later-built f g h b (inl failed) = inl failed
later-built f g h b (inr c) = inr (grows-then f g h b c.grows)
