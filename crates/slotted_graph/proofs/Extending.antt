-- A graph extends itself, one extension after another is one, and what reads, takes slots, adds and unites extends.
use Rattle.std.proofs.Common.{◌≡◌, ◌∙◌, ap, sym, subst, List, [], ◌++◌, append_assoc, inl, inr}
use Rattle.std.proofs.lemmas.List.{append-nil}
use Rattle.std.specs.Prelude.{Bool, Option, ℕ}
use Rattle.slotted_slots.specs.declared.types.AppliedId.{AppliedId}
use Rattle.slotted_slots.specs.Table.{KnowsMore, Table}
use Rattle.slotted_theory.specs.Nameless.{DTerm}
use Rattle.slotted_model.specs.Applied.{Applied}
use Rattle.slotted_model.specs.Growth.{Extends}
use Rattle.slotted_model.proofs.Represented.Growing.{Extends-same, Extends-then}
use Rattle.slotted_proofs.specs.Equations.{to_applied}
use Rattle.slotted_operations.specs.Graph.{Graph, IsFullId, OnlyReads, OnlyTakesSlots, RecordsUnion}
use Rattle.slotted_operations.specs.Image.{AddsClasses, FillApart, FoundAlike, Image, IsUnion, asserted_in}
use Rattle.slotted_rebuilding.specs.Counted.{CountsGo}
use Rattle.slotted_rebuilding.proofs.RebuildCounts.{counts-same, counts-then}
use Rattle.slotted_operations.proofs.CallerLemmas.{id_later, valid_later, valid_read, valid_united}
use Rattle.slotted_operations.proofs.YesesStay.{alike_later, alike_united}
use Rattle.slotted_graph.specs.Extension.{Begins, ExtendsTo, IsBetween}

pub begins-itself : {A : Type 0} (xs : List A) → Begins xs xs
begins-itself xs = ([], sym (append-nil xs))

pub begins-same : {A : Type 0} (xs ys : List A) → ys ≡ xs → Begins xs ys
begins-same xs ys e = ([], e ∙ sym (append-nil xs))

pub begins-then : {A : Type 0} (xs ys zs : List A) → Begins xs ys → Begins ys zs → Begins xs zs
begins-then xs ys zs b c = (b.0 ++ c.0, c.1 ∙ (ap (λ l. l ++ c.0) b.1 ∙ append_assoc xs b.0 c.0))

pub extends-itself : (g : Graph) → ExtendsTo g g
extends-itself g = record {
  more = λ s k. k;
  canonical = Extends-same g.image.canonical;
  valid = λ a v. v;
  alike = λ a b v w e. e;
  entries = begins-itself g.image.entries;
  stored = begins-itself g.image.stored;
  asserted = begins-itself (asserted_in g.image);
  symmetries = begins-itself g.image.symmetries;
  counts = counts-same g.image.counts;
}

pub extends-then : (f g h : Graph) → ExtendsTo f g → ExtendsTo g h → ExtendsTo f h
extends-then f g h d e = record {
  more = λ s k. e.more s (d.more s k);
  canonical = Extends-then f.image.canonical g.image.canonical h.image.canonical d.canonical e.canonical;
  valid = λ a v. e.valid a (d.valid a v);
  alike = λ a b v w s. e.alike a b (d.valid a v) (d.valid b w) (d.alike a b v w s);
  entries = begins-then _ _ _ d.entries e.entries;
  stored = begins-then _ _ _ d.stored e.stored;
  asserted = begins-then _ _ _ d.asserted e.asserted;
  symmetries = begins-then _ _ _ d.symmetries e.symmetries;
  counts = counts-then f.image.counts g.image.counts h.image.counts d.counts e.counts;
}

pub extends-read : (g h : Graph) → OnlyReads g h → ExtendsTo g h
extends-read g h reads = record {
  more = reads.more;
  canonical = subst (λ (x : Image). Extends g.image.canonical x.canonical) (sym reads.image) (Extends-same g.image.canonical);
  valid = λ a v. valid_read g h a reads v;
  alike = λ a b v w e. subst (λ (x : Image). FoundAlike x a b) (sym reads.image) e;
  entries = begins-same _ _ (ap (λ (x : Image). x.entries) reads.image);
  stored = begins-same _ _ (ap (λ (x : Image). x.stored) reads.image);
  asserted = begins-same _ _ (ap asserted_in reads.image);
  symmetries = begins-same _ _ (ap (λ (x : Image). x.symmetries) reads.image);
  counts = subst (λ (x : Image). CountsGo g.image.counts x.counts) (sym reads.image) (counts-same g.image.counts);
}

pub extends-takes : (g h : Graph) → OnlyTakesSlots g h → ExtendsTo g h
extends-takes g h takes = extends-read g h takes.reads

-- where classes are added
pub extends-added : (g h : Graph) → Extends g.image.canonical h.image.canonical → AddsClasses g.image h.image → KnowsMore g.table h.table → ExtendsTo g h
extends-added g h extends adds more = record {
  more = more;
  canonical = extends;
  valid = λ a v. valid_later g h a extends adds more v;
  alike = λ a b v w e. alike_later g h a b extends adds more v w e;
  entries = (adds.more, adds.entries);
  stored = (adds.more_stored, adds.stored);
  asserted = begins-same _ _ adds.asserted;
  symmetries = (adds.listed, adds.symmetries);
  counts = adds.counts;
}

-- where two ids are united
pub extends-united : (g h : Graph) (a b : AppliedId) (text : Option (List ℕ)) (y : Bool) → IsUnion g.image h.image (to_applied a) (to_applied b) y → RecordsUnion g h a b text → h.table ≡ g.table → ExtendsTo g h
extends-united g h a b text y u recorded table =
    let left : Applied = u.filled.0 in
    let right : Applied = u.filled.1 in
    let apart : FillApart g.image (to_applied a) (to_applied b) left right = u.filled.2 in
    let entered = recorded.each left right apart in
    let asserted = u.asserts left right apart in
    record {
      more = λ s k. subst (λ (t : Table). KnowsMore g.table t) (sym table) (λ x l. l) s k;
      canonical = subst (λ (n : List DTerm). Extends g.image.canonical n) (sym u.canonical) (Extends-same g.image.canonical);
      valid = λ x v. valid_united g h (to_applied a) (to_applied b) x y u table v;
      alike = λ x z v w e. alike_united g h (to_applied a) (to_applied b) x z y u table v w e;
      entries = (u.continues.more, u.continues.entries);
      stored = (entered.more, entered.stored);
      asserted = elim asserted.asserted [ inl same ↦ begins-same _ _ same.1 | inr more ↦ (_, more.1) ];
      symmetries = (u.continues.listed, u.continues.symmetries);
      counts = u.counts;
    }

-- full ids stay full
pub full-extends : (g h : Graph) (a : Applied) → ExtendsTo g h → IsFullId g a → IsFullId h a
full-extends g h a e v = id_later g h a e.canonical e.more v

-- what is between is so in a longer stretch too
pub between-longer : (f g h i m : Graph) → ExtendsTo f g → ExtendsTo h i → IsBetween g h m → IsBetween f i m
between-longer f g h i m d e b = record {
  graph = b.graph;
  after = extends-then f g m d b.after;
  before = extends-then m h i b.before e;
}
