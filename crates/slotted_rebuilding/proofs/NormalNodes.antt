-- The node of a class that waits, in normal form, until it has each slot of the class.
use Rattle.std.proofs.Common.{◌≡◌, ◌<◌, ◌+◌, ℕ, List, [], ◌∷◌, Some, length, ◌∙◌, sym, subst, refl, inl, inr, arith}
use Rattle.std.specs.Prelude.{Contains, slice_get}
use Rattle.std.proofs.lemmas.Option.{none-some}
use Rattle.slotted_lists.proofs.Contained.{contains_head, Contains-of_map}
use Rattle.slotted_lists.proofs.Options.{Some-same}
use Rattle.slotted_nodes.specs.Form.{Form}
use Rattle.slotted_languages.specs.NewNames.{IsTooLarge}
use Rattle.slotted_languages.specs.Shape.{Fits}
use Rattle.slotted_model.specs.Ascending.{names}
use Rattle.slotted_model.specs.Find.{used_slots}
use Rattle.slotted_model.specs.Rebuild.{IsCovered, starts, takes_turn}
use Rattle.slotted_model.specs.Rest.{IsRow}
use Rattle.slotted_model.specs.State.{Row, normal_node}
use Rattle.slotted_model.proofs.Rebuilding.Lacking.{missing-cases}
use Rattle.slotted_proofs.specs.declared.equation.Equation.{Equation as Sides}
use Rattle.slotted_classes.specs.Kept.{Kept, node_at, nodes_of, entries_of}
use Rattle.slotted_classes.proofs.KeptLists.{length-nodes_of}
use Rattle.slotted_hashcons.specs.Filed.{filed_of}
use Rattle.slotted_hashcons.specs.FiledRows.{IsFiled, Rows, row_of_entry, rows_in}
use Rattle.slotted_hashcons.proofs.FiledRows.{row-filed, source-filed}
use Rattle.slotted_rebuilding.proofs.KeptSlots.{grows-then}
use Rattle.slotted_rebuilding.proofs.EnteredProofs.{only-grows, nothing-proved}
use Rattle.slotted_hashcons.specs.FoundNodes.{FilesNode, HasNoMorePlaces, IsFoundNode, finds_of}
use Rattle.slotted_hashcons.specs.NormalNodes.{HasFindableChildren}
use Rattle.slotted_hashcons.specs.Sides.{AreTwinSides}
use Rattle.slotted_classes.proofs.ClassNodes.{node-is}
use Rattle.slotted_hashcons.proofs.CanonicalChildren.{sane-findable}
use Rattle.slotted_hashcons.proofs.KeyedNodes.{no-more-places}
use Rattle.slotted_rebuilding.specs.Congruence.{AreTwins, ProvesTwins}
use Rattle.slotted_rebuilding.proofs.WideNodes.{wide_class}
use Rattle.slotted_rebuilding.specs.Causes.{HasLargeClass}
use Rattle.slotted_hashcons.specs.WellFiled.{state_in, IsKeyed, IsWellFiled}
use Rattle.slotted_rebuilding.specs.Turns.{IsFirst, LacksSlot, NarrowsOnce, NarrowsTo, ProvesCongruence}
use Rattle.slotted_rebuilding.proofs.FiledStates.{waits-nothing, waits-then}
use Rattle.slotted_rebuilding.proofs.Runs.{runs-join}
use Rattle.slotted_hashcons.proofs.StaleRows.{children-find, files-node}

first-in : (w : List ℕ) (o : ℕ) → slice_get w 0 ≡ Some o → Contains w o
first-in [] o e = absurd (none-some o e)
first-in (x ∷ w) o e = subst (Contains (x ∷ w)) (Some-same x o e) (contains_head x w)

-- the first one waits
pub first-waits : (r : Rows) (o : ℕ) → IsFirst r o → Contains r.waiting o
first-waits r o first = first-in r.waiting o first

-- it is a class
pub waiting-within : (k : Kept) (r : Rows) (o : ℕ) → IsWellFiled k r → Contains r.waiting o → o < length k.classes
waiting-within k r o well waits =
    let s = Contains-of_map (λ (x : Row). x.source) (rows_in r.filed) o (well.sane.filed.waits_for_row o waits) in
    let h : s.0.source < length (nodes_of k) = (well.sane.filed.each s.0 s.1).in_range in
    subst (λ n. o < n) (length-nodes_of k) (subst (λ i. i < length (nodes_of k)) s.2 h)

-- whose node is over ids that find
pub findable : (k : Kept) (r : Rows) (o : ℕ) → IsWellFiled k r → o < length k.classes → HasFindableChildren k (node_at k o)
findable k r o well within = sane-findable k (state_in k r) well.sane refl refl o within

-- where its node has too many places, the class is large
pub too-large : (k : Kept) (r : Rows) (o : ℕ) → IsWellFiled k r → o < length k.classes → IsTooLarge (node_at k o) → HasLargeClass k
too-large k r o well within much =
    (o, within, inr (wide_class (nodes_of k) o (node_at k o) (well.fits o within) (node-is k o within) (omega (arith, much))))

-- its node in normal form has no more places
pub filed-places : (k : Kept) (r : Rows) (o : ℕ) → IsWellFiled k r → o < length k.classes → (f : Form) (m : List (ℕ × ℕ)) → Fits f → IsFoundNode k o f m → HasNoMorePlaces k o f
filed-places k r o well within f m fits node =
    no-more-places k (record { linked = well.stored.sane.sound.linked; later = well.stored.later }) o within (well.fits o within) (findable k r o well within) f m fits node

-- something is filed of the first one
pub first-filed : (k : Kept) (r : Rows) (o : ℕ) → IsWellFiled k r → IsFirst r o → IsFiled r.filed o
first-filed k r o well first = (source-filed r.filed o).0 (well.sane.filed.waits_for_row o (first-waits r o first))

-- what is filed of a class
module _ (k : Kept) (r : Rows) (o : ℕ) (well : IsWellFiled k r) (f : Form) (m : List (ℕ × ℕ)) (fits : Fits f) (at : Some (f, m) ≡ filed_of r.filed o) where
  abbrev keyed : IsKeyed (f, m)
  keyed = well.keyed o (f, m) (sym at)

  row : IsRow (state_in k r) (row_of_entry (f, (o, m)))
  row = well.sane.filed.each (row_of_entry (f, (o, m))) (row-filed r.filed o f m (sym at))

  -- it is over ids that find
  pub filed-find : HasFindableChildren k f
  filed-find = children-find f fits keyed.itself o m keyed.numbers k (state_in k r) refl refl row

  -- and has the normal form of the node of the class
  pub filed-files : FilesNode k o f m
  filed-files = files-node f fits keyed.itself o m keyed.numbers k (state_in k r) refl refl row

  -- where it has too many places, the class is large
  pub key-large : o < length k.classes → IsTooLarge f → HasLargeClass k
  key-large within much = too-large k r o well within (let fewer = well.places o (f, m) (sym at) in omega (arith, fewer, much))

-- a node that does not have each slot lacks one
pub lacks-slot : (k : Kept) (o : ℕ) → ¬ IsCovered (finds_of k) o → LacksSlot k o
lacks-slot k o n = elim (missing-cases (used_slots (entries_of k) o) (names (normal_node (finds_of k) o))) [
  | inl all ↦ absurd (n all)
  | inr m ↦ m
]

-- the congruence of twins is one of their classes
pub twins-proved : (k l : Kept) (i j p : ℕ) (e : Sides) → AreTwinSides k i j e → ProvesTwins k l e p → ProvesCongruence k l i j p
twins-proved k l i j p e t proved = record {
  only = proved.only;
  congruence = record {
    left = proved.congruence.left;
    right = proved.congruence.right;
    left_class = proved.congruence.left_class ∙ t.left_class;
    right_class = proved.congruence.right_class ∙ t.right_class;
    left_full = proved.congruence.left_full;
    twins = proved.congruence.twins;
    stands = proved.congruence.stands;
  };
}

pub are-twins : (k : Kept) (i j : ℕ) (e : Sides) → AreTwinSides k i j e → AreTwins k e
are-twins k i j e t = record { left = t.left; twin = t.twins }

-- the node has each slot at once
pub narrowed-now : (k : Kept) (r : Rows) (o : ℕ) (f : Form) (m : List (ℕ × ℕ)) → IsWellFiled k r → IsFoundNode k o f m → IsCovered (finds_of k) o → NarrowsTo k r o k r f m
narrowed-now k r o f m well node covered = record {
  turns = 0;
  runs = starts;
  filed = well;
  grows = only-grows k k (nothing-proved k well.stored);
  waits = waits-nothing r;
  node = node;
  covered = covered;
}

-- or after a turn and those that follow
pub narrowed-then : (k : Kept) (r : Rows) (l : Kept) (q : Rows) (o : ℕ) (n : Kept) (s : Rows) (f : Form) (m : List (ℕ × ℕ)) → NarrowsOnce k r l q → NarrowsTo l q o n s f m → NarrowsTo k r o n s f m
narrowed-then k r l q o n s f m once then = record {
  turns = 1 + then.turns;
  runs = runs-join (state_in k r) (state_in l q) (state_in n s) 1 then.turns (takes_turn starts once.turn) then.runs;
  filed = then.filed;
  grows = grows-then k l n once.grows then.grows;
  waits = waits-then r q s once.waits then.waits;
  node = then.node;
  covered = then.covered;
}
