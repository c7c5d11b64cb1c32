-- A node that is added with its children filled: what it takes, and what it leaves.
use Rattle.std.proofs.Common.{◌≡◌, ◌≤◌, ◌+◌, ◌∙◌, List, [], ◌∷◌, length, ap, refl, sym, subst, arith, inl, inr}
use Rattle.std.specs.Prelude.{All}
use Rattle.slotted_slots.specs.Table.{KnowsMore, Table, AllKnown}
use Rattle.slotted_slots.proofs.SlotsTaken.{fresh_goes_on}
use Rattle.slotted_nodes.specs.Form.{Form}
use Rattle.slotted_languages.specs.NewNames.{IsTooLarge}
use Rattle.slotted_languages.specs.NodeTerm.{nameless_node}
use Rattle.slotted_languages.specs.Shape.{Fits}
use Rattle.slotted_model.specs.Applied.{Applied}
use Rattle.slotted_model.specs.Classes.{IsFull}
use Rattle.slotted_classes.specs.Kept.{Kept, nodes_of}
use Rattle.slotted_hashcons.specs.FiledRows.{Rows}
use Rattle.slotted_hashcons.specs.NormalNodes.{HasFindableChildren}
use Rattle.slotted_languages.specs.Sizes.{node_size}
use Rattle.slotted_lookup.specs.Filling as filling
use Rattle.slotted_lookup.specs.Filling.{FillsChildren, HasOneNormalForm, MakesFull, filled_node, missing_in, missing_of, with_fresh}
use Rattle.slotted_lookup.proofs.ChildFillings.{node-fills, node-whole}
use Rattle.slotted_lookup.proofs.FillingSizes.{filled_node-places, filled_node-size, missing_of-full}
use Rattle.slotted_operations.specs.Adding.{RunsOutForFilled, HasLargeClassOrFilled, children_lack, lacking_in, slots_needed}
use Rattle.slotted_operations.specs.Causes.{CanRunOutForNode, HasLargeClassOrNode}
use Rattle.slotted_operations.specs.Good.{Adds, AddsFilled, image_of}
use Rattle.slotted_operations.specs.Graph.{MakesAtMost}
use Rattle.slotted_operations.specs.Nodes.{child_ids}

-- how many names are missing, in both words
lacking-is : (k : Kept) (ids : List Applied) → missing_in k ids ≡ lacking_in (image_of k) ids
lacking-is k [] = refl
lacking-is k (a ∷ rest) = ap (λ n. filling.missing k a + n) (lacking-is k rest)

pub children_lack-is : (k : Kept) (f : Form) → missing_of k f ≡ children_lack (image_of k) f
children_lack-is k f = lacking-is k (child_ids f)

-- full children lack none
pub full-lack : (k : Kept) (f : Form) → All (IsFull (nodes_of k)) (child_ids f) → children_lack (image_of k) f ≡ 0
full-lack k f full = sym (children_lack-is k f) ∙ missing_of-full k f full

-- the node with its children filled, and the table after that
module _ (k : Kept) (f g : Form) (fits : Fits f) (t mid : Table) (is : g ≡ filled_node k t.fresh f) (made : mid ≡ with_fresh (missing_of k f) t) where
  places : length g.names ≤ length f.names + children_lack (image_of k) f
  places = omega (arith, ap (λ (x : Form). length x.names) is, filled_node-places k t.fresh f fits, children_lack-is k f)

  fresh-is : mid.fresh ≡ t.fresh + children_lack (image_of k) f
  fresh-is = ap (λ (x : Table). x.fresh) made ∙ ap (λ n. t.fresh + n) (children_lack-is k f)

  -- slots for what was missing, and for the node
  pub makes-both : (new : Table) → MakesAtMost (length g.names) mid new → MakesAtMost (slots_needed (image_of k) f) t new
  makes-both new m = record {
    names = m.names ∙ ap (λ (x : Table). x.names) made;
    taken = omega (arith, m.taken, fresh-is, places);
  }

  large-filled : HasLargeClassOrNode (image_of k) g → HasLargeClassOrFilled (image_of k) f
  large-filled (inl c) = inl c
  large-filled (inr wide) =
      let size = filled_node-size k t.fresh f fits in
      inr (omega (arith, wide, ap (λ (x : Form). node_size (nameless_node x)) is, size, children_lack-is k f))

  pub runs_out-node : (new : Table) → CanRunOutForNode (image_of k) g mid new → RunsOutForFilled (image_of k) f t new
  runs_out-node new (inl (inl r)) = inl (record { lacks = omega (arith, r.lacks, fresh-is, places); used = r.used })
  runs_out-node new (inl (inr large)) = inr (inl (omega (arith, large, places)))
  runs_out-node new (inr large) = inr (inr (large-filled large))

  pub filled-adds : AllKnown t f.names → Fits g → FillsChildren k t f g → MakesFull k t f g → HasOneNormalForm k f g → (All (IsFull (nodes_of k)) (child_ids f) → g ≡ f) →
      (new : Table) → AllKnown new g.names → (r : Rows) (l : Kept) (q : Rows) (a : Applied) → Adds mid new k r l q g a → AddsFilled t new k r l q f a
  filled-adds known fits_g fills full one same new after r l q a adds = record {
    filled = g;
    fits = fits_g;
    between = mid;
    no_more = omega (arith, fresh-is);
    filling = record { names = ap (λ (x : Table). x.names) made; taken = omega (arith, fresh-is) };
    fills = fills known;
    full = full known;
    known = after;
    one_form = one;
    same = same;
    adds = adds;
    large = λ h. large-filled (adds.large h);
  }

-- where slots run out while names are made for what is missing
pub makes-missing : (k : Kept) (f : Form) (t new : Table) → filling.MakesAtMost (missing_of k f) t new → MakesAtMost (slots_needed (image_of k) f) t new
makes-missing k f t new m = record { names = m.names; taken = omega (arith, m.taken, children_lack-is k f) }

pub runs_out-missing : (k : Kept) (f : Form) (t new : Table) → filling.RunsOutForNode k f t new → RunsOutForFilled (image_of k) f t new
runs_out-missing k f t new r = inl (record { lacks = omega (arith, r.lacks, children_lack-is k f); used = r.used })

-- for full children slots do not run out
pub full-enough : (k : Kept) (f : Form) (t new : Table) → filling.RunsOutForNode k f t new → KnowsMore t new → All (IsFull (nodes_of k)) (child_ids f) → ⊥
full-enough k f t new r more full = omega (arith, r.lacks, r.used, fresh_goes_on t new more, missing_of-full k f full)

-- where nothing is taken
pub none-taken : (k : Kept) (f : Form) (t : Table) → MakesAtMost (slots_needed (image_of k) f) t t
none-taken k f t = record { names = refl; taken = omega arith }

-- where the node is too large itself
pub runs_out-large : (k : Kept) (f : Form) (t new : Table) → IsTooLarge f → RunsOutForFilled (image_of k) f t new
runs_out-large k f t new large = inr (inl (omega (arith, large)))

-- a node with full children is added as it is
pub whole-adds : (k : Kept) (f : Form) → Fits f → (t : Table) → HasFindableChildren k f → All (IsFull (nodes_of k)) (child_ids f) → AllKnown t f.names → (new : Table) → AllKnown new f.names →
    (r : Rows) (l : Kept) (q : Rows) (a : Applied) → Adds t new k r l q f a → AddsFilled t new k r l q f a
whole-adds k f fits t findable full known =
    let whole = node-whole k t f fits full in
    let none : t.fresh ≡ t.fresh + missing_of k f = omega (arith, missing_of-full k f full) in
    filled-adds k f f fits t t (sym whole) (ap (λ n. let u : Table = record t { fresh = n } in u) none) known fits (subst (FillsChildren k t f) whole (node-fills k t f fits findable)) (λ _. full) refl (λ _. refl)

pub takes-whole : (k : Kept) (f : Form) (t new : Table) → MakesAtMost (length f.names) t new → MakesAtMost (slots_needed (image_of k) f) t new
takes-whole k f t new m = record { names = m.names; taken = omega (arith, m.taken) }

pub runs_out-whole : (k : Kept) (f : Form) (t new : Table) → CanRunOutForNode (image_of k) f t new → RunsOutForFilled (image_of k) f t new
runs_out-whole k f t new (inl (inl r)) = inl (record { lacks = omega (arith, r.lacks); used = r.used })
runs_out-whole k f t new (inl (inr large)) = inr (inl (omega (arith, large)))
runs_out-whole k f t new (inr (inl c)) = inr (inr (inl c))
runs_out-whole k f t new (inr (inr wide)) = inr (inr (inr (omega (arith, wide))))
