-- What nodes and terms are looked up as: contracts say it by images and filed nodes, the model by its state.
use Rattle.std.proofs.Common.{◌≡◌, ◌<◌, ◌∙◌, ℕ, List, Option, Some, None, length, ap, refl, sym, subst, arith}
use Rattle.std.specs.Prelude.{option_map, option_and_then}
use Rattle.slotted_lists.proofs.Options.{Some-same}
use Rattle.slotted_theory.specs.Nameless.{DArgs, DTerm, stop, place, sub, scope}
use Rattle.slotted_theory.specs.Shape.{shape}
use Rattle.slotted_theory.proofs.Values.{node, child_before}
use Rattle.slotted_model.specs.Applied.{Applied, as_term, applied_of, EachChild}
use Rattle.slotted_model.specs.Find.{find}
use Rattle.slotted_model.specs.LookUp.{both, look_up, look_up_args}
use Rattle.slotted_model.specs.Normal.{normal, normal_args}
use Rattle.slotted_model.specs.State.{Row, State, look_up_node, look_up_tree, row_of, source_with_names}
use Rattle.slotted_model.proofs.Finds.Congruence.{child-applied}
use Rattle.slotted_model.proofs.Complete.LookUpsAreEqual.{node-equal}
use Rattle.slotted_model.proofs.Data.Options.{and_then-some, both-some, option_map-some}
use Rattle.slotted_model.proofs.Rebuilding.Rows.{row_of-some}
use Rattle.slotted_classes.specs.Finding.{IsFindable}
use Rattle.slotted_classes.specs.Kept.{Kept, entries_of, nodes_of}
use Rattle.slotted_classes.proofs.KeptLists.{length-nodes_of}
use Rattle.slotted_hashcons.specs.FiledRows.{Rows, rows_in}
use Rattle.slotted_hashcons.specs.WellFiled.{state_in}
use Rattle.slotted_operations.specs.Good.{Good, RestsWith, image_of}
use Rattle.slotted_operations.specs.Graph.{Graph}
use Rattle.slotted_operations.specs.Image.{found_id}
use Rattle.slotted_operations.specs.LookUp as words
use Rattle.slotted_operations.proofs.Ids.ValidIds.{findable-within}
use Rattle.slotted_operations.proofs.Graphs.Images.{found_id-is}
use Rattle.slotted_operations.proofs.Graphs.AtRest.{at-rest}

-- two look-ups of nodes that agree on nodes whose children hold P, where each answer holds P
module _ (P : Applied → Type 0) (look other : DTerm → Option Applied) (agree : (d : DTerm) → EachChild P d.args → other d ≡ look d)
    (answers : (d : DTerm) (a : Applied) → EachChild P d.args → look d ≡ Some a → P a) where
  -- the answers for children hold P
  pub args-hold : (d f : DArgs) → look_up_args look d ≡ Some f → EachChild P f
  args-hold stop f e = subst (EachChild P) (Some-same stop f e) tt
  args-hold (place x rest) f e =
      let p = option_map-some (place x) (look_up_args look rest) f e in
      subst (EachChild P) p.2 (args-hold rest p.0 p.1)
  args-hold (sub op payloads args rest) f e =
      let p = both-some (λ a found. child_before (as_term a) found) (option_and_then (λ found. look (node op payloads found)) (look_up_args look args)) (look_up_args look rest) f e in
      let q = and_then-some (λ found. look (node op payloads found)) (look_up_args look args) p.0 p.2 in
      subst (EachChild P) p.4 ((p.0, refl, answers (node op payloads q.0) p.0 (args-hold args q.0 q.1) q.2), args-hold rest p.1 p.3)
  args-hold (scope inner rest) f e =
      let p = both-some scope (look_up_args look inner) (look_up_args look rest) f e in
      subst (EachChild P) p.4 (args-hold inner p.0 p.2, args-hold rest p.1 p.3)

  -- a node over such answers
  over-agrees : (op : ℕ) (payloads : List (List ℕ)) (o : Option DArgs) → ((f : DArgs) → o ≡ Some f → EachChild P f) →
      option_and_then (λ found. other (node op payloads found)) o ≡ option_and_then (λ found. look (node op payloads found)) o
  over-agrees op payloads None h = refl
  over-agrees op payloads (Some f) h = agree (node op payloads f) (h f refl)

  -- so they agree on trees
  args-agree : (d : DArgs) → look_up_args other d ≡ look_up_args look d
  args-agree stop = refl
  args-agree (place x rest) = ap (option_map (place x)) (args-agree rest)
  args-agree (sub op payloads args rest) =
      let first = ap (option_and_then (λ found. other (node op payloads found))) (args-agree args) ∙ over-agrees op payloads (look_up_args look args) (λ f. args-hold args f) in
      λ i. both (λ a found. child_before (as_term a) found) (first i) (args-agree rest i)
  args-agree (scope inner rest) = λ i. both scope (args-agree inner i) (args-agree rest i)

  pub trees-agree : (t : DTerm) → look_up other t ≡ look_up look t
  trees-agree t = ap (option_and_then (λ found. other (node t.op t.payloads found))) (args-agree t.args) ∙ over-agrees t.op t.payloads (look_up_args look t.args) (λ f. args-hold t.args f)

  -- and each answer for a tree holds P
  pub trees-hold : (t : DTerm) (a : Applied) → look_up look t ≡ Some a → P a
  trees-hold t a e =
      let q = and_then-some (λ found. look (node t.op t.payloads found)) (look_up_args look t.args) a e in
      answers (node t.op t.payloads q.0) a (args-hold t.args q.0 q.1) q.2

module _ (k : Kept) (r : Rows) (good : Good k) (rests : RestsWith k r) (g : Graph) (image : image_of k ≡ g.image) (filed : rows_in r.filed ≡ g.filed) where
  abbrev state : State
  state = state_in k r

  -- the graph as it is told by what is kept
  abbrev seen : Graph
  seen = record g { image = image_of k; filed = rows_in r.filed }

  found_args-are : (d : DArgs) → EachChild (IsFindable k) d → words.found_args (image_of k) d ≡ normal_args (entries_of k) d
  found_args-are stop v = refl
  found_args-are (place x rest) v = ap (place x) (found_args-are rest v)
  found_args-are (sub op payloads args rest) v =
      let a : Applied = applied_of payloads args in
      let w : IsFindable k a = subst (IsFindable k) (sym (child-applied (IsFindable k) op payloads args v.0)) v.0.2 in
      let e : found_id (image_of k) a ≡ find (entries_of k) a = found_id-is k a (findable-within k a w) in
      λ i. child_before (as_term (e i)) (found_args-are rest v.1 i)
  found_args-are (scope inner rest) v = λ i. scope (found_args-are inner v.0 i) (found_args-are rest v.1 i)

  row-is : (n : DTerm) (o : Option Row) → row_of (shape n) (rows_in r.filed) ≡ o →
      option_map (λ (q : Row). found_id (image_of k) (source_with_names n q)) o ≡ option_map (λ (q : Row). find (entries_of k) (source_with_names n q)) o
  row-is n None e = refl
  row-is n (Some q) e =
      let there = row_of-some (shape n) (rows_in r.filed) q e in
      let h : q.source < length (nodes_of k) = (rests.filed.sane.filed.each q there.0).in_range in
      let l : length (nodes_of k) ≡ length k.classes = length-nodes_of k in
      ap Some (found_id-is k (source_with_names n q) (omega arith))

  node-is : (d : DTerm) → EachChild (IsFindable k) d.args → words.look_up_nameless seen d ≡ look_up_node state d
  node-is d v =
      let n : DTerm = normal (entries_of k) d in
      let e : words.found_node (image_of k) d ≡ n = ap (node d.op d.payloads) (found_args-are d.args v) in
      ap (words.id_of_found seen) e ∙ row-is n (row_of (shape n) (rows_in r.filed)) refl

  answers-find : (d : DTerm) (a : Applied) → EachChild (IsFindable k) d.args → look_up_node state d ≡ Some a → IsFindable k a
  answers-find d a v e = (node-equal state (at-rest k r good rests) d v a e).0

  -- a node over ids that find
  pub looked_up-is : (d : DTerm) → EachChild (IsFindable k) d.args → words.look_up_nameless g d ≡ look_up_node state d
  looked_up-is d v =
      let e : words.look_up_nameless seen d ≡ words.look_up_nameless g d = λ i. words.look_up_nameless (record g { image = image i; filed = filed i }) d in
      sym e ∙ node-is d v

  -- the answer finds
  pub looked_up-findable : (d : DTerm) (a : Applied) → EachChild (IsFindable k) d.args → words.look_up_nameless g d ≡ Some a → IsFindable k a
  looked_up-findable d a v e = answers-find d a v (sym (looked_up-is d v) ∙ e)

  -- each tree
  pub tree-is : (t : DTerm) → look_up (words.look_up_nameless g) t ≡ look_up_tree state t
  tree-is t = trees-agree (IsFindable k) (look_up_node state) (words.look_up_nameless g) looked_up-is answers-find t

  pub tree-findable : (t : DTerm) (a : Applied) → look_up_tree state t ≡ Some a → IsFindable k a
  tree-findable t a e = trees-hold (IsFindable k) (look_up_node state) (words.look_up_nameless g) looked_up-is answers-find t a e
