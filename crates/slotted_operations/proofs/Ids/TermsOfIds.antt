-- The term of an id, node by node: where the terms of the ids that are left are known, so is that of the whole.
use Rattle.std.proofs.Common.{◌≡◌, ◌<◌, ◌≤◌, ◌+◌, ℕ, suc, List, [], ◌∷◌, ◌++◌, length, take, drop, reverse, get_or, refl, sym, ap, subst, ◌∙◌, arith, inl, inr, length-append}
use Rattle.std.specs.Prelude.{IsTrue, slice_index_or}
use Rattle.std.specs.List.{zip}
use Rattle.std.proofs.lemmas.List.{length-reverse, reverse-append, reverse-reverse}
use Rattle.slotted_lists.proofs.Members.{In, In-take, In-drop}
use Rattle.slotted_lists.proofs.Each.{Each, Each-append, Each-join}
use Rattle.slotted_theory.specs.Nameless.{DTerm}
use Rattle.slotted_theory.specs.Term.{Term}
use Rattle.slotted_slots.specs.declared.types.AppliedId.{AppliedId}
use Rattle.slotted_slots.specs.Maps.{values}
use Rattle.slotted_slots.specs.Table.{KnowsMore, Table, is_known, AllKnown}
use Rattle.slotted_nodes.specs.Form.{Form, Tree, leaf, own, child, bind, scopes, children}
use Rattle.slotted_languages.specs.Filled.{term_of}
use Rattle.slotted_model.specs.Applied.{Applied}
use Rattle.slotted_model.specs.Classes.{Canonical, IsFull}
use Rattle.slotted_proofs.specs.Equations.{to_applied}
use Rattle.slotted_classes.specs.Kept.{Kept, node_at, nodes_of}
use Rattle.slotted_classes.proofs.ChildIds.{length-ids}
use Rattle.slotted_classes.proofs.KeptLists.{length-nodes_of}
use Rattle.slotted_classes.proofs.NameMaps.{In-at, at_In}
use Rattle.slotted_classes.proofs.ClassNodes.{node-is}
use Rattle.slotted_operations.specs.Causes.{HasLargePart}
use Rattle.slotted_operations.specs.Good.{Good}
use Rattle.slotted_operations.specs.Graph.{MakesAtMost}
use Rattle.slotted_operations.specs.Nodes.{child_ids, ids_in}
use Rattle.slotted_operations.specs.Opened.{IsGivenAs, IsOfTermOf, OpensId}
use Rattle.slotted_operations.specs.Preorder.{HasEnough, built, over_last_of}
use Rattle.slotted_operations.specs.Syn.{KnowsSlotsAnd, LacksForFullNode, LacksForFullTerm, MakesForNode, MakesForTerm, node_binders, term_binders}
use Rattle.slotted_operations.proofs.Additions.IdStacks.{Both, Both-at, Both-length, Both-more}
use Rattle.slotted_operations.proofs.TermsOverIds.Binders.{ids_binders, ids_binders-append, node_within, parts_counted}
use Rattle.slotted_operations.proofs.Ids.CanonicalTerms.{canonical-term}
use Rattle.slotted_operations.proofs.Graphs.FreshSlots.{fresh_slots-more}
use Rattle.slotted_operations.proofs.Ids.NodesOfIds.{children-full, valid-beside}
use Rattle.slotted_operations.proofs.TermsOverIds.LargeChildren.{large_child_part}
use Rattle.slotted_operations.proofs.TermsOverIds.Preorders.{built-append, enough-append, over_last-seam}
use Rattle.slotted_operations.proofs.Additions.Tables.{makes-more, makes-none, makes-then, runs_out-then}
use Rattle.slotted_operations.proofs.Ids.NodeCounts.{children_nodes, ids_nodes, ids_nodes-append}

-- lists of pairs

-- terms for ids that stand in two parts
record Cut (P : Applied → Term → Type 0) (ids bs : List Applied) (ts : List Term) : Type 0 where
  left : List Term
  right : List Term
  whole : ts ≡ left ++ right
  first : Both P ids left
  second : Both P bs right

cut : (P : Applied → Term → Type 0) (ids bs : List Applied) (ts : List Term) → Both P (ids ++ bs) ts → Cut P ids bs ts
cut P [] bs ts h = record { left = []; right = ts; whole = refl; first = tt; second = h }
cut P (a ∷ ids) bs [] h = absurd h
cut P (a ∷ ids) bs (t ∷ ts) h =
    let c = cut P ids bs ts h.1 in
    record { left = t ∷ c.left; right = c.right; whole = ap (λ xs. t ∷ xs) c.whole; first = (h.0, c.first); second = c.second }

back : (P : Applied → Term → Type 0) (ids : List Applied) (ts : List Term) → Both P ids ts → Both P (reverse ids) (reverse ts)
back P [] [] h = tt
back P [] (t ∷ ts) h = absurd h
back P (a ∷ ids) [] h = absurd h
back P (a ∷ ids) (t ∷ ts) h =
    subst (λ (x : List Applied × List Term). Both P x.0 x.1) (λ i. (sym (reverse-append (a ∷ []) ids) i, sym (reverse-append (t ∷ []) ts) i))
    (Both-more P (reverse ids) (reverse ts) a t (back P ids ts h.1) h.0)

each-back : {X : Type 0} (P : X → Type 0) (xs : List X) → Each P xs → Each P (reverse xs)
each-back P [] h = tt
each-back P (x ∷ xs) h = subst (Each P) (sym (reverse-append (x ∷ []) xs)) (Each-join P (reverse xs) (x ∷ []) (each-back P xs h.1) (h.0, tt))

each-from : {X : Type 0} (P : X → Type 0) (xs : List X) → ((j : ℕ) (d : X) → j < length xs → P (get_or xs j d)) → Each P xs
each-from P [] h = tt
each-from P (x ∷ xs) h = (h 0 x (omega arith), each-from P xs (λ j d l. h (suc j) d (omega arith)))

each-both : {X : Type 0} (P Q R : X → Type 0) → ((x : X) → P x → Q x → R x) → (xs : List X) → Each P xs → Each Q xs → Each R xs
each-both P Q R f [] h k = tt
each-both P Q R f (x ∷ xs) h k = (f x h.0 k.0, each-both P Q R f xs h.1 k.1)

binders-back : (nodes : List DTerm) (ids : List Applied) → ids_binders nodes (reverse ids) ≡ ids_binders nodes ids
binders-back nodes [] = refl
binders-back nodes (a ∷ ids) =
    omega (arith, ap (ids_binders nodes) (reverse-append (a ∷ []) ids), ids_binders-append nodes (reverse ids) (a ∷ []), binders-back nodes ids)

nodes-back : (nodes : List DTerm) (ids : List Applied) → ids_nodes nodes (reverse ids) ≡ ids_nodes nodes ids
nodes-back nodes [] = refl
nodes-back nodes (a ∷ ids) =
    omega (arith, ap (ids_nodes nodes) (reverse-append (a ∷ []) ids), ids_nodes-append nodes (reverse ids) (a ∷ []), nodes-back nodes ids)

-- the names of children are names of the node
module _ (P : ℕ → Type 0) where
  in-zip : (ks vs : List ℕ) (x : ℕ) → In x (values (zip ks vs)) → In x vs
  in-zip [] vs x h = absurd h
  in-zip (k ∷ ks) [] x h = absurd h
  in-zip (k ∷ ks) (v ∷ vs) x (inl e) = inl e
  in-zip (k ∷ ks) (v ∷ vs) x (inr h) = inr (in-zip ks vs x h)

  ids-names : (t : Tree) (xs : List ℕ) → ((x : ℕ) → In x xs → P x) → Each (λ (b : Applied). (x : ℕ) → In x (values b.1) → P x) (ids_in t xs)
  ids-names leaf xs p = tt
  ids-names (own r) xs p = ids-names r (drop 1 xs) (λ x h. p x (In-drop 1 xs x h))
  ids-names (child i ks r) xs p =
      (λ x h. p x (In-take (length ks) xs x (in-zip ks (take (length ks) xs) x h)), ids-names r (drop (length ks) xs) (λ x h. p x (In-drop (length ks) xs x h)))
  ids-names (bind u r) xs p =
      let m = length (scopes u) in
      Each-join (λ (b : Applied). (x : ℕ) → In x (values b.1) → P x) (ids_in u (take m (drop 1 xs))) (ids_in r (drop m (drop 1 xs)))
      (ids-names u (take m (drop 1 xs)) (λ x h. p x (In-drop 1 xs x (In-take m (drop 1 xs) x h))))
      (ids-names r (drop m (drop 1 xs)) (λ x h. p x (In-drop 1 xs x (In-drop m (drop 1 xs) x h))))

module _ (old : Table) (k : Kept) (a : AppliedId) where
  -- over any later table: terms for the ids that are left make, with the nodes, a term of the whole
  pub record Found (v : Table) (ns : List (Form × ℕ)) (ts : List Term) : Type 0 where
    pub term : Term
    pub given : IsGivenAs old k a v (to_applied a) term
    pub value : built ns ts ≡ term ∷ []
    pub enough : HasEnough ns ts

  abbrev pub Leads : Table → List (Form × ℕ) → List Applied → Type 0
  Leads u ns left = (v : Table) → KnowsMore u v → (ts : List Term) → Both (IsGivenAs old k a v) left ts → Found v ns ts

  leads-start : (u : Table) → Leads u [] (to_applied a ∷ [])
  leads-start u v more [] h = absurd h
  leads-start u v more (t ∷ []) h = record { term = t; given = h.0; value = refl; enough = tt }
  leads-start u v more (t ∷ s ∷ ts) h = absurd h.1

  -- what is known of an id that is left
  pub record IsLeft (u : Table) (b : Applied) : Type 0 where
    pub full : IsFull (nodes_of k) b
    pub part : HasLargePart (nodes_of k) b.0 → HasLargePart (nodes_of k) a.id.0
    pub known : KnowsSlotsAnd old k a.m → AllKnown u (values b.1)

  -- some ids were opened to nodes, and these are left
  pub record IsOpening (u : Table) (ns : List (Form × ℕ)) (left : List Applied) : Type 0 where
    pub leads : Leads u ns left
    pub ids : Each (IsLeft u) left
    pub more : KnowsMore old u
    pub kept : u.names ≡ old.names
    pub spent : ℕ
    pub within : spent + ids_binders (nodes_of k) left ≤ term_binders (nodes_of k) a.id.0
    pub makes : KnowsSlotsAnd old k a.m → MakesAtMost spent old u

  pub opening-start : IsFull (nodes_of k) (to_applied a) → IsOpening old [] (to_applied a ∷ [])
  opening-start full = record {
    leads = leads-start old;
    ids = (record { full = full; part = λ h. h; known = λ at. at.1 }, tt);
    more = λ s h. h;
    kept = refl;
    spent = 0;
    within = omega arith;
    makes = λ at. makes-none 0 old;
  }

  pub opening-makes : (u : Table) (ns : List (Form × ℕ)) (left : List Applied) → IsOpening u ns left → MakesForTerm k a.id.0 a.m old u
  opening-makes u ns left p at = makes-more p.spent (term_binders (nodes_of k) a.id.0) old u (p.makes at) (omega (arith, p.within))

  pub opening-end : (u : Table) (ns : List (Form × ℕ)) → IsOpening u ns [] → IsOfTermOf old u k a ns
  opening-end u ns p =
      let found = p.leads u (λ s h. h) [] tt in
      record { term = found.term; given = found.given; value = found.value; enough = found.enough }

module _ (old : Table) (k : Kept) (a : AppliedId) (good : Good k) where
  can : Canonical (nodes_of k)
  can = good.stored.sane.sound.canonical

  -- the id that is opened next
  module _ (u : Table) (ns : List (Form × ℕ)) (rest : List Applied) (b : AppliedId) (p : IsOpening old k a u ns (rest ++ to_applied b ∷ [])) where
    here : Each (IsLeft old k a u) rest × Each (IsLeft old k a u) (to_applied b ∷ [])
    here = Each-append (IsLeft old k a u) rest (to_applied b ∷ []) p.ids

    pub next-full : IsFull (nodes_of k) (to_applied b)
    next-full = here.1.0.full

    pub next-known : KnowsSlotsAnd old k a.m → KnowsSlotsAnd u k b.m
    next-known at = (fresh_slots-more old u k p.more at.0, here.1.0.known at)

    own-binders : node_binders (nodes_of k) b.id.0 ≤ term_binders (nodes_of k) b.id.0
    own-binders =
        let i = b.id.0 in
        let lt : i < length k.classes = omega (arith, next-full.in_range, length-nodes_of k) in
        node_within (nodes_of k) can i next-full.in_range (node_at k i) (node-is k i lt)

    fits-in : p.spent + node_binders (nodes_of k) b.id.0 ≤ term_binders (nodes_of k) a.id.0
    fits-in = omega (arith, p.within, ids_binders-append (nodes_of k) rest (to_applied b ∷ []), own-binders)

    pub next-makes : (x : Table) → MakesForNode k b.id.0 b.m u x → MakesForTerm k a.id.0 a.m old x
    next-makes x makes at = makes-then p.spent (node_binders (nodes_of k) b.id.0) (term_binders (nodes_of k) a.id.0) old u x (p.makes at) (makes (next-known at)) fits-in

    pub next-lacks : (x : Table) → LacksForFullNode k b.id.0 b.m u x → LacksForFullTerm k a.id.0 a.m old x
    next-lacks x lacks at = elim (lacks (next-known at)) [
      | inl out ↦ inl (runs_out-then p.spent (node_binders (nodes_of k) b.id.0) (term_binders (nodes_of k) a.id.0) old u x (p.makes at) out fits-in)
      | inr large ↦ inr (here.1.0.part (0, b.id.0, refl, large))
    ]

    -- it gives way to its node and its children
    module _ (w : Table) (h : Form) (n : ℕ) (next : List Applied) (o : OpensId u w k b h n rest next) (more : KnowsMore u w) (kept : w.names ≡ u.names) (makes : MakesForNode k b.id.0 b.m u w) where
      abbrev cs : List Applied
      cs = child_ids o.node

      names-known : KnowsSlotsAnd old k a.m → AllKnown w o.node.names
      names-known at = o.known (next-known at)

      next-leads : Leads old k a w (ns ++ (h, n) ∷ []) next
      next-leads v later ts both =
          let P = IsGivenAs old k a v in
          let c = cut P rest (reverse cs) ts (subst (λ xs. Both P xs ts) o.children both) in
          let us = reverse c.right in
          let each : Both P cs us = subst (λ xs. Both P xs us) (reverse-reverse cs) (back P (reverse cs) c.right c.second) in
          let len : length us ≡ length (children o.node.tree) = sym (Both-length P cs us each) ∙ length-ids o.node.tree o.node.names in
          let t : Term = term_of h us in
          let given : P (to_applied b) t = record {
            operator = omega arith;
            term = canonical-term (nodes_of k) can (to_applied b) next-full o.node h o.fits o.is o.beside us len (λ j d e lt. (Both-at P cs us each j d e lt).term);
            valid = λ at.
                valid-beside v o.node h us o.fits o.beside len (λ j d lt. later _ (names-known at j d lt))
                (λ j e lt. (Both-at P cs us each j (to_applied b) e lt).operator) (λ j e lt. (Both-at P cs us each j (to_applied b) e lt).valid at);
          } in
          let inner = p.leads v (λ s y. later s (more s y)) (c.left ++ t ∷ []) (Both-more P rest c.left (to_applied b) t c.first given) in
          let number : n ≡ length us = o.number ∙ sym len in
          let opened : over_last_of h n ts ≡ c.left ++ t ∷ [] =
          ap (over_last_of h n) (c.whole ∙ ap (λ xs. c.left ++ xs) (sym (reverse-reverse c.right))) ∙ over_last-seam h us c.left n number in
          record {
            term = inner.term;
            given = inner.given;
            value = built-append ns ((h, n) ∷ []) ts ∙ (ap (built ns) opened ∙ inner.value);
            enough = enough-append ns ((h, n) ∷ []) ts (subst (HasEnough ns) (sym opened) inner.enough)
                (omega (arith, number, length-reverse c.right, ap length c.whole, length-append c.left c.right), tt);
          }

      next-ids : Each (IsLeft old k a w) next
      next-ids =
          let later : Each (IsLeft old k a w) rest = each-both (IsLeft old k a u) (IsLeft old k a u) (IsLeft old k a w) (λ d one two. record { full = one.full; part = one.part; known = λ at j z y. more _ (one.known at j z y) }) rest here.0 here.0 in
          let full = children-full (nodes_of k) can (to_applied b) next-full o.node o.fits o.is in
          let of-node : Each (λ (d : Applied). IsFull (nodes_of k) d × (HasLargePart (nodes_of k) d.0 → HasLargePart (nodes_of k) a.id.0)) cs =
          each-from (λ (d : Applied). IsFull (nodes_of k) d × (HasLargePart (nodes_of k) d.0 → HasLargePart (nodes_of k) a.id.0)) cs
          (λ j d lt. (full j d lt, λ large. here.1.0.part (large_child_part (nodes_of k) (to_applied b) o.node o.is j d lt (slice_index_or cs j d) refl large))) in
          let known : Each (λ (d : Applied). KnowsSlotsAnd old k a.m → AllKnown w (values d.1)) cs =
          each-both (λ (d : Applied). (x : ℕ) → In x (values d.1) → KnowsSlotsAnd old k a.m → IsTrue (is_known w x)) (λ (d : Applied). (x : ℕ) → In x (values d.1) → KnowsSlotsAnd old k a.m → IsTrue (is_known w x)) (λ (d : Applied). KnowsSlotsAnd old k a.m → AllKnown w (values d.1))
          (λ d one two at j z y. one _ (In-at (values d.1) j z y) at) cs
          (ids-names (λ x. KnowsSlotsAnd old k a.m → IsTrue (is_known w x)) o.node.tree o.node.names (λ x y at. at_In (λ z. IsTrue (is_known w z)) o.node.names (names-known at) x y))
          (ids-names (λ x. KnowsSlotsAnd old k a.m → IsTrue (is_known w x)) o.node.tree o.node.names (λ x y at. at_In (λ z. IsTrue (is_known w z)) o.node.names (names-known at) x y)) in
          let under : Each (IsLeft old k a w) cs =
          each-both (λ (d : Applied). IsFull (nodes_of k) d × (HasLargePart (nodes_of k) d.0 → HasLargePart (nodes_of k) a.id.0)) (λ (d : Applied). KnowsSlotsAnd old k a.m → AllKnown w (values d.1)) (IsLeft old k a w)
          (λ d one two. record { full = one.0; part = one.1; known = two }) cs of-node known in
          subst (Each (IsLeft old k a w)) (sym o.children) (Each-join (IsLeft old k a w) rest (reverse cs) later (each-back (IsLeft old k a w) cs under))

      counted : ids_binders (nodes_of k) next ≡ ids_binders (nodes_of k) rest + ids_binders (nodes_of k) cs
      counted = ap (ids_binders (nodes_of k)) o.children ∙ (ids_binders-append (nodes_of k) rest (reverse cs) ∙ ap (λ m. ids_binders (nodes_of k) rest + m) (binders-back (nodes_of k) cs))

      pub next-opening : IsOpening old k a w (ns ++ (h, n) ∷ []) next
      next-opening = record {
        leads = next-leads;
        ids = next-ids;
        more = λ s y. more s (p.more s y);
        kept = kept ∙ p.kept;
        spent = p.spent + node_binders (nodes_of k) b.id.0;
        within = omega (arith, p.within, counted, ids_binders-append (nodes_of k) rest (to_applied b ∷ []), parts_counted (nodes_of k) can (to_applied b) next-full o.node o.is);
        makes = λ at. makes-then p.spent (node_binders (nodes_of k) b.id.0) (p.spent + node_binders (nodes_of k) b.id.0) old u w (p.makes at) (makes (next-known at)) (omega arith);
      }

      -- fewer nodes are left
      pub next-fewer : suc (ids_nodes (nodes_of k) next) ≤ ids_nodes (nodes_of k) (rest ++ to_applied b ∷ [])
      next-fewer =
          omega (
            arith,
            ap (ids_nodes (nodes_of k)) o.children,
            ids_nodes-append (nodes_of k) rest (reverse cs),
            nodes-back (nodes_of k) cs,
            ids_nodes-append (nodes_of k) rest (to_applied b ∷ []),
            children_nodes (nodes_of k) can (to_applied b) next-full o.node o.is,
          )
