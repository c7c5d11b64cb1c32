-- What is made of the entries of a table that fits is what the table extracts.
use Rattle.std.proofs.Common.{◌≡◌, ◌∙◌, ap, sym, subst, arith}
use Rattle.std.specs.Prelude.{ℕ, zero, suc, List, [], ◌∷◌, ◌++◌, length, take, drop, Option, Contains, slice_index}
use Rattle.std.specs.List.{zip}
use Rattle.slotted_lists.proofs.Contained.{Contains-nil}
use Rattle.slotted_lists.proofs.Each.{Each}
use Rattle.slotted_lists.proofs.Maps.{keys-with_values}
use Rattle.slotted_theory.specs.FiniteMaps.{filled as put}
use Rattle.slotted_theory.specs.Nameless.{DArgs, DTerm, extend, nameless, nameless_args, nameless_by}
use Rattle.slotted_theory.specs.Renaming.{IsInjective}
use Rattle.slotted_theory.specs.Shape as theory
use Rattle.slotted_theory.specs.Term.{Term}
use Rattle.slotted_theory.proofs.Filled.{filled-injective}
use Rattle.slotted_theory.proofs.Laws.{moved-nameless}
use Rattle.slotted_theory.proofs.Names.{extend-injective}
use Rattle.slotted_theory.proofs.Shapes.{shape-moved}
use Rattle.slotted_theory.proofs.Values.{node}
use Rattle.slotted_nodes.specs.Form.{Form, Tree, leaf, own, child, bind, scopes, children}
use Rattle.slotted_languages.specs.Filled.{filled, term_of}
use Rattle.slotted_languages.specs.Fresh.{IsRenamedFresh}
use Rattle.slotted_languages.specs.NodeTerm.{nameless_node, node_args, own_names}
use Rattle.slotted_languages.specs.Shape.{shape}
use Rattle.slotted_languages.proofs.NodeTerms.{own_fits, child_keys_fit, child_rest_fits, bind_inner_fits, bind_rest_fits}
use Rattle.slotted_languages.proofs.Shapes.{injective-shape, shape-renamed}
use Rattle.slotted_model.specs.Applied.{Applied, EachChild, keys, renamed_id}
use Rattle.slotted_model.specs.Correspondence.{composite}
use Rattle.slotted_model.specs.Cost.{CostFunction}
use Rattle.slotted_model.specs.Extraction.{TableEntry, Extracts, by_entry, ExtractsArgs, no_more, own_name, extracted, under_binder}
use Rattle.slotted_model.specs.Find.{Entry, IsLive, entry_at, find, find_class, used_slots}
use Rattle.slotted_model.specs.ProofList.{node_of}
use Rattle.slotted_model.specs.Rest.{AtRest}
use Rattle.slotted_model.specs.State.{Row, State}
use Rattle.slotted_model.proofs.Rebuilding.Events.{normal-found}
use Rattle.slotted_model.proofs.LeastTerms.ExtractedParts.{extracted-moved}
use Rattle.slotted_model.proofs.Finds.NormalIds.{found-class_live, found-full}
use Rattle.slotted_model.proofs.Rebuilding.RowNodes.{node-valid, row-normal}
use Rattle.slotted_classes.specs.ChildIds.{ids_in, child_ids}
use Rattle.slotted_classes.specs.Finding.{HasFinds, IsFindable}
use Rattle.slotted_classes.specs.Kept.{Kept, entries_of, nodes_of}
use Rattle.slotted_classes.proofs.ChildIds.{length-ids}
use Rattle.slotted_classes.proofs.KeptLists.{length-mapped}
use Rattle.slotted_hashcons.specs.Filed.{HasKey}
use Rattle.slotted_hashcons.specs.FiledRows.{Rows, row_of_entry}
use Rattle.slotted_hashcons.proofs.FiledRows.{row-filed}
use Rattle.slotted_classes.proofs.StoredFinds.{stored-finds}
use Rattle.slotted_hashcons.proofs.FoundChildren.{each-child, valid-back, applied-atom}
use Rattle.slotted_hashcons.specs.WellFiled.{IsWellFiled, state_in}
use Rattle.slotted_lookup.specs.Enodes.{IsLookedUpAs, IsMet, names_beside_of}
use Rattle.slotted_lookup.proofs.EnodeNames.{beside-key, beside-looked_up}
use Rattle.slotted_hashcons.proofs.FoundIds.{found-itself}
use Rattle.slotted_reports.proofs.FiledNodes.{same-key}
use Rattle.slotted_graph.specs.declared.entry.TermEntry.{TermEntry}
use Rattle.slotted_graph.specs.Least.{AreLeast, IsEntryOf}
use Rattle.slotted_graph.specs.Terms.{IsMade, AreMade, IsNamedBy}
use Rattle.slotted_graph.specs.Terms.{by_entry as made_by, no_more as none_made, one_more as one_made}
use Rattle.slotted_graph.proofs.RowsOfNodes.{IsNodeOfRow, node-of_row}

-- a valid id that finds itself
abbrev pub IsFoundIn : Kept → Applied → Type 0
IsFoundIn k a = IsFindable k a × (find (entries_of k) a ≡ a)

-- an id is such a one if it is with other names
found-back : (k : Kept) → HasFinds k → (f : ℕ → ℕ) (a : Applied) → IsFoundIn k (renamed_id f a) → IsFoundIn k a
found-back k good f a h =
    let nodes : List DTerm = nodes_of k in
    let found : List Entry = entries_of k in
    let pairs : List (ℕ × ℕ) = (entry_at found a.0).pairs in
    let valid : IsFindable k a = valid-back (used_slots found) nodes f a h.0 in
    let class : find_class found a.0 ≡ a.0 = ap (λ (b : Applied). b.0) h.1 in
    let lives : IsLive found a.0 = subst (IsLive found) class (found-class_live nodes found good.linked a valid) in
    let same : keys pairs ≡ keys a.1 =
    ap (λ c. keys (entry_at found c).pairs) (sym class)
    ∙ (sym (found-full nodes found good.linked (renamed_id f a) h.0).slots ∙ (ap (λ (b : Applied). keys b.1) h.1 ∙ keys-with_values f a.1)) in
    let as_many : length pairs ≡ length a.1 =
    sym (length-mapped (λ (p : ℕ × ℕ). p.0) pairs) ∙ (ap length same ∙ length-mapped (λ (p : ℕ × ℕ). p.0) a.1) in
    (valid, found-itself k good a valid lives as_many)

module _ {L C : Type 0} (form : L → Form) (k : Kept) (r : Rows) (well : IsWellFiled k r) (quiet : r.waiting ≡ []) (rest : AtRest (state_in k r))
    (costs : CostFunction C) (es : List (Option (TermEntry L C))) (least : AreLeast form k r costs es) where
  abbrev g : State
  g = state_in k r

  abbrev table : List (TableEntry C)
  table = least.table

  -- the terms are extracted for the ids, in turn
  abbrev ExtractsEach : List Applied → List Term → Type 0
  ExtractsEach [] [] = Unit {0}
  ExtractsEach [] (u ∷ us) = ⊥
  ExtractsEach (a ∷ ids) [] = ⊥
  ExtractsEach (a ∷ ids) (u ∷ us) = Extracts g table a (nameless u) × ExtractsEach ids us

  extracts-split : (ids more : List Applied) (us : List Term) (n : ℕ) → length ids ≡ n → ExtractsEach (ids ++ more) us →
      ExtractsEach ids (take n us) × ExtractsEach more (drop n us)
  extracts-split [] more us zero e m = (tt, m)
  extracts-split [] more us (suc n) e m = absurd (omega (arith, e))
  extracts-split (a ∷ ids) more us zero e m = absurd (omega (arith, e))
  extracts-split (a ∷ ids) more [] (suc n) e m = absurd m
  extracts-split (a ∷ ids) more (u ∷ us) (suc n) e m =
      let q = extracts-split ids more us n (omega (arith, e)) m.1 in ((m.0, q.0), q.1)

  -- so the arguments of the node over the terms are extracted for those of the node over the ids
  extracts-args : (ρ : ℕ → ℕ) → IsInjective ρ → (t : Tree) (xs : List ℕ) (us : List Term) →
      length xs ≡ length (scopes t) → ExtractsEach (ids_in t xs) us →
      ExtractsArgs g table (nameless_args ρ (node_args t xs)) (nameless_args ρ (filled t xs us))
  extracts-args ρ inj leaf xs [] n m = no_more
  extracts-args ρ inj leaf xs (u ∷ us) n m = absurd m
  extracts-args ρ inj (own s) xs us n m = own_name (extracts-args ρ inj s (drop 1 xs) us (own_fits s xs n) m)
  extracts-args ρ inj (child i ks s) xs [] n m = absurd m
  extracts-args ρ inj (child i ks s) xs (u ∷ us) n m =
      let vs : List ℕ = take (length ks) xs in
      let a : Applied = (i, zip ks vs) in
      let t : DTerm = nameless_by ρ u in
      let renamed : Extracts g table (renamed_id ρ a) t =
      subst (Extracts g table (renamed_id ρ a)) (moved-nameless ρ u)
      (extracted-moved g costs table rest least.fits.in_order ρ inj m.0) in
      extracted {op = 0} {payloads = (i ∷ ks) ∷ []} {args = nameless_args ρ (own_names vs)} {t = t}
      (subst (λ b. Extracts g table b t) (sym (applied-atom ρ i ks vs (child_keys_fit i ks s xs n))) renamed)
      (extracts-args ρ inj s (drop (length ks) xs) us (child_rest_fits i ks s xs n) m.1)
  extracts-args ρ inj (bind u s) xs us n m =
      let w : ℕ = length (scopes u) in
      let c : ℕ = length (children u) in
      let ys : List ℕ = take w (drop 1 xs) in
      let zs : List ℕ = drop w (drop 1 xs) in
      let x : ℕ = slice_index xs 0 in
      let q = extracts-split (ids_in u ys) (ids_in s zs) us c (length-ids u ys) m in
      under_binder
      (extracts-args (extend x ρ) (extend-injective x ρ inj) u ys (take c us) (bind_inner_fits u s xs n) q.0)
      (extracts-args ρ inj s zs (drop c us) (bind_rest_fits u s xs n) q.1)

  -- the row that is filed by an entry
  abbrev row_by : {c : ℕ} {e : TermEntry L C} → IsEntryOf form k r table c e → Row
  row_by {c} {e} o = row_of_entry (form e.node, (o.source, o.slots))

  row_by-filed : {c : ℕ} {e : TermEntry L C} (o : IsEntryOf form k r table c e) → Contains g.rows (row_by o)
  row_by-filed {c} {e} o = row-filed r.filed o.source (form e.node) o.slots o.filed

  -- the key of an id's entry with the id's names is the node of its row
  named-node : (a : Applied) → IsFoundIn k a → (e : TermEntry L C) (o : IsEntryOf form k r table a.0 e) (f : Form) →
      IsNamedBy e.names (form e.node) a f → IsNodeOfRow g (row_by o) a (nameless_node f)
  named-node a found e o f named =
      let i : ℕ = o.source in
      let m : List (ℕ × ℕ) = o.slots in
      let key : Form = form e.node in
      let still : ¬ Contains r.waiting i = λ w. Contains-nil i (subst (λ ws. Contains ws i) quiet w) in
      let meets : IsMet k i a = ap (λ (b : Applied). b.0) found.1 ∙ sym o.finds in
      let names : composite e.names a.1 ≡ names_beside_of k i m a = λ j. composite (o.names j) (sym found.1 j).1 in
      let renamed : IsRenamedFresh named.table (names_beside_of k i m a) key f =
      subst (λ n. IsRenamedFresh named.table n key f) names named.renamed in
      let looked_up : IsLookedUpAs k r a f =
      beside-looked_up k r well i key m o.filed still a found.0 meets named.table named.known f named.fits renamed in
      let has_key : HasKey r.filed i (shape f).0 =
      beside-key k r well i key m o.filed still a found.0 meets named.table named.known f named.fits renamed in
      let same : key ≡ (shape f).0 = same-key k r well i key m o.filed still f named.fits has_key in
      let shaped : theory.shape (nameless_node f) ≡ theory.shape (nameless_node key) =
      ap theory.shape (sym (shape-renamed f named.fits))
      ∙ (shape-moved (put (shape f).1) (filled-injective (shape f).1 (injective-shape f)) (nameless_node (shape f).0)
      ∙ ap (λ h. theory.shape (nameless_node h)) (sym same)) in
      node-of_row g rest (row_by o) (row_by-filed o) a found.0 meets (nameless_node f) shaped looked_up

  -- the children of such a node find themselves
  pub named-children : (a : Applied) → IsFoundIn k a → (e : TermEntry L C) (o : IsEntryOf form k r table a.0 e) (f : Form) →
      IsNamedBy e.names (form e.node) a f → Each (IsFoundIn k) (child_ids f)
  named-children a found e o f named =
      let b : IsNodeOfRow g (row_by o) a (nameless_node f) = named-node a found e o f named in
      let normal : EachChild (IsFoundIn k) (nameless_node f).args =
      subst (λ (d : DTerm). EachChild (IsFoundIn k) d.args) (sym (row-normal g rest (row_by o) (row_by-filed o) b.0 b.2) ∙ b.4)
      (normal-found g rest.sane.sound.linked (node_of g.nodes b.0).args (node-valid g rest b.0 b.1)) in
      each-child (IsFoundIn k) (found-back k (stored-finds k well.stored)) (λ x. x) f.tree f.names named.fits normal

  mutual
    made-extracted : {a : Applied} {t : Term} → IsMade form es a t → IsFoundIn k a → Extracts g table a (nameless t)
    made-extracted {a} (made_by e f ts at named made is) found =
        let o : IsEntryOf form k r table a.0 e = least.each a.0 e at in
        let s : DTerm = (row_by o).shape in
        let args : DArgs = (nameless (term_of f ts)).args in
        let b : IsNodeOfRow g (row_by o) a (nameless_node f) = named-node a found e o f named in
        let over : ExtractsArgs g table (nameless_node f).args args =
        extracts-args (λ x. x) (λ x y p. p) f.tree f.names ts named.fits (each-extracted made (named-children a found e o f named)) in
        let by_row : Extracts g table a (node s.op s.payloads args) =
        by_entry (record { class = a.0; cost = e.cost; row = row_by o }) b.0 o.entered b.1 b.2 b.3
        (subst (λ (d : DTerm). ExtractsArgs g table d.args args) (sym b.4) over) in
        let whole : Extracts g table a (nameless (term_of f ts)) =
        subst (λ (d : DTerm). Extracts g table a (node d.op d.payloads args)) b.4 by_row in
        subst (λ u. Extracts g table a (nameless u)) (sym is) whole

    each-extracted : {ids : List Applied} {ts : List Term} → AreMade form es ids ts → Each (IsFoundIn k) ids → ExtractsEach ids ts
    each-extracted none_made found = tt
    each-extracted (one_made m ms) found = (made-extracted m found.0, each-extracted ms found.1)

  -- what is made for an id is extracted for it
  pub made-extracts : (a : Applied) → IsFindable k a → find (entries_of k) a ≡ a → (t : Term) → IsMade form es a t →
      Extracts (state_in k r) least.table a (nameless t)
  made-extracts a valid again t made = made-extracted made (valid, again)
