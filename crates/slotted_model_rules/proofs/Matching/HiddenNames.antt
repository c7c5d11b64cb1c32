-- Hidden names: those of a row's id that do not stand in its node. They can be others, so that a node is one of the matcher's if what stands in it is new.
use Rattle.std.proofs.Common.{◌≡◌, ℕ, ◌+◌, ◌<◌, List, ◌++◌, sym, ◌∙◌, ap, refl, subst, inl, inr, arith}
use Rattle.std.specs.Prelude.{◌⊎◌, Contains, max}
use Rattle.slotted_lists.proofs.Contained.{above, Contains-below}
use Rattle.slotted_lists.proofs.Members.{In, In-left, In-right, In-map, In-of_map, In-Contains, Contains-In}
use Rattle.slotted_lists.proofs.Maps.{values-with_values}
use Rattle.slotted_theory.specs.Nameless.{DTerm, moved}
use Rattle.slotted_theory.specs.FiniteMaps.{filled}
use Rattle.slotted_theory.specs.Renaming.{IsInjective}
use Rattle.slotted_theory.specs.Shape.{free_names}
use Rattle.slotted_theory.proofs.FreeNames.{moved-agrees}
use Rattle.slotted_theory.proofs.Laws.{moved-id}
use Rattle.slotted_model.specs.Applied.{Applied, values, renamed_id}
use Rattle.slotted_model.specs.Ascending.{ascending}
use Rattle.slotted_model.specs.Classes.{IsFull}
use Rattle.slotted_model.specs.Correspondence.{AllDifferent}
use Rattle.slotted_model.specs.Find.{find_map, used_slots, find}
use Rattle.slotted_model.specs.Normal.{normal}
use Rattle.slotted_model.specs.ProofList.{node_of}
use Rattle.slotted_model.specs.State.{Row, State, filed_node, normal_node}
use Rattle.slotted_model.specs.Rest.{IsCurrent, AtRest}
use Rattle.slotted_model.proofs.Correspondences.Pairs.{Contains-value, Contains-of_value}
use Rattle.slotted_model.proofs.Represented.Full.{full-ascending, full-renamed}
use Rattle.slotted_model.proofs.Data.Maps.{filled-pair}
use Rattle.slotted_model.proofs.Finds.NormalIds.{used-by, found-renamed, found-name}
use Rattle.slotted_model.proofs.Represented.RenamedIds.{node_of-renamed, normal-moves}
use Rattle.slotted_model.proofs.Rebuilding.Rows.{rest-current}
use Rattle.slotted_model.proofs.Data.Sets.{In-of_ascending}
use Rattle.slotted_model.proofs.Data.Theory.{free_names-moved}
use Rattle.slotted_model.proofs.Rebuilding.RowNodes.{row_node, row-normal}
use Rattle.slotted_model_rules.specs.Patterns.{IsOfRow}
use Rattle.slotted_model_rules.specs.Matcher.{NodeArgs, unnamed, bound_names, IsNodeOf}
use Rattle.slotted_model_rules.proofs.Matching.AllSlots.{renamed-agrees}
use Rattle.slotted_model_rules.proofs.Substitutions.Renamed.{renamed-id}
use Rattle.slotted_model_rules.proofs.Matching.Running.{kept_or_up, stays-in, goes-up, kept-injective}

module _ (g : State) (rest : AtRest g) (r : Row) (filed : Contains g.rows r) (b : Applied) (full : IsFull g.nodes b) (source : b.0 ≡ r.source) where
  -- each slot of the source that a find uses stands in the filed node
  pub used-stands : (s t : ℕ) → Contains (find_map g.found b.0) (s, t) → In t (free_names (filed_node r).args)
  used-stands s t c =
      let cur : IsCurrent g r = rest-current g rest r filed in
      let used : Contains (used_slots g.found r.source) t = subst (λ i. Contains (used_slots g.found i) t) source (used-by g.found b.0 t (Contains-value (find_map g.found b.0) s t c)) in
      let free : List ℕ = free_names (normal_node g r.source).args in
      subst (λ (d : DTerm). In t (free_names d.args)) (sym cur.in_normal_form) (In-of_ascending t free (In-Contains (ascending free) t (cur.covered t used)))

  -- so each name of what the id finds stands in its node
  pub names-stand : (z : ℕ) → In z (values (find g.found b).1) → In z (free_names (row_node r b).args)
  names-stand z k =
      let p : (s : ℕ) × Contains (find g.found b).1 (s, z) = Contains-of_value (find g.found b).1 z (Contains-In (values (find g.found b).1) z k) in
      let q : (t : ℕ) × Contains (find_map g.found b.0) (p.0, t) × Contains b.1 (t, z) = found-name g.found b p.0 z p.1 in
      let there : In q.0 (free_names (filed_node r).args) = used-stands p.0 q.0 q.1 in
      let name : filled b.1 q.0 ≡ z = filled-pair b.1 q.0 z (full-ascending g.nodes b full) (In-Contains b.1 (q.0, z) q.2) in
      let moved_there : In (filled b.1 q.0) (free_names (row_node r b).args) =
      subst (In (filled b.1 q.0)) (sym (free_names-moved (filled b.1) (filed_node r).args)) (In-map (filled b.1) (free_names (filed_node r).args) q.0 there) in
      subst (λ y. In y (free_names (row_node r b).args)) name moved_there

  -- it moves with the id's names, whether slots were dropped or not
  pub row-renamed : (f : ℕ → ℕ) → row_node r (renamed_id f b) ≡ moved f (row_node r b)
  row-renamed f =
      row-normal g rest r filed (renamed_id f b) source
      ∙ (ap (normal g.found) (node_of-renamed g.nodes b full f) ∙ (normal-moves g.found f (node_of g.nodes b) ∙ ap (moved f) (sym (row-normal g rest r filed b source))))

  -- the names that do not stand there can be new
  pub hidden-new : (avoid : List ℕ) → (c : Applied) × IsFull g.nodes c × (c.0 ≡ b.0) × (find g.found c ≡ find g.found b) × (row_node r c ≡ row_node r b) ×
      ((z : ℕ) → Contains (values c.1) z → Contains (free_names (row_node r b).args) z ⊎ (¬ Contains avoid z))
  hidden-new avoid =
      let V : List ℕ = free_names (row_node r b).args in
      let k : ℕ = max (above avoid) (above V) in
      let f : ℕ → ℕ = kept_or_up V k in
      let low : (z : ℕ) → In z V → z < k = λ z i. let l : z < above V = Contains-below V z (Contains-In V z i) in omega arith in
      let inj : IsInjective f = kept-injective V k low in (
        renamed_id f b,
        full-renamed g.nodes b full f (λ x y i j. inj x y),
        refl,
        found-renamed g.found f b ∙ (renamed-agrees f (λ x. x) (find g.found b) (λ z i. stays-in V k z (names-stand z i)) ∙ renamed-id (find g.found b)),
        row-renamed f ∙ (moved-agrees f (λ x. x) (row_node r b) (λ x c. stays-in V k x (In-Contains V x c)) ∙ moved-id (row_node r b)),
        λ z i.
            let p : (y : ℕ) × In y (values b.1) × (z ≡ f y) = In-of_map f (values b.1) z (subst (In z) (values-with_values f b.1) (In-Contains (values (renamed_id f b).1) z i)) in
            elim (goes-up V k p.0) [
              | inl q ↦ inl (Contains-In V z (subst (λ u. In u V) (sym (p.2 ∙ q.1)) q.0))
              | inr q ↦ inr (λ h. let o : z < above avoid = Contains-below avoid z h in let s : z ≡ p.0 + k = p.2 ∙ q in omega arith)
            ],
      )

-- so the names that stand in a node decide whether it is one of the matcher's
pub standing-names : (g : State) → AtRest g → (seen : List ℕ) (r : Row) (a b : Applied) (n : NodeArgs) → IsOfRow g r b a → unnamed (λ y. y) n ≡ (row_node r b).args → AllDifferent (bound_names n) →
    ((z : ℕ) → Contains (bound_names n) z → (¬ Contains seen z) × (¬ Contains (free_names (row_node r b).args) z)) →
    ((z : ℕ) → Contains (free_names (row_node r b).args) z → Contains (values (find g.found a).1) z ⊎ (¬ Contains seen z)) → IsNodeOf g seen r a n
standing-names g rest seen r a b n of form differ bound others =
    let avoid : List ℕ = seen ++ bound_names n in
    let h = hidden-new g rest r of.filed b of.full of.source avoid in
    record {
      id = h.0;
      of_row = record { filed = of.filed; full = h.1; source = h.2 ∙ of.source; same = h.3 ∙ of.same };
      form = form ∙ ap (λ (t : DTerm). t.args) (sym h.4);
      binders_differ = differ;
      binders_new = λ z i. (
        (bound z i).0,
        λ m. elim (h.5 z m) [
          | inl v ↦ (bound z i).1 v
          | inr new ↦ new (Contains-In avoid z (In-right z seen (bound_names n) (In-Contains (bound_names n) z i)))
        ],
      );
      others_new = λ z m. elim (h.5 z m) [
        | inl v ↦ others z v
        | inr new ↦ inr (λ s. new (Contains-In avoid z (In-left z seen (bound_names n) (In-Contains seen z s))))
      ];
    }
