-- Names of an id that are handed on, nodes whose binders are refreshed, and the slots that both take.
use Rattle.std.proofs.Common.{◌≡◌, ◌<◌, ◌≤◌, ◌+◌, ◌*◌, ◌∙◌, ℕ, List, [], ◌++◌, length, ap, sym, inl, inr, arith}
use Rattle.std.specs.Prelude.{IsTrue}
use Rattle.std.proofs.lemmas.List.Elements.{All-append, All-nil}
use Rattle.slotted_theory.specs.Nameless.{DTerm}
use Rattle.slotted_slots.specs.Table.{KnowsMore, Table, is_known, slot_limit}
use Rattle.slotted_nodes.specs.Form.{Form}
use Rattle.slotted_languages.specs.Children.{binders}
use Rattle.slotted_languages.specs.Fresh.{IsRenamedFresh}
use Rattle.slotted_languages.specs.NewNames.{LacksPerBinder, LacksPerPlace, TakesPerBinder, TakesPerPlace}
use Rattle.slotted_languages.specs.NodeTerm.{nameless_node}
use Rattle.slotted_languages.specs.Shape.{Fits}
use Rattle.slotted_languages.proofs.Counting.{binders_fit}
use Rattle.slotted_model.specs.Applied.{values}
use Rattle.slotted_model.specs.Correspondence.{composite}
use Rattle.slotted_model.proofs.Correspondences.Pairs.{In-values_composite}
use Rattle.slotted_classes.proofs.NameMaps.{In-at, at_In}
use Rattle.slotted_lookup.specs.Enodes.{AllKnownTo}
use Rattle.slotted_reports.proofs.FreshNodes.{lacked-beside, made-beside, runs_out-more}
use Rattle.slotted_operations.specs.Canonical.{args_count}
use Rattle.slotted_operations.proofs.Ids.CanonicalTerms.{places-counted}
use Rattle.slotted_operations.proofs.Ids.NodesOfIds.{args_count-moved}
use Rattle.slotted_graph.specs.Frames.{RunsOutForKey}

-- a map to names of an id has names that are known
pub composite-known : (t : Table) (B A : List (ℕ × ℕ)) → AllKnownTo t (values A) → AllKnownTo t (values (composite B A))
composite-known t B A known j d l = at_In (λ x. IsTrue (is_known t x)) (values A) known _ (In-values_composite B A _ (In-at (values (composite B A)) j d l))

-- other binders
pub renamed-refreshed : (t : Table) (m : List (ℕ × ℕ)) (f b c : Form) → IsRenamedFresh t m f b → nameless_node c ≡ nameless_node b → IsRenamedFresh t m f c
renamed-refreshed t m f b c is same = record { by = is.by; known = is.known; unused = is.unused; apart = is.apart; differ = is.differ; renamed = same ∙ is.renamed }

pub renamed-places : (t : Table) (m : List (ℕ × ℕ)) (f g : Form) → Fits f → Fits g → IsRenamedFresh t m f g → length g.names ≡ length f.names
renamed-places t m f g fits_f fits_g is =
    sym (places-counted g fits_g) ∙ (ap (λ (d : DTerm). args_count d.args) is.renamed ∙ (args_count-moved is.by (nameless_node f).args ∙ places-counted f fits_f))

-- a key that is renamed by m
module _ (t u : Table) (m : List (ℕ × ℕ)) (key b : Form) (own : AllKnownTo t key.names) (handed : AllKnownTo t (values m)) (more : KnowsMore t u) where
  known : AllKnownTo t (values m ++ key.names)
  known = All-append (λ s. IsTrue (is_known t s)) (values m) key.names handed own

  renamed-makes : TakesPerPlace m key t u → u.fresh ≤ t.fresh + length key.names
  renamed-makes takes = made-beside t u (length key.names) (values m) key handed own takes

  pub renamed-takes : TakesPerPlace m key t u → u.fresh ≤ t.fresh + 2 * length key.names
  renamed-takes takes = omega (arith, renamed-makes takes)

  pub renamed-lacks : LacksPerPlace m key t u → RunsOutForKey key t u
  renamed-lacks (inl large) = inr large
  renamed-lacks (inr out) =
      inl (runs_out-more (length key.names) (2 * length key.names) t u (omega arith) (lacked-beside t u (length key.names) (values m ++ key.names) known more out))

  -- and gets new binders then
  module _ (v : Table) (places : length b.names ≡ length key.names) (takes : TakesPerPlace m key t u) (given : AllKnownTo u b.names) where
    pub refreshed-takes : TakesPerBinder [] b u v → v.fresh ≤ t.fresh + 2 * length key.names
    refreshed-takes two = omega (arith, renamed-makes takes, made-beside u v (binders b) [] b (All-nil (λ s. IsTrue (is_known u s))) given two, binders_fit b, places)

    pub refreshed-lacks : KnowsMore u v → LacksPerBinder [] b u v → RunsOutForKey key t v
    refreshed-lacks later (inl large) = inr (omega (arith, large, places))
    refreshed-lacks later (inr out) =
        let all = lacked-beside u v (binders b) b.names given later out in
        inl (record { lacks = further slot_limit all.lacks; used = all.used })
      where
        further : (limit : ℕ) → limit < u.fresh + binders b → limit < t.fresh + 2 * length key.names
        further limit lacks = omega (arith, renamed-makes takes, lacks, binders_fit b, places)
