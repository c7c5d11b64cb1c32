-- What each call knows of a graph that has not failed: how its parts tell what contracts see, and what its invariant says of them.
use Rattle.std.proofs.Common.{◌≡◌, ◌⊎◌, ◌∙◌, false, ap, sym, subst, inl, inr, refl}
use Rattle.std.specs.Prelude.{Bool, IsTrue}
use Rattle.std.proofs.lemmas.Bool.{false≢true}
use base.Stored.{Gv}
use Rattle.slotted_slots.specs.Table.{Table}
use Rattle.slotted_classes.specs.Kept.{Kept}
use Rattle.slotted_hashcons.specs.FiledRows.{Rows, rows_in}
use Rattle.slotted_hashcons.specs.WellFiled.{state_in}
use Rattle.slotted_data.specs.Meaning.{Meaning, by_bare_nodes}
use Rattle.slotted_data.specs.Held.{Held}
use Rattle.slotted_data.specs.Carrying.{DataRests}
use Rattle.slotted_operations.specs.Good.{Good, HasFreshSlots, RestsWith, graph_of, image_of}
use Rattle.slotted_operations.specs.Graph.{Graph}
use Rattle.slotted_graph.specs.States.{IsGraph}

pub record Inside (g : Graph) (t : Table) (k : Kept) (r : Rows) : Type 0 where
  pub good : Good k
  pub fresh : HasFreshSlots t k
  pub rests : RestsWith k r
  pub failed : g.failed ≡ false
  pub table : t ≡ g.table
  pub image : image_of k ≡ g.image
  pub filed : rows_in r.filed ≡ g.filed

-- a condition that a failed graph need not meet
pub given : {P : Type 0} {b : Bool} → b ≡ false → IsTrue b ⊎ P → P
given f (inl h) = absurd (false≢true (sym f ∙ h))
given f (inr h) = h

module _ {Indexed Rested : Type 0} {g : Graph} {b : Bool} {part : Gv} (t : Table) (k : Kept) (r : Rows) (is : graph_of b t k (rows_in r.filed) part ≡ g) (f : b ≡ false)
    (invariant : IsTrue b ⊎ (Good k × HasFreshSlots t k × RestsWith k r × Indexed × Rested)) where
  pub inside-of : Inside g t k r
  inside-of = let well = given f invariant in record {
    good = well.0;
    fresh = well.1;
    rests = well.2;
    failed = sym (ap (λ (x : Graph). x.failed) is) ∙ f;
    table = ap (λ (x : Graph). x.table) is;
    image = ap (λ (x : Graph). x.image) is;
    filed = ap (λ (x : Graph). x.filed) is;
  }

  -- the graph is told by its parts
  pub told-by : graph_of false t k (rows_in r.filed) part ≡ g
  told-by = (λ i. graph_of (sym f i) t k (rows_in r.filed) part) ∙ is

-- the data of a graph that has not failed is at rest
pub data-inside : {N D X : Type 0} (meaning : N → Meaning D) (n : N) {t : Table} {k : Kept} {r : Rows} {d : Held D} {b : Bool} → b ≡ false →
    IsTrue b ⊎ (Good k × HasFreshSlots t k × RestsWith k r × X × DataRests (by_bare_nodes (meaning n)) k r d) → DataRests (by_bare_nodes (meaning n)) k r d
data-inside meaning n f invariant = (given f invariant).4

-- parts that are good and rebuilt are those of a graph
pub rebuilt-unless : (b : Bool) → b ≡ false → (t : Table) (k : Kept) (r : Rows) (part : Gv) → Good k → HasFreshSlots t k → RestsWith k r → IsGraph (graph_of b t k (rows_in r.filed) part)
rebuilt-unless b f t k r part good fresh rests = record {
  well = f;
  state = state_in k r;
  is_state = record {
    kept = k;
    rows = r;
    good = good;
    rests = rests;
    fresh = fresh;
    image = refl;
    filed = refl;
    state = refl;
  };
}

pub rebuilt-by : (t : Table) (k : Kept) (r : Rows) (part : Gv) → Good k → HasFreshSlots t k → RestsWith k r → IsGraph (graph_of false t k (rows_in r.filed) part)
rebuilt-by = rebuilt-unless false refl

pub rebuilt-inside : (g : Graph) (t : Table) (k : Kept) (r : Rows) → Inside g t k r → IsGraph g
rebuilt-inside g t k r inside = record {
  well = inside.failed;
  state = state_in k r;
  is_state = record {
    kept = k;
    rows = r;
    good = inside.good;
    rests = inside.rests;
    fresh = subst (λ (x : Table). HasFreshSlots x k) inside.table inside.fresh;
    image = inside.image;
    filed = inside.filed;
    state = refl;
  };
}
