-- Turns and acts: each keeps a graph sane, and lowers its size or what waits; so a run has no more turns than the size allows.
use Rattle.std.proofs.Common.{◌≡◌, ◌≢◌, ℕ, suc, ◌+◌, ◌-◌, ◌*◌, ◌<◌, ◌≤◌, List, length, sym, ◌∙◌, ap, refl, subst, inl, inr, arith}
use Rattle.std.specs.Prelude.{Contains, cond, nat_eq}
use Rattle.std.proofs.lemmas.List.{length-map}
use Rattle.std.proofs.Math.Nat.{mul-le-mul_left, mul-suc, mul-add}
use Rattle.slotted_theory.specs.Shape.{shape}
use Rattle.slotted_model.specs.ProofList.{ProofEntry}
use Rattle.slotted_model.specs.State.{Row, State, sources, normal_node}
use Rattle.slotted_model.specs.Rest.{LinkedTo, Sane, Represents, AtRest, size, size_from}
use Rattle.slotted_model.specs.Changes.{GoesOn, ProofsGrow, with_proofs, HasUnited}
use Rattle.slotted_model.specs.Rebuild.{without, with_row, row_for, removed_state, refiled_state, IsCovered, IsCongruence, Turn, enters, narrows, unites_parents, refiles, Acts, acts, Runs, starts, takes_turn, takes_act, HasNothingLeft, IsRebuilt, HasTurned, HasActed}
use Rattle.slotted_model.proofs.Rebuilding.Rows.{source-in, of_source}
use Rattle.slotted_model.proofs.Rebuilding.GoingOn.{goes_on-same, goes_on-then, still-full, still-same, still-represents}
use Rattle.slotted_model.proofs.Rebuilding.GrowingLists.{proofs-go_on, proofs-sane, grow-explicit}
use Rattle.slotted_model.proofs.Rebuilding.Unions.{unites}
use Rattle.slotted_model.proofs.Rebuilding.AfterUnions.{represents-but, united-represents, lacking-falls}
use Rattle.slotted_model.proofs.Rebuilding.Lacking.{narrow-lacks, unaligned-lacks}
use Rattle.slotted_model.proofs.Rebuilding.Touching.{different-length}
use Rattle.slotted_model.proofs.Rebuilding.Refiling.{without-length, rows-no_more, removed-goes_on, removed-sane, removed-represents, refiled-goes_on, refiled-sane, sources-with_row}

-- one after another
pub rebuilt-then : (f g h : State) → Sane f → IsRebuilt f g → IsRebuilt g h → IsRebuilt f h
rebuilt-then f g h sane a b = record {
  sane = b.sane;
  same_nodes = b.same_nodes ∙ a.same_nodes;
  goes_on = goes_on-then f g h sane.sound.linked a.goes_on b.goes_on;
  represents = λ r. b.represents (a.represents r);
  asserts_nothing = λ q k e. let r = b.asserts_nothing q k e in a.asserts_nothing q r.0 r.1;
  same_asserted = b.same_asserted ∙ a.same_asserted;
  rows = let l : length h.rows ≤ length g.rows = b.rows in let m : length g.rows ≤ length f.rows = a.rows in omega arith;
}

rebuilt-same : (g : State) → Sane g → IsRebuilt g g
rebuilt-same g sane = record { sane = sane; same_nodes = refl; goes_on = goes_on-same g sane.sound.linked; represents = λ r. r; asserts_nothing = λ q k e. (k, e); same_asserted = refl; rows = omega arith }

-- after new entries of the proof list
proofs-rebuilt : (g : State) → Sane g → (proofs : List ProofEntry) → ProofsGrow g.nodes g.proofs proofs → IsRebuilt g (with_proofs g proofs)
proofs-rebuilt g sane proofs grow =
    let on : GoesOn g (with_proofs g proofs) = proofs-go_on g sane proofs grow in
    record {
      sane = proofs-sane g sane proofs grow;
      same_nodes = refl;
      goes_on = on;
      represents = still-represents g (with_proofs g proofs) sane on refl (λ o c. c) (grow-explicit g.nodes g.proofs proofs grow);
      asserts_nothing = grow-explicit g.nodes g.proofs proofs grow;
      same_asserted = grow.asserts_nothing;
      rows = omega arith;
    }

-- after a union
united-rebuilt : (p : ℕ) (g h : State) → Sane g → HasUnited p g h → IsRebuilt g h
united-rebuilt p g h sane u = record {
  sane = u.sane;
  same_nodes = u.same_nodes;
  goes_on = u.goes_on;
  represents = λ r. united-represents p g h sane (represents-but p g r) u;
  asserts_nothing = u.asserts_nothing;
  same_asserted = u.same_asserted;
  rows = let e : length h.rows ≡ length g.rows = ap (λ (rows : List Row). length rows) u.same_rows in omega arith;
}

-- something waits
waits-some : (xs : List ℕ) (o : ℕ) → Contains xs o → 0 < length xs
waits-some xs o c = let l : c.0 < length xs = c.1 in omega arith

-- one class less waits
one-less : (g : State) → Sane g → (o : ℕ) → Contains g.waiting o → (waiting : List ℕ) → waiting ≡ g.waiting → suc (length (without o waiting)) ≡ length g.waiting
one-less g sane o c waiting e = ap (λ w. suc (length (without o w))) e ∙ without-length o g.waiting sane.filed.waits_once c

-- the classes of a congruence are linked after the union by it
pub congruence-links : (g h : State) → Sane g → (p i j : ℕ) → IsCongruence g p i j → HasUnited p g h → LinkedTo h i j
congruence-links g h sane p i j c u = record {
  left = c.left;
  right = c.right;
  left_class = c.left_class;
  right_class = c.right_class;
  left_full = still-full g h sane.sound u.goes_on c.left c.left_full;
  right_full = still-full g h sane.sound u.goes_on c.right c.twins.full;
  same = still-same g h sane.sound u.goes_on c.left c.right c.left_full c.twins.full c.twins.same;
  equal = u.equal c.left c.right c.left_full c.twins.full (sym c.stands.1);
}

-- a turn whose node is congruent to that of another row
parents-turned : (g h : State) → Sane g → (o p : ℕ) (r : Row) → Contains g.waiting o → Contains g.rows r → r.source ≢ o → IsCongruence g p o r.source → HasUnited p g h → HasTurned g (removed_state h o)
parents-turned g h sane o p r waits c differ congruence u =
    let a : IsRebuilt g h = united-rebuilt p g h sane u in
    let there : Contains (sources h.rows) r.source = subst (λ rows. Contains (sources rows) r.source) (sym u.same_rows) (source-in g.rows r c) in
    record {
      rebuilt = rebuilt-then g h (removed_state h o) sane a (record {
        sane = removed-sane h u.sane o;
        same_nodes = refl;
        goes_on = removed-goes_on h u.sane o;
        represents = removed-represents h u.sane o r.source there differ (congruence-links g h sane p o r.source congruence u);
        asserts_nothing = λ q k e. (k, e);
        same_asserted = refl;
        rows = rows-no_more o h.rows;
      });
      waited = waits-some g.waiting o waits;
      falls = elim u.smaller [
        | inl l ↦ inl l
        | inr e ↦ inr (ap (size_from 0) e.0, one-less g sane o waits h.waiting e.1)
      ];
    }

with_row-length : (q : Row) (rows : List Row) → length (with_row q rows) ≡ length rows
with_row-length q rows = length-map rows (λ (r : Row). cond (nat_eq r.source q.source) q r)

-- a turn by which a node is filed anew
refiled-turned : (g : State) → Sane g → (o : ℕ) → Contains g.waiting o → IsCovered g o → ((r : Row) → Contains g.rows r → r.source ≢ o → r.shape ≢ shape (normal_node g o)) → HasTurned g (refiled_state g o)
refiled-turned g sane o waits covered alone =
    let r = of_source g.rows o (sane.filed.waits_for_row o waits) in
    let h : o < length g.nodes = subst (λ i. i < length g.nodes) r.2 (sane.filed.each r.0 r.1).in_range in
    let on : GoesOn g (refiled_state g o) = refiled-goes_on g sane o waits covered alone in
    let same : sources (refiled_state g o).rows ≡ sources g.rows = sources-with_row (row_for g o) g.rows in
    record {
      rebuilt = record {
        sane = refiled-sane g sane o waits covered alone h;
        same_nodes = refl;
        goes_on = on;
        represents = still-represents g (refiled_state g o) sane on refl (λ i c. subst (λ xs. Contains xs i) (sym same) c) (λ q k e. (k, e));
        asserts_nothing = λ q k e. (k, e);
        same_asserted = refl;
        rows = let e : length (refiled_state g o).rows ≡ length g.rows = with_row-length (row_for g o) g.rows in omega arith;
      };
      waited = waits-some g.waiting o waits;
      falls = inr (refl, one-less g sane o waits g.waiting refl);
    }

-- a turn
pub turned : {g h : State} → Turn g h → Sane g → HasTurned g h
turned (enters {g = g} {h = h} proofs grow t) sane =
    let a : IsRebuilt g (with_proofs g proofs) = proofs-rebuilt g sane proofs grow in
    let r : HasTurned (with_proofs g proofs) h = turned t a.sane in
    record { rebuilt = rebuilt-then g (with_proofs g proofs) h sane a r.rebuilt; waited = r.waited; falls = r.falls }
turned (narrows {g = g} {h = h} o p s waits used lacks c u) sane = record {
  rebuilt = united-rebuilt p g h sane (unites p u sane c.stands.0);
  waited = waits-some g.waiting o waits;
  falls = inl (lacking-falls p u sane c.stands.0 (narrow-lacks g sane o p s used lacks c));
}
turned (unites_parents {g = g} {h = h} o p r waits c differ same congruence u) sane = parents-turned g h sane o p r waits c differ congruence (unites p u sane congruence.stands.0)
turned (refiles {g = g} o waits covered alone) sane = refiled-turned g sane o waits covered alone

-- an act
pub acted : {g h : State} → Acts g h → Sane g → HasActed g h
acted (acts {g = g} {h = h} y c n u) sane =
    let l = sane.each_listed y c in
    record {
      rebuilt = united-rebuilt y.proof g h sane (unites y.proof u sane l.proof);
      smaller = lacking-falls y.proof u sane l.proof (unaligned-lacks g sane y l n);
    }

-- no more classes wait than there are rows
pub waits-below : (g : State) → Sane g → length g.waiting ≤ length g.rows
waits-below g sane =
    let l : length g.waiting ≤ length (sources g.rows) = different-length g.waiting (sources g.rows) sane.filed.waits_once sane.filed.waits_for_row in
    let e : length (sources g.rows) ≡ length g.rows = length-map g.rows (λ (r : Row). r.source) in
    omega arith

-- where the size falls, so many turns are won as there are rows
won : (n small large : ℕ) → small < large → n * small + n ≤ n * large
won n small large l =
    let a : n * suc small ≤ n * large = mul-le-mul_left n (omega (arith, l)) in
    let b : n * suc small ≡ n * small + n = mul-suc n small in
    omega arith

-- what a run leads to, and how many turns it takes
pub record HasRun (f : State) (n : ℕ) (h : State) : Type 0 where
  pub rebuilt : IsRebuilt f h
  pub bounded : n + length h.waiting + length f.rows * size h ≤ length f.rows + length f.rows * size f

pub run : (f : State) → Sane f → {n : ℕ} {h : State} → Runs f n h → HasRun f n h
run f sane starts = record { rebuilt = rebuilt-same f sane; bounded = let l : length f.waiting ≤ length f.rows = waits-below f sane in omega arith }
run f sane (takes_turn {n = n} {g = g} {h = h} r t) =
    let k : HasRun f n g = run f sane r in
    let u : HasTurned g h = turned t k.rebuilt.sane in
    let a : IsRebuilt f h = rebuilt-then f g h sane k.rebuilt u.rebuilt in
    let b : n + length g.waiting + length f.rows * size g ≤ length f.rows + length f.rows * size f = k.bounded in
    let w : 0 < length g.waiting = u.waited in
    let v : length h.waiting ≤ length h.rows = waits-below h a.sane in
    let m : length h.rows ≤ length f.rows = a.rows in
    record {
      rebuilt = a;
      bounded = elim u.falls [
        | inl l ↦ let x : length f.rows * size h + length f.rows ≤ length f.rows * size g = won (length f.rows) (size h) (size g) l in omega arith
        | inr e ↦ let x : length f.rows * size h ≡ length f.rows * size g = ap (λ s. length f.rows * s) e.0 in let y : suc (length h.waiting) ≡ length g.waiting = e.1 in omega arith
      ];
    }
run f sane (takes_act {n = n} {g = g} {h = h} r t) =
    let k : HasRun f n g = run f sane r in
    let u : HasActed g h = acted t k.rebuilt.sane in
    let a : IsRebuilt f h = rebuilt-then f g h sane k.rebuilt u.rebuilt in
    let b : n + length g.waiting + length f.rows * size g ≤ length f.rows + length f.rows * size f = k.bounded in
    let v : length h.waiting ≤ length h.rows = waits-below h a.sane in
    let m : length h.rows ≤ length f.rows = a.rows in
    let x : length f.rows * size h + length f.rows ≤ length f.rows * size g = won (length f.rows) (size h) (size g) u.smaller in
    record { rebuilt = a; bounded = omega arith }

-- a run never raises the size
pub run-no_larger : (f : State) → Sane f → {n : ℕ} {h : State} → Runs f n h → size h ≤ size f
run-no_larger f sane starts = omega arith
run-no_larger f sane (takes_turn {n = n} {g = g} {h = h} r t) =
    let k : HasRun f n g = run f sane r in
    let l : size g ≤ size f = run-no_larger f sane r in
    elim (turned t k.rebuilt.sane).falls [
      | inl m ↦ omega arith
      | inr m ↦ let e : size h ≡ size g = m.0 in omega arith
    ]
run-no_larger f sane (takes_act {n = n} {g = g} {h = h} r t) =
    let k : HasRun f n g = run f sane r in
    let l : size g ≤ size f = run-no_larger f sane r in
    let m : size h < size g = (acted t k.rebuilt.sane).smaller in
    omega arith

-- the bound on turns as it is counted
pub counted : (f : State) → Sane f → {n : ℕ} {h : State} → Runs f n h → n + length h.waiting ≤ length f.rows * (suc (size f) - size h)
counted f sane {n} {h} r =
    let k : HasRun f n h = run f sane r in
    let b : n + length h.waiting + length f.rows * size h ≤ length f.rows + length f.rows * size f = k.bounded in
    let s : size h ≤ size f = run-no_larger f sane r in
    let e : suc (size f) - size h + size h ≡ suc (size f) = omega (arith, s) in
    let m : length f.rows * (suc (size f) - size h + size h) ≡ length f.rows * (suc (size f) - size h) + length f.rows * size h = mul-add (length f.rows) (suc (size f) - size h) (size h) in
    let t : length f.rows * suc (size f) ≡ length f.rows * size f + length f.rows = mul-suc (length f.rows) (size f) in
    let u : length f.rows * (suc (size f) - size h + size h) ≡ length f.rows * suc (size f) = ap (λ x. length f.rows * x) e in
    omega arith

-- a run that has nothing left to do is at rest
pub ended : (f : State) → Sane f → {n : ℕ} {h : State} → Represents f → Runs f n h → HasNothingLeft h → AtRest h
ended f sane {n} {h} represents r left =
    let k : HasRun f n h = run f sane r in
    record { sane = k.rebuilt.sane; represents = k.rebuilt.represents represents; nothing_waits = left.0; aligned = left.1 }
